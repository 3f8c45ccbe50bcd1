-- A listener that has a sample after each step finds what one finds that has only those at which a wire turns.
use Rattle.std.proofs.Common.{◌≡◌, ℕ, zero, suc, ◌*◌, Bool, true, false, not, ◌&&◌, List, [], ◌∷◌, ◌++◌}
use Rattle.std.proofs.Common.{None, Some, refl, ap, sym, ◌∙◌, append_assoc}
use Rattle.std.proofs.lemmas.List.{append-nil}
use Rattle.std.specs.Prelude.{if◌then◌else◌}
use Rattle.std.specs.declared.option.Option.{Option}
use Rattle.run_probes.specs.Transfers.{Ear, wires_at}
use Rattle.board_terms.specs.declared.lines.Lines.{Lines}
use Rattle.capture_lines.specs.Captures.{both, found_by}
use Rattle.joint_feed.specs.Stories.{Story, state_at}
use Rattle.joint_run.specs.Joint.{Beside}
use Rattle.joint_run.specs.Run.{World}
use Rattle.capture_vcd.specs.declared.state.Sample.{Sample as Captured}
use Rattle.capture_frames.specs.declared.finding.Timed.{Timed}
use Rattle.capture_frames.specs.Frames.{Heard, nothing}
use Rattle.capture_frames.specs.Listening.{Hearing, at_first, heard_at, heard_by, hearing_after}
use Rattle.capture_frames.specs.Pulses.{pulse_by}
use Rattle.run_wires.specs.Text.{differ}
use Rattle.law_wires_heard.specs.Hearing.{heard_in, heard_to, sample_in}
use Rattle.law_capture_heard.specs.Captured.{captured, captured_in, captured_to, found_at_end, found_in, found_to, hearing_in, hearing_to}
use Rattle.law_capture_heard.proofs.Pulsed.{left_by, pulse_kept}
use Rattle.law_capture_heard.proofs.Samples.{same_by}
use Rattle.law_capture_heard.proofs.WhileHigh.{IsKept, high_kept, says_nothing, silent_kept}

-- the type of a pulse or none, which the listener keeps to itself
abbrev TypeOf : {A : Type 0} → A → Type 0
TypeOf {A = A} a = A

abbrev AnyPulse : Type 0
AnyPulse = TypeOf (pulse_by 0 at_first.clock.lines at_first.clock)

no_rise : (b : Bool) → (not b && b) ≡ false
no_rise true = refl
no_rise false = refl

no_fall : (b : Bool) → (b && not b) ≡ false
no_fall true = refl
no_fall false = refl

-- levels that are as before
module _ (time : ℕ) (h : Hearing) (is_kept : IsKept h.clock.lines h.frame) where
  abbrev level : Lines
  level = h.clock.lines

  abbrev pulse_if : Bool → AnyPulse
  pulse_if b =
      if b then Some (record { fall = h.clock.fall; at_fall = h.clock.at_fall; rise = time; at_rise = level.dat }) else None

  no_pulse : pulse_by time level h.clock ≡ None
  no_pulse = ap pulse_if (no_rise level.clk)

  silence : heard_by (pulse_by time level h.clock) level h.frame ≡ nothing h.frame
  silence = ap (λ (o : AnyPulse). heard_by o level h.frame) no_pulse ∙ says_nothing level h.frame is_kept

  -- nothing is found
  pub none_found : both (heard_at time level h).frame (heard_at time level h).pulse ≡ []
  none_found = ap (λ (x : Heard). both x.frame x.pulse) silence

  -- what the listener keeps, by whether the clock falls, and by what is heard
  abbrev kept : Bool → Heard → Hearing
  kept falls x = record {
    clock = record {
      lines = level;
      fall = if falls then time else h.clock.fall;
      at_fall = if falls then level.dat else h.clock.at_fall;
    };
    frame = x.left;
  }

  -- and nothing changes
  pub nothing_changes : hearing_after time level h ≡ h
  nothing_changes = ap (kept (level.clk && not level.clk)) silence ∙ ap (λ (b : Bool). kept b (nothing h.frame)) (no_fall level.clk)

-- after each sample the frame is one that such levels keep
kept_after : (time : ℕ) (lines : Lines) (h : Hearing) → IsKept h.clock.lines h.frame → IsKept lines (hearing_after time lines h).frame
kept_after time lines h is_kept = by (not h.clock.lines.clk && lines.clk) lines.clk
  where
    risen : IsKept (record { clk = true; dat = lines.dat }) (left_by h.clock.fall h.clock.at_fall time lines.dat h.frame)
    risen = pulse_kept h.clock.fall h.clock.at_fall time lines.dat h.frame is_kept.start

    by : (rises now : Bool)
        → IsKept (record { clk = now; dat = lines.dat })
        (heard_by (if rises
        then Some (record { fall = h.clock.fall; at_fall = h.clock.at_fall; rise = time; at_rise = lines.dat })
        else None) (record { clk = now; dat = lines.dat }) h.frame).left
    by true true = risen
    by true false = record { start = risen.start; taken = refl }
    by false true = high_kept lines.dat h.frame is_kept.start
    by false false = record { start = is_kept.start; taken = refl }

kept_by : (o : Option (World Beside)) (h : Hearing) → IsKept h.clock.lines h.frame → IsKept (hearing_in o h).clock.lines (hearing_in o h).frame
kept_by None h is_kept = is_kept
kept_by (Some w) h is_kept = kept_after (2500 * w.cycle) (sample_in w).lines h is_kept

-- so it is after each step
kept_to : (s : Story) (k : ℕ) → IsKept (hearing_to s k).clock.lines (hearing_to s k).frame
kept_to s zero = silent_kept true
kept_to s (suc k) = kept_by (state_at s (suc k)) (hearing_to s k) (kept_to s k)

-- the listener has the levels of the last sample
levels_by : (o : Option (World Beside)) (h : Hearing) (ear : Ear) → h.clock.lines ≡ wires_at ear.last
    → (hearing_in o h).clock.lines ≡ wires_at (heard_in o ear).last
levels_by None h ear same = same
levels_by (Some w) h ear same = refl

-- so it is after each step
pub levels_to : (s : Story) (k : ℕ) → (hearing_to s k).clock.lines ≡ wires_at (heard_to s k).last
levels_to s zero = refl
levels_to s (suc k) = levels_by (state_at s (suc k)) (hearing_to s k) (heard_to s k) (levels_to s k)

-- one step
step_found : (o : Option (World Beside)) (h : Hearing) (ear : Ear) (more : List Captured) → h.clock.lines ≡ wires_at ear.last
    → IsKept h.clock.lines h.frame
    → found_by h (captured_in o ear ++ more) ≡ found_in o h ++ found_by (hearing_in o h) more
step_found None h ear more same is_kept = refl
step_found (Some w) h ear more same is_kept = by (differ (wires_at ear.last) (sample_in w).lines) refl
  where
    by : (b : Bool) → differ (wires_at ear.last) (sample_in w).lines ≡ b
        → found_by h ((if b then captured (sample_in w) ∷ [] else []) ++ more)
        ≡ found_in (Some w) h ++ found_by (hearing_in (Some w) h) more
    by true e = refl
    by false e =
        let level : (sample_in w).lines ≡ h.clock.lines = same_by (wires_at ear.last) (sample_in w).lines e ∙ sym same in
        sym (ap (λ (l : Lines). both (heard_at (2500 * w.cycle) l h).frame (heard_at (2500 * w.cycle) l h).pulse
        ++ found_by (hearing_after (2500 * w.cycle) l h) more) level
        ∙ ap (λ (xs : List Timed). xs ++ found_by (hearing_after (2500 * w.cycle) h.clock.lines h) more) (none_found (2500 * w.cycle) h is_kept)
        ∙ ap (λ (g : Hearing). found_by g more) (nothing_changes (2500 * w.cycle) h is_kept))

-- all steps
found_with : (s : Story) (k : ℕ) (more : List Captured)
    → found_by at_first (captured_to s k ++ more) ≡ found_to s k ++ found_by (hearing_to s k) more
found_with s zero more = refl
found_with s (suc k) more =
    let o = state_at s (suc k) in
    let one = captured_in o (heard_to s k) in
    ap (found_by at_first) (append_assoc (captured_to s k) one more)
    ∙ found_with s k (one ++ more)
    ∙ ap (λ xs. found_to s k ++ xs) (step_found o (hearing_to s k) (heard_to s k) more (levels_to s k) (kept_to s k))
    ∙ sym (append_assoc (found_to s k) (found_in o (hearing_to s k)) (found_by (hearing_in o (hearing_to s k)) more))

-- what is found in the samples of a trace, with its end, is what is found in each step
pub found_all : (s : Story) (k : ℕ) → found_by at_first (captured_to s k) ≡ found_to s k ++ found_at_end (hearing_to s k)
found_all s k = ap (found_by at_first) (sym (append-nil (captured_to s k))) ∙ found_with s k []
