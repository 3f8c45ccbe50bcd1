-- What is found in a run is what passes in it, if it is so at each fall of the clock.
use Rattle.std.proofs.Common.{◌≡◌, ◌<◌, ℕ, zero, suc, ◌-◌, ◌*◌, Bool, true, false, not, ◌&&◌, List, [], ◌∷◌, ◌++◌, map}
use Rattle.std.proofs.Common.{None, Some, refl, ap, sym, ◌∙◌, append_assoc}
use Rattle.std.proofs.lemmas.List.{append-nil}
use Rattle.std.specs.Prelude.{if◌then◌else◌}
use Rattle.run_probes.specs.Transfers.{fall_at, transfer_by, wires_at, with_fall}
use Rattle.board_terms.specs.declared.lines.Lines.{Lines}
use Rattle.capture_lines.specs.Captures.{both, listed}
use Rattle.joint_feed.specs.Stories.{Story, state_at}
use Rattle.joint_run.specs.Joint.{Beside}
use Rattle.joint_run.specs.Run.{World}
use Rattle.capture_frames.specs.declared.finding.Finding.TheVariants.{StaysLow}
use Rattle.capture_frames.specs.declared.finding.Timed.{Timed}
use Rattle.capture_frames.specs.Frames.{Frame, Heard, ended_high, ended_low, is_begun, unfinished, of_frame}
use Rattle.capture_frames.specs.Listening.{Hearing, frame_at_end, heard_by, pulse_at_end}
use Rattle.law_wires_heard.proofs.Pulls.{shown_at}
use Rattle.law_wires_heard.specs.Hearing.{HearsAll, heard_to, listed as transfers_of, sample_in, transfer_at, transfer_in}
use Rattle.law_wires_heard.specs.Passing.{passed_at}
use Rattle.law_capture_heard.specs.Captured.{found_at_end, found_in, found_to, hearing_in, hearing_to}
use Rattle.law_capture_heard.specs.Found.{bytes_at, bytes_by, bytes_in, bytes_to, found_as, is_byte, let_go_to}
use Rattle.law_capture_heard.proofs.EachStep.{levels_to}
use Rattle.law_capture_heard.proofs.Endings.{pulse_ends}
use Rattle.law_capture_heard.proofs.WhileHigh.{high_byte}

-- the bytes in two lists of findings
pub bytes-append : (xs ys : List Timed) → bytes_in (xs ++ ys) ≡ bytes_in xs ++ bytes_in ys
bytes-append [] ys = refl
bytes-append (x ∷ xs) ys =
    ap (λ zs. (if is_byte x.finding then x ∷ [] else []) ++ zs) (bytes-append xs ys)
    ∙ sym (append_assoc (if is_byte x.finding then x ∷ [] else []) (bytes_in xs) (bytes_in ys))

-- a capture that ends while the clock is high ends with no byte
no_end : (f : Frame) → bytes_in (listed (ended_high f)) ≡ []
no_end f = by (is_begun f)
  where
    by : (b : Bool) → bytes_in (listed (if b then of_frame f (unfinished f) else None)) ≡ []
    by true = refl
    by false = refl

module _ (s : Story) (hears : HearsAll s) where
  -- the byte with which a capture ends that ends after so many steps
  abbrev pub end_to : ℕ → List Timed
  end_to k = bytes_in (listed (frame_at_end (hearing_to s k)))

  -- at a fall of the clock it is the byte that passes
  abbrev pub IsRightFall : ℕ → Type 0
  IsRightFall k =
      (w : World Beside) → state_at s (suc k) ≡ Some w → (hearing_to s k).clock.lines.clk ≡ true → (shown_at s w).clk ≡ false
      → bytes_in (listed (ended_low (2500 * w.cycle) (shown_at s w).dat (hearing_to s k).frame)) ≡ bytes_at s k

  -- and a pulse is no glitch
  abbrev pub IsLong : ℕ → Type 0
  IsLong k =
      (w : World Beside) → state_at s (suc k) ≡ Some w → (hearing_to s k).clock.lines.clk ≡ false → (shown_at s w).clk ≡ true
      → 5000 < 2500 * w.cycle - (hearing_to s k).clock.fall

  -- nothing passes in a step in which the clock doesn't fall
  none_passes : (k : ℕ) (w : World Beside) → state_at s (suc k) ≡ Some w
      → ((hearing_to s k).clock.lines.clk && not (shown_at s w).clk) ≡ false → bytes_at s k ≡ []
  none_passes k w at still =
      let same : (hearing_to s k).clock.lines ≡ wires_at (heard_to s k).last = levels_to s k in
      let none : transfer_at s k ≡ [] =
      ap (λ o. transfer_in o (heard_to s k)) at
      ∙ ap (λ b. transfers_of (if b then transfer_by
      (with_fall (fall_at (sample_in w)) (heard_to s k).falls) else None))
      (ap (λ (l : Lines). l.clk && not (shown_at s w).clk) (sym same) ∙ still) in
      ap (λ o. bytes_by o (let_go_to s k) (passed_at s k)) at
      ∙ ap (map (found_as w.cycle (let_go_to s k))) (sym (hears.each k) ∙ none)

  module _ (k : ℕ) (fall : IsRightFall k) (long : IsLong k) (w : World Beside) (at : state_at s (suc k) ≡ Some w) where
    abbrev h : Hearing
    h = hearing_to s k

    abbrev time : ℕ
    time = 2500 * w.cycle

    -- what is heard, and what is at the end, by the levels of the clock before and now
    abbrev heard_if : Bool → Bool → Heard
    heard_if rises now =
        heard_by (if rises
        then Some (record { fall = h.clock.fall; at_fall = h.clock.at_fall; rise = time; at_rise = (shown_at s w).dat })
        else None) (record { clk = now; dat = (shown_at s w).dat }) h.frame

    abbrev found_if : Bool → Bool → List Timed
    found_if before now = bytes_in (both (heard_if (not before && now) now).frame (heard_if (not before && now) now).pulse)

    abbrev end_if : Bool → Bool → List Timed
    end_if before now =
        bytes_in (listed (if now then ended_high (heard_if (not before && now) now).left
        else ended_low (if before && not now then time else h.clock.fall)
        (if before && not now then (shown_at s w).dat else h.clock.at_fall) (heard_if (not before && now) now).left))

    abbrev IsStep : Bool → Bool → Type 0
    IsStep before now =
        found_if before now ++ end_if before now
        ≡ bytes_in (listed (if before then ended_high h.frame else ended_low h.clock.fall h.clock.at_fall h.frame)) ++ bytes_at s k

    by_levels : (before now : Bool) → h.clock.lines.clk ≡ before → (shown_at s w).clk ≡ now → IsStep before now
    by_levels true true b n =
        let none : bytes_at s k ≡ [] = none_passes k w at (ap (λ c. c && not (shown_at s w).clk) b ∙ ap (λ c. not c) n) in
        let left : Frame = (heard_if false true).left in
        ap (λ xs. xs ++ bytes_in (listed (ended_high left))) (high_byte (shown_at s w).dat h.frame) ∙ no_end left
        ∙ sym (ap (λ xs. xs ++ bytes_at s k) (no_end h.frame) ∙ none)
    by_levels false false b n =
        let none : bytes_at s k ≡ [] = none_passes k w at (ap (λ c. c && not (shown_at s w).clk) b) in
        let ends : List Timed = bytes_in (listed (ended_low h.clock.fall h.clock.at_fall h.frame)) in
        sym (append-nil ends) ∙ ap (λ xs. ends ++ xs) (sym none)
    by_levels false true b n =
        let none : bytes_at s k ≡ [] = none_passes k w at (ap (λ c. c && not (shown_at s w).clk) b) in
        let left : Frame = (heard_if true true).left in
        ap (λ xs. found_if false true ++ xs) (no_end left) ∙ append-nil (found_if false true)
        ∙ pulse_ends h.clock.fall time (shown_at s w).dat h.frame h.clock.at_fall (long w at b n)
        ∙ sym (append-nil (bytes_in (listed (ended_low h.clock.fall h.clock.at_fall h.frame))))
        ∙ ap (λ xs. bytes_in (listed (ended_low h.clock.fall h.clock.at_fall h.frame)) ++ xs) (sym none)
    by_levels true false b n =
        fall w at b n ∙ ap (λ xs. xs ++ bytes_at s k) (sym (no_end h.frame))

    step_found : bytes_in (found_in (state_at s (suc k)) h) ++ end_to (suc k) ≡ end_to k ++ bytes_at s k
    step_found =
        ap (λ o. bytes_in (found_in o h) ++ bytes_in (listed (frame_at_end (hearing_in o h)))) at
        ∙ by_levels h.clock.lines.clk (shown_at s w).clk refl refl

  -- step by step
  pub found_so : (k : ℕ) → ((j : ℕ) → (w : World Beside) × (state_at s j ≡ Some w)) → ((j : ℕ) → IsRightFall j)
      → ((j : ℕ) → IsLong j)
      → bytes_in (found_to s k) ++ end_to k ≡ bytes_to s k
  found_so zero there falls long = refl
  found_so (suc k) there falls long =
      let w = there (suc k) in
      let o = found_in (state_at s (suc k)) (hearing_to s k) in
      ap (λ xs. xs ++ end_to (suc k)) (bytes-append (found_to s k) o)
      ∙ append_assoc (bytes_in (found_to s k)) (bytes_in o) (end_to (suc k))
      ∙ ap (λ xs. bytes_in (found_to s k) ++ xs) (step_found k (falls k) (long k) w.0 w.1)
      ∙ sym (append_assoc (bytes_in (found_to s k)) (end_to k) (bytes_at s k))
      ∙ ap (λ xs. xs ++ bytes_at s k) (found_so k there falls long)

  -- with the end of the capture
  pub found_with_end : (k : ℕ) → bytes_in (found_to s k ++ found_at_end (hearing_to s k)) ≡ bytes_in (found_to s k) ++ end_to k
  found_with_end k =
      let h : Hearing = hearing_to s k in
      bytes-append (found_to s k) (found_at_end h)
      ∙ ap (λ xs. bytes_in (found_to s k) ++ xs)
      (bytes-append (listed (frame_at_end h)) (listed (pulse_at_end h))
      ∙ ap (λ xs. end_to k ++ xs) (none h.clock.lines.clk) ∙ append-nil (end_to k))
    where
      none : (b : Bool)
          → bytes_in (listed (if b then None else Some (record {
            time = (hearing_to s k).clock.fall;
            finding = StaysLow;
          })))
          ≡ []
      none true = refl
      none false = refl
