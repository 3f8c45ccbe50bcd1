-- A sample of the machine is one of the state that its last step led to, and is heard as after the step before.
use Rattle.std.proofs.Common.{◌≡◌, ◌≤◌, ◌<◌, ℕ, zero, suc, Bool, true, Some, None, refl, ap, sym, subst, ◌∙◌, arith}
use Rattle.std.specs.Prelude.{if◌then◌else◌}
use Rattle.std.specs.declared.option.Option.{Option}
use Rattle.std.proofs.lemmas.Bool.Decides.{nat_tests}
use Rattle.board_terms.specs.declared.lines.Lines.{Lines}
use Rattle.run_probes.proofs.Sights.{same_sight}
use Rattle.run_probes.specs.Probes.{Sight}
use Rattle.run_probes.specs.Transfers.{Ear, heard, is_later_than, sample, wires_at}
use Rattle.run_probes.specs.declared.heard.Sample.{Sample}
use Rattle.joint_feed.proofs.Going.{here}
use Rattle.joint_feed.specs.Stories.{Story, state_at}
use Rattle.joint_feed.specs.declared.course.Course.{Course}
use Rattle.joint_run.specs.Cycle.{outside_wires}
use Rattle.joint_run.specs.Joint.{Beside}
use Rattle.joint_run.specs.Run.{World}
use Rattle.joint_run.specs.declared.outside.Outside.{Outside}
use Rattle.run_loop.specs.declared.ending.Ending.{Ending}
use Rattle.run_loop.specs.Advance.{IsAtReport}
use Rattle.run_loop.specs.Gliding.{lines_in}
use Rattle.run_loop.proofs.Reported.{led_to}
use Rattle.run_loop.proofs.Texts.{IsOneFurther}
use Rattle.run_wires.proofs.OfLines.{changes_are_lines}
use Rattle.run_wires.proofs.StillAddsNothing.{HearAlike, alike_heard, alike_text, still_to}
use Rattle.run_wires.specs.HeardSoFar.{HasHeard}
use Rattle.run_wires.specs.Text.{sample_text}
use Rattle.run_wires.specs.Seen.{level_seen}
use Rattle.run_wires.specs.Trace.{changes_to, seen_if, seen_in, text_in}
use Rattle.law_wires_heard.specs.Hearing.{heard_in, heard_to, sample_in}

-- the last sample is none of a later cycle
abbrev IsHeardBy : Option Sample → ℕ → Type 0
IsHeardBy None cycle = Unit {0}
IsHeardBy (Some s) cycle = s.cycle ≤ cycle

heard_by : (s : Story) (k : ℕ) (w : World Beside) → state_at s k ≡ Some w → IsHeardBy (heard_to s k).last w.cycle
heard_by s zero w there = tt
heard_by s (suc k) w there =
    let l : w.cycle ≤ w.cycle = omega arith in
    subst (λ (o : Option (World Beside)). IsHeardBy (heard_in o (heard_to s k)).last w.cycle) (sym there) l

-- so the next one is after it
rises : (o : Option Sample) (before cycle : ℕ) → IsHeardBy o before → before < cycle → is_later_than cycle o ≡ true
rises None before cycle h l = refl
rises (Some s) before cycle h l = let m : s.cycle < cycle = omega (arith, h, l) in grind (arith, nat_tests, m)

module _ (seen : Bool) (e : Ending) (s : Story) (k : ℕ) (c : Course) (b : IsAtReport e true s k c) (old : Ear) (h : HasHeard s k old) where
  abbrev w : World Beside
  w = b.run_so_far.on.world

  there : state_at s (suc b.last) ≡ Some w
  there = led_to e true s k c b

  -- the wires kept their levels up to the step before
  still : HearAlike (heard_to s b.last) (heard_to s k) × (changes_to seen s b.last ≡ changes_to seen s k)
  still = still_to seen s k (h.levels ∙ ap (λ (a : Ear). Some (wires_at a.last)) h.all) b.last b.quiet.later (b.quiet.levels refl)

  -- the machine's cycle is later than that of the last sample
  pub rises_now : (cycle : ℕ) → cycle ≡ c.joint.cycle → is_later_than cycle old.last ≡ true
  rises_now cycle now =
      let later = b.later in
      subst (λ (a : Ear). is_later_than cycle a.last ≡ true) (sym h.all)
      (rises (heard_to s k).last b.from.cycle cycle (heard_by s k b.from b.there) (omega (arith, later, now)))

  module _ (cycle : ℕ) (lines : Lines) (now : cycle ≡ c.joint.cycle) (level : lines ≡ outside_wires c.joint.mcu.p2 c.joint.outside) where
    same : sample cycle lines ≡ sample_in w
    same =
        ap (λ (n : ℕ). sample n lines) now ∙ ap (λ (l : Lines). sample c.joint.cycle l) level
        ∙ ap (λ (v : Sight). sample v.cycle v.lines)
        (same_sight c.joint w b.run_so_far.on.in_run.mcu b.run_so_far.on.in_run.outside b.run_so_far.on.in_run.cycle)

    -- what is kept
    pub heard_now : (new : Ear) → new ≡ heard (sample cycle lines) old → HasHeard s c.joint.steps new
    heard_now new is = record {
      all = is ∙ ap (λ (x : Sample). heard x old) same ∙ ap (heard (sample_in w)) h.all
          ∙ sym (alike_heard (sample_in w) (heard_to s b.last) (heard_to s k) still.0)
          ∙ sym (ap (λ (o : Option (World Beside)). heard_in o (heard_to s b.last)) there) ∙ sym (ap (heard_to s) b.steps);
      levels = ap lines_in (here s c b.run_so_far.on) ∙ ap (λ (x : Sample). Some x.lines) (sym same)
          ∙ sym (ap (λ (a : Ear). Some (wires_at a.last)) is);
    }

    -- what the controller sees
    seen_now : level_seen c.joint.outside.desk.port.link lines ≡ seen_in w
    seen_now =
        ap (λ (l : Lines). level_seen c.joint.outside.desk.port.link l) (ap (λ (x : Sample). x.lines) same)
        ∙ ap (λ (o : Outside). level_seen o.desk.port.link (sample_in w).lines) b.run_so_far.on.in_run.outside

    -- what it adds
    module _ (given : Option Bool) (is : given ≡ (if seen then Some (level_seen c.joint.outside.desk.port.link lines) else None)) where
      text_now : sample_text (sample cycle lines) given old ≡ text_in seen (state_at s (suc b.last)) (heard_to s b.last)
      text_now =
          ap (λ (x : Sample). sample_text x given old) same ∙ ap (λ (a : Ear). sample_text (sample_in w) given a) h.all
          ∙ ap (λ (o : Option Bool). sample_text (sample_in w) o (heard_to s k))
          (is ∙ ap (λ (level : Bool). if seen then Some level else None) seen_now)
          ∙ sym (alike_text (sample_in w) (seen_if seen w) (heard_to s b.last) (heard_to s k) still.0)
          ∙ sym (ap (λ (o : Option (World Beside)). text_in seen o (heard_to s b.last)) there)

      -- which is after what the first k steps add
      pub text_further : IsOneFurther (changes_to seen s) (λ j. text_in seen (state_at s (suc j)) (heard_to s j)) k b.last
          c.joint.steps (sample_text (sample cycle lines) given old)
      text_further =
          record { still = still.1; more = refl; steps = b.steps; lines = changes_are_lines seen s b.last; is = text_now }
