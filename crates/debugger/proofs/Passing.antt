-- Quiet steps, made at once, lead a session on, and probes that rest needn't look at them.
use Rattle.std.proofs.Common.{◌≡◌, ◌≤◌, ◌<◌, ◌&&◌, ◌||◌, ℕ, zero, suc, ◌+◌, Bool, true, false, List, []}
use Rattle.std.proofs.Common.{◌∷◌, map, Some, None, is_none, refl, ap, sym, subst, ◌∙◌, arith}
use Rattle.std.specs.Prelude.{nat_le, if◌then◌else◌}
use Rattle.std.specs.declared.option.Option.{Option}
use Rattle.std.proofs.lemmas.Bool.{and_parts}
use Rattle.std.proofs.lemmas.Bool.Decides.{nat_tests}
use Rattle.board_terms.specs.Edges.{AreInOrder}
use Rattle.board_terms.specs.declared.lines.Lines.{Lines}
use Rattle.run_probes.proofs.AtRest.{all_rested, unmet}
use Rattle.run_probes.proofs.Sights.{same_sight}
use Rattle.run_probes.specs.Probes.{Sight, Watch, first_met, looked, sight_in, sight_of}
use Rattle.run_probes.specs.Resting.{all_rest, rests}
use Rattle.fw_kernel.specs.declared.labels.TheConstants.{TICK}
use Rattle.joint_feed.specs.Course.{IsOnCourse}
use Rattle.joint_feed.specs.Stories.{state_at, starts_tick}
use Rattle.joint_feed.specs.declared.course.Course.{Course}
use Rattle.joint_glide.specs.Uneventful.{AreUneventful}
use Rattle.joint_run.specs.Joint.{Beside}
use Rattle.joint_run.specs.Run.{World}
use Rattle.joint_run.specs.declared.machine.Machine.{Machine}
use Rattle.key_file.specs.Accepted.{IsThin}
use Rattle.debugger.specs.Making.{LeadsTo}
use Rattle.debugger.specs.Sessions.{Debug, Debuggee, session_is_over, next_state, stepped_to}
use Rattle.debugger.proofs.Leading.{none_led, one_led, then_led}
use Rattle.debugger.proofs.Uneventful.{moved, off_tick, on_one, same_wires}
use Rattle.debugger.proofs.SessionStates.{here, next_there, same}

abbrev pub at_time : ℕ → List Watch → Debug
at_time steps probes = record { steps = steps; probes = probes }

-- probes that aren't armed are met by nothing
not_met : (w : Watch) (number : ℕ) (v : Sight) (b : Bool) (o : Option ℕ) → b ≡ false → (if b then Some number else o) ≡ o
not_met w number v true o h = absurd (cc h)
not_met w number v false o h = refl

-- probes that rest meet nothing
pub none_met : (clk : Bool) (number : ℕ) (v : Sight) (ws : List Watch) → all_rest clk ws ≡ true → first_met number v ws ≡ None
none_met clk number v [] h = refl
none_met clk number v (w ∷ ws) h =
    let parts = and_parts (rests clk w) (all_rest clk ws) h in
    let arms = (and_parts _ (is_none w.counted.arms) parts.0).1 in
    not_met w number v _ (first_met (suc number) v ws) (unmet w.kind w.counted.arms w.ear v arms) ∙ none_met clk (suc number) v ws parts.1

-- nor are they after a look
pub none_met_after : (clk : Bool) (number n : ℕ) (u v : Sight) (ws : List Watch)
    → all_rest clk ws ≡ true → first_met number v (map (looked n u) ws) ≡ None
none_met_after clk number n u v [] h = refl
none_met_after clk number n u v (w ∷ ws) h =
    let parts = and_parts (rests clk w) (all_rest clk ws) h in
    let arms = (and_parts _ (is_none w.counted.arms) parts.0).1 in
    not_met w number v _ (first_met (suc number) v (map (looked n u) ws)) (unmet w.kind w.counted.arms (looked n u w).ear v arms)
    ∙ none_met_after clk (suc number) n u v ws parts.1

-- after so many steps a session would be there with these probes, if each step were looked at; a later look comes to
-- the same without those looks
pub record HasPassed (s : Debuggee) (old : Course) (before : List Watch) (k : ℕ) (m : Machine) : Type 0 where
  pub on : IsOnCourse s.story (moved old m)
  pub probes : List Watch
  pub led : LeadsTo s k (at_time old.joint.steps before) (at_time m.steps probes) None
  pub same_later : (n : ℕ) (v : Sight) → m.cycle < v.cycle → map (looked n v) probes ≡ map (looked n v) before
  pub same_hit : (v : Sight) → first_met 0 v probes ≡ first_met 0 v before
  pub goes_on : (w : World Beside) → state_at s.story m.steps ≡ Some w → session_is_over s w ≡ false
  pub wires : (sight_of m).lines ≡ (sight_of old.joint).lines
  pub looked_here : 0 < k → probes ≡ map (looked m.steps (sight_of m)) before
  pub unmet_here : 0 < k → first_met 0 (sight_of m) before ≡ None

-- with one step more it would have led to this state, seen so
pub one_further : (s : Debuggee) (old : Course) (before : List Watch) (k : ℕ) (m : Machine) → HasPassed s old before k m
    → (w : World Beside) → state_at s.story (suc m.steps) ≡ Some w → (v : Sight) → sight_in w ≡ v → m.cycle < v.cycle
    → (n : ℕ) → n ≡ suc m.steps
    → LeadsTo s (k + 1) (at_time old.joint.steps before) (at_time n (map (looked n v) before)) (first_met 0 v before)
one_further s old before k m p w is v sight later n number =
    let there = here s (moved old m) p.on in
    let next : next_state s m.steps ≡ Some w =
    next_there s m.steps p.on.world false there (sym (p.goes_on p.on.world there)) ∙ is in
    let to : stepped_to w (at_time m.steps p.probes) ≡ at_time n (map (looked n v) before) =
    ap (λ (u : Sight). at_time (suc m.steps) (map (looked (suc m.steps) u) p.probes)) sight
    ∙ ap (at_time (suc m.steps)) (p.same_later (suc m.steps) v later)
    ∙ ap (λ (i : ℕ). at_time i (map (looked i v) before)) (sym number) in
    then_led s k 1 (at_time old.joint.steps before) (at_time m.steps p.probes) (at_time n (map (looked n v) before)) (first_met 0 v before) p.led
    (subst (λ (o : Option ℕ). LeadsTo s 1 (at_time m.steps p.probes) (at_time n (map (looked n v) before)) o)
    (ap (λ (u : Sight). first_met 0 u p.probes) sight ∙ p.same_hit v)
    (subst (λ (d : Debug). LeadsTo s 1 (at_time m.steps p.probes) d (first_met 0 (sight_in w) p.probes)) to
    (one_led s (at_time m.steps p.probes) w next)))

module _ (s : Debuggee) (old : Course) (before : List Watch) (h : IsOnCourse s.story old)
    (open_now : (w : World Beside) → state_at s.story old.joint.steps ≡ Some w → session_is_over s w ≡ false) where
  -- no step was made yet
  none_passed : HasPassed s old before 0 old.joint
  none_passed = record {
    on = h;
    probes = before;
    led = none_led s (at_time old.joint.steps before);
    same_later = λ n v later. refl;
    same_hit = λ v. refl;
    goes_on = open_now;
    wires = refl;
    looked_here = λ some. absurd (omega (arith, some));
    unmet_here = λ some. absurd (omega (arith, some));
  }

  -- before the first quiet step nothing has passed
  pub not_yet : (m : Machine) → m ≡ old.joint → HasPassed s old before 0 m
  not_yet m e = subst (λ (n : Machine). HasPassed s old before 0 n) (sym e) none_passed

  module _ (thin : IsThin s.story.edges) (order : AreInOrder s.story.edges) (most : ℕ)
      (room : old.joint.cycle + most < s.story.stop + s.latest)
      (clk : Bool) (level : (sight_of old.joint).lines.clk ≡ clk) (at_rest : all_rest clk before ≡ true) where
    -- before its end, and where no tick starts, the run goes on
    still_open : (m : Machine) (on : IsOnCourse s.story (moved old m))
        → (starts_tick s.story on.world ≡ false) → m.cycle ≤ old.joint.cycle + most
        → session_is_over s on.world ≡ false
    still_open m on off below =
        let at = on.in_run.cycle in
        let before_end : nat_le (s.story.stop + s.latest) on.world.cycle ≡ false = grind (arith, nat_tests, at, below, room) in
        ap (λ b. (b && nat_le (4096 + s.story.stop) on.world.cycle) || nat_le (s.story.stop + s.latest) on.world.cycle) off ∙ before_end

    -- quiet steps lead the session on, and probes that rest needn't look at them
    pub passed : (k : ℕ) (m : Machine)
        → AreUneventful old.ahead.due TICK k old.joint m → m.cycle ≤ old.joint.cycle + most → HasPassed s old before k m
    passed zero m e below = not_yet m e
    passed (suc k) m q below =
        let between = q.0 in
        let quiet = q.2 in
        let steps : m.steps ≡ between.steps + 1 = ap (λ (n : Machine). n.steps) quiet.parts in
        let cycle : m.cycle ≡ between.cycle + quiet.seen.cycles = ap (λ (n : Machine). n.cycle) quiet.parts in
        let some = quiet.some in
        let it = passed k between q.1 (omega (arith, cycle, below)) in
        let there = moved old between in
        let on = on_one s.story thin order there m quiet it.on in
        let w = on.world in
        let sight : sight_of m ≡ sight_in w = same_sight m w on.in_run.mcu on.in_run.outside on.in_run.cycle in
        let up : m.steps ≡ suc between.steps = omega (arith, steps) in
        let later : between.cycle < (sight_of m).cycle = omega (arith, cycle, some) in
        let same_wire : (sight_of m).lines ≡ (sight_of old.joint).lines = same_wires old.ahead.due between m quiet ∙ it.wires in
        let led = one_further s old before k between it w (ap (state_at s.story) (sym up) ∙ here s (moved old m) on) (sight_of m)
        (sym sight) later m.steps up in
        let count : k + 1 ≡ suc k = omega arith in
        let off : false ≡ starts_tick s.story w = off_tick m q.3 s.story.edges s.story.events w (sym on.in_run.mcu) in
        record {
          on = on;
          probes = map (looked m.steps (sight_of m)) before;
          led = subst (λ (n : ℕ). LeadsTo s n (at_time old.joint.steps before) (at_time m.steps (map (looked m.steps (sight_of m)) before)) None)
              count (subst (λ (o : Option ℕ). LeadsTo s (k + 1) (at_time old.joint.steps before)
              (at_time m.steps (map (looked m.steps (sight_of m)) before)) o) (none_met clk 0 (sight_of m) before at_rest) led);
          same_later =
              λ n v more. all_rested clk m.steps n (sight_of m) v before more (ap (λ (l : Lines). l.clk) same_wire ∙ level) at_rest;
          same_hit = λ v. none_met_after clk 0 m.steps (sight_of m) v before at_rest ∙ sym (none_met clk 0 v before at_rest);
          goes_on = λ v e. ap (session_is_over s) (sym (same s (moved old m) on v e)) ∙ still_open m on (sym off) below;
          wires = same_wire;
          looked_here = λ positive. refl;
          unmet_here = λ positive. none_met clk 0 (sight_of m) before at_rest;
        }
