-- What a session comes to by the steps that are made at once.
use Rattle.std.proofs.Common.{◌≡◌, ◌<◌, ℕ, suc, ◌+◌, ◌-◌, Bool, true, false, List, map}
use Rattle.std.proofs.Common.{Some, None, Ok, Err, refl, ap, sym, subst, ◌∙◌, arith}
use Rattle.std.specs.Prelude.{OnOk}
use Rattle.std.specs.declared.option.Option.{Option}
use Rattle.std.specs.declared.result.Result.{Result}
use Rattle.board_terms.specs.Edges.{AreInOrder}
use Rattle.board_terms.specs.declared.lines.Lines.{Lines}
use Rattle.run_probes.proofs.Sights.{same_sight}
use Rattle.run_probes.specs.Probes.{Sight, Watch, first_met, looked, sight_in, sight_of}
use Rattle.run_probes.specs.Resting.{all_rest}
use Rattle.fw_kernel.specs.declared.labels.TheConstants.{TICK}
use Rattle.joint_feed.specs.Course.{IsOnCourse}
use Rattle.joint_feed.specs.Stories.{Story, state_at}
use Rattle.joint_feed.specs.declared.course.Course.{Course}
use Rattle.joint_glide.specs.Uneventful.{AreUneventful}
use Rattle.joint_run.specs.Joint.{Beside}
use Rattle.joint_run.specs.Run.{World}
use Rattle.joint_run.specs.declared.machine.Machine.{Machine}
use Rattle.key_file.specs.Accepted.{IsThin}
use Rattle.mcs48_core.specs.declared.stepping.Stuck.{Stuck}
use Rattle.debugger.specs.Advance.{IsStateAt}
use Rattle.debugger.specs.Making.{IsAdvanced, IsMade, LeadsTo, RestAt}
use Rattle.debugger.specs.Sessions.{Debug, Debuggee, Sitting, session_is_over, next_state}
use Rattle.debugger.specs.Striding.{HasStrode, IsStepOn}
use Rattle.debugger.specs.declared.stepping.Made.{Made}
use Rattle.debugger.proofs.Leading.{none_led}
use Rattle.debugger.proofs.Passing.{HasPassed, at_time, not_yet, one_further, passed}
use Rattle.debugger.proofs.Uneventful.{moved, quiet_counts}
use Rattle.debugger.proofs.SessionStates.{here, next_there, same}

-- the course is the run's, whatever a step came to
pub stays : (s : Story) (old new : Course) (r : Result (Unit {0}) Stuck) → IsStepOn s old r new → IsOnCourse s new
stays s old new (Ok done) step = step.0
stays s old new (Err stuck) step = step.0

-- where the run is over no step is made
pub over_advanced : (s : Debuggee) (left k : ℕ) (before : List Watch) → next_state s k ≡ None → IsAdvanced s left k before k
over_advanced s left k before none = record {
  later = omega arith;
  within = omega arith;
  ended = λ same. none;
  led = λ more w there. absurd (omega (arith, more));
}

module _ (s : Debuggee) (left : ℕ) (old new : Course) (before : List Watch) (count : ℕ) (last : Machine)
    (few : count < left) (steps : last.steps ≡ old.joint.steps + count) (p : HasPassed s old before count last) where
  abbrev first : Debug
  first = at_time old.joint.steps before

  abbrev there : Course
  there = moved old last

  -- behind them comes one of any kind
  pub goes_further : (on : IsOnCourse s.story new) → new.joint.steps ≡ suc last.steps → last.cycle < new.joint.cycle
      → IsAdvanced s left old.joint.steps before new.joint.steps
  goes_further on more later =
      let w = on.world in
      let sight : sight_of new.joint ≡ sight_in w = same_sight new.joint w on.in_run.mcu on.in_run.outside on.in_run.cycle in
      let after : List Watch = map (looked new.joint.steps (sight_in w)) before in
      let all : LeadsTo s (count + 1) first (at_time new.joint.steps after) (first_met 0 (sight_in w) before) =
      one_further s old before count last p w (ap (state_at s.story) (sym more) ∙ here s new on) (sight_in w) refl
      (subst (λ (v : Sight). last.cycle < v.cycle) sight later) new.joint.steps more in
      let made : count + 1 ≡ new.joint.steps - old.joint.steps = omega (arith, more, steps) in
      record {
        later = omega (arith, more, steps);
        within = omega (arith, more, steps, few);
        ended = λ same_steps. absurd (omega (arith, same_steps, more, steps));
        led = λ some v is.
            let e : w ≡ v = same s new on v is in
            subst (λ (u : World Beside). LeadsTo s (new.joint.steps - old.joint.steps) first
            (at_time new.joint.steps (map (looked new.joint.steps (sight_in u)) before)) (first_met 0 (sight_in u) before)) e
            (subst (λ (n : ℕ). LeadsTo s n first (at_time new.joint.steps after) (first_met 0 (sight_in w) before)) made all);
      }

  -- or the run is stuck there
  pub goes_no_further : new.joint ≡ last → state_at s.story (suc last.steps) ≡ None
      → IsAdvanced s left old.joint.steps before new.joint.steps
  goes_no_further still none =
      let w = p.on.world in
      let is = here s there p.on in
      let sight : sight_of last ≡ sight_in w = same_sight last w p.on.in_run.mcu p.on.in_run.outside p.on.in_run.cycle in
      let number : new.joint.steps ≡ last.steps = ap (λ (m : Machine). m.steps) still in
      let next : next_state s last.steps ≡ None =
      next_there s last.steps w false is (sym (p.goes_on w is)) ∙ none in
      let to : IsAdvanced s left old.joint.steps before last.steps = record {
        later = omega (arith, steps);
        within = omega (arith, steps, few);
        ended = λ same_steps. next;
        led = λ some v there_is.
            let e : w ≡ v = same s there p.on v there_is in
            let more : 0 < count = omega (arith, some, steps) in
            let made : count ≡ last.steps - old.joint.steps = omega (arith, steps) in
            let probes : p.probes ≡ map (looked last.steps (sight_in w)) before =
            p.looked_here more ∙ ap (λ (u : Sight). map (looked last.steps u) before) sight in
            let hit : None ≡ first_met 0 (sight_in w) before = sym (p.unmet_here more) ∙ ap (λ (u : Sight). first_met 0 u before) sight in
            subst (λ (u : World Beside). LeadsTo s (last.steps - old.joint.steps) first
            (at_time last.steps (map (looked last.steps (sight_in u)) before)) (first_met 0 (sight_in u) before)) e
            (subst (λ (o : Option ℕ).
            LeadsTo s (last.steps - old.joint.steps) first (at_time last.steps (map (looked last.steps (sight_in w)) before)) o) hit
            (subst (λ (ws : List Watch). LeadsTo s (last.steps - old.joint.steps) first (at_time last.steps ws) None) probes
            (subst (λ (n : ℕ). LeadsTo s n first (at_time last.steps p.probes) None) made p.led)));
      } in
      subst (λ (n : ℕ). IsAdvanced s left old.joint.steps before n) (sym number) to

  -- quiet steps and one more lead the session on
  pub strode : (r : Result (Unit {0}) Stuck) → IsStepOn s.story there r new → OnOk r (last.cycle < new.joint.cycle)
      → IsAdvanced s left old.joint.steps before new.joint.steps
  strode (Ok done) step later = goes_further step.0 step.1 later
  strode (Err stuck) step later = goes_no_further step.1 step.3

-- a stride that stays before the run's end, of quiet steps only where probes rest
pub advanced : (s : Debuggee) (left most : ℕ) (rest : Bool) (old new : Course) (r : Result (Unit {0}) Stuck) → IsOnCourse s.story old
    → IsThin s.story.edges → AreInOrder s.story.edges
    → ((w : World Beside) → state_at s.story old.joint.steps ≡ Some w → session_is_over s w ≡ false)
    → old.joint.cycle + most < s.story.stop + s.latest → most < left → (rest ≡ false → most ≡ 0) → HasStrode s.story most old r new
    → (before : List Watch) → (rest ≡ true → RestAt s old.joint.steps before)
    → IsAdvanced s left old.joint.steps before new.joint.steps
advanced s left most rest old new r h thin order open_now room few alone g before at_rest =
    let counts = quiet_counts old.ahead.due _ g.count old.joint g.last g.quiet in
    let cycle = counts.0 in
    let within = g.within in
    let clk = (sight_of old.joint).lines.clk in
    let sight = same_sight old.joint h.world h.in_run.mcu h.in_run.outside h.in_run.cycle in
    let so_far : HasPassed s old before g.count g.last =
    elim rest as (λ b. rest ≡ b → HasPassed s old before g.count g.last) [
      | true ↦ λ f.
          let resting : all_rest clk before ≡ true =
          ap (λ (v : Sight). all_rest v.lines.clk before) sight ∙ at_rest f h.world (here s old h) in
          passed s old before h open_now thin order most room clk refl resting g.count g.last g.quiet within
      | false ↦ λ f.
          let none = alone f in
          let zero_steps : g.count ≡ 0 = omega (arith, cycle, within, none) in
          let still : g.last ≡ old.joint =
          subst (λ k. AreUneventful old.ahead.due TICK k old.joint g.last) zero_steps g.quiet in
          subst (λ k. HasPassed s old before k g.last) (sym zero_steps) (not_yet s old before h open_now g.last still)
    ] refl in
    strode s left old new before g.count g.last (omega (arith, cycle, within, few)) counts.1 so_far r g.step g.later

-- no step was made, so nothing has changed
pub made_none : (s : Debuggee) (left k n : ℕ) (before : List Watch) → IsAdvanced s left k before n → n ≡ k
    → IsMade s left (at_time k before) (record { steps = 0; hit = None }) (at_time n before)
made_none s left k n before a same_steps = record {
  within = omega arith;
  ended = λ none. a.ended same_steps;
  led = subst (λ (m : ℕ). LeadsTo s 0 (at_time k before) (at_time m before) None) (sym same_steps) (none_led s (at_time k before));
}

-- steps were made, and each probe looked at the state that the last one led to
pub made_some : (s : Debuggee) (left k : ℕ) (new : Sitting) (before after : List Watch) (made : Made) (m : Machine) (steps : ℕ)
    → new.debuggee ≡ s → IsAdvanced s left k before new.steps → k < new.steps
    → made.steps ≡ new.steps - k → IsStateAt new m → steps ≡ new.steps → after ≡ map (looked steps (sight_of m)) before
    → made.hit ≡ first_met 0 (sight_of m) before → IsMade s left (at_time k before) made (at_time new.steps after)
made_some s left k new before after made m steps of a some count at is looks hit =
    let within = a.within in
    let w = at.world in
    let there : state_at s.story new.steps ≡ Some w = ap (λ (d : Debuggee). state_at d.story new.steps) (sym of) ∙ at.state in
    let seen : map (looked new.steps (sight_in w)) before ≡ after =
    ap (λ (v : Sight). map (looked new.steps v) before) (sym at.sight)
    ∙ sym (looks ∙ ap (λ (n : ℕ). map (looked n (sight_of m)) before) is) in
    let met : first_met 0 (sight_in w) before ≡ made.hit = ap (λ (v : Sight). first_met 0 v before) (sym at.sight) ∙ sym hit in
    record {
      within = omega (arith, within, count, some);
      ended = λ none. absurd (omega (arith, none, count, some));
      led = subst (λ (n : ℕ). LeadsTo s n (at_time k before) (at_time new.steps after) made.hit) (sym count)
          (subst (λ (o : Option ℕ). LeadsTo s (new.steps - k) (at_time k before) (at_time new.steps after) o) met
          (subst (λ (ws : List Watch). LeadsTo s (new.steps - k) (at_time k before) (at_time new.steps ws) (first_met 0 (sight_in w) before))
          seen (a.led some w there)));
    }

-- steps made in a session are made in the same session by another name
pub made_of : (s t : Debuggee) (left : ℕ) (d : Debug) (made : Made) (e : Debug) → s ≡ t → IsMade s left d made e → IsMade t left d made e
made_of s t left d made e same h = subst (λ (v : Debuggee). IsMade v left d made e) same h

-- probes that rest at the machine's clock rest at the state that it is at
pub resting : (s : Sitting) (m : Machine) (lines : Lines) (probes : List Watch) (rest : Bool) → IsStateAt s m → lines ≡ (sight_of m).lines
    → rest ≡ all_rest lines.clk probes → rest ≡ true → RestAt s.debuggee s.steps probes
resting s m lines probes rest at wires is on w there =
    let both : Some at.world ≡ Some w = sym at.state ∙ there in
    let same_world : at.world ≡ w = cc both in
    ap (λ (v : Sight). all_rest v.lines.clk probes) (ap sight_in (sym same_world) ∙ sym at.sight)
    ∙ ap (λ (l : Lines). all_rest l.clk probes) (sym wires) ∙ sym is ∙ on
