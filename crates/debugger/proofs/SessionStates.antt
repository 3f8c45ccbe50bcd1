-- A session's state: whether its run has ended there, and its next step.
use Rattle.std.proofs.Common.{◌≡◌, ◌<◌, ℕ, suc, ◌+◌, Bool, true, false, ◌&&◌, ◌||◌, List}
use Rattle.std.proofs.Common.{Some, None, is_none, refl, ap, sym, subst, ◌∙◌, arith}
use Rattle.std.specs.Prelude.{if◌then◌else◌, nat_le}
use Rattle.std.proofs.lemmas.Bool.Decides.{nat_tests}
use Rattle.std.specs.declared.option.Option.{Option}
use Rattle.joint_run.specs.Joint.{Beside, joint_board, joint_start_of}
use Rattle.joint_run.specs.Run.{World, joint_step, run_at, step_on}
use Rattle.fw_ticks.specs.JointRun.{DecidesTick}
use Rattle.joint_feed.specs.declared.course.Course.{Course}
use Rattle.joint_feed.specs.Course.{IsOnCourse}
use Rattle.joint_feed.specs.Filled.{filled_story}
use Rattle.joint_feed.specs.Stories.{state_at, starts_tick}
use Rattle.key_file.specs.Histories.{KeyHistory}
use Rattle.debugger.specs.Sessions.{Debuggee, Sitting, sitting, session_is_over, next_from, next_state, has_ended}
use Rattle.run_probes.specs.Stuck.{sticks}
use Rattle.debugger.specs.Advance.{IsStateAt, DecidesSessionOver}
use Rattle.run_probes.proofs.Sights.{same_sight}
use Rattle.joint_glide.proofs.NoStep.{none_step}

-- what a session over this program is about
abbrev pub debuggee_in : ℕ → List ℕ → KeyHistory → ℕ → Debuggee
debuggee_in fill bytes history latest = record { story = filled_story fill bytes history; latest = latest }

-- the next state from one that is there
pub next_there : (s : Debuggee) (k : ℕ) (w : World Beside) (over : Bool)
    → state_at s.story k ≡ Some w → over ≡ session_is_over s w → next_state s k ≡ (if over then None else state_at s.story (suc k))
next_there s k w over e o = ap (next_from s k) e ∙ ap (λ b. if b then None else state_at s.story (suc k)) (sym o)

module _ (s : Debuggee) (c : Course) (h : IsOnCourse s.story c) where
  -- the machine is at the state of the session's run
  pub here : state_at s.story c.joint.steps ≡ Some h.world
  here = subst (λ (bytes : List ℕ). run_at (joint_board s.story.edges s.story.events) bytes
      (joint_start_of s.story.held) c.joint.steps ≡ Some h.world) h.image h.in_run.run

  -- the run has one state after so many steps
  pub same : (w : World Beside) → state_at s.story c.joint.steps ≡ Some w → h.world ≡ w
  same w e = let f : Some h.world ≡ Some w = sym here ∙ e in cc f

  -- what is answered of the machine is so of the state
  pub past_so : (starts : Bool) (cycle stop latest : ℕ) (result : Bool)
      → DecidesTick c.joint starts → cycle ≡ c.joint.cycle → stop ≡ s.story.stop → latest ≡ s.latest
      → result ≡ ((starts && nat_le (4096 + stop) cycle) || nat_le (stop + latest) cycle)
      → (w : World Beside) → state_at s.story c.joint.steps ≡ Some w → result ≡ session_is_over s w
  past_so starts cycle stop latest result decides at end late is w e =
      let world : h.world ≡ w = same w e in
      let cpu : w.cpu ≡ c.joint.mcu = sym (h.in_run.mcu ∙ ap (λ (v : World Beside). v.cpu) world) in
      let tick : starts ≡ starts_tick s.story w = decides s.story.edges s.story.events w cpu in
      let now : cycle ≡ w.cycle = at ∙ h.in_run.cycle ∙ ap (λ (v : World Beside). v.cycle) world in
      is ∙ ap (λ (n : ℕ). (starts && nat_le (4096 + n) cycle) || nat_le (n + latest) cycle) end
      ∙ ap (λ (n : ℕ). (starts && nat_le (4096 + s.story.stop) cycle) || nat_le (s.story.stop + n) cycle) late
      ∙ ap (λ (n : ℕ). (starts && nat_le (4096 + s.story.stop) n) || nat_le (s.story.stop + s.latest) n) now
      ∙ ap (λ b. (b && nat_le (4096 + s.story.stop) w.cycle) || nat_le (s.story.stop + s.latest) w.cycle) tick

  -- before its end the run ends exactly where the processor is stuck
  pub ended_so : (past stuck : Bool) → ((w : World Beside) → state_at s.story c.joint.steps ≡ Some w → past ≡ session_is_over s w)
      → past ≡ false → stuck ≡ sticks s.story.bytes c.joint.mcu
      → stuck ≡ has_ended s c.joint.steps
  ended_so past stuck over f is =
      let next : next_state s c.joint.steps ≡ state_at s.story (suc c.joint.steps) =
      next_there s c.joint.steps h.world past here (over h.world here)
      ∙ ap (λ b. if b then None else state_at s.story (suc c.joint.steps)) f in
      let step : state_at s.story (suc c.joint.steps) ≡ joint_step (joint_board s.story.edges s.story.events) s.story.bytes h.world =
      ap (step_on (joint_board s.story.edges s.story.events) s.story.bytes) here in
      is ∙ ap (sticks s.story.bytes) h.in_run.mcu
      ∙ sym (none_step s.story.edges s.story.events s.story.bytes h.world) ∙ sym (ap is_none (next ∙ step))

  -- the session's state is the machine's
  pub state_now : IsStateAt (sitting s c.joint.steps) c.joint
  state_now = record {
    world = h.world;
    state = here;
    mcu = h.in_run.mcu;
    cycle = h.in_run.cycle;
    steps = refl;
    sight = same_sight c.joint h.world h.in_run.mcu h.in_run.outside h.in_run.cycle;
  }

-- a run that isn't over at its present state is before its latest end
or_not : (a b : Bool) → false ≡ (a || b) → b ≡ false
or_not true b h = absurd (cc h)
or_not false b h = sym h

before_end : (s : Debuggee) (w : World Beside) → false ≡ session_is_over s w → w.cycle < s.story.stop + s.latest
before_end s w h =
    let off = or_not _ (nat_le (s.story.stop + s.latest) w.cycle) h in
    grind (arith, nat_tests, off)

-- if a session isn't over, its cycle is before the latest
pub room_there : (t : Sitting) (s : Debuggee) (c : Course) → IsOnCourse s.story c → sitting s c.joint.steps ≡ t
    → (past : Bool) → DecidesSessionOver t past → past ≡ false → c.joint.cycle < s.story.stop + s.latest
room_there t s c h view past decides off =
    let a = before_end s h.world (sym off ∙ subst (λ (v : Sitting). DecidesSessionOver v past) (sym view) decides h.world (here s c h)) in
    let e = h.in_run.cycle in
    omega (arith, a, e)

over_by : (s : Debuggee) (k : ℕ) (o : Option (World Beside))
    → state_at s.story k ≡ o → ((w : World Beside) → state_at s.story k ≡ Some w → true ≡ session_is_over s w)
    → next_from s k o ≡ None
over_by s k None e t = refl
over_by s k (Some w) e t = ap (λ b. if b then None else state_at s.story (suc k)) (sym (t w e))

-- where it is over there is no next state
pub over_now : (s : Sitting) (past : Bool) → DecidesSessionOver s past → past ≡ true → next_state s.debuggee s.steps ≡ None
over_now s past decides on =
    over_by s.debuggee s.steps (state_at s.debuggee.story s.steps) refl (λ w there. sym on ∙ decides w there)
