-- Two keyboards in one past answer the host's calls alike; and the states of one run, in their order.
use Rattle.std.proofs.Common.{◌≡◌, ◌≤◌, ◌<◌, ◌%◌, ℕ, zero, suc, ◌+◌, ◌-◌, true, false, List, Some, None}
use Rattle.std.proofs.Common.{Ok, Err, slice_index, refl, ap, sym, ◌∙◌, arith}
use Rattle.board_terms.specs.declared.event.HostAct.{HostAct}
use Rattle.host_turn.specs.Host.{waits}
use Rattle.joint_feed.specs.Stories.{state_at}
use Rattle.joint_run.specs.Due.{outside_of}
use Rattle.joint_run.specs.Joint.{Beside}
use Rattle.joint_run.specs.Run.{World}
use Rattle.law_live_agrees.proofs.Agreed.{states_alike}
use Rattle.law_live_agrees.proofs.Logs.{goes_between}
use Rattle.law_live_agrees.specs.Law.{CallsAreAlike}
use Rattle.live_board.proofs.Stepping.{here}
use Rattle.live_board.proofs.Timed.{before, step_later}
use Rattle.live_board.specs.Calls.{IsRefused, MayAct, place_of}
use Rattle.live_board.specs.Pasts.{Past, acted, state_of, story_of}
use Rattle.live_board.specs.States.{HasPast}
use Rattle.live_board.specs.declared.parts.Parts.{Parts as Keyboard}
use Rattle.live_board.specs.declared.refused.Refused.{Refused}
use Rattle.live_board.specs.declared.refused.Refused.TheVariants as R
use Rattle.mcs48_core.specs.Cpu.{Cpu}
use Rattle.mcs48_core.specs.declared.stepping.Stuck.{Stuck as Place}

-- the counter, and the byte there
abbrev place_by : List ℕ → Cpu → Place
place_by bytes m = record { pc = m.pc; byte = slice_index bytes (m.pc % 2048) }

-- two keyboards in one past are at one cycle, with the same processor, memory and input buffer
module _ (p : Past) (a b : Keyboard) (s : HasPast p a) (t : HasPast p b) where
  -- two keyboards in one past are in one state of the run
  pub same_world : s.world ≡ t.world
  same_world = states_alike p a b s t

  -- two keyboards in one past are at one cycle
  pub same_cycle : a.joint.cycle ≡ b.joint.cycle
  same_cycle = s.in_run.cycle ∙ ap (λ (w : World Beside). w.cycle) same_world ∙ sym t.in_run.cycle

  -- two keyboards in one past are at one place of the program
  pub same_place : place_of a.joint ≡ place_of b.joint
  same_place =
      let cpu = s.in_run.mcu ∙ ap (λ (w : World Beside). w.cpu) same_world ∙ sym t.in_run.mcu in
      let bytes = s.image ∙ sym t.image in
      ap (λ m. place_by a.joint.image.bytes m) cpu ∙ ap (λ v. place_by v b.joint.mcu) bytes

  -- at two keyboards in one past the same calls of the host must wait
  pub same_waits : (act : HostAct)
      → waits act a.joint.outside.desk.port.core ≡ waits act b.joint.outside.desk.port.core
  same_waits act =
      ap (λ (o : _). waits act o.desk.port.core) s.in_run.outside
      ∙ ap (λ (w : World Beside). waits act (outside_of w.board).desk.port.core) same_world
      ∙ sym (ap (λ (o : _). waits act o.desk.port.core) t.in_run.outside)

  -- a cause of one is the cause of both
  pub one_cause : (act : HostAct) (x y : Refused) → IsRefused act a x → IsRefused act b y → x ≡ y
  one_cause act R.Early R.Early h g = refl
  one_cause act R.Early R.LastCycle h g = absurd (let e = same_cycle in omega (arith, e, h, g))
  one_cause act R.Early R.Full h g = absurd (let e = same_cycle in let l = g.0 in omega (arith, e, h, l))
  one_cause act R.Early (R.Stuck q) h g = absurd (let e = same_cycle in let l = g.0.late in omega (arith, e, h, l))
  one_cause act R.LastCycle R.Early h g = absurd (let e = same_cycle in omega (arith, e, h, g))
  one_cause act R.LastCycle R.LastCycle h g = refl
  one_cause act R.LastCycle R.Full h g = absurd (let e = same_cycle in let l = g.1 in omega (arith, e, h, l))
  one_cause act R.LastCycle (R.Stuck q) h g = absurd (let e = same_cycle in let l = g.0.near in omega (arith, e, h, l))
  one_cause act R.Full R.Early h g = absurd (let e = same_cycle in let l = h.0 in omega (arith, e, g, l))
  one_cause act R.Full R.LastCycle h g = absurd (let e = same_cycle in let l = h.1 in omega (arith, e, g, l))
  one_cause act R.Full R.Full h g = refl
  one_cause act R.Full (R.Stuck q) h g =
      absurd (let e : true ≡ false = sym h.2 ∙ same_waits act ∙ g.0.room in cc)
  one_cause act (R.Stuck q) R.Early h g = absurd (let e = same_cycle in let l = h.0.late in omega (arith, e, g, l))
  one_cause act (R.Stuck q) R.LastCycle h g = absurd (let e = same_cycle in let l = h.0.near in omega (arith, e, g, l))
  one_cause act (R.Stuck q) R.Full h g =
      absurd (let e : true ≡ false = sym g.2 ∙ sym (same_waits act) ∙ h.0.room in cc)
  one_cause act (R.Stuck q) (R.Stuck r) h g = ap (λ (v : Place). R.Stuck v) (h.1 ∙ same_place ∙ sym g.1)

  -- what is refused of one isn't done of the other
  pub never_alone : (act : HostAct) (x : Refused) (d : Keyboard) → IsRefused act a x → MayAct act b
      → HasPast (acted p (b.joint.cycle - 4096) act) d → ⊥
  never_alone act R.Early d h may has_past = let e = same_cycle in let l = may.late in omega (arith, e, h, l)
  never_alone act R.LastCycle d h may has_past = let e = same_cycle in let l = may.near in omega (arith, e, h, l)
  never_alone act R.Full d h may has_past = let e : true ≡ false = sym h.2 ∙ same_waits act ∙ may.room in absurd cc
  never_alone act (R.Stuck q) d h may has_past =
      let none = h.2 p s in
      let some = here (acted p (b.joint.cycle - 4096) act) d has_past in
      let same = ap (λ c. state_of (acted p (c - 4096) act)) same_cycle in
      let e : None ≡ Some has_past.world = sym none ∙ same ∙ some in
      absurd cc

-- a call of the host is done at both of two keyboards in one past, or refused at both for one cause
pub calls_alike : CallsAreAlike
calls_alike act p a b c d (Ok x) (Ok y) s t h g = refl
calls_alike act p a b c d (Ok x) (Err y) s t h g =
    absurd (never_alone p b a t s act y c g.0 h.0 (h.1 p s))
calls_alike act p a b c d (Err x) (Ok y) s t h g =
    absurd (never_alone p a b s t act x d h.0 g.0 (g.1 p t))
calls_alike act p a b c d (Err x) (Err y) s t h g = ap (λ v. Err v) (one_cause p a b s t act x y h.0 g.0)

-- a run that reaches a state has the one after fewer steps
pub earlier : (p : Past) (k m : ℕ) (w : World Beside) → state_at (story_of p) (m + k) ≡ Some w
    → (u : World Beside) × (state_at (story_of p) k ≡ Some u)
earlier p k zero w h = let none : zero + k ≡ k = omega arith in (w, ap (state_at (story_of p)) (sym none) ∙ h)
earlier p k (suc m) w h =
    let one : suc m + k ≡ suc (m + k) = omega arith in
    let u = before (story_of p) (m + k) w (ap (state_at (story_of p)) (sym one) ∙ h) in
    earlier p k m u.0 u.1

-- a run that reaches a later state isn't stuck at an earlier one
pub no_state : (p : Past) (k n : ℕ) (w : World Beside) → state_at (story_of p) n ≡ Some w → k ≤ n
    → state_at (story_of p) k ≡ None → ⊥
no_state p k n w at l none =
    let sum : n - k + k ≡ n = omega (arith, l) in
    let u = earlier p k (n - k) w (ap (state_at (story_of p)) sum ∙ at) in
    let e : None ≡ Some u.0 = sym none ∙ u.1 in
    absurd cc

-- a state of more steps is later
pub later_cycle : (p : Past) (k n : ℕ) (w v : World Beside) → k < n → state_at (story_of p) k ≡ Some w
    → state_at (story_of p) n ≡ Some v → w.cycle < v.cycle
later_cycle p k n w v less from to =
    let sum : n - suc k + suc k ≡ n = omega (arith, less) in
    let there : state_at (story_of p) (n - suc k + suc k) ≡ Some v = ap (state_at (story_of p)) sum ∙ to in
    let next = earlier p (suc k) (n - suc k) v there in
    let one = step_later (story_of p) k w next.0 from next.1 in
    let more = (goes_between (story_of p) (suc k) (n - suc k) next.0 v next.1 there).0 in
    omega (arith, one, more)

-- the state of a keyboard is that of its past's run after its steps
pub from_here : (p : Past) (a : Keyboard) (s : HasPast p a) → state_at (story_of p) a.joint.steps ≡ Some s.world
from_here p a s = ap (state_at (story_of p)) s.steps ∙ here p a s
