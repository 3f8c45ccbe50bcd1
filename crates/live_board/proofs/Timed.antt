-- The states of a run, one after another.
use Rattle.std.proofs.Common.{◌≡◌, ◌<◌, ℕ, suc, ◌+◌, Bool, true, false, List, Some, None, Ok, refl, ap, sym, ◌∙◌, arith}
use Rattle.std.specs.Prelude.{slice_index, ◌%◌}
use Rattle.std.specs.declared.option.Option.{Option}
use Rattle.joint_feed.proofs.Going.{made}
use Rattle.joint_feed.specs.Stories.{Story, state_at}
use Rattle.joint_run.specs.Due.{IsJointStep, due_board, due_step, world_of}
use Rattle.joint_run.specs.Joint.{Beside, joint_board}
use Rattle.joint_run.specs.Run.{Board, World, after_step, joint_step, seen, step_on}
use Rattle.joint_run.specs.declared.due.Due.{Due}
use Rattle.joint_run.specs.declared.due.Seen.{Seen}
use Rattle.joint_run.specs.declared.machine.Machine.{Machine}
use Rattle.mcs48_core.specs.Cpu.{Cpu}
use Rattle.mcs48_core.specs.Step.{Stepped, entered, executed, row_at, stepped, takes_external, takes_timer}
use Rattle.mcs48_core.specs.declared.levels.Pins.{Pins}
use Rattle.mcs48_isa.specs.declared.operation.Decoded.{Decoded}
use Rattle.mcs48_ranges.proofs.Rows.{row_timed}

-- a step takes one or two cycles
abbrev IsTimed : Option Stepped → Type 0
IsTimed None = Unit {0}
IsTimed (Some n) = (0 < n.cycles) × (n.cycles < 3)

row_is_timed : (bytes : List ℕ) (pins : Pins) (m : Cpu) (r : Option Decoded) → row_at bytes m.pc ≡ r → IsTimed (executed r bytes pins m)
row_is_timed bytes pins m None e = tt
row_is_timed bytes pins m (Some d) e =
    let t = row_timed (slice_index bytes (m.pc % 2048)) (slice_index bytes ((m.pc + 1) % 2048)) d e in
    let most = t.1 in
    (t.0, omega (arith, most))

timed_by : (external timer : Bool) (x y : Stepped) (o : Option Stepped) → x.cycles ≡ 2 → y.cycles ≡ 2 → IsTimed o
    → IsTimed (elim external as (λ b. Option Stepped) [
      | true ↦ Some x
      | false ↦ elim timer as (λ b. Option Stepped) [ true ↦ Some y | false ↦ o ]
    ])
timed_by true timer x y o two also h = (omega (arith, two), omega (arith, two))
timed_by false true x y o two also h = (omega (arith, also), omega (arith, also))
timed_by false false x y o two also h = h

is_timed : (bytes : List ℕ) (pins : Pins) (m : Cpu) → IsTimed (stepped bytes pins m)
is_timed bytes pins m =
    timed_by (takes_external pins m) (takes_timer m) (entered 3 pins m) (entered 7 pins (record m { rq = false }))
    (executed (row_at bytes m.pc) bytes pins m)
    refl refl (row_is_timed bytes pins m (row_at bytes m.pc) refl)

abbrev cycle_or_0 : (d : Board) → Option (World d.State) → ℕ
cycle_or_0 d None = 0
cycle_or_0 d (Some w) = w.cycle

after_timed : (d : Board) (w v : World d.State) (n : Option Stepped) → IsTimed n → after_step d w n ≡ Some v
    → (w.cycle < v.cycle) × (v.cycle < w.cycle + 3)
after_timed d w v None t h = absurd cc
after_timed d w v (Some n) t h =
    let e : w.cycle + n.cycles ≡ v.cycle = ap (cycle_or_0 d) h in
    let some = t.0 in
    let few = t.1 in
    (omega (arith, e, some), omega (arith, e, few))

-- a joint step on a board takes one or two cycles
pub step_timed : (d : Board) (bytes : List ℕ) (w v : World d.State) → joint_step d bytes w ≡ Some v
    → (w.cycle < v.cycle) × (v.cycle < w.cycle + 3)
step_timed d bytes w v h = after_timed d w v (stepped bytes (seen d w) w.cpu) (is_timed bytes (seen d w) w.cpu) h

-- and so does the machine's
pub few_cycles : (due : Due) (old new : Machine) (seen : Seen) → IsJointStep due old (due_step due old) (Ok seen) new
    → (0 < seen.cycles) × (seen.cycles < 3)
few_cycles due old new seen is =
    let it = made due old seen new is in
    let timed = step_timed (due_board due old) old.image.bytes (world_of old) it.world it.step in
    let some = timed.0 in
    let few = timed.1 in
    let cycles = it.seen_so.cycles in
    (omega (arith, some, cycles), omega (arith, few, cycles))

module _ (s : Story) where
  -- the joint step between two states
  pub joined : (k : ℕ) (w v : World Beside)
      → state_at s k ≡ Some w → state_at s (suc k) ≡ Some v → joint_step (joint_board s.edges s.events) s.bytes w ≡ Some v
  joined k w v h g = sym (ap (step_on (joint_board s.edges s.events) s.bytes) h) ∙ g

  -- it takes a cycle at least
  pub step_later : (k : ℕ) (w v : World Beside) → state_at s k ≡ Some w → state_at s (suc k) ≡ Some v → w.cycle < v.cycle
  step_later k w v h g = (step_timed (joint_board s.edges s.events) s.bytes w v (joined k w v h g)).0

  before_some : (k : ℕ) (v : World Beside) (o : Option (World Beside))
      → state_at s k ≡ o → step_on (joint_board s.edges s.events) s.bytes o ≡ Some v
      → (w : World Beside) × (state_at s k ≡ Some w)
  before_some k v None e h = absurd cc
  before_some k v (Some w) e h = (w, e)

  -- before a state is another
  pub before : (k : ℕ) (v : World Beside) → state_at s (suc k) ≡ Some v → (w : World Beside) × (state_at s k ≡ Some w)
  before k v h = before_some k v (state_at s k) refl h
