-- Joint steps after which nothing has to be counted or reported.
use Rattle.std.specs.Prelude.{◌≡◌, ◌≢◌, ◌⊎◌, ◌≤◌, ◌<◌, ℕ, zero, suc, ◌+◌, ◌%◌, ◌==◌, Bool, true, false, [], ◌∷◌, Ok, Err}
use Rattle.std.specs.declared.result.Result.{Result}
use Rattle.board_terms.specs.declared.lines.Lines.{Lines}
use Rattle.mcs48_core.specs.declared.stepping.Stuck.{Stuck}
use Rattle.joint_run.specs.Due.{due_step, IsJointStep}
use Rattle.joint_run.specs.History.{IsStepOfRun}
use Rattle.joint_run.specs.declared.due.Due.{Due}
use Rattle.joint_run.specs.declared.due.Seen.{Seen}
use Rattle.joint_run.specs.declared.machine.Machine.{Machine}

-- a joint step that makes no edge, does no event and says nothing: the processor's step, and nothing else has changed
-- but the counts of cycles and steps. Port 2 keeps its latch, so the wires are the same
pub record IsUneventful (due : Due) (old new : Machine) : Type 0 where
  pub seen : Seen
  pub step : IsJointStep due old (due_step due old) (Ok seen) new
  pub run : IsStepOfRun due old (Ok seen) new
  pub some : 0 < seen.cycles
  pub few : seen.cycles < 3
  pub edges : seen.edges ≡ 0
  pub host : seen.host ≡ 0
  pub items : seen.items.items ≡ []
  pub latch : new.mcu.p2 ≡ old.mcu.p2
  pub parts : new ≡ record old { mcu = new.mcu; cycle = old.cycle + seen.cycles; steps = old.steps + 1 }

-- what such a step reports, with the wires at these levels
abbrev pub seen_uneventfully : ℕ → Lines → Seen
seen_uneventfully cycles line = record {
  cycles = cycles;
  edges = 0;
  host = 0;
  items = record { items = [] };
  lines = line ∷ line ∷ [];
}

-- whether the counter is at the tick's place
abbrev pub is_at : ℕ → Machine → Bool
is_at tick_pc m = m.mcu.pc % 2048 == tick_pc

-- so many such steps, one after another, none of which leads to the tick's place
abbrev pub AreUneventful : Due → ℕ → ℕ → Machine → Machine → Type 0
AreUneventful due tick_pc zero old new = new ≡ old
AreUneventful due tick_pc (suc k) old new =
    (between : Machine) × AreUneventful due tick_pc k old between × IsUneventful due between new × (is_at tick_pc new ≡ false)

-- such steps, in at most so many cycles together, and then a joint step of any kind
pub record HasGone (due : Due) (tick_pc most : ℕ) (old : Machine) (result : Result Seen Stuck) (new : Machine)
    : Type 0 where
  pub count : ℕ
  pub last : Machine
  pub quiet : AreUneventful due tick_pc count old last
  pub within : last.cycle ≤ old.cycle + most
  pub step : IsJointStep due last (due_step due last) result new
  pub run : IsStepOfRun due last result new

-- the outcome of a stretch: its last step was reported; or there was no room for one more, and all were quiet; or the
-- processor is stuck
abbrev pub HasStretched : Due → ℕ → ℕ → Machine → Result Bool Stuck → Seen → Machine → Type 0
HasStretched due tick_pc most old (Ok true) seen new =
    HasGone due tick_pc most old (Ok seen) new × ((0 < seen.cycles) × (seen.cycles < 3))
HasStretched due tick_pc most old (Ok false) seen new =
    (count : ℕ) × AreUneventful due tick_pc count old new × (new.cycle ≤ old.cycle + most)
HasStretched due tick_pc most old (Err stuck) seen new = HasGone due tick_pc most old (Err stuck) new

-- quiet steps end only where there is no room for one more up to this cycle, or after one that wrote port 2 or led to the
-- tick's place
abbrev pub IsStretchedFar : ℕ → ℕ → Machine → Bool → Machine → Type 0
IsStretchedFar tick_pc to old true new = (new.mcu.p2 ≢ old.mcu.p2) ⊎ (is_at tick_pc new ≡ true)
IsStretchedFar tick_pc to old false new = to ≤ new.cycle + 1

-- the last step reached this cycle, wrote port 2 or led to the tick's place
abbrev pub HasGoneFar : ℕ → ℕ → Machine → Machine → Type 0
HasGoneFar tick_pc to old new = (to ≤ new.cycle) ⊎ ((new.mcu.p2 ≢ old.mcu.p2) ⊎ (is_at tick_pc new ≡ true))
