-- The tick starts of a joint run: where it executes the instruction at the tick's place.
use Rattle.std.specs.Prelude.{◌≡◌, ◌≤◌, ◌<◌, ℕ, zero, suc, ◌+◌, ◌%◌, Bool, true, false, not, ◌&&◌, ◌==◌, List}
use Rattle.std.specs.Prelude.{Some, None}
use Rattle.std.specs.declared.option.Option.{Option}
use Rattle.mcs48_core.specs.Status.{digit}
use Rattle.mcs48_core.specs.Step.{takes_external, takes_timer}
use Rattle.joint_run.specs.Run.{Board, World, seen, joint_step, run_at}

-- the next step executes the instruction at this place: the counter is there, and the step is no interrupt's entry.
-- The byte there isn't asked for: if it has no instruction the run has no next state
abbrev pub at_tick : (d : Board) → ℕ → World d.State → Bool
at_tick d tick_pc w = (w.cpu.pc % 2048 == tick_pc) && not (takes_external (seen d w) w.cpu) && not (takes_timer w.cpu)

-- 1 if a state of the run is a tick start, and else 0
abbrev pub start_in : (d : Board) → ℕ → Option (World d.State) → ℕ
start_in d tick_pc None = 0
start_in d tick_pc (Some w) = digit (at_tick d tick_pc w)

-- how many of the first k states of a run are tick starts
abbrev pub starts_before : (d : Board) → ℕ → List ℕ → World d.State → ℕ → ℕ
starts_before d tick_pc bytes from zero = 0
starts_before d tick_pc bytes from (suc k) = starts_before d tick_pc bytes from k + start_in d tick_pc (run_at d bytes from k)

-- tick start n of a run, counted from 0, with its stamp: the cycle at which it begins is 4,096 more
pub record IsStart (d : Board) (tick_pc : ℕ) (bytes : List ℕ) (from : World d.State) (n stamp : ℕ) : Type 0 where
  pub steps : ℕ
  pub state : World d.State
  pub reached : run_at d bytes from steps ≡ Some state
  pub at : at_tick d tick_pc state ≡ true
  pub number : starts_before d tick_pc bytes from steps ≡ n
  pub cycle : state.cycle ≡ 4096 + stamp

-- the run ends before the step that begins at tick start n: the first whose stamp isn't less than the end stamp
pub record IsEnd (d : Board) (tick_pc : ℕ) (bytes : List ℕ) (from : World d.State) (stop n : ℕ) : Type 0 where
  pub stamp : ℕ
  pub start : IsStart d tick_pc bytes from n stamp
  pub reaches : stop ≤ stamp
  pub before : (j before : ℕ) → j < n → IsStart d tick_pc bytes from j before → before < stop

-- From one tick start to the next: how proofs go along a run.

-- a joint step from a state that is no tick start
abbrev pub calm_step : (d : Board) → ℕ → List ℕ → World d.State → Option (World d.State)
calm_step d tick_pc bytes w = elim (at_tick d tick_pc w) [ true ↦ None | false ↦ joint_step d bytes w ]

-- so many of them
abbrev pub calm : (d : Board) → ℕ → List ℕ → ℕ → World d.State → Option (World d.State)
calm d tick_pc bytes zero w = Some w
calm d tick_pc bytes (suc n) w = elim (calm_step d tick_pc bytes w) [ None ↦ None | Some next ↦ calm d tick_pc bytes n next ]

-- the run comes from a state to one of a set, and meets no tick start before it
pub record Comes (d : Board) (tick_pc : ℕ) (bytes : List ℕ) (w : World d.State) (Q : World d.State → Type 0)
    : Type 0 where
  pub steps : ℕ
  pub end : World d.State
  pub run : calm d tick_pc bytes steps w ≡ Some end
  pub goal : Q end

-- from a tick start to one of a set, with no tick start between them
pub record Tick (d : Board) (tick_pc : ℕ) (bytes : List ℕ) (w : World d.State) (Q : World d.State → Type 0) : Type 0 where
  pub at : at_tick d tick_pc w ≡ true
  pub first : World d.State
  pub step : joint_step d bytes w ≡ Some first
  pub rest : Comes d tick_pc bytes first Q

-- a state that the run from a state reaches, with n tick starts before it and none since the last of them
abbrev pub IsNth : (d : Board) → ℕ → List ℕ → World d.State → ℕ → World d.State → Type 0
IsNth d tick_pc bytes from zero w = Comes d tick_pc bytes from (λ e. e ≡ w)
IsNth d tick_pc bytes from (suc n) w =
    (v : World d.State) × IsNth d tick_pc bytes from n v × Tick d tick_pc bytes v (λ e. e ≡ w)
