-- The log of a run is the one that the model expects: its last state is a tick start of the joint run, and its starts are
-- the starts of the joint run.
use Rattle.std.proofs.Common.{◌≡◌, ◌≤◌, ℕ, ◌+◌, ◌-◌, List, length, ap, sym, ◌∙◌, arith}
use Rattle.board_terms.specs.Cadence.{listed}
use Rattle.fw_kernel.specs.declared.labels.TheConstants.{TICK}
use Rattle.fw_ticks.proofs.Numbers.{same_start}
use Rattle.fw_ticks.specs.JointRun.{KeepsTimeFrom}
use Rattle.joint_feed.specs.Stories.{Story}
use Rattle.joint_run.specs.Joint.{joint_board, joint_start_of}
use Rattle.joint_run.specs.Run.{Board, World}
use Rattle.joint_run.specs.Starts.{IsStart}
use Rattle.law_agreement.proofs.Upto.{whole_up_to}
use Rattle.law_agreement.specs.Agreement.{AgreesFrom}
use Rattle.model_link.specs.Expected.{Whole, expected}
use Rattle.model_link.specs.Machine.{KeyboardMachine}
use Rattle.subsystem.specs.LayoutOutcomes.{IsOutcome, lines_of, Outcome}
use Rattle.subsystem.proofs.Timekeeping.{ends_at, starts_at}

-- start n of a run has one stamp
one_stamp : (d : Board) (bytes : List ℕ) (from : World d.State) (n a b : ℕ) → IsStart d TICK bytes from n a
    → IsStart d TICK bytes from n b → a ≡ b
one_stamp d bytes from n a b p q =
    let same : p.state ≡ q.state =
    same_start d TICK bytes from p.steps q.steps p.state q.state p.reached q.reached p.at q.at (p.number ∙ sym q.number) in
    let cycle : 4096 + a ≡ 4096 + b = sym p.cycle ∙ ap (λ (w : World d.State). w.cycle) same ∙ q.cycle in
    omega (arith, cycle)

-- the log is that of the model at the run's own starts, for any keyboard with which the joint run agrees
pub log_as_expected : {S : Type 0} (kb : KeyboardMachine S) (s : Story) → KeepsTimeFrom (joint_start_of s.held) s.bytes s.edges s.events
    → AgreesFrom (joint_start_of s.held) s.bytes kb s.edges s.events
    → (run : Outcome) → IsOutcome s run
    → run.log ≡ expected kb s.edges s.events (listed run.starts) (length run.starts - 1)
unfolding ends_at
log_as_expected {S = S} kb s t agrees run h =
    let n : ℕ = length run.starts - 1 in
    let same : (j : ℕ) → j ≤ n → agrees.starts j ≡ listed run.starts j =
    λ j l. one_stamp (joint_board s.edges s.events) s.bytes (joint_start_of s.held) j (agrees.starts j) (listed run.starts j)
    (agrees.each j) (starts_at s t run h j l) in
    let whole = whole_up_to kb s.edges s.events agrees.starts (listed run.starts) n same in
    h.log ∙ ap (lines_of run.starts) (agrees.log n (h.world.cycle - 4096) (ends_at s t run h) ∙ ap (λ (w : Whole S). w.side.log) whole)
