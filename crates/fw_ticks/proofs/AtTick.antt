-- What a tick start is on the joint run's board: its pin INT is high, so no external interrupt is taken.
use Rattle.std.proofs.Common.{◌≡◌, ℕ, ◌+◌, ◌%◌, List, Bool, true, false, not, ◌&&◌, ◌==◌, Some, slice_index}
use Rattle.std.proofs.Common.{refl, ap, sym, ◌∙◌, arith}
use Rattle.std.proofs.lemmas.Bool.Decides.{nat_tests}
use Rattle.std.specs.declared.option.Option.{Option}
use Rattle.board_terms.specs.declared.event.Edge.{Edge}
use Rattle.board_terms.specs.declared.event.HostEvent.{HostEvent}
use Rattle.mcs48_core.specs.declared.levels.Pins.{Pins}
use Rattle.mcs48_core.specs.Cpu.{Cpu}
use Rattle.mcs48_core.specs.Step.{Stepped, stepped, executed, entered, row_at, takes_external, takes_timer}
use Rattle.joint_run.specs.Run.{World, seen}
use Rattle.joint_run.specs.Joint.{Beside, joint_board, joint_pins}
use Rattle.mcs48_isa.specs.Table.{row_of}
use Rattle.fw_kernel.specs.declared.bytes.TheConstants.{KERNEL}
use Rattle.fw_kernel.specs.declared.labels.TheConstants.{TICK}
use Rattle.fw_kernel.specs.Places.{HasKernel}
use Rattle.joint_run.specs.Starts.{at_tick}

int_high : (edges : List Edge) (p1 p2 cycle : ℕ) (s : Beside) → (joint_pins edges p1 p2 cycle s).int_pin ≡ true
unfolding joint_pins
int_high edges p1 p2 cycle s = refl

none_external : (m : Cpu) (pins : Pins) → pins.int_pin ≡ true → takes_external pins m ≡ false
none_external m pins e = ap (λ b. not m.svc && m.ext_on && not b) e ∙ by (not m.svc) m.ext_on
  where
    by : (a b : Bool) → (a && b && false) ≡ false
    by true true = refl
    by true false = refl
    by false b = refl

and_true : (a t : Bool) → (a && true && t) ≡ (a && t)
and_true true t = refl
and_true false t = refl

-- by the processor alone
pub at_tick_is : (edges : List Edge) (events : List HostEvent) (w : World Beside)
    → at_tick (joint_board edges events) TICK w ≡ ((w.cpu.pc % 2048 == TICK) && not (takes_timer w.cpu))
at_tick_is edges events w =
    ap (λ b. (w.cpu.pc % 2048 == TICK) && not b && not (takes_timer w.cpu))
    (none_external w.cpu (seen (joint_board edges events) w) (int_high edges w.cpu.p1 w.cpu.p2 w.cycle w.board))
    ∙ and_true (w.cpu.pc % 2048 == TICK) (not (takes_timer w.cpu))

both : (a b : Bool) → (a && not b) ≡ true → (a ≡ true) × (b ≡ false)
both true false h = (refl, refl)
both true true h = absurd cc
both false b h = absurd cc

-- and then the kernel's instruction is executed
pub at_tick_row : (bytes : List ℕ) → HasKernel bytes → (edges : List Edge) (events : List HostEvent) (w : World Beside)
    → at_tick (joint_board edges events) TICK w ≡ true
    → stepped bytes (seen (joint_board edges events) w) w.cpu
    ≡ executed (row_at KERNEL TICK) bytes (seen (joint_board edges events) w) w.cpu
at_tick_row bytes has edges events w at =
    let m = w.cpu in
    let pins = seen (joint_board edges events) w in
    let h = both (m.pc % 2048 == TICK) (takes_timer m) (sym (at_tick_is edges events w) ∙ at) in
    let external = none_external m pins (int_high edges m.p1 m.p2 w.cycle w.board) in
    let here : m.pc % 2048 ≡ 7 = (let e : (m.pc % 2048 == 7) ≡ true = h.0 in grind (arith, nat_tests, e)) in
    let next : (m.pc + 1) % 2048 ≡ 8 = omega (arith, here) in
    let row : row_at bytes m.pc ≡ row_at KERNEL TICK =
    ap (λ p. row_of (slice_index bytes p) (slice_index bytes ((m.pc + 1) % 2048))) here
    ∙ ap (λ p. row_of (slice_index bytes 7) (slice_index bytes p)) next
    ∙ ap (λ b. row_of b (slice_index bytes 8)) (has 7 refl) ∙ ap (λ b. row_of (slice_index KERNEL 7) b) (has 8 refl) in
    ap (λ b. elim b as (λ v. Option Stepped) [
      | true ↦ Some (entered 3 pins m)
      | false ↦ elim (takes_timer m) as (λ v. Option Stepped) [
        | true ↦ Some (entered 7 pins (record m { rq = false }))
        | false ↦ executed (row_at bytes m.pc) bytes pins m
      ]
    ]) external
    ∙ ap (λ b. elim b as (λ v. Option Stepped) [
      | true ↦ Some (entered 7 pins (record m { rq = false }))
      | false ↦ executed (row_at bytes m.pc) bytes pins m
    ]) h.1
    ∙ ap (λ r. executed r bytes pins m) row
