-- No step follows a state exactly if its processor is stuck: it enters no interrupt, and the byte at the counter begins no
-- instruction.
use Rattle.std.proofs.Common.{◌≡◌, ℕ, Bool, true, false, not, ◌&&◌, List, Some, None, is_none, refl, ap, ◌∙◌}
use Rattle.std.specs.declared.option.Option.{Option}
use Rattle.board_terms.specs.declared.event.Edge.{Edge}
use Rattle.board_terms.specs.declared.event.HostEvent.{HostEvent}
use Rattle.joint_run.specs.Joint.{Beside, joint_board, joint_pins}
use Rattle.joint_run.specs.Run.{Board, World, after_step, joint_step, seen}
use Rattle.mcs48_core.specs.Cpu.{Cpu}
use Rattle.mcs48_core.specs.Step.{Stepped, entered, executed, row_at, stepped, takes_external, takes_timer}
use Rattle.mcs48_core.specs.declared.levels.Pins.{Pins}

none_after : (d : Board) (w : World d.State) (o : Option Stepped) → is_none (after_step d w o) ≡ is_none o
none_after d w None = refl
none_after d w (Some n) = refl

none_executed : (bytes : List ℕ) (pins : Pins) (m : Cpu) → is_none (executed (row_at bytes m.pc) bytes pins m) ≡ is_none (row_at bytes m.pc)
none_executed bytes pins m =
    elim (row_at bytes m.pc) as (λ r. is_none (executed r bytes pins m) ≡ is_none r) [ None ↦ refl | Some d ↦ refl ]

none_by : (e t : Bool) (x y : Stepped) (o : Option Stepped) → e ≡ false
    → is_none (elim e as (λ b. Option Stepped) [ true ↦ Some x | false ↦ elim t as (λ b. Option Stepped) [ true ↦ Some y | false ↦ o ] ])
    ≡ (not t && is_none o)
none_by true t x y o h = absurd (cc h)
none_by false true x y o h = refl
none_by false false x y o h = refl

pin_high : (a b : Bool) → (a && b && not true) ≡ false
pin_high true true = refl
pin_high true false = refl
pin_high false b = refl

-- the pin INT is high, so that only the timer's interrupt can be entered
none_stepped : (bytes : List ℕ) (pins : Pins) (m : Cpu) → pins.int_pin ≡ true
    → is_none (stepped bytes pins m) ≡ (not (takes_timer m) && is_none (row_at bytes m.pc))
none_stepped bytes pins m high =
    let off : takes_external pins m ≡ false = ap (λ b. not m.svc && m.ext_on && not b) high ∙ pin_high (not m.svc) m.ext_on in
    none_by (takes_external pins m) (takes_timer m) (entered 3 pins m) (entered 7 pins (record m { rq = false }))
    (executed (row_at bytes m.pc) bytes pins m) off
    ∙ ap (λ b. not (takes_timer m) && b) (none_executed bytes pins m)

int_high : (edges : List Edge) (events : List HostEvent) (w : World Beside) → (seen (joint_board edges events) w).int_pin ≡ true
unfolding joint_pins
int_high edges events w = refl

-- no step follows a state exactly if it enters no interrupt and the byte at the counter is an illegal opcode
pub none_step : (edges : List Edge) (events : List HostEvent) (bytes : List ℕ) (w : World Beside)
    → is_none (joint_step (joint_board edges events) bytes w) ≡ (not (takes_timer w.cpu) && is_none (row_at bytes w.cpu.pc))
none_step edges events bytes w =
    let d : Board = joint_board edges events in
    none_after d w (stepped bytes (seen d w) w.cpu) ∙ none_stepped bytes (seen d w) w.cpu (int_high edges events w)
