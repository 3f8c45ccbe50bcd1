-- A step at the kernel's places: the main program goes on or is interrupted, the service goes on or ends.
use Rattle.std.proofs.Common.{◌≡◌, ◌⊎◌, ℕ, ◌+◌, ◌*◌, ◌%◌, List, Bool, true, false, not, ◌&&◌}
use Rattle.std.proofs.Common.{Some, slice_index, refl, ap, sym, ◌∙◌, subst, arith, inl, inr}
use Rattle.std.specs.declared.option.Option.{Option}
use Rattle.mcs48_isa.specs.declared.operation.Decoded.{Decoded}
use Rattle.mcs48_isa.specs.declared.operation.Op.TheVariants.{Flow}
use Rattle.mcs48_isa.specs.declared.operation.FlowOp.TheVariants.{Retr}
use Rattle.mcs48_core.specs.declared.levels.Pins.{Pins}
use Rattle.mcs48_core.specs.Cpu.{Cpu}
use Rattle.mcs48_core.specs.Registers.{past}
use Rattle.mcs48_core.specs.Timer.{after_timer}
use Rattle.mcs48_core.specs.Step.{Stepped, stepped, executed, entered, row_at, effect, takes_external, takes_timer}
use Rattle.fw_kernel.specs.declared.labels.TheConstants.{TICK, WAIT, DONE}
use Rattle.fw_kernel.specs.Places.{HasKernel}
use Rattle.law_fw_logic.specs.Executed.{IsFit}
use Rattle.law_fw_logic.proofs.Chain.{stepped_is}
use Rattle.law_fw_logic.proofs.Following.{Stays, stays_of, effect_stays, effect_column, follows}
use Rattle.law_fw_logic.proofs.Image.{row_is}
use Rattle.law_fw_logic.proofs.TimerParts.{is_closed}
use Rattle.law_fw_logic.proofs.Leads.{LetsNone}
use Rattle.law_fw_logic.proofs.Placed.{in_main, in_service, is_later_than, main_at, service_at, main_text, service_text}
use Rattle.law_fw_logic.proofs.Written.{text_is}

-- in the main program: no service, nothing on the stack; and in the service, with its way back on it. The external
-- interrupt is off, the memory bank is the lower, and the clock's output is on or off
abbrev pub main_stays : Bool → Stays
main_stays on = record { svc = false; mb = false; ext_on = false; clk = on; sp = 0 }

abbrev pub service_stays : Bool → Stays
service_stays on = record { svc = true; mb = false; ext_on = false; clk = on; sp = 1 }

pub record IsMain (on : Bool) (m : Cpu) : Type 0 where
  pub place : in_main m.pc ≡ true
  pub stays : stays_of m ≡ main_stays on

pub record IsServing (on : Bool) (m : Cpu) : Type 0 where
  pub place : in_service m.pc ≡ true
  pub stays : stays_of m ≡ service_stays on

-- with the output off either is fit
module _ (bytes : List ℕ) (has : HasKernel bytes) where
  -- in the main program what is executed next is fit
  pub main_fit : (m : Cpu) → IsMain false m → IsFit bytes m
  main_fit m h =
      let r = main_at m.pc h.place in
      let depth : m.sp ≡ 0 = ap (λ (s : Stays). s.sp) h.stays in
      record {
        place = r.low;
        text = text_is bytes has m.pc r.low (main_text m.pc h.place);
        row = r.row;
        is = row_is bytes has m.pc r.row r.is;
        allowed = r.allowed;
        depth = omega (arith, depth);
        silent = ap (λ (s : Stays). s.clk) h.stays;
      }

  -- in the service what is executed next is fit
  pub service_fit : (m : Cpu) → IsServing false m → IsFit bytes m
  service_fit m h =
      let r = service_at m.pc h.place in
      let depth : m.sp ≡ 1 = ap (λ (s : Stays). s.sp) h.stays in
      record {
        place = r.low;
        text = text_is bytes has m.pc r.low (service_text m.pc h.place);
        row = r.row;
        is = row_is bytes has m.pc r.row r.is;
        allowed = r.allowed;
        depth = omega (arith, depth);
        silent = ap (λ (s : Stays). s.clk) h.stays;
      }

module _ (bytes : List ℕ) (has : HasKernel bytes) (on : Bool) where
  -- the processor after a row
  abbrev left : Decoded → Pins → Cpu → Cpu
  left r pins m = after_timer m.run r.cycles pins (effect r.op bytes pins (past m))

  left_is : (r : Decoded) (pins : Pins) (m : Cpu) (n : Stepped) → row_at bytes m.pc ≡ Some r
      → executed (row_at bytes m.pc) bytes pins m ≡ Some n → left r pins m ≡ n.cpu
  left_is r pins m n row h =
      let e : executed (Some r) bytes pins m ≡ Some n = subst (λ o. executed o bytes pins m ≡ Some n) row h in
      let same : record { cpu = left r pins m; cycles = r.cycles } ≡ n = cc in
      ap (λ (s : Stepped). s.cpu) same

  -- the main program goes on, or the timer's interrupt is entered
  abbrev GoesOn : Cpu → Cpu → Type 0
  GoesOn m n = (IsMain on n × (n.p1 ≡ m.p1)) ⊎ (IsServing on n × (n.pc ≡ TICK) × (n.p1 ≡ m.p1))

  main_row : (pins : Pins) (m : Cpu) (n : Stepped) → IsMain on m → executed (row_at bytes m.pc) bytes pins m ≡ Some n
      → GoesOn m n.cpu
  main_row pins m n h e =
      let r = main_at m.pc h.place in
      let low : m.mb ≡ false = ap (λ (s : Stays). s.mb) h.stays in
      let row = row_is bytes has m.pc r.row r.is in
      subst (λ c. GoesOn m c) (left_is r.row pins m n row e)
      (inl (
        record {
          place = follows in_main r.row.op bytes pins m r.steady low r.leads;
          stays = effect_stays r.row.op bytes pins (past m) r.steady ∙ h.stays;
        },
        effect_column r.row.op bytes pins (past m) r.column,
      ))

  none_external : (pins : Pins) (m : Cpu) → m.ext_on ≡ false → takes_external pins m ≡ false
  none_external pins m off = ap (λ b. not m.svc && b && not pins.int_pin) off ∙ by (not m.svc) (not pins.int_pin)
    where
      by : (a b : Bool) → (a && false && b) ≡ false
      by true b = refl
      by false b = refl

  -- a step of the main program goes on in it, or enters the timer's interrupt at a tick start
  pub main_step : (pins : Pins) (m : Cpu) (n : Stepped) → IsMain on m → stepped bytes pins m ≡ Some n → GoesOn m n.cpu
  main_step pins m n h step =
      by (takes_external pins m) (takes_timer m)
      (none_external pins m (ap (λ (s : Stays). s.ext_on) h.stays)) step
    where
      by : (x y : Bool) → x ≡ false
          → (elim x as (λ v. Option Stepped) [
            | true ↦ Some (entered 3 pins m)
            | false ↦ elim y as (λ v. Option Stepped) [
              | true ↦ Some (entered 7 pins (record m { rq = false }))
              | false ↦ executed (row_at bytes m.pc) bytes pins m
            ]
          ]) ≡ Some n
          → GoesOn m n.cpu
      by true y off e = absurd cc
      by false false off e = main_row pins m n h e
      by false true off e =
          let is : entered 7 pins (record m { rq = false }) ≡ n = cc in
          let enter : Stays → Stays = λ s.
          record { svc = true; mb = s.mb; ext_on = s.ext_on; clk = s.clk; sp = (s.sp + 1) % 8 } in
          subst (λ (s : Stepped). GoesOn m s.cpu) is
          (inr (record { place = refl; stays = ap enter h.stays }, refl, refl))

  -- the service goes on, and after the reading of the columns port 1 stays
  pub serve_step : (pins : Pins) (m : Cpu) (n : Stepped) → IsServing on m → LetsNone bytes m
      → stepped bytes pins m ≡ Some n
      → IsServing on n.cpu
      × (is_later_than m.pc ≡ true → (is_later_than n.cpu.pc ≡ true) × (n.cpu.p1 ≡ m.p1))
  serve_step pins m n h lets step =
      let r = service_at m.pc h.place in
      let low : m.mb ≡ false = ap (λ (s : Stays). s.mb) h.stays in
      let row = row_is bytes has m.pc r.row r.is in
      let here : Some r.row ≡ Some lets.row = sym row ∙ lets.is in
      let same : r.row ≡ lets.row = cc in
      let closed = ap (λ (d : Decoded). is_closed d.op) same ∙ lets.closed in
      let steady = r.steady closed in
      let after : Stepped = record { cpu = left r.row pins m; cycles = r.row.cycles } in
      let made : stepped bytes pins m ≡ Some after =
      stepped_is bytes pins m r.row (inl (ap (λ (s : Stays). s.svc) h.stays)) row in
      let there : Some after ≡ Some n = sym made ∙ step in
      let is : after ≡ n = cc in
      subst (λ (s : Stepped). IsServing on s.cpu
      × (is_later_than m.pc ≡ true → (is_later_than s.cpu.pc ≡ true) × (s.cpu.p1 ≡ m.p1))) is (
        record {
          place = follows in_service r.row.op bytes pins m steady low (r.leads closed);
          stays = effect_stays r.row.op bytes pins (past m) steady ∙ h.stays;
        },
        λ late.
            let c = r.column closed late in (
              follows is_later_than r.row.op bytes pins m steady low c.1,
              effect_column r.row.op bytes pins (past m) c.0,
            ),
      )

  -- the service ends: RETR goes back to the waiting loop
  pub back_step : (pins : Pins) (m : Cpu) (n : Stepped) → IsServing on m → m.pc ≡ DONE → slice_index m.ram 8 ≡ WAIT
      → slice_index m.ram 9 ≡ 16 → stepped bytes pins m ≡ Some n → IsMain on n.cpu × (n.cpu.p1 ≡ m.p1)
  back_step pins m n h at low high step =
      let r : Decoded = record { op = Flow Retr; len = 1; cycles = 2 } in
      let row : row_at bytes m.pc ≡ Some r = ap (row_at bytes) at ∙ row_is bytes has DONE r refl in
      let sp : m.sp ≡ 1 = ap (λ (s : Stays). s.sp) h.stays in
      let after : Stepped = record { cpu = left r pins m; cycles = 2 } in
      let made : stepped bytes pins m ≡ Some after =
      stepped_is bytes pins m r (inl (ap (λ (s : Stays). s.svc) h.stays)) row in
      let there : Some after ≡ Some n = sym made ∙ step in
      let is : after ≡ n = cc in
      let leave : Stays → Stays = λ s.
      record { svc = false; mb = s.mb; ext_on = s.ext_on; clk = s.clk; sp = (s.sp + 7) % 8 } in
      let to : ℕ → ℕ → ℕ = λ u v. v % 16 * 256 + u in
      let place : after.cpu.pc ≡ WAIT =
      ap (λ s. to (slice_index m.ram (8 + 2 * ((s + 7) % 8))) (slice_index m.ram (9 + 2 * ((s + 7) % 8)))) sp
      ∙ ap (λ u. to u (slice_index m.ram 9)) low ∙ ap (to WAIT) high in
      subst (λ (s : Stepped). IsMain on s.cpu × (s.cpu.p1 ≡ m.p1)) is
      (record { place = ap in_main place; stays = ap leave h.stays }, refl)
