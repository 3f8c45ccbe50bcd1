-- In each step of a run a look at the clock that follows a row that puts port 2 is late enough.
use Rattle.std.proofs.Common.{◌≡◌, ℕ, List, Bool, true, false, Some, None, refl, ap, sym, ◌∙◌, subst, inl}
use Rattle.mcs48_isa.specs.declared.operation.Decoded.{Decoded}
use Rattle.mcs48_core.specs.Cpu.{Cpu}
use Rattle.mcs48_core.specs.Registers.{past}
use Rattle.mcs48_core.specs.Step.{Stepped, stepped, row_at, effect}
use Rattle.mcs48_core.specs.Timer.{after_timer}
use Rattle.mcs48_core.specs.declared.levels.Pins.{Pins}
use Rattle.fw_kernel.specs.Places.{HasKernel}
use Rattle.law_fw_logic.specs.Executed.{puts_at, looks_at, is_late, LooksLate}
use Rattle.law_fw_logic.proofs.Chain.{stepped_is}
use Rattle.law_fw_logic.proofs.TimerParts.{is_closed}
use Rattle.law_fw_logic.proofs.Following.{Stays, follows}
use Rattle.law_fw_logic.proofs.Image.{row_is}
use Rattle.law_fw_logic.proofs.Placed.{in_service, late_after, late_by, main_at, service_at, ServiceRow}
use Rattle.law_fw_logic.proofs.Turns.{IsMain, IsServing}

-- a row that leaves port 2 asks for nothing
leaves : (r q : Decoded) → puts_at r.op ≡ None
    → is_late r.cycles (puts_at r.op) (looks_at q.op) ≡ true
leaves r q none = ap (λ o. is_late r.cycles o (looks_at q.op)) none

module _ (bytes : List ℕ) (has : HasKernel bytes) (on : Bool) where
  -- the main program leaves port 2
  pub main_late : (m n : Cpu) → IsMain on m → LooksLate bytes m n
  main_late m n h r q is next =
      let row = main_at m.pc h.place in
      let both : Some row.row ≡ Some r = sym (row_is bytes has m.pc row.row row.is) ∙ is in
      let same : row.row ≡ r = cc in
      subst (λ (d : Decoded). is_late d.cycles (puts_at d.op) (looks_at q.op) ≡ true) same
      (leaves row.row q row.none)

  -- and each row of the service that puts it leads to rows that look late, if they look
  abbrev pub left : Decoded → Pins → Cpu → Cpu
  left r pins m = after_timer m.run r.cycles pins (effect r.op bytes pins (past m))

  late_there : (pins : Pins) (m : Cpu) (h : IsServing on m) (row : ServiceRow m.pc) (q : Decoded)
      → is_closed row.row.op ≡ true → row_at bytes (left row.row pins m).pc ≡ Some q
      → is_late row.row.cycles (puts_at row.row.op) (looks_at q.op) ≡ true
  late_there pins m h row q closed next =
      let steady = row.steady closed in
      let low : m.mb ≡ false = ap (λ (s : Stays). s.mb) h.stays in
      let place : in_service (left row.row pins m).pc ≡ true =
      follows in_service row.row.op bytes pins m steady low (row.leads closed) in
      let late : late_after row.row (left row.row pins m).pc ≡ true =
      follows (late_after row.row) row.row.op bytes pins m steady low (row.late closed) in
      let there = service_at (left row.row pins m).pc place in
      let both : Some there.row ≡ Some q = sym (row_is bytes has (left row.row pins m).pc there.row there.is) ∙ next in
      let same : there.row ≡ q = cc in
      subst (λ (d : Decoded). is_late row.row.cycles (puts_at row.row.op) (looks_at d.op) ≡ true) same
      (ap (late_by row.row) (sym there.is) ∙ late)

  -- in the service a look at the clock after a row that puts port 2 is late enough
  pub serve_late : (pins : Pins) (m : Cpu) (n : Stepped) → IsServing on m → stepped bytes pins m ≡ Some n
      → LooksLate bytes m n.cpu
  serve_late pins m n h step r q is next =
      let row = service_at m.pc h.place in
      let at = row_is bytes has m.pc row.row row.is in
      let after : Stepped = record { cpu = left row.row pins m; cycles = row.row.cycles } in
      let made : stepped bytes pins m ≡ Some after =
      stepped_is bytes pins m row.row (inl (ap (λ (s : Stays). s.svc) h.stays)) at in
      let there : Some n ≡ Some after = sym step ∙ made in
      let end : n ≡ after = cc in
      let both : Some row.row ≡ Some r = sym at ∙ is in
      let same : row.row ≡ r = cc in
      let next' : row_at bytes (left row.row pins m).pc ≡ Some q =
      ap (λ (s : Stepped). row_at bytes s.cpu.pc) (sym end) ∙ next in
      subst (λ (d : Decoded). is_late d.cycles (puts_at d.op) (looks_at q.op) ≡ true) same
      (by row next' (is_closed row.row.op) refl)
    where
      by : (row : ServiceRow m.pc) → row_at bytes (left row.row pins m).pc ≡ Some q → (b : Bool)
          → is_closed row.row.op ≡ b → is_late row.row.cycles (puts_at row.row.op) (looks_at q.op) ≡ true
      by row next' true closed = late_there pins m h row q closed next'
      by row next' false way = leaves row.row q (row.quiet way)
