-- From any state at 000 to the first tick start: interrupts and the timer are switched off, and then it is as at power-on.
use Rattle.std.proofs.Common.{◌≡◌, ℕ, List, [], Bool, true, false, not, ◌&&◌, ◌==◌, Some, if◌then◌else◌}
use Rattle.std.proofs.Common.{refl, ap, sym, ◌∙◌, subst, arith, inr, length, drop, get_or}
use Rattle.std.proofs.lemmas.List.{drop_all}
use Rattle.std.specs.declared.option.Option.{Option}
use Rattle.mcs48_isa.specs.declared.operation.Decoded.{Decoded}
use Rattle.mcs48_isa.specs.declared.operation.Op.TheVariants.{Control}
use Rattle.mcs48_isa.specs.declared.operation.ControlOp.{ControlOp}
use Rattle.mcs48_isa.specs.declared.operation.ControlOp.TheVariants.{DisI, DisTcnti, StopTcnt}
use Rattle.mcs48_core.specs.Cpu.{Cpu}
use Rattle.mcs48_core.specs.Registers.{past}
use Rattle.mcs48_core.specs.Step.{Stepped, stepped, executed, entered, effect, row_at, takes_external, takes_timer}
use Rattle.mcs48_core.specs.Timer.{after_timer, counts}
use Rattle.mcs48_core.specs.declared.levels.Pins.{Pins}
use Rattle.mcs48_core.specs.declared.processor.Count.TheVariants.{Off}
use Rattle.fw_kernel.specs.Places.{HasKernel}
use Rattle.fw_kernel.specs.declared.labels.TheConstants.{TICK}
use Rattle.joint_run.specs.Run.{Board, World, after_cycles, seen}
use Rattle.joint_run.specs.Starts.{Comes}
use Rattle.law_fw_logic.proofs.Block.{before}
use Rattle.law_fw_logic.proofs.Laws.{comes_by}
use Rattle.law_fw_logic.proofs.Memory.{drop_is}
use Rattle.law_fw_logic.proofs.Short.{has_rows}
use Rattle.law_fw_logic.proofs.Starting.{IsFirst, by_back}

-- with the timer's interrupt disabled an overflow latches no request
never : (a b : Bool) → (if a && b && false then true else false) ≡ false
never true true = refl
never true false = refl
never false b = refl

none_external : (pins : Pins) (m : Cpu) → pins.int_pin ≡ true → takes_external pins m ≡ false
none_external pins m e = ap (λ b. not m.svc && m.ext_on && not b) e ∙ by (not m.svc) m.ext_on
  where
    by : (a b : Bool) → (a && b && false) ≡ false
    by true true = refl
    by true false = refl
    by false b = refl

disabled : (b r : Bool) → (b && false && r) ≡ false
disabled true r = refl
disabled false r = refl

-- the step of a processor that enters no interrupt
quiet_step : (bytes : List ℕ) (pins : Pins) (m : Cpu) (r : Decoded) → takes_external pins m ≡ false
    → takes_timer m ≡ false → row_at bytes m.pc ≡ Some r
    → stepped bytes pins m
    ≡ Some (record { cpu = after_timer m.run r.cycles pins (effect r.op bytes pins (past m)); cycles = r.cycles })
quiet_step bytes pins m r external timer row =
    ap (λ x. elim x as (λ v. Option Stepped) [
      | true ↦ Some (entered 3 pins m)
      | false ↦ elim (takes_timer m) as (λ v. Option Stepped) [
        | true ↦ Some (entered 7 pins (record m { rq = false }))
        | false ↦ executed (row_at bytes m.pc) bytes pins m
      ]
    ]) external
    ∙ ap (λ x. elim x as (λ v. Option Stepped) [
      | true ↦ Some (entered 7 pins (record m { rq = false }))
      | false ↦ executed (row_at bytes m.pc) bytes pins m
    ]) timer
    ∙ ap (λ o. executed o bytes pins m) row

module _ (d : Board) (bytes : List ℕ) (has : HasKernel bytes)
    (high : (p1 p2 c : ℕ) (s : d.State) → (d.pins p1 p2 c s).int_pin ≡ true) (f : ℕ → ℕ) (board : d.State) where
  -- at a place of the first three, with both wires let go and the clock's output off
  abbrev at_place : ℕ → Cpu → Cpu
  at_place pc k = record k { pc = pc; ram = before f 0 128 []; clk = false; p2 = 255 }

  abbrev world : ℕ → Cpu → World d.State
  world n m = record { cpu = m; board = after_cycles n 0 (d.cycle 255) board; cycle = n }

  abbrev First : World d.State → Type 0
  First w = IsFirst d bytes board w

  abbrev control_row : ControlOp → Decoded
  control_row op = record { op = Control op; len = 1; cycles = 1 }

  -- no interrupt can come any more, and the timer stands still: the rest is a path
  abbrev still : Cpu → Cpu
  still k = record (at_place 3 k) { run = Off; ext_on = false; tim_on = false; rq = false }

  from_still : (k : Cpu) → Comes d TICK bytes (world 3 (still k)) First
  from_still k =
      by_back d bytes has k f board
      (record { cpu = still k; board = after_cycles 3 0 (d.cycle 255) board; off = 3 }) (refl, refl, refl)
      (inr (refl, refl))

  -- the timer is stopped
  abbrev disarmed : Cpu → Cpu
  disarmed k = record (at_place 2 k) { ext_on = false; tim_on = false; rq = false }

  from_disarmed : (k : Cpu) → Comes d TICK bytes (world 2 (disarmed k)) First
  from_disarmed k =
      let m : Cpu = disarmed k in
      let pins = seen d (world 2 m) in
      let r = control_row StopTcnt in
      let n : Cpu = after_timer m.run 1 pins (effect r.op bytes pins (past m)) in
      let calm : n ≡ still n =
      ap (λ q. record n { rq = q })
      (never (counts m.run Off 1 pins.t1 (effect r.op bytes pins (past m))) (k.t == 255)) in
      comes_by d TICK bytes First (world 2 m) (record { cpu = n; cycles = 1 }) refl
      (quiet_step bytes pins m r (none_external pins m (high m.p1 m.p2 2 (world 2 m).board))
      (disabled (not m.svc) m.rq) (has_rows true bytes has 2 r refl).0)
      (subst (λ c. Comes d TICK bytes (world 3 c) First) (sym calm) (from_still n))

  -- the external interrupt is disabled
  abbrev untimed : Cpu → Cpu
  untimed k = record (at_place 1 k) { tim_on = false; rq = false }

  from_untimed : (k : Cpu) → Comes d TICK bytes (world 1 (untimed k)) First
  from_untimed k =
      let m : Cpu = untimed k in
      let pins = seen d (world 1 m) in
      let r = control_row DisI in
      let n : Cpu = after_timer m.run 1 pins (effect r.op bytes pins (past m)) in
      let calm : n ≡ disarmed n =
      ap (λ q. record n { rq = q })
      (never (counts m.run m.run 1 pins.t1 (effect r.op bytes pins (past m))) (k.t == 255)) in
      comes_by d TICK bytes First (world 1 m) (record { cpu = n; cycles = 1 }) refl
      (quiet_step bytes pins m r (none_external pins m (high m.p1 m.p2 1 (world 1 m).board))
      (disabled (not m.svc) m.rq) (has_rows true bytes has 1 r refl).0)
      (subst (λ c. Comes d TICK bytes (world 2 c) First) (sym calm) (from_disarmed n))

  -- the timer's interrupt is disabled
  from_zero : (k : Cpu) → takes_timer k ≡ false → Comes d TICK bytes (world 0 (at_place 0 k)) First
  from_zero k none =
      let m : Cpu = at_place 0 k in
      let pins = seen d (world 0 m) in
      let r = control_row DisTcnti in
      let n : Cpu = after_timer m.run 1 pins (effect r.op bytes pins (past m)) in
      let calm : n ≡ untimed n =
      ap (λ q. record n { rq = q })
      (never (counts m.run m.run 1 pins.t1 (effect r.op bytes pins (past m))) (k.t == 255)) in
      comes_by d TICK bytes First (world 0 m) (record { cpu = n; cycles = 1 }) refl
      (quiet_step bytes pins m r (none_external pins m (high m.p1 m.p2 0 board)) none
      (has_rows true bytes has 0 r refl).0)
      (subst (λ c. Comes d TICK bytes (world 1 c) First) (sym calm) (from_untimed n))

-- whatever the processor holds, if it enters no interrupt there, pulls no wire and lights no light
pub restarts : (d : Board) (bytes : List ℕ) → HasKernel bytes
    → ((p1 p2 c : ℕ) (s : d.State) → (d.pins p1 p2 c s).int_pin ≡ true) → (m : Cpu) → length m.ram ≡ 128 → m.pc ≡ 0
    → m.clk ≡ false → m.p2 ≡ 255 → takes_timer m ≡ false → (board : d.State)
    → Comes d TICK bytes (record { cpu = m; board = board; cycle = 0 }) (IsFirst d bytes board)
restarts d bytes has high m long zero silent released none board =
    let f : ℕ → ℕ = λ i. get_or m.ram i 0 in
    let end : drop 128 m.ram ≡ [] = drop_all 128 m.ram (omega (arith, long)) in
    let cells : m.ram ≡ before f 0 128 [] =
    drop_is m.ram 0 128 (omega (arith, long)) ∙ ap (λ r. before f 0 128 r) end in
    let same : m ≡ at_place d bytes has high f board 0 m =
    ap (λ v. record m { pc = v }) zero ∙ ap (λ v. record m { pc = 0; ram = v }) cells
    ∙ ap (λ v. record m { pc = 0; ram = before f 0 128 []; clk = v }) silent
    ∙ ap (λ v. record m { pc = 0; ram = before f 0 128 []; clk = false; p2 = v }) released in
    subst (λ c. Comes d TICK bytes (record { cpu = c; board = board; cycle = 0 }) (IsFirst d bytes board)) (sym same)
    (from_zero d bytes has high f board m none)
