-- From power-on to the first tick start.
use Rattle.std.proofs.Common.{◌≡◌, ◌≤◌, ℕ, ◌+◌, ◌*◌, List, [], ◌∷◌, Bool, true, false, refl, ap, sym, ◌∙◌, subst}
use Rattle.std.proofs.Common.{arith, inr, slice_index, length, drop, get_or}
use Rattle.std.proofs.lemmas.List.{drop_all}
use Rattle.mcs48_isa.specs.declared.operation.Decoded.{Decoded}
use Rattle.mcs48_isa.specs.declared.operation.FlowOp.TheVariants.{Retr}
use Rattle.mcs48_isa.specs.declared.operation.Op.TheVariants.{Control, Flow}
use Rattle.mcs48_isa.specs.declared.operation.ControlOp.TheVariants.{EnTcnti, StrtT}
use Rattle.mcs48_core.specs.Cpu.{Cpu}
use Rattle.mcs48_core.specs.Reset.{reset_cpu, reset_in}
use Rattle.mcs48_core.specs.Step.{executed}
use Rattle.fw_kernel.specs.Tables.{rate_at}
use Rattle.fw_kernel.specs.declared.cells.TheConstants.{R1, TEST, RATE, LAST}
use Rattle.fw_kernel.specs.declared.labels.TheConstants.{TICK, PAUSE, RESTART, BLANK}
use Rattle.fw_kernel.specs.Places.{HasKernel}
use Rattle.joint_run.specs.Run.{Board, World, after_cycles, seen}
use Rattle.joint_run.specs.Starts.{Comes}
use Rattle.law_fw_logic.specs.Boards.{power_on}
use Rattle.law_fw_logic.proofs.Path.{Stage, Until, Path, world_at}
use Rattle.law_fw_logic.proofs.Kernel.{kernel_in}
use Rattle.law_fw_logic.proofs.Block.{put, before}
use Rattle.law_fw_logic.proofs.TimerParts.{IsFree}
use Rattle.law_fw_logic.proofs.Blocks.{ticks_add}
use Rattle.law_fw_logic.proofs.Memory.{drop_is}
use Rattle.law_fw_logic.proofs.Sound.{sound, stepped_is}
use Rattle.law_fw_logic.proofs.Laws.{comes_by, comes_then, comes_as}
use Rattle.law_fw_logic.proofs.Short.{has_rows}
use Rattle.law_fw_logic.proofs.Service.{waiting, plain, begun}
use Rattle.law_fw_logic.proofs.Frame.{IsBegun, begins}

-- data memory once it is cleared
abbrev pub empty : ℕ → ℕ
empty i = 0

abbrev pub empty_ring : List ℕ
empty_ring = 0 ∷ 0 ∷ 0 ∷ 0 ∷ 0 ∷ 0 ∷ 0 ∷ 0 ∷ 0 ∷ 0 ∷ 0 ∷ 0 ∷ 0 ∷ 0 ∷ 0 ∷ 0 ∷ []

-- and before the first tick: TEST, LAST and RATE are set
abbrev pub powered : List ℕ → ℕ → ℕ
powered bytes = put (put (put (put empty TEST 64) LAST 170) RATE (slice_index bytes rate_at)) R1 RATE

-- a processor after reset, but for the bus latch, F1 and the timer's flag, which are another's
abbrev pub reset_by : Cpu → Cpu
reset_by k = record reset_cpu { bus = k.bus; f1 = k.f1; tf = k.tf }

-- the first tick start: the latches of both ports are as after reset; data memory is cleared but for what power-on sets
-- and the way back
pub record IsFirst (d : Board) (bytes : List ℕ) (board : d.State) (w : World d.State) : Type 0 where
  pub late : ℕ
  pub tf : Bool
  pub last : Bool
  pub base : Cpu
  pub is : w ≡ record {
    cpu = begun late tf last (powered bytes) empty_ring (record (reset_by base) { a = 142 });
    board = after_cycles (4096 + late) 0 (d.cycle 255) board;
    cycle = 4096 + late;
  }
  pub most : late ≤ 1

module _ (d : Board) (bytes : List ℕ) (has : HasKernel bytes) where
  -- a processor with these cells, after reset
  abbrev reset_with : Cpu → (ℕ → ℕ) → Cpu
  reset_with m f = record (reset_in (record m { ram = before f 0 128 [] })) { svc = m.svc }

  abbrev pub reset_at : Cpu → (ℕ → ℕ) → d.State → Stage d.State
  reset_at m f board = record { cpu = reset_with m f; board = board; off = 0 }

  -- the way back to `blank` is on the stack, and RETR is next
  abbrev pub back_cells : (ℕ → ℕ) → ℕ → ℕ
  back_cells f = put (put (put f 0 9) 8 187) 9 2

  abbrev pub back_cpu : Cpu → (ℕ → ℕ) → Bool → Cpu
  back_cpu m f last = record (reset_by m) {
    pc = RESTART + 14;
    a = 1;
    sp = 1;
    ram = before (back_cells f) 0 128 [];
    t = m.t;
    pre = m.pre;
    svc = m.svc;
    last_t1 = last;
  }

  abbrev pub IsBack : Cpu → (ℕ → ℕ) → d.State → Stage d.State → Type 0
  IsBack m f board e =
      (e.cpu ≡ back_cpu m f e.cpu.last_t1) × (e.off ≡ 23) × (e.board ≡ after_cycles 23 0 (d.cycle 255) board)

  -- at `blank` nothing is on the stack, and no interrupt is in service
  abbrev pub blank_at : Cpu → (ℕ → ℕ) → Bool → d.State → Stage d.State
  blank_at m f last board = record {
    cpu = record (reset_by m) {
      pc = BLANK;
      a = 1;
      ram = before (back_cells f) 0 128 [];
      t = m.t;
      pre = m.pre;
      last_t1 = last;
    };
    board = after_cycles 25 0 (d.cycle 255) board;
    off = 25;
  }

  returns : (m : Cpu) (f : ℕ → ℕ) (board : d.State) (last : Bool) (Q : World d.State → Type 0)
      → ((last' : Bool) → Comes d TICK bytes (world_at 0 (blank_at m f last' board)) Q)
      → Comes d TICK bytes
      (record { cpu = back_cpu m f last; board = after_cycles 23 0 (d.cycle 255) board; cycle = 23 }) Q
  returns m f board last Q rest =
      let at : World d.State =
      record { cpu = back_cpu m f last; board = after_cycles 23 0 (d.cycle 255) board; cycle = 23 } in
      let r : Decoded = record { op = Flow Retr; len = 1; cycles = 2 } in
      let row = (has_rows true bytes has (RESTART + 14) r refl).0 in
      comes_by d TICK bytes Q at (record { cpu = (blank_at m f (seen d at).t1 board).cpu; cycles = 2 }) refl
      (stepped_is bytes (seen d at) at.cpu r (inr (refl, refl)) row) (rest (seen d at).t1)

  -- the timer is written and stands still; its interrupt isn't enabled yet, and no request is latched
  abbrev set_cpu : Cpu → Bool → Cpu
  set_cpu k last =
      record (plain (powered bytes) empty_ring (reset_by k)) { pc = PAUSE + 2; a = 142; t = 142; pre = k.pre; last_t1 = last }

  abbrev IsSet : Cpu → d.State → Stage d.State → Type 0
  IsSet k board e =
      (e.cpu ≡ set_cpu k e.cpu.last_t1) × (e.off ≡ 444) × (e.board ≡ after_cycles 444 0 (d.cycle 255) board)

  sets : (m : Cpu) (f : ℕ → ℕ) (board : d.State) (last : Bool)
      → Path d (kernel_in false bytes) 0 (Until (PAUSE + 2) ∷ []) (blank_at m f last board) (IsSet m board)
  sets m f board last = (refl, refl, refl)

  -- EN TCNTI and STRT T
  starts : (k : Cpu) (board : d.State) (last : Bool) (Q : World d.State → Type 0)
      → ((last' : Bool) → Comes d TICK bytes (record {
        cpu = waiting 142 0 k.tf last' false (plain (powered bytes) empty_ring (record (reset_by k) { a = 142 }));
        board = after_cycles 446 0 (d.cycle 255) board;
        cycle = 446;
      }) Q)
      → Comes d TICK bytes
      (record { cpu = set_cpu k last; board = after_cycles 444 0 (d.cycle 255) board; cycle = 444 }) Q
  starts k board last Q rest =
      let at : World d.State =
      record { cpu = set_cpu k last; board = after_cycles 444 0 (d.cycle 255) board; cycle = 444 } in
      let pins = seen d at in
      let on : Cpu = record (set_cpu k pins.t1) { pc = PAUSE + 3; tim_on = true } in
      let next : World d.State = record { cpu = on; board = after_cycles 445 0 (d.cycle 255) board; cycle = 445 } in
      let row = (has_rows true bytes has (PAUSE + 2) (record { op = Control EnTcnti; len = 1; cycles = 1 }) refl).0 in
      let row' = (has_rows true bytes has (PAUSE + 3) (record { op = Control StrtT; len = 1; cycles = 1 }) refl).0 in
      comes_by d TICK bytes Q at (record { cpu = on; cycles = 1 }) refl
      (stepped_is bytes pins at.cpu (record { op = Control EnTcnti; len = 1; cycles = 1 }) (inr (refl, refl)) row)
      (comes_by d TICK bytes Q next (record {
        cpu = waiting 142 0 k.tf (seen d next).t1 false
            (plain (powered bytes) empty_ring (record (reset_by k) { a = 142 }));
        cycles = 1;
      }) refl (ap (λ r. executed r bytes (seen d next) on) row') (rest (seen d next).t1))

  from_blank : (m : Cpu) (f : ℕ → ℕ) (board : d.State) (last : Bool)
      → Comes d TICK bytes (world_at 0 (blank_at m f last board)) (IsFirst d bytes board)
  from_blank m f board last =
      let h =
      sound d (kernel_in false bytes) (has_rows false bytes has) 0 (Until (PAUSE + 2) ∷ []) (IsSet m board)
      (blank_at m f last board) (sets m f board last) (inr (refl, refl)) in
      let k : Cpu = record (reset_by m) { a = 142 } in
      let b : d.State = after_cycles 446 0 (d.cycle 255) board in
      let e = h.end in
      let same : world_at 0 e
      ≡ record { cpu = set_cpu m e.cpu.last_t1; board = after_cycles 444 0 (d.cycle 255) board; cycle = 444 } =
      ap (λ c. world_at 0 (record { cpu = c; board = e.board; off = e.off })) h.goal.0
      ∙ ap (λ o. world_at 0 (record { cpu = set_cpu m e.cpu.last_t1; board = e.board; off = o })) h.goal.1
      ∙ ap (λ v. world_at 0 (record { cpu = set_cpu m e.cpu.last_t1; board = v; off = 444 })) h.goal.2 in
      comes_then d TICK bytes (λ w. w ≡ world_at 0 e) (IsFirst d bytes board)
      (world_at 0 (blank_at m f last board))
      (record { steps = h.steps; end = world_at 0 e; run = h.run; goal = refl })
      (λ w is. subst (λ v. Comes d TICK bytes v (IsFirst d bytes board)) (sym (is ∙ same))
      (starts m board e.cpu.last_t1 (IsFirst d bytes board)
      (λ last.
      comes_as d TICK bytes (IsBegun d (powered bytes) empty_ring k b 446 (32 * 142 + 0)) (IsFirst d bytes board)
      (record { cpu = waiting 142 0 m.tf last false (plain (powered bytes) empty_ring k); board = b; cycle = 446 })
      (λ v i.
      let c : Cpu = begun i.late i.tf i.last (powered bytes) empty_ring k in
      let time : 4544 + i.waited ≡ 8194 + i.late = i.time in
      let all : 446 + i.waited ≡ 4096 + i.late = omega (arith, time) in
      record {
        late = i.late;
        tf = i.tf;
        last = i.last;
        base = m;
        is =
            i.is ∙ ap (λ v. record { cpu = c; board = v; cycle = 446 + i.waited })
            (sym (ticks_add 446 i.waited 0 (d.cycle 255) board))
            ∙ ap (λ n. record { cpu = c; board = after_cycles n 0 (d.cycle 255) board; cycle = n }) all;
        most = i.most;
      })
      (begins d bytes has (powered bytes) empty_ring k b 446 142 0 m.tf last (omega arith) (omega arith)))))

  -- a state by its parts, and a run from a state that is another
  world_as : (e : Stage d.State) (c : Cpu) (n : ℕ) (b : d.State) → e.cpu ≡ c → e.off ≡ n → e.board ≡ b
      → world_at 0 e ≡ record { cpu = c; board = b; cycle = 0 + n }
  world_as e c n b cpu off board =
      ap (λ c. record { cpu = c; board = e.board; cycle = 0 + e.off }) cpu
      ∙ ap (λ n. record { cpu = c; board = e.board; cycle = 0 + n }) off
      ∙ ap (λ b. record { cpu = c; board = b; cycle = 0 + n }) board

  comes_at : (v w : World d.State) → w ≡ v → (board : d.State) → Comes d TICK bytes v (IsFirst d bytes board)
      → Comes d TICK bytes w (IsFirst d bytes board)
  comes_at v w is board h = subst (λ u. Comes d TICK bytes u (IsFirst d bytes board)) (sym is) h

  -- a stage whose path comes there
  pub by_back : (k : Cpu) (f : ℕ → ℕ) (board : d.State) (s : Stage d.State)
      → Path d (kernel_in false bytes) 0 (Until (RESTART + 14) ∷ []) s (IsBack k f board) → IsFree s.cpu
      → Comes d TICK bytes (world_at 0 s) (IsFirst d bytes board)
  by_back k f board s path free =
      let h = sound d (kernel_in false bytes) (has_rows false bytes has) 0 (Until (RESTART + 14) ∷ []) (IsBack k f board)
      s path free in
      let e = h.end in
      let there : World d.State =
      record { cpu = back_cpu k f e.cpu.last_t1; board = after_cycles 23 0 (d.cycle 255) board; cycle = 23 } in
      let same : world_at 0 e ≡ there =
      world_as e (back_cpu k f e.cpu.last_t1) 23 (after_cycles 23 0 (d.cycle 255) board) h.goal.0 h.goal.1 h.goal.2 in
      comes_then d TICK bytes (λ w. w ≡ world_at 0 e) (IsFirst d bytes board) (world_at 0 s)
      (record { steps = h.steps; end = world_at 0 e; run = h.run; goal = refl })
      (λ w is. comes_at (world_at 0 e) w is board (comes_at there (world_at 0 e) same board
      (returns k f board e.cpu.last_t1 (IsFirst d bytes board) (λ last. from_blank k f board last))))

  first_from : (m : Cpu) (f : ℕ → ℕ) (board : d.State)
      → Comes d TICK bytes (world_at 0 (reset_at m f board)) (IsFirst d bytes board)
  first_from m f board =
      by_back (reset_with m f) f board (reset_at m f board) (refl, refl, refl) (inr (refl, refl))

  -- so it is whatever the processor held before
  pub first_start : (m : Cpu) → length m.ram ≡ 128 → (board : d.State)
      → Comes d TICK bytes (power_on d m board) (IsFirst d bytes board)
  first_start m long board =
      let end : drop 128 m.ram ≡ [] = drop_all 128 m.ram (omega (arith, long)) in
      let cells : m.ram ≡ before (λ i. get_or m.ram i 0) 0 128 [] =
      drop_is m.ram 0 128 (omega (arith, long)) ∙ ap (λ r. before (λ i. get_or m.ram i 0) 0 128 r) end in
      subst (λ (r : List ℕ). Comes d TICK bytes (power_on d (record m { ram = r }) board) (IsFirst d bytes board))
      (sym cells) (first_from m (λ i. get_or m.ram i 0) board)
