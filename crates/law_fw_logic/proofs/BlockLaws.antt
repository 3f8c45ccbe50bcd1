-- The blocks' laws at any working processor, in the words of the joint run.
use Rattle.std.proofs.Common.{◌≡◌, ◌≤◌, ◌<◌, ℕ, ◌+◌, ◌-◌, List, Bool, true, false, ◌&&◌, ◌||◌, ◌==◌}
use Rattle.std.proofs.Common.{nat_le, nat_lt, leb, length, drop, get_or, slice_index, bit_xor, refl, ap, sym, ◌∙◌}
use Rattle.std.proofs.Common.{subst, arith, add-zero}
use Rattle.std.proofs.lemmas.Bool.Decides.{nat_tests}
use Rattle.mcs48_core.specs.Cpu.{Cpu}
use Rattle.fw_kernel.specs.declared.cells.TheConstants.{LIGHTS, R0, R1, R2, R3, R6, HELD, CHANGED}
use Rattle.fw_kernel.specs.declared.labels.TheConstants.{TICK, READ, OFFER, LAMPS, TESTED, LOOKS}
use Rattle.fw_kernel.specs.Places.{HasKernel}
use Rattle.joint_run.specs.Run.{Board, World, after_cycles}
use Rattle.joint_run.specs.Starts.{Comes}
use Rattle.law_fw_logic.specs.Scan.{in_tick}
use Rattle.law_fw_logic.specs.Blocks.{IsAt, is_read, ReadsColumns, PutsLights, Looks, is_looking, clock_seen, data_seen, way}
use Rattle.law_fw_logic.specs.Blocks.{way_time}
use Rattle.law_fw_logic.proofs.TimerParts.{IsFree}
use Rattle.law_fw_logic.proofs.Path.{world_at}
use Rattle.law_fw_logic.proofs.Leads.{Leads}
use Rattle.law_fw_logic.proofs.Kernel.{kernel_in}
use Rattle.law_fw_logic.proofs.Block.{put, memory, scratched, begin_at, At}
use Rattle.law_fw_logic.proofs.Memory.{memory_is}
use Rattle.law_fw_logic.proofs.Cells.{cell, put_other, after_cells, cells_long}
use Rattle.law_fw_logic.proofs.Columns.{ready, scanned, shows, shows_is, columns}
use Rattle.law_fw_logic.proofs.Looks.{readied, lamps, looks_pulled, looks_got, looks_free}
use Rattle.law_fw_logic.proofs.Scanned.{held_cell, changed_cell}

-- where none of four tests holds, each fails
none_of_four : (a b c p : Bool) → (a || b || c || p) ≡ false → (a ≡ false) × (b ≡ false) × (c ≡ false) × (p ≡ false)
none_of_four false false false false h = (refl, refl, refl, refl)
none_of_four true b c p h = absurd cc
none_of_four false true c p h = absurd cc
none_of_four false false true p h = absurd cc
none_of_four false false false true h = absurd cc

readied_others : (f : ℕ → ℕ) (i : ℕ) → is_looking i ≡ false → readied f i ≡ f i
readied_others f i out =
    let h = none_of_four (i == R0) (i == R1) (i == R2) (i == R6) out in
    rw (h.0, h.1, h.2, h.3) refl

-- data memory as cells, and what is behind them
abbrev pub cells_of : List ℕ → ℕ → ℕ
cells_of ram i = get_or ram i 0

-- cells that differ in some places alone, before one ring
pub others_are : (f g : ℕ → ℕ) (ring : List ℕ) (written : ℕ → Bool)
    → ((i : ℕ) → i < 112 → written i ≡ false → g i ≡ f i)
    → (i : ℕ) → written i ≡ false → slice_index (memory g ring) i ≡ slice_index (memory f ring) i
others_are f g ring written same i out =
    elim (leb 112 i) as (λ b. leb 112 i ≡ b → slice_index (memory g ring) i ≡ slice_index (memory f ring) i) [
      | true ↦ λ e.
          let l : 112 ≤ i = grind (arith, nat_tests, e) in
          let at : 112 + (i - 112) ≡ i = omega (arith, l) in
          subst (λ j. slice_index (memory g ring) j ≡ slice_index (memory f ring) j) at
          (after_cells g 0 112 ring (i - 112) ∙ sym (after_cells f 0 112 ring (i - 112)))
      | false ↦ λ e.
          let l : i < 112 = grind (arith, nat_tests, e) in
          cell g ring i l ∙ same i l out ∙ sym (cell f ring i l)
    ] refl

module _ (d : Board) (bytes : List ℕ) (has : HasKernel bytes) where
  -- a law of a block, from a state of the run
  pub from_world : (w : World d.State) (place : ℕ) → IsAt place w.cpu → (f : ℕ → ℕ)
      → w.cpu.ram ≡ memory f (drop 112 w.cpu.ram)
      → (k : Cpu) (pc n : ℕ) (g : ℕ → ℕ) (board : d.State) (Q : World d.State → Type 0)
      → Leads d (kernel_in true bytes) w.cycle (begin_at d place f (drop 112 w.cpu.ram) w.cpu w.board)
      (At d k pc g (drop 112 w.cpu.ram) n board)
      → ((e : World d.State) → e.cpu ≡ scratched k pc (memory g (drop 112 w.cpu.ram)) e.cpu → IsFree e.cpu
      → e.cycle ≡ w.cycle + n → e.board ≡ board → Q e)
      → Comes d TICK bytes w Q
  from_world w place is f ram k pc n g board Q law gives =
      let ring = drop 112 w.cpu.ram in
      let begin = begin_at d place f ring w.cpu w.board in
      let same : begin.cpu ≡ w.cpu =
      sym (ap (λ v. record w.cpu { pc = v; rb = true; mb = false; ram = memory f ring }) is.pc)
      ∙ sym (ap (λ v. record w.cpu { rb = v; mb = false; ram = memory f ring }) is.bank)
      ∙ sym (ap (λ v. record w.cpu { mb = v; ram = memory f ring }) is.lower)
      ∙ sym (ap (λ v. record w.cpu { ram = v }) ram) in
      let z : w.cycle + 0 ≡ w.cycle = add-zero w.cycle in
      let start : world_at w.cycle begin ≡ w =
      ap (λ c. record { cpu = begin.cpu; board = w.board; cycle = c }) z
      ∙ ap (λ c. record { cpu = c; board = w.board; cycle = w.cycle }) same in
      let e = law.end in
      subst (λ v. Comes d TICK bytes v Q) start
      (record {
        steps = law.steps;
        end = world_at w.cycle e;
        run = law.run;
        goal = gives (world_at w.cycle e) law.goal.cpu law.free (ap (λ o. w.cycle + o) law.goal.off) law.goal.now;
      })

  -- the columns
  read_others : (look f : ℕ → ℕ) (i : ℕ) → is_read i ≡ false → scanned look f i ≡ f i
  read_others look f i out =
      by (i == R0) (i == R1) (i == R3) (nat_le HELD i && nat_lt i (HELD + 12)) (nat_le CHANGED i
      && nat_lt i (CHANGED + 12)) refl refl refl refl
      refl out
    where
      by : (a b c p q : Bool) → (i == R0) ≡ a → (i == R1) ≡ b → (i == R3) ≡ c → (nat_le HELD i && nat_lt i (HELD + 12)) ≡ p
          → (nat_le CHANGED i && nat_lt i (CHANGED + 12)) ≡ q
          → (a || b || c || p || q) ≡ false → scanned look f i ≡ f i
      by false false false false false ea eb ec ep eq h = rw (ep, eq, ea, eb, ec) refl
      by true b c p q ea eb ec ep eq h = absurd cc
      by false true c p q ea eb ec ep eq h = absurd cc
      by false false true p q ea eb ec ep eq h = absurd cc
      by false false false true q ea eb ec ep eq h = absurd cc
      by false false false false true ea eb ec ep eq h = absurd cc

  -- with its registers set, the block of the columns reads them in 192 cycles
  pub columns_law : (w : World d.State) → IsAt READ w.cpu → slice_index w.cpu.ram R0 ≡ HELD
      → slice_index w.cpu.ram R1 ≡ CHANGED
      → slice_index w.cpu.ram R3 ≡ 12 → w.cpu.p1 ≡ 32 → Comes d TICK bytes w (ReadsColumns d w)
  columns_law w is r0 r1 r3 p1 =
      let m = w.cpu in
      let f = cells_of m.ram in
      let ring = drop 112 m.ram in
      let ram : m.ram ≡ memory f ring = memory_is m.ram is.memory in
      let set : m.ram ≡ memory (ready f) ring =
      ram ∙ ap (λ v. memory (put f R0 v) ring) r0 ∙ ap (λ v. memory (put (put f R0 HELD) R1 v) ring) r1
      ∙ ap (λ v. memory (put (put (put f R0 HELD) R1 CHANGED) R3 v) ring) r3 in
      let look = shows d w.cycle m.p2 w.board in
      let g = scanned look f in
      from_world w READ is (ready f) set (record m { p1 = 44 }) OFFER 192 g (in_tick d w 192) (ReadsColumns d w)
      (subst (λ p. Leads d (kernel_in true bytes) w.cycle (begin_at d READ (ready f) ring (record m { p1 = p }) w.board)
      (At d (record m { p1 = 44 }) OFFER g ring 192 (in_tick d w 192)))
      (sym p1) (columns d bytes has w.cycle m f ring w.board is.free))
      (λ e cpu free cycle board.
      let now : e.cpu.ram ≡ memory g ring = ap (λ (c : Cpu). c.ram) cpu in
      let held : (c : ℕ) → c < 12 → slice_index e.cpu.ram (HELD + c) ≡ look c = λ c l.
      ap (λ r. slice_index r (HELD + c)) now ∙ cell g ring (HELD + c) (omega (arith, l)) ∙ held_cell look f c l in
      record {
        to = record {
          pc = ap (λ (c : Cpu). c.pc) cpu;
          bank = ap (λ (c : Cpu). c.rb) cpu;
          lower = ap (λ (c : Cpu). c.mb) cpu;
          free = free;
          memory = ap length now ∙ cells_long g f ring ∙ sym (ap length ram) ∙ is.memory;
        };
        cycle = cycle;
        board = board;
        p2 = ap (λ (c : Cpu). c.p2) cpu;
        f1 = ap (λ (c : Cpu). c.f1) cpu;
        held = λ c l. held c l ∙ shows_is d w.cycle m.p2 w.board c;
        changed = λ c l.
            ap (λ r. slice_index r (CHANGED + c)) now ∙ cell g ring (CHANGED + c) (omega (arith, l)) ∙ changed_cell look f c l
            ∙ ap (λ b. bit_xor b (look c)) refl ∙ ap (λ b. bit_xor (slice_index m.ram (HELD + c)) b) (sym (held c l));
        others = λ i out.
            ap (λ r. slice_index r i) now ∙ others_are f g ring is_read (λ j l n. read_others look f j n) i out
            ∙ ap (λ r. slice_index r i) (sym ram);
      })

  -- the processor at a block's end
  pub at_end : (w e : World d.State) (k : Cpu) (pc : ℕ) (g : ℕ → ℕ) → length w.cpu.ram ≡ 128
      → e.cpu ≡ scratched k pc (memory g (drop 112 w.cpu.ram)) e.cpu → IsFree e.cpu → IsAt pc e.cpu
  at_end w e k pc g long cpu free =
      let ring = drop 112 w.cpu.ram in
      record {
        pc = ap (λ (c : Cpu). c.pc) cpu;
        bank = ap (λ (c : Cpu). c.rb) cpu;
        lower = ap (λ (c : Cpu). c.mb) cpu;
        free = free;
        memory =
            ap (λ (c : Cpu). length c.ram) cpu ∙ cells_long g (cells_of w.cpu.ram) ring ∙ sym
            (ap length (memory_is w.cpu.ram long)) ∙ long;
      }

  -- a cell that the block doesn't write
  kept_cell : (w e : World d.State) (k : Cpu) (pc at v : ℕ) → length w.cpu.ram ≡ 128
      → e.cpu ≡ scratched k pc (memory (put (cells_of w.cpu.ram) at v) (drop 112 w.cpu.ram)) e.cpu
      → (i : ℕ) → (i == at) ≡ false → slice_index e.cpu.ram i ≡ slice_index w.cpu.ram i
  kept_cell w e k pc at v long cpu i other =
      let f = cells_of w.cpu.ram in
      ap (λ (c : Cpu). slice_index c.ram i) cpu
      ∙ others_are f (put f at v) (drop 112 w.cpu.ram) (λ j. j == at) (λ j l n. put_other f at v j n) i other
      ∙ ap (λ r. slice_index r i) (sym (memory_is w.cpu.ram long))

  -- the block of the lights puts them on port 2 in six cycles, on any board
  pub lamps_law : (w : World d.State) → IsAt LAMPS w.cpu → Comes d TICK bytes w (PutsLights d w)
  lamps_law w is =
      let m = w.cpu in
      let f = cells_of m.ram in
      let ring = drop 112 m.ram in
      let lit : ℕ = 255 - f LIGHTS in
      from_world w LAMPS is f (memory_is m.ram is.memory) (record m { p2 = lit }) TESTED 6 (put f R1 LIGHTS)
      (after_cycles 2 (w.cycle + 4) (d.cycle lit) (in_tick d w 4)) (PutsLights d w)
      (lamps d bytes has w.cycle m f ring w.board is.free)
      (λ e cpu free cycle board.
      let p2 : e.cpu.p2 ≡ lit = ap (λ (c : Cpu). c.p2) cpu in
      record {
        to = at_end w e (record m { p2 = lit }) TESTED (put f R1 LIGHTS) is.memory cpu free;
        cycle = cycle;
        p1 = ap (λ (c : Cpu). c.p1) cpu;
        p2 = p2;
        f1 = ap (λ (c : Cpu). c.f1) cpu;
        board = board ∙ ap (λ p. after_cycles 2 (w.cycle + 4) (d.cycle p) (in_tick d w 4)) (sym p2);
        others = kept_cell w e (record m { p2 = lit }) TESTED R1 LIGHTS is.memory cpu;
      })

  -- the looks
  looks_by : (w : World d.State) → IsAt LOOKS w.cpu → (a b : Bool) → clock_seen d w ≡ a → data_seen d w ≡ b
      → Leads d (kernel_in true bytes) w.cycle
      (begin_at d LOOKS (cells_of w.cpu.ram) (drop 112 w.cpu.ram) w.cpu w.board)
      (At d w.cpu (way a b) (readied (cells_of w.cpu.ram)) (drop 112 w.cpu.ram) (way_time a)
      (in_tick d w (way_time a)))
  looks_by w is false b clock wire =
      looks_pulled d bytes has w.cycle w.cpu (cells_of w.cpu.ram) (drop 112 w.cpu.ram) w.board is.free clock
  looks_by w is true false clock wire =
      looks_got d bytes has w.cycle w.cpu (cells_of w.cpu.ram) (drop 112 w.cpu.ram) w.board is.free clock wire
  looks_by w is true true clock wire =
      looks_free d bytes has w.cycle w.cpu (cells_of w.cpu.ram) (drop 112 w.cpu.ram) w.board is.free clock wire

  -- the block of the looks goes on at the place that the levels of the two wires choose
  pub looks_law : (w : World d.State) → IsAt LOOKS w.cpu → Comes d TICK bytes w (Looks d w)
  looks_law w is =
      let m = w.cpu in
      let f = cells_of m.ram in
      let a = clock_seen d w in
      let b = data_seen d w in
      from_world w LOOKS is f (memory_is m.ram is.memory) m (way a b) (way_time a) (readied f)
      (in_tick d w (way_time a))
      (Looks d w)
      (looks_by w is a b refl refl)
      (λ e cpu free cycle board. record {
        to = at_end w e m (way a b) (readied f) is.memory cpu free;
        cycle = cycle;
        board = board;
        p1 = ap (λ (c : Cpu). c.p1) cpu;
        p2 = ap (λ (c : Cpu). c.p2) cpu;
        f1 = ap (λ (c : Cpu). c.f1) cpu;
        r2 = ap (λ (c : Cpu). slice_index c.ram R2) cpu ∙ cell (readied f) (drop 112 m.ram) R2 (omega arith);
        r6 = ap (λ (c : Cpu). slice_index c.ram R6) cpu ∙ cell (readied f) (drop 112 m.ram) R6 (omega arith);
        others = λ i other.
            ap (λ (c : Cpu). slice_index c.ram i) cpu
            ∙ others_are f (readied f) (drop 112 m.ram) is_looking (λ j l n. readied_others f j n) i other
            ∙ ap (λ r. slice_index r i) (sym (memory_is m.ram is.memory));
      })
