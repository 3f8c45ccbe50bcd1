-- A whole tick: from the instruction at TICK to the next one, data memory goes on as the model's keyboard does.
use Rattle.std.proofs.Common.{◌≡◌, ◌≤◌, ◌<◌, ℕ, suc, zero, ◌+◌, ◌*◌, List, All, Bool, true, false, ◌==◌}
use Rattle.std.proofs.Common.{bit_xor, if◌then◌else◌, refl, ap, sym, ◌∙◌, arith, inl}
use Rattle.std.proofs.lemmas.Bool.Decides.{nat_tests}
use Rattle.mcs48_core.specs.Cpu.{Cpu}
use Rattle.fw_kernel.specs.declared.cells.TheConstants.{HELD, LAYER, PENDING, FN}
use Rattle.fw_kernel.specs.declared.labels.TheConstants.{TICK, DONE, WAIT}
use Rattle.fw_kernel.specs.Places.{HasKernel}
use Rattle.joint_run.specs.Run.{Board, World, after_cycles}
use Rattle.joint_run.specs.Starts.{Tick}
use Rattle.mcs48_ranges.specs.Sizes.{IsByte, IsFine}
use Rattle.law_fw_logic.proofs.Path.{Stage}
use Rattle.law_fw_logic.proofs.Kernel.{kernel_in}
use Rattle.law_fw_logic.proofs.Blocks.{from_stage}
use Rattle.law_fw_logic.proofs.Short.{has_rows}
use Rattle.law_fw_logic.proofs.Cells.{put_other}
use Rattle.bits.proofs.Every.{tests_by}
use Rattle.bits.specs.Bits.{bit}
use Rattle.mcs48_core.specs.Status.{digit}
use Rattle.law_fw_logic.proofs.Block.{put, begin_at}
use Rattle.law_fw_keys.proofs.Blocks.{fine_end}
use Rattle.law_fw_logic.proofs.Service.{serving, stacked, entering}
use Rattle.law_fw_logic.proofs.Timers.{TimerState, IsInRange}
use Rattle.law_fw_logic.proofs.Leads.{Leads}
use Rattle.law_fw_logic.proofs.Passing.{Passes, passes}
use Rattle.law_fw_logic.proofs.Returning.{IsOver, Next}
use Rattle.law_fw_logic.proofs.Serves.{work_cpu, work_at, serves}
use Rattle.model_keyboard.specs.declared.meeting.Meeting.{Meeting}
use Rattle.law_fw_keys.proofs.Patch.{still}
use Rattle.law_fw_keys.specs.State.{down_at, held_by, keyboard_of, Inv, layers_of, debounces, read_of}
use Rattle.law_fw_keys.specs.Edges.{image_keys, IsSilentAlike}
use Rattle.law_fw_keys.specs.Healing.{healed}
use Rattle.law_fw_keys.proofs.Healing.{pressed_healed}
use Rattle.model_keyboard.specs.Layers.{Layers}
use Rattle.law_fw_keys.proofs.Block.{Safe}
use Rattle.law_fw_keys.proofs.Rows.{marks}
use Rattle.law_fw_keys.proofs.Step5.{changed_columns, all_edges}
use Rattle.law_fw_keys.proofs.Scan.{columns_most}
use Rattle.law_fw_keys.proofs.Settle.{changes_by, holds_by, pends_by}
use Rattle.law_fw_keys.proofs.Settled.{held_changes, read_after}
use Rattle.law_fw_keys.proofs.Head.{shown}
use Rattle.law_fw_keys.proofs.Ended.{Ended, Works}
use Rattle.law_fw_keys.proofs.Held.{layers_same}
use Rattle.law_fw_keys.proofs.Keyboard.{Gone, IsPressedAt, flags_long, keyboard_goes}

-- a column has changed only where it has an edge, so four edges bound the time of step 5
some_bit : (v : ℕ) → v < 256 → (v == 0) ≡ false → 1 ≤ marks 0 8 v
some_bit v l some = by_marks (marks 0 8 v) refl
  where
    by_marks : (n : ℕ) → marks 0 8 v ≡ n → 1 ≤ n
    by_marks (suc n) e = omega arith
    by_marks zero e = absurd (let same : (v == 0)
        ≡ true = sym (tests_by 256 (λ v. marks 0 8 v == 0) (λ v. v == 0) refl v l) ∙ ap (λ n. n == 0) e in
        let bad : true ≡ false = sym same ∙ some in cc)

one_column : (v : ℕ) → v < 256 → (b : Bool) → (v == 0) ≡ b → (if v == 0 then 0 else 1) ≤ marks 0 8 v
one_column v l true e = rw e (omega arith)
one_column v l false e = rw e (some_bit v l e)

plus : (a b u v : ℕ) → a ≤ u → b ≤ v → a + b ≤ u + v
plus a b u v h g = omega (arith, h, g)

one_most : (b : Bool) → (if b then 0 else 1) ≤ 1
one_most true = omega arith
one_most false = omega arith

columns_all : (ch : ℕ → ℕ) (c n : ℕ) → changed_columns ch c n ≤ n
columns_all ch c zero = omega arith
columns_all ch c (suc n) = one_more (if ch c == 0 then 0 else 1) (changed_columns ch (suc c) n) n (one_most (ch c == 0)) (columns_all ch (suc c) n)
  where
    one_more : (a b k : ℕ) → a ≤ 1 → b ≤ k → a + b ≤ suc k
    one_more a b k h g = omega (arith, h, g)

digit_most : (b : Bool) → digit b ≤ 1
digit_most true = omega arith
digit_most false = omega arith

marks_all : (r n v : ℕ) → marks r n v ≤ n
marks_all r zero v = omega arith
marks_all r (suc n) v = one_more (digit (bit r v)) (marks (suc r) n v) n (digit_most (bit r v)) (marks_all (suc r) n v)
  where
    one_more : (a b k : ℕ) → a ≤ 1 → b ≤ k → a + b ≤ suc k
    one_more a b k h g = omega (arith, h, g)

edges_all : (ch : ℕ → ℕ) (c n : ℕ) → all_edges ch c n ≤ 8 * n
edges_all ch c zero = omega arith
edges_all ch c (suc n) = eight_more (marks 0 8 (ch c)) (all_edges ch (suc c) n) n (marks_all 0 8 (ch c)) (edges_all ch (suc c) n)
  where
    eight_more : (a b k : ℕ) → a ≤ 8 → b ≤ 8 * k → a + b ≤ 8 * suc k
    eight_more a b k h g = omega (arith, h, g)

columns_few : (ch : ℕ → ℕ) (c n : ℕ) → c + n ≡ 12 → ((i : ℕ) → i < 12 → ch i < 256)
    → changed_columns ch c n ≤ all_edges ch c n
columns_few ch c zero sum l = omega arith
columns_few ch c (suc n) sum l =
    plus (if ch c == 0 then 0 else 1) (changed_columns ch (suc c) n) (marks 0 8 (ch c)) (all_edges ch (suc c) n)
    (one_column (ch c) (l c (omega (arith, sum))) (ch c == 0) refl)
    (columns_few ch (suc c) n (omega (arith, sum)) l)

-- and with any edges the columns and their rows are all that there are
pub any_edges : (ch : ℕ → ℕ) → columns_most ch ≤ 7176
any_edges ch = by (changed_columns ch 0 12) (all_edges ch 0 12) (columns_all ch 0 12) (edges_all ch 0 12)
  where
    by : (m e : ℕ) → m ≤ 12 → e ≤ 8 * 12 → 9 * 12 + 93 * m + 62 * e ≤ 7176
    by m e h g = omega (arith, h, g)

-- by how many they are
pub edges_by : (ch : ℕ → ℕ) → columns_most ch ≤ 1224 + 62 * all_edges ch 0 12
edges_by ch = by (changed_columns ch 0 12) (all_edges ch 0 12) (columns_all ch 0 12)
  where
    by : (m e : ℕ) → m ≤ 12 → 9 * 12 + 93 * m + 62 * e ≤ 1224 + 62 * e
    by m e h = omega (arith, h)

-- with at most four edges in a tick, the columns take 728 cycles at most
pub four_edges : (ch : ℕ → ℕ) → ((i : ℕ) → i < 12 → ch i < 256) → all_edges ch 0 12 ≤ 4 → columns_most ch ≤ 728
four_edges ch l few = sum (changed_columns ch 0 12) (all_edges ch 0 12) (columns_few ch 0 12 refl l) few
  where
    sum : (m e : ℕ) → m ≤ e → e ≤ 4 → 9 * 12 + 93 * m + 62 * e ≤ 728
    sum m e h g = omega (arith, h, g)

-- the way back on the stack is no part of the held keys
pub kept_on : (f : ℕ → ℕ) (c : ℕ) → stacked f (HELD + c) ≡ f (HELD + c)
kept_on f c =
    let a : (HELD + c == 9) ≡ false = grind (arith, nat_tests) in
    let b : (HELD + c == 8) ≡ false = grind (arith, nat_tests) in
    put_other (put f 8 252) 9 16 (HELD + c) a ∙ put_other f 8 252 (HELD + c) b

-- the way back on the stack is no part of the cells from the Fn key's on
pub stacked_at : (f : ℕ → ℕ) (i : ℕ) → FN ≤ i → stacked f i ≡ f i
stacked_at f i l =
    let a : (i == 9) ≡ false = grind (arith, nat_tests, l) in
    let b : (i == 8) ≡ false = grind (arith, nat_tests, l) in
    put_other (put f 8 252) 9 16 i a ∙ put_other f 8 252 i b

module _ (d : Board) (bytes : List ℕ) (hk : HasKernel bytes) (alike : IsSilentAlike bytes) (small : All IsByte bytes)
    (low : (p1 p2 c : ℕ) (s : d.State) → (d.pins p1 p2 c s).bus < 256)
    (x : ℕ) (b : TimerState) (f : ℕ → ℕ) (ring : List ℕ) (m : Cpu) (board : d.State) where
  abbrev pub start : World d.State
  start = record { cpu = entering b f ring m; board = board; cycle = x }

  -- where the work begins, by its timer
  abbrev pub first : TimerState → Cpu
  first l = work_cpu l f ring m

  abbrev pub first_board : d.State
  first_board = after_cycles 3 x (d.cycle m.p2) board

  -- the keys that are down as each column is read, and what differs from what is held
  abbrev pub reads : ℕ → ℕ
  reads = shown d (x + 3) m.p2 first_board

  abbrev pub differing : ℕ → ℕ
  differing i = bit_xor (stacked f (HELD + i)) (reads i)

  -- what is held then, what changed, and what is pending
  abbrev pub down : ℕ → ℕ
  down i = holds_by (debounces bytes) (stacked f (PENDING + i)) (differing i) (reads i)

  abbrev pub changed : ℕ → ℕ
  changed i = changes_by (debounces bytes) (stacked f (PENDING + i)) (differing i)

  abbrev pub pending : ℕ → ℕ
  pending i = pends_by (debounces bytes) (stacked f (PENDING + i)) (differing i)

  abbrev pub held : List Bool
  held = held_by (λ c. stacked f (HELD + c))

  -- the layers that the tick's edges find
  abbrev pub found : Meeting → Layers
  found meeting = healed bytes meeting (keyboard_of (stacked f) ring) (layers_of (stacked f))

  -- the work of this tick
  abbrev pub Work : TimerState → Meeting → ℕ → (Stage d.State → Type 0) → Type 0
  Work l meeting last_off F = Works d bytes hk alike small low held (x + 3) (first l) first_board (stacked f) ring
      meeting
      last_off F

  -- at its end data memory shows the model's keyboard a tick later, as the next tick finds it
  pub record Goes (meeting : Meeting) (F : TimerState → Stage d.State → Type 0) (now : ℕ → ℕ) (ring' : List ℕ)
      (e : Stage d.State) : Type 0 where
    pub l : TimerState
    pub from : Stage d.State
    pub n : ℕ
    pub kbd : Gone (image_keys bytes) meeting changed down (found meeting) (stacked f) ring (stacked now) ring'
    pub read : read_of (debounces bytes) (stacked now) ≡ held_by reads
    pub inv : Inv (stacked now)
    pub stack : (now 8 ≡ WAIT) × (now 9 ≡ 16)
    pub fine : IsFine e.cpu
    pub facts : F l from
    pub off : e.off ≡ 3 + (from.off + n)
    pub p2 : e.cpu.p2 ≡ from.cpu.p2
    pub board_now : e.board ≡ after_cycles n (x + 3 + from.off) (d.cycle from.cpu.p2) from.board

  -- the processor is fit for the work where it is at the tick's start
  pub fit : (l : TimerState) → IsInRange l → IsFine (entering b f ring m) → Safe (first l) 10 (stacked f) ring
  fit l range fine = (
    inl refl,
    record {
      pc = omega arith;
      a = omega arith;
      ram = fine.ram;
      long = fine.long;
      t = range.t;
      pre = range.pre;
      p1 = fine.p1;
      p2 = fine.p2;
      bus = fine.bus;
      sp = fine.sp;
    },
  )

  -- the law of the work, up to the service's end
  module _ (fine : IsFine (entering b f ring m)) (meeting : Meeting) (last_off : ℕ)
      (pressed : IsPressedAt (image_keys bytes) meeting (layers_of (stacked f)) (keyboard_of (stacked f) ring))
      (F : TimerState → Stage d.State → Type 0)
      (work : (l : TimerState) → IsInRange l → Work l meeting last_off (F l)) where
    over : (l : TimerState) → IsInRange l → Leads d (kernel_in true bytes) x (work_at d x l f ring m board)
        (IsOver d (3 + last_off) (Goes meeting F))
    over l range =
        let k : Cpu = first l in
        from_stage d (kernel_in true bytes) (has_rows true bytes hk) x 10 k (stacked f) ring
        (work_at d x l f ring m board)
        (λ e. Ended d bytes hk alike small low held (x + 3) k first_board (stacked f) ring meeting last_off (F l) e
        × IsFine e.cpu) (IsOver d (3 + last_off) (Goes meeting F)) refl
        (λ e bf.
        let b = bf.0 in
        let short : e.off ≤ last_off = b.short in
        record {
          now = b.now;
          ring = b.last;
          cpu = b.cpu ∙ sym (ap (λ (c : Cpu). serving DONE b.now b.last c) b.cpu);
          low = b.stack.0;
          high = b.stack.1;
          short = omega (arith, short);
          does = record {
            l = l;
            from = b.from;
            n = b.n;
            kbd =
                keyboard_goes (image_keys bytes) meeting (found meeting) (stacked f) ring (stacked b.now) b.last changed down
                (flags_long (down_at (λ c. stacked f (LAYER + c))) 96) (λ i l. kept_on b.now i ∙ b.downs i l)
                (λ i l. held_changes (debounces bytes) (stacked f (PENDING + i)) (stacked f (HELD + i)) (reads i)) b.kbd
                (layers_same (stacked b.now) b.now (λ i l u. stacked_at b.now i l) ∙ b.layers)
                (pressed_healed bytes meeting (layers_of (stacked f)) (keyboard_of (stacked f) ring) pressed);
            read = read_after (debounces bytes) (stacked b.now) (λ i. stacked f (PENDING + i)) differing reads
                (λ i l. kept_on b.now i ∙ b.downs i l)
                (λ i l. stacked_at b.now (PENDING + i) (omega arith) ∙ b.pendings i l);
            inv = still (refl, refl, refl, refl, refl) b.inv;
            stack = b.stack;
            fine = bf.1;
            facts = b.facts;
            off = ap (λ o. 3 + o) b.off;
            p2 = b.p2;
            board_now = b.board_now;
          };
        })
        (fine_end d (kernel_in true bytes) (has_rows true bytes hk) small low (x + 3)
        (begin_at d (TICK + 3) (stacked f) ring k first_board)
        (Ended d bytes hk alike small low held (x + 3) k first_board (stacked f) ring meeting last_off (F l))
        (fit l range fine).1
        (work l range))

    -- so the run reaches the next start, by the service's end
    abbrev in_range : IsInRange b
    in_range = record { t = fine.t; pre = fine.pre }

    -- a whole tick leads to the next one, and memory shows the model's keyboard a tick later
    pub tick : Tick d TICK bytes start (Next d x b (3 + last_off) (Goes meeting F))
    tick = serves d bytes hk x b in_range f ring m board (3 + last_off) (Goes meeting F) over

    -- the tick has its way through the service to the next start
    pub tick_passes : Passes d bytes start
    tick_passes = passes d bytes hk x b in_range f ring m board (3 + last_off) (Goes meeting F) over
