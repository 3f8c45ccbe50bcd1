-- Blocks one after another; what the machine keeps small is small at each block's start.
use Rattle.std.proofs.Common.{◌≡◌, ◌≤◌, ◌<◌, ℕ, suc, zero, ◌+◌, List, Bool, All, length, get_or, refl, ap, sym}
use Rattle.std.proofs.Common.{◌∙◌, subst, arith, add-zero}
use Rattle.std.proofs.lemmas.List.Elements.{All-get_or}
use Rattle.mcs48_core.specs.Cpu.{Cpu}
use Rattle.law_fw_logic.proofs.Sound.{chain}
use Rattle.law_fw_logic.proofs.Sound.{stay}
use Rattle.law_fw_logic.proofs.Sound.{weaken}
use Rattle.law_fw_logic.proofs.Sound.{sound}
use Rattle.law_fw_logic.proofs.Sound.{ticks_from}
use Rattle.law_fw_logic.proofs.Blocks.{ticks_add}
use Rattle.law_fw_logic.proofs.Blocks.{within}
use Rattle.law_fw_logic.proofs.Blocks.{resume}
use Rattle.law_fw_logic.proofs.Blocks.{later}
use Rattle.law_fw_logic.proofs.Fine.{calm_fine}
use Rattle.law_fw_keys.proofs.Block.{Bytes, Ends, Safe, ShapeA}
use Rattle.law_fw_logic.proofs.Block.{Shape, before, begin_at, memory, scratched}
use Rattle.law_fw_logic.proofs.TimerParts.{IsFree}
use Rattle.law_fw_logic.proofs.Leads.{HasRows, Leads}
use Rattle.law_fw_logic.proofs.Path.{Code, Note, Path, Stage, world_at}
use Rattle.mcs48_ranges.specs.Sizes.{IsByte, IsFine}
use Rattle.joint_run.specs.Run.{Board, after_cycles}

-- cells and ring of a memory
pub cell-get : (f : ℕ → ℕ) (from n : ℕ) (ring : List ℕ) (i : ℕ) → i < n → get_or (before f from n ring) i 0
    ≡ f (from + i)
cell-get f from zero ring i l = absurd (omega (arith, l))
cell-get f from (suc n) ring zero l = let e : from ≡ from + 0 = omega arith in ap f e
cell-get f from (suc n) ring (suc i) l = let e : from + 1 + i ≡ from + suc i = omega arith in
    cell-get f (from + 1) n ring i (omega (arith, l)) ∙ ap f e

-- the i-th byte of the ring is i places after the cells before it
pub ring-get : (f : ℕ → ℕ) (from n : ℕ) (ring : List ℕ) (i : ℕ) → get_or (before f from n ring) (n + i) 0
    ≡ get_or ring i 0
ring-get f from zero ring i = let e : 0 + i ≡ i = omega arith in rw e refl
ring-get f from (suc n) ring i = let e : suc n + i ≡ suc (n + i) = omega arith in rw e (ring-get f (from + 1) n ring i)

long-before : (f : ℕ → ℕ) (from n : ℕ) (ring : List ℕ) → length (before f from n ring) ≡ n + length ring
long-before f from zero ring = let e : 0 + length ring ≡ length ring = omega arith in sym e
long-before f from (suc n) ring = let e : suc (n + length ring) ≡ suc n + length ring = omega arith in
    ap suc (long-before f (from + 1) n ring) ∙ e

-- at the start of a block each cell and each byte of the ring is a byte, and the ring has its length
pub bytes_of : (m : Cpu) (pc : ℕ) (f : ℕ → ℕ) (ring : List ℕ) → Safe m pc f ring → Bytes f ring
bytes_of m pc f ring safe =
    let long : length (before f 0 112 ring) ≡ 128 = safe.1.long in
    let n : length (before f 0 112 ring) ≡ 112 + length ring = long-before f 0 112 ring in
    let size : length ring ≡ 16 = omega (arith, long, n) in
    record {
      cell = λ i l.
          let h : get_or (before f 0 112 ring) i 0 < 256 =
          All-get_or IsByte (before f 0 112 ring) i 0 (rw long (omega (arith, l))) safe.1.ram in
          let e : f (0 + i) ≡ f i = ap f (let z : 0 + i ≡ i = omega arith in z) in
          subst (λ v. v < 256) (cell-get f 0 112 ring i l ∙ e) h;
      size = size;
      byte = λ i l.
          let h : get_or (before f 0 112 ring) (112 + i) 0 < 256 =
          All-get_or IsByte (before f 0 112 ring) (112 + i) 0 (rw long (omega (arith, l))) safe.1.ram in
          subst (λ v. v < 256) (ring-get f 0 112 ring i) h;
    }

-- exactly this memory
abbrev pub Just : (ℕ → ℕ) → List ℕ → ℕ → (ℕ → ℕ) → List ℕ → Type 0
Just f ring a g r = (g ≡ f) × (r ≡ ring)

-- and A
abbrev pub JustA : ℕ → (ℕ → ℕ) → List ℕ → ℕ → (ℕ → ℕ) → List ℕ → Type 0
JustA v f ring a g r = (a ≡ v) × (g ≡ f) × (r ≡ ring)

module _ (d : Board) (code : Code) (has : HasRows code) (small : All IsByte code.bytes)
    (low : (p1 p2 c : ℕ) (s : d.State) → (d.pins p1 p2 c s).bus < 256) where
  -- one block after another
  pub seq : (x : ℕ) (m : Cpu) (board : d.State) (pc max to more : ℕ) (M N : ℕ → (ℕ → ℕ) → List ℕ → Type 0)
      (s : Stage d.State) → IsFine s.cpu
      → Leads d code x s (Ends d x m board pc max M)
      → ((x' : ℕ) (m' : Cpu) (board' : d.State) (g : ℕ → ℕ) (ring : List ℕ) → m' ≡ scratched m pc (memory g ring) m'
      → M m'.a g ring → Safe m' pc g ring
      → Leads d code x' (begin_at d pc g ring m' board') (Ends d x' m' board' to more N))
      → Leads d code x s (Ends d x m board to (max + more) N)
  seq x m board pc max to more M N s fine first rest =
      chain d code has x (λ e. Ends d x m board pc max M e × IsFine e.cpu) (Ends d x m board to (max + more) N) s
      (record {
        steps = first.steps;
        end = first.end;
        run = first.run;
        goal = (
          first.goal,
          calm_fine d code.tick code.bytes small low first.steps (world_at x s) (world_at x first.end) fine first.run,
        );
        each = first.each;
        free = first.free;
        order = first.order;
        timer_later = first.timer_later;
        over = first.over;
      })
      (λ e af free.
      let a = af.0 in
      let o = e.off in
      let n : Cpu = e.cpu in
      let begin = begin_at d pc a.now a.ring n e.board in
      let same : begin.cpu ≡ e.cpu = ap (λ k. scratched n k.pc k.ram n) (sym a.cpu)
      ∙ ap (λ k. record n { rb = k.rb; mb = k.mb }) (sym a.cpu) in
      let z : o + 0 ≡ o = add-zero o in
      let h = rest (x + o) n e.board a.now a.ring a.cpu a.facts
      (subst IsFree (sym same) free, subst (λ k. IsFine k) (sym same) af.1) in
      let l : e.off ≤ max = a.short in
      let done : Leads d code x (later d code has o begin) (Ends d x m board to (max + more) N) =
      resume d code has x o begin (Ends d (x + o) n e.board to more N) (Ends d x m board to (max + more) N)
      (λ e2 b. record {
        now = b.now;
        ring = b.ring;
        cpu = b.cpu ∙ ap (λ k. scratched k to (memory b.now b.ring) e2.cpu) a.cpu;
        short = let r : e2.off ≤ more = b.short in omega (arith, l, r);
        board_now = b.board_now ∙ ap (λ k. after_cycles e2.off (x + o) (d.cycle k.p2) e.board) a.cpu
            ∙ ap (λ q. after_cycles e2.off (x + o) (d.cycle m.p2) q) a.board_now
            ∙ sym (ticks_add o e2.off x (d.cycle m.p2) board);
        facts = b.facts;
      }) h in
      subst (λ k. Leads d code x (record { cpu = k; board = e.board; off = o }) (Ends d x m board to (max + more) N))
      same
      (subst (λ k. Leads d code x (record { cpu = begin.cpu; board = e.board; off = k })
      (Ends d x m board to (max + more) N)) z done))

  -- facts, time and place in other words
  pub relax : (x : ℕ) (m : Cpu) (board : d.State) (to max max' : ℕ) (M N : ℕ → (ℕ → ℕ) → List ℕ → Type 0)
      (s : Stage d.State) → max ≤ max' → ((a : ℕ) (g : ℕ → ℕ) (ring : List ℕ) → M a g ring → N a g ring)
      → Leads d code x s (Ends d x m board to max M) → Leads d code x s (Ends d x m board to max' N)
  relax x m board to max max' M N s l f h =
      weaken d code has x (Ends d x m board to max M) (Ends d x m board to max' N) s
      (λ e a. record {
        now = a.now;
        ring = a.ring;
        cpu = a.cpu;
        short = (let k : e.off ≤ max = a.short in omega (arith, k, l));
        board_now = a.board_now;
        facts = f e.cpu.a a.now a.ring a.facts;
      }) h

  -- a block that is a path; it may leave other flags than it found (n for m)
  pub leaf : (M : ℕ → (ℕ → ℕ) → List ℕ → Type 0) (plan : List Note) (from to max : ℕ) (g : ℕ → ℕ) (r : List ℕ) (x : ℕ)
      (m n : Cpu) (board : d.State) (f : ℕ → ℕ) (ring : List ℕ) → IsFree m → ((a : ℕ) → M a g r)
      → Path d code x plan (begin_at d from f ring m board) (Shape d x n board to max g r)
      → Leads d code x (begin_at d from f ring m board) (Ends d x n board to max M)
  leaf M plan from to max g r x m n board f ring free facts path =
      let z : x + 0 ≡ x = add-zero x in
      weaken d code has x (Shape d x n board to max g r) (Ends d x n board to max M) (begin_at d from f ring m board)
      (λ e h. record {
        now = g;
        ring = r;
        cpu = h.0;
        short = within e.off max h.1;
        board_now = h.2 ∙ sym (ticks_from e.off 0 x (d.cycle n.p2) board)
            ∙ ap (λ k. after_cycles e.off k (d.cycle n.p2) board) z;
        facts = facts e.cpu.a;
      })
      (sound d code has x plan (Shape d x n board to max g r) (begin_at d from f ring m board) path free)

  -- and one that hands on A
  pub leaf_a : (M : ℕ → (ℕ → ℕ) → List ℕ → Type 0) (plan : List Note) (from to max v : ℕ) (g : ℕ → ℕ) (r : List ℕ)
      (x : ℕ) (m n : Cpu) (board : d.State) (f : ℕ → ℕ) (ring : List ℕ) → IsFree m → M v g r
      → Path d code x plan (begin_at d from f ring m board) (ShapeA d x n board to max v g r)
      → Leads d code x (begin_at d from f ring m board) (Ends d x n board to max M)
  leaf_a M plan from to max v g r x m n board f ring free facts path =
      let z : x + 0 ≡ x = add-zero x in
      weaken d code has x (ShapeA d x n board to max v g r) (Ends d x n board to max M) (begin_at d from f ring m board)
      (λ e h. let s = h.0 in record {
        now = g;
        ring = r;
        cpu = s.0;
        short = within e.off max s.1;
        board_now = s.2 ∙ sym (ticks_from e.off 0 x (d.cycle n.p2) board)
            ∙ ap (λ k. after_cycles e.off k (d.cycle n.p2) board) z;
        facts = subst (λ a. M a g r) (sym h.1) facts;
      })
      (sound d code has x plan (ShapeA d x n board to max v g r) (begin_at d from f ring m board) path free)

  -- memory by another function of the same cells
  pub record Again (N : ℕ → (ℕ → ℕ) → List ℕ → Type 0) (a : ℕ) (g : ℕ → ℕ) (ring : List ℕ) : Type 0 where
    pub cells : ℕ → ℕ
    pub same : memory g ring ≡ memory cells ring
    pub facts : N a cells ring

  -- a block that ends with some facts of memory ends with what follows from them
  pub recast : (x : ℕ) (m : Cpu) (board : d.State) (to max max' : ℕ) (M N : ℕ → (ℕ → ℕ) → List ℕ → Type 0)
      (s : Stage d.State) → max ≤ max' → ((a : ℕ) (g : ℕ → ℕ) (ring : List ℕ) → M a g ring → Again N a g ring)
      → Leads d code x s (Ends d x m board to max M) → Leads d code x s (Ends d x m board to max' N)
  recast x m board to max max' M N s l f h =
      weaken d code has x (Ends d x m board to max M) (Ends d x m board to max' N) s
      (λ e a. let q = f e.cpu.a a.now a.ring a.facts in
      record {
        now = q.cells;
        ring = a.ring;
        cpu = a.cpu ∙ ap (λ k. scratched m to k e.cpu) q.same;
        short = (let k : e.off ≤ max = a.short in omega (arith, k, l));
        board_now = a.board_now;
        facts = q.facts;
      }) h

  -- nothing to do
  pub here : (M : ℕ → (ℕ → ℕ) → List ℕ → Type 0) (x pc : ℕ) (m : Cpu) (board : d.State) (f : ℕ → ℕ) (ring : List ℕ)
      → IsFree m → M m.a f ring → Leads d code x (begin_at d pc f ring m board) (Ends d x m board pc 0 M)
  here M x pc m board f ring free facts =
      stay d code has x (Ends d x m board pc 0 M) (begin_at d pc f ring m board)
      (record { now = f; ring = ring; cpu = refl; short = omega arith; board_now = refl; facts = facts }) free

  -- after a block whose memory is known
  pub seq_just : (x : ℕ) (m : Cpu) (board : d.State) (pc max to more : ℕ) (f : ℕ → ℕ) (r : List ℕ) (N : ℕ → (ℕ → ℕ)
      → List ℕ → Type 0) (s : Stage d.State) → IsFine s.cpu
      → Leads d code x s (Ends d x m board pc max (Just f r))
      → ((x' : ℕ) (m' : Cpu) (board' : d.State) → m' ≡ scratched m pc (memory f r) m' → Safe m' pc f r
      → Leads d code x' (begin_at d pc f r m' board') (Ends d x' m' board' to more N))
      → Leads d code x s (Ends d x m board to (max + more) N)
  seq_just x m board pc max to more f r N s fine first rest =
      seq x m board pc max to more (Just f r) N s fine first
      (λ x' m' board' g ring same q safe.
      let Goal : (ℕ → ℕ) → List ℕ → Type 0 = λ t u. m' ≡ scratched m pc (memory t u) m' → Safe m' pc t u
      → Leads d code x' (begin_at d pc t u m' board') (Ends d x' m' board' to more N) in
      subst (λ t. Goal t ring) (sym q.0) (subst (λ u. Goal f u) (sym q.1) (rest x' m' board')) same safe)

  -- a block that leaves a known memory and A is followed by the next one
  pub seq_just_a : (x : ℕ) (m : Cpu) (board : d.State) (pc max to more v : ℕ) (f : ℕ → ℕ) (r : List ℕ) (N : ℕ → (ℕ → ℕ)
      → List ℕ → Type 0) (s : Stage d.State) → IsFine s.cpu
      → Leads d code x s (Ends d x m board pc max (JustA v f r))
      → ((x' : ℕ) (m' : Cpu) (board' : d.State) → m' ≡ scratched m pc (memory f r) m' → m'.a ≡ v → Safe m' pc f r
      → Leads d code x' (begin_at d pc f r m' board') (Ends d x' m' board' to more N))
      → Leads d code x s (Ends d x m board to (max + more) N)
  seq_just_a x m board pc max to more v f r N s fine first rest =
      seq x m board pc max to more (JustA v f r) N s fine first
      (λ x' m' board' g ring same q safe.
      let Goal : (ℕ → ℕ) → List ℕ → Type 0 = λ t u. m' ≡ scratched m pc (memory t u) m' → Safe m' pc t u
      → Leads d code x' (begin_at d pc t u m' board') (Ends d x' m' board' to more N) in
      subst (λ t. Goal t ring) (sym q.1) (subst (λ u. Goal f u) (sym q.2) (λ e. rest x' m' board' e q.0)) same safe)

  -- a law of a block, from a stage at which the block begins
  pub from_stage : (x pc : ℕ) (n : Cpu) (g : ℕ → ℕ) (ring : List ℕ) (e : Stage d.State) (R T : Stage d.State → Type 0)
      → e.cpu ≡ scratched n pc (memory g ring) e.cpu → ((e2 : Stage d.State) → R e2 → T (later d code has e.off e2))
      → Leads d code (x + e.off) (begin_at d pc g ring e.cpu e.board) R → Leads d code x e T
  from_stage x pc n g ring e R T is f h =
      let c : Cpu = e.cpu in
      let begin = begin_at d pc g ring c e.board in
      let same : begin.cpu ≡ e.cpu = ap (λ k. scratched c k.pc k.ram c) (sym is)
      ∙ ap (λ k. record c { rb = k.rb; mb = k.mb }) (sym is) in
      let z : e.off + 0 ≡ e.off = add-zero e.off in
      let done : Leads d code x (later d code has e.off begin) T = resume d code has x e.off begin R T f h in
      subst (λ k. Leads d code x (record { cpu = k; board = e.board; off = e.off }) T) same
      (subst (λ k. Leads d code x (record { cpu = begin.cpu; board = e.board; off = k }) T) z done)

  -- what is safe at its begin
  pub safe_at : (pc : ℕ) (n : Cpu) (g : ℕ → ℕ) (ring : List ℕ) (e : Cpu) → e ≡ scratched n pc (memory g ring) e
      → IsFree e → IsFine e → Safe e pc g ring
  safe_at pc n g ring e is free fine =
      let same : scratched e pc (memory g ring) e ≡ e = ap (λ k. scratched e k.pc k.ram e) (sym is)
      ∙ ap (λ k. record e { rb = k.rb; mb = k.mb }) (sym is) in
      (free, subst (λ k. IsFine k) (sym same) fine)

  -- the end of a run is fine where its begin is
  pub fine_end : (x : ℕ) (s : Stage d.State) (Q : Stage d.State → Type 0) → IsFine s.cpu → Leads d code x s Q
      → Leads d code x s (λ e. Q e × IsFine e.cpu)
  fine_end x s Q fine h =
      record {
        steps = h.steps;
        end = h.end;
        run = h.run;
        goal = (
          h.goal,
          calm_fine d code.tick code.bytes small low h.steps (world_at x s) (world_at x h.end) fine h.run,
        );
        each = h.each;
        free = h.free;
        order = h.order;
        timer_later = h.timer_later;
        over = h.over;
      }

  -- as seq, where the second block sets flag 0
  pub seq_f0 : (v : Bool) (x : ℕ) (m : Cpu) (board : d.State) (pc max to more : ℕ) (M N : ℕ → (ℕ → ℕ) → List ℕ → Type 0)
      (s : Stage d.State) → IsFine s.cpu
      → Leads d code x s (Ends d x m board pc max M)
      → ((x' : ℕ) (m' : Cpu) (board' : d.State) (g : ℕ → ℕ) (ring : List ℕ) → m' ≡ scratched m pc (memory g ring) m'
      → M m'.a g ring → Safe m' pc g ring
      → Leads d code x' (begin_at d pc g ring m' board') (Ends d x' (record m' { f0 = v }) board' to more N))
      → Leads d code x s (Ends d x (record m { f0 = v }) board to (max + more) N)
  seq_f0 v x m board pc max to more M N s fine first rest =
      chain d code has x (λ e. Ends d x m board pc max M e × IsFine e.cpu)
      (Ends d x (record m { f0 = v }) board to (max + more) N) s (fine_end x s (Ends d x m board pc max M) fine first)
      (λ e af free.
      let a = af.0 in
      let o = e.off in
      let l : e.off ≤ max = a.short in
      from_stage x pc m a.now a.ring e (Ends d (x + o) (record e.cpu { f0 = v }) e.board to more N)
      (Ends d x (record m { f0 = v }) board to (max + more) N) a.cpu
      (λ e2 b. record {
        now = b.now;
        ring = b.ring;
        cpu = b.cpu ∙ ap (λ k. scratched (record k { f0 = v }) to (memory b.now b.ring) e2.cpu) a.cpu;
        short = let r : e2.off ≤ more = b.short in omega (arith, l, r);
        board_now = b.board_now ∙ ap (λ k. after_cycles e2.off (x + o) (d.cycle k.p2) e.board) a.cpu
            ∙ ap (λ q. after_cycles e2.off (x + o) (d.cycle m.p2) q) a.board_now
            ∙ sym (ticks_add o e2.off x (d.cycle m.p2) board);
        facts = b.facts;
      })
      (rest (x + o) e.cpu e.board a.now a.ring a.cpu a.facts (safe_at pc m a.now a.ring e.cpu a.cpu free af.1)))
