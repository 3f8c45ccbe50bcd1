-- The loop over the rows of a changed column.
use Rattle.law_fw_keys.proofs.Fold.{Deck, edge, rows}
use Rattle.std.proofs.Common.{◌≡◌, ◌≤◌, ◌<◌, ℕ, suc, zero, ◌+◌, ◌-◌, ◌*◌, ◌%◌, ◌/◌, List, [], ◌∷◌, All, Bool, true}
use Rattle.std.proofs.Common.{false, not, ◌==◌, if◌then◌else◌, refl, ap, sym, ◌∙◌, subst, arith}
use Rattle.mcs48_core.specs.Cpu.{Cpu}
use Rattle.bits.specs.Bits.{bit}
use Rattle.mcs48_core.specs.Status.{digit}
use Rattle.law_fw_keys.proofs.Blocks.{JustA, leaf_a, leaf, here, seq, seq_just_a, recast, relax}
use Rattle.law_fw_keys.proofs.EdgeTests.{turned, bit_turned, not_none}
use Rattle.law_fw_keys.proofs.Struck.{edge_law}
use Rattle.fw_kernel.specs.declared.cells.TheConstants.{R0, R3, R4, R5, R6, R7, COUNT, FN}
use Rattle.fw_kernel.specs.Places.{HasKernel}
use Rattle.fw_kernel.specs.declared.labels.TheConstants.{EDGE, ENTERED, FOOT, ROW}
use Rattle.law_fw_keys.proofs.Block.{Ends, Safe}
use Rattle.law_fw_keys.proofs.Patch.{AfterEdge, IsFnCell, Patch, Struck, deck_of, self, struck}
use Rattle.law_fw_keys.specs.Edges.{image_keys, IsSilentAlike}
use Rattle.law_fw_logic.proofs.Block.{begin_at, memory, put}
use Rattle.law_fw_logic.proofs.Kernel.{kernel_in}
use Rattle.law_fw_logic.proofs.Leads.{Leads}
use Rattle.law_fw_logic.proofs.Path.{Acc, Go, Run, Until, Count}
use Rattle.law_fw_logic.proofs.Short.{has_rows}
use Rattle.mcs48_ranges.specs.Sizes.{IsByte}
use Rattle.joint_run.specs.Run.{Board}

-- how many rows from r on have an edge, and the time of n rows
abbrev pub marks : ℕ → ℕ → ℕ → ℕ
marks r zero c = 0
marks r (suc n) c = digit (bit r c) + marks (suc r) n c

abbrev pub rows_time : ℕ → ℕ → ℕ → ℕ
rows_time r n c = 2 + 6 * n + 62 * marks r n c

module _ (d : Board) (bytes : List ℕ) (hk : HasKernel bytes) (alike : IsSilentAlike bytes) (small : All IsByte bytes)
    (low : (p1 p2 c : ℕ) (s : d.State) → (d.pins p1 p2 c s).bus < 256) (held : List Bool)
    (on : Bool) (c down p0 r0 : ℕ) (lc : c < 256) (lp : p0 + 8 ≤ 96)
    (onlys : (r : ℕ) → r < 8 → bit r r0 ≡ (image_keys bytes).make_only (p0 + r)) where
  -- a row, by whether it has an edge
  abbrev step_if : ℕ → Bool → Deck → Deck
  step_if r b deck = if b then edge (image_keys bytes) on (p0 + r) r (bit r down) deck else deck

  pub record AfterRows (r n : ℕ) (f : ℕ → ℕ) (ring : List ℕ) (acc : ℕ) (g : ℕ → ℕ) (last : List ℕ) : Type 0 where
    pub p : Patch
    pub r5 : ℕ
    pub fn : ℕ
    pub is : Struck held (rows (edge (image_keys bytes) on) p0 r n c down) f ring p r5 fn g last
    pub r6 : p.r6 ≡ p0 + 8

  -- what a pass begins with: n rows are left
  pub record Row (r n : ℕ) (m : Cpu) (f : ℕ → ℕ) : Type 0 where
    pub sum : r + n ≡ 8
    pub a : m.a ≡ turned r c
    pub flag : m.f0 ≡ on
    pub left : f R3 ≡ n
    pub at : f R6 ≡ p0 + r
    pub downs : f R7 ≡ down
    pub only : f R0 ≡ r0
    pub cell : IsFnCell (f FN)
    pub most : f COUNT % 128 ≤ 16

  abbrev pub place : ℕ → ℕ
  place zero = FOOT
  place (suc k) = ROW

  abbrev pub RowsLaw : ℕ → Type 0
  RowsLaw n = (r x : ℕ) (m : Cpu) (board : d.State) (f : ℕ → ℕ) (ring : List ℕ) → Row r n m f → Safe m (place n) f ring
      → Leads d (kernel_in true bytes) x (begin_at d (place n) f ring m board)
      (Ends d x m board FOOT (rows_time r n c) (AfterRows r n f ring))

  -- a row without an edge
  skips : (k r x : ℕ) (m : Cpu) (board : d.State) (f : ℕ → ℕ) (ring : List ℕ) → RowsLaw k → Row r (suc k) m f
      → Safe m ROW f ring → bit r c ≡ false
      → Leads d (kernel_in true bytes) x (begin_at d ROW f ring m board)
      (Ends d x m board FOOT (rows_time r (suc k) c) (AfterRows r (suc k) f ring))
  skips zero r x m board f ring ih row safe is =
      let l : r < 8 = (let s : r + 1 ≡ 8 = row.sum in omega (arith, s)) in
      let p : Patch = record (self f) { r3 = (f R3 + 255) % 256; r6 = (f R6 + 1) % 256 } in
      let stop : not ((f R3 + 255) % 256 == 0) ≡ false = (let n : f R3 ≡ 1 = row.left in rw n refl) in
      relax d (kernel_in true bytes) (has_rows true bytes hk) small low x m board FOOT 8 (rows_time r 1 c)
      (AfterRows r 1 f ring) (AfterRows r 1 f ring) (begin_at d ROW f ring m board) (omega arith) (λ a g rg h. h)
      (leaf d (kernel_in true bytes) (has_rows true bytes hk) small low (AfterRows r 1 f ring)
      (Run 1 ∷ Acc (turned (suc r) c) ∷ Go false ∷ Run 1 ∷ Count false ∷ Until FOOT ∷ []) ROW FOOT 8
      (struck f p (f R5) (f FN)) ring x m m
      board f ring safe.0
      (λ a. record {
        p = p;
        r5 = f R5;
        fn = f FN;
        is = record {
          now = refl;
          deck = sym (ap (λ b. step_if r b (deck_of held f ring)) is);
          most = row.most;
          more = omega arith;
          cell = row.cell;
        };
        r6 = let s : r + 1 ≡ 8 = row.sum in let at : f R6 ≡ p0 + r = row.at in omega (arith, s, at, lp);
      })
      (ap (λ a. 128 * digit (bit 0 a) + a / 2) row.a, (bit_turned r c l lc ∙ is, (stop, (refl, refl, refl)))))
  skips (suc k) r x m board f ring ih row safe is =
      let sum : r + suc (suc k) ≡ 8 = row.sum in
      let l : r < 8 = omega (arith, sum) in
      let left : f R3 ≡ suc (suc k) = row.left in
      let at : f R6 ≡ p0 + r = row.at in
      let p : Patch = record (self f) { r3 = (f R3 + 255) % 256; r6 = (f R6 + 1) % 256 } in
      let less : (f R3 + 255) % 256 ≡ suc k = omega (arith, left, sum) in
      let goes : not ((f R3 + 255) % 256 == 0) ≡ true = not_none ((f R3 + 255) % 256) (suc k) less (omega arith) in
      let step : Deck → Deck = rows (edge (image_keys bytes) on) p0 (suc r) (suc k) c down in
      relax d (kernel_in true bytes) (has_rows true bytes hk) small low x m board FOOT (6 + rows_time (suc r) (suc k) c)
      (rows_time r (suc (suc k)) c) (AfterRows r (suc (suc k)) f ring) (AfterRows r (suc (suc k)) f ring)
      (begin_at d ROW f ring m board) (omega arith) (λ a g rg h. h)
      (seq_just_a d (kernel_in true bytes) (has_rows true bytes hk) small low x m board ROW 6 FOOT
      (rows_time (suc r) (suc k) c) (turned (suc r) c) (struck f p (f R5) (f FN)) ring
      (AfterRows r (suc (suc k)) f ring)
      (begin_at d ROW f ring m board) safe.1
      (leaf_a d (kernel_in true bytes) (has_rows true bytes hk) small low
      (JustA (turned (suc r) c) (struck f p (f R5) (f FN)) ring)
      (Run 1 ∷ Acc (turned (suc r) c) ∷ Go false ∷ Run 1 ∷ Count true ∷ []) ROW ROW 6 (turned (suc r) c)
      (struck f p (f R5) (f FN)) ring x
      m m board f ring safe.0 (refl, refl, refl)
      (ap (λ a. 128 * digit (bit 0 a) + a / 2) row.a, (bit_turned r c l lc ∙ is, (goes, ((refl, refl, refl), refl)))))
      (λ x' m' board' same a safe'.
      recast d (kernel_in true bytes) (has_rows true bytes hk) small low x' m' board' FOOT (rows_time (suc r) (suc k) c)
      (rows_time (suc r) (suc k) c) (AfterRows (suc r) (suc k) (struck f p (f R5) (f FN)) ring)
      (AfterRows r (suc (suc k)) f ring)
      (begin_at d ROW (struck f p (f R5) (f FN)) ring m' board') (omega arith)
      (λ a g rg h. record {
        cells = struck f h.p h.r5 h.fn;
        same = ap (λ t. memory t rg) h.is.now;
        facts = record {
          p = h.p;
          r5 = h.r5;
          fn = h.fn;
          is = record {
            now = refl;
            deck = h.is.deck
                ∙ sym (ap (λ b. step (step_if r b (deck_of held f ring))) is);
            most = h.is.most;
            more = h.is.more;
            cell = h.is.cell;
          };
          r6 = h.r6;
        };
      })
      (ih (suc r) x' m' board' (struck f p (f R5) (f FN)) ring
      (record {
        sum = omega (arith, sum);
        a = a;
        flag = ap (λ k. k.f0) same ∙ row.flag;
        left = less;
        at = omega (arith, at, lp, sum);
        downs = row.downs;
        only = row.only;
        cell = row.cell;
        most = row.most;
      }) safe')))

  -- the next row: R3 and R6 have gone on
  abbrev next_cells : (ℕ → ℕ) → ℕ → ℕ
  next_cells f = put (put f R3 ((f R3 + 255) % 256)) R6 ((f R6 + 1) % 256)

  -- after an edge, the next row or the column's end
  enters_next : (k x : ℕ) (m : Cpu) (board : d.State) (f : ℕ → ℕ) (ring : List ℕ) (v : ℕ) → Safe m ENTERED f ring
      → f R4 ≡ v → (f R3 + 255) % 256 ≡ k
      → Leads d (kernel_in true bytes) x (begin_at d ENTERED f ring m board)
      (Ends d x m board (place k) 4 (JustA v (next_cells f) ring))
  enters_next zero x m board f ring v safe r4 less =
      leaf_a d (kernel_in true bytes) (has_rows true bytes hk) small low (JustA v (next_cells f) ring)
      (Run 1 ∷ Acc v ∷ Run 1 ∷ Count false ∷ []) ENTERED FOOT 4 v (next_cells f) ring x m m board f ring safe.0
      (refl, refl, refl)
      (r4, ((let e : not ((f R3 + 255) % 256 == 0) ≡ false = rw less refl in e), ((refl, refl, refl), refl)))
  enters_next (suc k) x m board f ring v safe r4 less =
      leaf_a d (kernel_in true bytes) (has_rows true bytes hk) small low (JustA v (next_cells f) ring)
      (Run 1 ∷ Acc v ∷ Run 1 ∷ Count true ∷ []) ENTERED ROW 4 v (next_cells f) ring x m m board f ring safe.0
      (refl, refl, refl)
      (r4, (not_none ((f R3 + 255) % 256) (suc k) less (omega arith), ((refl, refl, refl), refl)))

  -- the rows after one with an edge
  goes_on : (k r x : ℕ) (m : Cpu) (board : d.State) (f : ℕ → ℕ) (ring last : List ℕ) (p : Patch) (r5 fn : ℕ) → RowsLaw k
      → r + suc k ≡ 8 → m.f0 ≡ on → f R7 ≡ down → f R0 ≡ r0 → IsFnCell fn
      → p.r3 ≡ suc k → p.r4 ≡ turned (suc r) c → p.r6 ≡ p0 + r → p.count % 128 ≤ 16 → f COUNT % 128 ≤ p.count % 128
      → deck_of held (struck f p r5 fn) last ≡ step_if r (bit r c) (deck_of held f ring)
      → Safe m ENTERED (struck f p r5 fn) last
      → Leads d (kernel_in true bytes) x (begin_at d ENTERED (struck f p r5 fn) last m board)
      (Ends d x m board FOOT (4 + rows_time (suc r) k c) (AfterRows r (suc k) f ring))
  goes_on k r x m board f ring last p r5 fn ih sum flag downs only cell r3 r4 r6 most more deck safe =
      let less : (p.r3 + 255) % 256 ≡ k = omega (arith, r3, sum) in
      let q : Patch = record p { r3 = (p.r3 + 255) % 256; r6 = (p.r6 + 1) % 256 } in
      let g2 : ℕ → ℕ = put (put (struck f p r5 fn) R3 ((p.r3 + 255) % 256)) R6 ((p.r6 + 1) % 256) in
      let step : Deck → Deck = rows (edge (image_keys bytes) on) p0 (suc r) k c down in
      seq_just_a d (kernel_in true bytes) (has_rows true bytes hk) small low x m board (place k) 4 FOOT
      (rows_time (suc r) k c) (turned (suc r) c) g2 last (AfterRows r (suc k) f ring)
      (begin_at d ENTERED (struck f p r5 fn) last m board) safe.1
      (enters_next k x m board (struck f p r5 fn) last (turned (suc r) c) safe r4 less)
      (λ x' m' board' same a safe'.
      recast d (kernel_in true bytes) (has_rows true bytes hk) small low x' m' board' FOOT (rows_time (suc r) k c)
      (rows_time (suc r) k c) (AfterRows (suc r) k g2 last) (AfterRows r (suc k) f ring)
      (begin_at d (place k) g2 last m' board') (omega arith)
      (λ a g rg h.
      let up : p.count % 128 ≤ h.p.count % 128 = h.is.more in
      record {
        cells = struck f h.p h.r5 h.fn;
        same = ap (λ t. memory t rg) h.is.now;
        facts = record {
          p = h.p;
          r5 = h.r5;
          fn = h.fn;
          is = record {
            now = refl;
            deck = h.is.deck ∙ ap step deck;
            most = h.is.most;
            more = omega (arith, up, more);
            cell = h.is.cell;
          };
          r6 = h.r6;
        };
      })
      (ih (suc r) x' m' board' g2 last
      (record {
        sum = omega (arith, sum);
        a = a;
        flag = ap (λ k. k.f0) same ∙ flag;
        left = less;
        at = omega (arith, r6, lp, sum);
        downs = downs;
        only = only;
        cell = cell;
        most = most;
      }) safe'))

  -- a row with an edge
  changes : (k r x : ℕ) (m : Cpu) (board : d.State) (f : ℕ → ℕ) (ring : List ℕ) → RowsLaw k → Row r (suc k) m f
      → Safe m ROW f ring → bit r c ≡ true
      → Leads d (kernel_in true bytes) x (begin_at d ROW f ring m board)
      (Ends d x m board FOOT (rows_time r (suc k) c) (AfterRows r (suc k) f ring))
  changes k r x m board f ring ih row safe is =
      let sum : r + suc k ≡ 8 = row.sum in
      let l : r < 8 = omega (arith, sum) in
      let left : f R3 ≡ suc k = row.left in
      let nth : 7 - k ≡ r = omega (arith, sum) in
      relax d (kernel_in true bytes) (has_rows true bytes hk) small low x m board FOOT
      (3 + (61 + (4 + rows_time (suc r) k c))) (rows_time r (suc k) c) (AfterRows r (suc k) f ring)
      (AfterRows r (suc k) f ring) (begin_at d ROW f ring m board) (rw is (omega arith)) (λ a g rg h. h)
      (seq_just_a d (kernel_in true bytes) (has_rows true bytes hk) small low x m board EDGE 3 FOOT
      (61 + (4 + rows_time (suc r) k c)) (turned (suc r) c) f ring (AfterRows r (suc k) f ring)
      (begin_at d ROW f ring m board) safe.1
      (leaf_a d (kernel_in true bytes) (has_rows true bytes hk) small low (JustA (turned (suc r) c) f ring)
      (Run 1 ∷ Acc (turned (suc r) c) ∷ Go true ∷ []) ROW EDGE 3 (turned (suc r) c) f ring x m m board f ring safe.0
      (refl, refl, refl)
      (ap (λ a. 128 * digit (bit 0 a) + a / 2) row.a, (bit_turned r c l lc ∙ is, ((refl, refl, refl), refl))))
      (λ x1 m1 board1 same1 a1 safe1.
      let on1 : m1.f0 ≡ on = ap (λ k. k.f0) same1 ∙ row.flag in
      let at : f R6 ≡ p0 + r = row.at in
      let only_is : bit (7 - k) (f R0) ≡ (image_keys bytes).make_only (f R6) =
      ap (λ n. bit n (f R0)) nth ∙ ap (λ v. bit r v) row.only ∙ onlys r l
      ∙ ap (λ n. (image_keys bytes).make_only n) (sym at) in
      seq d (kernel_in true bytes) (has_rows true bytes hk) small low x1 m1 board1 ENTERED 61 FOOT
      (4 + rows_time (suc r) k c) (λ acc. AfterEdge held (edge (image_keys bytes) m1.f0 (f R6) (7 - k) (bit (7 - k)
      (f R7))) m1.a f ring) (AfterRows r (suc k) f ring) (begin_at d EDGE f ring m1 board1) safe1.1
      (edge_law d bytes hk alike small low held k x1 m1 board1 f ring
      (record {
        k_small = omega (arith, sum);
        r3 = left;
        place = omega (arith, at, lp, l);
        cell = row.cell;
        only = only_is;
        most = row.most;
      }) safe1)
      (λ x2 m2 board2 g last same2 q safe2.
      let D : Deck = deck_of held f ring in
      let words : edge (image_keys bytes) m1.f0 (f R6) (7 - k) (bit (7 - k) (f R7)) D
      ≡ step_if r (bit r c) D =
      ap (λ b. edge (image_keys bytes) b (f R6) (7 - k) (bit (7 - k) (f R7)) D) on1
      ∙ ap (λ n. edge (image_keys bytes) on n (7 - k) (bit (7 - k) (f R7)) D) row.at
      ∙ ap (λ n. edge (image_keys bytes) on (p0 + r) n (bit n (f R7)) D) nth
      ∙ ap (λ n. edge (image_keys bytes) on (p0 + r) r (bit r n) D) row.downs
      ∙ sym (ap (λ b. step_if r b D) is) in
      subst (λ t. Safe m2 ENTERED t last → Leads d (kernel_in true bytes) x2 (begin_at d ENTERED t last m2 board2)
      (Ends d x2 m2 board2 FOOT (4 + rows_time (suc r) k c) (AfterRows r (suc k) f ring))) (sym q.is.now)
      (goes_on k r x2 m2 board2 f ring last q.p q.r5 q.fn ih sum (ap (λ k. k.f0) same2 ∙ on1) row.downs row.only
      q.is.cell (q.r3 ∙ left) (q.r4 ∙ a1) (q.r6 ∙ row.at) q.is.most q.is.more (q.is.deck ∙ words)) safe2)))

  by_bit : (k : ℕ) → RowsLaw k → (r x : ℕ) (m : Cpu) (board : d.State) (f : ℕ → ℕ) (ring : List ℕ) → Row r (suc k) m f
      → Safe m ROW f ring → (b : Bool) → bit r c ≡ b
      → Leads d (kernel_in true bytes) x (begin_at d ROW f ring m board)
      (Ends d x m board FOOT (rows_time r (suc k) c) (AfterRows r (suc k) f ring))
  by_bit k ih r x m board f ring row safe true is = changes k r x m board f ring ih row safe is
  by_bit k ih r x m board f ring row safe false is = skips k r x m board f ring ih row safe is

  -- the rows that are left in a column take their edges as in the model
  pub rows_law : (n : ℕ) → RowsLaw n
  rows_law zero r x m board f ring row safe =
      recast d (kernel_in true bytes) (has_rows true bytes hk) small low x m board FOOT 0 (rows_time r 0 c)
      (JustA m.a f ring) (AfterRows r 0 f ring) (begin_at d FOOT f ring m board) (omega arith)
      (λ a g rg h.
      record {
        cells = struck f (self f) (f R5) (f FN);
        same = ap (λ t. memory t rg) h.1;
        facts = record {
          p = self f;
          r5 = f R5;
          fn = f FN;
          is = record {
            now = refl;
            deck = ap (λ t. deck_of held f t) h.2;
            most = row.most;
            more = omega arith;
            cell = row.cell;
          };
          r6 = let s : r + 0 ≡ 8 = row.sum in let at : f R6 ≡ p0 + r = row.at in omega (arith, s, at);
        };
      })
      (here d (kernel_in true bytes) (has_rows true bytes hk) small low (JustA m.a f ring) x FOOT m board f ring safe.0
      (refl, refl, refl))
  rows_law (suc k) r x m board f ring row safe = by_bit k (rows_law k) r x m board f ring row safe (bit r c) refl
