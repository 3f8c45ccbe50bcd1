-- The loop over the columns: step 5 whole.
use Rattle.law_fw_keys.proofs.Fold.{Deck, Decks, closed, column, columns, edge}
use Rattle.law_fw_keys.proofs.Laid.{laid, laid_low}
use Rattle.std.proofs.Common.{◌≡◌, ◌≤◌, ◌<◌, ℕ, suc, zero, ◌+◌, ◌*◌, ◌%◌, List, [], ◌∷◌, All, Bool, true, false}
use Rattle.std.proofs.Common.{not, ◌==◌, if◌then◌else◌, refl, ap, sym, ◌∙◌, subst, arith}
use Rattle.mcs48_core.specs.Cpu.{Cpu}
use Rattle.law_fw_keys.proofs.Blocks.{Just, JustA, leaf, here, seq, seq_just, seq_just_a, recast, relax}
use Rattle.law_fw_keys.proofs.Blocks.{bytes_of}
use Rattle.law_fw_keys.proofs.Rows.{rows_time, AfterRows, rows_law}
use Rattle.fw_kernel.specs.declared.cells.TheConstants.{R0, COUNT, HELD, CHANGED}
use Rattle.fw_kernel.specs.Places.{HasKernel}
use Rattle.fw_kernel.specs.declared.labels.TheConstants.{COLUMN, DONE, FOOT, MORE, ROW}
use Rattle.law_fw_keys.proofs.Block.{Ends, Safe}
use Rattle.law_fw_keys.proofs.Patch.{IsFnCell, struck}
use Rattle.law_fw_keys.specs.Edges.{image_keys, IsSilentAlike}
use Rattle.law_fw_logic.proofs.Block.{begin_at, memory}
use Rattle.law_fw_logic.proofs.Kernel.{kernel_in}
use Rattle.law_fw_logic.proofs.Leads.{Leads}
use Rattle.law_fw_logic.proofs.Path.{Acc, Go, Run, Until}
use Rattle.law_fw_logic.proofs.Short.{has_rows}
use Rattle.mcs48_ranges.specs.Sizes.{IsByte}
use Rattle.joint_run.specs.Run.{Board}
use Rattle.law_fw_keys.proofs.ColumnPath.{Column, only, begun, afterwards, begins, ends, goal_place, asks}
use Rattle.law_fw_keys.proofs.ColumnCells.{Wide, cell_at, column_sum, columns_time, decks_of}
use Rattle.law_fw_keys.proofs.ColumnCells.{kept_wide}
use Rattle.law_fw_keys.proofs.ColumnCells.{only_at, rows_part, spread, sums, unmoved}
use Rattle.law_fw_keys.proofs.ColumnCells.{wide}

module _ (d : Board) (bytes : List ℕ) (hk : HasKernel bytes) (alike : IsSilentAlike bytes) (small : All IsByte bytes)
    (low : (p1 p2 c : ℕ) (s : d.State) → (d.pins p1 p2 c s).bus < 256) (held : List Bool)
    (on : Bool) (ch hd : ℕ → ℕ) where
  abbrev step : ℕ → ℕ → Bool → Deck → Deck
  step = edge (image_keys bytes) on

  pub record AfterColumns (c n : ℕ) (f layers : ℕ → ℕ) (ring : List ℕ) (acc : ℕ) (g : ℕ → ℕ) (last : List ℕ) : Type 0
    where
      pub w : Wide
      pub now : g ≡ spread f w
      pub r0_is : w.r0 ≡ CHANGED + c + n
      pub state : decks_of held (wide f w) last w.bytes ≡ columns step c n ch hd (decks_of held f ring layers)
      pub most : w.p.count % 128 ≤ 16
      pub more : f COUNT % 128 ≤ w.p.count % 128
      pub cell : IsFnCell w.fn

  -- one column, to the test for another
  column_law : (b : Bool) (c x : ℕ) (m : Cpu) (board : d.State) (f layers : ℕ → ℕ) (ring : List ℕ) → c < 12
      → Column on ch hd c m f → Safe m COLUMN (laid f layers) ring → (ch c == 0) ≡ b
      → Leads d (kernel_in true bytes) x (begin_at d COLUMN (laid f layers) ring m board)
      (Ends d x m board MORE (4 + rows_part (ch c)) (AfterColumns c 1 f layers ring))
  column_law true c x m board f layers ring l col safe none =
      let pointer : f R0 ≡ CHANGED + c = col.pointer in
      let w : Wide = record (unmoved f layers) { r0 = (f R0 + 1) % 256 } in
      let s : Decks = decks_of held f ring layers in
      relax d (kernel_in true bytes) (has_rows true bytes hk) small low x m board MORE 4 (4 + rows_part (ch c))
      (AfterColumns c 1 f layers ring) (AfterColumns c 1 f layers ring) (begin_at d COLUMN (laid f layers) ring m board)
      (omega arith) (λ a g rg h. h)
      (leaf d (kernel_in true bytes) (has_rows true bytes hk) small low (AfterColumns c 1 f layers ring)
      (Run 1 ∷ Acc (ch c) ∷ Go false ∷ Until MORE ∷ []) COLUMN MORE 4 (spread f w) ring x m m board (laid f layers)
      ring safe.0
      (λ a. record {
        w = w;
        now = refl;
        r0_is = omega (arith, pointer, l);
        state = sym (ap (λ b. if b then s else column step c (ch c) (hd c) s) none);
        most = col.most;
        more = omega arith;
        cell = col.cell;
      }) (
        cell_at (laid f layers) ring (f R0) (CHANGED + c) pointer (omega (arith, l))
            ∙ laid_low f layers (CHANGED + c) (omega (arith, l)) ∙ col.changes c l,
        (ap not none, (refl, refl, refl)),
      ))
  column_law false c x m board f layers ring l col safe some =
      let h = bytes_of m COLUMN (laid f layers) ring safe in
      let lc : ch c < 256 = subst (λ v. v < 256) (laid_low f layers (CHANGED + c) (omega (arith, l)) ∙ col.changes c l)
      (h.cell (CHANGED + c) (omega (arith, l))) in
      let time : ℕ = rows_time 0 8 (ch c) in
      let g1 : ℕ → ℕ = begun bytes ch hd c f layers in
      let s : Decks = decks_of held f ring layers in
      relax d (kernel_in true bytes) (has_rows true bytes hk) small low x m board MORE (32 + (time + 15))
      (4 + rows_part (ch c)) (AfterColumns c 1 f layers ring) (AfterColumns c 1 f layers ring)
      (begin_at d COLUMN (laid f layers) ring m board) (column_sum (ch c) some) (λ a g rg h. h)
      (seq_just_a d (kernel_in true bytes) (has_rows true bytes hk) small low x m board ROW 32 MORE (time + 15) (ch c)
      g1 ring (AfterColumns c 1 f layers ring) (begin_at d COLUMN (laid f layers) ring m board) safe.1
      (begins d bytes hk small low on ch hd c x m board f layers ring l col safe some)
      (λ x1 m1 board1 same1 a1 safe1.
      seq d (kernel_in true bytes) (has_rows true bytes hk) small low x1 m1 board1 FOOT time MORE 15
      (AfterRows d bytes hk alike small low held on (ch c) (hd c) (8 * c) (only bytes c) lc (omega (arith, l)) (only_at
      bytes c) 0 8 g1 ring) (AfterColumns c 1 f layers ring) (begin_at d ROW g1 ring m1 board1) safe1.1
      (rows_law d bytes hk alike small low held on (ch c) (hd c) (8 * c) (only bytes c) lc (omega (arith, l)) (only_at
      bytes c) 8 0 x1 m1 board1 g1 ring
      (record {
        sum = refl;
        a = a1;
        flag = ap (λ k. k.f0) same1 ∙ col.flag;
        left = refl;
        at = omega arith;
        downs = refl;
        only = refl;
        cell = col.cell;
        most = col.most;
      }) safe1)
      (λ x2 m2 board2 g last same2 q safe2.
      subst (λ t. Safe m2 FOOT t last → Leads d (kernel_in true bytes) x2 (begin_at d FOOT t last m2 board2)
      (Ends d x2 m2 board2 MORE 15 (AfterColumns c 1 f layers ring))) (sym q.is.now)
      (λ safe3.
      recast d (kernel_in true bytes) (has_rows true bytes hk) small low x2 m2 board2 MORE 15 15
      (Just (spread f (afterwards hd c layers (CHANGED + 1 + c) q.r5 q.fn q.p)) last) (AfterColumns c 1 f layers ring)
      (begin_at d FOOT (struck g1 q.p q.r5 q.fn) last m2 board2) (omega arith)
      (λ a g2 rg h.
      let w : Wide = afterwards hd c layers (CHANGED + 1 + c) q.r5 q.fn q.p in
      record {
        cells = spread f w;
        same = ap (λ t. memory t rg) h.0;
        facts = record {
          w = w;
          now = refl;
          r0_is = omega arith;
          state = ap (λ t. decks_of held (wide f w) t w.bytes) h.1 ∙ ap (λ t. closed c layers t) q.is.deck
              ∙ sym (ap (λ b. if b then s else column step c (ch c) (hd c) s) some);
          most = q.is.most;
          more = q.is.more;
          cell = q.is.cell;
        };
      })
      (ends d bytes hk small low on ch hd c x2 m2 board2 f layers ring last q.p q.r5 q.fn l safe3 q.r6)) safe2)))

  abbrev pub ColumnsLaw : ℕ → Type 0
  ColumnsLaw n = (c x : ℕ) (m : Cpu) (board : d.State) (f layers : ℕ → ℕ) (ring : List ℕ) → c + n ≡ 12 → Column on ch
      hd c m f
      → Safe m (goal_place d bytes hk small low on ch hd n) (laid f layers) ring
      → Leads d (kernel_in true bytes) x (begin_at d (goal_place d bytes hk small low on ch hd n) (laid f layers)
      ring m board)
      (Ends d x m board DONE (columns_time ch c n) (AfterColumns c n f layers ring))

  -- the columns that are left take their edges, one column after another, up to the end of step 5
  pub columns_law : (n : ℕ) → ColumnsLaw n
  columns_law zero c x m board f layers ring sum col safe =
      let pointer : f R0 ≡ CHANGED + c = col.pointer in
      recast d (kernel_in true bytes) (has_rows true bytes hk) small low x m board DONE 0 0
      (JustA m.a (laid f layers) ring) (AfterColumns c 0 f layers ring) (begin_at d DONE (laid f layers) ring m board)
      (omega arith)
      (λ a g rg h.
      record {
        cells = spread f (unmoved f layers);
        same = ap (λ t. memory t rg) h.1;
        facts = record {
          w = unmoved f layers;
          now = refl;
          r0_is = omega (arith, pointer);
          state = ap (λ t. decks_of held f t layers) h.2;
          most = col.most;
          more = omega arith;
          cell = col.cell;
        };
      })
      (here d (kernel_in true bytes) (has_rows true bytes hk) small low (JustA m.a (laid f layers) ring) x DONE m board
      (laid f layers) ring safe.0 (refl, refl, refl))
  columns_law (suc n) c x m board f layers ring sum col safe =
      let lc : c < 12 = omega (arith, sum) in
      let rest : ℕ = columns_time ch (suc c) n in
      relax d (kernel_in true bytes) (has_rows true bytes hk) small low x m board DONE
      (4 + rows_part (ch c) + (5 + rest)) (columns_time ch c (suc n)) (AfterColumns c (suc n) f layers ring)
      (AfterColumns c (suc n) f layers ring) (begin_at d COLUMN (laid f layers) ring m board)
      (sums (rows_part (ch c)) rest) (λ a g rg h. h)
      (seq d (kernel_in true bytes) (has_rows true bytes hk) small low x m board MORE (4 + rows_part (ch c)) DONE
      (5 + rest) (AfterColumns c 1 f layers ring) (AfterColumns c (suc n) f layers ring)
      (begin_at d COLUMN (laid f layers) ring m board) safe.1
      (column_law (ch c == 0) c x m board f layers ring lc col safe refl)
      (λ x1 m1 board1 g last same1 q safe1.
      subst (λ t. Safe m1 MORE t last → Leads d (kernel_in true bytes) x1 (begin_at d MORE t last m1 board1)
      (Ends d x1 m1 board1 DONE (5 + rest) (AfterColumns c (suc n) f layers ring))) (sym q.now)
      (λ safe2.
      let f1 : ℕ → ℕ = wide f q.w in
      let g1 : ℕ → ℕ = spread f q.w in
      let pointer : q.w.r0 ≡ CHANGED + c + 1 = q.r0_is in
      let up : f COUNT % 128 ≤ q.w.p.count % 128 = q.more in
      seq_just d (kernel_in true bytes) (has_rows true bytes hk) small low x1 m1 board1
      (goal_place d bytes hk small low on ch hd n) 5 DONE rest g1
      last (AfterColumns c (suc n) f layers ring) (begin_at d MORE g1 last m1 board1) safe2.1
      (asks d bytes hk small low on ch hd n c x1 m1 board1 g1 last sum (omega (arith, pointer)) safe2)
      (λ x2 m2 board2 same2 safe3.
      recast d (kernel_in true bytes) (has_rows true bytes hk) small low x2 m2 board2 DONE rest rest
      (AfterColumns (suc c) n f1 q.w.bytes last) (AfterColumns c (suc n) f layers ring)
      (begin_at d (goal_place d bytes hk small low on ch hd n) g1 last m2 board2) (omega arith)
      (λ a g rg h.
      let up2 : q.w.p.count % 128 ≤ h.w.p.count % 128 = h.more in
      let at : h.w.r0 ≡ CHANGED + suc c + n = h.r0_is in
      record {
        cells = spread f h.w;
        same = ap (λ t. memory t rg) h.now;
        facts = record {
          w = h.w;
          now = refl;
          r0_is = omega (arith, at);
          state = h.state ∙ ap (λ k. columns step (suc c) n ch hd k) q.state;
          most = h.most;
          more = omega (arith, up, up2);
          cell = h.cell;
        };
      })
      (columns_law n (suc c) x2 m2 board2 f1 q.w.bytes last (omega (arith, sum))
      (record {
        pointer = omega (arith, pointer);
        flag = ap (λ k. k.f0) same2 ∙ ap (λ k. k.f0) same1 ∙ col.flag;
        most = q.most;
        cell = q.cell;
        changes = λ i l. kept_wide f q.w (CHANGED + i) (omega arith) (omega (arith, l)) ∙ col.changes i l;
        helds = λ i l. kept_wide f q.w (HELD + i) (omega arith) (omega (arith, l)) ∙ col.helds i l;
      }) safe3))) safe1))
