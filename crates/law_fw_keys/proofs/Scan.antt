-- Steps 4 and 5 together: from scan to the end of the service.
use Rattle.model_keyboard.specs.Keyboard.{Keyboard}
use Rattle.model_keyboard.specs.Codes.{Keys}
use Rattle.law_fw_keys.proofs.Typematic.{repeating}
use Rattle.std.proofs.Common.{◌≡◌, ◌≤◌, ◌<◌, ℕ, ◌+◌, ◌*◌, ◌%◌, ◌==◌, not, List, All, Bool, true, refl, ap, sym, ◌∙◌}
use Rattle.std.proofs.Common.{subst, arith}
use Rattle.std.proofs.lemmas.Bool.Decides.{nat_tests}
use Rattle.mcs48_core.specs.Cpu.{Cpu}
use Rattle.law_fw_keys.proofs.Blocks.{seq, recast, relax}
use Rattle.law_fw_keys.proofs.Columns.{AfterColumns}
use Rattle.law_fw_keys.proofs.ColumnCells.{Wide, wide, spread, decks_of}
use Rattle.law_fw_keys.proofs.Fold.{Decks}
use Rattle.law_fw_keys.proofs.Held.{held_same, layers_same}
use Rattle.law_fw_keys.proofs.Laid.{laid_at}
use Rattle.law_fw_keys.proofs.Layered.{Runs, each, layers_by, columns_run}
use Rattle.model_keyboard.specs.Layers.{Layers, layered, all_layers_after}
use Rattle.law_fw_keys.proofs.Settle.{changes_by, holds_by, pends_by, settle_cycles, Settled, settle_law}
use Rattle.law_fw_keys.proofs.Step5.{changed_columns, all_edges, edges_law}
use Rattle.law_fw_keys.proofs.Typematic.{AfterStep, step4_law}
use Rattle.fw_kernel.specs.declared.cells.TheConstants.{COUNT, STARTED, MODE, LIGHTS, FN, HELD, CHANGED, LAYER}
use Rattle.fw_kernel.specs.declared.cells.TheConstants.{PENDING}
use Rattle.fw_kernel.specs.Places.{HasKernel}
use Rattle.fw_kernel.specs.declared.labels.TheConstants.{DONE, EDGES, SCAN, SETTLE}
use Rattle.law_fw_keys.proofs.Block.{Ends, Safe}
use Rattle.law_fw_keys.proofs.Patch.{IsFnCell, Patch, over}
use Rattle.law_fw_keys.specs.Edges.{image_keys, tick_edges, IsSilentAlike}
use Rattle.law_fw_keys.specs.State.{kbd_of, layers_of, debounces}
use Rattle.law_fw_logic.proofs.Block.{begin_at, memory}
use Rattle.law_fw_logic.proofs.Kernel.{kernel_in}
use Rattle.law_fw_logic.proofs.Leads.{Leads}
use Rattle.law_fw_logic.proofs.Short.{has_rows}
use Rattle.mcs48_ranges.specs.Sizes.{IsByte}
use Rattle.joint_run.specs.Run.{Board}
use Rattle.model_keyboard.specs.Tick.{is_scanning}

kept_changes : (f : ℕ → ℕ) (p : Patch) (i : ℕ) → i < 12 → over f p (CHANGED + i) ≡ f (CHANGED + i)
kept_changes f p i l = grind (arith, nat_tests, l)

kept_helds : (f : ℕ → ℕ) (p : Patch) (i : ℕ) → i < 12 → over f p (HELD + i) ≡ f (HELD + i)
kept_helds f p i l = grind (arith, nat_tests, l)

kept_pendings : (f : ℕ → ℕ) (p : Patch) (i : ℕ) → i < 12 → over f p (PENDING + i) ≡ f (PENDING + i)
kept_pendings f p i l = grind (arith, nat_tests, l)

over_layers : (f : ℕ → ℕ) (p : Patch) (i : ℕ) → FN ≤ i → i < LAYER + 12 → over f p i ≡ f i
over_layers f p i l u = grind (arith, nat_tests, l, u)

-- settling is a matter of three cells
pub changes_same : (b : Bool) (p q x y : ℕ) → p ≡ q → x ≡ y → changes_by b p x ≡ changes_by b q y
changes_same b p q x y e f = ap (λ v. changes_by b v x) e ∙ ap (λ v. changes_by b q v) f

-- the same readings leave the same keys pending
pub pends_same : (b : Bool) (p q x y : ℕ) → p ≡ q → x ≡ y → pends_by b p x ≡ pends_by b q y
pends_same b p q x y e f = ap (λ v. pends_by b v x) e ∙ ap (λ v. pends_by b q v) f

-- the same readings leave the same keys held
pub holds_same : (b : Bool) (p q x y r t : ℕ) → p ≡ q → x ≡ y → r ≡ t → holds_by b p x r ≡ holds_by b q y t
holds_same b p q x y r t e f g =
    ap (λ v. holds_by b v x r) e ∙ ap (λ v. holds_by b q v r) f ∙ ap (λ v. holds_by b q y v) g

-- steps 4 and 5, but for the held keys; and the layers behind them
abbrev pub keyed : Keys → Bool → (ℕ → ℕ) → (ℕ → ℕ) → Layers → Keyboard → Keyboard
keyed keys inhibited changed down l k =
    each keys (is_scanning k) (layered keys.is_fn (tick_edges changed down) l) (repeating keys inhibited k)

abbrev pub after : Keys → (ℕ → ℕ) → (ℕ → ℕ) → Layers → Layers
after keys changed down l = all_layers_after keys.is_fn (tick_edges changed down) l

-- the time of step 5, with that in which keys settle
abbrev pub columns_most : (ℕ → ℕ) → ℕ
columns_most ch = 9 * 12 + 93 * changed_columns ch 0 12 + 62 * all_edges ch 0 12

abbrev pub edges_most : List ℕ → (ℕ → ℕ) → ℕ
edges_most bytes ch = settle_cycles (debounces bytes) + columns_most ch

settle_first : (s e : ℕ) → s + (2 + e) ≤ 2 + (s + e)
settle_first s e = omega arith

-- the cells after the columns show the layers
spread_layers : (f : ℕ → ℕ) (w : Wide) → layers_of (spread f w) ≡ layers_by (not (w.fn == 0)) w.bytes
spread_layers f w = ap (λ p. record { fn_down = not (w.fn == 0); pressed_in = p })
    (held_same (λ c. spread f w (LAYER + c)) w.bytes (λ c l. laid_at (wide f w) w.bytes c l))

module _ (d : Board) (bytes : List ℕ) (hk : HasKernel bytes) (alike : IsSilentAlike bytes) (small : All IsByte bytes)
    (low : (p1 p2 c : ℕ) (s : d.State) → (d.pins p1 p2 c s).bus < 256) (held : List Bool) where
  -- data memory at the end, by the cells after keys have settled
  pub record Scanned (inhibited : Bool) (ch hd pd : ℕ → ℕ) (f : ℕ → ℕ) (ring : List ℕ) (acc : ℕ) (g : ℕ → ℕ)
      (last : List ℕ) : Type 0 where
    pub h : ℕ → ℕ
    pub w : Wide
    pub now : g ≡ spread h w
    pub kbd : kbd_of held (spread h w) last
        ≡ keyed (image_keys bytes) inhibited ch hd (layers_of f) (kbd_of held f ring)
    pub layers : layers_of (spread h w) ≡ after (image_keys bytes) ch hd (layers_of f)
    pub most : w.p.count % 128 ≤ 16
    pub more : f COUNT % 128 ≤ w.p.count % 128
    pub cell : IsFnCell w.fn
    pub helds : (i : ℕ) → i < 12 → h (HELD + i) ≡ hd i
    pub pendings : (i : ℕ) → i < 12 → h (PENDING + i) ≡ pd i
    pub others : (h STARTED ≡ f STARTED) × (h MODE ≡ f MODE) × (h LIGHTS ≡ f LIGHTS)
    pub stack : (h 8 ≡ f 8) × (h 9 ≡ f 9)

  -- the keys settle, what repeats is entered, and the edges are taken, as in steps 4 and 5 of the model
  pub scan_law : (ch hd pd : ℕ → ℕ) (x : ℕ) (m : Cpu) (board : d.State) (f : ℕ → ℕ) (ring : List ℕ) → f COUNT % 128 ≤ 16
      → IsFnCell (f FN) → Safe m SCAN f ring
      → ((i : ℕ) → i < 12 → changes_by (debounces bytes) (f (PENDING + i)) (f (CHANGED + i)) ≡ ch i)
      → ((i : ℕ) → i < 12 → holds_by (debounces bytes) (f (PENDING + i)) (f (CHANGED + i)) (f (HELD + i)) ≡ hd i)
      → ((i : ℕ) → i < 12 → pends_by (debounces bytes) (f (PENDING + i)) (f (CHANGED + i)) ≡ pd i)
      → Leads d (kernel_in true bytes) x (begin_at d SCAN f ring m board)
      (Ends d x (record m { f0 = is_scanning (kbd_of held f ring) }) board DONE (56 + (2 + edges_most bytes ch))
      (Scanned m.f1 ch hd pd f ring))
  scan_law ch hd pd x m board f ring most cell safe changes helds pendings =
      let on : Bool = is_scanning (kbd_of held f ring) in
      let n : Cpu = record m { f0 = on } in
      let keys = image_keys bytes in
      let b : Bool = debounces bytes in
      let cycles : ℕ = settle_cycles (debounces bytes) in
      let N = Scanned m.f1 ch hd pd f ring in
      seq d (kernel_in true bytes) (has_rows true bytes hk) small low x n board SETTLE 56 DONE (2 + edges_most bytes ch)
      (AfterStep d bytes hk small low held (repeating keys m.f1) f ring) N
      (begin_at d SCAN f ring m board) safe.1
      (step4_law d bytes hk small low held on x m board f ring most safe refl)
      (λ x1 m1 board1 g last same1 q safe1.
      subst (λ t. Safe m1 SETTLE t last → Leads d (kernel_in true bytes) x1 (begin_at d SETTLE t last m1 board1)
      (Ends d x1 m1 board1 DONE (2 + edges_most bytes ch) N)) (sym q.is.now)
      (λ safe2.
      let f1 : ℕ → ℕ = over f q.p in
      let up : f COUNT % 128 ≤ q.p.count % 128 = q.is.more in
      relax d (kernel_in true bytes) (has_rows true bytes hk) small low x1 m1 board1 DONE (cycles + (2 + columns_most ch))
      (2 + edges_most bytes ch) N N (begin_at d SETTLE f1 last m1 board1) (settle_first cycles (columns_most ch))
      (λ a g2 rg h. h)
      (seq d (kernel_in true bytes) (has_rows true bytes hk) small low x1 m1 board1 EDGES cycles DONE
      (2 + columns_most ch) (Settled b held f1 last) N (begin_at d SETTLE f1 last m1 board1) safe2.1
      (settle_law d bytes hk small low held x1 m1 board1 f1 last safe2)
      (λ x2 m2 board2 h r same2 s safe3.
      let count : h COUNT ≡ q.p.count = s.others COUNT (omega arith) (omega arith) in
      let layers_kept : layers_of h ≡ layers_of f =
      layers_same h f (λ i l u. s.others i (omega (arith, l)) (omega (arith, u)) ∙ over_layers f q.p i l u) in
      let flag : m2.f0 ≡ on = ap (λ k. k.f0) same2 ∙ ap (λ k. k.f0) same1 in
      recast d (kernel_in true bytes) (has_rows true bytes hk) small low x2 m2 board2 DONE (2 + columns_most ch)
      (2 + columns_most ch) (AfterColumns d bytes hk alike small low held m2.f0 ch hd 0 12 h (λ i. h (LAYER + i)) r) N
      (begin_at d EDGES h r m2 board2) (omega arith)
      (λ a g2 rg c.
      let up2 : h COUNT % 128 ≤ c.w.p.count % 128 = c.more in
      let s1 : Decks = decks_of held h r (λ i. h (LAYER + i)) in
      let run : Runs keys m2.f0 (tick_edges ch hd) (layers_of h) (kbd_of held h r) (layers_by (not (c.w.fn == 0))
      c.w.bytes) (kbd_of held (wide h c.w) rg) =
      subst (λ (t : Decks). Runs keys m2.f0 (tick_edges ch hd) (layers_of h) (kbd_of held h r)
      (layers_by t.fn t.bytes) t.keyboard) (sym c.state) (columns_run keys m2.f0 0 12 ch hd refl s1) in
      record {
        cells = spread h c.w;
        same = ap (λ t. memory t rg) c.now;
        facts = record {
          h = h;
          w = c.w;
          now = refl;
          kbd = run.keyboard
              ∙ ap (λ l. each keys m2.f0 (layered keys.is_fn (tick_edges ch hd) l) (kbd_of held h r)) layers_kept
              ∙ ap (λ e. each keys e (layered keys.is_fn (tick_edges ch hd) (layers_of f)) (kbd_of held h r)) flag
              ∙ ap (λ k. each keys on (layered keys.is_fn (tick_edges ch hd) (layers_of f)) k) (s.kbd ∙ q.is.kbd);
          layers = spread_layers h c.w ∙ run.layers
              ∙ ap (λ l. all_layers_after keys.is_fn (tick_edges ch hd) l) layers_kept;
          most = c.most;
          more = omega (arith, up, up2, count);
          cell = c.cell;
          helds = λ i l. s.helds i l
              ∙ holds_same b (f1 (PENDING + i)) (f (PENDING + i)) (f1 (CHANGED + i)) (f (CHANGED + i)) (f1 (HELD + i))
              (f (HELD + i))
              (kept_pendings f q.p i l) (kept_changes f q.p i l) (kept_helds f q.p i l) ∙ helds i l;
          pendings = λ i l. s.pendings i l
              ∙ pends_same b (f1 (PENDING + i)) (f (PENDING + i)) (f1 (CHANGED + i)) (f (CHANGED + i)) (kept_pendings f q.p i l)
              (kept_changes f q.p i l) ∙ pendings i l;
          others = (
            s.others STARTED (omega arith) (omega arith),
            s.others MODE (omega arith) (omega arith),
            s.others LIGHTS (omega arith) (omega arith),
          );
          stack = s.stack;
        };
      })
      (edges_law d bytes hk alike small low held ch hd x2 m2 board2 h r (rw count q.is.most)
      (rw (s.others FN (omega arith) (omega arith)) cell) safe3
      (λ i l. s.changes i l
      ∙ changes_same b (f1 (PENDING + i)) (f (PENDING + i)) (f1 (CHANGED + i)) (f (CHANGED + i)) (kept_pendings f q.p i l)
      (kept_changes f q.p i l) ∙ changes i l)
      (λ i l. s.helds i l
      ∙ holds_same b (f1 (PENDING + i)) (f (PENDING + i)) (f1 (CHANGED + i)) (f (CHANGED + i)) (f1 (HELD + i)) (f (HELD + i))
      (kept_pendings f q.p i l) (kept_changes f q.p i l) (kept_helds f q.p i l) ∙ helds i l))))) safe1)
