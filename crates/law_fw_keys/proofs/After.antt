-- After a frame: what was sent, or a command, then steps 4 and 5, to the end of the service.
use Rattle.law_fw_keys.proofs.Patch.{Keeps}
use Rattle.law_fw_keys.proofs.Scan.{after, keyed}
use Rattle.std.proofs.Common.{◌≡◌, ◌≤◌, ◌<◌, ℕ, ◌+◌, ◌%◌, List, All, Bool, true, ap, ◌∙◌, subst, arith}
use Rattle.mcs48_core.specs.Cpu.{Cpu}
use Rattle.law_fw_keys.proofs.Blocks.{recast}
use Rattle.law_fw_keys.proofs.Blocks.{seq_f0}
use Rattle.law_fw_keys.proofs.ColumnCells.{spread, kept_helds, kept_pendings}
use Rattle.law_fw_keys.proofs.Held.{layers_same}
use Rattle.law_fw_keys.proofs.Scan.{Scanned, scan_law, edges_most, changes_same, holds_same, pends_same}
use Rattle.law_fw_keys.proofs.Settle.{changes_by, holds_by, pends_by}
use Rattle.fw_kernel.specs.declared.cells.TheConstants.{COUNT, STARTED, HELD, CHANGED, PENDING}
use Rattle.fw_kernel.specs.Places.{HasKernel}
use Rattle.fw_kernel.specs.declared.labels.TheConstants.{DONE, SCAN}
use Rattle.law_fw_keys.proofs.Block.{Ends, Safe}
use Rattle.law_fw_keys.specs.Edges.{image_keys, IsSilentAlike}
use Rattle.law_fw_keys.specs.State.{layers_of, Inv, kbd_of, debounces}
use Rattle.law_fw_logic.proofs.Block.{begin_at, memory}
use Rattle.law_fw_logic.proofs.Kernel.{kernel_in}
use Rattle.law_fw_logic.proofs.Leads.{Leads}
use Rattle.law_fw_logic.proofs.Short.{has_rows}
use Rattle.mcs48_ranges.specs.Sizes.{IsByte}
use Rattle.joint_run.specs.Run.{Board}
use Rattle.model_keyboard.specs.Keyboard.{Keyboard}
use Rattle.model_keyboard.specs.Tick.{is_scanning}

module _ (d : Board) (bytes : List ℕ) (hk : HasKernel bytes) (alike : IsSilentAlike bytes) (small : All IsByte bytes)
    (low : (p1 p2 c : ℕ) (s : d.State) → (d.pins p1 p2 c s).bus < 256) (held : List Bool) where
  -- data memory at the end of a tick
  pub record Over (inhibited : Bool) (ch hd pd : ℕ → ℕ) (step : Keyboard → Keyboard) (f : ℕ → ℕ) (ring : List ℕ) (acc : ℕ)
      (g : ℕ → ℕ) (last : List ℕ) : Type 0 where
    pub kbd : kbd_of held g last ≡ keyed (image_keys bytes) inhibited ch hd (layers_of f) (step (kbd_of held f ring))
    pub layers : layers_of g ≡ after (image_keys bytes) ch hd (layers_of f)
    pub downs : (i : ℕ) → i < 12 → g (HELD + i) ≡ hd i
    pub pendings : (i : ℕ) → i < 12 → g (PENDING + i) ≡ pd i
    pub inv : Inv g
    pub stack : (g 8 ≡ f 8) × (g 9 ≡ f 9)

  -- a step of the model up to scan from cells h, then the rest of the tick
  pub tail_law : (step : Keyboard → Keyboard) (ch hd pd : ℕ → ℕ) (from max x : ℕ) (m : Cpu) (board : d.State) (h f : ℕ → ℕ)
      (ring : List ℕ) → Safe m from h ring
      → ((i : ℕ) → i < 12 → changes_by (debounces bytes) (f (PENDING + i)) (f (CHANGED + i)) ≡ ch i)
      → ((i : ℕ) → i < 12 → holds_by (debounces bytes) (f (PENDING + i)) (f (CHANGED + i)) (f (HELD + i)) ≡ hd i)
      → ((i : ℕ) → i < 12 → pends_by (debounces bytes) (f (PENDING + i)) (f (CHANGED + i)) ≡ pd i)
      → Leads d (kernel_in true bytes) x (begin_at d from h ring m board)
      (Ends d x m board SCAN max (Keeps held step f ring))
      → Leads d (kernel_in true bytes) x (begin_at d from h ring m board)
      (Ends d x (record m { f0 = is_scanning (step (kbd_of held f ring)) }) board DONE
      (max + (56 + (2 + edges_most bytes ch))) (Over m.f1 ch hd pd step f ring))
  tail_law step ch hd pd from max x m board h f ring safe changes helds pendings way =
      let on : Bool = is_scanning (step (kbd_of held f ring)) in
      let b : Bool = debounces bytes in
      seq_f0 d (kernel_in true bytes) (has_rows true bytes hk) small low on x m board SCAN max DONE
      (56 + (2 + edges_most bytes ch)) (Keeps held step f ring) (Over m.f1 ch hd pd step f ring) (begin_at d from h ring m board)
      safe.1 way
      (λ x1 m1 board1 g r same1 q safe1.
      let flag : is_scanning (kbd_of held g r) ≡ on = ap is_scanning q.kbd in
      let inh : m1.f1 ≡ m.f1 = ap (λ k. k.f1) same1 in
      subst (λ b. Leads d (kernel_in true bytes) x1 (begin_at d SCAN g r m1 board1)
      (Ends d x1 (record m1 { f0 = b }) board1 DONE (56 + (2 + edges_most bytes ch)) (Over m.f1 ch hd pd step f ring))) flag
      (recast d (kernel_in true bytes) (has_rows true bytes hk) small low x1
      (record m1 { f0 = is_scanning (kbd_of held g r) }) board1 DONE (56 + (2 + edges_most bytes ch))
      (56 + (2 + edges_most bytes ch)) (Scanned d bytes hk alike small low held m1.f1 ch hd pd g r) (Over m.f1 ch hd pd step f ring)
      (begin_at d SCAN g r m1 board1) (omega arith)
      (λ a g2 rg s. record {
        cells = spread s.h s.w;
        same = ap (λ t. memory t rg) s.now;
        facts = record {
          kbd = s.kbd ∙ ap (λ b. keyed (image_keys bytes) b ch hd (layers_of g) (kbd_of held g r)) inh
              ∙ ap (λ l. keyed (image_keys bytes) m.f1 ch hd l (kbd_of held g r)) (layers_same g f (λ i l u. q.layers i l (omega (arith, u))))
              ∙ ap (λ k. keyed (image_keys bytes) m.f1 ch hd (layers_of f) k) q.kbd;
          layers = s.layers ∙ ap (λ l. after (image_keys bytes) ch hd l) (layers_same g f (λ i l u. q.layers i l (omega (arith, u))));
          downs = λ i l. kept_helds s.h s.w i l ∙ s.helds i l;
          pendings = λ i l. kept_pendings s.h s.w i l ∙ s.pendings i l;
          inv = record {
            most = s.most;
            started = rw s.others.0 q.inv.started;
            some = (let u : g STARTED ≤ g COUNT % 128 = q.inv.some in let v : g COUNT % 128 ≤ s.w.p.count % 128 = s.more in
                let e : s.h STARTED ≡ g STARTED = s.others.0 in omega (arith, u, v, e));
            mode = rw s.others.1 q.inv.mode;
            lamps = rw s.others.2 q.inv.lamps;
            fn = s.cell;
          };
          stack = (s.stack.0 ∙ q.stack.0, s.stack.1 ∙ q.stack.1);
        };
      })
      (scan_law d bytes hk alike small low held ch hd pd x1 m1 board1 g r q.inv.most q.inv.fn safe1
      (λ i l. changes_same b (g (PENDING + i)) (f (PENDING + i)) (g (CHANGED + i)) (f (CHANGED + i))
      (q.layers (PENDING + i) (omega arith) (omega (arith, l)))
      (q.cells (CHANGED + i) (omega arith) (omega (arith, l))) ∙ changes i l)
      (λ i l. holds_same b (g (PENDING + i)) (f (PENDING + i)) (g (CHANGED + i)) (f (CHANGED + i)) (g (HELD + i)) (f (HELD + i))
      (q.layers (PENDING + i) (omega arith) (omega (arith, l))) (q.cells (CHANGED + i) (omega arith) (omega (arith, l)))
      (q.cells (HELD + i) (omega arith) (omega (arith, l))) ∙ helds i l)
      (λ i l. pends_same b (g (PENDING + i)) (f (PENDING + i)) (g (CHANGED + i)) (f (CHANGED + i))
      (q.layers (PENDING + i) (omega arith) (omega (arith, l)))
      (q.cells (CHANGED + i) (omega arith) (omega (arith, l))) ∙ pendings i l))))
