-- A tick without a frame, from its first instruction to the end of the service.
use Rattle.law_fw_keys.proofs.Patch.{Keeps, still}
use Rattle.law_fw_keys.proofs.Head.{board_lit, headed, head_changes, head_helds, offered_in, look, started, shone, Headed}
use Rattle.law_fw_keys.proofs.Head.{head_law}
use Rattle.law_fw_keys.proofs.Scan.{after, keyed, Scanned, scan_law, edges_most, changes_same, holds_same, pends_same}
use Rattle.law_fw_keys.proofs.Settle.{changes_by, holds_by, pends_by}
use Rattle.law_fw_logic.proofs.Path.{Fork, Go, Stage, Until}
use Rattle.std.proofs.Common.{◌≡◌, ◌≤◌, ◌<◌, ℕ, ◌+◌, ◌-◌, ◌%◌, List, [], ◌∷◌, All, Bool, true, false, not, ◌==◌}
use Rattle.std.proofs.Common.{bit_xor, refl, ap, sym, ◌∙◌, subst, arith, None}
use Rattle.mcs48_core.specs.Cpu.{Cpu}
use Rattle.mcs48_core.specs.declared.levels.Pins.{Pins}
use Rattle.law_fw_keys.proofs.Blocks.{leaf, recast, bytes_of, from_stage, safe_at, fine_end, seq_f0}
use Rattle.law_fw_logic.proofs.Sound.{weaken, chain}
use Rattle.law_fw_keys.proofs.ColumnCells.{spread, kept_helds, kept_pendings}
use Rattle.law_fw_keys.proofs.Held.{layers_same}
use Rattle.law_fw_keys.proofs.SameCells.{head_keeps}
use Rattle.law_fw_keys.proofs.Offered.{unoffered}
use Rattle.law_fw_keys.proofs.Testing.{testing_law}
use Rattle.fw_kernel.specs.declared.cells.TheConstants.{LIGHTS, R3, COUNT, STARTED, TEST, HELD, CHANGED, PENDING, FN}
use Rattle.fw_kernel.specs.Places.{HasKernel}
use Rattle.fw_kernel.specs.declared.labels.TheConstants.{DONE, SCAN, TESTED, P_SEEN, TICK}
use Rattle.law_fw_keys.proofs.Block.{Ends, Safe}
use Rattle.law_fw_keys.specs.Edges.{image_keys, IsSilentAlike}
use Rattle.law_fw_keys.specs.State.{Inv, kbd_of, layers_of, debounces}
use Rattle.law_fw_logic.proofs.Block.{begin_at, memory, put, scratched}
use Rattle.law_fw_logic.proofs.Kernel.{kernel_in}
use Rattle.law_fw_logic.proofs.Leads.{Leads}
use Rattle.law_fw_logic.proofs.Looks.{readied}
use Rattle.law_fw_logic.proofs.Short.{has_rows}
use Rattle.mcs48_ranges.specs.Sizes.{IsByte, IsFine}
use Rattle.joint_run.specs.Run.{Board, after_cycles}
use Rattle.model_keyboard.specs.Keyboard.{Keyboard, offer}
use Rattle.model_keyboard.specs.Tick.{is_scanning, tested_if}
use Rattle.model_keyboard.specs.declared.meeting.Meeting.{Meeting}
use Rattle.model_keyboard.specs.declared.meeting.Meeting.TheVariants.{Idle, Inhibited}
use Rattle.law_fw_keys.proofs.KeyedTick.{passed, keyed_tick, below_cells, counted_cells}

module _ (d : Board) (bytes : List ℕ) (hk : HasKernel bytes) (alike : IsSilentAlike bytes) (small : All IsByte bytes)
    (low : (p1 p2 c : ℕ) (s : d.State) → (d.pins p1 p2 c s).bus < 256) (held : List Bool) where
  module _ (y : ℕ) (m : Cpu) (board : d.State) (f : ℕ → ℕ) (ring : List ℕ) where
    -- what the columns show, and where it isn't what is held
    abbrev pub reads : ℕ → ℕ
    reads = look d bytes hk small low held y m board f ring

    abbrev pub differing : ℕ → ℕ
    differing i = bit_xor (f (HELD + i)) (reads i)

    -- what is held then, what changed, and what is pending
    abbrev pub down : ℕ → ℕ
    down i = holds_by (debounces bytes) (f (PENDING + i)) (differing i) (reads i)

    abbrev pub changed : ℕ → ℕ
    changed i = changes_by (debounces bytes) (f (PENDING + i)) (differing i)

    abbrev pub pending : ℕ → ℕ
    pending i = pends_by (debounces bytes) (f (PENDING + i)) (differing i)

    abbrev pub begun : Stage d.State
    begun = started d bytes hk small low held y m board f ring

    abbrev pub lit : Cpu
    lit = shone d bytes hk small low held y m board f ring

    abbrev pub shining : d.State
    shining = board_lit d bytes hk small low held y m board f ring

    abbrev pub headed_by : ℕ → ℕ → ℕ → ℕ
    headed_by r4 r5 = headed reads f r4 r5

    -- the end of a tick
    pub record Ticked (inhibited : Bool) (max : ℕ) (step : Keyboard → Keyboard) (e : Stage d.State) : Type 0 where
      pub now : ℕ → ℕ
      pub last : List ℕ
      pub used : ℕ
      pub cpu : e.cpu ≡ scratched (record lit { f0 = is_scanning (step (kbd_of held f ring)); f1 = inhibited }) DONE
          (memory now last) e.cpu
      pub off : e.off ≡ 231 + used
      pub short : used ≤ max + (56 + (2 + edges_most bytes changed))
      pub board_now : e.board ≡ after_cycles used (y + 231) (d.cycle (255 - f LIGHTS)) shining
      pub kbd : kbd_of held now last ≡ keyed (image_keys bytes) inhibited changed down (layers_of f)
          (step (kbd_of held f ring))
      pub layers : layers_of now ≡ after (image_keys bytes) changed down (layers_of f)
      pub downs : (i : ℕ) → i < 12 → now (HELD + i) ≡ down i
      pub pendings : (i : ℕ) → i < 12 → now (PENDING + i) ≡ pending i
      pub inv : Inv now
      pub stack : (now 8 ≡ f 8) × (now 9 ≡ f 9)

    -- what a meeting without a frame does between the head and step 4
    abbrev pub Way : Bool → ℕ → (Keyboard → Keyboard) → Type 0
    Way inhibited max step =
        (m' : Cpu) (board' : d.State) (r4 r5 : ℕ) → m' ≡ scratched lit TESTED (memory (headed_by r4 r5) ring) m'
        → board' ≡ shining → offered_in r4 r5 ≡ offer (kbd_of held f ring) → Safe m' TESTED (headed_by r4 r5) ring
        → Leads d (kernel_in true bytes) (y + 231) (begin_at d TESTED (headed_by r4 r5) ring m' board')
        (Ends d (y + 231) (record m' { f1 = inhibited }) board' SCAN max (Keeps held step (headed_by r4 r5) ring))

    -- data memory at the end
    abbrev Shows : Bool → (Keyboard → Keyboard) → ℕ → (ℕ → ℕ) → List ℕ → Type 0
    Shows inhibited step a g r =
        (kbd_of held g r ≡ keyed (image_keys bytes) inhibited changed down (layers_of f) (step (kbd_of held f ring)))
        × ((i : ℕ) → i < 12 → g (HELD + i) ≡ down i) × Inv g × (g 8 ≡ f 8) × (g 9 ≡ f 9)
        × (layers_of g ≡ after (image_keys bytes) changed down (layers_of f))
        × ((i : ℕ) → i < 12 → g (PENDING + i) ≡ pending i)

    rest : (inhibited : Bool) (max : ℕ) (step : Keyboard → Keyboard) → Way inhibited max step
        → (m' : Cpu) (board' : d.State) (r4 r5 : ℕ) → m' ≡ scratched lit TESTED (memory (headed_by r4 r5) ring) m'
        → board' ≡ shining → offered_in r4 r5 ≡ offer (kbd_of held f ring) → Safe m' TESTED (headed_by r4 r5) ring
        → Leads d (kernel_in true bytes) (y + 231) (begin_at d TESTED (headed_by r4 r5) ring m' board')
        (Ends d (y + 231) (record m' { f0 = is_scanning (step (kbd_of held f ring)); f1 = inhibited }) board' DONE
        (max + (56 + (2 + edges_most bytes changed))) (Shows inhibited step))
    rest inhibited max step way m' board' r4 r5 is where_board offers safe =
        let g0 : ℕ → ℕ = headed_by r4 r5 in
        let on : Bool = is_scanning (step (kbd_of held f ring)) in
        let b : Bool = debounces bytes in
        seq_f0 d (kernel_in true bytes) (has_rows true bytes hk) small low on (y + 231) (record m' { f1 = inhibited })
        board' SCAN max DONE (56 + (2 + edges_most bytes changed)) (Keeps held step g0 ring) (Shows inhibited step)
        (begin_at d TESTED g0 ring m' board') safe.1
        (way m' board' r4 r5 is where_board offers safe)
        (λ x1 m1 board1 g r same1 q safe1.
        let flag : is_scanning (kbd_of held g r) ≡ on = ap is_scanning q.kbd in
        let inh : m1.f1 ≡ inhibited = ap (λ k. k.f1) same1 in
        let h : Leads d (kernel_in true bytes) x1 (begin_at d SCAN g r m1 board1)
        (Ends d x1 (record m1 { f0 = is_scanning (kbd_of held g r) }) board1 DONE (56 + (2 + edges_most bytes changed))
        (Scanned d bytes hk alike small low held m1.f1 changed down pending g r)) =
        scan_law d bytes hk alike small low held changed down pending x1 m1 board1 g r q.inv.most q.inv.fn safe1
        (λ i l. changes_same b (g (PENDING + i)) (f (PENDING + i)) (g (CHANGED + i)) (differing i) (was_pending g q.layers i l)
        (differs g q.cells i l))
        (λ i l. holds_same b (g (PENDING + i)) (f (PENDING + i)) (g (CHANGED + i)) (differing i) (g (HELD + i)) (reads i)
        (was_pending g q.layers i l) (differs g q.cells i l)
        (q.cells (HELD + i) (omega arith) (omega (arith, l)) ∙ head_helds reads f r4 r5 i l))
        (λ i l. pends_same b (g (PENDING + i)) (f (PENDING + i)) (g (CHANGED + i)) (differing i) (was_pending g q.layers i l)
        (differs g q.cells i l)) in
        subst (λ b. Leads d (kernel_in true bytes) x1 (begin_at d SCAN g r m1 board1)
        (Ends d x1 (record m1 { f0 = b }) board1 DONE (56 + (2 + edges_most bytes changed)) (Shows inhibited step))) flag
        (recast d (kernel_in true bytes) (has_rows true bytes hk) small low x1
        (record m1 { f0 = is_scanning (kbd_of held g r) }) board1 DONE (56 + (2 + edges_most bytes changed))
        (56 + (2 + edges_most bytes changed)) (Scanned d bytes hk alike small low held m1.f1 changed down pending g r)
        (Shows inhibited step) (begin_at d SCAN g r m1 board1) (omega arith)
        (λ a g2 rg s. record {
          cells = spread s.h s.w;
          same = ap (λ t. memory t rg) s.now;
          facts = (
            s.kbd ∙ ap (λ b. keyed (image_keys bytes) b changed down (layers_of g) (kbd_of held g r)) inh
                ∙ ap (λ l. keyed (image_keys bytes) inhibited changed down l (kbd_of held g r)) (layers_kept g q.layers)
                ∙ ap (λ k. keyed (image_keys bytes) inhibited changed down (layers_of f) k) q.kbd,
            (λ i l. kept_helds s.h s.w i l ∙ s.helds i l),
            record {
              most = s.most;
              started = rw s.others.0 q.inv.started;
              some = (let u : g STARTED ≤ g COUNT % 128 = q.inv.some in let v : g COUNT % 128 ≤ s.w.p.count % 128 = s.more in
                  let e : s.h STARTED ≡ g STARTED = s.others.0 in omega (arith, u, v, e));
              mode = rw s.others.1 q.inv.mode;
              lamps = rw s.others.2 q.inv.lamps;
              fn = s.cell;
            },
            s.stack.0 ∙ q.stack.0,
            s.stack.1 ∙ q.stack.1,
            s.layers ∙ ap (λ l. after (image_keys bytes) changed down l) (layers_kept g q.layers),
            (λ i l. kept_pendings s.h s.w i l ∙ s.pendings i l),
          );
        })
        h))
      where
        layers_kept : (g : ℕ → ℕ) → ((i : ℕ) → FN ≤ i → i < PENDING + 12 → g i ≡ headed_by r4 r5 i) → layers_of g ≡ layers_of f
        layers_kept g e =
            layers_same g f (λ i l u. e i l (omega (arith, u)) ∙ head_keeps reads f r4 r5 i (omega (arith, l)))

        was_pending : (g : ℕ → ℕ) → ((i : ℕ) → FN ≤ i → i < PENDING + 12 → g i ≡ headed_by r4 r5 i) → (i : ℕ) → i < 12
            → g (PENDING + i) ≡ f (PENDING + i)
        was_pending g e i l =
            e (PENDING + i) (omega arith) (omega (arith, l)) ∙ head_keeps reads f r4 r5 (PENDING + i) (omega arith)

        differs : (g : ℕ → ℕ) → ((i : ℕ) → HELD ≤ i → i < CHANGED + 12 → g i ≡ headed_by r4 r5 i) → (i : ℕ) → i < 12
            → g (CHANGED + i) ≡ differing i
        differs g e i l = e (CHANGED + i) (omega arith) (omega (arith, l)) ∙ head_changes reads f r4 r5 i l

    -- a tick whose meeting does a step of the model does that step and then the keys' steps
    pub tick_by : (inhibited : Bool) (max : ℕ) (step : Keyboard → Keyboard) → Way inhibited max step → Safe m (TICK + 3) f ring
        → Leads d (kernel_in true bytes) y begun (Ticked inhibited max step)
    tick_by inhibited max step way safe =
        let h = bytes_of m (TICK + 3) f ring safe in
        let H = Headed d bytes hk small low held y m board f ring in
        chain d (kernel_in true bytes) (has_rows true bytes hk) y (λ e. H e × IsFine e.cpu) (Ticked inhibited max step)
        begun
        (fine_end d (kernel_in true bytes) (has_rows true bytes hk) small low y begun H safe.1
        (head_law d bytes hk small low held y m board f ring h safe.0))
        (λ e af free.
        let a = af.0 in
        let g0 : ℕ → ℕ = headed_by a.r4 a.r5 in
        let T : ℕ → Stage d.State → Type 0 =
        λ y. Ends d y (record e.cpu { f0 = is_scanning (step (kbd_of held f ring)); f1 = inhibited }) e.board DONE
        (max + (56 + (2 + edges_most bytes changed))) (Shows inhibited step) in
        let at : y + 231 ≡ y + e.off = ap (λ o. y + o) (sym a.off) in
        from_stage d (kernel_in true bytes) (has_rows true bytes hk) small low y TESTED lit g0 ring e (T (y + 231))
        (Ticked inhibited max step) a.cpu
        (λ e2 b. record {
          now = b.now;
          last = b.ring;
          used = e2.off;
          cpu = b.cpu
              ∙ ap (λ k. scratched (record k { f0 = is_scanning (step (kbd_of held f ring)); f1 = inhibited }) DONE
              (memory b.now b.ring) e2.cpu) a.cpu;
          off = ap (λ o. o + e2.off) a.off;
          short = b.short;
          board_now = b.board_now ∙ ap (λ k. after_cycles e2.off (y + 231) (d.cycle k.p2) e.board) a.cpu
              ∙ ap (λ q. after_cycles e2.off (y + 231) (d.cycle (255 - f LIGHTS)) q) a.board_now;
          kbd = b.facts.0;
          downs = b.facts.1;
          inv = b.facts.2;
          stack = (b.facts.3, b.facts.4);
          layers = b.facts.5;
          pendings = b.facts.6;
        })
        (subst (λ z. Leads d (kernel_in true bytes) z (begin_at d TESTED g0 ring e.cpu e.board) (T (y + 231))) at
        (rest inhibited max step way e.cpu e.board a.r4 a.r5 a.cpu a.board_now a.offers
        (safe_at d (kernel_in true bytes) (has_rows true bytes hk) small low TESTED lit g0 ring e.cpu a.cpu free
        af.1))))

    -- nothing is offered, and both wires are high at the looks
    abbrev pub IsFreeAt : Type 0
    IsFreeAt =
        ((d.pins 44 (255 - f LIGHTS) (y + 231 + 22) (after_cycles 22 0 (λ o. d.cycle (255 - f LIGHTS) (y + 231 + o)) shining)).t0
        ≡ true)
        × ((d.pins 44 (255 - f LIGHTS) (y + 231 + 24) (after_cycles 24 0 (λ o. d.cycle (255 - f LIGHTS) (y + 231 + o)) shining)).t1
        ≡ true)

    look_at : (m' : Cpu) (board' : d.State) (r4 r5 k : ℕ) (test : Pins → Bool)
        → m' ≡ scratched lit TESTED (memory (headed_by r4 r5) ring) m' → board' ≡ shining
        → test (d.pins m'.p1 m'.p2 (y + 231 + k) (after_cycles k 0 (λ o. d.cycle m'.p2 (y + 231 + o)) board'))
        ≡ test (d.pins 44 (255 - f LIGHTS) (y + 231 + k) (after_cycles k 0 (λ o. d.cycle (255 - f LIGHTS) (y + 231 + o)) shining))
    look_at m' board' r4 r5 k test is where_board =
        ap (λ c. test (d.pins c.p1 c.p2 (y + 231 + k) (after_cycles k 0 (λ o. d.cycle c.p2 (y + 231 + o)) board'))) is
        ∙ ap (λ b. test (d.pins 44 (255 - f LIGHTS) (y + 231 + k) (after_cycles k 0 (λ o. d.cycle (255 - f LIGHTS) (y + 231 + o)) b)))
        where_board

    abbrev pub same_kbd : Keyboard → Keyboard
    same_kbd k = k

    idle_way : Inv f → (f TEST == 0) ≡ true → offer (kbd_of held f ring) ≡ None
        → (d.pins 44 (255 - f LIGHTS) (y + 231 + 22) (after_cycles 22 0 (λ o. d.cycle (255 - f LIGHTS) (y + 231 + o)) shining)).t0
        ≡ true
        → (d.pins 44 (255 - f LIGHTS) (y + 231 + 24) (after_cycles 24 0 (λ o. d.cycle (255 - f LIGHTS) (y + 231 + o)) shining)).t1
        ≡ true
        → Way false 31 same_kbd
    idle_way inv no_test nothing clock high m' board' r4 r5 is where_board offers safe =
        leaf d (kernel_in true bytes) (has_rows true bytes hk) small low (Keeps held same_kbd (headed_by r4 r5) ring)
        (Go false ∷ Go false ∷ Go false ∷ Go true ∷ Until SCAN ∷ []) TESTED SCAN 31
        (readied (headed_by r4 r5)) ring (y + 231) m' (record m' { f1 = false }) board' (headed_by r4 r5)
        ring safe.0
        (λ a. record {
          kbd = refl;
          inv = still (refl, refl, refl, refl, refl) inv;
          cells = λ i l u. below_cells (headed_by r4 r5) i l;
          layers = λ i l u. below_cells (headed_by r4 r5) i (omega (arith, l));
          stack = (refl, refl);
        }) (
          ap not no_test,
          (
            look_at m' board' r4 r5 22 (λ p. not p.t0) is where_board ∙ ap not clock,
            (
              look_at m' board' r4 r5 24 (λ p. not p.t1) is where_board ∙ ap not high,
              (unoffered r4 r5 (r5 == 0) refl (offers ∙ nothing), (refl, refl, refl)),
            ),
          ),
        )

    -- the clock is high, and data low at the first look alone
    abbrev pub IsGlitchAt : Type 0
    IsGlitchAt =
        ((d.pins 44 (255 - f LIGHTS) (y + 231 + 22) (after_cycles 22 0 (λ o. d.cycle (255 - f LIGHTS) (y + 231 + o)) shining)).t0
        ≡ true)
        × ((d.pins 44 (255 - f LIGHTS) (y + 231 + 24) (after_cycles 24 0 (λ o. d.cycle (255 - f LIGHTS) (y + 231 + o)) shining)).t1
        ≡ false)
        × ((d.pins 44 (255 - f LIGHTS) (y + 231 + 52) (after_cycles 52 0 (λ o. d.cycle (255 - f LIGHTS) (y + 231 + o)) shining)).t1
        ≡ true)

    glitch_way : Inv f → (f TEST == 0) ≡ true → IsGlitchAt → Way false 56 same_kbd
    glitch_way inv no_test levels m' board' r4 r5 is where_board offers safe =
        leaf d (kernel_in true bytes) (has_rows true bytes hk) small low (Keeps held same_kbd (headed_by r4 r5) ring)
        (Go false ∷ Go false ∷ Go true ∷ Go true ∷ Until SCAN ∷ []) TESTED SCAN 56
        (put (readied (headed_by r4 r5)) R3 8) ring (y + 231) m' (record m' { f1 = false }) board'
        (headed_by r4 r5) ring safe.0
        (λ a. record {
          kbd = refl;
          inv = still (refl, refl, refl, refl, refl) inv;
          cells = λ i l u. counted_cells (headed_by r4 r5) 8 i l;
          layers = λ i l u. counted_cells (headed_by r4 r5) 8 i (omega (arith, l));
          stack = (refl, refl);
        }) (
          ap not no_test,
          (
            look_at m' board' r4 r5 22 (λ p. not p.t0) is where_board ∙ ap not levels.0,
            (
              look_at m' board' r4 r5 24 (λ p. not p.t1) is where_board ∙ ap not levels.1,
              (look_at m' board' r4 r5 52 (λ p. p.t1) is where_board ∙ levels.2, (refl, refl, refl)),
            ),
          ),
        )

    inhibited_way : Inv f → (f TEST == 0) ≡ true
        → (d.pins 44 (255 - f LIGHTS) (y + 231 + 22) (after_cycles 22 0 (λ o. d.cycle (255 - f LIGHTS) (y + 231 + o)) shining)).t0
        ≡ false
        → Way true 31 same_kbd
    inhibited_way inv no_test clock m' board' r4 r5 is where_board offers safe =
        leaf d (kernel_in true bytes) (has_rows true bytes hk) small low (Keeps held same_kbd (headed_by r4 r5) ring)
        (Go false ∷ Go true ∷ Fork P_SEEN (passed P_SEEN) ∷ Until SCAN ∷ []) TESTED SCAN 31
        (readied (headed_by r4 r5)) ring (y + 231) m' (record m' { f1 = true }) board' (headed_by r4 r5)
        ring safe.0
        (λ a. record {
          kbd = refl;
          inv = still (refl, refl, refl, refl, refl) inv;
          cells = λ i l u. below_cells (headed_by r4 r5) i l;
          layers = λ i l u. below_cells (headed_by r4 r5) i (omega (arith, l));
          stack = (refl, refl);
        }) (
          ap not no_test,
          (
            look_at m' board' r4 r5 22 (λ p. not p.t0) is where_board ∙ ap not clock,
            (refl, (refl, refl, refl, λ e0. (refl, refl, refl))),
          ),
        )

    test_way : Inv f → (f TEST == 0) ≡ false → Way false 36 (tested_if true)
    test_way inv runs m' board' r4 r5 is where_board offers safe =
        testing_law d bytes hk small low held (y + 231) m' board' (headed_by r4 r5) ring
        (still (refl, refl, refl, refl, refl) inv) runs
        safe

    -- whole ticks: the state goes on as the model's tick
    abbrev pub IsTick : Meeting → Bool → (Keyboard → Keyboard) → Type 0
    IsTick meeting inhibited step =
        keyed (image_keys bytes) inhibited changed down (layers_of f) (step (kbd_of held f ring))
        ≡ keyed_tick (image_keys bytes) meeting changed down (layers_of f) (kbd_of held f ring)

    abbrev pub TickLaw : Meeting → Bool → ℕ → (Keyboard → Keyboard) → Type 0
    TickLaw meeting inhibited max step =
        Leads d (kernel_in true bytes) y begun (λ e. Ticked inhibited max step e × IsTick meeting inhibited step)

    with_model : (meeting : Meeting) (inhibited : Bool) (max : ℕ) (step : Keyboard → Keyboard)
        → IsTick meeting inhibited step → Leads d (kernel_in true bytes) y begun (Ticked inhibited max step)
        → TickLaw meeting inhibited max step
    with_model meeting inhibited max step same h =
        weaken d (kernel_in true bytes) (has_rows true bytes hk) y (Ticked inhibited max step)
        (λ e. Ticked inhibited max step e × IsTick meeting inhibited step) begun (λ e a. (a, same)) h

    -- with nothing offered and both wires high a tick is the model's idle one
    pub idle_tick : Inv f → (f TEST == 0) ≡ true → offer (kbd_of held f ring) ≡ None → IsFreeAt → Safe m (TICK + 3) f ring
        → TickLaw Idle false 31 same_kbd
    idle_tick inv no_test nothing wires safe =
        with_model Idle false 31 same_kbd
        (sym (ap (λ b. keyed (image_keys bytes) false changed down (layers_of f)
        (tested_if (not b) (kbd_of held f ring))) no_test))
        (tick_by false 31 same_kbd (idle_way inv no_test nothing wires.0 wires.1) safe)

    -- if data is low at the first look alone, a tick is the model's idle one
    pub glitch_tick : Inv f → (f TEST == 0) ≡ true → IsGlitchAt → Safe m (TICK + 3) f ring → TickLaw Idle false 56 same_kbd
    glitch_tick inv no_test levels safe =
        with_model Idle false 56 same_kbd
        (sym (ap (λ b. keyed (image_keys bytes) false changed down (layers_of f)
        (tested_if (not b) (kbd_of held f ring))) no_test))
        (tick_by false 56 same_kbd (glitch_way inv no_test levels) safe)

    -- if the clock is low at its look, a tick is the model's inhibited one
    pub inhibited_tick : Inv f → (f TEST == 0) ≡ true
        → (d.pins 44 (255 - f LIGHTS) (y + 231 + 22) (after_cycles 22 0 (λ o. d.cycle (255 - f LIGHTS) (y + 231 + o)) shining)).t0
        ≡ false → Safe m (TICK + 3) f ring → TickLaw Inhibited true 31 same_kbd
    inhibited_tick inv no_test low_clock safe =
        with_model Inhibited true 31 same_kbd
        (sym (ap (λ b. keyed (image_keys bytes) true changed down (layers_of f)
        (tested_if (not b) (kbd_of held f ring))) no_test))
        (tick_by true 31 same_kbd (inhibited_way inv no_test low_clock) safe)

    -- in the self-test a tick is the model's idle one
    pub test_tick : Inv f → (f TEST == 0) ≡ false → Safe m (TICK + 3) f ring → TickLaw Idle false 36 (tested_if true)
    test_tick inv runs safe =
        with_model Idle false 36 (tested_if true)
        (sym (ap (λ b. keyed (image_keys bytes) false changed down (layers_of f)
        (tested_if (not b) (kbd_of held f ring))) runs))
        (tick_by false 36 (tested_if true) (test_way inv runs) safe)
