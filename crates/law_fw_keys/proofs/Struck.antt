-- What an edge does to the keyboard, the Fn key and the column's layers: a step of the model.
use Rattle.std.proofs.Common.{◌≡◌, ◌≤◌, ◌<◌, ℕ, ◌+◌, ◌-◌, ◌%◌, List, [], ◌∷◌, All, Bool}
use Rattle.std.proofs.Common.{true, false, ◌==◌, refl, ap, inl, inr, sym, ◌∙◌, arith}
use Rattle.std.specs.declared.option.Option.{Option}
use Rattle.mcs48_core.specs.Cpu.{Cpu}
use Rattle.bits.specs.Bits.{bit}
use Rattle.law_fw_keys.proofs.Blocks.{Again, Just, seq_just, seq_just_a, recast, bytes_of}
use Rattle.law_fw_keys.proofs.Edge.{AtEdge, cell_is, code_at, is_silent, is_only, fn, byte', pressed_cells, begun_cells}
use Rattle.law_fw_keys.proofs.Edge.{found_cells, ended_cells, fn_press, press_off, press_on, finds, fn_release, release_off}
use Rattle.law_fw_keys.proofs.Edge.{release_on, AT_INDEX}
use Rattle.law_fw_keys.proofs.EdgeTests.{stops, some_delay, upper, code_read, silent_read}
use Rattle.law_fw_keys.proofs.Enter.{Entered, enters}
use Rattle.law_fw_keys.proofs.Enter2.{enters_two}
use Rattle.law_fw_keys.proofs.Fold.{Deck, edge, struck_by}
use Rattle.law_fw_keys.proofs.Block.{Ends, Safe}
use Rattle.law_fw_keys.proofs.Patch.{AfterEdge, IsFnCell, Patch, deck_of, struck}
use Rattle.law_fw_keys.specs.Edges.{image_code, image_keys, IsSilentAlike}
use Rattle.law_fw_keys.specs.State.{kbd_of, queue_of, repeat_of}
use Rattle.fw_kernel.specs.declared.cells.TheConstants.{R0, R1, R2, R3, R5, R6, R7, COUNT, RINDEX, RATE, RCOUNT, FN}
use Rattle.fw_kernel.specs.Places.{HasKernel}
use Rattle.fw_kernel.specs.declared.labels.TheConstants.{EDGE, ENTER, ENTER2, ENTERED}
use Rattle.law_fw_logic.proofs.Block.{begin_at, memory, put}
use Rattle.law_fw_logic.proofs.Kernel.{kernel_in}
use Rattle.law_fw_logic.proofs.Leads.{Leads}
use Rattle.law_fw_logic.proofs.Short.{has_rows}
use Rattle.mcs48_ranges.specs.Sizes.{IsByte}
use Rattle.joint_run.specs.Run.{Board}
use Rattle.model_keyboard.specs.declared.state.Repeat.{Repeat}
use Rattle.model_keyboard.specs.Queue.{KeyQueue, enter}
use Rattle.model_keyboard.specs.Typematic.{delay}

module _ (d : Board) (bytes : List ℕ) (hk : HasKernel bytes) (alike : IsSilentAlike bytes) (small : All IsByte bytes)
    (low : (p1 p2 c : ℕ) (s : d.State) → (d.pins p1 p2 c s).bus < 256) (held : List Bool)
    (k : ℕ) (x : ℕ) (m : Cpu) (board : d.State) (f : ℕ → ℕ) (ring : List ℕ)
    (h : AtEdge d bytes hk alike small low held k f) (safe : Safe m EDGE f ring) where
  abbrev D : Deck
  D = deck_of held f ring

  abbrev code : Bool → ℕ
  code b = code_at d bytes hk alike small low held b (f R6)

  abbrev is_fn : Bool
  is_fn = is_silent d bytes hk alike small low held (f R6)

  abbrev only : Bool
  only = is_only d bytes hk alike small low held (f R6)

  abbrev F : Bool
  F = fn d bytes hk alike small low held k x m board f ring h

  abbrev B : ℕ
  B = byte' d bytes hk alike small low held k x m board f ring h

  abbrev index : Bool → ℕ
  index b = upper b + f R6

  abbrev pub EdgeLaw : Bool → Bool → Type 0
  EdgeLaw on down = Leads d (kernel_in true bytes) x (begin_at d EDGE f ring m board)
      (Ends d x m board ENTERED 61
      (λ acc. AfterEdge held (edge (image_keys bytes) on (f R6) (7 - k) down) m.a f ring))

  -- the step in the code's words is that in the model's
  press_is : (z on : Bool) → (code F == 0) ≡ z
      → struck_by z on only (code F) (f R6) (7 - k) true F (f FN) D ≡ edge (image_keys bytes) on (f R6) (7 - k) true D
  press_is z on e =
      ap (λ z. struck_by z on only (code F) (f R6) (7 - k) true F (f FN) D)
      (sym e ∙ silent_read bytes alike F (f R6) h.place)
      ∙ ap (λ c. struck_by is_fn on only c (f R6) (7 - k) true F (f FN) D) (code_read bytes F (f R6))
      ∙ ap (λ v. struck_by is_fn on only (image_code bytes F (f R6)) (f R6) (7 - k) true F v D)
      (cell_is (f FN) h.cell)

  abbrev L : Bool
  L = bit (7 - k) (f R5)

  release_is : (z on o : Bool) → (code L == 0) ≡ z → bit (7 - k) (f R0) ≡ o
      → struck_by z on o (code L) (f R6) (7 - k) false L (f FN) D ≡ edge (image_keys bytes) on (f R6) (7 - k) false D
  release_is z on o e is =
      ap (λ z. struck_by z on o (code L) (f R6) (7 - k) false L (f FN) D)
      (sym e ∙ silent_read bytes alike L (f R6) h.place)
      ∙ ap (λ o. struck_by is_fn on o (code L) (f R6) (7 - k) false L (f FN) D) (sym is ∙ h.only)
      ∙ ap (λ c. struck_by is_fn on only c (f R6) (7 - k) false L (f FN) D) (code_read bytes L (f R6))
      ∙ ap (λ v. struck_by is_fn on only (image_code bytes L (f R6)) (f R6) (7 - k) false L v D)
      (cell_is (f FN) h.cell)

  abbrev patched : ℕ → ℕ → ℕ → ℕ → ℕ → Patch
  patched r1 r2 count index left = record {
    r1 = r1;
    r2 = r2;
    r3 = f R3;
    r4 = m.a;
    r6 = f R6;
    count = count;
    place = index;
    left = left;
  }

  -- what an edge leaves, by the cells that it changes
  settles : (step : Deck → Deck) (p1 p2 count at left r5 fn a : ℕ) (g : ℕ → ℕ) (r : List ℕ)
      → memory g r ≡ memory (struck f (patched p1 p2 count at left) r5 fn) r
      → deck_of held (struck f (patched p1 p2 count at left) r5 fn) r ≡ step D → count % 128 ≤ 16
      → f COUNT % 128 ≤ count % 128 → IsFnCell fn
      → Again d (kernel_in true bytes) (has_rows true bytes hk) small low (λ acc. AfterEdge held step m.a f ring) a g r
  settles step p1 p2 count at left r5 fn a g r same deck most more cell = record {
    cells = struck f (patched p1 p2 count at left) r5 fn;
    same = same;
    facts = record {
      p = patched p1 p2 count at left;
      r5 = r5;
      fn = fn;
      is = record { now = refl; deck = deck; most = most; more = more; cell = cell };
      r3 = refl;
      r4 = refl;
      r6 = refl;
    };
  }

  abbrev stepped : Bool → Bool → Deck → Deck
  stepped on down = edge (image_keys bytes) on (f R6) (7 - k) down

  abbrev with_keys : ℕ → KeyQueue → Option Repeat → Deck
  with_keys byte q r = record {
    keyboard = record (kbd_of held f ring) { queue = q; repeats = r };
    fn = F;
    byte = byte;
  }

  -- a press
  press_by : (z on : Bool) → (code F == 0) ≡ z → m.f0 ≡ on → bit (7 - k) (f R7) ≡ true → EdgeLaw on true
  press_by true on silent flag down =
      recast d (kernel_in true bytes) (has_rows true bytes hk) small low x m board ENTERED 30 61
      (Just (put (pressed_cells d bytes hk alike small low held k x m board f ring h) FN 255) ring)
      (λ acc. AfterEdge held (stepped on true) m.a f ring) (begin_at d EDGE f ring m board) (omega arith)
      (λ a g r q. settles (stepped on true) FN (index F) (f COUNT) (f RINDEX) (f RCOUNT) B 255 a g r (ap (λ t. memory t r) q.0)
      (ap (λ t. deck_of held (struck f (patched FN (index F) (f COUNT) (f RINDEX) (f RCOUNT)) B 255) t) q.1
      ∙ press_is true on silent) h.most (omega arith) (inr refl))
      (fn_press d bytes hk alike small low held k x m board f ring h safe down silent)
  press_by false false some flag down =
      recast d (kernel_in true bytes) (has_rows true bytes hk) small low x m board ENTERED 28 61
      (Just (pressed_cells d bytes hk alike small low held k x m board f ring h) ring)
      (λ acc. AfterEdge held (stepped false true) m.a f ring) (begin_at d EDGE f ring m board) (omega arith)
      (λ a g r q. settles (stepped false true) FN (index F) (f COUNT) (f RINDEX) (f RCOUNT) B (f FN) a g r
      (ap (λ t. memory t r) q.0)
      (ap (λ t. deck_of held (struck f (patched FN (index F) (f COUNT) (f RINDEX) (f RCOUNT)) B (f FN)) t) q.1
      ∙ press_is false false some) h.most (omega arith) h.cell)
      (press_off d bytes hk alike small low held k x m board f ring h safe down some flag)
  press_by false true some flag down =
      let g1 : ℕ → ℕ = begun_cells d bytes hk alike small low held k x m board f ring h safe in
      let rate : f RATE < 256 = (bytes_of m EDGE f ring safe).cell RATE (omega arith) in
      seq_just d (kernel_in true bytes) (has_rows true bytes hk) small low x m board ENTER 42 ENTERED 19 g1 ring
      (λ acc. AfterEdge held (stepped true true) m.a f ring) (begin_at d EDGE f ring m board) safe.1
      (press_on d bytes hk alike small low held k x m board f ring h safe down some flag)
      (λ x' m' board' same safe'.
      recast d (kernel_in true bytes) (has_rows true bytes hk) small low x' m' board' ENTERED 17 19
      (λ a. Entered (code F ∷ []) g1 ring) (λ acc. AfterEdge held (stepped true true) m.a f ring)
      (begin_at d ENTER g1 ring m' board') (omega arith)
      (λ a g r q. settles (stepped true true) q.pointer (code F) q.count (index F) (delay (f RATE)) B (f FN) a g r
      (ap (λ t. memory t r) q.now)
      (ap (λ t. with_keys B t (repeat_of (delay (f RATE)) (index F))) q.queue
      ∙ ap (λ t. with_keys B (enter (code F ∷ []) (queue_of f ring)) t) (some_delay F (f R6) (f RATE) h.place rate)
      ∙ press_is false true some) q.most q.more h.cell)
      (enters d bytes hk small low held x' m' board' g1 ring safe' h.most))

  -- a release, from its index on
  abbrev g0 : ℕ → ℕ
  g0 = found_cells d bytes hk alike small low held k x m board f ring h safe

  found : AtEdge d bytes hk alike small low held k g0
  found = record { k_small = h.k_small; r3 = h.r3; place = h.place; cell = h.cell; only = h.only; most = h.most }

  release_by : (z on same o : Bool) (x' : ℕ) (m' : Cpu) (board' : d.State) → m'.a ≡ index L → Safe m' AT_INDEX g0 ring
      → (code L == 0) ≡ z → m'.f0 ≡ on → (f RINDEX == index L) ≡ same → bit (7 - k) (f R0) ≡ o
      → Leads d (kernel_in true bytes) x' (begin_at d AT_INDEX g0 ring m' board')
      (Ends d x' m' board' ENTERED 46
      (λ acc. AfterEdge held (edge (image_keys bytes) on (f R6) (7 - k) false) m.a f ring))
  release_by true on same o x' m' board' a safe' silent flag is oe =
      recast d (kernel_in true bytes) (has_rows true bytes hk) small low x' m' board' ENTERED 11 46
      (Just (put (put (put g0 R2 (index L)) R1 FN) FN 0) ring) (λ acc. AfterEdge held (stepped on false) m.a f ring)
      (begin_at d AT_INDEX g0 ring m' board') (omega arith)
      (λ a g r q. settles (stepped on false) FN (index L) (f COUNT) (f RINDEX) (f RCOUNT) (f R5) 0 a g r
      (ap (λ t. memory t r) q.0)
      (ap (λ t. deck_of held (struck f (patched FN (index L) (f COUNT) (f RINDEX) (f RCOUNT)) (f R5) 0) t) q.1
      ∙ release_is true on o silent oe) h.most (omega arith) (inl refl))
      (fn_release d bytes hk alike small low held k x' m' board' g0 ring found L a safe' silent)
  release_by false false same o x' m' board' a safe' some flag is oe =
      recast d (kernel_in true bytes) (has_rows true bytes hk) small low x' m' board' ENTERED 9 46
      (Just (put g0 R2 (index L)) ring) (λ acc. AfterEdge held (stepped false false) m.a f ring)
      (begin_at d AT_INDEX g0 ring m' board') (omega arith)
      (λ a g r q. settles (stepped false false) (f R1) (index L) (f COUNT) (f RINDEX) (f RCOUNT) (f R5) (f FN) a g r
      (ap (λ t. memory t r) q.0)
      (ap (λ t. deck_of held (struck f (patched (f R1) (index L) (f COUNT) (f RINDEX) (f RCOUNT)) (f R5) (f FN)) t) q.1
      ∙ release_is false false o some oe) h.most (omega arith) h.cell)
      (release_off d bytes hk alike small low held k x' m' board' g0 ring found L a safe' some flag)
  release_by false true true true x' m' board' a safe' some flag is oe =
      let li : f RINDEX < 256 = (bytes_of m EDGE f ring safe).cell RINDEX (omega arith) in
      recast d (kernel_in true bytes) (has_rows true bytes hk) small low x' m' board' ENTERED 25 46
      (Just (ended_cells d bytes hk alike small low held k x' m' board' g0 ring found L a safe' true) ring)
      (λ acc. AfterEdge held (stepped true false) m.a f ring)
      (begin_at d AT_INDEX g0 ring m' board') (omega arith)
      (λ a g r q. settles (stepped true false) RCOUNT (code L) (f COUNT) (f RINDEX) 0 (f R5) (f FN) a g r
      (ap (λ t. memory t r) q.0)
      (ap (λ t. deck_of held (struck f (patched RCOUNT (code L) (f COUNT) (f RINDEX) 0) (f R5) (f FN)) t) q.1
      ∙ ap (λ t. with_keys (f R5) (queue_of f ring) t)
      (sym (stops (f RCOUNT) (f RINDEX) (f R6) L li h.place true is (f RCOUNT == 0) refl)) ∙ release_is false true true some oe)
      h.most (omega arith) h.cell)
      (release_on d bytes hk alike small low held k x' m' board' g0 ring found L a safe' true true some flag is oe)
  release_by false true false true x' m' board' a safe' some flag is oe =
      let li : f RINDEX < 256 = (bytes_of m EDGE f ring safe).cell RINDEX (omega arith) in
      recast d (kernel_in true bytes) (has_rows true bytes hk) small low x' m' board' ENTERED 25 46
      (Just (ended_cells d bytes hk alike small low held k x' m' board' g0 ring found L a safe' false) ring)
      (λ acc. AfterEdge held (stepped true false) m.a f ring)
      (begin_at d AT_INDEX g0 ring m' board') (omega arith)
      (λ a g r q. settles (stepped true false) RINDEX (code L) (f COUNT) (f RINDEX) (f RCOUNT) (f R5) (f FN) a g r
      (ap (λ t. memory t r) q.0)
      (ap (λ t. deck_of held (struck f (patched RINDEX (code L) (f COUNT) (f RINDEX) (f RCOUNT)) (f R5) (f FN)) t) q.1
      ∙ ap (λ t. with_keys (f R5) (queue_of f ring) t)
      (sym (stops (f RCOUNT) (f RINDEX) (f R6) L li h.place false is (f RCOUNT == 0) refl))
      ∙ release_is false true true some oe)
      h.most (omega arith) h.cell)
      (release_on d bytes hk alike small low held k x' m' board' g0 ring found L a safe' false true some flag is oe)
  release_by false true true false x' m' board' a safe' some flag is oe =
      let li : f RINDEX < 256 = (bytes_of m EDGE f ring safe).cell RINDEX (omega arith) in
      let g1 : ℕ → ℕ = ended_cells d bytes hk alike small low held k x' m' board' g0 ring found L a safe' true in
      seq_just d (kernel_in true bytes) (has_rows true bytes hk) small low x' m' board' ENTER2 23 ENTERED 23 g1 ring
      (λ acc. AfterEdge held (stepped true false) m.a f ring) (begin_at d AT_INDEX g0 ring m' board') safe'.1
      (release_on d bytes hk alike small low held k x' m' board' g0 ring found L a safe' true false some flag is oe)
      (λ x2 m2 board2 same2 safe2.
      recast d (kernel_in true bytes) (has_rows true bytes hk) small low x2 m2 board2 ENTERED 23 23
      (λ a. Entered (240 ∷ code L ∷ []) g1 ring) (λ acc. AfterEdge held (stepped true false) m.a f ring)
      (begin_at d ENTER2 g1 ring m2 board2) (omega arith)
      (λ a g r q. settles (stepped true false) q.pointer (code L) q.count (f RINDEX) 0 (f R5) (f FN) a g r
      (ap (λ t. memory t r) q.now)
      (ap (λ t. with_keys (f R5) t (repeat_of 0 (f RINDEX))) q.queue
      ∙ ap (λ t. with_keys (f R5) (enter (240 ∷ code L ∷ []) (queue_of f ring)) t)
      (sym (stops (f RCOUNT) (f RINDEX) (f R6) L li h.place true is (f RCOUNT == 0) refl))
      ∙ release_is false true false some oe) q.most q.more h.cell)
      (enters_two d bytes hk small low held x2 m2 board2 g1 ring safe2 h.most))
  release_by false true false false x' m' board' a safe' some flag is oe =
      let li : f RINDEX < 256 = (bytes_of m EDGE f ring safe).cell RINDEX (omega arith) in
      let g1 : ℕ → ℕ = ended_cells d bytes hk alike small low held k x' m' board' g0 ring found L a safe' false in
      seq_just d (kernel_in true bytes) (has_rows true bytes hk) small low x' m' board' ENTER2 23 ENTERED 23 g1 ring
      (λ acc. AfterEdge held (stepped true false) m.a f ring) (begin_at d AT_INDEX g0 ring m' board') safe'.1
      (release_on d bytes hk alike small low held k x' m' board' g0 ring found L a safe' false false some flag is oe)
      (λ x2 m2 board2 same2 safe2.
      recast d (kernel_in true bytes) (has_rows true bytes hk) small low x2 m2 board2 ENTERED 23 23
      (λ a. Entered (240 ∷ code L ∷ []) g1 ring) (λ acc. AfterEdge held (stepped true false) m.a f ring)
      (begin_at d ENTER2 g1 ring m2 board2) (omega arith)
      (λ a g r q. settles (stepped true false) q.pointer (code L) q.count (f RINDEX) (f RCOUNT) (f R5) (f FN) a g r
      (ap (λ t. memory t r) q.now)
      (ap (λ t. with_keys (f R5) t (repeat_of (f RCOUNT) (f RINDEX))) q.queue
      ∙ ap (λ t. with_keys (f R5) (enter (240 ∷ code L ∷ []) (queue_of f ring)) t)
      (sym (stops (f RCOUNT) (f RINDEX) (f R6) L li h.place false is (f RCOUNT == 0) refl))
      ∙ release_is false true false some oe) q.most q.more h.cell)
      (enters_two d bytes hk small low held x2 m2 board2 g1 ring safe2 h.most))

  by_down : (on down : Bool) → m.f0 ≡ on → bit (7 - k) (f R7) ≡ down → EdgeLaw on down
  by_down on true flag is = press_by (code F == 0) on refl flag is
  by_down on false flag is =
      seq_just_a d (kernel_in true bytes) (has_rows true bytes hk) small low x m board AT_INDEX 15 ENTERED 46 (index L)
      g0 ring (λ acc. AfterEdge held (edge (image_keys bytes) on (f R6) (7 - k) false) m.a f ring)
      (begin_at d EDGE f ring m board) safe.1
      (finds d bytes hk alike small low held k x m board f ring h safe L refl is)
      (λ x' m' board' same a safe'. release_by (code L == 0) on (f RINDEX == index L) (bit (7 - k) (f R0)) x' m' board' a
      safe' refl (ap (λ k. k.f0) same ∙ flag) refl refl)

  -- an edge of a row does a step of the model, in 61 cycles at most
  pub edge_law : EdgeLaw m.f0 (bit (7 - k) (f R7))
  edge_law = by_down m.f0 (bit (7 - k) (f R7)) refl refl
