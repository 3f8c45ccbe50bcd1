-- The reply to a reset goes: what a flipped bit left is healed, and the reset is made.
use Rattle.std.proofs.Common.{◌≡◌, ◌≤◌, ◌<◌, ℕ, ◌+◌, ◌/◌, ◌%◌, List, [], ◌∷◌, All, Bool, true, false, not, ◌==◌, nat_lt}
use Rattle.std.proofs.Common.{if◌then◌else◌, bit_and, slice_index, refl, ap, sym, ◌∙◌, subst, arith, inl, inr, Some, None}
use Rattle.std.proofs.lemmas.Bool.Decides.{nat_tests}
use Rattle.mcs48_core.specs.Cpu.{Cpu}
use Rattle.mcs48_ranges.specs.Sizes.{IsByte}
use Rattle.bits.specs.Bits.{bit}
use Rattle.bits.proofs.Every.{by_below}
use Rattle.joint_run.specs.Run.{Board}
use Rattle.fw_kernel.specs.declared.cells.TheConstants.{R1, REPLYDUE, AADUE, COUNT, HEAD, STARTED, TEST, MODE}
use Rattle.fw_kernel.specs.declared.cells.TheConstants.{DISABLED, RATE, RCOUNT, REPLY, LAST, LIGHTS, FN, HELD}
use Rattle.fw_kernel.specs.declared.cells.TheConstants.{CHANGED}
use Rattle.fw_kernel.specs.Places.{HasKernel}
use Rattle.fw_kernel.specs.Tables.{fn_place_at, rate_at}
use Rattle.fw_kernel.specs.declared.labels.TheConstants.{DROP, HEAL, RESET, SCAN}
use Rattle.law_fw_logic.proofs.Block.{begin_at, put}
use Rattle.law_fw_logic.proofs.Kernel.{kernel_in}
use Rattle.law_fw_logic.proofs.Leads.{Leads}
use Rattle.law_fw_logic.proofs.Path.{Go, Until}
use Rattle.law_fw_logic.proofs.Short.{has_rows}
use Rattle.law_fw_keys.proofs.Block.{Ends, Safe}
use Rattle.law_fw_keys.proofs.Blocks.{Just, bytes_of, leaf, relax, seq, seq_just}
use Rattle.law_fw_keys.proofs.Dropped.{cleared}
use Rattle.law_fw_keys.proofs.Fold.{fn_cell}
use Rattle.law_fw_keys.proofs.Heal.{Healed, before_edges, heals, was_held}
use Rattle.law_fw_keys.proofs.Healing.{lifted, lifted_below}
use Rattle.law_fw_keys.proofs.Patch.{IsFnCell, Keeps}
use Rattle.law_fw_keys.specs.Edges.{image_keys}
use Rattle.law_fw_keys.specs.Resets.{started_queue}
use Rattle.law_fw_keys.specs.State.{Inv, down_at, kbd_of, queue_by, reply_of}
use Rattle.model_keyboard.specs.Keyboard.{Keyboard}
use Rattle.model_keyboard.specs.Tick.{reset, without_offered}

-- what was held is a matter of these cells
pub was_same : (bytes : List ℕ) (g f : ℕ → ℕ) → ((i : ℕ) → HELD ≤ i → i < CHANGED + 12 → g i ≡ f i)
    → was_held bytes g ≡ was_held bytes f
was_same bytes g f e = by (slice_index bytes fn_place_at) (nat_lt (slice_index bytes fn_place_at) 96) refl
  where
    by : (p : ℕ) (b : Bool) → nat_lt p 96 ≡ b
        → (if nat_lt p 96 then down_at (before_edges g) p else false) ≡ (if nat_lt p 96 then down_at (before_edges f) p else false)
    by p true is =
        let l : p < 96 = grind (arith, nat_tests, is) in
        let c : p / 8 < 12 = omega (arith, l) in
        let a : g (HELD + p / 8) ≡ f (HELD + p / 8) = e (HELD + p / 8) (omega arith) (omega (arith, c)) in
        let b : g (CHANGED + p / 8) ≡ f (CHANGED + p / 8) = e (CHANGED + p / 8) (omega arith) (omega (arith, c)) in
        rw (is, a, b) refl
    by p false is = rw is refl

-- two memories with the same cells have the same cells after the healing
pub lifted_same : (bytes : List ℕ) (g f : ℕ → ℕ) → ((i : ℕ) → HELD ≤ i → i < CHANGED + 12 → g i ≡ f i) → g REPLYDUE ≡ f REPLYDUE
    → (i : ℕ) → g i ≡ f i → g FN ≡ f FN → lifted bytes g i ≡ lifted bytes f i
lifted_same bytes g f e due i is fn =
    ap (λ v. if i == FN then v else g i)
    (ap (λ v. if bit 1 v then fn_cell (was_held bytes g) else g FN) due
    ∙ ap (λ v. if bit 1 (f REPLYDUE) then fn_cell v else g FN) (was_same bytes g f e)
    ∙ ap (λ v. if bit 1 (f REPLYDUE) then fn_cell (was_held bytes f) else v) fn)
    ∙ ap (λ v. if i == FN then (if bit 1 (f REPLYDUE) then fn_cell (was_held bytes f) else f FN) else v) is

is_fn_cell : (b : Bool) → IsFnCell (fn_cell b)
is_fn_cell true = inr refl
is_fn_cell false = inl refl

-- the cells after a reset
abbrev pub as_new : List ℕ → (ℕ → ℕ) → ℕ → ℕ
as_new bytes g = put (put (put (put
    (put (put (put (put (put (put g TEST 64) MODE 0) DISABLED 0) AADUE 0) LAST 170) LIGHTS 0) RATE
    (slice_index bytes rate_at)) RCOUNT 0) COUNT (g STARTED)) R1 COUNT

-- cells that it leaves
new_low : (bytes : List ℕ) (g : ℕ → ℕ) (i : ℕ) → HELD ≤ i → i < CHANGED + 12 → as_new bytes g i ≡ g i
new_low bytes g i l u = grind (arith, nat_tests, l, u)

new_high : (bytes : List ℕ) (g : ℕ → ℕ) (i : ℕ) → FN ≤ i → as_new bytes g i ≡ g i
new_high bytes g i l = grind (arith, nat_tests, l)

same_started : (s : ℕ) → s ≤ 1 → bit_and s 1 ≡ s
same_started s l = by_below 2 (λ s. bit_and s 1) (λ s. s) refl s (omega (arith, l))

-- what the block leaves, whatever the cells are: a keyboard of the model with all that a reset makes, and the Fn key as it
-- is held
pub record Renewed (bytes : List ℕ) (held : List Bool) (f : ℕ → ℕ) (ring : List ℕ) (acc : ℕ) (g : ℕ → ℕ) (r : List ℕ)
    : Type 0 where
  pub kbd : kbd_of held g r ≡ record (reset (image_keys bytes) (kbd_of held f ring)) { queue = started_queue f ring }
  pub inv : Inv g
  pub fn : g FN ≡ fn_cell (was_held bytes f)
  pub cells : (i : ℕ) → HELD ≤ i → i < CHANGED + 12 → g i ≡ f i
  pub layers : (i : ℕ) → FN ≤ i → (i == FN) ≡ false → g i ≡ f i
  pub stack : (g 8 ≡ f 8) × (g 9 ≡ f 9)

one_bit : (s : ℕ) → s < 256 → bit_and s 1 ≡ s % 2
one_bit = by_below 256 (λ s. bit_and s 1) (λ s. s % 2) refl

-- the cells where the block begins that heals
abbrev replied : (ℕ → ℕ) → ℕ → ℕ
replied f = put (put f REPLYDUE 0) R1 REPLYDUE

module _ (bytes : List ℕ) (held : List Bool) (f : ℕ → ℕ) (byte : f STARTED < 256) (ring : List ℕ) (g : ℕ → ℕ) (acc : ℕ)
    (r : List ℕ) (h : Healed bytes (replied f) ring acc g r) where
  was : was_held bytes (replied f) ≡ was_held bytes f
  was = was_same bytes (replied f) f (λ i l u. grind (arith, nat_tests, l, u))

  kept_low : (i : ℕ) → HELD ≤ i → i < CHANGED + 12 → g i ≡ f i
  kept_low i l u =
      let a : (i == STARTED) ≡ false = grind (arith, nat_tests, u) in
      let b : (i == FN) ≡ false = grind (arith, nat_tests, u) in
      let c : replied f i ≡ f i = grind (arith, nat_tests, l, u) in
      h.kept i (omega (arith, l)) a b ∙ c

  kept_high : (i : ℕ) → FN ≤ i → (i == FN) ≡ false → g i ≡ f i
  kept_high i l other =
      let a : (i == STARTED) ≡ false = grind (arith, nat_tests, l) in
      let c : replied f i ≡ f i = grind (arith, nat_tests, l) in
      h.kept i (omega (arith, l)) a other ∙ c

  replies_none : g REPLYDUE ≡ 0
  replies_none = h.kept REPLYDUE (omega arith) refl refl

  head : g HEAD ≡ f HEAD
  head = h.kept HEAD (omega arith) refl refl

  -- the keyboard by the cells that the reset leaves
  abbrev shown : ℕ → ℕ → ℕ → Keyboard
  shown due head started =
      record (kbd_of held (as_new bytes g) ring) {
        reply = reply_of due (g REPLY);
        queue = queue_by started head started ring;
      }

  -- the cells after a reset show the keyboard as after a reset, and the Fn key as it is held
  pub renewed : (a : ℕ) → Renewed bytes held f ring a (as_new bytes g) ring
  renewed a =
      let bit_is : g STARTED ≡ f STARTED % 2 = h.started ∙ one_bit (f STARTED) byte in
      let one : g STARTED ≤ 1 = omega (arith, bit_is) in
      record {
        kbd = ap (λ v. shown v (g HEAD) (g STARTED)) replies_none ∙ ap (λ v. shown 0 v (g STARTED)) head
            ∙ ap (λ v. shown 0 (f HEAD) v) h.started;
        inv = record {
          most = omega (arith, one);
          started = one;
          some = omega (arith, one);
          mode = omega arith;
          lamps = omega arith;
          fn = subst IsFnCell (sym h.fn) (is_fn_cell (was_held bytes (replied f)));
        };
        fn = h.fn ∙ ap fn_cell was;
        cells = λ i l u. new_low bytes g i l u ∙ kept_low i l u;
        layers = λ i l other. new_high bytes g i l ∙ kept_high i l other;
        stack = h.stack;
      }

reply_some : (due : ℕ) → bit 1 due ≡ true → (b : Bool) → (due == 0) ≡ b → b ≡ false
reply_some due both false e = refl
reply_some due both true e =
    let z : due ≡ 0 = grind (arith, nat_tests, e) in
    absurd (let bad : false ≡ true = ap (λ v. bit 1 v) (sym z) ∙ both in cc)

-- a reset's reply is due
pub some_reply : (due : ℕ) → bit 1 due ≡ true → (due == 0) ≡ false
some_reply due both = let e : (due == 0) ≡ false = reply_some due both (due == 0) refl in e

module _ (d : Board) (bytes : List ℕ) (hk : HasKernel bytes) (small : All IsByte bytes)
    (low : (p1 p2 c : ℕ) (s : d.State) → (d.pins p1 p2 c s).bus < 256) (held : List Bool) (f : ℕ → ℕ) (ring : List ℕ)
    (x : ℕ) (m : Cpu) (board : d.State) where
  -- whatever the cells are
  pub any_reset : Safe m DROP f ring → bit 1 (f REPLYDUE) ≡ true
      → Leads d (kernel_in true bytes) x (begin_at d DROP f ring m board)
      (Ends d x m board SCAN (9 + (50 + 39)) (Renewed bytes held f ring))
  any_reset safe both =
      let byte : f STARTED < 256 = (bytes_of m DROP f ring safe).cell STARTED (omega arith) in
      seq_just d (kernel_in true bytes) (has_rows true bytes hk) small low x m board HEAL 9 SCAN (50 + 39) (replied f) ring
      (Renewed bytes held f ring) (begin_at d DROP f ring m board) safe.1
      (leaf d (kernel_in true bytes) (has_rows true bytes hk) small low (Just (replied f) ring)
      (Go true ∷ Go true ∷ []) DROP HEAL 9 (replied f) ring x m m board f ring safe.0
      (λ a. (refl, refl)) (ap not (some_reply (f REPLYDUE) both), (both, (refl, refl, refl))))
      (λ x1 m1 board1 same1 safe1.
      seq d (kernel_in true bytes) (has_rows true bytes hk) small low x1 m1 board1 RESET 50 SCAN 39
      (Healed bytes (replied f) ring) (Renewed bytes held f ring) (begin_at d HEAL (replied f) ring m1 board1) safe1.1
      (heals d bytes hk small low x1 m1 board1 (replied f) ring safe1)
      (λ x2 m2 board2 g r same2 h safe2.
      leaf d (kernel_in true bytes) (has_rows true bytes hk) small low (Renewed bytes held f ring)
      (Until SCAN ∷ []) RESET SCAN 39 (as_new bytes g) r x2 m2 m2 board2 g r safe2.0
      (λ a. subst (λ v. Renewed bytes held f ring a (as_new bytes g) v) (sym h.same_ring)
      (renewed bytes held f byte ring g m2.a r h a))
      (refl, refl, refl)))

  -- where the cells show a keyboard of the model it is the model's reset, which heals the layers
  module _ (inv : Inv f) where
    abbrev Step : Keyboard → Keyboard
    Step = without_offered (reply_of (f REPLYDUE) (f REPLY)) (image_keys bytes)

    lifts : (both : bit 1 (f REPLYDUE) ≡ true) (g : ℕ → ℕ) (r : List ℕ) (a : ℕ) → Renewed bytes held f ring a g r → (i : ℕ)
        → FN ≤ i → (b : Bool) → (i == FN) ≡ b → g i ≡ lifted bytes f i
    lifts both g r a h i l true e =
        let same : i ≡ FN = grind (arith, nat_tests, e) in
        ap g same ∙ h.fn ∙ sym (rw (e, both) refl)
    lifts both g r a h i l false e = h.layers i l e ∙ sym (rw e refl)

    -- if the reply to a reset goes, memory shows the model's reset, in 98 cycles at most
    pub resets : Safe m DROP f ring → bit 1 (f REPLYDUE) ≡ true
        → Leads d (kernel_in true bytes) x (begin_at d DROP f ring m board)
        (Ends d x m board SCAN 98 (Keeps held Step (lifted bytes f) ring))
    resets safe both =
        relax d (kernel_in true bytes) (has_rows true bytes hk) small low x m board SCAN (9 + (50 + 39)) 98
        (Renewed bytes held f ring) (Keeps held Step (lifted bytes f) ring) (begin_at d DROP f ring m board) (omega arith)
        (λ a g r h. record {
          kbd = h.kbd
              ∙ ap (λ s. record (reset (image_keys bytes) (kbd_of held f ring)) { queue = queue_by s (f HEAD) s ring })
              (same_started (f STARTED) inv.started)
              ∙ ap (λ q. record (reset (image_keys bytes) (kbd_of held f ring)) { queue = q })
              (cleared f ring (f STARTED) (f COUNT % 128) refl refl inv.started inv.some)
              ∙ sym (ap (λ b. without_offered (if b then None else Some
              (record { byte = f REPLY; resets = bit 1 (f REPLYDUE) })) (image_keys bytes) (kbd_of held f ring))
              (some_reply (f REPLYDUE) both)
              ∙ ap (λ b. if b then reset (image_keys bytes) (kbd_of held f ring) else record (kbd_of held f ring) { reply = None })
              both);
          inv = h.inv;
          cells = λ i l u. h.cells i l u ∙ sym (lifted_below bytes f i (omega (arith, u)));
          layers = λ i l u. lifts both g r a h i l (i == FN) refl;
          stack = h.stack;
        })
        (any_reset safe both)
