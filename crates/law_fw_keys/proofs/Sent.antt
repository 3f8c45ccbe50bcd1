-- Step 1 of a tick: what was sent goes; and step 3.
use Rattle.law_fw_keys.proofs.Patch.{Keeps}
use Rattle.std.proofs.Common.{Some}
use Rattle.std.proofs.Common.{◌≡◌, ◌≤◌, ◌<◌, ℕ, suc, zero, ◌+◌, ◌-◌, ◌%◌, List, [], ◌∷◌, All, Bool, true, false}
use Rattle.std.proofs.Common.{not, ◌==◌, if◌then◌else◌, bit_xor, refl, ap, sym, ◌∙◌, arith, slice_index}
use Rattle.std.proofs.lemmas.Bool.Decides.{nat_tests}
use Rattle.mcs48_core.specs.Cpu.{Cpu}
use Rattle.bits.specs.Bits.{bit}
use Rattle.law_fw_keys.proofs.Blocks.{Just, leaf, seq_just, relax, bytes_of}
use Rattle.std.proofs.Common.{◌&&◌}
use Rattle.fw_kernel.specs.declared.cells.TheConstants.{R1, R4, REPLYDUE, AADUE, COUNT, HEAD, STARTED, REPLY, LAST}
use Rattle.fw_kernel.specs.Places.{HasKernel}
use Rattle.fw_kernel.specs.declared.labels.TheConstants.{DROP, SCAN, SENT}
use Rattle.law_fw_keys.proofs.Block.{Ends, Safe}
use Rattle.law_fw_keys.specs.Edges.{image_keys}
use Rattle.law_fw_keys.proofs.Patch.{still}
use Rattle.law_fw_keys.specs.State.{Inv, kbd_of, reply_of}
use Rattle.law_fw_logic.proofs.Block.{Shape, begin_at, put}
use Rattle.bits.proofs.Every.{by_below, tests_by}
use Rattle.law_fw_logic.proofs.Kernel.{kernel_in}
use Rattle.law_fw_logic.proofs.Leads.{Leads}
use Rattle.law_fw_logic.proofs.Path.{Go, Note, Path, Until}
use Rattle.law_fw_logic.proofs.Short.{has_rows}
use Rattle.mcs48_ranges.specs.Sizes.{IsByte}
use Rattle.joint_run.specs.Run.{Board}
use Rattle.model_keyboard.specs.Tick.{sent_byte, without_offered}
use Rattle.law_fw_keys.proofs.Dropped.{dropped, empty, xor_is, kept_last, kept_layers}
use Rattle.law_fw_keys.proofs.Bytes.{twice}
use Rattle.law_fw_keys.proofs.Healing.{lifted, lifted_below, not_lifted}
use Rattle.law_fw_keys.proofs.Renewing.{lifted_same, resets}

module _ (d : Board) (bytes : List ℕ) (hk : HasKernel bytes) (small : All IsByte bytes)
    (low : (p1 p2 c : ℕ) (s : d.State) → (d.pins p1 p2 c s).bus < 256) (held : List Bool)
    (x : ℕ) (m : Cpu) (board : d.State) (f : ℕ → ℕ) (ring : List ℕ) (inv : Inv f) where
  abbrev Takes : Type 0
  Takes = Leads d (kernel_in true bytes) x (begin_at d DROP f ring m board)
      (Ends d x m board SCAN 98 (Keeps held (without_offered (reply_of (f REPLYDUE) (f REPLY)) (image_keys bytes))
      (lifted bytes f) ring))

  by : (plan : List Note) (max : ℕ) → max ≤ 98 → (g : ℕ → ℕ) → Safe m DROP f ring → bit 1 (f REPLYDUE) ≡ false
      → ((a : ℕ) → Keeps held (without_offered (reply_of (f REPLYDUE) (f REPLY)) (image_keys bytes)) f ring a g ring)
      → Path d (kernel_in true bytes) x plan (begin_at d DROP f ring m board) (Shape d x m board SCAN max g ring)
      → Takes
  by plan max l g safe none facts path =
      relax d (kernel_in true bytes) (has_rows true bytes hk) small low x m board SCAN max 98
      (Keeps held (without_offered (reply_of (f REPLYDUE) (f REPLY)) (image_keys bytes)) f ring)
      (Keeps held (without_offered (reply_of (f REPLYDUE) (f REPLY)) (image_keys bytes)) (lifted bytes f) ring)
      (begin_at d DROP f ring m board) l
      (λ a g rg h. record {
        kbd = h.kbd;
        inv = h.inv;
        cells = λ i k u. h.cells i k u ∙ sym (not_lifted bytes f none i);
        layers = λ i k u. h.layers i k u ∙ sym (not_lifted bytes f none i);
        stack = h.stack;
      })
      (leaf d (kernel_in true bytes) (has_rows true bytes hk) small low
      (Keeps held (without_offered (reply_of (f REPLYDUE) (f REPLY)) (image_keys bytes)) f ring) plan DROP SCAN max g ring x m m
      board f ring safe.0 facts path)

  -- no reply is due, so no reset's
  no_reset : (f REPLYDUE == 0) ≡ true → bit 1 (f REPLYDUE) ≡ false
  no_reset none = let z : f REPLYDUE ≡ 0 = grind (arith, nat_tests, none) in ap (λ v. bit 1 v) z

  -- the reply goes
  reply_goes : Safe m DROP f ring → (f REPLYDUE == 0) ≡ false → bit 1 (f REPLYDUE) ≡ false → Takes
  reply_goes safe due none =
      by (Go true ∷ Go false ∷ Until SCAN ∷ []) 12 (omega arith) (put (put f REPLYDUE 0) R1 REPLYDUE) safe none
      (λ a. record {
        kbd = rw (due, none) refl;
        inv = still (refl, refl, refl, refl, refl) inv;
        cells = λ i l u. grind (arith, nat_tests, l, u);
        layers = λ i l u. grind (arith, nat_tests, l, u);
        stack = (refl, refl);
      })
      (ap not due, (none, (refl, refl, refl)))

  -- AA goes
  aa_goes : Safe m DROP f ring → (f REPLYDUE == 0) ≡ true → (f AADUE == 0) ≡ false → Takes
  aa_goes safe none due =
      by (Go false ∷ Go true ∷ Until SCAN ∷ []) 14 (omega arith) (put (put f AADUE 0) R1 AADUE) safe
      (no_reset none)
      (λ a. record {
        kbd = rw (none, due) refl;
        inv = still (refl, refl, refl, refl, refl) inv;
        cells = λ i l u. grind (arith, nat_tests, l, u);
        layers = λ i l u. grind (arith, nat_tests, l, u);
        stack = (refl, refl);
      })
      (ap not none, (ap not due, (refl, refl, refl)))

  -- the mark goes
  mark_goes : Safe m DROP f ring → (f REPLYDUE == 0) ≡ true → (f AADUE == 0) ≡ true → (f COUNT % 128 == 0) ≡ true → Takes
  mark_goes safe none noaa is =
      let h = bytes_of m DROP f ring safe in
      let z : f COUNT % 128 ≡ 0 = grind (arith, nat_tests, is) in
      let some : f STARTED ≤ f COUNT % 128 = inv.some in
      by (Go false ∷ Go false ∷ Go true ∷ Until SCAN ∷ []) 20 (omega arith)
      (put (put f COUNT 0) R1 COUNT) safe (no_reset none)
      (λ a. record {
        kbd = ap (λ q. record (kbd_of held (put (put f COUNT 0) R1 COUNT) ring) { queue = q }) (empty f ring (f STARTED) z)
            ∙ rw (none, noaa) refl;
        inv = record {
          most = omega arith;
          started = inv.started;
          some = omega (arith, some, z);
          mode = inv.mode;
          lamps = inv.lamps;
          fn = inv.fn;
        };
        cells = λ i l u. grind (arith, nat_tests, l, u);
        layers = λ i l u. grind (arith, nat_tests, l, u);
        stack = (refl, refl);
      })
      (ap not none, (ap not noaa, (twice (f COUNT) (h.cell COUNT (omega arith)) ∙ is, (refl, refl, refl))))

  abbrev pub shorter : ℕ → ℕ → ℕ
  shorter s = put (put (put (put f COUNT ((f COUNT + 255) % 256)) HEAD ((f HEAD + 1) % 256)) STARTED s) R1 STARTED

  shorter_facts : (n s : ℕ) → Safe m DROP f ring → (f REPLYDUE == 0) ≡ true → (f AADUE == 0) ≡ true → f COUNT % 128
      ≡ suc n → s ≤ 1
      → (s ≡ 1 → 0 < n) → not (s == 0) ≡ ((slice_index ring ((f HEAD + 0) % 16) == 240) && not (not (f STARTED == 0)))
      → (a : ℕ) → Keeps held (without_offered (reply_of (f REPLYDUE) (f REPLY)) (image_keys bytes)) f ring a (shorter s) ring
  shorter_facts n s safe none noaa count one code is a =
      let h = bytes_of m DROP f ring safe in
      let byte : f COUNT < 256 = h.cell COUNT (omega arith) in
      let most : f COUNT % 128 ≤ 16 = inv.most in
      let less : (f COUNT + 255) % 256 % 128 ≡ n = omega (arith, byte, count) in
      record {
        kbd = ap (λ q. record (kbd_of held (shorter s) ring) { queue = q }) (dropped f ring n s byte count is)
            ∙ rw (none, noaa) refl;
        inv = record {
          most = omega (arith, less, count, most);
          started = one;
          some = grind (arith, less, one, code);
          mode = inv.mode;
          lamps = inv.lamps;
          fn = inv.fn;
        };
        cells = λ i l u. grind (arith, nat_tests, l, u);
        layers = λ i l u. grind (arith, nat_tests, l, u);
        stack = (refl, refl);
      }

  -- the queue's first byte goes: R4 is that byte
  first_goes : (heads : Bool) (n : ℕ) → Safe m DROP f ring → (f REPLYDUE == 0) ≡ true → (f AADUE == 0) ≡ true
      → f COUNT % 128 ≡ suc n → f R4 ≡ slice_index ring ((f HEAD + 0) % 16) → (f R4 ≡ 240 → f STARTED ≡ 0 → 0 < n)
      → (f R4 == 240) ≡ heads → Takes
  first_goes false n safe none noaa count is next other =
      let h = bytes_of m DROP f ring safe in
      let some : (f COUNT % 128 == 0) ≡ false = grind (arith, nat_tests, count) in
      by (Go false ∷ Go false ∷ Go false ∷ Go true ∷ Until SCAN ∷ []) 31
      (omega arith) (shorter 0) safe (no_reset none)
      (shorter_facts n 0 safe none noaa count (omega arith) (λ e. absurd (omega (arith, e)))
      (sym (ap (λ v. (v == 240) && not (not (f STARTED == 0))) (sym is) ∙ ap (λ b. b && not (not (f STARTED == 0))) other))) (
        ap not none,
        (
          ap not noaa,
          (
            twice (f COUNT) (h.cell COUNT (omega arith)) ∙ some,
            (ap not (xor_is 240 (omega arith) (f R4) (h.cell R4 (omega arith)) ∙ other), (refl, refl, refl)),
          ),
        ),
      )
  first_goes true n safe none noaa count is next f0 =
      let h = bytes_of m DROP f ring safe in
      let some : (f COUNT % 128 == 0) ≡ false = grind (arith, nat_tests, count) in
      let one : f STARTED ≤ 1 = inv.started in
      let flips : not (bit_xor (f STARTED) 1 == 0) ≡ not (not (f STARTED == 0)) =
      tests_by 2 (λ s. not (bit_xor s 1 == 0)) (λ s. not (not (s == 0))) refl (f STARTED) (omega (arith, one)) in
      let small_flip : bit_xor (f STARTED) 1 ≡ 1 - f STARTED =
      by_below 2 (λ s. bit_xor s 1) (λ s. 1 - s) refl (f STARTED) (omega (arith, one)) in
      let code : f R4 ≡ 240 = grind (arith, nat_tests, f0) in
      by (Go false ∷ Go false ∷ Go false ∷ Go false ∷ Until SCAN ∷ [])
      31 (omega arith) (shorter (bit_xor (f STARTED) 1)) safe (no_reset none)
      (shorter_facts n (bit_xor (f STARTED) 1) safe none noaa count (rw small_flip (omega arith))
      (λ e. next code (let k : 1 - f STARTED ≡ 1 = sym small_flip ∙ e in omega (arith, k)))
      (flips
      ∙ sym (ap (λ v. (v == 240) && not (not (f STARTED == 0))) (sym is) ∙ ap (λ b. b && not (not (f STARTED == 0))) f0))) (
        ap not none,
        (
          ap not noaa,
          (
            twice (f COUNT) (h.cell COUNT (omega arith)) ∙ some,
            (ap not (xor_is 240 (omega arith) (f R4) (h.cell R4 (omega arith)) ∙ f0), (refl, refl, refl)),
          ),
        ),
      )

  takes_by : (b_due b1 b_aa : Bool) → (f REPLYDUE == 0) ≡ b_due → bit 1 (f REPLYDUE) ≡ b1 → (f AADUE == 0) ≡ b_aa → (n : ℕ)
      → f COUNT % 128 ≡ n
      → Safe m DROP f ring
      → (b_due ≡ true → b_aa ≡ true → 0 < n → f R4 ≡ slice_index ring ((f HEAD + 0) % 16))
      → (b_due ≡ true → b_aa ≡ true → 0 < n → f R4 ≡ 240 → f STARTED ≡ 0 → 1 < n) → Takes
  takes_by false false b_aa e1 e2 e3 n e4 safe is next = reply_goes safe e1 e2
  takes_by false true b_aa e1 e2 e3 n e4 safe is next =
      resets d bytes hk small low held f ring x m board inv safe e2
  takes_by true b1 false e1 e2 e3 n e4 safe is next = aa_goes safe e1 e3
  takes_by true b1 true e1 e2 e3 zero e4 safe is next =
      mark_goes safe e1 e3 (let z : (f COUNT % 128 == 0) ≡ true = ap (λ v. v == 0) e4 in z)
  takes_by true b1 true e1 e2 e3 (suc n) e4 safe is next =
      first_goes (f R4 == 240) n safe e1 e3 e4 (is refl refl (omega arith))
      (λ a b. let l : 1 < suc n = next refl refl (omega arith) a b in omega (arith, l)) refl

  -- step 1 without the last byte: what was offered goes
  pub takes : Safe m DROP f ring
      → ((f REPLYDUE == 0) ≡ true → (f AADUE == 0) ≡ true → 0 < f COUNT % 128 → f R4 ≡ slice_index ring ((f HEAD + 0) % 16))
      → ((f REPLYDUE == 0) ≡ true → (f AADUE == 0) ≡ true → 0 < f COUNT % 128 → f R4 ≡ 240 → f STARTED ≡ 0
      → 1 < f COUNT % 128) → Takes
  takes safe is next = takes_by (f REPLYDUE == 0) (bit 1 (f REPLYDUE)) (f AADUE == 0) refl refl refl (f COUNT % 128)
      refl safe is next

module _ (d : Board) (bytes : List ℕ) (hk : HasKernel bytes) (small : All IsByte bytes)
    (low : (p1 p2 c : ℕ) (s : d.State) → (d.pins p1 p2 c s).bus < 256) (held : List Bool)
    (x : ℕ) (m : Cpu) (board : d.State) (f : ℕ → ℕ) (ring : List ℕ) (inv : Inv f) where
  abbrev with_last : ℕ → ℕ → ℕ
  with_last v = put (put f R1 v) LAST (if f R4 == 254 then f LAST else f R4)

  lasts : (b : Bool) → (f R4 == 254) ≡ b → Safe m SENT f ring
      → (v : ℕ) × Leads d (kernel_in true bytes) x (begin_at d SENT f ring m board)
      (Ends d x m board DROP 9 (Just (with_last v) ring))
  lasts true e safe =
      let h = bytes_of m SENT f ring safe in (
        f R1,
        leaf d (kernel_in true bytes) (has_rows true bytes hk) small low (Just (with_last (f R1)) ring)
            (Go true ∷ []) SENT DROP 9 (with_last (f R1)) ring x m m board f ring safe.0 (λ a. (refl, refl))
            (xor_is 254 (omega arith) (f R4) (h.cell R4 (omega arith)) ∙ e, (rw e refl, refl, refl)),
      )
  lasts false e safe =
      let h = bytes_of m SENT f ring safe in (
        LAST,
        leaf d (kernel_in true bytes) (has_rows true bytes hk) small low (Just (with_last LAST) ring)
            (Go false ∷ Until DROP ∷ []) SENT DROP 9 (with_last LAST) ring x m m board f ring safe.0
            (λ a. (refl, refl))
            (xor_is 254 (omega arith) (f R4) (h.cell R4 (omega arith)) ∙ e, (rw e refl, refl, refl)),
      )

  -- step 1 of a tick in which R4 was sent
  pub sent_law : Safe m SENT f ring
      → ((f REPLYDUE == 0) ≡ true → (f AADUE == 0) ≡ true → 0 < f COUNT % 128 → f R4 ≡ slice_index ring ((f HEAD + 0) % 16))
      → ((f REPLYDUE == 0) ≡ true → (f AADUE == 0) ≡ true → 0 < f COUNT % 128 → f R4 ≡ 240 → f STARTED ≡ 0 → 1 < f COUNT % 128)
      → Leads d (kernel_in true bytes) x (begin_at d SENT f ring m board)
      (Ends d x m board SCAN (9 + 98) (Keeps held (sent_byte (Some (f R4)) (image_keys bytes)) (lifted bytes f) ring))
  sent_law safe is next =
      let l = lasts (f R4 == 254) refl safe in
      let g1 : ℕ → ℕ = with_last l.0 in
      seq_just d (kernel_in true bytes) (has_rows true bytes hk) small low x m board DROP 9 SCAN 98 g1 ring
      (Keeps held (sent_byte (Some (f R4)) (image_keys bytes)) (lifted bytes f) ring)
      (begin_at d SENT f ring m board) safe.1 l.1
      (λ x1 m1 board1 same1 safe1.
      relax d (kernel_in true bytes) (has_rows true bytes hk) small low x1 m1 board1 SCAN 98 98
      (Keeps held (without_offered (reply_of (f REPLYDUE) (f REPLY)) (image_keys bytes)) (lifted bytes g1) ring)
      (Keeps held (sent_byte (Some (f R4)) (image_keys bytes)) (lifted bytes f) ring)
      (begin_at d DROP g1 ring m1 board1) (omega arith)
      (λ a g rg q.
      record {
        kbd = q.kbd;
        inv = q.inv;
        cells = λ i k u.
            q.cells i k u ∙ lifted_below bytes g1 i (omega (arith, u))
            ∙ kept_last f l.0 (if f R4 == 254 then f LAST else f R4) i k u ∙ sym (lifted_below bytes f i (omega (arith, u)));
        layers = λ i k u.
            q.layers i k u
            ∙ lifted_same bytes g1 f (kept_last f l.0 (if f R4 == 254 then f LAST else f R4)) refl i
            (kept_layers f l.0 (if f R4 == 254 then f LAST else f R4) i k u) refl;
        stack = q.stack;
      })
      (takes d bytes hk small low held x1 m1 board1 g1 ring
      (still (refl, refl, refl, refl, refl) inv) safe1 is
      next))
