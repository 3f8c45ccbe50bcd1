-- Step 4 of a tick: is scanning on, and the key that repeats.
use Rattle.model_keyboard.specs.Codes.{Keys}
use Rattle.law_fw_logic.proofs.Image.{byte_is}
use Rattle.std.proofs.Common.{◌≡◌, ◌≤◌, ◌<◌, ℕ, ◌+◌, ◌-◌, ◌%◌, List, [], ◌∷◌, All, Bool, true, false, not, ◌==◌}
use Rattle.std.proofs.Common.{nat_le, if◌then◌else◌, bit_and, refl, ap, sym, ◌∙◌, arith, slice_index}
use Rattle.std.proofs.lemmas.Bool.Decides.{nat_tests}
use Rattle.mcs48_core.specs.Cpu.{Cpu}
use Rattle.law_fw_keys.proofs.Blocks.{Just, leaf, seq_just, recast, relax, bytes_of}
use Rattle.std.proofs.Common.{◌&&◌, bit_or, Some, None}
use Rattle.law_fw_keys.proofs.Enter.{Entered}
use Rattle.law_fw_keys.proofs.Enter2.{again}
use Rattle.law_fw_keys.proofs.Patch.{self}
use Rattle.fw_kernel.specs.Tables.{codes_at}
use Rattle.fw_kernel.specs.declared.cells.TheConstants.{R1, R2, COUNT, TEST, MODE, DISABLED, RINDEX, RATE, RCOUNT}
use Rattle.fw_kernel.specs.Places.{HasKernel, is_table}
use Rattle.fw_kernel.specs.declared.labels.TheConstants.{AGAIN, SETTLE, REPEAT, SCAN}
use Rattle.law_fw_keys.proofs.Block.{Ends, Safe}
use Rattle.law_fw_keys.proofs.Patch.{Patch, Stepped, over}
use Rattle.law_fw_keys.specs.Edges.{image_keys}
use Rattle.law_fw_keys.proofs.EdgeTests.{code_of_index}
use Rattle.law_fw_keys.specs.State.{kbd_of, mode_of, queue_of, repeat_of, place_of, is_upper}
use Rattle.model_keyboard.specs.declared.state.Repeat.{Repeat}
use Rattle.std.specs.declared.option.Option.{Option}
use Rattle.law_fw_logic.proofs.Block.{begin_at, memory, put}
use Rattle.bits.proofs.Every.{by_byte, pair_tests, tests_by}
use Rattle.law_fw_logic.proofs.Kernel.{byte_in, kernel_in}
use Rattle.law_fw_logic.proofs.Leads.{Leads}
use Rattle.law_fw_logic.proofs.Path.{Acc, Go, Run, Until}
use Rattle.law_fw_logic.proofs.Short.{has_rows}
use Rattle.mcs48_ranges.specs.Sizes.{IsByte}
use Rattle.joint_run.specs.Run.{Board}
use Rattle.model_keyboard.specs.Keyboard.{Keyboard}
use Rattle.model_keyboard.specs.Queue.{enter}
use Rattle.model_keyboard.specs.Tick.{is_ready, is_scanning, repeated, repeated_if}
use Rattle.model_keyboard.specs.Typematic.{period}
use Rattle.law_fw_keys.proofs.Bytes.{or_none}

mode_none : (b : ℕ) → b < 256 → is_ready (mode_of b) ≡ (b == 0)
mode_none = tests_by 256 (λ b. is_ready (mode_of b)) (λ b. b == 0) refl

in_order : (a b c : Bool) → ((a && b) && c) ≡ (c && b && a)
in_order true true true = refl
in_order true true false = refl
in_order true false true = refl
in_order true false false = refl
in_order false true true = refl
in_order false true false = refl
in_order false false true = refl
in_order false false false = refl

scan_test : (a b c : ℕ) → a < 256 → b < 256 → c < 256 → bit_or a b < 256
    → (bit_or (bit_or a b) c == 0) ≡ ((c == 0) && is_ready (mode_of b) && (a == 0))
scan_test a b c la lb lc lab =
    or_none (bit_or a b) c lab lc ∙ ap (λ t. t && (c == 0)) (or_none a b la lb) ∙ in_order (a == 0) (b == 0) (c == 0)
    ∙ ap (λ t. (c == 0) && t && (a == 0)) (sym (mode_none b lb))

or_small : (a b : ℕ) → a < 256 → b < 256 → bit_or a b < 256
or_small a b la lb = let h : nat_le (bit_or a b) 255 ≡ true =
    pair_tests 256 256 (λ a b. nat_le (bit_or a b) 255) (λ a b. true) refl a b la lb in grind (arith, nat_tests, h)

period_place : (b : ℕ) → b < 256 → (bit_and b 31 + 210) % 256 ≡ 210 + b % 32
period_place = by_byte (λ b. (bit_and b 31 + 210) % 256) (λ b. 210 + b % 32) refl

period_in : (b : ℕ) → b < 256 → byte_in (978 + b % 32) ≡ period b
period_in = by_byte (λ b. byte_in (978 + b % 32)) period refl

no_table : (b : ℕ) → b < 256 → is_table (978 + b % 32) ≡ false
no_table = tests_by 256 (λ b. is_table (978 + b % 32)) (λ b. false) refl

-- a read from the kernel's table of periods gives the model's period
pub period_read : (bytes : List ℕ) → HasKernel bytes → (b : ℕ) → b < 256 → slice_index bytes (codes_at + (210 + b % 32))
    ≡ period b
period_read bytes hk b l = let e : codes_at + (210 + b % 32) ≡ 978 + b % 32 = omega arith in
    rw e (hk (978 + b % 32) (no_table b l) ∙ sym (byte_is (978 + b % 32) (omega arith)) ∙ period_in b l)

-- the key at an index, with a count
abbrev counting : ℕ → ℕ → Option Repeat
counting i n = Some (record { place = place_of i; count = n; on_fn = is_upper i })

some_period : (i rate : ℕ) → rate < 256 → repeat_of (period rate) i ≡ counting i (period rate)
some_period i rate l = let h : (period rate == 0) ≡ false =
    tests_by 256 (λ b. period b == 0) (λ b. false) refl rate l in
    ap (λ b. if b then None else counting i (period rate)) h

some_count : (i n : ℕ) → n < 256 → (n == 0) ≡ false → (n == 1) ≡ false → repeat_of ((n + 255) % 256) i
    ≡ counting i (n - 1)
some_count i n l z o =
    let big : 1 < n = grind (arith, nat_tests, z, o) in
    let less : (n + 255) % 256 ≡ n - 1 = omega (arith, big, l) in
    let h : (n - 1 == 0) ≡ false = (let p : 0 < n - 1 = omega (arith, big) in grind (arith, nat_tests, p)) in
    rw less (ap (λ b. if b then None else counting i (n - 1)) h)

last_count : (n : ℕ) → n < 256 → ((n + 255) % 256 == 0) ≡ (n == 1)
last_count = tests_by 256 (λ n. (n + 255) % 256 == 0) (λ n. n == 1) refl

-- step 4
abbrev pub repeating : Keys → Bool → Keyboard → Keyboard
repeating keys inhibited k = repeated_if (is_scanning k) keys inhibited k

module _ (d : Board) (bytes : List ℕ) (hk : HasKernel bytes) (small : All IsByte bytes)
    (low : (p1 p2 c : ℕ) (s : d.State) → (d.pins p1 p2 c s).bus < 256) (held : List Bool) where
  pub record AfterStep (step : Keyboard → Keyboard) (f : ℕ → ℕ) (ring : List ℕ) (acc : ℕ) (g : ℕ → ℕ)
      (last : List ℕ) : Type 0 where
    pub p : Patch
    pub is : Stepped held step f ring p g last

  abbrev RepeatLaw : ℕ → Cpu → (ℕ → ℕ) → List ℕ → d.State → Bool → Type 0
  RepeatLaw x m f ring board inhibited =
      Leads d (kernel_in true bytes) x (begin_at d REPEAT f ring m board)
      (Ends d x m board SETTLE 45 (AfterStep (repeated (repeat_of (f RCOUNT) (f RINDEX)) (image_keys bytes) inhibited) f ring))

  repeat_by : (b0 b1 b2 : Bool) (x : ℕ) (m : Cpu) (board : d.State) (f : ℕ → ℕ) (ring : List ℕ) → f COUNT % 128 ≤ 16
      → Safe m REPEAT f ring → (f RCOUNT == 0) ≡ b0 → (f RCOUNT == 1) ≡ b1 → m.f1 ≡ b2 → RepeatLaw x m f ring board b2
  repeat_by true b1 b2 x m board f ring most safe e0 e1 e2 =
      let p : Patch = record (self f) { r1 = RCOUNT } in
      relax d (kernel_in true bytes) (has_rows true bytes hk) small low x m board SETTLE 7 45
      (AfterStep (repeated (repeat_of (f RCOUNT) (f RINDEX)) (image_keys bytes) b2) f ring)
      (AfterStep (repeated (repeat_of (f RCOUNT) (f RINDEX)) (image_keys bytes) b2) f ring) (begin_at d REPEAT f ring m board)
      (omega arith) (λ a g rg h. h)
      (leaf d (kernel_in true bytes) (has_rows true bytes hk) small low
      (AfterStep (repeated (repeat_of (f RCOUNT) (f RINDEX)) (image_keys bytes) b2) f ring)
      (Go true ∷ Until SETTLE ∷ []) REPEAT SETTLE 7 (over f p) ring x m m board f ring safe.0
      (λ a. record { p = p; is = record { now = refl; kbd = rw e0 refl; most = most; more = omega arith } })
      (e0, (refl, refl, refl)))
  repeat_by false false b2 x m board f ring most safe e0 e1 e2 =
      let h = bytes_of m REPEAT f ring safe in
      let p : Patch = record (self f) { r1 = RCOUNT; left = (f RCOUNT + 255) % 256 } in
      relax d (kernel_in true bytes) (has_rows true bytes hk) small low x m board SETTLE 11 45
      (AfterStep (repeated (repeat_of (f RCOUNT) (f RINDEX)) (image_keys bytes) b2) f ring)
      (AfterStep (repeated (repeat_of (f RCOUNT) (f RINDEX)) (image_keys bytes) b2) f ring) (begin_at d REPEAT f ring m board)
      (omega arith) (λ a g rg h. h)
      (leaf d (kernel_in true bytes) (has_rows true bytes hk) small low
      (AfterStep (repeated (repeat_of (f RCOUNT) (f RINDEX)) (image_keys bytes) b2) f ring)
      (Go false ∷ Go true ∷ Until SETTLE ∷ []) REPEAT SETTLE 11 (over f p) ring x m m board f ring
      safe.0
      (λ a. record {
        p = p;
        is = record {
          now = refl;
          kbd = ap (λ t. record (kbd_of held f ring) { repeats = t })
              (some_count (f RINDEX) (f RCOUNT) (h.cell RCOUNT (omega arith)) e0 e1) ∙ rw (e0, e1) refl;
          most = most;
          more = omega arith;
        };
      })
      (e0, (ap not (last_count (f RCOUNT) (h.cell RCOUNT (omega arith)) ∙ e1), (refl, refl, refl))))
  repeat_by false true true x m board f ring most safe e0 e1 e2 =
      let h = bytes_of m REPEAT f ring safe in
      let p : Patch = record (self f) { r1 = RCOUNT; left = period (f RATE) } in
      relax d (kernel_in true bytes) (has_rows true bytes hk) small low x m board SETTLE 24 45
      (AfterStep (repeated (repeat_of (f RCOUNT) (f RINDEX)) (image_keys bytes) true) f ring)
      (AfterStep (repeated (repeat_of (f RCOUNT) (f RINDEX)) (image_keys bytes) true) f ring) (begin_at d REPEAT f ring m board)
      (omega arith) (λ a g rg h. h)
      (leaf d (kernel_in true bytes) (has_rows true bytes hk) small low
      (AfterStep (repeated (repeat_of (f RCOUNT) (f RINDEX)) (image_keys bytes) true) f ring)
      (Go false ∷ Go false ∷ Run 4 ∷ Acc (210 + f RATE % 32) ∷ Run 1 ∷ Acc (period (f RATE)) ∷ Go true
      ∷ Until SETTLE ∷ []) REPEAT SETTLE 24 (over f p) ring x m m board f ring
      safe.0
      (λ a. record {
        p = p;
        is = record {
          now = refl;
          kbd = ap (λ t. record (kbd_of held f ring) { repeats = t })
              (some_period (f RINDEX) (f RATE) (h.cell RATE (omega arith))) ∙ rw (e0, e1) refl;
          most = most;
          more = omega arith;
        };
      }) (
        e0,
        (
          ap not (last_count (f RCOUNT) (h.cell RCOUNT (omega arith)) ∙ e1),
          (
            period_place (f RATE) (h.cell RATE (omega arith)),
            (period_read bytes hk (f RATE) (h.cell RATE (omega arith)), (e2, (refl, refl, refl))),
          ),
        ),
      ))
  repeat_by false true false x m board f ring most safe e0 e1 e2 =
      let h = bytes_of m REPEAT f ring safe in
      let code : ℕ = slice_index bytes (codes_at + f RINDEX) in
      let g1 : ℕ → ℕ = put (put (put f RCOUNT (period (f RATE))) R1 RINDEX) R2 code in
      seq_just d (kernel_in true bytes) (has_rows true bytes hk) small low x m board AGAIN 28 SETTLE 17 g1 ring
      (AfterStep (repeated (repeat_of (f RCOUNT) (f RINDEX)) (image_keys bytes) false) f ring)
      (begin_at d REPEAT f ring m board) safe.1
      (leaf d (kernel_in true bytes) (has_rows true bytes hk) small low (Just g1 ring)
      (Go false ∷ Go false ∷ Run 4 ∷ Acc (210 + f RATE % 32) ∷ Run 1 ∷ Acc (period (f RATE)) ∷ Go false
      ∷ Until AGAIN ∷ []) REPEAT AGAIN 28 g1 ring x m m board f ring safe.0
      (λ a. (refl, refl)) (
        e0,
        (
          ap not (last_count (f RCOUNT) (h.cell RCOUNT (omega arith)) ∙ e1),
          (
            period_place (f RATE) (h.cell RATE (omega arith)),
            (period_read bytes hk (f RATE) (h.cell RATE (omega arith)), (e2, (refl, refl, refl))),
          ),
        ),
      ))
      (λ x1 m1 board1 same1 safe1.
      recast d (kernel_in true bytes) (has_rows true bytes hk) small low x1 m1 board1 SETTLE 17 17
      (λ a. Entered (code ∷ []) g1 ring)
      (AfterStep (repeated (repeat_of (f RCOUNT) (f RINDEX)) (image_keys bytes) false) f ring)
      (begin_at d AGAIN g1 ring m1 board1) (omega arith)
      (λ a g rg q. let p : Patch = record (self
      f) { r1 = q.pointer; r2 = code; count = q.count; left = period (f RATE) } in record {
        cells = over f p;
        same = ap (λ t. memory t rg) q.now;
        facts = record {
          p = p;
          is = record {
            now = refl;
            kbd = ap (λ t. record (kbd_of held (over f p) rg) { queue = t }) q.queue
                ∙ ap (λ t. record (kbd_of held f ring) {
                  queue = enter (code ∷ []) (queue_of f ring);
                  repeats = t;
                }) (some_period (f RINDEX) (f RATE) (h.cell RATE (omega arith)))
                ∙ ap (λ c. record (kbd_of held f ring) {
                  queue = enter (c ∷ []) (queue_of f ring);
                  repeats = counting (f RINDEX) (period (f RATE));
                }) (sym (code_of_index bytes (f RINDEX) (is_upper (f RINDEX)) refl)) ∙ rw (e0, e1) refl;
            most = q.most;
            more = q.more;
          };
        };
      })
      (again d bytes hk small low held x1 m1 board1 g1 ring safe1 most))

  -- step 4 finds whether scanning is on, and does with the key that repeats what the model does
  pub step4_law : (b : Bool) (x : ℕ) (m : Cpu) (board : d.State) (f : ℕ → ℕ) (ring : List ℕ) → f COUNT % 128 ≤ 16
      → Safe m SCAN f ring → is_scanning (kbd_of held f ring) ≡ b
      → Leads d (kernel_in true bytes) x (begin_at d SCAN f ring m board)
      (Ends d x (record m { f0 = b }) board SETTLE 56 (AfterStep (repeating (image_keys bytes) m.f1) f ring))
  step4_law false x m board f ring most safe is =
      let h = bytes_of m SCAN f ring safe in
      let p : Patch = record (self f) { r1 = RCOUNT; left = 0 } in
      let la = h.cell TEST (omega arith) in
      let lb = h.cell MODE (omega arith) in
      relax d (kernel_in true bytes) (has_rows true bytes hk) small low x (record m { f0 = false }) board SETTLE 16 56
      (AfterStep (repeating (image_keys bytes) m.f1) f ring) (AfterStep (repeating (image_keys bytes) m.f1) f ring)
      (begin_at d SCAN f ring m board) (omega arith) (λ a g rg h. h)
      (leaf d (kernel_in true bytes) (has_rows true bytes hk) small low
      (AfterStep (repeating (image_keys bytes) m.f1) f ring) (Go false ∷ Until SETTLE ∷ []) SCAN SETTLE 16
      (over f p) ring x m (record m { f0 = false }) board f ring safe.0
      (λ a. record {
        p = p;
        is = record {
          now = refl;
          kbd = sym (ap (λ b. repeated_if b (image_keys bytes) m.f1 (kbd_of held f ring)) is);
          most = most;
          more = omega arith;
        };
      }) (
        scan_test (f TEST) (f MODE) (f DISABLED) la lb (h.cell DISABLED (omega arith)) (or_small (f TEST) (f MODE) la lb) ∙ is,
        (refl, refl, refl),
      ))
  step4_law true x m board f ring most safe is =
      let h = bytes_of m SCAN f ring safe in
      let la = h.cell TEST (omega arith) in
      let lb = h.cell MODE (omega arith) in
      let g1 : ℕ → ℕ = put f R1 DISABLED in
      let n : Cpu = record m { f0 = true } in
      seq_just d (kernel_in true bytes) (has_rows true bytes hk) small low x n board REPEAT 11 SETTLE 45 g1 ring
      (AfterStep (repeating (image_keys bytes) m.f1) f ring) (begin_at d SCAN f ring m board) safe.1
      (leaf d (kernel_in true bytes) (has_rows true bytes hk) small low (Just g1 ring)
      (Go true ∷ Until REPEAT ∷ []) SCAN REPEAT 11 g1 ring x m n board f ring safe.0 (λ a. (refl, refl)) (
        scan_test (f TEST) (f MODE) (f DISABLED) la lb (h.cell DISABLED (omega arith)) (or_small (f TEST) (f MODE) la lb) ∙ is,
        (refl, refl, refl),
      ))
      (λ x1 m1 board1 same1 safe1.
      recast d (kernel_in true bytes) (has_rows true bytes hk) small low x1 m1 board1 SETTLE 45 45
      (AfterStep (repeated (repeat_of (f RCOUNT) (f RINDEX)) (image_keys bytes) m.f1) g1 ring)
      (AfterStep (repeating (image_keys bytes) m.f1) f ring) (begin_at d REPEAT g1 ring m1 board1) (omega arith)
      (λ a g rg q. record {
        cells = over f q.p;
        same = ap (λ t. memory t rg) q.is.now;
        facts = record {
          p = q.p;
          is = record {
            now = refl;
            kbd = q.is.kbd ∙ sym (ap (λ b. repeated_if b (image_keys bytes) m.f1 (kbd_of held f ring)) is);
            most = q.is.most;
            more = q.is.more;
          };
        };
      })
      (repeat_by (f RCOUNT == 0) (f RCOUNT == 1) m.f1 x1 m1 board1 g1 ring most safe1 refl refl (ap (λ k. k.f1) same1)))
