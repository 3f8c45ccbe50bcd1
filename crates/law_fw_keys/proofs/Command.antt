-- Step 2: a byte that was received, in every mode.
use Rattle.law_fw_keys.proofs.Patch.{IsFnCell, Keeps}
use Rattle.model_keyboard.specs.Commands.{acknowledges}
use Rattle.std.proofs.Common.{◌≡◌, ◌≤◌, ◌<◌, ℕ, ◌+◌, ◌*◌, ◌%◌, ◌/◌, List, [], ◌∷◌, All, Bool, true, false, not}
use Rattle.std.proofs.Common.{◌==◌, nat_le, if◌then◌else◌, bit_and, refl, ap, sym, ◌∙◌, arith}
use Rattle.std.proofs.lemmas.Bool.Decides.{nat_tests}
use Rattle.mcs48_core.specs.Cpu.{Cpu}
use Rattle.bits.specs.Bits.{bit}
use Rattle.law_fw_keys.proofs.Blocks.{Just, leaf, seq_just, relax, bytes_of}
use Rattle.std.proofs.Common.{nat_lt}
use Rattle.law_fw_keys.proofs.Ready.{based, ready_law}
use Rattle.fw_kernel.specs.declared.cells.TheConstants.{LIGHTS, R1, R4, R5, REPLYDUE, COUNT, STARTED, MODE, RATE}
use Rattle.fw_kernel.specs.declared.cells.TheConstants.{REPLY, FN, HELD, CHANGED, PENDING}
use Rattle.fw_kernel.specs.Places.{HasKernel}
use Rattle.fw_kernel.specs.declared.labels.TheConstants.{COMMAND, READY, SCAN}
use Rattle.law_fw_keys.proofs.Block.{Ends, Safe}
use Rattle.law_fw_keys.specs.Edges.{image_keys}
use Rattle.law_fw_keys.proofs.Patch.{awaits}
use Rattle.law_fw_keys.specs.State.{Inv, kbd_of}
use Rattle.law_fw_logic.proofs.Block.{begin_at, put}
use Rattle.bits.proofs.Every.{by_byte, tests_by}
use Rattle.law_fw_logic.proofs.Kernel.{kernel_in}
use Rattle.law_fw_logic.proofs.Leads.{Leads}
use Rattle.law_fw_logic.proofs.Path.{Go, Until}
use Rattle.law_fw_logic.proofs.Short.{has_rows}
use Rattle.mcs48_ranges.specs.Sizes.{IsByte}
use Rattle.joint_run.specs.Run.{Board}
use Rattle.model_keyboard.specs.Commands.{commanded, obeyed, obeyed_in, replies}
use Rattle.model_keyboard.specs.declared.state.Mode.TheVariants.{Ready, WantLights, WantRate}

high : (b : ℕ) → b < 256 → bit 7 b ≡ not (nat_lt b 128)
high = tests_by 256 (λ b. bit 7 b) (λ b. not (nat_lt b 128)) refl

refused : (b : ℕ) → b < 256 → not (nat_le 256 (b + 19)) ≡ nat_lt b 237
refused = tests_by 256 (λ b. not (nat_le 256 (b + 19))) (λ b. nat_lt b 237) refl

odd_mode : (n : ℕ) → n < 3 → bit 0 n ≡ (n == 1)
odd_mode = tests_by 3 (λ n. bit 0 n) (λ n. n == 1) refl

three_lights : (b : ℕ) → b < 256 → bit_and (b % 16 * 16 + b / 16) 112 / 16 ≡ b % 8
three_lights = by_byte (λ b. bit_and (b % 16 * 16 + b / 16) 112 / 16) (λ b. b % 8) refl

three_alone : (b : ℕ) → b < 256 → bit_and (b % 16 * 16 + b / 16) 112
    ≡ 16 * (bit_and (b % 16 * 16 + b / 16) 112 / 16 % 8)
three_alone = by_byte (λ b. bit_and (b % 16 * 16 + b / 16) 112)
    (λ b. 16 * (bit_and (b % 16 * 16 + b / 16) 112 / 16 % 8)) refl

mode_kept : (f : ℕ → ℕ) (i : ℕ) → HELD ≤ i → i < CHANGED + 12 → put f MODE 0 i ≡ f i
mode_kept f i l u = grind (arith, nat_tests, l, u)

layer_kept : (f : ℕ → ℕ) (i : ℕ) → FN ≤ i → i < PENDING + 12 → put f MODE 0 i ≡ f i
layer_kept f i l u = grind (arith, nat_tests, l, u)

module _ (d : Board) (bytes : List ℕ) (hk : HasKernel bytes) (small : All IsByte bytes)
    (low : (p1 p2 c : ℕ) (s : d.State) → (d.pins p1 p2 c s).bus < 256) (held : List Bool)
    (x : ℕ) (m : Cpu) (board : d.State) (f : ℕ → ℕ) (ring : List ℕ) (inv : Inv f) where
  abbrev Obeys : Type 0
  Obeys = Leads d (kernel_in true bytes) x (begin_at d COMMAND f ring m board)
      (Ends d x m board SCAN 68 (Keeps held (obeyed (image_keys bytes) (f R4) (not (f R5 == 0))) f ring))

  facts_of : (g : ℕ → ℕ) → g COUNT ≡ f COUNT → g STARTED ≡ f STARTED → g MODE ≤ 2 → g LIGHTS ≡ 16 * (g LIGHTS / 16 % 8)
      → IsFnCell (g FN)
      → ((i : ℕ) → HELD ≤ i → i < CHANGED + 12 → g i ≡ f i) → ((i : ℕ) → FN ≤ i → i < PENDING + 12 → g i ≡ f i)
      → (g 8 ≡ f 8) × (g 9 ≡ f 9)
      → kbd_of held g ring ≡ obeyed (image_keys bytes) (f R4) (not (f R5 == 0)) (kbd_of held f ring) → (a : ℕ)
      → Keeps held (obeyed (image_keys bytes) (f R4) (not (f R5 == 0))) f ring a g ring
  facts_of g e_count e_started e_mode e_lamps e_fn cells layers stack kbd a =
      record {
        kbd = kbd;
        cells = cells;
        layers = layers;
        stack = stack;
        inv = record {
          most = (let l : f COUNT % 128 ≤ 16 = inv.most in rw e_count l);
          started = (let l : f STARTED ≤ 1 = inv.started in rw e_started l);
          some = (let l : f STARTED ≤ f COUNT % 128 = inv.some in rw (e_count, e_started) l);
          mode = e_mode;
          lamps = e_lamps;
          fn = e_fn;
        };
      }

  wrong : Safe m COMMAND f ring → (f R5 == 0) ≡ true → Obeys
  wrong safe e =
      leaf d (kernel_in true bytes) (has_rows true bytes hk) small low
      (Keeps held (obeyed (image_keys bytes) (f R4) (not (f R5 == 0))) f ring) (Go true ∷ Until SCAN ∷ [])
      COMMAND SCAN 68 (put (put (put f REPLYDUE 1) REPLY 254) R1 REPLY) ring x m m board f ring safe.0
      (facts_of (put (put (put f REPLYDUE 1) REPLY 254) R1 REPLY) refl refl inv.mode inv.lamps inv.fn
      (λ i k u. grind (arith, nat_tests, k, u)) (λ i k u. grind (arith, nat_tests, k, u)) (refl, refl) (rw e refl))
      (e, (refl, refl, refl))

  in_ready : Safe m COMMAND f ring → (f R5 == 0) ≡ false → (f MODE == 0) ≡ true → Obeys
  in_ready safe right mode =
      relax d (kernel_in true bytes) (has_rows true bytes hk) small low x m board SCAN (16 + 43) 68
      (Keeps held (commanded (image_keys bytes) (f R4)) f ring)
      (Keeps held (obeyed (image_keys bytes) (f R4) (not (f R5 == 0))) f ring) (begin_at d COMMAND f ring m board)
      (omega arith)
      (λ a g rg q.
      record {
        kbd = q.kbd
            ∙ sym (ap (λ b. obeyed (image_keys bytes) (f R4) (not b) (kbd_of held f ring)) right ∙ ap
            (λ b. obeyed_in (if b then Ready else if f MODE == 1 then WantRate else WantLights) (image_keys bytes)
            (f R4) (kbd_of held f ring)) mode);
        inv = q.inv;
        cells = λ i k u. q.cells i k u;
        layers = λ i k u. q.layers i k u;
        stack = q.stack;
      })
      (seq_just d (kernel_in true bytes) (has_rows true bytes hk) small low x m board READY 16 SCAN 43 (based MODE f) ring
      (Keeps held (commanded (image_keys bytes) (f R4)) f ring) (begin_at d COMMAND f ring m board) safe.1
      (leaf d (kernel_in true bytes) (has_rows true bytes hk) small low (Just (based MODE f) ring)
      (Go false ∷ Go true ∷ []) COMMAND READY 16 (based MODE f) ring x m m board f ring safe.0
      (λ a. (refl, refl)) (right, (mode, (refl, refl, refl))))
      (λ x1 m1 board1 same1 safe1. ready_law d bytes hk small low held x1 m1 board1 f ring inv MODE safe1))

  sets : (w : Bool) → (f MODE == 1) ≡ w → Safe m COMMAND f ring → (f R5 == 0) ≡ false → (f MODE == 0) ≡ false
      → nat_lt (f R4) 128 ≡ true → Obeys
  sets true w safe right mode small_byte =
      let h = bytes_of m COMMAND f ring safe in
      let most : f MODE ≤ 2 = inv.mode in
      let g : ℕ → ℕ = put (put (put (put (put f REPLYDUE 1) REPLY 250) MODE 0) RATE (f R4)) R1 RATE in
      leaf d (kernel_in true bytes) (has_rows true bytes hk) small low
      (Keeps held (obeyed (image_keys bytes) (f R4) (not (f R5 == 0))) f ring)
      (Go false ∷ Go false ∷ Go false ∷ Go true ∷ Until SCAN ∷ [])
      COMMAND SCAN 68 g ring x m m board f ring safe.0
      (facts_of g refl refl (omega arith) inv.lamps inv.fn (λ i k u. grind (arith, nat_tests, k, u))
      (λ i k u. grind (arith, nat_tests, k, u)) (refl, refl)
      (rw (right, mode, w, small_byte) refl)) (
        right,
        (
          mode,
          (
            high (f R4) (h.cell R4 (omega arith)) ∙ ap not small_byte,
            (odd_mode (f MODE) (omega (arith, most)) ∙ w, (refl, refl, refl)),
          ),
        ),
      )
  sets false w safe right mode small_byte =
      let h = bytes_of m COMMAND f ring safe in
      let most : f MODE ≤ 2 = inv.mode in
      let g : ℕ → ℕ = put (put (put (put (put f REPLYDUE 1) REPLY 250) MODE 0) LIGHTS
      (bit_and (f R4 % 16 * 16 + f R4 / 16) 112)) R1
      LIGHTS in
      leaf d (kernel_in true bytes) (has_rows true bytes hk) small low
      (Keeps held (obeyed (image_keys bytes) (f R4) (not (f R5 == 0))) f ring)
      (Go false ∷ Go false ∷ Go false ∷ Go false ∷ Until SCAN ∷ [])
      COMMAND SCAN 68 g ring x m m board f ring safe.0
      (facts_of g refl refl (omega arith) (three_alone (f R4) (h.cell R4 (omega arith))) inv.fn
      (λ i k u. grind (arith, nat_tests, k, u)) (λ i k u. grind (arith, nat_tests, k, u)) (refl, refl)
      (ap (λ v. record (kbd_of held g ring) { lights = v }) (three_lights (f R4) (h.cell R4 (omega arith)))
      ∙ rw (right, mode, w, small_byte) refl)) (
        right,
        (
          mode,
          (
            high (f R4) (h.cell R4 (omega arith)) ∙ ap not small_byte,
            (odd_mode (f MODE) (omega (arith, most)) ∙ w, (refl, refl, refl)),
          ),
        ),
      )

  asks_on : (w : Bool) → (f MODE == 1) ≡ w → Safe m COMMAND f ring → (f R5 == 0) ≡ false → (f MODE == 0) ≡ false
      → nat_lt (f R4) 128 ≡ false → nat_lt (f R4) 237 ≡ true → Obeys
  asks_on w e safe right mode big between =
      let h = bytes_of m COMMAND f ring safe in
      let g : ℕ → ℕ = put (put (put f REPLYDUE 1) REPLY 254) R1 REPLY in
      leaf d (kernel_in true bytes) (has_rows true bytes hk) small low
      (Keeps held (obeyed (image_keys bytes) (f R4) (not (f R5 == 0))) f ring)
      (Go false ∷ Go false ∷ Go true ∷ Go true ∷ Until SCAN ∷ [])
      COMMAND SCAN 68 g ring x m m board f ring safe.0
      (facts_of g refl refl inv.mode inv.lamps inv.fn (λ i k u. grind (arith, nat_tests, k, u))
      (λ i k u. grind (arith, nat_tests, k, u)) (refl, refl) (by_w w e)) (
        right,
        (
          mode,
          (
            high (f R4) (h.cell R4 (omega arith)) ∙ ap not big,
            (refused (f R4) (h.cell R4 (omega arith)) ∙ between, (refl, refl, refl)),
          ),
        ),
      )
    where
      by_w : (w : Bool) → (f MODE == 1) ≡ w → kbd_of held (put (put (put f REPLYDUE 1) REPLY 254) R1 REPLY) ring
          ≡ obeyed (image_keys bytes) (f R4) (not (f R5 == 0)) (kbd_of held f ring)
      by_w true e = rw (right, mode, e, big, between) refl
      by_w false e = rw (right, mode, e, big, between) refl

  ends_wait : (w : Bool) → (f MODE == 1) ≡ w → Safe m COMMAND f ring → (f R5 == 0) ≡ false → (f MODE == 0) ≡ false
      → nat_lt (f R4) 128 ≡ false → nat_lt (f R4) 237 ≡ false → Obeys
  ends_wait w e safe right mode big command =
      let h = bytes_of m COMMAND f ring safe in
      let f0 : ℕ → ℕ = put f MODE 0 in
      relax d (kernel_in true bytes) (has_rows true bytes hk) small low x m board SCAN (25 + 43) 68
      (Keeps held (commanded (image_keys bytes) (f R4)) f0 ring)
      (Keeps held (obeyed (image_keys bytes) (f R4) (not (f R5 == 0))) f ring) (begin_at d COMMAND f ring m board)
      (omega arith)
      (λ a g rg q.
      record {
        kbd = q.kbd ∙ sym (by_w w e);
        inv = q.inv;
        cells = λ i k u. q.cells i k u ∙ mode_kept f i k u;
        layers = λ i k u. q.layers i k u ∙ layer_kept f i k u;
        stack = q.stack;
      })
      (seq_just d (kernel_in true bytes) (has_rows true bytes hk) small low x m board READY 25 SCAN 43 (based MODE f0)
      ring (Keeps held (commanded (image_keys bytes) (f R4)) f0 ring) (begin_at d COMMAND f ring m board) safe.1
      (leaf d (kernel_in true bytes) (has_rows true bytes hk) small low (Just (based MODE f0) ring)
      (Go false ∷ Go false ∷ Go true ∷ Go false ∷ Until READY ∷ [])
      COMMAND READY 25 (based MODE f0) ring x m m board f ring safe.0 (λ a. (refl, refl)) (
        right,
        (
          mode,
          (
            high (f R4) (h.cell R4 (omega arith)) ∙ ap not big,
            (refused (f R4) (h.cell R4 (omega arith)) ∙ command, (refl, refl, refl)),
          ),
        ),
      ))
      (λ x1 m1 board1 same1 safe1. ready_law d bytes hk small low held x1 m1 board1 f0 ring
      (awaits (refl, refl, refl, refl) (omega arith) inv) MODE
      safe1))
    where
      by_w : (w : Bool) → (f MODE == 1) ≡ w → obeyed (image_keys bytes) (f R4) (not (f R5 == 0)) (kbd_of held f ring)
          ≡ commanded (image_keys bytes) (f R4) (kbd_of held (put f MODE 0) ring)
      by_w true e =
          ap (λ b. obeyed (image_keys bytes) (f R4) (not b) (kbd_of held f ring)) right
          ∙ ap (λ b. obeyed_in (if b then Ready else if f MODE == 1 then WantRate else WantLights) (image_keys bytes)
          (f R4) (kbd_of held f ring)) mode
          ∙ ap (λ b. obeyed_in (if b then WantRate else WantLights) (image_keys bytes) (f R4) (kbd_of held f ring)) e
          ∙ ap (λ b. if b then record (acknowledges (record (kbd_of held f ring) { rate = f R4 })) { mode = Ready }
          else if nat_lt (f R4) 237 then replies 254 (kbd_of held f ring) else commanded (image_keys bytes) (f R4)
          (record (kbd_of held f ring) { mode = Ready })) big
          ∙ ap (λ b. if b then replies 254 (kbd_of held f ring) else commanded (image_keys bytes) (f R4)
          (record (kbd_of held f ring) { mode = Ready })) command
      by_w false e =
          ap (λ b. obeyed (image_keys bytes) (f R4) (not b) (kbd_of held f ring)) right
          ∙ ap (λ b. obeyed_in (if b then Ready else if f MODE == 1 then WantRate else WantLights) (image_keys bytes)
          (f R4) (kbd_of held f ring)) mode
          ∙ ap (λ b. obeyed_in (if b then WantRate else WantLights) (image_keys bytes) (f R4) (kbd_of held f ring)) e
          ∙ ap (λ b. if b then record (acknowledges
          (record (kbd_of held f ring) { lights = f R4 % 8 })) { mode = Ready } else if nat_lt (f R4) 237 then replies
          254 (kbd_of held f ring) else commanded (image_keys bytes) (f R4)
          (record (kbd_of held f ring) { mode = Ready })) big
          ∙ ap (λ b. if b then replies 254 (kbd_of held f ring) else commanded (image_keys bytes) (f R4)
          (record (kbd_of held f ring) { mode = Ready })) command

  -- a byte that was received is obeyed as the model says, in 68 cycles at most
  pub command_law : Safe m COMMAND f ring → Obeys
  command_law safe = by (f R5 == 0) refl (f MODE == 0) refl (nat_lt (f R4) 128) refl (nat_lt (f R4) 237) refl
    where
      by : (b0 : Bool) → (f R5 == 0) ≡ b0 → (b1 : Bool) → (f MODE == 0) ≡ b1 → (b2 : Bool) → nat_lt (f R4) 128 ≡ b2
          → (b3 : Bool) → nat_lt (f R4) 237 ≡ b3 → Obeys
      by true e0 b1 e1 b2 e2 b3 e3 = wrong safe e0
      by false e0 true e1 b2 e2 b3 e3 = in_ready safe e0 e1
      by false e0 false e1 true e2 b3 e3 = sets (f MODE == 1) refl safe e0 e1 e2
      by false e0 false e1 false e2 true e3 = asks_on (f MODE == 1) refl safe e0 e1 e2 e3
      by false e0 false e1 false e2 false e3 = ends_wait (f MODE == 1) refl safe e0 e1 e2 e3
