-- Step 2: a command in mode Ready, when FA is already due.
use Rattle.law_fw_keys.proofs.Patch.{Keeps}
use Rattle.std.proofs.Common.{◌≡◌, ◌≤◌, ◌<◌, ℕ, zero, suc, ◌+◌, ◌%◌, List, [], ◌∷◌, All, Bool, true, false, ◌==◌}
use Rattle.std.proofs.Common.{not, nat_le, nat_lt, take, refl, ap, sym, ◌∙◌, arith, slice_index}
use Rattle.std.proofs.lemmas.Bool.Decides.{nat_tests}
use Rattle.mcs48_core.specs.Cpu.{Cpu}
use Rattle.fw_kernel.specs.Tables.{rate_at}
use Rattle.fw_kernel.specs.declared.cells.TheConstants.{R1, R4, REPLYDUE, COUNT, STARTED, MODE, DISABLED, RATE}
use Rattle.fw_kernel.specs.declared.cells.TheConstants.{RCOUNT, REPLY, LAST, FN, HELD, CHANGED, PENDING}
use Rattle.fw_kernel.specs.declared.labels.TheConstants.{READY, SCAN}
use Rattle.fw_kernel.specs.Places.{HasKernel}
use Rattle.joint_run.specs.Run.{Board}
use Rattle.mcs48_ranges.specs.Sizes.{IsByte}
use Rattle.law_fw_logic.proofs.Path.{Note, Path, Until, Go}
use Rattle.law_fw_logic.proofs.Leads.{Leads}
use Rattle.law_fw_logic.proofs.Block.{Shape, begin_at, put}
use Rattle.law_fw_logic.proofs.Kernel.{kernel_in}
use Rattle.law_fw_logic.proofs.Short.{has_rows}
use Rattle.model_keyboard.specs.Keyboard.{Keyboard}
use Rattle.model_keyboard.specs.Commands.{commanded}
use Rattle.model_keyboard.specs.Queue.{clear}
use Rattle.law_fw_keys.proofs.Patch.{awaits, still}
use Rattle.law_fw_keys.specs.State.{kbd_of, queue_of, Inv}
use Rattle.law_fw_keys.specs.Edges.{image_keys}
use Rattle.law_fw_keys.proofs.Block.{Ends, Safe}
use Rattle.law_fw_keys.proofs.Blocks.{leaf, bytes_of}
use Rattle.law_fw_keys.proofs.Dropped.{cleared}
use Rattle.law_fw_keys.proofs.CommandTests.{other, below, the_rest, commands, sums, after_sums, carries, tells}

-- a path to SCAN on which n tests fail, and one succeeds
abbrev fails : ℕ → List Note → List Note
fails zero plan = plan
fails (suc n) plan = Go false ∷ fails n plan

abbrev at_test : ℕ → List Note
at_test n = fails n (Go true ∷ Until SCAN ∷ [])

abbrev pub based : ℕ → (ℕ → ℕ) → ℕ → ℕ
based v f = put (put (put f REPLYDUE 1) REPLY 250) R1 v

module _ (d : Board) (bytes : List ℕ) (hk : HasKernel bytes) (small : All IsByte bytes)
    (low : (p1 p2 c : ℕ) (s : d.State) → (d.pins p1 p2 c s).bus < 256) (held : List Bool)
    (x : ℕ) (m : Cpu) (board : d.State) (f : ℕ → ℕ) (ring : List ℕ) (inv : Inv f) (v : ℕ) where
  abbrev Obeys : Type 0
  Obeys = Leads d (kernel_in true bytes) x (begin_at d READY (based v f) ring m board)
      (Ends d x m board SCAN 43 (Keeps held (commanded (image_keys bytes) (f R4)) f ring))

  abbrev keyboard : Keyboard
  keyboard = kbd_of held f ring

  module _ (safe : Safe m READY (based v f) ring) where
    -- a path of tests that leaves these cells
    by : (plan : List Note) (g : ℕ → ℕ) → kbd_of held g ring ≡ commanded (image_keys bytes) (f R4) keyboard → Inv g
        → ((i : ℕ) → HELD ≤ i → i < CHANGED + 12 → g i ≡ f i) → ((i : ℕ) → FN ≤ i → i < PENDING + 12 → g i ≡ f i)
        → (g 8 ≡ f 8) × (g 9 ≡ f 9)
        → Path d (kernel_in true bytes) x plan (begin_at d READY (based v f) ring m board) (Shape d x m board SCAN 43 g ring)
        → Obeys
    by plan g kbd inv cells layers stack path =
        leaf d (kernel_in true bytes) (has_rows true bytes hk) small low
        (Keeps held (commanded (image_keys bytes) (f R4)) f ring) plan READY SCAN 43 g ring x m m board (based v f) ring
        safe.0 (λ a. record { kbd = kbd; inv = inv; cells = cells; layers = layers; stack = stack }) path

    -- what a command does that is known
    does : (byte : ℕ) → (f R4 == byte) ≡ true
        → commanded (image_keys bytes) byte keyboard ≡ commanded (image_keys bytes) (f R4) keyboard
    does byte is =
        let code : f R4 ≡ byte = grind (arith, nat_tests, is) in
        sym (ap (λ b. commanded (image_keys bytes) b keyboard) code)

    -- a command that clears the queue, too
    abbrev cleared_cells : ℕ → ℕ → ℕ → ℕ
    cleared_cells disabled rate =
        put (put (put (put (put (based v f) DISABLED disabled) RATE rate) RCOUNT 0) COUNT (f STARTED)) R1 COUNT

    clears : (plan : List Note) (disabled rate : ℕ)
        → record (kbd_of held (cleared_cells disabled rate) ring) { queue = clear (queue_of f ring) }
        ≡ commanded (image_keys bytes) (f R4) keyboard
        → Path d (kernel_in true bytes) x plan (begin_at d READY (based v f) ring m board)
        (Shape d x m board SCAN 43 (cleared_cells disabled rate) ring)
        → Obeys
    clears plan disabled rate is path =
        let started : f STARTED ≤ 1 = inv.started in
        by plan (cleared_cells disabled rate)
        (ap (λ q. record (kbd_of held (cleared_cells disabled rate) ring) { queue = q })
        (cleared f ring (f STARTED) (f COUNT % 128) refl refl inv.started inv.some) ∙ is)
        (record {
          most = omega (arith, started);
          started = inv.started;
          some = omega (arith, started);
          mode = inv.mode;
          lamps = inv.lamps;
          fn = inv.fn;
        })
        (λ i k u. grind (arith, nat_tests, k, u)) (λ i k u. grind (arith, nat_tests, k, u)) (refl, refl) path

    byte : f R4 < 256
    byte = (bytes_of m READY (based v f) ring safe).cell R4 (omega arith)

    first : {c : Bool} → nat_lt (f R4) 0xed ≡ c → not (nat_le 256 (f R4 + 0x13)) ≡ c
    first is = carries (f R4) byte ∙ is

    test : (k : ℕ) {c : Bool} → k < 8 → (f R4 == slice_index commands k) ≡ c
        → (after_sums (take (suc k) sums) (f R4) == 0) ≡ c
    test k l is = tells k (f R4) l byte ∙ is

    ready_by : (c c0 c1 c2 c3 c4 c5 c6 c7 : Bool) → nat_lt (f R4) 0xed ≡ c → (f R4 == 0xed) ≡ c0 → (f R4 == 0xee) ≡ c1
        → (f R4 == 0xf3) ≡ c2 → (f R4 == 0xf4) ≡ c3 → (f R4 == 0xf5) ≡ c4 → (f R4 == 0xf6) ≡ c5 → (f R4 == 0xfe) ≡ c6
        → (f R4 == 0xff) ≡ c7 → Obeys
    ready_by true c0 c1 c2 c3 c4 c5 c6 c7 e e0 e1 e2 e3 e4 e5 e6 e7 =
        by (at_test 0) (put (put (based v f) R1 REPLY) REPLY 0xfe)
        (rw (
          other 0xff (f R4) (omega arith) e,
          other 0xfe (f R4) (omega arith) e,
          other 0xf6 (f R4) (omega arith) e,
          other 0xf5 (f R4) (omega arith) e,
          other 0xf4 (f R4) (omega arith) e,
          other 0xf3 (f R4) (omega arith) e,
          other 0xed (f R4) (omega arith) e,
          other 0xee (f R4) (omega arith) e,
          below (f R4) e,
        ) refl) (still (refl, refl, refl, refl, refl) inv)
        (λ i k u. grind (arith, nat_tests, k, u)) (λ i k u. grind (arith, nat_tests, k, u)) (refl, refl)
        (first e, (refl, refl, refl))
    ready_by false true c1 c2 c3 c4 c5 c6 c7 e e0 e1 e2 e3 e4 e5 e6 e7 =
        by (at_test 1) (put (put (based v f) R1 MODE) MODE 2) (does 0xed e0)
        (awaits (refl, refl, refl, refl) (omega arith) inv)
        (λ i k u. grind (arith, nat_tests, k, u)) (λ i k u. grind (arith, nat_tests, k, u)) (refl, refl)
        (first e, (test 0 (omega arith) e0, (refl, refl, refl)))
    ready_by false false true c2 c3 c4 c5 c6 c7 e e0 e1 e2 e3 e4 e5 e6 e7 =
        by (at_test 2) (put (put (based v f) R1 REPLY) REPLY 0xee) (does 0xee e1)
        (still (refl, refl, refl, refl, refl) inv)
        (λ i k u. grind (arith, nat_tests, k, u)) (λ i k u. grind (arith, nat_tests, k, u)) (refl, refl)
        (first e, (test 0 (omega arith) e0, (test 1 (omega arith) e1, (refl, refl, refl))))
    ready_by false false false true c3 c4 c5 c6 c7 e e0 e1 e2 e3 e4 e5 e6 e7 =
        by (at_test 3) (put (put (based v f) R1 MODE) MODE 1) (does 0xf3 e2)
        (awaits (refl, refl, refl, refl) (omega arith) inv)
        (λ i k u. grind (arith, nat_tests, k, u)) (λ i k u. grind (arith, nat_tests, k, u)) (refl, refl) (
          first e,
          (test 0 (omega arith) e0, (test 1 (omega arith) e1, (test 2 (omega arith) e2, (refl, refl, refl)))),
        )
    ready_by false false false false true c4 c5 c6 c7 e e0 e1 e2 e3 e4 e5 e6 e7 =
        let t0 = test 0 (omega arith) e0 in
        let t1 = test 1 (omega arith) e1 in
        let t2 = test 2 (omega arith) e2 in
        let t3 = test 3 (omega arith) e3 in
        clears (at_test 4) 0 (f RATE) (does 0xf4 e3)
        (first e, (t0, (t1, (t2, (t3, (refl, refl, refl))))))
    ready_by false false false false false true c5 c6 c7 e e0 e1 e2 e3 e4 e5 e6 e7 =
        let t0 = test 0 (omega arith) e0 in
        let t1 = test 1 (omega arith) e1 in
        let t2 = test 2 (omega arith) e2 in
        let t3 = test 3 (omega arith) e3 in
        let t4 = test 4 (omega arith) e4 in
        clears (at_test 5) 1 (slice_index bytes rate_at) (does 0xf5 e4)
        (first e, (t0, (t1, (t2, (t3, (t4, (refl, refl, refl)))))))
    ready_by false false false false false false true c6 c7 e e0 e1 e2 e3 e4 e5 e6 e7 =
        let t0 = test 0 (omega arith) e0 in
        let t1 = test 1 (omega arith) e1 in
        let t2 = test 2 (omega arith) e2 in
        let t3 = test 3 (omega arith) e3 in
        let t4 = test 4 (omega arith) e4 in
        let t5 = test 5 (omega arith) e5 in
        clears (at_test 6) (f DISABLED) (slice_index bytes rate_at) (does 0xf6 e5)
        (first e, (t0, (t1, (t2, (t3, (t4, (t5, (refl, refl, refl))))))))
    ready_by false false false false false false false true c7 e e0 e1 e2 e3 e4 e5 e6 e7 =
        let t0 = test 0 (omega arith) e0 in
        let t1 = test 1 (omega arith) e1 in
        let t2 = test 2 (omega arith) e2 in
        let t3 = test 3 (omega arith) e3 in
        let t4 = test 4 (omega arith) e4 in
        let t5 = test 5 (omega arith) e5 in
        let t6 = test 6 (omega arith) e6 in
        by (at_test 7) (put (put (based v f) REPLY (f LAST)) R1 REPLY) (does 0xfe e6) (still (refl, refl, refl, refl, refl) inv)
        (λ i k u. grind (arith, nat_tests, k, u)) (λ i k u. grind (arith, nat_tests, k, u)) (refl, refl)
        (first e, (t0, (t1, (t2, (t3, (t4, (t5, (t6, (refl, refl, refl)))))))))
    ready_by false false false false false false false false true e e0 e1 e2 e3 e4 e5 e6 e7 =
        let t0 = test 0 (omega arith) e0 in
        let t1 = test 1 (omega arith) e1 in
        let t2 = test 2 (omega arith) e2 in
        let t3 = test 3 (omega arith) e3 in
        let t4 = test 4 (omega arith) e4 in
        let t5 = test 5 (omega arith) e5 in
        let t6 = test 6 (omega arith) e6 in
        let t7 = test 7 (omega arith) e7 in
        by (at_test 8) (put (put (based v f) REPLYDUE 3) R1 REPLYDUE) (does 0xff e7) (still (refl, refl, refl, refl, refl) inv)
        (λ i k u. grind (arith, nat_tests, k, u)) (λ i k u. grind (arith, nat_tests, k, u)) (refl, refl)
        (first e, (t0, (t1, (t2, (t3, (t4, (t5, (t6, (t7, (refl, refl, refl))))))))))
    ready_by false false false false false false false false false e e0 e1 e2 e3 e4 e5 e6 e7 =
        let t0 = test 0 (omega arith) e0 in
        let t1 = test 1 (omega arith) e1 in
        let t2 = test 2 (omega arith) e2 in
        let t3 = test 3 (omega arith) e3 in
        let t4 = test 4 (omega arith) e4 in
        let t5 = test 5 (omega arith) e5 in
        let t6 = test 6 (omega arith) e6 in
        let t7 = test 7 (omega arith) e7 in
        by (fails 9 (Until SCAN ∷ [])) (based v f) (rw (e7, e6, e5, e4, e3, e2, e0, e1, the_rest (f R4) e e0 e1) refl)
        (still (refl, refl, refl, refl, refl) inv)
        (λ i k u. grind (arith, nat_tests, k, u)) (λ i k u. grind (arith, nat_tests, k, u)) (refl, refl)
        (first e, (t0, (t1, (t2, (t3, (t4, (t5, (t6, (t7, (refl, refl, refl))))))))))

  -- a command in mode Ready is obeyed as the model says, in 43 cycles at most
  pub ready_law : Safe m READY (based v f) ring → Obeys
  ready_law safe =
      ready_by safe (nat_lt (f R4) 0xed) (f R4 == 0xed) (f R4 == 0xee) (f R4 == 0xf3) (f R4 == 0xf4) (f R4 == 0xf5)
      (f R4 == 0xf6) (f R4 == 0xfe) (f R4 == 0xff) refl refl refl refl refl refl refl refl refl
