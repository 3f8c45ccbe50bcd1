-- The edge of a row: a press, a release, that of the Fn key, or no more than the layer where scanning is off.
use Rattle.std.proofs.Common.{◌≡◌, ◌≤◌, ◌<◌, ℕ, suc, ◌+◌, ◌-◌, ◌^◌, ◌%◌, ◌/◌, List, [], ◌∷◌, All, Bool}
use Rattle.std.proofs.Common.{true, false, not, ◌==◌, bit_and, bit_xor, refl, ap, inl, inr}
use Rattle.std.proofs.Common.{sym, ◌∙◌, arith, slice_index}
use Rattle.std.proofs.lemmas.Bool.Decides.{nat_tests}
use Rattle.mcs48_core.specs.Cpu.{Cpu}
use Rattle.bits.specs.Bits.{bit}
use Rattle.law_fw_keys.proofs.Blocks.{Just, JustA, leaf, leaf_a, bytes_of}
use Rattle.law_fw_keys.proofs.Fold.{fn_cell, with_bit}
use Rattle.fw_kernel.specs.Tables.{codes_at}
use Rattle.fw_kernel.specs.declared.cells.TheConstants.{R0, R1, R2, R3, R4, R5, R6, R7, COUNT, RINDEX, RATE, RCOUNT}
use Rattle.fw_kernel.specs.declared.cells.TheConstants.{FN}
use Rattle.fw_kernel.specs.Places.{HasKernel}
use Rattle.fw_kernel.specs.declared.labels.TheConstants.{EDGE, ENTER, ENTER2, ENTERED, SILENT, LOWER}
use Rattle.law_fw_keys.proofs.Block.{Ends, Safe}
use Rattle.law_fw_keys.proofs.Patch.{IsFnCell}
use Rattle.law_fw_keys.specs.Edges.{image_code, image_keys, IsSilentAlike}
use Rattle.law_fw_logic.proofs.Block.{begin_at, put}
use Rattle.law_fw_logic.proofs.Kernel.{kernel_in}
use Rattle.law_fw_logic.proofs.Leads.{Leads}
use Rattle.law_fw_logic.proofs.Path.{Acc, Go, Run, Until}
use Rattle.law_fw_logic.proofs.Short.{has_rows}
use Rattle.mcs48_ranges.specs.Sizes.{IsByte}
use Rattle.joint_run.specs.Run.{Board}
use Rattle.model_keyboard.specs.Typematic.{delay}
use Rattle.law_fw_keys.proofs.EdgeTests.{row_bit, bit_test, bit_test_back, delay_place, delay_read, xor_test}
use Rattle.law_fw_keys.proofs.EdgeTests.{upper, fn_upper, index_small, index_byte}

-- where a release knows its index
abbrev pub AT_INDEX : ℕ
AT_INDEX = LOWER + 1

-- the Fn key's cell by whether it is down
pub cell_is : (v : ℕ) → IsFnCell v → v ≡ fn_cell (not (v == 0))
cell_is v (inl e) = e ∙ sym (ap (λ u. fn_cell (not (u == 0))) e)
cell_is v (inr e) = e ∙ sym (ap (λ u. fn_cell (not (u == 0))) e)

module _ (d : Board) (bytes : List ℕ) (hk : HasKernel bytes) (alike : IsSilentAlike bytes) (small : All IsByte bytes)
    (low : (p1 p2 c : ℕ) (s : d.State) → (d.pins p1 p2 c s).bus < 256) (held : List Bool) where
  abbrev pub code_at : Bool → ℕ → ℕ
  code_at b p = slice_index bytes (codes_at + (upper b + p))

  abbrev pub is_silent : ℕ → Bool
  is_silent p = image_code bytes false p == 0

  abbrev pub is_only : ℕ → Bool
  is_only p = (image_keys bytes).make_only p

  -- how a row's pass begins, with its bit, and what is known of the cells
  pub record AtEdge (k : ℕ) (f : ℕ → ℕ) : Type 0 where
    pub k_small : k < 8
    pub r3 : f R3 ≡ suc k
    pub place : f R6 < 96
    pub cell : IsFnCell (f FN)
    pub only : bit (7 - k) (f R0) ≡ is_only (f R6)
    pub most : f COUNT % 128 ≤ 16

  module _ (k : ℕ) (x : ℕ) (m : Cpu) (board : d.State) (f : ℕ → ℕ) (ring : List ℕ) (h : AtEdge k f) where
    bit_read : slice_index bytes ((1024 + f R3) % 2048) ≡ 2 ^ (7 - k)
    bit_read = ap (λ n. slice_index bytes ((1024 + n) % 2048)) h.r3 ∙ row_bit bytes hk k h.k_small

    abbrev pub fn : Bool
    fn = not (f FN == 0)

    abbrev pub sum : Bool → ℕ
    sum b = upper b + f R6

    abbrev pub byte' : ℕ
    byte' = with_bit (7 - k) (f FN) (f R5)

    abbrev pub pressed_cells : ℕ → ℕ
    pressed_cells = put (put (put (put f R4 m.a) R2 (sum fn)) R5 byte') R1 FN

    upper_read : bit_and (f FN) 97 ≡ upper fn
    upper_read = ap (λ v. bit_and v 97) (cell_is (f FN) h.cell) ∙ fn_upper fn

    module _ (safe : Safe m EDGE f ring) where
      tests_row : (b : Bool) → bit (7 - k) (f R7) ≡ b → (bit_and (2 ^ (7 - k)) (f R7) == 0) ≡ not b
      tests_row b is = bit_test (7 - k) (f R7) (omega arith) ((bytes_of m EDGE f ring safe).cell R7 (omega arith))
          ∙ ap not is

      -- the Fn key goes down
      pub fn_press : bit (7 - k) (f R7) ≡ true → (code_at fn (f R6) == 0) ≡ true
          → Leads d (kernel_in true bytes) x (begin_at d EDGE f ring m board)
          (Ends d x m board ENTERED 30 (Just (put pressed_cells FN 255) ring))
      fn_press down silent =
          leaf d (kernel_in true bytes) (has_rows true bytes hk) small low (Just (put pressed_cells FN 255) ring)
          (Run 3 ∷ Acc (2 ^ (7 - k)) ∷ Go false ∷ Run 8 ∷ Acc (upper fn) ∷ Run 1 ∷ Acc (sum fn) ∷ Go true
          ∷ Until ENTERED ∷ []) EDGE ENTERED 30 (put pressed_cells FN 255) ring x m m
          board f ring safe.0 (λ a. (refl, refl)) (
            bit_read,
            (
              tests_row true down,
              (upper_read, (index_small fn (upper fn) (f R6) refl h.place, (silent, (refl, refl, refl)))),
            ),
          )

      -- a key goes down where scanning is off
      pub press_off : bit (7 - k) (f R7) ≡ true → (code_at fn (f R6) == 0) ≡ false → m.f0 ≡ false
          → Leads d (kernel_in true bytes) x (begin_at d EDGE f ring m board)
          (Ends d x m board ENTERED 28 (Just pressed_cells ring))
      press_off down some off =
          leaf d (kernel_in true bytes) (has_rows true bytes hk) small low (Just pressed_cells ring)
          (Run 3 ∷ Acc (2 ^ (7 - k)) ∷ Go false ∷ Run 8 ∷ Acc (upper fn) ∷ Run 1 ∷ Acc (sum fn) ∷ Go false ∷ Go false
          ∷ Until ENTERED ∷ []) EDGE ENTERED 28 pressed_cells ring x m m
          board f ring safe.0 (λ a. (refl, refl)) (
            bit_read,
            (
              tests_row true down,
              (upper_read, (index_small fn (upper fn) (f R6) refl h.place, (some, (off, (refl, refl, refl))))),
            ),
          )

      -- and where it is on
      abbrev pub begun_cells : ℕ → ℕ
      begun_cells =
          put (put (put (put (put (put f R4 m.a) R2 (code_at fn (f R6))) R5 byte') RINDEX (sum fn)) RCOUNT
          (delay (f RATE))) R1 RCOUNT

      -- a press of a key that sends something, with scanning on, notes its repeat and goes on to enter its code
      pub press_on : bit (7 - k) (f R7) ≡ true → (code_at fn (f R6) == 0) ≡ false → m.f0 ≡ true
          → Leads d (kernel_in true bytes) x (begin_at d EDGE f ring m board)
          (Ends d x m board ENTER 42 (Just begun_cells ring))
      press_on down some on =
          let rate : f RATE < 256 = (bytes_of m EDGE f ring safe).cell RATE (omega arith) in
          leaf d (kernel_in true bytes) (has_rows true bytes hk) small low (Just begun_cells ring)
          (Run 3 ∷ Acc (2 ^ (7 - k)) ∷ Go false ∷ Run 8 ∷ Acc (upper fn) ∷ Run 1 ∷ Acc (sum fn) ∷ Go false ∷ Go true ∷ Run 9
          ∷ Acc (206 + f RATE / 32 % 4) ∷ Run 1 ∷ Acc (delay (f RATE)) ∷ Until ENTER ∷ []) EDGE ENTER 42 begun_cells ring x m m
          board f ring safe.0
          (λ a. (refl, refl)) (
            bit_read,
            (
              tests_row true down,
              (
                upper_read,
                (
                  index_small fn (upper fn) (f R6) refl h.place,
                  (
                    some,
                    (on, (delay_place (f RATE) rate, (delay_read bytes hk (f RATE) rate, (refl, refl, refl)))),
                  ),
                ),
              ),
            ),
          )

      -- a release finds its index, by the layer of the press
      abbrev pub found_cells : ℕ → ℕ
      found_cells = put (put f R4 m.a) R2 (2 ^ (7 - k))

      layer_test : (b : Bool) → bit (7 - k) (f R5) ≡ b → (bit_and (f R5) (2 ^ (7 - k)) == 0) ≡ not b
      layer_test b is =
          bit_test_back (7 - k) (f R5) (omega arith) ((bytes_of m EDGE f ring safe).cell R5 (omega arith)) ∙ ap not is

      -- a release finds the index of its code in 15 cycles at most, in the layer of the press
      pub finds : (b : Bool) → bit (7 - k) (f R5) ≡ b → bit (7 - k) (f R7) ≡ false
          → Leads d (kernel_in true bytes) x (begin_at d EDGE f ring m board)
          (Ends d x m board AT_INDEX 15 (JustA (sum b) found_cells ring))
      finds true on_fn down =
          leaf_a d (kernel_in true bytes) (has_rows true bytes hk) small low (JustA (sum true) found_cells ring)
          (Run 3 ∷ Acc (2 ^ (7 - k)) ∷ Go true ∷ Go true ∷ Until AT_INDEX ∷ Acc (sum true) ∷ []) EDGE AT_INDEX 15 (sum true)
          found_cells ring x m m board f ring safe.0 (refl, refl, refl) (
            bit_read,
            (
              tests_row false down,
              (
                ap not (layer_test true on_fn),
                (index_small true 97 (f R6) refl h.place, ((refl, refl, refl), refl)),
              ),
            ),
          )
      finds false on_fn down =
          let none : bit_and (f R5) (2 ^ (7 - k)) ≡ 0 =
          (let e : (bit_and (f R5) (2 ^ (7 - k)) == 0) ≡ true = layer_test false on_fn in grind (arith, nat_tests, e))
          in
          leaf_a d (kernel_in true bytes) (has_rows true bytes hk) small low (JustA (sum false) found_cells ring)
          (Run 3 ∷ Acc (2 ^ (7 - k)) ∷ Go true ∷ Go false ∷ Until AT_INDEX ∷ Acc (sum false) ∷ []) EDGE AT_INDEX 15 (sum false)
          found_cells ring x m m board f ring safe.0 (refl, refl, refl) (
            bit_read,
            (
              tests_row false down,
              (
                ap not (layer_test false on_fn),
                (
                  index_small false (bit_and (f R5) (2 ^ (7 - k))) (f R6) none h.place,
                  ((refl, refl, refl), refl),
                ),
              ),
            ),
          )

    -- a release, from its index on
    module _ (b : Bool) (a_is : m.a ≡ sum b) (safe : Safe m AT_INDEX f ring) where
      -- the Fn key goes up
      pub fn_release : (code_at b (f R6) == 0) ≡ true
          → Leads d (kernel_in true bytes) x (begin_at d AT_INDEX f ring m board)
          (Ends d x m board ENTERED 11 (Just (put (put (put f R2 (sum b)) R1 FN) FN 0) ring))
      fn_release silent =
          leaf d (kernel_in true bytes) (has_rows true bytes hk) small low
          (Just (put (put (put f R2 (sum b)) R1 FN) FN 0) ring)
          (Acc (sum b) ∷ Go true ∷ Until ENTERED ∷ []) AT_INDEX ENTERED 11
          (put (put (put f R2 (sum b)) R1 FN) FN 0) ring x m m board f ring safe.0 (λ a. (refl, refl))
          (a_is, (silent, (refl, refl, refl)))

      -- scanning is off
      pub release_off : (code_at b (f R6) == 0) ≡ false → m.f0 ≡ false
          → Leads d (kernel_in true bytes) x (begin_at d AT_INDEX f ring m board)
          (Ends d x m board ENTERED 9 (Just (put f R2 (sum b)) ring))
      release_off some off =
          leaf d (kernel_in true bytes) (has_rows true bytes hk) small low (Just (put f R2 (sum b)) ring)
          (Acc (sum b) ∷ Go false ∷ Go false ∷ Until ENTERED ∷ []) AT_INDEX ENTERED 9
          (put f R2 (sum b)) ring x m m board f ring safe.0 (λ a. (refl, refl))
          (a_is, (some, (off, (refl, refl, refl))))

      -- it is on: what repeats ends where it is this key
      abbrev pub ended_cells : Bool → ℕ → ℕ
      ended_cells true = put (put (put f R2 (code_at b (f R6))) R1 RCOUNT) RCOUNT 0
      ended_cells false = put (put f R2 (code_at b (f R6))) R1 RINDEX

      abbrev pub goal_of : Bool → ℕ
      goal_of true = ENTERED
      goal_of false = ENTER2

      abbrev pub time_of : Bool → ℕ
      time_of true = 25
      time_of false = 23

      row_test : (only : Bool) → bit (7 - k) (f R0) ≡ only → (bit_and (2 ^ (7 - k)) (f R0) == 0) ≡ not only
      row_test only is =
          bit_test (7 - k) (f R0) (omega arith) ((bytes_of m AT_INDEX f ring safe).cell R0 (omega arith)) ∙ ap not is

      same_test : (same : Bool) → (f RINDEX == sum b) ≡ same → not (bit_xor (sum b) (f RINDEX) == 0) ≡ not same
      same_test same is =
          xor_test (sum b) (f RINDEX) (index_byte b (f R6) h.place)
          ((bytes_of m AT_INDEX f ring safe).cell RINDEX (omega arith)) ∙ ap not is

      -- a release with scanning on ends the key's repeat, and goes on to enter the break, if the key has one
      pub release_on : (same only : Bool) → (code_at b (f R6) == 0) ≡ false → m.f0 ≡ true → (f RINDEX == sum b) ≡ same
          → bit (7 - k) (f R0) ≡ only
          → Leads d (kernel_in true bytes) x (begin_at d AT_INDEX f ring m board)
          (Ends d x m board (goal_of only) (time_of only) (Just (ended_cells same) ring))
      release_on true true some on same only =
          leaf d (kernel_in true bytes) (has_rows true bytes hk) small low (Just (ended_cells true) ring)
          (Acc (sum b) ∷ Go false ∷ Go true ∷ Go false ∷ Until SILENT ∷ Run 2 ∷ Acc (2 ^ (7 - k)) ∷ Go false
          ∷ Until ENTERED ∷ []) AT_INDEX ENTERED 25 (ended_cells true) ring x m m
          board f ring safe.0 (λ a. (refl, refl))
          (a_is, (some, (on, (same_test true same, (bit_read, (row_test true only, (refl, refl, refl)))))))
      release_on true false some on same only =
          leaf d (kernel_in true bytes) (has_rows true bytes hk) small low (Just (ended_cells true) ring)
          (Acc (sum b) ∷ Go false ∷ Go true ∷ Go false ∷ Until SILENT ∷ Run 2 ∷ Acc (2 ^ (7 - k))
          ∷ Go true ∷ []) AT_INDEX ENTER2 23 (ended_cells true) ring x m m
          board f ring safe.0 (λ a. (refl, refl))
          (a_is, (some, (on, (same_test true same, (bit_read, (row_test false only, (refl, refl, refl)))))))
      release_on false true some on same only =
          leaf d (kernel_in true bytes) (has_rows true bytes hk) small low (Just (ended_cells false) ring)
          (Acc (sum b) ∷ Go false ∷ Go true ∷ Go true ∷ Until SILENT ∷ Run 2 ∷ Acc (2 ^ (7 - k)) ∷ Go false
          ∷ Until ENTERED ∷ []) AT_INDEX ENTERED 25 (ended_cells false) ring x m m
          board f ring safe.0 (λ a. (refl, refl))
          (a_is, (some, (on, (same_test false same, (bit_read, (row_test true only, (refl, refl, refl)))))))
      release_on false false some on same only =
          leaf d (kernel_in true bytes) (has_rows true bytes hk) small low (Just (ended_cells false) ring)
          (Acc (sum b) ∷ Go false ∷ Go true ∷ Go true ∷ Until SILENT ∷ Run 2 ∷ Acc (2 ^ (7 - k))
          ∷ Go true ∷ []) AT_INDEX ENTER2 23 (ended_cells false) ring x m m
          board f ring safe.0 (λ a. (refl, refl))
          (a_is, (some, (on, (same_test false same, (bit_read, (row_test false only, (refl, refl, refl)))))))
