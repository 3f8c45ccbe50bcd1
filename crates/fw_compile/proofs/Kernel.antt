-- A layout's image has the kernel's bytes outside the tables, and in them what the layout says.
use Rattle.std.proofs.Common.{◌≡◌, ◌≤◌, ◌<◌, ℕ, ◌+◌, ◌*◌, List, [], ◌∷◌, Bool, true, false, ◌&&◌, ◌||◌, ◌==◌, leb, ltb}
use Rattle.std.proofs.Common.{refl, ap, sym, ◌∙◌, arith, length, slice_index}
use Rattle.std.proofs.lemmas.Bool.Decides.{nat_tests}
use Rattle.std.proofs.lemmas.List.FromFn.{get_or-map-range_with_len, length-map-range_with_len}
use Rattle.bits.specs.Bits.{bit}
use Rattle.fw_kernel.specs.declared.bytes.TheConstants.{KERNEL}
use Rattle.fw_kernel.specs.Places.{HasKernel}
use Rattle.fw_kernel.specs.Tables.{codes_at, rate_at, fn_codes_at, make_only_at, fn_place_at, debounce_at}
use Rattle.layout_reader.specs.Layouts.{KeyLayout, is_make_only}
use Rattle.fw_compile.specs.Image.{code_byte, codes_of, fn_code_byte, fn_codes_of, make_only_byte, make_only_of, fn_byte}
use Rattle.fw_compile.specs.Image.{with_table, image_of, debounce_byte}
use Rattle.fw_compile.proofs.Bits.{bits_read}
use Rattle.fw_compile.proofs.Tables.{length_with, in_table, below_table, above_table}

module _ (layout : KeyLayout) where
  codes_long : length (codes_of layout) ≡ 96
  codes_long = length-map-range_with_len (code_byte layout) 0 96

  fn_codes_long : length (fn_codes_of layout) ≡ 96
  fn_codes_long = length-map-range_with_len (fn_code_byte layout) 0 96

  make_only_long : length (make_only_of layout) ≡ 12
  make_only_long = length-map-range_with_len (make_only_byte layout) 0 12

  -- the kernel with one table more
  abbrev pub one : List ℕ
  one = with_table codes_at (codes_of layout) KERNEL

  abbrev pub two : List ℕ
  two = with_table rate_at (layout.rate ∷ []) one

  abbrev pub three : List ℕ
  three = with_table fn_codes_at (fn_codes_of layout) two

  abbrev pub four : List ℕ
  four = with_table make_only_at (make_only_of layout) three

  abbrev pub five : List ℕ
  five = with_table fn_place_at (fn_byte layout ∷ []) four

  -- each table ends within the bytes
  fits1 : codes_at + length (codes_of layout) ≤ length KERNEL
  fits1 = omega (arith, codes_long)

  long1 : length one ≡ 2048
  long1 = length_with codes_at (codes_of layout) KERNEL fits1

  fits2 : rate_at + 1 ≤ length one
  fits2 = omega (arith, long1)

  long2 : length two ≡ 2048
  long2 = length_with rate_at (layout.rate ∷ []) one fits2 ∙ long1

  fits3 : fn_codes_at + length (fn_codes_of layout) ≤ length two
  fits3 = omega (arith, fn_codes_long, long2)

  long3 : length three ≡ 2048
  long3 = length_with fn_codes_at (fn_codes_of layout) two fits3 ∙ long2

  fits4 : make_only_at + length (make_only_of layout) ≤ length three
  fits4 = omega (arith, make_only_long, long3)

  long4 : length four ≡ 2048
  long4 = length_with make_only_at (make_only_of layout) three fits4 ∙ long3

  fits5 : fn_place_at + 1 ≤ length four
  fits5 = omega (arith, long4)

  long5 : length five ≡ 2048
  long5 = length_with fn_place_at (fn_byte layout ∷ []) four fits5 ∙ long4

  fits6 : debounce_at + 1 ≤ length five
  fits6 = omega (arith, long5)

  -- from the image down to the kernel with the tables before a place, or after one
  past_debounce : (p : ℕ) → p < 1010 → slice_index (image_of layout) p ≡ slice_index five p
  past_debounce p l = below_table debounce_at (debounce_byte layout ∷ []) five fits6 p l

  past_fn_place : (p : ℕ) → p < 973 → slice_index (image_of layout) p ≡ slice_index four p
  past_fn_place p l =
      past_debounce p (omega (arith, l)) ∙ below_table fn_place_at (fn_byte layout ∷ []) four fits5 p l

  past_make_only : (p : ℕ) → p < 961 → slice_index (image_of layout) p ≡ slice_index three p
  past_make_only p l =
      past_fn_place p (omega (arith, l)) ∙ below_table make_only_at (make_only_of layout) three fits4 p l

  past_fn_codes : (p : ℕ) → p < 865 → slice_index (image_of layout) p ≡ slice_index two p
  past_fn_codes p l =
      past_make_only p (omega (arith, l)) ∙ below_table fn_codes_at (fn_codes_of layout) two fits3 p l

  past_rate : (p : ℕ) → p < 864 → slice_index (image_of layout) p ≡ slice_index one p
  past_rate p l = past_fn_codes p (omega (arith, l)) ∙ below_table rate_at (layout.rate ∷ []) one fits2 p l

  -- outside the tables
  below : (p : ℕ) → p < 768 → slice_index (image_of layout) p ≡ slice_index KERNEL p
  below p l = past_rate p (omega (arith, l)) ∙ below_table codes_at (codes_of layout) KERNEL fits1 p l

  -- from the place after the Fn key's on
  past_all : (p : ℕ) → 974 ≤ p → slice_index five p ≡ slice_index KERNEL p
  past_all p l =
      above_table fn_place_at (fn_byte layout ∷ []) four fits5 p l
      ∙ above_table make_only_at (make_only_of layout) three fits4 p (omega (arith, l, make_only_long))
      ∙ above_table fn_codes_at (fn_codes_of layout) two fits3 p (omega (arith, l, fn_codes_long))
      ∙ above_table rate_at (layout.rate ∷ []) one fits2 p (omega (arith, l))
      ∙ above_table codes_at (codes_of layout) KERNEL fits1 p (omega (arith, l, codes_long))

  above : (p : ℕ) → 974 ≤ p → (p == 1010) ≡ false → slice_index (image_of layout) p ≡ slice_index KERNEL p
  above p l not_it = pick (ltb p 1010) refl
    where
      pick : (b : Bool) → ltb p 1010 ≡ b → slice_index (image_of layout) p ≡ slice_index KERNEL p
      pick true h = past_debounce p (grind (arith, nat_tests, h)) ∙ past_all p l
      pick false h =
          above_table debounce_at (debounce_byte layout ∷ []) five fits6 p (grind (arith, nat_tests, h, not_it))
          ∙ past_all p l

  neither : (b c : Bool) → (b || c) ≡ false → (b ≡ false) × (c ≡ false)
  neither false c h = (refl, h)
  neither true c h = absurd cc

  -- a layout's image has the kernel's bytes outside the tables
  pub has_kernel : HasKernel (image_of layout)
  has_kernel p out = pick (leb 768 p) refl
    where
      outside : ((leb 768 p && ltb p 974) ≡ false) × ((p == 1010) ≡ false)
      outside = neither (leb 768 p && ltb p 974) (p == 1010) out

      pick : (b : Bool) → leb 768 p ≡ b → slice_index (image_of layout) p ≡ slice_index KERNEL p
      pick false h = below p (grind (arith, nat_tests, h))
      pick true h =
          let past : ltb p 974 ≡ false = ap (λ b. b && ltb p 974) (sym h) ∙ outside.0 in
          above p (grind (arith, nat_tests, past)) outside.1

  -- what is read at a place's number, in the one layer and in the other
  pub code_read : (place : ℕ) → place < 96 → slice_index (image_of layout) (codes_at + place) ≡ code_byte layout place
  code_read place l =
      past_rate (768 + place) (omega (arith, l))
      ∙ in_table codes_at (codes_of layout) KERNEL fits1 place (omega (arith, l, codes_long))
      ∙ get_or-map-range_with_len (code_byte layout) 0 96 place place 0 l (omega arith)

  -- the table of codes under Fn has the layout's code of each place
  pub fn_code_read : (place : ℕ) → place < 96
      → slice_index (image_of layout) (fn_codes_at + place) ≡ fn_code_byte layout place
  fn_code_read place l =
      past_make_only (865 + place) (omega (arith, l))
      ∙ in_table fn_codes_at (fn_codes_of layout) two fits3 place (omega (arith, l, fn_codes_long))
      ∙ get_or-map-range_with_len (fn_code_byte layout) 0 96 place place 0 l (omega arith)

  -- the image has the layout's rate in its place
  pub rate_read : slice_index (image_of layout) rate_at ≡ layout.rate
  rate_read = past_fn_codes 864 (omega arith) ∙ in_table rate_at (layout.rate ∷ []) one fits2 0 (omega arith)

  -- the bit of a key that sends no break
  pub make_only_read : (column row : ℕ) → column < 12 → row < 8
      → bit row (slice_index (image_of layout) (make_only_at + column)) ≡ is_make_only (8 * column + row) layout
  make_only_read column row c r =
      let byte : slice_index (image_of layout) (make_only_at + column) ≡ make_only_byte layout column =
      past_fn_place (961 + column) (omega (arith, c))
      ∙ in_table make_only_at (make_only_of layout) three fits4 column (omega (arith, c, make_only_long))
      ∙ get_or-map-range_with_len (make_only_byte layout) 0 12 column column 0 c (omega arith) in
      ap (bit row) byte ∙ bits_read (λ k. is_make_only (8 * column + k) layout) row r

  -- the place of the Fn key
  pub fn_place_read : slice_index (image_of layout) fn_place_at ≡ fn_byte layout
  fn_place_read = past_debounce 973 (omega arith) ∙ in_table fn_place_at (fn_byte layout ∷ []) four fits5 0 (omega arith)

  -- whether keys are debounced
  pub debounce_read : slice_index (image_of layout) debounce_at ≡ debounce_byte layout
  debounce_read = in_table debounce_at (debounce_byte layout ∷ []) five fits6 0 (omega arith)
