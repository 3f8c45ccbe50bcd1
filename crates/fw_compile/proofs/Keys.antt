-- What the image of a layout says of its keys, and that its bytes are bytes.
use Rattle.std.proofs.Common.{◌≡◌, ℕ, ◌+◌, ◌*◌, ◌/◌, ◌%◌, ◌<◌, ◌==◌, ◌++◌, List, [], ◌∷◌, All, get_or, take, drop, length, slice_index}
use Rattle.std.proofs.Common.{Some, None, unwrap_or, Bool, true, false, if◌then◌else◌, ap, sym, ◌∙◌, arith}
use Rattle.std.specs.Prelude.{Option, IfSome}
use Rattle.std.specs.List.{range_with_len}
use Rattle.std.proofs.lemmas.List.Elements.{All-append, All-cons, All-nil, All-drop, All-map, All-take}
use Rattle.bits.specs.Bits.{bit}
use Rattle.fw_kernel.specs.declared.bytes.TheConstants.{KERNEL}
use Rattle.fw_kernel.specs.Tables.{codes_at, rate_at, fn_codes_at, make_only_at, fn_place_at, debounce_at}
use Rattle.layout_reader.specs.Layouts.{KeyLayout, IsKeyLayout, HasEntry, fn_place, is_fn_place, is_make_only}
use Rattle.layout_reader.proofs.Codes.{are_codes, fn_place_within}
use Rattle.layout_reader.proofs.FnKey.{is_silent_at_fn}
use Rattle.fw_compile.specs.Image.{code_byte, codes_of, fn_code_byte, fn_codes_of, make_only_byte, make_only_of, fn_byte}
use Rattle.fw_compile.specs.Image.{with_table, image_of, debounce_byte}
use Rattle.fw_compile.proofs.Bits.{bits_small}
use Rattle.fw_compile.proofs.Kernel.{one, two, three, four, five, make_only_read}

-- the bit of a place, by its column and row
pub make_only_there : (layout : KeyLayout) (place : ℕ) → place < 96
    → bit (place % 8) (slice_index (image_of layout) (make_only_at + place / 8)) ≡ is_make_only place layout
make_only_there layout place l =
    let own : 8 * (place / 8) + place % 8 ≡ place = omega arith in
    make_only_read layout (place / 8) (place % 8) (omega (arith, l)) (omega arith) ∙ ap (λ p. is_make_only p layout) own

module _ (layout : KeyLayout) (is : IsKeyLayout layout) where
  -- a place without a code has none in either layer; of the layout's places it is the Fn key's
  pub silent_alike : (place : ℕ) → (fn_code_byte layout place == 0) ≡ (code_byte layout place == 0)
  silent_alike place =
      let codes = are_codes layout place is in
      codes.under_fn_none ∙ (is_silent_at_fn layout is).under_fn place ∙ sym codes.base_none

  -- a place with an entry has no code exactly if it is the Fn key's
  pub silent_at_fn : (place : ℕ) → HasEntry layout place → (code_byte layout place == 0) ≡ is_fn_place layout place
  silent_at_fn place has = (are_codes layout place is).base_none ∙ (is_silent_at_fn layout is).base place has

  -- the codes are below F0
  pub code_below : (place : ℕ) → code_byte layout place < 133
  code_below place = (are_codes layout place is).base

  -- a code under Fn is below 133
  pub fn_code_below : (place : ℕ) → fn_code_byte layout place < 133
  fn_code_below place = (are_codes layout place is).under_fn

abbrev IsSmall : ℕ → Type 0
IsSmall byte = byte < 256

-- a table of bytes put into bytes
small_with : (at : ℕ) (table bytes : List ℕ) → All IsSmall table → All IsSmall bytes → All IsSmall (with_table at table bytes)
small_with at table bytes t b =
    All-append IsSmall (take at bytes ++ table) (drop (at + length table) bytes)
    (All-append IsSmall (take at bytes) table (All-take IsSmall at bytes b) t) (All-drop IsSmall (at + length table) bytes b)

one_byte : (byte : ℕ) → byte < 256 → All IsSmall (byte ∷ [])
one_byte byte l = All-cons IsSmall byte [] l (All-nil IsSmall)

fn_small : (o : Option ℕ) → IfSome o (λ p. p < 96) → unwrap_or o 0xff < 256
fn_small (Some p) l = omega (arith, l)
fn_small None l = omega arith

debounce_small : (b : Bool) → (if b then 1 else 0) < 256
debounce_small true = omega arith
debounce_small false = omega arith

-- so the image's bytes are bytes, where the kernel's are
pub are_small : (layout : KeyLayout) → IsKeyLayout layout → All IsSmall KERNEL → All IsSmall (image_of layout)
are_small layout is kernel =
    let codes : All IsSmall (codes_of layout) =
    All-map IsSmall (code_byte layout) (range_with_len 0 96)
    (λ k d l. let below = code_below layout is (get_or (range_with_len 0 96) k d) in omega (arith, below)) in
    let fn_codes : All IsSmall (fn_codes_of layout) =
    All-map IsSmall (fn_code_byte layout) (range_with_len 0 96)
    (λ k d l. let below = fn_code_below layout is (get_or (range_with_len 0 96) k d) in omega (arith, below)) in
    let make_only : All IsSmall (make_only_of layout) =
    All-map IsSmall (make_only_byte layout) (range_with_len 0 12)
    (λ k d l. bits_small (λ row. is_make_only (8 * get_or (range_with_len 0 12) k d + row) layout) 8) in
    let rate : layout.rate < 256 = omega (arith, is.rate) in
    small_with debounce_at (debounce_byte layout ∷ []) (five layout)
    (one_byte (debounce_byte layout) (debounce_small layout.debounce))
    (small_with fn_place_at (fn_byte layout ∷ []) (four layout)
    (one_byte (fn_byte layout) (fn_small (fn_place layout) (fn_place_within layout is)))
    (small_with make_only_at (make_only_of layout) (three layout) make_only
    (small_with fn_codes_at (fn_codes_of layout) (two layout) fn_codes
    (small_with rate_at (layout.rate ∷ []) (one layout) (one_byte layout.rate rate)
    (small_with codes_at (codes_of layout) KERNEL codes kernel)))))
