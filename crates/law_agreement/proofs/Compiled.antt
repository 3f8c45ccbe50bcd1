-- The image of a layout: it holds the kernel, its bytes are bytes, and its keys are the layout's.
use Rattle.std.proofs.Common.{◌≡◌, ◌<◌, ℕ, ◌==◌, Bool, true, false, All, slice_index, ap, sym, ◌∙◌, arith}
use Rattle.std.proofs.lemmas.Bool.Decides.{nat_tests}
use Rattle.fw_compile.proofs.Kernel as image
use Rattle.fw_compile.proofs.Keys as keys
use Rattle.fw_compile.specs.Image.{code_byte, fn_code_byte, image_of}
use Rattle.fw_kernel.specs.Places.{HasKernel}
use Rattle.fw_kernel.specs.Tables.{rate_at}
use Rattle.law_fw_keys.proofs.Bare.{small_kernel}
use Rattle.law_fw_keys.proofs.Carried.{SameKeys}
use Rattle.law_fw_keys.proofs.Kept.{NoPrefix}
use Rattle.law_fw_keys.specs.Edges.{image_keys, IsSilentAlike}
use Rattle.mcs48_ranges.specs.Sizes.{IsByte}
use Rattle.model_keyboard.proofs.Alike.{with_fn}
use Rattle.model_keyboard.specs.Codes.{Keys, keys_of}
use Rattle.layout_reader.specs.Layouts.{KeyLayout, IsKeyLayout, HasEntry, is_fn_place}

-- the layout's keys as the kernel knows them: the Fn key is at each place without a code
abbrev pub is_silent : KeyLayout → ℕ → Bool
is_silent layout place = code_byte layout place == 0

abbrev pub silent_keys : KeyLayout → Keys
silent_keys layout = with_fn (keys_of layout) (is_silent layout)

-- of the layout's own places that is the Fn key's
pub silent_at_fn : (layout : KeyLayout) (place : ℕ) → IsKeyLayout layout → HasEntry layout place
    → is_silent layout place ≡ is_fn_place layout place
silent_at_fn layout place is has = keys.silent_at_fn layout is place has

-- the image has the kernel's bytes outside the tables
pub has_kernel : (layout : KeyLayout) → HasKernel (image_of layout)
has_kernel layout = image.has_kernel layout

-- what is after the codes is the layout's rate
pub has_rate : (layout : KeyLayout) → slice_index (image_of layout) rate_at ≡ layout.rate
has_rate layout = image.rate_read layout

-- a place has codes in both layers or in none
pub is_alike : (layout : KeyLayout) → IsKeyLayout layout → IsSilentAlike (image_of layout)
is_alike layout is place l =
    ap (λ c. c == 0) (image.fn_code_read layout place l) ∙ keys.silent_alike layout is place
    ∙ sym (ap (λ c. c == 0) (image.code_read layout place l))

-- the image's bytes are bytes
pub are_bytes : (layout : KeyLayout) → IsKeyLayout layout → All IsByte (image_of layout)
are_bytes layout is = keys.are_small layout is small_kernel

-- the image's keys are those of the layout
pub same_keys : (layout : KeyLayout) → SameKeys (image_keys (image_of layout)) (silent_keys layout)
same_keys layout = record {
  rate = has_rate layout;
  code = codes;
  make_only = keys.make_only_there layout;
  is_fn = λ p l. ap (λ c. c == 0) (image.code_read layout p l);
}
  where
    codes : (on_fn : Bool) (p : ℕ) → p < 96
        → (image_keys (image_of layout)).code on_fn p ≡ (silent_keys layout).code on_fn p
    codes true p l = image.fn_code_read layout p l
    codes false p l = image.code_read layout p l

-- no place of the layout has F0 as its code
pub no_prefix : (layout : KeyLayout) → IsKeyLayout layout → NoPrefix (silent_keys layout)
no_prefix layout is true p l =
    let below : fn_code_byte layout p < 133 = keys.fn_code_below layout is p in grind (arith, nat_tests, below)
no_prefix layout is false p l =
    let below : code_byte layout p < 133 = keys.code_below layout is p in grind (arith, nat_tests, below)
