-- The Fn key follows the keys that are held, through the edges of a tick.
use Rattle.std.proofs.Common.{◌≡◌, ◌≢◌, ◌<◌, ℕ, ◌==◌, Bool, true, false, if◌then◌else◌, List, [], ◌∷◌, length}
use Rattle.std.proofs.Common.{slice_index, slice_index_or, slice_set, unwrap_or, Some, None, refl, ap, sym, ◌∙◌, arith}
use Rattle.std.specs.declared.option.Option.{Option}
use Rattle.std.proofs.lemmas.Bool.{eqb-true}
use Rattle.std.proofs.lemmas.Bool.Decides.{nat_tests}
use Rattle.std.proofs.lemmas.List.{get_or-set_same, get_or-set_other, length-set}
use Rattle.fw_compile.proofs.Kernel.{fn_place_read}
use Rattle.fw_compile.specs.Image.{image_of}
use Rattle.fw_kernel.specs.Tables.{fn_place_at}
use Rattle.law_fw_keys.proofs.Carried.{low_edges}
use Rattle.law_fw_keys.proofs.Fold.{turned_all}
use Rattle.model_keyboard.specs.Layers.{Layers, all_layers_after, layers_after}
use Rattle.layout_reader.specs.Layouts.{KeyLayout, fn_place, is_fn_place, is_place}

-- a byte gives the place of the layout's Fn key, if there is one
abbrev pub IsFnPlaceOf : KeyLayout → ℕ → Type 0
IsFnPlaceOf layout byte = (p : ℕ) → p < 96 → is_fn_place layout p ≡ (p == byte)

-- that of the image does
by_place : (o : Option ℕ) (p : ℕ) → p < 96 → is_place o p ≡ (p == unwrap_or o 0xff)
by_place None p l =
    let e : (p == 255) ≡ false = grind (arith, nat_tests, l) in sym e
by_place (Some own) p l = by (own == p) refl
  where
    by : (b : Bool) → (own == p) ≡ b → (own == p) ≡ (p == own)
    by true e = let same : own ≡ p = eqb-true own p e in let f : (p == own) ≡ true = grind (arith, nat_tests, same) in e ∙ sym f
    by false e = let f : (p == own) ≡ false = grind (arith, nat_tests, e) in e ∙ sym f

-- the image has the place of the layout's Fn key
pub image_fn : (layout : KeyLayout) → IsFnPlaceOf layout (slice_index (image_of layout) fn_place_at)
image_fn layout p l = by_place (fn_place layout) p l ∙ ap (λ b. p == b) (sym (fn_place_read layout))

-- an edge at a place of the matrix
one : (is_fn : ℕ → Bool) (byte : ℕ) (held : List Bool) (fn : Bool) (at : ℕ) (down : Bool) → length held ≡ 96 → at < 96
    → is_fn at ≡ (at == byte) → fn ≡ slice_index_or held byte false → (b : Bool) → (at == byte) ≡ b
    → (if is_fn at then down else fn) ≡ slice_index_or (slice_set held at down) byte false
one is_fn byte held fn at down long l own is true e =
    let same : at ≡ byte = eqb-true at byte e in
    ap (λ b. if b then down else fn) (own ∙ e) ∙ sym (get_or-set_same held at down false (omega (arith, long, l)))
    ∙ ap (λ k. slice_index_or (slice_set held at down) k false) same
one is_fn byte held fn at down long l own is false e =
    let apart : byte ≢ at = grind (arith, nat_tests, e) in
    ap (λ b. if b then down else fn) (own ∙ e) ∙ is ∙ sym (get_or-set_other held at byte down false apart)

-- after a tick's edges Fn is down exactly if its key is held, if it was so before them
pub fn_follows : (is_fn : ℕ → Bool) (byte : ℕ) → ((p : ℕ) → p < 96 → is_fn p ≡ (p == byte)) → (es : List (ℕ × Bool))
    (l : Layers) (held : List Bool) → length held ≡ 96 → low_edges es → l.fn_down ≡ slice_index_or held byte false
    → (all_layers_after is_fn es l).fn_down ≡ slice_index_or (turned_all es held) byte false
fn_follows is_fn byte own [] l held long low is = is
fn_follows is_fn byte own (e ∷ es) l held long low is =
    fn_follows is_fn byte own es (layers_after is_fn e l) (slice_set held e.0 e.1) (length-set held e.0 e.1 ∙ long) low.1
    (one is_fn byte held l.fn_down e.0 e.1 long low.0 (own e.0 low.0) is (e.0 == byte) refl)
