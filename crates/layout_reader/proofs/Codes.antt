-- The codes of a layout are those of keys: from 1 to 132.
use Rattle.std.proofs.Common.{◌≡◌, ℕ, suc, ◌<◌, Bool, true, false, cond, ◌==◌, List, [], ◌∷◌, option_map, unwrap_or}
use Rattle.std.proofs.Common.{Some, None, find, refl, arith}
use Rattle.std.specs.Prelude.{All, Option, IfSome, is_none, option_and_then}
use Rattle.std.proofs.lemmas.Bool.Decides.{nat_tests}
use Rattle.pc_tables.specs.Keys.{code_at as code_of_key}
use Rattle.pc_tables.proofs.KeyLaws.{code-range, code-some}
use Rattle.layout_reader.specs.declared.entry.Entry.{Entry}
use Rattle.layout_reader.specs.Entries.{IsEntry, is_fn}
use Rattle.layout_reader.specs.Layouts.{KeyLayout, IsKeyLayout, entry_at, base_key, fn_key, code_at, fn_code_at, fn_place}

abbrev IsCodeByte : ℕ → Type 0
IsCodeByte code = (0 < code) × (code < 133)

-- of what each entry sends
module _ (sent : Entry → Option ℕ) (keys : (e : Entry) → IsEntry e → IfSome (sent e) (λ k. k < 84)) where
  of_entry : (o : Option ℕ) → IfSome o (λ k. k < 84) → IfSome (option_map code_of_key o) IsCodeByte
  of_entry (Some k) l = (code-some k (code_of_key k) l refl, code-range k (code_of_key k) l refl)
  of_entry None l = l

  among : (es : List Entry) (p : ℕ) → All IsEntry es
      → IfSome (option_map code_of_key (option_and_then sent (entry_at p es))) IsCodeByte
  among [] p each = tt
  among (e ∷ es) p each =
      at (e.place == p) (among es p (λ k d l. each (suc k) d (omega (arith, l)))) (of_entry (sent e) (keys e (each 0 e (omega arith))))
    where
      at : (a : Bool) → IfSome (option_map code_of_key (option_and_then sent (entry_at p es))) IsCodeByte
          → IfSome (option_map code_of_key (sent e)) IsCodeByte
          → IfSome (option_map code_of_key (option_and_then sent (cond a (Some e) (entry_at p es)))) IsCodeByte
      at true more own = own
      at false more own = more

small : (o : Option ℕ) → IfSome o IsCodeByte → unwrap_or o 0 < 133
small (Some code) c = c.1
small None c = omega arith

zero_is : (o : Option ℕ) → IfSome o IsCodeByte → (unwrap_or o 0 == 0) ≡ is_none o
zero_is (Some code) c = let some : 0 < code = c.0 in grind (arith, nat_tests, some)
zero_is None c = refl

-- the byte for a place, in each layer: a code, or 00 exactly where there is none
pub record AreCodes (layout : KeyLayout) (place : ℕ) : Type 0 where
  pub base : unwrap_or (code_at place layout) 0 < 133
  pub base_none : (unwrap_or (code_at place layout) 0 == 0) ≡ is_none (code_at place layout)
  pub under_fn : unwrap_or (fn_code_at place layout) 0 < 133
  pub under_fn_none : (unwrap_or (fn_code_at place layout) 0 == 0) ≡ is_none (fn_code_at place layout)

-- in each layer a place of a layout has a code below 133, or 00 exactly if it sends nothing
pub are_codes : (layout : KeyLayout) (place : ℕ) → IsKeyLayout layout → AreCodes layout place
unfolding code_at fn_code_at
are_codes layout place is =
    let base = among base_key (λ e own. own.sends) layout.entries place is.entries.each in
    let under = among fn_key (λ e own. own.fn_sends) layout.entries place is.entries.each in
    record { base = small _ base; base_none = zero_is _ base; under_fn = small _ under; under_fn_none = zero_is _ under }

-- the Fn key's place is one of the matrix's
fn_among : (es : List Entry) → All IsEntry es → IfSome (option_map (λ (e : Entry). e.place) (find is_fn es)) (λ p. p < 96)
fn_among [] each = tt
fn_among (e ∷ es) each =
    at (is_fn e) (fn_among es (λ k d l. each (suc k) d (omega (arith, l)))) (each 0 e (omega arith))
  where
    at : (a : Bool) → IfSome (option_map (λ (x : Entry). x.place) (find is_fn es)) (λ p. p < 96) → IsEntry e
        → IfSome (option_map (λ (x : Entry). x.place) (cond a (Some e) (find is_fn es))) (λ p. p < 96)
    at true more own = own.place
    at false more own = more

-- the place of a layout's Fn key is in the matrix
pub fn_place_within : (layout : KeyLayout) → IsKeyLayout layout → IfSome (fn_place layout) (λ p. p < 96)
unfolding fn_place
fn_place_within layout is = fn_among layout.entries is.entries.each
