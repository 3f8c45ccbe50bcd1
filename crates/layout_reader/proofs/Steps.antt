-- The reading of a document, step by step.
use Rattle.std.proofs.Common.{◌≡◌, ℕ, ◌+◌, true, false, cond, List, [], ◌∷◌, ◌++◌, drop, Some, None, Ok, Err, refl}
use Rattle.std.specs.Prelude.{IsUtf8, Result, is_ok, is_err}
use Rattle.std.specs.Str.{is_utf8}
use Rattle.std.proofs.lemmas.Str.{is_utf8-from_IsUtf8, IsUtf8-from_is_utf8}
use Rattle.toml.specs.declared.value.Value.{Value}
use Rattle.toml.specs.Data.{Members}
use Rattle.toml.specs.Parse.{parse_document}
use Rattle.toml.specs.View.{view, items_view}
use Rattle.layout_reader.specs.declared.entry.Entry.{Entry}
use Rattle.layout_reader.specs.declared.fields.Format.{Format}
use Rattle.layout_reader.specs.declared.cause.Cause.TheVariants.{NotToml}
use Rattle.layout_reader.specs.Faults.{number_of}
use Rattle.layout_reader.specs.Entries.{entry_from}
use Rattle.layout_reader.specs.Documents.{entries_from, layout_of, tree_of, layout_of_document}

-- an element that gives an entry, and the elements after it
pub entries_step : (format : Format) (earlier : List Entry) (elements rest : List Value) (i : ℕ) (element : Value) (entry : Entry)
    → drop i elements ≡ element ∷ rest → entry_from format earlier (view element) ≡ Ok entry
    → entries_from format earlier (items_view (drop i elements)) ≡ entries_from format (earlier ++ entry ∷ []) (items_view rest)
entries_step format earlier elements rest i element entry here gives = rw (here, gives) refl

-- bytes that `toml` reads
pub document_read : (bytes : List ℕ) (top : Members) → IsUtf8 bytes → parse_document bytes ≡ Some top
    → layout_of_document bytes ≡ layout_of top
unfolding layout_of_document tree_of
document_read bytes top text reads = rw (is_utf8-from_IsUtf8 bytes text, reads) refl

tree_refused : (bytes : List ℕ) → (IsUtf8 bytes → parse_document bytes ≡ None) → tree_of bytes ≡ None
unfolding tree_of
tree_refused bytes refused =
    elim (is_utf8 bytes) as (λ b. is_utf8 bytes ≡ b → cond b (parse_document bytes) None ≡ None) [
      | true ↦ λ e. refused (IsUtf8-from_is_utf8 bytes e)
      | false ↦ λ e. refl
    ] refl

-- bytes that it refuses
pub document_refused : (bytes : List ℕ) → (IsUtf8 bytes → parse_document bytes ≡ None)
    → layout_of_document bytes ≡ Err (record { entry = 0; number = number_of NotToml })
unfolding layout_of_document
document_refused bytes refused = rw (tree_refused bytes refused) refl

-- a result that isn't an error is a success
pub ok_unless_err : {T E : Type 0} (r : Result T E) → is_err r ≡ false → is_ok r ≡ true
ok_unless_err (Ok x) h = refl
ok_unless_err (Err e) h = absurd cc
