-- Bytes that are text, and bytes that are none.
use Rattle.std.proofs.Common.{◌≡◌, ℕ, Bool, true, false, List, Err, refl}
use Rattle.std.specs.Str.{IsUtf8, is_utf8}
use Rattle.std.proofs.lemmas.Str.{IsUtf8-from_is_utf8, is_utf8-from_IsUtf8}
use Rattle.layout_reader.specs.Documents.{layout_of_document, tree_of}
use Rattle.kbd48_c.specs.Names.{HasFault}

-- bytes that are UTF-8 pass the test
pub readable : (text : List ℕ) → IsUtf8 text → is_utf8 text ≡ true
readable text utf8 = is_utf8-from_IsUtf8 text utf8

false_unless : (b : Bool) → ¬ (b ≡ true) → b ≡ false
false_unless true never = absurd (never refl)
false_unless false never = refl

-- bytes that aren't fail it
pub garbled : (text : List ℕ) → ¬ (IsUtf8 text) → is_utf8 text ≡ false
garbled text never = false_unless (is_utf8 text) (λ utf8. never (IsUtf8-from_is_utf8 text utf8))

-- bytes that are no UTF-8 are no layout: the document as a whole breaks the first rule
pub no_layout : (text : List ℕ) → is_utf8 text ≡ false → layout_of_document text ≡ Err (record { entry = 0; number = 1 })
unfolding layout_of_document tree_of
no_layout text bad = rw bad refl

-- so they have a fault
pub has_fault : (text : List ℕ) → is_utf8 text ≡ false → HasFault text
has_fault text bad = (record { entry = 0; number = 1 }, no_layout text bad)
