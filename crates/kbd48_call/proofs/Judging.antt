-- When a piece is a bad one, and when one of many is.
use Rattle.std.proofs.Common.{◌≡◌, ℕ, ◌+◌, ◌<◌, ◌∙◌, Bool, true, false, not, ◌||◌, List, length, get_or, take, ap, refl, sym}
use Rattle.std.proofs.Math.Path.{subst}
use Rattle.std.specs.Str.{IsUtf8, is_utf8}
use Rattle.std.proofs.lemmas.List.Folds.{list_any_at, list_any_more}
use Rattle.std.proofs.lemmas.Str.{IsUtf8-from_is_utf8, is_utf8-from_IsUtf8}
use Rattle.kbd48_call.specs.declared.pieces.Named.{Named}
use Rattle.kbd48_call.specs.declared.pieces.Piece.{Piece}
use Rattle.kbd48_call.specs.Pieces.{has_bad_file, has_bad_word, is_bad_file, is_bad_text, is_outside, piece_in}

false_unless : (b : Bool) → ¬ (b ≡ true) → b ≡ false
false_unless true never = absurd (never refl)
false_unless false never = refl

-- a piece within the bytes that is UTF-8
pub good_text : (bytes : List ℕ) (p : Piece) (text : List ℕ) → text ≡ piece_in bytes p → is_outside bytes p ≡ false
    → IsUtf8 text → is_bad_text bytes p ≡ false
good_text bytes p text same within utf8 =
    ap (λ b. b || not (is_utf8 (piece_in bytes p))) within
    ∙ ap not (is_utf8-from_IsUtf8 (piece_in bytes p) (subst (λ it. IsUtf8 it) same utf8))

-- one that isn't
pub bad_text : (bytes : List ℕ) (p : Piece) (text : List ℕ) → text ≡ piece_in bytes p → is_outside bytes p ≡ false
    → ¬ (IsUtf8 text) → is_bad_text bytes p ≡ true
bad_text bytes p text same within never =
    ap (λ b. b || not (is_utf8 (piece_in bytes p))) within
    ∙ ap not (false_unless (is_utf8 (piece_in bytes p))
    (λ utf8. never (subst (λ it. IsUtf8 it) (sym same) (IsUtf8-from_is_utf8 (piece_in bytes p) utf8))))

-- a piece within the bytes that is UTF-8 is no bad one
pub good_piece : (bytes : List ℕ) (p : Piece) (text : List ℕ) → text ≡ piece_in bytes p → is_outside bytes p ≡ false
    → IsUtf8 text → false ≡ is_bad_text bytes p
good_piece bytes p text same within utf8 = sym (good_text bytes p text same within utf8)

-- a piece within the bytes that is no UTF-8 is a bad one
pub bad_piece : (bytes : List ℕ) (p : Piece) (text : List ℕ) → text ≡ piece_in bytes p → is_outside bytes p ≡ false
    → ¬ (IsUtf8 text) → true ≡ is_bad_text bytes p
bad_piece bytes p text same within never = sym (bad_text bytes p text same within never)

-- one more good word
pub more_words : (bytes : List ℕ) (words : List Piece) (i : ℕ) (d : Piece) → i < length words
    → has_bad_word bytes (take i words) ≡ false → is_bad_text bytes (get_or words i d) ≡ false
    → has_bad_word bytes (take (i + 1) words) ≡ false
more_words bytes words i d within before here =
    list_any_more (is_bad_text bytes) words i d within ∙ ap (λ b. b || is_bad_text bytes (get_or words i d)) before ∙ here

-- one bad word
pub bad_word : (bytes : List ℕ) (words : List Piece) (i : ℕ) (d : Piece) → i < length words
    → is_bad_text bytes (get_or words i d) ≡ true → has_bad_word bytes words ≡ true
bad_word bytes words i d within here = list_any_at (is_bad_text bytes) words i d within here

-- one more good file
pub more_files : (bytes : List ℕ) (files : List Named) (i : ℕ) (d : Named) → i < length files
    → has_bad_file bytes (take i files) ≡ false → is_bad_file bytes (get_or files i d) ≡ false
    → has_bad_file bytes (take (i + 1) files) ≡ false
more_files bytes files i d within before here =
    list_any_more (is_bad_file bytes) files i d within ∙ ap (λ b. b || is_bad_file bytes (get_or files i d)) before ∙ here

-- one bad file
pub bad_file : (bytes : List ℕ) (files : List Named) (i : ℕ) (d : Named) → i < length files
    → is_bad_file bytes (get_or files i d) ≡ true → has_bad_file bytes files ≡ true
bad_file bytes files i d within here = list_any_at (is_bad_file bytes) files i d within here
