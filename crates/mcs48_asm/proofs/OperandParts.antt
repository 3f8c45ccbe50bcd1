-- The operands of a text, by its parts between commas.
use Rattle.std.proofs.Common.{◌≡◌, ℕ, List, [], ◌∷◌, map, None, ap, sym, ◌∙◌}
use Rattle.std.specs.List.{slice_split}
use Rattle.mcs48_isa.specs.Instructions.{Operand}
use Rattle.mcs48_asm.specs.declared.flaw.Flaw.TheVariants.{Syntax}
use Rattle.mcs48_asm.specs.Characters.{is_comma, is_colon}
use Rattle.mcs48_asm.specs.Tokens.{tokens_of}
use Rattle.mcs48_asm.specs.Rows.{both, read, read_parts, read_all}
use Rattle.mcs48_asm.specs.Statements.{flawed, line_of_parts}
use Rattle.mcs48_asm.proofs.Commas.{parts-tokens}
use Rattle.text_lines.proofs.FirstLine.{split-is_cons}

by-parts : (operand : Operand) (operands : List Operand) (text : List ℕ) (parts : List (List ℕ)) → slice_split is_comma text ≡ parts
    → read_parts (operand ∷ operands) (map tokens_of parts) ≡ read_all (operand ∷ operands) (tokens_of text)
by-parts operand operands text parts cut = sym (ap (read_parts (operand ∷ operands)) (parts-tokens text ∙ ap (map tokens_of) cut))

-- a text without a comma is read by a form of one operand as that operand
pub read_one-one : (operand : Operand) (text : List ℕ) → slice_split is_comma text ≡ text ∷ []
    → read operand (tokens_of text) ≡ read_all (operand ∷ []) (tokens_of text)
read_one-one operand text one = by-parts operand [] text (text ∷ []) one

-- a text with a comma isn't read by a form of one operand
pub read_one-more : (operand : Operand) (text front back : List ℕ)
    → slice_split is_comma text ≡ front ∷ slice_split is_comma back → None ≡ read_all (operand ∷ []) (tokens_of text)
read_one-more operand text front back split =
    let more = split-is_cons is_comma back in
    by-parts operand [] text (front ∷ more.first ∷ more.rest) (split ∙ ap (λ rest. front ∷ rest) more.is)

-- a text without a comma isn't read by a form of two operands
pub read_two-one : (first second : Operand) (text : List ℕ) → slice_split is_comma text ≡ text ∷ []
    → None ≡ read_all (first ∷ second ∷ []) (tokens_of text)
read_two-one first second text one = by-parts first (second ∷ []) text (text ∷ []) one

-- a text with one comma is read by a form of two operands, a part each
pub read_two-two : (first second : Operand) (text front back : List ℕ)
    → slice_split is_comma text ≡ front ∷ slice_split is_comma back → slice_split is_comma back ≡ back ∷ []
    → both (read first (tokens_of front)) (read second (tokens_of back)) ≡ read_all (first ∷ second ∷ []) (tokens_of text)
read_two-two first second text front back split other =
    by-parts first (second ∷ []) text (front ∷ back ∷ []) (split ∙ ap (λ rest. front ∷ rest) other)

-- a text with two commas isn't read by a form of two operands
pub read_two-more : (first second : Operand) (text front back middle last : List ℕ)
    → slice_split is_comma text ≡ front ∷ slice_split is_comma back → slice_split is_comma back ≡ middle ∷ slice_split is_comma last
    → None ≡ read_all (first ∷ second ∷ []) (tokens_of text)
read_two-more first second text front back middle last split other =
    let more = split-is_cons is_comma last in
    by-parts first (second ∷ []) text (front ∷ middle ∷ more.first ∷ more.rest)
    (split ∙ ap (λ rest. front ∷ rest) (other ∙ ap (λ rest. middle ∷ rest) more.is))

-- a text with two colons
pub line_of_parts-more : (text front back middle last : List ℕ)
    → slice_split is_colon text ≡ front ∷ slice_split is_colon back → slice_split is_colon back ≡ middle ∷ slice_split is_colon last
    → flawed Syntax ≡ line_of_parts (slice_split is_colon text)
line_of_parts-more text front back middle last split other =
    let parts = split-is_cons is_colon last in
    sym (ap line_of_parts (split ∙ ap (λ rest. front ∷ rest) (other ∙ ap (λ rest. middle ∷ rest) parts.is)))
