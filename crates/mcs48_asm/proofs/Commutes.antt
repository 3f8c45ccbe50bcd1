-- Keeping 65,536 for a large number, and reading on.
use Rattle.std.proofs.Common.{◌≡◌, ℕ, Bool, true, false, ◌&&◌, List, [], ◌∷◌, map, Option, Some}
use Rattle.std.proofs.Common.{None, Ok, Err, is_some, unwrap_or, refl, ap, sym, ◌∙◌}
use Rattle.std.specs.List.{slice_split}
use Rattle.std.specs.Option.{option_map, option_or, option_and_then, ok_or}
use Rattle.std.specs.declared.result.Result.{Result}
use Rattle.mcs48_asm.specs.declared.flaw.Flaw.{Flaw}
use Rattle.mcs48_asm.specs.declared.flaw.Flaw.TheVariants.{Misfit}
use Rattle.mcs48_asm.specs.declared.rows.Row.{Row as KeptRow}
use Rattle.mcs48_asm.specs.Characters.{is_comma}
use Rattle.mcs48_asm.specs.Tokens.{tokens_of, parts_of}
use Rattle.mcs48_asm.specs.Kept.{form_seen, kept_fit}
use Rattle.mcs48_asm.specs.declared.argument.Role.{Role}
use Rattle.mcs48_asm.specs.Capped.{value_capped, argument_capped, reading_capped, statement_capped, found_capped, line_capped}
use Rattle.mcs48_asm.specs.Values.{Value, Number, value_of}
use Rattle.mcs48_asm.specs.Rows.{Argument, Reading, given, joined, both, instructions}
use Rattle.mcs48_asm.specs.Statements.{Statement, values_of, instruction_with, instruction_in, first_fit, line_with}
use Rattle.mcs48_asm.proofs.Commas.{parts-tokens}

-- a function of what is there leaves whether something is there
pub is_some-map : {A B : Type 0} (f : A → B) (o : Option A) → is_some (option_map f o) ≡ is_some o
is_some-map f None = refl
is_some-map f (Some x) = refl

-- a part's value with 65,536 for a large number is the part's value, so kept
pub part-capped : (o : Option Value) → unwrap_or (option_map value_capped o) (Number 0) ≡ value_capped (unwrap_or o (Number 0))
part-capped None = refl
part-capped (Some v) = refl

-- a value in its role is read the same if a large number is kept as 65,536
pub given-capped : (role : Role) (o : Option Value)
    → option_map (given role) (option_map value_capped o) ≡ option_map reading_capped (option_map (given role) o)
given-capped role None = refl
given-capped role (Some v) = refl

or-capped : (a b : Option Argument)
    → option_or (option_map argument_capped a) (option_map argument_capped b) ≡ option_map argument_capped (option_or a b)
or-capped None b = refl
or-capped (Some x) b = refl

joined-capped : (a b : Reading) → joined (reading_capped a) (reading_capped b) ≡ reading_capped (joined a b)
joined-capped a b = λ i. record { offset = (joined a b).offset; argument = or-capped a.argument b.argument i }

-- two readings joined are the same if their large numbers are kept as 65,536
pub both-capped : (a b : Option Reading)
    → both (option_map reading_capped a) (option_map reading_capped b) ≡ option_map reading_capped (both a b)
both-capped None b = refl
both-capped (Some x) None = refl
both-capped (Some x) (Some y) = λ i. Some (joined-capped x y i)

-- an instruction of a reading is the same if its large number is kept as 65,536
pub instruction-capped : (first : ℕ) (o : Option Reading)
    → option_map (instruction_with first) (option_map reading_capped o)
    ≡ option_map statement_capped (option_map (instruction_with first) o)
instruction-capped first None = refl
instruction-capped first (Some x) = refl

or-kept : (a b : Option Statement)
    → option_or (option_map statement_capped a) (option_map statement_capped b) ≡ option_map statement_capped (option_or a b)
or-kept None b = refl
or-kept (Some x) b = refl

fit-capped : (rows : List KeptRow) (tokens : List (List ℕ))
    → kept_fit rows tokens ≡ option_map statement_capped (first_fit (map form_seen rows) tokens)
fit-capped [] tokens = refl
fit-capped (row ∷ rows) tokens =
    ap (option_or (option_map statement_capped (instruction_in (form_seen row) tokens))) (fit-capped rows tokens)
    ∙ or-kept (instruction_in (form_seen row) tokens) (first_fit (map form_seen rows) tokens)

-- whether a statement is found is the same if its large numbers are kept as 65,536
pub found-capped : (o : Option Statement) → ok_or (option_map statement_capped o) Misfit ≡ found_capped (ok_or o Misfit)
found-capped None = refl
found-capped (Some x) = refl

-- the instruction of the program's rows
pub instruction-found : (rows : List KeptRow) (tokens : List (List ℕ)) (found : Option Statement)
    → map form_seen rows ≡ instructions → found ≡ kept_fit rows tokens
    → ok_or found Misfit ≡ found_capped (ok_or (first_fit instructions tokens) Misfit)
instruction-found rows tokens found forms is =
    ap (λ o. ok_or o Misfit) (is ∙ fit-capped rows tokens)
    ∙ ap (λ forms. ok_or (option_map statement_capped (first_fit forms tokens)) Misfit) forms
    ∙ found-capped (first_fit instructions tokens)

-- a line with its label is the same if its large numbers are kept as 65,536
pub line-capped : (label : Option (List ℕ)) (found : Result Statement Flaw)
    → line_with label (found_capped found) ≡ line_capped (line_with label found)
line-capped label (Ok statement) = refl
line-capped label (Err flaw) = refl

-- the values of parts
values-some : (o : Option Value) (os : Option (List Value))
    → is_some (option_and_then (λ v. option_map (λ vs. v ∷ vs) os) o) ≡ (is_some o && is_some os)
values-some None os = refl
values-some (Some v) None = refl
values-some (Some v) (Some vs) = refl

-- the values of a text with a comma are all there if that of its first part is and those of the rest are
pub parts-turn : (text part more : List ℕ) → slice_split is_comma text ≡ part ∷ slice_split is_comma more
    → is_some (values_of (parts_of (tokens_of text)))
    ≡ (is_some (value_of (tokens_of part)) && is_some (values_of (parts_of (tokens_of more))))
parts-turn text part more split =
    ap (λ parts. is_some (values_of parts)) (parts-tokens text ∙ ap (map tokens_of) split)
    ∙ values-some (value_of (tokens_of part)) (values_of (map tokens_of (slice_split is_comma more)))
    ∙ ap (λ parts. is_some (value_of (tokens_of part)) && is_some (values_of parts)) (sym (parts-tokens more))

and-true : (b : Bool) → (b && true) ≡ b
and-true true = refl
and-true false = refl

-- the values of a text without a comma are there if its one value is
pub parts-end : (text : List ℕ) → slice_split is_comma text ≡ text ∷ []
    → is_some (values_of (parts_of (tokens_of text))) ≡ is_some (value_of (tokens_of text))
parts-end text split =
    ap (λ parts. is_some (values_of parts)) (parts-tokens text ∙ ap (map tokens_of) split)
    ∙ values-some (value_of (tokens_of text)) (Some [])
    ∙ and-true (is_some (value_of (tokens_of text)))
