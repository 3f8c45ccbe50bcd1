use Rattle.std.proofs.Common.{◌≡◌, ℕ, ◌==◌, ◌&&◌, ◌||◌, not, false, List, [], ◌∷◌, filter, length, nat_lt, rules, refl, ap, sym, ◌∙◌, arith}
use borrow.Author.Tests.{tests}
use Rattle.std.specs.List.{list_all, slice_split}
use Rattle.std.proofs.lemmas.Bool.Decides.{nat_tests}
use Rattle.std.proofs.lemmas.Iterator.Search.{all_from_yields_List}
use Rattle.std.proofs.lemmas.Iterator.Splits.{YieldsList-from_slice_split}
use Rattle.mcs48_asm.specs.Characters.{is_word_character}
use Rattle.mcs48_asm.specs.Statements.{is_known_word}
use Rattle.mcs48_asm.proofs.Tokenized.{kept}
use Rattle.mcs48_asm.proofs.line.are_known_words.Goals as goal

-- a part is nothing, or a known word
known-parts : (parts : List (List ℕ))
    → list_all (λ part. length part == 0 || is_known_word part) parts
    ≡ list_all is_known_word (filter (λ word. nat_lt 0 (length word)) parts)
known-parts [] = refl
known-parts ([] ∷ parts) = known-parts parts
known-parts ((c ∷ cs) ∷ parts) =
    let some : (length (c ∷ cs) == 0) ≡ false = grind (arith, nat_tests) in
    ap (λ b. (b || is_known_word (c ∷ cs)) && list_all (λ part. length part == 0 || is_known_word part) parts) some
    ∙ ap (λ b. is_known_word (c ∷ cs) && b) (known-parts parts)
    ∙ sym (ap (list_all is_known_word) (kept c cs parts))

pub returns : goal.returns
returns c =
    all_from_yields_List (λ part. length part == 0 || is_known_word part) _ _ _ c.all.ensures.ran
    (YieldsList-from_slice_split _
    (λ character. not (is_word_character character)) c.args.text.now c.split.ensures.rest c.split.ensures.done c.split.ensures.closure
    (λ x b q k. search (rules, tests)))
    (λ x b q k. search (rules, tests))
    ∙ known-parts (slice_split (λ character. not (is_word_character character)) c.args.text.now)
