use Rattle.std.proofs.Common.{ap, sym, ◌∙◌}
use Rattle.mcs48_asm.specs.Tokens.{words_of, first_of, second_of}
use Rattle.mcs48_asm.proofs.Tokenized.{words-cut}
use Rattle.mcs48_asm.proofs.words.next_word.Goals as goal

pub returns-then-is_word_character-clause-first : goal.returns-then-is_word_character-clause-first
returns-then-is_word_character-clause-first c =
    let letter = sym c.is_word_character.ensures ∙ c.if-is_word_character.true in
    let words = c.loop-rest.invariant
    ∙ words-cut c.loop-rest.rest.now c.run_length.result c.in-len1-up.len_at_least letter c.run_length.ensures.run
    c.run_length.ensures.ends in
    c.split_at.ensures.front ∙ sym (ap first_of words)

pub returns-then-is_word_character-clause-others : goal.returns-then-is_word_character-clause-others
returns-then-is_word_character-clause-others c =
    let letter = sym c.is_word_character.ensures ∙ c.if-is_word_character.true in
    let words = c.loop-rest.invariant
    ∙ words-cut c.loop-rest.rest.now c.run_length.result c.in-len1-up.len_at_least letter c.run_length.ensures.run
    c.run_length.ensures.ends in
    ap (λ rest. first_of (words_of rest)) c.split_at.ensures.back ∙ sym (ap second_of words)
