use Rattle.std.proofs.lemmas.Bool.{ne_eqb}
use Rattle.mcs48_asm.specs.Tokens.{goes_on, tokens_of}
use Rattle.mcs48_asm.proofs.Tokenized.{before-comma, token-cut}
use Rattle.mcs48_asm.proofs.words.token_length.Goals as goal

pub returns-then-first-eq44-clause-token : goal.returns-then-first-eq44-clause-token
returns-then-first-eq44-clause-token c = before-comma c.args.first (goes_on c.args.afterwards.now) (tokens_of c.args.afterwards.now) (cc)

pub returns-else-first-eq44-clause-token : goal.returns-else-first-eq44-clause-token
returns-else-first-eq44-clause-token c =
    token-cut c.args.first c.args.afterwards.now c.run_length.result c.requires
    (ne_eqb c.args.first 44 c.if-first-eq44.false) c.run_length.ensures.run c.run_length.ensures.ends
