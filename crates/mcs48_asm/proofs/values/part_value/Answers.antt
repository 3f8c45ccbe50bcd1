use Rattle.std.proofs.Common.{ap, ◌∙◌, unwrap_or}
use Rattle.mcs48_asm.specs.Tokens.{tokens_of}
use Rattle.mcs48_asm.specs.Values.{Number, value_of}
use Rattle.mcs48_asm.proofs.Commutes.{part-capped}
use Rattle.mcs48_asm.proofs.values.part_value.Goals as goal

pub returns-in-Some : goal.returns-in-Some
returns-in-Some c = ap (λ o. unwrap_or o (Number 0)) c.in-Some.ensures ∙ part-capped (value_of (tokens_of c.args.part.now))

pub returns-in-None : goal.returns-in-None
returns-in-None c = ap (λ o. unwrap_or o (Number 0)) c.in-None.ensures ∙ part-capped (value_of (tokens_of c.args.part.now))
