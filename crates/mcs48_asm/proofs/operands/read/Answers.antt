use Rattle.std.proofs.Common.{ap, ◌∙◌}
use Rattle.std.specs.Option.{option_map}
use Rattle.mcs48_asm.specs.declared.argument.Role.TheVariants as role
use Rattle.mcs48_asm.specs.Tokens.{tokens_of}
use Rattle.mcs48_asm.specs.Rows.{given, immediate}
use Rattle.mcs48_asm.specs.Values.{value_of}
use Rattle.mcs48_asm.proofs.Commutes.{given-capped}
use Rattle.mcs48_asm.proofs.operands.read.Goals as goal

pub returns-in-Immediate-clause-reading : goal.returns-in-Immediate-clause-reading
returns-in-Immediate-clause-reading c =
    rw c.in-Immediate.is
    (c.given_by.ensures.reading ∙ ap (option_map (given role.Byte)) c.immediate.ensures
    ∙ given-capped role.Byte (immediate (tokens_of c.args.text.now)))

pub returns-in-Address-clause-reading : goal.returns-in-Address-clause-reading
returns-in-Address-clause-reading c =
    rw c.in-Address.is
    (c.given_by-in-Address.ensures.reading ∙ ap (option_map (given role.Address)) c.value_of.ensures
    ∙ given-capped role.Address (value_of (tokens_of c.args.text.now)))

pub returns-in-Target-clause-reading : goal.returns-in-Target-clause-reading
returns-in-Target-clause-reading c =
    rw c.in-Target.is
    (c.given_by-in-Target.ensures.reading ∙ ap (option_map (given role.Target)) c.value_of-in-Target.ensures
    ∙ given-capped role.Target (value_of (tokens_of c.args.text.now)))
