use Rattle.std.proofs.Common.{◌∙◌}
use Rattle.mcs48_asm.proofs.Keeps.{lookup-kept}
use Rattle.mcs48_asm.proofs.names.value_named.Goals as goal

pub returns : goal.returns
returns c = c.copied.ensures ∙ c.get.ensures.value ∙ lookup-kept c.args.names.now.entries c.args.name.now
