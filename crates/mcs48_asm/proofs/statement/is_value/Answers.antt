use Rattle.std.proofs.Common.{◌≡◌, ap, ◌∙◌, sym, is_some, rules}
use Rattle.mcs48_asm.specs.Capped.{value_capped}
use Rattle.mcs48_asm.specs.Tokens.{tokens_of}
use Rattle.mcs48_asm.specs.Values.{value_of}
use Rattle.mcs48_asm.specs.Kept.{value_seen}
use Rattle.mcs48_asm.proofs.Commutes.{is_some-map}
use Rattle.mcs48_asm.proofs.statement.is_value.Goals as goal

pub returns : goal.returns
returns c =
    let found : c.is_some.result ≡ is_some c.value_of.result = search rules in
    found ∙ sym (is_some-map value_seen c.value_of.result) ∙ ap is_some c.value_of.ensures
    ∙ is_some-map value_capped (value_of (tokens_of c.args.text.now))
