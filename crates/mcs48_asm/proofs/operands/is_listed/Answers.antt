use Rattle.std.proofs.Common.{◌∙◌, ap}
use Rattle.std.specs.List.{list_any}
use Rattle.std.specs.Str.{bytes_eq}
use Rattle.mcs48_asm.specs.Kept.{spelled}
use Rattle.mcs48_asm.proofs.Tables.{list_any-map}
use Rattle.mcs48_asm.proofs.operands.is_listed.Goals as goal

pub returns : goal.returns
returns c =
    c.is_among.ensures
    ∙ list_any-map (λ held. bytes_eq held c.args.word.now) spelled c.reserved.result.now
    ∙ ap (list_any (λ held. bytes_eq held c.args.word.now)) c.reserved.ensures
