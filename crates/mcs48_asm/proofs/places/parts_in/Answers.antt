use Rattle.std.proofs.Common.{◌+◌, ap, sym, ◌∙◌}
use Rattle.std.proofs.lemmas.List.Splits.{length-slice_split}
use Rattle.mcs48_asm.specs.Characters.{is_comma}
use Rattle.mcs48_asm.proofs.places.parts_in.Goals as goal

pub returns-clause-number : goal.returns-clause-number
returns-clause-number c = ap (λ n. n + 1) c.commas_in.ensures.number ∙ sym (length-slice_split is_comma c.args.text.now)
