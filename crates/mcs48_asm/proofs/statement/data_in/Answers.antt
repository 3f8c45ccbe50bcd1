use Rattle.std.proofs.Common.{◌≡◌, true, ap, sym, ◌∙◌, map, is_some}
use Rattle.std.specs.List.{slice_split}
use Rattle.std.specs.Option.{option_map, ok_or}
use Rattle.mcs48_asm.specs.declared.flaw.Flaw.TheVariants.{Misfit}
use Rattle.mcs48_asm.specs.Characters.{is_comma}
use Rattle.mcs48_asm.specs.Capped.{statement_capped}
use Rattle.mcs48_asm.specs.Tokens.{tokens_of, parts_of}
use Rattle.mcs48_asm.specs.Statements.{Data, values_of}
use Rattle.mcs48_asm.proofs.Commas.{parts-tokens}
use Rattle.mcs48_asm.proofs.Commutes.{found-capped}
use Rattle.mcs48_asm.proofs.Keeps.{data-kept, data-none}
use Rattle.mcs48_asm.proofs.statement.data_in.Goals as goal

pub returns-then-are_values : goal.returns-then-are_values
returns-then-are_values c =
    let parts = parts-tokens c.args.values.now in
    let values : is_some (values_of (map tokens_of (slice_split is_comma c.args.values.now)))
    ≡ true = ap (λ parts. is_some (values_of parts)) (sym parts) ∙ (cc) in
    ap (λ o. ok_or o Misfit) (data-kept (slice_split is_comma c.args.values.now) values)
    ∙ ap (λ parts. ok_or (option_map statement_capped (option_map Data (values_of parts))) Misfit) (sym parts)
    ∙ found-capped (option_map Data (values_of (parts_of (tokens_of c.args.values.now))))

pub returns-else-are_values : goal.returns-else-are_values
returns-else-are_values c =
    let values = values_of (parts_of (tokens_of c.args.values.now)) in
    ap (λ o. ok_or o Misfit) (data-none values (cc)) ∙ found-capped (option_map Data values)
