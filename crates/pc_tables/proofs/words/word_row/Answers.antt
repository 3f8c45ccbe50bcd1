use Rattle.std.proofs.Common.{◌≡◌, Some, Option, is_some, rules, ap, ◌∙◌}
use Rattle.pc_tables.specs.declared.words.WordRow.{WordRow}
use Rattle.pc_tables.specs.Words.{words_at}
use Rattle.pc_tables.proofs.WordLaws.{known}
use Rattle.pc_tables.proofs.words.word_row.Goals as goal

pub returns-in-Some-clause-known : goal.returns-in-Some-clause-known
returns-in-Some-clause-known c =
    let row : ◌≡◌ {A = Option WordRow} (Some c.letter_words.result) (words_at c.args.scan) = search rules in
    ap is_some row ∙ known c.args.scan c.ranges.scan.fits

pub returns-clause-known : goal.returns-clause-known
returns-clause-known c =
    let row : c.table_words.result ≡ words_at c.args.scan = search rules in
    ap is_some row ∙ known c.args.scan c.ranges.scan.fits
