use Rattle.std.proofs.Common.{◌<◌, sym, append-nil, arith}
use Rattle.std.proofs.lemmas.List.Elements.{All-from_get_or}
use Rattle.hexfile.proofs.Rows.{rows_more, rows_all}
use Rattle.hexfile.proofs.writing.push_rows.Goals as goal

pub loop-row-init : goal.loop-row-init
loop-row-init c = sym (append-nil c.args.text.now.items)

pub loop-row-preserved : goal.loop-row-preserved
loop-row-preserved c =
    rows_more c.args.bytes.now c.args.text.now.items c.loop-row.text.items c.push_row.new.text.items c.loop-row.row
    c.loop-row.invariant c.in_ok-push_row.ensures

pub returns-clause-rows : goal.returns-clause-rows
returns-clause-rows c =
    rows_all c.args.bytes.now c.args.text.now.items c.loop-row.text.items c.loop-row.row c.loop-row.invariant (omega arith)

pub returns-clause-bytes : goal.returns-clause-bytes
returns-clause-bytes c = All-from_get_or (λ byte. byte < 256) c.args.bytes.now 0 (λ i below. c.fits-bytes i)
