use Rattle.std.proofs.Common.{◌≡◌, true, Ok, IfOk, IfErr, subst, sym}
use Rattle.toml.specs.View.{table_view}
use Rattle.layout_reader.specs.Documents.{IsFaultOf}
use Rattle.layout_reader.proofs.Steps.{document_read, document_refused}
use Rattle.layout_reader.proofs.reading.read_layout.Goals as goal

pub returns-in-Ok-clause-layout : goal.returns-in-Ok-clause-layout
returns-in-Ok-clause-layout c =
    let e = document_read c.args.bytes.now (table_view c.in-Ok.top) c.in-Ok.ensures.ok.0 c.in-Ok.ensures.ok.1 in
    subst (λ meaning. IfOk c.layout_of.result (λ layout. meaning ≡ Ok layout)) (sym e) c.layout_of.ensures.layout

pub returns-in-Ok-clause-fault : goal.returns-in-Ok-clause-fault
returns-in-Ok-clause-fault c =
    let e = document_read c.args.bytes.now (table_view c.in-Ok.top) c.in-Ok.ensures.ok.0 c.in-Ok.ensures.ok.1 in
    subst (λ meaning. IfErr c.layout_of.result (IsFaultOf meaning)) (sym e) c.layout_of.ensures.fault

pub returns-else-is_memory-clause-fault : goal.returns-else-is_memory-clause-fault
returns-else-is_memory-clause-fault c =
    let refused = c.in-Err.ensures.refused (λ m. let yes : c.is_memory.result ≡ true = c.is_memory.ensures.1 m in cc) in
    rw c.number.ensures (document_refused c.args.bytes.now refused)
