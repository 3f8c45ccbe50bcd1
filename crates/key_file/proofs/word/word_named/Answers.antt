use Rattle.std.proofs.Common.{ap, sym, arith}
use Rattle.std.specs.Prelude.{codes}
use Rattle.std.proofs.lemmas.Slice.Eq.{text_from_reads}
use Rattle.key_file.specs.Fields.{word_named}
use Rattle.key_file.proofs.word.word_named.Goals as goal

pub returns-in-read60 : goal.returns-in-read60
returns-in-read60 c =
    ap word_named
    (sym (text_from_reads c.args.name.now (codes "read60") (omega arith)
    (omega arith, (omega arith, (omega arith, (omega arith, (omega arith, (omega arith, tt))))))))

pub returns-in-unmask : goal.returns-in-unmask
returns-in-unmask c =
    ap word_named
    (sym (text_from_reads c.args.name.now (codes "unmask") (omega arith)
    (omega arith, (omega arith, (omega arith, (omega arith, (omega arith, (omega arith, tt))))))))

pub returns-in-status : goal.returns-in-status
returns-in-status c =
    ap word_named
    (sym (text_from_reads c.args.name.now (codes "status") (omega arith)
    (omega arith, (omega arith, (omega arith, (omega arith, (omega arith, (omega arith, tt))))))))

pub returns-in-release : goal.returns-in-release
returns-in-release c =
    ap word_named
    (sym (text_from_reads c.args.name.now (codes "release") (omega arith)
    (omega arith, (omega arith, (omega arith, (omega arith, (omega arith, (omega arith, (omega arith, tt)))))))))

pub returns-in-write60 : goal.returns-in-write60
returns-in-write60 c =
    ap word_named
    (sym (text_from_reads c.args.name.now (codes "write60") (omega arith)
    (omega arith, (omega arith, (omega arith, (omega arith, (omega arith, (omega arith, (omega arith, tt)))))))))

pub returns-in-write64 : goal.returns-in-write64
returns-in-write64 c =
    ap word_named
    (sym (text_from_reads c.args.name.now (codes "write64") (omega arith)
    (omega arith, (omega arith, (omega arith, (omega arith, (omega arith, (omega arith, (omega arith, tt)))))))))
