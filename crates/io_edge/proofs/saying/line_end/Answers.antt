use Rattle.std.proofs.Common.{sym, ◌∙◌}
use Rattle.io_edge.proofs.Lines.{end_some, end_none}
use Rattle.io_edge.proofs.saying.line_end.Goals as goal

pub returns-in-Some-clause-first : goal.returns-in-Some-clause-first
returns-in-Some-clause-first c = end_some c.args.text.now c.args.start c.in-Some.length (sym c.first_lf.ensures ∙ c.in-Some.is)

pub returns-in-None-clause-first : goal.returns-in-None-clause-first
returns-in-None-clause-first c = end_none c.args.text.now c.args.start c.requires (sym c.first_lf.ensures ∙ c.in-None.is)
