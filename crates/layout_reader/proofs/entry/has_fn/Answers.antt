use Rattle.std.proofs.Common.{rules, tests}
use Rattle.std.proofs.lemmas.Iterator.{YieldsList-from_slice}
use Rattle.std.proofs.lemmas.Iterator.Search.{any_from_yields_List}
use Rattle.layout_reader.specs.Entries.{is_fn, has_fn}
use Rattle.layout_reader.proofs.entry.has_fn.Goals as goal

pub returns : goal.returns
unfolding has_fn
returns c = any_from_yields_List is_fn _ _ _ c.any.ensures.ran (YieldsList-from_slice c.args.earlier.now cc)
    (λ x b q k. search (rules, tests))
