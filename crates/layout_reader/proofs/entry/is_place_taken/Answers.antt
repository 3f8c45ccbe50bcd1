use Rattle.std.proofs.Common.{◌==◌, rules, tests}
use Rattle.std.proofs.lemmas.Iterator.{YieldsList-from_slice}
use Rattle.std.proofs.lemmas.Iterator.Search.{any_from_yields_List}
use Rattle.layout_reader.specs.declared.entry.Entry.{Entry}
use Rattle.layout_reader.specs.Entries.{is_place_taken}
use Rattle.layout_reader.proofs.entry.is_place_taken.Goals as goal

pub returns : goal.returns
unfolding is_place_taken
returns c = any_from_yields_List (λ (entry : Entry). entry.place == c.args.place) _ _ _ c.any.ensures.ran
    (YieldsList-from_slice c.args.earlier.now cc) (λ x b q k. search (rules, tests))
