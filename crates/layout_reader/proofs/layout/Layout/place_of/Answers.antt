use Rattle.std.proofs.Common.{◌==◌, refl, rules, tests}
use Rattle.std.proofs.lemmas.Iterator.{YieldsList-from_slice}
use Rattle.std.proofs.lemmas.Iterator.Search.{find_from_yields_List}
use Rattle.layout_reader.specs.declared.entry.Entry.{Entry}
use Rattle.layout_reader.specs.Layouts.{place_of}
use Rattle.layout_reader.proofs.layout.Layout.place_of.Goals as goal

pub returns-in-Some : goal.returns-in-Some
unfolding place_of
returns-in-Some c =
    let found = find_from_yields_List
    (λ (entry : Entry). entry.key == c.args.key) _ _ c.find.result c.find.ensures.ran
    (YieldsList-from_slice c.self.inside.entries.items cc) (λ x b q k. search (rules, tests)) in
    record { place = rw (← c.self.view_is, ← rw c.in-Some.is at found) refl }

pub returns-in-None : goal.returns-in-None
unfolding place_of
returns-in-None c =
    let found = find_from_yields_List
    (λ (entry : Entry). entry.key == c.args.key) _ _ c.find.result c.find.ensures.ran
    (YieldsList-from_slice c.self.inside.entries.items cc) (λ x b q k. search (rules, tests)) in
    record { place = rw (← c.self.view_is, ← rw c.in-None.is at found) refl }
