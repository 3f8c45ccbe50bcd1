use Rattle.std.proofs.Common.{◌==◌, refl, rules, tests, subst}
use Rattle.std.proofs.lemmas.Iterator.{YieldsList-from_slice}
use Rattle.std.proofs.lemmas.Iterator.Search.{find_from_yields_List}
use Rattle.layout_reader.specs.declared.entry.Entry.{Entry}
use Rattle.layout_reader.specs.Layouts.{IsSilentAtFn}
use Rattle.layout_reader.proofs.FnKey.{is_silent_at_fn}
use Rattle.layout_reader.proofs.layout.Layout.entry_at.Goals as goal

pub returns-in-Some : goal.returns-in-Some
returns-in-Some c =
    let found = find_from_yields_List
    (λ (entry : Entry). entry.place == c.args.place) _ _ c.find.result c.find.ensures.ran
    (YieldsList-from_slice c.self.inside.entries.items cc) (λ x b q k. search (rules, tests)) in
    record {
      entry = rw (← c.self.view_is, ← rw c.in-Some.is at found) refl;
      silent = subst IsSilentAtFn
          c.self.view_is (is_silent_at_fn _ c.self.invariant);
    }

pub returns-in-None : goal.returns-in-None
returns-in-None c =
    let found = find_from_yields_List
    (λ (entry : Entry). entry.place == c.args.place) _ _ c.find.result c.find.ensures.ran
    (YieldsList-from_slice c.self.inside.entries.items cc) (λ x b q k. search (rules, tests)) in
    record {
      entry = rw (← c.self.view_is, ← rw c.in-None.is at found) refl;
      silent = subst IsSilentAtFn
          c.self.view_is (is_silent_at_fn _ c.self.invariant);
    }
