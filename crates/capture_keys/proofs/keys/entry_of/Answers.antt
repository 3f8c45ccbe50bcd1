use Rattle.std.proofs.Common.{rules, tests}
use Rattle.std.proofs.lemmas.Iterator.{YieldsList-from_slice}
use Rattle.std.proofs.lemmas.Iterator.Search.{find_from_yields_List}
use Rattle.capture_keys.specs.Keys.{entry_of, sends}
use Rattle.capture_keys.proofs.keys.entry_of.Goals as goal

pub returns-in-Some : goal.returns-in-Some
unfolding entry_of
returns-in-Some c =
    let found = find_from_yields_List (sends c.args.code) _ _ c.find.result c.find.ensures.ran
    (YieldsList-from_slice c.args.entries.now cc) (λ x b q k. search (rules, tests)) in
    rw c.in-Some.is at found

pub returns-in-None : goal.returns-in-None
unfolding entry_of
returns-in-None c =
    let found = find_from_yields_List (sends c.args.code) _ _ c.find.result c.find.ensures.ran
    (YieldsList-from_slice c.args.entries.now cc) (λ x b q k. search (rules, tests)) in
    rw c.in-None.is at found
