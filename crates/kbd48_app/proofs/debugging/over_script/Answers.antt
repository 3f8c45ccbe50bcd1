use Rattle.std.proofs.Common.{refl}
use Rattle.app_words.specs.declared.kind.Kind.TheVariants as kinds
use Rattle.kbd48_app.specs.Plans.{Debugs}
use Rattle.kbd48_app.proofs.FilesAreFound.{debugged, found_so}
use Rattle.kbd48_app.proofs.debugging.over_script.Goals as goal

pub returns-clause-ends : goal.returns-clause-ends
returns-clause-ends g c = λ taking.
    found_so kinds.Script c.args.script.now (Debugs c.args.debuggee) (g.F.Shelf.in_memory c.args.shelf.now)
    (g.F.Shelf.in_memory c.fetch_file.new.shelf) _ _ _ _ c.in_ok-script.script
    c.in_ok-script.ensures.gives c.in_ok-script.ensures.fetched
    (debugged c.args.debuggee c.deref-2.result.now c.in_ok-script.script.items _ _ _ (g.F.Shelf.in_memory c.fetch_file.new.shelf)
    c.deref-2.ensures.value refl (c.debug.ensures.says taking))
