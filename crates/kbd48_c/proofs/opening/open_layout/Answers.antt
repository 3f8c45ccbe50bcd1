use Rattle.std.proofs.Common.{sym, subst, ◌∙◌, rules, w32}
use Rattle.std.proofs.lemmas.Int.{to_z-of_z}
use Rattle.kbd48_c.specs.Opening.{HasOpened}
use Rattle.kbd48_c.proofs.opening.open_layout.Goals as goal

pub returns-in-Ok-clause-opened : goal.returns-in-Ok-clause-opened
returns-in-Ok-clause-opened c = λ e.
    let fits = to_z-of_z w32 c.open.result (search rules) in (
      c.in-Ok.layout,
      c.in-Ok.ensures.layout,
      subst (λ bytes. HasOpened c.args.ready bytes c.open.new.handle.keyboard) c.compile.ensures.image (c.open.ensures.opened (sym fits ∙ e)),
    )
