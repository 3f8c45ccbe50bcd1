use Rattle.std.proofs.Common.{ap, sym, subst, ◌∙◌, rules, w32}
use Rattle.std.proofs.lemmas.Int.{to_z-of_z}
use Rattle.fw_compile.specs.Image.{image_of}
use Rattle.kbd48_c.specs.Opening.{HasOpened}
use Rattle.kbd48_c.proofs.names.open_sample.Goals as goal

pub returns-in-Ok-clause-opened : goal.returns-in-Ok-clause-opened
returns-in-Ok-clause-opened c = λ e.
    let fits = to_z-of_z w32 c.open.result (search rules) in
    subst (λ bytes. HasOpened c.args.ready bytes c.open.new.handle.keyboard) (c.compile.ensures.image ∙ ap image_of c.in-Ok.ensures.layout)
    (c.open.ensures.opened (sym fits ∙ e))
