use Rattle.std.proofs.Common.{Bool, not, ap, ◌∙◌}
use Rattle.std.specs.Prelude.{◌&&◌, is_some, if◌then◌else◌}
use Rattle.ctl_core.specs.Controller.{ControllerState}
use Rattle.ctl_link.specs.Link.{broken_off, settled}
use Rattle.ctl_link.specs.declared.port.LinkEnd.{LinkEnd}
use Rattle.ctl_wire.specs.declared.wire.Wire.{Wire}
use Rattle.ctl_wire.specs.Wire.{is_breakable}
use Rattle.ctl_half.specs.Controllers.{CtlState, is_pins_command, pins_in, settles}
use Rattle.ctl_half.proofs.controller.CtlHalf.settle.Goals as goal

pub returns-clause-after : goal.returns-clause-after
returns-clause-after c =
    let pins = pins_in c.self.inside.pins in
    let with_core : LinkEnd Wire → ControllerState → CtlState =
    λ p core. record { port = record p { core = core }; clock = c.self.inside.clock; pins = pins } in
    let put : Bool → LinkEnd Wire → CtlState =
    λ asked p. with_core p (record p.core {
      output = if asked && not (is_some p.core.input) then pins else p.core.output;
    }) in
    ap (with_core c.settle-did.new.self) c.put_pins.ensures
    ∙ ap (λ asked. put asked c.settle-did.new.self) c.is_pins_command-asked.ensures
    ∙ ap (put (is_pins_command c.self.inside.port.core.input)) (c.settle-did.ensures.port ∙ ap (λ p. (settled c.args.now p).port) c.break_off.ensures.port)
    ∙ ap (settles c.args.now) c.self.view_is

pub returns-clause-did : goal.returns-clause-did
returns-clause-did c =
    c.settle-did.ensures.did
    ∙ ap (λ p. (settled c.args.now p).did) c.break_off.ensures.port
    ∙ ap (λ s. (settled c.args.now (broken_off is_breakable c.args.now s.port)).did) c.self.view_is
