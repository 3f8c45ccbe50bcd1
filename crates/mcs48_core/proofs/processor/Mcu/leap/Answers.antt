use Rattle.std.proofs.Common.{◌<◌, ap, sym, subst, ◌∙◌}
use Rattle.mcs48_core.specs.Step.{row_at}
use Rattle.mcs48_core.proofs.Spinning.{all_steps, none_spun, IsInPlace}
use Rattle.mcs48_core.proofs.processor.Mcu.leap.Goals as goal

pub returns-in_default-clause-start : goal.returns-in_default-clause-start
returns-in_default-clause-start c = none_spun c.args.self.now (subst (λ m. m.pre < 32) c.self.view_is c.self.invariant.prescaler)

pub returns-in_default-clause-end : goal.returns-in_default-clause-end
returns-in_default-clause-end c = sym (none_spun c.args.self.now (subst (λ m. m.pre < 32) c.self.view_is c.self.invariant.prescaler))

pub returns-then-not-stays-clause-start : goal.returns-then-not-stays-clause-start
returns-then-not-stays-clause-start c = none_spun c.args.self.now (subst (λ m. m.pre < 32) c.self.view_is c.self.invariant.prescaler)

pub returns-then-not-stays-clause-end : goal.returns-then-not-stays-clause-end
returns-then-not-stays-clause-end c = sym (none_spun c.args.self.now (subst (λ m. m.pre < 32) c.self.view_is c.self.invariant.prescaler))

pub returns-clause-start : goal.returns-clause-start
returns-clause-start c = none_spun c.args.self.now (subst (λ m. m.pre < 32) c.self.view_is c.self.invariant.prescaler)

pub returns-clause-steps : goal.returns-clause-steps
returns-clause-steps c =
    let bytes = c.args.image.now.bytes in
    let here : IsInPlace bytes c.args.pins.now c.args.self.now = record {
      no_external = c.stays.ensures.no_external c.if-not-stays.false;
      no_timer = c.stays.ensures.no_timer c.if-not-stays.false;
      to = c.in-Some.to;
      row = ap (λ m. row_at bytes m.pc) (sym c.self.view_is) ∙ c.in-Some.ensures.row;
      place = c.stays.ensures.place c.if-not-stays.false;
      level = c.stays.ensures.level c.if-not-stays.false;
    } in
    all_steps bytes c.args.pins.now c.args.self.now c.spin.result here c.spin.ensures.short
