-- A value at which the bound doesn't fall fails the test, and one that every value passes holds.
use Rattle.std.proofs.Common.{sym, ◌∙◌, below_more, arith}
use Rattle.cycle_cert.specs.Falling.{falls_at}
use Rattle.cycle_cert.proofs.Values.{not_each, each_value}
use Rattle.cycle_cert.proofs.falling.Passage.falls_on_one.Goals as goal

pub returns-then-not-falls_at : goal.returns-then-not-falls_at
returns-then-not-falls_at c =
    sym (not_each (λ v. falls_at c.args.self.now v v) c.loop-value.value c.loop-value-test.true
    (sym c.falls_at.ensures ∙ c.if-not-falls_at.true))

pub loop-value-preserved : goal.loop-value-preserved
loop-value-preserved c = below_more _ _ c.loop-value.invariant (sym c.falls_at.ensures ∙ c.if-not-falls_at.false)

pub returns : goal.returns
returns c = sym (each_value (λ v. falls_at c.args.self.now v v)
    (λ v l. c.loop-value.invariant v (omega (arith, l, c.loop-value-test.false))))
