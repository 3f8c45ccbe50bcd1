use Rattle.std.proofs.Common.{◌≡◌, ◌∙◌, ap, ℕ, arith}
use Rattle.model_link.specs.Debounce.{is_down_at, settles}
use Rattle.model_link.specs.TickEdges.{by_place, shown_at}
use Rattle.model_link.proofs.debouncing.settling.Goals as goal

pub returns : goal.returns
returns c =
    let all : c.loop-number.number ≡ 96 = omega (arith, c.loop-number-test.false, c.loop-number.auto.number-end) in
    c.loop-number.invariant
    ∙ ap (λ (n : ℕ). by_place (shown_at (is_down_at c.args.was.now)
    (λ p. settles (is_down_at c.args.was.now p) (is_down_at c.args.before.now p) (is_down_at c.args.now.now p))) n) all
