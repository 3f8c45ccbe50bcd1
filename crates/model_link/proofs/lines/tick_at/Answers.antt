use Rattle.std.proofs.Common.{◌≡◌, ◌+◌, ◌-◌, ℕ, length, true, false, arith}
use Rattle.std.specs.Prelude.{nat_le}
use Rattle.std.proofs.lemmas.Bool.Decides.{nat_tests}
use Rattle.board_terms.specs.Cadence.{listed}
use Rattle.model_link.proofs.Ticks.{tick_near}
use Rattle.model_link.proofs.lines.tick_at.Goals as goal
use Rattle.model_link.proofs.lines.tick_at.Goals.{then-starts-n, else-starts-n}

pub returns : goal.returns
returns c =
    let last : ℕ = length c.args.starts.now - 1 in
    let near = tick_near (listed c.args.starts.now) c.args.cycle last c.requires.cadence c.near_tick-n.result c.near_tick-n.ensures in
    elim c.if-starts-n.branch [
      | then-starts-n w ↦
          let h = w.if-starts-n.true in
          let t : nat_le (4096 + listed c.args.starts.now c.near_tick-n.result) c.args.cycle ≡ true = grind (arith, nat_tests, h) in
          let g = near true t in
          omega (arith, g, w.begun-is, c.saturating_sub.ensures)
      | else-starts-n w ↦
          let h = w.if-starts-n.false in
          let t : nat_le (4096 + listed c.args.starts.now c.near_tick-n.result) c.args.cycle ≡ false = grind (arith, nat_tests, h) in
          let g = near false t in
          omega (arith, g, w.begun-is, c.saturating_sub.ensures)
    ]
