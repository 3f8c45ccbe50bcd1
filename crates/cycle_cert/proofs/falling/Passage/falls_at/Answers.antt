-- The heaviest value after decides.
use Rattle.std.proofs.Common.{◌≡◌, true, sym, ◌∙◌, ap}
use Rattle.cycle_cert.specs.Bounds.{cycles_at}
use Rattle.cycle_cert.specs.Rows.{heaviest}
use Rattle.cycle_cert.specs.Falling.{is_open}
use Rattle.cycle_cert.proofs.FallsLemmas.{falls_where_open}
use Rattle.cycle_cert.proofs.falling.Passage.falls_at.Goals as goal

pub returns : goal.returns
returns c =
    let p = c.args.self.now in
    let is_open_here : is_open p c.args.first c.args.second ≡ true = sym c.is_open.ensures ∙ c.if-not-is_open.false in
    let left : c.cycles_at.result
    ≡ cycles_at p.after (heaviest p.op p.after.register c.args.second) = c.cycles_at.ensures.cycles
    ∙ ap (cycles_at p.after) c.heaviest-left.ensures in
    let right = c.cycles_at-2.ensures.cycles in
    let more = c.from.ensures in
    rw (left, right, more) (sym (falls_where_open p c.args.first c.args.second is_open_here))
