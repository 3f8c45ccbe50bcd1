use Rattle.std.proofs.Common.{◌≡◌, drop, map}
use Rattle.subsystem.specs.Account.{in_tick}
use Rattle.subsystem.specs.Counts.{with_lines}
use Rattle.subsystem.proofs.counts.Counts.with_items.Given as goal

-- with the lines of the other items it is those of all
abbrev pub invariant-loop-stamped : goal.invariant-loop-stamped
invariant-loop-stamped l =
    with_lines l.counts (map (in_tick l.tick) (drop l.stamped-index l.items)) ≡ with_lines l.fn.self (map (in_tick l.tick) l.items)
