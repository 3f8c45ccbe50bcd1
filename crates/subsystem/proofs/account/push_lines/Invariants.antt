use Rattle.std.proofs.Common.{◌≡◌, ◌++◌, drop, map}
use Rattle.subsystem.specs.Account.{in_tick}
use Rattle.subsystem.proofs.account.push_lines.Given as goal

abbrev pub invariant-loop-stamped : goal.invariant-loop-stamped
invariant-loop-stamped l =
    l.log.items ++ map (in_tick l.tick) (drop l.stamped-index l.items) ≡ l.initial.log.items ++ map (in_tick l.tick) l.items
