use Rattle.std.proofs.Common.{◌≡◌, ℕ, ◌+◌, ◌-◌, ◌≤◌, List, [], ◌++◌, length, Some, None, sym, ap, ◌∙◌, append_assoc, length-append, arith}
use Rattle.std.specs.declared.option.Option.{Option}
use Rattle.io_edge.specs.Reading.{GaveAtMost, NoneLost}
use Rattle.io_edge.proofs.file_shelf.read_all.Goals as goal

-- what was given up before, and in the last read
spent_on : (max n : ℕ) (first now next : Option (List ℕ)) (read : List ℕ) → length read ≡ n → n ≤ max
    → NoneLost first [] now read → GaveAtMost (max - n + 1) now next → GaveAtMost (max + 1) first next
spent_on max n None now next read size within lost spent = tt
spent_on max n (Some left) None next read size within lost spent = absurd lost
spent_on max n (Some left) (Some here) None read size within lost spent = absurd spent
spent_on max n (Some left) (Some here) (Some after) read size within lost spent = (
  read ++ spent.0,
  sym lost ∙ ap (λ bytes. read ++ bytes) spent.1 ∙ sym (append_assoc read spent.0 after),
  omega (arith, length-append read spent.0, size, within, spent.2),
)

pub returns-in_err-read_some-clause-spent : goal.returns-in_err-read_some-clause-spent
returns-in_err-read_some-clause-spent g c =
    spent_on _ _ _ _ _ c.loop-turn.bytes.items
    (sym c.loop-turn.bytes.ok.0) c.loop-turn.invariant.size c.loop-turn.invariant.read c.in_err-read_some.ensures.spent
