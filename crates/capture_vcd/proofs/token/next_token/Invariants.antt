use Rattle.std.proofs.Common.{◌≡◌, ◌+◌, ◌<◌, length}
use Rattle.std.specs.Str.Lines.{lines}
use Rattle.capture_vcd.specs.Tokens.{left, tokens_from}
use Rattle.capture_vcd.proofs.token.next_token.Given as goal

-- the lines so far have no field
abbrev pub invariant-loop-begun : goal.invariant-loop-begun
invariant-loop-begun l = record {
  same : left l.tokens ≡ tokens_from (l.line + 1) (lines l.rest);
  fits : l.line + length l.rest < 4294967295;
}

abbrev pub decreases-loop-begun : goal.decreases-loop-begun
decreases-loop-begun l = length l.rest
