use Rattle.std.proofs.Common.{◌≡◌, ◌++◌, drop}
use Rattle.capture_keys.specs.KeyTexts.{lines_text}
use Rattle.capture_keys.proofs.key_text.push_lines.Given as goal

-- the lines so far are written
abbrev pub invariant-loop-line : goal.invariant-loop-line
invariant-loop-line l = l.text.items ++ lines_text (drop l.line-index l.lines) ≡ l.initial.text.items ++ lines_text l.lines
