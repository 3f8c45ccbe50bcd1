use Rattle.std.proofs.Common.{◌≡◌, false, take}
use Rattle.kbd48_call.specs.Pieces.{has_bad_word}
use Rattle.kbd48_call.proofs.bad_pieces.has_bad_word.Given as goal

-- none of the pieces so far is bad
abbrev pub invariant-loop-word : goal.invariant-loop-word
invariant-loop-word l = has_bad_word l.bytes (take l.word-index l.words) ≡ false
