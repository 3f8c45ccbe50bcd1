use Rattle.std.proofs.Common.{◌≡◌, false, take}
use Rattle.kbd48_call.specs.Pieces.{has_bad_file}
use Rattle.kbd48_call.proofs.bad_pieces.has_bad_file.Given as goal

-- none of the pieces so far is bad
abbrev pub invariant-loop-one : goal.invariant-loop-one
invariant-loop-one l = has_bad_file l.bytes (take l.one-index l.files) ≡ false
