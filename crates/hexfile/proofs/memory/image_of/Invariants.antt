use Rattle.std.proofs.Common.{◌≡◌, length, take}
use Rattle.hexfile.specs.Memory.{image_of}
use Rattle.hexfile.proofs.memory.image_of.Given as goal

-- the bytes so far are those of the places so far
abbrev pub invariant-loop-place : goal.invariant-loop-place
invariant-loop-place l =
    (length l.bytes ≡ 2048) × (take l.place l.bytes ≡ image_of (take l.place l.memory))
