use Rattle.std.proofs.Common.{◌≡◌, ◌+◌, ◌++◌, take, drop, map, Some}
use Rattle.hexfile.proofs.memory.place.Given as goal

-- the memory with the data so far from the address on
abbrev pub invariant-loop-offset : goal.invariant-loop-offset
invariant-loop-offset l =
    l.memory ≡ take l.address l.initial.memory ++ map Some (take l.offset l.byte-items) ++ drop (l.address + l.offset) l.initial.memory
