use Rattle.std.proofs.Common.{◌≡◌, drop}
use Rattle.io_edge.specs.MemoryShelf.{files_of}
use Rattle.io_edge.specs.Shelf.{bytes_under}
use Rattle.io_edge.proofs.memory_shelf.file_under.Given as goal

-- no file before this one has the name
abbrev pub invariant-loop-known : goal.invariant-loop-known
invariant-loop-known l = bytes_under l.name (files_of (drop l.known-index l.files)) ≡ bytes_under l.name (files_of l.files)
