-- An entry of a layout that a search finds, found by the name of its key.
use Rattle.std.proofs.Common.{Bool}
use Rattle.layout_reader.specs.declared.entry.Entry.{Entry}
use Rattle.layout_reader.specs.Layouts.{KeyLayout, IsKeyLayout}
use Rattle.law_typed_log.proofs.Found.{Found}
use Rattle.key_lines.proofs.Owned.{IsOwn, own-entry}

-- an entry that a search finds in a layout is found by its key's name
pub owned : (layout : KeyLayout) (p : Entry → Bool) (e : Entry) → IsKeyLayout layout → Found p layout.entries e → IsOwn layout e
owned layout p e is found = own-entry layout e is found.is.key found.own
