-- From the bytes of a document to its layout, or to its first fault.
use Rattle.std.specs.Prelude.{◌≡◌, ℕ, ◌+◌, if◌then◌else◌, List, [], ◌∷◌, ◌++◌, length, Option, Some, None, Result}
use Rattle.std.specs.Prelude.{Ok, Err}
use Rattle.std.specs.Str.{is_utf8}
use Rattle.toml.specs.Data.{Items, no_items, item, Members}
use Rattle.toml.specs.Parse.{parse_document}
use Rattle.layout_reader.specs.declared.entry.Entry.{Entry as LayoutEntry}
use Rattle.layout_reader.specs.declared.cause.Cause.TheVariants.{NotToml}
use Rattle.layout_reader.specs.declared.fields.Format.{Format}
use Rattle.layout_reader.specs.declared.fault.LayoutFault.{LayoutFault}
use Rattle.layout_reader.specs.declared.fault.LayoutFault.TheVariants.{Entry, Memory}
use Rattle.layout_reader.specs.Faults.{Refusal, at_entry, and_then}
use Rattle.layout_reader.specs.Entries.{entry_from}
use Rattle.layout_reader.specs.TopLevel.{header_from, elements_in}
use Rattle.layout_reader.specs.Layouts.{KeyLayout}

-- the entries after the earlier ones, each judged in its turn; they count from 1
abbrev pub entries_from : Format → List LayoutEntry → Items → Result (List LayoutEntry) Refusal
entries_from format earlier no_items = Ok earlier
entries_from format earlier (item element more) =
    and_then (at_entry (length earlier + 1) (entry_from format earlier element))
    (λ entry. entries_from format (earlier ++ entry ∷ []) more)

-- the layout of a tree, or its first fault: first the top level, which is entry 0, then the entries
unfoldable pub layout_of : Members → Result KeyLayout Refusal
layout_of top =
    and_then (at_entry 0 (header_from top))
    (λ header. and_then (entries_from header.format [] (elements_in top))
    (λ entries. Ok (record { rate = header.rate; debounce = header.debounce; entries = entries })))

-- the tree of the bytes, as `toml` reads it; bytes that aren't UTF-8 have none
unfoldable pub tree_of : List ℕ → Option Members
tree_of bytes = if is_utf8 bytes then parse_document bytes else None

abbrev pub layout_of_tree : Option Members → Result KeyLayout Refusal
layout_of_tree (Some top) = layout_of top
layout_of_tree None = at_entry 0 (Err NotToml)

-- the layout of a document, or its first fault
unfoldable pub layout_of_document : List ℕ → Result KeyLayout Refusal
layout_of_document bytes = layout_of_tree (tree_of bytes)

-- want of memory, or else the document's fault
abbrev pub IsFaultOf : {X : Type 0} → Result X Refusal → LayoutFault → Type 0
IsFaultOf meaning (Entry entry number) = meaning ≡ Err (record { entry = entry; number = number })
IsFaultOf meaning Memory = Unit {0}
