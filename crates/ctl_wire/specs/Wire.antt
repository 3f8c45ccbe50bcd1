-- The controller at its two wires: the clock's falling edges, and what it drives.
use Rattle.std.specs.Prelude.{ℕ, ◌+◌, ◌==◌, Bool, true, false, not, List, [], ◌∷◌, ◌++◌, length, set, nat_lt}
use Rattle.std.specs.Prelude.{slice_index_or, Some, None, if◌then◌else◌}
use Rattle.std.specs.declared.option.Option.{Option}
use Rattle.board_terms.specs.declared.lines.Lines.{Lines}
use Rattle.board_terms.specs.Frame.{frame_bits, byte_of}
use Rattle.ctl_link.specs.declared.link.Link.{Link}
use Rattle.ctl_link.specs.declared.link.Link.TheVariants.{Free, Hold, Ask, Request, Busy}
use Rattle.ctl_link.specs.declared.port.LinkEnd.{LinkEnd}
use Rattle.ctl_link.specs.Link.{begun, received, handed_over}
use Rattle.ctl_wire.specs.declared.wire.Wire.{Wire}
use Rattle.ctl_wire.specs.declared.wire.Wire.TheVariants.{Recv, Send}

-- a frame as it comes to the controller: noise turns round the bit with this number, if any
abbrev pub turned : Option ℕ → List Bool → List Bool
turned None bits = bits
turned (Some bit) bits = set bits bit (not (slice_index_or bits bit false))

-- a falling edge while a byte is under way, with the level of the data wire: the eleventh ends the byte
abbrev pub edge_in : ℕ → Bool → Wire → LinkEnd Wire → LinkEnd Wire
edge_in now dat (Recv flip bits) p =
    if length bits == 10 then received now (byte_of (turned flip (bits ++ dat ∷ []))) p
    else record p { link = Busy (Recv flip (bits ++ dat ∷ [])) }
edge_in now dat (Send byte edges) p =
    if edges == 10 then handed_over p else record p { link = Busy (Send byte (edges + 1)) }

-- a falling edge: a free link begins to take the keyboard's byte, with the flip that is pending; one that requests
-- begins to send its own; while the controller pulls the clock, edges are ignored
abbrev pub edge_at : ℕ → Bool → Link Wire → LinkEnd Wire → LinkEnd Wire
edge_at now dat Free p = begun (λ flip. Recv flip (dat ∷ [])) p
edge_at now dat (Hold since) p = p
edge_at now dat (Ask byte since) p = p
edge_at now dat (Request byte) p = record p { link = Busy (Send byte 1) }
edge_at now dat (Busy wire) p = edge_in now dat wire p

-- a byte of the keyboard may be broken off before its tenth falling edge
abbrev pub is_breakable : Wire → Bool
is_breakable (Recv flip bits) = nat_lt (length bits) 10
is_breakable (Send byte edges) = false

-- what the controller drives while a byte is under way: after falling edge k of its own frame, bit k + 1 of it, if
-- the first edge is 0
abbrev pub drive_in : Wire → Lines
drive_in (Recv flip bits) = record { clk = true; dat = true }
drive_in (Send byte edges) = record { clk = true; dat = slice_index_or (frame_bits byte) edges true }

-- what it drives: a hold and an ask pull the clock; a request pulls data, which is the frame's start bit
abbrev pub drive : Link Wire → Lines
drive Free = record { clk = true; dat = true }
drive (Hold since) = record { clk = false; dat = true }
drive (Ask byte since) = record { clk = false; dat = true }
drive (Request byte) = record { clk = true; dat = false }
drive (Busy wire) = drive_in wire
