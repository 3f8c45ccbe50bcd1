-- Data as the controller sees it: noise turns a bit of a frame of the keyboard at the controller's input.
use Rattle.std.specs.Prelude.{ℕ, ◌+◌, ◌==◌, ◌&&◌, Bool, false, not, List, length, Some, None, if◌then◌else◌}
use Rattle.std.specs.declared.option.Option.{Option}
use Rattle.board_terms.specs.declared.lines.Lines.{Lines}
use Rattle.ctl_link.specs.declared.link.Link.{Link}
use Rattle.ctl_link.specs.declared.link.Link.TheVariants.{Free, Hold, Ask, Request, Busy}
use Rattle.ctl_wire.specs.declared.wire.Wire.{Wire}
use Rattle.ctl_wire.specs.declared.wire.Wire.TheVariants.{Recv, Send}

-- the bit that noise turns is the last of those that were taken: the start is bit 0
abbrev pub is_last : Option ℕ → List Bool → Bool
is_last None bits = false
is_last (Some bit) bits = length bits == bit + 1

-- in a byte that is under way, noise turns the bit that the controller took last
abbrev pub turns_in : Wire → Bool
turns_in (Recv flip bits) = is_last flip bits
turns_in (Send byte edges) = false

-- so it is in a link, if such a byte is under way
abbrev pub turns_last : Link Wire → Bool
turns_last Free = false
turns_last (Hold since) = false
turns_last (Ask byte since) = false
turns_last (Request byte) = false
turns_last (Busy wire) = turns_in wire

-- the level of data that the controller sees: the other one as long as the clock is low in such a bit, and else that of
-- the wire
abbrev pub level_seen : Link Wire → Lines → Bool
level_seen link wires = if turns_last link && not wires.clk then not wires.dat else wires.dat
