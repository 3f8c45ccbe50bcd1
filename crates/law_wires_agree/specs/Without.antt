-- The PC's side with something else known of a byte under way.
use Rattle.std.specs.Prelude.{true}
use Rattle.ctl_link.specs.declared.link.Link.{Link}
use Rattle.ctl_link.specs.declared.link.Link.TheVariants.{Free, Hold, Ask, Request, Busy}
use Rattle.ctl_link.specs.declared.port.LinkEnd.{LinkEnd}
use Rattle.host_turn.specs.Run.{Side}
use Rattle.ctl_wire.specs.declared.wire.Wire.{Wire}
use Rattle.ctl_wire.specs.declared.wire.Wire.TheVariants.{Recv, Send}
use Rattle.ctl_wire.specs.Wire.{is_breakable}
use Rattle.model_controller.specs.declared.UnderWay.{UnderWay}
use Rattle.model_controller.specs.ByteTime.{for_keyboard}

-- the link, with what is known of a byte under way changed by a function
abbrev pub link_by : {F G : Type 0} → (F → G) → Link F → Link G
link_by f Free = Free
link_by f (Hold since) = Hold since
link_by f (Ask byte since) = Ask byte since
link_by f (Request byte) = Request byte
link_by f (Busy x) = Busy (f x)

-- the controller with its link
abbrev pub port_by : {F G : Type 0} → (F → G) → LinkEnd F → LinkEnd G
port_by f p = record {
  core = p.core;
  filled = p.filled;
  link = link_by f p.link;
  awaits = p.awaits;
  flip = p.flip;
}

-- the PC's side
abbrev pub side_by : {F G : Type 0} → (F → G) → Side F → Side G
side_by f s = record { port = port_by f s.port; masked = s.masked; bios = s.bios; done = s.done; log = s.log }

-- the bits are left out: a byte under way comes from the keyboard, with its flip and whether it may be broken off, or
-- goes to it
abbrev pub without_bits : Wire → UnderWay
without_bits (Recv flip bits) = record { from_keyboard = true; flip = flip; breakable = is_breakable (Recv flip bits) }
without_bits (Send byte edges) = for_keyboard

-- the PC's side at its wires, as byte time sees it
abbrev pub seen_in_bytes : Side Wire → Side UnderWay
seen_in_bytes s = side_by without_bits s
