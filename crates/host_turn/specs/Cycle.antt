-- A cycle of the PC's side: what came to the controller over its link is before it, then the host acts, then a byte
-- under way is broken off for a waiting input, and the controller settles.
use Rattle.std.specs.Prelude.{ℕ, Bool, false, List, [], ◌∷◌, ◌++◌}
use Rattle.std.specs.declared.option.Option.{Option}
use Rattle.ctl_core.specs.declared.controller.Did.{Did}
use Rattle.ctl_core.specs.declared.controller.Did.TheVariants.{Nothing, ToKeyboard, Output, Pulse}
use Rattle.ctl_link.specs.declared.port.LinkEnd.{LinkEnd}
use Rattle.ctl_link.specs.Link.{Settled, broken_off, settled, port_at_start}
use Rattle.pc_tables.specs.declared.item.Item.{Item}
use Rattle.pc_tables.specs.declared.item.Item.TheVariants.{Output as OutputItem, Pulse as PulseItem}
use Rattle.int09.specs.Bios.{State}
use Rattle.host_turn.specs.declared.desk.Desk.{Desk}
use Rattle.board_terms.specs.declared.event.HostEvent.{HostEvent}
use Rattle.host_turn.specs.Host.{Host, Turn, turn, is_done}

-- the PC's side at its start, with this INT 09h
abbrev pub desk_at_start : (F : Type 0) → State → Desk F
desk_at_start F bios = record { port = port_at_start F; masked = false; bios = bios }

-- what is said of the input that was taken
abbrev pub said_of : Did → List Item
said_of Nothing = []
said_of (ToKeyboard byte) = []
said_of (Output byte) = OutputItem byte ∷ []
said_of (Pulse lines) = PulseItem lines ∷ []

-- the host's view of the desk
abbrev pub host_of : {F : Type 0} → Desk F → Host
host_of d = record { core = d.port.core; masked = d.masked; bios = d.bios; flip = d.port.flip }

-- the desk after a turn of the host
abbrev pub with_host : {F : Type 0} → Host → Desk F → Desk F
with_host h d = record {
  port = record d.port { core = h.core; flip = h.flip };
  masked = h.masked;
  bios = h.bios;
}

-- the outcome of a cycle: the state after it, what was said, in order, and whether the host's next event was done
pub record Cycled (F : Type 0) : Type 0 where
  pub desk : Desk F
  pub items : List Item
  pub done : Bool

-- the controller after the host's turn
abbrev pub port_by : {F : Type 0} → Turn → LinkEnd F → LinkEnd F
port_by t p = record p { core = t.host.core; flip = t.host.flip }

-- after the host's turn and the settling
abbrev pub ends_cycle : {F : Type 0} → Turn → Bool → Settled F → Cycled F
ends_cycle t done q = record {
  desk = record { port = q.port; masked = t.host.masked; bios = t.host.bios };
  items = t.items ++ said_of q.did;
  done = done;
}

-- a cycle, once it is known what came over the link: the host, the break of a byte under way, if it may be broken
-- off by what is known of it, and then the controller settles
abbrev pub cycled : {F : Type 0} → (F → Bool) → ℕ → Option HostEvent → Desk F → Cycled F
cycled breaks now next d =
    let t : Turn = turn now d.port.filled next (host_of d) in
    ends_cycle t (is_done now next d.port.core) (settled now (broken_off breaks now (port_by t d.port)))
