-- The host in a cycle: its next event, if it is due, and then INT 09h's read, if the interrupt comes through.
use Rattle.std.specs.Prelude.{ℕ, ◌+◌, Bool, true, false, not, ◌&&◌, nat_le, List, [], ◌∷◌, ◌++◌, Some, None}
use Rattle.std.specs.Prelude.{is_some, if◌then◌else◌}
use Rattle.std.specs.declared.option.Option.{Option}
use Rattle.ctl_core.specs.Controller.{ControllerState, written, emptied, status_of, interrupt_enabled}
use Rattle.ctl_core.specs.declared.port.Port.TheVariants.{P60, P64}
use Rattle.pc_tables.specs.declared.item.Item.{Item}
use Rattle.pc_tables.specs.declared.item.Item.TheVariants.{Port, Read, Taken, Status}
use Rattle.int09.specs.Bios.{State, Effect, first_word, without_first}
use Rattle.int09.specs.Rules.{fed}
use Rattle.board_terms.specs.declared.event.HostAct.{HostAct}
use Rattle.board_terms.specs.declared.event.HostAct.TheVariants.{Write60, Write64, Read60, Mask, Unmask, Take, Flip}
use Rattle.board_terms.specs.declared.event.HostAct.TheVariants.{Status as AskStatus}
use Rattle.board_terms.specs.declared.event.HostEvent.{HostEvent}

-- what the host sees and changes: the controller's buffers, whether it has masked the interrupt, and INT 09h; and the
-- bit that noise turns round in the next frame of the keyboard, or none
pub record Host : Type 0 where
  pub core : ControllerState
  pub masked : Bool
  pub bios : State
  pub flip : Option ℕ

-- the outcome of a turn: the state after it, what was said, in order
pub record Turn : Type 0 where
  pub host : Host
  pub items : List Item

-- nothing was said
abbrev pub in_silence : Host → Turn
in_silence h = record { host = h; items = [] }

-- what an event does, and what is said of it
abbrev pub acted : HostAct → Host → Turn
acted (Write60 byte) h = in_silence (record h { core = written P60 byte h.core })
acted (Write64 byte) h = in_silence (record h { core = written P64 byte h.core })
acted Read60 h = record { host = record h { core = emptied h.core }; items = Read h.core.output ∷ [] }
acted Mask h = in_silence (record h { masked = true })
acted Unmask h = in_silence (record h { masked = false })
acted Take h = record { host = record h { bios = without_first h.bios }; items = Taken (first_word h.bios) ∷ [] }
acted AskStatus h = record { host = h; items = Status (status_of h.core) ∷ [] }
acted (Flip bit) h = in_silence (record h { flip = Some bit })

-- a write waits while the input buffer is full
abbrev pub waits : HostAct → ControllerState → Bool
waits (Write60 byte) s = is_some s.input
waits (Write64 byte) s = is_some s.input
waits Read60 s = false
waits Mask s = false
waits Unmask s = false
waits Take s = false
waits AskStatus s = false
waits (Flip bit) s = false

-- whether the next event is done in this cycle. Cycle 4,096 is stamp 0
abbrev pub is_done : ℕ → Option HostEvent → ControllerState → Bool
is_done now None s = false
is_done now (Some event) s = nat_le (event.stamp + 4096) now && not (waits event.act s)

-- what the event does, if it is done in this cycle; else nothing is done and said
abbrev pub acted_where : Bool → HostAct → Host → Turn
acted_where done act h = if done then acted act h else in_silence h

-- the event, if it is done
abbrev pub event_turn : ℕ → Option HostEvent → Host → Turn
event_turn now None h = in_silence h
event_turn now (Some event) h = acted_where (is_done now (Some event) h.core) event.act h

-- whether the byte is read: the output buffer is full since 64 cycles at least, and the interrupt is enabled and not
-- masked
abbrev pub interrupts : ℕ → ℕ → Host → Bool
interrupts now filled h =
    h.core.output_full && interrupt_enabled h.core && not h.masked && nat_le (filled + 64) now

-- INT 09h reads the byte: `port` with it, and then what INT 09h says
abbrev pub read_by_bios : Host → Turn
read_by_bios h =
    let o : Effect = fed h.core.output h.bios in
    record { host = record h { core = emptied h.core; bios = o.after }; items = Port h.core.output ∷ o.items }

-- INT 09h reads the byte if the interrupt comes through; else nothing is done and said
abbrev pub bios_turn : ℕ → ℕ → Host → Turn
bios_turn now filled h = if interrupts now filled h then read_by_bios h else in_silence h

-- the host's turn: the event, and then the read
abbrev pub turn : ℕ → ℕ → Option HostEvent → Host → Turn
turn now filled next h =
    let first : Turn = event_turn now next h in
    let second : Turn = bios_turn now filled first.host in
    record { host = second.host; items = first.items ++ second.items }
