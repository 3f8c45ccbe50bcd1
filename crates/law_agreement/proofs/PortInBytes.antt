-- The controller with what the host wrote as a byte: whatever is done to it, what is in the input buffer and on the
-- link stays one.
use Rattle.std.proofs.Common.{◌<◌, ℕ, suc, zero, ◌+◌, List, [], ◌∷◌, Bool, true, false, ◌||◌, Some, None}
use Rattle.std.proofs.Common.{arith}
use Rattle.std.specs.Prelude.{if◌then◌else◌, nat_le, slice_get}
use Rattle.std.specs.Option.{option_map_or}
use Rattle.std.specs.declared.option.Option.{Option}
use Rattle.std.proofs.lemmas.List.Elements.{All-head, All-tail}
use Rattle.board_terms.specs.declared.event.HostAct.{HostAct}
use Rattle.board_terms.specs.declared.event.HostAct.TheVariants.{Write60, Write64, Read60, Mask, Unmask, Take, Status}
use Rattle.board_terms.specs.declared.event.HostAct.TheVariants.{Flip}
use Rattle.board_terms.specs.declared.event.HostEvent.{HostEvent}
use Rattle.ctl_core.specs.Controller.{ControllerState, is_disabled, put_out}
use Rattle.ctl_core.specs.Commands.{Taken, taken, taken_from, taken_by, passed, commanded, command_of}
use Rattle.ctl_core.specs.Controller.{asks_again, gave_up}
use Rattle.ctl_core.specs.Translation.{translation, translates}
use Rattle.ctl_core.specs.declared.port.Input.{Input}
use Rattle.ctl_core.specs.declared.port.Port.{Port as HostPort}
use Rattle.ctl_core.specs.declared.port.Port.TheVariants.{P60, P64}
use Rattle.ctl_core.specs.declared.command.Parameter.{Parameter}
use Rattle.ctl_core.specs.declared.command.Parameter.TheVariants.{CommandByte, OutputPort}
use Rattle.ctl_core.specs.declared.command.Command.{Command}
use Rattle.ctl_core.specs.declared.command.Command.TheVariants.{ReadCommandByte, WriteCommandByte, SelfTest}
use Rattle.ctl_core.specs.declared.command.Command.TheVariants.{InterfaceTest, Disable, Enable, ReadInputPort}
use Rattle.ctl_core.specs.declared.command.Command.TheVariants.{ReadOutputPort, WriteOutputPort, PulseOutput, Unlisted}
use Rattle.ctl_core.specs.declared.controller.Did.{Did}
use Rattle.ctl_core.specs.declared.controller.Did.TheVariants.{Nothing, ToKeyboard, Output, Pulse}
use Rattle.ctl_core.specs.declared.translation.Translated.{Translated}
use Rattle.ctl_link.specs.declared.link.Link.{Link}
use Rattle.ctl_link.specs.declared.link.Link.TheVariants.{Free, Hold, Ask, Request, Busy}
use Rattle.ctl_link.specs.declared.port.LinkEnd.{LinkEnd}
use Rattle.ctl_link.specs.Link.{settled, asking, took_where, takes_input, held_since, link_after, received}
use Rattle.host_turn.specs.Host.{Host, acted, acted_where, event_turn, read_by_bios, in_silence, is_done}
use Rattle.model_controller.specs.declared.UnderWay.{UnderWay}
use Rattle.model_controller.specs.ByteTime.{Event, Quiet, Begins, Closes, Arrives, IsWhole, happened_at, arrived_in, arriving}
use Rattle.model_controller.specs.ByteTime.{closed}
use Rattle.key_file.specs.Accepted.{WritesByte, AreWritten}
use Rattle.law_agreement.specs.Bytes.{HoldsByte, AsksByte, IsPortInBytes}

-- the next event, where there is one, writes a byte
abbrev WritesNext : Option HostEvent → Type 0
WritesNext None = Unit {0}
WritesNext (Some event) = WritesByte event.act

-- if all events that write write bytes, the next one does
pub writes_next : (events : List HostEvent) (k : ℕ) → AreWritten events → WritesNext (slice_get events k)
writes_next [] k written = tt
writes_next (e ∷ es) zero written = All-head (λ event. WritesByte event.act) e es written
writes_next (e ∷ es) (suc k) written = writes_next es k (All-tail (λ event. WritesByte event.act) e es written)

-- the host's turn: a write fills the input buffer with its byte, and nothing else touches it
acted_in : (act : HostAct) (h : Host) → WritesByte act → HoldsByte h.core.input
    → HoldsByte (acted act h).host.core.input
acted_in (Write60 byte) h w i = w
acted_in (Write64 byte) h w i = w
acted_in Read60 h w i = i
acted_in Mask h w i = i
acted_in Unmask h w i = i
acted_in Take h w i = i
acted_in Status h w i = i
acted_in (Flip bit) h w i = i

-- the event, where it is done
where_in : (done : Bool) (act : HostAct) (h : Host) → WritesByte act → HoldsByte h.core.input
    → HoldsByte (acted_where done act h).host.core.input
where_in true act h w i = acted_in act h w i
where_in false act h w i = i

-- the next event, where it is due
pub event_in : (now : ℕ) (next : Option HostEvent) (h : Host) → WritesNext next → HoldsByte h.core.input
    → HoldsByte (event_turn now next h).host.core.input
event_in now None h w i = i
event_in now (Some event) h w i = where_in (is_done now (Some event) h.core) event.act h w i

-- the read of INT 09h
pub read_in : (reads : Bool) (h : Host) → HoldsByte h.core.input
    → HoldsByte (if reads then read_by_bios h else in_silence h).host.core.input
read_in true h i = i
read_in false h i = i

-- what is reported of an input taken: a byte for the keyboard is below 256
abbrev SaysByte : Did → Type 0
SaysByte Nothing = Unit {0}
SaysByte (ToKeyboard byte) = byte < 256
SaysByte (Output byte) = Unit {0}
SaysByte (Pulse lines) = Unit {0}

abbrev IsTaken : Taken → Type 0
IsTaken t = HoldsByte t.state.input × SaysByte t.did

-- a command asks the keyboard for nothing
commanded_in : (c : Command) (s : ControllerState) → HoldsByte s.input → IsTaken (commanded c s)
commanded_in ReadCommandByte s i = (i, tt)
commanded_in WriteCommandByte s i = (i, tt)
commanded_in SelfTest s i = (i, tt)
commanded_in InterfaceTest s i = (i, tt)
commanded_in Disable s i = (i, tt)
commanded_in Enable s i = (i, tt)
commanded_in ReadInputPort s i = (i, tt)
commanded_in ReadOutputPort s i = (i, tt)
commanded_in WriteOutputPort s i = (i, tt)
commanded_in (PulseOutput lines) s i = (i, tt)
commanded_in Unlisted s i = (i, tt)

-- a byte of 60h is passed on, or is a parameter
passed_in : (o : Option Parameter) (byte : ℕ) (s : ControllerState) → byte < 256 → HoldsByte s.input
    → IsTaken (passed o byte s)
passed_in None byte s b i = (i, b)
passed_in (Some CommandByte) byte s b i = (i, tt)
passed_in (Some OutputPort) byte s b i = (i, tt)

-- a byte by its port leaves the input buffer empty
by_in : (port : HostPort) (byte : ℕ) (s : ControllerState) → byte < 256 → IsTaken (taken_by port byte s)
by_in P60 byte s b = passed_in s.awaited byte (record s { input = None; awaited = None }) b tt
by_in P64 byte s b = commanded_in (command_of byte) (record s { input = None; awaited = None }) tt

abbrev IsTakenWhere : Option Taken → Type 0
IsTakenWhere None = Unit {0}
IsTakenWhere (Some t) = IsTaken t

-- the input buffer's byte, where there is one and the output buffer is empty
from_in : (input : Option Input) (s : ControllerState) → HoldsByte input → IsTakenWhere (taken_from input s)
from_in None s i = tt
from_in (Some input) s i = by_in input.port input.byte s i

unless_full : (full : Bool) (t : Option Taken) → IsTakenWhere t → IsTakenWhere (if full then None else t)
unless_full true t i = tt
unless_full false t i = i

-- what is reported becomes what is asked for
asking_in : {F : Type 0} (since : ℕ) (d : Did) (l : Link F) → SaysByte d → AsksByte l → AsksByte (asking since d l)
asking_in since Nothing l t a = a
asking_in since (ToKeyboard byte) l t a = t
asking_in since (Output byte) l t a = a
asking_in since (Pulse lines) l t a = a

-- the input is taken
took_in : {F : Type 0} (now : ℕ) (since : Option ℕ) (input : Option Taken) (p : LinkEnd F) → IsTakenWhere input → IsPortInBytes p
    → IsPortInBytes (took_where now since input p).port
took_in now None input p t b = b
took_in now (Some since) None p t b = b
took_in now (Some since) (Some x) p t b = (t.0, asking_in since x.did p.link t.1 b.1)

-- the link by itself
either : {F : Type 0} (b : Bool) (k l : Link F) → AsksByte k → AsksByte l → AsksByte (if b then k else l)
either true k l ak al = ak
either false k l ak al = al

after_in : {F : Type 0} (now : ℕ) (stop awaits : Bool) (l : Link F) → AsksByte l → AsksByte (link_after now stop awaits l)
after_in now stop true Free a = tt
after_in now true false Free a = tt
after_in now false false Free a = tt
after_in now true awaits (Hold since) a = tt
after_in now false awaits (Hold since) a = either (nat_le (since + 64) now) Free (Hold since) tt tt
after_in now stop awaits (Ask byte since) a = either (nat_le (since + 64) now) (Request byte) (Ask byte since) a a
after_in now stop awaits (Request byte) a = a
after_in now stop awaits (Busy under_way) a = tt

-- the settling: the input is taken, and the link changes
pub settled_in : {F : Type 0} (now : ℕ) (p : LinkEnd F) → IsPortInBytes p → IsPortInBytes (settled now p).port
settled_in now p b =
    let input : Option Taken = if p.core.output_full then None else taken p.core in
    let full = unless_full p.core.output_full (taken p.core) (from_in p.core.input p.core b.0) in
    let took = took_in now (held_since now p.awaits p.link) input p full b in
    let q = (takes_input now p).port in
    (took.0, after_in now (q.core.output_full || is_disabled q.core) q.awaits q.link took.1)

-- what comes over the link leaves the input buffer; a byte that came wrong is asked for again by FE
put_in : (o : Option ℕ) (s : ControllerState) → HoldsByte s.input
    → HoldsByte (option_map_or (λ byte. put_out byte s) o s).input
put_in None s i = i
put_in (Some byte) s i = i

wrong_in : (again : Bool) (s : ControllerState) → HoldsByte s.input
    → HoldsByte (if again then record s { resends = s.resends + 1 } else gave_up s).input
wrong_in true s i = i
wrong_in false s i = i

-- what the controller does with what came keeps that all its bytes are bytes
pub received_in : {F : Type 0} (now : ℕ) (came : Option ℕ) (p : LinkEnd F) → IsPortInBytes p → IsPortInBytes (received now came p)
received_in now (Some byte) p b =
    let t : Translated = translation (translates p.core) p.core.break_mark byte in
    (put_in t.byte (record p.core { break_mark = t.mark; resends = 0 }) b.0, tt)
received_in now None p b =
    (wrong_in (asks_again p.core) p.core b.0, either (asks_again p.core) (Ask 0xfe now) (Hold now) (omega arith) tt)

-- where a byte is under way
arrived_at : (now byte : ℕ) (l : Link UnderWay) (p : LinkEnd UnderWay) → IsPortInBytes p
    → IsPortInBytes (arrived_in now byte l p)
arrived_at now byte Free p b = b
arrived_at now byte (Hold since) p b = b
arrived_at now byte (Ask asked since) p b = b
arrived_at now byte (Request asked) p b = b
arrived_at now byte (Busy u) p b = received_in now (arriving u.flip byte) p b

closed_in : (l : Link UnderWay) → AsksByte l → AsksByte (closed l)
closed_in Free a = a
closed_in (Hold since) a = a
closed_in (Ask byte since) a = a
closed_in (Request byte) a = a
closed_in (Busy u) a = tt

-- what comes over the link keeps that all the controller's bytes are bytes
pub happened_in : (now : ℕ) (event : Event) (p : LinkEnd UnderWay) → IsPortInBytes p
    → IsPortInBytes (happened_at now event p)
happened_in now Quiet p b = b
happened_in now (Begins true) p b = (b.0, tt)
happened_in now (Begins false) p b = (b.0, tt)
happened_in now Closes p b = (b.0, closed_in p.link b.1)
happened_in now (Arrives byte) p b = arrived_at now byte p.link p b
happened_in now IsWhole p b = (b.0, tt)

-- a byte that is broken off leaves a hold
pub broken_in : {F : Type 0} (breaks : Bool) (now : ℕ) (p : LinkEnd F) → IsPortInBytes p
    → IsPortInBytes (if breaks then record p { link = Hold now } else p)
broken_in true now p b = (b.0, tt)
broken_in false now p b = b
