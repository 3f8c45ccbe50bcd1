-- Nothing but a byte of the keyboard that arrives changes the count of resends.
use Rattle.std.proofs.Common.{◌≡◌, ℕ, Bool, true, false, not, ◌&&◌, Some, None, refl, ◌∙◌}
use Rattle.std.specs.Prelude.{if◌then◌else◌, is_some}
use Rattle.std.specs.declared.option.Option.{Option}
use Rattle.board_terms.specs.declared.event.HostAct.{HostAct}
use Rattle.board_terms.specs.declared.event.HostAct.TheVariants.{Write60, Write64, Read60, Mask, Unmask, Take, Status, Flip}
use Rattle.board_terms.specs.declared.event.HostEvent.{HostEvent}
use Rattle.model_controller.specs.declared.UnderWay.{UnderWay}
use Rattle.model_controller.specs.ByteTime.{is_open}
use Rattle.ctl_core.specs.Controller.{ControllerState}
use Rattle.ctl_core.specs.Commands.{command_of, commanded, passed, taken_by, taken_from, taken}
use Rattle.ctl_core.specs.declared.port.Port.{Port as Address}
use Rattle.ctl_core.specs.declared.port.Port.TheVariants.{P60, P64}
use Rattle.ctl_core.specs.declared.port.Input.{Input}
use Rattle.ctl_core.specs.declared.command.Parameter.{Parameter}
use Rattle.ctl_core.specs.declared.command.Parameter.TheVariants.{CommandByte, OutputPort}
use Rattle.ctl_core.specs.declared.command.Command.{Command}
use Rattle.ctl_core.specs.declared.command.Command.TheVariants.{ReadCommandByte, WriteCommandByte, SelfTest, InterfaceTest, Disable, Enable}
use Rattle.ctl_core.specs.declared.command.Command.TheVariants.{ReadInputPort, ReadOutputPort, WriteOutputPort, PulseOutput, Unlisted}
use Rattle.ctl_link.specs.declared.link.Link.TheVariants.{Hold}
use Rattle.ctl_link.specs.declared.port.LinkEnd.{LinkEnd}
use Rattle.ctl_link.specs.Link.{held_since, took_where, may_break, broken_off}
use Rattle.host_turn.specs.Host.{Host, acted, acted_where, event_turn, interrupts, read_by_bios, in_silence, is_done, turn}
use Rattle.host_turn.specs.Cycle.{host_of, port_by}
use Rattle.law_noisy_link.proofs.Cycles.{Stays}

-- the host's turn
acted_so : (act : HostAct) (h : Host) → (acted act h).host.core.resends ≡ h.core.resends
acted_so (Write60 byte) h = refl
acted_so (Write64 byte) h = refl
acted_so Read60 h = refl
acted_so Mask h = refl
acted_so Unmask h = refl
acted_so Take h = refl
acted_so Status h = refl
acted_so (Flip bit) h = refl

where_so : (done : Bool) (act : HostAct) (h : Host) → (acted_where done act h).host.core.resends ≡ h.core.resends
where_so true act h = acted_so act h
where_so false act h = refl

event_so : (now : ℕ) (next : Option HostEvent) (h : Host) → (event_turn now next h).host.core.resends ≡ h.core.resends
event_so now None h = refl
event_so now (Some event) h = where_so (is_done now (Some event) h.core) event.act h

read_so : (reads : Bool) (h : Host) → (if reads then read_by_bios h else in_silence h).host.core.resends ≡ h.core.resends
read_so true h = refl
read_so false h = refl

turn_so : (now filled : ℕ) (next : Option HostEvent) (h : Host) → (turn now filled next h).host.core.resends ≡ h.core.resends
turn_so now filled next h =
    let first : Host = (event_turn now next h).host in
    read_so (interrupts now filled first) first ∙ event_so now next h

-- the input
commanded_so : (command : Command) (s : ControllerState) → (commanded command s).state.resends ≡ s.resends
commanded_so ReadCommandByte s = refl
commanded_so WriteCommandByte s = refl
commanded_so SelfTest s = refl
commanded_so InterfaceTest s = refl
commanded_so Disable s = refl
commanded_so Enable s = refl
commanded_so ReadInputPort s = refl
commanded_so ReadOutputPort s = refl
commanded_so WriteOutputPort s = refl
commanded_so (PulseOutput lines) s = refl
commanded_so Unlisted s = refl

passed_so : (awaited : Option Parameter) (byte : ℕ) (s : ControllerState) → (passed awaited byte s).state.resends ≡ s.resends
passed_so (Some CommandByte) byte s = refl
passed_so (Some OutputPort) byte s = refl
passed_so None byte s = refl

taken_so : (port : Address) (byte : ℕ) (s : ControllerState) → (taken_by port byte s).state.resends ≡ s.resends
taken_so P60 byte s = passed_so s.awaited byte (record s { input = None; awaited = None })
taken_so P64 byte s = commanded_so (command_of byte) (record s { input = None; awaited = None })

input_so : (now : ℕ) (held : Option ℕ) (input : Option Input) (p : LinkEnd UnderWay)
    → (took_where now held (taken_from input p.core) p).port.core.resends ≡ p.core.resends
input_so now None input p = refl
input_so now (Some since) None p = refl
input_so now (Some since) (Some input) p = taken_so input.port input.byte p.core

takes_so : (now : ℕ) (held : Option ℕ) (full : Bool) (p : LinkEnd UnderWay)
    → (took_where now held (if full then None else taken p.core) p).port.core.resends ≡ p.core.resends
takes_so now None true p = refl
takes_so now (Some since) true p = refl
takes_so now held false p = input_so now held p.core.input p

broken_so : (breaks : Bool) (now : ℕ) (p : LinkEnd UnderWay)
    → (if breaks then record p { link = Hold now } else p).core.resends ≡ p.core.resends
broken_so true now p = refl
broken_so false now p = refl

-- a cycle
abbrev pub Counts : ℕ → LinkEnd UnderWay → Type 0
Counts resends p = p.core.resends ≡ resends

-- while nothing comes over the link the count of resends stays
pub counts_stay : (resends : ℕ) → Stays (Counts resends)
counts_stay resends now next d h =
    let p : LinkEnd UnderWay = port_by (turn now d.port.filled next (host_of d)) d.port in
    let q : LinkEnd UnderWay = broken_off is_open now p in
    takes_so now (held_since now q.awaits q.link) q.core.output_full q
    ∙ broken_so (may_break is_open p.link && not p.awaits && is_some p.core.input) now p
    ∙ turn_so now d.port.filled next (host_of d) ∙ h
