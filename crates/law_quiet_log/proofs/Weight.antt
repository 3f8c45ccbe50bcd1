-- What is said so far, and what is still to be read, against what has begun and what is done.
use Rattle.std.proofs.Common.{◌≡◌, ℕ, ◌+◌, ◌*◌, ◌≤◌, ◌<◌, List, length, Bool, true, false, not, ◌&&◌, Some, None, refl, ap, arith}
use Rattle.std.specs.Prelude.{if◌then◌else◌, nat_le, is_some, slice_get}
use Rattle.std.specs.declared.option.Option.{Option}
use Rattle.std.proofs.lemmas.List.{length-append, length-map}
use Rattle.std.proofs.lemmas.Option.{slice_get_within}
use Rattle.board_terms.specs.declared.event.HostAct.{HostAct}
use Rattle.board_terms.specs.declared.event.HostAct.TheVariants.{Write60, Write64, Read60, Mask, Unmask, Take, Flip, Status as AskStatus}
use Rattle.board_terms.specs.declared.event.HostEvent.{HostEvent}
use Rattle.ctl_core.specs.Controller.{ControllerState, interrupt_enabled}
use Rattle.ctl_core.specs.Commands.{taken_by, taken_from, commanded, command_of, passed}
use Rattle.ctl_core.specs.declared.command.Command.{Command}
use Rattle.ctl_core.specs.declared.command.Command.TheVariants.{ReadCommandByte, WriteCommandByte, SelfTest, InterfaceTest, Disable, Enable}
use Rattle.ctl_core.specs.declared.command.Command.TheVariants.{ReadInputPort, ReadOutputPort, WriteOutputPort, PulseOutput, Unlisted}
use Rattle.ctl_core.specs.declared.command.Parameter.{Parameter}
use Rattle.ctl_core.specs.declared.command.Parameter.TheVariants.{CommandByte, OutputPort}
use Rattle.ctl_core.specs.declared.port.Port.{Port as InputPort}
use Rattle.ctl_core.specs.declared.port.Port.TheVariants.{P60, P64}
use Rattle.ctl_core.specs.declared.port.Input.{Input}
use Rattle.ctl_link.specs.declared.link.Link.TheVariants.{Hold}
use Rattle.host_turn.specs.declared.desk.Desk.{Desk}
use Rattle.ctl_link.specs.declared.port.LinkEnd.{LinkEnd}
use Rattle.ctl_link.specs.Link.{took_where, held_since, settled, broken_off, may_break}
use Rattle.host_turn.specs.Host.{Host, Turn, in_silence, read_by_bios, acted, acted_where, is_done, event_turn, interrupts, bios_turn, turn}
use Rattle.host_turn.specs.Cycle.{said_of, Cycled, cycled, host_of, port_by}
use Rattle.host_turn.specs.Run.{Side, desk_of, stamped, goes_on}
use Rattle.law_quiet_log.proofs.Said.{short_fed}

-- a byte that waits to be read is worth three items: `port` and what INT 09h says; one for the controller is worth four:
-- what the controller says of it and the byte that it may put out
abbrev pub of_output : Bool → ℕ
of_output full = if full then 3 else 0

abbrev pub of_input : Option Input → ℕ
of_input None = 0
of_input (Some input) = 4

abbrev pub weight : ControllerState → ℕ
weight c = of_output c.output_full + of_input c.input

-- a full output buffer is worth three items at most
pub output_most : (b : Bool) → of_output b ≤ 3
output_most true = omega arith
output_most false = omega arith

-- an event that is done is worth four
abbrev of_event : Bool → ℕ
of_event done = if done then 4 else 0

-- an event of the host
after_act : (act : HostAct) (h : Host) → length (acted act h).items + weight (acted act h).host.core ≤ weight h.core + 4
after_act (Write60 byte) h = omega arith
after_act (Write64 byte) h = omega arith
after_act Read60 h = omega arith
after_act Mask h = omega arith
after_act Unmask h = omega arith
after_act Take h = omega arith
after_act AskStatus h = omega arith
after_act (Flip bit) h = omega arith

after_act_where : (done : Bool) (act : HostAct) (h : Host)
    → length (acted_where done act h).items + weight (acted_where done act h).host.core ≤ weight h.core + of_event done
after_act_where true act h = after_act act h
after_act_where false act h = omega arith

after_event : (now : ℕ) (next : Option HostEvent) (h : Host)
    → length (event_turn now next h).items + weight (event_turn now next h).host.core ≤ weight h.core + of_event (is_done now next h.core)
after_event now None h = omega arith
after_event now (Some event) h = after_act_where (is_done now (Some event) h.core) event.act h

-- INT 09h's read, where the output buffer is full
after_read : (reads : Bool) (h : Host) → (reads ≡ true → h.core.output_full ≡ true)
    → length (if reads then read_by_bios h else in_silence h).items
    + weight (if reads then read_by_bios h else in_silence h).host.core ≤ weight h.core
after_read false h e = omega arith
after_read true h e =
    let w : of_output h.core.output_full ≡ 3 = ap of_output (e refl) in
    let s = (short_fed h.core.output h.bios).few in
    omega (arith, w, s)

is_full : (a b c d : Bool) → (a && b && c && d) ≡ true → a ≡ true
is_full true b c d e = refl
is_full false b c d e = absurd cc

after_bios : (now filled : ℕ) (h : Host)
    → length (bios_turn now filled h).items + weight (bios_turn now filled h).host.core ≤ weight h.core
after_bios now filled h =
    after_read (interrupts now filled h) h
    (is_full h.core.output_full (interrupt_enabled h.core) (not h.masked) (nat_le (filled + 64) now))

-- the host's turn
after_turn : (now filled : ℕ) (next : Option HostEvent) (h : Host)
    → length (turn now filled next h).items + weight (turn now filled next h).host.core
    ≤ weight h.core + of_event (is_done now next h.core)
after_turn now filled next h =
    let first : Turn = event_turn now next h in
    let a = length-append first.items (bios_turn now filled first.host).items in
    let b = after_event now next h in
    let c = after_bios now filled first.host in
    omega (arith, a, b, c)

-- an input that is taken
after_command : (c : Command) (s : ControllerState) → s.input ≡ None
    → length (said_of (commanded c s).did) + weight (commanded c s).state ≤ 4
after_command ReadCommandByte s e = let i : of_input s.input ≡ 0 = ap of_input e in omega (arith, i)
after_command WriteCommandByte s e =
    let i : of_input s.input ≡ 0 = ap of_input e in let o = output_most s.output_full in omega (arith, i, o)
after_command SelfTest s e = let i : of_input s.input ≡ 0 = ap of_input e in omega (arith, i)
after_command InterfaceTest s e = let i : of_input s.input ≡ 0 = ap of_input e in omega (arith, i)
after_command Disable s e =
    let i : of_input s.input ≡ 0 = ap of_input e in let o = output_most s.output_full in omega (arith, i, o)
after_command Enable s e =
    let i : of_input s.input ≡ 0 = ap of_input e in let o = output_most s.output_full in omega (arith, i, o)
after_command ReadInputPort s e = let i : of_input s.input ≡ 0 = ap of_input e in omega (arith, i)
after_command ReadOutputPort s e = let i : of_input s.input ≡ 0 = ap of_input e in omega (arith, i)
after_command WriteOutputPort s e =
    let i : of_input s.input ≡ 0 = ap of_input e in let o = output_most s.output_full in omega (arith, i, o)
after_command (PulseOutput lines) s e =
    let i : of_input s.input ≡ 0 = ap of_input e in let o = output_most s.output_full in omega (arith, i, o)
after_command Unlisted s e =
    let i : of_input s.input ≡ 0 = ap of_input e in let o = output_most s.output_full in omega (arith, i, o)

after_byte : (awaited : Option Parameter) (byte : ℕ) (s : ControllerState) → s.input ≡ None
    → length (said_of (passed awaited byte s).did) + weight (passed awaited byte s).state ≤ 4
after_byte (Some CommandByte) byte s e =
    let i : of_input s.input ≡ 0 = ap of_input e in let o = output_most s.output_full in omega (arith, i, o)
after_byte (Some OutputPort) byte s e =
    let i : of_input s.input ≡ 0 = ap of_input e in let o = output_most s.output_full in omega (arith, i, o)
after_byte None byte s e =
    let i : of_input s.input ≡ 0 = ap of_input e in let o = output_most s.output_full in omega (arith, i, o)

after_input : (port : InputPort) (byte : ℕ) (s : ControllerState)
    → length (said_of (taken_by port byte s).did) + weight (taken_by port byte s).state ≤ 4
after_input P60 byte s = after_byte s.awaited byte (record s { input = None; awaited = None }) refl
after_input P64 byte s = after_command (command_of byte) (record s { input = None; awaited = None }) refl

-- where it may be taken, and there is one
module _ {F : Type 0} where
  after_took : (now : ℕ) (held : Option ℕ) (full : Bool) (input : Option Input) (p : LinkEnd F)
      → p.core.output_full ≡ full → p.core.input ≡ input
      → length (said_of (took_where now held (if full then None else taken_from input p.core) p).did)
      + weight (took_where now held (if full then None else taken_from input p.core) p).port.core ≤ weight p.core
  after_took now None full input p f e = omega arith
  after_took now (Some since) true input p f e = omega arith
  after_took now (Some since) false None p f e = omega arith
  after_took now (Some since) false (Some input) p f e =
      let i : of_input p.core.input ≡ 4 = ap of_input e in
      let t = after_input input.port input.byte p.core in
      omega (arith, i, t)

  after_settled : (now : ℕ) (p : LinkEnd F)
      → length (said_of (settled now p).did) + weight (settled now p).port.core ≤ weight p.core
  after_settled now p =
      after_took now (held_since now p.awaits p.link) p.core.output_full p.core.input p refl refl

  -- a break changes the link alone
  same_core : (b : Bool) (now : ℕ) (p : LinkEnd F) → (if b then record p { link = Hold now } else p).core ≡ p.core
  same_core true now p = refl
  same_core false now p = refl

  -- a cycle
  after_cycle : (breaks : F → Bool) (now : ℕ) (next : Option HostEvent) (d : Desk F)
      → length (cycled breaks now next d).items + weight (cycled breaks now next d).desk.port.core
      ≤ weight d.port.core + of_event (cycled breaks now next d).done
  after_cycle breaks now next d =
      let t : Turn = turn now d.port.filled next (host_of d) in
      let p : LinkEnd F = port_by t d.port in
      let q : LinkEnd F = broken_off breaks now p in
      let a = length-append t.items (said_of (settled now q).did) in
      let b = after_turn now d.port.filled next (host_of d) in
      let c : weight q.core ≡ weight p.core =
      ap weight (same_core (may_break breaks p.link && not p.awaits && is_some p.core.input) now p) in
      let e = after_settled now q in
      omega (arith, a, b, c, e)

-- what is said is within four for each event that is done and so much; no more events are done than there are
pub record IsWithin (events : List HostEvent) {F : Type 0} (k : ℕ) (s : Side F) : Type 0 where
  pub said : length s.log + weight s.port.core ≤ k + 4 * s.done
  pub done : s.done ≤ length events

counted : (b : Bool) (n : ℕ) → 4 * (if b then n + 1 else n) ≡ 4 * n + of_event b
counted true n = omega arith
counted false n = omega arith

-- an event that is done is one of them
was_next : (events : List HostEvent) (n now : ℕ) (o : Option HostEvent) (c : ControllerState) → slice_get events n ≡ o
    → is_done now o c ≡ true → n < length events
was_next events n now None c h e = absurd cc
was_next events n now (Some event) c h e = slice_get_within events n event h

still : (b : Bool) (n m : ℕ) → n ≤ m → (b ≡ true → n < m) → (if b then n + 1 else n) ≤ m
still true n m h g = let k = g refl in omega (arith, k)
still false n m h g = h

-- a cycle in which nothing comes over the link keeps what is said within four for each event that is done
pub goes_within : {F : Type 0} (breaks : F → Bool) (events : List HostEvent) (now k : ℕ) (s : Side F) → IsWithin events k s
    → IsWithin events k (goes_on breaks events now s)
unfolding goes_on
goes_within {F} breaks events now k s h =
    let c : Cycled F = cycled breaks now (slice_get events s.done) (desk_of s) in
    let a = length-append s.log (stamped now c.items) in
    let b : length (stamped now c.items) ≡ length c.items = length-map c.items (λ item. record { cycle = now; item = item }) in
    let w = after_cycle breaks now (slice_get events s.done) (desk_of s) in
    let n = counted c.done s.done in
    let l = h.said in
    record {
      said = omega (arith, a, b, w, n, l);
      done = still c.done s.done (length events) h.done (was_next events s.done now (slice_get events s.done) s.port.core refl);
    }
