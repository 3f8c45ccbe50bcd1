-- The output buffer is empty in every state of the link but Hold.
use Rattle.std.proofs.Common.{◌≡◌, ℕ, Bool, true, false, ◌&&◌, ◌||◌, Some, None, refl, ap, ◌∙◌}
use Rattle.std.specs.Prelude.{if◌then◌else◌}
use Rattle.std.specs.declared.option.Option.{Option}
use Rattle.ctl_core.specs.Controller.{ControllerState, is_disabled}
use Rattle.ctl_core.specs.Commands.{Taken, taken_from, taken_by, passed, commanded, command_of}
use Rattle.ctl_core.specs.declared.port.Input.{Input}
use Rattle.ctl_core.specs.declared.port.Port.{Port as HostPort}
use Rattle.ctl_core.specs.declared.port.Port.TheVariants.{P60, P64}
use Rattle.ctl_core.specs.declared.command.Parameter.{Parameter}
use Rattle.ctl_core.specs.declared.command.Parameter.TheVariants.{CommandByte, OutputPort}
use Rattle.ctl_core.specs.declared.command.Command.{Command}
use Rattle.ctl_core.specs.declared.command.Command.TheVariants.{ReadCommandByte, WriteCommandByte, SelfTest, InterfaceTest, Disable, Enable}
use Rattle.ctl_core.specs.declared.command.Command.TheVariants.{ReadInputPort, ReadOutputPort, WriteOutputPort, PulseOutput, Unlisted}
use Rattle.ctl_core.specs.declared.controller.Did.{Did}
use Rattle.ctl_core.specs.declared.controller.Did.TheVariants.{Nothing, ToKeyboard, Output, Pulse}
use Rattle.ctl_link.specs.declared.link.Link.{Link}
use Rattle.ctl_link.specs.declared.link.Link.TheVariants.{Free, Hold, Ask, Request, Busy}
use Rattle.ctl_link.specs.declared.port.LinkEnd.{LinkEnd}
use Rattle.ctl_link.specs.Empty.{fits}
use Rattle.ctl_link.specs.Link.{settled, asking, took_where, held_since, link_after}

abbrev asks : Did → Bool
asks Nothing = false
asks (ToKeyboard byte) = true
asks (Output byte) = false
asks (Pulse lines) = false

-- a byte for the keyboard fills nothing
commanded_empty : (c : Command) (s : ControllerState) → (asks (commanded c s).did && (commanded c s).state.output_full) ≡ false
commanded_empty ReadCommandByte s = refl
commanded_empty WriteCommandByte s = refl
commanded_empty SelfTest s = refl
commanded_empty InterfaceTest s = refl
commanded_empty Disable s = refl
commanded_empty Enable s = refl
commanded_empty ReadInputPort s = refl
commanded_empty ReadOutputPort s = refl
commanded_empty WriteOutputPort s = refl
commanded_empty (PulseOutput lines) s = refl
commanded_empty Unlisted s = refl

passed_empty : (o : Option Parameter) (byte : ℕ) (s : ControllerState) → s.output_full ≡ false
    → (asks (passed o byte s).did && (passed o byte s).state.output_full) ≡ false
passed_empty None byte s e = e
passed_empty (Some CommandByte) byte s e = refl
passed_empty (Some OutputPort) byte s e = refl

by_empty : (port : HostPort) (byte : ℕ) (s : ControllerState) → s.output_full ≡ false
    → (asks (taken_by port byte s).did && (taken_by port byte s).state.output_full) ≡ false
by_empty P60 byte s e = passed_empty s.awaited byte (record s { input = None; awaited = None }) e
by_empty P64 byte s e = commanded_empty (command_of byte) (record s { input = None; awaited = None })

module _ {F : Type 0} where
  -- what follows a taking, from a link that is held or free while nothing is awaited
  after_free : (now : ℕ) (full off : Bool) (d : Did) (l : Link F) → l ≡ Free → (asks d && full) ≡ false
      → fits full (link_after now (full || off) false (asking now d l)) ≡ true
  after_free now false off d l e h = refl
  after_free now true off Nothing l e h = ap (λ k. fits true (link_after now true false k)) e
  after_free now true off (ToKeyboard byte) l e h = absurd cc
  after_free now true off (Output byte) l e h = ap (λ k. fits true (link_after now true false k)) e
  after_free now true off (Pulse lines) l e h = ap (λ k. fits true (link_after now true false k)) e

  after_hold : (now since : ℕ) (full off awaits : Bool) (d : Did) (l : Link F) → l ≡ Hold since
      → (asks d && full) ≡ false → fits full (link_after now (full || off) awaits (asking since d l)) ≡ true
  after_hold now since false off awaits d l e h = refl
  after_hold now since true off awaits Nothing l e h = ap (λ k. fits true (link_after now true awaits k)) e
  after_hold now since true off awaits (ToKeyboard byte) l e h = absurd cc
  after_hold now since true off awaits (Output byte) l e h = ap (λ k. fits true (link_after now true awaits k)) e
  after_hold now since true off awaits (Pulse lines) l e h = ap (λ k. fits true (link_after now true awaits k)) e

  -- the link by itself
  alone : (now : ℕ) (full off awaits : Bool) (l : Link F) → fits full l ≡ true → fits full (link_after now (full || off) awaits l) ≡ true
  alone now false off awaits l h = refl
  alone now true off awaits Free h = absurd cc
  alone now true off awaits (Hold since) h = refl
  alone now true off awaits (Ask byte since) h = absurd cc
  alone now true off awaits (Request byte) h = absurd cc
  alone now true off awaits (Busy x) h = absurd cc

  abbrev Fits : LinkEnd F → Type 0
  Fits p = fits p.core.output_full p.link ≡ true

  moved : ℕ → LinkEnd F → LinkEnd F
  moved now p = record p { link = link_after now (p.core.output_full || is_disabled p.core) p.awaits p.link }

  nothing : (now : ℕ) (p : LinkEnd F) (since : Option ℕ) → Fits p → Fits (moved now (took_where now since None p).port)
  unfolding moved
  nothing now p None h = alone now p.core.output_full (is_disabled p.core) p.awaits p.link h
  nothing now p (Some since) h = alone now p.core.output_full (is_disabled p.core) p.awaits p.link h

  settles : (now : ℕ) (p : LinkEnd F) (full : Bool) (i : Option Input) (l : Link F) (awaits : Bool)
      → p.core.output_full ≡ full → p.link ≡ l → p.awaits ≡ awaits → Fits p
      → Fits (moved now (took_where now (held_since now awaits l) (if full then None else taken_from i p.core) p).port)
  unfolding moved
  settles now p true i l awaits ef el ea h = nothing now p (held_since now awaits l) h
  settles now p false None Free true ef el ea h = alone now p.core.output_full (is_disabled p.core) p.awaits p.link h
  settles now p false None Free false ef el ea h = alone now p.core.output_full (is_disabled p.core) p.awaits p.link h
  settles now p false None (Hold since) awaits ef el ea h = alone now p.core.output_full (is_disabled p.core) p.awaits p.link h
  settles now p false None (Ask byte since) awaits ef el ea h = alone now p.core.output_full (is_disabled p.core) p.awaits p.link h
  settles now p false None (Request byte) awaits ef el ea h = alone now p.core.output_full (is_disabled p.core) p.awaits p.link h
  settles now p false None (Busy x) awaits ef el ea h = alone now p.core.output_full (is_disabled p.core) p.awaits p.link h
  settles now p false (Some i) Free true ef el ea h = alone now p.core.output_full (is_disabled p.core) p.awaits p.link h
  settles now p false (Some i) Free false ef el ea h =
      let t : Taken = taken_by i.port i.byte p.core in
      ap (λ a. fits t.state.output_full (link_after now (t.state.output_full || is_disabled t.state) a (asking now t.did p.link))) ea
      ∙ after_free now t.state.output_full (is_disabled t.state) t.did p.link el (by_empty i.port i.byte p.core ef)
  settles now p false (Some i) (Hold since) awaits ef el ea h =
      let t : Taken = taken_by i.port i.byte p.core in
      after_hold now since t.state.output_full (is_disabled t.state) p.awaits t.did p.link el (by_empty i.port i.byte p.core ef)
  settles now p false (Some i) (Ask byte since) awaits ef el ea h = alone now p.core.output_full (is_disabled p.core) p.awaits p.link h
  settles now p false (Some i) (Request byte) awaits ef el ea h = alone now p.core.output_full (is_disabled p.core) p.awaits p.link h
  settles now p false (Some i) (Busy x) awaits ef el ea h = alone now p.core.output_full (is_disabled p.core) p.awaits p.link h

  -- settling keeps it
  pub keeps_empty : (now : ℕ) (p : LinkEnd F) → fits p.core.output_full p.link ≡ true
      → fits (settled now p).port.core.output_full (settled now p).port.link ≡ true
  unfolding moved
  keeps_empty now p h = settles now p p.core.output_full p.core.input p.link p.awaits refl refl refl h
