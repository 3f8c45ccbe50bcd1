-- The controller with its link to the keyboard: what it does between bytes, and when a byte has passed.
use Rattle.std.specs.Prelude.{ℕ, ◌+◌, Bool, true, false, not, ◌&&◌, ◌||◌, nat_le, Some, None, is_some, if◌then◌else◌}
use Rattle.std.specs.declared.option.Option.{Option}
use Rattle.ctl_core.specs.Controller.{ControllerState, at_start, asks_again, is_disabled}
use Rattle.ctl_core.specs.Commands.{Taken, taken}
use Rattle.ctl_core.specs.Translation.{after_received, after_wrong}
use Rattle.ctl_core.specs.declared.controller.Did.{Did}
use Rattle.ctl_core.specs.declared.controller.Did.TheVariants.{Nothing, ToKeyboard, Output, Pulse}
use Rattle.ctl_link.specs.declared.link.Link.{Link}
use Rattle.ctl_link.specs.declared.port.LinkEnd.{LinkEnd}
use Rattle.ctl_link.specs.declared.link.Link.TheVariants.{Free, Hold, Ask, Request, Busy}

-- the controller at its start, with its link free
abbrev pub port_at_start : (F : Type 0) → LinkEnd F
port_at_start F = record { core = at_start; filled = 0; link = Free; awaits = false; flip = None }

-- the cycle of the last filling, after something that was done while the output buffer was empty: now, if it is full
abbrev pub filled_by : ℕ → ControllerState → ℕ → ℕ
filled_by now s before = if s.output_full then now else before

-- a byte of the keyboard begins, and takes the flip that is pending; by it follows what is known of the byte
abbrev pub begun : {F : Type 0} → (Option ℕ → F) → LinkEnd F → LinkEnd F
begun first p = record p { link = Busy (first p.flip); flip = None }

-- a byte of the keyboard is received if it came whole; one that came wrong is asked for again, or given up
abbrev pub core_after : Option ℕ → ControllerState → ControllerState
core_after (Some byte) s = after_received s byte true
core_after None s = after_wrong s

-- the link after it, pulled from now on: by an ask for FE, the resend, if the byte is asked for again; else by a
-- hold
abbrev pub next_link : {F : Type 0} → ℕ → Option ℕ → ControllerState → Link F
next_link now (Some byte) s = Hold now
next_link now None s = if asks_again s then Ask 0xfe now else Hold now

-- a byte has come whole, or has come wrong: no reply is awaited any more
abbrev pub received : {F : Type 0} → ℕ → Option ℕ → LinkEnd F → LinkEnd F
received now byte p = record {
  core = core_after byte p.core;
  filled = filled_by now (core_after byte p.core) p.filled;
  link = next_link now byte p.core;
  awaits = false;
  flip = p.flip;
}

-- a byte for the keyboard has gone whole: a reply is awaited
abbrev pub handed_over : {F : Type 0} → LinkEnd F → LinkEnd F
handed_over p = record p { link = Free; awaits = true }

-- since when the link is held, if the input may be taken; a free link is held from now on
abbrev pub held_since : {F : Type 0} → ℕ → Bool → Link F → Option ℕ
held_since now awaits Free = if awaits then None else Some now
held_since now awaits (Hold since) = Some since
held_since now awaits (Ask byte since) = None
held_since now awaits (Request byte) = None
held_since now awaits (Busy under_way) = None

-- a byte for the keyboard is asked for
abbrev pub asking : {F : Type 0} → ℕ → Did → Link F → Link F
asking since Nothing link = link
asking since (ToKeyboard byte) link = Ask byte since
asking since (Output byte) link = link
asking since (Pulse lines) link = link

-- the outcome of a settling: the state after it, and what the input taken did
pub record Settled (F : Type 0) : Type 0 where
  pub port : LinkEnd F
  pub did : Did

-- the input was taken, under a hold since then
abbrev pub took : {F : Type 0} → ℕ → ℕ → Taken → LinkEnd F → Settled F
took now since t p = record {
  port = record {
    core = t.state;
    filled = filled_by now t.state p.filled;
    link = asking since t.did p.link;
    awaits = p.awaits;
    flip = p.flip;
  };
  did = t.did;
}

-- the input is taken if it may be, and there is one; else nothing changes
abbrev pub took_where : {F : Type 0} → ℕ → Option ℕ → Option Taken → LinkEnd F → Settled F
took_where now None input p = record { port = p; did = Nothing }
took_where now (Some since) None p = record { port = p; did = Nothing }
took_where now (Some since) (Some t) p = took now since t p

-- the input is taken if the output buffer is empty, the input buffer is full, and the link is held, or is free while
-- no reply is awaited
abbrev pub takes_input : {F : Type 0} → ℕ → LinkEnd F → Settled F
takes_input now p =
    took_where now (held_since now p.awaits p.link) (if p.core.output_full then None else taken p.core) p

-- the link by itself; `stop` says that the output buffer is full or the keyboard disabled. A pull of the clock lasts 64
-- cycles at least
abbrev pub link_after : {F : Type 0} → ℕ → Bool → Bool → Link F → Link F
link_after now stop awaits Free = if awaits then Free else if stop then Hold now else Free
link_after now stop awaits (Hold since) =
    if stop then Hold since else if nat_le (since + 64) now then Free else Hold since
link_after now stop awaits (Ask byte since) = if nat_le (since + 64) now then Request byte else Ask byte since
link_after now stop awaits (Request byte) = Request byte
link_after now stop awaits (Busy under_way) = Busy under_way

-- the controller, its link changed so
abbrev pub moves_link : {F : Type 0} → ℕ → LinkEnd F → LinkEnd F
moves_link now p = record p { link = link_after now (p.core.output_full || is_disabled p.core) p.awaits p.link }

-- whether a byte is under way that may still be broken off, by what is known of it
abbrev pub may_break : {F : Type 0} → (F → Bool) → Link F → Bool
may_break breaks Free = false
may_break breaks (Hold since) = false
may_break breaks (Ask byte since) = false
may_break breaks (Request byte) = false
may_break breaks (Busy under_way) = breaks under_way

-- a waiting input breaks it off, if no reply is awaited: the link is held from now on
abbrev pub broken_off : {F : Type 0} → (F → Bool) → ℕ → LinkEnd F → LinkEnd F
broken_off breaks now p =
    if may_break breaks p.link && not p.awaits && is_some p.core.input then record p { link = Hold now } else p

-- what the controller does by itself at the end of a cycle: it takes its input, and then the link changes
abbrev pub settled : {F : Type 0} → ℕ → LinkEnd F → Settled F
settled now p = record { port = moves_link now (takes_input now p).port; did = (takes_input now p).did }

-- whether a byte is under way
abbrev pub is_busy : {F : Type 0} → Link F → Bool
is_busy Free = false
is_busy (Hold since) = false
is_busy (Ask byte since) = false
is_busy (Request byte) = false
is_busy (Busy under_way) = true
