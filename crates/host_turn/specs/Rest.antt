-- A cycle in which nothing happens.
use Rattle.std.specs.Prelude.{ℕ, ◌+◌, Bool, true, false, ◌&&◌, nat_le, Some, None}
use Rattle.std.specs.declared.option.Option.{Option}
use Rattle.ctl_core.specs.Controller.{is_idle}
use Rattle.ctl_link.specs.declared.link.Link.{Link}
use Rattle.ctl_link.specs.declared.link.Link.TheVariants.{Free, Hold, Ask, Request, Busy}
use Rattle.board_terms.specs.declared.event.HostEvent.{HostEvent}
use Rattle.host_turn.specs.declared.desk.Desk.{Desk}

-- whether the link waits for the keyboard
abbrev pub is_free : {F : Type 0} → Link F → Bool
is_free Free = true
is_free (Hold since) = false
is_free (Ask byte since) = false
is_free (Request byte) = false
is_free (Busy x) = false

-- the link is free, both buffers are empty, and the keyboard isn't disabled
abbrev pub is_at_rest : {F : Type 0} → Desk F → Bool
is_at_rest d = is_free d.port.link && is_idle d.port.core

-- whether the next event's stamp is reached
abbrev pub is_due : ℕ → Option HostEvent → Bool
is_due now None = false
is_due now (Some event) = nat_le (event.stamp + 4096) now
