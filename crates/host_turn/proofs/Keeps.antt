-- A cycle keeps what settling keeps: the output buffer is empty unless the link is held, and a pull of the clock goes on.
use Rattle.std.proofs.Common.{◌≡◌, ℕ, Bool, true, false, Some, None, refl, ap, sym, ◌∙◌, subst}
use Rattle.std.specs.Prelude.{if◌then◌else◌}
use Rattle.std.specs.declared.option.Option.{Option}
use Rattle.ctl_link.specs.declared.link.Link.{Link}
use Rattle.ctl_link.specs.Empty.{fits, IsEmptyUnlessHeld}
use Rattle.ctl_link.specs.declared.port.LinkEnd.{LinkEnd}
use Rattle.ctl_link.specs.Link.{broken_off}
use Rattle.ctl_link.specs.Pulls.{KeepsPull, BeginsPull}
use Rattle.ctl_link.proofs.Breaks.{kept_after, begun_after}
use Rattle.board_terms.specs.declared.event.HostAct.{HostAct}
use Rattle.board_terms.specs.declared.event.HostAct.TheVariants.{Write60, Write64, Read60, Mask, Unmask, Take, Status, Flip}
use Rattle.board_terms.specs.declared.event.HostEvent.{HostEvent}
use Rattle.host_turn.specs.declared.desk.Desk.{Desk}
use Rattle.host_turn.specs.Host.{Host, acted, acted_where, event_turn, bios_turn, interrupts, read_by_bios, in_silence, is_done}
use Rattle.host_turn.specs.Cycle.{host_of, with_host}

module _ (F : Type 0) (l : Link F) where
  acted_fits : (act : HostAct) (h : Host) → fits h.core.output_full l ≡ true → fits (acted act h).host.core.output_full l ≡ true
  acted_fits (Write60 byte) h f = f
  acted_fits (Write64 byte) h f = f
  acted_fits Read60 h f = refl
  acted_fits Mask h f = f
  acted_fits Unmask h f = f
  acted_fits Take h f = f
  acted_fits Status h f = f
  acted_fits (Flip bit) h f = f

  where_fits : (done : Bool) (act : HostAct) (h : Host) → fits h.core.output_full l ≡ true
      → fits (acted_where done act h).host.core.output_full l ≡ true
  where_fits true act h f = acted_fits act h f
  where_fits false act h f = f

  event_fits : (now : ℕ) (next : Option HostEvent) (h : Host) → fits h.core.output_full l ≡ true
      → fits (event_turn now next h).host.core.output_full l ≡ true
  event_fits now None h f = f
  event_fits now (Some event) h f = where_fits (is_done now (Some event) h.core) event.act h f

  read_fits : (reads : Bool) (h : Host) → fits h.core.output_full l ≡ true
      → fits (if reads then read_by_bios h else in_silence h).host.core.output_full l ≡ true
  read_fits true h f = refl
  read_fits false h f = f

  bios_fits : (now filled : ℕ) (h : Host) → fits h.core.output_full l ≡ true → fits (bios_turn now filled h).host.core.output_full l ≡ true
  bios_fits now filled h f = read_fits (interrupts now filled h) h f

module _ (F : Type 0) (now : ℕ) (next : Option HostEvent) (d d1 d2 : Desk F) (e1 : d1 ≡ with_host (event_turn now next (host_of d)).host d)
    (e2 : d2 ≡ with_host (bios_turn now d1.port.filled (host_of d1)).host d1) where
  same_link : d2.port.link ≡ d.port.link
  same_link = ap (λ (x : Desk F). x.port.link) e2 ∙ ap (λ (x : Desk F). x.port.link) e1

  -- the host's turn fills nothing
  pub host_fits : IsEmptyUnlessHeld d.port → IsEmptyUnlessHeld d2.port
  host_fits f =
      let after : IsEmptyUnlessHeld d1.port =
      subst (λ (x : Desk F). IsEmptyUnlessHeld x.port) (sym e1) (event_fits F d.port.link now next (host_of d) f) in
      subst (λ (x : Desk F). IsEmptyUnlessHeld x.port) (sym e2) (bios_fits F d1.port.link now d1.port.filled (host_of d1) after)

  module _ (breaks : F → Bool) (q : LinkEnd F) (e3 : q ≡ broken_off breaks now d2.port) where
    -- a pull that goes on from after the host's turn and the break goes on through the whole cycle
    pub kept_before : (l : Link F) → KeepsPull now q.link l → KeepsPull now d.port.link l
    kept_before l k =
        subst (λ (x : Link F). KeepsPull now x l) same_link
        (kept_after breaks now d2.port l (subst (λ (r : LinkEnd F). KeepsPull now r.link l) e3 k))

    -- if nothing but a pull begins from a free link after the host's turn and the break, nothing else does in the
    -- cycle
    pub begun_before : (l : Link F) → BeginsPull now q.link l → BeginsPull now d.port.link l
    begun_before l k =
        subst (λ (x : Link F). BeginsPull now x l) same_link
        (begun_after breaks now d2.port l (subst (λ (r : LinkEnd F). BeginsPull now r.link l) e3 k))
