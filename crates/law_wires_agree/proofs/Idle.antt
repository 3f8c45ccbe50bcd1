-- An edge of a frame while no byte is under way: nothing comes over the link.
use Rattle.std.proofs.Common.{◌≡◌, ℕ, suc, Bool, true, false, ◌&&◌, List, Some, refl, ap, sym, ◌∙◌}
use Rattle.std.specs.Prelude.{if◌then◌else◌, ◌==◌}
use Rattle.ctl_link.specs.declared.link.Link.{Link}
use Rattle.ctl_link.specs.declared.link.Link.TheVariants.{Free, Hold, Ask, Request, Busy}
use Rattle.ctl_link.specs.declared.port.LinkEnd.{LinkEnd}
use Rattle.ctl_link.specs.Link.{is_busy}
use Rattle.ctl_link.specs.Pulls.{pulled}
use Rattle.board_terms.specs.declared.event.HostEvent.{HostEvent}
use Rattle.host_turn.specs.Run.{Side, goes_on}
use Rattle.ctl_wire.specs.declared.wire.Wire.{Wire}
use Rattle.model_controller.specs.declared.UnderWay.{UnderWay}
use Rattle.model_controller.specs.ByteTime.{byte_cycle, happened_at, closed, Quiet, Closes, is_open}
use Rattle.law_wires_agree.specs.InFrame.{at_edge}
use Rattle.law_wires_agree.specs.Without.{without_bits, link_by}
use Rattle.law_wires_agree.proofs.Frames.{event_by}

-- a byte that isn't under way isn't closed
idle_closed : (from : Bool) (k now : ℕ) (p : LinkEnd UnderWay) → is_busy p.link ≡ false
    → happened_at now (at_edge from (suc k)) p ≡ happened_at now Quiet p
idle_closed from k now p h = by_case (from && (k == 8))
  where
    at_link : (l : Link UnderWay) → is_busy l ≡ false → closed l ≡ l
    at_link Free h = refl
    at_link (Hold since) h = refl
    at_link (Ask byte since) h = refl
    at_link (Request byte) h = refl
    at_link (Busy u) h = absurd cc

    by_case : (c : Bool) → happened_at now (if c then Closes else Quiet) p ≡ p
    by_case true = ap (λ l. record p { link = l }) (at_link p.link h)
    by_case false = refl

-- while no byte is under way, an edge after the first brings nothing in byte time
pub idle_edge : (events : List HostEvent) (from : Bool) (k now : ℕ) (m : Side UnderWay) → is_busy m.port.link ≡ false
    → byte_cycle events now (at_edge from (suc k)) m ≡ byte_cycle events now Quiet m
idle_edge events from k now m h =
    event_by events now (at_edge from (suc k)) m
    ∙ ap (λ p. goes_on is_open events now (record m { port = p })) (idle_closed from k now m.port h)
    ∙ sym (event_by events now Quiet m)

-- while the controller pulls the clock, no byte is under way in byte time
pub idle_seen : (l : Link Wire) (h : ℕ) → pulled l ≡ Some h → is_busy (link_by without_bits l) ≡ false
idle_seen Free h e = refl
idle_seen (Hold since) h e = refl
idle_seen (Ask byte since) h e = refl
idle_seen (Request byte) h e = refl
idle_seen (Busy w) h e = absurd cc
