-- The wires from the look at the clock, 256 cycles past a tick's start, to the first edge of a frame.
use Rattle.std.proofs.Common.{◌≡◌, ℕ, ◌+◌, List, true, false, Some, refl, ap, inl, inr, arith}
use Rattle.board_terms.specs.declared.event.HostEvent.{HostEvent}
use Rattle.ctl_link.specs.Pulls.{pulled}
use Rattle.ctl_link.specs.declared.link.Link.{Link}
use Rattle.ctl_link.specs.declared.link.Link.TheVariants.{Free, Hold, Ask, Request, Busy}
use Rattle.ctl_wire.specs.declared.wire.Wire.{Wire}
use Rattle.ctl_wire.specs.Wire.{drive}
use Rattle.law_fw_link.proofs.Wired.{IsReleased}
use Rattle.joint_run.specs.Joint.{latch_of}
use Rattle.ctl_wire.specs.Wires.{Pc}
use Rattle.law_wires_agree.proofs.Meetings.{free_or_pulls, requests}
use Rattle.law_wires_agree.specs.Cycles.{board_cycles}

-- a controller that pulls the clock leaves data alone
pulls_clock : (l : Link Wire) (since : ℕ) → pulled l ≡ Some since → (drive l).dat ≡ true
pulls_clock Free since e = refl
pulls_clock (Hold h) since e = refl
pulls_clock (Ask byte h) since e = refl
pulls_clock (Request byte) since e = absurd cc
pulls_clock (Busy w) since e = absurd cc

module _ (events : List HostEvent) (v start : ℕ) (released : IsReleased v) (b : Pc) where
  -- the PC's side at the look at data, two cycles past that at the clock
  abbrev pub at_data : Pc
  at_data = board_cycles events (λ o. latch_of v) 2 (256 + start) b

  -- a link that is free at the look at the clock leaves data high
  pub free_shows : b.side.port.link ≡ Free → (drive at_data.side.port.link).dat ≡ true
  free_shows here =
      elim (free_or_pulls events (λ o. latch_of v) 2 (256 + start) b (omega arith) (λ o a u. released.clock) here) [
        | inl free ↦ ap (λ l. (drive l).dat) free
        | inr p ↦ pulls_clock at_data.side.port.link p.since p.is
      ]

  -- one that requests pulls data
  pub request_shows : (byte : ℕ) → b.side.port.link ≡ Request byte → (drive at_data.side.port.link).dat ≡ false
  request_shows byte here =
      ap (λ l. (drive l).dat)
      (requests events (λ o. latch_of v) 2 (256 + start) b byte (λ o a u. released.clock) here)
