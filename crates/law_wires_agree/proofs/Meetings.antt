-- What the link does between the looks of a tick and its meeting.
use Rattle.std.proofs.Common.{◌≡◌, ℕ, suc, zero, ◌+◌, ◌≤◌, ◌<◌, List, true, false, ◌&&◌, ◌||◌}
use Rattle.std.proofs.Common.{Some, None, refl, ap, ◌∙◌, ◌⊎◌, inl, inr, arith}
use Rattle.std.specs.Prelude.{if◌then◌else◌}
use Rattle.ctl_core.specs.Controller.{is_disabled}
use Rattle.ctl_core.specs.Commands.{taken}
use Rattle.ctl_link.specs.declared.link.Link.{Link}
use Rattle.ctl_link.specs.declared.link.Link.TheVariants.{Free, Hold, Ask, Request, Busy}
use Rattle.ctl_link.specs.declared.port.LinkEnd.{LinkEnd}
use Rattle.ctl_link.specs.Link.{held_since, took_where, takes_input, link_after, is_busy, settled}
use Rattle.board_terms.specs.declared.event.HostEvent.{HostEvent}
use Rattle.host_turn.specs.Run.{Side, goes_on}
use Rattle.host_turn.proofs.Turns.{turn_of}
use Rattle.board_terms.specs.declared.lines.Lines.{Lines}
use Rattle.ctl_wire.specs.declared.wire.Wire.{Wire}
use Rattle.ctl_wire.specs.Wire.{drive, is_breakable}
use Rattle.ctl_wire.specs.Wires.{Pc, board_cycle}
use Rattle.model_controller.specs.declared.UnderWay.{UnderWay}
use Rattle.model_controller.specs.ByteTime.{quietly, carried, ended_as, meeting_of}
use Rattle.model_controller.specs.declared.meeting.Meeting.{Meeting}
use Rattle.model_controller.specs.declared.meeting.Meeting.TheVariants.{Sent, Got, Cut, Idle, Inhibited}
use Rattle.law_wires_agree.specs.Without.{without_bits, link_by}
use Rattle.law_wires_agree.specs.Cycles.{board_cycles}
use Rattle.law_wires_agree.specs.Ticks.{IsNone}
use Rattle.law_wires_agree.proofs.Spans.{IsAt, board_by, clock_by}
use Rattle.law_wires_agree.proofs.Between.{looks_still}
use Rattle.law_wires_agree.proofs.Pulls.{free_begins, pulled_span}
use Rattle.ctl_link.specs.Pulls.{pulled}
use Rattle.law_wires_agree.proofs.CellByCell.{cycles_more}
use Rattle.ctl_link.proofs.Breaks.{unbroken}
use Rattle.law_wires_agree.proofs.Breaks.{Pulls}

-- a request stays until the clock falls
stays_request : (events : List HostEvent) (now : ℕ) (s : Side Wire) (byte : ℕ) → s.port.link ≡ Request byte
    → (goes_on is_breakable events now s).port.link ≡ Request byte
unfolding goes_on
stays_request events now s byte e =
    let p : LinkEnd Wire = Rattle.host_turn.specs.Cycle.port_by (turn_of events now s) s.port in
    let t : LinkEnd Wire = (takes_input now p).port in
    ap (λ q. (settled now q).port.link) (unbroken is_breakable now p (ap is_busy e))
    ∙ ap (λ l. link_after now (t.core.output_full || is_disabled t.core) t.awaits l)
    (ap (λ l. (took_where now (held_since now p.awaits l) (if p.core.output_full then None else taken p.core) p).port.link) e ∙ e)

module _ (events : List HostEvent) (latch : ℕ → Lines) where
  -- and so over cycles that leave the clock alone
  pub requests : (n now : ℕ) (b : Pc) (byte : ℕ) → ((o : ℕ) → now ≤ o → o < now + n → (latch o).clk ≡ true)
      → b.side.port.link ≡ Request byte
      → (board_cycles events latch n now b).side.port.link ≡ Request byte
  requests zero now b byte up e = e
  requests (suc n) now b byte up e =
      let high : (latch now).clk ≡ true = up now (omega arith) (omega arith) in
      requests n (suc now) (board_cycle events now (latch now) b) byte (λ o l u. up o (omega (arith, l)) (omega (arith, u)))
      (ap (λ s. s.port.link)
      (board_by events now (latch now) b b.side (looks_still now (latch now) b high (ap is_busy e)))
      ∙ stays_request events now b.side byte e)

  -- a link that is free and free again within 64 cycles was free all the time
  pub free_between : (m r k now : ℕ) (b : Pc) → m + r ≡ k → k ≤ 64
      → ((o : ℕ) → now ≤ o → o < now + k → (latch o).clk ≡ true) → b.side.port.link ≡ Free
      → (board_cycles events latch k now b).side.port.link ≡ Free → (board_cycles events latch m now b).side.port.link ≡ Free
  free_between zero r k now b e short up here there = here
  free_between (suc m) r zero now b e short up here there = absurd (omega (arith, e))
  free_between (suc m) r (suc k) now b e short up here there =
      let high : (latch now).clk ≡ true = up now (omega arith) (omega arith) in
      let next : Pc = board_cycle events now (latch now) b in
      let is : next.side ≡ goes_on is_breakable events now b.side =
      board_by events now (latch now) b b.side (looks_still now (latch now) b high (ap is_busy here)) in
      elim (free_begins Wire is_breakable events now b.side here) [
        | inl free ↦ free_between m r k (suc now) next (omega (arith, e)) (omega (arith, short))
            (λ o l u. up o (omega (arith, l)) (omega (arith, u))) (ap (λ s. s.port.link) is ∙ free) there
        | inr pulls ↦
            let on = pulled_span events latch k (suc now) next now (ap (λ s. pulled s.port.link) is ∙ pulls) (omega (arith, short)) in
            let off : pulled (board_cycles events latch k (suc now) next).side.port.link ≡ None = ap pulled there in
            absurd (cc (on.1, off))
      ]

  -- the clock at the last of some cycles with a high latch
  last_clock : (n now : ℕ) (b : Pc) → ((o : ℕ) → now ≤ o → o < now + suc n → (latch o).clk ≡ true)
      → (drive (board_cycles events latch n now b).side.port.link).clk ≡ true
      → (board_cycles events latch (suc n) now b).clock ≡ true
  last_clock n now b up d =
      let a : n + 1 ≡ suc n = omega arith in
      let high : (latch (n + now)).clk ≡ true = up (n + now) (omega arith) (omega arith) in
      ap (λ v. v.clock) (cycles_more events latch n 1 (suc n) now b a)
      ∙ clock_by events (n + now) (latch (n + now)) (board_cycles events latch n now b)
      ∙ ap (λ c. c && (drive (board_cycles events latch n now b).side.port.link).clk) high ∙ d

  -- up to the first edge: free after both looks, or requesting
  pub free_at : (now : ℕ) (b : Pc) → ((o : ℕ) → now ≤ o → o < now + 32 → (latch o).clk ≡ true)
      → b.side.port.link ≡ Free → (board_cycles events latch 32 now b).side.port.link ≡ Free
      → IsAt (board_cycles events latch 32 now b) Free true
  free_at now b up here there = record {
    link_is = there;
    clock_is = last_clock 31 now b up (ap (λ l. (drive l).clk) (free_between 31 1 32 now b refl (omega arith) up here there));
  }

  -- a byte that is requested at the look is requested still at the meeting, with the clock up
  pub request_at : (now : ℕ) (b : Pc) (byte : ℕ) → ((o : ℕ) → now ≤ o → o < now + 32 → (latch o).clk ≡ true)
      → b.side.port.link ≡ Request byte
      → IsAt (board_cycles events latch 32 now b) (Request byte) true
  request_at now b byte up here = record {
    link_is = requests 32 now b byte up here;
    clock_is = last_clock 31 now b up (ap (λ l. (drive l).clk) (requests 31 now b byte (λ o l u. up o l (omega (arith, u))) here));
  }

-- while the keyboard lets the clock go, a free link stays free, or the controller pulls the clock
pub free_or_pulls : (events : List HostEvent) (latch : ℕ → Lines) (n now : ℕ) (b : Pc) → n ≤ 64
    → ((o : ℕ) → now ≤ o → o < now + n → (latch o).clk ≡ true) → b.side.port.link ≡ Free
    → ((board_cycles events latch n now b).side.port.link ≡ Free) ⊎ (Pulls now (board_cycles events latch n now b).side.port.link)
free_or_pulls events latch zero now b short up here = inl here
free_or_pulls events latch (suc n) now b short up here =
    let high : (latch now).clk ≡ true = up now (omega arith) (omega arith) in
    let next : Pc = board_cycle events now (latch now) b in
    let is : next.side ≡ goes_on is_breakable events now b.side =
    board_by events now (latch now) b b.side (looks_still now (latch now) b high (ap is_busy here)) in
    elim (free_begins Wire is_breakable events now b.side here) [
      | inl free ↦ elim (free_or_pulls events latch n (suc now) next (omega (arith, short))
          (λ o l u. up o (omega (arith, l)) (omega (arith, u))) (ap (λ s. s.port.link) is ∙ free)) [
            | inl still ↦ inl still
            | inr p ↦ inr (record { since = p.since; from = omega (arith, p.from); is = p.is })
          ]
      | inr pulls ↦
          let on = pulled_span events latch n (suc now) next now (ap (λ s. pulled s.port.link) is ∙ pulls) (omega (arith, short)) in
          inr (record { since = now; from = omega arith; is = on.1 })
    ]

-- while the controller pulls the clock, no byte is under way on the wires
pub not_busy : (l : Link Wire) (h : ℕ) → pulled l ≡ Some h → is_busy l ≡ false
not_busy Free h e = refl
not_busy (Hold since) h e = refl
not_busy (Ask byte since) h e = refl
not_busy (Request byte) h e = refl
not_busy (Busy w) h e = absurd cc

-- if the controller pulls the clock by the time of the meeting, the byte that is offered is cut
pub cut_of : (byte : ℕ) (l : Link Wire) (h : ℕ) → pulled l ≡ Some h → meeting_of Free (Some byte) (link_by without_bits l) ≡ Cut
cut_of byte Free h e = absurd cc
cut_of byte (Hold since) h e = refl
cut_of byte (Ask b since) h e = refl
cut_of byte (Request b) h e = absurd cc
cut_of byte (Busy w) h e = absurd cc

-- where no byte passes, the 321 cycles of a frame are quiet
pub none_passes : (events : List HostEvent) (meeting : Meeting) (now : ℕ) (m : Side UnderWay) → IsNone meeting
    → carried events meeting now m ≡ quietly events 321 now m
none_passes events (Got byte) now m h = absurd h
none_passes events Inhibited now m h = refl
none_passes events Idle now m h = refl
none_passes events (Sent byte) now m h = absurd h
none_passes events Cut now m h = refl

-- and the meeting is what it begins as
pub none_ends : (events : List HostEvent) (meeting : Meeting) (now : ℕ) (m : Side UnderWay) → IsNone meeting
    → ended_as events meeting now m ≡ meeting
none_ends events (Got byte) now m h = absurd h
none_ends events Inhibited now m h = refl
none_ends events Idle now m h = refl
none_ends events (Sent byte) now m h = absurd h
none_ends events Cut now m h = refl
