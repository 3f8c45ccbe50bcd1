-- A tick in which the keyboard's frame is broken off: a look in cell j is the first one that sees it.
use Rattle.std.proofs.Common.{◌≡◌, ℕ, suc, zero, ◌+◌, ◌-◌, ◌*◌, ◌≤◌, ◌<◌, ◌⊎◌, List, Bool, true, false, Some, None, refl, ap}
use Rattle.std.proofs.Common.{sym, ◌∙◌, subst, inl, inr, arith}
use Rattle.std.specs.Prelude.{nat_lt}
use Rattle.std.proofs.lemmas.Bool.Decides.{nat_tests}
use Rattle.board_terms.specs.declared.event.HostEvent.{HostEvent}
use Rattle.board_terms.specs.declared.lines.Lines.{Lines}
use Rattle.ctl_link.specs.declared.link.Link.{Link}
use Rattle.ctl_link.specs.declared.link.Link.TheVariants.{Free, Hold, Ask, Request, Busy}
use Rattle.ctl_link.specs.declared.port.LinkEnd.{LinkEnd}
use Rattle.ctl_link.specs.Link.{is_busy}
use Rattle.ctl_wire.specs.declared.wire.Wire.{Wire}
use Rattle.ctl_wire.specs.declared.wire.Wire.TheVariants.{Recv}
use Rattle.ctl_wire.specs.Wire.{drive}
use Rattle.ctl_wire.proofs.Pulls.{pulled_is_low}
use Rattle.ctl_wire.specs.Wires.{Pc}
use Rattle.model_controller.specs.declared.UnderWay.{UnderWay}
use Rattle.model_controller.specs.declared.meeting.Meeting.TheVariants.{Sent, Cut}
use Rattle.model_controller.specs.ByteTime.{sent_or_cut}
use Rattle.law_wires_agree.specs.Cells.{IsFrame, bits_to}
use Rattle.law_wires_agree.specs.Cycles.{board_cycles}
use Rattle.law_wires_agree.specs.Ticks.{BrokenTick, at_meeting, leaves_clock, leaves_cycle}
use Rattle.law_wires_agree.specs.Without.{seen_in_bytes}
use Rattle.law_wires_agree.proofs.Spans.{IsAt}
use Rattle.law_wires_agree.proofs.Between.{between}
use Rattle.law_wires_agree.proofs.Broken.{broken}
use Rattle.law_wires_agree.proofs.Lines.{same_lines}
use Rattle.law_wires_agree.proofs.Looked.{joins, begins, up288}
use Rattle.law_wires_agree.proofs.Meetings.{free_at, not_busy}
use Rattle.law_wires_agree.proofs.Ways.{sent_way, afterwards_first}
use Rattle.law_wires_agree.proofs.CellByCell.{IsBroken, IsOn, holds_so, later_in_cell, since_end, not_last, cycles_more}
use Rattle.law_wires_agree.proofs.Pulls.{pulled_span}
use Rattle.law_wires_agree.specs.InFrame.{up_to}
use Rattle.ctl_link.specs.Pulls.{pulled}

-- a byte that is under way no more was cut
cut_where : (byte : ℕ) (l : Link UnderWay) → is_busy l ≡ false → sent_or_cut byte l ≡ Cut
cut_where byte Free h = refl
cut_where byte (Hold since) h = refl
cut_where byte (Ask asked since) h = refl
cut_where byte (Request asked) h = refl
cut_where byte (Busy u) h = absurd cc

module _ (events : List HostEvent) (latch line : ℕ → Lines) (start j n : ℕ) (bits : ℕ → Bool) (b : Pc)
    (frame : IsFrame line (288 + start) bits) (at : IsAt (at_meeting events latch start b) Free true) (below : j < 10)
    (afterwards : 17 ≤ n) (short : n ≤ 31)
    (same : (o : ℕ) → 288 + start ≤ o → o < 32 * j + (289 + n) + start → latch o ≡ line o)
    (leaves : (i : ℕ) → i < j → leaves_clock events latch start b i ≡ true)
    (low : leaves_cycle events latch start b (32 * j + suc n) ≡ false) where
  abbrev c : Pc
  c = at_meeting events latch start b

  abbrev now : ℕ
  now = 288 + start

  abbrev w : ℕ → Wire
  w k = Recv c.side.port.flip (bits_to bits (suc k))

  abbrev q : LinkEnd Wire
  q = afterwards_first (bits 0) c.side.port

  -- the PC's side over the lines of a whole frame
  abbrev pub at_whole : ℕ → Pc
  at_whole t = board_cycles events line t now c

  abbrev Off : ℕ → Type 0
  Off i = IsBroken events line now bits frame c q Free w true at (sent_way bits c.side.port) i

  abbrev On : ℕ → Type 0
  On i = IsOn events line now bits frame c q Free w true at (sent_way bits c.side.port) i

  -- up to the look the lines are those of the whole frame
  one : (t : ℕ) → t ≤ 32 * j + suc n → board_cycles events latch t now c ≡ at_whole t
  one t l = same_lines events latch line t now c (λ o a u. same o a (omega (arith, u, l)))

  -- it was broken off by that cycle: since cycle 18 of the cell, or earlier, in the cell or at the end of the one before
  pub record IsOff : Type 0 where
    pub agrees : seen_in_bytes (at_whole (32 * j + suc n)).side ≡ up_to events true j n now (seen_in_bytes c.side)
    pub since : ℕ
    pub pulls : pulled (at_whole (32 * j + suc n)).side.port.link ≡ Some since
    pub from_when : ((suc j < 10) × (32 * j + now + 18 ≤ since))
        ⊎ ((pulled (at_whole (32 * j + 18)).side.port.link ≡ Some since)
        × ((32 * j + now ≤ since) ⊎ (pulled (at_whole (32 * j)).side.port.link ≡ Some since)))
    pub before : (i : ℕ) → i < j → On i

  -- the byte was under way in cycle 18 of the cell
  since_look : ((i : ℕ) → i < j → On i) → On j → IsOff
  since_look before on =
      let t : ℕ = n - 17 in
      let e : 32 * j + (18 + t) ≡ 32 * j + suc n = omega (arith, afterwards) in
      elim (later_in_cell events line now bits frame c q Free w true at (sent_way bits c.side.port) j t below (omega (arith, short)) on) [
        | inl stays ↦
            let on : leaves_cycle events latch start b (32 * j + suc n) ≡ true =
            ap (λ (v : Pc). (drive v.side.port.link).clk) (one (32 * j + suc n) (omega arith))
            ∙ ap (λ t. (drive (at_whole t).side.port.link).clk) (sym e) ∙ ap (λ l. (drive l).clk) stays.link_is in
            absurd (cc (on, low))
        | inr broken ↦
            let p = broken.1 in
            record {
              agrees = on.in_cell n short;
              since = p.since;
              pulls = ap (λ t. pulled (at_whole t).side.port.link) (sym e) ∙ p.is;
              from_when = inl (
                not_last events line now bits frame c q Free w true at (sent_way bits c.side.port) j below broken.0,
                omega (arith, p.from),
              );
              before = before;
            }
      ]

  -- or broken off by then
  by_look : Off j → IsOff
  by_look off =
      let t : ℕ = n - 17 in
      let e : 32 * j + 18 + t ≡ 32 * j + suc n = omega (arith, afterwards) in
      let late : 32 * j + now ≤ off.since + 14 = off.late in
      let rest = pulled_span events line t (32 * j + 18 + now) (at_whole (32 * j + 18)) off.since off.pulls
      (omega (arith, late, short, afterwards)) in
      record {
        agrees = off.in_cell n short;
        since = off.since;
        pulls = ap (λ (v : Pc). pulled v.side.port.link) (cycles_more events line (32 * j + 18) t (32 * j + suc n) now c e) ∙ rest.1;
        from_when = inr (off.pulls, off.from_here);
        before = off.before;
      }

  here : (i : ℕ) → Off i → (p r : Bool) → nat_lt i j ≡ p → nat_lt j i ≡ r → IsOff
  here i off true r e f =
      let l : i < j = grind (arith, nat_tests, e) in
      let pulls : leaves_clock events latch start b i ≡ false =
      ap (λ (v : Pc). (drive v.side.port.link).clk) (one (32 * i + 18) (omega (arith, l)))
      ∙ pulled_is_low (at_whole (32 * i + 18)).side.port.link off.since off.pulls in
      absurd (cc (leaves i l, pulls))
  here i off false true e f =
      let l : j < i = grind (arith, nat_tests, f) in
      since_look (λ k u. off.before k (omega (arith, u, l))) (off.before j l)
  here i off false false e f = let z : i ≡ j = grind (arith, nat_tests, e, f) in by_look (subst Off z off)

  -- by the look of cell j the byte was broken off, and byte time is what the wires are
  pub is_off : IsOff
  is_off =
      elim (holds_so events line now bits frame c q Free w true at (sent_way bits c.side.port) j below) [
        | inl through ↦
            since_look (λ k u. through.up_to_here k (omega (arith, u))) (through.up_to_here j (omega arith))
        | inr off ↦ here off.0 off.1 (nat_lt off.0 j) (nat_lt j off.0) refl refl
      ]

  -- at a second look: since the first, where the clock was left alone there; and it isn't that of the last cell
  pub since_first : leaves_clock events latch start b j ≡ true → (suc j < 10) × (32 * j + now + 18 ≤ is_off.since)
  since_first high = by is_off.from_when
    where
      by : ((suc j < 10) × (32 * j + now + 18 ≤ is_off.since))
          ⊎ ((pulled (at_whole (32 * j + 18)).side.port.link ≡ Some is_off.since)
          × ((32 * j + now ≤ is_off.since) ⊎ (pulled (at_whole (32 * j)).side.port.link ≡ Some is_off.since)))
          → (suc j < 10) × (32 * j + now + 18 ≤ is_off.since)
      by (inl late) = late
      by (inr earlier) =
          let pulls : leaves_clock events latch start b j ≡ false =
          ap (λ (v : Pc). (drive v.side.port.link).clk) (one (32 * j + 18) (omega (arith, afterwards)))
          ∙ pulled_is_low (at_whole (32 * j + 18)).side.port.link is_off.since earlier.0 in
          absurd (cc (high, pulls))

  -- at a first look: since the second of the cell before, where the clock was left alone there, or since the first edge
  pub since_second : ((i : ℕ) → suc i ≡ j → leaves_cycle events latch start b (32 * i + 28) ≡ true)
      → (32 * j + now ≤ is_off.since) ⊎ ((i : ℕ) × (suc i ≡ j) × (32 * i + now + 28 ≤ is_off.since))
  since_second high = by is_off.from_when
    where
      at_start : (i : ℕ) → i ≡ j → pulled (at_whole (32 * j)).side.port.link ≡ Some is_off.since
          → (32 * j + now ≤ is_off.since) ⊎ ((i : ℕ) × (suc i ≡ j) × (32 * i + now + 28 ≤ is_off.since))
      at_start zero e pulls =
          let none : pulled (at_whole (32 * j)).side.port.link ≡ None =
          ap (λ k. pulled (at_whole (32 * k)).side.port.link) (sym e) ∙ ap pulled at.link_is in
          absurd (cc (none, pulls))
      at_start (suc i) e pulls =
          let l : i < j = omega (arith, e) in
          let few : i < 10 = omega (arith, l, below) in
          let on : (drive (at_whole (32 * i + 28)).side.port.link).clk ≡ true =
          ap (λ (v : Pc). (drive v.side.port.link).clk) (sym (one (32 * i + 28) (omega (arith, l)))) ∙ high i e in
          inr (
            i,
            e,
            since_end events line now bits frame c q Free w true at (sent_way bits c.side.port) i is_off.since few
                (is_off.before i l) on
                (ap (λ k. pulled (at_whole (32 * k)).side.port.link) e ∙ pulls),
          )

      by : ((suc j < 10) × (32 * j + now + 18 ≤ is_off.since))
          ⊎ ((pulled (at_whole (32 * j + 18)).side.port.link ≡ Some is_off.since)
          × ((32 * j + now ≤ is_off.since) ⊎ (pulled (at_whole (32 * j)).side.port.link ≡ Some is_off.since)))
          → (32 * j + now ≤ is_off.since) ⊎ ((i : ℕ) × (suc i ≡ j) × (32 * i + now + 28 ≤ is_off.since))
      by (inl (inside, late)) = inl (omega (arith, late))
      by (inr (there, inl late)) = inl late
      by (inr (there, inr pulls)) = at_start j refl pulls

-- a tick whose frame the controller breaks off at a look is in byte time one whose byte is cut
pub all_broken : BrokenTick
all_broken events latch line start rest byte j n k bits b up earlier later frame below afterwards short same leaves low high e =
    let c : Pc = at_meeting events latch start b in
    let at : IsAt c Free true =
    free_at events latch (256 + start) b (up288 events latch start rest b up (ap is_busy earlier)) earlier later in
    let off = is_off events latch line start j n bits b frame at below afterwards short same leaves low in
    let now : ℕ = 288 + start in
    let t : ℕ = 32 * j + suc n in
    let is : board_cycles events latch t now c ≡ board_cycles events line t now c =
    same_lines events latch line t now c (λ o a u. same o a (omega (arith, u))) in
    let idle : is_busy (board_cycles events latch t now c).side.port.link ≡ false =
    ap (λ (v : Pc). is_busy v.side.port.link) is ∙ not_busy (board_cycles events line t now c).side.port.link off.since off.pulls in
    let passes = broken events latch now byte c j n below short (λ o a u. high o (omega (arith, a)) (omega (arith, u))) idle
    (ap (λ (v : Pc). seen_in_bytes v.side) is ∙ off.agrees) in
    let at609 : Pc = board_cycles events latch 321 now c in
    let last = between events latch rest (609 + start) at609 (λ o l u. high o (omega (arith, l, below, short)) (omega (arith, u))) passes.1 in
    joins events latch start rest b up (ap is_busy earlier) true (Some byte)
    (Sent byte) Cut (begins events latch start rest b up (ap is_busy earlier) byte earlier later)
    (cut_where byte (Rattle.model_controller.specs.ByteTime.sends events now (seen_in_bytes c.side)).port.link passes.2) passes.0 last k e
