-- The first look that finds the clock low: the controller began to pull it after the look before.
use Rattle.std.proofs.Common.{◌≡◌, ◌≤◌, ◌<◌, ◌⊎◌, inl, inr, ℕ, suc, ◌+◌, ◌-◌, ◌*◌, List, Bool, true, false, nat_lt, Some}
use Rattle.std.proofs.Common.{refl, ap, sym, ◌∙◌, arith}
use Rattle.std.proofs.lemmas.Bool.Decides.{nat_tests}
use Rattle.board_terms.specs.declared.event.HostEvent.{HostEvent}
use Rattle.board_terms.specs.declared.lines.Lines.{Lines}
use Rattle.ctl_link.specs.Pulls.{pulled}
use Rattle.ctl_link.specs.declared.link.Link.TheVariants.{Free}
use Rattle.ctl_wire.proofs.Pulls.{pulled_is_low}
use Rattle.ctl_wire.specs.Wire.{drive}
use Rattle.law_fw_link.proofs.Lets.{lets_at, as_cycle, pulled_look}
use Rattle.law_fw_link.proofs.Outside.{sent_lines}
use Rattle.law_fw_link.proofs.TickLatch.{lines_by}
use Rattle.law_fw_link.proofs.Wired.{IsReleased}
use Rattle.law_fw_link.specs.Latch.{SentFrame, IsLook, frame_bit}
use Rattle.ctl_wire.specs.Wires.{Pc}
use Rattle.law_wires_agree.proofs.CellByCell.{cycles_more}
use Rattle.law_wires_agree.proofs.Meetings.{free_at, free_between, free_or_pulls}
use Rattle.law_wires_agree.proofs.Off.{is_off, since_first, since_second}
use Rattle.law_wires_agree.proofs.Pulls.{pulled_span}
use Rattle.law_wires_agree.proofs.Spans.{IsAt}
use Rattle.law_wires_agree.specs.Cycles.{board_cycles}
use Rattle.law_wires_agree.specs.Ticks.{at_meeting, leaves_clock, leaves_cycle}
use Rattle.law_agreement.proofs.Frames.{FirstLow, free_or_not}

-- a link that is free before the first edge and at it left the clock alone between
pub free_stays_high : (events : List HostEvent) (lines : ℕ → Lines) (now : ℕ) (b : Pc) (n rest : ℕ) → n + rest ≡ 32
    → ((o : ℕ) → now ≤ o → o < now + 32 → (lines o).clk ≡ true) → b.side.port.link ≡ Free
    → (board_cycles events lines 32 now b).side.port.link ≡ Free
    → (drive (board_cycles events lines n now b).side.port.link).clk ≡ false → ⊥
free_stays_high events lines now b n rest all up here there low =
    let free : (board_cycles events lines n now b).side.port.link ≡ Free =
    free_between events lines n rest 32 now b all (omega arith) up here there in
    let high : (drive (board_cycles events lines n now b).side.port.link).clk ≡ true = ap (λ l. (drive l).clk) free in
    cc (high, low)

module _ (events : List HostEvent) (v start : ℕ) (released : IsReleased v) (b : Pc) (byte : ℕ)
    (free : b.side.port.link ≡ Free) where
  abbrev whole : ℕ → Lines
  whole = lines_by (SentFrame byte) v start released

  -- the PC's side so many cycles after the tick's look at the clock
  abbrev at_cycle : ℕ → Pc
  at_cycle n = board_cycles events whole n (256 + start) b

  abbrev lets : ℕ → Bool
  lets look = lets_at events whole start b look

  -- at a look that is the first, the controller pulls the clock since a cycle after the looks before
  pub record Since (look : ℕ) : Type 0 where
    pub since : ℕ
    pub pulls : pulled (at_cycle (4 + look)).side.port.link ≡ Some since
    pub from : start + 256 ≤ since
    pub afterwards : (earlier : ℕ) → IsLook earlier → earlier < look → start + (260 + earlier) ≤ since

  up : (o : ℕ) → 256 + start ≤ o → o < 288 + start → (whole o).clk ≡ true
  up o a u = (sent_lines v start released byte 0).0 o a u

  -- from a cycle before the first edge in which the link is free
  on : (n t : ℕ) → n + t ≤ 32 → (at_cycle n).side.port.link ≡ Free
      → ((at_cycle (n + t)).side.port.link ≡ Free)
      ⊎ ((since : ℕ) × (pulled (at_cycle (n + t)).side.port.link ≡ Some since) × (n + (256 + start) ≤ since))
  on n t short here =
      let more : at_cycle (n + t) ≡ board_cycles events whole t (n + (256 + start)) (at_cycle n) =
      cycles_more events whole n t (n + t) (256 + start) b refl in
      elim (free_or_pulls events whole t (n + (256 + start)) (at_cycle n) (omega (arith, short))
      (λ o l u. up o (omega (arith, l)) (omega (arith, u, short))) here) [
        | inl still ↦ inl (ap (λ (c : Pc). c.side.port.link) more ∙ still)
        | inr p ↦ inr (p.since, ap (λ (c : Pc). pulled c.side.port.link) more ∙ p.is, p.from)
      ]

  -- so it is free at a look that finds the clock high
  free_on : (n t : ℕ) → n + t ≤ 32 → (at_cycle n).side.port.link ≡ Free
      → (drive (at_cycle (n + t)).side.port.link).clk ≡ true → (at_cycle (n + t)).side.port.link ≡ Free
  free_on n t short here high =
      elim (on n t short here) [
        | inl still ↦ still
        | inr p ↦ absurd (let low : (drive (at_cycle (n + t)).side.port.link).clk ≡ false =
            pulled_is_low (at_cycle (n + t)).side.port.link p.0 p.1 in cc (high, low))
      ]

  pulls_on : (n t : ℕ) → n + t ≤ 32 → (at_cycle n).side.port.link ≡ Free
      → (drive (at_cycle (n + t)).side.port.link).clk ≡ false
      → (since : ℕ) × (pulled (at_cycle (n + t)).side.port.link ≡ Some since) × (n + (256 + start) ≤ since)
  pulls_on n t short here low =
      elim (on n t short here) [
        | inl still ↦ absurd (let high : (drive (at_cycle (n + t)).side.port.link).clk ≡ true = ap (λ l. (drive l).clk) still in
            cc (high, low))
        | inr p ↦ p
      ]

  free_at_first : lets 8 ≡ true → (at_cycle 12).side.port.link ≡ Free
  free_at_first high = free_on 0 12 (omega arith) free high

  free_at_second : lets 8 ≡ true → lets 26 ≡ true → (at_cycle 30).side.port.link ≡ Free
  free_at_second high high' = free_on 12 18 (omega arith) (free_at_first high) high'

  -- a link that isn't free at the first edge was pulled by then, so the look is one up to that of the first cell
  pub is_early : (first : FirstLow lets) → ((at_meeting events whole start b).side.port.link ≡ Free → ⊥) → first.look ≤ 46
  is_early first gone = by (nat_lt 46 first.look) refl
    where
      by : (c : Bool) → nat_lt 46 first.look ≡ c → first.look ≤ 46
      by true e =
          let l : 46 < first.look = grind (arith, nat_tests, e) in
          let few : 0 < 10 = omega arith in
          let high : lets 46 ≡ true = first.before 46 (inr (inr (0, few, inl refl))) l in
          let low : lets 46 ≡ false = as_cycle events whole start b 46 18 refl ∙ pulled_look events whole start b up free gone in
          absurd (cc (high, low))
      by false e = grind (arith, nat_tests, e)

  -- and one that is free there wasn't low before
  pub is_late : (look : ℕ) → look ≤ 26 → lets look ≡ false → (at_meeting events whole start b).side.port.link ≡ Free → ⊥
  is_late look early low there =
      free_stays_high events whole (256 + start) b (4 + look) (28 - look) (omega (arith, early))
      (λ o a u. up o a (omega (arith, u))) free there low

  -- the three looks that may see a pull before the first edge
  before_edge : ((at_meeting events whole start b).side.port.link ≡ Free → ⊥) → (look : ℕ) → IsLook look → look ≤ 46
      → ((earlier : ℕ) → IsLook earlier → earlier < look → lets earlier ≡ true) → lets look ≡ false → Since look
  before_edge gone look (inl e) early before low =
      let p = pulls_on 0 12 (omega arith) free (ap lets (sym e) ∙ low) in
      let from : 0 + (256 + start) ≤ p.0 = p.2 in
      record {
        since = p.0;
        pulls = ap (λ o. pulled (at_cycle (4 + o)).side.port.link) e ∙ p.1;
        from = omega (arith, from);
        afterwards = λ earlier is l. absurd (no_earlier earlier is (omega (arith, e, l)));
      }
    where
      no_earlier : (earlier : ℕ) → IsLook earlier → earlier < 8 → ⊥
      no_earlier earlier (inl q) l = omega (arith, q, l)
      no_earlier earlier (inr (inl q)) l = omega (arith, q, l)
      no_earlier earlier (inr (inr (k, few, inl q))) l = omega (arith, q, l)
      no_earlier earlier (inr (inr (k, few, inr (q, more)))) l = omega (arith, q, l)
  before_edge gone look (inr (inl e)) early before low =
      let high : lets 8 ≡ true = before 8 (inl refl) (omega (arith, e)) in
      let p = pulls_on 12 18 (omega arith) (free_at_first high) (ap lets (sym e) ∙ low) in
      let from : 12 + (256 + start) ≤ p.0 = p.2 in
      record {
        since = p.0;
        pulls = ap (λ o. pulled (at_cycle (4 + o)).side.port.link) e ∙ p.1;
        from = omega (arith, from);
        afterwards = λ earlier is l. (let one : earlier ≤ 8 = up_to_eight earlier is (omega (arith, e, l)) in omega (arith, one, from));
      }
    where
      up_to_eight : (earlier : ℕ) → IsLook earlier → earlier < 26 → earlier ≤ 8
      up_to_eight earlier (inl q) l = omega (arith, q, l)
      up_to_eight earlier (inr (inl q)) l = absurd (omega (arith, q, l))
      up_to_eight earlier (inr (inr (k, few, inl q))) l = absurd (omega (arith, q, l))
      up_to_eight earlier (inr (inr (k, few, inr (q, more)))) l = absurd (omega (arith, q, l))
  before_edge gone look (inr (inr (k, few, inl e))) early before low =
      let first : k ≡ 0 = omega (arith, e, early) in
      let at : look ≡ 46 = omega (arith, e, first) in
      let free30 = free_at_second (before 8 (inl refl) (omega (arith, at))) (before 26 (inr (inl refl)) (omega (arith, at))) in
      elim (on 30 2 (omega arith) free30) as (λ way. Since look) [
        | inl still ↦ absurd (gone still)
        | inr p ↦
            let from : 30 + (256 + start) ≤ p.0 = p.2 in
            let more : at_cycle 50 ≡ board_cycles events whole 18 (32 + (256 + start)) (at_cycle 32) =
            cycles_more events whole 32 18 50 (256 + start) b refl in
            record {
              since = p.0;
              pulls = ap (λ o. pulled (at_cycle (4 + o)).side.port.link) at
                  ∙ ap (λ (c : Pc). pulled c.side.port.link) more
                  ∙ (pulled_span events whole 18 (32 + (256 + start)) (at_cycle 32) p.0 p.1 (omega (arith, from))).1;
              from = omega (arith, from);
              afterwards = λ earlier is l. (let one : earlier ≤ 26 = up_to_second earlier is (omega (arith, at, l)) in omega (arith, one, from));
            }
      ]
    where
      up_to_second : (earlier : ℕ) → IsLook earlier → earlier < 46 → earlier ≤ 26
      up_to_second earlier (inl q) l = omega (arith, q, l)
      up_to_second earlier (inr (inl q)) l = omega (arith, q, l)
      up_to_second earlier (inr (inr (k, few, inl q))) l = absurd (omega (arith, q, l))
      up_to_second earlier (inr (inr (k, few, inr (q, more)))) l = absurd (omega (arith, q, l))
  before_edge gone look (inr (inr (k, few, inr (e, more)))) early before low = absurd (omega (arith, e, early))

  -- the PC's side at a look, by the cycles after the first edge
  as_look : (look n : ℕ) → look ≡ 28 + n
      → pulled (at_cycle (4 + look)).side.port.link
      ≡ pulled (board_cycles events whole n (288 + start) (at_meeting events whole start b)).side.port.link
  as_look look n e =
      let p : 32 + (256 + start) ≡ 288 + start = omega arith in
      let q : 32 + n ≡ 4 + look = omega (arith, e) in
      ap (λ (c : Pc). pulled c.side.port.link)
      (cycles_more events whole 32 n (4 + look) (256 + start) b q
      ∙ ap (λ c. board_cycles events whole n c (at_meeting events whole start b)) p)

  -- the looks before those of a cell, and before its second
  up_to_cell : (k earlier : ℕ) → IsLook earlier → earlier < 46 + 32 * k
      → (earlier ≤ 28 + 32 * k) × (1 ≤ k → earlier ≤ 24 + 32 * k)
  up_to_cell k earlier (inl q) l = (omega (arith, q), λ more. omega (arith, q, more))
  up_to_cell k earlier (inr (inl q)) l = (omega (arith, q), λ more. omega (arith, q, more))
  up_to_cell k earlier (inr (inr (i, few, inl q))) l = (omega (arith, q, l), λ more. omega (arith, q, l))
  up_to_cell k earlier (inr (inr (i, few, inr (q, less)))) l = (omega (arith, q, l), λ more. omega (arith, q, l))

  up_to_first : (k earlier : ℕ) → IsLook earlier → earlier < 56 + 32 * k → earlier ≤ 46 + 32 * k
  up_to_first k earlier (inl q) l = omega (arith, q)
  up_to_first k earlier (inr (inl q)) l = omega (arith, q)
  up_to_first k earlier (inr (inr (i, few, inl q))) l = omega (arith, q, l)
  up_to_first k earlier (inr (inr (i, few, inr (q, less)))) l = omega (arith, q, l)

  -- and those of the cells, by what is known of a frame that is broken off
  module _ (there : (at_meeting events whole start b).side.port.link ≡ Free) where
    at : IsAt (at_meeting events whole start b) Free true
    at = free_at events whole (256 + start) b (λ o a u. up o a (omega (arith, u))) free there

    in_cells : (look : ℕ) → IsLook look → ((earlier : ℕ) → IsLook earlier → earlier < look → lets earlier ≡ true)
        → lets look ≡ false → Since look
    in_cells look (inl e) before low = absurd (is_late look (omega (arith, e)) low there)
    in_cells look (inr (inl e)) before low = absurd (is_late look (omega (arith, e)) low there)
    in_cells look (inr (inr (k, few, inl e))) before low =
        let leaves : (i : ℕ) → i < k → leaves_clock events whole start b i ≡ true = λ i l.
        let less : i < 10 = omega (arith, l, few) in
        sym (as_cycle events whole start b (46 + 32 * i) (32 * i + 18) (omega arith))
        ∙ before (46 + 32 * i) (inr (inr (i, less, inl refl))) (omega (arith, e, l)) in
        let pulls : leaves_cycle events whole start b (32 * k + suc 17) ≡ false =
        sym (as_cycle events whole start b look (32 * k + suc 17) (omega (arith, e))) ∙ low in
        let frame = (sent_lines v start released byte 0).1 in
        let off = is_off events whole whole start k 17 (frame_bit byte) b frame at few (omega arith) (omega arith)
        (λ o a u. refl) leaves pulls in
        let way = since_second events whole whole start k 17 (frame_bit byte) b frame at few (omega arith) (omega arith)
        (λ o a u. refl) leaves pulls
        (λ i s. let less : i < 10 = omega (arith, s, few) in
        sym (as_cycle events whole start b (56 + 32 * i) (32 * i + 28) (omega arith))
        ∙ before (56 + 32 * i) (inr (inr (i, less, inr (refl, omega (arith, s, few))))) (omega (arith, e, s))) in
        record {
          since = off.since;
          pulls = as_look look (32 * k + suc 17) (omega (arith, e)) ∙ off.pulls;
          from = elim way as (λ q. start + 256 ≤ off.since) [
            | inl late ↦ omega (arith, late)
            | inr earlier ↦ omega (arith, earlier.2)
          ];
          afterwards = λ earlier is l.
              let most = up_to_cell k earlier is (omega (arith, e, l)) in
              elim way as (λ q. start + (260 + earlier) ≤ off.since) [
                | inl late ↦ omega (arith, late, most.0)
                | inr before ↦
                    let s : suc before.0 ≡ k = before.1 in
                    let least : 32 * before.0 + (288 + start) + 28 ≤ off.since = before.2 in
                    let near : earlier ≤ 24 + 32 * k = most.1 (omega (arith, s)) in
                    omega (arith, s, least, near)
              ];
        }
    in_cells look (inr (inr (k, few, inr (e, less)))) before low =
        let high : leaves_clock events whole start b k ≡ true =
        sym (as_cycle events whole start b (46 + 32 * k) (32 * k + 18) (omega arith))
        ∙ before (46 + 32 * k) (inr (inr (k, few, inl refl))) (omega (arith, e)) in
        let leaves : (i : ℕ) → i < k → leaves_clock events whole start b i ≡ true = λ i l.
        let less : i < 10 = omega (arith, l, few) in
        sym (as_cycle events whole start b (46 + 32 * i) (32 * i + 18) (omega arith))
        ∙ before (46 + 32 * i) (inr (inr (i, less, inl refl))) (omega (arith, e, l)) in
        let pulls : leaves_cycle events whole start b (32 * k + suc 27) ≡ false =
        sym (as_cycle events whole start b look (32 * k + suc 27) (omega (arith, e))) ∙ low in
        let frame = (sent_lines v start released byte 0).1 in
        let off = is_off events whole whole start k 27 (frame_bit byte) b frame at few (omega arith) (omega arith)
        (λ o a u. refl) leaves pulls in
        let way = since_first events whole whole start k 27 (frame_bit byte) b frame at few (omega arith) (omega arith)
        (λ o a u. refl) leaves pulls high in
        let least : 32 * k + (288 + start) + 18 ≤ off.since = way.1 in
        record {
          since = off.since;
          pulls = as_look look (32 * k + suc 27) (omega (arith, e)) ∙ off.pulls;
          from = omega (arith, least);
          afterwards = λ earlier is l.
              (let near : earlier ≤ 46 + 32 * k = up_to_first k earlier is (omega (arith, e, l)) in omega (arith, near, least));
        }

  -- what is known of the first look that finds the clock low
  pub since : (first : FirstLow lets) → Since first.look
  since first =
      elim (free_or_not (at_meeting events whole start b).side.port.link) [
        | inl there ↦ in_cells there first.look first.is first.before first.low
        | inr gone ↦ before_edge gone first.look first.is (is_early first gone) first.before first.low
      ]
