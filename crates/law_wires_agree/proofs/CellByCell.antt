-- A frame, cell by cell, in either direction: the keyboard's may be broken off before its tenth edge.
use Rattle.std.proofs.Common.{◌≡◌, ℕ, suc, zero, ◌+◌, ◌*◌, ◌≤◌, ◌<◌, List, Bool, true, false, ◌&&◌}
use Rattle.std.proofs.Common.{Some, None, refl, ap, sym, ◌∙◌, subst, ◌⊎◌, inl, inr, arith}
use Rattle.std.specs.Prelude.{nat_lt}
use Rattle.std.proofs.lemmas.Bool.Decides.{nat_tests}
use Rattle.ctl_link.specs.declared.link.Link.{Link}
use Rattle.ctl_link.specs.declared.link.Link.TheVariants.{Busy}
use Rattle.ctl_link.specs.declared.port.LinkEnd.{LinkEnd}
use Rattle.ctl_link.specs.Link.{is_busy}
use Rattle.ctl_link.specs.Pulls.{pulled}
use Rattle.board_terms.specs.declared.event.HostEvent.{HostEvent}
use Rattle.host_turn.specs.Run.{Side}
use Rattle.board_terms.specs.declared.lines.Lines.{Lines}
use Rattle.ctl_wire.specs.declared.wire.Wire.{Wire}
use Rattle.ctl_wire.specs.Wire.{edge_at, drive, is_breakable}
use Rattle.ctl_wire.specs.Wires.{Pc, board_cycle}
use Rattle.model_controller.specs.declared.UnderWay.{UnderWay}
use Rattle.model_controller.specs.ByteTime.{quietly, byte_cycle, happened_at, Begins}
use Rattle.model_controller.proofs.Quiet.{quiet_more}
use Rattle.law_wires_agree.specs.Without.{seen_in_bytes, without_bits, port_by}
use Rattle.law_wires_agree.specs.Cycles.{board_cycles}
use Rattle.law_wires_agree.specs.Cells.{IsCell, IsFrame}
use Rattle.law_wires_agree.specs.InFrame.{at_edge, up_to}
use Rattle.law_wires_agree.proofs.Spans.{IsAt, On}
use Rattle.ctl_wire.proofs.Pulls.{pulled_is_low}
use Rattle.law_wires_agree.proofs.Ways.{IsWay}
use Rattle.law_wires_agree.proofs.Pulls.{pulled_span}
use Rattle.law_wires_agree.proofs.Under.{busy_span}
use Rattle.law_wires_agree.proofs.Frames.{cell}
use Rattle.law_wires_agree.proofs.Idle.{idle_edge, idle_seen}

-- cycles after cycles
pub cycles_more : (events : List HostEvent) (latch : ℕ → Lines) (m n k now : ℕ) (b : Pc) → m + n ≡ k
    → board_cycles events latch k now b ≡ board_cycles events latch n (m + now) (board_cycles events latch m now b)
cycles_more events latch zero n k now b e =
    let a : k ≡ n = omega (arith, e) in
    let z : now ≡ 0 + now = omega arith in
    ap (λ j. board_cycles events latch j now b) a ∙ ap (λ j. board_cycles events latch n j b) z
cycles_more events latch (suc m) n zero now b e = absurd (omega (arith, e))
cycles_more events latch (suc m) n (suc k) now b e =
    let z : m + suc now ≡ suc m + now = omega arith in
    cycles_more events latch m n k (suc now) (board_cycle events now (latch now) b) (omega (arith, e))
    ∙ ap (λ j. board_cycles events latch n j (board_cycles events latch (suc m) now b)) z

module _ (events : List HostEvent) (latch : ℕ → Lines) (now : ℕ) (bits : ℕ → Bool) (is : IsFrame latch now bits)
    (b : Pc) (q : LinkEnd Wire) (l : Link Wire) (w : ℕ → Wire)
    (from : Bool) (at : IsAt b l true) (way : IsWay b.side.port q l w from bits) where
  abbrev pc_at : ℕ → Pc
  pc_at t = board_cycles events latch t now b

  abbrev model : ℕ → ℕ → Side UnderWay
  model k n = up_to events from k n now (seen_in_bytes b.side)

  -- in each cycle of cell k both sides are the same, and 18 cycles into it the byte is under way
  pub record IsOn (k : ℕ) : Type 0 where
    pub in_cell : (n : ℕ) → n ≤ 31 → seen_in_bytes (pc_at (32 * k + suc n)).side ≡ model k n
    pub busy : (pc_at (32 * k + 18)).side.port.link ≡ Busy (w k)
    pub clock : (pc_at (32 * k + 18)).clock ≡ (latch (17 + (32 * k + now))).clk

  -- or it was broken off since the look before, and in the cells before it was under way
  pub record IsBroken (k : ℕ) : Type 0 where
    pub few : k < 10
    pub in_cell : (n : ℕ) → n ≤ 31 → seen_in_bytes (pc_at (32 * k + suc n)).side ≡ model k n
    pub since : ℕ
    pub late : 32 * k + now ≤ since + 14
    pub from_here : (32 * k + now ≤ since) ⊎ (pulled (pc_at (32 * k)).side.port.link ≡ Some since)
    pub pulls : pulled (pc_at (32 * k + 18)).side.port.link ≡ Some since
    pub opened : (i : ℕ) × (is_breakable (w i) ≡ true)
    pub before : (i : ℕ) → i < k → IsOn i

  -- cell k has ended, with the byte under way
  pub record IsThrough (k : ℕ) : Type 0 where
    pub agrees : seen_in_bytes (pc_at (32 * suc k)).side ≡ model k 31
    pub there : IsAt (pc_at (32 * suc k)) (Busy (w k)) true
    pub up_to_here : (i : ℕ) → i < suc k → IsOn i

  abbrev HoldsAt : ℕ → Type 0
  HoldsAt k = IsThrough k ⊎ ((j : ℕ) × IsBroken j)

  lengthen : (s t : ℕ) (m : Side UnderWay) → t ≡ 17 + s → quietly events 14 t (quietly events 17 s m) ≡ quietly events 31 s m
  lengthen s t m e = ap (λ j. quietly events 14 j (quietly events 17 s m)) e ∙ sym (quiet_more events 17 14 31 s m refl)

  longer : (k : ℕ) → quietly events 14 (suc (17 + (32 * k + now))) (model k 17) ≡ model k 31
  longer zero = lengthen (suc now) (suc (17 + (32 * 0 + now))) (byte_cycle events now (Begins from) (seen_in_bytes b.side)) (omega arith)
  longer (suc k) =
      let x : ℕ = 32 * suc k + now in
      lengthen (suc x) (suc (17 + x)) (byte_cycle events x (at_edge from (suc k)) (model k 31)) (omega arith)

  with_this : (k : ℕ) → ((i : ℕ) → i < k → IsOn i) → IsOn k → (i : ℕ) → i < suc k → IsOn i
  with_this k before on i l = by_case (nat_lt i k) refl
    where
      by_case : (c : Bool) → nat_lt i k ≡ c → IsOn i
      by_case true e = before i (grind (arith, nat_tests, e))
      by_case false e = let same : k ≡ i = grind (arith, nat_tests, e, l) in subst IsOn same on

  -- a byte that can be broken off isn't in its tenth cell
  pub not_last : (k : ℕ) → k < 10 → is_breakable (w k) ≡ true → suc k < 10
  not_last k l opens = by_case (nat_lt k 9) refl
    where
      by_case : (c : Bool) → nat_lt k 9 ≡ c → suc k < 10
      by_case true e = grind (arith, nat_tests, e)
      by_case false e =
          let same : k ≡ 9 = grind (arith, nat_tests, e, l) in
          let shut : is_breakable (w k) ≡ false = ap (λ j. is_breakable (w j)) same ∙ way.last in
          absurd (cc (opens, shut))

  -- broken off after the look of cell k: the look of the next cell sees it
  next_cell : (k : ℕ) → k < 10 → ((i : ℕ) → i < suc k → IsOn i) → is_breakable (w k) ≡ true
      → seen_in_bytes (pc_at (32 * suc k)).side ≡ model k 31 → (since : ℕ) → 32 * k + now + 18 ≤ since
      → pulled (pc_at (32 * suc k)).side.port.link ≡ Some since
      → IsBroken (suc k)
  next_cell k below before opens agrees since late pulls =
      let x : ℕ = 32 * suc k + now in
      let b' : Pc = pc_at (32 * suc k) in
      let rest = pulled_span events latch 18 x b' since pulls (omega (arith, late)) in
      let more : pc_at (32 * suc k + 18)
      ≡ board_cycles events latch 18 x b' = cycles_more events latch (32 * suc k) 18 (32 * suc k + 18) now b refl in
      let idle : is_busy (model k 31).port.link ≡ false = ap (λ m. is_busy m.port.link) (sym agrees)
      ∙ idle_seen b'.side.port.link since pulls in
      record {
        few = not_last k below opens;
        in_cell = λ n short.
            ap (λ (v : Pc). seen_in_bytes v.side) (cycles_more events latch (32 * suc k) (suc n) (32 * suc k + suc n) now b refl)
            ∙ (pulled_span events latch (suc n) x b' since pulls (omega (arith, late, short))).0
            ∙ ap (λ m. quietly events (suc n) x m) agrees
            ∙ ap (λ m. quietly events n (suc x) m) (sym (idle_edge events from k x (model k 31) idle));
        since = since;
        late = omega (arith, late);
        from_here = inr pulls;
        pulls = ap (λ (v : Pc). pulled v.side.port.link) more ∙ rest.1;
        opened = (k, opens);
        before = before;
      }

  -- from a cycle of a cell in which the byte is under way some cycles on, from its 18th cycle on
  goes_on_from : (k n t : ℕ) → k < 10 → 17 ≤ n → n + t ≤ 31
      → IsAt (pc_at (32 * k + suc n)) (Busy (w k)) (latch (n + (32 * k + now))).clk
      → (seen_in_bytes (pc_at (32 * k + (suc n + t))).side
      ≡ quietly events t (suc (n + (32 * k + now))) (seen_in_bytes (pc_at (32 * k + suc n)).side))
      × On (pc_at (32 * k + (suc n + t))) (w k) (latch (t + (n + (32 * k + now)))).clk (suc (n + (32 * k + now)))
  goes_on_from k n t below late short here =
      let x : ℕ = 32 * k + now in
      let y : ℕ = 32 * k + suc n in
      let c : IsCell latch x (bits k) = is.cells k below in
      let rest = busy_span events latch t (n + x) (pc_at y) (w k)
      (omega (arith, short)) here (λ o lo hi. c.once o (omega (arith, lo)) (omega (arith, hi, short))) in
      let z : suc (n + x) ≡ y + now = omega arith in
      let e : y + t ≡ 32 * k + (suc n + t) = omega arith in
      let same : board_cycles events latch t (suc (n + x)) (pc_at y) ≡ pc_at (32 * k + (suc n + t)) =
      ap (λ j. board_cycles events latch t j (pc_at y)) z ∙ sym (cycles_more events latch y t (32 * k + (suc n + t)) now b e) in (
        ap (λ (v : Pc). seen_in_bytes v.side) (sym same) ∙ rest.0,
        subst (λ v. On v (w k) (latch (t + (n + x))).clk (suc (n + x))) same rest.1,
      )

  -- in cell k the byte is under way so many cycles after its 18th, or the controller pulls the clock since then
  pub later_in_cell : (k t : ℕ) → k < 10 → t ≤ 14 → IsOn k
      → On (pc_at (32 * k + (18 + t))) (w k) (latch (t + (17 + (32 * k + now)))).clk (suc (17 + (32 * k + now)))
  later_in_cell k t below short on =
      (goes_on_from k 17 t below (omega arith) (omega (arith, short)) (record { link_is = on.busy; clock_is = on.clock })).1

  -- where it is still under way 28 cycles into the cell, and the controller pulls at the cell's end, it does so since then
  pub since_end : (k since : ℕ) → k < 10 → IsOn k → (drive (pc_at (32 * k + 28)).side.port.link).clk ≡ true
      → pulled (pc_at (32 * suc k)).side.port.link ≡ Some since → 32 * k + now + 28 ≤ since
  since_end k since below on high pulls =
      elim (later_in_cell k 10 below (omega arith) on) as (λ way. 32 * k + now + 28 ≤ since) [
        | inl stays ↦
            let f : 10 + (17 + (32 * k + now)) ≡ 27 + (32 * k + now) = omega arith in
            let at : IsAt (pc_at (32 * k + suc 27)) (Busy (w k)) (latch (27 + (32 * k + now))).clk =
            record { link_is = stays.link_is; clock_is = stays.clock_is ∙ ap (λ j. (latch j).clk) f } in
            elim (goes_on_from k 27 4 below (omega arith) (omega arith) at).1 as (λ way. 32 * k + now + 28 ≤ since) [
              | inl busy ↦
                  let e : 32 * k + (suc 27 + 4) ≡ 32 * suc k = omega arith in
                  let none : pulled (pc_at (32 * suc k)).side.port.link ≡ None =
                  ap (λ t. pulled (pc_at t).side.port.link) (sym e) ∙ ap pulled busy.link_is in
                  absurd (cc (none, pulls))
              | inr off ↦
                  let p = off.1 in
                  let e : 32 * k + (suc 27 + 4) ≡ 32 * suc k = omega arith in
                  let one : pulled (pc_at (32 * suc k)).side.port.link ≡ Some p.since =
                  ap (λ t. pulled (pc_at t).side.port.link) (sym e) ∙ p.is in
                  let same : p.since ≡ since = (let q : Some p.since ≡ Some since = sym one ∙ pulls in cc) in
                  omega (arith, p.from, same)
            ]
        | inr off ↦
            let low : (drive (pc_at (32 * k + 28)).side.port.link).clk ≡ false =
            pulled_is_low (pc_at (32 * k + 28)).side.port.link off.1.since off.1.is in
            absurd (cc (high, low))
      ]

  -- from the state 18 cycles into a cell to its end
  on_to_end : (k : ℕ) → k < 10 → ((i : ℕ) → i < k → IsOn i) → IsOn k → HoldsAt k
  on_to_end k below before on =
      let x : ℕ = 32 * k + now in
      let c : IsCell latch x (bits k) = is.cells k below in
      let rest = goes_on_from k 17 14 below (omega arith) (omega arith) (record { link_is = on.busy; clock_is = on.clock }) in
      let e : 32 * k + (18 + 14) ≡ 32 * suc k = omega arith in
      let agrees : seen_in_bytes (pc_at (32 * suc k)).side ≡ model k 31 =
      ap (λ t. seen_in_bytes (pc_at t).side) (sym e) ∙ rest.0
      ∙ ap (λ m. quietly events 14 (suc (17 + x)) m) (on.in_cell 17 (omega arith)) ∙ longer k in
      elim rest.1 [
        | inl stays ↦
            let f : 14 + (17 + x) ≡ 31 + x = omega arith in
            inl (record {
              agrees = agrees;
              there = record {
                link_is = ap (λ t. (pc_at t).side.port.link) (sym e) ∙ stays.link_is;
                clock_is = ap (λ t. (pc_at t).clock) (sym e) ∙ stays.clock_is ∙ ap (λ j. (latch j).clk) f ∙ c.rises;
              };
              up_to_here = with_this k before on;
            })
        | inr broken ↦
            let p = broken.1 in
            inr (
              suc k,
              next_cell k below (with_this k before on) broken.0 agrees p.since (omega (arith, p.from))
                  (ap (λ t. pulled (pc_at t).side.port.link) (sym e) ∙ p.is),
            )
      ]

  -- from a cell's first cycle to its end
  passes : (k : ℕ) → k < 10 → ((i : ℕ) → i < k → IsOn i) → (l' : Link Wire) (q' : LinkEnd Wire) → IsAt (pc_at (32 * k)) l' true
      → edge_at (32 * k + now) (bits k && (drive l').dat) l' (pc_at (32 * k)).side.port ≡ q' → q'.link ≡ Busy (w k)
      → port_by without_bits q' ≡ happened_at (32 * k + now) (at_edge from k) (port_by without_bits (pc_at (32 * k)).side.port)
      → ((n : ℕ) → quietly events n (suc (32 * k + now))
      (byte_cycle events (32 * k + now) (at_edge from k) (seen_in_bytes (pc_at (32 * k)).side)) ≡ model k n)
      → HoldsAt k
  passes k below before l' q' here edge busy same joins =
      let x : ℕ = 32 * k + now in
      let b' : Pc = pc_at (32 * k) in
      let c = cell events latch x (bits k) b' l' (w k) q' (at_edge from k) (is.cells k below) here edge busy same 17 (omega arith) in
      let more : pc_at (32 * k + 18) ≡ board_cycles events latch 18 x b' = cycles_more events latch (32 * k) 18 (32 * k + 18) now b refl in
      let in_cell : (n : ℕ) → n ≤ 31 → seen_in_bytes (pc_at (32 * k + suc n)).side ≡ model k n =
      λ n short.
      ap (λ (v : Pc). seen_in_bytes v.side) (cycles_more events latch (32 * k) (suc n) (32 * k + suc n) now b refl)
      ∙ (cell events latch x (bits k) b' l' (w k) q' (at_edge from k) (is.cells k below) here edge busy same n short).0 ∙ joins n in
      elim c.1 [
        | inl stays ↦
            on_to_end k below before (record {
              in_cell = in_cell;
              busy = ap (λ (v : Pc). v.side.port.link) more ∙ stays.link_is;
              clock = ap (λ (v : Pc). v.clock) more ∙ stays.clock_is;
            })
        | inr broken ↦
            let p = broken.1 in
            inr (
              k,
              record {
                few = below;
                in_cell = in_cell;
                since = p.since;
                late = omega (arith, p.from);
                from_here = inl (omega (arith, p.from));
                pulls = ap (λ (v : Pc). pulled v.side.port.link) more ∙ p.is;
                opened = (k, broken.0);
                before = before;
              },
            )
      ]

  -- up to the end of cell k, or to where it is broken off
  pub holds_so : (k : ℕ) → k < 10 → HoldsAt k
  holds_so zero below =
      let z : 32 * 0 + now ≡ now = omega arith in
      passes 0 below (λ i l. absurd (omega (arith, l))) l q at (way.first (32 * 0 + now)) way.begins (way.starts (32 * 0 + now))
      (λ n. ap (λ j. quietly events n (suc j) (byte_cycle events j (Begins from) (seen_in_bytes b.side))) z)
  holds_so (suc k) below =
      elim (holds_so k (omega (arith, below))) [
        | inl through ↦
            let x : ℕ = 32 * suc k + now in
            let b' : Pc = pc_at (32 * suc k) in
            passes (suc k) below through.up_to_here (Busy (w k)) (record b'.side.port { link = Busy (w (suc k)) }) through.there
            (way.next k x b'.side.port (omega (arith, below))) refl
            (way.kind k x b'.side.port (omega (arith, below)) through.there.link_is)
            (λ n. ap (λ m. quietly events n (suc x) (byte_cycle events x (at_edge from (suc k)) m)) through.agrees)
        | inr broken ↦ inr broken
      ]

-- a frame has ended
pub record IsAfterCells (b : Pc) : Type 0 where
  pub low : b.clock ≡ false
  pub free : is_busy b.side.port.link ≡ false
