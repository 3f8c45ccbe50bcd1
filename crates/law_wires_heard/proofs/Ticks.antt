-- A tick of the joint run, cycle by cycle: where a falling edge ends a byte; and step by step: where states are.
use Rattle.std.proofs.Common.{◌≡◌, ◌≤◌, ◌<◌, ◌⊎◌, inl, inr, ℕ, suc, zero, ◌+◌, ◌-◌, ◌*◌, List}
use Rattle.std.proofs.Common.{[], ◌∷◌, ◌++◌, length, Bool, true, false, not, ◌&&◌}
use Rattle.std.proofs.Common.{if◌then◌else◌, ◌==◌, refl, ap, sym, ◌∙◌, subst, arith}
use Rattle.std.specs.Prelude.{take, drop}
use Rattle.bits.proofs.Every.{same_of}
use Rattle.bits.specs.Bits.{bit}
use Rattle.board_terms.specs.Bits.{value}
use Rattle.board_terms.specs.declared.event.HostEvent.{HostEvent}
use Rattle.ctl_link.specs.Link.{is_busy}
use Rattle.ctl_link.specs.declared.link.Link.{Link}
use Rattle.ctl_link.specs.declared.link.Link.TheVariants.{Free, Hold, Ask, Request, Busy}
use Rattle.ctl_wire.specs.Wire.{drive}
use Rattle.ctl_wire.specs.declared.wire.Wire.{Wire}
use Rattle.ctl_wire.specs.declared.wire.Wire.TheVariants.{Recv, Send}
use Rattle.board_terms.specs.declared.transfer.Transfer.{Transfer}
use Rattle.law_fw_link.proofs.Wired.{IsReleased}
use Rattle.law_fw_link.proofs.Wires.{look_within}
use Rattle.law_fw_link.specs.Latch.{Frame, NoFrame, SentFrame, CutFrame, ReceivedFrame, tick_latch}
use Rattle.law_fw_logic.proofs.Blocks.{ticks_add}
use Rattle.joint_run.specs.Joint.{Beside, joint_cycle, latch_of}
use Rattle.joint_run.specs.Run.{World, after_cycles}
use Rattle.law_wires_heard.proofs.Clock.{cells, clock_in, clock_is, falls_at, Fits, IsEdge}
use Rattle.law_wires_heard.proofs.Counts.{edges_in, none_in, one_if, cycle_counts, clock_seen}
use Rattle.law_wires_heard.proofs.Ears.{high_low}
use Rattle.law_wires_heard.proofs.Pulls.{link_of, lets}
use Rattle.law_wires_heard.proofs.Steps.{StepOf}
use Rattle.law_wires_heard.specs.Passing.{ended_at, ended_by, ended_in}

module _ (events : List HostEvent) (x : ℕ) (start : Beside) (old v : ℕ) (was : IsReleased old) (is : IsReleased v)
    (frame : Frame) (fits : Fits old v was is frame) (idle : is_busy (link_of start) ≡ false) where
  abbrev pub latch : ℕ → ℕ
  latch o = tick_latch old v frame o

  -- what is beside the processor after so many cycles of the tick
  abbrev pub beside : ℕ → Beside
  beside n = after_cycles n 0 (λ o. joint_cycle events (latch o) (x + o)) start

  abbrev n : ℕ
  n = cells frame

  -- the clock that the latch drives
  pub drives : (o : ℕ) → bit 0 (latch o) ≡ clock_in n o
  drives o = clock_is old v was is frame fits o

  few_cells : (f : Frame) → Fits old v was is f → cells f ≤ 11
  few_cells NoFrame h = omega arith
  few_cells (SentFrame byte) h = omega arith
  few_cells (CutFrame byte look) h = let below : look ≤ 334 = look_within look h in omega (arith, below)
  few_cells ReceivedFrame h = omega arith

  -- a frame has eleven cells at most
  pub eleven_at_most : n ≤ 11
  eleven_at_most = few_cells frame fits

  -- what is beside the processor goes on by a cycle of the joint run
  pub beside_next : (o : ℕ) → beside (suc o) ≡ joint_cycle events (latch o) (x + o) (beside o)
  beside_next o =
      let a : suc o ≡ o + 1 = omega arith in
      let z : 0 + o ≡ o = omega arith in
      ap beside a ∙ ticks_add o 1 0 (λ o. joint_cycle events (latch o) (x + o)) start
      ∙ ap (λ k. joint_cycle events (latch k) (x + k) (beside o)) z

  -- where the controller's look saw the clock high, the latch left it alone
  saw_high : (o : ℕ) → (beside (suc o)).pc.clock ≡ true → clock_in n o ≡ true
  saw_high o h =
      let e : ((latch_of (latch o)).clk && lets (beside o)) ≡ true =
      sym (clock_seen events (latch o) (x + o) (beside o)) ∙ ap (λ (b : Beside). b.pc.clock) (sym (beside_next o)) ∙ h in
      sym (drives o) ∙ left (bit 0 (latch o)) (lets (beside o)) e
    where
      left : (a b : Bool) → (a && b) ≡ true → a ≡ true
      left true b h = refl
      left false b h = absurd cc

  -- a look that sees the clock fall by the latch is at a cell's first cycle
  pub edge_at_cell : (o : ℕ) → (beside o).pc.clock ≡ true → clock_in n o ≡ false → IsEdge n o
  edge_at_cell zero seen low = absurd (let z : true ≡ false = low in cc)
  edge_at_cell (suc o) seen low = falls_at n o (saw_high o seen) low

  -- the edges that the controller has counted are no more than the latch's
  abbrev Few : ℕ → Type 0
  Few o = (edges_in (link_of (beside o)) ≡ 0) ⊎ (32 * edges_in (link_of (beside o)) + 256 < o)

  few_more : (o : ℕ) → Few o → (c : Bool) → ((beside o).pc.clock && not (latch_of (latch o)).clk) ≡ c
      → edges_in (link_of (beside (suc o))) ≤ edges_in (link_of (beside o)) + one_if c → Few (suc o)
  few_more o (inl none) false e l = inl (omega (arith, none, l))
  few_more o (inr some) false e l = inr (omega (arith, some, l))
  few_more o before true e l =
      let f = high_low (beside o).pc.clock (latch_of (latch o)).clk e in
      let edge = edge_at_cell o f.0 (sym (drives o) ∙ f.1) in
      let at : o ≡ 288 + 32 * edge.cell = edge.at in
      elim before [
        | inl none ↦ inr (omega (arith, none, l, at))
        | inr some ↦ inr (omega (arith, some, l, at))
      ]

  few : (o : ℕ) → Few o
  few zero = inl (none_in (link_of start) idle)
  few (suc o) =
      let c : Bool = (beside o).pc.clock && not (latch_of (latch o)).clk in
      let l : edges_in (link_of (joint_cycle events (latch o) (x + o) (beside o))) ≤ edges_in (link_of (beside o)) + one_if c =
      cycle_counts events (latch o) (x + o) (beside o) in
      let is : edges_in (link_of (beside (suc o))) ≡ edges_in (link_of (joint_cycle events (latch o) (x + o) (beside o))) =
      ap (λ b. edges_in (link_of b)) (beside_next o) in
      few_more o (few o) c refl (omega (arith, l, is))

  -- so a byte ends in the eleventh cell alone
  abbrev Last : ℕ → Type 0
  Last o = (o ≡ 608) × (n ≡ 11)

  abbrev Ends : ℕ → List Transfer → Type 0
  Ends o ts = (ts ≡ []) ⊎ Last o

  at_ten : (o : ℕ) → (beside o).pc.clock ≡ true → clock_in n o ≡ false → edges_in (link_of (beside o)) ≡ 10 → Last o
  at_ten o seen low ten =
      let edge = edge_at_cell o seen low in
      let at : o ≡ 288 + 32 * edge.cell = edge.at in
      let less : edge.cell < n = edge.few in
      let most : n ≤ 11 = eleven_at_most in
      elim (few o) [
        | inl none ↦ absurd (omega (arith, none, ten))
        | inr some ↦ (omega (arith, some, ten, at, less, most), omega (arith, some, ten, at, less, most))
      ]

  either : (o : ℕ) (c : Bool) (ts : List Transfer) → (c ≡ true → Last o) → Ends o (if c then ts else [])
  either o true ts h = inr (h refl)
  either o false ts h = inl refl

  by_wire : (o : ℕ) (dat : Bool) (w : Wire) → (edges_in (Busy w) ≡ 10 → Last o) → Ends o (ended_by dat w)
  by_wire o dat (Recv flip bits) h =
      either o (length bits == 10) (record { from_host = false; byte = value (take 8 (drop 1 (bits ++ dat ∷ []))) } ∷ [])
      (λ e. h (same_of (length bits) 10 e))
  by_wire o dat (Send byte edges) h =
      either o (edges == 10) (record { from_host = true; byte = byte } ∷ []) (λ e. h (same_of edges 10 e))

  by_link : (o : ℕ) (l : Link Wire) → link_of (beside o) ≡ l → (c k dat : Bool) → (beside o).pc.clock ≡ c → clock_in n o ≡ k
      → Ends o (if c && not (k && (drive l).clk) then ended_at dat l else [])
  by_link o Free e true true dat a b = inl refl
  by_link o Free e true false dat a b = inl refl
  by_link o (Hold since) e true k dat a b = inl (none k)
    where
      none : (k : Bool) → (if not (k && false) then ended_at dat (Hold since) else []) ≡ []
      none true = refl
      none false = refl
  by_link o (Ask byte since) e true k dat a b = inl (none k)
    where
      none : (k : Bool) → (if not (k && false) then ended_at dat (Ask byte since) else []) ≡ []
      none true = refl
      none false = refl
  by_link o (Request byte) e true true dat a b = inl refl
  by_link o (Request byte) e true false dat a b = inl refl
  by_link o (Busy (Recv flip bits)) e true true dat a b = inl refl
  by_link o (Busy (Send byte edges)) e true true dat a b = inl refl
  by_link o (Busy (Recv flip bits)) e true false dat a b =
      by_wire o dat (Recv flip bits) (λ ten. at_ten o a b (ap edges_in e ∙ ten))
  by_link o (Busy (Send byte edges)) e true false dat a b =
      by_wire o dat (Send byte edges) (λ ten. at_ten o a b (ap edges_in e ∙ ten))
  by_link o l e false k dat a b = inl refl

  ends_in : (o : ℕ) → Ends o (ended_in (latch_of (latch o)) (beside o).pc)
  ends_in o =
      let l : Link Wire = link_of (beside o) in
      let dat : Bool = (latch_of (latch o)).dat && (drive l).dat in
      subst (λ k. Ends o (if (beside o).pc.clock && not (k && (drive l).clk) then ended_at dat l else [])) (sym (drives o))
      (by_link o l refl (beside o).pc.clock (clock_in n o) dat refl refl)

  -- no byte ends in any cycle but that of the eleventh fall
  pub none_ends : (o : ℕ) → (Last o → ⊥) → ended_in (latch_of (latch o)) (beside o).pc ≡ []
  none_ends o not_last = elim (ends_in o) [ inl none ↦ none | inr last ↦ absurd (not_last last) ]

  -- the latch before a cycle of the tick
  abbrev pub last_latch : ℕ → ℕ
  last_latch zero = old
  last_latch (suc o) = latch o

  -- a state of the tick, so many cycles past its start: no state is one cycle past the first of a cell
  pub record IsIn (one : World Beside) (o : ℕ) : Type 0 where
    pub cycle : one.cycle ≡ x + o
    pub board : one.board ≡ beside o
    pub p2 : one.cpu.p2 ≡ last_latch o
    pub between : (i : ℕ) → i < n → o ≡ 289 + 32 * i → ⊥

  -- a step of the tick, by the latch in its cycles
  pub record Goes (one next : World Beside) : Type 0 where
    pub step : StepOf events one next
    pub latches : (c : ℕ) → one.cycle ≤ c → c < next.cycle → next.cpu.p2 ≡ latch (c - x)
