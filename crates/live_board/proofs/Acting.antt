-- The host's event is done in the first cycle of the step, and what it asks for is answered.
use Rattle.std.proofs.Common.{◌≡◌, ◌≤◌, ◌<◌, ℕ, zero, suc, ◌+◌, Bool, true, false, not, ◌&&◌, List, [], ◌∷◌}
use Rattle.std.proofs.Common.{◌++◌, append_assoc, Some, None, refl, ap, sym, subst, ◌∙◌, arith}
use Rattle.std.specs.Prelude.{◌==◌, if◌then◌else◌, is_some, nat_le, slice_get, length}
use Rattle.std.specs.Option.{option_map_or}
use Rattle.std.specs.declared.option.Option.{Option}
use Rattle.std.proofs.lemmas.Bool.Decides.{nat_tests}
use Rattle.std.proofs.lemmas.List.{append-nil}
use Rattle.board_terms.specs.declared.event.HostAct.{HostAct}
use Rattle.board_terms.specs.declared.event.HostAct.TheVariants.{Write60, Write64, Read60, Mask, Unmask, Take, Status, Flip}
use Rattle.board_terms.specs.declared.event.HostEvent.{HostEvent}
use Rattle.board_terms.specs.declared.lines.Lines.{Lines}
use Rattle.ctl_core.specs.Controller.{ControllerState, asks_again, put_out, gave_up}
use Rattle.ctl_core.specs.Translation.{after_wrong}
use Rattle.ctl_link.specs.Link.{broken_off, core_after, received, settled}
use Rattle.ctl_link.specs.declared.link.Link.{Link}
use Rattle.ctl_link.specs.declared.link.Link.TheVariants.{Free, Hold, Ask, Request, Busy}
use Rattle.ctl_link.specs.declared.port.LinkEnd.{LinkEnd}
use Rattle.ctl_wire.specs.Cycles.{port_looked}
use Rattle.ctl_wire.specs.Wire.{edge_at, edge_in, is_breakable}
use Rattle.ctl_wire.specs.declared.wire.Wire.{Wire}
use Rattle.ctl_wire.specs.declared.wire.Wire.TheVariants.{Recv, Send}
use Rattle.host_turn.specs.Cycle.{host_of, said_of}
use Rattle.host_turn.specs.Host.{Host, Turn, acted, acted_where, bios_turn, is_done, waits}
use Rattle.host_turn.specs.Run.{lights_said, stamped}
use Rattle.host_turn.specs.declared.stamped.Stamped.{Stamped}
use Rattle.joint_run.proofs.Passing.{cycle_is}
use Rattle.joint_run.specs.Cycle.{Passed, looked_outside, outside_cycle, outside_wires}
use Rattle.joint_run.specs.Due.{beside, due_board, due_step, outside_of, world_of}
use Rattle.joint_run.specs.Joint.{Beside, joint_cycle, lights_of}
use Rattle.joint_run.specs.Run.{World, after_cycles, after_step, seen}
use Rattle.joint_run.specs.declared.due.Due.{Due}
use Rattle.joint_run.specs.declared.machine.Machine.{Machine}
use Rattle.joint_run.specs.declared.outside.Outside.{Outside}
use Rattle.joint_feed.proofs.Going.{same_state}
use Rattle.mcs48_core.specs.Step.{Stepped, stepped}
use Rattle.pc_tables.specs.declared.item.Item.{Item}
use Rattle.pc_tables.specs.declared.item.Item.TheVariants.{Lights}
use Rattle.live_board.specs.Acts.{IsAnswered}

-- what comes over the link leaves the input buffer
put_input : (o : Option ℕ) (s : ControllerState) → (option_map_or (λ byte. put_out byte s) o s).input ≡ s.input
put_input None s = refl
put_input (Some byte) s = refl

wrong_input : (s : ControllerState) → (after_wrong s).input ≡ s.input
wrong_input s =
    elim (asks_again s) as (λ b. (if b then record s { resends = s.resends + 1 } else gave_up s).input ≡ s.input) [
      | true ↦ refl
      | false ↦ refl
    ]

core_input : (byte : Option ℕ) (s : ControllerState) → (core_after byte s).input ≡ s.input
core_input None s = wrong_input s
core_input (Some byte) s = put_input _ _

in_input : (now : ℕ) (dat : Bool) (w : Wire) (p : LinkEnd Wire) → (edge_in now dat w p).core.input ≡ p.core.input
in_input now dat (Recv flip bits) p =
    let byte : Option ℕ = Rattle.board_terms.specs.Frame.byte_of (Rattle.ctl_wire.specs.Wire.turned flip (bits ++ dat ∷ [])) in
    elim (length bits == 10) as (λ b.
    (if b then received now byte p else record p { link = Busy (Recv flip (bits ++ dat ∷ [])) }).core.input ≡ p.core.input) [
      | true ↦ core_input byte p.core
      | false ↦ refl
    ]
in_input now dat (Send byte edges) p =
    elim (edges == 10) as (λ b.
    (if b then Rattle.ctl_link.specs.Link.handed_over p else record p { link = Busy (Send byte (edges + 1)) }).core.input
    ≡ p.core.input) [ true ↦ refl | false ↦ refl ]

edge_input : (now : ℕ) (dat : Bool) (l : Link Wire) (p : LinkEnd Wire) → (edge_at now dat l p).core.input ≡ p.core.input
edge_input now dat Free p = refl
edge_input now dat (Hold since) p = refl
edge_input now dat (Ask byte since) p = refl
edge_input now dat (Request byte) p = refl
edge_input now dat (Busy w) p = in_input now dat w p

look_input : (now : ℕ) (clock : Bool) (line : Lines) (p : LinkEnd Wire) → (port_looked now clock line p).core.input ≡ p.core.input
look_input now clock line p =
    elim (clock && not line.clk) as (λ b. (if b then edge_at now line.dat p.link p else p).core.input ≡ p.core.input) [
      | true ↦ edge_input now line.dat p.link p
      | false ↦ refl
    ]

-- a write waits by the input buffer alone
waits_same : (act : HostAct) (s t : ControllerState) → s.input ≡ t.input → waits act s ≡ waits act t
waits_same (Write60 byte) s t h = ap is_some h
waits_same (Write64 byte) s t h = ap is_some h
waits_same Read60 s t h = refl
waits_same Mask s t h = refl
waits_same Unmask s t h = refl
waits_same Take s t h = refl
waits_same Status s t h = refl
waits_same (Flip bit) s t h = refl

done_now : (now : ℕ) (e : HostEvent) (s : ControllerState) → e.stamp + 4096 ≤ now → waits e.act s ≡ false → is_done now (Some e) s ≡ true
done_now now e s l h =
    let due : nat_le (e.stamp + 4096) now ≡ true = grind (arith, nat_tests, l) in
    ap (λ b. b && not (waits e.act s)) due ∙ ap not h

-- an event that is done is answered, after the lights and before the rest
answered_lit : (act : HostAct) (h : Host) (now shown lights : ℕ) (items said : List Item) (more : List Stamped)
    → IsAnswered act ((lights_said now shown lights ++ stamped now (((acted act h).items ++ items) ++ said)) ++ more)
answered_lit (Write60 byte) h now shown lights items said more = tt
answered_lit (Write64 byte) h now shown lights items said more = tt
answered_lit Read60 h now shown lights items said more =
    elim (lights == shown) as (λ b.
    IsAnswered Read60
    (((if b then [] else record { cycle = now; item = Lights lights } ∷ []) ++ stamped now (((acted Read60 h).items ++ items) ++ said))
    ++ more)) [ true ↦ refl | false ↦ refl ]
answered_lit Mask h now shown lights items said more = tt
answered_lit Unmask h now shown lights items said more = tt
answered_lit Take h now shown lights items said more =
    elim (lights == shown) as (λ b.
    IsAnswered Take
    (((if b then [] else record { cycle = now; item = Lights lights } ∷ []) ++ stamped now (((acted Take h).items ++ items) ++ said))
    ++ more)) [ true ↦ refl | false ↦ refl ]
answered_lit Status h now shown lights items said more =
    elim (lights == shown) as (λ b.
    IsAnswered Status
    (((if b then [] else record { cycle = now; item = Lights lights } ∷ []) ++ stamped now (((acted Status h).items ++ items) ++ said))
    ++ more)) [ true ↦ refl | false ↦ refl ]
answered_lit (Flip bit) h now shown lights items said more = tt

module _ (now p2 : ℕ) (e : HostEvent) (o : Outside) (late : e.stamp + 4096 ≤ now) (room : waits e.act o.desk.port.core ≡ false) where
  abbrev looked : Outside
  looked = looked_outside now (outside_wires p2 o) o

  is_now : is_done now (Some e) looked.desk.port.core ≡ true
  is_now = done_now now e looked.desk.port.core late
      (waits_same e.act looked.desk.port.core o.desk.port.core (look_input now o.clock (outside_wires p2 o) o.desk.port) ∙ room)

  -- the items of the first cycle, by whether the event is done
  abbrev turn_by : Bool → Turn
  turn_by done =
      let first : Turn = acted_where done e.act (host_of looked.desk) in
      let second : Turn = bios_turn now looked.desk.port.filled first.host in
      record { host = second.host; items = first.items ++ second.items }

  abbrev items_by : Bool → List Stamped
  items_by done =
      lights_said now o.shown (lights_of p2)
      ++ stamped now
      ((turn_by done).items
      ++ said_of (settled now
      (broken_off is_breakable now (Rattle.host_turn.specs.Cycle.port_by (turn_by done) looked.desk.port))).did)

  first_answers : (more : List Stamped) → IsAnswered e.act ((outside_cycle now p2 (Some e) o).items ++ more)
  first_answers more =
      let h : Host = host_of looked.desk in
      let done : (outside_cycle now p2 (Some e) o).items ≡ items_by true = ap items_by is_now in
      subst (λ v. IsAnswered e.act (v ++ more)) (sym done)
      (answered_lit e.act h now o.shown (lights_of p2) (bios_turn now looked.desk.port.filled (acted e.act h).host).items
      (said_of (settled now (broken_off is_breakable now (Rattle.host_turn.specs.Cycle.port_by (turn_by true) looked.desk.port))).did) more)

  -- what is left when it is done, and answered
  pub record IsDone (b : Beside) : Type 0 where
    pub one : b.pc.side.done ≡ 1
    pub more : List Stamped
    pub log : b.pc.side.log ≡ (outside_cycle now p2 (Some e) o).items ++ more

  in_first : IsDone (joint_cycle (e ∷ []) p2 now (beside o 0 []))
  in_first =
      let c : Passed = outside_cycle now p2 (Some e) o in
      let is : joint_cycle (e ∷ []) p2 now (beside o 0 []) ≡ beside c.outside (if c.done then 0 + 1 else 0) ([] ++ c.items) =
      cycle_is (e ∷ []) p2 now o 0 [] in
      record {
        one = ap (λ (b : Beside). b.pc.side.done) is ∙ ap (λ d. if d then 0 + 1 else 0) is_now;
        more = [];
        log = ap (λ (b : Beside). b.pc.side.log) is ∙ sym (append-nil c.items);
      }

  in_next : (at : ℕ) (s : Beside) → IsDone s → IsDone (joint_cycle (e ∷ []) p2 at s)
  in_next at s h =
      let q : Outside = outside_of s in
      let c : Passed = outside_cycle at p2 None q in
      let is : joint_cycle (e ∷ []) p2 at s ≡ beside c.outside 1 (s.pc.side.log ++ c.items) =
      cycle_is (e ∷ []) p2 at q s.pc.side.done s.pc.side.log
      ∙ ap (λ n. beside (outside_cycle at p2 (slice_get (e ∷ []) n) q).outside
      (if (outside_cycle at p2 (slice_get (e ∷ []) n) q).done then n + 1 else n)
      (s.pc.side.log ++ (outside_cycle at p2 (slice_get (e ∷ []) n) q).items)) h.one in
      let first : List Stamped = (outside_cycle now p2 (Some e) o).items in
      record {
        one = ap (λ (b : Beside). b.pc.side.done) is;
        more = h.more ++ c.items;
        log = ap (λ (b : Beside). b.pc.side.log) is ∙ ap (λ v. v ++ c.items) h.log ∙ append_assoc first h.more c.items;
      }

  in_more : (n at : ℕ) (s : Beside) → IsDone s → IsDone (after_cycles n at (joint_cycle (e ∷ []) p2) s)
  in_more zero at s h = h
  in_more (suc n) at s h = in_more n (at + 1) (joint_cycle (e ∷ []) p2 at s) (in_next at s h)

  -- in the first cycle of a step the host's event is done
  pub in_cycles : (n : ℕ) → 0 < n → IsDone (after_cycles n now (joint_cycle (e ∷ []) p2) (beside o 0 []))
  in_cycles zero some = absurd (omega (arith, some))
  in_cycles (suc n) some = in_more n (now + 1) (joint_cycle (e ∷ []) p2 now (beside o 0 [])) in_first

  -- the event that was done is answered
  pub answers : (b : Beside) → IsDone b → IsAnswered e.act b.pc.side.log
  answers b h = subst (IsAnswered e.act) (sym h.log) (first_answers h.more)

-- a step by one event of the host, which may act now, does it and answers it
pub record HasDone (act : HostAct) (w : World Beside) : Type 0 where
  pub one : w.board.pc.side.done ≡ 1
  pub answered : IsAnswered act w.board.pc.side.log

module _ (due : Due) (m : Machine) (e : HostEvent) (only : due.host.items ≡ e ∷ []) (late : e.stamp + 4096 ≤ m.cycle)
    (room : waits e.act m.outside.desk.port.core ≡ false) where
  by_row : (w : World Beside) (o : Option Stepped)
      → m.cycle < w.cycle → after_step (due_board due m) (world_of m) o ≡ Some w → HasDone e.act w
  by_row w None l h = absurd cc
  by_row w (Some n) l h =
      let c : m.cycle + n.cycles ≡ w.cycle = ap (λ (u : World Beside). u.cycle) (same_state h) in
      let is : after_cycles n.cycles m.cycle (joint_cycle due.host.items n.cpu.p2) (beside m.outside 0 []) ≡ w.board =
      ap (λ (u : World Beside). u.board) (same_state h) in
      let same : after_cycles n.cycles m.cycle (joint_cycle (e ∷ []) n.cpu.p2) (beside m.outside 0 []) ≡ w.board =
      ap (λ hs. after_cycles n.cycles m.cycle (joint_cycle hs n.cpu.p2) (beside m.outside 0 [])) (sym only) ∙ is in
      let done : IsDone m.cycle n.cpu.p2 e m.outside late room w.board = subst (IsDone m.cycle n.cpu.p2 e m.outside late room) same
      (in_cycles m.cycle n.cpu.p2 e m.outside late room n.cycles (omega (arith, l, c))) in
      record { one = done.one; answered = answers m.cycle n.cpu.p2 e m.outside late room w.board done }

  -- a step by one event of the host, which may act now, does it and answers it
  pub has_done : (w : World Beside) → m.cycle < w.cycle → due_step due m ≡ Some w → HasDone e.act w
  has_done w l h = by_row w (stepped m.image.bytes (seen (due_board due m) (world_of m)) m.mcu) l h
