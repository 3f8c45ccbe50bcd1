-- A byte ends in the cycles of a step just if the clock falls in them while its last edge is awaited.
use Rattle.std.proofs.Common.{◌≡◌, ◌⊎◌, inl, inr, ℕ, zero, suc, ◌+◌, ◌-◌, Bool, true, false, List, [], ◌∷◌, ◌++◌, length, take, drop}
use Rattle.std.proofs.Common.{Some, None, refl, ap, sym, subst, ◌∙◌, arith}
use Rattle.std.specs.Prelude.{◌==◌, not, ◌&&◌, if◌then◌else◌, is_some, slice_get}
use Rattle.std.specs.declared.option.Option.{Option}
use Rattle.std.proofs.lemmas.Bool.Decides.{nat_tests}
use Rattle.std.proofs.lemmas.List.{append-nil, drop-append-le, length-drop, take-append-le}
use Rattle.board_terms.specs.declared.transfer.Transfer.{Transfer}
use Rattle.board_terms.specs.Bits.{value}
use Rattle.board_terms.specs.declared.event.HostEvent.{HostEvent}
use Rattle.board_terms.specs.declared.lines.Lines.{Lines}
use Rattle.ctl_link.specs.Link.{broken_off, settled}
use Rattle.ctl_link.specs.declared.link.Link.{Link}
use Rattle.ctl_link.specs.declared.link.Link.TheVariants.{Free, Hold, Ask, Request, Busy}
use Rattle.ctl_link.specs.declared.port.LinkEnd.{LinkEnd}
use Rattle.ctl_wire.specs.Cycles.{port_looked}
use Rattle.ctl_wire.specs.Wire.{drive, edge_at, is_breakable}
use Rattle.ctl_wire.specs.declared.wire.Wire.{Wire}
use Rattle.ctl_wire.specs.declared.wire.Wire.TheVariants.{Recv, Send}
use Rattle.host_turn.specs.Cycle.{host_of, port_by}
use Rattle.host_turn.specs.Host.{Turn, turn}
use Rattle.host_turn.specs.declared.desk.Desk.{Desk}
use Rattle.joint_run.proofs.Passing.{cycle_is}
use Rattle.joint_run.specs.Cycle.{looked_outside, outside_cycle, outside_wires}
use Rattle.joint_run.specs.Due.{outside_of}
use Rattle.joint_run.specs.Joint.{Beside, joint_cycle, latch_of}
use Rattle.joint_run.specs.Run.{after_cycles}
use Rattle.joint_run.specs.declared.outside.Outside.{Outside}
use Rattle.live_board.proofs.Passed.{still_none}
use Rattle.live_board.specs.Passing.{at_fall, passed_by}
use Rattle.live_board.specs.Passing.{ended_at as ends_at}
use Rattle.law_live_heard.specs.Heard.{bytes_among}
use Rattle.law_wires_heard.specs.Passing.{ended_at, ended_in, ended_within}

-- the last bit of a frame is none of the byte's
same_bits : (dat : Bool) (bits : List Bool) → length bits ≡ 10 → take 8 (drop 1 (bits ++ dat ∷ [])) ≡ take 8 (drop 1 bits)
same_bits dat bits ten =
    let left : length (drop 1 bits) ≡ length bits - 1 = length-drop 1 bits in
    ap (take 8) (drop-append-le 1 bits (dat ∷ []) (omega (arith, ten)))
    ∙ take-append-le 8 (drop 1 bits) (dat ∷ []) (omega (arith, left, ten))

abbrev sent_byte : List Bool → List Transfer
sent_byte bits = record { from_host = false; byte = value bits } ∷ []

abbrev ends_frame : Bool → List Bool → Option Transfer
ends_frame whole bits = if whole then Some (record { from_host = false; byte = value (take 8 (drop 1 bits)) }) else None

recv_alike : (dat : Bool) (cycle : ℕ) (bits : List Bool) (whole : Bool) → (length bits == 10) ≡ whole
    → bytes_among (passed_by (ends_frame whole bits) cycle false)
    ≡ (if whole then sent_byte (take 8 (drop 1 (bits ++ dat ∷ []))) else [])
recv_alike dat cycle bits true h =
    let ten : length bits ≡ 10 = grind (arith, nat_tests, h) in
    ap sent_byte (sym (same_bits dat bits ten))
recv_alike dat cycle bits false h = refl

abbrev ends_sent : Bool → ℕ → Option Transfer
ends_sent whole byte = if whole then Some (record { from_host = true; byte = byte }) else None

abbrev given_byte : ℕ → List Transfer
given_byte byte = record { from_host = true; byte = byte } ∷ []

send_alike : (cycle byte : ℕ) (whole : Bool)
    → bytes_among (passed_by (ends_sent whole byte) cycle false) ≡ (if whole then given_byte byte else [])
send_alike cycle byte true = refl
send_alike cycle byte false = refl

-- the byte that a falling edge ends is one and the same
ended_alike : (dat : Bool) (cycle : ℕ) (l : Link Wire) → bytes_among (passed_by (ends_at l) cycle false) ≡ ended_at dat l
ended_alike dat cycle Free = refl
ended_alike dat cycle (Hold since) = refl
ended_alike dat cycle (Ask byte since) = refl
ended_alike dat cycle (Request byte) = refl
ended_alike dat cycle (Busy (Recv flip bits)) = recv_alike dat cycle bits (length bits == 10) refl
ended_alike dat cycle (Busy (Send byte edges)) = send_alike cycle byte (edges == 10)

-- what a look ends, by the clock at the last one, by data, and by what the keyboard makes of the clock
abbrev ended_by : Bool → Bool → Bool → Link Wire → List Transfer
ended_by clock dat clk l = if clock && not (clk && (drive l).clk) then ended_at dat l else []

-- while the keyboard lets the clock go, only the controller pulls it, and then no byte is under way
pulled : (clock dat : Bool) (l : Link Wire) → ended_by clock dat true l ≡ []
pulled false dat l = refl
pulled true dat Free = refl
pulled true dat (Hold since) = refl
pulled true dat (Ask byte since) = refl
pulled true dat (Request byte) = refl
pulled true dat (Busy (Recv flip bits)) = refl
pulled true dat (Busy (Send byte edges)) = refl

-- while the keyboard pulls it, the byte under way ends if the clock was high
low_fall : (clock dat : Bool) (cycle : ℕ) (l : Link Wire)
    → bytes_among (passed_by (if clock then ends_at l else None) cycle false) ≡ ended_by clock dat false l
low_fall false dat cycle l = refl
low_fall true dat cycle l = ended_alike dat cycle l

-- a look that finds the clock high changes nothing
looked_same : (now : ℕ) (clock : Bool) (line : Lines) (p : LinkEnd Wire) → line.clk ≡ true → port_looked now clock line p ≡ p
looked_same now true line p h = ap (λ c. if not c then edge_at now line.dat p.link p else p) h
looked_same now false line p h = refl

-- a byte under way that isn't broken off any more stays so while a cycle settles
firm_busy : (now : ℕ) (p : LinkEnd Wire) (f : Wire) → is_breakable f ≡ false
    → (settled now (broken_off is_breakable now (record p { link = Busy f }))).port.link ≡ Busy f
firm_busy now p f firm =
    let q : LinkEnd Wire = record p { link = Busy f } in
    ap (λ b. (settled now (if b && not q.awaits && is_some q.core.input then record q { link = Hold now } else q)).port.link) firm

settles_busy : (now : ℕ) (p : LinkEnd Wire) (f : Wire) → is_breakable f ≡ false → p.link ≡ Busy f
    → (settled now (broken_off is_breakable now p)).port.link ≡ Busy f
settles_busy now p f firm e =
    subst (λ l. (settled now (broken_off is_breakable now (record p { link = l }))).port.link ≡ Busy f) (sym e) (firm_busy now p f firm)

drive_busy : (f : Wire) → (drive (Busy f)).clk ≡ true
drive_busy (Recv flip bits) = refl
drive_busy (Send byte edges) = refl

line_high : (clk : Bool) (l : Link Wire) (f : Wire) → clk ≡ true → l ≡ Busy f → (clk && (drive l).clk) ≡ true
line_high clk l f h e =
    let busy : (clk && (drive l).clk) ≡ (true && (drive (Busy f)).clk) = λ i. h i && (drive (e i)).clk in
    busy ∙ drive_busy f

kept_link : (now p2 : ℕ) (next : Option HostEvent) (o : Outside) (f : Wire) → is_breakable f ≡ false → (latch_of p2).clk ≡ true
    → o.desk.port.link ≡ Busy f → (outside_cycle now p2 next o).outside.desk.port.link ≡ Busy f
kept_link now p2 next o f firm high e =
    let line : Lines = outside_wires p2 o in
    let d : Desk Wire = (looked_outside now line o).desk in
    let t : Turn = turn now d.port.filled next (host_of d) in
    let is_high : line.clk ≡ true = line_high (latch_of p2).clk o.desk.port.link f high e in
    let same : d.port.link ≡ o.desk.port.link = ap (λ (q : LinkEnd Wire). q.link) (looked_same now o.clock line o.desk.port is_high) in
    settles_busy now (port_by t d.port) f firm (same ∙ e)

module _ (events : List HostEvent) (p2 : ℕ) where
  clock_after : (now : ℕ) (s : Beside)
      → (joint_cycle events p2 now s).pc.clock ≡ (latch_of p2).clk && (drive s.pc.side.port.link).clk
  clock_after now s =
      ap (λ (b : Beside). b.pc.clock) (cycle_is events p2 now (outside_of s) s.pc.side.done s.pc.side.log)

  link_after : (now : ℕ) (s : Beside) (f : Wire) → is_breakable f ≡ false → (latch_of p2).clk ≡ true
      → s.pc.side.port.link ≡ Busy f → (joint_cycle events p2 now s).pc.side.port.link ≡ Busy f
  link_after now s f firm high e =
      ap (λ (b : Beside). b.pc.side.port.link) (cycle_is events p2 now (outside_of s) s.pc.side.done s.pc.side.log)
      ∙ kept_link now p2 (slice_get events s.pc.side.done) (outside_of s) f firm high e

  -- the keyboard lets the clock go
  within_high : (n now : ℕ) (s : Beside) → (latch_of p2).clk ≡ true → ended_within events p2 now n s ≡ []
  within_high zero now s high = refl
  within_high (suc n) now s high =
      let l : Link Wire = s.pc.side.port.link in
      let dat : Bool = (latch_of p2).dat && (drive l).dat in
      let none : ended_in (latch_of p2) s.pc ≡ [] = ap (λ c. ended_by s.pc.clock dat c l) high ∙ pulled s.pc.clock dat l in
      λ i. none i ++ within_high n (now + 1) (joint_cycle events p2 now s) high i

  stays_high : (n now : ℕ) (s : Beside) (f : Wire) → is_breakable f ≡ false → (latch_of p2).clk ≡ true
      → s.pc.side.port.link ≡ Busy f → s.pc.clock ≡ true → (after_cycles n now (joint_cycle events p2) s).pc.clock ≡ true
  stays_high zero now s f firm high e c = c
  stays_high (suc n) now s f firm high e c =
      stays_high n (now + 1) (joint_cycle events p2 now s) f firm high (link_after now s f firm high e)
      (clock_after now s ∙ line_high (latch_of p2).clk s.pc.side.port.link f high e)

  -- the keyboard pulls it
  low_after : (now : ℕ) (s : Beside) → (latch_of p2).clk ≡ false → (joint_cycle events p2 now s).pc.clock ≡ false
  low_after now s low = clock_after now s ∙ ap (λ c. c && (drive s.pc.side.port.link).clk) low

  stays_low : (n now : ℕ) (s : Beside) → (latch_of p2).clk ≡ false → s.pc.clock ≡ false
      → (after_cycles n now (joint_cycle events p2) s).pc.clock ≡ false
  stays_low zero now s low c = c
  stays_low (suc n) now s low c = stays_low n (now + 1) (joint_cycle events p2 now s) low (low_after now s low)

  within_low : (n now : ℕ) (s : Beside) → (latch_of p2).clk ≡ false → s.pc.clock ≡ false → ended_within events p2 now n s ≡ []
  within_low zero now s low c = refl
  within_low (suc n) now s low c =
      let l : Link Wire = s.pc.side.port.link in
      let dat : Bool = (latch_of p2).dat && (drive l).dat in
      let none : ended_in (latch_of p2) s.pc ≡ [] = ap (λ b. ended_by b dat (latch_of p2).clk l) c in
      λ i. none i ++ within_low n (now + 1) (joint_cycle events p2 now s) low (low_after now s low) i

  module _ (n now : ℕ) (s : Beside) where
    -- a byte whose last edge is awaited doesn't end while the clock is let go
    none_or_high : (clock : Bool) (l : Link Wire) → (latch_of p2).clk ≡ true → s.pc.clock ≡ clock → s.pc.side.port.link ≡ l
        → ((if clock then ends_at l else None) ≡ None) ⊎ ((after_cycles n now (joint_cycle events p2) s).pc.clock ≡ true)
    none_or_high false l high c e = inl refl
    none_or_high true Free high c e = inl refl
    none_or_high true (Hold since) high c e = inl refl
    none_or_high true (Ask byte since) high c e = inl refl
    none_or_high true (Request byte) high c e = inl refl
    none_or_high true (Busy (Recv flip bits)) high c e = by (length bits == 10) refl
      where
        by : (whole : Bool) → (length bits == 10) ≡ whole
            → (ends_frame whole bits ≡ None) ⊎ ((after_cycles n now (joint_cycle events p2) s).pc.clock ≡ true)
        by false h = inl refl
        by true h = inr (stays_high n now s (Recv flip bits) (grind (arith, nat_tests, h)) high e c)
    none_or_high true (Busy (Send byte edges)) high c e = inr (stays_high n now s (Send byte edges) refl high e c)

  none_passed : (o : Option Transfer) (cycle : ℕ) (clock : Bool) → (o ≡ None) ⊎ (clock ≡ true) → bytes_among (passed_by o cycle clock) ≡ []
  none_passed o cycle clock (inl none) = ap (λ v. bytes_among (passed_by v cycle clock)) none
  none_passed None cycle clock (inr high) = refl
  none_passed (Some byte) cycle clock (inr high) = ap (λ c. bytes_among (passed_by (Some byte) cycle c)) high

  -- so in a step the byte that ends is the one that passes
  pub same_bytes : (n now cycle : ℕ) (s : Beside)
      → bytes_among (passed_by (at_fall (outside_of s)) cycle (after_cycles n now (joint_cycle events p2) s).pc.clock)
      ≡ ended_within events p2 now n s
  same_bytes n now cycle s = by n (latch_of p2).clk refl
    where
      by : (n : ℕ) (clk : Bool) → (latch_of p2).clk ≡ clk
          → bytes_among (passed_by (at_fall (outside_of s)) cycle (after_cycles n now (joint_cycle events p2) s).pc.clock)
          ≡ ended_within events p2 now n s
      by n true high =
          none_passed (at_fall (outside_of s)) cycle (after_cycles n now (joint_cycle events p2) s).pc.clock
          (none_or_high n now s s.pc.clock s.pc.side.port.link high refl refl)
          ∙ sym (within_high n now s high)
      by zero false low = ap bytes_among (still_none (outside_of s) cycle)
      by (suc n) false low =
          let next : Beside = joint_cycle events p2 now s in
          let l : Link Wire = s.pc.side.port.link in
          let dat : Bool = (latch_of p2).dat && (drive l).dat in
          let end = stays_low n (now + 1) next low (low_after now s low) in
          let rest = within_low n (now + 1) next low (low_after now s low) in
          ap (λ c. bytes_among (passed_by (at_fall (outside_of s)) cycle c)) end
          ∙ low_fall s.pc.clock dat cycle l
          ∙ ap (λ c. ended_by s.pc.clock dat c l) (sym low)
          ∙ sym (append-nil (ended_in (latch_of p2) s.pc))
          ∙ ap (λ v. ended_in (latch_of p2) s.pc ++ v) (sym rest)
