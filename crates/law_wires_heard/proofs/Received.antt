-- A byte that is received from the controller: what ends at the last edge, and what the data at the falls are.
use Rattle.std.proofs.Common.{◌≡◌, ◌≤◌, ◌<◌, ℕ, suc, zero, ◌+◌, ◌-◌, ◌*◌, List, [], ◌∷◌, Bool, true, false, not, ◌&&◌, ◌==◌, Some, None}
use Rattle.std.proofs.Common.{if◌then◌else◌, nat_le, nat_lt, refl, ap, sym, ◌∙◌, subst, arith}
use Rattle.std.proofs.lemmas.Bool.Decides.{nat_tests}
use Rattle.std.specs.Prelude.{take, drop}
use Rattle.bits.proofs.Every.{at_each, and-left, and-right, same_of}
use Rattle.board_terms.specs.Bits.{value}
use Rattle.board_terms.specs.declared.event.HostEvent.{HostEvent}
use Rattle.board_terms.specs.declared.lines.Lines.{Lines}
use Rattle.ctl_link.specs.Link.{is_busy, handed_over}
use Rattle.ctl_link.specs.declared.link.Link.TheVariants.{Request, Busy}
use Rattle.ctl_wire.specs.Wire.{drive}
use Rattle.ctl_wire.specs.declared.wire.Wire.TheVariants.{Send}
use Rattle.run_probes.specs.Transfers.{is_hosts, is_keyboards, transfer_in}
use Rattle.law_fw_link.proofs.Taking.{in_cell}
use Rattle.law_fw_link.proofs.TickLatch.{within}
use Rattle.law_fw_link.proofs.Wired.{IsReleased}
use Rattle.law_fw_link.proofs.Wires.{data_of_latch}
use Rattle.law_fw_link.proofs.WiresGot.{received_is_frame, received_bit}
use Rattle.law_fw_link.specs.Latch.{ReceivedFrame, frame_bit, received_latch}
use Rattle.joint_run.specs.Joint.{Beside, latch_of}
use Rattle.ctl_wire.specs.Wires.{Pc, board_cycle, wires}
use Rattle.law_wires_agree.proofs.Got.{through, frame_shown}
use Rattle.law_wires_agree.proofs.Spans.{IsAt}
use Rattle.law_wires_agree.proofs.CellByCell.{cycles_more}
use Rattle.law_wires_agree.specs.Cells.{IsFrame}
use Rattle.law_wires_agree.specs.Cycles.{board_cycles}
use Rattle.law_wires_heard.proofs.Clock.{clock_in}
use Rattle.law_wires_heard.proofs.Edges.{Waits, cycle_waits, edge_cycle, goes_waits}
use Rattle.law_wires_heard.proofs.CellFalls.{eleven_of}
use Rattle.law_wires_heard.proofs.Pulls.{link_of, lets}
use Rattle.law_wires_heard.proofs.Sent.{same_eleven}
use Rattle.law_wires_heard.proofs.Spans.{at_edge, lines, open_frame}
use Rattle.law_wires_heard.proofs.Ticks.{latch, beside, beside_next, edge_at_cell, drives}
use Rattle.law_wires_heard.specs.Hearing.{listed}
use Rattle.law_wires_heard.specs.Passing.{ended_at, ended_in}

-- the data wire at the eleven falls: the bits after the start bit, and the keyboard's acknowledge
abbrev acknowledged : ℕ → ℕ → Bool
acknowledged byte k = if nat_lt k 10 then frame_bit byte (k + 1) else false

abbrev is_heard : ℕ → Bool
is_heard byte =
    let f : List Bool = eleven_of (acknowledged byte) in
    not (is_keyboards f) && (is_hosts f && (value (take 8 f) == byte))

every_heard : Rattle.bits.proofs.Every.every_below is_heard 256 ≡ true
every_heard = refl

-- they are a transfer of that byte from the host
host_heard : (byte : ℕ) → byte < 256
    → listed (transfer_in (eleven_of (acknowledged byte))) ≡ record { from_host = true; byte = byte } ∷ []
host_heard byte l =
    let f : List Bool = eleven_of (acknowledged byte) in
    let h : is_heard byte ≡ true = at_each is_heard 256 every_heard byte l in
    let rest = and-right (not (is_keyboards f)) (is_hosts f && (value (take 8 f) == byte)) h in
    let none : is_keyboards f ≡ false =
    no (is_keyboards f) (and-left (not (is_keyboards f)) (is_hosts f && (value (take 8 f) == byte)) h) in
    let some : is_hosts f ≡ true = and-left (is_hosts f) (value (take 8 f) == byte) rest in
    let same : value (take 8 f) ≡ byte = same_of (value (take 8 f)) byte (and-right (is_hosts f) (value (take 8 f) == byte) rest) in
    ap (λ c. listed (if c then Some (record { from_host = false; byte = value (take 8 (drop 1 f)) })
    else (if is_hosts f then Some (record { from_host = true; byte = value (take 8 f) }) else None))) none
    ∙ ap (λ c. listed (if c then Some (record { from_host = true; byte = value (take 8 f) }) else None)) some
    ∙ ap (λ n. record { from_host = true; byte = n } ∷ []) same
  where
    no : (b : Bool) → not b ≡ true → b ≡ false
    no true h = absurd cc
    no false h = refl

module _ (events : List HostEvent) (x : ℕ) (start : Beside) (old v : ℕ) (was : IsReleased old) (is : IsReleased v)
    (idle : is_busy (link_of start) ≡ false) where
  abbrev L : ℕ → ℕ
  L = latch events x start old v was is ReceivedFrame tt idle

  abbrev B : ℕ → Beside
  B = beside events x start old v was is ReceivedFrame tt idle

  abbrev drives_ : ℕ → Lines
  drives_ = lines events x start old v was is ReceivedFrame tt idle

  in_frame : (i : ℕ) → i < 366 → L (260 + i) ≡ received_latch v i
  in_frame i l = within old v ReceivedFrame i l

  is_frame : IsFrame drives_ (288 + x) received_bit
  is_frame =
      received_is_frame drives_ x v is
      (λ o l.
      let z : 260 + x + o - x ≡ 260 + o = omega arith in
      ap (λ k. latch_of (L k)) z ∙ ap latch_of (in_frame o l))

  module _ (byte : ℕ) (less : byte < 256) (asks : link_of (B 288) ≡ Request byte) (high : (B 288).pc.clock ≡ true) where
    abbrev b : Pc
    b = (B 288).pc

    abbrev now : ℕ
    now = 288 + x

    at : IsAt b (Request byte) true
    at = record { link_is = asks; clock_is = high }

    abbrev pc_at : ℕ → Pc
    pc_at t = board_cycles events drives_ t now b

    there : (t : ℕ) → (B (288 + t)).pc ≡ pc_at t
    there t = at_edge events x start old v was is ReceivedFrame tt idle t

    last : IsAt (B 608).pc (Busy (Send byte 10)) true
    last =
        let t = (through events drives_ now byte received_bit b is_frame at 9 (omega arith)).there in
        record {
          link_is = ap (λ (c : Pc). c.side.port.link) (there 320) ∙ t.link_is;
          clock_is = ap (λ (c : Pc). c.clock) (there 320) ∙ t.clock_is;
        }

    looks : (k : ℕ) → k < 10 → lets (B (306 + 32 * k)) ≡ true
    looks k few =
        let t = through events drives_ now byte received_bit b is_frame at k few in
        let z : 306 + 32 * k ≡ 288 + (32 * k + 18) = omega arith in
        ap (λ o. lets (B o)) z ∙ ap (λ (c : Pc). (drive c.side.port.link).clk) (there (32 * k + 18))
        ∙ ap (λ l. (drive l).clk) (t.up_to_here k (omega arith)).busy

    -- in the frame of a byte that it sends the controller leaves the clock alone
    pub opens : (o : ℕ) → 288 ≤ o → o ≤ 608 → lets (B o) ≡ true
    opens =
        open_frame events x start old v was is ReceivedFrame tt idle (ap (λ l. (drive l).clk) asks) looks
        (ap (λ l. (drive l).clk) last.link_is)

    low_in : (latch_of (L 608)).clk ≡ false
    low_in =
        let e = is_frame.ends in
        let z : 320 + (288 + x) - x ≡ 608 = omega arith in
        ap (λ k. (latch_of (L k)).clk) (sym z) ∙ e

    -- the controller's byte ends at the last edge
    pub ends : ended_in (latch_of (L 608)) (B 608).pc ≡ record { from_host = true; byte = byte } ∷ []
    ends =
        let l : Lines = latch_of (L 608) in
        let c : Pc = (B 608).pc in
        ap (λ h. if h && not (l.clk && (drive c.side.port.link).clk) then ended_at (l.dat && (drive c.side.port.link).dat) c.side.port.link
        else []) last.clock_is
        ∙ ap (λ k. if not (k && (drive c.side.port.link).clk) then ended_at (l.dat && (drive c.side.port.link).dat) c.side.port.link
        else []) low_in
        ∙ ap (λ k. ended_at (l.dat && (drive k).dat) k) last.link_is

    -- and its link is free from then on, while it awaits the reply
    waits : Waits (B 609).pc.side.port
    waits =
        let b' : Pc = pc_at 320 in
        let t = (through events drives_ now byte received_bit b is_frame at 9 (omega arith)).there in
        let more : pc_at 321 ≡ board_cycle events (320 + now) (drives_ (320 + now)) b' = cycles_more events drives_ 320 1 321 now b refl in
        let edge = edge_cycle events (320 + now) (drives_ (320 + now)) b' (Busy (Send byte 10)) t.link_is t.clock_is is_frame.ends in
        let after = goes_waits events (320 + now) (record b'.side { port = handed_over b'.side.port })
        (record { free = refl; awaits = refl }) in
        record {
          free = ap (λ (c : Pc). c.side.port.link) (there 321) ∙ ap (λ (c : Pc). c.side.port.link) more
              ∙ ap (λ s. s.port.link) edge ∙ after.free;
          awaits = ap (λ (c : Pc). c.side.port.awaits) (there 321) ∙ ap (λ (c : Pc). c.side.port.awaits) more
              ∙ ap (λ s. s.port.awaits) edge ∙ after.awaits;
        }

    still : (o : ℕ) → 609 ≤ o → ((B o).pc.clock && not (latch_of (L o)).clk) ≡ false
    still o l = by (B o).pc.clock refl (clock_in 11 o) refl
      where
        by : (c : Bool) → (B o).pc.clock ≡ c → (d : Bool) → clock_in 11 o ≡ d → ((B o).pc.clock && not (latch_of (L o)).clk) ≡ false
        by true e true g =
            let h : (latch_of (L o)).clk ≡ true = drives events x start old v was is ReceivedFrame tt idle o ∙ g in
            rw (e, h) refl
        by true e false g =
            let edge = edge_at_cell events x start old v was is ReceivedFrame tt idle o e g in
            let where_ : o ≡ 288 + 32 * edge.cell = edge.at in
            let few : edge.cell < 11 = edge.few in
            absurd (omega (arith, where_, few, l))
        by false e d g = rw e refl

    -- after the last edge of a byte that the keyboard receives, the controller waits for the reply, in each cycle of the tick
    pub waits_on : (m : ℕ) → Waits (B (m + 609)).pc.side.port
    waits_on zero = let z : 0 + 609 ≡ 609 = omega arith in waits
    waits_on (suc m) =
        let z : suc m + 609 ≡ suc (m + 609) = omega arith in
        let next : B (suc m + 609) ≡ _ = ap B z ∙ beside_next events x start old v was is ReceivedFrame tt idle (m + 609) in
        subst (λ (s : Beside). Waits s.pc.side.port) (sym next)
        (cycle_waits events (L (m + 609)) (x + (m + 609)) (B (m + 609)) (waits_on m) (still (m + 609) (omega arith)))

    -- for a while after the last fall of a byte that it sends the controller leaves the clock alone
    pub steady : (o : ℕ) → 609 ≤ o → o ≤ 650 → lets (B o) ≡ true
    steady o l u =
        let z : (o - 609) + 609 ≡ o = omega (arith, l) in
        ap (λ k. lets (B k)) (sym z) ∙ ap (λ l. (drive l).clk) (waits_on (o - 609)).free

    -- the levels of the latch after a fall
    level_in : (k : ℕ) → k ≤ 10 → (latch_of (L (289 + 32 * k))).dat ≡ (if nat_lt k 10 then true else nat_le 16 1)
    level_in k few =
        let z : 289 + 32 * k ≡ 260 + (28 + 32 * k + 1) = omega arith in
        ap (λ o. (latch_of (L o)).dat) z
        ∙ ap (λ p. (latch_of p).dat) (in_frame (28 + 32 * k + 1) (omega (arith, few)) ∙ in_cell v k 1 (omega arith))
        ∙ data_of_latch false (if nat_lt k 10 then true else nat_le 16 1) v is

    -- the data at the falls are the byte's bits after the start bit, and the keyboard's acknowledge
    pub data_are : (k : ℕ) → k ≤ 10 → (wires (latch_of (L (289 + 32 * k))) (B (290 + 32 * k)).pc).dat ≡ acknowledged byte k
    data_are k few = by (nat_lt k 10) refl
      where
        by : (c : Bool)
            → nat_lt k 10 ≡ c → ((latch_of (L (289 + 32 * k))).dat && (drive (link_of (B (290 + 32 * k)))).dat) ≡ acknowledged byte k
        by true e =
            let less : k < 10 = grind (arith, nat_tests, e) in
            let z : 290 + 32 * k ≡ 288 + (32 * k + suc 1) = omega arith in
            let up : (latch_of (L (289 + 32 * k))).dat ≡ true = level_in k few ∙ ap (λ c. if c then true else nat_le 16 1) e in
            let bit_is : (drive (link_of (B (290 + 32 * k)))).dat ≡ frame_bit byte (k + 1) =
            ap (λ o. (drive (link_of (B o))).dat) z ∙ ap (λ (c : Pc). (drive c.side.port.link).dat) (there (32 * k + suc 1))
            ∙ frame_shown events drives_ now byte received_bit b is_frame asks high k 1 less (omega arith) in
            ap (λ d. d && (drive (link_of (B (290 + 32 * k)))).dat) up ∙ bit_is
            ∙ sym (ap (λ c. if c then frame_bit byte (k + 1) else false) e)
        by false e =
            let down : (latch_of (L (289 + 32 * k))).dat ≡ false = level_in k few ∙ ap (λ c. if c then true else nat_le 16 1) e in
            ap (λ d. d && (drive (link_of (B (290 + 32 * k)))).dat) down ∙ sym (ap (λ c. if c then frame_bit byte (k + 1) else false) e)

    -- and they are so as the clock rises again
    pub rise_data : (k : ℕ) → k < 10 → (wires (latch_of (L (305 + 32 * k))) (B (306 + 32 * k)).pc).dat ≡ acknowledged byte k
    rise_data k less =
        let e : nat_lt k 10 ≡ true = grind (arith, nat_tests, less) in
        let y : 305 + 32 * k ≡ 260 + (28 + 32 * k + 17) = omega arith in
        let z : 306 + 32 * k ≡ 288 + (32 * k + suc 17) = omega arith in
        let up : (latch_of (L (305 + 32 * k))).dat ≡ true =
        ap (λ o. (latch_of (L o)).dat) y
        ∙ ap (λ p. (latch_of p).dat) (in_frame (28 + 32 * k + 17) (omega (arith, less)) ∙ in_cell v k 17 (omega arith))
        ∙ data_of_latch true (if nat_lt k 10 then true else true) v is ∙ ap (λ c. if c then true else true) e in
        let bit_is : (drive (link_of (B (306 + 32 * k)))).dat ≡ frame_bit byte (k + 1) =
        ap (λ o. (drive (link_of (B o))).dat) z ∙ ap (λ (c : Pc). (drive c.side.port.link).dat) (there (32 * k + suc 17))
        ∙ frame_shown events drives_ now byte received_bit b is_frame asks high k 17 less (omega arith) in
        ap (λ d. d && (drive (link_of (B (306 + 32 * k)))).dat) up ∙ bit_is
        ∙ sym (ap (λ c. if c then frame_bit byte (k + 1) else false) e)

    -- so the transfer that these are is the byte that ends
    pub heard_so : listed (transfer_in (eleven_of (λ k. (wires (latch_of (L (289 + 32 * k))) (B (290 + 32 * k)).pc).dat)))
        ≡ ended_in (latch_of (L 608)) (B 608).pc
    heard_so =
        ap (λ f. listed (transfer_in f))
        (same_eleven (λ k. (wires (latch_of (L (289 + 32 * k))) (B (290 + 32 * k)).pc).dat) (acknowledged byte) data_are)
        ∙ host_heard byte less ∙ sym ends
