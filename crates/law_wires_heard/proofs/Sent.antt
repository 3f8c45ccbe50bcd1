-- A byte that is sent: what ends at the last edge, and what the data at the falls are.
use Rattle.std.proofs.Common.{◌≡◌, ◌≤◌, ◌<◌, inl, inr, ℕ, suc, zero, ◌+◌, ◌-◌, ◌*◌, List, [], ◌∷◌}
use Rattle.std.proofs.Common.{◌++◌, Bool, true, false, not, ◌&&◌, ◌==◌, Some, None}
use Rattle.std.proofs.Common.{if◌then◌else◌, refl, ap, sym, ◌∙◌, arith}
use Rattle.std.proofs.lemmas.Bool.Decides.{nat_tests}
use Rattle.std.specs.Prelude.{take, drop}
use Rattle.std.specs.declared.option.Option.{Option}
use Rattle.bits.proofs.Every.{at_each, every_below}
use Rattle.board_terms.specs.Bits.{value}
use Rattle.board_terms.specs.Frame.{byte_of}
use Rattle.board_terms.specs.declared.event.HostEvent.{HostEvent}
use Rattle.board_terms.specs.declared.lines.Lines.{Lines}
use Rattle.ctl_link.specs.Link.{is_busy, received}
use Rattle.ctl_link.specs.Pulls.{pulled}
use Rattle.ctl_link.specs.declared.link.Link.{Link}
use Rattle.ctl_link.specs.declared.link.Link.TheVariants.{Free, Hold, Ask, Request, Busy}
use Rattle.ctl_link.specs.declared.port.LinkEnd.{LinkEnd}
use Rattle.ctl_wire.proofs.Pulls.{pulled_is_low}
use Rattle.ctl_wire.specs.Wire.{drive, edge_at, is_breakable, turned}
use Rattle.ctl_wire.specs.declared.wire.Wire.{Wire}
use Rattle.ctl_wire.specs.declared.wire.Wire.TheVariants.{Recv}
use Rattle.model_controller.specs.ByteTime.{Begins}
use Rattle.run_probes.specs.Transfers.{is_hosts, is_keyboards, transfer_in}
use Rattle.law_fw_link.proofs.TickLatch.{within}
use Rattle.law_fw_link.proofs.Wired.{IsReleased, cell_low}
use Rattle.law_fw_link.proofs.Wires.{data_of_latch, sent_is_frame}
use Rattle.law_fw_link.specs.Latch.{SentFrame, frame_bit, sent_latch}
use Rattle.host_turn.specs.Run.{goes_on}
use Rattle.joint_run.specs.Joint.{Beside, latch_of}
use Rattle.ctl_wire.specs.Wires.{Pc, board_cycle, wires}
use Rattle.law_wires_agree.proofs.Frames.{cell}
use Rattle.law_wires_agree.proofs.Spans.{IsAt, On, and-true}
use Rattle.law_wires_agree.proofs.Ways.{IsWay, sent_way, afterwards_first}
use Rattle.law_wires_agree.proofs.CellByCell.{IsThrough, holds_so, cycles_more}
use Rattle.law_wires_agree.specs.Cells.{IsFrame, bits_to}
use Rattle.law_wires_agree.specs.Cycles.{board_cycles}
use Rattle.law_wires_agree.specs.InFrame.{at_edge as edge_of}
use Rattle.law_wires_heard.proofs.Edges.{edge_cycle, received_pulls}
use Rattle.law_wires_heard.proofs.CellFalls.{eleven_of}
use Rattle.law_wires_heard.proofs.Pulls.{link_of, lets}
use Rattle.law_wires_heard.proofs.Spans.{at_edge, lines, low_stays, open_frame, pull_stays}
use Rattle.law_wires_heard.proofs.Ticks.{latch, beside}
use Rattle.law_wires_heard.specs.Hearing.{listed}
use Rattle.law_wires_heard.specs.Passing.{ended_at, ended_in}

-- a list of eleven levels by its levels
abbrev levels : (ℕ → Bool) → ℕ → ℕ → List Bool
levels f i zero = []
levels f i (suc m) = f i ∷ levels f (suc i) m

same_levels : (f g : ℕ → Bool) (m i : ℕ) → ((k : ℕ) → i ≤ k → k < i + m → f k ≡ g k) → levels f i m ≡ levels g i m
same_levels f g zero i h = refl
same_levels f g (suc m) i h =
    ap (λ b. b ∷ levels f (suc i) m) (h i (omega arith) (omega arith))
    ∙ ap (λ bs. g i ∷ bs) (same_levels f g m (suc i) (λ k a u. h k (omega (arith, a)) (omega (arith, u))))

-- levels that are the same in each of eleven cells are the same frame
pub same_eleven : (f g : ℕ → Bool) → ((k : ℕ) → k ≤ 10 → f k ≡ g k) → eleven_of f ≡ eleven_of g
same_eleven f g h = same_levels f g 11 0 (λ k a u. h k (omega (arith, u)))

-- the levels of a byte's frame are a transfer from the keyboard
abbrev byte_in : (ℕ → Bool) → ℕ
byte_in f = value (take 8 (drop 1 (eleven_of f)))

every_right : every_below (λ byte. is_keyboards (eleven_of (frame_bit byte))) 256 ≡ true
every_right = refl

frame_heard : (byte : ℕ) → byte < 256
    → listed (transfer_in (eleven_of (frame_bit byte))) ≡ record { from_host = false; byte = byte_in (frame_bit byte) } ∷ []
frame_heard byte small =
    let f : List Bool = eleven_of (frame_bit byte) in
    let some : is_keyboards f ≡ true = at_each (λ b. is_keyboards (eleven_of (frame_bit b))) 256 every_right byte small in
    ap (λ c. listed (if c then Some (record { from_host = false; byte = value (take 8 (drop 1 f)) })
    else (if is_hosts f then Some (record { from_host = true; byte = value (take 8 f) }) else None))) some

-- data is left alone where the clock is pulled, and where the keyboard's byte is under way
pulled_data : (l : Link Wire) (since : ℕ) → pulled l ≡ Some since → (drive l).dat ≡ true
pulled_data Free since e = refl
pulled_data (Hold h) since e = refl
pulled_data (Ask byte h) since e = refl
pulled_data (Request byte) since e = absurd cc
pulled_data (Busy w) since e = absurd cc

on_data : (b : Pc) (flip : Option ℕ) (bits : List Bool) (c : Bool) (begin : ℕ) → On b (Recv flip bits) c begin
    → (drive b.side.port.link).dat ≡ true
on_data b flip bits c begin (inl on) = ap (λ l. (drive l).dat) on.link_is
on_data b flip bits c begin (inr broken) = pulled_data b.side.port.link broken.1.since broken.1.is

module _ (events : List HostEvent) (x : ℕ) (start : Beside) (old v : ℕ) (was : IsReleased old) (is : IsReleased v) (byte : ℕ)
    (idle : is_busy (link_of start) ≡ false) where
  abbrev L : ℕ → ℕ
  L = latch events x start old v was is (SentFrame byte) tt idle

  abbrev B : ℕ → Beside
  B = beside events x start old v was is (SentFrame byte) tt idle

  abbrev drives : ℕ → Lines
  drives = lines events x start old v was is (SentFrame byte) tt idle

  abbrev bits : ℕ → Bool
  bits = frame_bit byte

  in_frame : (i : ℕ) → i < 368 → L (260 + i) ≡ sent_latch v byte i
  in_frame i l = within old v (SentFrame byte) i l

  is_frame : IsFrame drives (288 + x) bits
  is_frame =
      sent_is_frame drives x v is byte
      (λ o l.
      let z : 260 + x + o - x ≡ 260 + o = omega arith in
      ap (λ k. latch_of (L k)) z ∙ ap latch_of (in_frame o l))

  module _ (small : byte < 256) (free : link_of (B 288) ≡ Free) (high : (B 288).pc.clock ≡ true)
      (looks : (k : ℕ) → k < 10 → lets (B (306 + 32 * k)) ≡ true) where
    abbrev b : Pc
    b = (B 288).pc

    abbrev now : ℕ
    now = 288 + x

    at : IsAt b Free true
    at = record { link_is = free; clock_is = high }

    abbrev w : ℕ → Wire
    w k = Recv b.side.port.flip (bits_to bits (suc k))

    abbrev q : LinkEnd Wire
    q = afterwards_first (bits 0) b.side.port

    way : IsWay b.side.port q Free w true bits
    way = sent_way bits b.side.port

    abbrev pc_at : ℕ → Pc
    pc_at t = board_cycles events drives t now b

    there : (t : ℕ) → (B (288 + t)).pc ≡ pc_at t
    there t = at_edge events x start old v was is (SentFrame byte) tt idle t

    -- each cell passes, since the controller leaves the clock alone at its look
    through : (k : ℕ) → k < 10 → IsThrough events drives now bits is_frame b q Free w true at (sent_way bits b.side.port) k
    through k below =
        elim (holds_so events drives now bits is_frame b q Free w true at (sent_way bits b.side.port) k below) [
          | inl passes ↦ passes
          | inr broken ↦
              let j : ℕ = broken.0 in
              let o = broken.1 in
              let z : 288 + (32 * j + 18) ≡ 306 + 32 * j = omega arith in
              let up : (drive (pc_at (32 * j + 18)).side.port.link).clk ≡ true =
              ap (λ (c : Pc). (drive c.side.port.link).clk) (sym (there (32 * j + 18))) ∙ ap (λ k. lets (B k)) z ∙ looks j o.few in
              let down = pulled_is_low (pc_at (32 * j + 18)).side.port.link o.since o.pulls in
              absurd (let e : true ≡ false = sym up ∙ down in cc)
        ]

    last : IsAt (B 608).pc (Busy (w 9)) true
    last =
        let t = (through 9 (omega arith)).there in
        record {
          link_is = ap (λ (c : Pc). c.side.port.link) (there 320) ∙ t.link_is;
          clock_is = ap (λ (c : Pc). c.clock) (there 320) ∙ t.clock_is;
        }

    -- in the keyboard's frame the controller leaves the clock alone up to the last fall
    pub opens : (o : ℕ) → 288 ≤ o → o ≤ 608 → lets (B o) ≡ true
    opens =
        open_frame events x start old v was is (SentFrame byte) tt idle (ap (λ l. (drive l).clk) free) looks
        (ap (λ l. (drive l).clk) last.link_is)

    -- the levels of the latch where a cell has begun
    levels_in : (k i : ℕ) → k ≤ 10 → i < 16 → (latch_of (L (288 + 32 * k + i))).dat ≡ bits k
    levels_in k i few l =
        let z : 288 + 32 * k + i ≡ 260 + (28 + 32 * k + i) = omega arith in
        ap (λ o. (latch_of (L o)).dat) z
        ∙ ap (λ p. (latch_of p).dat) (in_frame (28 + 32 * k + i) (omega (arith, few, l)) ∙ cell_low v byte k i l)
        ∙ data_of_latch false (bits k) v is

    low_in : (latch_of (L 608)).clk ≡ false
    low_in =
        let e = is_frame.ends in
        let z : 320 + (288 + x) - x ≡ 608 = omega arith in
        ap (λ k. (latch_of (L k)).clk) (sym z) ∙ e

    -- the byte ends at the last edge, by its bits on the wires
    pub ends : ended_in (latch_of (L 608)) (B 608).pc ≡ record { from_host = false; byte = byte_in bits } ∷ []
    ends =
        let l : Lines = latch_of (L 608) in
        let c : Pc = (B 608).pc in
        let dat : l.dat ≡ bits 10 = levels_in 10 0 (omega arith) (omega arith) in
        ap (λ h. if h && not (l.clk && (drive c.side.port.link).clk) then ended_at (l.dat && (drive c.side.port.link).dat) c.side.port.link
        else []) last.clock_is
        ∙ ap (λ k. if not (k && (drive c.side.port.link).clk) then ended_at (l.dat && (drive c.side.port.link).dat) c.side.port.link
        else []) low_in
        ∙ ap (λ k. ended_at (l.dat && (drive k).dat) k) last.link_is
        ∙ ap (λ d. ended_at d (Busy (w 9))) (and-true l.dat ∙ dat)

    -- and the controller pulls the clock from then on
    abbrev came : Option ℕ
    came = byte_of (turned b.side.port.flip (bits_to bits 10 ++ bits 10 ∷ []))

    pulls : pulled (link_of (B 609)) ≡ Some (320 + now)
    pulls =
        let b' : Pc = pc_at 320 in
        let t = (through 9 (omega arith)).there in
        let more : pc_at 321 ≡ board_cycle events (320 + now) (drives (320 + now)) b' = cycles_more events drives 320 1 321 now b refl in
        let edge : edge_at (320 + now) ((drives (320 + now)).dat && true) (Busy (w 9)) b'.side.port
        ≡ received (320 + now) came b'.side.port =
        ap (λ d. received (320 + now) (byte_of (turned b.side.port.flip (bits_to bits 10 ++ d ∷ []))) b'.side.port)
        (and-true (drives (320 + now)).dat ∙ is_frame.last) in
        ap (λ (c : Pc). pulled c.side.port.link) (there 321)
        ∙ ap (λ (c : Pc). pulled c.side.port.link) more
        ∙ ap (λ s. pulled s.port.link)
        (edge_cycle events (320 + now) (drives (320 + now)) b' (Busy (w 9)) t.link_is t.clock_is is_frame.ends)
        ∙ ap (λ p. pulled (goes_on is_breakable events (320 + now) (record b'.side { port = p })).port.link) edge
        ∙ received_pulls events (320 + now) b'.side came b'.side.port

    -- from the last fall on the controller pulls the clock
    pub steady : (o : ℕ) → 609 ≤ o → o ≤ 650 → lets (B o) ≡ false
    steady o l u =
        let z : 609 + (o - 609) ≡ o = omega (arith, l) in
        ap (λ k. lets (B k)) (sym z)
        ∙ low_stays events x start old v was is (SentFrame byte) tt idle 609 (o - 609) (320 + now) pulls (omega (arith, l, u))

    -- data is left alone at the falls
    cell_data : (k : ℕ) → k < 10 → (drive (pc_at (32 * k + 2)).side.port.link).dat ≡ true
    cell_data zero below =
        let y : ℕ = 32 * 0 + now in
        let c = cell events drives y (bits 0) b Free (w 0) q (Begins true) (is_frame.cells 0 below) at
        (way.first y) way.begins (way.starts y) 1 (omega arith) in
        let more : pc_at (32 * 0 + 2) ≡ board_cycles events drives 2 y b = cycles_more events drives (32 * 0) 2 (32 * 0 + 2) now b refl in
        ap (λ (v : Pc). (drive v.side.port.link).dat) more
        ∙ on_data (board_cycles events drives 2 y b) b.side.port.flip (bits_to bits 1) (drives (1 + y)).clk y c.1
    cell_data (suc k) below =
        let y : ℕ = 32 * suc k + now in
        let b' : Pc = pc_at (32 * suc k) in
        let t = through k (omega (arith, below)) in
        let c = cell events drives y (bits (suc k)) b' (Busy (w k)) (w (suc k)) (record b'.side.port { link = Busy (w (suc k)) })
        (edge_of true (suc k)) (is_frame.cells (suc k) below) t.there
        (way.next k y b'.side.port (omega (arith, below))) refl (way.kind k y b'.side.port (omega (arith, below)) t.there.link_is)
        1 (omega arith) in
        let more : pc_at (32 * suc k + 2) ≡ board_cycles events drives 2 y b' =
        cycles_more events drives (32 * suc k) 2 (32 * suc k + 2) now b refl in
        ap (λ (v : Pc). (drive v.side.port.link).dat) more
        ∙ on_data (board_cycles events drives 2 y b') b.side.port.flip (bits_to bits (suc (suc k))) (drives (1 + y)).clk y c.1

    fall_data : (k : ℕ) → k ≤ 10 → (drive (link_of (B (290 + 32 * k)))).dat ≡ true
    fall_data k few = by (k == 10) refl
      where
        by : (c : Bool) → (k == 10) ≡ c → (drive (link_of (B (290 + 32 * k)))).dat ≡ true
        by true e =
            let is_ten : k ≡ 10 = grind (arith, nat_tests, e) in
            let z : 290 + 32 * k ≡ 609 + 1 = omega (arith, is_ten) in
            ap (λ o. (drive (link_of (B o))).dat) z
            ∙ pulled_data (link_of (B (609 + 1))) (320 + now)
            (pull_stays events x start old v was is (SentFrame byte) tt idle 609 1 (320 + now) pulls (omega arith))
        by false e =
            let less : k < 10 = grind (arith, nat_tests, e, few) in
            let z : 290 + 32 * k ≡ 288 + (32 * k + 2) = omega arith in
            ap (λ o. (drive (link_of (B o))).dat) z ∙ ap (λ (c : Pc). (drive c.side.port.link).dat) (there (32 * k + 2)) ∙ cell_data k less

    -- the data at the falls are the bits of the byte's frame
    pub data_are : (k : ℕ) → k ≤ 10 → (wires (latch_of (L (289 + 32 * k))) (B (290 + 32 * k)).pc).dat ≡ bits k
    data_are k few =
        let z : 289 + 32 * k ≡ 288 + 32 * k + 1 = omega arith in
        ap (λ d. (latch_of (L (289 + 32 * k))).dat && d) (fall_data k few) ∙ and-true (latch_of (L (289 + 32 * k))).dat
        ∙ ap (λ o. (latch_of (L o)).dat) z ∙ levels_in k 1 few (omega arith)

    -- so the transfer that these are is the byte that ends
    pub heard_so : listed (transfer_in (eleven_of (λ k. (wires (latch_of (L (289 + 32 * k))) (B (290 + 32 * k)).pc).dat)))
        ≡ ended_in (latch_of (L 608)) (B 608).pc
    heard_so =
        ap (λ f. listed (transfer_in f)) (same_eleven (λ k. (wires (latch_of (L (289 + 32 * k))) (B (290 + 32 * k)).pc).dat) bits data_are)
        ∙ frame_heard byte small ∙ sym ends
