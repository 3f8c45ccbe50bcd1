-- The latches of a frame as cells and frames of the wires.
use Rattle.std.proofs.Common.{◌≡◌, ◌≤◌, ◌<◌, ℕ, suc, ◌+◌, ◌-◌, ◌*◌, ◌/◌, ◌%◌, Bool, true, false, not, ◌&&◌}
use Rattle.std.proofs.Common.{nat_le, nat_lt, if◌then◌else◌}
use Rattle.std.proofs.Common.{bit_and, refl, ap, ◌∙◌, inl, inr, arith}
use Rattle.std.proofs.lemmas.Bool.Decides.{nat_tests}
use Rattle.bits.specs.Bits.{bit}
use Rattle.board_terms.specs.declared.lines.Lines.{Lines}
use Rattle.bits.proofs.Every.{by_byte, tests_by}
use Rattle.law_fw_link.specs.Latch.{IsLook, wired, frame_bit, sent_cell, sent_latch}
use Rattle.law_fw_link.proofs.Wired.{IsReleased, in_cell, cell_high, cell_next}
use Rattle.joint_run.specs.Joint.{latch_of, lights_of}
use Rattle.law_wires_agree.specs.Cells.{IsUp, IsFrame}
use Rattle.law_wires_agree.specs.Ticks.{EndsFrame}

-- clock and data of a latch, and that its lights are as they were
pub clock_of_latch : (c b : Bool) (v : ℕ) → IsReleased v → (latch_of (wired v c b)).clk ≡ c
clock_of_latch true true v h = tests_by 256 (λ v. bit 0 (bit_and v 255)) (λ v. bit 0 v) refl v h.byte ∙ h.clock
clock_of_latch true false v h = tests_by 256 (λ v. bit 0 (bit_and v 253)) (λ v. bit 0 v) refl v h.byte ∙ h.clock
clock_of_latch false true v h = tests_by 256 (λ v. bit 0 (bit_and v 254)) (λ v. false) refl v h.byte
clock_of_latch false false v h = tests_by 256 (λ v. bit 0 (bit_and v 252)) (λ v. false) refl v h.byte

-- the latch with a bit on data drives data to that bit
pub data_of_latch : (c b : Bool) (v : ℕ) → IsReleased v → (latch_of (wired v c b)).dat ≡ b
data_of_latch true true v h = tests_by 256 (λ v. bit 1 (bit_and v 255)) (λ v. bit 1 v) refl v h.byte ∙ h.data_wire
data_of_latch false true v h = tests_by 256 (λ v. bit 1 (bit_and v 254)) (λ v. bit 1 v) refl v h.byte ∙ h.data_wire
data_of_latch true false v h = tests_by 256 (λ v. bit 1 (bit_and v 253)) (λ v. false) refl v h.byte
data_of_latch false false v h = tests_by 256 (λ v. bit 1 (bit_and v 252)) (λ v. false) refl v h.byte

-- what is put on the wires leaves the lights
pub lights_of_latch : (c b : Bool) (v : ℕ) → v < 256 → lights_of (wired v c b) ≡ lights_of v
lights_of_latch true true v l = by_byte (λ v. lights_of (bit_and v 255)) lights_of refl v l
lights_of_latch true false v l = by_byte (λ v. lights_of (bit_and v 253)) lights_of refl v l
lights_of_latch false true v l = by_byte (λ v. lights_of (bit_and v 254)) lights_of refl v l
lights_of_latch false false v l = by_byte (λ v. lights_of (bit_and v 252)) lights_of refl v l

-- at a look, and in the cycle after it, the latch leaves the clock alone
pub look_up : (v byte : ℕ) → IsReleased v → (look : ℕ) → IsLook look → (i : ℕ) → i < 2
    → (latch_of (sent_latch v byte (look + i))).clk ≡ true
look_up v byte released look (inl e) i l =
    let a : nat_lt (look + i) 10 ≡ true = grind (arith, nat_tests, e, l) in
    ap (λ c. (latch_of (if c then v else if nat_lt (look + i) 28 then wired v true false else sent_cell v byte
    ((look + i - 28) / 32) ((look + i - 28) % 32))).clk) a ∙ released.clock
look_up v byte released look (inr (inl e)) i l =
    let a : nat_lt (look + i) 10 ≡ false = grind (arith, nat_tests, e) in
    let b : nat_lt (look + i) 28 ≡ true = grind (arith, nat_tests, e, l) in
    ap (λ c. (latch_of (if c then v else if nat_lt (look + i) 28 then wired v true false else sent_cell v byte
    ((look + i - 28) / 32) ((look + i - 28) % 32))).clk) a
    ∙ ap (λ c. (latch_of (if c then wired v true false else sent_cell v byte ((look + i - 28) / 32)
    ((look + i - 28) % 32))).clk) b
    ∙ clock_of_latch true false v released
look_up v byte released look (inr (inr (k, few, inl e))) i l =
    let p : look + i ≡ 28 + 32 * k + 16 + (2 + i) = omega (arith, e) in
    ap (λ i. (latch_of (sent_latch v byte i)).clk) p
    ∙ ap (λ q. (latch_of q).clk) (cell_high v byte k (2 + i) (omega (arith, l)))
    ∙ clock_of_latch true (frame_bit byte k) v released
look_up v byte released look (inr (inr (k, few, inr (e, more)))) i l =
    let p : look + i ≡ 28 + 32 * k + 21 + (7 + i) = omega (arith, e) in
    ap (λ i. (latch_of (sent_latch v byte i)).clk) p
    ∙ ap (λ q. (latch_of q).clk) (cell_next v byte k (7 + i) (omega (arith, l)))
    ∙ clock_of_latch true (frame_bit byte (suc k)) v released

-- a look is within the frame
pub look_within : (look : ℕ) → IsLook look → look ≤ 334
look_within look (inl e) = omega (arith, e)
look_within look (inr (inl e)) = omega (arith, e)
look_within look (inr (inr (k, few, inl e))) = omega (arith, e, few)
look_within look (inr (inr (k, few, inr (e, more)))) = omega (arith, e, more)

-- the clock of a cell is low for 16 cycles: it doesn't fall again
rises_once : (i : ℕ) → (nat_le 16 i && not (nat_le 16 (suc i))) ≡ false
rises_once i = by_case (nat_le 16 i) refl
  where
    by_case : (c : Bool) → nat_le 16 i ≡ c → (nat_le 16 i && not (nat_le 16 (suc i))) ≡ false
    by_case true e = let l : 16 ≤ i = grind (arith, nat_tests, e) in let k : nat_le 16 (suc i) ≡ true =
        grind (arith, nat_tests, l) in rw (e, k) refl
    by_case false e = rw e refl

-- cells whose clock is low for 16 cycles are a frame
pub frame_by : (latch : ℕ → Lines) (from : ℕ) (bits : ℕ → Bool)
    → ((k i : ℕ) → i < 32 → 32 * k + i < 336 → (latch (32 * k + from + i)).clk ≡ nat_le 16 i)
    → ((k : ℕ) → k ≤ 10 → (latch (32 * k + from)).dat ≡ bits k) → IsFrame latch from bits
frame_by latch from bits clock level = record {
  cells = λ k l. record {
    falls = (let z : 32 * k + from ≡ 32 * k + from + 0 = omega arith in ap (λ o. (latch o).clk) z
        ∙ clock k 0 (omega arith) (omega (arith, l)));
    level = level k (omega (arith, l));
    once = λ o a b.
        let i = o - (32 * k + from) in
        let is : o ≡ 32 * k + from + i = omega (arith, a) in
        let next : suc o ≡ 32 * k + from + suc i = omega (arith, a) in
        let low : i < 31 = omega (arith, a, b) in
        let now_is : (latch o).clk ≡ nat_le 16 i =
        ap (λ p. (latch p).clk) is ∙ clock k i (omega (arith, low)) (omega (arith, low, l)) in
        let then_is : (latch (suc o)).clk ≡ nat_le 16 (suc i) =
        ap (λ p. (latch p).clk) next ∙ clock k (suc i) (omega (arith, low)) (omega (arith, low, l)) in
        ap (λ c. c && not (latch (suc o)).clk) now_is ∙ ap (λ c. nat_le 16 i && not c) then_is ∙ rises_once i;
    rises = (let z : 31 + (32 * k + from) ≡ 32 * k + from + 31 = omega arith in ap (λ o. (latch o).clk) z
        ∙ clock k 31 (omega arith) (omega (arith, l)));
  };
  ends = (let z : 320 + from ≡ 32 * 10 + from + 0 = omega arith in ap (λ o. (latch o).clk) z
      ∙ clock 10 0 (omega arith) (omega arith));
  last = (let z : 320 + from ≡ 32 * 10 + from = omega arith in ap (λ o. (latch o).dat) z ∙ level 10 (omega arith));
}

-- so ends a frame whose clock goes on as a cell's for some cycles of the eleventh, and is then left alone
pub frame_ends : (lines : ℕ → Lines) (start rest n : ℕ) → 16 ≤ n
    → ((i : ℕ) → i < n → (lines (32 * 10 + (288 + start) + i)).clk ≡ nat_le 16 i)
    → IsUp lines (608 + n + start) (609 + rest + start) → EndsFrame lines start rest
frame_ends lines start rest n long clock up = record {
  low = λ o a b.
      let i = o - (608 + start) in
      let p : o ≡ 32 * 10 + (288 + start) + i = omega (arith, a) in
      let l : i < 16 = omega (arith, a, b) in
      let c : nat_le 16 i ≡ false = grind (arith, nat_tests, l) in
      ap (λ q. (lines q).clk) p ∙ clock i (omega (arith, l, long)) ∙ c;
  high = λ o a b. by_case o a b (nat_lt o (608 + n + start)) refl;
}
  where
    by_case : (o : ℕ) → 624 + start ≤ o → o < 609 + rest + start → (c : Bool) → nat_lt o (608 + n + start) ≡ c
        → (lines o).clk ≡ true
    by_case o a b true e =
        let m : o < 608 + n + start = grind (arith, nat_tests, e) in
        let i = o - (608 + start) in
        let p : o ≡ 32 * 10 + (288 + start) + i = omega (arith, a) in
        let l : i < n = omega (arith, a, m) in
        let h : 16 ≤ i = omega (arith, a) in
        let c : nat_le 16 i ≡ true = grind (arith, nat_tests, h) in
        ap (λ q. (lines q).clk) p ∙ clock i l ∙ c
    by_case o a b false e = let m : 608 + n + start ≤ o = grind (arith, nat_tests, e) in up o m b

-- what a latch drives for n cycles from cycle x on
abbrev pub Drives : (ℕ → Lines) → ℕ → (ℕ → ℕ) → ℕ → Type 0
Drives lines x latch n = (o : ℕ) → o < n → lines (x + o) ≡ latch_of (latch o)

module _ (lines : ℕ → Lines) (start v : ℕ) (released : IsReleased v) where
  -- a sent frame
  module _ (byte : ℕ) (drives : Drives lines (260 + start) (sent_latch v byte) 368) where
    sent_lines : (k i : ℕ) → i < 32 → 32 * k + i < 340
        → lines (32 * k + (288 + start) + i) ≡ latch_of (sent_cell v byte k i)
    sent_lines k i l few =
        let p : 32 * k + (288 + start) + i ≡ 260 + start + (28 + 32 * k + i) = omega arith in
        ap lines p ∙ drives (28 + 32 * k + i) (omega (arith, few)) ∙ ap latch_of (in_cell v byte k i l)

    sent_clock : (k i : ℕ) → i < 32 → 32 * k + i < 340 → (lines (32 * k + (288 + start) + i)).clk ≡ nat_le 16 i
    sent_clock k i l few =
        ap (λ (z : Lines). z.clk) (sent_lines k i l few)
        ∙ clock_of_latch (nat_le 16 i) (frame_bit byte (if nat_lt i 21 then k else suc k)) v released

    -- a sent frame is on the wires the eleven bits of its byte
    pub sent_is_frame : IsFrame lines (288 + start) (frame_bit byte)
    sent_is_frame =
        frame_by lines (288 + start) (frame_bit byte) (λ k i l few. sent_clock k i l (omega (arith, few)))
        (λ k l.
        let z : 32 * k + (288 + start) ≡ 32 * k + (288 + start) + 0 = omega arith in
        ap (λ o. (lines o).dat) z ∙ ap (λ (z : Lines). z.dat) (sent_lines k 0 (omega arith) (omega (arith, l)))
        ∙ data_of_latch false (frame_bit byte k) v released)

    -- the clock is left alone up to the first edge; after the last it is low for 15 cycles more
    pub sent_before : IsUp lines (260 + start) (288 + start)
    sent_before o a b =
        let i = o - (260 + start) in
        let p : o ≡ 260 + start + i = omega (arith, a) in
        let l : i < 28 = omega (arith, a, b) in
        ap (λ q. (lines q).clk) p ∙ ap (λ (z : Lines). z.clk) (drives i (omega (arith, l)))
        ∙ up i (nat_lt i 10) refl (nat_lt i 28) (grind (arith, nat_tests, l))
      where
        up : (i : ℕ) (c : Bool) → nat_lt i 10 ≡ c → (e : Bool) → nat_lt i 28 ≡ true
            → (latch_of (sent_latch v byte i)).clk ≡ true
        up i true h e g = ap (λ c. (latch_of
            (if c then v else if nat_lt i 28 then wired v true false else sent_cell v byte ((i - 28) / 32)
            ((i - 28) % 32))).clk) h ∙ released.clock
        up i false h e g =
            ap (λ c. (latch_of (if c then v else if nat_lt i 28 then wired v true false else sent_cell v byte
            ((i - 28) / 32) ((i - 28) % 32))).clk) h
            ∙ ap
            (λ c. (latch_of (if c then wired v true false else sent_cell v byte ((i - 28) / 32) ((i - 28) % 32))).clk) g
            ∙ clock_of_latch true false v released

    -- if the clock stays up after a sent frame, the frame ends on the wires
    pub sent_ends : (rest : ℕ) → IsUp lines (628 + start) (609 + rest + start) → EndsFrame lines start rest
    sent_ends rest up =
        frame_ends lines start rest 20 (omega arith) (λ i l. sent_clock 10 i (omega (arith, l)) (omega (arith, l))) up
