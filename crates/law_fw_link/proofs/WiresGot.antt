-- The latch of a received frame, and that of a cut one, on the wires.
use Rattle.std.proofs.Common.{◌≡◌, ◌<◌, ℕ, suc, ◌+◌, ◌-◌, ◌*◌, ◌/◌, ◌%◌, Bool, true, false, nat_le, nat_lt}
use Rattle.std.proofs.Common.{if◌then◌else◌, ◌||◌}
use Rattle.std.proofs.Common.{refl, ap, ◌∙◌, arith}
use Rattle.board_terms.specs.declared.lines.Lines.{Lines}
use Rattle.law_fw_link.specs.Latch.{wired, sent_latch, cut_latch, frame_bit, received_cell, received_latch}
use Rattle.law_fw_link.proofs.Taking.{in_cell, before_cells}
use Rattle.law_fw_link.proofs.Wired.{IsReleased}
use Rattle.law_fw_link.proofs.Wires.{clock_of_latch, data_of_latch, lights_of_latch, frame_by, frame_ends, Drives}
use Rattle.joint_run.specs.Joint.{latch_of, lights_of}
use Rattle.law_wires_agree.specs.Cells.{IsUp, IsFrame}
use Rattle.law_wires_agree.specs.Ticks.{EndsFrame}

-- the lights stay as they are
pub received_lights : (v o : ℕ) → v < 256 → lights_of (received_latch v o) ≡ lights_of v
received_lights v o l =
    by_case (nat_lt o 28) (nat_le 16 ((o - 28) % 32))
    (if nat_lt ((o - 28) / 32) 10 then nat_lt ((o - 28) % 32) 20 || nat_lt ((o - 28) / 32) 9 else nat_le 16 ((o - 28) % 32))
  where
    by_case : (c a b : Bool) → lights_of (if c then v else wired v a b) ≡ lights_of v
    by_case true a b = refl
    by_case false a b = lights_of_latch a b v l

-- a sent frame leaves the lights
pub sent_lights : (v byte o : ℕ) → v < 256 → lights_of (sent_latch v byte o) ≡ lights_of v
sent_lights v byte o l =
    by_case (nat_lt o 10) (nat_lt o 28) (nat_le 16 ((o - 28) % 32))
    (frame_bit byte (if nat_lt ((o - 28) % 32) 21 then (o - 28) / 32 else suc ((o - 28) / 32)))
  where
    by_case : (c e a b : Bool)
        → lights_of (if c then v else if e then wired v true false else wired v a b) ≡ lights_of v
    by_case true e a b = refl
    by_case false true a b = lights_of_latch true false v l
    by_case false false a b = lights_of_latch a b v l

-- a frame that is cut leaves the lights
pub cut_lights : (v byte look o : ℕ) → v < 256 → lights_of (cut_latch v byte look o) ≡ lights_of v
cut_lights v byte look o l = by_case (nat_lt o (look + 2))
  where
    by_case : (c : Bool) → lights_of (if c then sent_latch v byte o else v) ≡ lights_of v
    by_case true = sent_lights v byte o l
    by_case false = refl

-- at the falls of the clock the data wire is pulled in the eleventh cell alone
abbrev pub received_bit : ℕ → Bool
received_bit k = nat_lt k 10

same_end : (c : Bool) → (if c then true else false) ≡ c
same_end true = refl
same_end false = refl

module _ (lines : ℕ → Lines) (start v : ℕ) (released : IsReleased v) where
  module _ (drives : Drives lines (260 + start) (received_latch v) 366) where
    got_lines : (k i : ℕ) → i < 32 → 32 * k + i < 338
        → lines (32 * k + (288 + start) + i) ≡ latch_of (received_cell v k i)
    got_lines k i l few =
        let p : 32 * k + (288 + start) + i ≡ 260 + start + (28 + 32 * k + i) = omega arith in
        ap lines p ∙ drives (28 + 32 * k + i) (omega (arith, few)) ∙ ap latch_of (in_cell v k i l)

    got_clock : (k i : ℕ) → i < 32 → 32 * k + i < 338 → (lines (32 * k + (288 + start) + i)).clk ≡ nat_le 16 i
    got_clock k i l few =
        ap (λ (z : Lines). z.clk) (got_lines k i l few) ∙ clock_of_latch (nat_le 16 i)
        (if nat_lt k 10 then nat_lt i 20 || nat_lt k 9 else nat_le 16 i) v released

    -- a received frame is on the wires eleven falls, with data pulled by the keyboard in the last alone
    pub received_is_frame : IsFrame lines (288 + start) received_bit
    received_is_frame =
        frame_by lines (288 + start) received_bit (λ k i l few. got_clock k i l (omega (arith, few)))
        (λ k l.
        let z : 32 * k + (288 + start) ≡ 32 * k + (288 + start) + 0 = omega arith in
        ap (λ o. (lines o).dat) z ∙ ap (λ (z : Lines). z.dat) (got_lines k 0 (omega arith) (omega (arith, l)))
        ∙ data_of_latch false (if nat_lt k 10 then true else false) v released ∙ same_end (nat_lt k 10))

    -- before the first fall of a received frame the clock is up
    pub received_before : IsUp lines (260 + start) (288 + start)
    received_before o a b =
        let i = o - (260 + start) in
        let p : o ≡ 260 + start + (0 + i) = omega (arith, a) in
        let l : i < 28 = omega (arith, a, b) in
        ap (λ q. (lines q).clk) p ∙ ap (λ (z : Lines). z.clk) (drives (0 + i) (omega (arith, l)))
        ∙ ap (λ q. (latch_of q).clk) (before_cells v i l) ∙ released.clock

    -- if the clock stays up after a received frame, the frame ends on the wires
    pub received_ends : (rest : ℕ) → IsUp lines (626 + start) (609 + rest + start) → EndsFrame lines start rest
    received_ends rest up =
        frame_ends lines start rest 18 (omega arith) (λ i l. got_clock 10 i (omega (arith, l)) (omega (arith, l))) up
