-- What the keyboard drives in a tick, by its frame.
use Rattle.std.proofs.Common.{◌≡◌, ◌≤◌, ◌<◌, ℕ, suc, ◌+◌, ◌-◌, ◌*◌, ◌/◌, ◌%◌, Bool, true, false, nat_le, nat_lt, ◌||◌}
use Rattle.std.proofs.Common.{if◌then◌else◌, refl, ap, sym, ◌∙◌, arith}
use Rattle.std.proofs.lemmas.Bool.Decides.{nat_tests}
use Rattle.law_fw_link.proofs.Cut.{as_cut, as_sent}
use Rattle.law_fw_link.proofs.Taking.{in_cell as got_cell}
use Rattle.law_fw_link.proofs.TickLatch.{afterwards, before_data, before_lights, within}
use Rattle.law_fw_link.proofs.Wired.{IsReleased, in_cell}
use Rattle.law_fw_link.proofs.Wires.{clock_of_latch, data_of_latch, look_up, look_within}
use Rattle.law_fw_link.specs.Latch.{Frame, NoFrame, SentFrame, CutFrame, ReceivedFrame, IsLook, frame_bit}
use Rattle.law_fw_link.specs.Latch.{frame_cycles, frame_latch, received_cell, sent_cell, sent_latch, wired}
use Rattle.joint_run.specs.Joint.{latch_of}
use Rattle.law_any_host.specs.Ticks.{frame_lines}

-- a latch of FF (hexadecimal) pulls neither wire
pub let_go : IsReleased 255
let_go = record { byte = omega arith; clock = refl; data_wire = refl }

-- up to the look at data both wires are let go
pub early : (frame : Frame) (o : ℕ) → o < 260 → frame_lines frame o ≡ latch_of 255
early frame o l = by (nat_lt o 232) refl
  where
    by : (b : Bool) → nat_lt o 232 ≡ b → frame_lines frame o ≡ latch_of 255
    by true e = ap latch_of (before_lights 255 255 frame o (grind (arith, nat_tests, e)))
    by false e =
        let m : 232 ≤ o = grind (arith, nat_tests, e) in
        let p : o ≡ 232 + (o - 232) = omega (arith, m) in
        ap (λ i. frame_lines frame i) p ∙ ap latch_of (before_data 255 255 frame (o - 232) (omega (arith, m, l)))

-- in the frame, and after it
pub inside : (frame : Frame) (i : ℕ) → i < frame_cycles frame → frame_lines frame (260 + i) ≡ latch_of (frame_latch frame 255 i)
inside frame i l = ap latch_of (within 255 255 frame i l)

-- after its frame the keyboard pulls neither wire
pub late : (frame : Frame) (o : ℕ) → 260 + frame_cycles frame ≤ o → frame_lines frame o ≡ latch_of 255
late frame o l =
    let p : o ≡ 260 + frame_cycles frame + (o - (260 + frame_cycles frame)) = omega (arith, l) in
    ap (λ i. frame_lines frame i) p ∙ ap latch_of (afterwards 255 255 frame (o - (260 + frame_cycles frame)))

-- in a tick without a frame the keyboard never pulls the clock
pub none : (o : ℕ) → (frame_lines NoFrame o).clk ≡ true
none o = by (nat_lt o 260) refl
  where
    by : (b : Bool) → nat_lt o 260 ≡ b → (frame_lines NoFrame o).clk ≡ true
    by true e = ap (λ l. l.clk) (early NoFrame o (grind (arith, nat_tests, e)))
    by false e =
        let m : 260 ≤ o = grind (arith, nat_tests, e) in ap (λ l. l.clk) (late NoFrame o (omega (arith, m)))

-- a sent frame: before its first fall, in its cells, and after it
module _ (byte : ℕ) where
  abbrev sent : Frame
  sent = SentFrame byte

  start_latch : (i : ℕ) → 10 ≤ i → i < 28 → sent_latch 255 byte i ≡ wired 255 true false
  start_latch i m l =
      let a : nat_lt i 10 ≡ false = grind (arith, nat_tests, m) in
      let b : nat_lt i 28 ≡ true = grind (arith, nat_tests, l) in
      rw (a, b) refl

  first_latch : (i : ℕ) → i < 10 → sent_latch 255 byte i ≡ 255
  first_latch i l = let a : nat_lt i 10 ≡ true = grind (arith, nat_tests, l) in rw a refl

  up_latch : (i : ℕ) → i < 28 → (latch_of (sent_latch 255 byte i)).clk ≡ true
  up_latch i l = by (nat_lt i 10) refl
    where
      by : (b : Bool) → nat_lt i 10 ≡ b → (latch_of (sent_latch 255 byte i)).clk ≡ true
      by true e = ap (λ v. (latch_of v).clk) (first_latch i (grind (arith, nat_tests, e)))
      by false e = ap (λ v. (latch_of v).clk) (start_latch i (grind (arith, nat_tests, e)) l)
          ∙ clock_of_latch true false 255 let_go

  -- before the first fall of a sent frame the keyboard lets the clock go
  pub sent_up : (o : ℕ) → o < 288 → (frame_lines sent o).clk ≡ true
  sent_up o l = by (nat_lt o 260) refl
    where
      by : (b : Bool) → nat_lt o 260 ≡ b → (frame_lines sent o).clk ≡ true
      by true e = ap (λ l. l.clk) (early sent o (grind (arith, nat_tests, e)))
      by false e =
          let m : 260 ≤ o = grind (arith, nat_tests, e) in
          let p : o ≡ 260 + (o - 260) = omega (arith, m) in
          ap (λ i. (frame_lines sent i).clk) p ∙ ap (λ l. l.clk) (inside sent (o - 260) (omega (arith, l, m)))
          ∙ up_latch (o - 260) (omega (arith, l, m))

  -- the start bit is put 18 cycles before
  pub sent_start : (i : ℕ) → i < 18 → (frame_lines sent (270 + i)).dat ≡ false
  sent_start i l =
      let p : 270 + i ≡ 260 + (10 + i) = omega arith in
      ap (λ o. (frame_lines sent o).dat) p ∙ ap (λ l. l.dat) (inside sent (10 + i) (omega (arith, l)))
      ∙ ap (λ v. (latch_of v).dat) (start_latch (10 + i) (omega arith) (omega (arith, l)))
      ∙ data_of_latch true false 255 let_go

  sent_in : (k i : ℕ) → i < 32 → 32 * k + i < 340 → frame_lines sent (288 + 32 * k + i) ≡ latch_of (sent_cell 255 byte k i)
  sent_in k i l few =
      let p : 288 + 32 * k + i ≡ 260 + (28 + 32 * k + i) = omega arith in
      ap (λ o. frame_lines sent o) p ∙ inside sent (28 + 32 * k + i) (omega (arith, few))
      ∙ ap latch_of (in_cell 255 byte k i l)

  -- in each cell of a sent frame the keyboard holds the clock low for 16 cycles and then lets it go for 16
  pub sent_clock : (k i : ℕ) → i < 32 → 32 * k + i < 340 → (frame_lines sent (288 + 32 * k + i)).clk ≡ nat_le 16 i
  sent_clock k i l few =
      ap (λ l. l.clk) (sent_in k i l few)
      ∙ clock_of_latch (nat_le 16 i) (frame_bit byte (if nat_lt i 21 then k else suc k)) 255 let_go

  -- in a cell of a sent frame the keyboard drives the cell's bit for 21 cycles, and then the next one
  pub sent_data : (k i : ℕ) → i < 32 → 32 * k + i < 340
      → (frame_lines sent (288 + 32 * k + i)).dat ≡ frame_bit byte (if nat_lt i 21 then k else suc k)
  sent_data k i l few =
      ap (λ l. l.dat) (sent_in k i l few)
      ∙ data_of_latch (nat_le 16 i) (frame_bit byte (if nat_lt i 21 then k else suc k)) 255 let_go

  -- after a sent frame the keyboard lets the clock go
  pub sent_late : (o : ℕ) → 628 ≤ o → (frame_lines sent o).clk ≡ true
  sent_late o l = ap (λ l. l.clk) (late sent o l)

  -- a frame that is cut is as a sent one up to two cycles after the look, and then both wires are let go
  module _ (look : ℕ) (is : IsLook look) where
    abbrev cut : Frame
    cut = CutFrame byte look

    -- up to two cycles after the look a frame that is cut is as one that is sent
    pub cut_as_sent : (o : ℕ) → o < 262 + look → frame_lines cut o ≡ frame_lines sent o
    cut_as_sent o l = by (nat_lt o 260) refl
      where
        by : (b : Bool) → nat_lt o 260 ≡ b → frame_lines cut o ≡ frame_lines sent o
        by true e =
            let m : o < 260 = grind (arith, nat_tests, e) in early cut o m ∙ sym (early sent o m)
        by false e =
            let m : 260 ≤ o = grind (arith, nat_tests, e) in
            let far : look ≤ 334 = look_within look is in
            let i : ℕ = o - 260 in
            let p : o ≡ 260 + i = omega (arith, m) in
            ap (λ o. frame_lines cut o) p ∙ inside cut i (omega (arith, m, l))
            ∙ ap latch_of (as_sent 255 byte look i (omega (arith, m, l)))
            ∙ sym (inside sent i (omega (arith, m, l, far))) ∙ sym (ap (λ o. frame_lines sent o) p)

    -- from two cycles after the look on a frame that is cut lets the clock go
    pub cut_late : (o : ℕ) → 262 + look ≤ o → (frame_lines cut o).clk ≡ true
    cut_late o l = by (nat_lt o (266 + look)) refl
      where
        by : (b : Bool) → nat_lt o (266 + look) ≡ b → (frame_lines cut o).clk ≡ true
        by true e =
            let m : o < 266 + look = grind (arith, nat_tests, e) in
            let i : ℕ = o - (262 + look) in
            let p : o ≡ 260 + (look + 2 + i) = omega (arith, l) in
            ap (λ o. (frame_lines cut o).clk) p ∙ ap (λ l. l.clk) (inside cut (look + 2 + i) (omega (arith, m, l)))
            ∙ ap (λ v. (latch_of v).clk) (as_cut 255 byte look i)
        by false e =
            let m : 266 + look ≤ o = grind (arith, nat_tests, e) in
            ap (λ l. l.clk) (late cut o (omega (arith, m)))

    -- at the look and in the next cycle the clock is let go
    pub at_look : (i : ℕ) → i < 2 → (frame_lines cut (260 + look + i)).clk ≡ true
    at_look i l =
        let far : look ≤ 334 = look_within look is in
        let p : 260 + look + i ≡ 260 + (look + i) = omega arith in
        cut_as_sent_clock i l
        ∙ ap (λ o. (frame_lines sent o).clk) p ∙ ap (λ l. l.clk) (inside sent (look + i) (omega (arith, l, far)))
        ∙ look_up 255 byte let_go look is i l
      where
        cut_as_sent_clock : (i : ℕ) → i < 2 → (frame_lines cut (260 + look + i)).clk ≡ (frame_lines sent (260 + look + i)).clk
        cut_as_sent_clock i l = ap (λ l. l.clk) (cut_as_sent (260 + look + i) (omega (arith, l)))

-- a received frame
abbrev pub got : Frame
got = ReceivedFrame

-- before the first fall of a received frame the keyboard pulls neither wire
pub got_up : (o : ℕ) → o < 288 → frame_lines got o ≡ latch_of 255
got_up o l = by (nat_lt o 260) refl
  where
    by : (b : Bool) → nat_lt o 260 ≡ b → frame_lines got o ≡ latch_of 255
    by true e = early got o (grind (arith, nat_tests, e))
    by false e =
        let m : 260 ≤ o = grind (arith, nat_tests, e) in
        let i : ℕ = o - 260 in
        let p : o ≡ 260 + i = omega (arith, m) in
        let a : nat_lt i 28 ≡ true = grind (arith, nat_tests, l, m) in
        ap (λ o. frame_lines got o) p ∙ inside got i (omega (arith, m, l))
        ∙ ap (λ c. latch_of (if c then 255 else received_cell 255 ((i - 28) / 32) ((i - 28) % 32))) a

got_in : (k i : ℕ) → i < 32 → 32 * k + i < 338 → frame_lines got (288 + 32 * k + i) ≡ latch_of (received_cell 255 k i)
got_in k i l few =
    let p : 288 + 32 * k + i ≡ 260 + (28 + 32 * k + i) = omega arith in
    ap (λ o. frame_lines got o) p ∙ inside got (28 + 32 * k + i) (omega (arith, few))
    ∙ ap latch_of (got_cell 255 k i l)

-- in each cell of a received frame the keyboard holds the clock low for 16 cycles and then lets it go for 16
pub got_clock : (k i : ℕ) → i < 32 → 32 * k + i < 338 → (frame_lines got (288 + 32 * k + i)).clk ≡ nat_le 16 i
got_clock k i l few =
    ap (λ l. l.clk) (got_in k i l few)
    ∙ clock_of_latch (nat_le 16 i) (if nat_lt k 10 then nat_lt i 20 || nat_lt k 9 else nat_le 16 i) 255 let_go

-- data is let go up to the acknowledgement
pub got_data : (k i : ℕ) → k < 10 → i < 20 → (frame_lines got (288 + 32 * k + i)).dat ≡ true
got_data k i few l =
    let a : nat_lt k 10 ≡ true = grind (arith, nat_tests, few) in
    let b : nat_lt i 20 ≡ true = grind (arith, nat_tests, l) in
    ap (λ l. l.dat) (got_in k i (omega (arith, l)) (omega (arith, few, l)))
    ∙ data_of_latch (nat_le 16 i) (if nat_lt k 10 then nat_lt i 20 || nat_lt k 9 else nat_le 16 i) 255 let_go
    ∙ ap (λ c. if c then nat_lt i 20 || nat_lt k 9 else nat_le 16 i) a ∙ ap (λ c. c || nat_lt k 9) b

-- after a received frame the keyboard doesn't pull the clock
pub got_late : (o : ℕ) → 626 ≤ o → (frame_lines got o).clk ≡ true
got_late o l = ap (λ l. l.clk) (late got o l)
