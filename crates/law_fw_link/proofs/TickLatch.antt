-- The latch of port 2 in a whole tick, part by part.
use Rattle.std.proofs.Common.{◌≡◌, ◌≤◌, ◌<◌, ℕ, ◌+◌, ◌-◌, Bool, true, false, nat_lt, if◌then◌else◌, refl, ap, sym}
use Rattle.std.proofs.Common.{◌∙◌, arith}
use Rattle.std.proofs.lemmas.Bool.Decides.{nat_tests}
use Rattle.board_terms.specs.declared.lines.Lines.{Lines}
use Rattle.law_fw_link.specs.Latch.{Frame, NoFrame, SentFrame, CutFrame, ReceivedFrame, frame_latch, frame_cycles}
use Rattle.law_fw_link.specs.Latch.{tick_latch, cut_after}
use Rattle.law_fw_link.proofs.Latches.{in_tick}
use Rattle.law_fw_link.proofs.Outside.{lines_of}
use Rattle.law_fw_link.proofs.Wired.{IsReleased}
use Rattle.law_fw_link.proofs.WiresGot.{sent_lights, cut_lights, received_lights}
use Rattle.joint_run.specs.Joint.{latch_of, lights_of}

-- the same number on both sides
shifted : (a b c : ℕ) → nat_lt (c + a) (b + c) ≡ nat_lt a b
shifted a b c = by_case (nat_lt a b) refl
  where
    by_case : (q : Bool) → nat_lt a b ≡ q → nat_lt (c + a) (b + c) ≡ nat_lt a b
    by_case true e =
        let l : a < b = grind (arith, nat_tests, e) in
        let m : nat_lt (c + a) (b + c) ≡ true = grind (arith, nat_tests, l) in
        m ∙ sym e
    by_case false e =
        let l : b ≤ a = grind (arith, nat_tests, e) in
        let m : nat_lt (c + a) (b + c) ≡ false = grind (arith, nat_tests, l) in
        m ∙ sym e

-- a frame leaves the lights as they are
lights_left : (frame : Frame) (v o : ℕ) → v < 256 → lights_of (frame_latch frame v o) ≡ lights_of v
lights_left NoFrame v o l = refl
lights_left (SentFrame byte) v o l = sent_lights v byte o l
lights_left (CutFrame byte look) v o l = cut_lights v byte look o l
lights_left ReceivedFrame v o l = received_lights v o l

module _ (old v : ℕ) (frame : Frame) where
  abbrev latch : ℕ → ℕ
  latch = tick_latch old v frame

  abbrev length : ℕ
  length = frame_cycles frame

  abbrev drives : ℕ → ℕ
  drives = frame_latch frame v

  -- up to the lights
  pub before_lights : (i : ℕ) → i < 232 → latch i ≡ old
  before_lights i l = let a : nat_lt i 232 ≡ true = grind (arith, nat_tests, l) in rw a refl

  -- up to the look at data
  pub before_data : (i : ℕ) → i < 28 → latch (232 + i) ≡ v
  before_data i l =
      let a : nat_lt (232 + i) 232 ≡ false = grind (arith, nat_tests) in
      let b : nat_lt (232 + i) 260 ≡ true = grind (arith, nat_tests, l) in
      rw (a, b) refl

  -- in the frame
  pub within : (i : ℕ) → i < frame_cycles frame → latch (260 + i) ≡ frame_latch frame v i
  within i l =
      let a : nat_lt (260 + i) 232 ≡ false = grind (arith, nat_tests) in
      let b : nat_lt (260 + i) 260 ≡ false = grind (arith, nat_tests) in
      let c : nat_lt (260 + i) (260 + length) ≡ true = grind (arith, nat_tests, l) in
      let o : 260 + i - 260 ≡ i = omega arith in
      rw (a, b, c, o) refl

  -- and after it
  pub afterwards : (i : ℕ) → latch (260 + frame_cycles frame + i) ≡ v
  afterwards i =
      let a : nat_lt (260 + length + i) 232 ≡ false = grind (arith, nat_tests) in
      let b : nat_lt (260 + length + i) 260 ≡ false = grind (arith, nat_tests) in
      let c : nat_lt (260 + length + i) (260 + length) ≡ false = grind (arith, nat_tests) in
      rw (a, b, c) refl

  -- from the lights on it is that of the lines of a tick with a frame
  pub on_lines : (start o : ℕ) → 232 ≤ o
      → in_tick (frame_latch frame v) v start (frame_cycles frame) (start + o) ≡ latch o
  on_lines start o l =
      let a : nat_lt o 232 ≡ false = grind (arith, nat_tests, l) in
      let b : nat_lt (start + o) (260 + start) ≡ nat_lt o 260 = shifted o 260 start in
      let e : 260 + start + length ≡ 260 + length + start = omega arith in
      let c : nat_lt (start + o) (260 + start + length) ≡ nat_lt o (260 + length) =
      ap (λ k. nat_lt (start + o) k) e ∙ shifted o (260 + length) start in
      let p : start + o - (260 + start) ≡ o - 260 = omega arith in
      ap (λ q. if q then v else if nat_lt (start + o) (260 + start + length) then drives (start + o - (260 + start))
      else v) b
      ∙ ap (λ q. if nat_lt o 260 then v else if q then drives (start + o - (260 + start)) else v) c
      ∙ ap (λ i. if nat_lt o 260 then v else if nat_lt o (260 + length) then drives i else v) p
      ∙ sym (ap (λ q. if q then old else if nat_lt o 260 then v else if nat_lt o (260 + length) then drives (o - 260)
      else v) a)

  -- its lights are those that it puts
  pub lights_stay : v < 256 → (o : ℕ) → 232 ≤ o → lights_of (latch o) ≡ lights_of v
  lights_stay small o l =
      let a : nat_lt o 232 ≡ false = grind (arith, nat_tests, l) in
      ap (λ q. lights_of
      (if q then old else if nat_lt o 260 then v else if nat_lt o (260 + length) then drives (o - 260) else v)) a
      ∙ by_case (nat_lt o 260) (nat_lt o (260 + length))
    where
      by_case : (p q : Bool) → lights_of (if p then v else if q then drives (o - 260) else v) ≡ lights_of v
      by_case true q = refl
      by_case false true = lights_left frame v (o - 260) small
      by_case false false = refl

-- a tick without a frame
pub without_frame : (old v o : ℕ) → 232 ≤ o → tick_latch old v NoFrame o ≡ v
without_frame old v o l =
    let a : nat_lt o 232 ≡ false = grind (arith, nat_tests, l) in
    ap (λ q. if q then old else if nat_lt o 260 then v else if nat_lt o 260 then v else v) a ∙ by_case (nat_lt o 260)
  where
    by_case : (p : Bool) → (if p then v else if p then v else v) ≡ v
    by_case true = refl
    by_case false = refl

-- the lines that the keyboard drives in a tick with a frame, by the cycle
abbrev pub lines_by : Frame → (v start : ℕ) → IsReleased v → ℕ → Lines
lines_by NoFrame v start released o = latch_of v
lines_by (SentFrame byte) v start released o = lines_of v start released (frame_latch (SentFrame byte) v) 368 o
lines_by (CutFrame byte look) v start released o =
    lines_of v start released (frame_latch (CutFrame byte look) v) (cut_after look) o
lines_by ReceivedFrame v start released o = lines_of v start released (frame_latch ReceivedFrame v) 366 o

-- the lines of a tick by its frame are those of the latch of port 2 in that tick, from offset 232 on
pub lines_are : (frame : Frame) (old v start : ℕ) (released : IsReleased v) (o : ℕ) → 232 ≤ o
    → lines_by frame v start released (start + o) ≡ latch_of (tick_latch old v frame o)
lines_are NoFrame old v start released o l = ap latch_of (sym (without_frame old v o l))
lines_are (SentFrame byte) old v start released o l = ap latch_of (on_lines old v (SentFrame byte) start o l)
lines_are (CutFrame byte look) old v start released o l = ap latch_of (on_lines old v (CutFrame byte look) start o l)
lines_are ReceivedFrame old v start released o l = ap latch_of (on_lines old v ReceivedFrame start o l)
