-- The clock that the latch of port 2 drives in a tick, by the offset: it is low for 16 cycles in each cell of the frame,
-- from offset 288 on.
use Rattle.std.proofs.Common.{◌≡◌, ◌≤◌, ◌<◌, ℕ, suc, ◌+◌, ◌-◌, ◌*◌, ◌/◌, ◌%◌, Bool, true, false, ◌||◌, nat_le, nat_lt}
use Rattle.std.proofs.Common.{◌⊎◌, inl, inr, if◌then◌else◌, refl, ap, sym, ◌∙◌, arith}
use Rattle.std.proofs.lemmas.Bool.Decides.{nat_tests}
use Rattle.bits.specs.Bits.{bit}
use Rattle.law_fw_link.proofs.TickLatch.{before_lights, before_data, within, afterwards}
use Rattle.law_fw_link.proofs.Wired.{IsReleased}
use Rattle.law_fw_link.proofs.Wires.{clock_of_latch, look_within}
use Rattle.law_fw_link.specs.Latch.{Frame, NoFrame, SentFrame, CutFrame, ReceivedFrame, IsLook, frame_latch, frame_cycles, tick_latch}
use Rattle.law_fw_link.specs.Latch.{wired, sent_latch, sent_cell, cut_latch, received_latch, received_cell, frame_bit}

-- the cells in which a frame pulls the clock
abbrev pub cells : Frame → ℕ
cells NoFrame = 0
cells (SentFrame byte) = 11
cells (CutFrame byte look) = (look + 4) / 32
cells ReceivedFrame = 11

-- the clock at an offset, in a frame of n cells
abbrev pub clock_in : ℕ → ℕ → Bool
clock_in n o = nat_lt o 288 || (nat_le n ((o - 288) / 32) || nat_le 16 ((o - 288) % 32))

-- before its first cell a frame leaves the clock high
pub before_cells : (n o : ℕ) → o < 288 → clock_in n o ≡ true
before_cells n o l = let e : nat_lt o 288 ≡ true = grind (arith, nat_tests, l) in rw e refl

in_cells : (n o : ℕ) → 288 ≤ o → (o - 288) / 32 < n → clock_in n o ≡ nat_le 16 ((o - 288) % 32)
in_cells n o l m =
    let e : nat_lt o 288 ≡ false = grind (arith, nat_tests, l) in
    let f : nat_le n ((o - 288) / 32) ≡ false = grind (arith, nat_tests, m) in
    rw (e, f) refl

past_cells : (n o : ℕ) → 288 ≤ o → n ≤ (o - 288) / 32 → clock_in n o ≡ true
past_cells n o l m =
    let e : nat_lt o 288 ≡ false = grind (arith, nat_tests, l) in
    let f : nat_le n ((o - 288) / 32) ≡ true = grind (arith, nat_tests, m) in
    rw (e, f) refl

-- in the last 16 cycles of a cell the clock is high
pub late_in_cell : (n o : ℕ) → 288 ≤ o → 16 ≤ (o - 288) % 32 → clock_in n o ≡ true
late_in_cell n o l m =
    let e : nat_lt o 288 ≡ false = grind (arith, nat_tests, l) in
    let f : nat_le 16 ((o - 288) % 32) ≡ true = grind (arith, nat_tests, m) in
    rw (e, f) (by (nat_le n ((o - 288) / 32)))
  where
    by : (b : Bool) → (b || true) ≡ true
    by true = refl
    by false = refl

-- a low clock is one of a cell
pub record IsLow (n o : ℕ) : Type 0 where
  pub cell : ℕ
  pub few : cell < n
  pub from : 288 + 32 * cell ≤ o
  pub to : o < 304 + 32 * cell

-- a low clock is in the first 16 cycles of a cell of the frame
pub low_is : (n o : ℕ) → clock_in n o ≡ false → IsLow n o
low_is n o h = by (nat_lt o 288) refl (nat_le n ((o - 288) / 32)) refl (nat_le 16 ((o - 288) % 32)) refl
  where
    by : (a : Bool) → nat_lt o 288 ≡ a → (b : Bool) → nat_le n ((o - 288) / 32) ≡ b → (c : Bool)
        → nat_le 16 ((o - 288) % 32) ≡ c → IsLow n o
    by true e b f c g =
        let l : o < 288 = grind (arith, nat_tests, e) in
        absurd (let z : true ≡ false = sym (before_cells n o l) ∙ h in cc)
    by false e true f c g =
        let l : 288 ≤ o = grind (arith, nat_tests, e) in
        let m : n ≤ (o - 288) / 32 = grind (arith, nat_tests, f) in
        absurd (let z : true ≡ false = sym (past_cells n o l m) ∙ h in cc)
    by false e false f true g =
        let l : 288 ≤ o = grind (arith, nat_tests, e) in
        let m : 16 ≤ (o - 288) % 32 = grind (arith, nat_tests, g) in
        absurd (let z : true ≡ false = sym (late_in_cell n o l m) ∙ h in cc)
    by false e false f false g =
        let l : 288 ≤ o = grind (arith, nat_tests, e) in
        let m : (o - 288) / 32 < n = grind (arith, nat_tests, f) in
        let k : (o - 288) % 32 < 16 = grind (arith, nat_tests, g) in
        record { cell = (o - 288) / 32; few = m; from = omega (arith, l); to = omega (arith, l, k) }

-- where it falls a cell begins
pub record IsEdge (n o : ℕ) : Type 0 where
  pub cell : ℕ
  pub few : cell < n
  pub at : o ≡ 288 + 32 * cell

-- the clock falls only at the begin of a cell of the frame
pub falls_at : (n o : ℕ) → clock_in n o ≡ true → clock_in n (suc o) ≡ false → IsEdge n (suc o)
falls_at n o high low =
    let i = low_is n (suc o) low in
    let from : 288 + 32 * i.cell ≤ suc o = i.from in
    let to : suc o < 304 + 32 * i.cell = i.to in
    record { cell = i.cell; few = i.few; at = by from to (nat_le (288 + 32 * i.cell) o) refl }
  where
    by : (from : 288 + 32 * (low_is n (suc o) low).cell ≤ suc o) → suc o < 304 + 32 * (low_is n (suc o) low).cell
        → (b : Bool) → nat_le (288 + 32 * (low_is n (suc o) low).cell) o ≡ b
        → suc o ≡ 288 + 32 * (low_is n (suc o) low).cell
    by from to true e =
        let k : ℕ = (low_is n (suc o) low).cell in
        let few : k < n = (low_is n (suc o) low).few in
        let l : 288 + 32 * k ≤ o = grind (arith, nat_tests, e) in
        let q : (o - 288) / 32 ≡ k = omega (arith, l, to) in
        let m : (o - 288) % 32 < 16 = omega (arith, l, to) in
        let a : nat_le 16 ((o - 288) % 32) ≡ false = grind (arith, nat_tests, m) in
        let is : clock_in n o ≡ false = in_cells n o (omega (arith, l)) (omega (arith, q, few)) ∙ a in
        absurd (let z : true ≡ false = sym high ∙ is in cc)
    by from to false e = grind (arith, nat_tests, e, from)

-- a cell's first cycle, and the one before it
pub cell_begins : (n k : ℕ) → k < n → clock_in n (288 + 32 * k) ≡ false
cell_begins n k l =
    let q : (288 + 32 * k - 288) / 32 ≡ k = omega arith in
    let r : (288 + 32 * k - 288) % 32 ≡ 0 = omega arith in
    in_cells n (288 + 32 * k) (omega arith) (omega (arith, q, l)) ∙ ap (λ m. nat_le 16 m) r

module _ (old v : ℕ) (was : IsReleased old) (is : IsReleased v) where
  abbrev latch : Frame → ℕ → ℕ
  latch frame o = tick_latch old v frame o

  -- within a frame of eleven cells
  eleven : (i c : ℕ) → 28 ≤ i → i < 368 → nat_le 16 ((i - 28) % 32) ≡ clock_in 11 (260 + i)
  eleven i c l m =
      let z : 260 + i - 288 ≡ i - 28 = omega arith in
      let q : (260 + i - 288) / 32 < 11 = omega (arith, m) in
      ap (λ k. nat_le 16 (k % 32)) (sym z) ∙ sym (in_cells 11 (260 + i) (omega (arith, l)) q)

  sent_clock : (byte i : ℕ) → i < 368 → bit 0 (sent_latch v byte i) ≡ clock_in 11 (260 + i)
  sent_clock byte i l = by (nat_lt i 10) refl (nat_lt i 28) refl
    where
      by : (a : Bool) → nat_lt i 10 ≡ a → (b : Bool) → nat_lt i 28 ≡ b → bit 0 (sent_latch v byte i) ≡ clock_in 11 (260 + i)
      by true e b f =
          let m : i < 10 = grind (arith, nat_tests, e) in
          ap (λ c. bit 0 (if c then v else if nat_lt i 28 then wired v true false else sent_cell v byte ((i - 28) / 32) ((i - 28) % 32))) e
          ∙ is.clock ∙ sym (before_cells 11 (260 + i) (omega (arith, m)))
      by false e true f =
          let m : i < 28 = grind (arith, nat_tests, f) in
          ap (λ c. bit 0 (if c then v else if nat_lt i 28 then wired v true false else sent_cell v byte ((i - 28) / 32) ((i - 28) % 32))) e
          ∙ ap (λ c. bit 0 (if c then wired v true false else sent_cell v byte ((i - 28) / 32) ((i - 28) % 32))) f
          ∙ clock_of_latch true false v is ∙ sym (before_cells 11 (260 + i) (omega (arith, m)))
      by false e false f =
          let m : 28 ≤ i = grind (arith, nat_tests, f) in
          ap (λ c. bit 0 (if c then v else if nat_lt i 28 then wired v true false else sent_cell v byte ((i - 28) / 32) ((i - 28) % 32))) e
          ∙ ap (λ c. bit 0 (if c then wired v true false else sent_cell v byte ((i - 28) / 32) ((i - 28) % 32))) f
          ∙ clock_of_latch (nat_le 16 ((i - 28) % 32))
          (frame_bit byte (if nat_lt ((i - 28) % 32) 21 then (i - 28) / 32 else suc ((i - 28) / 32))) v is
          ∙ eleven i 0 m l

  received_clock : (i : ℕ) → i < 366 → bit 0 (received_latch v i) ≡ clock_in 11 (260 + i)
  received_clock i l = by (nat_lt i 28) refl
    where
      by : (b : Bool) → nat_lt i 28 ≡ b → bit 0 (received_latch v i) ≡ clock_in 11 (260 + i)
      by true f =
          let m : i < 28 = grind (arith, nat_tests, f) in
          ap (λ c. bit 0 (if c then v else received_cell v ((i - 28) / 32) ((i - 28) % 32))) f
          ∙ is.clock ∙ sym (before_cells 11 (260 + i) (omega (arith, m)))
      by false f =
          let m : 28 ≤ i = grind (arith, nat_tests, f) in
          ap (λ c. bit 0 (if c then v else received_cell v ((i - 28) / 32) ((i - 28) % 32))) f
          ∙ clock_of_latch (nat_le 16 ((i - 28) % 32)) (if nat_lt ((i - 28) / 32) 10
          then nat_lt ((i - 28) % 32) 20 || nat_lt ((i - 28) / 32) 9 else nat_le 16 ((i - 28) % 32)) v is
          ∙ eleven i 0 m (omega (arith, l))

  -- up to two cycles after a look the frame is in the cells that it counts, or before the first
  cells_to : (look i : ℕ) → IsLook look → 28 ≤ i → i < look + 2 → (260 + i - 288) / 32 < (look + 4) / 32
  cells_to look i (inl e) l u = absurd (omega (arith, e, l, u))
  cells_to look i (inr (inl e)) l u = absurd (omega (arith, e, l, u))
  cells_to look i (inr (inr (k, few, inl e))) l u = omega (arith, e, l, u)
  cells_to look i (inr (inr (k, few, inr (e, more)))) l u = omega (arith, e, l, u)

  -- and from there on the clock of the last of them is high
  late_of : (look i : ℕ) → IsLook look → 28 ≤ i → look + 2 ≤ i → (260 + i - 288) / 32 < (look + 4) / 32
      → 16 ≤ (260 + i - 288) % 32
  late_of look i (inl e) l u m = absurd (omega (arith, e, m))
  late_of look i (inr (inl e)) l u m = absurd (omega (arith, e, m))
  late_of look i (inr (inr (k, few, inl e))) l u m = omega (arith, e, l, u, m)
  late_of look i (inr (inr (k, few, inr (e, more)))) l u m = omega (arith, e, l, u, m)

  up_after : (look i : ℕ) → IsLook look → look + 2 ≤ i → clock_in ((look + 4) / 32) (260 + i) ≡ true
  up_after look i at u = by (nat_lt i 28) refl (nat_le ((look + 4) / 32) ((260 + i - 288) / 32)) refl
    where
      by : (a : Bool) → nat_lt i 28 ≡ a → (b : Bool) → nat_le ((look + 4) / 32) ((260 + i - 288) / 32) ≡ b
          → clock_in ((look + 4) / 32) (260 + i) ≡ true
      by true e b f =
          let m : i < 28 = grind (arith, nat_tests, e) in before_cells ((look + 4) / 32) (260 + i) (omega (arith, m))
      by false e true f =
          let l : 28 ≤ i = grind (arith, nat_tests, e) in
          past_cells ((look + 4) / 32) (260 + i) (omega (arith, l)) (grind (arith, nat_tests, f))
      by false e false f =
          let l : 28 ≤ i = grind (arith, nat_tests, e) in
          let m : (260 + i - 288) / 32 < (look + 4) / 32 = grind (arith, nat_tests, f) in
          late_in_cell ((look + 4) / 32) (260 + i) (omega (arith, l)) (late_of look i at l u m)

  cut_clock : (byte look i : ℕ) → IsLook look → i < look + 6
      → bit 0 (cut_latch v byte look i) ≡ clock_in ((look + 4) / 32) (260 + i)
  cut_clock byte look i at l = by (nat_lt i (look + 2)) refl (nat_lt i 28) refl
    where
      below : look ≤ 334
      below = look_within look at

      by : (a : Bool) → nat_lt i (look + 2) ≡ a → (b : Bool) → nat_lt i 28 ≡ b
          → bit 0 (cut_latch v byte look i) ≡ clock_in ((look + 4) / 32) (260 + i)
      by true e true f =
          let n : i < 28 = grind (arith, nat_tests, f) in
          ap (λ c. bit 0 (if c then sent_latch v byte i else v)) e ∙ sent_clock byte i (omega (arith, n))
          ∙ before_cells 11 (260 + i) (omega (arith, n)) ∙ sym (before_cells ((look + 4) / 32) (260 + i) (omega (arith, n)))
      by true e false f =
          let m : i < look + 2 = grind (arith, nat_tests, e) in
          let n : 28 ≤ i = grind (arith, nat_tests, f) in
          let q : (260 + i - 288) / 32 < (look + 4) / 32 = cells_to look i at n m in
          ap (λ c. bit 0 (if c then sent_latch v byte i else v)) e ∙ sent_clock byte i (omega (arith, m, below))
          ∙ in_cells 11 (260 + i) (omega (arith, n)) (omega (arith, m, below))
          ∙ sym (in_cells ((look + 4) / 32) (260 + i) (omega (arith, n)) q)
      by false e b f =
          let m : look + 2 ≤ i = grind (arith, nat_tests, e) in
          ap (λ c. bit 0 (if c then sent_latch v byte i else v)) e ∙ is.clock ∙ sym (up_after look i at m)

  -- a frame is one with fewer than eleven cells, or of eleven
  abbrev pub Fits : Frame → Type 0
  Fits NoFrame = Unit {0}
  Fits (SentFrame byte) = Unit {0}
  Fits (CutFrame byte look) = IsLook look
  Fits ReceivedFrame = Unit {0}

  frame_clock : (frame : Frame)
      → Fits frame → (i : ℕ) → i < frame_cycles frame → bit 0 (frame_latch frame v i) ≡ clock_in (cells frame) (260 + i)
  frame_clock NoFrame fits i l = absurd (omega (arith, l))
  frame_clock (SentFrame byte) fits i l = sent_clock byte i l
  frame_clock (CutFrame byte look) fits i l = cut_clock byte look i fits l
  frame_clock ReceivedFrame fits i l = received_clock i l

  after_by : (n c i : ℕ)
      → 28 ≤ c → (n ≤ (c - 28) / 32) ⊎ ((n ≡ suc ((c - 28) / 32)) × (16 ≤ (c - 28) % 32)) → clock_in n (260 + c + i) ≡ true
  after_by n c i long (inl few) = past_cells n (260 + c + i) (omega (arith, long)) (omega (arith, few, long))
  after_by n c i long (inr last) = by (nat_le n ((260 + c + i - 288) / 32)) refl
    where
      by : (b : Bool) → nat_le n ((260 + c + i - 288) / 32) ≡ b → clock_in n (260 + c + i) ≡ true
      by true e =
          let m : n ≤ (260 + c + i - 288) / 32 = grind (arith, nat_tests, e) in
          past_cells n (260 + c + i) (omega (arith, long)) m
      by false e =
          let m : (260 + c + i - 288) / 32 < n = grind (arith, nat_tests, e) in
          let is : n ≡ suc ((c - 28) / 32) = last.0 in
          let late : 16 ≤ (c - 28) % 32 = last.1 in
          late_in_cell n (260 + c + i) (omega (arith, long)) (omega (arith, long, m, is, late))

  -- the clock of a tick's latch
  pub clock_is : (frame : Frame) → Fits frame → (o : ℕ) → bit 0 (tick_latch old v frame o) ≡ clock_in (cells frame) o
  clock_is frame fits o = by (nat_lt o 232) refl (nat_lt o 260) refl (nat_lt o (260 + frame_cycles frame)) refl
    where
      after_frame : (f : Frame) → Fits f → (i : ℕ) → 288 ≤ 260 + frame_cycles f + i → clock_in (cells f) (260 + frame_cycles f + i) ≡ true
      after_frame NoFrame h i l = past_cells 0 (260 + 0 + i) l (omega arith)
      after_frame (SentFrame byte) h i l = after_by 11 368 i (omega arith) (inr (refl, omega arith))
      after_frame (CutFrame byte look) h i l =
          let z : 260 + (look + 6) + i ≡ 260 + (look + 6 + i) = omega arith in
          ap (clock_in ((look + 4) / 32)) z ∙ up_after look (look + 6 + i) h (omega arith)
      after_frame ReceivedFrame h i l = after_by 11 366 i (omega arith) (inr (refl, omega arith))

      by : (a : Bool) → nat_lt o 232 ≡ a → (b : Bool) → nat_lt o 260 ≡ b → (c : Bool)
          → nat_lt o (260 + frame_cycles frame) ≡ c → bit 0 (tick_latch old v frame o) ≡ clock_in (cells frame) o
      by true e b f c g =
          let l : o < 232 = grind (arith, nat_tests, e) in
          ap (bit 0) (before_lights old v frame o l) ∙ was.clock ∙ sym (before_cells (cells frame) o (omega (arith, l)))
      by false e true f c g =
          let l : 232 ≤ o = grind (arith, nat_tests, e) in
          let m : o < 260 = grind (arith, nat_tests, f) in
          let z : 232 + (o - 232) ≡ o = omega (arith, l) in
          ap (λ k. bit 0 (tick_latch old v frame k)) (sym z)
          ∙ ap (bit 0) (before_data old v frame (o - 232) (omega (arith, l, m))) ∙ is.clock
          ∙ sym (before_cells (cells frame) o (omega (arith, m)))
      by false e false f true g =
          let l : 260 ≤ o = grind (arith, nat_tests, f) in
          let m : o < 260 + frame_cycles frame = grind (arith, nat_tests, g) in
          let z : 260 + (o - 260) ≡ o = omega (arith, l) in
          let few : o - 260 < frame_cycles frame = omega (arith, l, m) in
          ap (λ k. bit 0 (tick_latch old v frame k)) (sym z)
          ∙ ap (bit 0) (within old v frame (o - 260) few)
          ∙ frame_clock frame fits (o - 260) few ∙ ap (clock_in (cells frame)) z
      by false e false f false g =
          let l : 260 ≤ o = grind (arith, nat_tests, f) in
          let m : 260 + frame_cycles frame ≤ o = grind (arith, nat_tests, g) in
          let z : 260 + frame_cycles frame + (o - (260 + frame_cycles frame)) ≡ o = omega (arith, m) in
          ap (λ k. bit 0 (tick_latch old v frame k)) (sym z)
          ∙ ap (bit 0) (afterwards old v frame (o - (260 + frame_cycles frame))) ∙ is.clock
          ∙ sym (early (nat_lt o 288) refl z)
        where
          early : (d : Bool) → nat_lt o 288 ≡ d → 260 + frame_cycles frame + (o - (260 + frame_cycles frame)) ≡ o
              → clock_in (cells frame) o ≡ true
          early true h z = let k : o < 288 = grind (arith, nat_tests, h) in before_cells (cells frame) o k
          early false h z =
              let k : 288 ≤ o = grind (arith, nat_tests, h) in
              ap (clock_in (cells frame)) (sym z)
              ∙ after_frame frame fits (o - (260 + frame_cycles frame)) (omega (arith, k, z))
