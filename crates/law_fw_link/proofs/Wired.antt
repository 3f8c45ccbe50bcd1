-- Facts of the latch of port 2, and of boards that are driven by a latch that is a function of the offset.
use Rattle.std.proofs.Common.{◌≡◌, ◌<◌, ℕ, suc, zero, ◌+◌, ◌-◌, ◌*◌, ◌/◌, ◌%◌, Bool, true, false, ◌==◌, ◌&&◌}
use Rattle.std.proofs.Common.{nat_le, nat_lt}
use Rattle.std.proofs.Common.{if◌then◌else◌, bit_and, bit_or, refl, ap, sym, ◌∙◌, arith}
use Rattle.std.proofs.lemmas.Bool.Decides.{nat_tests}
use Rattle.bits.specs.Bits.{bit}
use Rattle.mcs48_core.specs.Status.{digit}
use Rattle.law_fw_logic.proofs.Blocks.{ticks_add, absolute}
use Rattle.bits.proofs.Every.{every_below, by_byte, tests_by}
use Rattle.law_fw_link.specs.Latch.{wired, frame_bit, sent_cell, sent_latch}
use Rattle.law_fw_link.proofs.Latches.{driven}
use Rattle.joint_run.specs.Run.{Board, after_cycles}

-- a latch that pulls neither wire
pub record IsReleased (v : ℕ) : Type 0 where
  pub byte : v < 256
  pub clock : bit 0 v ≡ true
  pub data_wire : bit 1 v ≡ true

-- the lights are above the wires' bits
pub lights_leave : (l : ℕ) → l < 256 → l % 4 ≡ 0 → IsReleased (255 - l)
lights_leave l small none =
    let is : (l % 4 == 0) ≡ true = grind (arith, nat_tests, none) in
    record {
      byte = omega arith;
      clock =
          ap (λ c. if c then bit 0 (255 - l) else true) (sym is)
          ∙ tests_by 256 (λ l. if l % 4 == 0 then bit 0 (255 - l) else true) (λ l. true) refl l small;
      data_wire =
          ap (λ c. if c then bit 1 (255 - l) else true) (sym is)
          ∙ tests_by 256 (λ l. if l % 4 == 0 then bit 1 (255 - l) else true) (λ l. true) refl l small;
    }

-- values that are the same at each byte with both wires' bits are so at each latch that pulls neither wire
by_released : (F G : ℕ → ℕ)
    → every_below (λ v. (if bit 0 v && bit 1 v then F v else 0) == (if bit 0 v && bit 1 v then G v else 0)) 256 ≡ true
    → (v : ℕ) → IsReleased v → F v ≡ G v
by_released F G each v h =
    let both : (bit 0 v && bit 1 v) ≡ true = rw (h.clock, h.data_wire) refl in
    ap (λ c. if c then F v else 0) (sym both)
    ∙ by_byte (λ v. if bit 0 v && bit 1 v then F v else 0) (λ v. if bit 0 v && bit 1 v then G v else 0) each v h.byte
    ∙ ap (λ c. if c then G v else 0) both

-- a latch that pulls neither wire stays as it is if both are let go
pub both_high : (v : ℕ) → IsReleased v → wired v true true ≡ v
both_high = by_released (λ v. wired v true true) (λ v. v) refl

-- an and with FE (hexadecimal) pulls the clock, and leaves data
pub falls : (b : Bool) (v : ℕ) → v < 256 → bit_and (wired v true b) 254 ≡ wired v false b
falls true = by_byte (λ v. bit_and (bit_and v 255) 254) (λ v. bit_and v 254) refl
falls false = by_byte (λ v. bit_and (bit_and v 253) 254) (λ v. bit_and v 252) refl

-- an or with 01 lets the clock go, and leaves data
pub rises : (b : Bool) (v : ℕ) → IsReleased v → bit_or (wired v false b) 1 ≡ wired v true b
rises true = by_released (λ v. bit_or (wired v false true) 1) (λ v. wired v true true) refl
rises false = by_released (λ v. bit_or (wired v false false) 1) (λ v. wired v true false) refl

-- an and with FD (hexadecimal) and an or with the bit put the bit on data
pub puts : (b : Bool) (v : ℕ) → IsReleased v → bit_or (2 * digit b) (bit_and v 253) ≡ wired v true b
puts true = by_released (λ v. bit_or 2 (bit_and v 253)) (λ v. wired v true true) refl
puts false = by_released (λ v. bit_or 0 (bit_and v 253)) (λ v. wired v true false) refl

-- an or with 03 lets both wires go
pub releases : (b : Bool) (v : ℕ) → IsReleased v → bit_or (wired v true b) 3 ≡ v
releases true = by_released (λ v. bit_or (wired v true true) 3) (λ v. v) refl
releases false = by_released (λ v. bit_or (wired v true false) 3) (λ v. v) refl

-- to pull both wires and then let both go gives the latch as it was
pub restores : (v : ℕ) → IsReleased v → bit_or (bit_and v 252) 3 ≡ v
restores = by_released (λ v. bit_or (bit_and v 252) 3) (λ v. v) refl

-- cycles by two functions that agree
pub ticks_alike : {S : Type 0} (n a b : ℕ) (F G : ℕ → S → S) (s : S)
    → ((i : ℕ) (t : S) → i < n → F (a + i) t ≡ G (b + i) t) → after_cycles n a F s ≡ after_cycles n b G s
ticks_alike zero a b F G s h = refl
ticks_alike (suc n) a b F G s h =
    let first : F a s ≡ G b s =
    (let l : 0 < suc n = omega arith in
    let p : a ≡ a + 0 = omega arith in
    let q : b + 0 ≡ b = omega arith in
    ap (λ k. F k s) p ∙ h 0 s l ∙ ap (λ k. G k s) q) in
    ap (λ t. after_cycles n (a + 1) F t) first
    ∙ ticks_alike n (a + 1) (b + 1) F G (G b s)
    (λ i t l.
    let k : suc i < suc n = omega (arith, l) in
    let p : a + 1 + i ≡ a + suc i = omega arith in
    let q : b + suc i ≡ b + 1 + i = omega arith in
    ap (λ c. F c t) p ∙ h (suc i) t k ∙ ap (λ c. G c t) q)

module _ (d : Board) (x : ℕ) (latch : ℕ → ℕ) where
  -- cycles with one latch go on with a run over the latch
  pub spans : (n a y b w : ℕ) (s t : d.State) → y + b ≡ x + a
      → ((i : ℕ) → i < n → latch (a + i) ≡ w) → s ≡ driven d x latch a 0 t
      → after_cycles n b (λ o. d.cycle w (y + o)) s ≡ driven d x latch (a + n) 0 t
  spans n a y b w s t e h is =
      ap (λ k. after_cycles n b (λ o. d.cycle w (y + o)) k) is
      ∙ ticks_alike n b a (λ o. d.cycle w (y + o)) (λ o. d.cycle (latch o) (x + o)) (driven d x latch a 0 t)
      (λ i u l.
      let p : y + (b + i) ≡ x + (a + i) = omega (arith, e) in
      ap (λ k. d.cycle k (y + (b + i)) u) (sym (h i l)) ∙ ap (λ c. d.cycle (latch (a + i)) c u) p)
      ∙ (let z : 0 + a ≡ a = omega arith in ap (λ c. after_cycles n c (λ o. d.cycle (latch o) (x + o)) (driven d x latch a 0 t))
      (sym z))
      ∙ sym (ticks_add a n 0 (λ o. d.cycle (latch o) (x + o)) t)

  -- the same where the cycles are counted from the first
  pub spans_on : (n a y w : ℕ) (s t : d.State) → y ≡ x + a → ((i : ℕ) → i < n → latch (a + i) ≡ w)
      → s ≡ driven d x latch a 0 t
      → after_cycles n y (d.cycle w) s ≡ driven d x latch (a + n) 0 t
  spans_on n a y w s t e h is =
      sym (absolute n y (d.cycle w) s) ∙ spans n a y 0 w s t (omega (arith, e)) h is

  -- and where the latch is another function of another offset
  pub spans_as : (n a y : ℕ) (other : ℕ → ℕ) (s t : d.State) → y ≡ x + a
      → ((i : ℕ) → i < n → other i ≡ latch (a + i)) → s ≡ driven d x latch a 0 t
      → driven d y other n 0 s ≡ driven d x latch (a + n) 0 t
  spans_as n a y other s t e h is =
      ap (λ k. driven d y other n 0 k) is
      ∙ ticks_alike n 0 a (λ o. d.cycle (other o) (y + o)) (λ o. d.cycle (latch o) (x + o)) (driven d x latch a 0 t)
      (λ i u l.
      let z : 0 + i ≡ i = omega arith in
      let p : y + (0 + i) ≡ x + (a + i) = omega (arith, e) in
      ap (λ k. d.cycle k (y + (0 + i)) u) (ap other z ∙ h i l) ∙ ap (λ c. d.cycle (latch (a + i)) c u) p)
      ∙ (let z : 0 + a ≡ a = omega arith in ap (λ c. after_cycles n c (λ o. d.cycle (latch o) (x + o)) (driven d x latch a 0 t))
      (sym z))
      ∙ sym (ticks_add a n 0 (λ o. d.cycle (latch o) (x + o)) t)

-- the latch in cell k
pub in_cell : (v byte k i : ℕ) → i < 32 → sent_latch v byte (28 + 32 * k + i) ≡ sent_cell v byte k i
in_cell v byte k i l =
    let a : nat_lt (28 + 32 * k + i) 10 ≡ false = grind (arith, nat_tests) in
    let b : nat_lt (28 + 32 * k + i) 28 ≡ false = grind (arith, nat_tests) in
    let q : (28 + 32 * k + i - 28) / 32 ≡ k = omega (arith, l) in
    let r : (28 + 32 * k + i - 28) % 32 ≡ i = omega (arith, l) in
    rw (a, b, q, r) refl

-- in the first 16 cycles of a cell of a sent frame the clock is pulled, with the cell's bit on data
pub cell_low : (v byte k i : ℕ) → i < 16 → sent_latch v byte (28 + 32 * k + i) ≡ wired v false (frame_bit byte k)
cell_low v byte k i l =
    let m : i < 32 = omega (arith, l) in
    let a : nat_le 16 i ≡ false = grind (arith, nat_tests, l) in
    let b : nat_lt i 21 ≡ true = grind (arith, nat_tests, l) in
    in_cell v byte k i m ∙ rw (a, b) refl

-- in the next 5 cycles the clock is let go, with the cell's bit still on data
pub cell_high : (v byte k i : ℕ) → i < 5 → sent_latch v byte (28 + 32 * k + 16 + i) ≡ wired v true (frame_bit byte k)
cell_high v byte k i l =
    let m : 16 + i < 32 = omega (arith, l) in
    let a : nat_le 16 (16 + i) ≡ true = grind (arith, nat_tests) in
    let b : nat_lt (16 + i) 21 ≡ true = grind (arith, nat_tests, l) in
    let p : 28 + 32 * k + 16 + i ≡ 28 + 32 * k + (16 + i) = omega arith in
    ap (λ o. sent_latch v byte o) p ∙ in_cell v byte k (16 + i) m ∙ rw (a, b) refl

-- in the last 11 cycles the clock is let go, with the next cell's bit on data
pub cell_next : (v byte k i : ℕ) → i < 11
    → sent_latch v byte (28 + 32 * k + 21 + i) ≡ wired v true (frame_bit byte (suc k))
cell_next v byte k i l =
    let m : 21 + i < 32 = omega (arith, l) in
    let a : nat_le 16 (21 + i) ≡ true = grind (arith, nat_tests) in
    let b : nat_lt (21 + i) 21 ≡ false = grind (arith, nat_tests) in
    let p : 28 + 32 * k + 21 + i ≡ 28 + 32 * k + (21 + i) = omega arith in
    ap (λ o. sent_latch v byte o) p ∙ in_cell v byte k (21 + i) m ∙ rw (a, b) refl
