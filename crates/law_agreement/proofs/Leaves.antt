-- What a frame leaves of data memory, from the looks on: the cells above the registers, and the way back.
use Rattle.std.proofs.Common.{◌≡◌, ◌≤◌, ◌<◌, ℕ, ◌-◌, ◌*◌, Bool, true, false, ◌==◌, bit_and}
use Rattle.std.proofs.Common.{refl, sym, ◌∙◌, arith, Some, None}
use Rattle.std.proofs.lemmas.Bool.Decides.{nat_tests}
use Rattle.mcs48_core.specs.Status.{digit}
use Rattle.law_fw_keys.proofs.Head.{offered_in}
use Rattle.law_fw_link.proofs.Ends.{in_quarters}
use Rattle.law_fw_link.proofs.Received.{got_cells}
use Rattle.law_fw_link.proofs.Sending.{sending, left_at}
use Rattle.law_fw_link.specs.Latch.{IsLook, wired, frame_bit}
use Rattle.fw_kernel.specs.declared.cells.TheConstants.{LIGHTS, R0, R1, R2, R3, R4, R5, R6, HELD}
use Rattle.law_fw_link.proofs.Cut.{left_at_cut}
use Rattle.law_fw_logic.proofs.Block.{put}
use Rattle.law_fw_logic.proofs.Cells.{put_other}
use Rattle.law_agreement.proofs.Looking.{looked_in}

-- the cells after a frame, by those after the looks
pub record Leaves (leaves : (ℕ → ℕ) → ℕ → ℕ) : Type 0 where
  pub kept : (g : ℕ → ℕ) (i : ℕ) → HELD ≤ i → leaves (looked_in g) i ≡ g i
  pub stack : (g : ℕ → ℕ) → (leaves (looked_in g) 8 ≡ g 8) × (leaves (looked_in g) 9 ≡ g 9)

-- a cell above the registers stays where a register is written
above : (f : ℕ → ℕ) (k v i : ℕ) → k < HELD → HELD ≤ i → put f k v i ≡ f i
above f k v i l u = put_other f k v i (grind (arith, nat_tests, l, u))

-- also where the looks write R1, R2, R6 and R0
above_looked : (g : ℕ → ℕ) (i : ℕ) → HELD ≤ i → looked_in g i ≡ g i
above_looked g i l =
    let low : ℕ = bit_and (255 - g LIGHTS) 253 in
    let g1 : ℕ → ℕ = put g R1 LIGHTS in
    let g2 : ℕ → ℕ = put g1 R2 low in
    let g3 : ℕ → ℕ = put g2 R6 (g R4) in
    above g3 R0 0 i (omega arith) l ∙ above g2 R6 (g R4) i (omega arith) l ∙ above g1 R2 low i (omega arith) l
    ∙ above g R1 LIGHTS i (omega arith) l

-- a sent frame writes R0 to R3 and R6
sent_kept : (h : ℕ → ℕ) (v byte k n r0 i : ℕ) → HELD ≤ i → sending h v byte k n r0 i ≡ h i
sent_kept h v byte k n r0 i l =
    let r1 = wired v true (frame_bit byte k) in
    let h1 : ℕ → ℕ = put h R1 r1 in
    let h2 : ℕ → ℕ = put h1 R2 (bit_and v 253) in
    let h3 : ℕ → ℕ = put h2 R3 n in
    let h4 : ℕ → ℕ = put h3 R6 (left_at byte k) in
    above h4 R0 r0 i (omega arith) l ∙ above h3 R6 (left_at byte k) i (omega arith) l ∙ above h2 R3 n i (omega arith) l
    ∙ above h1 R2 (bit_and v 253) i (omega arith) l ∙ above h R1 r1 i (omega arith) l

-- a sent frame leaves the cells above the registers, and the way back on the stack
pub sent_leaves : (v byte k n r0 : ℕ) → Leaves (λ h. sending h v byte k n r0)
sent_leaves v byte k n r0 = record {
  kept = λ g i l. sent_kept (looked_in g) v byte k n r0 i l ∙ above_looked g i l;
  stack = λ g. (refl, refl);
}

-- also where it is cut
pub cut_leaves : (v byte look : ℕ) (is : IsLook look)
    → Leaves (λ h. sending h v byte (left_at_cut h byte look is).0 (left_at_cut h byte look is).1 (left_at_cut h byte look is).2)
cut_leaves v byte look is = record {
  kept = λ g i l.
      let left = left_at_cut (looked_in g) byte look is in
      sent_kept (looked_in g) v byte left.0 left.1 left.2 i l ∙ above_looked g i l;
  stack = λ g. (refl, refl);
}

-- a received one R0, R1 and R3 to R5
got_kept : (h : ℕ → ℕ) (byte : ℕ) (right : Bool) (i : ℕ) → HELD ≤ i → got_cells h byte right i ≡ h i
got_kept h byte right i l =
    let h1 : ℕ → ℕ = put h R0 0 in
    let h2 : ℕ → ℕ = put h1 R3 0 in
    let h3 : ℕ → ℕ = put h2 R4 byte in
    let h4 : ℕ → ℕ = put h3 R1 (in_quarters byte) in
    above h4 R5 (255 * digit right) i (omega arith) l ∙ above h3 R1 (in_quarters byte) i (omega arith) l
    ∙ above h2 R4 byte i (omega arith) l ∙ above h1 R3 0 i (omega arith) l ∙ above h R0 0 i (omega arith) l

-- a received frame leaves the cells above the registers, and the way back on the stack
pub got_leaves : (byte : ℕ) (right : Bool) → Leaves (λ h. got_cells h byte right)
got_leaves byte right = record {
  kept = λ g i l. got_kept (looked_in g) byte right i l ∙ above_looked g i l;
  stack = λ g. (refl, refl);
}

-- a byte that is offered is in R4, and R5 isn't 0
pub is_offered : (r4 r5 byte : ℕ) → offered_in r4 r5 ≡ Some byte → (r4 ≡ byte) × ((r5 == 0) ≡ false)
is_offered r4 r5 byte h = by (r5 == 0) refl
  where
    by : (c : Bool) → (r5 == 0) ≡ c → (r4 ≡ byte) × ((r5 == 0) ≡ false)
    by true e =
        let none : offered_in r4 r5 ≡ None = rw e refl in
        absurd (let q : Some byte ≡ None = sym h ∙ none in cc)
    by false e =
        let some : offered_in r4 r5 ≡ Some r4 = rw e refl in
        (let q : Some r4 ≡ Some byte = sym some ∙ h in cc, e)
