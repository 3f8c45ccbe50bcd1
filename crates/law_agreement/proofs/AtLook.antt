-- The looks of a frame: what the latch of port 2 is there, and what levels that agree say.
use Rattle.std.proofs.Common.{◌≡◌, ◌≤◌, ◌<◌, ℕ, ◌+◌, ◌*◌, Bool, refl, ap, ◌∙◌, arith}
use Rattle.law_fw_link.proofs.Taking.{cell_rise as received_high}
use Rattle.law_fw_link.proofs.TickLatch.{within}
use Rattle.law_fw_link.proofs.Wired.{IsReleased, both_high}
use Rattle.law_fw_link.proofs.Wires.{look_within}
use Rattle.law_fw_link.specs.Latch.{SentFrame, ReceivedFrame, IsLook, sent_latch, received_latch, tick_latch}
use Rattle.law_fw_link.specs.Reading.{byte_in, right_in}

-- levels that agree give one byte, and one answer on its parity
pub one_byte : (a b : ℕ → Bool) → ((k : ℕ) → k < 9 → a k ≡ b k) → (byte_in a ≡ byte_in b) × (right_in a ≡ right_in b)
one_byte a b h =
    let e0 : a 0 ≡ b 0 = h 0 (omega arith) in
    let e1 : a 1 ≡ b 1 = h 1 (omega arith) in
    let e2 : a 2 ≡ b 2 = h 2 (omega arith) in
    let e3 : a 3 ≡ b 3 = h 3 (omega arith) in
    let e4 : a 4 ≡ b 4 = h 4 (omega arith) in
    let e5 : a 5 ≡ b 5 = h 5 (omega arith) in
    let e6 : a 6 ≡ b 6 = h 6 (omega arith) in
    let e7 : a 7 ≡ b 7 = h 7 (omega arith) in
    let e8 : a 8 ≡ b 8 = h 8 (omega arith) in
    (rw (e0, e1, e2, e3, e4, e5, e6, e7) refl, rw (e0, e1, e2, e3, e4, e5, e6, e7, e8) refl)

-- at a look the latch is that of the frame
pub sent_at : (old v byte look : ℕ) → IsLook look → tick_latch old v (SentFrame byte) (260 + look) ≡ sent_latch v byte look
sent_at old v byte look is =
    within old v (SentFrame byte) look (let far : look ≤ 334 = look_within look is in omega (arith, far))

-- in a received one both wires are let go
pub received_at : (old v : ℕ) → IsReleased v → (k : ℕ) → k < 10 → tick_latch old v ReceivedFrame (306 + 32 * k) ≡ v
received_at old v released k few =
    let i : ℕ = 28 + 32 * k + 18 in
    let o : 306 + 32 * k ≡ 260 + i = omega arith in
    let p : i ≡ 28 + 32 * k + 16 + 2 = omega arith in
    ap (λ o. tick_latch old v ReceivedFrame o) o ∙ within old v ReceivedFrame i (omega (arith, few))
    ∙ ap (λ o. received_latch v o) p ∙ received_high v k 2 few (omega arith) ∙ both_high v released
