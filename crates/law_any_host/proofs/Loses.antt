-- If the look misses it, a host that counts eleven falls loses the byte.
use Rattle.std.proofs.Common.{◌≡◌, ◌≤◌, ◌<◌, ℕ, zero, suc, ◌+◌, ◌-◌, ◌*◌, ◌/◌, ◌%◌, Bool, true, false, nat_lt}
use Rattle.std.proofs.Common.{List, [], length, refl, ap, sym, ◌∙◌, subst, arith, inl}
use Rattle.std.proofs.lemmas.Bool.Decides.{nat_tests}
use Rattle.board_terms.specs.declared.lines.Lines.{Lines}
use Rattle.law_fw_link.specs.Latch.{frame_bit}
use Rattle.model_keyboard.specs.declared.meeting.Meeting.TheVariants.{Sent}
use Rattle.law_any_host.proofs.Ears.{AtMost, Kept, NoFall, drops, held, never, no_fall}
use Rattle.law_any_host.proofs.FrameLines.{sent_up}
use Rattle.law_any_host.proofs.SentTick as tick
use Rattle.law_any_host.proofs.Still.{to_next}
use Rattle.law_any_host.proofs.TenthSent as tenth
use Rattle.law_any_host.specs.Ears.{Ear, Eleventh, Gives, Mode, Takes, ear_to, fell, no_byte}
use Rattle.law_any_host.specs.Hearing.{HearsEach}
use Rattle.law_any_host.specs.Rules.{EndsBy}
use Rattle.law_any_host.proofs.LastLook.{one_isnt_none, goes, goes_early, pulls, pulled_from, pulled_to, in_first, starts, frames, meetings, wires, rules, sent, S, looks, s_drives, rests, room, small}

-- the host that counts eleven falls gets none, since it pulls the clock at the eleventh
lost : Kept 0 no_byte (ear_to S 3000)
lost =
    let ten = tenth.ten_there S (wires sent true) (rules sent true) 0 3000 room 0 small s_drives looks refl refl
    no_byte rests in
    let z : suc (0 + 608) ≡ 0 + 609 = omega arith in
    let dropped : Kept 0 no_byte (ear_to S (0 + 609)) =
    subst (λ c. Kept 0 no_byte (ear_to S c)) z
    (drops S (wires sent true) 10 (0 + 608) no_byte (pulls (0 + 608) (omega arith) (omega arith)) ten) in
    to_next S (wires sent true) 0 3000 sent (omega arith) s_drives 0 609 no_byte (omega arith)
    (tick.no_more S (wires sent true) (rules sent true) 0 3000 room 0 small s_drives looks refl refl no_byte rests)
    dropped

-- a host whose pull of the clock the last look misses, and that counts eleven falls, doesn't get the byte sent
pub loses : HearsEach Eleventh S starts (frames sent) (meetings Sent) → true ≡ false
loses h =
    one_isnt_none (length (ear_to S (starts 1)).taken) (ap length (h.taken 1)) (ap length lost.taken)

abbrev Cell : ℕ → Type 0
Cell = tick.At S (wires sent true) (rules sent true) 0 3000 room 0 small s_drives looks refl refl no_byte rests

cell : (k : ℕ) → k ≤ 9 → Cell k
cell = tick.at_cell S (wires sent true) (rules sent true) 0 3000 room 0 small s_drives looks refl refl no_byte rests

-- where the clock falls before the tenth fall, it has eight bits at most
few_bits : (c : ℕ) → c < 576 → fell S c ≡ true → AtMost 8 (ear_to S c).mode
few_bits c l falls = by (nat_lt c 288) refl
  where
    none : NoFall S (wires sent true) c → AtMost 8 (ear_to S c).mode
    none h = never (sym falls ∙ no_fall S (wires sent true) c h (goes_early c (omega (arith, l))))

    in_cell : (k i : ℕ) → k ≤ 8 → i < 32 → 288 + 32 * k + i ≡ c → AtMost 8 (ear_to S c).mode
    in_cell k zero few m is =
        let z : 0 + (288 + 32 * k) ≡ c = omega (arith, is) in
        let n : length (tick.bits_to (frame_bit 0) k) ≡ k = tick.length_bits (frame_bit 0) k in
        let short : length (tick.bits_to (frame_bit 0) k) ≤ 8 = omega (arith, n, few) in
        subst (λ i. AtMost 8 (ear_to S i).mode) z (subst (λ m. AtMost 8 m) (sym (cell k (omega (arith, few))).mode) short)
    in_cell k (suc i) few m is =
        let z : 0 + (289 + 32 * k + i) ≡ c = omega (arith, is) in
        none (subst (λ i. NoFall S (wires sent true) i) z
        (tick.no_fall_in S (wires sent true) (rules sent true) 0 3000 room 0 small s_drives looks refl refl
        no_byte rests k (omega (arith, few)) (cell k (omega (arith, few))) i (omega (arith, m))))

    by : (b : Bool) → nat_lt c 288 ≡ b → AtMost 8 (ear_to S c).mode
    by true s =
        let m : c < 288 = grind (arith, nat_tests, s) in
        none (inl (ap (λ (l : Lines). l.clk) (in_first sent c (omega (arith, m))) ∙ sent_up 0 c m))
    by false s =
        let m : 288 ≤ c = grind (arith, nat_tests, s) in
        in_cell ((c - 288) / 32) ((c - 288) % 32) (omega (arith, l)) (omega arith) (omega (arith, m))

abbrev bits_of : Mode → List Bool
bits_of (Takes bits) = bits
bits_of (Gives byte falls) = []

-- this host begins no pull from 19 cycles after the tenth fall up to the eleventh
pub ends_eleven : EndsBy 19 Eleventh S
ends_eleven c i nine ten is all falls far later every = by (goes (c + i)) refl (nat_lt 594 (c + i)) refl
  where
    by : (b : Bool) → goes (c + i) ≡ b → (a : Bool) → nat_lt 594 (c + i) ≡ a → goes (c + i) ≡ true
    by true go a s = go
    by false low true s =
        let m : 594 < c + i = grind (arith, nat_tests, s) in
        let n : c + i < 618 = pulled_to (c + i) low in
        let b : ℕ = c + i - 1 in
        let p : c + i ≡ suc b = omega (arith, m) in
        let one = held S (wires sent true) b (pulls b (omega (arith, m)) (omega (arith, n))) in
        let none : (ear_to S (c + i)).mode ≡ Takes [] =
        ap (λ c. (ear_to S c).mode) p ∙ ap (λ (e : Ear). e.mode) one in
        let l : length ten ≡ 0 = ap (λ m. length (bits_of m)) (sym later ∙ none) in
        absurd (omega (arith, l, every))
    by false low false s =
        let m : 594 ≤ c + i = pulled_from (c + i) low in
        let n : c + i ≤ 594 = grind (arith, nat_tests, s) in
        let few : length nine ≤ 8 = subst (λ m. AtMost 8 m) is (few_bits c (omega (arith, n, far)) falls) in
        absurd (omega (arith, few, all))
