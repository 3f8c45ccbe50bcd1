-- A host that keeps the rules, around a frame that is sent whole: it pulls no wire.
use Rattle.std.proofs.Common.{◌≡◌, ◌≤◌, ◌<◌, ℕ, zero, suc, ◌+◌, ◌-◌, ◌*◌, ◌/◌, ◌%◌, Bool, true, false, nat_le}
use Rattle.std.proofs.Common.{List, [], ◌∷◌, ◌++◌, ◌==◌, length, refl, ap, sym, ◌∙◌, subst, arith, inl, inr}
use Rattle.std.proofs.lemmas.Bool.Decides.{nat_tests}
use Rattle.law_fw_link.specs.Latch.{IsLook}
use Rattle.law_any_host.proofs.Ears.{AtMost, Kept, held, never, no_fall, went}
use Rattle.law_any_host.proofs.Offsets.{not_both}
use Rattle.law_any_host.specs.Ears.{Ear, Gives, Mode, Takes, ear_to, fell, with_bit}
use Rattle.law_any_host.specs.Rules.{IsRuleful}
use Rattle.law_any_host.specs.Wires.{AreWires, Wiring}

-- whether bits are taken
abbrev pub IsTaking : Mode → Type 0
IsTaking m = (bits : List Bool) × (m ≡ Takes bits)

no_bits : (bits : List Bool) → length bits ≤ 0 → bits ≡ []
no_bits [] l = refl
no_bits (b ∷ bits) l = absurd (let e : length (b ∷ bits) ≡ suc (length bits) = refl in omega (arith, e, l))

taking : (m : Mode) → ((byte falls : ℕ) → m ≡ Gives byte falls → IsTaking m) → IsTaking m
taking (Takes bits) h = (bits, refl)
taking (Gives byte falls) h = h byte falls refl

-- a fall or none, where data is let go
pub bit_taken : (bits : List Bool) (bit : Bool) (e : Ear) (b : Bool) → (length bits == 10) ≡ b
    → IsTaking (with_bit bits bit e).mode
bit_taken bits bit e true is = rw is ([], refl)
bit_taken bits bit e false is = rw is (bits ++ bit ∷ [], refl)

module _ (w : Wiring) (wires : AreWires w) (rules : IsRuleful w) (x : ℕ)
    (looks : (look : ℕ) → IsLook look → (w.pins (x + (260 + look))).clk ≡ true)
    (at_clock : (w.pins (x + 256)).clk ≡ true) (at_data : (w.pins (x + 258)).dat ≡ true) where
  abbrev e : ℕ → Ear
  e = ear_to w

  -- a pull over a look
  over_look : (a look p : ℕ) → IsLook look → p ≡ x + (259 + look) → a ≤ p → p < a + 23
      → ((i : ℕ) → a ≤ i → i < a + 24 → (w.host i).clk ≡ false) → true ≡ false
  over_look a look p is at l m pulls =
      let q : suc p ≡ x + (260 + look) = omega (arith, at) in
      sym (looks look is) ∙ ap (λ i. (w.pins i).clk) (sym q) ∙ wires.clock.pulled p (pulls p l (omega (arith, m))) (pulls (suc p) (omega (arith, l)) (omega (arith, m)))

  over_first : (a p : ℕ) → p ≡ x + 255 → a ≤ p → p < a + 23
      → ((i : ℕ) → a ≤ i → i < a + 24 → (w.host i).clk ≡ false) → true ≡ false
  over_first a p at l m pulls =
      let q : suc p ≡ x + 256 = omega (arith, at) in
      sym at_clock ∙ ap (λ i. (w.pins i).clk) (sym q) ∙ wires.clock.pulled p (pulls p l (omega (arith, m))) (pulls (suc p) (omega (arith, l)) (omega (arith, m)))

  -- each pull of 24 cycles there is found by a look
  any_pull : (a c : ℕ) → a ≤ c → c < a + 24 → x + 256 ≤ c → c ≤ x + 593
      → ((i : ℕ) → a ≤ i → i < a + 24 → (w.host i).clk ≡ false) → true ≡ false
  any_pull a c l m from to pulls = by0 (nat_le a (x + 255)) refl
    where
      by4 : x + 305 < a → (b : Bool) → nat_le ((a - x - 306) % 32) 9 ≡ b → true ≡ false
      by4 far true s =
          let k : ℕ = (a - x - 306) / 32 in
          let r : (a - x - 306) % 32 ≤ 9 = grind (arith, nat_tests, s) in
          over_look a (56 + 32 * k) (x + (259 + (56 + 32 * k))) (inr (inr (k, omega (arith, far, l, to), inr (refl, omega (arith, far, l, to))))) refl
          (omega (arith, far, r)) (omega (arith, far)) pulls
      by4 far false s =
          let k : ℕ = (a - x - 306) / 32 in
          let r : 9 < (a - x - 306) % 32 = grind (arith, nat_tests, s) in
          over_look a (46 + 32 * suc k) (x + (259 + (46 + 32 * suc k)))
          (inr (inr (suc k, omega (arith, far, l, to, r), inl refl))) refl (omega (arith, far)) (omega (arith, far, r)) pulls

      by3 : x + 285 < a → (b : Bool) → nat_le a (x + 305) ≡ b → true ≡ false
      by3 far true s =
          let n : a ≤ x + 305 = grind (arith, nat_tests, s) in
          over_look a 46 (x + 305) (inr (inr (0, omega arith, inl refl))) (omega arith) n (omega (arith, far)) pulls
      by3 far false s =
          let n : x + 305 < a = grind (arith, nat_tests, s) in by4 n (nat_le ((a - x - 306) % 32) 9) refl

      by2 : x + 267 < a → (b : Bool) → nat_le a (x + 285) ≡ b → true ≡ false
      by2 far true s =
          let n : a ≤ x + 285 = grind (arith, nat_tests, s) in
          over_look a 26 (x + 285) (inr (inl refl)) (omega arith) n (omega (arith, far)) pulls
      by2 far false s =
          let n : x + 285 < a = grind (arith, nat_tests, s) in by3 n (nat_le a (x + 305)) refl

      by1 : x + 255 < a → (b : Bool) → nat_le a (x + 267) ≡ b → true ≡ false
      by1 far true s =
          let n : a ≤ x + 267 = grind (arith, nat_tests, s) in
          over_look a 8 (x + 267) (inl refl) (omega arith) n (omega (arith, far)) pulls
      by1 far false s =
          let n : x + 267 < a = grind (arith, nat_tests, s) in by2 n (nat_le a (x + 285)) refl

      by0 : (b : Bool) → nat_le a (x + 255) ≡ b → true ≡ false
      by0 true s =
          let n : a ≤ x + 255 = grind (arith, nat_tests, s) in
          over_first a (x + 255) refl n (omega (arith, m, from)) pulls
      by0 false s =
          let n : x + 255 < a = grind (arith, nat_tests, s) in by1 n (nat_le a (x + 267)) refl

  -- so the host pulls the clock in none of these cycles
  pub leaves : (o : ℕ) → 256 ≤ o → o ≤ 593 → (w.host (x + o)).clk ≡ true
  leaves o l m = by (w.host (x + o)).clk refl
    where
      by : (b : Bool) → (w.host (x + o)).clk ≡ b → (w.host (x + o)).clk ≡ true
      by true go = go
      by false pulls =
          let p = rules.long (x + o) pulls in
          never (any_pull p.0 (x + o) p.1 p.2 (omega (arith, l)) (omega (arith, m)) p.3)

  module _ (first : Ear) (there : Kept 0 first (e (x + 257))) (let_go : (w.keyboard (x + 257)).clk ≡ true) where
    -- a byte of its own that is under way would be seen at the look at data
    pub taking_there : (e (x + 257)).mode ≡ Takes []
    taking_there = by (e (x + 257)).mode refl there.most
      where
        given : (byte : ℕ) → (e (x + 257)).mode ≡ Gives byte 0 → (e (x + 258)).mode ≡ Gives byte 0
        given byte is =
            let go : (w.host (x + 257)).clk ≡ true = rules.sends (x + 257) byte 0 is in
            let z : x + 258 ≡ suc (x + 257) = omega arith in
            ap (λ c. (e c).mode) z
            ∙ ap (λ (v : Ear). v.mode)
            (went w wires (x + 257) (Gives byte 0) (w.host (x + 257)).dat false go is refl (no_fall w wires (x + 257) (inl let_go) go))
            ∙ is

        by : (m : Mode) → (e (x + 257)).mode ≡ m → AtMost 0 m → (e (x + 257)).mode ≡ Takes []
        by (Takes bits) is l = is ∙ ap (λ v. Takes v) (no_bits bits l)
        by (Gives byte falls) is l =
            let none : falls ≡ 0 = omega (arith, l) in
            let here : (e (x + 257)).mode ≡ Gives byte 0 = is ∙ ap (λ n. Gives byte n) none in
            not_both (λ c. (w.keyboard c).dat) (λ c. (w.host c).dat) (λ c. (w.pins c).dat) (λ c. (w.seen c).dat)
            wires.data_wire x 257 at_data (rules.holds (x + 257) byte here) (rules.holds (x + 258) byte (given byte here))

    -- while bits are taken it lets data go: before it pulls data it would have pulled the clock
    data_by : (o p : ℕ) → p < o → o ≤ p + 21 → (w.host (x + p)).clk ≡ true → IsTaking (e (x + o)).mode
        → (w.host (x + o)).dat ≡ true
    data_by o p l m go t = by (w.host (x + o)).dat refl
      where
        by : (b : Bool) → (w.host (x + o)).dat ≡ b → (w.host (x + o)).dat ≡ true
        by true high = high
        by false low = never (sym go ∙ rules.asks (x + o) t.0 t.1 low (x + p) (omega (arith, l)) (omega (arith, m)))

    data_high : (o : ℕ) → 257 ≤ o → o ≤ 614 → IsTaking (e (x + o)).mode → (w.host (x + o)).dat ≡ true
    data_high o l m t = by (nat_le o 594) refl
      where
        by : (c : Bool) → nat_le o 594 ≡ c → (w.host (x + o)).dat ≡ true
        by true s =
            let near : o ≤ 594 = grind (arith, nat_tests, s) in
            data_by o (o - 1) (omega (arith, l)) (omega (arith, l)) (leaves (o - 1) (omega (arith, l)) (omega (arith, near))) t
        by false s =
            let far : 594 < o = grind (arith, nat_tests, s) in
            data_by o (o - 21) (omega (arith, far)) (omega (arith, far)) (leaves (o - 21) (omega (arith, far)) (omega (arith, m))) t

    next_taking : (o : ℕ) → (w.host (x + o)).dat ≡ true → IsTaking (e (x + o)).mode → IsTaking (e (suc (x + o))).mode
    next_taking o high t = by (w.host (x + o)).clk refl (fell w (x + o)) refl
      where
        by : (b : Bool) → (w.host (x + o)).clk ≡ b → (f : Bool) → fell w (x + o) ≡ f → IsTaking (e (suc (x + o))).mode
        by false pulls f fs = ([], ap (λ (v : Ear). v.mode) (held w wires (x + o) pulls))
        by true go true fs =
            subst (λ (v : Ear). IsTaking v.mode) (sym (went w wires (x + o) (Takes t.0) true true go t.1 high fs))
            (bit_taken t.0 (w.reads (x + o)) (e (x + o)) (length t.0 == 10) refl)
        by true go false fs =
            subst (λ (v : Ear). IsTaking v.mode) (sym (went w wires (x + o) (Takes t.0) true false go t.1 high fs)) t

    always_taking : (j : ℕ) → j ≤ 358 → IsTaking (e (x + (257 + j))).mode
    always_taking zero l =
        let z : 257 ≡ 257 + 0 = omega arith in subst (λ o. IsTaking (e (x + o)).mode) z ([], taking_there)
    always_taking (suc j) l =
        let z : suc (x + (257 + j)) ≡ x + (257 + suc j) = omega arith in
        let t = always_taking j (omega (arith, l)) in
        subst (λ c. IsTaking (e c).mode) z
        (next_taking (257 + j) (data_high (257 + j) (omega arith) (omega (arith, l)) t) t)

    -- from the look at data up to the last look of a sent frame the host lets data go
    pub lets_data : (o : ℕ) → 257 ≤ o → o ≤ 614 → (w.host (x + o)).dat ≡ true
    lets_data o l m =
        let p : 257 + (o - 257) ≡ o = omega (arith, l) in
        data_high o l m (subst (λ o. IsTaking (e (x + o)).mode) p (always_taking (o - 257) (omega (arith, m))))

    -- and for a while more, if it lets the clock go past the last look
    module _ (later : (w.host (x + 603)).clk ≡ true) where
      still_taking : (j : ℕ) → j ≤ 9 → IsTaking (e (x + (615 + j))).mode
      still_taking zero l =
          let z : 257 + 358 ≡ 615 + 0 = omega arith in
          subst (λ o. IsTaking (e (x + o)).mode) z (always_taking 358 (omega arith))
      still_taking (suc j) l =
          let z : suc (x + (615 + j)) ≡ x + (615 + suc j) = omega arith in
          let t = still_taking j (omega (arith, l)) in
          subst (λ c. IsTaking (e c).mode) z
          (next_taking (615 + j) (data_by (615 + j) 603 (omega arith) (omega (arith, l)) later t) t)

      -- up to the eleventh fall the host lets data go, if it lets the clock go past the last look
      pub lets_data_on : (o : ℕ) → 614 < o → o ≤ 624 → (w.host (x + o)).dat ≡ true
      lets_data_on o l m =
          let p : 615 + (o - 615) ≡ o = omega (arith, l) in
          data_by o 603 (omega (arith, l)) (omega (arith, m)) later
          (subst (λ o. IsTaking (e (x + o)).mode) p (still_taking (o - 615) (omega (arith, m))))
