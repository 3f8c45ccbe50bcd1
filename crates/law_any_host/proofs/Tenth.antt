-- What a host has taken that counts ten falls, cycle by cycle.
use Rattle.std.proofs.Common.{◌≡◌, ◌≤◌, ◌<◌, ℕ, zero, suc, ◌+◌, ◌-◌, ◌==◌, Bool, true, false, ◌&&◌}
use Rattle.std.proofs.Common.{List, [], ◌∷◌, ◌++◌, length, refl, ap, ◌∙◌, subst, arith}
use Rattle.std.proofs.lemmas.Bool.Decides.{nat_tests}
use Rattle.std.proofs.lemmas.List.{append-nil}
use Rattle.std.specs.declared.option.Option.{Option}
use Rattle.board_terms.specs.Frame.{byte_of}
use Rattle.law_any_host.proofs.Ears.{AtMost, NoFall, no_fall}
use Rattle.law_any_host.specs.Ears.{Gives, Mode, Takes, by_tenth, ear_to, fell, taken_at_tenth}
use Rattle.law_any_host.specs.Wires.{AreWires, Wiring}

uncounted : (m : Mode) (bit : Bool) → by_tenth m false bit ≡ []
uncounted (Takes bits) bit = refl
uncounted (Gives byte falls) bit = refl

not_nine : (bits : List Bool) (bit : Bool) → (length bits == 9) ≡ false → by_tenth (Takes bits) true bit ≡ []
not_nine bits bit is = rw is refl

few_bits : (m : Mode) (counted bit : Bool) → AtMost 8 m → by_tenth m counted bit ≡ []
few_bits (Takes bits) true bit l = not_nine bits bit (let few : length bits ≤ 8 = l in grind (arith, nat_tests, few))
few_bits (Takes bits) false bit l = refl
few_bits (Gives byte falls) counted bit l = refl

nine_bits : (bits : List Bool) (bit : Bool) → (length bits == 9) ≡ true
    → by_tenth (Takes bits) true bit ≡ byte_of (bits ++ bit ∷ true ∷ []) ∷ []
nine_bits bits bit is = rw is refl

module _ (w : Wiring) (wires : AreWires w) where
  abbrev pub t : ℕ → List (Option ℕ)
  t = taken_at_tenth w

  abbrev counts_in : ℕ → Bool
  counts_in c = (w.host c).clk && (w.host c).dat && fell w c

  adds_none : (c : ℕ) → by_tenth (ear_to w c).mode (counts_in c) (w.reads c) ≡ [] → t (suc c) ≡ t c
  adds_none c none = ap (λ v. t c ++ v) none ∙ append-nil (t c)

  no_count : (c : ℕ) → counts_in c ≡ false → t (suc c) ≡ t c
  no_count c is = adds_none c (ap (λ b. by_tenth (ear_to w c).mode b (w.reads c)) is ∙ uncounted (ear_to w c).mode (w.reads c))

  -- where it pulls the clock, and where that doesn't fall
  pub pulling : (c : ℕ) → (w.host c).clk ≡ false → t (suc c) ≡ t c
  pulling c pulls = no_count c (ap (λ b. b && (w.host c).dat && fell w c) pulls)

  -- without a fall of the clock a host that counts ten falls takes no byte
  pub unfallen : (c : ℕ) → fell w c ≡ false → t (suc c) ≡ t c
  unfallen c none = no_count c (by (w.host c).clk (w.host c).dat)
    where
      by : (a b : Bool) → (a && b && fell w c) ≡ false
      by true true = none
      by true false = refl
      by false b = refl

  -- while the keyboard doesn't let the clock fall, a host that counts ten falls takes no byte
  pub quiet : (c : ℕ) → NoFall w wires c → t (suc c) ≡ t c
  quiet c none = by (w.host c).clk refl
    where
      by : (b : Bool) → (w.host c).clk ≡ b → t (suc c) ≡ t c
      by true go = unfallen c (no_fall w wires c none go)
      by false pulls = pulling c pulls

  -- where it has other than nine bits
  pub too_few : (c : ℕ) → AtMost 8 (ear_to w c).mode → t (suc c) ≡ t c
  too_few c l = adds_none c (few_bits (ear_to w c).mode (counts_in c) (w.reads c) l)

  -- while it sends a byte, a host that counts ten falls takes none
  pub gives : (c byte falls : ℕ) → (ear_to w c).mode ≡ Gives byte falls → t (suc c) ≡ t c
  gives c byte falls is = adds_none c (ap (λ m. by_tenth m (counts_in c) (w.reads c)) is)

  -- unless nine bits are taken, a host that counts ten falls takes no byte
  pub other : (c : ℕ) (bits : List Bool) → (ear_to w c).mode ≡ Takes bits → (length bits == 9) ≡ false → t (suc c) ≡ t c
  other c bits is long =
      adds_none c
      (ap (λ m. by_tenth m (counts_in c) (w.reads c)) is ∙ by (counts_in c))
    where
      by : (b : Bool) → by_tenth (Takes bits) b (w.reads c) ≡ []
      by true = not_nine bits (w.reads c) long
      by false = refl

  -- the tenth fall
  pub tenth : (c : ℕ) (bits : List Bool) → (w.host c).clk ≡ true → (w.host c).dat ≡ true → fell w c ≡ true
      → (ear_to w c).mode ≡ Takes bits → (length bits == 9) ≡ true
      → t (suc c) ≡ t c ++ byte_of (bits ++ w.reads c ∷ true ∷ []) ∷ []
  tenth c bits go high falls is nine =
      ap (λ b. t c ++ by_tenth (ear_to w c).mode (b && (w.host c).dat && fell w c) (w.reads c)) go
      ∙ ap (λ b. t c ++ by_tenth (ear_to w c).mode (b && fell w c) (w.reads c)) high
      ∙ ap (λ b. t c ++ by_tenth (ear_to w c).mode b (w.reads c)) falls
      ∙ ap (λ m. t c ++ by_tenth m true (w.reads c)) is
      ∙ ap (λ v. t c ++ v) (nine_bits bits (w.reads c) nine)

  -- over a span of cycles
  pub same_over : (j a : ℕ) → ((i : ℕ) → i < j → t (suc (a + i)) ≡ t (a + i)) → t (a + j) ≡ t a
  same_over zero a h = let z : a + 0 ≡ a = omega arith in ap t z
  same_over (suc j) a h =
      let z : a + suc j ≡ suc (a + j) = omega arith in
      ap t z ∙ h j (omega arith) ∙ same_over j a (λ i l. h i (omega (arith, l)))

  -- and from an offset of a tick to another
  pub same_to : (x a b : ℕ) → a ≤ b → ((o : ℕ) → a ≤ o → o < b → t (suc (x + o)) ≡ t (x + o)) → t (x + b) ≡ t (x + a)
  same_to x a b l h =
      let z : x + b ≡ x + a + (b - a) = omega (arith, l) in
      ap t z
      ∙ same_over (b - a) (x + a)
      (λ i m. let p : x + (a + i) ≡ x + a + i = omega arith in
      subst (λ c. t (suc c) ≡ t c) p (h (a + i) (omega arith) (omega (arith, m))))
