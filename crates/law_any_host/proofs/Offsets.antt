-- Wires and ears by the offset from a tick's start.
use Rattle.std.proofs.Common.{◌≡◌, ◌<◌, ◌⊎◌, ℕ, zero, suc, ◌+◌, Bool, true, false, not, ◌&&◌, refl, ap, sym, ◌∙◌}
use Rattle.std.proofs.Common.{arith, inl, inr}
use Rattle.law_any_host.proofs.Ears.{NoFall, never}
use Rattle.law_any_host.specs.Ears.{Ear, ear_to, fell}
use Rattle.law_any_host.specs.Wires.{AreWires, IsWire, Wiring}

-- the next offset
pub after : (x o : ℕ) → suc (x + o) ≡ x + suc o
after x o = omega arith

module _ (k h p s : ℕ → Bool) (wire : IsWire k h p s) (x : ℕ) where
  -- the host sees a wire high that both let go for three cycles, by the offset from a tick's start
  pub high_at : (o : ℕ) → k (x + o) ≡ true → h (x + o) ≡ true → k (x + suc o) ≡ true → h (x + suc o) ≡ true
      → k (x + suc (suc o)) ≡ true → h (x + suc (suc o)) ≡ true → s (x + suc (suc o)) ≡ true
  high_at o a b c d e f =
      let one : x + suc o ≡ suc (x + o) = omega arith in
      let two : x + suc (suc o) ≡ suc (suc (x + o)) = omega arith in
      ap s two
      ∙ wire.high (x + o) a b (ap k (sym one) ∙ c) (ap h (sym one) ∙ d) (ap k (sym two) ∙ e) (ap h (sym two) ∙ f)

  -- a look of the keyboard finds a wire high that both let go for three cycles, by the offset from a tick's start
  pub risen_at : (o : ℕ) → k (x + o) ≡ true → h (x + o) ≡ true → k (x + suc o) ≡ true → h (x + suc o) ≡ true
      → k (x + suc (suc o)) ≡ true → h (x + suc (suc o)) ≡ true → p (x + suc (suc o)) ≡ true
  risen_at o a b c d e f =
      let one : x + suc o ≡ suc (x + o) = omega arith in
      let two : x + suc (suc o) ≡ suc (suc (x + o)) = omega arith in
      ap p two
      ∙ wire.risen (x + o) a b (ap k (sym one) ∙ c) (ap h (sym one) ∙ d) (ap k (sym two) ∙ e) (ap h (sym two) ∙ f)

  -- a level that is high wasn't pulled both in its cycle and in the one before
  pub not_both : {A : Type 0} → (o : ℕ) → p (x + suc o) ≡ true → h (x + o) ≡ false → h (x + suc o) ≡ false → A
  not_both o high a b =
      never (sym high ∙ ap p (sym (after x o)) ∙ wire.pulled (x + o) a (ap h (after x o) ∙ b))

  -- a level that is low, where the keyboard lets the wire go, is pulled by the host in its cycle or in the two before
  pub pulled_by : (o : ℕ) → k (x + o) ≡ true → k (x + suc o) ≡ true → k (x + suc (suc o)) ≡ true
      → p (x + suc (suc o)) ≡ false
      → (h (x + o) ≡ false) ⊎ ((h (x + suc o) ≡ false) ⊎ (h (x + suc (suc o)) ≡ false))
  pulled_by o a b c low = by (h (x + o)) refl (h (x + suc o)) refl (h (x + suc (suc o))) refl
    where
      by : (u : Bool) → h (x + o) ≡ u → (v : Bool) → h (x + suc o) ≡ v → (t : Bool) → h (x + suc (suc o)) ≡ t
          → (h (x + o) ≡ false) ⊎ ((h (x + suc o) ≡ false) ⊎ (h (x + suc (suc o)) ≡ false))
      by false e v f t g = inl e
      by true e false f t g = inr (inl f)
      by true e true f false g = inr (inr g)
      by true e true f true g = never (sym (risen_at o a e b f c g) ∙ low)

module _ (w : Wiring) (wires : AreWires w) (x : ℕ) where
  abbrev E : ℕ → Ear
  E o = ear_to w (x + o)

  -- the host sees the clock fall
  pub falls_at : (o : ℕ) → (w.seen (x + o)).clk ≡ true → (w.keyboard (x + suc o)).clk ≡ false → fell w (x + suc o) ≡ true
  falls_at o high down =
      let one : x + suc o ≡ suc (x + o) = omega arith in
      ap (fell w) one ∙ ap (λ v. v && not (w.seen (suc (x + o))).clk) high
      ∙ ap not (wires.clock.low (suc (x + o)) (ap (λ i. (w.keyboard i).clk) (sym one) ∙ down))

  -- a clock that the keyboard let go, or pulled already, doesn't fall
  pub let_go_at : (o : ℕ) → (w.keyboard (x + o)).clk ≡ true → NoFall w wires (x + o)
  let_go_at o up = inl up

  -- after a cycle in which the keyboard pulls the clock there is no fall
  pub low_at : (o : ℕ) → (w.keyboard (x + o)).clk ≡ false → NoFall w wires (x + suc o)
  low_at o down = inr (x + o, sym (after x o), down)

  -- cycles that change nothing
  pub same_on : (j o : ℕ) → ((i : ℕ) → i < j → E (o + i) ≡ E o → ear_to w (suc (x + (o + i))) ≡ E (o + i)) → E (o + j) ≡ E o
  same_on zero o h = let z : o + 0 ≡ o = omega arith in ap E z
  same_on (suc j) o h =
      let z : x + (o + suc j) ≡ suc (x + (o + j)) = omega arith in
      let before : E (o + j) ≡ E o = same_on j o (λ i l. h i (omega (arith, l))) in
      ap (ear_to w) z ∙ h j (omega arith) before ∙ before
