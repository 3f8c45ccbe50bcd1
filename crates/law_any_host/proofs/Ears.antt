-- What the host has under way, cycle by cycle.
use Rattle.std.proofs.Common.{◌≡◌, ◌≤◌, ◌<◌, ◌⊎◌, ℕ, zero, suc, ◌+◌, ◌==◌, Bool, true, false, not, ◌&&◌}
use Rattle.std.proofs.Common.{List, [], ◌∷◌, ◌++◌, length, refl, ap, sym, ◌∙◌, subst, arith, inl, inr}
use Rattle.std.proofs.lemmas.Bool.Decides.{nat_tests}
use Rattle.std.proofs.lemmas.List.{length-append}
use Rattle.law_any_host.specs.Ears.{Ear, Gives, Mode, Takes, ear_to, fell, heard_by, moved, with_bit, with_fall}
use Rattle.law_any_host.specs.Wires.{AreWires, Wiring}

-- at most so many falls are counted
abbrev pub AtMost : ℕ → Mode → Type 0
AtMost n (Takes bits) = length bits ≤ n
AtMost n (Gives byte falls) = falls ≤ n

-- after an ear, another with at most so many falls, and no byte more
pub record Kept (n : ℕ) (first e : Ear) : Type 0 where
  pub most : AtMost n e.mode
  pub taken : e.taken ≡ first.taken
  pub given : e.given ≡ first.given

-- if at most so many falls are counted, at most any larger number is
pub more : (m : Mode) (a b : ℕ) → a ≤ b → AtMost a m → AtMost b m
more (Takes bits) a b l h = omega (arith, l, h)
more (Gives byte falls) a b l h = omega (arith, l, h)

-- true isn't false, so anything follows if it is
pub never : {A : Type 0} → true ≡ false → A
never e = absurd cc

-- without a fall
still : (n : ℕ) (first : Ear) (m : Mode) (dat bit : Bool) (want : ℕ) (e : Ear) → e.mode ≡ m → Kept n first e
    → Kept n first (moved m dat false bit want e)
still n first (Takes bits) false bit want e is h = record { most = omega arith; taken = h.taken; given = h.given }
still n first (Takes bits) true bit want e is h = h
still n first (Gives byte falls) dat bit want e is h = h

-- with one, of which there were fewer than ten
bit_more : (n : ℕ) (first : Ear) (bits : List Bool) (bit : Bool) (e : Ear) → length bits ≤ n → n < 10 → Kept n first e
    → (b : Bool) → (length bits == 10) ≡ b → Kept (suc n) first (with_bit bits bit e)
bit_more n first bits bit e l few h true is = absurd (let e : length bits ≡ 10 = grind (arith, nat_tests, is) in omega (arith, e, l, few))
bit_more n first bits bit e l few h false is =
    let long : length (bits ++ bit ∷ []) ≡ length bits + length (bit ∷ []) = length-append bits (bit ∷ []) in
    let one : length (bit ∷ []) ≡ 1 = refl in
    let next : Kept (suc n) first (record e { mode = Takes (bits ++ bit ∷ []) }) =
    record { most = omega (arith, long, one, l); taken = h.taken; given = h.given } in
    rw is next

fall_more : (n : ℕ) (first : Ear) (byte falls : ℕ) (e : Ear) → falls ≤ n → n < 10 → Kept n first e
    → (b : Bool) → (falls == 10) ≡ b → Kept (suc n) first (with_fall byte falls e)
fall_more n first byte falls e l few h true is = absurd (let e : falls ≡ 10 = grind (arith, nat_tests, is) in omega (arith, e, l, few))
fall_more n first byte falls e l few h false is =
    let next : Kept (suc n) first (record e { mode = Gives byte (suc falls) }) =
    record { most = omega (arith, l); taken = h.taken; given = h.given } in
    rw is next

falling : (n : ℕ) (first : Ear) (m : Mode) (dat bit : Bool) (want : ℕ) (e : Ear) → e.mode ≡ m → n < 10 → Kept n first e
    → Kept (suc n) first (moved m dat true bit want e)
falling n first (Takes bits) false bit want e is few h = record { most = omega arith; taken = h.taken; given = h.given }
falling n first (Takes bits) true bit want e is few h =
    bit_more n first bits bit e (subst (λ m. AtMost n m) is h.most) few h (length bits == 10) refl
falling n first (Gives byte falls) dat bit want e is few h =
    fall_more n first byte falls e (subst (λ m. AtMost n m) is h.most) few h (falls == 10) refl

module _ (w : Wiring) (wires : AreWires w) where
  -- the keyboard doesn't let the clock fall in a cycle: it lets it go, or pulled it in the one before
  abbrev pub NoFall : ℕ → Type 0
  NoFall c = ((w.keyboard c).clk ≡ true) ⊎ ((b : ℕ) × (c ≡ suc b) × ((w.keyboard b).clk ≡ false))

  -- then the host sees no fall, if it doesn't pull
  none_by : (b : ℕ) → ((w.keyboard (suc b)).clk ≡ true) ⊎ ((w.keyboard b).clk ≡ false) → (w.host (suc b)).clk ≡ true
      → (s : Bool) → (w.seen b).clk ≡ s → fell w (suc b) ≡ false
  none_by b (inl up) go true s =
      let now : (w.seen (suc b)).clk ≡ true = wires.clock.stays b s up go in
      ap (λ v. v && not (w.seen (suc b)).clk) s ∙ ap not now
  none_by b (inr down) go true s = never (sym s ∙ wires.clock.low b down)
  none_by b either go false s = ap (λ v. v && not (w.seen (suc b)).clk) s

  -- if the keyboard doesn't let the clock fall and the host lets it go, the host sees no fall
  pub no_fall : (c : ℕ) → NoFall c → (w.host c).clk ≡ true → fell w c ≡ false
  no_fall zero h go = refl
  no_fall (suc b) (inl up) go = none_by b (inl up) go (w.seen b).clk refl
  no_fall (suc b) (inr (a, is, down)) go =
      let same : a ≡ b = omega (arith, is) in
      none_by b (inr (subst (λ i. (w.keyboard i).clk ≡ false) same down)) go (w.seen b).clk refl

  abbrev e : ℕ → Ear
  e = ear_to w

  -- a cycle in which the host lets the clock go, by its mode; and one in which it pulls it
  pub went : (c : ℕ) (m : Mode) (dat f : Bool) → (w.host c).clk ≡ true → (e c).mode ≡ m → (w.host c).dat ≡ dat
      → fell w c ≡ f → e (suc c) ≡ moved m dat f (w.reads c) (w.wants c) (e c)
  went c m dat f go is d falls =
      ap (λ b. heard_by b (w.host c).dat (fell w c) (w.reads c) (w.wants c) (e c)) go
      ∙ ap (λ m. moved m (w.host c).dat (fell w c) (w.reads c) (w.wants c) (e c)) is
      ∙ ap (λ d. moved m d (fell w c) (w.reads c) (w.wants c) (e c)) d
      ∙ ap (λ f. moved m dat f (w.reads c) (w.wants c) (e c)) falls

  -- a host that pulls the clock drops what is under way, and has taken and given no byte more
  pub held : (c : ℕ) → (w.host c).clk ≡ false → e (suc c) ≡ record (e c) { mode = Takes [] }
  held c pulls = ap (λ b. heard_by b (w.host c).dat (fell w c) (w.reads c) (w.wants c) (e c)) pulls

  -- a cycle without a fall keeps what is counted
  pub keeps : (n c : ℕ) (first : Ear) → NoFall c → Kept n first (e c) → Kept n first (e (suc c))
  keeps n c first h k = by (w.host c).clk refl
    where
      by : (b : Bool) → (w.host c).clk ≡ b → Kept n first (e (suc c))
      by false pulls =
          subst (λ x. Kept n first x) (sym (held c pulls)) (record { most = omega arith; taken = k.taken; given = k.given })
      by true go =
          subst (λ x. Kept n first x) (sym (went c (e c).mode (w.host c).dat false go refl refl (no_fall c h go)))
          (still n first (e c).mode (w.host c).dat (w.reads c) (w.wants c) (e c) refl k)

  -- any cycle adds one at most
  pub adds : (n c : ℕ) (first : Ear) → n < 10 → Kept n first (e c) → Kept (suc n) first (e (suc c))
  adds n c first few k = by (w.host c).clk refl (fell w c) refl
    where
      by : (b : Bool) → (w.host c).clk ≡ b → (f : Bool) → fell w c ≡ f → Kept (suc n) first (e (suc c))
      by false pulls f fs =
          subst (λ x. Kept (suc n) first x) (sym (held c pulls)) (record { most = omega arith; taken = k.taken; given = k.given })
      by true go true fs =
          subst (λ x. Kept (suc n) first x) (sym (went c (e c).mode (w.host c).dat true go refl refl fs))
          (falling n first (e c).mode (w.host c).dat (w.reads c) (w.wants c) (e c) refl few k)
      by true go false fs =
          let t = still n first (e c).mode (w.host c).dat (w.reads c) (w.wants c) (e c) refl k in
          subst (λ x. Kept (suc n) first x) (sym (went c (e c).mode (w.host c).dat false go refl refl fs))
          (record { most = more (moved (e c).mode (w.host c).dat false (w.reads c) (w.wants c) (e c)).mode n (suc n) (omega arith) t.most; taken = t.taken; given = t.given })

  -- over a span of cycles
  pub keeps_on : (n j a : ℕ) (first : Ear) → ((i : ℕ) → i < j → NoFall (a + i)) → Kept n first (e a) → Kept n first (e (a + j))
  keeps_on n zero a first h k = let z : a ≡ a + 0 = omega arith in subst (λ i. Kept n first (e i)) z k
  keeps_on n (suc j) a first h k =
      let z : suc (a + j) ≡ a + suc j = omega arith in
      subst (λ i. Kept n first (e i)) z
      (keeps n (a + j) first (h j (omega arith)) (keeps_on n j a first (λ i l. h i (omega (arith, l))) k))

  -- where the host pulls the clock nothing is under way
  pub drops : (n c : ℕ) (first : Ear) → (w.host c).clk ≡ false → Kept n first (e c) → Kept 0 first (e (suc c))
  drops n c first pulls k =
      subst (λ x. Kept 0 first x) (sym (held c pulls)) (record { most = omega arith; taken = k.taken; given = k.given })
