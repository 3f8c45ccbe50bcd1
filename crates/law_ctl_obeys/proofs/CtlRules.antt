-- The controller keeps the rules: what it has under way is what an ear on the wires has.
use Rattle.std.proofs.Common.{◌≡◌, ◌≤◌, ◌<◌, ◌⊎◌, ℕ, zero, suc, ◌+◌, ◌-◌, Bool, true, false, not, ◌&&◌, ◌==◌, nat_lt}
use Rattle.std.proofs.Common.{List, [], ◌∷◌, ◌++◌, length, Some, None, if◌then◌else◌, refl, ap, sym, ◌∙◌, subst, arith, inl, inr}
use Rattle.std.proofs.lemmas.Bool.Decides.{nat_tests}
use Rattle.std.proofs.lemmas.List.{length-append}
use Rattle.std.specs.declared.option.Option.{Option}
use Rattle.board_terms.specs.Frame.{byte_of}
use Rattle.board_terms.specs.declared.lines.Lines.{Lines}
use Rattle.ctl_core.specs.Controller.{ControllerState, asks_again}
use Rattle.ctl_link.specs.Link.{next_link}
use Rattle.ctl_link.specs.Pulls.{pulled}
use Rattle.ctl_link.specs.declared.link.Link.{Link}
use Rattle.ctl_link.specs.declared.link.Link.TheVariants.{Free, Hold, Ask, Request, Busy}
use Rattle.ctl_link.specs.declared.port.LinkEnd.{LinkEnd}
use Rattle.ctl_wire.proofs.Pulls.{pulled_is_low}
use Rattle.ctl_wire.specs.Cycles.{WireState}
use Rattle.ctl_wire.specs.Pulls.{Happening, acts}
use Rattle.ctl_wire.specs.Wire.{drive, turned}
use Rattle.ctl_wire.specs.Wires.{joined}
use Rattle.ctl_wire.specs.declared.wire.Wire.{Wire}
use Rattle.ctl_wire.specs.declared.wire.Wire.TheVariants.{Recv, Send}
use Rattle.law_fw_link.specs.Latch.{frame_bit}
use Rattle.law_any_host.proofs.Ears.{held, never, went}
use Rattle.law_ctl_obeys.proofs.InBytes.{requests_bytes}
use Rattle.law_ctl_obeys.proofs.LinkSteps.{Turns, clock_after, from_busy, from_free, from_pulled, from_request, late, late_fell, late_held, late_still}
use Rattle.law_ctl_obeys.specs.Controller.{ControllerLaw, asked_by, state_at, wiring_by}
use Rattle.law_any_host.specs.Ears.{Ear, Eleventh, Gives, Mode, Takes, ear_to, fell, moved}
use Rattle.law_any_host.specs.Rules.{Ends, IsRuleful}
use Rattle.law_any_host.specs.Wires.{AreWires, IsWire, Wiring}

and_false : (a : Bool) → (a && false) ≡ false
and_false true = refl
and_false false = refl

both_true : (a b : Bool) → a ≡ true → b ≡ true → (a && b) ≡ true
both_true true true p q = refl
both_true true false p q = absurd cc
both_true false b p q = absurd cc

-- wires that take no time
at_once : (k h : ℕ → Bool) → IsWire k h (λ c. k c && h c) (λ c. k c && h c)
at_once k h = record {
  pulled = λ c a b. ap (λ v. k (suc c) && v) b ∙ and_false (k (suc c));
  risen = λ c a b d e f g. both_true (k (suc (suc c))) (h (suc (suc c))) f g;
  low = λ c a. ap (λ v. v && h c) a;
  high = λ c a b d e f g. both_true (k (suc (suc c))) (h (suc (suc c))) f g;
  stays = λ c a b d. both_true (k (suc c)) (h (suc c)) b d;
}

-- after a byte the clock is pulled
byte_pulls : (now : ℕ) (came : Option ℕ) (s : ControllerState) → pulled (next_link {F = Wire} now came s) ≡ Some now
byte_pulls now (Some byte) s = refl
byte_pulls now None s = by (asks_again s)
  where
    by : (c : Bool) → pulled {F = Wire} (if c then Ask 0xfe now else Hold now) ≡ Some now
    by true = refl
    by false = refl

low_is_pulled : (l : Link Wire) → (drive l).clk ≡ false → (h : ℕ) × (pulled l ≡ Some h)
low_is_pulled Free e = absurd cc
low_is_pulled (Hold since) e = (since, refl)
low_is_pulled (Ask byte since) e = (since, refl)
low_is_pulled (Request byte) e = absurd cc
low_is_pulled (Busy (Recv flip bits)) e = absurd cc
low_is_pulled (Busy (Send byte edges)) e = absurd cc

some_is : (a b : ℕ) → Some a ≡ Some b → a ≡ b
some_is a b e = cc

abbrev length_of : Mode → ℕ
length_of (Takes bits) = length bits
length_of (Gives byte falls) = 0

abbrev gives : Mode → Bool
gives (Takes bits) = false
gives (Gives byte falls) = true

abbrev falls_of : Mode → ℕ
falls_of (Takes bits) = 0
falls_of (Gives byte falls) = falls

abbrev byte_in_mode : Mode → ℕ
byte_in_mode (Takes bits) = 0
byte_in_mode (Gives byte falls) = byte

module _ (keyboard : ℕ → Lines) (happens : ℕ → Happening)
    (lines : (c : ℕ) → (happens c).line ≡ joined (keyboard c) (drive (state_at happens c).port.link))
    (high : (keyboard 0).clk ≡ true) where
  abbrev W : Wiring
  W = wiring_by keyboard happens

  abbrev S : ℕ → WireState
  S c = state_at happens c

  abbrev L : ℕ → Link Wire
  L c = (state_at happens c).port.link

  abbrev M : ℕ → Mode
  M c = (ear_to W c).mode

  -- the wires between keyboard and controller keep the rules of wires
  pub wires : AreWires W
  wires = record {
    clock = at_once (λ c. (keyboard c).clk) (λ c. (drive (L c)).clk);
    data_wire = at_once (λ c. (keyboard c).dat) (λ c. (drive (L c)).dat);
  }

  -- the controller's falls are the ear's
  abbrev f : ℕ → Bool
  f c = (S c).clock && not (happens c).line.clk

  fell_is : (c : ℕ) → fell W c ≡ f c
  fell_is zero =
      sym (ap (λ (l : Lines). not l.clk) (lines 0) ∙ ap (λ b. not (b && true)) high)
  fell_is (suc c) =
      let level : (S (suc c)).clock ≡ (W.seen c).clk =
      clock_after c (happens c) (S c) ∙ ap (λ (l : Lines). l.clk) (lines c) in
      ap (λ b. b && not (W.seen (suc c)).clk) (sym level)
      ∙ ap (λ (l : Lines). (S (suc c)).clock && not l.clk) (sym (lines (suc c)))

  dat_is : (c : ℕ) → (happens c).line.dat ≡ W.reads c
  dat_is c = ap (λ (l : Lines). l.dat) (lines c)

  -- the clock is pulled since a cycle; and it was for the last 64
  abbrev Pulls : ℕ → ℕ → Mode → Type 0
  Pulls c s m =
      (s < c) × ((bits : List Bool) × (m ≡ Takes bits) × (length bits < 10))
      × ((i : ℕ) → s < i → i ≤ c → (drive (L i)).clk ≡ false)

  abbrev Before : ℕ → Type 0
  Before c = (i : ℕ) → i < c → c ≤ i + 64 → (drive (L i)).clk ≡ false

  -- what ties the ear to the link
  abbrev Rel : ℕ → Link Wire → Mode → Type 0
  Rel c Free m = m ≡ Takes []
  Rel c (Hold s) m = Pulls c s m
  Rel c (Ask byte s) m = Pulls c s m
  Rel c (Request byte) m = (m ≡ Gives byte 0) ⊎ ((m ≡ Takes []) × Before c)
  Rel c (Busy (Recv flip bits)) m = (m ≡ Takes bits) × (length bits ≤ 10)
  Rel c (Busy (Send byte edges)) m = (m ≡ Gives byte edges) × (1 ≤ edges)

  rel_pulled : (c s : ℕ) (l : Link Wire) (m : Mode) → pulled l ≡ Some s → Pulls c s m → Rel c l m
  rel_pulled c s Free m e p = absurd cc
  rel_pulled c s (Hold since) m e p = subst (λ s. Pulls c s m) (sym (some_is since s e)) p
  rel_pulled c s (Ask byte since) m e p = subst (λ s. Pulls c s m) (sym (some_is since s e)) p
  rel_pulled c s (Request byte) m e p = absurd cc
  rel_pulled c s (Busy x) m e p = absurd cc

  pulled_rel : (c s : ℕ) (l : Link Wire) (m : Mode) → pulled l ≡ Some s → Rel c l m → Pulls c s m
  pulled_rel c s Free m e r = absurd cc
  pulled_rel c s (Hold since) m e r = subst (λ s. Pulls c s m) (some_is since s e) r
  pulled_rel c s (Ask byte since) m e r = subst (λ s. Pulls c s m) (some_is since s e) r
  pulled_rel c s (Request byte) m e r = absurd cc
  pulled_rel c s (Busy x) m e r = absurd cc

  abbrev Next : ℕ → Type 0
  Next c = Rel (suc c) (L (suc c)) (M (suc c))

  to : (c : ℕ) (l : Link Wire) → L (suc c) ≡ l → Rel (suc c) l (M (suc c)) → Next c
  to c l is r = subst (λ v. Rel (suc c) v (M (suc c))) (sym is) r

  -- a pull begins
  begins : (c : ℕ) (bits : List Bool) → pulled (L (suc c)) ≡ Some c → M (suc c) ≡ Takes bits → length bits < 10 → Next c
  begins c bits p m l =
      rel_pulled (suc c) c (L (suc c)) (M (suc c)) p (
        omega arith,
        (bits, m, l),
        λ i a b.
            let same : suc c ≡ i = omega (arith, a, b) in
            subst (λ i. (drive (L i)).clk ≡ false) same (pulled_is_low (L (suc c)) c p),
      )

  begun : (c : ℕ) → M (suc c) ≡ Takes [] → (L (suc c) ≡ Free) ⊎ (pulled (L (suc c)) ≡ Some c) → Next c
  begun c m (inl e) = to c Free e m
  begun c m (inr p) = begins c [] p m (omega arith)

  -- the ear, in a cycle in which the host lets the clock go
  mode_next : (c : ℕ) (l : Link Wire) (m : Mode) (dat b : Bool) → L c ≡ l → (drive l).clk ≡ true → (drive l).dat ≡ dat → M c ≡ m
      → f c ≡ b → M (suc c) ≡ (moved m dat b (W.reads c) (W.wants c) (ear_to W c)).mode
  mode_next c l m dat b is go d mode fb =
      ap (λ (v : Ear). v.mode)
      (went W wires c m dat b (ap (λ v. (drive v).clk) is ∙ go) mode (ap (λ v. (drive v).dat) is ∙ d) (fell_is c ∙ fb))

  -- a link that pulls
  from_pull : (c s : ℕ) (l : Link Wire) → L c ≡ l → pulled l ≡ Some s → Pulls c s (M c) → Next c
  from_pull c s l is p r =
      by (from_pulled c (happens c) (S c) s
      (ap pulled (late_held c (happens c) (S c) s (ap pulled is ∙ p) ∙ is) ∙ p))
    where
      mode : M (suc c) ≡ Takes []
      mode = ap (λ (v : Ear). v.mode) (held W wires c (ap (λ v. (drive v).clk) is ∙ pulled_is_low l s p))

      by : Turns s c (L (suc c)) → Next c
      by (inl q) =
          let before : s < c = r.0 in
          rel_pulled (suc c) s (L (suc c)) (M (suc c)) q (
            omega (arith, before),
            ([], mode, omega arith),
            λ i a b. each q i a b (nat_lt i (suc c)) refl,
          )
        where
          each : pulled (L (suc c)) ≡ Some s → (i : ℕ) → s < i → i ≤ suc c → (b : Bool) → nat_lt i (suc c) ≡ b
              → (drive (L i)).clk ≡ false
          each q i a b true t = r.2 i a (let u : i < suc c = grind (arith, nat_tests, t) in omega (arith, u))
          each q i a b false t =
              let same : suc c ≡ i = (let u : suc c ≤ i = grind (arith, nat_tests, t) in omega (arith, u, b)) in
              subst (λ i. (drive (L i)).clk ≡ false) same (pulled_is_low (L (suc c)) s q)
      by (inr (long, inl e)) = to c Free e mode
      by (inr (long, inr (byte, e))) =
          to c (Request byte) e (inr (mode, λ i a b. r.2 i (omega (arith, long, b)) (omega (arith, a))))

  -- a request isn't broken off, nor is what the controller sends
  sends_on : (c byte edges : ℕ) → M (suc c) ≡ Gives byte edges → 1 ≤ edges
      → ((L (suc c) ≡ Busy (Send byte edges)) ⊎ ((false ≡ true) × (pulled (L (suc c)) ≡ Some c))) → Next c
  sends_on c byte edges m l (inl e) = to c (Busy (Send byte edges)) e (m, l)
  sends_on c byte edges m l (inr h) = never (sym h.0)

  takes_on : (c : ℕ) (flip : Option ℕ) (bits : List Bool) → M (suc c) ≡ Takes bits → length bits ≤ 10
      → ((L (suc c) ≡ Busy (Recv flip bits)) ⊎ ((nat_lt (length bits) 10 ≡ true) × (pulled (L (suc c)) ≡ Some c))) → Next c
  takes_on c flip bits m l (inl e) = to c (Busy (Recv flip bits)) e (m, l)
  takes_on c flip bits m l (inr h) = begins c bits h.1 m (let few : nat_lt (length bits) 10 ≡ true = h.0 in grind (arith, nat_tests, few))

  -- no fall ends a pull of its own
  no_fall_first : (c : ℕ) → Before c → fell W c ≡ false
  no_fall_first zero h = refl
  no_fall_first (suc a) h =
      let low : (drive (L a)).clk ≡ false = h a (omega arith) (omega arith) in
      ap (λ b. ((keyboard a).clk && b) && not (W.seen (suc a)).clk) low
      ∙ ap (λ b. b && not (W.seen (suc a)).clk) (and_false (keyboard a).clk)

  long_by_one : (bits : List Bool) (x : Bool) → length bits ≤ 10 → (length bits == 10) ≡ false → length (bits ++ x ∷ []) ≤ 10
  long_by_one bits x l not_ten =
      let e : length (bits ++ x ∷ []) ≡ length bits + length (x ∷ []) = length-append bits (x ∷ []) in
      let one : length (x ∷ []) ≡ 1 = refl in
      let other : length bits < 10 = grind (arith, nat_tests, l, not_ten) in
      omega (arith, e, one, other)

  step : (c : ℕ) (l : Link Wire) → L c ≡ l → Rel c l (M c) → (b : Bool) → f c ≡ b → Next c
  step c Free is m false fb =
      begun c (mode_next c Free (Takes []) true false is refl refl m fb ∙ m)
      (from_free c (happens c) (S c) (late_still c (happens c) (S c) fb ∙ is))
  step c Free is m true fb =
      takes_on c (acts (happens c).before (S c)).port.flip ((happens c).line.dat ∷ [])
      (mode_next c Free (Takes []) true true is refl refl m fb ∙ ap (λ b. Takes (b ∷ [])) (sym (dat_is c))) (omega arith)
      (from_busy c (happens c) (S c)
      (Recv (acts (happens c).before (S c)).port.flip ((happens c).line.dat ∷ []))
      (late_fell c (happens c) (S c) Free is fb))
  step c (Hold s) is r b fb = from_pull c s (Hold s) is refl r
  step c (Ask byte s) is r b fb = from_pull c s (Ask byte s) is refl r
  step c (Request byte) is (inl m) false fb =
      to c (Request byte) (from_request c (happens c) (S c) byte (late_still c (happens c) (S c) fb ∙ is))
      (inl (mode_next c (Request byte) (Gives byte 0) false false is refl refl m fb ∙ m))
  step c (Request byte) is (inl m) true fb =
      sends_on c byte 1 (mode_next c (Request byte) (Gives byte 0) false true is refl refl m fb) (omega arith)
      (from_busy c (happens c) (S c) (Send byte 1) (late_fell c (happens c) (S c) (Request byte) is fb))
  step c (Request byte) is (inr (m, before)) b fb =
      let none : f c ≡ false = sym (fell_is c) ∙ no_fall_first c before in
      to c (Request byte) (from_request c (happens c) (S c) byte (late_still c (happens c) (S c) none ∙ is))
      (inl (mode_next c (Request byte) (Takes []) false false is refl refl m none ∙ ap (λ l. Gives (asked_by l) 0) is))
  step c (Busy (Recv flip bits)) is (m, l) false fb =
      takes_on c flip bits (mode_next c (Busy (Recv flip bits)) (Takes bits) true false is refl refl m fb ∙ m) l
      (from_busy c (happens c) (S c) (Recv flip bits) (late_still c (happens c) (S c) fb ∙ is))
  step c (Busy (Recv flip bits)) is (m, l) true fb = by (length bits == 10) refl
    where
      by : (t : Bool) → (length bits == 10) ≡ t → Next c
      by true t =
          let mode : M (suc c) ≡ Takes [] =
          mode_next c (Busy (Recv flip bits)) (Takes bits) true true is refl refl m fb ∙ rw t refl in
          let p : LinkEnd Wire = (acts (happens c).before (S c)).port in
          let came : Option ℕ = byte_of (turned flip (bits ++ (happens c).line.dat ∷ [])) in
          let link : (late c (happens c) (S c)).port.link ≡ next_link c came p.core =
          late_fell c (happens c) (S c) (Busy (Recv flip bits)) is fb ∙ rw t refl in
          elim (from_pulled c (happens c) (S c) c (ap pulled link ∙ byte_pulls c came p.core)) [
            | inl q ↦ begins c [] q mode (omega arith)
            | inr long ↦ absurd (let n : c + 64 ≤ c = long.0 in omega (arith, n))
          ]
      by false t =
          takes_on c flip (bits ++ (happens c).line.dat ∷ [])
          (mode_next c (Busy (Recv flip bits)) (Takes bits) true true is refl refl m fb ∙ rw t refl
          ∙ ap (λ b. Takes (bits ++ b ∷ [])) (sym (dat_is c)))
          (long_by_one bits (happens c).line.dat l t)
          (from_busy c (happens c) (S c) (Recv flip (bits ++ (happens c).line.dat ∷ []))
          (late_fell c (happens c) (S c) (Busy (Recv flip bits)) is fb ∙ rw t refl))
  step c (Busy (Send byte edges)) is (m, l) false fb =
      sends_on c byte edges
      (mode_next c (Busy (Send byte edges)) (Gives byte edges) (drive (Busy (Send byte edges))).dat false is refl refl m fb ∙ m) l
      (from_busy c (happens c) (S c) (Send byte edges) (late_still c (happens c) (S c) fb ∙ is))
  step c (Busy (Send byte edges)) is (m, l) true fb = by (edges == 10) refl
    where
      by : (t : Bool) → (edges == 10) ≡ t → Next c
      by true t =
          let mode : M (suc c) ≡ Takes [] =
          mode_next c (Busy (Send byte edges)) (Gives byte edges) (drive (Busy (Send byte edges))).dat true is refl refl m fb
          ∙ rw t refl in
          begun c mode
          (from_free c (happens c) (S c) (late_fell c (happens c) (S c) (Busy (Send byte edges)) is fb ∙ rw t refl))
      by false t =
          let one : edges + 1 ≡ suc edges = omega arith in
          sends_on c byte (suc edges)
          (mode_next c (Busy (Send byte edges)) (Gives byte edges) (drive (Busy (Send byte edges))).dat true is refl refl m fb
          ∙ rw t refl)
          (omega arith)
          (from_busy c (happens c) (S c) (Send byte (suc edges))
          (late_fell c (happens c) (S c) (Busy (Send byte edges)) is fb ∙ rw t refl ∙ ap (λ n. Busy (Send byte n)) one))

  -- what the controller has under way is what an ear on the wires has
  pub tied : (c : ℕ) → Rel c (L c) (M c)
  tied zero = refl
  tied (suc c) = step c (L c) refl (tied c) (f c) refl

  -- a pull goes on for 64 cycles
  on : (c s n : ℕ) → pulled (L c) ≡ Some s → c + n ≤ s + 64 → pulled (L (c + n)) ≡ Some s
  on c s zero p l = let z : c ≡ c + 0 = omega arith in subst (λ i. pulled (L i) ≡ Some s) z p
  on c s (suc n) p l =
      let q : pulled (L (c + n)) ≡ Some s = on c s n p (omega (arith, l)) in
      let z : suc (c + n) ≡ c + suc n = omega arith in
      subst (λ i. pulled (L i) ≡ Some s) z
      (elim (from_pulled (c + n) (happens (c + n)) (S (c + n)) s
      (ap pulled (late_held (c + n) (happens (c + n)) (S (c + n)) s q) ∙ q)) [
        | inl still ↦ still
        | inr ends ↦ absurd (let long : s + 64 ≤ c + n = ends.0 in omega (arith, long, l))
      ])

  -- each pull of the clock by the controller lasts 24 cycles and more
  pub long : (c : ℕ) → (drive (L c)).clk ≡ false
      → (a : ℕ) × (a ≤ c) × (c < a + 24) × ((i : ℕ) → a ≤ i → i < a + 24 → (drive (L i)).clk ≡ false)
  long c low =
      let p = low_is_pulled (L c) low in
      let r = pulled_rel c p.0 (L c) (M c) p.1 (tied c) in
      by p.0 p.1 r.0 r.2 (nat_lt c (p.0 + 25)) refl
    where
      by : (s : ℕ) → pulled (L c) ≡ Some s → s < c → ((i : ℕ) → s < i → i ≤ c → (drive (L i)).clk ≡ false) → (b : Bool)
          → nat_lt c (s + 25) ≡ b
          → (a : ℕ) × (a ≤ c) × (c < a + 24) × ((i : ℕ) → a ≤ i → i < a + 24 → (drive (L i)).clk ≡ false)
      by s p l before true t =
          let near : c < s + 25 = grind (arith, nat_tests, t) in (
            s + 1,
            omega (arith, l),
            omega (arith, near),
            λ i a u. each i a u (nat_lt c i) refl,
          )
        where
          each : (i : ℕ) → s + 1 ≤ i → i < s + 1 + 24 → (b : Bool) → nat_lt c i ≡ b → (drive (L i)).clk ≡ false
          each i a u false e =
              let m : i ≤ c = grind (arith, nat_tests, e) in before i (omega (arith, a)) m
          each i a u true e =
              let m : c < i = grind (arith, nat_tests, e) in
              let z : c + (i - c) ≡ i = omega (arith, m) in
              pulled_is_low (L i) s (subst (λ i. pulled (L i) ≡ Some s) z (on c s (i - c) p (omega (arith, u, m))))
      by s p l before false t =
          let far : s + 25 ≤ c = grind (arith, nat_tests, t) in (
            c - 23,
            omega arith,
            omega (arith, far),
            λ i a u. before i (omega (arith, a, far)) (omega (arith, u, far)),
          )

  abbrev LetsClockGo : Link Wire → Type 0
  LetsClockGo l = (drive l).clk ≡ true

  ends : (c : ℕ) (bits : List Bool) (l : Link Wire) → Rel c l (M c) → M c ≡ Takes bits → length bits ≡ 10 → LetsClockGo l
  ends c bits Free r m ten = refl
  ends c bits (Hold s) r m ten = absurd (too_long c bits r.1 m ten)
    where
      too_long : (c : ℕ) (bits : List Bool) → ((b : List Bool) × (M c ≡ Takes b) × (length b < 10)) → M c ≡ Takes bits
          → length bits ≡ 10 → ⊥
      too_long c bits (b, e, few) m ten =
          let same : length b ≡ length bits = ap length_of (sym e ∙ m) in omega (arith, same, few, ten)
  ends c bits (Ask byte s) r m ten = absurd (too_long c bits r.1 m ten)
    where
      too_long : (c : ℕ) (bits : List Bool) → ((b : List Bool) × (M c ≡ Takes b) × (length b < 10)) → M c ≡ Takes bits
          → length bits ≡ 10 → ⊥
      too_long c bits (b, e, few) m ten =
          let same : length b ≡ length bits = ap length_of (sym e ∙ m) in omega (arith, same, few, ten)
  ends c bits (Request byte) r m ten = refl
  ends c bits (Busy (Recv flip b)) r m ten = refl
  ends c bits (Busy (Send byte n)) r m ten = refl

  sends : (c byte falls : ℕ) (l : Link Wire) → Rel c l (M c) → M c ≡ Gives byte falls → LetsClockGo l
  sends c byte falls Free r m = refl
  sends c byte falls (Hold s) r m = never (ap gives (sym m ∙ r.1.1))
  sends c byte falls (Ask b s) r m = never (ap gives (sym m ∙ r.1.1))
  sends c byte falls (Request b) r m = refl
  sends c byte falls (Busy (Recv flip b)) r m = refl
  sends c byte falls (Busy (Send b n)) r m = refl

  asks : (c : ℕ) (bits : List Bool) (l : Link Wire) → Rel c l (M c) → M c ≡ Takes bits → (drive l).dat ≡ false
      → (i : ℕ) → i < c → c ≤ i + 21 → (drive (L i)).clk ≡ false
  asks c bits Free r m low i a b = never low
  asks c bits (Hold s) r m low i a b = never low
  asks c bits (Ask byte s) r m low i a b = never low
  asks c bits (Request byte) (inl g) m low i a b = never (ap gives (sym g ∙ m))
  asks c bits (Request byte) (inr h) m low i a b = h.1 i a (omega (arith, b))
  asks c bits (Busy (Recv flip b)) r m low i a u = never low
  asks c bits (Busy (Send byte n)) r m low i a b = never (ap gives (sym r.0 ∙ m))

  holds : (c byte : ℕ) (l : Link Wire) → Rel c l (M c) → M c ≡ Gives byte 0 → (drive l).dat ≡ false
  holds c byte Free r m = never (ap gives (sym m ∙ r))
  holds c byte (Hold s) r m = never (ap gives (sym m ∙ r.1.1))
  holds c byte (Ask b s) r m = never (ap gives (sym m ∙ r.1.1))
  holds c byte (Request b) r m = refl
  holds c byte (Busy (Recv flip b)) r m = never (ap gives (sym m ∙ r.0))
  holds c byte (Busy (Send b n)) r m =
      absurd (let same : 0 ≡ n = ap falls_of (sym m ∙ r.0) in let l : 1 ≤ n = r.1 in omega (arith, same, l))

  puts : (c byte falls : ℕ) (l : Link Wire) → Rel c l (M c) → M c ≡ Gives byte (suc falls)
      → (drive l).dat ≡ frame_bit byte (suc falls)
  puts c byte falls Free r m = never (ap gives (sym m ∙ r))
  puts c byte falls (Hold s) r m = never (ap gives (sym m ∙ r.1.1))
  puts c byte falls (Ask b s) r m = never (ap gives (sym m ∙ r.1.1))
  puts c byte falls (Request b) (inl g) m =
      absurd (let same : suc falls ≡ 0 = ap falls_of (sym m ∙ g) in omega (arith, same))
  puts c byte falls (Request b) (inr h) m = never (ap gives (sym m ∙ h.0))
  puts c byte falls (Busy (Recv flip b)) r m = never (ap gives (sym m ∙ r.0))
  puts c byte falls (Busy (Send b n)) r m =
      let same : Gives b n ≡ Gives byte (suc falls) = sym r.0 ∙ m in
      let bytes : b ≡ byte = ap byte_in_mode same in
      let count : n ≡ suc falls = ap falls_of same in
      ap (λ n. frame_bit b n) count ∙ ap (λ b. frame_bit b (suc falls)) bytes

  -- if it is asked to send bytes alone, the controller keeps the rules of a host
  pub keeps_rules : ((c : ℕ) → asked_by (L c) < 256) → IsRuleful W
  keeps_rules small = record {
    long = long;
    sends = λ c byte falls m. sends c byte falls (L c) (tied c) m;
    asks = λ c bits m low. asks c bits (L c) (tied c) m low;
    holds = λ c byte m. holds c byte (L c) (tied c) m;
    puts = λ c byte falls i m fall late after. puts (c + i) byte falls (L (c + i)) (tied (c + i)) after;
    reads = λ c level fall h.
        let z : c ≡ c + 0 = omega arith in ap (λ i. (W.seen i).dat) z ∙ h 0 (omega arith);
    bytes = small;
  }

  -- it counts eleven falls
  pub keeps_end : Ends Eleventh W
  keeps_end c i nine ten m l fall far after all = ends (c + i) ten (L (c + i)) (tied (c + i)) after all

-- the controller keeps the rules of a host that counts eleven falls, whatever the keyboard and the PC do
pub controller_keeps : ControllerLaw
controller_keeps keyboard happens lines high bytes = (
  wires keyboard happens lines high,
  keeps_rules keyboard happens lines high (requests_bytes happens bytes),
  keeps_end keyboard happens lines high,
)
