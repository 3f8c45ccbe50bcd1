-- The frame of a tick, by the PC's side: what is offered is sent, or cut at a look; or the controller's byte is
-- received.
use Rattle.std.proofs.Common.{◌≡◌, ◌≤◌, ◌<◌, ◌⊎◌, inl, inr, ℕ, suc, zero, ◌==◌, List, Bool, true, false, Some}
use Rattle.std.proofs.Common.{None, ◌+◌, ◌*◌, ◌&&◌, ◌||◌, not, nat_lt, refl, ap, sym, ◌∙◌, arith}
use Rattle.std.specs.declared.option.Option.{Option}
use Rattle.std.proofs.lemmas.Bool.Decides.{nat_tests}
use Rattle.board_terms.specs.declared.event.HostEvent.{HostEvent}
use Rattle.board_terms.specs.declared.lines.Lines.{Lines}
use Rattle.ctl_link.specs.declared.link.Link.{Link}
use Rattle.ctl_link.specs.declared.link.Link.TheVariants.{Free, Hold, Ask, Request, Busy}
use Rattle.ctl_wire.specs.declared.wire.Wire.{Wire}
use Rattle.bits.proofs.Every.{both}
use Rattle.law_fw_link.proofs.Lets.{lets_at}
use Rattle.law_fw_link.specs.Latch.{Frame, NoFrame, SentFrame, CutFrame, ReceivedFrame, IsLook}
use Rattle.ctl_wire.specs.Wires.{Pc}

-- free, or not
pub free_or_not : (l : Link Wire) → (l ≡ Free) ⊎ (l ≡ Free → ⊥)
free_or_not Free = inl refl
free_or_not (Hold since) = inr (λ e. absurd cc)
free_or_not (Ask b since) = inr (λ e. absurd cc)
free_or_not (Request b) = inr (λ e. absurd cc)
free_or_not (Busy x) = inr (λ e. absurd cc)

-- the first of ten tests that fails
pub record FailsFirst (f : ℕ → Bool) : Type 0 where
  pub j : ℕ
  pub below : j < 10
  pub before : (k : ℕ) → k < j → f k ≡ true
  pub fails : f j ≡ false

-- of some tests all hold, or one is the first that fails
pub first_fails : (f : ℕ → Bool) (n : ℕ) → n ≤ 10 → ((k : ℕ) → k < n → f k ≡ true) ⊎ (FailsFirst f)
first_fails f zero l = inl (λ k u. absurd (omega (arith, u)))
first_fails f (suc n) l = more (first_fails f n (omega (arith, l))) (f n) refl
  where
    more : ((k : ℕ) → k < n → f k ≡ true) ⊎ (FailsFirst f) → (b : Bool) → f n ≡ b
        → ((k : ℕ) → k < suc n → f k ≡ true) ⊎ (FailsFirst f)
    more (inr found) b is = inr found
    more (inl before) false is = inr (record { j = n; below = omega (arith, l); before = before; fails = is })
    more (inl before) true is = inl (λ k u. at k u (k == n) refl before is)
      where
        at : (k : ℕ) → k < suc n → (c : Bool) → (k == n) ≡ c → ((k : ℕ) → k < n → f k ≡ true) → f n ≡ true → f k ≡ true
        at k u true e before is = let same : k ≡ n = grind (arith, nat_tests, e) in ap f same ∙ is
        at k u false e before is = before k (grind (arith, nat_tests, e, u))

ten : 10 ≤ 10
ten = omega arith

-- the first look at which a test fails
pub record FirstLow (lets : ℕ → Bool) : Type 0 where
  pub look : ℕ
  pub is : IsLook look
  pub before : (earlier : ℕ) → IsLook earlier → earlier < look → lets earlier ≡ true
  pub low : lets look ≡ false

module _ (lets : ℕ → Bool) where
  -- the tenth cell has no second look
  abbrev second_in : ℕ → Bool
  second_in k = lets (56 + 32 * k) || not (nat_lt k 9)

  abbrev in_cell : ℕ → Bool
  in_cell k = lets (46 + 32 * k) && second_in k

  second_let : (k : ℕ) → second_in k ≡ true → k < 9 → lets (56 + 32 * k) ≡ true
  second_let k h less =
      let there : nat_lt k 9 ≡ true = grind (arith, nat_tests, less) in
      by (lets (56 + 32 * k)) refl (sym (ap (λ c. lets (56 + 32 * k) || not c) there) ∙ h)
    where
      by : (b : Bool) → lets (56 + 32 * k) ≡ b → (lets (56 + 32 * k) || false) ≡ true → lets (56 + 32 * k) ≡ true
      by true e f = e
      by false e f = absurd (let none : false ≡ true = sym (ap (λ c. c || false) e) ∙ f in cc none)

  both_let : (k : ℕ) → in_cell k ≡ true → (lets (46 + 32 * k) ≡ true) × (second_in k ≡ true)
  both_let k h = both (lets (46 + 32 * k)) (second_in k) h

  -- a second look that fails is one
  second_low : (k : ℕ) → second_in k ≡ false → (lets (56 + 32 * k) ≡ false) × (k < 9)
  second_low k h = by (lets (56 + 32 * k)) refl (nat_lt k 9) refl
    where
      by : (a : Bool) → lets (56 + 32 * k) ≡ a → (b : Bool) → nat_lt k 9 ≡ b → (lets (56 + 32 * k) ≡ false) × (k < 9)
      by true e b f = absurd (let some : true ≡ false = sym (ap (λ c. c || not (nat_lt k 9)) e) ∙ h in cc some)
      by false e true f = (e, grind (arith, nat_tests, f))
      by false e false f =
          absurd (let some : true ≡ false =
          sym (ap (λ c. c || not (nat_lt k 9)) e ∙ ap (λ c. false || not c) f) ∙ h in cc some)

  -- the looks before those of a cell
  before_cell : (j : ℕ) → lets 8 ≡ true → lets 26 ≡ true → ((k : ℕ) → k < j → in_cell k ≡ true)
      → (earlier : ℕ) → IsLook earlier → earlier < 46 + 32 * j → lets earlier ≡ true
  before_cell j first second cells earlier (inl e) l = ap lets e ∙ first
  before_cell j first second cells earlier (inr (inl e)) l = ap lets e ∙ second
  before_cell j first second cells earlier (inr (inr (k, few, inl e))) l =
      ap lets e ∙ (both_let k (cells k (omega (arith, e, l)))).0
  before_cell j first second cells earlier (inr (inr (k, few, inr (e, less)))) l =
      ap lets e ∙ second_let k (both_let k (cells k (omega (arith, e, l)))).1 less

  before_second : (j : ℕ) → ((earlier : ℕ) → IsLook earlier → earlier < 46 + 32 * j → lets earlier ≡ true)
      → lets (46 + 32 * j) ≡ true → (earlier : ℕ) → IsLook earlier → earlier < 56 + 32 * j → lets earlier ≡ true
  before_second j before high earlier is l = by (nat_lt earlier (46 + 32 * j)) refl is
    where
      by : (c : Bool) → nat_lt earlier (46 + 32 * j) ≡ c → IsLook earlier → lets earlier ≡ true
      by true e is = before earlier is (grind (arith, nat_tests, e))
      by false e (inl q) =
          let late : 46 + 32 * j ≤ earlier = grind (arith, nat_tests, e) in absurd (omega (arith, late, q))
      by false e (inr (inl q)) =
          let late : 46 + 32 * j ≤ earlier = grind (arith, nat_tests, e) in absurd (omega (arith, late, q))
      by false e (inr (inr (k, few, inl q))) =
          let late : 46 + 32 * j ≤ earlier = grind (arith, nat_tests, e) in
          let same : earlier ≡ 46 + 32 * j = omega (arith, late, l, q) in
          ap lets same ∙ high
      by false e (inr (inr (k, few, inr (q, less)))) =
          let late : 46 + 32 * j ≤ earlier = grind (arith, nat_tests, e) in absurd (omega (arith, late, l, q))

  none_before : (earlier : ℕ) → IsLook earlier → earlier < 8 → lets earlier ≡ true
  none_before earlier (inl q) l = absurd (omega (arith, q, l))
  none_before earlier (inr (inl q)) l = absurd (omega (arith, q, l))
  none_before earlier (inr (inr (k, few, inl q))) l = absurd (omega (arith, q, l))
  none_before earlier (inr (inr (k, few, inr (q, less)))) l = absurd (omega (arith, q, l))

  one_before : lets 8 ≡ true → (earlier : ℕ) → IsLook earlier → earlier < 26 → lets earlier ≡ true
  one_before first earlier (inl q) l = ap lets q ∙ first
  one_before first earlier (inr (inl q)) l = absurd (omega (arith, q, l))
  one_before first earlier (inr (inr (k, few, inl q))) l = absurd (omega (arith, q, l))
  one_before first earlier (inr (inr (k, few, inr (q, less)))) l = absurd (omega (arith, q, l))

  -- all looks, by the ten cells
  all_let : lets 8 ≡ true → lets 26 ≡ true → ((k : ℕ) → k < 10 → in_cell k ≡ true) → (look : ℕ) → IsLook look → lets look ≡ true
  all_let first second cells look (inl e) = ap lets e ∙ first
  all_let first second cells look (inr (inl e)) = ap lets e ∙ second
  all_let first second cells look (inr (inr (k, few, inl e))) = ap lets e ∙ (both_let k (cells k few)).0
  all_let first second cells look (inr (inr (k, few, inr (e, less)))) =
      ap lets e ∙ second_let k (both_let k (cells k few)).1 less

  in_frame : lets 8 ≡ true → lets 26 ≡ true → (first : FailsFirst in_cell) → FirstLow lets
  in_frame first second fails = by (lets (46 + 32 * fails.j)) refl
    where
      before : (earlier : ℕ) → IsLook earlier → earlier < 46 + 32 * fails.j → lets earlier ≡ true
      before = before_cell fails.j first second fails.before

      by : (c : Bool) → lets (46 + 32 * fails.j) ≡ c → FirstLow lets
      by false e = record { look = 46 + 32 * fails.j; is = inr (inr (fails.j, fails.below, inl refl)); before = before; low = e }
      by true e =
          let second = second_low fails.j (ap (λ c. c && second_in fails.j) (sym e) ∙ fails.fails) in
          record {
            look = 56 + 32 * fails.j;
            is = inr (inr (fails.j, fails.below, inr (refl, second.1)));
            before = before_second fails.j before e;
            low = second.0;
          }

  -- the clock is let at all looks, or there is a first that finds it low
  pub first_low : ((look : ℕ) → IsLook look → lets look ≡ true) ⊎ (FirstLow lets)
  first_low = by (lets 8) refl (lets 26) refl (first_fails in_cell 10 ten)
    where
      by : (a : Bool) → lets 8 ≡ a → (b : Bool) → lets 26 ≡ b
          → ((k : ℕ) → k < 10 → in_cell k ≡ true) ⊎ (FailsFirst in_cell)
          → ((look : ℕ) → IsLook look → lets look ≡ true) ⊎ (FirstLow lets)
      by false e b f cells = inr (record { look = 8; is = inl refl; before = none_before; low = e })
      by true e false f cells = inr (record { look = 26; is = inr (inl refl); before = one_before e; low = f })
      by true e true f (inl all) = inl (all_let e f all)
      by true e true f (inr fails) = inr (in_frame e f fails)

-- the frame of a byte that is offered: sent, or cut at the first look at which the controller pulls the clock
abbrev pub frame_offered : {C : Type 0} {f : ℕ → Bool} → ℕ → C ⊎ (FirstLow f) → Frame
frame_offered byte (inl leaves) = SentFrame byte
frame_offered byte (inr first) = CutFrame byte first.look

-- that of a free link
abbrev pub frame_free : (ℕ → Frame) → Option ℕ → Frame
frame_free offered None = NoFrame
frame_free offered (Some byte) = offered byte

-- by the link at the look at the clock
abbrev pub frame_ended : Frame → Link Wire → Frame
frame_ended free Free = free
frame_ended free (Hold since) = NoFrame
frame_ended free (Ask byte since) = NoFrame
frame_ended free (Request byte) = ReceivedFrame
frame_ended free (Busy x) = NoFrame

-- and by whether the power-on test has ended
abbrev pub frame_tested : Frame → Bool → Frame
frame_tested ended false = NoFrame
frame_tested ended true = ended

-- the frame of a tick, by the PC's side at the look at the clock
abbrev pub frame_in : List HostEvent → (Frame → ℕ → Lines) → ℕ → Pc → Bool → Option ℕ → Frame
frame_in events lines start look tests offered =
    frame_tested (frame_ended (frame_free (λ byte. frame_offered byte
    (first_low (lets_at events (lines (SentFrame byte)) start look))) offered) look.side.port.link) tests
