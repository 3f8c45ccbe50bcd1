-- What an ear keeps of a run: its last sample is the state's, its falls are steps at whose end the clock fell; and eleven
-- falls that are a transfer are 32 cycles apart.
use Rattle.std.proofs.Common.{◌≡◌, ◌≤◌, ◌<◌, ℕ, suc, zero, ◌+◌, ◌-◌, ◌*◌, List, [], ◌∷◌, ◌++◌}
use Rattle.std.proofs.Common.{length, drop, Bool, true, false, not, ◌&&◌, ◌==◌}
use Rattle.std.proofs.Common.{Some, None, All, if◌then◌else◌, refl, ap, sym, ◌∙◌, arith, length-append}
use Rattle.std.proofs.lemmas.Bool.Decides.{nat_tests}
use Rattle.std.proofs.lemmas.List.Elements.{All-append, All-drop, All-weaker, All-nil, All-cons, All-head, All-tail}
use Rattle.std.specs.declared.option.Option.{Option}
use Rattle.bits.proofs.Every.{and-left, and-right, same_of}
use Rattle.board_terms.specs.declared.lines.Lines.{Lines}
use Rattle.run_probes.specs.Transfers.{are_spaced, are_spaced_after, completed, data_at, fall_at, is_fall}
use Rattle.run_probes.specs.Transfers.{transfer_by, transfer_in, wires_at, with_fall}
use Rattle.run_probes.specs.declared.heard.Fall.{Fall}
use Rattle.board_terms.specs.declared.transfer.Transfer.{Transfer}
use Rattle.joint_feed.specs.Stories.{Story, state_at}
use Rattle.joint_run.specs.Joint.{Beside, joint_start_of}
use Rattle.joint_run.specs.Run.{World}
use Rattle.law_wires_heard.proofs.Pulls.{Falls, comes_from, shown_at}
use Rattle.law_wires_heard.specs.Hearing.{heard_in, heard_to, sample_in}

same_world : (a b : World Beside) → Some a ≡ Some b → a ≡ b
same_world a b e = cc

-- if the clock was high and isn't now, it fell
pub high_low : (a b : Bool) → (a && not b) ≡ true → (a ≡ true) × (b ≡ false)
high_low true false h = (refl, refl)
high_low true true h = absurd cc
high_low false b h = absurd cc

module _ (s : Story) where
  -- the last sample is the state's; before the first one both wires are high, as they are at power-on
  pub last_is : (k : ℕ) (w : World Beside) → state_at s k ≡ Some w → wires_at (heard_to s k).last ≡ shown_at s w
  last_is zero w h = ap (shown_at s) (same_world (joint_start_of s.held) w h)
  last_is (suc k) w h = ap (λ o. wires_at (heard_in o (heard_to s k)).last) h

  -- one of the first k steps at whose end the clock fell, in this cycle
  pub record IsFall (k c : ℕ) : Type 0 where
    pub step : ℕ
    pub early : step < k
    pub one : World Beside
    pub next : World Beside
    pub falls : Falls s step one next
    pub cycle : next.cycle ≡ c

  later_fall : (k : ℕ) (f : Fall) → IsFall k f.cycle → IsFall (suc k) f.cycle
  later_fall k f i = let l : i.step < k = i.early in record {
    step = i.step;
    early = omega (arith, l);
    one = i.one;
    next = i.next;
    falls = i.falls;
    cycle = i.cycle;
  }

  abbrev AreFalls : ℕ → List Fall → Type 0
  AreFalls k xs = All (λ (f : Fall). IsFall k f.cycle) xs

  more : (k : ℕ) (xs : List Fall) → AreFalls k xs → AreFalls (suc k) xs
  more k xs h = All-weaker (λ (f : Fall). IsFall k f.cycle) (λ (f : Fall). IsFall (suc k) f.cycle) (later_fall k) xs h

  falls_by : (k : ℕ) (w : World Beside) → state_at s (suc k) ≡ Some w → (c : Bool)
      → is_fall (wires_at (heard_to s k).last) (shown_at s w) ≡ c → AreFalls k (heard_to s k).falls
      → AreFalls (suc k) (if c then with_fall (fall_at (sample_in w)) (heard_to s k).falls else (heard_to s k).falls)
  falls_by k w at true e h =
      let c = comes_from s k w at in
      let d = high_low (wires_at (heard_to s k).last).clk (shown_at s w).clk e in
      let xs = (heard_to s k).falls in
      let P : Fall → Type 0 = λ f. IsFall (suc k) f.cycle in
      let this : P (fall_at (sample_in w)) =
      record {
        step = k;
        early = omega arith;
        one = c.before;
        next = w;
        falls = record {
          from = c.at;
          to = at;
          high = ap (λ (l : Lines). l.clk) (sym (last_is k c.before c.at)) ∙ d.0;
          low = d.1;
        };
        cycle = refl;
      } in
      All-append P (drop (length xs - 10) xs) (fall_at (sample_in w) ∷ []) (All-drop P (length xs - 10) xs (more k xs h))
      (All-cons P (fall_at (sample_in w)) [] this (All-nil P))
  falls_by k w at false e h = more k (heard_to s k).falls h

  falls_more : (k : ℕ) (o : Option (World Beside)) → state_at s (suc k) ≡ o → AreFalls k (heard_to s k).falls
      → AreFalls (suc k) (heard_in o (heard_to s k)).falls
  falls_more k None at h = more k (heard_to s k).falls h
  falls_more k (Some w) at h = falls_by k w at (is_fall (wires_at (heard_to s k).last) (shown_at s w)) refl h

  -- the falls that an ear keeps are of steps at whose end the clock fell
  pub falls_are : (k : ℕ) → AreFalls k (heard_to s k).falls
  falls_are zero = All-nil (λ (f : Fall). IsFall 0 f.cycle)
  falls_are (suc k) = falls_more k (state_at s (suc k)) refl (falls_are k)

-- falls that are 32 cycles apart
afterwards_first : (c : ℕ) (ys : List Fall) (f : Fall) → are_spaced_after c (ys ++ f ∷ []) ≡ true → f.cycle ≡ c + 32 * (length ys + 1)
afterwards_first c [] f h = let e : f.cycle ≡ c + 32 = same_of f.cycle (c + 32) (and-left (f.cycle == c + 32) true h) in omega (arith, e)
afterwards_first c (y ∷ ys) f h =
    let first : y.cycle ≡ c + 32 = same_of y.cycle (c + 32) (and-left (y.cycle == c + 32) (are_spaced_after y.cycle (ys ++ f ∷ [])) h) in
    let rest : f.cycle ≡ y.cycle + 32 * (length ys + 1) =
    afterwards_first y.cycle ys f (and-right (y.cycle == c + 32) (are_spaced_after y.cycle (ys ++ f ∷ [])) h) in
    omega (arith, first, rest)

spaced_rest : (c : ℕ) (ys : List Fall) (f : Fall) → are_spaced_after c (ys ++ f ∷ []) ≡ true → are_spaced (ys ++ f ∷ []) ≡ true
spaced_rest c [] f h = refl
spaced_rest c (y ∷ ys) f h = and-right (y.cycle == c + 32) (are_spaced_after y.cycle (ys ++ f ∷ [])) h

-- so the one that is m places before the last is 32 m cycles before it
pub spaced_back : (P : Fall → Type 0) (ys : List Fall) (f : Fall) → are_spaced (ys ++ f ∷ []) ≡ true → All P ys → (m : ℕ) → 1 ≤ m
    → m ≤ length ys → (g : Fall) × P g × (g.cycle + 32 * m ≡ f.cycle)
spaced_back P [] f h all m l u = absurd (omega (arith, l, u))
spaced_back P (y ∷ ys) f h all m l u =
    by (m == suc (length ys)) refl (λ few. spaced_back P ys f (spaced_rest y.cycle ys f h) (All-tail P y ys all) m l few)
  where
    by : (c : Bool) → (m == suc (length ys)) ≡ c → (m ≤ length ys → (g : Fall) × P g × (g.cycle + 32 * m ≡ f.cycle))
        → (g : Fall) × P g × (g.cycle + 32 * m ≡ f.cycle)
    by true e more =
        let is : m ≡ suc (length ys) = same_of m (suc (length ys)) e in
        let far : f.cycle ≡ y.cycle + 32 * (length ys + 1) = afterwards_first y.cycle ys f h in
        (y, All-head P y ys all, omega (arith, is, far))
    by false e more = more (grind (arith, nat_tests, e, u))

-- what a sample that completes a transfer has before it
module _ (s : Story) (k : ℕ) (one next : World Beside) (from : state_at s k ≡ Some one) (to : state_at s (suc k) ≡ Some next)
    (t : Transfer) (is : completed (sample_in next) (heard_to s k) ≡ Some t) where
  abbrev xs : List Fall
  xs = (heard_to s k).falls

  abbrev f : Fall
  f = fall_at (sample_in next)

  abbrev ys : List Fall
  ys = drop (length xs - 10) xs

  falls_or_not : (c : Bool) (x : Option Transfer) → (if c then x else None) ≡ Some t → (c ≡ true) × (x ≡ Some t)
  falls_or_not true x h = (refl, h)
  falls_or_not false x h = absurd cc

  first : (is_fall (wires_at (heard_to s k).last) (shown_at s next) ≡ true) × (transfer_by (ys ++ f ∷ []) ≡ Some t)
  first = falls_or_not (is_fall (wires_at (heard_to s k).last) (shown_at s next)) (transfer_by (ys ++ f ∷ [])) is

  -- the clock falls
  pub last_falls : Falls s k one next
  last_falls =
      let d = high_low (wires_at (heard_to s k).last).clk (shown_at s next).clk first.0 in
      record {
        from = from;
        to = to;
        high = ap (λ (l : Lines). l.clk) (sym (last_is s k one from)) ∙ d.0;
        low = d.1;
      }

  spaced : ((length (ys ++ f ∷ []) == 11) && are_spaced (ys ++ f ∷ [])) ≡ true
  spaced =
      (falls_or_not ((length (ys ++ f ∷ []) == 11) && are_spaced (ys ++ f ∷ [])) (transfer_in (data_at (ys ++ f ∷ []))) first.1).0

  ten : length ys ≡ 10
  ten =
      let e : length (ys ++ f ∷ []) ≡ 11 =
      same_of (length (ys ++ f ∷ [])) 11 (and-left (length (ys ++ f ∷ []) == 11) (are_spaced (ys ++ f ∷ [])) spaced) in
      let n : length (ys ++ f ∷ []) ≡ length ys + 1 = length-append ys (f ∷ []) in
      omega (arith, e, n)

  -- and there is a fall 32 m cycles before, for m from 1 to 10
  pub fall_before : (m : ℕ) → 1 ≤ m → m ≤ 10 → (c : ℕ) × (c + 32 * m ≡ next.cycle) × IsFall s k c
  fall_before m l u =
      let P : Fall → Type 0 = λ g. IsFall s k g.cycle in
      let n : length ys ≡ 10 = ten in
      let g = spaced_back P ys f (and-right (length (ys ++ f ∷ []) == 11) (are_spaced (ys ++ f ∷ [])) spaced)
      (All-drop P (length xs - 10) xs (falls_are s k)) m l (omega (arith, n, u)) in
      (g.0.cycle, g.2, g.1)
