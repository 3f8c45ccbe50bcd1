-- Two runs from one past end alike.
use Rattle.std.proofs.Common.{◌≡◌, ◌≤◌, ◌<◌, ◌^◌, ℕ, suc, ◌+◌, Bool, true, false, leb, ltb}
use Rattle.std.proofs.Common.{Some, None, refl, ap, sym, subst, ◌∙◌, inl, inr, arith}
use Rattle.std.specs.Prelude.{IfSome, MatchOption}
use Rattle.std.specs.declared.option.Option.{Option}
use Rattle.std.proofs.lemmas.Bool.Decides.{nat_tests}
use Rattle.law_live_agrees.proofs.Ends.{from_here, later_cycle, no_state, same_cycle, same_place}
use Rattle.law_live_agrees.specs.Law.{RunsEndAlike}
use Rattle.live_board.proofs.Stepping.{here}
use Rattle.live_board.specs.Pasts.{Past, gone_on}
use Rattle.live_board.specs.Running.{AreBefore, AreFew, AreUnmet, EndsSo, HasRun, IsAtLimit, IsWithin, is_met, met_at}
use Rattle.live_board.specs.States.{HasPast}
use Rattle.live_board.specs.declared.parts.Parts.{Parts as Keyboard}
use Rattle.live_board.specs.declared.ran.RunEnd.{RunEnd}
use Rattle.live_board.specs.declared.ran.RunEnd.TheVariants as ends
use Rattle.live_board.specs.declared.stops.Met.{Met}
use Rattle.live_board.specs.declared.stops.Stops.{Stops}
use Rattle.mcs48_core.specs.declared.stepping.Stuck.{Stuck as Place}

-- a test isn't both true and false
both_ways : (x : Bool) → x ≡ true → x ≡ false → ⊥
both_ways x h g = let e : true ≡ false = sym h ∙ g in absurd cc

-- a limit of steps that is reached is no less than where it counts from
limit_forth : (from to : ℕ) (steps : Option ℕ) → MatchOption steps ⊥ (λ most. to ≡ from + most) → from ≤ to
limit_forth from to None h = absurd h
limit_forth from to (Some most) h = omega (arith, h)

-- one that another run doesn't pass is no less than where that run is
limit_kept : (from to later : ℕ) (steps : Option ℕ) → MatchOption steps ⊥ (λ most. to ≡ from + most)
    → IfSome steps (λ most. later ≤ from + most) → later ≤ to
limit_kept from to later None h few = absurd h
limit_kept from to later (Some most) h few = omega (arith, h, few)

-- and one that another run hasn't reached is more than that
limit_left : (from to later : ℕ) (steps : Option ℕ) → MatchOption steps ⊥ (λ most. to ≡ from + most)
    → IfSome steps (λ most. later < from + most) → later < to
limit_left from to later None h few = absurd h
limit_left from to later (Some most) h few = omega (arith, h, few)

-- a run doesn't end before the state from which it began
module _ (stops : Stops) (p : Past) (a : Keyboard) (cycles : ℕ) (steps : Option ℕ) (s : HasPast p a) where
  goes_forth : (k : Keyboard) (x : RunEnd) (e : HasPast (gone_on p k.joint.steps) k)
      → EndsSo stops p a cycles steps x k → k.joint.cycle < 2 ^ 62 → (b : Bool) → leb a.joint.steps k.joint.steps ≡ b
      → a.joint.steps ≤ k.joint.steps
  goes_forth k x e h near true is = grind (arith, nat_tests, is)
  goes_forth k ends.Passed e h near false is = elim h.0 [
    | inl far ↦
        let less : k.joint.steps < a.joint.steps = grind (arith, nat_tests, is) in
        let early = later_cycle p k.joint.steps a.joint.steps e.world s.world less (here (gone_on p k.joint.steps) k e)
        (from_here p a s) in
        let one = s.in_run.cycle in
        let two = e.in_run.cycle in
        absurd (omega (arith, early, one, two, far))
    | inr all ↦ limit_forth a.joint.steps k.joint.steps steps all
  ]
  goes_forth k (ends.Met what) e h near false is = let last = h.1 in let from = h.2 in omega (arith, last, from)
  goes_forth k ends.LastCycle e h near false is = let far = h.0 in absurd (omega (arith, far, near))
  goes_forth k (ends.Stuck q) e h near false is =
      let less : suc k.joint.steps ≤ a.joint.steps = grind (arith, nat_tests, is) in
      absurd (no_state p (suc k.joint.steps) a.joint.steps s.world (from_here p a s) less h.0)

-- no step before the last meets what the run is to stop for
unmet_before : (stops : Stops) (p : Past) (b d : Keyboard) (cycles : ℕ) (steps : Option ℕ) (y : RunEnd)
    → EndsSo stops p b cycles steps y d → (j : ℕ) → b.joint.steps ≤ j → suc j < d.joint.steps
    → is_met (met_at stops p j) ≡ false
unmet_before stops p b d cycles steps ends.Passed g j l u = g.1 j l (omega (arith, u))
unmet_before stops p b d cycles steps (ends.Met what) g j l u =
    let end : d.joint.steps ≡ suc g.0 = g.1 in g.3 j l (omega (arith, u, end))
unmet_before stops p b d cycles steps ends.LastCycle g j l u = g.2 j l (omega (arith, u))
unmet_before stops p b d cycles steps (ends.Stuck q) g j l u = g.3 j l (omega (arith, u))

-- two runs from one past
module _ (stops : Stops) (p : Past) (a b c d : Keyboard) (cycles : ℕ) (steps : Option ℕ) (s : HasPast p a) (t : HasPast p b)
    (near : c.joint.cycle < 2 ^ 62) where
  same_begin : a.joint.steps ≡ b.joint.steps
  same_begin = s.steps ∙ sym t.steps

  -- the second doesn't go on from where the first ended
  none_longer : (x y : RunEnd) (e : HasPast (gone_on p c.joint.steps) c) (f : HasPast (gone_on p d.joint.steps) d)
      → EndsSo stops p a cycles steps x c → EndsSo stops p b cycles steps y d
      → AreBefore p b.joint.steps d.joint.steps (b.joint.cycle + cycles) → AreFew b steps d
      → c.joint.steps < d.joint.steps → ⊥
  none_longer ends.Passed y e f h g before few less = elim h.0 [
    | inl far ↦
        let same = same_begin in
        let begun = goes_forth stops p a cycles steps s c ends.Passed e h near (leb a.joint.steps c.joint.steps) refl in
        let soon = before c.joint.steps e.world (omega (arith, begun, same)) less (here (gone_on p c.joint.steps) c e) in
        let one = e.in_run.cycle in
        let at = same_cycle p a b s t in
        omega (arith, soon, far, one, at)
    | inr all ↦
        let most = limit_kept b.joint.steps c.joint.steps d.joint.steps steps
        (subst (λ n. MatchOption steps ⊥ (λ most. c.joint.steps ≡ n + most)) same_begin all) few in
        omega (arith, most, less)
  ]
  none_longer (ends.Met what) y e f h g before few less =
      let same = same_begin in
      let end : c.joint.steps ≡ suc h.0 = h.1 in
      let first : a.joint.steps ≤ h.0 = h.2 in
      both_ways (is_met (met_at stops p h.0)) (ap is_met h.4 ∙ h.5)
      (unmet_before stops p b d cycles steps y g h.0 (omega (arith, first, same)) (omega (arith, less, end)))
  none_longer ends.LastCycle y e f h g before few less = let far = h.0 in omega (arith, far, near)
  none_longer (ends.Stuck q) y e f h g before few less =
      no_state p (suc c.joint.steps) d.joint.steps f.world (here (gone_on p d.joint.steps) d f) (omega (arith, less)) h.0

  -- a run whose last step meets it doesn't end there for another reason
  none_unmet : (what : Met) → EndsSo stops p a cycles steps (ends.Met what) c → c.joint.steps ≡ d.joint.steps
      → AreUnmet stops p b.joint.steps d.joint.steps → ⊥
  none_unmet what h same unmet =
      let begin = same_begin in
      let end : c.joint.steps ≡ suc h.0 = h.1 in
      let first : a.joint.steps ≤ h.0 = h.2 in
      both_ways (is_met (met_at stops p h.0)) (ap is_met h.4 ∙ h.5)
      (unmet h.0 (omega (arith, first, begin)) (omega (arith, same, end)))

-- so both end after as many steps
same_steps : (stops : Stops) (p : Past) (a b c d : Keyboard) (cycles : ℕ) (steps : Option ℕ) (x y : RunEnd) → HasPast p a → HasPast p b
    → HasRun stops p a cycles steps x c → HasRun stops p b cycles steps y d → c.joint.cycle < 2 ^ 62
    → d.joint.cycle < 2 ^ 62 → c.joint.steps ≡ d.joint.steps
same_steps stops p a b c d cycles steps x y s t h g near far =
    by (ltb c.joint.steps d.joint.steps) (ltb d.joint.steps c.joint.steps) refl refl
  where
    by : (u v : Bool) → ltb c.joint.steps d.joint.steps ≡ u → ltb d.joint.steps c.joint.steps ≡ v
        → c.joint.steps ≡ d.joint.steps
    by true v k l =
        absurd (none_longer stops p a b c d cycles steps s t near x y h.has_past g.has_past h.ends g.ends g.before g.few
        (grind (arith, nat_tests, k)))
    by false true k l =
        absurd (none_longer stops p b a d c cycles steps t s far y x g.has_past h.has_past g.ends h.ends h.before h.few
        (grind (arith, nat_tests, l)))
    by false false k l = grind (arith, nat_tests, k, l)

-- a run ends at a limit or within both
none_within : (p : Past) (a b c d : Keyboard) (cycles : ℕ) (steps : Option ℕ) (s : HasPast p a) (t : HasPast p b)
    (e : HasPast (gone_on p c.joint.steps) c) (f : HasPast (gone_on p c.joint.steps) d) → c.joint.steps ≡ d.joint.steps
    → IsAtLimit a cycles steps c → IsWithin b cycles steps d → ⊥
none_within p a b c d cycles steps s t e f same (inl far) within =
    let soon = within.soon in
    let one = same_cycle p a b s t in
    let two = same_cycle (gone_on p c.joint.steps) c d e f in
    omega (arith, far, soon, one, two)
none_within p a b c d cycles steps s t e f same (inr all) within =
    let begin : a.joint.steps ≡ b.joint.steps = s.steps ∙ sym t.steps in
    let less = limit_left b.joint.steps c.joint.steps d.joint.steps steps
    (subst (λ n. MatchOption steps ⊥ (λ most. c.joint.steps ≡ n + most)) begin all) within.few in
    omega (arith, less, same)

-- and for one reason
same_reason : (stops : Stops) (p : Past) (a b c d : Keyboard) (cycles : ℕ) (steps : Option ℕ) (s : HasPast p a) (t : HasPast p b)
    (near : c.joint.cycle < 2 ^ 62) (far : d.joint.cycle < 2 ^ 62) (e : HasPast (gone_on p c.joint.steps) c)
    (f : HasPast (gone_on p c.joint.steps) d) (same : c.joint.steps ≡ d.joint.steps) (x y : RunEnd)
    → EndsSo stops p a cycles steps x c → EndsSo stops p b cycles steps y d → x ≡ y
same_reason stops p a b c d cycles steps s t near far e f same ends.LastCycle y h g =
    let k = h.0 in absurd (omega (arith, k, near))
same_reason stops p a b c d cycles steps s t near far e f same ends.Passed ends.LastCycle h g =
    let k = g.0 in absurd (omega (arith, k, far))
same_reason stops p a b c d cycles steps s t near far e f same (ends.Met what) ends.LastCycle h g =
    let k = g.0 in absurd (omega (arith, k, far))
same_reason stops p a b c d cycles steps s t near far e f same (ends.Stuck q) ends.LastCycle h g =
    let k = g.0 in absurd (omega (arith, k, far))
same_reason stops p a b c d cycles steps s t near far e f same ends.Passed ends.Passed h g = refl
same_reason stops p a b c d cycles steps s t near far e f same ends.Passed (ends.Met what) h g =
    absurd (none_unmet stops p b a d c cycles steps t s far what g (sym same) h.1)
same_reason stops p a b c d cycles steps s t near far e f same ends.Passed (ends.Stuck q) h g =
    absurd (none_within p a b c d cycles steps s t e f same h.0 g.2)
same_reason stops p a b c d cycles steps s t near far e f same (ends.Met what) ends.Passed h g =
    absurd (none_unmet stops p a b c d cycles steps s t near what h same g.1)
same_reason stops p a b c d cycles steps s t near far e f same (ends.Met what) (ends.Met that) h g =
    let one : c.joint.steps ≡ suc h.0 = h.1 in
    let two : d.joint.steps ≡ suc g.0 = g.1 in
    let last : h.0 ≡ g.0 = omega (arith, one, two, same) in
    ap (λ m. ends.Met m) (sym h.4 ∙ ap (λ n. met_at stops p n) last ∙ g.4)
same_reason stops p a b c d cycles steps s t near far e f same (ends.Met what) (ends.Stuck q) h g =
    absurd (none_unmet stops p a b c d cycles steps s t near what h same g.3)
same_reason stops p a b c d cycles steps s t near far e f same (ends.Stuck q) ends.Passed h g =
    absurd (none_within p b a d c cycles steps t s (subst (λ n. HasPast (gone_on p n) d) same f)
    (subst (λ n. HasPast (gone_on p n) c) same e) (sym same) g.0 h.2)
same_reason stops p a b c d cycles steps s t near far e f same (ends.Stuck q) (ends.Met what) h g =
    absurd (none_unmet stops p b a d c cycles steps t s far what g (sym same) h.3)
same_reason stops p a b c d cycles steps s t near far e f same (ends.Stuck q) (ends.Stuck r) h g =
    ap (λ (v : Place). ends.Stuck v) (h.1 ∙ same_place (gone_on p c.joint.steps) c d e f ∙ sym g.1)

-- two runs from one past end for one reason, after as many steps
pub runs_end_alike : RunsEndAlike
runs_end_alike stops p a b c d cycles steps x y s t h g near far =
    let same = same_steps stops p a b c d cycles steps x y s t h g near far in
    let there : HasPast (gone_on p c.joint.steps) d = subst (λ n. HasPast (gone_on p n) d) (sym same) g.has_past in
    (same_reason stops p a b c d cycles steps s t near far h.has_past there same x y h.ends g.ends, same)
