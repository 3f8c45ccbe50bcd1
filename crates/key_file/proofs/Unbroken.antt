-- An event that breaks no rule.
use Rattle.std.proofs.Common.{◌≡◌, ◌≤◌, ℕ, ◌+◌, Bool, true, false, cond, not, List, [], ◌∷◌, ◌++◌, None, Some, refl, ap, arith}
use Rattle.std.specs.Prelude.{is_some, nat_lt}
use Rattle.std.specs.declared.option.Option.{Option}
use Rattle.std.proofs.lemmas.Bool.Decides.{nat_tests}
use Rattle.board_terms.specs.declared.event.Edge.{Edge}
use Rattle.first_fault.specs.FirstFault.{Judgement, judge, first_broken}
use Rattle.key_file.specs.declared.event.Event.{Event}
use Rattle.key_file.specs.declared.rule.Rule.{Rule}
use Rattle.key_file.specs.declared.rule.Rule.TheVariants.{Order, Held, Dwell, Density, AfterEnd, Late, TooMany}
use Rattle.key_file.specs.Histories.{stamp_at}
use Rattle.key_file.specs.Briefs.{Brief}
use Rattle.key_file.specs.Rules.{is_down, is_held, soon_after, fourth_back, edge_judgements, key_judgements, is_too_many, judgements}

unbroken_head : (rule : Rule) (broken : Bool) (more : List (Judgement Rule))
    → first_broken (judge rule broken ∷ more) ≡ None → (broken ≡ false) × (first_broken more ≡ None)
unbroken_head rule true more h = absurd (cc)
unbroken_head rule false more h = (refl, h)

unbroken_append : (xs ys : List (Judgement Rule)) → first_broken (xs ++ ys) ≡ None → (first_broken xs ≡ None) × (first_broken ys ≡ None)
unbroken_append [] ys h = (refl, h)
unbroken_append (x ∷ xs) ys h =
    let head = unbroken_head x.rule x.broken (xs ++ ys) h in
    let rest = unbroken_append xs ys head.1 in
    (rw head.0 rest.0, rest.1)

not_soon : (rule : ℕ → ℕ → Rule) (earlier : Option Edge) (e x : Edge)
    → first_broken (soon_after rule earlier e) ≡ None → earlier ≡ Some x → x.stamp + 2240 ≤ e.stamp
not_soon rule None e x h is = absurd (cc)
not_soon rule (Some y) e x h is =
    let early = (unbroken_head (rule y.stamp e.stamp) (nat_lt e.stamp (y.stamp + 2240)) [] h).0 in
    let is_same : y ≡ x = cc in
    let same : y.stamp ≡ x.stamp = ap (λ (f : Edge). f.stamp) is_same in
    grind (arith, nat_tests, early, same)

turned : (down before : Bool) → cond down before (not before) ≡ false → down ≡ not before
turned true true h = absurd (cc)
turned true false h = refl
turned false true h = refl
turned false false h = absurd (cc)

no_end : (end : Option ℕ) → is_some end ≡ false → end ≡ None
no_end None h = refl
no_end (Some e) h = absurd (cc)

-- what any event keeps that breaks no rule
pub record Fits (before : Brief) (event : Event) : Type 0 where
  pub order : before.stamp ≤ stamp_at event
  pub in_range : stamp_at event ≤ 240000000
  pub goes_on : before.end ≡ None
  pub few : is_too_many before event ≡ false
  pub key : first_broken (key_judgements before event) ≡ None

-- an event of which no rule is broken comes in order, in range, before the end, and not too often
pub fits : (before : Brief) (event : Event) → first_broken (judgements before event) ≡ None → Fits before event
fits before event h =
    let last = judge TooMany (is_too_many before event) ∷ [] in
    let late = judge (Late (stamp_at event)) (nat_lt 240000000 (stamp_at event)) ∷ last in
    let after = judge AfterEnd (is_some before.end) ∷ late in
    let a = unbroken_head (Order before.stamp (stamp_at event)) (nat_lt (stamp_at event) before.stamp)
    (key_judgements before event ++ after) h in
    let b = unbroken_append (key_judgements before event) after a.1 in
    let c = unbroken_head AfterEnd (is_some before.end) late b.1 in
    let d = unbroken_head (Late (stamp_at event)) (nat_lt 240000000 (stamp_at event)) last c.1 in
    let e = unbroken_head TooMany (is_too_many before event) [] d.1 in
    record {
      order = grind (arith, nat_tests, a.0);
      in_range = grind (arith, nat_tests, d.0);
      goes_on = no_end before.end c.0;
      few = e.0;
      key = b.0;
    }

-- what an edge keeps besides
pub record EdgeFits (before : Brief) (e : Edge) : Type 0 where
  pub turns : e.down ≡ not (is_down (before.last e.place))
  pub dwell : (x : Edge) → before.last e.place ≡ Some x → x.stamp + 2240 ≤ e.stamp
  pub thin : (x : Edge) → fourth_back before ≡ Some x → x.stamp + 2240 ≤ e.stamp

-- an edge of which no rule is broken turns its key, 2,240 cycles or more after the key's last and after the fourth
-- before it
pub edge_fits : (before : Brief) (e : Edge) → first_broken (edge_judgements before e) ≡ None → EdgeFits before e
edge_fits before e h =
    let dwell = soon_after Dwell (before.last e.place) e in
    let density = soon_after Density (fourth_back before) e in
    let a = unbroken_head Held (is_held e (before.last e.place)) (dwell ++ density) h in
    let b = unbroken_append dwell density a.1 in
    record {
      turns = turned e.down (is_down (before.last e.place)) a.0;
      dwell = λ x is. not_soon Dwell (before.last e.place) e x b.0 is;
      thin = λ x is. not_soon Density (fourth_back before) e x b.1 is;
    }
