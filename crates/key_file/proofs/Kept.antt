-- An edge of an accepted history breaks no rule, after the edges before it.
use Rattle.std.proofs.Common.{◌≡◌, ◌≤◌, ℕ, ◌+◌, Bool, true, false, cond, not, ◌==◌, List, [], ◌∷◌, ◌++◌}
use Rattle.std.proofs.Common.{None, Some, refl, ap, sym, subst, ◌∙◌, append_assoc, arith}
use Rattle.std.specs.Prelude.{nat_lt}
use Rattle.std.specs.List.{last_or}
use Rattle.std.specs.declared.option.Option.{Option}
use Rattle.std.proofs.lemmas.Bool.Decides.{nat_tests}
use Rattle.std.proofs.lemmas.List.Elements.{filter-append}
use Rattle.board_terms.specs.declared.event.Edge.{Edge}
use Rattle.board_terms.specs.Edges.{of_place, last_of}
use Rattle.first_fault.specs.FirstFault.{Judgement, first_broken}
use Rattle.key_file.specs.declared.rule.Rule.{Rule}
use Rattle.key_file.specs.declared.rule.Rule.TheVariants.{Dwell, Density}
use Rattle.key_file.specs.Accepted.{IsLawful, Alternates, Dwells, IsThin}
use Rattle.key_file.specs.Histories.{KeyHistory, Before, last_edge}
use Rattle.key_file.specs.Briefs.{Brief, brief_of, from_end}
use Rattle.key_file.specs.Rules.{is_down, is_held, soon_after, fourth_back, edge_judgements}
use Rattle.key_file.proofs.LastEdges.{down-last}
use Rattle.key_file.proofs.Pushes.{fourth-cons}

-- the edge after others turns its key
turn_at : (down : Bool) (xs : List Edge) (e : Edge) (ys : List Edge) → Alternates down (xs ++ e ∷ ys) → e.down ≡ not (last_of down xs)
turn_at down [] e ys turns = turns.0
turn_at down (x ∷ xs) e ys turns = turn_at x.down xs e ys turns.1

-- it keeps its distance to the last of them
dwell_at : (xs : List Edge) (e : Edge) (ys : List Edge) (x : Edge)
    → Dwells (xs ++ e ∷ ys) → last_or None xs ≡ Some x → x.stamp + 2240 ≤ e.stamp
dwell_at [] e ys x dwells is = absurd (cc)
dwell_at (y ∷ []) e ys x dwells is =
    let is_same : y ≡ x = cc in
    let same : y.stamp ≡ x.stamp = ap (λ (f : Edge). f.stamp) is_same in
    omega (arith, same, dwells.0)
dwell_at (y ∷ z ∷ zs) e ys x dwells is = dwell_at (z ∷ zs) e ys x dwells.1 is

-- and to the fourth from the end
thin_at : (xs : List Edge) (e : Edge) (ys : List Edge) (x : Edge)
    → IsThin (xs ++ e ∷ ys) → from_end 4 xs ≡ Some x → x.stamp + 2240 ≤ e.stamp
thin_at [] e ys x thin is = absurd (cc)
thin_at (a ∷ []) e ys x thin is = absurd (cc)
thin_at (a ∷ b ∷ []) e ys x thin is = absurd (cc)
thin_at (a ∷ b ∷ c ∷ []) e ys x thin is = absurd (cc)
thin_at (a ∷ b ∷ c ∷ d ∷ []) e ys x thin is =
    let is_same : a ≡ x = cc in
    let same : a.stamp ≡ x.stamp = ap (λ (f : Edge). f.stamp) is_same in
    omega (arith, same, thin.0)
thin_at (a ∷ b ∷ c ∷ d ∷ f ∷ fs) e ys x thin is =
    thin_at (b ∷ c ∷ d ∷ f ∷ fs) e ys x thin.1 (sym (fourth-cons a (b ∷ c ∷ d ∷ f ∷ fs) (omega arith)) ∙ is)

-- the edges of the key of an edge
of_place-at : (xs : List Edge) (e : Edge) (ys : List Edge)
    → of_place e.place (xs ++ e ∷ ys) ≡ of_place e.place xs ++ e ∷ of_place e.place ys
of_place-at xs e ys =
    let same : (e.place == e.place) ≡ true = grind (arith, nat_tests) in
    filter-append (λ f. f.place == e.place) xs (e ∷ ys)
    ∙ ap (λ b. of_place e.place xs ++ cond b (e ∷ of_place e.place ys) (of_place e.place ys)) same

turned : (down before : Bool) → down ≡ not before → cond down before (not before) ≡ false
turned true true h = absurd (cc)
turned true false h = refl
turned false true h = refl
turned false false h = absurd (cc)

not_soon : (rule : ℕ → ℕ → Rule) (earlier : Option Edge) (e : Edge) (more : List (Judgement Rule))
    → ((x : Edge) → earlier ≡ Some x → x.stamp + 2240 ≤ e.stamp) → first_broken (soon_after rule earlier e ++ more) ≡ first_broken more
not_soon rule None e more later = refl
not_soon rule (Some x) e more later =
    let after = later x refl in
    let kept : nat_lt e.stamp (x.stamp + 2240) ≡ false = grind (arith, nat_tests, after) in
    rw kept refl

far : (rule other : ℕ → ℕ → Rule) (earlier fourth : Option Edge) (e : Edge) (more : List (Judgement Rule))
    → ((x : Edge) → earlier ≡ Some x → x.stamp + 2240 ≤ e.stamp)
    → ((x : Edge) → fourth ≡ Some x → x.stamp + 2240 ≤ e.stamp)
    → first_broken ((soon_after rule earlier e ++ soon_after other fourth e) ++ more) ≡ first_broken more
far rule other earlier fourth e more later last =
    ap first_broken (append_assoc (soon_after rule earlier e) (soon_after other fourth e) more)
    ∙ not_soon rule earlier e (soon_after other fourth e ++ more) later ∙ not_soon other fourth e more last

-- the rules of edges, where others are behind them
fits : (before : Brief) (e : Edge) (more : List (Judgement Rule)) → is_held e (before.last e.place) ≡ false
    → ((x : Edge) → before.last e.place ≡ Some x → x.stamp + 2240 ≤ e.stamp)
    → ((x : Edge) → fourth_back before ≡ Some x → x.stamp + 2240 ≤ e.stamp)
    → first_broken (edge_judgements before e ++ more) ≡ first_broken more
fits before e more held dwell thin =
    rw held (far Dwell Density (before.last e.place) (fourth_back before) e more dwell thin)

-- an edge of a lawful history breaks none of them
pub edge_unbroken : (history : KeyHistory) (before : Before) (e : Edge) (edges : List Edge)
    → IsLawful history → before.edges ++ e ∷ edges ≡ history.edges → (more : List (Judgement Rule))
    → first_broken (edge_judgements (brief_of before) e ++ more) ≡ first_broken more
edge_unbroken history before e edges lawful are more =
    let own : of_place e.place history.edges ≡ of_place e.place before.edges ++ e ∷ of_place e.place edges =
    ap (of_place e.place) (sym are) ∙ of_place-at before.edges e edges in
    let turns = turn_at false (of_place e.place before.edges) e (of_place e.place edges)
    (subst (Alternates false) own (lawful.alternate e.place)) in
    fits (brief_of before) e more
    (turned e.down (is_down (last_edge e.place before.edges)) (turns ∙ ap not (sym (down-last e.place before.edges))))
    (λ x is. dwell_at (of_place e.place before.edges) e (of_place e.place edges) x (subst Dwells own (lawful.dwell e.place)) is)
    (λ x is. thin_at before.edges e edges x (subst IsThin (sym are) lawful.thin) is)
