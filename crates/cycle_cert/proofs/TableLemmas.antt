-- One more certified place.
use Rattle.std.proofs.Common.{zero, suc, All, ◌≡◌, ◌≢◌, ◌<◌, ℕ, List, [], ◌∷◌, ◌++◌, Bool, true, false, ◌==◌, if◌then◌else◌, Some, None}
use Rattle.std.proofs.Common.{length, get_or, set, refl, sym, ◌∙◌, ap, subst, arith, get_or-set_same, get_or-set_other}
use Rattle.std.proofs.lemmas.Bool.Decides.{nat_tests}
use Rattle.std.proofs.lemmas.List.{length-set}
use Rattle.std.proofs.lemmas.List.Elements.{All-append}
use Rattle.std.specs.declared.option.Option.{Option}
use Rattle.cycle_cert.specs.declared.bound.Bound.{Bound}
use Rattle.cycle_cert.specs.declared.certificate.Entry.{Entry}
use Rattle.cycle_cert.specs.Certificates.{bound_in}
use Rattle.cycle_cert.specs.Tables.{IsWithin, IsTable}

abbrev or_else : Option Bound → Option Bound → Option Bound
or_else (Some b) o = Some b
or_else None o = o

or_none : (o : Option Bound) → or_else o None ≡ o
or_none (Some b) = refl
or_none None = refl

one_more_by : (k : Bool) (b : Bound) (x y o : Option Bound) → x ≡ or_else y o
    → (if k then Some b else x) ≡ or_else (if k then Some b else y) o
one_more_by true b x y o e = refl
one_more_by false b x y o e = e

-- the bounds with one more entry after the others
one_more : (es : List Entry) (e : Entry) (p : ℕ)
    → bound_in (es ++ e ∷ []) p ≡ or_else (bound_in es p) (if e.place == p then Some e.bound else None)
one_more [] e p = refl
one_more (x ∷ es) e p =
    one_more_by (x.place == p) x.bound (bound_in (es ++ e ∷ []) p) (bound_in es p)
    (if e.place == p then Some e.bound else None) (one_more es e p)

low_by : (o : Option Bound) (k : Bool) (e b : Bound) → or_else o (if k then Some e else None) ≡ Some b
    → (o ≡ Some b → b.register < 8) → e.register < 8 → b.register < 8
low_by (Some a) k e b is earlier l = earlier is
low_by None true e b is earlier l = let s : e ≡ b = cc in subst (λ v. v.register < 8) s l
low_by None false e b is earlier l = absurd cc

same_by : (es : List Entry) (bounds : List (Option Bound)) (e : Entry) → IsTable es bounds → e.place < 2048 → bound_in es e.place ≡ None
    → (p : ℕ) → p < 2048 → (k : Bool) → (e.place == p) ≡ k
    → get_or (set bounds e.place (Some e.bound)) p None ≡ or_else (bound_in es p) (if k then Some e.bound else None)
same_by es bounds e t within fresh p l true h =
    let s : e.place ≡ p = grind (arith, nat_tests, h) in
    let long = t.long in
    let lt : e.place < length bounds = omega (arith, long, within) in
    let here : get_or (set bounds e.place (Some e.bound)) e.place None ≡ Some e.bound = rw get_or-set_same in
    let there : or_else (bound_in es e.place) (Some e.bound) ≡ Some e.bound = ap (λ o. or_else o (Some e.bound)) fresh in
    subst (λ q. get_or (set bounds e.place (Some e.bound)) q None ≡ or_else (bound_in es q) (Some e.bound)) s (here ∙ sym there)
same_by es bounds e t within fresh p l false h =
    let ne : p ≢ e.place = grind (arith, nat_tests, h) in
    let other : get_or (set bounds e.place (Some e.bound)) p None ≡ get_or bounds p None = rw get_or-set_other in
    other ∙ t.same p l ∙ sym (or_none (bound_in es p))

single : (e : Entry) → e.place < 2048 → All IsWithin (e ∷ [])
single e h zero d l = h
single e h (suc k) d l = absurd (omega (arith, l))

-- with one more entry, at a place that has none, the table is that of the entries
pub IsTable-add : (es : List Entry) (bounds : List (Option Bound)) (e : Entry) → IsTable es bounds → e.place < 2048 → e.bound.register < 8
    → bound_in es e.place ≡ None → IsTable (es ++ e ∷ []) (set bounds e.place (Some e.bound))
IsTable-add es bounds e t within small fresh = record {
  within = All-append IsWithin es (e ∷ []) t.within (single e within);
  long = length-set bounds e.place (Some e.bound) ∙ t.long;
  same = λ p l. same_by es bounds e t within fresh p l (e.place == p) refl ∙ sym (one_more es e p);
  low = λ p b is. low_by (bound_in es p) (e.place == p) e.bound b (sym (one_more es e p) ∙ is) (λ f. t.low p b f) small;
}
