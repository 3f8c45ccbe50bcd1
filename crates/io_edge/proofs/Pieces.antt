-- A text that is said piece by piece, each of whole lines, is said like the whole of it.
use Rattle.std.proofs.Common.{◌≡◌, ℕ, ◌==◌, Bool, true, false, List, [], ◌∷◌, ◌++◌, Some, None}
use Rattle.std.proofs.Common.{IfSome, refl, ap, sym, subst, ◌∙◌, ◌⊎◌, inl, inr}
use Rattle.std.specs.Prelude.{if◌then◌else◌}
use Rattle.std.proofs.lemmas.List.{append-nil, append_assoc}
use Rattle.std.specs.declared.option.Option.{Option}
use Rattle.io_edge.specs.Faults.{Rose}
use Rattle.io_edge.specs.MemorySink.{HeldBytes}
use Rattle.io_edge.specs.Said.{IsBrokenOff, IsSaid, Offered, Shown, TakesAll, TakesPart, all_offered, lines_in, offered, onto_first, said}
use Rattle.io_edge.proofs.Takes.{all_of_none, all_then_all, all_then_part, part_of_more}

-- a text ends with LF
abbrev pub EndsLine : List ℕ → Type 0
EndsLine text = (front : List ℕ) × (text ≡ front ++ 10 ∷ [])

-- it is of whole lines
abbrev pub AreLines : List ℕ → Type 0
AreLines text = (text ≡ []) ⊎ EndsLine text

-- a text that ends with a line's end does so after any other text
pub ends_afterwards : (front text : List ℕ) → EndsLine text → EndsLine (front ++ text)
ends_afterwards front text h = (front ++ h.0, ap (λ v. front ++ v) h.1 ∙ sym (append_assoc front h.0 (10 ∷ [])))

-- whole lines and then whole lines are whole lines
pub lines_after : (a b : List ℕ) → AreLines a → AreLines b → AreLines (a ++ b)
lines_after a b first (inr second) = inr (ends_afterwards a b second)
lines_after a b first (inl none) = subst AreLines (sym (ap (λ v. a ++ v) none ∙ append-nil a)) first

-- a text that ends with LF has a line
by_first : (byte : ℕ) (lf : Bool) (lines : List (List ℕ)) → (l : List ℕ) × (ls : List (List ℕ))
    × ((if lf then (byte ∷ []) ∷ lines else onto_first byte lines) ≡ l ∷ ls)
by_first byte true lines = (byte ∷ [], lines, refl)
by_first byte false [] = (byte ∷ [], [], refl)
by_first byte false (line ∷ lines) = (byte ∷ line, lines, refl)

has_line : (front : List ℕ) → (l : List ℕ) × (ls : List (List ℕ)) × (lines_in (front ++ 10 ∷ []) ≡ l ∷ ls)
has_line [] = (10 ∷ [], [], refl)
has_line (byte ∷ front) = by_first byte (byte == 10) (lines_in (front ++ 10 ∷ []))

onto_more : (byte : ℕ) (all l : List (List ℕ)) (more : List (List ℕ)) (first : List ℕ) → all ≡ first ∷ l
    → onto_first byte (all ++ more) ≡ onto_first byte all ++ more
onto_more byte all l more first h =
    ap (λ v. onto_first byte (v ++ more)) h ∙ ap (λ v. onto_first byte v ++ more) (sym h)

-- the lines of both are the lines of one and then those of the other
parts_on : (byte : ℕ) (lf : Bool) (here more both : List (List ℕ))
    → ((first : List ℕ) × (l : List (List ℕ)) × (here ≡ first ∷ l)) → both ≡ here ++ more
    → (if lf then (byte ∷ []) ∷ both else onto_first byte both) ≡ (if lf then (byte ∷ []) ∷ here else onto_first byte here) ++ more
parts_on byte true here more both some h = ap (λ v. (byte ∷ []) ∷ v) h
parts_on byte false here more both some h = ap (onto_first byte) h ∙ onto_more byte here some.1 more some.0 some.2

parts : (front b : List ℕ) → lines_in ((front ++ 10 ∷ []) ++ b) ≡ lines_in (front ++ 10 ∷ []) ++ lines_in b
parts [] b = refl
parts (byte ∷ front) b =
    parts_on byte (byte == 10) (lines_in (front ++ 10 ∷ [])) (lines_in b) (lines_in ((front ++ 10 ∷ []) ++ b))
    (has_line front) (parts front b)

lines_of_both : (a b : List ℕ) → AreLines a → lines_in (a ++ b) ≡ lines_in a ++ lines_in b
lines_of_both a b (inl none) = ap (λ v. lines_in (v ++ b)) none ∙ sym (ap (λ v. lines_in v ++ lines_in b) none)
lines_of_both a b (inr ends) = ap (λ v. lines_in (v ++ b)) ends.1 ∙ parts ends.0 b ∙ ap (λ v. lines_in v ++ lines_in b) (sym ends.1)

-- pieces and then others
abbrev go_on : Offered → List (List ℕ) → Offered
go_on here more = if here.failed then here else all_offered more here.sink

if_again : (failed : Bool) (here next : Offered) (more : List (List ℕ)) → here.failed ≡ failed
    → (if failed then here else go_on next more) ≡ go_on (if failed then here else next) more
if_again true here next more h = sym (ap (λ b. if b then here else all_offered more here.sink) h)
if_again false here next more h = refl

offered_both : (xs ys : List (List ℕ)) (sink : HeldBytes) → all_offered (xs ++ ys) sink ≡ go_on (all_offered xs sink) ys
offered_both [] ys sink = refl
offered_both (x ∷ xs) ys sink =
    let here = offered x sink in
    ap (λ v. if here.failed then here else v) (offered_both xs ys here.sink)
    ∙ if_again here.failed here (all_offered xs here.sink) ys refl

said_both : (a b : List ℕ) (sink : HeldBytes) → AreLines a → said (a ++ b) sink ≡ go_on (said a sink) (lines_in b)
said_both a b sink h = ap (λ v. all_offered v sink) (lines_of_both a b h) ∙ offered_both (lines_in a) (lines_in b) sink

went_on : (here : Offered) (more : List (List ℕ)) → here.failed ≡ false → go_on here more ≡ all_offered more here.sink
went_on here more h = ap (λ b. if b then here else all_offered more here.sink) h

stopped : (here : Offered) (more : List (List ℕ)) → here.failed ≡ true → go_on here more ≡ here
stopped here more h = ap (λ b. if b then here else all_offered more here.sink) h

-- how a text is to a sink that shows itself
abbrev pub HoldsLines : Bool → Option HeldBytes → Option HeldBytes → List ℕ → Type 0
HoldsLines failed before after text =
    IfSome before (λ sink. (after ≡ Some (said text sink).sink) × ((said text sink).failed ≡ failed))

holds_then : (failed : Bool) (x y z : Option HeldBytes) (a b : List ℕ) → AreLines a → HoldsLines false x y a
    → HoldsLines failed y z b → HoldsLines failed x z (a ++ b)
holds_then failed None y z a b lines first second = tt
holds_then failed (Some sink) y z a b lines first second =
    let next = (said a sink).sink in
    let rest : HoldsLines failed (Some next) z b = subst (λ (o : Option HeldBytes). HoldsLines failed o z b) first.0 second in
    let both : said (a ++ b) sink ≡ said b next = said_both a b sink lines ∙ went_on (said a sink) (lines_in b) first.1 in
    (rest.0 ∙ ap (λ (o : Offered). Some o.sink) (sym both), ap (λ (o : Offered). o.failed) both ∙ rest.1)

holds_broken : (x z : Option HeldBytes) (a b : List ℕ) → AreLines a → HoldsLines true x z a → HoldsLines true x z (a ++ b)
holds_broken None z a b lines h = tt
holds_broken (Some sink) z a b lines h =
    let both : said (a ++ b) sink ≡ said a sink = said_both a b sink lines ∙ stopped (said a sink) (lines_in b) h.1 in
    (h.0 ∙ ap (λ (o : Offered). Some o.sink) (sym both), ap (λ (o : Offered). o.failed) both ∙ h.1)

holds_none : (x : Option HeldBytes) → HoldsLines false x x []
holds_none None = tt
holds_none (Some sink) = (refl, refl)

both_reported : (failed : Bool) (before after : Option HeldBytes) (text : List ℕ) → IfSome before (λ sink. (said text sink).failed ≡ failed)
    → IfSome before (λ sink. after ≡ Some (said text sink).sink) → HoldsLines failed before after text
both_reported failed None after text h k = tt
both_reported failed (Some sink) after text h k = (k, h)

-- what `say` answers
pub is_said : (before after : Shown) (text : List ℕ) → TakesAll before.taken after.taken text → after.faults ≡ before.faults
    → IfSome before.in_memory (λ sink. (said text sink).failed ≡ false)
    → IfSome before.in_memory (λ sink. after.in_memory ≡ Some (said text sink).sink) → IsSaid before after text
is_said before after text all steady stood so =
    record { all = all; steady = steady; lines = both_reported false before.in_memory after.in_memory text stood so }

-- a text of which a put failed is broken off, with what the sink took before
pub is_broken : (before after : Shown) (text : List ℕ) → TakesPart before.taken after.taken text → Rose before.faults after.faults
    → IfSome before.in_memory (λ sink. (said text sink).failed ≡ true)
    → IfSome before.in_memory (λ sink. after.in_memory ≡ Some (said text sink).sink) → IsBrokenOff before after text
is_broken before after text part rose failed so =
    record { part = part; failed = rose; lines = both_reported true before.in_memory after.in_memory text failed so }

-- nothing is said
pub none_said : (x : Shown) → IsSaid x x []
none_said x = record { all = all_of_none x.taken; steady = refl; lines = holds_none x.in_memory }

-- lines are said, and then a text behind them
pub said_then_said : (x y z : Shown) (a b : List ℕ) → AreLines a → IsSaid x y a → IsSaid y z b → IsSaid x z (a ++ b)
said_then_said x y z a b lines h k = record {
  all = all_then_all x.taken y.taken z.taken a b h.all k.all;
  steady = k.steady ∙ h.steady;
  lines = holds_then false x.in_memory y.in_memory z.in_memory a b lines h.lines k.lines;
}

-- or it is broken off, in what comes behind them or already in them
pub said_then_broken : (x y z : Shown) (a b : List ℕ) → AreLines a → IsSaid x y a → IsBrokenOff y z b → IsBrokenOff x z (a ++ b)
said_then_broken x y z a b lines h k = record {
  part = all_then_part x.taken y.taken z.taken a b h.all k.part;
  failed = subst (λ n. Rose n z.faults) h.steady k.failed;
  lines = holds_then true x.in_memory y.in_memory z.in_memory a b lines h.lines k.lines;
}

-- if the first of two texts is broken off, so is the whole
pub broken_before : (x z : Shown) (a b : List ℕ) → AreLines a → IsBrokenOff x z a → IsBrokenOff x z (a ++ b)
broken_before x z a b lines h = record {
  part = part_of_more x.taken z.taken a b h.part;
  failed = h.failed;
  lines = holds_broken x.in_memory z.in_memory a b lines h.lines;
}
