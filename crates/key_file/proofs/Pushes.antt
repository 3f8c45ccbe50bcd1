-- Lists of events with one event more.
use Rattle.std.proofs.Common.{◌≡◌, ◌≤◌, ◌+◌, ◌-◌, Bool, true, not, List, [], ◌∷◌, ◌++◌, length, None, Some, refl, ◌∙◌, arith, suc}
use Rattle.std.specs.Prelude.{All, nat_le}
use Rattle.std.specs.List.{last_or}
use Rattle.std.proofs.lemmas.Bool.Decides.{nat_tests}
use Rattle.board_terms.specs.declared.event.Edge.{Edge}
use Rattle.board_terms.specs.declared.event.HostEvent.{HostEvent}
use Rattle.board_terms.specs.Edges.{AreInOrder, last_of}
use Rattle.key_file.specs.Accepted.{AreHostEventsInOrder, Alternates, Dwells, IsThin}
use Rattle.key_file.specs.Briefs.{from_end}

all_tail : {X : Type 0} (P : X → Type 0) (x : X) (xs : List X) → All P (x ∷ xs) → All P xs
all_tail P x xs all = λ k d within. all (suc k) d (omega arith)

-- the stamps don't fall
pub in_order-push : (xs : List Edge) (y : Edge) → AreInOrder xs → All (λ e. e.stamp ≤ y.stamp) xs → AreInOrder (xs ++ y ∷ [])
in_order-push [] y order all = tt
in_order-push (x ∷ []) y order all = (all 0 x (omega arith), tt)
in_order-push (x ∷ z ∷ zs) y order all = (order.0, in_order-push (z ∷ zs) y order.1 (all_tail (λ e. e.stamp ≤ y.stamp) x (z ∷ zs) all))

-- events in order with one more that isn't earlier are in order
pub host_in_order-push : (xs : List HostEvent) (y : HostEvent)
    → AreHostEventsInOrder xs → All (λ e. e.stamp ≤ y.stamp) xs → AreHostEventsInOrder (xs ++ y ∷ [])
host_in_order-push [] y order all = tt
host_in_order-push (x ∷ []) y order all = (all 0 x (omega arith), tt)
host_in_order-push (x ∷ z ∷ zs) y order all =
    (order.0, host_in_order-push (z ∷ zs) y order.1 (all_tail (λ e. e.stamp ≤ y.stamp) x (z ∷ zs) all))

-- press and release of a key take turns
pub alternates-push : (down : Bool) (xs : List Edge) (y : Edge)
    → Alternates down xs → y.down ≡ not (last_of down xs) → Alternates down (xs ++ y ∷ [])
alternates-push down [] y turns turn = (turn, tt)
alternates-push down (x ∷ xs) y turns turn = (turns.0, alternates-push x.down xs y turns.1 turn)

-- a key keeps its state for a while
pub dwells-push : (xs : List Edge) (y : Edge)
    → Dwells xs → ((x : Edge) → last_or None xs ≡ Some x → x.stamp + 2240 ≤ y.stamp) → Dwells (xs ++ y ∷ [])
dwells-push [] y dwells last = tt
dwells-push (x ∷ []) y dwells last = (last x refl, tt)
dwells-push (x ∷ z ∷ zs) y dwells last = (dwells.0, dwells-push (z ∷ zs) y dwells.1 last)

-- the fourth edge from the end is the same after one edge more at the start
pub fourth-cons : (x : Edge) (xs : List Edge) → 4 ≤ length xs → from_end 4 (x ∷ xs) ≡ from_end 4 xs
fourth-cons x xs long =
    let here : nat_le 4 (length xs) ≡ true = grind (arith, nat_tests, long) in
    let more : nat_le 4 (suc (length xs)) ≡ true = grind (arith, nat_tests, long) in
    let place : suc (length xs) - 4 ≡ suc (length xs - 4) = omega arith in
    rw (here, more, place) refl

-- five edges in a row take a while
pub thin-push : (xs : List Edge) (y : Edge)
    → IsThin xs → ((x : Edge) → from_end 4 xs ≡ Some x → x.stamp + 2240 ≤ y.stamp) → IsThin (xs ++ y ∷ [])
thin-push [] y thin fourth = (tt, tt)
thin-push (a ∷ []) y thin fourth = (tt, (tt, tt))
thin-push (a ∷ b ∷ []) y thin fourth = (tt, (tt, (tt, tt)))
thin-push (a ∷ b ∷ c ∷ []) y thin fourth = (tt, (tt, (tt, (tt, tt))))
thin-push (a ∷ b ∷ c ∷ d ∷ []) y thin fourth = (fourth a refl, (tt, (tt, (tt, (tt, tt)))))
thin-push (a ∷ b ∷ c ∷ d ∷ e ∷ es) y thin fourth =
    (thin.0, thin-push (b ∷ c ∷ d ∷ e ∷ es) y thin.1 (λ x is. fourth x (fourth-cons a (b ∷ c ∷ d ∷ e ∷ es) (omega arith) ∙ is)))
