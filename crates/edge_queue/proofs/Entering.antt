-- What an array of edges and a count are, after an edge was added or the first was taken.
use Rattle.std.proofs.Common.{◌≡◌, ◌≤◌, ◌<◌, ℕ, zero, suc, ◌+◌, ◌-◌, Bool, true, false, List, [], ◌∷◌, ◌++◌, length, take, drop}
use Rattle.std.proofs.Common.{get_or, set, refl, ap, sym, ◌∙◌, arith}
use Rattle.std.specs.Prelude.{nat_le, if◌then◌else◌}
use Rattle.std.proofs.lemmas.Bool.Decides.{nat_tests}
use Rattle.std.proofs.lemmas.List.{take-append-le, take_more_set}
use Rattle.edge_queue.specs.Queue.{Queue, entered, is_full, is_repeated, pushed, time_of, without_first}
use Rattle.edge_queue.specs.declared.queue.Pushed.{Pushed}

abbrev pub queue_from : List Pushed → ℕ → List Bool → ℕ → Queue
queue_from edges count down ready = record { waiting = take count edges; down = down; ready = ready }

-- there is room in the array
pub room_left : (down : Bool) (n : ℕ) → nat_le (if down then 64 else 160) n ≡ false → n < 160
room_left true n h = grind (arith, nat_tests, h)
room_left false n h = grind (arith, nat_tests, h)

-- a push that isn't refused
pub enters : (edges : List Pushed) (count n : ℕ) (down : List Bool) (ready : ℕ) (e : Pushed)
    → is_repeated e (queue_from edges count down ready) ≡ false → is_full e.down (queue_from edges count down ready) ≡ false
    → n ≡ count → n < length edges
    → queue_from (set edges n e) (n + 1) (set down e.place e.down) ready ≡ pushed e (queue_from edges count down ready)
enters edges count n down ready e new room same l =
    let q : Queue = queue_from edges count down ready in
    ap (λ w. record { waiting = w; down = set down e.place e.down; ready = ready })
    (take_more_set edges n e l ∙ ap (λ k. take k edges ++ e ∷ []) same)
    ∙ sym (ap (λ b. if b then q else if is_full e.down q then q else entered e q) new
    ∙ ap (λ b. if b then q else entered e q) room)

take_again : (m : ℕ) (xs : List Pushed) → take (length (take m xs)) xs ≡ take m xs
take_again zero xs = refl
take_again (suc m) [] = refl
take_again (suc m) (x ∷ xs) = ap (λ v. x ∷ v) (take_again m xs)

take_few : (m : ℕ) (xs : List Pushed) → length (take m xs) ≤ length xs
take_few zero xs = omega arith
take_few (suc m) [] = omega arith
take_few (suc m) (x ∷ xs) = let few = take_few m xs in omega (arith, few)

-- the first is taken
pub removes : (debounce : Bool) (edges : List Pushed) (count : ℕ) (down : List Bool) (ready now time n : ℕ) (turned : List Pushed) (d : Pushed)
    → 0 < count → 0 < length edges → n ≡ length (take count edges) → turned ≡ drop 1 edges ++ take 1 edges
    → time ≡ time_of debounce (get_or edges 0 d).down
    → queue_from turned (n - 1) down (now + time)
    ≡ without_first debounce now (take count edges) (queue_from edges count down ready)
removes debounce [] count down ready now time n turned d some long same is takes = absurd (omega (arith, long))
removes debounce (x ∷ xs) zero down ready now time n turned d some long same is takes = absurd (omega (arith, some))
removes debounce (x ∷ xs) (suc m) down ready now time n turned d some long same is takes =
    let less : n - 1 ≡ length (take m xs) = omega (arith, same) in
    let few : length (take m xs) ≤ length xs = take_few m xs in
    ap (λ w. record { waiting = w; down = down; ready = now + time })
    (ap (λ k. take k turned) less ∙ ap (take (length (take m xs))) is ∙ take-append-le (length (take m xs)) xs (x ∷ []) few ∙ take_again m xs)
    ∙ ap (λ t. record { waiting = take m xs; down = down; ready = now + t }) takes
