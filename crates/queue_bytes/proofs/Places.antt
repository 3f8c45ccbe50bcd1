-- Edges are put at their places, one after another, and taken from them.
use Rattle.std.proofs.Common.{◌≡◌, ◌<◌, ℕ, zero, suc, ◌+◌, ◌*◌, ◌-◌, List, [], ◌∷◌, ◌++◌, length, take, drop, get_or, set, map}
use Rattle.std.proofs.Common.{refl, ap, sym, ◌∙◌, append_assoc, arith}
use Rattle.std.specs.Prelude.{replicate}
use Rattle.std.proofs.lemmas.List.{drop-drop, drop-replicate, drop_all, drop_more, take_more_set, replicate-append-replicate}
use Rattle.board_terms.specs.declared.event.Edge.{Edge}
use Rattle.edge_queue.specs.Calls.{edge_of}
use Rattle.edge_queue.specs.declared.queue.Pushed.{Pushed}
use Rattle.joint_bytes.specs.Lists.{edge_bytes, edge_in, edges_bytes, edges_in}
use Rattle.joint_bytes.proofs.Pushed.{later_is}
use Rattle.queue_bytes.specs.Saved.{pushed_of}

next_bytes : (n i : ℕ) (es : List Pushed) (d : Pushed) → i < length es → i < n
    → edges_bytes (n - i) (map edge_of (drop i es))
    ≡ edge_bytes (edge_of (get_or es i d)) ++ edges_bytes (n - (i + 1)) (map edge_of (drop (i + 1) es))
next_bytes n i es d l m =
    let left : n - i ≡ suc (n - (i + 1)) = omega (arith, m) in
    ap (λ k. edges_bytes k (map edge_of (drop i es))) left
    ∙ ap (λ s. edges_bytes (suc (n - (i + 1))) (map edge_of s)) (drop_more es i d l)

-- an edge more was put at its place
pub edge_put : (n i : ℕ) (es : List Pushed) (d : Pushed) (old new piece whole : List ℕ) → i < length es → i < n
    → piece ≡ edge_bytes (edge_of (get_or es i d)) → new ≡ old ++ piece
    → old ++ edges_bytes (n - i) (map edge_of (drop i es)) ≡ whole
    → new ++ edges_bytes (n - (i + 1)) (map edge_of (drop (i + 1) es)) ≡ whole
edge_put n i es d old new piece whole l m p grown was =
    let rest = edges_bytes (n - (i + 1)) (map edge_of (drop (i + 1) es)) in
    ap (λ s. s ++ rest) grown ∙ append_assoc old piece rest ∙ ap (λ s. old ++ (s ++ rest)) p
    ∙ ap (λ s. old ++ s) (sym (next_bytes n i es d l m)) ∙ was

none_left : (n : ℕ) → edges_bytes n [] ≡ replicate (10 * n) 0
none_left zero = refl
none_left (suc n) =
    let more : 10 + 10 * n ≡ 10 * suc n = omega arith in
    ap (λ s. replicate 10 0 ++ s) (none_left n) ∙ replicate-append-replicate 10 (10 * n) 0 ∙ ap (λ k. replicate k 0) more

-- what is left of zeros
pub zeros_left : (n i k : ℕ) (zeros : List ℕ) → zeros ≡ replicate (10 * n) 0 → k ≡ i
    → take (length zeros - 10 * k) (drop (10 * k) zeros) ≡ replicate (10 * (n - i)) 0
zeros_left n i k zeros all e =
    let left : 10 * n - 10 * k ≡ 10 * (n - i) = omega (arith, e) in
    later_is (10 * k) zeros ∙ ap (λ (s : List ℕ). drop (10 * k) s) all ∙ drop-replicate (10 * k) (10 * n) 0
    ∙ ap (λ (m : ℕ). replicate m 0) left

-- zeros were put at the places that are left
pub rest_put : (n i : ℕ) (es : List Pushed) (old new piece whole : List ℕ) → length es ≡ i → piece ≡ replicate (10 * (n - i)) 0
    → new ≡ old ++ piece → old ++ edges_bytes (n - i) (map edge_of (drop i es)) ≡ whole → new ≡ whole
rest_put n i es old new piece whole all p grown was =
    let none : drop i es ≡ [] = drop_all i es (omega (arith, all)) in
    grown ∙ ap (λ s. old ++ s) (p ∙ sym (none_left (n - i))) ∙ ap (λ s. old ++ edges_bytes (n - i) (map edge_of s)) (sym none) ∙ was

edges_length : (n : ℕ) (es : List Edge) → length (edges_bytes n es) ≡ 10 * n
edges_length zero es = refl
edges_length (suc n) es =
    let more : suc (suc (suc (suc (suc (suc (suc (suc (suc (suc (10 * n)))))))))) ≡ 10 * suc n = omega arith in
    ap (λ k. suc (suc (suc (suc (suc (suc (suc (suc (suc (suc k)))))))))) (edges_length n (drop 1 es)) ∙ more

-- as many bytes as 160 places have
pub all_places : (es : List Edge) → length (edges_bytes 160 es) ≡ 1600
all_places es = edges_length 160 es

one_after : (n : ℕ) (s : List ℕ) → map pushed_of (edges_in (suc n) s) ≡ map pushed_of (edges_in n s) ++ pushed_of (edge_in (drop (10 * n) s)) ∷ []
one_after zero s = refl
one_after (suc n) s =
    let more : 10 + 10 * n ≡ 10 * suc n = omega arith in
    let at : drop (10 * n) (drop 10 s) ≡ drop (10 * suc n) s = drop-drop (10 * n) 10 s ∙ ap (λ k. drop k s) more in
    ap (λ t. pushed_of (edge_in s) ∷ t) (one_after n (drop 10 s))
    ∙ ap (λ t. pushed_of (edge_in s) ∷ map pushed_of (edges_in n (drop 10 s)) ++ pushed_of (edge_in t) ∷ []) at

-- an edge more was taken from its place
pub edge_taken : (es later : List Pushed) (n : ℕ) (e : Pushed) (piece s : List ℕ) → n < length es → e ≡ pushed_of (edge_in piece)
    → piece ≡ drop (10 * n) s → later ≡ set es n e → take n es ≡ map pushed_of (edges_in n s)
    → take (n + 1) later ≡ map pushed_of (edges_in (n + 1) s)
edge_taken es later n e piece s l is at put was =
    let on : n + 1 ≡ suc n = omega arith in
    ap (λ v. take (n + 1) v) put ∙ take_more_set es n e l ∙ ap (λ v. v ++ e ∷ []) was
    ∙ ap (λ x. map pushed_of (edges_in n s) ++ x ∷ []) (is ∙ ap (λ p. pushed_of (edge_in p)) at)
    ∙ sym (one_after n s) ∙ ap (λ k. map pushed_of (edges_in k s)) (sym on)
