-- What is saved of a queue is loaded as this queue, or refused if an edge is at no place.
use Rattle.std.proofs.Common.{◌≡◌, ◌≤◌, ◌<◌, ◌^◌, ◌==◌, ℕ, Bool, true, false, List, ◌++◌, All, length, map, Ok, Err}
use Rattle.std.proofs.Common.{refl, ap, subst, ◌∙◌, arith}
use Rattle.std.specs.Prelude.{nat_le, slice_range, if◌then◌else◌}
use Rattle.std.specs.Int.{w64, to_le_bytes, from_le_bytes}
use Rattle.std.proofs.lemmas.Bool.Decides.{nat_tests}
use Rattle.std.proofs.lemmas.List.{take_all}
use Rattle.std.proofs.lemmas.Nat.{from_le_bytes-to_le_bytes_8}
use Rattle.board_terms.specs.Columns.{keys_in}
use Rattle.edge_queue.specs.Calls.{edge_of}
use Rattle.edge_queue.specs.Queue.{Queue}
use Rattle.edge_queue.specs.declared.queue.Pushed.{Pushed}
use Rattle.joint_bytes.specs.Lists.{edges_bytes, edges_in, have_places}
use Rattle.joint_saved.specs.Saved.{columns_of}
use Rattle.queue_bytes.specs.Saved.{are_placed, checked, have_ways, head_bytes, loaded, loaded_again, loaded_by, pushed_of, queue_in}
use Rattle.queue_bytes.specs.declared.no_queue.NoQueue.TheVariants as N
use Rattle.queue_bytes.proofs.Checked.{judged}
use Rattle.queue_bytes.proofs.Back.{edges_back, places_back, ways_back}

edges_of : (q : Queue) (e : List ℕ) → length e ≡ 1600 → slice_range (head_bytes q ++ e) 29 1629 ≡ e
edges_of q e n = take_all 1600 e (omega (arith, n))

checks : (q : Queue) (e : List ℕ) (placed : Bool) → length (head_bytes q ++ e) ≡ 1629 → length e ≡ 1600 → length q.waiting ≤ 160
    → have_places (length q.waiting) e ≡ placed → have_ways (length q.waiting) e ≡ true
    → checked (head_bytes q ++ e) ≡ judged true true true true placed true
checks q e placed all n few places ways =
    let b : List ℕ = head_bytes q ++ e in
    let count : ℕ = length q.waiting in
    let whole : (length b == 1629) ≡ true = grind (arith, nat_tests, all) in
    let fits : nat_le count 160 ≡ true = grind (arith, nat_tests, few) in
    let at_places : have_places count (slice_range b 29 1629) ≡ placed = ap (λ s. have_places count s) (edges_of q e n) ∙ places in
    let have : have_ways count (slice_range b 29 1629) ≡ true = ap (λ s. have_ways count s) (edges_of q e n) ∙ ways in
    λ i. judged (whole i) true true (fits i) (at_places i) (have i)

reads : (q : Queue) (e : List ℕ) → length e ≡ 1600 → q.ready < 2 ^ 64 → keys_in (columns_of q.down) ≡ q.down
    → map pushed_of (edges_in (length q.waiting) e) ≡ q.waiting → queue_in (head_bytes q ++ e) ≡ q
reads q e n fits keys edges =
    let b : List ℕ = head_bytes q ++ e in
    let ready : from_le_bytes w64 (to_le_bytes w64 q.ready) ≡ q.ready = from_le_bytes-to_le_bytes_8 q.ready fits in
    let waiting : map pushed_of (edges_in (length q.waiting) (slice_range b 29 1629)) ≡ q.waiting =
    ap (λ s. map pushed_of (edges_in (length q.waiting) s)) (edges_of q e n) ∙ edges in
    λ i. record { waiting = waiting i; down = keys i; ready = ready i }

ends : (placed : Bool) (b : List ℕ) (q : Queue) → queue_in b ≡ q
    → loaded_by (judged true true true true placed true) b ≡ if placed then Ok q else Err N.Place
ends true b q e = ap (λ (r : Queue). Ok r) e
ends false b q e = refl

-- the queue of these bytes
pub loads : (x e : List ℕ) (q : Queue) → x ≡ head_bytes q ++ e → e ≡ edges_bytes 160 (map edge_of q.waiting)
    → length x ≡ 1629 → length e ≡ 1600 → length q.waiting ≤ 160 → q.ready < 2 ^ 64 → keys_in (columns_of q.down) ≡ q.down
    → All (λ (p : Pushed). p.stamp < 2 ^ 64) q.waiting → loaded x ≡ loaded_again q
loads x e q is are all n few fits keys stamps =
    let count : ℕ = length q.waiting in
    let long : length (head_bytes q ++ e) ≡ 1629 = subst (λ (s : List ℕ). length s ≡ 1629) is all in
    let places = ap (λ s. have_places count s) are ∙ places_back 160 q.waiting few in
    let ways = ap (λ s. have_ways count s) are ∙ ways_back 160 q.waiting few in
    let edges = ap (λ s. map pushed_of (edges_in count s)) are ∙ edges_back 160 q.waiting few stamps in
    ap loaded is
    ∙ ap (λ r. loaded_by r (head_bytes q ++ e)) (checks q e (are_placed q.waiting) long n few places ways)
    ∙ ends (are_placed q.waiting) (head_bytes q ++ e) q (reads q e n fits keys edges)
