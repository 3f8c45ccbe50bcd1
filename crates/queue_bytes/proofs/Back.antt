-- Edges are read from their places as they were put there.
use Rattle.std.proofs.Common.{◌≡◌, ◌≤◌, ◌<◌, ◌^◌, ◌==◌, ◌&&◌, ℕ, zero, suc, Bool, true, false, List, [], ◌∷◌, All, length, map}
use Rattle.std.proofs.Common.{refl, ap, ◌∙◌, arith}
use Rattle.std.specs.Prelude.{nat_lt}
use Rattle.std.specs.Int.{w64, to_le_bytes, from_le_bytes, from_bool}
use Rattle.std.proofs.lemmas.List.Elements.{All-head, All-tail}
use Rattle.std.proofs.lemmas.Nat.{from_le_bytes-to_le_bytes_8}
use Rattle.edge_queue.specs.Calls.{edge_of}
use Rattle.edge_queue.specs.declared.queue.Pushed.{Pushed}
use Rattle.joint_bytes.specs.Lists.{edges_bytes, edges_in, have_places}
use Rattle.mcs48_bytes.proofs.Choices.{truth_read}
use Rattle.queue_bytes.specs.Saved.{are_placed, have_ways, pushed_of}

abbrev fits : Pushed → Type 0
fits e = e.stamp < 2 ^ 64

-- the edges themselves
pub edges_back : (n : ℕ) (es : List Pushed) → length es ≤ n → All (λ e. e.stamp < 2 ^ 64) es
    → map pushed_of (edges_in (length es) (edges_bytes n (map edge_of es))) ≡ es
edges_back n [] few fit = refl
edges_back zero (e ∷ es) few fit = absurd (omega (arith, few))
edges_back (suc n) (e ∷ es) few fit =
    let stamp : from_le_bytes w64 (to_le_bytes w64 e.stamp) ≡ e.stamp = from_le_bytes-to_le_bytes_8 e.stamp (All-head fits e es fit) in
    let way : (from_bool e.down == 1) ≡ e.down = truth_read e.down in
    let later = edges_back n es (omega (arith, few)) (All-tail fits e es fit) in
    λ i. record { stamp = stamp i; place = e.place; down = way i } ∷ later i

-- whether they are at places of the matrix
pub places_back : (n : ℕ) (es : List Pushed) → length es ≤ n
    → have_places (length es) (edges_bytes n (map edge_of es)) ≡ are_placed es
places_back n [] few = refl
places_back zero (e ∷ es) few = absurd (omega (arith, few))
places_back (suc n) (e ∷ es) few = ap (λ b. nat_lt e.place 96 && b) (places_back n es (omega (arith, few)))

a_way : (down : Bool) → nat_lt (from_bool down) 2 ≡ true
a_way true = refl
a_way false = refl

-- each goes down or up
pub ways_back : (n : ℕ) (es : List Pushed) → length es ≤ n → have_ways (length es) (edges_bytes n (map edge_of es)) ≡ true
ways_back n [] few = refl
ways_back zero (e ∷ es) few = absurd (omega (arith, few))
ways_back (suc n) (e ∷ es) few =
    ap (λ b. b && have_ways (length es) (edges_bytes n (map edge_of es))) (a_way e.down) ∙ ways_back n es (omega (arith, few))
