-- Five readings after an edge of a key: the first three show anything, the last two show the key. The keyboard takes the edge at
-- one of them, and then never goes back.
use Rattle.std.proofs.Common.{◌≡◌, ◌≤◌, ℕ, Bool, true, false, not, refl, arith}
use Rattle.std.specs.Prelude.{if◌then◌else◌, nat_le}
use Rattle.model_link.specs.Debounce.{settles}

-- what has settled after each of them, if the key was `was` before and both readings before showed it so
abbrev pub after0 : Bool → Bool → Bool
after0 was x = settles was was x

abbrev pub after1 : Bool → Bool → Bool → Bool
after1 was x y = settles (after0 was x) x y

abbrev pub after2 : Bool → Bool → Bool → Bool → Bool
after2 was x y z = settles (after1 was x y) y z

abbrev pub after3 : Bool → Bool → Bool → Bool → Bool
after3 was x y z = settles (after2 was x y z) z (not was)

abbrev pub after4 : Bool → Bool → Bool → Bool → Bool
after4 was x y z = settles (after3 was x y z) (not was) (not was)

abbrev pub turned_by : Bool → ℕ → ℕ → Bool
turned_by was turn n = if nat_le turn n then not was else was

pub record Row (was x y z : Bool) : Type 0 where
  pub turn : ℕ
  pub least : 1 ≤ turn
  pub most : turn ≤ 4
  pub at0 : after0 was x ≡ turned_by was turn 0
  pub at1 : after1 was x y ≡ turned_by was turn 1
  pub at2 : after2 was x y z ≡ turned_by was turn 2
  pub at3 : after3 was x y z ≡ turned_by was turn 3
  pub at4 : after4 was x y z ≡ turned_by was turn 4

at : {was x y z : Bool} (turn : ℕ) → 1 ≤ turn → turn ≤ 4 → after0 was x ≡ turned_by was turn 0
    → after1 was x y ≡ turned_by was turn 1 → after2 was x y z ≡ turned_by was turn 2
    → after3 was x y z ≡ turned_by was turn 3 → after4 was x y z ≡ turned_by was turn 4 → Row was x y z
at turn least most a b c d e =
    record { turn = turn; least = least; most = most; at0 = a; at1 = b; at2 = c; at3 = d; at4 = e }

-- whatever the first three readings show, a key turns once, after the first of them, and has turned by the fifth
pub row : (was x y z : Bool) → Row was x y z
row true true true true = at 4 (omega arith) (omega arith) refl refl refl refl refl
row true true true false = at 3 (omega arith) (omega arith) refl refl refl refl refl
row true true false true = at 4 (omega arith) (omega arith) refl refl refl refl refl
row true true false false = at 2 (omega arith) (omega arith) refl refl refl refl refl
row true false true true = at 4 (omega arith) (omega arith) refl refl refl refl refl
row true false true false = at 3 (omega arith) (omega arith) refl refl refl refl refl
row true false false true = at 1 (omega arith) (omega arith) refl refl refl refl refl
row true false false false = at 1 (omega arith) (omega arith) refl refl refl refl refl
row false true true true = at 1 (omega arith) (omega arith) refl refl refl refl refl
row false true true false = at 1 (omega arith) (omega arith) refl refl refl refl refl
row false true false true = at 3 (omega arith) (omega arith) refl refl refl refl refl
row false true false false = at 4 (omega arith) (omega arith) refl refl refl refl refl
row false false true true = at 2 (omega arith) (omega arith) refl refl refl refl refl
row false false true false = at 4 (omega arith) (omega arith) refl refl refl refl refl
row false false false true = at 3 (omega arith) (omega arith) refl refl refl refl refl
row false false false false = at 4 (omega arith) (omega arith) refl refl refl refl refl
