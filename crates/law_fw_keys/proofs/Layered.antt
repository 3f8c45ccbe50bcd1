-- The edges as the code goes through them, and as a list of the model's: what is in which layer.
use Rattle.law_fw_keys.proofs.Fold.{Deck, Decks, edge, edge_by, rows, columns, column, opened, with_bit, fn_cell}
use Rattle.law_fw_keys.proofs.Fold.{layer}
use Rattle.law_fw_keys.proofs.Held.{flags_same, flags_set, set_at, held_same}
use Rattle.std.proofs.Common.{◌≡◌, ◌≢◌, ◌<◌, ℕ, suc, zero, ◌+◌, ◌*◌, ◌/◌, ◌%◌, ◌^◌, ◌==◌, Bool, true, false}
use Rattle.std.proofs.Common.{if◌then◌else◌, List, [], ◌∷◌, ◌++◌, slice_set, slice_index_or, bit_and, bit_xor, refl}
use Rattle.std.proofs.Common.{ap, sym, ◌∙◌, subst, arith}
use Rattle.std.proofs.lemmas.Bool.Decides.{nat_tests}
use Rattle.bits.specs.Bits.{bit}
use Rattle.bits.proofs.Every.{tests_by}
use Rattle.std.proofs.lemmas.Nat.Bits.{bit_at_and, bit_at_xor, bit_at-pow_same, bit_at-pow_other}
use Rattle.law_fw_logic.proofs.Block.{put}
use Rattle.model_keyboard.specs.declared.edge.TickEdge.{TickEdge}
use Rattle.model_keyboard.specs.Codes.{Keys}
use Rattle.model_keyboard.specs.Keyboard.{Keyboard}
use Rattle.model_keyboard.specs.Layers.{Layers, in_layer, layer_of, layers_after, layered, all_layers_after}
use Rattle.law_fw_keys.specs.Edges.{row_edges, column_edges}
use Rattle.law_fw_keys.specs.State.{flags, down_at, held_by}

-- an edge but for the held keys, and one after another
abbrev pub one : Keys → Bool → TickEdge → Keyboard → Keyboard
one keys on e k =
    edge_by (keys.is_fn e.place) on (keys.make_only e.place) (keys.code e.on_fn e.place) e.place e.down e.on_fn k

abbrev pub each : Keys → Bool → List TickEdge → Keyboard → Keyboard
each keys on [] k = k
each keys on (e ∷ es) k = each keys on es (one keys on e k)

-- the edges of two lists, one list after the other, change the keyboard as both lists joined
pub each_more : (keys : Keys) (on : Bool) (xs ys : List TickEdge) (k : Keyboard)
    → each keys on (xs ++ ys) k ≡ each keys on ys (each keys on xs k)
each_more keys on [] ys k = refl
each_more keys on (x ∷ xs) ys k = each_more keys on xs ys (one keys on x k)

-- the layers of joined edges are those of the first list, then those of the second after it
pub layered_more : (is_fn : ℕ → Bool) (xs ys : List (ℕ × Bool)) (l : Layers)
    → layered is_fn (xs ++ ys) l ≡ layered is_fn xs l ++ layered is_fn ys (all_layers_after is_fn xs l)
layered_more is_fn [] ys l = refl
layered_more is_fn (x ∷ xs) ys l =
    ap (λ t. in_layer l x ∷ t) (layered_more is_fn xs ys (layers_after is_fn x l))

-- the layers after two lists are those after both lists joined
pub after_more : (is_fn : ℕ → Bool) (xs ys : List (ℕ × Bool)) (l : Layers)
    → all_layers_after is_fn (xs ++ ys) l ≡ all_layers_after is_fn ys (all_layers_after is_fn xs l)
after_more is_fn [] ys l = refl
after_more is_fn (x ∷ xs) ys l = after_more is_fn xs ys (layers_after is_fn x l)

-- the layers as a byte a column, as the model has them
abbrev pub layers_by : Bool → (ℕ → ℕ) → Layers
layers_by fn bytes = record { fn_down = fn; pressed_in = held_by bytes }

flag_at : (g : ℕ → Bool) (n i : ℕ) → i < n → slice_index_or (flags g n) i false ≡ g i
flag_at g zero i l = absurd (omega (arith, l))
flag_at g (suc n) zero l = refl
flag_at g (suc n) (suc i) l = flag_at (λ i. g (suc i)) n i (omega (arith, l))

-- the bits of a byte of which a row's bit was written
bit_same : (r v b : ℕ) → bit r (with_bit r v b) ≡ bit r v
bit_same r v b =
    let s = bit_at_xor (bit_and (bit_xor v b) (2 ^ r)) b r in
    let a = bit_at_and (bit_xor v b) (2 ^ r) r in
    let x = bit_at_xor v b r in
    let p = bit_at-pow_same r in
    let e : with_bit r v b / 2 ^ r % 2 ≡ v / 2 ^ r % 2 = omega (arith, s, a, x, p) in
    ap (λ n. n == 1) e

bit_other : (r j v b : ℕ) → j ≢ r → bit j (with_bit r v b) ≡ bit j b
bit_other r j v b apart =
    let s = bit_at_xor (bit_and (bit_xor v b) (2 ^ r)) b j in
    let a = bit_at_and (bit_xor v b) (2 ^ r) j in
    let p = bit_at-pow_other r j apart in
    let e : with_bit r v b / 2 ^ j % 2 ≡ b / 2 ^ j % 2 = omega (arith, s, a, p) in
    ap (λ n. n == 1) e

fn_bit : (fn : Bool) (r : ℕ) → r < 8 → bit r (fn_cell fn) ≡ fn
fn_bit true = tests_by 8 (λ r. bit r 255) (λ r. true) refl
fn_bit false = tests_by 8 (λ r. bit r 0) (λ r. false) refl

put_here : (g : ℕ → ℕ) (c v i : ℕ) → i ≡ c → put g c v i ≡ v
put_here g c v i e = let same : (i == c) ≡ true = grind (arith, nat_tests, e) in rw same refl

-- a press writes its layer at its place
module _ (bytes : ℕ → ℕ) (c r b : ℕ) (fn : Bool) (lr : r < 8) where
  abbrev written : ℕ
  written = with_bit r (fn_cell fn) b

  at_each : (i : ℕ) (col row : Bool) → (i / 8 == c) ≡ col → (i % 8 == r) ≡ row
      → down_at (put bytes c written) i ≡ set_at (down_at (put bytes c b)) (8 * c + r) fn i
  at_each i true true ec er =
      let a : i / 8 ≡ c = grind (arith, nat_tests, ec) in
      let m : i % 8 ≡ r = grind (arith, nat_tests, er) in
      let e : (i == 8 * c + r) ≡ true = (let n : i ≡ 8 * c + r = omega (arith, a, m) in grind (arith, nat_tests, n)) in
      ap (λ v. bit (i % 8) v) (put_here bytes c written (i / 8) a) ∙ ap (λ j. bit j written) m
      ∙ bit_same r (fn_cell fn) b ∙ fn_bit fn r lr
      ∙ sym (ap (λ t. if t then fn else down_at (put bytes c b) i) e)
  at_each i true false ec er =
      let a : i / 8 ≡ c = grind (arith, nat_tests, ec) in
      let m : i % 8 ≢ r = (λ x. let y : (i % 8 == r) ≡ true = grind (arith, nat_tests, x) in let z : true ≡ false =
      sym y ∙ er in absurd cc) in
      let e : (i == 8 * c + r) ≡ false = by (i == 8 * c + r) refl m in
      ap (λ v. bit (i % 8) v) (put_here bytes c written (i / 8) a) ∙ bit_other r (i % 8) (fn_cell fn) b m
      ∙ sym (ap (λ v. bit (i % 8) v) (put_here bytes c b (i / 8) a))
      ∙ sym (ap (λ t. if t then fn else down_at (put bytes c b) i) e)
    where
      by : (t : Bool) → (i == 8 * c + r) ≡ t → i % 8 ≢ r → t ≡ false
      by false e m = refl
      by true e m = absurd (m (let n : i ≡ 8 * c + r = grind (arith, nat_tests, e) in omega (arith, n, lr)))
  at_each i false row ec er =
      let e : (i == 8 * c + r) ≡ false = by (i == 8 * c + r) refl in
      ap (λ t. bit (i % 8) (if t then written else bytes (i / 8))) ec
      ∙ sym (ap (λ t. bit (i % 8) (if t then b else bytes (i / 8))) ec)
      ∙ sym (ap (λ t. if t then fn else down_at (put bytes c b) i) e)
    where
      by : (t : Bool) → (i == 8 * c + r) ≡ t → t ≡ false
      by false e = refl
      by true e =
          let n : i ≡ 8 * c + r = grind (arith, nat_tests, e) in
          let a : i / 8 ≡ c = omega (arith, n, lr) in
          let y : (i / 8 == c) ≡ true = grind (arith, nat_tests, a) in
          let z : true ≡ false = sym y ∙ ec in absurd cc

  writes : held_by (put bytes c written) ≡ slice_set (held_by (put bytes c b)) (8 * c + r) fn
  writes =
      flags_same (down_at (put bytes c written)) (set_at (down_at (put bytes c b)) (8 * c + r) fn) 96
      (λ i l. at_each i (i / 8 == c) (i % 8 == r) refl refl)
      ∙ sym (flags_set (down_at (put bytes c b)) 96 (8 * c + r) fn)

-- a release finds that of its press
finds_bit : (bytes : ℕ → ℕ) (c r b : ℕ) → c < 12 → r < 8
    → bit r b ≡ slice_index_or (held_by (put bytes c b)) (8 * c + r) false
finds_bit bytes c r b lc lr =
    let a : (8 * c + r) % 8 ≡ r = omega (arith, lr) in
    let q : (8 * c + r) / 8 ≡ c = omega (arith, lr) in
    sym (flag_at (down_at (put bytes c b)) 96 (8 * c + r) (omega (arith, lc, lr))
    ∙ ap (λ j. bit j (put bytes c b ((8 * c + r) / 8))) a
    ∙ ap (λ v. bit r v) (put_here bytes c b ((8 * c + r) / 8) q))

-- edges one after the other, and the layers behind them
pub record Runs (keys : Keys) (on : Bool) (es : List (ℕ × Bool)) (l : Layers) (k : Keyboard) (l' : Layers)
    (k' : Keyboard) : Type 0 where
  pub keyboard : k' ≡ each keys on (layered keys.is_fn es l) k
  pub layers : l' ≡ all_layers_after keys.is_fn es l

module _ (keys : Keys) (on : Bool) where
  abbrev e : ℕ → ℕ → Bool → Deck → Deck
  e = edge keys on

  module _ (bytes : ℕ → ℕ) (c : ℕ) (lc : c < 12) where
    abbrev at : Deck → Layers
    at d = layers_by d.fn (put bytes c d.byte)

    same_layer : (r : ℕ) → r < 8 → (down : Bool) (d : Deck) → layer r down d ≡ layer_of (at d) (8 * c + r) down
    same_layer r l true d = refl
    same_layer r l false d = finds_bit bytes c r d.byte lc l

    same_after : (r : ℕ) → r < 8 → (down : Bool) (d : Deck)
        → at (e (8 * c + r) r down d) ≡ layers_after keys.is_fn (8 * c + r, down) (at d)
    same_after r l true d =
        ap (λ p. record { fn_down = if keys.is_fn (8 * c + r) then true else d.fn; pressed_in = p })
        (writes bytes c r d.byte d.fn l)
    same_after r l false d = refl

    same_keyboard : (r : ℕ) → r < 8 → (down : Bool) (d : Deck)
        → (e (8 * c + r) r down d).keyboard ≡ one keys on (in_layer (at d) (8 * c + r, down)) d.keyboard
    same_keyboard r l down d =
        let q : ℕ = 8 * c + r in
        ap (λ u. edge_by (keys.is_fn q) on (keys.make_only q) (keys.code u q) q down u d.keyboard)
        (same_layer r l down d)

    row_runs : (r n ch dn : ℕ) → r < 8 → (b : Bool) → bit r ch ≡ b → (d : Deck)
        → ((d1 : Deck) → Runs keys on (row_edges (8 * c) (suc r) n ch dn) (at d1) d1.keyboard (at (rows e (8 * c)
        (suc r) n ch dn d1)) (rows e (8 * c) (suc r) n ch dn d1).keyboard)
        → Runs keys on (row_edges (8 * c) r (suc n) ch dn) (at d) d.keyboard (at (rows e (8 * c) r (suc n) ch dn d))
        (rows e (8 * c) r (suc n) ch dn d).keyboard
    row_runs r n ch dn l true is d more =
        let q : ℕ = 8 * c + r in
        let x : ℕ × Bool = (q, bit r dn) in
        let d1 : Deck = e q r (bit r dn) d in
        let rest : List (ℕ × Bool) = row_edges (8 * c) (suc r) n ch dn in
        let h = more d1 in
        let a = same_after r l (bit r dn) d in
        let all : Runs keys on (x ∷ rest) (at d) d.keyboard (at (rows e (8 * c) (suc r) n ch dn d1))
        (rows e (8 * c) (suc r) n ch dn d1).keyboard = record {
          keyboard = h.keyboard ∙ ap (λ l1. each keys on (layered keys.is_fn rest l1) d1.keyboard) a
              ∙ ap (λ k. each keys on (layered keys.is_fn rest (layers_after keys.is_fn x (at d))) k)
              (same_keyboard r l (bit r dn) d);
          layers = h.layers ∙ ap (λ l1. all_layers_after keys.is_fn rest l1) a;
        } in
        subst (λ b. Runs keys on (if b then x ∷ rest else rest) (at d) d.keyboard (at (rows e (8 * c) (suc r) n ch dn
        (if b then d1 else d))) (rows e (8 * c) (suc r) n ch dn (if b then d1 else d)).keyboard) (sym is) all
    row_runs r n ch dn l false is d more =
        let x : ℕ × Bool = (8 * c + r, bit r dn) in
        let d1 : Deck = e (8 * c + r) r (bit r dn) d in
        let rest : List (ℕ × Bool) = row_edges (8 * c) (suc r) n ch dn in
        subst (λ b. Runs keys on (if b then x ∷ rest else rest) (at d) d.keyboard (at (rows e (8 * c) (suc r) n ch dn
        (if b then d1 else d))) (rows e (8 * c) (suc r) n ch dn (if b then d1 else d)).keyboard) (sym is) (more d)

    rows_run : (r n ch dn : ℕ) → r + n ≡ 8 → (d : Deck)
        → Runs keys on (row_edges (8 * c) r n ch dn) (at d) d.keyboard (at (rows e (8 * c) r n ch dn d))
        (rows e (8 * c) r n ch dn d).keyboard
    rows_run r zero ch dn sum d = record { keyboard = refl; layers = refl }
    rows_run r (suc n) ch dn sum d =
        row_runs r n ch dn (omega (arith, sum)) (bit r ch) refl d
        (λ d1. rows_run (suc r) n ch dn (omega (arith, sum)) d1)

  put_own : (bytes : ℕ → ℕ) (c i : ℕ) (b : Bool) → (i == c) ≡ b → put bytes c (bytes c) i ≡ bytes i
  put_own bytes c i true is = let e : i ≡ c = grind (arith, nat_tests, is) in
      ap (λ t. if t then bytes c else bytes i) is ∙ sym (ap bytes e)
  put_own bytes c i false is = ap (λ t. if t then bytes c else bytes i) is

  -- first some edges, then others
  then_runs : (xs ys : List (ℕ × Bool)) (l l1 l2 : Layers) (k k1 k2 : Keyboard) → Runs keys on xs l k l1 k1
      → Runs keys on ys l1 k1 l2 k2 → Runs keys on (xs ++ ys) l k l2 k2
  then_runs xs ys l l1 l2 k k1 k2 a b =
      let is : List (ℕ × Bool) → Layers → List TickEdge = layered keys.is_fn in
      record {
        keyboard =
            b.keyboard ∙ ap (λ t. each keys on (is ys t) k1) a.layers
            ∙ ap (λ t. each keys on (is ys (all_layers_after keys.is_fn xs l)) t) a.keyboard
            ∙ sym (ap (λ t. each keys on t k) (layered_more keys.is_fn xs ys l)
            ∙ each_more keys on (is xs l) (is ys (all_layers_after keys.is_fn xs l)) k);
        layers = b.layers ∙ ap (λ t. all_layers_after keys.is_fn ys t) a.layers ∙ sym (after_more keys.is_fn xs ys l);
      }

  column_runs : (c ch dn : ℕ) → c < 12 → (b : Bool) → (ch == 0) ≡ b → (s : Decks)
      → Runs keys on (row_edges (8 * c) 0 8 ch dn) (layers_by s.fn s.bytes) s.keyboard
      (layers_by (if b then s else column e c ch dn s).fn (if b then s else column e c ch dn s).bytes)
      (if b then s else column e c ch dn s).keyboard
  column_runs c ch dn l true is s =
      let none : ch ≡ 0 = grind (arith, nat_tests, is) in
      let L : Layers = layers_by s.fn s.bytes in
      subst (λ v. Runs keys on (row_edges (8 * c) 0 8 v dn) L s.keyboard L s.keyboard) (sym none)
      (record { keyboard = refl; layers = refl })
  column_runs c ch dn l false is s =
      let h = rows_run s.bytes c l 0 8 ch dn refl (opened c s) in
      let own : layers_by s.fn (put s.bytes c (s.bytes c)) ≡ layers_by s.fn s.bytes =
      ap (λ p. record { fn_down = s.fn; pressed_in = p }) (held_same (put s.bytes c (s.bytes c)) s.bytes
      (λ i m. put_own s.bytes c i (i == c) refl)) in
      subst (λ t. Runs keys on (row_edges (8 * c) 0 8 ch dn) t s.keyboard (layers_by (column e c ch dn s).fn
      (column e c ch dn s).bytes) (column e c ch dn s).keyboard) own h

  -- the columns one after another do to keyboard and layers what the list of their edges does
  pub columns_run : (c n : ℕ) (ch dn : ℕ → ℕ) → c + n ≡ 12 → (s : Decks)
      → Runs keys on (column_edges c n ch dn) (layers_by s.fn s.bytes) s.keyboard
      (layers_by (columns e c n ch dn s).fn (columns e c n ch dn s).bytes) (columns e c n ch dn s).keyboard
  columns_run c zero ch dn sum s = record { keyboard = refl; layers = refl }
  columns_run c (suc n) ch dn sum s =
      let s1 : Decks = if ch c == 0 then s else column e c (ch c) (dn c) s in
      let s2 : Decks = columns e (suc c) n ch dn s1 in
      then_runs (row_edges (8 * c) 0 8 (ch c) (dn c)) (column_edges (suc c) n ch dn) (layers_by s.fn s.bytes)
      (layers_by s1.fn s1.bytes) (layers_by s2.fn s2.bytes) s.keyboard s1.keyboard s2.keyboard
      (column_runs c (ch c) (dn c) (omega (arith, sum)) (ch c == 0) refl s)
      (columns_run (suc c) n ch dn (omega (arith, sum)) s1)
