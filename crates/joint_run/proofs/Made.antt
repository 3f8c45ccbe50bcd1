-- The edges of a history that are made at a cycle, by those made before and those handed in.
use Rattle.std.proofs.Common.{◌≡◌, ◌≤◌, ℕ, suc, zero, ◌+◌, List, [], ◌∷◌, ◌++◌, length, take}
use Rattle.std.proofs.Common.{drop, Bool, true, false, refl, ap, sym, ◌∙◌, arith}
use Rattle.std.specs.Prelude.{if◌then◌else◌}
use Rattle.std.specs.List.{filter}
use Rattle.std.proofs.lemmas.Bool.Decides.{nat_tests}
use Rattle.std.proofs.lemmas.List.{take-append-drop}
use Rattle.std.proofs.Math.Seq.{take-add}
use Rattle.board_terms.specs.declared.event.Edge.{Edge}
use Rattle.board_terms.specs.Edges.{is_made, AreInOrder}
use Rattle.board_terms.specs.Matrix.{turned, turned_by}
use Rattle.board_terms.proofs.Shown.{later_not, tail_in_order}
use Rattle.joint_run.specs.Due.{made_first}

none_after : (cycle : ℕ) (e : Edge) (es : List Edge) → AreInOrder (e ∷ es) → is_made cycle e ≡ false → filter (is_made cycle) es ≡ []
none_after cycle e [] order h = refl
none_after cycle e (f ∷ fs) order h =
    let g : is_made cycle f ≡ false = later_not cycle e f order.0 h in
    ap (λ b. if b then f ∷ filter (is_made cycle) fs else filter (is_made cycle) fs) g ∙ none_after cycle f fs order.1 g

-- of edges in order the made ones are the first
pub first_made : (cycle : ℕ) (es : List Edge) → AreInOrder es → filter (is_made cycle) es ≡ made_first cycle es
first_made cycle [] order = refl
first_made cycle (e ∷ es) order =
    let none : List Edge = [] in
    elim (is_made cycle e) as (λ b. is_made cycle e ≡ b
    → (if b then e ∷ filter (is_made cycle) es else filter (is_made cycle) es) ≡ (if b then e ∷ made_first cycle es else none)) [
      | true ↦ λ h. ap (λ v. e ∷ v) (first_made cycle es (tail_in_order e es order))
      | false ↦ λ h. none_after cycle e es order h
    ] refl

module _ (cycle : ℕ) where
  -- after edges that are all made
  pub after_made : (xs ys : List Edge) → made_first cycle xs ≡ xs → made_first cycle (xs ++ ys) ≡ xs ++ made_first cycle ys
  after_made [] ys h = refl
  after_made (e ∷ es) ys h =
      let none : List Edge = [] in
      elim (is_made cycle e) as (λ b. (if b then e ∷ made_first cycle es else none) ≡ e ∷ es
      → (if b then e ∷ made_first cycle (es ++ ys) else none) ≡ e ∷ (es ++ made_first cycle ys)) [
        | true ↦ λ g. ap (λ v. e ∷ v) (after_made es ys (cc g))
        | false ↦ λ g. absurd (cc g)
      ] h

  -- before edges of which none is made
  pub before_unmade : (xs ys : List Edge) → made_first cycle ys ≡ [] → made_first cycle (xs ++ ys) ≡ made_first cycle xs
  before_unmade [] ys h = h
  before_unmade (e ∷ es) ys h = ap (λ v. if is_made cycle e then e ∷ v else []) (before_unmade es ys h)

  -- the made ones among the first edges of a list are its first ones
  pub is_prefix : (n : ℕ) (es : List Edge) → made_first cycle (take n es) ≡ take (length (made_first cycle (take n es))) es
  is_prefix zero es = refl
  is_prefix (suc n) [] = refl
  is_prefix (suc n) (e ∷ es) =
      let none : List Edge = [] in
      elim (is_made cycle e) as (λ b. (if b then e ∷ made_first cycle (take n es) else none)
      ≡ take (length (if b then e ∷ made_first cycle (take n es) else none)) (e ∷ es)) [
        | true ↦ ap (λ v. e ∷ v) (is_prefix n es)
        | false ↦ refl
      ]

-- what is made at a cycle is made later
made_later : (cycle later : ℕ) (e : Edge) → cycle ≤ later → is_made cycle e ≡ true → is_made later e ≡ true
made_later cycle later e l h = grind (arith, nat_tests, l, h)

-- if all edges are made by a cycle, all are by a later one
pub all_later : (cycle later : ℕ) → cycle ≤ later → (es : List Edge) → made_first cycle es ≡ es → made_first later es ≡ es
all_later cycle later l [] h = refl
all_later cycle later l (e ∷ es) h =
    let none : List Edge = [] in
    elim (is_made cycle e) as (λ b. is_made cycle e ≡ b
    → (if b then e ∷ made_first cycle es else none) ≡ e ∷ es → made_first later (e ∷ es) ≡ e ∷ es) [
      | true ↦ λ m g. ap (λ b. if b then e ∷ made_first later es else none) (made_later cycle later e l m)
          ∙ ap (λ v. e ∷ v) (all_later cycle later l es (cc g))
      | false ↦ λ m g. absurd (cc g)
    ] refl h

-- the first made edges are all made
pub made_twice : (cycle : ℕ) (es : List Edge) → made_first cycle (made_first cycle es) ≡ made_first cycle es
made_twice cycle [] = refl
made_twice cycle (e ∷ es) =
    let none : List Edge = [] in
    elim (is_made cycle e) as (λ b. is_made cycle e ≡ b
    → made_first cycle (if b then e ∷ made_first cycle es else none) ≡ (if b then e ∷ made_first cycle es else none)) [
      | true ↦ λ h. ap (λ b. if b then e ∷ made_first cycle (made_first cycle es) else none) h ∙ ap (λ v. e ∷ v) (made_twice cycle es)
      | false ↦ λ h. refl
    ] refl

-- the edges of two lists, one list after the other, turn the keys as both joined
pub turned_on : (xs ys : List Edge) (keys : List Bool) → turned_by (xs ++ ys) keys ≡ turned_by ys (turned_by xs keys)
turned_on [] ys keys = refl
turned_on (e ∷ es) ys keys = turned_on es ys (turned e.place e.down keys)

-- a history in order, of which so many edges are made, and the next ones are handed in
module _ (edges : List Edge) (order : AreInOrder edges) (made cycle : ℕ) (due : List Edge)
    (reached : made_first cycle (take made edges) ≡ take made edges)
    (next : due ≡ take (length due) (drop made edges)) (all : made_first cycle (drop (length due) (drop made edges)) ≡ []) where
  rest : List Edge
  rest = drop made edges

  -- the edges that are made by a cycle are those made before and those of the next that are due
  pub made_now : filter (is_made cycle) edges ≡ take made edges ++ made_first cycle due
  made_now =
      first_made cycle edges order
      ∙ ap (λ es. made_first cycle es) (sym (take-append-drop made edges))
      ∙ after_made cycle (take made edges) (drop made edges) reached
      ∙ ap (λ es. take made edges ++ made_first cycle es) (sym (take-append-drop (length due) (drop made edges)))
      ∙ ap (λ es. take made edges ++ es)
      (before_unmade cycle (take (length due) (drop made edges)) (drop (length due) (drop made edges)) all)
      ∙ ap (λ es. take made edges ++ made_first cycle es) (sym next)

  -- the edges that are made by a cycle are as many of the first ones
  pub taken_now : take (made + length (made_first cycle due)) edges ≡ take made edges ++ made_first cycle due
  taken_now =
      let p : made_first cycle due ≡ take (length (made_first cycle due)) (drop made edges) =
      ap (λ es. made_first cycle es) next ∙ is_prefix cycle (length due) (drop made edges)
      ∙ ap (λ es. take (length (made_first cycle es)) (drop made edges)) (sym next) in
      take-add made (length (made_first cycle due)) edges ∙ ap (λ es. take made edges ++ es) (sym p)

  -- the edges that are made by a cycle are made by each later one too
  pub reached_now : (later : ℕ)
      → cycle ≤ later → made_first later (take made edges ++ made_first cycle due) ≡ take made edges ++ made_first cycle due
  reached_now later l =
      all_later cycle later l (take made edges ++ made_first cycle due)
      (after_made cycle (take made edges) (made_first cycle due) reached ∙ ap (λ es. take made edges ++ es) (made_twice cycle due))
