-- The last edge of a key.
use Rattle.std.proofs.Common.{◌≡◌, ◌<◌, ℕ, true, false, ◌==◌, List, [], ◌∷◌, ◌++◌, length}
use Rattle.std.proofs.Common.{get_or, None, Some, refl, ap, sym, subst, ◌∙◌, arith}
use Rattle.std.specs.List.{last_or, slice_set}
use Rattle.std.specs.declared.option.Option.{Option}
use Rattle.std.proofs.lemmas.Bool.Decides.{nat_tests}
use Rattle.std.proofs.lemmas.List.{get_or-set_same, get_or-set_other, append-nil}
use Rattle.std.proofs.lemmas.List.Elements.{filter-append}
use Rattle.board_terms.specs.declared.event.Edge.{Edge}
use Rattle.board_terms.specs.Edges.{of_place, last_of}
use Rattle.board_terms.specs.Laws.{ArePlaces}
use Rattle.key_file.specs.Histories.{last_edge}
use Rattle.key_file.specs.Rules.{is_down}

last_is_some : (xs : List Edge) (x : Edge) → last_or (Some x) xs ≡ None → ⊥
last_is_some [] x h = cc
last_is_some (y ∷ ys) x h = last_is_some ys y h

down_from : (xs : List Edge) (x e : Edge) → last_or (Some x) xs ≡ Some e → e.down ≡ last_of x.down xs
down_from [] x e h = cc
down_from (y ∷ ys) x e h = down_from ys y e h

down_last : (xs : List Edge) (e : Edge) → last_or None xs ≡ Some e → e.down ≡ last_of false xs
down_last [] e h = absurd (cc)
down_last (x ∷ xs) e h = down_from xs x e h

up_without : (xs : List Edge) → last_or None xs ≡ None → false ≡ last_of false xs
up_without [] h = refl
up_without (x ∷ xs) h = absurd (last_is_some xs x h)

down_cases : (edges : List Edge) (last : Option Edge) → last_or None edges ≡ last → is_down last ≡ last_of false edges
down_cases edges None h = up_without edges h
down_cases edges (Some e) h = down_last edges e h

-- a key is down as its last edge left it, and one without an edge is up
pub down-last : (place : ℕ) (edges : List Edge) → is_down (last_edge place edges) ≡ last_of false (of_place place edges)
down-last place edges = down_cases (of_place place edges) (last_edge place edges) refl

-- an edge more is the last one
pub last_or-push : (before : Option Edge) (xs : List Edge) (e : Edge) → last_or before (xs ++ e ∷ []) ≡ Some e
last_or-push before [] e = refl
last_or-push before (x ∷ xs) e = last_or-push (Some x) xs e

-- an edge more of this key, and of another one
pub of_place-push : (place : ℕ) (edges : List Edge) (e : Edge)
    → e.place ≡ place → of_place place (edges ++ e ∷ []) ≡ of_place place edges ++ e ∷ []
of_place-push place edges e h =
    let same : (e.place == place) ≡ true = grind (arith, nat_tests, h) in
    filter-append (λ f. f.place == place) edges (e ∷ []) ∙ rw same refl

-- an edge at another place isn't among those of a place
pub of_place-other : (place : ℕ) (edges : List Edge) (e : Edge)
    → (e.place ≡ place → ⊥) → of_place place (edges ++ e ∷ []) ≡ of_place place edges
of_place-other place edges e h =
    let other : (e.place == place) ≡ false = grind (arith, nat_tests, h) in
    filter-append (λ f. f.place == place) edges (e ∷ []) ∙ rw other (append-nil (of_place place edges))

-- the last edges with one edge more
pub last-push : (last : List (Option Edge)) (edges : List Edge) (e : Edge) (k place : ℕ)
    → get_or last place None ≡ last_edge place edges → k ≡ e.place → k < length last
    → get_or (slice_set last k (Some e)) place None ≡ last_edge place (edges ++ e ∷ [])
last-push last edges e k place h is inside =
    elim (e.place == place) as (λ b. (e.place == place) ≡ b
    → get_or (slice_set last k (Some e)) place None ≡ last_edge place (edges ++ e ∷ [])) [
      | true ↦ λ test.
          let same : e.place ≡ place = grind (arith, nat_tests, test) in
          subst (λ n. get_or (slice_set last k (Some e)) n None ≡ Some e) (is ∙ same) (get_or-set_same last k (Some e) None inside)
          ∙ sym (ap (last_or None) (of_place-push place edges e same) ∙ last_or-push None (of_place place edges) e)
      | false ↦ λ test.
          let other : e.place ≡ place → ⊥ = λ same. grind (arith, nat_tests, test, same) in
          get_or-set_other last k place (Some e) None (λ at. other (sym (at ∙ is)))
          ∙ h ∙ sym (ap (last_or None) (of_place-other place edges e other))
    ] refl

-- edges of the matrix with one more of the matrix are of the matrix
pub places-push : (edges : List Edge) (e : Edge) → ArePlaces edges → e.place < 96 → ArePlaces (edges ++ e ∷ [])
places-push [] e places within = (within, tt)
places-push (x ∷ xs) e places within = (places.0, places-push xs e places.1 within)
