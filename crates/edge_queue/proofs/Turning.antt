-- The edges of a key that a queue hands over are press, release, press and so on.
use Rattle.std.proofs.Common.{◌≡◌, ◌<◌, ◌≢◌, ℕ, ◌+◌, Bool, true, false, not, List, [], ◌∷◌, ◌++◌, map, length}
use Rattle.std.proofs.Common.{Some, None, get_or, set, refl, ap, sym, subst, ◌∙◌, arith, ◌==◌}
use Rattle.std.specs.Prelude.{nat_lt, if◌then◌else◌}
use Rattle.std.proofs.lemmas.Bool.{eqb-true}
use Rattle.std.proofs.lemmas.Bool.Decides.{nat_tests}
use Rattle.std.proofs.lemmas.List.{append-nil, get_or-set_same, get_or-set_other, length-set, map-append}
use Rattle.std.proofs.lemmas.List.Elements.{filter-append}
use Rattle.board_terms.specs.declared.event.Edge.{Edge}
use Rattle.board_terms.specs.Edges.{last_of, of_place}
use Rattle.key_file.specs.Accepted.{Alternates}
use Rattle.edge_queue.specs.Calls.{Call, ArePlaced, edge_of, handed, if_taken}
use Rattle.edge_queue.specs.Calls.Call.{Push, Take}
use Rattle.edge_queue.specs.Queue.{Queue, after_first, due_at, edge_at, entered, first_taken, is_down, is_full, is_repeated, pushed, time_of}
use Rattle.edge_queue.specs.declared.queue.Pushed.{Pushed}

-- the edges that wait turn each key from what it was made last, and after them it is as the queue has it
pub record Sound (made : ℕ → Bool) (q : Queue) : Type 0 where
  pub turns : (p : ℕ) → Alternates (made p) (of_place p (map edge_of q.waiting))
  pub shows : (p : ℕ) → p < 96 → is_down q p ≡ last_of (made p) (of_place p (map edge_of q.waiting))
  pub long : length q.down ≡ 96

-- an edge more
turns_on : (before : Bool) (es : List Edge) (e : Edge) → Alternates before es → e.down ≡ not (last_of before es)
    → Alternates before (es ++ e ∷ [])
turns_on before [] e turns h = (h, tt)
turns_on before (x ∷ es) e turns h = (turns.0, turns_on x.down es e turns.1 h)

last_on : (before : Bool) (es : List Edge) (e : Edge) → last_of before (es ++ e ∷ []) ≡ e.down
last_on before [] e = refl
last_on before (x ∷ es) e = last_on x.down es e

differs : (now down : Bool) → (if down then now else not now) ≡ false → down ≡ not now
differs true true h = absurd (cc)
differs true false h = refl
differs false true h = refl
differs false false h = absurd (cc)

-- the edges of a place, with one more
own : (p : ℕ) (es : List Pushed) (e : Pushed) → of_place p (map edge_of (es ++ e ∷ []))
    ≡ of_place p (map edge_of es) ++ (if e.place == p then edge_of e ∷ [] else [])
own p es e =
    ap (of_place p) (map-append edge_of es (e ∷ []))
    ∙ filter-append (λ (x : Edge). x.place == p) (map edge_of es) (edge_of e ∷ [])

entered_sound : (made : ℕ → Bool) (e : Pushed) (q : Queue) → e.place < 96 → Sound made q
    → is_repeated e q ≡ false → Sound made (entered e q)
entered_sound made e q in_matrix s new =
    let long = s.long in
    let turn : e.down ≡ not (is_down q e.place) = differs (is_down q e.place) e.down new in
    let mine : (p : ℕ) → List Edge = λ p. of_place p (map edge_of q.waiting) in
    record {
      turns = λ p. subst (Alternates (made p)) (sym (own p q.waiting e)) (elim (e.place == p) as (λ b. (e.place == p) ≡ b
          → Alternates (made p) (mine p ++ (if b then edge_of e ∷ [] else []))) [
            | true ↦ λ h.
                let at : e.place ≡ p = eqb-true e.place p h in
                turns_on (made p) (mine p) (edge_of e) (s.turns p) (turn ∙ ap not (ap (is_down q) at ∙ s.shows p (subst (λ n. n < 96) at in_matrix)))
            | false ↦ λ h. subst (Alternates (made p)) (sym (append-nil (mine p))) (s.turns p)
          ] refl);
      shows = λ p l. (elim (e.place == p) as (λ b. (e.place == p) ≡ b
          → get_or (set q.down e.place e.down) p false ≡ last_of (made p) (mine p ++ (if b then edge_of e ∷ [] else []))) [
            | true ↦ λ h.
                let at : e.place ≡ p = eqb-true e.place p h in
                let within : e.place < length q.down = omega (arith, long, in_matrix) in
                ap (λ n. get_or (set q.down e.place e.down) n false) (sym at) ∙ get_or-set_same q.down e.place e.down false within
                ∙ sym (last_on (made p) (mine p) (edge_of e))
            | false ↦ λ h.
                let apart : p ≢ e.place = grind (arith, nat_tests, h) in
                get_or-set_other q.down e.place p e.down false apart ∙ s.shows p l ∙ ap (last_of (made p)) (sym (append-nil (mine p)))
          ] refl) ∙ ap (last_of (made p)) (sym (own p q.waiting e));
      long = length-set q.down e.place e.down ∙ s.long;
    }

-- after an edge is pushed the edges that wait still turn each key from what it was
pub pushed_sound : (made : ℕ → Bool) (e : Pushed) (q : Queue) → e.place < 96 → Sound made q → Sound made (pushed e q)
pushed_sound made e q l s =
    elim (is_repeated e q) as (λ b. is_repeated e q ≡ b
    → Sound made (if b then q else if is_full e.down q then q else entered e q)) [
      | true ↦ λ h. s
      | false ↦ λ h. elim (is_full e.down q) as (λ b. Sound made (if b then q else entered e q)) [
        | true ↦ s
        | false ↦ entered_sound made e q l s h
      ]
    ] refl

-- what is made last, once an edge is handed over
abbrev pub then_made : (ℕ → Bool) → Pushed → ℕ → Bool
then_made made e p = if e.place == p then e.down else made p

first_sound : (made : ℕ → Bool) (e : Pushed) (es : List Pushed) (down : List Bool) (ready later : ℕ)
    → Sound made (record { waiting = e ∷ es; down = down; ready = ready })
    → Sound (then_made made e) (record { waiting = es; down = down; ready = later })
first_sound made e es down ready later s = record {
  turns = λ p. elim (e.place == p) as (λ b. Alternates (made p) (if b then edge_of e ∷ of_place p (map edge_of es) else of_place p (map edge_of es))
      → Alternates (if b then e.down else made p) (of_place p (map edge_of es))) [
        | true ↦ λ a. a.1
        | false ↦ λ a. a
      ] (s.turns p);
  shows = λ p l. s.shows p l ∙ (elim (e.place == p) as (λ b. last_of (made p) (if b then edge_of e ∷ of_place p (map edge_of es) else of_place p (map edge_of es))
      ≡ last_of (if b then e.down else made p) (of_place p (map edge_of es))) [ true ↦ refl | false ↦ refl ]);
  long = s.long;
}

module _ (debounce : Bool) where
  -- what later calls hand over turns each key
  abbrev pub Turns : List Call → Type 0
  Turns cs = (r : Queue) (made : ℕ → Bool) → Sound made r → (p : ℕ) → Alternates (made p) (of_place p (handed debounce cs r))

  turns_take : (now : ℕ) (cs : List Call) (made : ℕ → Bool) (waiting : List Pushed) (down : List Bool) (ready : ℕ)
      → Sound made (record { waiting = waiting; down = down; ready = ready }) → Turns cs → (p : ℕ)
      → Alternates (made p) (of_place p (if_taken (first_taken now ready waiting)
      ++ handed debounce cs (after_first debounce now waiting (record { waiting = waiting; down = down; ready = ready }))))
  turns_take now cs made [] down ready s rest p = rest (record { waiting = []; down = down; ready = ready }) made s p
  turns_take now cs made (e ∷ es) down ready s rest p =
      let q : Queue = record { waiting = e ∷ es; down = down; ready = ready } in
      let next : Queue = record { waiting = es; down = down; ready = now + time_of debounce e.down } in
      elim (nat_lt now (due_at ready e.stamp)) as (λ b. Alternates (made p)
      (of_place p (if_taken (if b then None else Some (edge_at now e.place e.down)) ++ handed debounce cs (if b then q else next)))) [
        | true ↦ rest q made s p
        | false ↦ elim (e.place == p) as (λ c.
            Alternates (made p) (if c then edge_of e ∷ of_place p (map edge_of es) else of_place p (map edge_of es))
            → Alternates (if c then e.down else made p) (of_place p (handed debounce cs next))
            → Alternates (made p) (if c then edge_of (edge_at now e.place e.down) ∷ of_place p (handed debounce cs next) else of_place p (handed debounce cs next))) [
              | true ↦ λ a b. (a.0, b)
              | false ↦ λ a b. b
            ] (s.turns p) (rest next (then_made made e) (first_sound made e es down ready (now + time_of debounce e.down) s) p)
      ]

  -- the edges of a key that calls hand over are press, release, press and so on
  pub handed_turns : (calls : List Call) → ArePlaced calls → Turns calls
  handed_turns [] placed q made s p = tt
  handed_turns (Push e ∷ cs) placed q made s p =
      handed_turns cs placed.1 (pushed e q) made (pushed_sound made e q placed.0 s) p
  handed_turns (Take now ∷ cs) placed q made s p =
      turns_take now cs made q.waiting q.down q.ready s (λ r m t. handed_turns cs placed.1 r m t) p
