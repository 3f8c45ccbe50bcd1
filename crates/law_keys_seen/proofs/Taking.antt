-- The keyboard takes what a tick sees in that tick, or with a debounce in the next.
use Rattle.std.proofs.Common.{◌≡◌, ◌≤◌, ◌<◌, ℕ, zero, suc, Bool, true, false, List, [], ◌∷◌, ◌++◌, ◌⊎◌, inl, inr, refl, ap, sym, ◌∙◌, arith}
use Rattle.std.specs.Prelude.{nat_lt}
use Rattle.std.proofs.lemmas.Bool.Decides.{nat_tests}
use Rattle.std.proofs.lemmas.List.{get_or-replicate}
use Rattle.board_terms.specs.Cadence.{KeepsCadence}
use Rattle.board_terms.specs.Edges.{of_place}
use Rattle.board_terms.specs.declared.event.Edge.{Edge}
use Rattle.board_terms.specs.declared.event.HostEvent.{HostEvent}
use Rattle.edge_queue.proofs.Law.{are_lawful}
use Rattle.edge_queue.specs.Calls.{Call, ArePlaced, handed}
use Rattle.edge_queue.specs.Laws.{AreSpaced}
use Rattle.edge_queue.specs.Queue.{empty}
use Rattle.key_file.specs.Accepted.{Alternates, Dwells, IsLawful}
use Rattle.layout_reader.specs.Layouts.{KeyLayout}
use Rattle.model_link.proofs.Edges.{same_by_place}
use Rattle.model_link.proofs.Few.{shown_same}
use Rattle.model_link.proofs.Seen.{held_is_now, last_change}
use Rattle.model_link.proofs.Taken.{AreWide, switched_wide, turned_is, turned_shown}
use Rattle.model_link.specs.Debounce.{Switches, is_down_at, settles, taken, turned_all}
use Rattle.model_link.specs.Expected.{whole_at}
use Rattle.model_link.specs.Laws.{taken_in}
use Rattle.model_link.specs.Machine.{keyboard}
use Rattle.model_link.specs.TickEdges.{by_place, change_at, downs_before, downs_in, shown, shown_at, tick_edges}
use Rattle.law_keys_seen.proofs.Alone.{each_alone, none_beside}
use Rattle.law_keys_seen.specs.Turns.{AreTakenFrom, AreTakenInTurn, AreTakenOneLater, ticks_of}

settles_as_now : (was now : Bool) → settles was now now ≡ now
settles_as_now true true = refl
settles_as_now true false = refl
settles_as_now false true = refl
settles_as_now false false = refl

settles_as_was : (was now : Bool) → settles was was now ≡ was
settles_as_was true true = refl
settles_as_was true false = refl
settles_as_was false true = refl
settles_as_was false false = refl

change_same : (p : ℕ) (a b c d : Bool) → a ≡ b → c ≡ d → change_at p a c ≡ change_at p b d
change_same p a b c d g h = ap (λ v. change_at p v c) g ∙ ap (λ v. change_at p b v) h

no_change : (k : ℕ) → by_place (shown_at (λ p. false) (λ p. false)) k ≡ []
no_change zero = refl
no_change (suc k) = ap (λ v. v ++ []) (no_change k)

-- with a debounce, if of two ticks in a row one sees nothing
module _ (layout : KeyLayout) (edges : List Edge) (host : List HostEvent) (starts : ℕ → ℕ) (cadence : KeepsCadence starts)
    (on : layout.debounce ≡ true) (alternate : (p : ℕ) → p < 96 → Alternates false (of_place p edges))
    (dwell : (p : ℕ) → p < 96 → Dwells (of_place p edges))
    (apart : (n : ℕ) → (tick_edges starts edges n ≡ []) ⊎ (tick_edges starts edges (suc n) ≡ [])) where
  abbrev sees : ℕ → List (ℕ × Bool)
  sees n = tick_edges starts edges n

  abbrev switches : ℕ → Switches
  switches n = (whole_at (keyboard layout) edges host starts n).keys.switches

  -- which keys were down as tick n read them, as the tick before it did, and as the one before that
  abbrev now : ℕ → ℕ → Bool
  now n = downs_in starts edges n

  abbrev before : ℕ → ℕ → Bool
  before n = downs_before starts edges n

  abbrev long_before : ℕ → ℕ → Bool
  long_before zero p = false
  long_before (suc n) p = before n p

  same : (n : ℕ) → sees n ≡ shown (before n) (now n)
  same n = shown_same starts n (λ m l. cadence m) edges n (omega arith) alternate dwell

  turns : (n p : ℕ) → p < 96 → last_change (sees n) p (before n p) ≡ now n p
  turns n p l = ap (λ v. last_change v p (before n p)) (same n) ∙ held_is_now (before n) (now n) p l

  steady : (n p : ℕ) → p < 96 → sees n ≡ [] → now n p ≡ before n p
  steady n p l none = sym (turns n p l) ∙ ap (λ v. last_change v p (before n p)) none

  -- so what settles is what the tick before read
  settles_so : (n p : ℕ) → p < 96 → settles (long_before n p) (before n p) (now n p) ≡ before n p
  settles_so zero p l = settles_as_was false (now 0 p)
  settles_so (suc n) p l = by (apart n)
    where
      by : (sees n ≡ []) ⊎ (sees (suc n) ≡ []) → settles (before n p) (now n p) (now (suc n) p) ≡ now n p
      by (inl none) =
          let still = steady n p l none in
          ap (λ b. settles b (now n p) (now (suc n) p)) (sym still) ∙ settles_as_was (now n p) (now (suc n) p)
      by (inr none) =
          ap (λ b. settles (before n p) (now n p) b) (steady (suc n) p l none) ∙ settles_as_now (before n p) (now n p)

  record Reads (n : ℕ) (s : Switches) : Type 0 where
    wide : AreWide s
    read : (p : ℕ) → p < 96 → is_down_at s.read p ≡ before n p
    agreed : (p : ℕ) → p < 96 → is_down_at s.settled p ≡ long_before n p

  abbrev next_of : (n : ℕ) → Switches → ℕ → Bool
  next_of n s p = settles (is_down_at s.settled p) (is_down_at s.read p) (is_down_at (turned_all (sees n) s.read) p)

  taken_is : (n : ℕ) (s : Switches) → taken layout.debounce (sees n) s ≡ shown (is_down_at s.settled) (next_of n s)
  taken_is n s = ap (λ b. taken b (sees n) s) on

  read_next : (n : ℕ) (s : Switches) → Reads n s → (p : ℕ) → p < 96 → is_down_at (turned_all (sees n) s.read) p ≡ now n p
  read_next n s h p l =
      turned_is (sees n) s.read p h.wide.read l ∙ ap (λ b. last_change (sees n) p b) (h.read p l) ∙ turns n p l

  next_is : (n : ℕ) (s : Switches) → Reads n s → (p : ℕ) → p < 96 → next_of n s p ≡ before n p
  next_is n s h p l =
      let turned : Bool = is_down_at (turned_all (sees n) s.read) p in
      ap (λ b. settles b (is_down_at s.read p) turned) (h.agreed p l)
      ∙ ap (λ b. settles (long_before n p) b turned) (h.read p l)
      ∙ ap (λ b. settles (long_before n p) (before n p) b) (read_next n s h p l) ∙ settles_so n p l

  reads : (n : ℕ) → Reads n (switches n)
  reads zero = record {
    wide = record { read = refl; settled = refl };
    read = λ p l. get_or-replicate 96 p false false l;
    agreed = λ p l. get_or-replicate 96 p false false l;
  }
  reads (suc n) =
      let s : Switches = switches n in
      let h = reads n in
      record {
        wide = switched_wide layout.debounce (sees n) s h.wide;
        read = λ p l. read_next n s h p l;
        agreed = λ p l.
            ap (λ v. is_down_at (turned_all v s.settled) p) (taken_is n s) ∙ turned_shown s.settled (next_of n s) p h.wide.settled l
            ∙ next_is n s h p l;
      }

  takes : (n : ℕ) → taken_in layout edges host starts n ≡ shown (long_before n) (before n)
  takes n =
      let s : Switches = switches n in
      let h = reads n in
      taken_is n s
      ∙ same_by_place (shown_at (is_down_at s.settled) (next_of n s)) (shown_at (long_before n) (before n))
      (λ p l. change_same p (is_down_at s.settled p) (long_before n p) (next_of n s p) (before n p) (h.agreed p l) (next_is n s h p l))
      96 (omega arith)

  -- with a debounce the first tick takes nothing
  pub takes_none : taken_in layout edges host starts 0 ≡ []
  takes_none = takes 0 ∙ no_change 96

  -- with a debounce each tick takes what the tick before it saw
  pub takes_later : (n : ℕ) → taken_in layout edges host starts (suc n) ≡ sees n
  takes_later n = takes (suc n) ∙ sym (same n)

-- what is taken so in ticks is taken so in the same ticks, or each a tick later
module _ (f g : ℕ → List (ℕ × Bool)) where
  -- if each tick takes what it sees, the edges are taken as they are seen
  pub as_seen : ((n : ℕ) → f n ≡ g n) → (from : ℕ) (es : List Edge) → AreTakenFrom g from es → AreTakenFrom f from es
  as_seen same from [] h = λ n l. same n ∙ h n l
  as_seen same from (e ∷ es) h = (
    record {
      tick = h.0.tick;
      later = h.0.later;
      alone = same h.0.tick ∙ h.0.alone;
      none_before = λ n l u. same n ∙ h.0.none_before n l u;
    },
    as_seen same (suc h.0.tick) es h.1,
  )

  -- if each tick takes what the one before saw, the edges are taken a tick later
  pub later : ((n : ℕ) → f (suc n) ≡ g n) → (from : ℕ) (es : List Edge) → AreTakenFrom g from es → AreTakenFrom f (suc from) es
  later same from [] h = none
    where
      none : (n : ℕ) → suc from ≤ n → f n ≡ []
      none zero l = absurd (omega (arith, l))
      none (suc n) l = same n ∙ h n (omega (arith, l))
  later same from (e ∷ es) h = (
    record {
      tick = suc h.0.tick;
      later = let l = h.0.later in omega (arith, l);
      alone = same h.0.tick ∙ h.0.alone;
      none_before = none;
    },
    later same (suc h.0.tick) es h.1,
  )
    where
      none : (n : ℕ) → suc from ≤ n → n < suc h.0.tick → f n ≡ []
      none zero l u = absurd (omega (arith, l))
      none (suc n) l u = same n ∙ h.0.none_before n (omega (arith, l)) (omega (arith, u))

-- and from the tick before on, if that takes nothing
module _ (f : ℕ → List (ℕ × Bool)) where
  -- if a tick takes nothing, the edges that are taken from the next one on are taken from it on
  pub sooner : (from : ℕ) (es : List Edge) → f from ≡ [] → AreTakenFrom f (suc from) es → AreTakenFrom f from es
  sooner from [] none h = λ n l. by n l (nat_lt from n) refl
    where
      by : (n : ℕ) → from ≤ n → (b : Bool) → nat_lt from n ≡ b → f n ≡ []
      by n l true less = h n (grind (arith, nat_tests, less))
      by n l false less = let here : n ≡ from = grind (arith, nat_tests, less, l) in ap f here ∙ none
  sooner from (e ∷ es) none h = (
    record {
      tick = h.0.tick;
      later = let l = h.0.later in omega (arith, l);
      alone = h.0.alone;
      none_before = λ n l u. by n l u (nat_lt from n) refl;
    },
    h.1,
  )
    where
      by : (n : ℕ) → from ≤ n → n < h.0.tick → (b : Bool) → nat_lt from n ≡ b → f n ≡ []
      by n l u true less = h.0.none_before n (grind (arith, nat_tests, less)) u
      by n l u false less = let here : n ≡ from = grind (arith, nat_tests, less, l) in ap f here ∙ none

-- the edges of a queue
module _ (layout : KeyLayout) (host : List HostEvent) (starts : ℕ → ℕ) (cadence : KeepsCadence starts) (calls : List Call)
    (placed : ArePlaced calls) where
  abbrev edges : List Edge
  edges = handed layout.debounce calls empty

  lawful : AreSpaced layout.debounce 0 edges × IsLawful (record { edges = edges; host = []; end = 0 })
  lawful = are_lawful layout.debounce calls 0 placed

  seen : AreTakenFrom (tick_edges starts edges) 0 edges
  seen =
      each_alone layout.debounce starts cadence edges 0 0 edges lawful.1.in_matrix lawful.0 (omega arith) (λ n l. refl)

  module _ (on : layout.debounce ≡ true) where
    apart : (n : ℕ) → (tick_edges starts edges n ≡ []) ⊎ (tick_edges starts edges (suc n) ≡ [])
    apart n =
        none_beside layout.debounce starts cadence edges (λ down. ap (λ b. ticks_of b down) on) 0 0 edges lawful.1.in_matrix
        lawful.0 (omega arith) (λ m l. refl) n (omega arith)

    -- with a debounce each tick takes what the tick before it saw of the edges of a queue
    pub each_later : (n : ℕ) → taken_in layout edges host starts (suc n) ≡ tick_edges starts edges n
    each_later n =
        takes_later layout edges host starts cadence on (λ p l. lawful.1.alternate p) (λ p l. lawful.1.dwell p) apart n

    none_first : taken_in layout edges host starts 0 ≡ []
    none_first =
        takes_none layout edges host starts cadence on (λ p l. lawful.1.alternate p) (λ p l. lawful.1.dwell p) apart

  -- with a debounce or without, the edges of a queue are taken one a tick, in their order
  pub in_turn : (b : Bool) → layout.debounce ≡ b → AreTakenFrom (taken_in layout edges host starts) 0 edges
  in_turn true on =
      sooner (taken_in layout edges host starts) 0 edges (none_first on)
      (later (taken_in layout edges host starts) (tick_edges starts edges) (each_later on) 0 edges seen)
  in_turn false off =
      as_seen (taken_in layout edges host starts) (tick_edges starts edges)
      (λ n. ap (λ b. taken b (tick_edges starts edges n) (whole_at (keyboard layout) edges host starts n).keys.switches) off) 0
      edges seen

-- with a debounce each tick takes what the tick before it saw
pub one_later : AreTakenOneLater
one_later layout host starts on cadence calls placed n = each_later layout host starts cadence calls placed on n

-- the keyboard takes the edges of a queue one a tick, in their order, and has time to send each
pub taken_in_turn : AreTakenInTurn
taken_in_turn layout host starts cadence calls placed =
    in_turn layout host starts cadence calls placed layout.debounce refl
