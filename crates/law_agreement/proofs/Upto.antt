-- The model at a tick start, and the ticks of its log, depend on the starts up to there alone.
use Rattle.std.proofs.Common.{◌≡◌, ◌≤◌, ◌<◌, ℕ, suc, zero, ◌+◌, ◌-◌, ◌*◌, ◌/◌, List, [], ◌∷◌, Bool, not, ◌&&◌}
use Rattle.std.proofs.Common.{filter, map, nat_le, if◌then◌else◌, refl, ap, ◌∙◌, arith}
use Rattle.std.proofs.lemmas.List.Elements.{filter_agree}
use Rattle.board_terms.specs.Cadence.{begun, tick_of}
use Rattle.board_terms.specs.Edges.{of_place}
use Rattle.board_terms.specs.declared.event.Edge.{Edge}
use Rattle.board_terms.specs.declared.event.HostEvent.{HostEvent}
use Rattle.model_controller.specs.ByteTime.{quietly}
use Rattle.model_controller.specs.declared.UnderWay.{UnderWay}
use Rattle.host_turn.specs.Run.{side_at_start}
use Rattle.host_turn.specs.declared.stamped.Stamped.{Stamped}
use Rattle.model_link.proofs.Edges.{same_by_place}
use Rattle.model_link.specs.Expected.{Whole, whole_tick, whole_at, lines, expected}
use Rattle.model_link.specs.Machine.{KeyboardMachine}
use Rattle.model_link.specs.TickEdges.{none_before, is_seen, read_at, change_of, tick_edges, downs_before, is_down}

module _ (s t : ℕ → ℕ) where
  -- no tick before this one reads the edge's column in time
  none_up_to : (e : Edge) (n : ℕ) → ((j : ℕ) → j < n → s j ≡ t j)
      → none_before (λ j. nat_le e.stamp (read_at s e.place j)) n
      ≡ none_before (λ j. nat_le e.stamp (read_at t e.place j)) n
  none_up_to e zero h = refl
  none_up_to e (suc n) h =
      ap (λ v. not (nat_le e.stamp (v + 16 + 16 * (e.place / 8)))
      && none_before (λ j. nat_le e.stamp (read_at s e.place j)) n) (h n (omega arith))
      ∙ ap (λ c. not (nat_le e.stamp (read_at t e.place n)) && c) (none_up_to e n (λ j l. h j (omega (arith, l))))

  -- whether a tick sees an edge
  seen_up_to : (e : Edge) (n : ℕ) → ((j : ℕ) → j ≤ n → s j ≡ t j) → is_seen s n e ≡ is_seen t n e
  seen_up_to e n h =
      ap (λ v. nat_le e.stamp (v + 16 + 16 * (e.place / 8))
      && none_before (λ j. nat_le e.stamp (read_at s e.place j)) n) (h n (omega arith))
      ∙ ap (λ c. nat_le e.stamp (read_at t e.place n) && c) (none_up_to e n (λ j l. h j (omega (arith, l))))

  -- the edges of a tick
  pub edges_up_to : (edges : List Edge) (n : ℕ) → ((j : ℕ) → j ≤ n → s j ≡ t j)
      → tick_edges s edges n ≡ tick_edges t edges n
  edges_up_to edges n h =
      ap (λ v. map change_of v)
      (same_by_place (λ p. filter (is_seen s n) (of_place p edges)) (λ p. filter (is_seen t n) (of_place p edges))
      (λ p l. filter_agree (is_seen s n) (is_seen t n) (λ e. seen_up_to e n h) (of_place p edges)) 96 (omega arith))

  -- the keys that are down as the tick before reads them
  pub downs_up_to : (edges : List Edge) (n p : ℕ) → ((j : ℕ) → j < n → s j ≡ t j)
      → downs_before s edges n p ≡ downs_before t edges n p
  downs_up_to edges zero p h = refl
  downs_up_to edges (suc n) p h = ap (λ v. is_down edges p (v + 16 + 16 * (p / 8))) (h n (omega arith))

  -- how many starts are at or before a cycle
  pub begun_up_to : (cycle n : ℕ) → ((j : ℕ) → j < n → s j ≡ t j) → begun s cycle n ≡ begun t cycle n
  begun_up_to cycle zero h = refl
  begun_up_to cycle (suc n) h =
      ap (λ v. begun s cycle n + (if nat_le (4096 + v) cycle then 1 else 0)) (h n (omega arith))
      ∙ ap (λ v. v + (if nat_le (4096 + t n) cycle then 1 else 0)) (begun_up_to cycle n (λ j l. h j (omega (arith, l))))

  -- the tick of what is said in a cycle
  pub tick_up_to : (n cycle : ℕ) → ((j : ℕ) → j ≤ n → s j ≡ t j) → tick_of s n cycle ≡ tick_of t n cycle
  tick_up_to n cycle h = ap (λ v. v - 1) (begun_up_to cycle (suc n) (λ j l. h j (omega (arith, l))))

  -- the log with its ticks
  pub lines_up_to : (n : ℕ) (log : List Stamped) → ((j : ℕ) → j ≤ n → s j ≡ t j) → lines s n log ≡ lines t n log
  lines_up_to n [] h = refl
  lines_up_to n (x ∷ log) h =
      ap (λ k. record { tick = k; item = x.item } ∷ lines s n log) (tick_up_to n x.cycle h)
      ∙ ap (λ v. record { tick = tick_of t n x.cycle; item = x.item } ∷ v) (lines_up_to n log h)

module _ {S : Type 0} (kb : KeyboardMachine S) (edges : List Edge) (events : List HostEvent) where
  -- a tick by its edges, its start and the next
  alike : (es fs : List (ℕ × Bool)) (a b c d : ℕ) (m k : Whole S) → es ≡ fs → a ≡ b → c ≡ d → m ≡ k
      → whole_tick kb events es (4096 + a) (c - a - 609) m ≡ whole_tick kb events fs (4096 + b) (d - b - 609) k
  alike es fs a b c d m k e p q r =
      ap (λ v. whole_tick kb events v (4096 + a) (c - a - 609) m) e
      ∙ ap (λ v. whole_tick kb events fs (4096 + v) (c - v - 609) m) p
      ∙ ap (λ v. whole_tick kb events fs (4096 + b) (v - b - 609) m) q
      ∙ ap (λ v. whole_tick kb events fs (4096 + b) (d - b - 609) v) r

  -- the model at a tick start
  pub whole_up_to : (s t : ℕ → ℕ) (n : ℕ) → ((j : ℕ) → j ≤ n → s j ≡ t j)
      → whole_at kb edges events s n ≡ whole_at kb edges events t n
  whole_up_to s t zero h =
      ap (λ v. record { keys = kb.start; side = quietly events v 4096 (side_at_start UnderWay); shown = 0 })
      (h 0 (omega arith))
  whole_up_to s t (suc n) h =
      alike (tick_edges s edges n) (tick_edges t edges n) (s n) (t n) (s (suc n)) (t (suc n))
      (whole_at kb edges events s n) (whole_at kb edges events t n)
      (edges_up_to s t edges n (λ j l. h j (omega (arith, l)))) (h n (omega arith)) (h (suc n) (omega arith))
      (whole_up_to s t n (λ j l. h j (omega (arith, l))))

  -- the expected log up to a start
  pub expected_up_to : (s t : ℕ → ℕ) (n : ℕ) → ((j : ℕ) → j ≤ n → s j ≡ t j)
      → expected kb edges events s n ≡ expected kb edges events t n
  expected_up_to s t n h =
      lines_up_to s t n (whole_at kb edges events s n).side.log h
      ∙ ap (λ m. lines t n m.side.log) (whole_up_to s t n h)
