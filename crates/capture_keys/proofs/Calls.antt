-- Calls of a queue, one after another.
use Rattle.std.proofs.Common.{◌≡◌, Bool, List, [], ◌∷◌, ◌++◌, refl, ap, sym, ◌∙◌, append_assoc}
use Rattle.edge_queue.specs.Calls.{Call, ArePlaced, after, after_call, handed, handed_by}
use Rattle.edge_queue.specs.Queue.{Queue}

module _ (debounce : Bool) where
  -- a queue after some calls and then others is the one that the others make of the queue after the first
  pub after_more : (cs ds : List Call) (q : Queue) → after debounce (cs ++ ds) q ≡ after debounce ds (after debounce cs q)
  after_more [] ds q = refl
  after_more (c ∷ cs) ds q = after_more cs ds (after_call debounce c q)

  -- what some calls and then others hand over is what the first hand over, and then what the others do
  pub handed_more : (cs ds : List Call) (q : Queue)
      → handed debounce (cs ++ ds) q ≡ handed debounce cs q ++ handed debounce ds (after debounce cs q)
  handed_more [] ds q = refl
  handed_more (c ∷ cs) ds q =
      ap (λ es. handed_by c q ++ es) (handed_more cs ds (after_call debounce c q))
      ∙ sym (append_assoc (handed_by c q) (handed debounce cs (after_call debounce c q))
      (handed debounce ds (after debounce cs (after_call debounce c q))))

-- if two lists of calls push edges of places alone, so do both together
pub placed_more : (cs ds : List Call) → ArePlaced cs → ArePlaced ds → ArePlaced (cs ++ ds)
placed_more [] ds h k = k
placed_more (c ∷ cs) ds h k = (h.0, placed_more cs ds h.1 k)
