-- The edges of a past that come out of a queue.
use Rattle.std.proofs.Common.{◌≡◌, ◌≤◌, ◌<◌, ◌-◌, ℕ, zero, suc, Bool, true, false, List, [], ◌∷◌, ◌++◌, Some, None}
use Rattle.std.proofs.Common.{refl, ap, sym, subst, ◌∙◌, arith, append_assoc}
use Rattle.std.specs.Prelude.{nat_lt, not, ◌==◌, slice_index, if◌then◌else◌}
use Rattle.std.specs.declared.option.Option.{Option}
use Rattle.std.proofs.lemmas.List.{append-nil}
use Rattle.law_agreement.proofs.Taking.{is_debounced}
use Rattle.law_agreement.specs.Agreement.{AnyMemoryLaw}
use Rattle.board_terms.specs.Flips.{AreFlips}
use Rattle.board_terms.specs.Laws.{ArePlaces}
use Rattle.board_terms.specs.declared.event.Edge.{Edge}
use Rattle.board_terms.specs.declared.event.HostEvent.{HostEvent}
use Rattle.edge_queue.proofs.Placed.{handed_in}
use Rattle.edge_queue.specs.Calls.{Call, ArePlaced, IsPlaced, after, after_call, edge_of, handed, handed_by, if_taken}
use Rattle.edge_queue.specs.Calls.Call.{Push, Take}
use Rattle.edge_queue.specs.Laws.{AreLawful}
use Rattle.edge_queue.specs.Queue.{Queue, after_taken, all_released, due_at, edge_at, empty, first_taken, pushed, released_to, taken}
use Rattle.edge_queue.specs.declared.queue.Pushed.{Pushed}
use Rattle.fw_kernel.specs.Tables.{debounce_at}
use Rattle.key_file.specs.Accepted.{AreHostEventsInOrder, AreWritten, IsLawful}
use Rattle.law_live_agrees.proofs.Agreed.{logs_agree}
use Rattle.law_live_agrees.specs.Queued.{AreFrom, HandsOn, ImageSaysDebounce, QueuedLogsAgree, StaysQueued}
use Rattle.live_board.specs.Pasts.{Past}
use Rattle.live_board.specs.declared.parts.Parts.{Parts as Keyboard}

-- a call more
after_more : (debounce : Bool) (cs : List Call) (c : Call) (q : Queue)
    → after debounce (cs ++ c ∷ []) q ≡ after_call debounce c (after debounce cs q)
after_more debounce [] c q = refl
after_more debounce (d ∷ cs) c q = after_more debounce cs c (after_call debounce d q)

handed_more : (debounce : Bool) (cs : List Call) (c : Call) (q : Queue)
    → handed debounce (cs ++ c ∷ []) q ≡ handed debounce cs q ++ handed_by c (after debounce cs q)
handed_more debounce [] c q = append-nil (handed_by c q)
handed_more debounce (d ∷ cs) c q =
    let next = after_call debounce d q in
    ap (λ v. handed_by d q ++ v) (handed_more debounce cs c next)
    ∙ sym (append_assoc (handed_by d q) (handed debounce cs next) (handed_by c (after debounce cs next)))

placed_more : (cs : List Call) (c : Call) → ArePlaced cs → IsPlaced c → ArePlaced (cs ++ c ∷ [])
placed_more [] c h l = (l, tt)
placed_more (d ∷ cs) c h l = (h.0, placed_more cs c h.1 l)

-- the edge that is taken has the stamp of that moment
taken_now : (now ready : ℕ) (es : List Pushed) (e : Pushed) → first_taken now ready es ≡ Some e → e.stamp ≡ now
taken_now now ready [] e h = absurd cc
taken_now now ready (x ∷ es) e h =
    (elim (nat_lt now (due_at ready x.stamp)) as (λ b. (if b then None else Some (edge_at now x.place x.down)) ≡ Some e → e.stamp ≡ now) [
      | true ↦ λ g. absurd cc
      | false ↦ λ g. sym (ap (λ (v : Pushed). v.stamp) (same_edge (edge_at now x.place x.down) e g))
    ]) h
  where
    same_edge : (u v : Pushed) → Some u ≡ Some v → u ≡ v
    same_edge u v g = cc g

-- and a place of the matrix
last_place : (es : List Edge) (e : Edge) → ArePlaces (es ++ e ∷ []) → e.place < 96
last_place [] e h = h.0
last_place (x ∷ es) e h = last_place es e h.1

module _ (debounce : Bool) where
  one_call : (edges : List Edge) (q : Queue) (c : Call) → AreFrom debounce edges q → IsPlaced c
      → AreFrom debounce (edges ++ handed_by c q) (after_call debounce c q)
  one_call edges q c f l = record {
    calls = f.calls ++ c ∷ [];
    placed = placed_more f.calls c f.placed l;
    handed_out =
        ap (λ v. v ++ handed_by c q) f.handed_out ∙ ap (λ v. handed debounce f.calls empty ++ handed_by c v) f.left
        ∙ sym (handed_more debounce f.calls c empty);
    left = ap (after_call debounce c) f.left ∙ sym (after_more debounce f.calls c empty);
  }

  one_push : (edges : List Edge) (q : Queue) (e : Pushed) → e.place < 96 → AreFrom debounce edges q → AreFrom debounce edges (pushed e q)
  one_push edges q e l f = subst (λ v. AreFrom debounce v (pushed e q)) (append-nil edges) (one_call edges q (Push e) f l)

  all_released_to : (edges : List Edge) (q : Queue) (stamp n : ℕ) → n ≤ 96 → AreFrom debounce edges q → AreFrom debounce edges (released_to n stamp q)
  all_released_to edges q stamp zero l f = f
  all_released_to edges q stamp (suc n) l f =
      one_push edges (released_to n stamp q) (edge_at stamp n false) (omega (arith, l))
      (all_released_to edges q stamp n (omega (arith, l)) f)

  all_go_up : (edges : List Edge) (q : Queue) (stamp : ℕ) → AreFrom debounce edges q → AreFrom debounce edges (all_released stamp q)
  unfolding all_released
  all_go_up edges q stamp f = all_released_to edges q stamp 96 (omega arith) f

  from_places : (edges : List Edge) (q : Queue) → AreFrom debounce edges q → ArePlaces edges
  from_places edges q f = subst ArePlaces (sym f.handed_out) (handed_in debounce f.calls empty f.placed tt)

  handed_on : (p : Past) (k : Keyboard) (q : Queue) (o : Option Pushed) → taken (k.joint.cycle - 4096) q ≡ o
      → AreFrom debounce (p.edges ++ if_taken o) (after_taken debounce (k.joint.cycle - 4096) q) → HandsOn debounce p k q o
  handed_on p k q None is f = subst (λ v. AreFrom debounce v (after_taken debounce (k.joint.cycle - 4096) q)) (append-nil p.edges) f
  handed_on p k q (Some e) is f = (
    last_place p.edges (edge_of e) (from_places (p.edges ++ edge_of e ∷ []) (after_taken debounce (k.joint.cycle - 4096) q) f),
    subst (λ n. AreFrom debounce (p.edges ++ record { stamp = n; place = e.place; down = e.down } ∷ []) (after_taken debounce (k.joint.cycle - 4096) q))
        (taken_now (k.joint.cycle - 4096) q.ready q.waiting e is) f,
  )

-- the edges of a past stay those of a queue, whatever is pushed into it, released or handed over
pub stays_queued : StaysQueued
stays_queued debounce = record {
  at_first = record { calls = []; placed = tt; handed_out = refl; left = refl };
  pushes = one_push debounce;
  releases = all_go_up debounce;
  hands_over = λ p k q f.
      handed_on debounce p k q (taken (k.joint.cycle - 4096) q) refl (one_call debounce p.edges q (Take (k.joint.cycle - 4096)) f tt);
}

-- a keyboard's image says whether its layout has a debounce
pub image_says_debounce : ImageSaysDebounce
image_says_debounce layout p k s is =
    ap (λ bytes. not (slice_index bytes debounce_at == 0)) (s.image ∙ is) ∙ is_debounced layout

-- a lawful history of keys, and lawful events of the host beside it
with_host : (edges : List Edge) (events : List HostEvent) → IsLawful (record { edges = edges; host = []; end = 0 })
    → AreHostEventsInOrder events → AreWritten events → AreFlips events
    → IsLawful (record { edges = edges; host = events; end = 0 })
with_host edges events h order written flips = record {
  in_matrix = h.in_matrix;
  edges_in_order = h.edges_in_order;
  host_in_order = order;
  written = written;
  flips = flips;
  alternate = h.alternate;
  dwell = h.dwell;
  thin = h.thin;
}

-- if all keys came out of a queue, what was said is the beginning of what the model says
pub queued_agree : AnyMemoryLaw → AreLawful → QueuedLogsAgree
queued_agree law queue debounce layout p q k s is bytes fine from places order written flips =
    let own : IsLawful (record { edges = p.edges; host = []; end = 0 }) =
    subst (λ es. IsLawful (record { edges = es; host = []; end = 0 })) (sym from.handed_out) (queue debounce from.calls 0 from.placed).1 in
    logs_agree law layout p 0 k s is bytes fine
    (record { lawful = with_host p.edges p.events own order written flips; places = places })
