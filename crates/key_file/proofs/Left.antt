-- What is left of an accepted history, after the events so far, breaks no rule.
use Rattle.std.proofs.Common.{◌≡◌, ◌≤◌, ◌<◌, ℕ, ◌+◌, false, List, [], ◌∷◌, ◌++◌, length, None, Ok, refl}
use Rattle.std.proofs.Common.{ap, sym, subst, ◌∙◌, append_assoc, arith, length-append}
use Rattle.std.specs.Prelude.{All, nat_le, nat_lt}
use Rattle.std.proofs.lemmas.Bool.Decides.{nat_tests}
use Rattle.std.proofs.lemmas.List.{get_or_at}
use Rattle.board_terms.specs.declared.event.Edge.{Edge}
use Rattle.board_terms.specs.declared.event.HostEvent.{HostEvent}
use Rattle.first_fault.specs.FirstFault.{Judgement, first_broken}
use Rattle.key_file.specs.declared.event.Event.{Event}
use Rattle.key_file.specs.declared.event.Event.TheVariants.{EdgeOf, HostOf, End}
use Rattle.key_file.specs.declared.rule.Rule.{Rule}
use Rattle.key_file.specs.Accepted.{IsAccepted}
use Rattle.key_file.specs.Histories.{KeyHistory, Before, stamp_at, with_event}
use Rattle.key_file.specs.Briefs.{brief_of}
use Rattle.key_file.specs.KeyFile.{take_event}
use Rattle.key_file.specs.Rules.{key_judgements, is_too_many, judgements}
use Rattle.key_file.proofs.Kept.{edge_unbroken}

-- what is left of a history after the events so far
pub record IsLeft (history : KeyHistory) (before : Before) (edges : List Edge) (host : List HostEvent) : Type 0 where
  pub edges_are : before.edges ++ edges ≡ history.edges
  pub host_are : before.host ++ host ≡ history.host
  pub goes_on : before.end ≡ None

-- an event that breaks no rule of edges, in its order and its range, is taken
taken : (before : Before) (event : Event) → before.stamp ≤ stamp_at event → stamp_at event ≤ 240000000 → before.end ≡ None
    → is_too_many (brief_of before) event ≡ false
    → ((more : List (Judgement Rule)) → first_broken (key_judgements (brief_of before) event ++ more) ≡ first_broken more)
    → take_event before event ≡ Ok (with_event before event)
taken before event order range goes_on few key =
    let past : nat_lt (stamp_at event) before.stamp ≡ false = grind (arith, nat_tests, order) in
    let early : nat_lt 240000000 (stamp_at event) ≡ false = grind (arith, nat_tests, range) in
    let kept : first_broken (judgements (brief_of before) event) ≡ None = rw past (key _ ∙ rw (goes_on, early, few) refl) in
    rw kept refl

module _ (history : KeyHistory) (accepted : IsAccepted history) (before : Before) where
  -- there is room for what is left
  room : (edges : List Edge) (host : List HostEvent)
      → IsLeft history before edges host → 0 < length edges + length host → nat_le 65536 (length before.edges + length before.host) ≡ false
  room edges host left some =
      let a : length before.edges + length edges ≡ length history.edges =
      sym (length-append before.edges edges) ∙ ap length left.edges_are in
      let b : length before.host + length host ≡ length history.host = sym (length-append before.host host) ∙ ap length left.host_are in
      let c = accepted.number_in_range in
      let d : length before.edges + length before.host < 65536 = omega arith in
      grind (arith, nat_tests, d)

  edge_before_end : (e : Edge) (edges : List Edge) (host : List HostEvent) → IsLeft history before (e ∷ edges) host → e.stamp ≤ history.end
  edge_before_end e edges host left =
      let all = subst (All (λ edge. edge.stamp ≤ history.end)) (sym left.edges_are) accepted.edges_before_end in
      let at = all (length before.edges) e (omega (arith, length-append before.edges (e ∷ edges))) in
      subst (λ (x : Edge). x.stamp ≤ history.end) (get_or_at before.edges e edges e (length before.edges) refl) at

  host_before_end : (e : HostEvent) (edges : List Edge) (host : List HostEvent)
      → IsLeft history before edges (e ∷ host) → e.stamp ≤ history.end
  host_before_end e edges host left =
      let all = subst (All (λ event. event.stamp ≤ history.end)) (sym left.host_are) accepted.host_before_end in
      let at = all (length before.host) e (omega (arith, length-append before.host (e ∷ host))) in
      subst (λ (x : HostEvent). x.stamp ≤ history.end) (get_or_at before.host e host e (length before.host) refl) at

  -- the next edge is taken
  pub edge_taken : (e : Edge) (edges : List Edge) (host : List HostEvent)
      → IsLeft history before (e ∷ edges) host → before.stamp ≤ e.stamp → take_event before (EdgeOf e) ≡ Ok (with_event before (EdgeOf e))
  edge_taken e edges host left order =
      let range : e.stamp ≤ 240000000 = omega (arith, edge_before_end e edges host left, accepted.end_in_range) in
      taken before (EdgeOf e) order range left.goes_on (room (e ∷ edges) host left (omega arith))
      (edge_unbroken history before e edges accepted.lawful left.edges_are)

  -- without its first edge what is left of an accepted history is what is left after that edge
  pub edge_left : (e : Edge) (edges : List Edge) (host : List HostEvent)
      → IsLeft history before (e ∷ edges) host → IsLeft history (with_event before (EdgeOf e)) edges host
  edge_left e edges host left =
      record { edges_are = append_assoc before.edges (e ∷ []) edges ∙ left.edges_are; host_are = left.host_are; goes_on = left.goes_on }

  -- what the host does next is taken
  pub host_taken : (e : HostEvent) (edges : List Edge) (host : List HostEvent)
      → IsLeft history before edges (e ∷ host) → before.stamp ≤ e.stamp → take_event before (HostOf e) ≡ Ok (with_event before (HostOf e))
  host_taken e edges host left order =
      let range : e.stamp ≤ 240000000 = omega (arith, host_before_end e edges host left, accepted.end_in_range) in
      taken before (HostOf e) order range left.goes_on (room edges (e ∷ host) left (omega arith)) (λ more. refl)

  -- without its first event of the host what is left of an accepted history is what is left after that event
  pub host_left : (e : HostEvent) (edges : List Edge) (host : List HostEvent)
      → IsLeft history before edges (e ∷ host) → IsLeft history (with_event before (HostOf e)) edges host
  host_left e edges host left =
      record { edges_are = left.edges_are; host_are = append_assoc before.host (e ∷ []) host ∙ left.host_are; goes_on = left.goes_on }

  -- the end is taken
  pub end_taken : (stamp : ℕ)
      → before.end ≡ None → before.stamp ≤ stamp → stamp ≡ history.end → take_event before (End stamp) ≡ Ok (with_event before (End stamp))
  end_taken stamp goes_on order is =
      let range : stamp ≤ 240000000 = omega (arith, is, accepted.end_in_range) in
      taken before (End stamp) order range goes_on refl (λ more. refl)
