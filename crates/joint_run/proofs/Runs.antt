-- The step of the machine is the joint step under every history whose next events are handed in.
use Rattle.std.proofs.Common.{◌≡◌, ◌<◌, ℕ, suc, zero, ◌+◌, List, [], ◌∷◌, ◌++◌, append_assoc, take}
use Rattle.std.proofs.Common.{drop, Bool, true, false, refl, ap, sym, ◌∙◌, arith}
use Rattle.std.specs.Prelude.{if◌then◌else◌, slice_get}
use Rattle.std.proofs.lemmas.List.{append-nil}
use Rattle.board_terms.specs.declared.event.HostEvent.{HostEvent}
use Rattle.host_turn.specs.declared.stamped.Stamped.{Stamped}
use Rattle.joint_run.specs.declared.outside.Outside.{Outside}
use Rattle.joint_run.specs.Run.{after_cycles}
use Rattle.joint_run.specs.Joint.{Beside, joint_cycle}
use Rattle.joint_run.specs.Due.{beside, outside_of, passed}
use Rattle.joint_run.specs.Cycle.{Passed, outside_cycle}
use Rattle.joint_run.proofs.Passing.{cycle_is}

-- the next two events
pub next_one : (events : List HostEvent) (done : ℕ) → slice_get events done ≡ slice_get (take 2 (drop done events)) 0
next_one [] done = ap (λ (es : List HostEvent). slice_get (take 2 es) 0) (sym (Rattle.std.proofs.Math.Seq.drop-nil done))
next_one (e ∷ es) zero = refl
next_one (e ∷ es) (suc done) = next_one es done

-- the second event from one on is the second of the two that were handed in
pub next_two : (events : List HostEvent) (done : ℕ) → slice_get events (suc done) ≡ slice_get (take 2 (drop done events)) 1
next_two [] done = ap (λ (es : List HostEvent). slice_get (take 2 es) 1) (sym (Rattle.std.proofs.Math.Seq.drop-nil done))
next_two (e ∷ []) zero = refl
next_two (e ∷ f ∷ es) zero = refl
next_two (e ∷ es) (suc done) = next_two es done

-- counts and logs after others
count_on : (d : Bool) (done k : ℕ) → (if d then done + k + 1 else done + k) ≡ done + (if d then k + 1 else k)
count_on true done k = omega arith
count_on false done k = refl

-- a state of a run, with what was done and said before it
abbrev pub afterwards : ℕ → List Stamped → Beside → Beside
afterwards done log s = beside (outside_of s) (done + s.pc.side.done) (log ++ s.pc.side.log)

module _ (events due : List HostEvent) (p2 : ℕ) (done : ℕ) (log : List Stamped) where
  same_cycle : (now : ℕ) (o : Outside) (k : ℕ) (said : List Stamped) → slice_get events (done + k) ≡ slice_get due k
      → joint_cycle events p2 now (afterwards done log (beside o k said)) ≡ afterwards done log (joint_cycle due p2 now (beside o k said))
  same_cycle now o k said e =
      let c : Passed = outside_cycle now p2 (slice_get due k) o in
      cycle_is events p2 now o (done + k) (log ++ said)
      ∙ ap (λ v. beside (outside_cycle now p2 v o).outside (if (outside_cycle now p2 v o).done then done + k + 1 else done + k)
      ((log ++ said) ++ (outside_cycle now p2 v o).items)) e
      ∙ ap (λ v. beside c.outside v ((log ++ said) ++ c.items)) (count_on c.done done k)
      ∙ ap (λ v. beside c.outside (done + (if c.done then k + 1 else k)) v) (append_assoc log said c.items)
      ∙ ap (λ v. afterwards done log v) (sym (cycle_is due p2 now o k said))

  module _ (one : slice_get events done ≡ slice_get due 0) (two : slice_get events (suc done) ≡ slice_get due 1)
      (now : ℕ) (o : Outside) where
    nth_same : (d : Bool) → slice_get events (done + (if d then 0 + 1 else 0)) ≡ slice_get due (if d then 0 + 1 else 0)
    nth_same true = let s : done + 1 ≡ suc done = omega arith in ap (λ k. slice_get events k) s ∙ two
    nth_same false = let z : done + 0 ≡ done = omega arith in ap (λ k. slice_get events k) z ∙ one

    first_cycle : joint_cycle events p2 now (beside o done log) ≡ afterwards done log (joint_cycle due p2 now (beside o 0 []))
    first_cycle =
        let z : done ≡ done + 0 = omega arith in
        ap (λ v. joint_cycle events p2 now (beside o done v)) (sym (append-nil log))
        ∙ ap (λ v. joint_cycle events p2 now (beside o v (log ++ []))) z
        ∙ same_cycle now o 0 [] (nth_same false)

    second_cycle : joint_cycle events p2 (now + 1) (joint_cycle events p2 now (beside o done log))
        ≡ afterwards done log (joint_cycle due p2 (now + 1) (joint_cycle due p2 now (beside o 0 [])))
    second_cycle =
        let c : Passed = outside_cycle now p2 (slice_get due 0) o in
        let k : ℕ = if c.done then 0 + 1 else 0 in
        let said : List Stamped = [] ++ c.items in
        let t : joint_cycle due p2 now (beside o 0 []) ≡ beside c.outside k said = cycle_is due p2 now o 0 [] in
        ap (λ v. joint_cycle events p2 (now + 1) v) (first_cycle ∙ ap (λ v. afterwards done log v) t)
        ∙ same_cycle (now + 1) c.outside k said (nth_same c.done)
        ∙ ap (λ v. afterwards done log (joint_cycle due p2 (now + 1) v)) (sym t)

    -- the cycles of a step by the history are those by the events that were handed in
    pub same_cycles : (cycles : ℕ) → 0 < cycles
        → cycles < 3 → after_cycles cycles now (joint_cycle events p2) (beside o done log) ≡ afterwards done log (passed cycles now p2 due o)
    same_cycles zero some few = absurd (omega (arith, some))
    same_cycles (suc zero) some few = first_cycle
    same_cycles (suc (suc zero)) some few = second_cycle
    same_cycles (suc (suc (suc n))) some few = absurd (omega (arith, few))
