-- Cycles in which the host's quiet events may be due, over a free link.
use Rattle.std.proofs.Common.{◌≡◌, ℕ, suc, zero, ◌+◌, List, [], ◌++◌, Bool, true, false, not, ◌&&◌, Some, None, refl, ap, sym, ◌∙◌}
use Rattle.std.specs.Prelude.{if◌then◌else◌, nat_le, slice_get}
use Rattle.std.specs.declared.option.Option.{Option}
use Rattle.std.proofs.lemmas.List.{append_assoc}
use Rattle.ctl_link.specs.declared.link.Link.TheVariants.{Free}
use Rattle.board_terms.specs.declared.event.HostAct.{HostAct}
use Rattle.board_terms.specs.declared.event.HostAct.TheVariants.{Write60, Write64, Read60, Mask, Unmask, Take, Flip, Status as AskStatus}
use Rattle.board_terms.specs.declared.event.HostEvent.{HostEvent}
use Rattle.host_turn.specs.declared.stamped.Stamped.{Stamped}
use Rattle.host_turn.specs.Host.{waits, acted_where}
use Rattle.host_turn.specs.Cycle.{cycled, host_of}
use Rattle.host_turn.specs.Run.{stamped, desk_of, with_cycled}
use Rattle.model_controller.specs.ByteTime.{is_open, quietly}
use Rattle.law_quiet_log.specs.Quiet.{IsQuietAct}
use Rattle.law_quiet_log.proofs.Calm.{Pc, core_of, bios_by, items_by, after_event, items_now, pc_after}
use Rattle.law_quiet_log.proofs.Undue.{side, cycle_by, cycle_is, relogged}

-- the next event is a quiet one, where there is one
abbrev pub IsQuietNext : Option HostEvent → Type 0
IsQuietNext None = Unit {0}
IsQuietNext (Some e) = IsQuietAct e.act

-- a cycle with an event that is due, or not
acts_by : (now : ℕ) (c : Bool) (act : HostAct) (q : Pc) (filled : ℕ) (log : List Stamped) → IsQuietAct act
    → cycle_by now
    (acted_where (c && not (waits act (core_of false q))) act (host_of (desk_of (side Free false q filled log))))
    (c && not (waits act (core_of false q))) (side Free false q filled log)
    ≡ side Free false
    (record {
      mark = q.mark;
      out = q.out;
      bios = if c then bios_by act q.bios else q.bios;
      done = if c then q.done + 1 else q.done;
    })
    filled (log ++ stamped now (if c then items_by act q else []))
acts_by now c (Write60 byte) q filled log h = absurd h
acts_by now c (Write64 byte) q filled log h = absurd h
acts_by now c Read60 q filled log h = absurd h
acts_by now c Mask q filled log h = absurd h
acts_by now c Unmask q filled log h = absurd h
acts_by now true Take q filled log h = refl
acts_by now false Take q filled log h = refl
acts_by now true AskStatus q filled log h = refl
acts_by now false AskStatus q filled log h = refl
acts_by now c (Flip bit) q filled log h = absurd h

-- the same of the next event, where there is one
acts_next : (now : ℕ) (o : Option HostEvent) (q : Pc) (filled : ℕ) (log : List Stamped) → IsQuietNext o
    → with_cycled now (cycled is_open now o (desk_of (side Free false q filled log))) (side Free false q filled log)
    ≡ side Free false (after_event now o q) filled (log ++ stamped now (items_now now o q))
acts_next now None q filled log h = refl
acts_next now (Some e) q filled log h = acts_by now (nat_le (e.stamp + 4096) now) e.act q filled log h

module _ (events : List HostEvent) where
  -- the items, each with its cycle
  abbrev pub said_in : ℕ → ℕ → Pc → List Stamped
  said_in zero now q = []
  said_in (suc n) now q =
      stamped now (items_now now (slice_get events q.done) q)
      ++ said_in n (suc now) (after_event now (slice_get events q.done) q)

  -- so many cycles: the events that are due are done, each in its cycle
  pub acts_span : ((i : ℕ) → IsQuietNext (slice_get events i)) → (n now : ℕ) (q : Pc) (filled : ℕ) (log : List Stamped)
      → quietly events n now (side Free false q filled log)
      ≡ side Free false (pc_after events n now q) filled (log ++ said_in n now q)
  acts_span h zero now q filled log = sym (relogged Free false q filled log)
  acts_span h (suc n) now q filled log =
      let q' : Pc = after_event now (slice_get events q.done) q in
      let new : List Stamped = stamped now (items_now now (slice_get events q.done) q) in
      ap (λ v. quietly events n (suc now) v)
      (cycle_is events now (side Free false q filled log)
      ∙ acts_next now (slice_get events q.done) q filled log (h q.done))
      ∙ acts_span h n (suc now) q' filled (log ++ new)
      ∙ ap (λ v. side Free false (pc_after events n (suc now) q') filled v)
      (append_assoc log new (said_in n (suc now) q'))
