use Rattle.std.proofs.Common.{◌≡◌, ◌≤◌, ◌<◌, ◌^◌, ◌-◌, ℕ, List, [], ◌∷◌, ◌++◌, false, refl, ap, sym, ◌∙◌, arith}
use Rattle.std.specs.Prelude.{map}
use Rattle.host_turn.specs.Host.{waits}
use Rattle.joint_run.specs.Due.{due_step}
use Rattle.joint_run.specs.declared.due.Due.{Due}
use Rattle.live_board.proofs.Calling.{acted_on, acted_stuck, answered_here, says_on, holds_still, stuck_at}
use Rattle.live_board.proofs.Onwards.{host_step, no_step}
use Rattle.live_board.proofs.Passed.{passed_over}
use Rattle.live_board.proofs.Stepping.{counted}
use Rattle.live_board.proofs.Tallying.{line_here}
use Rattle.live_board.specs.Heard.{heard_all, rise, said_so}
use Rattle.live_board.specs.Passing.{at_fall, passed_by}
use Rattle.live_board.specs.Pasts.{acted, state_of}
use Rattle.live_board.specs.Rising.{irq_in, irq_of}
use Rattle.live_board.specs.States.{HasPast}
use Rattle.live_items.specs.declared.happened.Happened.{Happened}
use Rattle.live_board.specs.declared.irq.Irq.{Irq}
use Rattle.live_board.specs.declared.parts.Parts.{Parts as Keyboard}
use Rattle.live_board.proofs.parts.Parts.act.Goals as goal

pub returns-in-Ok-clause-acted : goal.returns-in-Ok-clause-acted
returns-in-Ok-clause-acted c =
    let k = c.args.self.now in
    let act = c.args.act in
    let cycle = c.cycle-cycle.ensures.cycle in
    let not_early = c.if-cycle-lt-STAMP_0.false in
    let not_over = c.if-cycle-ge-LAST_CYCLE.false in
    let late : 4096 ≤ k.joint.cycle = omega (arith, cycle, not_early) in
    let near : k.joint.cycle < 2 ^ 62 = omega (arith, cycle, not_over) in
    let room : waits act k.joint.outside.desk.port.core ≡ false = sym c.waits.ensures ∙ c.if-waits.false in
    let due : Due = record { edges = k.due.edges; host = c.one_event-self.result } in
    let only : due.host.items ≡ record { stamp = k.joint.cycle - 4096; act = act } ∷ [] =
    c.one_event-self.ensures ∙ ap (λ n. record { stamp = n - 4096; act = act } ∷ []) cycle in
    let e = c.in-Ok.ensures in (
      record { late = late; near = near; room = room },
      λ p s. acted_on k act late room due c.step.new.self.joint c.step.new.self.seen only
          e.step p s refl _ refl e.edges c.new-self.ensures,
    )

pub returns-in-Ok-clause-said : goal.returns-in-Ok-clause-said
returns-in-Ok-clause-said c =
    let k = c.args.self.now in
    let act = c.args.act in
    let cycle = c.cycle-cycle.ensures.cycle in
    let not_early = c.if-cycle-lt-STAMP_0.false in
    let late : 4096 ≤ k.joint.cycle = omega (arith, cycle, not_early) in
    let room : waits act k.joint.outside.desk.port.core ≡ false = sym c.waits.ensures ∙ c.if-waits.false in
    let due : Due = record { edges = k.due.edges; host = c.one_event-self.result } in
    let only : due.host.items ≡ record { stamp = k.joint.cycle - 4096; act = act } ∷ [] =
    c.one_event-self.ensures ∙ ap (λ n. record { stamp = n - 4096; act = act } ∷ []) cycle in
    let e = c.in-Ok.ensures in
    λ p s. says_on k act late room due c.step.new.self.joint c.step.new.self.seen only e.step p s refl

pub returns-in-Ok-clause-log_kept : goal.returns-in-Ok-clause-log_kept
returns-in-Ok-clause-log_kept c =
    let k = c.args.self.now in
    let act = c.args.act in
    let cycle = c.cycle-cycle.ensures.cycle in
    let not_early = c.if-cycle-lt-STAMP_0.false in
    let late : 4096 ≤ k.joint.cycle = omega (arith, cycle, not_early) in
    let room : waits act k.joint.outside.desk.port.core ≡ false = sym c.waits.ensures ∙ c.if-waits.false in
    let due : Due = record { edges = k.due.edges; host = c.one_event-self.result } in
    let only : due.host.items ≡ record { stamp = k.joint.cycle - 4096; act = act } ∷ [] =
    c.one_event-self.ensures ∙ ap (λ n. record { stamp = n - 4096; act = act } ∷ []) cycle in
    let e = c.in-Ok.ensures in
    let new : Keyboard = record c.step.new.self { due = record c.step.new.self.due { host = c.new-self.result } } in
    λ p s.
    let t : HasPast (acted p (k.joint.cycle - 4096) act) new =
    acted_on k act late room due c.step.new.self.joint c.step.new.self.seen only
    e.step p s refl new refl e.edges c.new-self.ensures in
    record {
      items = c.step.new.self.seen.items.items;
      said = says_on k act late room due c.step.new.self.joint c.step.new.self.seen only e.step p s refl;
      kept =
          let cycles = (counted due k.joint c.step.new.self.joint c.step.new.self.seen e.step).0 in
          let at : c.step.new.self.joint.cycle - c.step.new.self.seen.cycles ≡ k.joint.cycle = omega (arith, cycles) in
          let items : List Happened = map said_so c.step.new.self.seen.items.items in
          e.kept
          ∙ ap (λ (n : ℕ). heard_all k.heard (passed_by (at_fall k.joint.outside) n new.joint.outside.clock ++ items)) at
          ∙ ap (λ (v : List Happened). heard_all k.heard (v ++ items))
          (sym (passed_over p (acted p (k.joint.cycle - 4096) act) k new s t));
      risen = e.risen ∙ ap (λ (x : Irq). rise x (irq_of new.joint.outside.desk.port)) (line_here p k s)
          ∙ ap (rise (irq_in (state_of p))) (line_here (acted p (k.joint.cycle - 4096) act) new t);
    }

pub returns-in-Ok-clause-answered : goal.returns-in-Ok-clause-answered
returns-in-Ok-clause-answered c =
    let k = c.args.self.now in
    let act = c.args.act in
    let cycle = c.cycle-cycle.ensures.cycle in
    let not_early = c.if-cycle-lt-STAMP_0.false in
    let late : 4096 ≤ k.joint.cycle = omega (arith, cycle, not_early) in
    let room : waits act k.joint.outside.desk.port.core ≡ false = sym c.waits.ensures ∙ c.if-waits.false in
    let due : Due = record { edges = k.due.edges; host = c.one_event-self.result } in
    let only : due.host.items ≡ record { stamp = k.joint.cycle - 4096; act = act } ∷ [] =
    c.one_event-self.ensures ∙ ap (λ n. record { stamp = n - 4096; act = act } ∷ []) cycle in
    let e = c.in-Ok.ensures in
    answered_here k act late room due c.step.new.self.joint c.step.new.self.seen only e.step

pub returns-in-Ok-clause-stepped : goal.returns-in-Ok-clause-stepped
returns-in-Ok-clause-stepped c =
    let k = c.args.self.now in
    let act = c.args.act in
    let cycle = c.cycle-cycle.ensures.cycle in
    let only : c.one_event-self.result.items ≡ record { stamp = k.joint.cycle - 4096; act = act } ∷ [] =
    c.one_event-self.ensures ∙ ap (λ n. record { stamp = n - 4096; act = act } ∷ []) cycle in
    let e = c.in-Ok.ensures in (
      host_step k act c.one_event-self.result only (record c.step.new.self { due = record c.step.new.self.due { host = c.new-self.result } })
          e.step e.edges e.kept e.risen,
      c.new-self.ensures,
    )

pub returns-in-Err-clause-stepped : goal.returns-in-Err-clause-stepped
returns-in-Err-clause-stepped c =
    let k = c.args.self.now in
    let act = c.args.act in
    let cycle = c.cycle-cycle.ensures.cycle in
    let only : c.one_event-self.result.items ≡ record { stamp = k.joint.cycle - 4096; act = act } ∷ [] =
    c.one_event-self.ensures ∙ ap (λ n. record { stamp = n - 4096; act = act } ∷ []) cycle in
    let e = c.in-Err.ensures in (
      no_step k act c.one_event-self.result only c.step.new.self.joint c.in-Err.stuck e.step,
      ap (λ (d : Due). d.edges) e.unchanged.1,
    )

pub returns-in-Err-clause-acted : goal.returns-in-Err-clause-acted
returns-in-Err-clause-acted c =
    let k = c.args.self.now in
    let act = c.args.act in
    let cycle = c.cycle-cycle.ensures.cycle in
    let not_early = c.if-cycle-lt-STAMP_0.false in
    let not_over = c.if-cycle-ge-LAST_CYCLE.false in
    let late : 4096 ≤ k.joint.cycle = omega (arith, cycle, not_early) in
    let near : k.joint.cycle < 2 ^ 62 = omega (arith, cycle, not_over) in
    let room : waits act k.joint.outside.desk.port.core ≡ false = sym c.waits.ensures ∙ c.if-waits.false in
    let due : Due = record { edges = k.due.edges; host = c.one_event-self.result } in
    let only : due.host.items ≡ record { stamp = k.joint.cycle - 4096; act = act } ∷ [] =
    c.one_event-self.ensures ∙ ap (λ n. record { stamp = n - 4096; act = act } ∷ []) cycle in
    let e = c.in-Err.ensures in (
      (
        record { late = late; near = near; room = room },
        stuck_at due k.joint c.step.new.self.joint c.in-Err.stuck (due_step due k.joint) e.step,
        λ p s. acted_stuck k act late due c.step.new.self.joint c.in-Err.stuck only refl e.step p s,
      ),
      e.unchanged.0,
      λ p s. holds_still p k _ e.unchanged.0 (ap (λ (d : Due). d.edges.items) e.unchanged.1) c.new-self-in-Err.ensures s,
    )
