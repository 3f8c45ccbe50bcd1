use Rattle.std.proofs.Common.{◌≡◌, true, List, suc, ap, sym, subst, ◌∙◌, arith}
use Rattle.board_terms.specs.declared.lines.Lines.{Lines}
use Rattle.run_probes.specs.Probes.{Watch}
use Rattle.run_loop.specs.Gliding.{HasGlided, IsHeldUp, IsTimely}
use Rattle.run_loop.specs.Stretching.{CanFollow}
use Rattle.run_loop.proofs.Dozing.{as_seen, none_dozed}
use Rattle.run_loop.proofs.Quietly.{none_onward}
use Rattle.run_loop.proofs.Slept.{dozed, glided, held_seen, held_unseen, later, none_there, woken}
use Rattle.run_loop.proofs.Timekeeping.{never_stuck, soon}
use Rattle.run_loop.proofs.gliding.glide.Given as given
use Rattle.run_loop.proofs.gliding.glide.Goals as goal

pub steps-init : goal.steps-init
steps-init g c = record {
  dozed = λ s first way. none_dozed c.args.halt s first c.args.course.now c.args.course.now c.steps-latest.result _
      (none_onward c.args.halt s c.args.course.now way.going) c.steps-latest.ensures.steps way.looked;
  resting = λ on. sym c.all_rest-rest.ensures ∙ on;
  level = ap (λ (l : Lines). l.clk) (sym c.lines-lines.ensures.wires);
  levels = λ on. sym c.lines-lines.ensures.wires;
}

pub make_steps-requires-clause-going : goal.make_steps-requires-clause-going
make_steps-requires-clause-going g c =
    let way = c.requires.way in
    (way.0, (c.steps.invariant.dozed way.0 way.1 way.2).onward.going)

pub unreachable-requires : goal.unreachable-requires
unreachable-requires g c =
    let way = c.requires.way in
    let inv = c.steps.invariant in
    never_stuck way.0 (suc c.in-Err.ensures.made.gone.last.steps) (subst (λ v. IsTimely v way.0) c.in-TickStart.is way.2.going.timely)
    (none_there c.args.halt way.0 way.1 c.args.course.now c.steps.latest c.steps.course _ (inv.dozed way.0 way.1 way.2)
    c.steps.clk c.steps.rest inv.level inv.resting c.make_steps.new.course c.in-Err.stuck c.in-Err.ensures.made)

pub returns-then-steps-latest : goal.returns-then-steps-latest
returns-then-steps-latest g c = record {
  far = tt;
  glide = λ s first way.
      let inv = c.steps.invariant in
      let new = c.make_steps.new.course in
      subst (λ (ws : List Watch). IsHeldUp c.args.halt s first c.args.course.now new ws c.in-Err.stuck)
      (sym (as_seen c.steps.probes.items (λ b. (given.Probe-dyn g (b.vtable, b.value)).watch b.value) new c.steps-steps.result _
      c.steps-steps.ensures.steps c.look_all.ensures.looked))
      (held_seen c.args.halt s first c.args.course.now c.steps.latest c.steps.course _ (inv.dozed s first way)
      c.steps.clk c.steps.rest inv.level inv.resting new c.in-Err.stuck c.in-Err.ensures.made
      (λ same. c.if-steps-latest.true (c.steps-steps.ensures.steps ∙ same)));
}

pub returns-else-steps-latest : goal.returns-else-steps-latest
returns-else-steps-latest g c = record {
  far = tt;
  glide = λ s first way.
      let inv = c.steps.invariant in
      held_unseen c.args.halt s first c.args.course.now c.steps.latest c.steps.course _ (inv.dozed s first way)
      c.steps.clk c.steps.rest inv.level inv.resting c.make_steps.new.course c.in-Err.stuck c.in-Err.ensures.made
      (sym c.steps-steps.ensures.steps ∙ c.if-steps-latest.false);
}

pub returns-then-not-follows : goal.returns-then-not-follows
returns-then-not-follows g c = record {
  glide = λ s first way.
      let inv = c.steps.invariant in
      let new = c.make_steps.new.course in
      let number = c.steps-latest-then-not-is_passed_over in
      subst (λ (ws : List Watch). HasGlided c.args.halt s first c.args.course.now new ws)
      (sym (as_seen c.steps.probes.items (λ b. (given.Probe-dyn g (b.vtable, b.value)).watch b.value) new number.result _
      number.ensures.steps c.look_all-then-not-is_passed_over.ensures.looked))
      (glided c.args.halt s first c.args.course.now c.steps.latest c.steps.course _ (inv.dozed s first way)
      c.steps.clk c.steps.rest inv.level inv.resting new c.in-Ok.ensures.made c.in-Ok.ensures.some c.in-Ok.ensures.few);
  far = λ can.
      let old = subst (λ (l : Lines). CanFollow c.args.halt l c.make_steps.new.course) (sym c.lines-lines.ensures.wires) can in
      absurd (cc (c.if-not-follows.true, c.can_follow-follows.ensures.always old));
}

pub steps-smaller-then-not-is_passed_over : goal.steps-smaller-then-not-is_passed_over
steps-smaller-then-not-is_passed_over g c =
    let way = c.requires.way in
    let inv = c.steps.invariant in
    let so_far = inv.dozed way.0 way.1 way.2 in
    let near = soon c.args.halt way.0 c.steps.course so_far.onward.going in
    let more = later c.args.halt way.0 way.1 c.args.course.now c.steps.latest c.steps.course _ so_far
    c.steps.clk c.steps.rest inv.level inv.resting c.make_steps.new.course c.in-Ok.ensures.made c.in-Ok.ensures.some c.in-Ok.ensures.few in
    omega (arith, near, more)

pub steps-smaller : goal.steps-smaller
steps-smaller g c =
    let way = c.requires.way in
    let inv = c.steps.invariant in
    let so_far = inv.dozed way.0 way.1 way.2 in
    let near = soon c.args.halt way.0 c.steps.course so_far.onward.going in
    let more = later c.args.halt way.0 way.1 c.args.course.now c.steps.latest c.steps.course _ so_far
    c.steps.clk c.steps.rest inv.level inv.resting c.make_steps.new.course c.in-Ok.ensures.made c.in-Ok.ensures.some c.in-Ok.ensures.few in
    omega (arith, near, more)

pub steps-preserved-then-not-is_passed_over : goal.steps-preserved-then-not-is_passed_over
steps-preserved-then-not-is_passed_over g c =
    let inv = c.steps.invariant in
    let new = c.make_steps.new.course in
    let number = c.steps-latest-then-not-is_passed_over in
    let follows : c.can_follow-follows.result ≡ true = cc c.if-not-follows.false in
    let can = c.can_follow-follows.ensures.follows follows in
    record {
      dozed = λ s first way.
          woken c.args.halt s first c.args.course.now c.steps.latest c.steps.course _ (inv.dozed s first way)
          c.steps.clk c.steps.rest inv.level inv.resting new c.in-Ok.ensures.made c.in-Ok.ensures.some c.in-Ok.ensures.few
          c.lines-lines.result inv.levels can number.result number.ensures.steps _
          (as_seen c.steps.probes.items (λ b. (given.Probe-dyn g (b.vtable, b.value)).watch b.value) new number.result _
          number.ensures.steps c.look_all-then-not-is_passed_over.ensures.looked);
      resting = λ on. sym c.all_rest-rest-then-not-is_passed_over.ensures ∙ on;
      level = ap (λ (l : Lines). l.clk) (sym c.lines-clk.ensures.wires);
      levels = can.levels;
    }

pub steps-preserved : goal.steps-preserved
steps-preserved g c =
    let inv = c.steps.invariant in
    let passed : c.is_passed_over.result ≡ true = cc c.if-not-is_passed_over.false in
    let can = c.can_follow-follows.ensures.follows (c.is_passed_over.ensures.follows passed) in
    let now = c.is_passed_over.ensures.level passed in
    record {
      dozed = λ s first way.
          dozed c.args.halt s first c.args.course.now c.steps.latest c.steps.course _ (inv.dozed s first way)
          c.steps.clk c.steps.rest inv.level inv.resting c.make_steps.new.course c.in-Ok.ensures.made c.in-Ok.ensures.some
          c.in-Ok.ensures.few c.lines-lines.result inv.levels can (inv.resting (c.is_passed_over.ensures.rest passed)) now;
      resting = inv.resting;
      level = now;
      levels = can.levels;
    }
