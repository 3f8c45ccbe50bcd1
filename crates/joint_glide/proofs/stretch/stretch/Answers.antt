use Rattle.std.proofs.Common.{inl, inr, ◌≡◌, ◌≤◌, ◌+◌, ◌*◌, ◌%◌, ◌==◌, false, ap, sym, ◌∙◌, arith}
use Rattle.mcs48_core.specs.Leap.{spun}
use Rattle.joint_run.specs.declared.machine.Machine.{Machine}
use Rattle.joint_glide.specs.Uneventful.{is_at}
use Rattle.joint_glide.proofs.Turns.{parts_leapt, parts_on, turn_leapt, turn_on, turn_stuck, turn_reported, turn_written}
use Rattle.joint_glide.proofs.stretch.stretch.Goals as goal

pub returns-in-Err : goal.returns-in-Err
returns-in-Err c =
    let inv = c.steps.invariant in
    record {
      stretched =
          turn_stuck c.args.due.now c.args.tick_pc c.args.joint.now c.steps.joint c.args.room c.steps.steps c.steps.passed
          c.requires.still inv.parts inv.latch inv.quiet c.steps-test.true
          c.call.new.joint c.count.new.self c.call.ensures.parts c.in-Err.stuck c.in-Err.ensures.step c.count.ensures.counted;
      far = tt;
    }

pub returns-then-port_2-latch : goal.returns-then-port_2-latch
returns-then-port_2-latch c =
    let inv = c.steps.invariant in
    record {
      stretched =
          turn_written c.args.due.now c.args.tick_pc c.args.joint.now c.steps.joint c.args.room c.steps.steps c.steps.passed
          c.requires.still inv.parts inv.latch inv.quiet c.steps-test.true
          c.call.new.joint c.count-then-port_2-latch.new.self c.call.ensures.parts c.in-Ok.cycles
          c.in-Ok.ensures.some c.in-Ok.ensures.few c.in-Ok.ensures.step
          c.end_step.new.self c.end_step.new.seen c.count-then-port_2-latch.ensures.counted c.end_step.ensures.ended
          c.end_step.ensures.seen c.end_step.ensures.cycles;
      far = inl (λ same.
          let kept = ap (λ (m : Machine). m.mcu.p2) c.end_step.ensures.ended ∙ ap (λ (m : Machine). m.mcu.p2) c.count-then-port_2-latch.ensures.counted in
          c.if-port_2-latch.true (c.port_2.ensures ∙ sym kept ∙ same ∙ sym c.port_2-latch.ensures));
    }

pub returns-then-is_at : goal.returns-then-is_at
returns-then-is_at c =
    let inv = c.steps.invariant in
    let kept : c.call.new.joint.mcu.p2 ≡ c.steps.joint.mcu.p2 =
    sym c.port_2.ensures ∙ c.if-port_2-latch.false ∙ c.port_2-latch.ensures ∙ sym inv.latch in
    record {
      stretched =
          turn_reported c.args.due.now c.args.tick_pc c.args.joint.now c.steps.joint c.args.room c.steps.steps c.steps.passed
          c.requires.still inv.parts inv.latch inv.quiet c.steps-test.true
          c.call.new.joint c.count-then-is_at.new.self c.call.ensures.parts c.in-Ok.cycles c.in-Ok.ensures.some
          c.in-Ok.ensures.few c.in-Ok.ensures.step kept
          c.lines-line.result c.report.new.seen c.lines-line.ensures.wires c.count-then-is_at.ensures.counted c.report.ensures;
      far = inr (ap (λ (m : Machine). is_at c.args.tick_pc m) c.count-then-is_at.ensures.counted ∙ sym c.is_at.ensures ∙ c.if-is_at.true);
    }

pub steps-preserved : goal.steps-preserved
steps-preserved c =
    let inv = c.steps.invariant in
    let kept : c.call.new.joint.mcu.p2 ≡ c.steps.joint.mcu.p2 =
    sym c.port_2.ensures ∙ c.if-port_2-latch.false ∙ c.port_2-latch.ensures ∙ sym inv.latch in
    let off : (c.call.new.joint.mcu.pc % 2048 == c.args.tick_pc) ≡ false = sym c.is_at.ensures ∙ c.if-is_at.false in
    record {
      quiet =
          turn_on c.args.due.now c.args.tick_pc c.args.joint.now c.steps.joint c.args.room c.steps.steps c.steps.passed
          c.requires.still inv.parts inv.latch inv.quiet c.steps-test.true
          c.call.new.joint c.call.new.joint c.call.ensures.parts c.in-Ok.cycles c.in-Ok.ensures.some
          c.in-Ok.ensures.few c.in-Ok.ensures.step kept off;
      parts = parts_on c.args.joint.now c.steps.joint c.call.new.joint inv.parts c.call.ensures.parts;
      latch = kept ∙ inv.latch;
      room = let test = c.steps-test.true in let few = c.in-Ok.ensures.few in omega (arith, test, few);
      each = let some = c.in-Ok.ensures.some in let each = inv.each in omega (arith, some, each);
    }

pub steps-preserved-then-counter-place : goal.steps-preserved-then-counter-place
steps-preserved-then-counter-place c =
    let inv = c.steps.invariant in
    let kept : c.call.new.joint.mcu.p2 ≡ c.steps.joint.mcu.p2 =
    sym c.port_2.ensures ∙ c.if-port_2-latch.false ∙ c.port_2-latch.ensures ∙ sym inv.latch in
    let off : (c.call.new.joint.mcu.pc % 2048 == c.args.tick_pc) ≡ false = sym c.is_at.ensures ∙ c.if-is_at.false in
    let e = c.leap-jumps.ensures in
    let low : c.steps.passed + c.in-Ok.cycles + 2 * c.leap-jumps.result ≤ c.args.room =
    let test = c.steps-test.true in let few = c.in-Ok.ensures.few in let most = e.few in omega (arith, test, few, most) in
    record {
      quiet =
          turn_leapt c.args.due.now c.args.tick_pc c.args.joint.now c.steps.joint c.args.room c.steps.steps c.steps.passed
          c.requires.still inv.parts inv.latch inv.quiet c.steps-test.true
          c.call.new.joint c.call.new.joint c.call.ensures.parts c.in-Ok.cycles c.in-Ok.ensures.some
          c.in-Ok.ensures.few c.in-Ok.ensures.step kept
          c.leap-jumps.new.joint c.leap-jumps.result off e.start e.steps e.end low;
      parts =
          parts_leapt c.args.joint.now c.call.new.joint c.leap-jumps.new.joint (spun c.leap-jumps.result c.call.new.joint.mcu)
          (parts_on c.args.joint.now c.steps.joint c.call.new.joint inv.parts c.call.ensures.parts) e.end;
      latch = ap (λ (m : Machine). m.mcu.p2) e.end ∙ kept ∙ inv.latch;
      room = low;
      each = let some = c.in-Ok.ensures.some in let each = inv.each in omega (arith, some, each);
    }
