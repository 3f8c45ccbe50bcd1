use Rattle.std.proofs.Common.{◌≡◌, ◌≤◌, ◌-◌}
use Rattle.joint_glide.specs.Uneventful.{AreUneventful}
use Rattle.joint_glide.proofs.Stretches.{stood}
use Rattle.joint_glide.proofs.stretch.stretch.Given as goal

abbrev pub invariant-steps : goal.invariant-steps
invariant-steps l = record {
  quiet : AreUneventful l.due l.tick_pc l.steps l.fn.joint (stood l.fn.joint l.joint.mcu l.steps l.passed);
  parts : l.joint ≡ record l.fn.joint { mcu = l.joint.mcu };
  latch : l.joint.mcu.p2 ≡ l.fn.joint.mcu.p2;
  room : l.passed ≤ l.room;
  each : l.steps ≤ l.passed;
}

abbrev pub decreases-steps : goal.decreases-steps
decreases-steps l = l.room - l.passed
