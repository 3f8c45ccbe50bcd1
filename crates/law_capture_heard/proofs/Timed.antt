-- The cycles of the states of a run.
use Rattle.std.proofs.Common.{◌≡◌, ◌≤◌, ℕ, zero, suc, ◌+◌, ◌*◌, Some, ap, ◌∙◌, arith}
use Rattle.joint_feed.specs.Stories.{Story, state_at}
use Rattle.joint_run.specs.Joint.{Beside, joint_start_of}
use Rattle.joint_run.specs.Run.{World}
use Rattle.law_wires_heard.proofs.Pulls.{comes_from}
use Rattle.law_capture_heard.proofs.EachStep.{found_all}
use Rattle.law_capture_heard.proofs.Samples.{IsTimed, read_back, seen_back}
use Rattle.law_capture_heard.specs.Captured.{ReadBackLaw}
use Rattle.law_capture_heard.specs.Seen.{SeenBackLaw}
use Rattle.capture_frames.specs.Listening.{at_first}
use Rattle.capture_lines.specs.Captures.{found_by}
use Rattle.capture_vcd.specs.Reads.{Reads}

same_world : (a b : World Beside) → Some a ≡ Some b → a ≡ b
same_world a b h = cc

few : (s : Story) (k : ℕ) (u : World Beside) → state_at s k ≡ Some u → u.cycle ≤ 2 * k
few s zero u at =
    let at_zero : (joint_start_of s.held).cycle ≡ u.cycle = ap (λ (w : World Beside). w.cycle) (same_world (joint_start_of s.held) u at) in
    omega (arith, at_zero)
few s (suc k) u at =
    let c = comes_from s k u at in
    let before : c.before.cycle ≤ 2 * k = few s k c.before c.at in
    let most : c.step.count ≤ 2 = c.step.most in
    let cycle : u.cycle ≡ c.before.cycle + c.step.count = c.step.cycle in
    omega (arith, before, most, cycle)

timed : (s : Story) → IsTimed s
timed s = record {
  few = few s;
  earlier = λ k u is. (comes_from s k u is).before;
  there = λ k u is. (comes_from s k u is).at;
  rises = λ k u is.
      let c = comes_from s k u is in
      let least : 1 ≤ c.step.count = c.step.least in
      let cycle : u.cycle ≡ c.before.cycle + c.step.count = c.step.cycle in
      omega (arith, least, cycle);
}

-- the law holds of each trace
pub every_trace : ReadBackLaw
every_trace seen s k l =
    let samples = read_back seen s (timed s) k l in
    record { samples = samples; findings = ap (λ (r : Reads). found_by at_first r.samples) samples ∙ found_all s k }

-- and so does that of data as the controller sees it
pub every_seen_trace : SeenBackLaw
every_seen_trace s k l = seen_back s (timed s) k l
