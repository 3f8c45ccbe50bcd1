-- The law over a whole run.
use Rattle.std.proofs.Common.{◌≡◌, ℕ, suc, zero, ◌++◌, refl, ap, ◌∙◌}
use Rattle.law_agreement.specs.Wires.{DrivesWires}
use Rattle.law_agreement.proofs.Run.{cleared, every_memory, every_wire}
use Rattle.fw_compile.specs.Image.{image_of}
use Rattle.fw_ticks.specs.JointRun.{KeepsTimeFrom}
use Rattle.joint_feed.specs.Stories.{Story, story_from}
use Rattle.joint_run.specs.Joint.{joint_start_of}
use Rattle.model_link.specs.Machine.{KeyboardMachine, keyboard}
use Rattle.mcs48_core.specs.Reset.{reset_cpu}
use Rattle.law_wires_heard.proofs.InTick.{heard_at}
use Rattle.law_wires_heard.proofs.OverTicks.{each_step}
use Rattle.law_wires_heard.specs.Hearing.{AnyMemoryHeard, HeardLaw, transfer_at, transfers_to}
use Rattle.law_wires_heard.specs.Passing.{passed_at, passed_to}

module _ (s : Story) (time : KeepsTimeFrom (joint_start_of s.held) s.bytes s.edges s.events) {S : Type 0} (kb : KeyboardMachine S)
    (wires : DrivesWires (joint_start_of s.held) s.bytes kb s.edges s.events) where
  -- in each step what is heard is what passes
  pub each : (k : ℕ) → transfer_at s k ≡ passed_at s k
  each =
      each_step s time (λ k. Unit {0}) (λ k. transfer_at s k ≡ passed_at s k) tt
      (λ t at. (
        tt,
        λ k a b.
            let u = time.goes_on (suc k) in
            heard_at s t.from t.to t.cycle t.start t.old t.lit t.was t.is t.frame t.fits t.idle t.tick t.whole k u.0 a b u.1,
      )) kb wires

  -- through each number of steps what is heard is what passes
  pub all : (k : ℕ) → transfers_to s k ≡ passed_to s k
  all zero = refl
  all (suc k) = ap (λ ts. ts ++ transfer_at s k) (all k) ∙ ap (λ ts. passed_to s k ++ ts) (each k)

-- what is heard on the wires is what the controller takes and sends, whatever the part held when it was switched on
pub any_run_is_heard : AnyMemoryHeard
any_run_is_heard layout history m fine ok small =
    let s : Story = story_from m (image_of layout) history in
    let time = (every_memory layout history fine ok m small).0 in
    let wires = every_wire layout history fine ok m small in
    record { each = each s time (keyboard layout) wires; all = all s time (keyboard layout) wires }

-- what is heard on the wires is what the controller takes and sends, in each run of a lawful history
pub every_run_is_heard : HeardLaw
every_run_is_heard layout history fine ok = any_run_is_heard layout history reset_cpu fine ok cleared
