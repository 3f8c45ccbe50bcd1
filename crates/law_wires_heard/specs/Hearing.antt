-- What a decoder hears that samples the two wires after each step of the joint run.
use Rattle.std.specs.Prelude.{◌≡◌, ℕ, zero, suc, List, [], ◌∷◌, ◌++◌, Some, None}
use Rattle.std.specs.declared.option.Option.{Option}
use Rattle.fw_compile.specs.Image.{image_of}
use Rattle.run_probes.specs.Transfers.{Ear, heard, sample, silence, completed}
use Rattle.run_probes.specs.declared.heard.Sample.{Sample}
use Rattle.board_terms.specs.declared.transfer.Transfer.{Transfer}
use Rattle.joint_feed.specs.Stories.{Story, story, story_from, state_at}
use Rattle.joint_run.specs.Joint.{Beside, latch_of}
use Rattle.joint_run.specs.Run.{World}
use Rattle.key_file.specs.Accepted.{IsLawfulFor}
use Rattle.key_file.specs.Histories.{KeyHistory}
use Rattle.layout_reader.specs.Layouts.{KeyLayout, IsKeyLayout}
use Rattle.mcs48_core.specs.Cpu.{Cpu}
use Rattle.mcs48_ranges.specs.Sizes.{IsFine}
use Rattle.ctl_wire.specs.Wires.{wires}
use Rattle.law_wires_heard.specs.Passing.{passed_at, passed_to}

-- the sample that a state is: the cycles that are done, and the wires after the last of them
abbrev pub sample_in : World Beside → Sample
sample_in w = sample w.cycle (wires (latch_of w.cpu.p2) w.board.pc)

-- what is kept after the sample of a state, if there is one
abbrev pub heard_in : Option (World Beside) → Ear → Ear
heard_in None ear = ear
heard_in (Some w) ear = heard (sample_in w) ear

-- after the samples of the first k steps
abbrev pub heard_to : Story → ℕ → Ear
heard_to s zero = silence
heard_to s (suc k) = heard_in (state_at s (suc k)) (heard_to s k)

-- one or none
abbrev pub listed : Option Transfer → List Transfer
listed None = []
listed (Some t) = t ∷ []

-- the transfer that the sample of a state completes
abbrev pub transfer_in : Option (World Beside) → Ear → List Transfer
transfer_in None ear = []
transfer_in (Some w) ear = listed (completed (sample_in w) ear)

-- that of a step by its number, and those of the first k steps, in order
abbrev pub transfer_at : Story → ℕ → List Transfer
transfer_at s k = transfer_in (state_at s (suc k)) (heard_to s k)

abbrev pub transfers_to : Story → ℕ → List Transfer
transfers_to s zero = []
transfers_to s (suc k) = transfers_to s k ++ transfer_at s k

-- the transfers that are heard in a run are the bytes that the controller takes and sends: step by step, and so in
-- order
pub record HearsAll (s : Story) : Type 0 where
  pub each : (k : ℕ) → transfer_at s k ≡ passed_at s k
  pub all : (k : ℕ) → transfers_to s k ≡ passed_to s k

-- for every layout and every history that is lawful for it
abbrev pub HeardLaw : Type 0
HeardLaw =
    (layout : KeyLayout) (history : KeyHistory) → IsKeyLayout layout → IsLawfulFor layout history
    → HearsAll (story (image_of layout) history)

-- and whatever the part held when it was switched on
abbrev pub AnyMemoryHeard : Type 0
AnyMemoryHeard =
    (layout : KeyLayout) (history : KeyHistory) (m : Cpu) → IsKeyLayout layout → IsLawfulFor layout history → IsFine m
    → HearsAll (story_from m (image_of layout) history)
