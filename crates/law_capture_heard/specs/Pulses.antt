-- The pulses of the clock in the run of a layout.
use Rattle.std.specs.Prelude.{◌≡◌, ◌≤◌, ◌⊎◌, ℕ, suc, ◌*◌, Option, Some, None}
use Rattle.std.specs.Option.{option_map}
use Rattle.fw_compile.specs.Image.{image_of}
use Rattle.joint_feed.specs.Stories.{Story, state_at, story}
use Rattle.joint_run.specs.Joint.{Beside}
use Rattle.joint_run.specs.Run.{World}
use Rattle.key_file.specs.Accepted.{IsLawfulFor}
use Rattle.key_file.specs.Histories.{KeyHistory}
use Rattle.layout_reader.specs.Layouts.{KeyLayout, IsKeyLayout}
use Rattle.capture_frames.specs.Frames.{width}
use Rattle.capture_frames.specs.Listening.{Hearing}
use Rattle.capture_frames.specs.Pulses.{pulse_by}
use Rattle.law_wires_heard.specs.Hearing.{sample_in}
use Rattle.law_capture_heard.specs.Captured.{hearing_to}

-- the width in nanoseconds of the pulse that ends in the sample of a state, if one does
abbrev pub width_in : Option (World Beside) → Hearing → Option ℕ
width_in None h = None
width_in (Some w) h = option_map width (pulse_by (2500 * w.cycle) (sample_in w).lines h.clock)

abbrev pub width_at : Story → ℕ → Option ℕ
width_at s k = width_in (state_at s (suc k)) (hearing_to s k)

-- the pulse is the keyboard's, of 40 µs, or the controller's, of 155 µs at least
abbrev pub IsWide : Option ℕ → Type 0
IsWide None = Unit {0}
IsWide (Some nanoseconds) = (nanoseconds ≡ 40000) ⊎ (155000 ≤ nanoseconds)

-- for every layout and every history that is lawful for it, in each step
abbrev pub PulsesLaw : Type 0
PulsesLaw =
    (layout : KeyLayout) (history : KeyHistory) → IsKeyLayout layout → IsLawfulFor layout history
    → (k : ℕ) → IsWide (width_at (story (image_of layout) history) k)
