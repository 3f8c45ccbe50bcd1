-- The bytes that a capture finds in the trace of a run, and those that pass over the wires in it.
use Rattle.std.specs.Prelude.{◌≡◌, ◌≤◌, ℕ, zero, suc, ◌-◌, ◌*◌, Bool, true, false, not, ◌&&◌, List, [], ◌∷◌}
use Rattle.std.specs.Prelude.{◌++◌, map, Option, Some, None, if◌then◌else◌}
use Rattle.board_terms.specs.declared.transfer.Transfer.{Transfer}
use Rattle.capture_lines.specs.Captures.{found_by}
use Rattle.ctl_wire.specs.Wire.{drive}
use Rattle.fw_compile.specs.Image.{image_of}
use Rattle.joint_feed.specs.Stories.{Story, state_at, story}
use Rattle.joint_run.specs.Joint.{Beside}
use Rattle.joint_run.specs.Run.{World}
use Rattle.key_file.specs.Accepted.{IsLawfulFor}
use Rattle.key_file.specs.Histories.{KeyHistory}
use Rattle.layout_reader.specs.Layouts.{KeyLayout, IsKeyLayout}
use Rattle.capture_frames.specs.declared.finding.Finding.{Finding}
use Rattle.capture_frames.specs.declared.finding.Finding.TheVariants.{Byte, Few, Cut, Unfinished, Stray, Glitch}
use Rattle.capture_frames.specs.declared.finding.Finding.TheVariants.{Hold as Held, StaysLow}
use Rattle.capture_frames.specs.declared.finding.Timed.{Timed}
use Rattle.capture_frames.specs.Listening.{at_first}
use Rattle.law_wires_heard.specs.Passing.{passed_at}
use Rattle.law_capture_heard.specs.Captured.{capture_of}

-- the findings that are bytes, whatever is wrong with them
abbrev pub is_byte : Finding → Bool
is_byte (Byte w) = true
is_byte (Few from_host edges) = false
is_byte (Cut from_host edges) = false
is_byte (Unfinished from_host edges) = false
is_byte Stray = false
is_byte Glitch = false
is_byte (Held asks) = false
is_byte StaysLow = false

abbrev pub bytes_in : List Timed → List Timed
bytes_in [] = []
bytes_in (t ∷ more) = (if is_byte t.finding then t ∷ [] else []) ++ bytes_in more

-- a byte with which nothing is wrong
abbrev pub right : Transfer → Finding
right t = Byte (record {
  from_host = t.from_host;
  byte = t.byte;
  start = true;
  parity = true;
  stop = true;
  acknowledged = true;
})

-- whether the controller pulls the clock in a state of a run
abbrev pub pulls_clock : World Beside → Bool
pulls_clock w = not (drive w.board.pc.side.port.link).clk

-- the cycles up to the state in which it let the clock go last
abbrev pub let_go_by : Option (World Beside) → Option (World Beside) → ℕ → ℕ
let_go_by (Some one) (Some next) before = if pulls_clock one && not (pulls_clock next) then next.cycle else before
let_go_by (Some one) None before = before
let_go_by None o before = before

abbrev pub let_go_to : Story → ℕ → ℕ
let_go_to s zero = 0
let_go_to s (suc k) = let_go_by (state_at s k) (state_at s (suc k)) (let_go_to s k)

-- the cycle at which a byte begins that passes in a step up to a state: the keyboard's with the first of its eleven
-- edges, which are 32 cycles apart; the controller's as it lets the clock go, with data low
abbrev pub begins : ℕ → ℕ → Bool → ℕ
begins cycle let_go from_host = if from_host then let_go else cycle - 320

abbrev pub found_as : ℕ → ℕ → Transfer → Timed
found_as cycle let_go t = record { time = 2500 * begins cycle let_go t.from_host; finding = right t }

-- the bytes that pass in a step, each right and at its time
abbrev pub bytes_by : Option (World Beside) → ℕ → List Transfer → List Timed
bytes_by None let_go passed = []
bytes_by (Some next) let_go passed = map (found_as next.cycle let_go) passed

abbrev pub bytes_at : Story → ℕ → List Timed
bytes_at s k = bytes_by (state_at s (suc k)) (let_go_to s k) (passed_at s k)

-- in the first k steps
abbrev pub bytes_to : Story → ℕ → List Timed
bytes_to s zero = []
bytes_to s (suc k) = bytes_to s k ++ bytes_at s k

-- the bytes that are found in the trace of so many steps are just those that pass in them: none is missing or wrong,
-- and no other is found
abbrev pub FindsBytes : Bool → Story → ℕ → Type 0
FindsBytes seen s k = bytes_in (found_by at_first (capture_of seen s k).samples) ≡ bytes_to s k

-- for every layout and every history that is lawful for it
abbrev pub FoundLaw : Type 0
FoundLaw =
    (seen : Bool) (layout : KeyLayout) (history : KeyHistory) → IsKeyLayout layout → IsLawfulFor layout history
    → (k : ℕ) → k ≤ 1000000000000 → FindsBytes seen (story (image_of layout) history) k
