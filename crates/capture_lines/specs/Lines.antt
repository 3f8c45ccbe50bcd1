-- The lines of what is found on the wires.
use Rattle.std.specs.Prelude.{ℕ, ◌+◌, ◌/◌, ◌%◌, Bool, List, [], ◌∷◌, ◌++◌, codes, if◌then◌else◌}
use Rattle.std.specs.Fmt.{decimal}
use Rattle.hex_text.specs.Digits.{hex_byte}
use Rattle.capture_frames.specs.declared.finding.Finding.{Finding}
use Rattle.capture_frames.specs.declared.finding.Finding.TheVariants.{Byte, Few, Cut, Unfinished, Stray, Glitch, Hold, StaysLow}
use Rattle.capture_frames.specs.declared.finding.Timed.{Timed}
use Rattle.capture_frames.specs.declared.finding.Whole.{Whole}

-- the last decimal digit of a number
abbrev pub digit : ℕ → ℕ
digit n = 48 + n % 10

-- a time of so many nanoseconds in microseconds, with three decimals, and a blank
abbrev pub time_text : ℕ → List ℕ
time_text time =
    decimal (time / 1000) ++ 46 ∷ digit (time / 100) ∷ digit (time / 10) ∷ digit time ∷ 32 ∷ []

-- who sends a frame
abbrev pub sender : Bool → List ℕ
sender from_host = if from_host then codes "host " else codes "keyboard "

-- what is wrong with a frame
abbrev pub wrong : Bool → List ℕ → List ℕ
wrong is_right text = if is_right then [] else text

abbrev pub byte_text : Whole → List ℕ
byte_text w =
    sender w.from_host
    ++ hex_byte w.byte
    ++ wrong w.start (codes ", wrong start")
    ++ wrong w.parity (codes ", wrong parity")
    ++ wrong w.stop (codes ", wrong stop")
    ++ wrong w.acknowledged (codes ", not acknowledged")

-- a frame that isn't whole
abbrev pub part_text : Bool → List ℕ → ℕ → List ℕ
part_text from_host what edges = sender from_host ++ what ++ decimal edges ++ codes " of 11 edges"

-- a finding
abbrev pub finding_text : Finding → List ℕ
finding_text (Byte w) = byte_text w
finding_text (Few from_host edges) = part_text from_host (codes "only ") edges
finding_text (Cut from_host edges) = part_text from_host (codes "broken off after ") edges
finding_text (Unfinished from_host edges) = part_text from_host (codes "unfinished after ") edges
finding_text Stray = codes "edge without a start bit"
finding_text Glitch = codes "pulse too short"
finding_text (Hold asks) = if asks then codes "hold and request" else codes "hold"
finding_text StaysLow = codes "clock stays low"

-- its line
abbrev pub finding_line : Timed → List ℕ
finding_line t = time_text t.time ++ finding_text t.finding ++ 10 ∷ []

-- the line of a byte that is asked for again
abbrev pub again_line : ℕ → ℕ → List ℕ
again_line time byte = time_text time ++ codes "asks for " ++ hex_byte byte ++ codes " again\n"
