-- How often each kind of finding comes, and the lines that say so.
use Rattle.std.specs.Prelude.{ℕ, ◌+◌, ◌-◌, ◌^◌, min, List, [], ◌∷◌, ◌++◌, codes, if◌then◌else◌}
use Rattle.std.specs.Fmt.{decimal}
use Rattle.capture_frames.specs.declared.finding.Finding.{Finding}
use Rattle.capture_frames.specs.declared.finding.Finding.TheVariants.{Byte, Few, Cut, Unfinished, Stray, Glitch, Hold, StaysLow}
use Rattle.capture_lines.specs.declared.counts.Counts.{Counts}
use Rattle.capture_lines.specs.Receiving.{is_right}

-- a count stands still at its greatest value
abbrev pub one_more : ℕ → ℕ
one_more count = min (count + 1) (2 ^ 64 - 1)

abbrev pub none_yet : Counts
none_yet = record {
  right = 0;
  wrong = 0;
  cut = 0;
  part = 0;
  strays = 0;
  glitches = 0;
  holds = 0;
  requests = 0;
}

abbrev pub counted : Finding → Counts → Counts
counted (Byte w) c =
    if is_right w then record c { right = one_more c.right } else record c { wrong = one_more c.wrong }
counted (Few from_host edges) c = record c { part = one_more c.part }
counted (Cut from_host edges) c = record c { cut = one_more c.cut }
counted (Unfinished from_host edges) c = record c { part = one_more c.part }
counted Stray c = record c { strays = one_more c.strays }
counted Glitch c = record c { glitches = one_more c.glitches }
counted (Hold asks) c =
    if asks then record c { requests = one_more c.requests } else record c { holds = one_more c.holds }
counted StaysLow c = c

unfoldable pub count_line : List ℕ → ℕ → List ℕ
count_line what count = what ++ decimal count ++ 10 ∷ []

abbrev pub frames_summary : Counts → List ℕ
frames_summary c =
    count_line (codes "right frames: ") c.right
    ++ count_line (codes "wrong frames: ") c.wrong
    ++ count_line (codes "broken off: ") c.cut
    ++ count_line (codes "not whole: ") c.part

abbrev pub pulses_summary : Counts → List ℕ
pulses_summary c =
    count_line (codes "edges without a start bit: ") c.strays
    ++ count_line (codes "pulses too short: ") c.glitches
    ++ count_line (codes "holds: ") c.holds
    ++ count_line (codes "holds with a request: ") c.requests
