-- The lines of a value change dump: what is before the first sample, and what a sample adds.
use Rattle.std.specs.Prelude.{ℕ, ◌*◌, Bool, not, ◌||◌, List, [], ◌∷◌, ◌++◌, codes, Some, None, if◌then◌else◌}
use Rattle.std.specs.Fmt.{decimal}
use Rattle.std.specs.declared.option.Option.{Option}
use Rattle.board_terms.specs.declared.lines.Lines.{Lines}
use Rattle.hex_text.specs.Digits.{hex_byte}
use Rattle.run_probes.specs.declared.heard.Sample.{Sample}
use Rattle.board_terms.specs.declared.transfer.Transfer.{Transfer}
use Rattle.run_probes.specs.Transfers.{Ear, completed, wires_at}

-- a line with its LF
abbrev pub line : List ℕ → List ℕ
line text = text ++ 10 ∷ []

-- a line that is there if what the controller sees is asked for
abbrev pub if_seen : Bool → List ℕ → List ℕ
if_seen seen text = if seen then line text else []

-- the unit of time, the two wires with their letters, and their levels at time 0, which are high; and if it is asked for,
-- data as the controller sees it
abbrev pub header : Bool → List ℕ
header seen =
    line (codes "$timescale 100 ns $end")
    ++ line (codes "$scope module kbd $end")
    ++ line (codes "$var wire 1 c clock $end")
    ++ line (codes "$var wire 1 d data $end")
    ++ if_seen seen (codes "$var wire 1 s data_seen $end")
    ++ line (codes "$upscope $end")
    ++ line (codes "$enddefinitions $end")
    ++ line (codes "#0")
    ++ line (codes "1c")
    ++ line (codes "1d")
    ++ if_seen seen (codes "1s")

-- a wire turns from high to low, or from low to high
abbrev pub turns : Bool → Bool → Bool
turns before now = if before then not now else now

-- the new level of a wire that turns, with the wire's letter
abbrev pub level_text : List ℕ → Bool → Bool → List ℕ
level_text wire before now =
    if turns before now then line ((if now then codes "1" else codes "0") ++ wire) else []

-- the level that the controller sees, if it is asked for
abbrev pub seen_text : Option Bool → List ℕ
seen_text None = []
seen_text (Some level) = line ((if level then codes "1" else codes "0") ++ codes "s")

-- who sent a byte
abbrev pub sender : Bool → List ℕ
sender from_host = if from_host then codes "host " else codes "keyboard "

-- a transfer, as a comment
abbrev pub comment : Option Transfer → List ℕ
comment None = []
comment (Some t) = line (codes "$comment " ++ sender t.from_host ++ hex_byte t.byte ++ codes " $end")

-- the time in units of 100 ns, of which a cycle has 25; then the wires that turned, the clock first; then what the
-- controller sees; then the transfer that is completed
abbrev pub change_text : ℕ → Lines → Lines → Option Bool → Option Transfer → List ℕ
change_text cycle before now seen transfer =
    line (codes "#" ++ decimal (25 * cycle))
    ++ level_text (codes "c") before.clk now.clk
    ++ level_text (codes "d") before.dat now.dat
    ++ seen_text seen
    ++ comment transfer

-- the wires differ
abbrev pub differ : Lines → Lines → Bool
differ before now = turns before.clk now.clk || turns before.dat now.dat

-- what a sample adds, which is nothing unless its wires differ from those of the sample before
abbrev pub sample_text : Sample → Option Bool → Ear → List ℕ
sample_text s seen ear =
    if differ (wires_at ear.last) s.lines
    then change_text s.cycle (wires_at ear.last) s.lines seen (completed s ear)
    else []
