-- The header and what samples add are of whole lines.
use Rattle.std.proofs.Common.{ℕ, zero, suc, ◌*◌, Bool, true, false, List, [], ◌++◌, Some, None, refl, inl, inr}
use Rattle.std.specs.Prelude.{codes, if◌then◌else◌}
use Rattle.std.specs.Fmt.{decimal}
use Rattle.std.specs.declared.option.Option.{Option}
use Rattle.board_terms.specs.declared.lines.Lines.{Lines}
use Rattle.hex_text.specs.Digits.{hex_byte}
use Rattle.run_probes.specs.declared.heard.Sample.{Sample}
use Rattle.board_terms.specs.declared.transfer.Transfer.{Transfer}
use Rattle.run_probes.specs.Transfers.{Ear, completed, wires_at}
use Rattle.io_edge.proofs.Pieces.{AreLines, lines_after}
use Rattle.joint_feed.specs.Stories.{Story, state_at}
use Rattle.joint_run.specs.Joint.{Beside}
use Rattle.joint_run.specs.Run.{World}
use Rattle.run_wires.specs.Text.{change_text, comment, differ, header, if_seen, level_text, line, sample_text, seen_text, sender, turns}
use Rattle.run_wires.specs.Trace.{changes_to, seen_if, text_in}
use Rattle.law_wires_heard.specs.Hearing.{heard_to, sample_in}

-- a line, and a line after others
one : (text : List ℕ) → AreLines (line text)
one text = inr (text, refl)

afterwards : (first text : List ℕ) → AreLines first → AreLines (first ++ line text)
afterwards first text h = lines_after first (line text) h (one text)

or_none : (b : Bool) (text : List ℕ) → AreLines text → AreLines (if b then text else [])
or_none true text h = h
or_none false text h = inl refl

-- and one that may be there
perhaps : (seen : Bool) (first text : List ℕ) → AreLines first → AreLines (first ++ if_seen seen text)
perhaps seen first text h = lines_after first (if_seen seen text) h (or_none seen (line text) (one text))

eleven : (seen : Bool) (a b c d x e f g h i y : List ℕ)
    → AreLines (line a ++ line b ++ line c ++ line d ++ if_seen seen x ++ line e ++ line f ++ line g ++ line h ++ line i
    ++ if_seen seen y)
eleven seen a b c d x e f g h i y =
    perhaps seen (line a ++ line b ++ line c ++ line d ++ if_seen seen x ++ line e ++ line f ++ line g ++ line h ++ line i) y
    (afterwards (line a ++ line b ++ line c ++ line d ++ if_seen seen x ++ line e ++ line f ++ line g ++ line h) i
    (afterwards (line a ++ line b ++ line c ++ line d ++ if_seen seen x ++ line e ++ line f ++ line g) h
    (afterwards (line a ++ line b ++ line c ++ line d ++ if_seen seen x ++ line e ++ line f) g
    (afterwards (line a ++ line b ++ line c ++ line d ++ if_seen seen x ++ line e) f
    (afterwards (line a ++ line b ++ line c ++ line d ++ if_seen seen x) e
    (perhaps seen (line a ++ line b ++ line c ++ line d) x
    (afterwards (line a ++ line b ++ line c) d
    (afterwards (line a ++ line b) c
    (afterwards (line a) b (one a))))))))))

-- the header of a dump is of whole lines
pub header_is_lines : (seen : Bool) → AreLines (header seen)
header_is_lines seen =
    eleven seen (codes "$timescale 100 ns $end") (codes "$scope module kbd $end") (codes "$var wire 1 c clock $end")
    (codes "$var wire 1 d data $end") (codes "$var wire 1 s data_seen $end")
    (codes "$upscope $end") (codes "$enddefinitions $end") (codes "#0") (codes "1c") (codes "1d") (codes "1s")

level_is_lines : (wire : List ℕ) (old new : Bool) → AreLines (level_text wire old new)
level_is_lines wire old new =
    or_none (turns old new) (line ((if new then codes "1" else codes "0") ++ wire)) (one ((if new then codes "1" else codes "0") ++ wire))

comment_is_lines : (t : Option Transfer) → AreLines (comment t)
comment_is_lines None = inl refl
comment_is_lines (Some t) = one (codes "$comment " ++ sender t.from_host ++ hex_byte t.byte ++ codes " $end")

seen_is_lines : (seen : Option Bool) → AreLines (seen_text seen)
seen_is_lines None = inl refl
seen_is_lines (Some level) = one ((if level then codes "1" else codes "0") ++ codes "s")

change_is_lines : (cycle : ℕ) (old new : Lines) (seen : Option Bool) (t : Option Transfer)
    → AreLines (change_text cycle old new seen t)
change_is_lines cycle old new seen t =
    let time = line (codes "#" ++ decimal (25 * cycle)) in
    let clock = level_text (codes "c") old.clk new.clk in
    let level = level_text (codes "d") old.dat new.dat in
    lines_after (time ++ clock ++ level ++ seen_text seen) (comment t)
    (lines_after (time ++ clock ++ level) (seen_text seen)
    (lines_after (time ++ clock) level
    (lines_after time clock (one (codes "#" ++ decimal (25 * cycle))) (level_is_lines (codes "c") old.clk new.clk))
    (level_is_lines (codes "d") old.dat new.dat))
    (seen_is_lines seen))
    (comment_is_lines t)

sample_is_lines : (s : Sample) (seen : Option Bool) (ear : Ear) → AreLines (sample_text s seen ear)
sample_is_lines s seen ear =
    or_none (differ (wires_at ear.last) s.lines) (change_text s.cycle (wires_at ear.last) s.lines seen (completed s ear))
    (change_is_lines s.cycle (wires_at ear.last) s.lines seen (completed s ear))

added_is_lines : (seen : Bool) (o : Option (World Beside)) (ear : Ear) → AreLines (text_in seen o ear)
added_is_lines seen None ear = inl refl
added_is_lines seen (Some w) ear = sample_is_lines (sample_in w) (seen_if seen w) ear

-- what each step adds to a dump is of whole lines
pub changes_are_lines : (seen : Bool) (s : Story) (k : ℕ) → AreLines (changes_to seen s k)
changes_are_lines seen s zero = inl refl
changes_are_lines seen s (suc k) =
    lines_after (changes_to seen s k) (text_in seen (state_at s (suc k)) (heard_to s k)) (changes_are_lines seen s k)
    (added_is_lines seen (state_at s (suc k)) (heard_to s k))
