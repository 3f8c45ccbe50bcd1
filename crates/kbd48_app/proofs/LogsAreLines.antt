-- What is said before an answer is of whole lines.
use Rattle.std.proofs.Common.{ℕ, List, None, Some, inl, inr, sym, subst}
use Rattle.std.specs.Option.{option_map}
use Rattle.std.specs.declared.option.Option.{Option}
use Rattle.run_probes.specs.Probes.{Watch}
use Rattle.capture_lines.proofs.Ends.{text_lines}
use Rattle.capture_lines.specs.Captures.{capture_text}
use Rattle.io_edge.proofs.Pieces.{AreLines}
use Rattle.io_edge.specs.Shelf.{Shelved, after_fetch}
use Rattle.capture_vcd.specs.Reads.{reads_of}
use Rattle.capture_vcd.specs.declared.fault.VcdFault.{VcdFault}
use Rattle.app_boards.specs.BoardTexts.{board_story}
use Rattle.kbd48_app.specs.Answers.{MayAnswer, MayEnd}
use Rattle.app_answers.specs.Captures.{IsCaptured}
use Rattle.app_answers.specs.Leaving.{Left}
use Rattle.app_answers.specs.FileAnswers.{Answer}
use Rattle.kbd48_app.specs.Plans.{Plan, Gives, Certifies, Runs, Boards, Samples, Debugs, Captures, Fetches, Follows, plan, Spells}
use Rattle.app_words.specs.Words.{command_of}
use Rattle.app_boards.proofs.BoardsAreSaid.{log_is_lines}
use Rattle.kbd48_app.proofs.PlansEnd.{as_plan, fetch_ends}

captured_lines : (first : Option VcdFault) (text : List ℕ) (answer : Answer) (log : List ℕ) → AreLines text
    → IsCaptured first text answer log → AreLines log
captured_lines None text answer log lines h = inl h.1
captured_lines (Some fault) text answer log lines h = subst AreLines (sym h.1) lines

lines_by : (p : Plan) (shelf : Option Shelved) (answer : Answer) (after : Option Shelved) (probes : List Watch) (left : Left)
    → MayEnd p shelf answer after probes left → AreLines left.log
lines_by (Gives said) shelf answer after probes left h = inl h.1.2
lines_by (Certifies image text) shelf answer after probes left h = inl h.1.2
lines_by (Spells layout text) shelf answer after probes left h = inl h.1.2
lines_by (Runs command layout history) shelf answer after probes left h = inl h.2
lines_by (Boards wanted image history) shelf answer after probes left h =
    elim h.0 [
      | inl memory ↦ inl memory.1
      | inr reported ↦ subst AreLines (sym reported.2) (log_is_lines wanted.prints_what (board_story wanted image history) reported.0)
    ]
lines_by (Samples count debounced) shelf answer after probes left h = inl h.2
lines_by (Debugs s script) shelf answer after probes left h = inl h.2
lines_by (Captures clk dat dump) shelf answer after probes left h =
    elim h.0 [
      | inl memory ↦ inl memory.1
      | inr found ↦
          captured_lines (reads_of clk dat dump).fault (capture_text clk dat dump) answer left.log (text_lines clk dat dump) found
    ]
lines_by (Follows layout clk dat dump) shelf answer after probes left h = inl h.1.2
lines_by (Fetches kind name next) shelf answer after probes left h =
    elim (fetch_ends kind name next shelf answer after probes left h) [
      | inl cut ↦ inl cut.1.2
      | inr more ↦ lines_by (next more.0) (option_map after_fetch shelf) answer after probes left more.1
    ]

-- what a call says before its answer is of whole lines
pub lines_before : (words : List (List ℕ)) (shelf : Option Shelved) (answer : Answer) (after : Option Shelved) (probes : List Watch) (left : Left)
    → MayAnswer words shelf answer after probes left → AreLines left.log
lines_before words shelf answer after probes left h =
    lines_by (plan words) shelf answer after probes left (as_plan (command_of words) words shelf answer after probes left h)
