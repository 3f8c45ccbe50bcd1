-- What `board` may say, after files that were judged.
use Rattle.std.proofs.Common.{◌≡◌, ℕ, List}
use Rattle.std.proofs.Common.{Ok, Err, inl, inr, refl, ap, sym, subst}
use Rattle.std.specs.Prelude.{OnErr, OnOk}
use Rattle.std.specs.declared.result.Result.{Result}
use Rattle.run_program.proofs.Lines.{are_lines}
use Rattle.run_program.specs.BoardOutcomes.{IsOutcome, Outcome}
use Rattle.run_loop.specs.declared.ending.End.TheVariants.{Reached, Stuck as BoardStuck}
use Rattle.run_probes.specs.Probes.{Watch}
use Rattle.io_edge.proofs.Pieces.{AreLines, broken_before, lines_after, said_then_broken, said_then_said}
use Rattle.io_edge.specs.Said.{IsBrokenOff, IsSaid, Shown}
use Rattle.io_edge.specs.declared.sink.SinkFault.{SinkFault}
use Rattle.joint_feed.specs.Stories.{Story}
use Rattle.key_file.specs.Histories.{KeyHistory}
use Rattle.key_file.specs.KeyFile.{history_of}
use Rattle.layout_reader.specs.Layouts.{KeyLayout}
use Rattle.mcs48_core.specs.declared.stepping.Stuck.{Stuck as Place}
use Rattle.app_words.specs.declared.refusal.Refusal.{Refusal}
use Rattle.app_answers.specs.declared.spoken.Spoken.{Spoken}
use Rattle.app_answers.specs.declared.spoken.Spoken.TheVariants.{Said, Stuck}
use Rattle.run_wires.proofs.OfLines.{changes_are_lines, header_is_lines}
use Rattle.run_wires.specs.Text.{header}
use Rattle.run_wires.specs.Trace.{changes_to}
use Rattle.app_words.specs.declared.words.BoardCommand.{BoardCommand}
use Rattle.app_words.specs.declared.words.BoardRun.{BoardRun}
use Rattle.app_words.specs.declared.words.BoardCommand.TheVariants.{Log, Trace}
use Rattle.app_boards.specs.BoardAnswers.{IsBoardSaid, MayAnswerBoard}
use Rattle.app_answers.specs.Leaving.{Left, HaveLookedAtAll}
use Rattle.app_boards.specs.BoardTexts.{HaveLookedToLine, board_end, board_log, board_said, board_story}
use Rattle.app_answers.specs.FileAnswers.{Answer}
use Rattle.app_answers.specs.Says.{text_said}
use Rattle.app_answers.specs.Spoken.{IsSpoken, May}
use Rattle.app_answers.specs.Taking.{Whole, CutOff}
use Rattle.app_boards.specs.BoardOfText.{MaySayOfBoard}
use Rattle.app_answers.proofs.AreSpoken.{spoken_on, with_history, left_after}

-- what is said of a run as it is made is of whole lines
pub log_is_lines : (wanted : BoardCommand) (s : Story) (run : Outcome) → AreLines (board_log wanted s run)
log_is_lines (Log steps) s run = are_lines run.log
log_is_lines (Trace seen) s run =
    lines_after (header seen) (changes_to seen s run.steps) (header_is_lines seen) (changes_are_lines seen s run.steps)

-- what a run that was made says
module _ (wanted : BoardCommand) (s : Story) (probes left : List Watch) where
  abbrev pub MayBoard : May
  MayBoard answer taking log = IsBoardSaid wanted s answer probes (left_after left taking log)

  module _ (run : Outcome) (is : IsOutcome s run) where
    -- a put failed as it was made
    pub cut : (fault : SinkFault) (x z : Shown) → HaveLookedToLine wanted s x z probes left → IsBrokenOff x z (board_log wanted s run)
        → IsSpoken MayBoard (Ok (Said (Err fault))) x z
    cut fault x z looked h =
        let log = board_log wanted s run in
        let answer = board_said wanted run run.end in
        (answer, log, (run, is, refl, refl, inl looked), broken_before x z log (text_said answer) (log_is_lines wanted s run) h)

    module _ (all : HaveLookedAtAll s run.steps probes left) where
      -- all of what follows is taken
      reported : (answer : Answer) → answer ≡ board_said wanted run run.end → MayBoard answer Whole (board_log wanted s run)
      reported answer same = (run, is, refl, same, all)

      -- or it is broken off
      reported_in_part : (answer : Answer) (x y z : Shown) → answer ≡ board_said wanted run run.end → IsSaid x y (board_log wanted s run)
          → IsBrokenOff y z (text_said answer) → MayBoard answer (CutOff x z) (board_log wanted s run)
      reported_in_part answer x y z same said broken =
          (run, is, refl, same, inr (record { between = y; said = said; broken = subst (IsBrokenOff y z) (ap text_said same) broken }, all))

      -- it is stuck
      pub stuck_after : (place : Place) (x y : Shown) → run.end ≡ BoardStuck place → IsSaid x y (board_log wanted s run)
          → IsSpoken MayBoard (Ok (Stuck place)) x y
      stuck_after place x y end said =
          let same = sym (ap (board_said wanted run) end) in
          (board_log wanted s run, reported _ same, λ later broken. reported_in_part _ x y later same said broken, said)

      -- it is over
      pub over_after : (result : Result (Unit {0}) SinkFault) (x y z : Shown) → run.end ≡ Reached → IsSaid x y (board_log wanted s run)
          → OnOk result (IsSaid y z (board_end wanted run)) → OnErr result (IsBrokenOff y z (board_end wanted run))
          → IsSpoken MayBoard (Ok (Said result)) x z
      over_after (Ok done) x y z end said whole part =
          let log = board_log wanted s run in
          let text = board_end wanted run in
          let same = sym (ap (board_said wanted run) end) in
          (text, log, reported (Ok text) same, said_then_said x y z log text (log_is_lines wanted s run) said whole)
      over_after (Err fault) x y z end said whole part =
          let log = board_log wanted s run in
          let text = board_end wanted run in
          let same = sym (ap (board_said wanted run) end) in (
            Ok text,
            log,
            reported_in_part (Ok text) x y z same said part,
            said_then_broken x y z log text (log_is_lines wanted s run) said part,
          )

-- what may be answered of a history
abbrev pub MayRun : BoardRun → List ℕ → List Watch → KeyHistory → Answer → Left → Type 0
MayRun wanted image probes history answer left = MayAnswerBoard wanted image history answer probes left

-- the run of a key file without a fault
module _ (wanted : BoardRun) (image : List ℕ) (layout : KeyLayout) (text : List ℕ) where
  board_ran : (history : KeyHistory) (answer : Answer) (probes : List Watch) (left : Left) → history_of layout text ≡ Ok history
      → MayAnswerBoard wanted image history answer probes left → MaySayOfBoard wanted image layout text answer probes left
  board_ran history answer probes left is may =
      with_history (MayRun wanted image probes) (history_of layout text) history answer probes left is may

  module _ (history : KeyHistory) (is : history_of layout text ≡ Ok history) where
    -- what `board` puts of a run is what may be said of the run of that key file
    pub boarded : (s : Story) (probes left : List Watch) (result : Result Spoken Refusal) (x y : Shown)
        → s ≡ board_story wanted image history → IsSpoken (MayBoard wanted.prints_what s probes left) result x y
        → IsSpoken (λ answer taking log. MaySayOfBoard wanted image layout text answer probes (left_after left taking log)) result x y
    boarded s probes left result x y this h =
        spoken_on (MayBoard wanted.prints_what s probes left)
        (λ answer taking log. MaySayOfBoard wanted image layout text answer probes (left_after left taking log))
        (λ answer taking log k. board_ran history answer probes (left_after left taking log) is
        (inr (subst (λ (t : Story). IsBoardSaid wanted.prints_what t answer probes (left_after left taking log)) this k))) result x y h
