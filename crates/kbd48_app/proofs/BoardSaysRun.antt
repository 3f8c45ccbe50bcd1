-- What `board` says of a layout's image beside what `run` and `trace` say.
use Rattle.std.proofs.Common.{◌≡◌, false, [], ◌++◌, inl, inr, ap, sym, ◌∙◌}
use Rattle.std.proofs.lemmas.List.{append-nil}
use Rattle.law_runs_agree.specs.Boards.{BoardsSayRuns}
use Rattle.subsystem.specs.LayoutOutcomes.{Outcome}
use Rattle.subsystem.specs.Texts.{log_text}
use Rattle.app_words.specs.declared.refusal.Refusal.TheVariants.{Memory}
use Rattle.app_words.specs.declared.words.BoardCommand.TheVariants.{Log, Trace}
use Rattle.kbd48_app.specs.BoardSays.{BoardSaysRun, BoardTracesRun}
use Rattle.app_boards.specs.BoardTexts.{board_said}
use Rattle.app_runs.specs.RunTexts.{run_text}
use Rattle.key_file.proofs.Lawful.{lawful_for}
use Rattle.kbd48_app.proofs.OneText.{no_refusal}

alone : (run : Outcome) → run_text false false run ≡ log_text run.log
alone run = append-nil (log_text run.log ++ []) ∙ append-nil (log_text run.log)

-- `board` of a layout's image prints the log that `run` prints, or its beginning, unless memory runs out
pub board_says_run : BoardsSayRuns → BoardSaysRun
board_says_run law of history text answer probes others left kept sound accepted (inl none) k = absurd (no_refusal text Memory none.0)
board_says_run law of history text answer probes others left kept sound accepted (inr h) (inl none) = inl none.0
board_says_run law of history text answer probes others left kept sound accepted (inr h) (inr reported) =
    let says_so = law of history reported.0 h.1 sound (lawful_for accepted) reported.1 h.2.0 in
    let same : text ≡ h.0 = cc h.3 in
    inr (
      reported.3 ∙ ap (board_said (Log false) reported.0) says_so.over,
      record { run = h.1; board = reported.0; says_so = says_so; text = same ∙ h.2.2 ∙ alone h.1; log = reported.2 },
    )

-- the text of `trace` begins with that of `board --trace` of the layout's image, unless memory runs out
pub board_traces_run : BoardsSayRuns → BoardTracesRun
board_traces_run law seen of history text answer probes others left kept sound accepted (inl none) k = absurd (no_refusal text Memory none.0)
board_traces_run law seen of history text answer probes others left kept sound accepted (inr h) (inl none) = inl none.0
board_traces_run law seen of history text answer probes others left kept sound accepted (inr h) (inr reported) =
    let says_so = law of history reported.0 h.1 sound (lawful_for accepted) reported.1 h.2.0 in
    let same : text ≡ h.0 = cc h.3 in
    inr (
      reported.3 ∙ ap (board_said (Trace seen) reported.0) says_so.over,
      says_so.changes seen,
      same ∙ h.2.2 ∙ says_so.trace seen ∙ ap (λ v. v ++ says_so.changes seen) (sym reported.2),
    )
