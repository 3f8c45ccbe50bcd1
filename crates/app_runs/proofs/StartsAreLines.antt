-- Lines of tick starts that are said one after another, and what is said of a run after its log.
use Rattle.std.proofs.Common.{◌≡◌, ◌<◌, ℕ, suc, ◌+◌, Bool, true, false, List, [], ◌∷◌, ◌++◌, length}
use Rattle.std.proofs.Common.{drop, get_or, refl, ap, sym, ◌∙◌, inl, inr, arith}
use Rattle.std.specs.Prelude.{codes, decimal, if◌then◌else◌}
use Rattle.std.proofs.lemmas.List.{drop_more}
use Rattle.io_edge.specs.Said.{IsBrokenOff, IsSaid, Shown}
use Rattle.io_edge.proofs.Pieces.{AreLines, EndsLine, broken_before, ends_afterwards, lines_after, said_then_broken, said_then_said}
use Rattle.mcs48_core.specs.StateText.{state_text_of}
use Rattle.run_loop.specs.Reports.{IsBrokenAfter}
use Rattle.subsystem.specs.LayoutOutcomes.{Outcome}
use Rattle.subsystem.specs.Texts.{log_text}
use Rattle.subsystem.proofs.Lines.{are_lines}
use Rattle.app_runs.specs.RunTexts.{text_after_log, run_text, start_line, start_lines}

-- the line of a tick start ends with a line's end
pub ends : (number stamp : ℕ) → EndsLine (start_line number stamp)
ends number stamp = ends_afterwards (codes "start " ++ decimal number ++ codes " " ++ decimal stamp) (codes "\n") ([], refl)

are_starts : (number : ℕ) (stamps : List ℕ) → AreLines (start_lines number stamps)
are_starts number [] = inl refl
are_starts number (stamp ∷ stamps) =
    lines_after (start_line number stamp) (start_lines (suc number) stamps) (inr (ends number stamp)) (are_starts (suc number) stamps)

-- the next line, and those after it
pub next_line : (n : ℕ) (stamps : List ℕ) (stamp : ℕ) → n < length stamps → stamp ≡ get_or stamps n 0
    → start_lines n (drop n stamps) ≡ start_line n stamp ++ start_lines (n + 1) (drop (n + 1) stamps)
next_line n stamps stamp more at =
    let later : suc n ≡ n + 1 = omega arith in
    ap (start_lines n) (drop_more stamps n 0 more)
    ∙ ap (λ s. start_line n s ++ start_lines (suc n) (drop (n + 1) stamps)) (sym at)
    ∙ ap (λ m. start_line n stamp ++ start_lines m (drop (n + 1) stamps)) later

-- the starts, if they are wanted
ticks_lines : (wanted : Bool) (stamps : List ℕ) → AreLines (if wanted then start_lines 0 stamps else [])
ticks_lines true stamps = are_starts 0 stamps
ticks_lines false stamps = inl refl

module _ (ticks steps : Bool) (run : Outcome) where
  both_lines : AreLines (log_text run.log ++ (if ticks then start_lines 0 run.starts else []))
  both_lines =
      lines_after (log_text run.log) (if ticks then start_lines 0 run.starts else []) (are_lines run.log) (ticks_lines ticks run.starts)

  module _ (x a b z : Shown) where
    -- if the log, the tick starts and the state are said, the text of the run is said
    pub whole_run : IsSaid x a (log_text run.log) → IsSaid a b (if ticks then start_lines 0 run.starts else [])
        → IsSaid b z (if steps then state_text_of run.end run.steps run.cycles else []) → IsSaid x z (run_text ticks steps run)
    whole_run h k l =
        said_then_said x b z _ _ both_lines (said_then_said x a b (log_text run.log) _ (are_lines run.log) h k) l

    -- if the state is broken off, the text of the run is
    pub cut_in_end : IsSaid x a (log_text run.log) → IsSaid a b (if ticks then start_lines 0 run.starts else [])
        → IsBrokenOff b z (if steps then state_text_of run.end run.steps run.cycles else []) → IsBrokenOff x z (run_text ticks steps run)
    cut_in_end h k l =
        said_then_broken x b z _ _ both_lines (said_then_said x a b (log_text run.log) _ (are_lines run.log) h k) l

  -- if the tick starts are broken off, the text of the run is
  pub cut_in_starts : (x a z : Shown) → IsSaid x a (log_text run.log) → IsBrokenOff a z (if ticks then start_lines 0 run.starts else [])
      → IsBrokenOff x z (run_text ticks steps run)
  cut_in_starts x a z h k =
      broken_before x z _ _ both_lines (said_then_broken x a z (log_text run.log) _ (are_lines run.log) h k)

  -- after a log that was said whole
  pub starts_after_log : (x a z : Shown) → IsSaid x a (log_text run.log) → IsBrokenOff a z (if ticks then start_lines 0 run.starts else [])
      → IsBrokenAfter x z (log_text run.log) (text_after_log ticks steps run)
  starts_after_log x a z h k =
      record { between = a; said = h; broken = broken_before a z _ _ (ticks_lines ticks run.starts) k }

  -- if the state is broken off, the text is broken off after the log
  pub end_after_log : (x a b z : Shown) → IsSaid x a (log_text run.log) → IsSaid a b (if ticks then start_lines 0 run.starts else [])
      → IsBrokenOff b z (if steps then state_text_of run.end run.steps run.cycles else [])
      → IsBrokenAfter x z (log_text run.log) (text_after_log ticks steps run)
  end_after_log x a b z h k l =
      record { between = a; said = h; broken = said_then_broken a b z _ _ (ticks_lines ticks run.starts) k l }

  -- if the log is broken off, the text of the run is
  pub cut_in_log : (x z : Shown) → IsBrokenOff x z (log_text run.log) → IsBrokenOff x z (run_text ticks steps run)
  cut_in_log x z h =
      broken_before x z _ _ both_lines (broken_before x z (log_text run.log) _ (are_lines run.log) h)
