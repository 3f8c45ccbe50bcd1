-- A line of the log is in the text that is printed of it.
use Rattle.std.proofs.Common.{◌≡◌, ◌≤◌, ℕ, suc, zero, ◌+◌, ◌-◌, ◌<◌, List, [], ◌∷◌, ◌++◌, length, inl}
use Rattle.std.proofs.Common.{inr, Ok, refl, ap, sym, ◌∙◌, subst, arith, append_assoc}
use Rattle.std.specs.Prelude.{if◌then◌else◌, slice_index_or, Contains}
use Rattle.std.specs.Fmt.{decimal}
use Rattle.pc_tables.specs.Items.{text_of}
use Rattle.board_terms.specs.Cadence.{listed}
use Rattle.board_terms.specs.declared.event.Edge.{Edge}
use Rattle.run_probes.specs.Probes.{Watch}
use Rattle.key_file.specs.Histories.{KeyHistory}
use Rattle.layout_reader.specs.Layouts.{KeyLayout}
use Rattle.model_link.specs.Expected.{expected_log}
use Rattle.model_link.specs.declared.line.LogLine.{LogLine}
use Rattle.law_link_times.specs.Flowing.{IsHostQuiet, IsQuietFrom}
use Rattle.law_link_times.specs.Latency.{ComesInTime, KeysComeInTime, KeysComeInTimeFrom, Strikes}
use Rattle.mcs48_core.specs.StateText.{state_text_of}
use Rattle.pc_tables.specs.declared.item.Item.TheVariants.{Port}
use Rattle.subsystem.specs.Agreement.{IsAsExpected}
use Rattle.subsystem.specs.LayoutOutcomes.{Outcome}
use Rattle.subsystem.specs.Texts.{line_text, log_text}
use Rattle.app_answers.specs.Leaving.{Left}
use Rattle.app_runs.specs.RunAnswers.{MayAnswerRun}
use Rattle.app_runs.specs.InTime.{EndsLine, HasLine, IsPrintedInTime, PrintsLog}
use Rattle.app_runs.specs.RunTexts.{IsRunText, start_lines, text_of_run}
use Rattle.app_words.specs.declared.words.RunCommand.{RunCommand}
use Rattle.app_words.specs.declared.words.RunCommand.TheVariants.{Log, Expect, Trace}

-- what ends a line goes on to end one
ends_then : (xs ys : List ℕ) → EndsLine xs → EndsLine ys → EndsLine (xs ++ ys)
ends_then [] ys e f = f
ends_then (x ∷ []) [] e f = e
ends_then (x ∷ []) (y ∷ ys) e f = f
ends_then (x ∷ y ∷ xs) ys e f = ends_then (y ∷ xs) ys e f

-- a line ends in LF
ends_in : (xs : List ℕ) → EndsLine (xs ++ 10 ∷ [])
ends_in [] = refl
ends_in (x ∷ []) = refl
ends_in (x ∷ y ∷ xs) = ends_in (y ∷ xs)

line_ends : (line : LogLine) → EndsLine (line_text line)
line_ends line = ends_in (decimal line.tick ++ 32 ∷ text_of line.item)

line_in : (lines : List LogLine) (line : LogLine) (k : ℕ) → k < length lines → slice_index_or lines k line ≡ line
    → HasLine (log_text lines) line
line_in [] line k l e = absurd (omega (arith, l))
line_in (x ∷ xs) line zero l e =
    record { before = []; begins = tt; afterwards = log_text xs; is = ap (λ v. line_text v ++ log_text xs) e }
line_in (x ∷ xs) line (suc k) l e =
    let h = line_in xs line k (omega (arith, l)) e in
    record {
      before = line_text x ++ h.before;
      begins = ends_then (line_text x) h.before (line_ends x) h.begins;
      afterwards = h.afterwards;
      is = ap (λ v. line_text x ++ v) h.is
          ∙ sym (append_assoc (line_text x) h.before (line_text line ++ h.afterwards));
    }

-- with more after it
line_more : (text more : List ℕ) (line : LogLine) → HasLine text line → HasLine (text ++ more) line
line_more text more line h = record {
  before = h.before;
  begins = h.begins;
  afterwards = h.afterwards ++ more;
  is = ap (λ v. v ++ more) h.is ∙ append_assoc h.before (line_text line ++ h.afterwards) more
      ∙ ap (λ v. h.before ++ v) (append_assoc (line_text line) h.afterwards more);
}

-- in the text of each command that prints the log
line_of_run : (command : RunCommand) (layout : KeyLayout) (history : KeyHistory) (run : Outcome) (line : LogLine)
    → PrintsLog command → IsAsExpected layout history run → Contains (expected_log layout history run.starts) line
    → HasLine (text_of_run command layout history run) line
line_of_run (Log ticks steps) layout history run line p e c =
    let d : Contains run.log line = subst (λ v. Contains v line) (sym e.log) c in
    let starts : List ℕ = if ticks then start_lines 0 run.starts else [] in
    line_more (log_text run.log ++ starts) (if steps then state_text_of run.end run.steps run.cycles else []) line
    (line_more (log_text run.log) starts line (line_in run.log line d.0 d.1 d.2))
line_of_run Expect layout history run line p e c =
    line_in (expected_log layout history run.starts) line c.0 c.1 c.2
line_of_run (Trace seen) layout history run line p e c = absurd p

module _ (layout : KeyLayout) (history : KeyHistory) (command : RunCommand) (prints : PrintsLog command) where
  -- an edge of a run
  edge_in_time : (text : List ℕ) (run : Outcome) → IsAsExpected layout history run
      → text ≡ text_of_run command layout history run → (n : ℕ) (edge : Edge) (code : List ℕ)
      → ComesInTime layout history (listed run.starts) (length run.starts - 1) n edge code
      → IsPrintedInTime layout history run text n edge code
  edge_in_time text run e is n edge code c =
      record {
        place = c.place;
        in_its_place = c.in_its_place;
        reads = λ i byte put g u p. (c.reads i byte g u).reads put p;
        prints = λ i byte put g u p.
            let line : LogLine = record { tick = i + c.place + suc n; item = Port put } in
            subst (λ v. HasLine v line) (sym is)
            (line_of_run command layout history run line prints e ((c.reads i byte g u).says put p));
        soon = λ i u. c.prompt i u (e.prompt (i + c.place + suc n) u).most;
      }

  -- the run that a text is of
  run_of : (text : List ℕ) (probes : List Watch) (left : Left) → MayAnswerRun command layout history (Ok text) probes left
      → (run : Outcome) × IsRunText command layout history text run
  run_of text probes left (inl w) = absurd (let e = w.0 in cc)
  run_of text probes left (inr r) =
      let same : r.0 ≡ text = let e = r.3 in cc in
      (r.1, subst (λ v. IsRunText command layout history v r.1) same r.2)

  -- with a quiet host the text that is printed has the line of each byte of each key, in time
  pub printed : KeysComeInTime → IsHostQuiet history → (text : List ℕ) (probes : List Watch) (left : Left)
      → MayAnswerRun command layout history (Ok text) probes left
      → (run : Outcome) × IsRunText command layout history text run
      × ((n : ℕ) (edge : Edge) (code : List ℕ) → n < length run.starts - 1
      → Strikes layout history (listed run.starts) n edge code → IsPrintedInTime layout history run text n edge code)
  printed in_time quiet text probes left may =
      let of = run_of text probes left may in
      let run = of.0 in (
        run,
        of.1,
        λ n edge code l struck.
            edge_in_time text run of.1.1 of.1.2 n edge code
            (in_time layout history (listed run.starts) (length run.starts - 1) n edge code quiet of.1.1.cadence l struck),
      )

  -- with a host that is quiet from some tick on the text has the line of each byte of each later key, in time
  pub printed_from : KeysComeInTimeFrom → (text : List ℕ) (probes : List Watch) (left : Left)
      → MayAnswerRun command layout history (Ok text) probes left
      → (run : Outcome) × IsRunText command layout history text run
      × ((first n : ℕ) (edge : Edge) (code : List ℕ) → IsQuietFrom layout history (listed run.starts) first → first ≤ n
      → n < length run.starts - 1 → Strikes layout history (listed run.starts) n edge code
      → IsPrintedInTime layout history run text n edge code)
  printed_from in_time text probes left may =
      let of = run_of text probes left may in
      let run = of.0 in (
        run,
        of.1,
        λ first n edge code rests since l struck.
            edge_in_time text run of.1.1 of.1.2 n edge code
            (in_time layout history (listed run.starts) first (length run.starts - 1) n edge code rests of.1.1.cadence since
            l struck),
      )
