-- What is said of a capture is of whole lines.
use Rattle.std.proofs.Common.{◌≡◌, ℕ, List, [], ◌∷◌, ◌++◌, Some, None, ◌⊎◌, inl, inr, ap, refl, sym, ◌∙◌, append_assoc}
use Rattle.std.specs.Fmt.{decimal}
use Rattle.std.specs.Prelude.{codes}
use Rattle.std.specs.declared.option.Option.{Option}
use Rattle.capture_vcd.specs.declared.fault.VcdFault.{VcdFault}
use Rattle.capture_vcd.specs.Reads.{reads_of}
use Rattle.capture_lines.specs.declared.counts.Counts.{Counts}
use Rattle.capture_lines.specs.declared.speech.Speech.{Speech}
use Rattle.capture_lines.specs.Captures.{capture_text, report_of, summed_up, timing_of}
use Rattle.capture_lines.specs.Counting.{count_line}
use Rattle.capture_lines.specs.Summary.{codes_summary, summary}
use Rattle.capture_lines.specs.Timing.{Timing}

abbrev pub Ends : List ℕ → Type 0
Ends text = (front : List ℕ) × (text ≡ front ++ 10 ∷ [])

after : (front text : List ℕ) → Ends text → Ends (front ++ text)
after front text h = (front ++ h.0, ap (λ v. front ++ v) h.1 ∙ sym (append_assoc front h.0 (10 ∷ [])))

count_ends : (what : List ℕ) (count : ℕ) → Ends (count_line what count)
unfolding count_line
count_ends what count = (what ++ decimal count, refl)

codes_end : (s : Speech) → Ends (codes_summary s)
codes_end s = after _ _ (count_ends (codes "bytes asked for three times: ") s.thrice)

summary_ends : (c : Counts) (t : Timing) (s : Speech) → Ends (summary c t s)
unfolding summary
summary_ends c t s = after _ _ (codes_end s)

-- it is empty, or ends so
abbrev pub AreLines : List ℕ → Type 0
AreLines text = (text ≡ []) ⊎ Ends text

summed_lines : (fault : Option VcdFault) (lines end : List ℕ) → Ends end → AreLines (summed_up fault lines end)
summed_lines (Some fault) [] end h = inl refl
summed_lines (Some fault) (byte ∷ lines) end h = inr (after (byte ∷ lines) end h)
summed_lines None lines end h = inr (after lines end h)

-- what is said of a capture is of whole lines
pub text_lines : (clk dat dump : List ℕ) → AreLines (capture_text clk dat dump)
text_lines clk dat dump =
    let report = report_of clk dat dump in
    let timing = timing_of clk dat dump in
    summed_lines (reads_of clk dat dump).fault (report.text ++ timing.text) (summary report.counts timing report.speech)
    (summary_ends report.counts timing report.speech)
