-- The summary after all lines.
use Rattle.std.specs.Prelude.{ℕ, Bool, List, [], ◌∷◌, ◌++◌, codes, if◌then◌else◌}
use Rattle.capture_times.specs.declared.periods.Periods.{Periods}
use Rattle.capture_times.specs.Periods.{mean}
use Rattle.capture_lines.specs.declared.counts.Counts.{Counts}
use Rattle.capture_lines.specs.declared.speech.Speech.{Speech}
use Rattle.capture_lines.specs.Counting.{count_line, frames_summary, pulses_summary}
use Rattle.capture_lines.specs.Speech.{is_xt}
use Rattle.capture_lines.specs.Timing.{Timing, span_text}

unfoldable pub span_line : List ℕ → ℕ → List ℕ
span_line what time = what ++ span_text time ++ 10 ∷ []

-- times outside their limits, and the clock's periods
abbrev pub times_summary : ℕ → Periods → List ℕ
times_summary count p =
    count_line (codes "times outside the limits: ") count
    ++ span_line (codes "least clock period: ") p.least
    ++ span_line (codes "mean clock period: ") (mean p)
    ++ span_line (codes "greatest clock period: ") p.greatest

unfoldable pub xt_line : Bool → List ℕ
xt_line is_it = if is_it then codes "these are codes of set 1: an XT keyboard\n" else []

abbrev pub codes_summary : Speech → List ℕ
codes_summary s =
    xt_line (is_xt s)
    ++ count_line (codes "breaks without a code: ") s.lone
    ++ count_line (codes "bytes asked for three times: ") s.thrice

unfoldable pub summary : Counts → Timing → Speech → List ℕ
summary c t s =
    frames_summary c ++ pulses_summary c ++ times_summary t.count t.watch.periods ++ codes_summary s
