-- What is said of a capture.
use Rattle.std.specs.Prelude.{ℕ, Bool, true, false, List, [], ◌∷◌, ◌++◌, Option, Some, None, if◌then◌else◌}
use Rattle.capture_vcd.specs.declared.fault.VcdFault.{VcdFault}
use Rattle.capture_vcd.specs.declared.state.Sample.{Sample}
use Rattle.capture_vcd.specs.Reads.{reads_of}
use Rattle.capture_frames.specs.declared.finding.Timed.{Timed}
use Rattle.capture_frames.specs.Listening.{Hearing, at_first, frame_at_end, heard_at, hearing_after, pulse_at_end}
use Rattle.capture_lines.specs.declared.counts.Counts.{Counts}
use Rattle.capture_lines.specs.declared.speech.Speech.{Speech}
use Rattle.capture_lines.specs.Counting.{counted, none_yet}
use Rattle.capture_lines.specs.Lines.{again_line, finding_line}
use Rattle.capture_lines.specs.Receiving.{Receiver, at_power_on, item_lines, receipt_of}
use Rattle.capture_lines.specs.Speech.{again_of, nothing_said, said_so}
use Rattle.capture_lines.specs.Summary.{summary}
use Rattle.capture_lines.specs.Timing.{Timing, timed_all, untimed}

-- what is found at a pulse and in the frame that it ends
abbrev pub listed : Option Timed → List Timed
listed None = []
listed (Some t) = t ∷ []

abbrev pub both : Option Timed → Option Timed → List Timed
both frame pulse = listed frame ++ listed pulse

-- what is found in samples, in order, and at their end
abbrev pub found_by : Hearing → List Sample → List Timed
found_by h [] = both (frame_at_end h) (pulse_at_end h)
found_by h (s ∷ more) =
    both (heard_at s.time s.lines h).frame (heard_at s.time s.lines h).pulse
    ++ found_by (hearing_after s.time s.lines h) more

-- the line of a byte that is asked for again, if one is
abbrev pub again_lines : ℕ → Option ℕ → List ℕ
again_lines time None = []
again_lines time (Some byte) = again_line time byte

-- what was said so far: the lines, with what the PC keeps, the counts, and what the bytes say
pub record Report : Type 0 where
  pub receiver : Receiver
  pub counts : Counts
  pub speech : Speech
  pub text : List ℕ

abbrev pub at_start : Report
at_start = record { receiver = at_power_on; counts = none_yet; speech = nothing_said; text = [] }

-- a finding's line, that of the byte that it asks for again, and those of what the PC makes of it
abbrev pub reported : Timed → Report → Report
reported t report = record {
  receiver = (receipt_of t.finding report.receiver).after;
  counts = counted t.finding report.counts;
  speech = said_so t.finding report.speech;
  text =
      report.text ++ finding_line t ++ again_lines t.time (again_of t.finding report.speech)
      ++ item_lines t.time (receipt_of t.finding report.receiver).items;
}

abbrev pub reported_all : List Timed → Report → Report
reported_all [] report = report
reported_all (t ∷ more) report = reported_all more (reported t report)

-- what is said of a dump of two wires with these names, up to its first fault
abbrev pub report_of : List ℕ → List ℕ → List ℕ → Report
report_of clk dat dump = reported_all (found_by at_first (reads_of clk dat dump).samples) at_start

-- and of its times
abbrev pub timing_of : List ℕ → List ℕ → List ℕ → Timing
timing_of clk dat dump = timed_all (reads_of clk dat dump).samples untimed

-- a dump has a fault, and there is no line before it
abbrev pub is_fault_alone : Option VcdFault → List ℕ → Bool
is_fault_alone (Some fault) [] = true
is_fault_alone fault lines = false

-- lines, and then the summary; nothing if there is a fault alone
abbrev pub summed_up : Option VcdFault → List ℕ → List ℕ → List ℕ
summed_up fault lines end = if is_fault_alone fault lines then [] else lines ++ end

-- the lines of both, and then the summary
abbrev pub capture_text : List ℕ → List ℕ → List ℕ → List ℕ
capture_text clk dat dump =
    summed_up (reads_of clk dat dump).fault ((report_of clk dat dump).text ++ (timing_of clk dat dump).text)
    (summary (report_of clk dat dump).counts (timing_of clk dat dump) (report_of clk dat dump).speech)
