-- `run` and `expect` print in time what a key sends.
use Rattle.std.specs.Prelude.{◌≡◌, ◌≤◌, ◌<◌, ℕ, suc, ◌+◌, ◌-◌, ◌*◌, ◌/◌, List, [], ◌∷◌, ◌++◌, length, Ok, Some, slice_get, Contains}
use Rattle.board_terms.specs.Cadence.{listed}
use Rattle.board_terms.specs.declared.event.Edge.{Edge}
use Rattle.run_probes.specs.Probes.{Watch}
use Rattle.model_keyboard.specs.Once.{waiting}
use Rattle.key_file.specs.Histories.{KeyHistory}
use Rattle.layout_reader.specs.Layouts.{KeyLayout}
use Rattle.model_link.specs.declared.line.LogLine.{LogLine}
use Rattle.law_link_times.specs.Coming.{keyboard_at}
use Rattle.law_link_times.specs.Flowing.{IsHostQuiet, IsQuietFrom}
use Rattle.law_link_times.specs.Latency.{IsListedAt, Strikes, put_out_in, read_stamp, settling}
use Rattle.pc_tables.specs.declared.item.Item.TheVariants.{Port}
use Rattle.law_quiet_log.specs.Once.{at_tick}
use Rattle.subsystem.specs.LayoutOutcomes.{Outcome}
use Rattle.subsystem.specs.Texts.{line_text}
use Rattle.app_answers.specs.Leaving.{Left}
use Rattle.app_runs.specs.RunAnswers.{MayAnswerRun}
use Rattle.app_runs.specs.RunTexts.{IsRunText}
use Rattle.app_words.specs.declared.words.RunCommand.{RunCommand}
use Rattle.app_words.specs.declared.words.RunCommand.TheVariants.{Log, Expect, Trace}

-- a text is empty or ends in LF
abbrev pub EndsLine : List ℕ → Type 0
EndsLine [] = Unit {0}
EndsLine (x ∷ []) = x ≡ 10
EndsLine (x ∷ y ∷ ys) = EndsLine (y ∷ ys)

-- a line is in a text, whole and with its LF: what is before it is empty or ends in LF
pub record HasLine (text : List ℕ) (line : LogLine) : Type 0 where
  pub before : List ℕ
  pub begins : EndsLine before
  pub afterwards : List ℕ
  pub is : text ≡ before ++ (line_text line ++ afterwards)

-- tick n of a run takes an edge, whose code waits at the next tick's start after so many bytes. What the controller puts
-- out for byte i of it INT 09h reads at the stamp `read_stamp`, and it has its line, as a `port` with the tick of that read.
-- The stamp is at most two ticks and 656 cycles after the edge, which is 4,752, and a tick for each byte before it, less 16
-- cycles for each column before the key's. With a debounce all of it is a tick later
pub record IsPrintedInTime (layout : KeyLayout) (history : KeyHistory) (run : Outcome) (text : List ℕ) (n : ℕ)
    (edge : Edge) (code : List ℕ) : Type 0 where
  pub place : ℕ
  pub in_its_place : IsListedAt place code (waiting (keyboard_at layout history (listed run.starts) (suc n)))
  pub reads : (i byte put : ℕ) → slice_get code i ≡ Some byte → i + place + suc n < length run.starts - 1
      → put_out_in layout history (listed run.starts) (i + place + suc n) byte ≡ Some put
      → Contains (at_tick layout history (listed run.starts) (suc (i + place + suc n))).side.log
      (record { cycle = 4096 + read_stamp (listed run.starts) (i + place + suc n); item = Port put })
  pub prints : (i byte put : ℕ) → slice_get code i ≡ Some byte → i + place + suc n < length run.starts - 1
      → put_out_in layout history (listed run.starts) (i + place + suc n) byte ≡ Some put
      → HasLine text (record { tick = i + place + suc n; item = Port put })
  pub soon : (i : ℕ) → i + place + suc n ≤ length run.starts - 1
      → read_stamp (listed run.starts) (i + place + suc n) + 16 * (edge.place / 8)
      ≤ edge.stamp + 2 * 2048 + 656 + 2048 * (i + place + settling layout)

-- `run`, with its options or without, and `expect`
abbrev pub PrintsLog : RunCommand → Type 0
PrintsLog (Log ticks steps) = Unit {0}
PrintsLog Expect = Unit {0}
PrintsLog (Trace seen) = ⊥

-- so it is of each text that one of them may print of a history whose host is quiet, with the run that it is of
abbrev pub KeysArePrintedInTime : Type 0
KeysArePrintedInTime =
    (layout : KeyLayout) (history : KeyHistory) (command : RunCommand) (text : List ℕ) (probes : List Watch) (left : Left)
    → PrintsLog command → IsHostQuiet history → MayAnswerRun command layout history (Ok text) probes left
    → (run : Outcome) × IsRunText command layout history text run
    × ((n : ℕ) (edge : Edge) (code : List ℕ) → n < length run.starts - 1
    → Strikes layout history (listed run.starts) n edge code → IsPrintedInTime layout history run text n edge code)

-- and from each tick on at whose start the PC's side is at rest, if the host is quiet from there on, whatever it did before
abbrev pub KeysArePrintedInTimeFrom : Type 0
KeysArePrintedInTimeFrom =
    (layout : KeyLayout) (history : KeyHistory) (command : RunCommand) (text : List ℕ) (probes : List Watch) (left : Left)
    → PrintsLog command → MayAnswerRun command layout history (Ok text) probes left
    → (run : Outcome) × IsRunText command layout history text run
    × ((first n : ℕ) (edge : Edge) (code : List ℕ) → IsQuietFrom layout history (listed run.starts) first → first ≤ n
    → n < length run.starts - 1 → Strikes layout history (listed run.starts) n edge code
    → IsPrintedInTime layout history run text n edge code)
