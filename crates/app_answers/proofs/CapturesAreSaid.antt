-- What is said of a capture.
use Rattle.std.proofs.Common.{◌≡◌, ℕ, List, [], None, Some, Ok, Err, inr, refl, subst, sym}
use Rattle.std.specs.declared.option.Option.{Option}
use Rattle.capture_lines.proofs.Ends.{text_lines}
use Rattle.capture_lines.specs.Captures.{capture_text}
use Rattle.io_edge.proofs.Pieces.{broken_before}
use Rattle.io_edge.specs.Said.{IsBrokenOff, IsSaid, Shown}
use Rattle.io_edge.specs.declared.sink.SinkFault.{SinkFault}
use Rattle.capture_vcd.specs.Reads.{reads_of}
use Rattle.capture_vcd.specs.declared.fault.VcdFault.{VcdFault}
use Rattle.app_words.specs.declared.refusal.Refusal.TheVariants.{Vcd}
use Rattle.app_answers.specs.declared.spoken.Spoken.TheVariants.{Said}
use Rattle.app_answers.specs.Captures.{IsCaptured, MayAnswerCapture}
use Rattle.app_answers.specs.FileAnswers.{Answer}
use Rattle.app_answers.specs.Says.{text_said}
use Rattle.app_answers.specs.Spoken.{IsSpoken, May}

module _ (clk dat dump : List ℕ) (x y : Shown) where
  abbrev pub MayCapture : May
  MayCapture answer taking log = MayAnswerCapture clk dat dump answer log

  abbrev Text : List ℕ
  Text = capture_text clk dat dump

  abbrev First : Option VcdFault
  First = (reads_of clk dat dump).fault

  captured : (first : Option VcdFault) (answer : Answer) (log : List ℕ) → First ≡ first → IsCaptured first Text answer log
      → MayAnswerCapture clk dat dump answer log
  captured first answer log is h = inr (subst (λ (f : Option VcdFault). IsCaptured f Text answer log) (sym is) h)

  -- all of it was taken, and the dump has no fault
  pub faultless : First ≡ None → IsSaid x y Text → IsSpoken MayCapture (Ok (Said (Ok tt))) x y
  faultless is said = (Text, [], captured None (Ok Text) [] is (refl, refl), said)

  broken_by : (first : Option VcdFault) (failure : SinkFault) → First ≡ first → IsBrokenOff x y Text
      → IsSpoken MayCapture (Ok (Said (Err failure))) x y
  broken_by None failure is broken = (Ok Text, [], captured None (Ok Text) [] is (refl, refl), broken)
  broken_by (Some fault) failure is broken =
      let answer : Answer = Err (Vcd fault.line fault.number) in (
        answer,
        Text,
        captured (Some fault) answer Text is (refl, refl),
        broken_before x y Text (text_said answer) (text_lines clk dat dump) broken,
      )

  -- a put failed, of a dump with a fault or without one
  pub broken_off : (failure : SinkFault) → IsBrokenOff x y Text → IsSpoken MayCapture (Ok (Said (Err failure))) x y
  broken_off failure broken = broken_by First failure refl broken
