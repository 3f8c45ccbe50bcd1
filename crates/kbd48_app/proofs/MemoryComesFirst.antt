-- Commands that take all their memory before the first step: where it is lacking, no probe has looked, and nothing was
-- said.
use Rattle.std.proofs.Common.{◌≡◌, ℕ, Bool, true, List, [], ◌++◌, None, Some, Err, inl, inr, sym, subst, ◌∙◌}
use Rattle.std.specs.Option.{option_map}
use Rattle.std.specs.declared.option.Option.{Option}
use Rattle.run_program.specs.BoardOutcomes.{Outcome}
use Rattle.run_loop.specs.declared.ending.End.{End}
use Rattle.run_loop.specs.declared.ending.End.TheVariants.{Reached, Stuck}
use Rattle.run_probes.specs.Probes.{Watch}
use Rattle.io_edge.specs.Said.{Shown, TakesAll}
use Rattle.io_edge.specs.Shelf.{Shelved, after_fetch}
use Rattle.key_file.specs.Histories.{KeyHistory}
use Rattle.layout_reader.specs.Documents.{layout_of_document}
use Rattle.layout_reader.specs.Layouts.{KeyLayout}
use Rattle.app_words.specs.declared.exit.Exit.{Exit}
use Rattle.app_words.specs.declared.exit.Exit.TheVariants as exits
use Rattle.app_words.specs.declared.kind.Kind.{Kind}
use Rattle.app_words.specs.declared.kind.Kind.TheVariants.{Vcd, Layout as LayoutFile}
use Rattle.capture_lines.specs.Captures.{capture_text}
use Rattle.capture_vcd.specs.Reads.{reads_of}
use Rattle.capture_vcd.specs.declared.fault.VcdFault.{VcdFault}
use Rattle.app_answers.specs.Captures.{IsCaptured}
use Rattle.app_words.specs.declared.refusal.Refusal.TheVariants.{Memory}
use Rattle.app_words.specs.declared.words.BoardCommand.{BoardCommand}
use Rattle.app_words.specs.declared.words.BoardRun.{BoardRun}
use Rattle.app_words.specs.declared.words.Command.{Command}
use Rattle.app_words.specs.declared.words.Command.TheVariants.{OverPair, Board, Sample, Capture, Typed}
use Rattle.app_words.specs.declared.words.PairCommand.TheVariants.{OverRun}
use Rattle.app_words.specs.declared.words.RunCommand.{RunCommand}
use Rattle.app_words.specs.declared.words.RunCommand.TheVariants.{Log, Expect, Trace}
use Rattle.kbd48_app.specs.Answers.{MayEnd}
use Rattle.app_answers.specs.Leaving.{Left}
use Rattle.app_boards.specs.BoardTexts.{board_said}
use Rattle.app_answers.specs.FileAnswers.{Answer}
use Rattle.kbd48_app.specs.Plans.{Plan, Boards, Captures, Fetches, Follows, Gives, Runs, Samples, plan_of, typed_next, with_layout}
use Rattle.app_runs.specs.RunTexts.{AreLeftWithoutMemory}
use Rattle.app_words.specs.Refusals.{line_of}
use Rattle.app_answers.specs.Says.{text_said}
use Rattle.app_words.specs.Words.{clock_in, command_of, data_in, name_in, second_in, takes_memory_first, third_in, typed_clock_in, typed_data_in}
use Rattle.kbd48_app.proofs.AnswersEndCalls.{memory_said}
use Rattle.kbd48_app.proofs.OneText.{no_refusal}
use Rattle.kbd48_app.proofs.PlansEnd.{Ending, as_plan, fetch_ends}
use Rattle.kbd48_app.proofs.PlansTogether.{histories, layouts, programs}
use Rattle.app_words.specs.declared.refusal.Refusal.{Refusal}
use Rattle.app_answers.specs.Taking.{taking_of}

-- the probes are as they were, and nothing was said
abbrev AreFirst : List Watch → Left → Type 0
AreFirst probes left = (left.probes ≡ probes) × (left.log ≡ [])

abbrev KeepsFirst : Plan → Type 0
KeepsFirst p = (shelf : Option Shelved) (answer : Answer) (after : Option Shelved) (probes : List Watch) (left : Left)
    → MayEnd p shelf answer after probes left → answer ≡ Err Memory → AreFirst probes left

fetch_keeps : (kind : Kind) (name : List ℕ) (next : List ℕ → Plan)
    → ((bytes : List ℕ) → KeepsFirst (next bytes)) → KeepsFirst (Fetches kind name next)
fetch_keeps kind name next goes shelf answer after probes left h is =
    elim (fetch_ends kind name next shelf answer after probes left h) [
      | inl cut ↦ (cut.1.1, cut.1.2)
      | inr more ↦ goes more.0 (option_map after_fetch shelf) answer after probes left more.1 is
    ]

refused_keeps : (refusal : Refusal) → KeepsFirst (Gives (Err refusal))
refused_keeps refusal shelf answer after probes left h is = (h.1.1, h.1.2)

-- a run that leaves them as they were where memory runs out
left_first : (command : RunCommand) (layout : KeyLayout) (history : KeyHistory) (probes left : List Watch)
    → takes_memory_first (Some (OverPair (OverRun command))) ≡ true → AreLeftWithoutMemory command layout history probes left → left ≡ probes
left_first (Log ticks steps) layout history probes left first h = h
left_first Expect layout history probes left first h = absurd cc
left_first (Trace seen) layout history probes left first h = h

run_keeps : (command : RunCommand) → takes_memory_first (Some (OverPair (OverRun command))) ≡ true
    → (layout : KeyLayout) (history : KeyHistory) → KeepsFirst (Runs command layout history)
run_keeps command first layout history shelf answer after probes left h is =
    elim h.0 [
      | inl memory ↦ (left_first command layout history probes left.probes first memory.1, h.2)
      | inr said ↦ absurd (no_refusal said.0 Memory (sym said.3 ∙ is))
    ]

sample_keeps : (count : ℕ) (debounced : Bool) → KeepsFirst (Samples count debounced)
sample_keeps count debounced shelf answer after probes left h is =
    elim h.0 [ inl memory ↦ (memory.1, h.2) | inr said ↦ absurd (no_refusal said.0 Memory (sym said.3 ∙ is)) ]

not_memory : (wanted : BoardCommand) (run : Outcome) (end : End) → board_said wanted run end ≡ Err Memory → ⊥
not_memory wanted run Reached is = cc
not_memory wanted run (Stuck place) is = cc

-- the run of a program on the board
board_keeps : (wanted : BoardRun) (image : List ℕ) (history : KeyHistory) → KeepsFirst (Boards wanted image history)
board_keeps wanted image history shelf answer after probes left h is =
    elim h.0 [ inl memory ↦ (memory.2, memory.1) | inr reported ↦ absurd (not_memory wanted.prints_what reported.0 reported.0.end (sym reported.3 ∙ is)) ]

-- what is found in a dump
found_not_memory : (first : Option VcdFault) (text : List ℕ) (answer : Answer) (log : List ℕ) → IsCaptured first text answer log
    → answer ≡ Err Memory → ⊥
found_not_memory None text answer log h is = no_refusal text Memory (sym h.0 ∙ is)
found_not_memory (Some fault) text answer log h is = let e = sym h.0 ∙ is in cc

capture_keeps : (clk dat dump : List ℕ) → KeepsFirst (Captures clk dat dump)
capture_keeps clk dat dump shelf answer after probes left h is =
    elim h.0 [
      | inl memory ↦ (h.2, memory.1)
      | inr found ↦ absurd (found_not_memory (reads_of clk dat dump).fault (capture_text clk dat dump) answer left.log found is)
    ]

-- what was typed in a dump: nothing is said before the answer
typed_keeps : (clk dat name : List ℕ) (layout : KeyLayout) → KeepsFirst (typed_next clk dat name layout)
typed_keeps clk dat name layout =
    fetch_keeps Vcd name (Follows layout clk dat) (λ dump shelf answer after probes left h is. (h.1.1, h.1.2))

keeps_as : (command : Option Command) (words : List (List ℕ)) → takes_memory_first command ≡ true → KeepsFirst (plan_of command words)
keeps_as (Some (Sample count debounced)) words first = sample_keeps count debounced
keeps_as (Some (OverPair (OverRun command))) words first =
    histories (λ p q. KeepsFirst p) (λ kind name next other. fetch_keeps kind name next) (λ refusal other. refused_keeps refusal)
    (Runs command) (Runs command) (run_keeps command first) (name_in words) (second_in words)
keeps_as (Some (Board wanted)) words first =
    programs (λ p q. KeepsFirst p) (λ kind name next other. fetch_keeps kind name next) (λ refusal other. refused_keeps refusal)
    (Boards wanted) (Boards wanted) (board_keeps wanted) (name_in words) (second_in words) (third_in words)
keeps_as (Some Capture) words first =
    fetch_keeps Vcd (name_in words) (Captures (clock_in words) (data_in words)) (capture_keeps (clock_in words) (data_in words))
keeps_as (Some Typed) words first =
    let next = typed_next (typed_clock_in words) (typed_data_in words) (third_in words) in
    fetch_keeps LayoutFile (second_in words) (λ bytes. with_layout next (layout_of_document bytes))
    (λ bytes. layouts (λ p q. KeepsFirst p) (λ kind name other more. fetch_keeps kind name other) (λ refusal other. refused_keeps refusal)
    next next (typed_keeps (typed_clock_in words) (typed_data_in words) (third_in words)) (layout_of_document bytes))
keeps_as command words first = absurd cc

-- a command that takes its memory first, and runs out of it, has looked at nothing and said nothing but that
pub lacks_first : (words : List (List ℕ)) (shelf after : Option Shelved) (probes left : List Watch) (x z : Shown) (exit : Exit)
    → Ending words shelf after probes left x z exit
    → takes_memory_first (command_of words) ≡ true → exit ≡ exits.Memory → (left ≡ probes) × TakesAll x.taken z.taken (line_of Memory)
lacks_first words shelf after probes left x z exit h first is =
    elim h.3 [
      | inl whole ↦
          let memory = memory_said h.1 (sym whole.0 ∙ is) in
          let end : Left = record { probes = left; taking = taking_of exit x z; log = h.0 } in
          let kept = keeps_as (command_of words) words first shelf h.1 after probes end
          (as_plan (command_of words) words shelf h.1 after probes end h.2) memory in (
            kept.0,
            subst (λ (l : List ℕ). TakesAll x.taken z.taken (l ++ line_of Memory)) kept.1
                (subst (λ (a : Answer). TakesAll x.taken z.taken (h.0 ++ text_said a)) memory whole.1.all),
          )
      | inr part ↦ let e : exits.Write ≡ exits.Memory = sym part.0 ∙ is in absurd cc
    ]
