-- Words outside the forms, over any shelf.
use Rattle.std.proofs.Common.{arith, ◌≡◌, ℕ, List, [], length, Some, None, Err, inl, inr, refl, ap, sym, ◌∙◌, ◌⊎◌}
use Rattle.std.specs.declared.option.Option.{Option}
use Rattle.run_loop.specs.declared.ending.End.{End}
use Rattle.hexfile.specs.Hex.{hex_of}
use Rattle.layout_reader.specs.Documents.{layout_of_document}
use Rattle.run_probes.specs.Probes.{Watch}
use Rattle.io_edge.specs.Said.{Shown}
use Rattle.io_edge.specs.Shelf.{Shelved, after_fetch}
use Rattle.app_words.specs.declared.exit.Exit.{Exit}
use Rattle.app_words.specs.declared.exit.Exit.TheVariants as exits
use Rattle.app_words.specs.declared.refusal.Refusal.TheVariants.{Words}
use Rattle.app_words.specs.declared.words.Command.{Command}
use Rattle.app_words.specs.declared.words.Command.TheVariants.{OverFile, OverPair, Debug, Probe, Board, Feed, Sample, Capture, Typed}
use Rattle.app_words.specs.declared.words.PairCommand.TheVariants.{Certify, OverRun, Spell}
use Rattle.app_words.specs.declared.words.FileCommand.{FileCommand}
use Rattle.std.specs.Option.{option_map}
use Rattle.kbd48_app.specs.Answers.{MayEnd, MayEndAs}
use Rattle.app_answers.specs.Leaving.{Left}
use Rattle.app_boards.specs.Debugging.{script_fault}
use Rattle.app_words.specs.declared.kind.Kind.{Kind}
use Rattle.app_answers.specs.CertTexts.{cert_said}
use Rattle.app_answers.specs.FileAnswers.{Answer, file_said}
use Rattle.kbd48_app.specs.Plans.{Plan, Gives, Runs, Boards, Fetches, cert_next}
use Rattle.kbd48_app.specs.Plans.{plan_of, debug_next, probe_next, text_next, typed_next}
use Rattle.app_answers.specs.Says.{exit_said}
use Rattle.app_words.specs.Words.{clock_in, command_of, data_in, fourth_in, name_in, second_in, third_in, typed_clock_in, typed_data_in}
use Rattle.kbd48_app.proofs.CertExits.{cert_exits}
use Rattle.app_answers.proofs.FileExits.{Exits, file_exits}
use Rattle.kbd48_app.proofs.PlansEnd.{Ending, IsCut, board_exit, capture_exit, exit_by, fetch_ends, leads, leaf_ends}
use Rattle.kbd48_app.proofs.PlansTogether.{histories, images, layouts, programs}
use Rattle.app_words.specs.declared.refusal.Refusal.{Refusal}
use Rattle.app_words.specs.Refusals.{exit_of}
use Rattle.app_words.specs.declared.kind.Kind.TheVariants as kinds
use Rattle.app_boards.specs.BoardTexts.{board_story}
use Rattle.run_program.proofs.EndOf.{end_of}
use Rattle.capture_vcd.specs.Reads.{reads_of}
use Rattle.capture_vcd.specs.declared.fault.VcdFault.{VcdFault}
use Rattle.law_typed_log.specs.Typing.{first_without}

never_file : (command : FileCommand) (bytes : List ℕ) (said : Answer) → Exits command bytes said → exit_said said ≡ exits.Words → ⊥
never_file command bytes said h is =
    elim h [ inl done ↦ cc | inr more ↦ elim more [ inl input ↦ let e = input.0 in cc | inr stuck ↦ let e = stuck.0 in cc ] ]

never_certified : (image text : List ℕ) → exit_said (cert_said image text) ≡ exits.Words → ⊥
never_certified image text is =
    elim (cert_exits image text) [ inl done ↦ cc | inr fault ↦ let e : exits.Input ≡ exits.Words = sym (ap exit_said fault.1) ∙ is in cc ]

never_by : (first : Option (ℕ × ℕ)) → exit_by first ≡ exits.Words → ⊥
never_by first is = grind arith

never_board : (end : Option End) → board_exit end ≡ exits.Words → ⊥
never_board end is = grind arith

never_captured : (first : Option VcdFault) → capture_exit first ≡ exits.Words → ⊥
never_captured first is = grind arith

never_cut : (kind : Kind) (answer : Answer) → IsCut kind answer → exit_said answer ≡ exits.Words → ⊥
never_cut kind answer cut is = grind arith

empty : Shelved
empty = record { files = []; calls = 0; fails = [] }

-- a plan never says that the words have no form
abbrev Never : Plan → Type 0
Never (Fetches kind name next) = (bytes : List ℕ) → Never (next bytes)
Never leaf = (n : ℕ) → leads n leaf empty ≡ exits.Words → ⊥

never_ends : (p : Plan) → Never p → (shelf after : Option Shelved) (answer : Answer) (probes : List Watch) (left : Left)
    → MayEnd p shelf answer after probes left → exit_said answer ≡ exits.Words → ⊥
never_ends (Fetches kind name next) never shelf after answer probes left h is =
    elim (fetch_ends kind name next shelf answer after probes left h) [
      | inl cut ↦ never_cut kind answer cut.0 is
      | inr more ↦ never_ends (next more.0) (never more.0) (option_map after_fetch shelf) after answer probes left more.1 is
    ]
never_ends leaf never shelf after answer probes left h is =
    elim (leaf_ends leaf empty shelf answer after probes left tt h) [
      | inl led ↦ never (length probes) (sym led ∙ is)
      | inr memory ↦ never_cut kinds.Hex answer (inr (inr memory.0)) is
    ]

abbrev Together : Plan → Plan → Type 0
Together p q = Never p

goes_on : (kind : Kind) (name : List ℕ) (next other : List ℕ → Plan) → ((bytes : List ℕ) → Never (next bytes)) → Never (Fetches kind name next)
goes_on kind name next other h = h

refused : (refusal : Refusal) → (exit_of refusal ≡ exits.Words → ⊥) → Never (Gives (Err refusal))
refused refusal other n is = other is

never_command : (command : Command) (words : List (List ℕ)) → Never (plan_of (Some command) words)
never_command (Feed bytes) words = λ n is. cc
never_command (Sample count debounced) words = λ n is. cc
never_command (OverFile command) words = λ bytes n. never_file command bytes (file_said command bytes) (file_exits command bytes)
never_command (OverPair Certify) words =
    λ bytes. images Together goes_on refused (cert_next (second_in words)) (cert_next (second_in words))
    (λ image text n. never_certified image text) (hex_of bytes)
never_command (OverPair Spell) words =
    λ bytes. layouts Together goes_on refused (text_next (second_in words)) (text_next (second_in words))
    (λ layout text n. never_by (first_without layout text)) (layout_of_document bytes)
never_command (OverPair (OverRun command)) words =
    histories Together goes_on refused (Runs command) (Runs command) (λ layout history n is. cc) (name_in words) (second_in words)
never_command (Board wanted) words =
    programs Together goes_on refused (Boards wanted) (Boards wanted)
    (λ image history n. never_board (end_of (board_story wanted image history))) (name_in words) (second_in words) (third_in words)
never_command Debug words =
    histories Together goes_on refused (debug_next (third_in words)) (debug_next (third_in words))
    (λ layout history script n. never_by (script_fault n script)) (name_in words) (second_in words)
never_command (Probe fill) words =
    programs Together goes_on refused (probe_next fill (fourth_in words)) (probe_next fill (fourth_in words))
    (λ image history script n. never_by (script_fault n script)) (name_in words) (second_in words) (third_in words)
never_command Capture words = λ bytes n. never_captured (reads_of (clock_in words) (data_in words) bytes).fault
never_command Typed words =
    let next = typed_next (typed_clock_in words) (typed_data_in words) (third_in words) in
    λ bytes. layouts Together goes_on refused next next
    (λ layout dump n. never_captured (reads_of (typed_clock_in words) (typed_data_in words) dump).fault) (layout_of_document bytes)

only_none : (command : Option Command) (words : List (List ℕ)) (shelf after : Option Shelved) (answer : Answer) (probes : List Watch)
    (left : Left) → MayEndAs command words shelf answer after probes left → exit_said answer ≡ exits.Words → command ≡ None
only_none None words shelf after answer probes left h is = refl
only_none (Some command) words shelf after answer probes left h is =
    absurd (never_ends (plan_of (Some command) words) (never_command command words) shelf after answer probes left h is)

-- the words are refused only where they have no form
pub words_only : (words : List (List ℕ)) (shelf after : Option Shelved) (probes left : List Watch) (first last : Shown) (exit : Exit)
    → Ending words shelf after probes left first last exit → exit ≡ exits.Words → command_of words ≡ None
words_only words shelf after probes left first last exit h is =
    elim h.3 [
      | inl whole ↦ only_none (command_of words) words shelf after h.1 probes _ h.2 (sym whole.0 ∙ is)
      | inr part ↦ let e : exits.Write ≡ exits.Words = sym part.0 ∙ is in absurd cc
    ]

none_refused : (command : Option Command) (words : List (List ℕ)) (shelf after : Option Shelved) (answer : Answer) (probes : List Watch)
    (left : Left) → MayEndAs command words shelf answer after probes left → command ≡ None → answer ≡ Err Words
none_refused None words shelf after answer probes left h is = h.0
none_refused (Some command) words shelf after answer probes left h is = absurd cc

-- and wherever they have none
pub words_refused : (words : List (List ℕ)) (shelf after : Option Shelved) (probes left : List Watch) (first last : Shown) (exit : Exit)
    → Ending words shelf after probes left first last exit → command_of words ≡ None → (exit ≡ exits.Words) ⊎ (exit ≡ exits.Write)
words_refused words shelf after probes left first last exit h is =
    elim h.3 [
      | inl whole ↦ inl (whole.0 ∙ ap exit_said (none_refused (command_of words) words shelf after h.1 probes _ h.2 is))
      | inr part ↦ inr part.0
    ]
