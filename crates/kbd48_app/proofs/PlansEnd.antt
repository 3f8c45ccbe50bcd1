-- How a plan ends over a shelf whose files are known.
use Rattle.std.proofs.Common.{◌≡◌, ℕ, Bool, true, false, List, [], length, Some, None, Err, inl, inr, refl, ap, subst, sym, ◌∙◌, ◌⊎◌}
use Rattle.std.specs.Option.{option_map}
use Rattle.std.specs.declared.option.Option.{Option}
use Rattle.run_program.proofs.EndOf.{end_found, end_of}
use Rattle.run_program.specs.BoardOutcomes.{Outcome}
use Rattle.run_loop.specs.declared.ending.End.{End}
use Rattle.run_loop.specs.declared.ending.End.TheVariants.{Reached, Stuck}
use Rattle.run_probes.specs.Probes.{Watch}
use Rattle.debugger.specs.Sessions.{Debuggee}
use Rattle.io_edge.specs.Said.{Shown}
use Rattle.layout_reader.specs.Layouts.{KeyLayout}
use Rattle.capture_lines.specs.Captures.{capture_text}
use Rattle.capture_vcd.specs.Reads.{reads_of}
use Rattle.capture_vcd.specs.declared.fault.VcdFault.{VcdFault}
use Rattle.law_typed_log.specs.Typing.{first_without}
use Rattle.io_edge.specs.Shelf.{Shelved, Fetched, Fails, Long, Found, after_fetch, fetched}
use Rattle.app_words.specs.declared.exit.Exit.{Exit}
use Rattle.app_words.specs.declared.exit.Exit.TheVariants as exits
use Rattle.app_words.specs.declared.kind.Kind.{Kind}
use Rattle.app_words.specs.declared.refusal.Refusal.TheVariants.{Read, TooLong, Memory}
use Rattle.app_words.specs.declared.words.BoardCommand.{BoardCommand}
use Rattle.app_words.specs.declared.words.Command.{Command}
use Rattle.kbd48_app.specs.Answers.{IsKept, OnFetched, MayEnd, MayEndAs, MayAnswer}
use Rattle.app_answers.specs.Answers.{MayAnswerOf, MayAnswerText}
use Rattle.app_boards.specs.SessionAnswers.{MayAnswerSession}
use Rattle.app_answers.specs.Leaving.{Left}
use Rattle.app_boards.specs.BoardTexts.{board_said, board_story}
use Rattle.app_answers.specs.Captures.{IsCaptured, MayAnswerTyped}
use Rattle.app_answers.specs.CertTexts.{cert_said}
use Rattle.app_boards.specs.Debugging.{script_fault}
use Rattle.app_words.specs.Kinds.{limit_of}
use Rattle.app_answers.specs.FileAnswers.{Answer}
use Rattle.kbd48_app.specs.Plans.{Plan, Gives, Certifies, Runs, Boards, Samples, Debugs, Captures, Fetches, Follows, plan, plan_of, Spells}
use Rattle.kbd48_app.specs.Reached.{on_fetched, may_lack}
use Rattle.app_answers.specs.Says.{Says, exit_said}
use Rattle.app_answers.specs.Taking.{taking_of}
use Rattle.app_words.specs.Words.{command_of}

-- the exit of a script or a text, by its first fault
abbrev pub exit_by : Option (ℕ × ℕ) → Exit
exit_by None = exits.Done
exit_by (Some fault) = exits.Input

-- the exit of a run on the board, by its end
abbrev pub board_exit : Option End → Exit
board_exit (Some Reached) = exits.Done
board_exit (Some (Stuck place)) = exits.Stuck
board_exit None = exits.Done

-- the exit of a capture, by its dump's first fault
abbrev pub capture_exit : Option VcdFault → Exit
capture_exit None = exits.Done
capture_exit (Some fault) = exits.Input

capture_led : (first : Option VcdFault) (text : List ℕ) (answer : Answer) (log : List ℕ)
    → IsCaptured first text answer log → exit_said answer ≡ capture_exit first
capture_led None text answer log h = ap exit_said h.0
capture_led (Some fault) text answer log h = ap exit_said h.0

board_led : (wanted : BoardCommand) (run : Outcome) (end : End) → exit_said (board_said wanted run end) ≡ board_exit (Some end)
board_led wanted run Reached = refl
board_led wanted run (Stuck place) = refl

-- the exit unless memory runs out, and there are so many probes
abbrev pub leads : ℕ → Plan → Shelved → Exit
leads n (Gives said) shelf = exit_said said
leads n (Certifies image text) shelf = exit_said (cert_said image text)
leads n (Spells layout text) shelf = exit_by (first_without layout text)
leads n (Runs command layout history) shelf = exits.Done
leads n (Boards wanted image history) shelf = board_exit (end_of (board_story wanted image history))
leads n (Samples count debounced) shelf = exits.Done
leads n (Debugs s script) shelf = exit_by (script_fault n script)
leads n (Captures clk dat dump) shelf = capture_exit (reads_of clk dat dump).fault
leads n (Follows layout clk dat dump) shelf = capture_exit (reads_of clk dat dump).fault
leads n (Fetches kind name next) shelf =
    on_fetched exits.Read exits.Input (λ bytes. leads n (next bytes) (after_fetch shelf)) (fetched shelf name (limit_of kind))

-- a fetch ends a plan with one of three refusals, and nothing else is done; or the plan goes on
abbrev pub IsCut : Kind → Answer → Type 0
IsCut kind answer = (answer ≡ Err Read) ⊎ (answer ≡ Err (TooLong kind)) ⊎ (answer ≡ Err Memory)

ends_by : (kind : Kind) (answer : Answer) (kept : Type 0) (on : List ℕ → Type 0) (outcome : Fetched)
    → OnFetched ((answer ≡ Err Read) × kept) ((answer ≡ Err (TooLong kind)) × kept) (λ bytes. ((answer ≡ Err Memory) × kept) ⊎ on bytes)
    outcome → (IsCut kind answer × kept) ⊎ ((bytes : List ℕ) × on bytes)
ends_by kind answer kept on Fails h = inl (inl h.0, h.1)
ends_by kind answer kept on Long h = inl (inr (inl h.0), h.1)
ends_by kind answer kept on (Found bytes) h = elim h [ inl memory ↦ inl (inr (inr memory.0), memory.1) | inr more ↦ inr (bytes, more) ]

-- a fetch ends a plan with one of three refusals, or the plan goes on with the file's bytes
pub fetch_ends : (kind : Kind) (name : List ℕ) (next : List ℕ → Plan) (shelf : Option Shelved) (answer : Answer) (after : Option Shelved)
    (probes : List Watch) (left : Left) → MayEnd (Fetches kind name next) shelf answer after probes left
    → (IsCut kind answer × IsKept (option_map after_fetch shelf) after probes left)
    ⊎ ((bytes : List ℕ) × MayEnd (next bytes) (option_map after_fetch shelf) answer after probes left)
fetch_ends kind name next shelf answer after probes left h =
    ends_by kind answer (IsKept (option_map after_fetch shelf) after probes left)
    (λ bytes. MayEnd (next bytes) (option_map after_fetch shelf) answer after probes left) h.0 h.2

-- words without a command have a plan too
pub as_plan : (command : Option Command) (words : List (List ℕ)) (shelf : Option Shelved) (answer : Answer) (after : Option Shelved)
    (probes : List Watch) (left : Left)
    → MayEndAs command words shelf answer after probes left → MayEnd (plan_of command words) shelf answer after probes left
as_plan None words shelf answer after probes left h = (inr h.0, h.1)
as_plan (Some command) words shelf answer after probes left h = h

-- an answer's exit is the one that a plan leads to, or memory was lacking
abbrev pub IsLed : Exit → Bool → Answer → Type 0
IsLed exit lack answer = (exit_said answer ≡ exit) ⊎ ((answer ≡ Err Memory) × (lack ≡ true))

after_fetched : (kind : Kind) (on : List ℕ → Type 0) (exit : List ℕ → Exit) (end : Type 0) (answer : Answer)
    → ((bytes : List ℕ) → on bytes → IsLed (exit bytes) true answer) → (outcome : Fetched)
    → OnFetched ((answer ≡ Err Read) × end) ((answer ≡ Err (TooLong kind)) × end) (λ bytes. ((answer ≡ Err Memory) × end) ⊎ on bytes)
    outcome → IsLed (on_fetched exits.Read exits.Input exit outcome) (on_fetched false false (λ bytes. true) outcome) answer
after_fetched kind on exit end answer goes Fails h = inl (ap exit_said h.0)
after_fetched kind on exit end answer goes Long h = inl (ap exit_said h.0)
after_fetched kind on exit end answer goes (Found bytes) h = elim h [ inl memory ↦ inr (memory.0, refl) | inr more ↦ goes bytes more ]

weaker : (exit : Exit) (lack : Bool) (answer : Answer) → IsLed exit lack answer → IsLed exit true answer
weaker exit lack answer h = elim h [ inl same ↦ inl same | inr memory ↦ inr (memory.0, refl) ]

session_led : (first : Option (ℕ × ℕ)) (s : Debuggee) (script : List ℕ) (answer : Answer) (probes : List Watch) (left : Left)
    → MayAnswerSession first s script answer probes left → IsLed (exit_by first) true answer
session_led None s script answer probes left h = elim h [ inl memory ↦ inr (memory.0, refl) | inr said ↦ inl (ap exit_said said.2) ]
session_led (Some fault) s script answer probes left h = inl (ap exit_said h.0)

said_led : (said answer : Answer) → MayAnswerOf said answer → IsLed (exit_said said) true answer
said_led said answer h = elim h [ inl memory ↦ inr (memory, refl) | inr same ↦ inl (ap exit_said same) ]

text_led : (layout : KeyLayout) (text : List ℕ) (answer : Answer)
    → MayAnswerText layout text answer → IsLed (exit_by (first_without layout text)) true answer
text_led layout text answer h =
    elim h [
      | inl memory ↦ inr (memory, refl)
      | inr more ↦ elim more [
        | inl fault ↦ inl (ap exit_said fault.2 ∙ sym (ap exit_by fault.1))
        | inr plan ↦ inl (ap exit_said plan.2 ∙ sym (ap exit_by plan.1.keys))
      ]
    ]

typed_led : (layout : KeyLayout) (clk dat dump : List ℕ) (answer : Answer)
    → MayAnswerTyped layout clk dat dump answer → IsLed (capture_exit (reads_of clk dat dump).fault) true answer
typed_led layout clk dat dump answer h =
    elim h [
      | inl memory ↦ inr (memory, refl)
      | inr more ↦ elim more [
        | inl fault ↦ inl (ap exit_said fault.2 ∙ sym (ap capture_exit fault.1))
        | inr typed ↦ inl (ap exit_said typed.2 ∙ sym (ap capture_exit typed.1.faultless))
      ]
    ]

abbrev pub IsLeaf : Plan → Type 0
IsLeaf (Fetches kind name next) = ⊥
IsLeaf leaf = Unit {0}

-- what comes after the files has its exit whatever shelf there is
pub leaf_ends : (p : Plan) (some : Shelved) (shelf : Option Shelved) (answer : Answer) (after : Option Shelved) (probes : List Watch)
    (left : Left) → IsLeaf p → MayEnd p shelf answer after probes left → IsLed (leads (length probes) p some) true answer
leaf_ends (Fetches kind name next) some shelf answer after probes left leaf h = absurd leaf
leaf_ends (Gives said) some shelf answer after probes left leaf h = said_led said answer h.0
leaf_ends (Certifies image text) some shelf answer after probes left leaf h = said_led (cert_said image text) answer h.0.0
leaf_ends (Spells layout text) some shelf answer after probes left leaf h = text_led layout text answer h.0
leaf_ends (Runs command layout history) some shelf answer after probes left leaf h =
    elim h.0 [ inl memory ↦ inr (memory.0, refl) | inr said ↦ inl (ap exit_said said.3) ]
leaf_ends (Boards wanted image history) some shelf answer after probes left leaf h =
    elim h.0 [
      | inl memory ↦ inr (memory.0, refl)
      | inr reported ↦
          let led = ap board_exit (end_found (board_story wanted image history) reported.0 reported.1) in
          inl (ap exit_said reported.3 ∙ board_led wanted.prints_what reported.0 reported.0.end ∙ sym led)
    ]
leaf_ends (Samples count debounced) some shelf answer after probes left leaf h =
    elim h.0 [ inl memory ↦ inr (memory.0, refl) | inr said ↦ inl (ap exit_said said.3) ]
leaf_ends (Debugs s script) some shelf answer after probes left leaf h =
    session_led (script_fault (length probes) script) s script answer probes left h.0
leaf_ends (Captures clk dat dump) some shelf answer after probes left leaf h =
    elim h.0 [
      | inl memory ↦ inr (memory.0, refl)
      | inr found ↦ inl (capture_led (reads_of clk dat dump).fault (capture_text clk dat dump) answer left.log found)
    ]
leaf_ends (Follows layout clk dat dump) some shelf answer after probes left leaf h = typed_led layout clk dat dump answer h.0

-- over a shelf whose files are known a plan's answer has the exit to which the plan leads, or memory ran out
pub ends_so : (p : Plan) (shelf : Shelved) (answer : Answer) (after : Option Shelved) (probes : List Watch) (left : Left)
    → MayEnd p (Some shelf) answer after probes left → IsLed (leads (length probes) p shelf) (may_lack p shelf) answer
ends_so (Fetches kind name next) shelf answer after probes left h =
    let on : List ℕ → Type 0 = λ bytes. MayEnd (next bytes) (Some (after_fetch shelf)) answer after probes left in
    let exit : List ℕ → Exit = λ bytes. leads (length probes) (next bytes) (after_fetch shelf) in
    let end : Type 0 = (after ≡ Some (after_fetch shelf)) × (left.probes ≡ probes) × (left.log ≡ []) in
    after_fetched kind on exit end answer
    (λ bytes more.
    weaker (exit bytes) (may_lack (next bytes) (after_fetch shelf)) answer
    (ends_so (next bytes) (after_fetch shelf) answer after probes left more))
    (fetched shelf name (limit_of kind))
    (subst (λ (o : Fetched).
    OnFetched ((answer ≡ Err Read) × end) ((answer ≡ Err (TooLong kind)) × end) (λ bytes. ((answer ≡ Err Memory) × end) ⊎ on bytes) o)
    h.1 h.2)
ends_so leaf shelf answer after probes left h = leaf_ends leaf shelf (Some shelf) answer after probes left tt h

-- a call has ended so, as the top call says
abbrev pub Ending : List (List ℕ) → Option Shelved → Option Shelved → List Watch → List Watch → Shown → Shown → Exit → Type 0
Ending words shelf after probes left first last exit =
    (log : List ℕ) × (answer : Answer)
    × MayAnswer words shelf answer after probes (record { probes = left; taking = taking_of exit first last; log = log })
    × Says log answer first last exit

-- the exit is the one that the plan leads to, or memory was lacking, or the sink failed
abbrev pub IsExit : Exit → Bool → Exit → Type 0
IsExit led lack exit = (exit ≡ led) ⊎ ((exit ≡ exits.Memory) × (lack ≡ true)) ⊎ (exit ≡ exits.Write)

-- over a shelf whose files are known a call has the exit to which its plan leads, or memory ran out, or a put failed
pub exits_so : (words : List (List ℕ)) (shelf : Shelved) (after : Option Shelved) (probes left : List Watch) (first last : Shown)
    (exit : Exit) → Ending words (Some shelf) after probes left first last exit
    → IsExit (leads (length probes) (plan words) shelf) (may_lack (plan words) shelf) exit
exits_so words shelf after probes left first last exit h =
    let kept : Left = record { probes = left; taking = taking_of exit first last; log = h.0 } in
    elim h.3 [
      | inl whole ↦
          elim (ends_so (plan words) shelf h.1 after probes kept (as_plan (command_of words) words (Some shelf) h.1 after probes kept h.2)) [
            | inl same ↦ inl (whole.0 ∙ same)
            | inr memory ↦ inr (inl (whole.0 ∙ ap exit_said memory.0, memory.1))
          ]
      | inr part ↦ inr (inr part.0)
    ]
