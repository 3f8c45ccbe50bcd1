-- Where nothing is in the way.
use Rattle.std.proofs.Common.{◌≡◌, ℕ, ◌-◌, ◌^◌, ◌<◌, Bool, true, false, List, ◌++◌, length, Some, None}
use Rattle.std.proofs.Common.{IfSome, ap, sym, ◌∙◌, subst, inl, inr, refl, arith, ◌⊎◌}
use Rattle.std.specs.declared.option.Option.{Option}
use Rattle.run_program.proofs.EndOf.{end_of}
use Rattle.run_loop.specs.declared.ending.End.{End}
use Rattle.cycle_cert.specs.Answers.{answer_of as certificate_said}
use Rattle.cycle_cert.specs.Faults.{number_of}
use Rattle.run_probes.specs.Probes.{Watch}
use Rattle.app_boards.specs.BoardTexts.{board_story}
use Rattle.io_edge.specs.Faults.{Rose}
use Rattle.io_edge.specs.MemorySink.{HeldBytes}
use Rattle.io_edge.specs.Said.{said}
use Rattle.io_edge.specs.Said.{Shown}
use Rattle.io_edge.specs.Shelf.{Shelved, Fetched, after_fetch}
use Rattle.app_words.specs.declared.exit.Exit.{Exit}
use Rattle.app_words.specs.declared.exit.Exit.TheVariants as exits
use Rattle.app_words.specs.declared.words.Command.{Command}
use Rattle.app_words.specs.declared.words.Command.TheVariants.{OverPair, Feed, Sample}
use Rattle.app_words.specs.declared.words.PairCommand.TheVariants.{Certify, OverRun, Spell}
use Rattle.kbd48_app.specs.Answers.{MayEndAs}
use Rattle.app_answers.specs.Leaving.{Left}
use Rattle.kbd48_app.specs.Causes.{IsStuck}
use Rattle.kbd48_app.specs.Complete.{IsFaultless, IsLeft, IsNoFault, IsServed}
use Rattle.app_answers.specs.FileAnswers.{Answer}
use Rattle.kbd48_app.specs.Plans.{Plan, Gives, Certifies, Spells, Runs, Boards, Samples, Debugs, Captures, Fetches, Follows, plan_of}
use Rattle.kbd48_app.specs.Reached.{on_fetched}
use Rattle.app_answers.specs.Says.{Says, exit_said, text_said}
use Rattle.app_words.specs.Words.{command_of}
use Rattle.kbd48_app.proofs.ExitAndCause.{IsCaused}
use Rattle.kbd48_app.proofs.CertExits.{right_exit}
use Rattle.kbd48_app.proofs.AnswersEndCalls.{never_write, wrote}
use Rattle.kbd48_app.proofs.PlansEnd.{Ending, as_plan, board_exit, capture_exit, ends_so, exit_by, leads}
use Rattle.kbd48_app.proofs.PlansAreRight.{right}

-- where nothing is in its way a plan leads to its end, or to a byte without an instruction
abbrev IsPast : Exit → Type 0
IsPast exit = (exit ≡ exits.Done) ⊎ (exit ≡ exits.Stuck)

said_past : (said : Answer) → IsNoFault said → IsPast (exit_said said)
said_past said h = grind arith

board_past : (end : Option End) → IsPast (board_exit end)
board_past end = grind arith

served_past : (n : ℕ) (p : Plan) (shelf : Shelved) → IsServed n p (Some shelf) → IsPast (leads n p shelf)
served_past n (Fetches kind name next) shelf h =
    subst (λ (o : Fetched). IsPast (on_fetched exits.Read exits.Input (λ bytes. leads n (next bytes) (after_fetch shelf)) o))
    (sym h.1) (served_past n (next h.0) (after_fetch shelf) h.2)
served_past n (Gives said) shelf h = said_past said h
served_past n (Certifies image text) shelf h = inl (right_exit number_of (certificate_said image text) h.0 h.1)
served_past n (Spells layout text) shelf h = inl (ap exit_by h)
served_past n (Runs command layout history) shelf h = inl refl
served_past n (Boards wanted image history) shelf h = board_past (end_of (board_story wanted image history))
served_past n (Samples count debounced) shelf h = inl refl
served_past n (Debugs s script) shelf h = inl (ap exit_by h)
served_past n (Captures clk dat dump) shelf h = inl (ap capture_exit h)
served_past n (Follows layout clk dat dump) shelf h = inl (ap capture_exit h)

-- the end and want of memory are always left
done_left : (command : Option Command) → IsLeft command exits.Done
done_left command = grind arith

memory_left : (command : Option Command) → IsLeft command exits.Memory
memory_left command = grind arith

-- a byte without an instruction, where it has its cause
stuck_left : (command : Option Command) (p : Plan) (shelf : Shelved) → IsStuck command p shelf → IsLeft command exits.Stuck
stuck_left command p shelf (inl step) = subst (λ (c : Option Command). IsLeft c exits.Stuck) (sym step.1) (inr (inr refl))
stuck_left command p shelf (inr board) = subst (λ (c : Option Command). IsLeft c exits.Stuck) (sym board.1) (inr (inr refl))

past_left : (n : ℕ) (words : List (List ℕ)) (command : Option Command) (shelf : Shelved) (exit : Exit)
    → exit ≡ leads n (plan_of command words) shelf → IsPast exit → IsLeft command exit
past_left n words command shelf exit led (inl done) = subst (λ (e : Exit). IsLeft command e) (sym done) (done_left command)
past_left n words command shelf exit led (inr stuck) =
    let p = plan_of command words in
    subst (λ (e : Exit). IsLeft command e) (sym stuck)
    (stuck_left command p shelf
    (subst (λ (e : Exit). IsCaused n command p shelf e) (sym led ∙ stuck) (right n command words shelf).0))

-- a command that names no file, whatever shelf there is
fileless_left : (n : ℕ) (words : List (List ℕ)) (command : Option Command) (after : Option Shelved)
    (answer : Answer) (probes : List Watch) (left : Left)
    → IsServed n (plan_of command words) None → MayEndAs command words None answer after probes left → IsLeft command (exit_said answer)
fileless_left n words None after answer probes left served may = absurd served
fileless_left n words (Some (Feed bytes)) after answer probes left served may =
    elim may.0 [ inl memory ↦ inr (ap exit_said memory) | inr same ↦ inl (ap exit_said same) ]
fileless_left n words (Some (Sample count debounced)) after answer probes left served may =
    elim may.0 [ inl memory ↦ inr (ap exit_said memory.0) | inr said ↦ inl (ap exit_said said.3) ]
fileless_left n words (Some (OverPair Certify)) after answer probes left served may = absurd served
fileless_left n words (Some (OverPair Spell)) after answer probes left served may = absurd served
fileless_left n words (Some (OverPair (OverRun command))) after answer probes left served may = absurd served
fileless_left n words command after answer probes left served may = absurd served

answers_left : (words : List (List ℕ)) (command : Option Command) (shelf after : Option Shelved)
    (answer : Answer) (probes : List Watch) (left : Left)
    → IsServed (length probes) (plan_of command words) shelf → MayEndAs command words shelf answer after probes left
    → IsLeft command (exit_said answer)
answers_left words command None after answer probes left served may =
    fileless_left (length probes) words command after answer probes left served may
answers_left words command (Some shelf) after answer probes left served may =
    let n = length probes in
    let p = plan_of command words in
    elim (ends_so p shelf answer after probes left (as_plan command words (Some shelf) answer after probes left may)) [
      | inl led ↦ past_left n words command shelf (exit_said answer) led (subst IsPast (sym led) (served_past n p shelf served))
      | inr memory ↦ subst (λ (a : Answer). IsLeft command (exit_said a)) (sym memory.0) (memory_left command)
    ]

not_risen : (before after : ℕ) → after ≡ before → before < 2 ^ 64 - 1 → Rose before after → ⊥
not_risen before after same below rose = omega (arith, same, below, rose)

-- where the call doesn't end with Write
left_unwritten : (n : ℕ) (words : List (List ℕ)) (shelf after : Option Shelved) (probes left : List Watch) (first last : Shown) (exit : Exit)
    → length probes ≡ n → IsFaultless n words shelf → (exit ≡ exits.Write → ⊥) → Ending words shelf after probes left first last exit
    → IsLeft (command_of words) exit
left_unwritten n words shelf after probes left first last exit many faultless unwritten h =
    elim h.3 [
      | inl whole ↦
          subst (λ (e : Exit). IsLeft (command_of words) e) (sym whole.0)
          (answers_left words (command_of words) shelf after h.1 probes _
          (subst (λ (k : ℕ). IsFaultless k words shelf) (sym many) faultless) h.2)
      | inr part ↦ absurd (unwritten part.0)
    ]

-- if nothing is in the way and no put failed, a call is done, or its run is stuck, or memory ran out
pub left_unfailed : (n : ℕ) (words : List (List ℕ)) (shelf after : Option Shelved) (probes left : List Watch) (first last : Shown) (exit : Exit)
    → length probes ≡ n → IsFaultless n words shelf → last.faults ≡ first.faults → first.faults < 2 ^ 64 - 1
    → Ending words shelf after probes left first last exit → IsLeft (command_of words) exit
left_unfailed n words shelf after probes left first last exit many faultless same below h =
    left_unwritten n words shelf after probes left first last exit many faultless
    (λ is. not_risen first.faults last.faults same below (wrote h.0 h.1 first last exit h.3 is)) h

-- of a sink that shows itself, where no put of what was said failed
abbrev pub IsLeftUnfailed : ℕ → List (List ℕ) → Option Shelved → Option HeldBytes → Option HeldBytes → Exit → Type 0
IsLeftUnfailed n words shelf before after exit =
    IfSome before
    (λ sink. IsFaultless n words shelf
    → (text : List ℕ) × (after ≡ Some (said text sink).sink) × ((said text sink).failed ≡ false → IsLeft (command_of words) exit))

true_false : (b : Bool) → b ≡ true → b ≡ false → ⊥
true_false b is not_so = cc

-- how the sink is after what was said
stood : (log : List ℕ) (answer : Answer) (x y : Shown) (exit : Exit) → Says log answer x y exit
    → IfSome x.in_memory
    (λ sink. (y.in_memory ≡ Some (said (log ++ text_said answer) sink).sink)
    × (exit ≡ exits.Write → (said (log ++ text_said answer) sink).failed ≡ true))
stood log answer x y exit says =
    elim x.in_memory as (λ o.
    ((exit ≡ exit_said answer)
    × IfSome o (λ sink. (y.in_memory ≡ Some (said (log ++ text_said answer) sink).sink)
    × ((said (log ++ text_said answer) sink).failed ≡ false)))
    ⊎ ((exit ≡ exits.Write)
    × IfSome o (λ sink. (y.in_memory ≡ Some (said (log ++ text_said answer) sink).sink)
    × ((said (log ++ text_said answer) sink).failed ≡ true)))
    → IfSome o (λ sink. (y.in_memory ≡ Some (said (log ++ text_said answer) sink).sink)
    × (exit ≡ exits.Write → (said (log ++ text_said answer) sink).failed ≡ true))) [
      | None ↦ λ h. tt
      | Some sink ↦ λ h. elim h [
        | inl whole ↦ (whole.1.0, λ wrote. absurd (never_write answer (sym whole.0 ∙ wrote)))
        | inr part ↦ (part.1.0, λ wrote. part.1.1)
      ]
    ] (elim says [ inl whole ↦ inl (whole.0, whole.1.lines) | inr part ↦ inr (part.0, part.1.lines) ])

-- if nothing is in the way and a sink in memory took all, a call is done, or its run is stuck, or memory ran out
pub left_reported : (n : ℕ) (words : List (List ℕ)) (shelf after : Option Shelved) (probes left : List Watch) (first last : Shown) (exit : Exit)
    → length probes ≡ n → Ending words shelf after probes left first last exit
    → IsLeftUnfailed n words shelf first.in_memory last.in_memory exit
left_reported n words shelf after probes left first last exit many h =
    elim first.in_memory as (λ o.
    IfSome o (λ sink. (last.in_memory ≡ Some (said (h.0 ++ text_said h.1) sink).sink)
    × (exit ≡ exits.Write → (said (h.0 ++ text_said h.1) sink).failed ≡ true))
    → IsLeftUnfailed n words shelf o last.in_memory exit) [
      | None ↦ λ k. tt
      | Some sink ↦
          λ k. λ faultless. (
            h.0 ++ text_said h.1,
            k.0,
            λ fine. left_unwritten n words shelf after probes left first last exit many faultless
                (λ is. true_false (said (h.0 ++ text_said h.1) sink).failed (k.1 is) fine) h,
          )
    ] (stood h.0 h.1 first last exit h.3)
