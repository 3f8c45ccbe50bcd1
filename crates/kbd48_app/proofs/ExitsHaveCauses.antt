-- The causes of the exits, of a shelf that may tell its files.
use Rattle.std.proofs.Common.{◌≡◌, ℕ, true, List, length, None, Some, IfSome, inl, inr, sym, subst, ◌∙◌}
use Rattle.std.specs.declared.option.Option.{Option}
use Rattle.run_probes.specs.Probes.{Watch}
use Rattle.io_edge.specs.Said.{Shown}
use Rattle.io_edge.specs.Shelf.{Shelved}
use Rattle.app_words.specs.declared.exit.Exit.{Exit}
use Rattle.app_words.specs.declared.exit.Exit.TheVariants as exits
use Rattle.app_words.specs.declared.kind.Kind.{Kind}
use Rattle.app_words.specs.Words.{command_of}
use Rattle.kbd48_app.specs.Causes.{Fault, HasFault, IsStuck, MayExit, exit_at}
use Rattle.kbd48_app.specs.Plans.{plan}
use Rattle.kbd48_app.specs.Reached.{HasDumpFault, IsTooLong, IsUnserved, may_lack}
use Rattle.kbd48_app.proofs.CausesHaveExits.{dump_faulty, too_long, unserved}
use Rattle.kbd48_app.proofs.ExitAndCause.{IsCaused}
use Rattle.kbd48_app.proofs.PlansAreRight.{right}
use Rattle.kbd48_app.proofs.PlansEnd.{Ending, IsExit, exits_so, leads}

-- the exit of a call over a shelf that tells its files, where there are so many probes
abbrev pub IsExitOver : List (List ℕ) → ℕ → Exit → Shelved → Type 0
IsExitOver words n exit shelf = IsExit (leads n (plan words) shelf) (may_lack (plan words) shelf) exit

-- what is so of each such shelf
pub over : (n : ℕ) (words : List (List ℕ)) (shelf after : Option Shelved) (probes left : List Watch) (first last : Shown) (exit : Exit)
    → length probes ≡ n → Ending words shelf after probes left first last exit
    → (Q : Shelved → Type 0) → ((known : Shelved) → IsExitOver words n exit known → Q known) → IfSome shelf Q
over n words None after probes left first last exit same h Q goes = tt
over n words (Some shelf) after probes left first last exit same h Q goes =
    goes shelf (subst (λ (k : ℕ). IsExitOver words k exit shelf) same (exits_so words shelf after probes left first last exit h))

module _ (words : List (List ℕ)) (n : ℕ) (exit : Exit) (shelf : Shelved) (h : IsExitOver words n exit shelf) where
  -- a cause gives its exit
  caused : (wanted : Exit) → leads n (plan words) shelf ≡ wanted → MayExit wanted exit
  caused wanted is =
      elim h [
        | inl same ↦ inl (same ∙ is)
        | inr other ↦ inr (elim other [ inl memory ↦ inl memory.0 | inr write ↦ inr write ])
      ]

  -- if a fetch fails, the exit is that of a failed read, unless memory runs out or a put fails
  pub unserved_caused : IsUnserved (plan words) shelf → MayExit exits.Read exit
  unserved_caused reached = caused exits.Read (unserved n (plan words) shelf reached)

  -- if a file is too long, the exit is that of a faulty input, unless memory runs out or a put fails
  pub too_long_caused : (kind : Kind) → IsTooLong kind (plan words) shelf → MayExit exits.Input exit
  too_long_caused kind reached = caused exits.Input (too_long n kind (plan words) shelf reached)

  -- if the dump has a fault, the exit is that of a faulty input, unless memory runs out or a put fails
  pub dump_caused : HasDumpFault (plan words) shelf → MayExit exits.Input exit
  dump_caused reached = caused exits.Input (dump_faulty n (plan words) shelf reached)

  -- if a file has a fault, the exit is the fault's, unless memory runs out or a put fails
  pub fault_caused : (fault : Fault) → HasFault n fault (plan words) shelf → MayExit (exit_at fault) exit
  fault_caused fault has = caused (exit_at fault) ((right n (command_of words) words shelf).1 fault has)

  -- if a run is stuck, the exit is that of an illegal opcode, unless memory runs out or a put fails
  pub stuck_caused : IsStuck (command_of words) (plan words) shelf → MayExit exits.Stuck exit
  stuck_caused stops = caused exits.Stuck ((right n (command_of words) words shelf).2 stops)

  led_cause : (wanted : Exit) → leads n (plan words) shelf ≡ wanted → IsCaused n (command_of words) (plan words) shelf wanted
  led_cause wanted is =
      subst (λ (e : Exit). IsCaused n (command_of words) (plan words) shelf e) is (right n (command_of words) words shelf).0

  -- an exit has its cause, where it is neither that of want of memory nor that of a sink that fails
  pub cause : (wanted : Exit) → (wanted ≡ exits.Memory → ⊥) → (wanted ≡ exits.Write → ⊥) → exit ≡ wanted
      → IsCaused n (command_of words) (plan words) shelf wanted
  cause wanted memory write is =
      elim h [
        | inl same ↦ led_cause wanted (sym same ∙ is)
        | inr other ↦ elim other [
          | inl lack ↦ absurd (memory (sym is ∙ lack.0))
          | inr failed ↦ absurd (write (sym is ∙ failed))
        ]
      ]

  -- a call exits as out of memory only if its plan may run out of it
  pub lacked : exit ≡ exits.Memory → may_lack (plan words) shelf ≡ true
  lacked is =
      elim h [
        | inl same ↦ led_cause exits.Memory (sym same ∙ is)
        | inr other ↦ elim other [
          | inl lack ↦ lack.1
          | inr failed ↦ let e : exits.Memory ≡ exits.Write = sym is ∙ failed in absurd cc
        ]
      ]
