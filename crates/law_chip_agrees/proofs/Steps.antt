-- A step of the chip and a step of the board are one step of the processor.
use Rattle.std.proofs.Common.{◌≡◌, ℕ, suc, zero, ◌+◌, List, Some, None, refl, ap, ◌∙◌}
use Rattle.std.specs.declared.option.Option.{Option}
use Rattle.board_terms.specs.declared.event.Edge.{Edge}
use Rattle.board_terms.specs.declared.event.HostEvent.{HostEvent}
use Rattle.mcs48_core.specs.Cpu.{Cpu}
use Rattle.mcs48_core.specs.Step.{stepped, Stepped}
use Rattle.joint_run.specs.Run.{Board, World, after_cycles, after_step, joint_step, step_on, run_at, seen}
use Rattle.joint_run.specs.Joint.{Beside, joint_board, joint_cycle}
use Rattle.chip_core.specs.declared.chip.Chip.{Chip}
use Rattle.chip_core.specs.Chips.{after, cycles_of, next_of}
use Rattle.law_chip_agrees.specs.Law.{chip_of, IsNextOf, IsWired}

module _ (edges : List Edge) (events : List HostEvent) (program : List ℕ) where
  abbrev d : Board
  d = joint_board edges events

  -- what `IsNextOf` says, by the processor's step
  abbrev IsNext : World Beside → Option Stepped → Option (World Beside) → Type 0
  IsNext w o None = cycles_of o ≡ 0
  IsNext w o (Some v) =
      (after o (chip_of program w.cpu) ≡ chip_of program v.cpu) × (v.cycle ≡ w.cycle + cycles_of o)
      × (v.board ≡ after_cycles (cycles_of o) w.cycle (joint_cycle events (after o (chip_of program w.cpu)).mcu.p2) w.board)

  next_by : (w : World Beside) (o : Option Stepped) → IsNext w o (after_step d w o)
  next_by w None = refl
  next_by w (Some n) = (refl, refl, refl)

  said : (w : World Beside) (next : Option (World Beside)) → IsNext w (stepped program (seen d w) w.cpu) next
      → IsNextOf edges events program w next
  said w None h = h
  said w (Some v) h = record { chip = h.0; time = h.1; latch = h.2 }

  -- a step of the chip by the board's levels is the step of the board's processor
  pub next_is : (w : World Beside) → IsNextOf edges events program w (joint_step d program w)
  next_is w = said w (joint_step d program w) (next_by w (stepped program (seen d w) w.cpu))

  abbrev cpu_or : Cpu → Option (World Beside) → Cpu
  cpu_or other None = other
  cpu_or other (Some w) = w.cpu

  one_on : (w v : World Beside) (o : Option Stepped) → after_step d w o ≡ Some v
      → after o (chip_of program w.cpu) ≡ chip_of program v.cpu
  one_on w v None s = absurd (cc s)
  one_on w v (Some n) s = ap (λ m. chip_of program m) (ap (cpu_or w.cpu) s)

  module _ (from : World Beside) (chips : ℕ → Chip) (begun : chips 0 ≡ chip_of program from.cpu)
      (wired : IsWired edges events program from chips) where
    follows_by : (n : ℕ) (o : Option (World Beside)) (v : World Beside)
        → ((w : World Beside) → run_at d program from n ≡ Some w → chips n ≡ chip_of program w.cpu)
        → run_at d program from n ≡ o → step_on d program o ≡ Some v → chips (suc n) ≡ chip_of program v.cpu
    follows_by n None v ih r s = absurd (cc s)
    follows_by n (Some w) v ih r s =
        wired n w r ∙ ap (λ c. after (next_of (seen d w) c) c) (ih w r)
        ∙ one_on w v (stepped program (seen d w) w.cpu) s

    -- the chip after n steps is the processor of the board's run after n steps
    pub follows : (n : ℕ) (w : World Beside) → run_at d program from n ≡ Some w → chips n ≡ chip_of program w.cpu
    follows zero w r = begun ∙ ap (λ m. chip_of program m) (ap (cpu_or from.cpu) r)
    follows (suc n) w r = follows_by n (run_at d program from n) w (follows n) refl r
