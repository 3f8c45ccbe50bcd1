-- The lights, and the looks at both wires. Each law counts cycles from its block's head.
use Rattle.std.proofs.Common.{◌≡◌, ℕ, ◌+◌, ◌-◌, List, [], ◌∷◌, Bool, true, false, not, bit_and, refl, ap, sym, ◌∙◌}
use Rattle.mcs48_core.specs.Cpu.{Cpu}
use Rattle.fw_kernel.specs.declared.cells.TheConstants.{LIGHTS, R0, R1, R2, R4, R6}
use Rattle.fw_kernel.specs.declared.labels.TheConstants.{LAMPS, TESTED, LOOKS, SEND, GOT, PULLED}
use Rattle.fw_kernel.specs.Places.{HasKernel}
use Rattle.joint_run.specs.Run.{Board, after_cycles}
use Rattle.law_fw_logic.specs.Scan.{levels_in}
use Rattle.law_fw_logic.proofs.TimerParts.{IsFree}
use Rattle.law_fw_logic.proofs.Path.{Until, Go}
use Rattle.law_fw_logic.proofs.Leads.{Leads}
use Rattle.law_fw_logic.proofs.Kernel.{kernel_in}
use Rattle.law_fw_logic.proofs.Block.{put, begin_at, At}
use Rattle.law_fw_logic.proofs.Blocks.{straight, absolute}
use Rattle.law_fw_logic.proofs.Sound.{ticks_from}
use Rattle.law_fw_logic.proofs.Short.{has_rows}

-- what the looks leave in R0, R1, R2 and R6: the latch with data low, and the byte
abbrev pub readied : (ℕ → ℕ) → ℕ → ℕ
readied f = put (put (put (put f R1 LIGHTS) R2 (bit_and (255 - f LIGHTS) 253)) R6 (f R4)) R0 0

module _ (d : Board) (bytes : List ℕ) (has : HasKernel bytes) (y : ℕ) (k : Cpu) (f : ℕ → ℕ) (ring : List ℕ)
    (board : d.State) (free : IsFree k) where
  abbrev step : ℕ → d.State → d.State
  step = d.cycle k.p2

  -- the lights are put in the fifth of six cycles
  abbrev pub lit : Cpu
  lit = record k { p2 = 255 - f LIGHTS }

  abbrev pub lit_board : d.State
  lit_board = after_cycles 2 (y + 4) (d.cycle (255 - f LIGHTS)) (after_cycles 4 y step board)

  -- the block of the lights puts them on port 2 in six cycles
  pub lamps : Leads d (kernel_in true bytes) y (begin_at d LAMPS f ring k board)
      (At d lit TESTED (put f R1 LIGHTS) ring 6 lit_board)
  lamps =
      straight d (kernel_in true bytes) (has_rows true bytes has) (Until TESTED ∷ []) y k LAMPS TESTED 6 f (put f R1 LIGHTS)
      ring
      lit board lit_board free (
        refl,
        refl,
        sym (ticks_from 2 4 y (d.cycle (255 - f LIGHTS)) (after_cycles 4 0 (λ o. step (y + o)) board))
            ∙ ap (λ b. after_cycles 2 (y + 4) (d.cycle (255 - f LIGHTS)) b) (absolute 4 y step board),
      )

  -- the clock is looked at in cycle 16, data in cycle 18
  abbrev pub clock : Bool
  clock = (levels_in d y k.p1 k.p2 board 16).t0

  abbrev pub data_wire : Bool
  data_wire = (levels_in d y k.p1 k.p2 board 18).t1

  clock_is : (d.pins k.p1 k.p2 (y + 16) (after_cycles 16 0 (λ o. step (y + o)) board)).t0 ≡ clock
  clock_is = ap (λ b. (d.pins k.p1 k.p2 (y + 16) b).t0) (absolute 16 y step board)

  data_is : (d.pins k.p1 k.p2 (y + 18) (after_cycles 18 0 (λ o. step (y + o)) board)).t1 ≡ data_wire
  data_is = ap (λ b. (d.pins k.p1 k.p2 (y + 18) b).t1) (absolute 18 y step board)

  -- if the clock is low at its look, the looks lead to PULLED in 18 cycles
  pub looks_pulled : clock ≡ false
      → Leads d (kernel_in true bytes) y (begin_at d LOOKS f ring k board)
      (At d k PULLED (readied f) ring 18 (after_cycles 18 y step board))
  looks_pulled low =
      straight d (kernel_in true bytes) (has_rows true bytes has) (Go true ∷ []) y k LOOKS PULLED 18 f
      (readied f) ring
      k board (after_cycles 18 y step board) free (ap not (clock_is ∙ low), (refl, refl, absolute 18 y step board))

  -- if the clock is high and data low, the looks lead to GOT in 20 cycles
  pub looks_got : clock ≡ true → data_wire ≡ false
      → Leads d (kernel_in true bytes) y (begin_at d LOOKS f ring k board)
      (At d k GOT (readied f) ring 20 (after_cycles 20 y step board))
  looks_got high low =
      straight d (kernel_in true bytes) (has_rows true bytes has) (Go false ∷ Go true ∷ []) y k LOOKS GOT 20
      f
      (readied f) ring
      k board (after_cycles 20 y step board) free
      (ap not (clock_is ∙ high), (ap not (data_is ∙ low), (refl, refl, absolute 20 y step board)))

  -- if both wires are high, the looks lead to SEND in 20 cycles
  pub looks_free : clock ≡ true → data_wire ≡ true
      → Leads d (kernel_in true bytes) y (begin_at d LOOKS f ring k board)
      (At d k SEND (readied f) ring 20 (after_cycles 20 y step board))
  looks_free high high' =
      straight d (kernel_in true bytes) (has_rows true bytes has) (Go false ∷ Go false ∷ []) y k LOOKS SEND
      20 f
      (readied f) ring
      k board (after_cycles 20 y step board) free
      (ap not (clock_is ∙ high), (ap not (data_is ∙ high'), (refl, refl, absolute 20 y step board)))
