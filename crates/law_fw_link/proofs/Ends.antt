-- The begin of a sent frame, with its two looks, and its last cell.
use Rattle.std.proofs.Common.{◌≡◌, ◌<◌, ℕ, ◌+◌, ◌-◌, ◌*◌, ◌/◌, ◌%◌, List, [], ◌∷◌, Bool, true, false, ◌==◌}
use Rattle.std.proofs.Common.{not, bit_and, bit_or, bit_xor, refl, ap, ◌∙◌}
use Rattle.mcs48_core.specs.Cpu.{Cpu}
use Rattle.bits.specs.Bits.{bit}
use Rattle.mcs48_core.specs.Status.{digit}
use Rattle.board_terms.specs.Frame.{parity_of}
use Rattle.fw_kernel.specs.declared.cells.TheConstants.{R0, R1, R2, R3, R4, R5}
use Rattle.fw_kernel.specs.Places.{HasKernel}
use Rattle.fw_kernel.specs.declared.labels.TheConstants.{SEND, S_CELL, S_STOP, SENT, SCAN}
use Rattle.law_fw_logic.proofs.Block.{memory, put, scratched, begin_at, At}
use Rattle.law_fw_logic.proofs.Blocks.{straight}
use Rattle.bits.proofs.Every.{by_byte}
use Rattle.law_fw_logic.proofs.TimerParts.{IsFree}
use Rattle.law_fw_logic.proofs.Kernel.{kernel_in}
use Rattle.law_fw_logic.proofs.Leads.{Leads}
use Rattle.law_fw_logic.proofs.Path.{Stage, Run, Until, Go, Acc}
use Rattle.law_fw_logic.proofs.Short.{has_rows}
use Rattle.law_fw_logic.proofs.Sound.{sound, weaken}
use Rattle.joint_run.specs.Run.{Board, after_cycles}

-- a byte folded upon itself: its halves, then its quarters, then its eighths
abbrev rotated : ℕ → ℕ
rotated a = 128 * digit (bit 0 a) + a / 2

abbrev in_halves : ℕ → ℕ
in_halves b = bit_xor (b % 16 * 16 + b / 16) b

abbrev pub in_quarters : ℕ → ℕ
in_quarters b = bit_xor (rotated (rotated (in_halves b))) (in_halves b)

abbrev pub in_eighths : ℕ → ℕ
in_eighths b = bit_xor (rotated (in_quarters b)) (in_quarters b)

-- a byte folded upon itself three times gives its odd parity
pub parity_is : (b : ℕ) → b < 256 → 255 - in_eighths b ≡ 255 * digit (parity_of b)
parity_is = by_byte (λ b. 255 - in_eighths b) (λ b. 255 * digit (parity_of b)) refl

lowest : (b : Bool) → bit 0 (255 * digit b) ≡ b
lowest true = refl
lowest false = refl

module _ (d : Board) (bytes : List ℕ) (has : HasKernel bytes) (y : ℕ) (m : Cpu) (board : d.State) (f : ℕ → ℕ)
    (ring : List ℕ) where
  -- the registers of a sent frame at its first cell; R2 is the latch with data low
  abbrev pub readied : ℕ → ℕ
  readied = put (put (put f R0 (in_quarters (f R4))) R1 (f R2)) R3 10

  abbrev pub lit_low : Cpu
  lit_low = record m { p2 = f R2 }

  -- the board so many cycles after the start bit
  abbrev pub board_started : ℕ → d.State
  board_started n = after_cycles n 10 (λ o. d.cycle (f R2) (y + o)) (after_cycles 10 0 (λ o. d.cycle m.p2 (y + o)) board)

  -- the clock wire at the looks before the first fall: before the start bit is put, and 2 cycles before the fall
  abbrev pub clock_first : Bool
  clock_first = (d.pins m.p1 m.p2 (y + 8) (after_cycles 8 0 (λ o. d.cycle m.p2 (y + o)) board)).t0

  abbrev pub clock_second : Bool
  clock_second = (d.pins m.p1 (f R2) (y + 26) (board_started 16)).t0

  abbrev pub Readied : Stage d.State → Type 0
  Readied e =
      (e.cpu ≡ scratched lit_low S_CELL (memory readied ring) e.cpu) × (e.cpu.c ≡ parity_of (f R4)) × (e.off ≡ 28)
      × (e.board ≡ board_started 18)

  abbrev ByBit : Stage d.State → Type 0
  ByBit e =
      (e.cpu ≡ scratched lit_low S_CELL (memory readied ring) e.cpu) ×
      (e.cpu.c ≡ bit 0 (255 * digit (parity_of (f R4))))
      × (e.off ≡ 28) × (e.board ≡ board_started 18)

  -- 28 cycles in which the parity is made; data falls in the tenth, and the clock is high at both looks
  pub readies : IsFree m → f R4 < 256 → (f R5 == 0) ≡ false → clock_first ≡ true → clock_second ≡ true
      → Leads d (kernel_in true bytes) y (begin_at d SEND f ring m board) Readied
  readies free small some high high' =
      weaken d (kernel_in true bytes) (has_rows true bytes has) y ByBit Readied (begin_at d SEND f ring m board)
      (λ e h. (h.0, h.1 ∙ lowest (parity_of (f R4)), h.2, h.3))
      (sound d (kernel_in true bytes) (has_rows true bytes has) y
      (Go false ∷ Go false ∷ Run 12 ∷ Acc (255 * digit (parity_of (f R4))) ∷ Go false ∷ [])
      ByBit
      (begin_at d SEND f ring m board)
      (some, (ap not high, (parity_is (f R4) small, (ap not high', (refl, refl, refl, refl))))) free)

  -- the clock is low at the first of them: nothing was pulled
  pub cut_first : IsFree m → (f R5 == 0) ≡ false → clock_first ≡ false
      → Leads d (kernel_in true bytes) y (begin_at d SEND f ring m board)
      (At d (record m { p2 = bit_or m.p2 3 }) SCAN (put (put f R1 (f R2)) R3 10) ring 14
      (after_cycles 4 10 (λ o. d.cycle (bit_or m.p2 3) (y + o)) (after_cycles 10 0 (λ o. d.cycle m.p2 (y + o)) board)))
  cut_first free some low =
      straight d (kernel_in true bytes) (has_rows true bytes has)
      (Go false ∷ Go true ∷ Until SCAN ∷ []) y m SEND SCAN 14 f (put (put f R1 (f R2)) R3 10) ring
      (record m { p2 = bit_or m.p2 3 }) board
      (after_cycles 4 10 (λ o. d.cycle (bit_or m.p2 3) (y + o)) (after_cycles 10 0 (λ o. d.cycle m.p2 (y + o)) board))
      free (some, (ap not low, (refl, refl, refl)))

  -- or at the second: data is let go, and the clock hasn't fallen
  pub cut_second : IsFree m → f R4 < 256 → (f R5 == 0) ≡ false → clock_first ≡ true → clock_second ≡ false
      → Leads d (kernel_in true bytes) y (begin_at d SEND f ring m board)
      (At d (record m { p2 = bit_or (f R2) 3 }) SCAN readied ring 32
      (after_cycles 4 28 (λ o. d.cycle (bit_or (f R2) 3) (y + o)) (board_started 18)))
  cut_second free small some high low =
      straight d (kernel_in true bytes) (has_rows true bytes has)
      (Go false ∷ Go false ∷ Run 12 ∷ Acc (255 * digit (parity_of (f R4))) ∷ Go true
      ∷ Until SCAN ∷ []) y m SEND SCAN 32 f readied ring
      (record m { p2 = bit_or (f R2) 3 }) board
      (after_cycles 4 28 (λ o. d.cycle (bit_or (f R2) 3) (y + o)) (board_started 18))
      free (some, (ap not high, (parity_is (f R4) small, (ap not low, (refl, refl, refl)))))

  -- the eleventh fall: 16 cycles with the clock low, and 4 more
  abbrev pub board_stopped : d.State
  board_stopped =
      after_cycles 4 16 (λ o. d.cycle (bit_or (bit_and m.p2 254) 1) (y + o))
      (after_cycles 16 0 (λ o. d.cycle (bit_and m.p2 254) (y + o)) board)

  -- the eleventh fall of a sent frame holds the clock low for 16 cycles, and then the frame is sent
  pub stops : IsFree m
      → Leads d (kernel_in true bytes) y (begin_at d S_STOP f ring m board)
      (At d (record m { p2 = bit_or (bit_and m.p2 254) 1 }) SENT (put f R0 0) ring 20 board_stopped)
  stops free =
      straight d (kernel_in true bytes) (has_rows true bytes has) (Until SENT ∷ []) y m S_STOP SENT 20 f
      (put f R0 0) ring
      (record m { p2 = bit_or (bit_and m.p2 254) 1 }) board board_stopped free (refl, refl, refl)
