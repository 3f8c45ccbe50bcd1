-- One cell of a sent frame, 32 cycles, with the number of cells left as a number; and the same cut at either look.
use Rattle.std.proofs.Common.{◌≡◌, ◌<◌, ℕ, suc, ◌+◌, ◌*◌, ◌/◌, ◌%◌, List, [], ◌∷◌, Bool, true, false, not, ◌==◌}
use Rattle.std.proofs.Common.{if◌then◌else◌}
use Rattle.std.proofs.Common.{bit_and, bit_or, refl, ap, ◌∙◌, arith}
use Rattle.mcs48_core.specs.Cpu.{Cpu}
use Rattle.bits.specs.Bits.{bit}
use Rattle.mcs48_core.specs.Status.{digit}
use Rattle.fw_kernel.specs.declared.cells.TheConstants.{R1, R2, R3, R6}
use Rattle.fw_kernel.specs.Places.{HasKernel}
use Rattle.fw_kernel.specs.declared.labels.TheConstants.{S_CELL, S_STOP, SCAN}
use Rattle.law_fw_logic.proofs.Block.{memory, put, scratched, begin_at, At}
use Rattle.law_fw_logic.proofs.Blocks.{straight}
use Rattle.law_fw_logic.proofs.TimerParts.{IsFree}
use Rattle.law_fw_logic.proofs.Kernel.{kernel_in}
use Rattle.law_fw_logic.proofs.Leads.{Leads}
use Rattle.law_fw_logic.proofs.Path.{Stage, Until, Go, Acc, Ram, Run, Count}
use Rattle.law_fw_logic.proofs.Short.{has_rows}
use Rattle.law_fw_logic.proofs.Sound.{sound}
use Rattle.joint_run.specs.Run.{Board, after_cycles}

-- R1, R3 and R6 after a cell: R1 is the latch that was put, R6 is turned through the carry
abbrev pub turned : (ℕ → ℕ) → Bool → ℕ → ℕ → ℕ → ℕ
turned f c v n = put (put (put f R6 (128 * digit c + f R6 / 2)) R1 v) R3 n

-- the next bit at the data wire's place
next_bit : (b c : Bool) (r2 v : ℕ) → c ≡ b → bit_or (2 * digit b) r2 ≡ v
    → bit_or ((2 * ((0 + digit c) % 256) + digit (bit 7 ((0 + digit c) % 256))) % 256) r2 ≡ v
next_bit true true r2 v e h = h
next_bit false false r2 v e h = h
next_bit true false r2 v e h = absurd cc
next_bit false true r2 v e h = absurd cc

-- the latch with the clock low, and with the clock high again
abbrev pub fallen : Cpu → ℕ
fallen m = bit_and m.p2 254

abbrev pub risen : Cpu → ℕ
risen m = bit_or (bit_and m.p2 254) 1

-- the board at a cell's look, 18 cycles into it, where the clock rises with this latch
abbrev pub board_at_look : (d : Board) → ℕ → ℕ → Cpu → d.State → d.State
board_at_look d y w m board = after_cycles 2 16 (λ o. d.cycle w (y + o))
    (after_cycles 16 0 (λ o. d.cycle (fallen m) (y + o)) board)

-- the number of cells left goes down by one, and is tested
pub one_less : (c n : ℕ) → c ≡ suc n → n < 255 → (c + 255) % 256 ≡ n
one_less c n count few = omega (arith, count, few)

-- the count of cells, less one, isn't zero exactly if a cell is left
pub asks : (c n : ℕ) → (c + 255) % 256 ≡ n → (more : Bool) → not (n == 0) ≡ more → not ((c + 255) % 256 == 0) ≡ more
asks c n less more left = ap (λ k. not (k == 0)) less ∙ left

module _ (d : Board) (bytes : List ℕ) (has : HasKernel bytes) (y : ℕ) (m : Cpu) (board : d.State) (f : ℕ → ℕ)
    (ring : List ℕ) where
  -- the board so many cycles after the rise, for which R1 is the latch; and at the cell's end
  abbrev pub board_risen : ℕ → d.State
  board_risen n = after_cycles n 16 (λ o. d.cycle (f R1) (y + o)) (after_cycles 16 0 (λ o. d.cycle (fallen m) (y + o)) board)

  abbrev pub board_after : ℕ → d.State
  board_after v = after_cycles 11 21 (λ o. d.cycle v (y + o)) (board_risen 5)

  -- the clock wire at the cell's looks, 18 and 28 cycles into it; at the second the latch is that with the next bit
  abbrev pub clock_seen : Bool
  clock_seen = (d.pins m.p1 (f R1) (y + 18) (board_at_look d y (f R1) m board)).t0

  abbrev pub clock_again : ℕ → Bool
  clock_again v = (d.pins m.p1 v (y + 28) (after_cycles 7 21 (λ o. d.cycle v (y + o)) (board_risen 5))).t0

  abbrev pub Celled : ℕ → ℕ → ℕ → Stage d.State → Type 0
  Celled v n place e =
      (e.cpu ≡ scratched (record m { p2 = v }) place (memory (turned f m.c v n) ring) e.cpu) × (e.cpu.c ≡ true)
      × (e.off ≡ 32) × (e.board ≡ board_after v)

  -- where the clock is low at a look both wires are released: 24 or 34 cycles in all
  abbrev pub board_cut : d.State
  board_cut = after_cycles 4 20 (λ o. d.cycle (bit_or (f R1) 3) (y + o)) (board_risen 4)

  abbrev pub board_cut_again : ℕ → d.State
  board_cut_again v =
      after_cycles 4 30 (λ o. d.cycle (bit_or v 3) (y + o)) (after_cycles 9 21 (λ o. d.cycle v (y + o)) (board_risen 5))

  abbrev pub half_turned : ℕ → ℕ → ℕ
  half_turned v = put (put f R6 (128 * digit m.c + f R6 / 2)) R1 v

  -- if the clock is low at a cell's first look, the kernel lets both wires go and leaves the frame
  pub cut : (b : Bool) (v : ℕ) → IsFree m → bit 0 (f R6) ≡ b → bit_or (2 * digit b) (f R2) ≡ v → clock_seen ≡ false
      → Leads d (kernel_in true bytes) y (begin_at d S_CELL f ring m board)
      (At d (record m { p2 = bit_or (f R1) 3 }) SCAN (half_turned v) ring 24 board_cut)
  cut b v free low value clock_low =
      straight d (kernel_in true bytes) (has_rows true bytes has)
      (Run 8 ∷ Acc v ∷ Go true ∷ Until SCAN ∷ []) y m S_CELL SCAN 24 f (half_turned v)
      ring (record m { p2 = bit_or (f R1) 3 }) board board_cut free
      (next_bit b (bit 0 (f R6)) (f R2) v low value, (ap not clock_low, (refl, refl, refl)))

  -- the cells left, and what they are once R3 is counted down
  cells_left : (v n : ℕ) → f R3 ≡ suc n → n < 255
      → memory (turned f m.c v ((f R3 + 255) % 256)) ring ≡ memory (turned f m.c v n) ring
  cells_left v n count few = ap (λ k. memory (turned f m.c v k) ring) (one_less (f R3) n count few)

  -- at the second look, which the tenth cell hasn't
  pub cut_again : (b : Bool) (v n : ℕ) → IsFree m → f R3 ≡ suc n → n < 255 → not (n == 0) ≡ true → bit 0 (f R6) ≡ b
      → bit_or (2 * digit b) (f R2) ≡ v → clock_seen ≡ true → clock_again v ≡ false
      → Leads d (kernel_in true bytes) y (begin_at d S_CELL f ring m board)
      (At d (record m { p2 = bit_or v 3 }) SCAN (turned f m.c v n) ring 34 (board_cut_again v))
  cut_again b v n free count few more low value high clock_low =
      straight d (kernel_in true bytes) (has_rows true bytes has)
      (Run 8 ∷ Acc v ∷ Go false ∷ Run 5 ∷ Count true ∷ Ram (memory (turned f m.c v n) ring) ∷ Go true
      ∷ Until SCAN ∷ []) y m S_CELL SCAN 34 f (turned f m.c v n)
      ring (record m { p2 = bit_or v 3 }) board (board_cut_again v) free (
        next_bit b (bit 0 (f R6)) (f R2) v low value,
        (
          ap not high,
          (
            asks (f R3) n (one_less (f R3) n count few) true more,
            (cells_left v n count few, (ap not clock_low, (refl, refl, refl))),
          ),
        ),
      )

  -- with the clock high at a cell's looks the kernel goes on to the next cell, or after the last one to the stop bit
  pub cell : (b : Bool) (v n : ℕ) → IsFree m → f R3 ≡ suc n → n < 255 → bit 0 (f R6) ≡ b
      → bit_or (2 * digit b) (f R2) ≡ v → clock_seen ≡ true → (more : Bool) → not (n == 0) ≡ more
      → (more ≡ true → clock_again v ≡ true)
      → Leads d (kernel_in true bytes) y (begin_at d S_CELL f ring m board)
      (Celled v n (if more then S_CELL else S_STOP))
  cell b v n free count few low value high more left high' = go more left high'
    where
      less : (f R3 + 255) % 256 ≡ n
      less = one_less (f R3) n count few

      go : (more : Bool) → not (n == 0) ≡ more → (more ≡ true → clock_again v ≡ true)
          → Leads d (kernel_in true bytes) y (begin_at d S_CELL f ring m board)
          (Celled v n (if more then S_CELL else S_STOP))
      go true left high' =
          sound d (kernel_in true bytes) (has_rows true bytes has) y
          (Run 8 ∷ Acc v ∷ Go false ∷ Run 5 ∷ Count true ∷ Ram (memory (turned f m.c v n) ring) ∷ Go false ∷ Until S_CELL ∷ [])
          (Celled v n S_CELL) (begin_at d S_CELL f ring m board) (
            next_bit b (bit 0 (f R6)) (f R2) v low value,
            (
              ap not high,
              (
                asks (f R3) n less true left,
                (cells_left v n count few, (ap not (high' refl), (refl, refl, refl, refl))),
              ),
            ),
          ) free
      go false left high' =
          sound d (kernel_in true bytes) (has_rows true bytes has) y
          (Run 8 ∷ Acc v ∷ Go false ∷ Run 5 ∷ Count false ∷ Ram (memory (turned f m.c v n) ring) ∷ Until S_STOP ∷ [])
          (Celled v n S_STOP) (begin_at d S_CELL f ring m board) (
            next_bit b (bit 0 (f R6)) (f R2) v low value,
            (ap not high, (asks (f R3) n less false left, (cells_left v n count few, (refl, refl, refl, refl)))),
          ) free
