-- The cells of a received frame, one by one: a data bit, the parity bit, the stop bit, and the fall that ends it.
use Rattle.std.proofs.Common.{arith, ◌≡◌, ◌<◌, ℕ, suc, ◌+◌, ◌-◌, ◌*◌, ◌/◌, ◌%◌, List, [], ◌∷◌, Bool, true, false, not}
use Rattle.std.proofs.Common.{◌==◌, if◌then◌else◌}
use Rattle.std.proofs.Common.{bit_and, bit_or, refl, ap}
use Rattle.mcs48_core.specs.Cpu.{Cpu}
use Rattle.mcs48_core.specs.Status.{digit}
use Rattle.board_terms.specs.Frame.{parity_of}
use Rattle.fw_kernel.specs.declared.cells.TheConstants.{R0, R1, R3, R4, R5}
use Rattle.fw_kernel.specs.Places.{HasKernel}
use Rattle.fw_kernel.specs.declared.labels.TheConstants.{GOT, R_CELL, R_PARITY, R_STOP, R_ACK, COMMAND, SCAN, R_BIT}
use Rattle.fw_kernel.specs.declared.labels.TheConstants.{R_HIGH, P_BIT, T_ON}
use Rattle.law_fw_logic.proofs.Block.{memory, put, scratched, begin_at, At}
use Rattle.law_fw_logic.proofs.Blocks.{straight}
use Rattle.bits.proofs.Every.{by_byte}
use Rattle.law_fw_logic.proofs.TimerParts.{IsFree}
use Rattle.law_fw_logic.proofs.Kernel.{kernel_in}
use Rattle.law_fw_logic.proofs.Leads.{Leads}
use Rattle.law_fw_logic.proofs.Path.{Stage, Until, Go, Acc, Ram, Fork, Run, Count}
use Rattle.law_fw_logic.proofs.Short.{has_rows}
use Rattle.law_fw_logic.proofs.Sound.{sound}
use Rattle.law_fw_link.proofs.Cell.{fallen, risen, board_at_look, one_less, asks}
use Rattle.law_fw_link.proofs.Ends.{in_quarters, in_eighths}
use Rattle.joint_run.specs.Run.{Board, after_cycles}

-- both ways of a look at data meet, with this in A
abbrev looked : ℕ → (ℕ → Bool → ℕ) → Cpu → Bool → Cpu → Cpu
looked place acc m b e =
    record m { pc = place; a = acc m.a b; t = e.t; pre = e.pre; tf = e.tf; rq = e.rq; last_t1 = e.last_t1 }

-- a bit comes in at the top
turned_down : (a : ℕ) → 128 * digit false + a / 2 ≡ a / 2
turned_down a = omega arith

bit_in : (a : ℕ) (b : Bool) → a < 256 → (if b then bit_or (a / 2) 128 else a / 2) ≡ a / 2 + 128 * digit b
bit_in a true l = by_byte (λ a. bit_or (a / 2) 128) (λ a. a / 2 + 128) refl a l
bit_in a false l = by_byte (λ a. a / 2) (λ a. a / 2 + 0) refl a l

odd_is : (a : ℕ) → a < 256 → in_eighths a ≡ 255 * digit (not (parity_of a))
odd_is = by_byte in_eighths (λ a. 255 * digit (not (parity_of a))) refl

-- whether a parity bit is that of the byte
abbrev pub is_parity : Bool → ℕ → Bool
is_parity b byte = if b then parity_of byte else not (parity_of byte)

weighed : (b p : Bool)
    → (if b then 255 - 255 * digit (not p) else 255 * digit (not p)) ≡ 255 * digit (if b then p else not p)
weighed true true = refl
weighed true false = refl
weighed false true = refl
weighed false false = refl

module _ (d : Board) (bytes : List ℕ) (has : HasKernel bytes) (y : ℕ) (m : Cpu) (board : d.State) (f : ℕ → ℕ)
    (ring : List ℕ) where
  abbrev pub board_after_bit : d.State
  board_after_bit = after_cycles 16 16 (λ o. d.cycle (risen m) (y + o)) (after_cycles 16 0 (λ o. d.cycle (fallen m) (y + o)) board)

  -- the data wire at the cell's look
  abbrev pub bit_seen : Bool
  bit_seen = (d.pins m.p1 (risen m) (y + 18) (board_at_look d y (risen m) m board)).t1

  -- the data wire two cycles before the first cell
  abbrev pub seen_again : Bool
  seen_again = (d.pins m.p1 m.p2 (y + 26) (after_cycles 26 0 (λ o. d.cycle m.p2 (y + o)) board)).t1

  -- from the looks to the first cell, where data is still low: 28 cycles
  abbrev pub Awaits : Stage d.State → Type 0
  Awaits e =
      (e.cpu ≡ scratched m R_CELL (memory (put (put f R3 8) R0 0) ring) e.cpu) × (e.cpu.a ≡ m.a) × (e.off ≡ 28)
      × (e.board ≡ after_cycles 28 0 (λ o. d.cycle m.p2 (y + o)) board)

  -- if data is still low before the first cell, the kernel waits for the first bit
  pub awaits : IsFree m → seen_again ≡ false → Leads d (kernel_in true bytes) y (begin_at d GOT f ring m board) Awaits
  awaits free low =
      sound d (kernel_in true bytes) (has_rows true bytes has) y (Go false ∷ []) Awaits
      (begin_at d GOT f ring m board)
      (low, (refl, refl, refl, refl)) free

  -- where it is high there was no request: 30 cycles
  pub drops : IsFree m → seen_again ≡ true
      → Leads d (kernel_in true bytes) y (begin_at d GOT f ring m board)
      (At d m SCAN (put (put f R3 8) R0 0) ring 30 (after_cycles 30 0 (λ o. d.cycle m.p2 (y + o)) board))
  drops free high =
      straight d (kernel_in true bytes) (has_rows true bytes has) (Go true ∷ Until SCAN ∷ []) y m GOT SCAN 30 f
      (put (put f R3 8) R0 0) ring m board (after_cycles 30 0 (λ o. d.cycle m.p2 (y + o)) board) free
      (high, (refl, refl, refl))

  -- a data bit
  abbrev pub TakesBit : ℕ → ℕ → Stage d.State → Type 0
  TakesBit n place e =
      (e.cpu ≡ scratched (record m { p2 = (risen m) }) place (memory (put (put f R0 0) R3 n) ring) e.cpu)
      × (e.cpu.a ≡ m.a / 2 + 128 * digit bit_seen) × (e.off ≡ 32) × (e.board ≡ board_after_bit)

  -- in a cell of a data bit the kernel reads the bit into A, and goes on with the next one, or with the parity
  pub takes_bit : (n : ℕ) → IsFree m → m.a < 256 → f R3 ≡ suc n → n < 255 → (more : Bool) → not (n == 0) ≡ more
      → Leads d (kernel_in true bytes) y (begin_at d R_CELL f ring m board)
      (TakesBit n (if more then R_CELL else R_PARITY))
  takes_bit n free small count few more left = go more left
    where
      less : (f R3 + 255) % 256 ≡ n
      less = one_less (f R3) n count few

      cells : memory (put (put f R0 0) R3 ((f R3 + 255) % 256)) ring ≡ memory (put (put f R0 0) R3 n) ring
      cells = ap (λ k. memory (put (put f R0 0) R3 k) ring) less

      go : (more : Bool) → not (n == 0) ≡ more
          → Leads d (kernel_in true bytes) y (begin_at d R_CELL f ring m board)
          (TakesBit n (if more then R_CELL else R_PARITY))
      go true left =
          sound d (kernel_in true bytes) (has_rows true bytes has) y
          (Run 3 ∷ Acc (m.a / 2) ∷ Fork R_BIT (looked R_BIT (λ a b. if b then bit_or a 128 else a))
          ∷ Acc (m.a / 2 + 128 * digit bit_seen) ∷ Until (R_HIGH + 2) ∷ Count true
          ∷ Ram (memory (put (put f R0 0) R3 n) ring) ∷ [])
          (TakesBit n R_CELL) (begin_at d R_CELL f ring m board) (
            turned_down m.a,
            (
              refl,
              (
                refl,
                refl,
                refl,
                λ e. (bit_in m.a bit_seen small, (asks (f R3) n less true left, (cells, (refl, refl, refl, refl)))),
              ),
            ),
          ) free
      go false left =
          sound d (kernel_in true bytes) (has_rows true bytes has) y
          (Run 3 ∷ Acc (m.a / 2) ∷ Fork R_BIT (looked R_BIT (λ a b. if b then bit_or a 128 else a))
          ∷ Acc (m.a / 2 + 128 * digit bit_seen) ∷ Until (R_HIGH + 2) ∷ Count false
          ∷ Ram (memory (put (put f R0 0) R3 n) ring) ∷ [])
          (TakesBit n R_PARITY) (begin_at d R_CELL f ring m board) (
            turned_down m.a,
            (
              refl,
              (
                refl,
                refl,
                refl,
                λ e. (bit_in m.a bit_seen small, (asks (f R3) n less false left, (cells, (refl, refl, refl, refl)))),
              ),
            ),
          ) free

  -- the parity bit: R4 is the byte, R5 is 255 where the bit is right and else 0
  abbrev pub with_parity : ℕ → ℕ
  with_parity = put (put (put (put f R4 m.a) R1 (in_quarters m.a)) R0 0) R5 (255 * digit (is_parity bit_seen m.a))

  -- in the parity's cell the kernel keeps the byte, and whether its parity was right
  pub takes_parity : IsFree m → m.a < 256
      → Leads d (kernel_in true bytes) y (begin_at d R_PARITY f ring m board)
      (At d (record m { p2 = (risen m) }) R_STOP with_parity ring 32 board_after_bit)
  takes_parity free small =
      straight d (kernel_in true bytes) (has_rows true bytes has)
      (Run 11 ∷ Acc (255 * digit (not (parity_of m.a))) ∷ Fork P_BIT (looked P_BIT (λ a b. if b then 255 - a else a))
      ∷ Acc (255 * digit (is_parity bit_seen m.a)) ∷ Until R_STOP ∷ [])
      y m R_PARITY R_STOP 32 f with_parity ring (record m { p2 = (risen m) }) board board_after_bit free
      (odd_is m.a small, (refl, (refl, refl, refl, λ e. (weighed bit_seen (parity_of m.a), (refl, refl, refl)))))

  -- the stop bit: read, without an effect; then data falls
  abbrev pub board_pulled : d.State
  board_pulled =
      after_cycles 12 20 (λ o. d.cycle (bit_and (risen m) 253) (y + o))
      (after_cycles 4 16 (λ o. d.cycle (risen m) (y + o)) (after_cycles 16 0 (λ o. d.cycle (fallen m) (y + o)) board))

  -- in the stop bit's cell the kernel reads it without an effect, and then pulls data
  pub takes_stop : IsFree m
      → Leads d (kernel_in true bytes) y (begin_at d R_STOP f ring m board)
      (At d (record m { p2 = bit_and (risen m) 253 }) R_ACK (put f R0 0) ring 32 board_pulled)
  takes_stop free =
      straight d (kernel_in true bytes) (has_rows true bytes has)
      (Fork T_ON (looked T_ON (λ a b. a)) ∷ Until R_ACK ∷ [])
      y m R_STOP R_ACK 32 f (put f R0 0) ring (record m { p2 = bit_and (risen m) 253 }) board board_pulled free
      (refl, (refl, refl, refl, λ e. (refl, refl, refl)))

  -- the eleventh fall: the clock is low for 16 cycles, and then both wires are let go
  abbrev pub board_acked : d.State
  board_acked =
      after_cycles 2 16 (λ o. d.cycle (bit_or (fallen m) 3) (y + o))
      (after_cycles 16 0 (λ o. d.cycle (fallen m) (y + o)) board)

  -- with the eleventh fall the kernel holds the clock low for 16 cycles and then lets both wires go
  pub acks : IsFree m
      → Leads d (kernel_in true bytes) y (begin_at d R_ACK f ring m board)
      (At d (record m { p2 = bit_or (fallen m) 3 }) COMMAND (put f R0 0) ring 18 board_acked)
  acks free =
      straight d (kernel_in true bytes) (has_rows true bytes has) (Until COMMAND ∷ []) y m R_ACK COMMAND 18 f
      (put f R0 0) ring
      (record m { p2 = bit_or (fallen m) 3 }) board board_acked free (refl, refl, refl)
