-- Frames as the joint run has them: place, time, what is kept, and the PC's side by the cycles at its wires.
use Rattle.std.specs.Prelude.{◌≡◌, ◌≤◌, ◌<◌, ℕ, ◌+◌, ◌-◌, Bool, true, false, ◌||◌, ◌==◌, List, slice_index, bit_and, Some}
use Rattle.board_terms.specs.declared.event.Edge.{Edge}
use Rattle.board_terms.specs.declared.event.HostEvent.{HostEvent}
use Rattle.board_terms.specs.declared.lines.Lines.{Lines}
use Rattle.ctl_link.specs.Pulls.{pulled}
use Rattle.ctl_link.specs.declared.link.Link.TheVariants.{Request}
use Rattle.ctl_wire.specs.Wire.{drive}
use Rattle.fw_kernel.specs.declared.cells.TheConstants.{R0, R1, R2, R3, R4, R5, R6}
use Rattle.fw_kernel.specs.Places.{HasKernel}
use Rattle.fw_kernel.specs.declared.labels.TheConstants.{TICK, SEND, SENT, SCAN, GOT, COMMAND}
use Rattle.law_fw_logic.specs.Blocks.{IsAt}
use Rattle.joint_run.specs.Joint.{Beside, latch_of, lights_of, joint_board}
use Rattle.joint_run.specs.Run.{World}
use Rattle.law_fw_link.specs.Drives.{Drives}
use Rattle.bits.specs.Bits.{bit}
use Rattle.ctl_wire.specs.Wires.{Pc}
use Rattle.law_wires_agree.specs.Cycles.{board_cycles}
use Rattle.law_fw_link.specs.Latch.{IsLook, sent_latch, cut_latch, cut_after, received_latch}

-- R0 to R3 and R6 are written if a byte is sent
abbrev pub is_sending : ℕ → Bool
is_sending i = (i == R0) || (i == R1) || (i == R2) || (i == R3) || (i == R6)

-- R0, R1, R3, R4 and R5 if one is received
abbrev pub is_receiving : ℕ → Bool
is_receiving i = (i == R0) || (i == R1) || (i == R3) || (i == R4) || (i == R5)

-- a frame has passed: both latches and F1 are as before, and so is memory but for these registers
pub record Passed
    (events : List HostEvent) (lines : ℕ → Lines) (written : ℕ → Bool) (place cycles : ℕ) (w e : World Beside)
    : Type 0 where
  pub to : IsAt place e.cpu
  pub cycle : e.cycle ≡ w.cycle + cycles
  pub pc : e.board.pc ≡ board_cycles events lines cycles w.cycle w.board.pc
  pub shown : e.board.shown ≡ w.board.shown
  pub p1 : e.cpu.p1 ≡ w.cpu.p1
  pub p2 : e.cpu.p2 ≡ w.cpu.p2
  pub f1 : e.cpu.f1 ≡ w.cpu.f1
  pub others : (i : ℕ) → written i ≡ false → slice_index e.cpu.ram i ≡ slice_index w.cpu.ram i

-- a byte is ready to be sent, after the look at data of the tick that starts at `start`; the latch leaves both wires
-- alone and shows its lights. R4 and R6 are the byte, R2 is the latch with data low
pub record Offers (start byte : ℕ) (w : World Beside) : Type 0 where
  pub at : IsAt SEND w.cpu
  pub cycle : w.cycle ≡ 260 + start
  pub latch : w.cpu.p2 < 256
  pub clock : bit 0 w.cpu.p2 ≡ true
  pub data_wire : bit 1 w.cpu.p2 ≡ true
  pub shown : lights_of w.cpu.p2 ≡ w.board.shown
  pub small : byte < 256
  pub offered : slice_index w.cpu.ram R4 ≡ byte
  pub ready : slice_index w.cpu.ram R6 ≡ byte
  pub data_low : slice_index w.cpu.ram R2 ≡ bit_and w.cpu.p2 253
  pub some : (slice_index w.cpu.ram R5 == 0) ≡ false

-- what is on the PC's side at the first edge, 28 cycles after
abbrev pub at_edge : List HostEvent → (ℕ → Lines) → World Beside → Pc
at_edge events lines w = board_cycles events lines 28 w.cycle w.board.pc

-- and at the second look at data, two cycles before it
abbrev pub at_again : List HostEvent → (ℕ → Lines) → World Beside → Pc
at_again events lines w = board_cycles events lines 26 w.cycle w.board.pc

-- whether the controller leaves the clock alone at a look at it
abbrev pub is_let : List HostEvent → (ℕ → Lines) → World Beside → ℕ → Bool
is_let events lines w look = (drive (board_cycles events lines look w.cycle w.board.pc).side.port.link).clk

-- if the controller leaves the clock alone at each look, the frame is sent whole, in 368 cycles
abbrev pub SendsFrames : List ℕ → Type 0
SendsFrames bytes =
    (edges : List Edge) (events : List HostEvent)
    → (start byte : ℕ) (w : World Beside)
    → Offers start byte w → (lines : ℕ → Lines)
    → ((o : ℕ) → o < 368 → lines (260 + start + o) ≡ latch_of (sent_latch w.cpu.p2 byte o))
    → ((look : ℕ) → IsLook look → is_let events lines w look ≡ true)
    → Drives (joint_board edges events) TICK bytes w (λ c. sent_latch w.cpu.p2 byte (c - w.cycle))
    (Passed events lines is_sending SENT 368 w)

-- if it pulls the clock at a look, and at none before it, the frame is cut there
abbrev pub IsCut : List ℕ → Type 0
IsCut bytes =
    (edges : List Edge) (events : List HostEvent)
    → (start byte look : ℕ) (w : World Beside)
    → Offers start byte w → IsLook look → (lines : ℕ → Lines)
    → ((o : ℕ) → o < cut_after look → lines (260 + start + o) ≡ latch_of (cut_latch w.cpu.p2 byte look o))
    → ((earlier : ℕ) → IsLook earlier → earlier < look → is_let events lines w earlier ≡ true)
    → is_let events lines w look ≡ false
    → Drives (joint_board edges events) TICK bytes w (λ c. cut_latch w.cpu.p2 byte look (c - w.cycle))
    (Passed events lines is_sending SCAN (cut_after look) w)

-- a link that is pulled at the first edge, but wasn't before offset 256, is so at the look in the first cell
abbrev pub PulledLaw : Type 0
PulledLaw =
    (events : List HostEvent) (start : ℕ) (w : World Beside) → w.cycle ≡ 260 + start → (lines : ℕ → Lines)
    → (since : ℕ) → 256 + start ≤ since → pulled (at_edge events lines w).side.port.link ≡ Some since
    → is_let events lines w 46 ≡ false

-- a byte was received: R4 is the byte, R5 says that its parity was right
pub record Received (events : List HostEvent) (lines : ℕ → Lines) (byte : ℕ) (w e : World Beside) : Type 0 where
  pub passed : Passed events lines is_receiving COMMAND 366 w e
  pub r4 : slice_index e.cpu.ram R4 ≡ byte
  pub r5 : slice_index e.cpu.ram R5 ≡ 255

-- the controller requests to send
pub record Awaits (start : ℕ) (w : World Beside) : Type 0 where
  pub at : IsAt GOT w.cpu
  pub cycle : w.cycle ≡ 260 + start
  pub acc : w.cpu.a < 256
  pub latch : w.cpu.p2 < 256
  pub clock : bit 0 w.cpu.p2 ≡ true
  pub data_wire : bit 1 w.cpu.p2 ≡ true
  pub shown : lights_of w.cpu.p2 ≡ w.board.shown

-- the controller's byte is received in 366 cycles, if it requests at the second look at data and at the first edge
abbrev pub ReceivesFrames : List ℕ → Type 0
ReceivesFrames bytes =
    (edges : List Edge) (events : List HostEvent)
    → (start byte : ℕ) (w : World Beside)
    → Awaits start w → byte < 256 → (lines : ℕ → Lines)
    → ((o : ℕ) → o < 366 → lines (260 + start + o) ≡ latch_of (received_latch w.cpu.p2 o))
    → (at_again events lines w).side.port.link ≡ Request byte
    → (at_edge events lines w).side.port.link ≡ Request byte → (at_edge events lines w).clock ≡ true
    → Drives (joint_board edges events) TICK bytes w (λ c. received_latch w.cpu.p2 (c - w.cycle))
    (Received events lines byte w)

-- so it is in every image that has the kernel's bytes outside the layout's tables
abbrev pub SentLaw : Type 0
SentLaw = (bytes : List ℕ) → HasKernel bytes → SendsFrames bytes

abbrev pub CutLaw : Type 0
CutLaw = (bytes : List ℕ) → HasKernel bytes → IsCut bytes

abbrev pub GotLaw : Type 0
GotLaw = (bytes : List ℕ) → HasKernel bytes → ReceivesFrames bytes
