-- What the joint run of a layout's image executes, and when it looks at the clock on a chip.
use Rattle.std.specs.Prelude.{◌≡◌, ℕ, true, List, Some}
use Rattle.board_terms.specs.declared.event.Edge.{Edge}
use Rattle.board_terms.specs.declared.event.HostEvent.{HostEvent}
use Rattle.fw_compile.specs.Image.{image_of}
use Rattle.law_fw_logic.specs.Executed.{IsFit, LooksLate, LooksSoon, looks}
use Rattle.joint_run.specs.Joint.{Beside, joint_board}
use Rattle.joint_run.specs.Run.{World, joint_step, run_at}
use Rattle.layout_reader.specs.Layouts.{KeyLayout, IsKeyLayout}
use Rattle.mcs48_core.specs.Cpu.{Cpu}
use Rattle.mcs48_ranges.specs.Sizes.{IsFine}
use Rattle.law_agreement.specs.Agreement.{switched_on}

-- for every layout, under all edges and events, whatever a part holds when it is switched on: in each state of the run the
-- instruction that comes next is in a row of the HEX text and one of the kernel's kinds
abbrev pub ExecutedLaw : Type 0
ExecutedLaw =
    (layout : KeyLayout) (edges : List Edge) (events : List HostEvent) → IsKeyLayout layout → (m : Cpu) → IsFine m
    → (k : ℕ) (w : World Beside)
    → run_at (joint_board edges events) (image_of layout) (switched_on edges events m) k
    ≡ Some w
    → IsFit (image_of layout) w.cpu

-- and a look at the clock wire that is next after a row that puts port 2 samples at least 7 fifths of a cycle after a chip
-- has put it
abbrev pub LateLaw : Type 0
LateLaw =
    (layout : KeyLayout) (edges : List Edge) (events : List HostEvent) → IsKeyLayout layout → (m : Cpu) → IsFine m
    → (k : ℕ) (w next : World Beside)
    → run_at (joint_board edges events) (image_of layout) (switched_on edges events m) k
    ≡ Some w
    → joint_step (joint_board edges events) (image_of layout) w ≡ Some next
    → LooksLate (image_of layout) w.cpu next.cpu

-- and after a look at the clock wire the next comes within 24 cycles, 60 microseconds, while a byte is being sent, up to the
-- look after the tenth rise of the clock
abbrev pub SoonLaw : Type 0
SoonLaw =
    (layout : KeyLayout) (edges : List Edge) (events : List HostEvent) → IsKeyLayout layout → (m : Cpu) → IsFine m
    → (k : ℕ) (w : World Beside)
    → run_at (joint_board edges events) (image_of layout) (switched_on edges events m) k
    ≡ Some w
    → looks (image_of layout) w.cpu ≡ true
    → LooksSoon (joint_board edges events) (image_of layout) w
