-- The laws of the run whatever the keys and the PC do: it never stops, and each state keeps to the board.
use Rattle.std.proofs.Common.{List}
use Rattle.board_terms.specs.declared.event.Edge.{Edge}
use Rattle.board_terms.specs.declared.event.HostEvent.{HostEvent}
use Rattle.fw_compile.specs.Image.{image_of}
use Rattle.law_fw_logic.proofs.Executing.{every_fit, every_late, every_soon}
use Rattle.law_fw_logic.proofs.Waking.{Wakes, wakes}
use Rattle.joint_run.specs.Joint.{beside_at_start, joint_board}
use Rattle.layout_reader.specs.Layouts.{KeyLayout}
use Rattle.mcs48_core.specs.Cpu.{Cpu}
use Rattle.mcs48_ranges.specs.Sizes.{IsFine}
use Rattle.law_agreement.proofs.AnyKeys.{never_stops, comes_first, each_passes}
use Rattle.law_agreement.proofs.Compiled.{has_kernel}
use Rattle.law_agreement.specs.Agreement.{switched_on}
use Rattle.law_agreement.specs.AnyKeys.{AnyKeysLaw}
use Rattle.law_agreement.specs.Executed.{ExecutedLaw, LateLaw, SoonLaw}

-- under any edges and events the run of a layout's image never stops, and its ticks come in their bounds
pub any_keys : AnyKeysLaw
any_keys layout edges events fine m small = never_stops layout edges events fine m small

-- how the run wakes
wake : (layout : KeyLayout) (edges : List Edge) (events : List HostEvent) (m : Cpu) → IsFine m
    → Wakes (joint_board edges events) (image_of layout) (has_kernel layout) (switched_on edges events m)
wake layout edges events m small =
    wakes (joint_board edges events) (image_of layout) (has_kernel layout) m small.long beside_at_start

-- each state of the run is fit
pub every_execution : ExecutedLaw
every_execution layout edges events fine m small =
    every_fit (joint_board edges events) (image_of layout) (has_kernel layout) (switched_on edges events m)
    (wake layout edges events m small) (comes_first layout edges events fine m small)
    (each_passes layout edges events fine m small)

-- and looks late
pub every_look : LateLaw
every_look layout edges events fine m small =
    every_late (joint_board edges events) (image_of layout) (has_kernel layout) (switched_on edges events m)
    (wake layout edges events m small) (comes_first layout edges events fine m small)
    (each_passes layout edges events fine m small)

-- and again soon
pub every_next_look : SoonLaw
every_next_look layout edges events fine m small =
    every_soon (joint_board edges events) (image_of layout) (has_kernel layout) (switched_on edges events m)
    (wake layout edges events m small) (comes_first layout edges events fine m small)
    (each_passes layout edges events fine m small)
