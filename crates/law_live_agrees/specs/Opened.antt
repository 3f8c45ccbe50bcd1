-- A keyboard that has just been opened with a layout's image, against the model.
use Rattle.std.specs.Prelude.{◌≤◌, ◌<◌, ℕ, List, [], ◌∷◌}
use Rattle.board_terms.specs.declared.event.HostAct.TheVariants.{Mask}
use Rattle.fw_compile.specs.Image.{image_of}
use Rattle.joint_run.specs.Filled.{filled}
use Rattle.joint_run.specs.Joint.{log_of}
use Rattle.key_file.specs.Accepted.{IsLawfulFor}
use Rattle.layout_reader.specs.Layouts.{IsKeyLayout, KeyLayout}
use Rattle.law_live_agrees.specs.Law.{BeginsExpected, history_of}
use Rattle.live_board.specs.Pasts.{Past}
use Rattle.live_board.specs.Ready.{IsOpened, IsReady}
use Rattle.live_board.specs.States.{HasPast}
use Rattle.live_board.specs.declared.parts.Parts.{Parts as Keyboard}
use Rattle.mcs48_ranges.specs.Sizes.{IsFine}

-- from memory of this byte the program has made so many steps; no key has moved, and all that the host did was to mask
-- INT 09h at this stamp
abbrev pub masked_at : ℕ → List ℕ → ℕ → ℕ → Past
masked_at fill bytes stamp steps = record {
  bytes = bytes;
  held = filled fill;
  edges = [];
  events = record { stamp = stamp; act = Mask } ∷ [];
  steps = steps;
}

-- such a past of a keyboard: the mask came at stamp 0 or 1. What memory held is fine, and the past is lawful for the layout,
-- whatever its end. So what was said so far is the beginning of what the model says
pub record IsMasked (layout : KeyLayout) (fill : ℕ) (k : Keyboard) : Type 0 where
  pub stamp : ℕ
  pub soon : stamp ≤ 1
  pub steps : ℕ
  pub has_past : HasPast (masked_at fill (image_of layout) stamp steps) k
  pub fine : IsFine (filled fill)
  pub lawful : (stop : ℕ) → IsLawfulFor layout (history_of (masked_at fill (image_of layout) stamp steps) stop)
  pub agrees : BeginsExpected layout (masked_at fill (image_of layout) stamp steps) (log_of has_past.world.board)

-- so is a keyboard that was opened, or switched off and on again, with a layout's image, from memory of any byte
abbrev pub OpenedIsMasked : Type 0
OpenedIsMasked =
    (layout : KeyLayout) (fill : ℕ) (k : Keyboard) → IsKeyLayout layout → fill < 256 → IsOpened fill (image_of layout) k
    → IsMasked layout fill k

-- and one that was opened and run on until its interrupt line rose, or for a second
abbrev pub ReadyIsMasked : Type 0
ReadyIsMasked =
    (layout : KeyLayout) (k : Keyboard) → IsKeyLayout layout → IsReady (image_of layout) k → IsMasked layout 0 k
