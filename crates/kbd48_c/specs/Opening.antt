-- A keyboard that is opened over a text.
use Rattle.std.specs.Prelude.{◌≡◌, ℕ, ℤ, Bool, true, false, List, Option, None, Some, Ok, Err}
use Rattle.fw_compile.specs.Image.{image_of}
use Rattle.hexfile.specs.Hex.{hex_of}
use Rattle.hexfile.specs.declared.fault.HexFault.{HexFault}
use Rattle.layout_reader.specs.Documents.{layout_of_document}
use Rattle.layout_reader.specs.Layouts.{KeyLayout}
use Rattle.live_board.specs.Ready.{IsOpened, IsReady}
use Rattle.live_board.specs.declared.parts.Parts.{Parts as Keyboard}
use Rattle.kbd48_c.specs.Statuses.{done}
use Rattle.kbd48_c.specs.declared.opening.Fault.{Fault}

-- the handle has a keyboard with this program that has just been opened with cleared memory; or that is ready: run on
-- until its interrupt line rose, or for a second
abbrev pub HasOpened : Bool → List ℕ → Option Keyboard → Type 0
HasOpened ready bytes None = ⊥
HasOpened false bytes (Some k) = IsOpened 0 bytes k
HasOpened true bytes (Some k) = IsReady bytes k

-- with the program of a HEX text
abbrev pub HasOpenedHex : Bool → List ℕ → Option Keyboard → Type 0
HasOpenedHex ready text new = (bytes : List ℕ) × (hex_of text ≡ Ok bytes) × HasOpened ready bytes new

-- with the compiled image of a layout's text
abbrev pub HasOpenedLayout : Bool → List ℕ → Option Keyboard → Type 0
HasOpenedLayout ready text new =
    (layout : KeyLayout) × (layout_of_document text ≡ Ok layout) × HasOpened ready (image_of layout) new

-- the keyboard was switched off and on again: it has just been opened, with the program that it had and with this byte in
-- memory
abbrev pub HasPoweredOn : ℕ → Keyboard → ℤ → Keyboard → Type 0
HasPoweredOn fill k status after = (status ≡ done) × IsOpened fill k.joint.image.bytes after

-- if a text is at fault
abbrev pub IsHexFault : List ℕ → Fault → Type 0
IsHexFault text f = (h : HexFault) × (hex_of text ≡ Err h) × (f.position ≡ h.line) × (f.number ≡ h.number)

abbrev pub IsLayoutFault : List ℕ → Fault → Type 0
IsLayoutFault text f = layout_of_document text ≡ Err (record { entry = f.position; number = f.number })
