-- What a handle owns: nothing if its pointer is null, and else the block of a keyboard.
use Rattle.std.specs.Prelude.{Option, None, Some}
use base.Fml.{Fml, ftrue, ffalse}
use denote.RawPtr.{Ptr, block_ptr, null_ptr}
use Rattle.std.specs.Box.Ownership.{box_owns}
use Rattle.std.specs.Global.{Box}
use Rattle.std.specs.declared.alloc.Global.{Global}
use Rattle.std.specs.contracts.impls.GlobalAllocator.TheImpl.{ghosts}
use Rattle.live_board.specs.declared.parts.Parts.{Parts as Keyboard}
use Rattle.live_board.specs.contracts.keyboard.Keyboard.{the_row}
use Rattle.kbd48_c.specs.declared.pointer.BoxPointer.{BoxPointer}

abbrev pub held_at : Global → Ptr → Option Keyboard → Fml
held_at a null_ptr None = ftrue
held_at a null_ptr (Some k) = ffalse
held_at a (block_ptr b o) None = ffalse
held_at a (block_ptr b o) (Some k) = box_owns (ghosts.dealloc_token a) the_row (block_ptr b o) k

-- what a pointer, or a box, taken out of a handle leads to
abbrev pub held_of : Option (BoxPointer Keyboard Global) → Option Keyboard
held_of None = None
held_of (Some p) = Some p.value

abbrev pub boxed : Option (Box Keyboard) → Option Keyboard
boxed None = None
boxed (Some b) = Some b.value
