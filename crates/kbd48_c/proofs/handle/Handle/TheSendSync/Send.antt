-- A handle may go to another thread: the machine may, and any thread frees a block of `Global`.
use base.Shift.{Keyless}
use denote.Param.Send.{IsSend, owning_send, struct_send, sendable}
use denote.RawPtr.{Ptr, block_ptr, null_ptr}
use denote.Builtin.{RawPtr}
use denote.Memory.{lone}
use mir.Raw.{raw as bare}
use denote.Struct.Struct.{exits_of}
use denote.Struct.Owning.{shape, fields, to}
use Rattle.core.specs.declared.option.Option.{Option}
use Rattle.core.specs.declared.option.Option.TheVariants.{None, Some}
use Rattle.std_alloc.proofs.SendSync.{lies, quiet}
use Rattle.std.specs.declared.alloc.Global.{Global}
use Rattle.std.specs.contracts.alloc.Global as heap
use Rattle.std.proofs.Crossing.{frees}
use Rattle.live_board.specs.declared.parts.Parts.{Parts as Keyboard}
use Rattle.live_board.specs.contracts.keyboard.Keyboard as keyboard
use Rattle.live_board.proofs.keyboard.Keyboard.TheSendSync.{the_send}
use Rattle.kbd48_c.specs.Held.{held_at}
use Rattle.kbd48_c.specs.contracts.handle.Handle.{the_type, the_row}

held : (a : Global) (p : Ptr) (m : Option Keyboard) → Keyless (held_at a p m)
held a null_ptr None = tt
held a null_ptr (Some s) = tt
held a (block_ptr b o) None = tt
held a (block_ptr b o) (Some s) =
    (lies keyboard.the_row the_send (block_ptr b o) s, frees.frees a (bare (lone (keyboard.the_row).mir)) (block_ptr b o))

ps : IsSend RawPtr
ps = search sendable

zs : IsSend (heap.the_field).row
zs = search sendable

-- a handle may go to another thread
pub send : IsSend the_row
send = owning_send the_type (ps, (zs, tt)) (λ d. held d.alloc d.at d.keyboard)
    (λ k. quiet (to the_type) (exits_of k (fields the_type)) ((struct_send (shape the_type) (ps, (zs, tt))).leaving k))
