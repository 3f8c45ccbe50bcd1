-- What a pointer to a half owns: the memory, with the half in it.
use base.Fml.{Fml}
use denote.RawPtr.{Ptr, lies_at}
use Rattle.std.specs.Borrow.{full_share}
use Rattle.kbd_half.specs.declared.keyboard.KbdHalf.{KbdHalf}
use Rattle.kbd_half.specs.contracts.keyboard.KbdHalf as keyboard
use Rattle.ctl_half.specs.Controllers.{CtlState}
use Rattle.ctl_half.specs.contracts.controller.CtlHalf as controller

abbrev pub keyboard_lies : Ptr → KbdHalf → Fml
keyboard_lies p k = lies_at keyboard.the_row full_share p k

abbrev pub controller_lies : Ptr → CtlState → Fml
controller_lies p c = lies_at controller.the_row full_share p c
