-- A pointer to a half after the half was lent: it leads to what was written last.
use Rattle.std.specs.Borrow.{Fml, MutBor, Lends}
use Rattle.kbd_half.specs.declared.keyboard.KbdHalf.{KbdHalf}
use Rattle.kbd_half.specs.contracts.keyboard.KbdHalf as keyboard
use Rattle.ctl_half.specs.Controllers.{CtlState}
use Rattle.ctl_half.specs.contracts.controller.CtlHalf as controller
use Rattle.kbd48_halves.specs.declared.keyboard_at.KeyboardAt.{KeyboardAt}
use Rattle.kbd48_halves.specs.declared.controller_at.ControllerAt.{ControllerAt}
use Rattle.kbd48_halves.specs.contracts.keyboard_at.KeyboardAt as keyboard_at
use Rattle.kbd48_halves.specs.contracts.controller_at.ControllerAt as controller_at

-- with another keyboard there
abbrev pub with_keyboard : KeyboardAt → KbdHalf → KeyboardAt
with_keyboard p k = record { at = p.at; keyboard = k }

abbrev pub lends_keyboard : MutBor KeyboardAt → MutBor KbdHalf → Fml
lends_keyboard p k = Lends keyboard_at.the_row keyboard.the_row p k (with_keyboard p.now)

-- with another controller there
abbrev pub with_controller : ControllerAt → CtlState → ControllerAt
with_controller p c = record { at = p.at; controller = c }

abbrev pub lends_controller : MutBor ControllerAt → MutBor CtlState → Fml
lends_controller p c = Lends controller_at.the_row controller.the_row p c (with_controller p.now)
