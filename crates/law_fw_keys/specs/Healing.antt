-- What a reset makes right: the Fn key's cell follows the key.
use Rattle.std.specs.Prelude.{ℕ, Bool, false, if◌then◌else◌, List, slice_index}
use Rattle.fw_kernel.specs.Tables.{fn_place_at}
use Rattle.model_keyboard.specs.Keyboard.{Keyboard, is_held}
use Rattle.model_keyboard.specs.Layers.{Layers}
use Rattle.model_keyboard.specs.Once.{is_reset_due}
use Rattle.model_keyboard.specs.declared.meeting.Meeting.{Meeting}
use Rattle.model_keyboard.specs.declared.meeting.Meeting.TheVariants.{Idle, Inhibited, Sent, Cut, Got}

-- whether the key at the image's place of the Fn key is held; a place of 60 (hexadecimal) or more is none
abbrev pub is_fn_held : List ℕ → Keyboard → Bool
is_fn_held bytes k = is_held k (slice_index bytes fn_place_at)

-- whether a tick's meeting makes a reset: the reply to one is sent
abbrev pub makes_reset : Meeting → Keyboard → Bool
makes_reset Sent k = is_reset_due k.reply
makes_reset Cut k = false
makes_reset Idle k = false
makes_reset Inhibited k = false
makes_reset (Got byte good) k = false

-- the layers as the tick's edges find them: after a reset the Fn key is down if it is held
abbrev pub healed : List ℕ → Meeting → Keyboard → Layers → Layers
healed bytes meeting k layers =
    record layers { fn_down = if makes_reset meeting k then is_fn_held bytes k else layers.fn_down }
