-- What the keyboard does with a byte from the system.
use Rattle.std.specs.Prelude.{ℕ, ◌%◌, ◌==◌, nat_lt, nat_le, Bool, true, false, if◌then◌else◌, Some, None}
use Rattle.model_keyboard.specs.declared.state.Mode.{Mode}
use Rattle.model_keyboard.specs.declared.state.Mode.TheVariants.{Ready, WantRate, WantLights}
use Rattle.model_keyboard.specs.Codes.{Keys}
use Rattle.model_keyboard.specs.Queue.{clear}
use Rattle.model_keyboard.specs.Keyboard.{Keyboard}

-- a reply takes the place of one that waits, and of the reset that was due with it
abbrev pub replies : ℕ → Keyboard → Keyboard
replies byte k = record k { reply = Some (record { byte = byte; resets = false }) }

abbrev pub acknowledges : Keyboard → Keyboard
acknowledges k = replies 0xfa k

-- the commands
abbrev pub commanded : Keys → ℕ → Keyboard → Keyboard
commanded keys byte k =
    -- reset: it is made once FA is sent
    if byte == 0xff then record k { reply = Some (record { byte = 0xfa; resets = true }) }
    -- resend
    else if byte == 0xfe then replies k.last k
    -- set default
    else if byte == 0xf6 then record (acknowledges k) { queue = clear k.queue; rate = keys.rate; repeats = None }
    -- default disable
    else if byte == 0xf5 then
    record (acknowledges k) { queue = clear k.queue; rate = keys.rate; repeats = None; enabled = false }
    -- enable
    else if byte == 0xf4 then record (acknowledges k) { queue = clear k.queue; repeats = None; enabled = true }
    -- set typematic rate and delay
    else if byte == 0xf3 then record (acknowledges k) { mode = WantRate }
    -- set or reset the lights
    else if byte == 0xed then record (acknowledges k) { mode = WantLights }
    -- echo
    else if byte == 0xee then replies 0xee k
    -- EF to F2 and F7 to FD have no effect
    else if nat_le 0xef byte then acknowledges k
    -- no command
    else replies 0xfe k

-- if a parameter is awaited: the state with a byte below 80 as the parameter; a command ends the wait; any other
-- byte is refused, and the wait goes on
abbrev pub parameter : Keys → ℕ → Keyboard → Keyboard → Keyboard
parameter keys byte with_it k =
    if nat_lt byte 0x80 then record (acknowledges with_it) { mode = Ready }
    else if nat_lt byte 0xed then replies 0xfe k
    else commanded keys byte (record k { mode = Ready })

-- a byte by the mode: the rate is the byte, the lights are its low three bits
abbrev pub obeyed_in : Mode → Keys → ℕ → Keyboard → Keyboard
obeyed_in Ready keys byte k = commanded keys byte k
obeyed_in WantRate keys byte k = parameter keys byte (record k { rate = byte }) k
obeyed_in WantLights keys byte k = parameter keys byte (record k { lights = byte % 8 }) k

-- a byte with wrong parity is refused, and has no effect of its own
abbrev pub obeyed : Keys → ℕ → Bool → Keyboard → Keyboard
obeyed keys byte good k = if good then obeyed_in k.mode keys byte k else replies 0xfe k
