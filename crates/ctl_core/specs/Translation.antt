-- The translation of what the keyboard sends, and its reception.
use Rattle.std.specs.Prelude.{ℕ, ◌+◌, Bool, true, false, ◌&&◌, Option, Some, None, ◌==◌, if◌then◌else◌}
use Rattle.std.specs.Option.{option_map_or}
use Rattle.bits.specs.Bits.{has_bit, with_bit}
use Rattle.ctl_core.specs.ScanCodes.{translated}
use Rattle.ctl_core.specs.Controller.{ControllerState, put_out, asks_again, gave_up}
use Rattle.ctl_core.specs.declared.translation.Translated.{Translated}
use Rattle.ctl_core.specs.declared.controller.Received.{Received}
use Rattle.ctl_core.specs.declared.controller.Received.TheVariants.{Put, Marked, Bad, GaveUp}

-- the byte of a code, with bit 7 set if a break was begun; the mark ends
abbrev pub coded : Bool → ℕ → Option ℕ → Translated
coded mark byte (Some code) = record { byte = Some (if mark then with_bit 0x80 code else code); mark = false }
coded mark byte None = record { byte = Some byte; mark = mark }

-- by the translate bit, the break mark and a byte: what is put out, or nothing, and the new mark
abbrev pub translation : Bool → Bool → ℕ → Translated
translation false mark byte = record { byte = Some byte; mark = mark }
translation true mark byte =
    if byte == 0xf0 then record { byte = None; mark = true } else coded mark byte (translated byte)

-- whether the command byte has the translate bit
abbrev pub translates : ControllerState → Bool
translates s = has_bit 0x40 s.command_byte

-- the outcome of a received byte: one that came wrong is asked for again, or the controller gives up; a right one begins
-- a break, or a byte is put out
abbrev pub received_as : ControllerState → ℕ → Bool → Received
received_as s byte false = if asks_again s then Bad else GaveUp
received_as s byte true = if translates s && byte == 0xf0 then Marked else Put

-- the state with a byte put out, or none, and the new mark; no byte is asked for again any more
abbrev pub arrived : Translated → ControllerState → ControllerState
arrived t s =
    let marked = record s { break_mark = t.mark; resends = 0 } in
    option_map_or (λ byte. put_out byte marked) t.byte marked

-- the state after a byte came wrong: it is counted if it is asked for again, and nothing else changes
abbrev pub after_wrong : ControllerState → ControllerState
after_wrong s = if asks_again s then record s { resends = s.resends + 1 } else gave_up s

-- the state after a byte was received
abbrev pub after_received : ControllerState → ℕ → Bool → ControllerState
after_received s byte false = after_wrong s
after_received s byte true = arrived (translation (translates s) s.break_mark byte) s
