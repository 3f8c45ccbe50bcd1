-- The keys that have a meaning of their own, by scan code, and what the keys that are down make of the others.
use Rattle.std.specs.Prelude.{ℕ, ◌==◌, nat_le, Bool, true, false, not, ◌&&◌, ◌||◌, if◌then◌else◌, Some, None, is_some}
use Rattle.std.specs.declared.option.Option.{Option}
use Rattle.pc_tables.specs.Words.{letter_on}
use Rattle.bits.specs.Bits.{has_bit}
use Rattle.int09.specs.Bits.{right_shift, left_shift, ctrl, alt, scroll, num, caps, insert}
use Rattle.int09.specs.Bios.{State}

-- the key's bit in 40:17: right shift, left shift, Ctrl, Alt
abbrev pub shift_bit : ℕ → Option ℕ
shift_bit code =
    if code == 0x36 then Some right_shift
    else if code == 0x2a then Some left_shift
    else if code == 0x1d then Some ctrl
    else if code == 0x38 then Some alt
    else None

-- the key's bit in 40:17 and 40:18: Scroll Lock, Num Lock, Caps Lock, Insert
abbrev pub lock_bit : ℕ → Option ℕ
lock_bit code =
    if code == 0x46 then Some scroll
    else if code == 0x45 then Some num
    else if code == 0x3a then Some caps
    else if code == 0x52 then Some insert
    else None

-- the digit on the key of the keypad
abbrev pub keypad_digit : ℕ → Option ℕ
keypad_digit code =
    if code == 0x52 then Some 0
    else if code == 0x4f then Some 1
    else if code == 0x50 then Some 2
    else if code == 0x51 then Some 3
    else if code == 0x4b then Some 4
    else if code == 0x4c then Some 5
    else if code == 0x4d then Some 6
    else if code == 0x47 then Some 7
    else if code == 0x48 then Some 8
    else if code == 0x49 then Some 9
    else None

-- exactly one of two things is so
abbrev pub differ : Bool → Bool → Bool
differ true b = not b
differ false b = b

-- a shift key is down
abbrev pub shift_down : State → Bool
shift_down s = has_bit right_shift s.shifts || has_bit left_shift s.shifts

-- Caps reverses the columns of letters, and Num those of the keypad, 47 to 53
unfoldable pub reverses : ℕ → State → Bool
reverses code s =
    is_some (letter_on code) && has_bit caps s.shifts
    || nat_le 0x47 code && nat_le code 0x53 && has_bit num s.shifts
