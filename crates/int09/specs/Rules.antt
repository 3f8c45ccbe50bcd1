-- INT 09h: nine rules in their order. A rule says how it treats a byte in a state, or nothing if it doesn't fit.
use Rattle.std.specs.Prelude.{ℕ, ◌+◌, ◌-◌, ◌*◌, ◌%◌, ◌==◌, nat_lt, Bool, true, not, ◌&&◌, ◌||◌, if◌then◌else◌}
use Rattle.std.specs.Prelude.{List, [], ◌∷◌, Some, None, is_some, option_and_then}
use Rattle.std.specs.Option.{option_map, unwrap_or}
use Rattle.std.specs.declared.option.Option.{Option}
use Rattle.pc_tables.specs.declared.item.Item.TheVariants.{Word, Beep, Overrun, Broke, Pause, Resume, Print, Boot}
use Rattle.pc_tables.specs.declared.item.Item.TheVariants.{SysMake, SysBreak}
use Rattle.pc_tables.specs.declared.words.WordRow.{WordRow}
use Rattle.pc_tables.specs.Words.{words_at}
use Rattle.bits.specs.Bits.{has_bit, with_bit, without_bit, flipped_bit}
use Rattle.int09.specs.Bits.{ctrl, alt, num, sysreq, pause}
use Rattle.int09.specs.Bios.{State, start, Effect, quiet, says, enters, enters_if}
use Rattle.int09.specs.Keys.{shift_bit, lock_bit, keypad_digit, differ, shift_down, reverses}

-- a byte below 80 is a make of its scan code, and one from 80 on is a break of its low seven bits
abbrev pub is_make : ℕ → Bool
is_make byte = nat_lt byte 0x80

abbrev pub code_of : ℕ → ℕ
code_of byte = if is_make byte then byte else byte - 0x80

-- rule 1: FA and FE set their marks, and FF is an overrun
unfoldable pub marks : ℕ → State → Option Effect
marks byte s =
    if byte == 0xfa then Some (quiet (record s { ack = true }))
    else if byte == 0xfe then Some (quiet (record s { resend = true }))
    else if byte == 0xff then Some (record { after = s; items = Overrun ∷ Beep ∷ [] })
    else None

-- rule 2: SysReq, 54, is reported as it goes down and up; a make while it is down is silent
unfoldable pub on_sysreq : ℕ → State → Option Effect
on_sysreq byte s =
    if byte == 0xd4 then Some (says SysBreak (record s { downs = without_bit sysreq s.downs }))
    else if byte == 0x54 && has_bit sysreq s.downs then Some (quiet s)
    else if byte == 0x54 then Some (says SysMake (record s { downs = with_bit sysreq s.downs }))
    else None

-- a break of Alt enters the number that was typed under it, if it isn't 0
unfoldable pub alt_broken : State → Effect
alt_broken s =
    let t : State = record s { shifts = without_bit alt s.shifts } in
    if t.number == 0 then quiet t else enters t.number (record t { number = 0 })

-- rule 3: a make of a shift key, Ctrl or Alt sets its bit, and a break clears it
unfoldable pub on_shift_key : ℕ → State → Option Effect
on_shift_key byte s =
    option_map
    (λ bit.
    if is_make byte then quiet (record s { shifts = with_bit bit s.shifts })
    else if byte == 0xb8 then alt_broken s
    else quiet (record s { shifts = without_bit bit s.shifts }))
    (shift_bit (code_of byte))

-- a lock key or Insert that was up goes down, and its state is flipped; Insert is also entered
unfoldable pub locks : ℕ → ℕ → State → Effect
locks code bit s =
    let t : State = record s { downs = with_bit bit s.downs; shifts = flipped_bit bit s.shifts } in
    if code == 0x52 then enters 0x5200 t else quiet t

-- a make of such a key; with Ctrl, and Insert with Alt, it is left to the rules after; Insert is the digit 0 if
-- exactly one of two things is so, Num is on or a shift key is down
unfoldable pub lock_made : ℕ → ℕ → State → Option Effect
lock_made code bit s =
    if has_bit ctrl s.shifts || code == 0x52 && has_bit alt s.shifts then None
    else if code == 0x52 && differ (has_bit num s.shifts) (shift_down s) then Some (enters 0x5230 s)
    else if has_bit bit s.downs then Some (quiet s)
    else Some (locks code bit s)

-- rule 4: Scroll Lock, Num Lock, Caps Lock and Insert; a break clears the key's bit
unfoldable pub on_lock_key : ℕ → State → Option Effect
on_lock_key byte s =
    option_and_then
    (λ bit.
    if is_make byte then lock_made byte bit s else Some (quiet (record s { downs = without_bit bit s.downs })))
    (lock_bit (code_of byte))

-- rule 5: any other break, and a make that isn't in the table of words, does nothing
unfoldable pub without_words : ℕ → State → Option Effect
without_words byte s = if is_make byte && is_some (words_at byte) then None else Some (quiet s)

-- rule 6: a pause ends with any key but Num Lock, and that key is dropped
unfoldable pub in_pause : ℕ → State → Option Effect
in_pause code s =
    if has_bit pause s.downs && code == 0x45 then Some (quiet s)
    else if has_bit pause s.downs then Some (says Resume (record s { downs = without_bit pause s.downs }))
    else None

-- the word in a column of the key's row, if there is one
abbrev pub word_in : (WordRow → Option ℕ) → ℕ → Option ℕ
word_in column code = option_and_then column (words_at code)

-- a digit of the keypad goes on with the number, and any other key clears it
unfoldable pub alt_typed : Option ℕ → ℕ → State → Effect
alt_typed (Some digit) code s = quiet (record s { number = (s.number * 10 + digit) % 256 })
alt_typed None code s = enters_if (word_in (λ row. row.alt) code) (record s { number = 0 })

-- rule 7: with Alt; with Ctrl too, Del boots
unfoldable pub with_alt : ℕ → State → Option Effect
with_alt code s =
    if not (has_bit alt s.shifts) then None
    else if has_bit ctrl s.shifts && code == 0x53 then Some (says Boot start)
    else if code == 0x39 then Some (enters 0x3920 s)
    else Some (alt_typed (keypad_digit code) code s)

-- rule 8: with Ctrl, Scroll Lock breaks and Num Lock pauses
unfoldable pub with_ctrl : ℕ → State → Option Effect
with_ctrl code s =
    if not (has_bit ctrl s.shifts) then None
    else if code == 0x46
    then Some (record { after = record s { words = 0x0000 ∷ [] }; items = Broke ∷ Word 0x0000 ∷ [] })
    else if code == 0x45 then Some (says Pause (record s { downs = with_bit pause s.downs }))
    else Some (enters_if (word_in (λ row. row.ctrl) code) s)

-- rule 9: without Ctrl and Alt, the shifted column with a shift key, reversed for some keys; it prints for 37
unfoldable pub alone : ℕ → State → Option Effect
alone code s =
    if not (differ (shift_down s) (reverses code s)) then Some (enters_if (word_in (λ row. row.base) code) s)
    else if code == 0x37 then Some (says Print s)
    else Some (enters_if (word_in (λ row. row.shift) code) s)

abbrev pub Rule : Type 0
Rule = ℕ → State → Option Effect

abbrev pub nine_rules : List Rule
nine_rules =
    marks ∷ on_sysreq ∷ on_shift_key ∷ on_lock_key ∷ without_words ∷ in_pause ∷ with_alt ∷ with_ctrl ∷ alone ∷ []

-- the first of these rules that fits
abbrev pub first_that_fits : List Rule → ℕ → State → Effect
first_that_fits [] byte s = quiet s
first_that_fits (rule ∷ rules) byte s = unwrap_or (rule byte s) (first_that_fits rules byte s)

-- the outcome of a byte
unfoldable pub fed : ℕ → State → Effect
fed byte s = first_that_fits nine_rules byte s
