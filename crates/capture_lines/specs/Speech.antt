-- What the bytes of both sides say of the keyboard, of its codes and of what is asked for again.
use Rattle.std.specs.Prelude.{ℕ, ◌+◌, Bool, true, false, not, ◌&&◌, ◌||◌, ◌==◌, nat_le, nat_lt, Option, Some, None, if◌then◌else◌}
use Rattle.capture_frames.specs.declared.finding.Finding.{Finding}
use Rattle.capture_frames.specs.declared.finding.Finding.TheVariants.{Byte, Few, Cut, Unfinished, Stray, Glitch, Hold, StaysLow}
use Rattle.capture_frames.specs.declared.finding.Whole.{Whole}
use Rattle.capture_lines.specs.declared.speech.Speech.{Speech}
use Rattle.capture_lines.specs.Counting.{one_more}
use Rattle.capture_lines.specs.Receiving.{is_right}

abbrev pub nothing_said : Speech
nothing_said = record {
  last = None;
  asked = 0;
  came = false;
  mark = false;
  marked = false;
  set_1 = 0;
  lone = 0;
  thrice = 0;
}

-- the codes of an AT keyboard's keys are 01 to 84; from 85 to DF it sends AA alone, but a break in code set 1 is a make with
-- bit 7 set
abbrev pub is_code : ℕ → Bool
is_code byte = nat_lt 0 byte && nat_le byte 0x84

abbrev pub is_of_set_1 : ℕ → Bool
is_of_set_1 byte = nat_lt 0x84 byte && nat_lt byte 0xe0 && not (byte == 0xaa)

-- it is an XT keyboard if it sends such codes, and no F0
abbrev pub is_xt : Speech → Bool
is_xt s = nat_lt 0 s.set_1 && not s.marked

-- a frame of the keyboard, right or wrong: the second one after the host asked ends the row
abbrev pub after_frame : ℕ → Speech → Speech
after_frame byte s = record s { last = Some byte; asked = if s.came then 0 else s.asked; came = true }

-- a right byte of it: after F0 a code comes
abbrev pub with_code : ℕ → Speech → Speech
with_code byte s = record s {
  mark = byte == 0xf0;
  marked = s.marked || byte == 0xf0;
  set_1 = if is_of_set_1 byte then one_more s.set_1 else s.set_1;
  lone = if s.mark && not (is_code byte) then one_more s.lone else s.lone;
}

-- the host asks again: at the third time in a row that is counted
abbrev pub asked_on : Speech → Speech
asked_on s = record s {
  asked = one_more s.asked;
  came = false;
  thrice = if one_more s.asked == 3 then one_more s.thrice else s.thrice;
}

abbrev pub after_other : Speech → Speech
after_other s = record s { asked = 0; came = false }

-- FE asks for the last byte again
abbrev pub after_host : Whole → Speech → Speech
after_host w s = if w.byte == 0xfe then asked_on s else after_other s

abbrev pub after_byte : Whole → Speech → Speech
after_byte w s =
    if w.from_host then after_host w s
    else (if is_right w then with_code w.byte (after_frame w.byte s) else after_frame w.byte s)

abbrev pub said_so : Finding → Speech → Speech
said_so (Byte w) s = after_byte w s
said_so (Few from_host edges) s = s
said_so (Cut from_host edges) s = s
said_so (Unfinished from_host edges) s = s
said_so Stray s = s
said_so Glitch s = s
said_so (Hold asks) s = s
said_so StaysLow s = s

-- the byte that a finding asks for again
abbrev pub again_of : Finding → Speech → Option ℕ
again_of (Byte w) s = if w.from_host && (w.byte == 0xfe) then s.last else None
again_of (Few from_host edges) s = None
again_of (Cut from_host edges) s = None
again_of (Unfinished from_host edges) s = None
again_of Stray s = None
again_of Glitch s = None
again_of (Hold asks) s = None
again_of StaysLow s = None
