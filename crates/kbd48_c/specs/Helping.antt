-- Help for two BIOSes: what is written in place of a guest's byte, and when the keyboard runs on while the guest waits.
use Rattle.std.specs.Prelude.{ℕ, Bool, false, not, ◌&&◌, ◌||◌, ◌==◌, if◌then◌else◌}
use Rattle.kbd48_c.specs.declared.helping.Help.{Help}

-- a byte for port 60h is the keyboard's, unless a command awaits it as its parameter
abbrev pub is_keyboards : ℕ → Help → Bool
is_keyboards port h = port == 0x60 && not h.parameter

-- help for SeaBIOS: the keyboard gets EF in place of the byte after F0
abbrev pub written_for : ℕ → ℕ → Help → ℕ
written_for port byte h = if h.seabios && is_keyboards port h && h.last == 0xf0 then 0xef else byte

-- the controller's commands that await a parameter: 60 writes the command byte, D1 the output port
abbrev pub awaits_parameter : ℕ → Bool
awaits_parameter command = command == 0x60 || command == 0xd1

-- what is remembered: whether a parameter is awaited, and the last byte that the keyboard gets
abbrev pub help_after_write : ℕ → ℕ → Help → Help
help_after_write port byte h =
    if port == 0x64 then record h { parameter = awaits_parameter byte }
    else if is_keyboards port h then record h { last = written_for port byte h }
    else if port == 0x60 then record h { parameter = false }
    else h

-- help for Bochs's BIOS: it has read FA, the answer to FF, so the self-test begins
abbrev pub begins_self_test : ℕ → Help → Bool
begins_self_test byte h = h.bochs && h.last == 0xff && byte == 0xfa

-- this is said once
abbrev pub help_after_read : ℕ → Help → Help
help_after_read byte h = if begins_self_test byte h then record h { last = 0 } else h
