-- Typematic: the delay before a held key repeats, and the period in which it does, in ticks of 2,048 cycles. Bits 5
-- and 6 of the rate byte are D, bits 3 and 4 are B, bits 0 to 2 are A.
use Rattle.std.specs.Prelude.{ℕ, ◌+◌, ◌*◌, ◌/◌, ◌%◌, ◌^◌}

-- (1 + D) * 250 ms: 25,000 is 250 ms in units of 4 cycles, of which a tick has 512
abbrev pub delay : ℕ → ℕ
delay rate = ((1 + rate / 32 % 4) * 25000 + 256) / 512

-- (8 + A) * 2^B * 4.17 ms
abbrev pub period : ℕ → ℕ
period rate = ((8 + rate % 8) * 2 ^ (rate / 8 % 4) * 417 + 256) / 512
