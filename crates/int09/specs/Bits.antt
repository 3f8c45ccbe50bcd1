-- The names of the bits in the bytes at 40:17 and 40:18.
use Rattle.std.specs.Prelude.{ℕ}

-- 40:17: these keys are down
abbrev pub right_shift : ℕ
right_shift = 0x01

abbrev pub left_shift : ℕ
left_shift = 0x02

abbrev pub ctrl : ℕ
ctrl = 0x04

abbrev pub alt : ℕ
alt = 0x08

-- 40:17: these states are on; 40:18: their keys are down
abbrev pub scroll : ℕ
scroll = 0x10

abbrev pub num : ℕ
num = 0x20

abbrev pub caps : ℕ
caps = 0x40

abbrev pub insert : ℕ
insert = 0x80

-- 40:18: SysReq is down, and a pause is on
abbrev pub sysreq : ℕ
sysreq = 0x04

abbrev pub pause : ℕ
pause = 0x08
