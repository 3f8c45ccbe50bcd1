-- The latch of port 2 in a frame, as a function of the offset.
use Rattle.std.specs.Prelude.{◌≡◌, ◌<◌, ◌⊎◌, ℕ, suc, ◌+◌, ◌-◌, ◌*◌, ◌/◌, ◌%◌}
use Rattle.std.specs.Prelude.{Bool, true, false, ◌||◌, nat_le, nat_lt, if◌then◌else◌, bit_and, slice_index_or}
use Rattle.mcs48_core.specs.Status.{digit}
use Rattle.board_terms.specs.Frame.{frame_bits}

-- the latch that leaves both wires alone, with clock and data at these levels
abbrev pub wired : ℕ → Bool → Bool → ℕ
wired v clock level = bit_and v (252 + digit clock + 2 * digit level)

-- bit k of a byte's frame; after the frame the wire is high
abbrev pub frame_bit : ℕ → ℕ → Bool
frame_bit byte k = slice_index_or (frame_bits byte) k true

-- a cell of a sent frame: the clock is low for 16 cycles, and the next bit is put 5 cycles after its rise
abbrev pub sent_cell : ℕ → ℕ → ℕ → ℕ → ℕ
sent_cell v byte k o = wired v (nat_le 16 o) (frame_bit byte (if nat_lt o 21 then k else suc k))

-- a sent frame, by the offset from the look at data: the start bit is put 10 cycles after, the first cell begins 28
-- cycles after
abbrev pub sent_latch : ℕ → ℕ → ℕ → ℕ
sent_latch v byte o =
    if nat_lt o 10 then v
    else if nat_lt o 28 then wired v true false
    else sent_cell v byte ((o - 28) / 32) ((o - 28) % 32)

-- the looks at the clock in a sent frame, by the offset from the look at data: two before the first fall, at 8 and 26; in
-- each of ten cells one 2 cycles after the rise of its clock, and in each but the tenth one 7 cycles after the next bit.
-- So after the tenth rise there is one look: from there on the frame is sent to its end
abbrev pub IsLook : ℕ → Type 0
IsLook look =
    (look ≡ 8) ⊎ (look ≡ 26)
    ⊎ ((k : ℕ) × (k < 10) × ((look ≡ 46 + 32 * k) ⊎ ((look ≡ 56 + 32 * k) × (k < 9))))

-- a frame that is cut at a look: both wires are released 2 cycles after it
abbrev pub cut_latch : ℕ → ℕ → ℕ → ℕ → ℕ
cut_latch v byte look o = if nat_lt o (look + 2) then sent_latch v byte o else v

-- it ends 6 cycles after it
abbrev pub cut_after : ℕ → ℕ
cut_after look = look + 6

-- a received frame, by the offset from the look at data: eleven cells with the clock low for 16 cycles; data is low from
-- 20 cycles into the tenth on, 12 cycles before the eleventh fall, until the clock rises for the last time
abbrev pub received_cell : ℕ → ℕ → ℕ → ℕ
received_cell v k o = wired v (nat_le 16 o) (if nat_lt k 10 then nat_lt o 20 || nat_lt k 9 else nat_le 16 o)

abbrev pub received_latch : ℕ → ℕ → ℕ
received_latch v o = if nat_lt o 28 then v else received_cell v ((o - 28) / 32) ((o - 28) % 32)

-- the frame of a tick: none, one that is sent, one that is cut at a look, or one that is received
pub data Frame : Type 0 where
  NoFrame : Frame
  SentFrame : ℕ → Frame
  CutFrame : ℕ → ℕ → Frame
  ReceivedFrame : Frame

-- its latch, by the offset from the look at data
abbrev pub frame_latch : Frame → ℕ → ℕ → ℕ
frame_latch NoFrame v o = v
frame_latch (SentFrame byte) v o = sent_latch v byte o
frame_latch (CutFrame byte look) v o = cut_latch v byte look o
frame_latch ReceivedFrame v o = received_latch v o

-- the cycles from the look at data to its end
abbrev pub frame_cycles : Frame → ℕ
frame_cycles NoFrame = 0
frame_cycles (SentFrame byte) = 368
frame_cycles (CutFrame byte look) = cut_after look
frame_cycles ReceivedFrame = 366

-- the latch in each cycle of a tick, by the offset from its start: as it was up to the lights at offset 232, and from
-- then on with this value, which a frame drives from the look at data on
abbrev pub tick_latch : ℕ → ℕ → Frame → ℕ → ℕ
tick_latch old v frame o =
    if nat_lt o 232 then old
    else if nat_lt o 260 then v
    else if nat_lt o (260 + frame_cycles frame) then frame_latch frame v (o - 260)
    else v
