-- Worked rows: frames, the matrix, and the ticks of cycles.
use Rattle.std.proofs.Common.{◌≡◌, ℕ, true, false, List, [], ◌∷◌, None, refl}
use Rattle.board_terms.specs.declared.event.Edge.{Edge}
use Rattle.board_terms.specs.Frame.{frame_bits, byte_of}
use Rattle.board_terms.specs.Edges.{is_pressed}
use Rattle.board_terms.specs.Matrix.{all_up, turned, rows_of}
use Rattle.board_terms.specs.Cadence.{listed, tick_of}

-- 1C and AA on the wire
frame_1c : frame_bits 0x1c ≡ false ∷ false ∷ false ∷ true ∷ true ∷ true ∷ false ∷ false ∷ false ∷ false ∷ true ∷ []
frame_1c = refl

frame_aa : frame_bits 0xaa ≡ false ∷ false ∷ true ∷ false ∷ true ∷ false ∷ true ∷ false ∷ true ∷ true ∷ true ∷ []
frame_aa = refl

-- a bit turned round is no byte
turned_bit : byte_of (false ∷ true ∷ false ∷ true ∷ true ∷ true ∷ false ∷ false ∷ false ∷ false ∷ true ∷ []) ≡ None
unfolding byte_of
turned_bit = refl

-- the key at place 13 is row 5 of column 1
rows_of_13 : rows_of (turned 13 true all_up) 0xf1 ≡ 0xdf
rows_of_13 = refl

no_column : rows_of (turned 13 true all_up) 0xfd ≡ 0xff
no_column = refl

-- an edge of stamp 10 is made from cycle 4,106 on
press : List Edge
press = record { stamp = 10; place = 13; down = true } ∷ []

before_press : is_pressed press 4105 13 ≡ false
unfolding press
before_press = refl

at_press : is_pressed press 4106 13 ≡ true
unfolding press
at_press = refl

other_key : is_pressed press 4106 12 ≡ false
unfolding press
other_key = refl

-- of three starts, cycles before the second are of tick 0, and those before the first too
starts : ℕ → ℕ
starts = listed (0 ∷ 2050 ∷ 4096 ∷ [])

first_tick : tick_of starts 2 6145 ≡ 0
unfolding starts
first_tick = refl

second_tick : tick_of starts 2 6146 ≡ 1
unfolding starts
second_tick = refl

before_all : tick_of starts 2 4095 ≡ 0
unfolding starts
before_all = refl
