-- The latch of port 2 from offset to offset, and the board that it drives.
use Rattle.std.specs.Prelude.{ℕ, ◌+◌, ◌-◌, nat_lt, if◌then◌else◌}
use Rattle.joint_run.specs.Run.{Board, after_cycles}

-- the board after n cycles from an offset on, where the latch of port 2 is a function of the offset from cycle x
abbrev pub driven : (d : Board) → ℕ → (ℕ → ℕ) → ℕ → ℕ → d.State → d.State
driven d x latch n from board = after_cycles n from (λ o. d.cycle (latch o) (x + o)) board

-- the latch in a tick that starts in this cycle, with a frame of this length from the look at data on
abbrev pub in_tick : (ℕ → ℕ) → ℕ → ℕ → ℕ → ℕ → ℕ
in_tick latch v start length o =
    if nat_lt o (260 + start) then v
    else if nat_lt o (260 + start + length) then latch (o - (260 + start))
    else v
