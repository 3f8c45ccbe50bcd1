-- The keyboard as it goes on by itself: no key moves, and the other side drives the same levels all the while.
use Rattle.std.specs.Prelude.{◌≡◌, ◌≤◌, ◌<◌, ℕ, zero, suc, ◌+◌, ◌&&◌, Option, IsSome}
use Rattle.board_terms.specs.declared.lines.Lines.{Lines}
use Rattle.chip_core.specs.Chips.{after, cycles_of, next_of}
use Rattle.joint_run.specs.Joint.{latch_of, lights_of}
use Rattle.kbd_half.specs.declared.keyboard.KbdHalf.{KbdHalf}
use Rattle.kbd_half.specs.Keyboards.{pins_at, with_chip}
use Rattle.mcs48_core.specs.Step.{Stepped}

-- a wire is low if either side pulls it
abbrev pub joined : Lines → Lines → Lines
joined ours others = record { clk = ours.clk && others.clk; dat = ours.dat && others.dat }

-- its next step; none if the processor is stuck
abbrev pub next_alone : Lines → KbdHalf → Option Stepped
next_alone others k =
    next_of (pins_at (joined (latch_of k.chip.mcu.p2) others) k.matrix k.chip.mcu.p1) k.chip

abbrev pub stepped_alone : Lines → KbdHalf → KbdHalf
stepped_alone others k = with_chip (after (next_alone others k) k.chip) k

-- after so many steps
abbrev pub alone_after : Lines → ℕ → KbdHalf → KbdHalf
alone_after others zero k = k
alone_after others (suc n) k = stepped_alone others (alone_after others n k)

-- the cycles that they take
abbrev pub cycles_alone : Lines → ℕ → KbdHalf → ℕ
cycles_alone others zero k = 0
cycles_alone others (suc n) k = cycles_alone others n k + cycles_of (next_alone others (alone_after others n k))

-- two keyboards drive the same levels and show the same lights
abbrev pub AreAlike : KbdHalf → KbdHalf → Type 0
AreAlike j k =
    (latch_of j.chip.mcu.p2 ≡ latch_of k.chip.mcu.p2) × (lights_of j.chip.mcu.p2 ≡ lights_of k.chip.mcu.p2)

-- after so many steps a further one can be made; it ends within `most` cycles, and what is seen is as at first
abbrev pub RestsOn : Lines → ℕ → KbdHalf → ℕ → Type 0
RestsOn others most k n =
    IsSome (next_alone others (alone_after others n k))
    × (cycles_alone others (suc n) k ≤ most)
    × AreAlike (alone_after others (suc n) k) k

-- these are the cycles of the steps before the first that isn't so
abbrev pub RestsFor : Lines → ℕ → KbdHalf → ℕ → Type 0
RestsFor others most k cycles =
    (n : ℕ)
    × ((i : ℕ) → i < n → RestsOn others most k i)
    × (RestsOn others most k n → ⊥)
    × (cycles ≡ cycles_alone others n k)
