-- Noise on the wires, and which side pulls them.
use Rattle.std.specs.Prelude.{ℕ, ◌+◌, ℤ, pos, if◌then◌else◌}
use Rattle.board_terms.specs.Flips.{IsDataOrParity}
use Rattle.board_terms.specs.declared.event.HostAct.TheVariants.{Flip}
use Rattle.board_terms.specs.declared.lines.Lines.{Lines}
use Rattle.live_board.specs.declared.parts.Parts.{Parts as Keyboard}
use Rattle.kbd48_c.specs.Exports.{HasActed, IsLeft}

-- one more status: a frame's bits that may be turned round are 1 to 9
abbrev pub no_such_bit : ℤ
no_such_bit = pos 19

-- a bit of the keyboard's next frame is turned round, if it is a data bit or the parity
abbrev pub HasFlipped : ℕ → Keyboard → ℤ → Keyboard → Type 0
HasFlipped bit k status after =
    (IsDataOrParity bit → HasActed (Flip bit) k status after)
    × ((IsDataOrParity bit → ⊥) → IsLeft no_such_bit k status after)

-- the wires that a side pulls, as a number: 1 the clock, 2 data
abbrev pub pulled_of : Lines → ℕ
pulled_of line = (if line.clk then 0 else 1) + (if line.dat then 0 else 2)
