-- What the keyboard drives in a frame: cells of 32 cycles.
use Rattle.std.specs.Prelude.{◌≡◌, ℕ, ◌+◌, ◌*◌, ◌≤◌, ◌<◌, Bool, true, false, not, ◌&&◌, List, [], ◌∷◌, ◌++◌}
use Rattle.std.proofs.Common.{zero, suc}
use Rattle.board_terms.specs.declared.lines.Lines.{Lines}

-- the keyboard leaves the clock alone from one cycle to before another
abbrev pub IsUp : (ℕ → Lines) → ℕ → ℕ → Type 0
IsUp latch from to = (o : ℕ) → from ≤ o → o < to → (latch o).clk ≡ true

-- it pulls the clock
abbrev pub IsDown : (ℕ → Lines) → ℕ → ℕ → Type 0
IsDown latch from to = (o : ℕ) → from ≤ o → o < to → (latch o).clk ≡ false

-- a cell: the clock falls at its first cycle, with this level of data; it doesn't fall again; it is high at its last
-- cycle
pub record IsCell (latch : ℕ → Lines) (from : ℕ) (dat : Bool) : Type 0 where
  pub falls : (latch from).clk ≡ false
  pub level : (latch from).dat ≡ dat
  pub once : (o : ℕ) → from ≤ o → o < from + 31 → ((latch o).clk && not (latch (suc o)).clk) ≡ false
  pub rises : (latch (31 + from)).clk ≡ true

-- a frame: ten cells, and the edge that ends it
pub record IsFrame (latch : ℕ → Lines) (from : ℕ) (bits : ℕ → Bool) : Type 0 where
  pub cells : (k : ℕ) → k < 10 → IsCell latch (32 * k + from) (bits k)
  pub ends : (latch (320 + from)).clk ≡ false
  pub last : (latch (320 + from)).dat ≡ bits 10

-- the first bits of a frame, in order
abbrev pub bits_to : (ℕ → Bool) → ℕ → List Bool
bits_to bits zero = []
bits_to bits (suc k) = bits_to bits k ++ bits k ∷ []
