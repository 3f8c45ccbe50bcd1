-- The two wires between the keyboard and any host, cycle by cycle, with wires that take time to rise.
use Rattle.std.specs.Prelude.{◌≡◌, ℕ, suc, Bool, true, false}
use Rattle.board_terms.specs.declared.lines.Lines.{Lines}

-- cycle by cycle: what the keyboard and the host drive on each wire (true lets it go), the levels that a look of the
-- keyboard finds and that the host sees; the bit that the host reads for a fall of the clock in the cycle, and the byte
-- that it sends if it begins to in the cycle
pub record Wiring : Type 0 where
  pub keyboard : ℕ → Lines
  pub host : ℕ → Lines
  pub pins : ℕ → Lines
  pub seen : ℕ → Lines
  pub reads : ℕ → Bool
  pub wants : ℕ → ℕ

-- a wire, by what both sides drive, what a look of the keyboard finds, and what the host sees. A look in the second cycle
-- of a pull of the host, or later, finds it; one of the keyboard is seen at once. A wire that both have let go is high after
-- two cycles, 5 microseconds, and stays high until one of them pulls it; in between it may show anything
pub record IsWire (keyboard host pin seen : ℕ → Bool) : Type 0 where
  pub pulled : (c : ℕ) → host c ≡ false → host (suc c) ≡ false → pin (suc c) ≡ false
  pub risen : (c : ℕ) → keyboard c ≡ true → host c ≡ true → keyboard (suc c) ≡ true → host (suc c) ≡ true
      → keyboard (suc (suc c)) ≡ true → host (suc (suc c)) ≡ true → pin (suc (suc c)) ≡ true
  pub low : (c : ℕ) → keyboard c ≡ false → seen c ≡ false
  pub high : (c : ℕ) → keyboard c ≡ true → host c ≡ true → keyboard (suc c) ≡ true → host (suc c) ≡ true
      → keyboard (suc (suc c)) ≡ true → host (suc (suc c)) ≡ true → seen (suc (suc c)) ≡ true
  pub stays : (c : ℕ) → seen c ≡ true → keyboard (suc c) ≡ true → host (suc c) ≡ true → seen (suc c) ≡ true

pub record AreWires (w : Wiring) : Type 0 where
  pub clock : IsWire (λ c. (w.keyboard c).clk) (λ c. (w.host c).clk) (λ c. (w.pins c).clk) (λ c. (w.seen c).clk)
  pub data_wire : IsWire (λ c. (w.keyboard c).dat) (λ c. (w.host c).dat) (λ c. (w.pins c).dat) (λ c. (w.seen c).dat)
