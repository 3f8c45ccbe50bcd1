-- A run whose text a sink has in part.
use Rattle.std.specs.Prelude.{ℕ, List}
use Rattle.io_edge.specs.Said.{IsBrokenOff, Shown}

-- the text of the outcome of a run is broken off, as it would have come to it
pub record IsTextBrokenOff (Run : Type 0) (may_be : Run → Type 0) (text : Run → List ℕ) (before after : Shown) : Type 0 where
  pub run : Run
  pub is : may_be run
  pub part : IsBrokenOff before after (text run)
