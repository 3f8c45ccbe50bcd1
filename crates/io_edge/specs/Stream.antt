-- What a stream as a sink holds.
use Rattle.std.specs.Prelude.{ℕ, List}
use Rattle.std.specs.declared.option.Option.{Option}

-- the bytes that its writer holds, if they are known, and the sink's count of faults
pub record Stream : Type 0 where
  pub contents : Option (List ℕ)
  pub faults : ℕ
