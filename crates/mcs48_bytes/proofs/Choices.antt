-- A number, a truth value or a choice is read from its bytes.
use Rattle.std.proofs.Common.{◌≡◌, ◌<◌, ◌^◌, ◌==◌, ℕ, Bool, true, false, Some, None, refl, arith}
use Rattle.std.specs.Prelude.{is_some, if◌then◌else◌}
use Rattle.std.specs.declared.option.Option.{Option}
use Rattle.std.specs.Int.{from_bool}
use Rattle.mcs48_bytes.specs.Numbers.{byte_or_0}

-- a truth value is read from its byte
pub truth_read : (b : Bool) → (from_bool b == 1) ≡ b
truth_read true = refl
truth_read false = refl

-- a byte that may be missing is read from its two bytes
pub maybe_read : (o : Option ℕ) → (if from_bool (is_some o) == 1 then Some (byte_or_0 o) else None) ≡ o
maybe_read None = refl
maybe_read (Some byte) = refl
