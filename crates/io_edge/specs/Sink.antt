-- What a sink has taken.
use Rattle.std.specs.Prelude.{◌≡◌, ℕ, List, ◌++◌, take, Some, None}
use Rattle.std.specs.declared.option.Option.{Option}

-- a sink that shows its bytes has n bytes of the piece more; one that doesn't show them doesn't do so afterwards either
abbrev pub Takes : Option (List ℕ) → Option (List ℕ) → List ℕ → ℕ → Type 0
Takes (Some before) after piece n = after ≡ Some (before ++ take n piece)
Takes None after piece n = after ≡ None
