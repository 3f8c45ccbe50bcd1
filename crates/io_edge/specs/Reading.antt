-- Reading a file to its end, if the bytes that the reader will give are known.
use Rattle.std.specs.Prelude.{◌≡◌, ℕ, ◌<◌, ◌≤◌, List, ◌++◌, length, Some, None, MatchResult}
use Rattle.std.specs.declared.alloc.Global.{Global}
use Rattle.std.specs.declared.option.Option.{Option}
use Rattle.std.specs.declared.result.Result.{Result}
use Rattle.std.specs.declared.vec.Vec.{Vec}
use Rattle.io_edge.specs.declared.shelf.FetchFault.{FetchFault}
use Rattle.io_edge.specs.declared.shelf.FetchFault.TheVariants.{TooLong}

-- what was read and what is left are, one after the other, the same bytes after a step as before it
abbrev pub NoneLost : Option (List ℕ) → List ℕ → Option (List ℕ) → List ℕ → Type 0
NoneLost None read left' read' = Unit {0}
NoneLost (Some left) read None read' = ⊥
NoneLost (Some left) read (Some left') read' = read' ++ left' ≡ read ++ left

-- the reader has given up no more than so many bytes, whatever was answered
abbrev pub GaveAtMost : ℕ → Option (List ℕ) → Option (List ℕ) → Type 0
GaveAtMost n None left' = Unit {0}
GaveAtMost n (Some left) None = ⊥
GaveAtMost n (Some left) (Some left') = (given : List ℕ) × (left ≡ given ++ left') × (length given ≤ n)

-- the answer gives all the bytes that were left, or says that they are too many, which they then are
abbrev pub GivesFile : Option (List ℕ) → ℕ → Result (Vec ℕ Global) FetchFault → Type 0
GivesFile None max result = Unit {0}
GivesFile (Some left) max result =
    MatchResult result (λ bytes. bytes.items ≡ left) (λ fault. fault ≡ TooLong → max < length left)
