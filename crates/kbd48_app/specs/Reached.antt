-- What a plan reaches on a shelf whose files are known.
use Rattle.std.specs.Prelude.{◌≡◌, ◌⊎◌, ℕ, zero, suc, ◌<◌, ◌≤◌, Bool, true, false, List, [], ◌∷◌, length, Some}
use Rattle.std.specs.declared.option.Option.{Option}
use Rattle.io_edge.specs.Shelf.{Shelved, Fetched, Fails, Long, Found, after_fetch, fetched}
use Rattle.app_words.specs.declared.exit.Exit.{Exit}
use Rattle.app_words.specs.declared.exit.Exit.TheVariants.{Memory, Write}
use Rattle.app_words.specs.declared.kind.Kind.{Kind}
use Rattle.capture_vcd.specs.Reads.{reads_of}
use Rattle.capture_vcd.specs.declared.fault.VcdFault.{VcdFault}
use Rattle.kbd48_app.specs.Answers.{OnFetched}
use Rattle.app_words.specs.Kinds.{limit_of}
use Rattle.kbd48_app.specs.Plans.{Plan, Captures, Fetches, Follows}

-- a value for each thing that a fetch may come to
abbrev pub on_fetched : {A : Type 0} → A → A → (List ℕ → A) → Fetched → A
on_fetched fails long found Fails = fails
on_fetched fails long found Long = long
on_fetched fails long found (Found bytes) = found bytes

-- a fetch that is reached fails
abbrev pub IsUnserved : Plan → Shelved → Type 0
IsUnserved (Fetches kind name next) shelf =
    OnFetched (Unit {0}) ⊥ (λ bytes. IsUnserved (next bytes) (after_fetch shelf)) (fetched shelf name (limit_of kind))
IsUnserved leaf shelf = ⊥

-- a file of this kind that is reached has too many bytes
abbrev pub IsTooLong : Kind → Plan → Shelved → Type 0
IsTooLong long (Fetches kind name next) shelf =
    OnFetched ⊥ (kind ≡ long)
    (λ bytes. IsTooLong long (next bytes) (after_fetch shelf))
    (fetched shelf name (limit_of kind))
IsTooLong long leaf shelf = ⊥

-- a dump is reached that has a first fault, by the names that the words give to its clock and to its data wire
abbrev pub HasDumpFault : Plan → Shelved → Type 0
HasDumpFault (Fetches kind name next) shelf =
    OnFetched ⊥ ⊥ (λ bytes. HasDumpFault (next bytes) (after_fetch shelf)) (fetched shelf name (limit_of kind))
HasDumpFault (Captures clk dat dump) shelf = (fault : VcdFault) × ((reads_of clk dat dump).fault ≡ Some fault)
HasDumpFault (Follows layout clk dat dump) shelf = (fault : VcdFault) × ((reads_of clk dat dump).fault ≡ Some fault)
HasDumpFault leaf shelf = ⊥

-- a file of this kind is reached, and has these bytes
abbrev pub Reads : Kind → List ℕ → Plan → Shelved → Type 0
Reads read file (Fetches kind name next) shelf =
    OnFetched ⊥ ⊥
    (λ bytes. ((kind ≡ read) × (bytes ≡ file)) ⊎ Reads read file (next bytes) (after_fetch shelf))
    (fetched shelf name (limit_of kind))
Reads read file leaf shelf = ⊥

-- memory may run out: no file is named, or the first one is found
abbrev pub may_lack : Plan → Shelved → Bool
may_lack (Fetches kind name next) shelf = on_fetched false false (λ bytes. true) (fetched shelf name (limit_of kind))
may_lack leaf shelf = true

-- the names and the limits of the fetches that a plan comes to, in order, unless memory runs out
abbrev pub fetches_of : Plan → Shelved → List (List ℕ × ℕ)
fetches_of (Fetches kind name next) shelf =
    (name, limit_of kind)
    ∷ on_fetched [] [] (λ bytes. fetches_of (next bytes) (after_fetch shelf)) (fetched shelf name (limit_of kind))
fetches_of leaf shelf = []

-- a shelf after so many fetches
abbrev pub after_fetches : ℕ → Shelved → Shelved
after_fetches zero shelf = shelf
after_fetches (suc n) shelf = after_fetches n (after_fetch shelf)

-- so many of these fetches were made, in their order, and no others: all of them, or, if memory ran out, the
-- first ones
abbrev pub Makes : List (List ℕ × ℕ) → Shelved → Option Shelved → Exit → Type 0
Makes fetches shelf after exit =
    (n : ℕ) × (n ≤ length fetches) × (after ≡ Some (after_fetches n shelf))
    × ((n ≡ length fetches) ⊎ ((0 < n) × ((exit ≡ Memory) ⊎ (exit ≡ Write))))
