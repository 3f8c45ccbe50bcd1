-- One file from the shelf, as the code has it.
use Rattle.std.specs.Prelude.{◌≡◌, ◌≤◌, ℕ, List, length, None, Some, MatchResult}
use Rattle.std.specs.declared.alloc.Global.{Global}
use Rattle.std.specs.declared.option.Option.{Option}
use Rattle.std.specs.declared.result.Result.{Result}
use Rattle.std.specs.declared.vec.Vec.{Vec}
use Rattle.io_edge.specs.Shelf.{Shelved, Fetched, Fails, Long, Found, fetched}
use Rattle.app_words.specs.declared.kind.Kind.{Kind}
use Rattle.app_words.specs.declared.refusal.Refusal.{Refusal}
use Rattle.app_words.specs.declared.refusal.Refusal.TheVariants.{Read, TooLong, Memory}
use Rattle.app_words.specs.Kinds.{limit_of}

-- the bytes of a fetch that found a file are within the limit that it was given
abbrev pub IsWithin : ℕ → Fetched → Type 0
IsWithin limit Fails = Unit {0}
IsWithin limit Long = Unit {0}
IsWithin limit (Found bytes) = length bytes ≤ limit

-- what a fetch with this limit may come to: of a shelf whose files are known it is one thing alone
abbrev pub MayFetch : Option Shelved → List ℕ → ℕ → Fetched → Type 0
MayFetch (Some shelf) name limit outcome = outcome ≡ fetched shelf name limit
MayFetch None name limit outcome = IsWithin limit outcome

-- the refusal that a fetch comes to, or the file's bytes, for which memory may run out
abbrev pub IsGiven : Kind → Fetched → Result (Vec ℕ Global) Refusal → Type 0
IsGiven kind Fails result = MatchResult result (λ file. ⊥) (λ refusal. refusal ≡ Read)
IsGiven kind Long result = MatchResult result (λ file. ⊥) (λ refusal. refusal ≡ TooLong kind)
IsGiven kind (Found bytes) result = MatchResult result (λ file. file.items ≡ bytes) (λ refusal. refusal ≡ Memory)

-- what a file of this kind and name may be given as
abbrev pub MayGive : Kind → List ℕ → Option Shelved → Result (Vec ℕ Global) Refusal → Type 0
MayGive kind name shelf result =
    (outcome : Fetched) × MayFetch shelf name (limit_of kind) outcome × IsGiven kind outcome result
