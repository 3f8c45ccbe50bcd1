-- From what the shelf answers to what a fetch gives.
use Rattle.std.proofs.Common.{◌≡◌, ℕ, ◌≤◌, List, [], length, Some, None, Ok, Err, IfSome, refl, subst, arith}
use Rattle.std.specs.declared.alloc.Global.{Global}
use Rattle.std.specs.declared.option.Option.{Option}
use Rattle.std.specs.declared.vec.Vec.{Vec}
use Rattle.io_edge.specs.Shelf.{Shelved, Fetched, Fails, Long, Found, fetched, IsFetch}
use Rattle.io_edge.specs.declared.shelf.FetchFault.TheVariants as faults
use Rattle.app_words.specs.declared.kind.Kind.{Kind}
use Rattle.app_words.specs.declared.refusal.Refusal.TheVariants.{Memory}
use Rattle.app_answers.specs.Fetching.{IsGiven, MayGive}
use Rattle.app_words.specs.Kinds.{limit_of}

found : (kind : Kind) (outcome : Fetched) (file : Vec ℕ Global) → IsFetch outcome (Ok file) → IsGiven kind outcome (Ok file)
found kind Fails file is = absurd is
found kind Long file is = absurd is
found kind (Found bytes) file is = is

lacking : (kind : Kind) (outcome : Fetched) → IsFetch outcome (Err faults.Memory) → IsGiven kind outcome (Err Memory)
lacking kind Fails is = absurd cc
lacking kind Long is = absurd cc
lacking kind (Found bytes) is = refl

-- a file that was found
pub gives_found : (kind : Kind) (name : List ℕ) (shelf : Option Shelved) (limit : ℕ) (file : Vec ℕ Global) → limit ≡ limit_of kind
    → IfSome shelf (λ shelved. IsFetch (fetched shelved name limit) (Ok file)) → length file.items ≤ limit → MayGive kind name shelf (Ok file)
gives_found kind name (Some shelf) limit file most is within =
    let outcome = fetched shelf name (limit_of kind) in
    let same : IsFetch outcome (Ok file) = subst (λ (n : ℕ). IsFetch (fetched shelf name n) (Ok file)) most is in
    (outcome, refl, found kind outcome file same)
gives_found kind name None limit file most is within =
    (Found file.items, subst (λ (n : ℕ). length file.items ≤ n) most within, refl)

-- a file for which memory was lacking
pub gives_lacking : (kind : Kind) (name : List ℕ) (shelf : Option Shelved) (limit : ℕ) → limit ≡ limit_of kind
    → IfSome shelf (λ shelved. IsFetch (fetched shelved name limit) (Err faults.Memory)) → MayGive kind name shelf (Err Memory)
gives_lacking kind name (Some shelf) limit most is =
    let outcome = fetched shelf name (limit_of kind) in
    let same : IsFetch outcome (Err faults.Memory) = subst (λ (n : ℕ). IsFetch (fetched shelf name n) (Err faults.Memory)) most is in
    (outcome, refl, lacking kind outcome same)
gives_lacking kind name None limit most is = (Found [], omega arith, refl)
