-- What a shelf whose files are known answers.
use Rattle.std.specs.Prelude.{◌≡◌, ℕ, nat_eq, nat_lt, List, [], ◌∷◌, length, None, Some, Ok, Err}
use Rattle.std.specs.Prelude.{if◌then◌else◌, MatchResult}
use Rattle.std.specs.List.{list_any}
use Rattle.std.specs.Str.{bytes_eq}
use Rattle.std.specs.declared.option.Option.{Option}
use Rattle.std.specs.declared.result.Result.{Result}
use Rattle.std.specs.declared.alloc.Global.{Global}
use Rattle.std.specs.declared.vec.Vec.{Vec}
use Rattle.io_edge.specs.Faults.{one_more}
use Rattle.io_edge.specs.declared.shelf.FetchFault.{FetchFault}
use Rattle.io_edge.specs.declared.shelf.FetchFault.TheVariants.{Failed, TooLong, Memory}

-- a name and the bytes under it
pub record File : Type 0 where
  pub name : List ℕ
  pub bytes : List ℕ

-- a shelf's files, how many calls it has had, and the numbers of the calls, from 1, that fail
pub record Shelved : Type 0 where
  pub files : List File
  pub calls : ℕ
  pub fails : List ℕ

-- the outcome of a call: a failure, a file with too many bytes, or a file's bytes
pub data Fetched : Type 0 where
  Fails : Fetched
  Long : Fetched
  Found : List ℕ → Fetched

-- of two files of one name the first is meant
abbrev pub bytes_under : List ℕ → List File → Option (List ℕ)
bytes_under name [] = None
bytes_under name (file ∷ files) = if bytes_eq file.name name then Some file.bytes else bytes_under name files

-- the number of the next call
abbrev pub next_call : Shelved → ℕ
next_call shelf = one_more shelf.calls

-- a call counts whatever it answers, and leaves the files and the failing numbers as they are
abbrev pub after_fetch : Shelved → Shelved
after_fetch shelf = record shelf { calls = next_call shelf }

-- the bytes, if they aren't too many
abbrev pub within : ℕ → Option (List ℕ) → Fetched
within max None = Fails
within max (Some bytes) = if nat_lt max (length bytes) then Long else Found bytes

-- a call fails exactly if its number is one that fails, or no file has the name
abbrev pub fetched : Shelved → List ℕ → ℕ → Fetched
fetched shelf name max =
    if list_any (nat_eq (next_call shelf)) shelf.fails then Fails else within max (bytes_under name shelf.files)

-- the answer to such a call; only if there is a file to give, memory may run out
abbrev pub IsFetch : Fetched → Result (Vec ℕ Global) FetchFault → Type 0
IsFetch Fails result = MatchResult result (λ bytes. ⊥) (λ fault. fault ≡ Failed)
IsFetch Long result = MatchResult result (λ bytes. ⊥) (λ fault. fault ≡ TooLong)
IsFetch (Found found) result = MatchResult result (λ bytes. bytes.items ≡ found) (λ fault. fault ≡ Memory)

-- the count of faults after a call with this answer; it rises exactly if the call failed
abbrev pub faults_after : Result (Vec ℕ Global) FetchFault → ℕ → ℕ
faults_after (Ok bytes) faults = faults
faults_after (Err Failed) faults = one_more faults
faults_after (Err TooLong) faults = faults
faults_after (Err Memory) faults = faults
