-- The exit of a plan by the files that it reads: it has its cause, and no cause of another exit is there.
use Rattle.std.proofs.Common.{◌≡◌, ◌⊎◌, ℕ, List, [], ◌∷◌, inl, inr, refl, sym, subst}
use Rattle.std.specs.declared.option.Option.{Option}
use Rattle.io_edge.specs.Shelf.{Shelved, Fetched, Fails, Long, Found, after_fetch, fetched}
use Rattle.key_file.specs.declared.fault.KeyFault.TheVariants as faults
use Rattle.app_words.specs.declared.exit.Exit.{Exit}
use Rattle.app_words.specs.declared.exit.Exit.TheVariants as exits
use Rattle.app_words.specs.declared.kind.Kind.{Kind}
use Rattle.app_words.specs.declared.kind.Kind.TheVariants as kinds
use Rattle.app_words.specs.declared.words.Command.{Command}
use Rattle.app_words.specs.Kinds.{limit_of}
use Rattle.kbd48_app.specs.Answers.{OnFetched}
use Rattle.kbd48_app.specs.Causes.{Fault, InHex, InAsm, InLayout, InCert, InKeys, InScript, InText, BoardStops, HasFault, IsFault, IsStuck, StepStops, exit_at}
use Rattle.kbd48_app.specs.Plans.{Plan, Fetches}
use Rattle.kbd48_app.specs.Reached.{HasDumpFault, IsTooLong, IsUnserved, Reads, on_fetched}
use Rattle.kbd48_app.proofs.ExitAndCause.{IsCaused, lacks}
use Rattle.kbd48_app.proofs.PlansEnd.{leads}

-- of each kind, which files are read
abbrev pub Reading : Type 1
Reading = Kind → List ℕ → Type 0

-- files that were read, the last one first
abbrev pub Files : Type 0
Files = List (Kind × List ℕ)

abbrev pub In : Files → Kind → List ℕ → Type 0
In [] kind file = ⊥
In (first ∷ files) kind file = ((first.0 ≡ kind) × (first.1 ≡ file)) ⊎ In files kind file

-- a run stops at a byte without an instruction
abbrev pub Stops : Option Command → Reading → Type 0
Stops command read = StepStops command read ⊎ BoardStops command read

-- where more is read there are no fewer faults
pub fault_on : (n : ℕ) (read more : Reading) → ((kind : Kind) (file : List ℕ) → read kind file → more kind file)
    → (fault : Fault) → IsFault n fault read → IsFault n fault more
fault_on n read more on (InHex fault) h = (h.0, on kinds.Hex h.0 h.1, h.2)
fault_on n read more on (InAsm fault) h = (h.0, on kinds.Asm h.0 h.1, h.2)
fault_on n read more on (InLayout fault) h = (h.0, on kinds.Layout h.0 h.1, h.2)
fault_on n read more on (InCert fault) h = (h.0, on kinds.Hex h.0 h.1, h.2, h.3, h.4, on kinds.Cert h.4 h.5, h.6)
fault_on n read more on (InKeys fault) h = (h.0, on kinds.Layout h.0 h.1, h.2, h.3, h.4, on kinds.Keys h.4 h.5, h.6)
fault_on n read more on (InScript fault) h = (h.0, on kinds.Script h.0 h.1, h.2)
fault_on n read more on (InText fault) h = (h.0, on kinds.Layout h.0 h.1, h.2, h.3, h.4, on kinds.Text h.4 h.5, h.6)

-- nor fewer runs that stop
pub stop_on : (command : Option Command) (read more : Reading) → ((kind : Kind) (file : List ℕ) → read kind file → more kind file)
    → Stops command read → Stops command more
stop_on command read more on (inl h) = inl (h.0, h.1, h.2, on kinds.Hex h.2 h.3, h.4, h.5, h.6, h.7)
stop_on command read more on (inr h) =
    let hex = on kinds.Hex h.2 h.3 in
    let layout = on kinds.Layout h.6 h.7 in
    let keys = on kinds.Keys h.10 h.11 in
    inr (h.0, h.1, h.2, hex, h.4, h.5, h.6, layout, h.8, h.9, h.10, keys, h.12, h.13, h.14, h.15, h.16, h.17)

module _ (n : ℕ) (command : Option Command) (plan : Plan) (shelf : Shelved) where
  -- an exit has its cause, and each fault and each run that stops has this exit
  abbrev pub IsRight : Exit → Type 0
  IsRight exit =
      IsCaused n command plan shelf exit × ((fault : Fault) → HasFault n fault plan shelf → exit ≡ exit_at fault)
      × (IsStuck command plan shelf → exit ≡ exits.Stuck)

  abbrev Read : Reading
  Read kind file = Reads kind file plan shelf

  -- all that is reached is one of these files, or is reached by the rest of the plan, of which this is known
  abbrev pub IsReachedBy : Files → Reading → (Kind → Type 0) → Type 0 → Type 0 → Type 0
  IsReachedBy files rest long fails dump =
      ((kind : Kind) (file : List ℕ) → Read kind file → In files kind file ⊎ rest kind file)
      × ((kind : Kind) (file : List ℕ) → In files kind file ⊎ rest kind file → Read kind file)
      × ((kind : Kind) → long kind → IsTooLong kind plan shelf) × (fails → IsUnserved plan shelf)
      × (dump → HasDumpFault plan shelf)

  abbrev pub IsReached : Files → Plan → Shelved → Type 0
  IsReached files rest after =
      IsReachedBy files (λ kind file. Reads kind file rest after) (λ kind. IsTooLong kind rest after) (IsUnserved rest after)
      (HasDumpFault rest after)

  -- before the first fetch all that is reached is reached by the whole plan
  pub start : IsReached [] plan shelf
  start = ((λ kind file h. inr h), (λ kind file h. elim h [ inl none ↦ absurd none | inr read ↦ read ]), (λ kind h. h), (λ h. h), (λ h. h))

  fault_caused : (fault : Fault) → HasFault n fault plan shelf → IsCaused n command plan shelf (exit_at fault)
  fault_caused (InHex fault) h = inr (inl (InHex fault, refl, h))
  fault_caused (InAsm fault) h = inr (inl (InAsm fault, refl, h))
  fault_caused (InLayout fault) h = inr (inl (InLayout fault, refl, h))
  fault_caused (InCert fault) h = inr (inl (InCert fault, refl, h))
  fault_caused (InKeys (faults.Input line number)) h = inr (inl (InKeys (faults.Input line number), refl, h))
  fault_caused (InKeys (faults.Timing line number first second)) h = ((line, number), (first, second), h)
  fault_caused (InKeys faults.Memory) h = lacks plan shelf kinds.Keys h.4 h.5
  fault_caused (InScript fault) h = inr (inl (InScript fault, refl, h))
  fault_caused (InText fault) h = inr (inl (InText fault, refl, h))

  -- the cause of an exit is among files: nothing is in the way, or there is a fault, or a run stops
  abbrev pub Cause : Files → Exit → Type 0
  Cause files exit =
      (exit ≡ exits.Done) ⊎ ((fault : Fault) × (exit ≡ exit_at fault) × IsFault n fault (In files))
      ⊎ ((exit ≡ exits.Stuck) × Stops command (In files))

  -- a plan that reads nothing more
  pub ends_right : (files : Files) (exit : Exit) → IsReachedBy files (λ kind file. ⊥) (λ kind. ⊥) ⊥ ⊥ → Cause files exit
      → ((fault : Fault) → IsFault n fault (In files) → exit ≡ exit_at fault) → (Stops command (In files) → exit ≡ exits.Stuck)
      → IsRight exit
  ends_right files exit at cause faulty stops =
      let seen : (kind : Kind) (file : List ℕ) → In files kind file → Read kind file = λ kind file h. at.1 kind file (inl h) in
      let all : (kind : Kind) (file : List ℕ) → Read kind file → In files kind file =
      λ kind file h. elim (at.0 kind file h) [ inl old ↦ old | inr none ↦ absurd none ] in
      let by : (wanted : Exit) → exit ≡ wanted → IsCaused n command plan shelf wanted → IsCaused n command plan shelf exit =
      λ wanted same. subst (λ (e : Exit). IsCaused n command plan shelf e) (sym same) in (
        elim cause [
          | inl done ↦ by exits.Done done tt
          | inr more ↦ elim more [
            | inl fault ↦ by (exit_at fault.0) fault.1 (fault_caused fault.0 (fault_on n (In files) Read seen fault.0 fault.2))
            | inr stuck ↦ by exits.Stuck stuck.0 (stop_on command (In files) Read seen stuck.1)
          ]
        ],
        (λ fault h. faulty fault (fault_on n Read (In files) all fault h)),
        (λ h. stops (stop_on command Read (In files) all h)),
      )

  -- files without a fault, of which no run that stops is made
  abbrev pub IsClean : Files → Type 0
  IsClean files = ((fault : Fault) → IsFault n fault (In files) → ⊥) × (Stops command (In files) → ⊥)

  module _ (kind : Kind) (next : List ℕ → Plan) (files : Files) (after : Shelved) (clean : IsClean files)
      (goes : (bytes : List ℕ) → IsReached ((kind, bytes) ∷ files) (next bytes) after → IsRight (leads n (next bytes) after)) where
    -- after a fetch that found no file
    unfound_right : (exit : Exit) → IsCaused n command plan shelf exit
        → ((read : Kind) (file : List ℕ) → Read read file → In files read file ⊎ ⊥) → IsRight exit
    unfound_right exit cause at =
        let all : (read : Kind) (file : List ℕ) → Read read file → In files read file =
        λ read file h. elim (at read file h) [ inl old ↦ old | inr none ↦ absurd none ] in (
          cause,
          (λ fault h. absurd (clean.0 fault (fault_on n Read (In files) all fault h))),
          (λ h. absurd (clean.1 (stop_on command Read (In files) all h))),
        )

    fetch_right : (outcome : Fetched)
        → IsReachedBy files (λ read file. OnFetched ⊥ ⊥ (λ bytes. ((kind ≡ read) × (bytes ≡ file)) ⊎ Reads read file (next bytes) after) outcome)
        (λ long. OnFetched ⊥ (kind ≡ long) (λ bytes. IsTooLong long (next bytes) after) outcome)
        (OnFetched (Unit {0}) ⊥ (λ bytes. IsUnserved (next bytes) after) outcome)
        (OnFetched ⊥ ⊥ (λ bytes. HasDumpFault (next bytes) after) outcome)
        → IsRight (on_fetched exits.Read exits.Input (λ bytes. leads n (next bytes) after) outcome)
    fetch_right Fails at = unfound_right exits.Read (at.3 tt) at.0
    fetch_right Long at = unfound_right exits.Input (inl (kind, at.2 kind refl)) at.0
    fetch_right (Found bytes) at = goes bytes (
      (λ read file h. elim (at.0 read file h) [
        | inl old ↦ inl (inr old)
        | inr more ↦ elim more [ inl this ↦ inl (inl this) | inr later ↦ inr later ]
      ]),
      (λ read file h. at.1 read file (elim h [
        | inl now ↦ elim now [ inl this ↦ inr (inl this) | inr old ↦ inl old ]
        | inr later ↦ inr (inr later)
      ])),
      at.2,
      at.3,
      at.4,
    )

  -- a plan that fetches a file has the right exit, if the rest of it has, whatever the file's bytes are
  pub fetched_right : (kind : Kind) (name : List ℕ) (next : List ℕ → Plan) (files : Files) (before : Shelved) → IsClean files
      → ((bytes : List ℕ) → IsReached ((kind, bytes) ∷ files) (next bytes) (after_fetch before)
      → IsRight (leads n (next bytes) (after_fetch before)))
      → IsReached files (Fetches kind name next) before → IsRight (leads n (Fetches kind name next) before)
  fetched_right kind name next files before clean goes at =
      fetch_right kind next files (after_fetch before) clean goes (fetched before name (limit_of kind)) at
