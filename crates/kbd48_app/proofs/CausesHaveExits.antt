-- A fetch that fails, a file that is too long, and a dump with a fault have their exits.
use Rattle.std.proofs.Common.{◌≡◌, ℕ, List, ap, refl}
use Rattle.io_edge.specs.Shelf.{Shelved, Fetched, Fails, Long, Found, after_fetch, fetched}
use Rattle.app_words.specs.declared.exit.Exit.{Exit}
use Rattle.app_words.specs.declared.exit.Exit.TheVariants as exits
use Rattle.app_words.specs.declared.kind.Kind.{Kind}
use Rattle.app_words.specs.Kinds.{limit_of}
use Rattle.kbd48_app.specs.Answers.{OnFetched}
use Rattle.kbd48_app.specs.Plans.{Plan, Captures, Fetches, Follows}
use Rattle.kbd48_app.specs.Reached.{on_fetched, HasDumpFault, IsUnserved, IsTooLong}
use Rattle.kbd48_app.proofs.PlansEnd.{capture_exit, leads}

-- the exit of a fetch, by what the fetch comes to
fetch_led : (fails long : Type 0) (on : List ℕ → Type 0) (exit : List ℕ → Exit) (wanted : Exit)
    → (fails → exits.Read ≡ wanted) → (long → exits.Input ≡ wanted)
    → ((bytes : List ℕ) → on bytes → exit bytes ≡ wanted)
    → (outcome : Fetched) → OnFetched fails long on outcome → on_fetched exits.Read exits.Input exit outcome ≡ wanted
fetch_led fails long on exit wanted read input afterwards Fails h = read h
fetch_led fails long on exit wanted read input afterwards Long h = input h
fetch_led fails long on exit wanted read input afterwards (Found bytes) h = afterwards bytes h

-- a plan whose fetch fails exits with the status of a failed read
pub unserved : (n : ℕ) (p : Plan) (shelf : Shelved) → IsUnserved p shelf → leads n p shelf ≡ exits.Read
unserved n (Fetches kind name next) shelf h =
    fetch_led (Unit {0}) ⊥ (λ bytes. IsUnserved (next bytes) (after_fetch shelf))
    (λ bytes. leads n (next bytes) (after_fetch shelf)) exits.Read (λ fails. refl) (λ long. absurd long)
    (λ bytes. unserved n (next bytes) (after_fetch shelf)) (fetched shelf name (limit_of kind)) h
unserved n leaf shelf h = absurd h

-- a plan with a file that is too long exits with the status of a faulty input
pub too_long : (n : ℕ) (long : Kind) (p : Plan) (shelf : Shelved) → IsTooLong long p shelf → leads n p shelf ≡ exits.Input
too_long n long (Fetches kind name next) shelf h =
    fetch_led ⊥ (kind ≡ long) (λ bytes. IsTooLong long (next bytes) (after_fetch shelf))
    (λ bytes. leads n (next bytes) (after_fetch shelf)) exits.Input (λ fails. absurd fails) (λ same. refl)
    (λ bytes. too_long n long (next bytes) (after_fetch shelf)) (fetched shelf name (limit_of kind)) h
too_long n long leaf shelf h = absurd h

-- a plan with a dump that has a fault exits with the status of a faulty input
pub dump_faulty : (n : ℕ) (p : Plan) (shelf : Shelved) → HasDumpFault p shelf → leads n p shelf ≡ exits.Input
dump_faulty n (Fetches kind name next) shelf h =
    fetch_led ⊥ ⊥ (λ bytes. HasDumpFault (next bytes) (after_fetch shelf))
    (λ bytes. leads n (next bytes) (after_fetch shelf)) exits.Input (λ fails. absurd fails) (λ long. absurd long)
    (λ bytes. dump_faulty n (next bytes) (after_fetch shelf)) (fetched shelf name (limit_of kind)) h
dump_faulty n (Captures clk dat dump) shelf h = ap capture_exit h.1
dump_faulty n (Follows layout clk dat dump) shelf h = ap capture_exit h.1
dump_faulty n leaf shelf h = absurd h
