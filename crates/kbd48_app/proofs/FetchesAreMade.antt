-- The fetches that were made.
use Rattle.std.proofs.Common.{IfSome, ◌≡◌, ℕ, suc, ◌<◌, ◌≤◌, List, [], ◌∷◌, length, Some, None, Err, inl, inr, refl, ap, subst, ◌∙◌, ◌⊎◌, arith}
use Rattle.std.specs.declared.option.Option.{Option}
use Rattle.run_probes.specs.Probes.{Watch}
use Rattle.io_edge.specs.Said.{Shown}
use Rattle.io_edge.specs.Shelf.{Shelved, Fetched, Fails, Long, Found, after_fetch, fetched}
use Rattle.app_words.specs.declared.exit.Exit.{Exit}
use Rattle.app_words.specs.declared.kind.Kind.{Kind}
use Rattle.app_words.specs.declared.refusal.Refusal.TheVariants.{Read, TooLong, Memory}
use Rattle.kbd48_app.specs.Answers.{OnFetched, MayEnd}
use Rattle.app_answers.specs.Leaving.{Left}
use Rattle.app_words.specs.Kinds.{limit_of}
use Rattle.app_answers.specs.FileAnswers.{Answer}
use Rattle.kbd48_app.specs.Plans.{Plan, Gives, Certifies, Fetches, Follows, plan, Spells}
use Rattle.kbd48_app.specs.Reached.{on_fetched, fetches_of, after_fetches, Makes}
use Rattle.app_answers.specs.Says.{Says, exit_said}
use Rattle.app_words.specs.Words.{command_of}
use Rattle.kbd48_app.proofs.PlansEnd.{Ending, as_plan}
use Rattle.app_answers.specs.Taking.{taking_of}

-- the same by the answer: all of them, or the first ones where memory was lacking
abbrev MakesSo : List (List ℕ × ℕ) → Shelved → Option Shelved → Answer → Type 0
MakesSo fetches shelf after answer =
    (n : ℕ) × (n ≤ length fetches) × (after ≡ Some (after_fetches n shelf)) × ((n ≡ length fetches) ⊎ ((0 < n) × (answer ≡ Err Memory)))

-- one fetch, and then those of the rest
one_more : (first : List ℕ × ℕ) (rest : List (List ℕ × ℕ)) (shelf : Shelved) (after : Option Shelved) (answer : Answer)
    → MakesSo rest (after_fetch shelf) after answer → MakesSo (first ∷ rest) shelf after answer
one_more first rest shelf after answer h =
    (suc h.0, omega (arith, h.1), h.2, elim h.3 [ inl all ↦ inl (omega (arith, all)) | inr part ↦ inr (omega arith, part.1) ])

-- a fetch after which no other was made
only_one : (first : List ℕ × ℕ) (shelf : Shelved) (after : Option Shelved) (answer : Answer)
    → after ≡ Some (after_fetch shelf) → MakesSo (first ∷ []) shelf after answer
only_one first shelf after answer is = (1, omega arith, is, inl refl)

cut_off : (first : List ℕ × ℕ) (rest : List (List ℕ × ℕ)) (shelf : Shelved) (after : Option Shelved) (answer : Answer)
    → after ≡ Some (after_fetch shelf) → answer ≡ Err Memory → MakesSo (first ∷ rest) shelf after answer
cut_off first rest shelf after answer is memory = (1, omega arith, is, inr (omega arith, memory))

made_by : (first : List ℕ × ℕ) (kind : Kind) (shelf : Shelved) (on : List ℕ → Type 0) (rest : List ℕ → List (List ℕ × ℕ))
    (after : Option Shelved) (end : Type 0) (answer : Answer) → (end → after ≡ Some (after_fetch shelf))
    → ((bytes : List ℕ) → on bytes → MakesSo (rest bytes) (after_fetch shelf) after answer) → (outcome : Fetched)
    → OnFetched ((answer ≡ Err Read) × end) ((answer ≡ Err (TooLong kind)) × end)
    (λ bytes. ((answer ≡ Err Memory) × end) ⊎ on bytes) outcome
    → MakesSo (first ∷ on_fetched [] [] rest outcome) shelf after answer
made_by first kind shelf on rest after end answer came goes Fails h = only_one first shelf after answer (came h.1)
made_by first kind shelf on rest after end answer came goes Long h = only_one first shelf after answer (came h.1)
made_by first kind shelf on rest after end answer came goes (Found bytes) h =
    elim h [
      | inl memory ↦ cut_off first (rest bytes) shelf after answer (came memory.1) memory.0
      | inr more ↦ one_more first (rest bytes) shelf after answer (goes bytes more)
    ]

made : (p : Plan) (shelf : Shelved) (answer : Answer) (after : Option Shelved) (probes : List Watch) (left : Left)
    → MayEnd p (Some shelf) answer after probes left → MakesSo (fetches_of p shelf) shelf after answer
made (Gives said) shelf answer after probes left h = (0, omega arith, h.1.0, inl refl)
made (Certifies image text) shelf answer after probes left h = (0, omega arith, h.1.0, inl refl)
made (Spells layout text) shelf answer after probes left h = (0, omega arith, h.1.0, inl refl)
made (Follows layout clk dat dump) shelf answer after probes left h = (0, omega arith, h.1.0, inl refl)
made (Fetches kind name next) shelf answer after probes left h =
    let on : List ℕ → Type 0 = λ bytes. MayEnd (next bytes) (Some (after_fetch shelf)) answer after probes left in
    let end : Type 0 = (after ≡ Some (after_fetch shelf)) × (left.probes ≡ probes) × (left.log ≡ []) in
    made_by (name, limit_of kind) kind shelf on (λ bytes. fetches_of (next bytes) (after_fetch shelf)) after end answer (λ e. e.0)
    (λ bytes more. made (next bytes) (after_fetch shelf) answer after probes left more)
    (fetched shelf name (limit_of kind))
    (subst (λ (o : Fetched).
    OnFetched ((answer ≡ Err Read) × end) ((answer ≡ Err (TooLong kind)) × end) (λ bytes. ((answer ≡ Err Memory) × end) ⊎ on bytes) o)
    h.1 h.2)
made leaf shelf answer after probes left h = (0, omega arith, h.1, inl refl)

by_exit : (fetches : List (List ℕ × ℕ)) (shelf : Shelved) (after : Option Shelved) (log : List ℕ) (answer : Answer) (taken taken' : Shown)
    (exit : Exit) → Says log answer taken taken' exit → MakesSo fetches shelf after answer → Makes fetches shelf after exit
by_exit fetches shelf after log answer taken taken' exit says h = (
  h.0,
  h.1,
  h.2,
  elim h.3 [
    | inl all ↦ inl all
    | inr part ↦ inr (part.0, elim says [ inl whole ↦ inl (whole.0 ∙ ap exit_said part.1) | inr failed ↦ inr failed.0 ])
  ],
)

-- a call makes the fetches of its plan in their order, or, if it runs out of memory, the first of them
pub makes : (words : List (List ℕ)) (shelf : Shelved) (after : Option Shelved) (probes left : List Watch) (first last : Shown) (exit : Exit)
    → Ending words (Some shelf) after probes left first last exit → Makes (fetches_of (plan words) shelf) shelf after exit
makes words shelf after probes left first last exit h =
    let kept : Left = record { probes = left; taking = taking_of exit first last; log = h.0 } in
    by_exit (fetches_of (plan words) shelf) shelf after h.0 h.1 first last exit h.3
    (made (plan words) shelf h.1 after probes kept (as_plan (command_of words) words (Some shelf) h.1 after probes kept h.2))

-- over a shelf that shows its files a call makes the fetches of its plan
pub made_over : (words : List (List ℕ)) (shelf after : Option Shelved) (probes left : List Watch) (first last : Shown) (exit : Exit)
    → Ending words shelf after probes left first last exit → IfSome shelf (λ known. Makes (fetches_of (plan words) known) known after exit)
made_over words None after probes left first last exit h = tt
made_over words (Some shelf) after probes left first last exit h = makes words shelf after probes left first last exit h
