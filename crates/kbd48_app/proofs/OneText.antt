-- Over a shelf whose files are known two commands over a layout and a key file say one text, where of each layout and
-- history they say one.
use Rattle.std.proofs.Common.{◌≡◌, ◌⊎◌, ℕ, List, [], Some, Ok, Err, inl, inr, subst}
use Rattle.std.specs.declared.option.Option.{Option}
use Rattle.run_probes.specs.Probes.{Watch}
use Rattle.io_edge.specs.Shelf.{Shelved, Fetched, Fails, Long, Found, after_fetch, fetched}
use Rattle.key_file.specs.Histories.{KeyHistory}
use Rattle.layout_reader.specs.Layouts.{KeyLayout}
use Rattle.app_words.specs.declared.kind.Kind.{Kind}
use Rattle.app_words.specs.declared.refusal.Refusal.{Refusal}
use Rattle.app_words.specs.declared.refusal.Refusal.TheVariants.{Read, TooLong, Memory}
use Rattle.app_words.specs.declared.words.PairCommand.TheVariants.{OverRun}
use Rattle.app_words.specs.declared.words.RunCommand.{RunCommand}
use Rattle.app_answers.specs.Answers.{MayAnswerOf}
use Rattle.app_runs.specs.RunAnswers.{MayAnswerRun}
use Rattle.kbd48_app.specs.Answers.{MayEnd, OnFetched}
use Rattle.app_answers.specs.Leaving.{Left}
use Rattle.app_words.specs.Kinds.{limit_of}
use Rattle.kbd48_app.specs.Plans.{Plan, Fetches, Gives, Runs, pair_plan}
use Rattle.kbd48_app.proofs.PlansTogether.{histories}

-- a text is no refusal
pub no_refusal : (text : List ℕ) (refusal : Refusal) → Ok text ≡ Err refusal → ⊥
no_refusal text refusal h = absurd (cc h)

-- and no answer in place of one
no_text : (a b text : List ℕ) (refusal : Refusal) → MayAnswerOf (Err refusal) (Ok text) → a ≡ b
no_text a b text refusal (inl none) = absurd (no_refusal text Memory none)
no_text a b text refusal (inr said) = absurd (no_refusal text refusal said)

-- what two plans print over one shelf that tells its files is one text
abbrev pub PrintsOne : Plan → Plan → Type 0
PrintsOne p q = (shelf : Shelved) (a b : List ℕ) (after later : Option Shelved) (probes : List Watch) (left others : Left)
    → MayEnd p (Some shelf) (Ok a) after probes left → MayEnd q (Some shelf) (Ok b) later probes others → a ≡ b

-- what was found, of two fetches that come to the same
found_one : (a b : List ℕ) (f g : List ℕ → Type 0) (fails fails' long long' : Type 0) → (fails → ⊥) → (long → ⊥)
    → ((bytes : List ℕ) → f bytes → g bytes → a ≡ b)
    → (outcome : Fetched) → OnFetched fails long f outcome → OnFetched fails' long' g outcome → a ≡ b
found_one a b f g fails fails' long long' unfetched cut h Fails e k = absurd (unfetched e)
found_one a b f g fails fails' long long' unfetched cut h Long e k = absurd (cut e)
found_one a b f g fails fails' long long' unfetched cut h (Found bytes) e k = h bytes e k

-- after a fetch
fetch_one : (kind : Kind) (name : List ℕ) (next other : List ℕ → Plan) → ((bytes : List ℕ) → PrintsOne (next bytes) (other bytes))
    → PrintsOne (Fetches kind name next) (Fetches kind name other)
fetch_one kind name next other h shelf a b after later probes left others e k =
    let on : Option Shelved = Some (after_fetch shelf) in
    let end : Type 0 = (after ≡ on) × (left.probes ≡ probes) × (left.log ≡ []) in
    let end' : Type 0 = (later ≡ on) × (others.probes ≡ probes) × (others.log ≡ []) in
    let f : List ℕ → Type 0 = λ bytes. ((Ok a ≡ Err Memory) × end) ⊎ MayEnd (next bytes) on (Ok a) after probes left in
    let g : List ℕ → Type 0 = λ bytes. ((Ok b ≡ Err Memory) × end') ⊎ MayEnd (other bytes) on (Ok b) later probes others in
    found_one a b f g
    ((Ok a ≡ Err Read) × end) ((Ok b ≡ Err Read) × end')
    ((Ok a ≡ Err (TooLong kind)) × end) ((Ok b ≡ Err (TooLong kind)) × end')
    (λ r. no_refusal a Read r.0) (λ r. no_refusal a (TooLong kind) r.0)
    (λ bytes x y. elim x [
      | inl none ↦ absurd (no_refusal a Memory none.0)
      | inr more ↦ elim y [
        | inl none ↦ absurd (no_refusal b Memory none.0)
        | inr too ↦ h bytes (after_fetch shelf) a b after later probes left others more too
      ]
    ])
    (fetched shelf name (limit_of kind))
    (subst (λ (o : Fetched). OnFetched ((Ok a ≡ Err Read) × end) ((Ok a ≡ Err (TooLong kind)) × end) f o) e.1 e.2)
    (subst (λ (o : Fetched). OnFetched ((Ok b ≡ Err Read) × end') ((Ok b ≡ Err (TooLong kind)) × end') g o) k.1 k.2)

refused_one : (refusal : Refusal) → PrintsOne (Gives (Err refusal)) (Gives (Err refusal))
refused_one refusal shelf a b after later probes left others e k = no_text a b a refusal e.0

-- two commands that answer one text for each layout and history print one text for the same two files
pub pairs_one : (c d : RunCommand)
    → ((layout : KeyLayout) (history : KeyHistory) (a b : List ℕ) (probes : List Watch) (left others : Left)
    → MayAnswerRun c layout history (Ok a) probes left → MayAnswerRun d layout history (Ok b) probes others → a ≡ b)
    → (layout keys : List ℕ) → PrintsOne (pair_plan (OverRun c) layout keys) (pair_plan (OverRun d) layout keys)
pairs_one c d h = histories PrintsOne fetch_one (λ refusal other. refused_one refusal) (Runs c) (Runs d)
    (λ layout history shelf a b after later probes left others e k. h layout history a b probes left others e.0 k.0)
