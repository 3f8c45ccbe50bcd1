-- What a command comes to, said or still to be said.
use Rattle.std.proofs.Common.{◌≡◌, ℕ, Bool, List, [], map, string_bytes, String, Global, Some, Ok, refl, ap, sym, subst}
use Rattle.std.specs.Option.{option_map}
use Rattle.std.specs.declared.option.Option.{Option}
use Rattle.std.specs.declared.result.Result.{Result}
use Rattle.std.specs.declared.vec.Vec.{Vec}
use Rattle.run_probes.specs.Probes.{Watch}
use Rattle.io_edge.specs.Said.{Shown}
use Rattle.io_edge.specs.Shelf.{Shelved, after_fetch}
use Rattle.key_file.specs.KeyFile.{history_of}
use Rattle.layout_reader.specs.Documents.{layout_of_document}
use Rattle.layout_reader.specs.Layouts.{KeyLayout}
use Rattle.app_words.specs.declared.kind.Kind.TheVariants as kinds
use Rattle.app_words.specs.declared.refusal.Refusal.{Refusal}
use Rattle.app_answers.specs.declared.spoken.Spoken.{Spoken}
use Rattle.app_words.specs.declared.words.Command.{Command}
use Rattle.app_words.specs.declared.words.Command.TheVariants.{Sample}
use Rattle.app_words.specs.declared.words.PairCommand.{PairCommand}
use Rattle.app_words.specs.declared.words.PairCommand.TheVariants.{OverRun}
use Rattle.app_words.specs.declared.words.RunCommand.{RunCommand}
use Rattle.app_answers.specs.Leaving.{Left}
use Rattle.kbd48_app.specs.Answers.{MayAnswer, MayEnd, MayEndAs}
use Rattle.app_runs.specs.RunAnswers.{MayAnswerSample}
use Rattle.app_answers.specs.Answers.{answer_of}
use Rattle.app_answers.specs.Fetching.{MayGive}
use Rattle.app_answers.specs.FileAnswers.{Answer}
use Rattle.kbd48_app.specs.Plans.{Plan, Runs, Samples, keys_next, pair_plan, plan_of, with_history, with_layout}
use Rattle.app_answers.specs.Spoken.{IsSpoken, May, still_to_say}
use Rattle.app_answers.specs.Taking.{Taking}
use Rattle.app_runs.specs.RunOfText.{MaySayOfText, MaySayOfRun}
use Rattle.app_words.specs.Words.{command_of}
use Rattle.kbd48_app.proofs.FilesAreFound.{end_of_history, found_so}
use Rattle.kbd48_app.proofs.RunPlans.{LayoutOutcome, plan_from}
use Rattle.app_answers.proofs.AreSpoken.{left_after, left_so, spoken_on, unsaid_so}

-- after both files
module _ (command : RunCommand) (first second : List ℕ) (shelf on last : Option Shelved)
    (file keys : Vec ℕ Global) (layout : KeyLayout) (text : List ℕ)
    (gives : MayGive kinds.Layout first shelf (Ok file)) (fetched : on ≡ option_map after_fetch shelf)
    (is : layout_of_document file.items ≡ Ok layout)
    (given : MayGive kinds.Keys second on (Ok keys)) (then : last ≡ option_map after_fetch on) (same : text ≡ keys.items) where
  ran_over : (answer : Answer) (probes : List Watch) (left : Left) → MaySayOfText command layout text answer probes left
      → MayEnd (pair_plan (OverRun command) first second) shelf answer last probes left
  ran_over answer probes left says_so =
      found_so kinds.Layout first (plan_from (Runs command) second) shelf on last answer probes left file gives fetched
      (subst (λ (o : LayoutOutcome). MayEnd (with_layout (keys_next (Runs command) second) o) on answer last probes left) (sym is)
      (found_so kinds.Keys second (λ t. with_history (Runs command layout) (history_of layout t)) on last last answer probes left keys given
      then
      (subst (λ (t : List ℕ). MayEnd (with_history (Runs command layout) (history_of layout t)) last answer last probes left)
      same (end_of_history (MaySayOfRun command layout probes) (Runs command layout) last answer probes left
      (λ history h. (h.0, refl, h.1)) (history_of layout text) says_so))))

  -- what a run over a layout and a key file puts is what its command may answer of both files
  pub ran_spoken : (probes left : List Watch) (result : Result Spoken Refusal) (x y : Shown)
      → IsSpoken (λ answer taking log. MaySayOfText command layout text answer probes (left_after left taking log)) result x y
      → IsSpoken (λ answer taking log.
      MayEnd (pair_plan (OverRun command) first second) shelf answer last probes (left_after left taking log)) result x y
  ran_spoken probes left result x y h =
      spoken_on (λ answer taking log. MaySayOfText command layout text answer probes (left_after left taking log))
      (λ answer taking log. MayEnd (pair_plan (OverRun command) first second) shelf answer last probes (left_after left taking log))
      (λ answer taking log k. ran_over answer probes (left_after left taking log) k) result x y h

-- a command over two files, by what it is
pub pair_by : (c d : PairCommand) (first second : List ℕ) (shelf after : Option Shelved) (probes left : List Watch)
    (result : Result Spoken Refusal) (x y : Shown) → c ≡ d
    → IsSpoken (λ answer taking log. MayEnd (pair_plan d first second) shelf answer after probes (left_after left taking log)) result x y
    → IsSpoken (λ answer taking log. MayEnd (pair_plan c first second) shelf answer after probes (left_after left taking log)) result x y
pair_by c d first second shelf after probes left result x y is h =
    subst (λ (k : PairCommand).
    IsSpoken (λ answer taking log. MayEnd (pair_plan k first second) shelf answer after probes (left_after left taking log))
    result x y) (sym is) h

-- one that leaves the probes alone, and says nothing itself
pub pair_unsaid : (c d : PairCommand) (first second : List ℕ) (shelf after : Option Shelved) (probes : List Watch)
    (said : Result (Vec ℕ Global) Refusal) (result : Result Spoken Refusal)
    (x : Shown) → c ≡ d → result ≡ still_to_say said
    → ((all : List Watch) (taking : Taking) → MayEnd (pair_plan d first second) shelf (answer_of said) after all (left_so all taking))
    → IsSpoken (λ answer taking log. MayEnd (pair_plan c first second) shelf answer after probes (left_after probes taking log)) result x x
pair_unsaid c d first second shelf after probes said result x is so h =
    pair_by c d first second shelf after probes probes result x x is
    (unsaid_so (λ answer taking log. MayEnd (pair_plan d first second) shelf answer after probes (left_after probes taking log))
    said result x so (h probes))

-- the same of the words
module _ (words : List (String Global)) (shelf after : Option Shelved) (command : Command) (plan : Plan) (probes left : List Watch)
    (is : command_of (map string_bytes words) ≡ Some command) (same : plan ≡ plan_of (Some command) (map string_bytes words))
    (result : Result Spoken Refusal) where
  abbrev pub MaySay : May
  MaySay answer taking log = MayAnswer (map string_bytes words) shelf answer after probes (left_after left taking log)

  -- what a plan puts is what the words that name it may answer
  pub spoken_as : (x y : Shown) → IsSpoken (λ answer taking log. MayEnd plan shelf answer after probes (left_after left taking log)) result x y
      → IsSpoken MaySay result x y
  spoken_as x y h =
      spoken_on (λ answer taking log. MayEnd plan shelf answer after probes (left_after left taking log)) MaySay
      (λ answer taking log k.
      subst (λ (c : Option Command). MayEndAs c (map string_bytes words) shelf answer after probes (left_after left taking log)) (sym is)
      (subst (λ (p : Plan). MayEnd p shelf answer after probes (left_after left taking log)) same k)) result x y h

  -- nothing of it is said yet
  pub unsaid_as : (said : Result (Vec ℕ Global) Refusal) (x : Shown) → result ≡ still_to_say said
      → ((taking : Taking) → MayEnd plan shelf (answer_of said) after probes (left_so left taking)) → IsSpoken MaySay result x x
  unsaid_as said x so h =
      spoken_as x x (unsaid_so (λ answer taking log. MayEnd plan shelf answer after probes (left_after left taking log)) said result x so h)

-- `sample` fetches nothing
pub sample_spoken : (words : List (String Global)) (shelf : Option Shelved) (count n : ℕ) (debounced : Bool) (probes left : List Watch)
    (result : Result Spoken Refusal) (x y : Shown)
    → command_of (map string_bytes words) ≡ Some (Sample count debounced)
    → n ≡ count → IsSpoken (λ answer taking log. MayAnswerSample n debounced answer probes left × (log ≡ [])) result x y
    → IsSpoken (λ answer taking log. MayAnswer (map string_bytes words) shelf answer shelf probes (left_after left taking log)) result x y
sample_spoken words shelf count n debounced probes left result x y is same h =
    spoken_as words shelf shelf (Sample count debounced) (Samples n debounced) probes left is (ap (λ k. Samples k debounced) same) result x y
    (spoken_on (λ answer taking log. MayAnswerSample n debounced answer probes left × (log ≡ []))
    (λ answer taking log. MayEnd (Samples n debounced) shelf answer shelf probes (left_after left taking log))
    (λ answer taking log k. (k.0, refl, k.1)) result x y h)
