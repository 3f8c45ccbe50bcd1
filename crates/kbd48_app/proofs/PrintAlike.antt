-- `run` without options and `expect` print the same of the same files.
use Rattle.std.proofs.Common.{◌≡◌, ◌⊎◌, ℕ, Bool, true, false, ◌&&◌, List, [], ◌++◌, None}
use Rattle.std.proofs.Common.{Some, Ok, Err, inl, inr, refl, ap, sym, subst, ◌∙◌}
use Rattle.std.specs.Prelude.{if◌then◌else◌}
use Rattle.std.proofs.lemmas.List.{append-nil}
use Rattle.std.specs.declared.option.Option.{Option}
use Rattle.fw_compile.specs.Image.{image_of}
use Rattle.run_probes.specs.Probes.{Watch}
use Rattle.joint_feed.specs.Stories.{story}
use Rattle.io_edge.specs.Shelf.{Shelved}
use Rattle.key_file.specs.Histories.{KeyHistory}
use Rattle.layout_reader.specs.Layouts.{KeyLayout}
use Rattle.model_link.specs.Expected.{expected_log}
use Rattle.subsystem.specs.Agreement.{IsAsExpected}
use Rattle.subsystem.specs.LayoutOutcomes.{Outcome}
use Rattle.subsystem.specs.Texts.{log_text}
use Rattle.law_runs_agree.proofs.RunsAlike.{runs_alike}
use Rattle.app_words.specs.declared.words.Command.{Command}
use Rattle.app_words.specs.declared.words.Command.TheVariants.{OverPair}
use Rattle.app_words.specs.declared.words.PairCommand.TheVariants.{OverRun}
use Rattle.app_words.specs.declared.words.RunCommand.{RunCommand}
use Rattle.app_words.specs.declared.words.RunCommand.TheVariants.{Log, Expect}
use Rattle.app_runs.specs.RunAnswers.{MayAnswerRun}
use Rattle.kbd48_app.specs.Answers.{MayEndAs}
use Rattle.app_answers.specs.Leaving.{Left}
use Rattle.app_answers.specs.FileAnswers.{Answer}
use Rattle.kbd48_app.specs.PrintAlike.{AnswerAlike, leaving, run_words, expect_words}
use Rattle.app_runs.specs.RunTexts.{run_text, expected_text}
use Rattle.app_words.specs.Words.{is_name}
use Rattle.kbd48_app.proofs.PairsAlike.{pairs_alike}
use Rattle.kbd48_app.proofs.OneText.{no_refusal, pairs_one}
use Rattle.app_words.specs.declared.refusal.Refusal.TheVariants.{Memory}

-- a run's text without options is that of its log, which is the one that the model expects
texts_alike : (layout : KeyLayout) (history : KeyHistory) (run : Outcome)
    → IsAsExpected layout history run → run_text false false run ≡ expected_text layout history run
texts_alike layout history run h =
    append-nil (log_text run.log ++ []) ∙ append-nil (log_text run.log) ∙ ap log_text h.log

-- what `run` may say of a layout and a history, `expect` may, and leaves the probes so
expected_for : (layout : KeyLayout) (history : KeyHistory) (answer : Answer) (probes left : List Watch)
    → MayAnswerRun (Log false false) layout history answer probes (leaving left)
    → (kept : List Watch) × MayAnswerRun Expect layout history answer probes (leaving kept) × (kept ≡ left)
expected_for layout history answer probes left (inl none) = (left, inl (none.0, record { steps = 0; goes_on = tt; looked = none.1 }), refl)
expected_for layout history answer probes left (inr h) =
    (left, inr (h.0, h.1, (h.2.0, h.2.1, h.2.2 ∙ texts_alike layout history h.1 h.2.1, tt), h.3, h.4), refl)

-- what `expect` may say, `run` may; where memory runs out it leaves the probes as they were
ran_for : (layout : KeyLayout) (history : KeyHistory) (answer : Answer) (probes left : List Watch)
    → MayAnswerRun Expect layout history answer probes (leaving left)
    → (kept : List Watch) × MayAnswerRun (Log false false) layout history answer probes (leaving kept)
    × ((kept ≡ left) ⊎ (answer ≡ Err Memory))
ran_for layout history answer probes left (inl none) = (probes, inl (none.0, refl), inr none.0)
ran_for layout history answer probes left (inr h) =
    (left, inr (h.0, h.1, (h.2.0, h.2.1, h.2.2 ∙ sym (texts_alike layout history h.1 h.2.1), tt), h.3, h.4), inl refl)

-- and both say one text
one_for : (layout : KeyLayout) (history : KeyHistory) (a b : List ℕ) (probes : List Watch) (left others : Left)
    → MayAnswerRun (Log false false) layout history (Ok a) probes left → MayAnswerRun Expect layout history (Ok b) probes others → a ≡ b
one_for layout history a b probes left others (inl none) k = absurd (no_refusal a Memory none.0)
one_for layout history a b probes left others (inr h) (inl none) = absurd (no_refusal b Memory none.0)
one_for layout history a b probes left others (inr h) (inr k) =
    let x : a ≡ h.0 = cc h.3 in
    let y : b ≡ k.0 = cc k.3 in
    let alike = runs_alike (story (image_of layout) history) h.1 k.1 h.2.0 k.2.0 in
    x ∙ h.2.2 ∙ texts_alike layout history h.1 h.2.1
    ∙ ap (λ (starts : List ℕ). log_text (expected_log layout history starts)) alike.starts ∙ sym k.2.2 ∙ sym y

-- the words have their forms together
abbrev formed : Bool → RunCommand → Option Command
formed b command = if b then Some (OverPair (OverRun command)) else None

expected_by : (b : Bool) (layout keys : List ℕ) (shelf : Option Shelved) (answer : Answer) (after : Option Shelved) (probes left : List Watch)
    → MayEndAs (formed b (Log false false)) (run_words layout keys) shelf answer after probes (leaving left)
    → MayEndAs (formed b Expect) (expect_words layout keys) shelf answer after probes (leaving left)
expected_by true layout keys shelf answer after probes left h =
    let k = pairs_alike (λ a kept l. kept ≡ l) (λ a l. refl) (Log false false) Expect expected_for
    layout keys shelf answer after probes left h in
    subst (λ (v : List Watch). MayEndAs (formed true Expect) (expect_words layout keys) shelf answer after probes (leaving v)) k.2 k.1
expected_by false layout keys shelf answer after probes left h = h

ran_by : (b : Bool) (layout keys : List ℕ) (shelf : Option Shelved) (answer : Answer) (after : Option Shelved) (probes left : List Watch)
    → MayEndAs (formed b Expect) (expect_words layout keys) shelf answer after probes (leaving left)
    → (kept : List Watch) × MayEndAs (formed b (Log false false)) (run_words layout keys) shelf answer after probes (leaving kept)
    × ((kept ≡ left) ⊎ (answer ≡ Err Memory))
ran_by true layout keys shelf answer after probes left h =
    pairs_alike (λ a kept l. (kept ≡ l) ⊎ (a ≡ Err Memory)) (λ a l. inl refl) Expect (Log false false)
    ran_for layout keys shelf answer after probes left h
ran_by false layout keys shelf answer after probes left h = (left, h, inl refl)

one_by : (b : Bool) (layout keys : List ℕ) (shelf : Shelved) (ran expected : List ℕ) (after later : Option Shelved)
    (probes : List Watch) (left others : Left)
    → MayEndAs (formed b (Log false false)) (run_words layout keys) (Some shelf) (Ok ran) after probes left
    → MayEndAs (formed b Expect) (expect_words layout keys) (Some shelf) (Ok expected) later probes others → ran ≡ expected
one_by true layout keys shelf ran expected after later probes left others h k =
    pairs_one (Log false false) Expect one_for layout keys shelf ran expected after later probes left others h k
one_by false layout keys shelf ran expected after later probes left others h k = absurd (cc h.0)

-- `run` without options and `expect` may answer the same of the same files
pub answer_alike : (layout keys : List ℕ) → AnswerAlike layout keys
answer_alike layout keys =
    let b : Bool = is_name layout && is_name keys in
    record {
      expected = λ shelf answer after probes left h. expected_by b layout keys shelf answer after probes left h;
      ran = λ shelf answer after probes left h. ran_by b layout keys shelf answer after probes left h;
      one = λ shelf ran expected after later probes left others h k.
          one_by b layout keys shelf ran expected after later probes left others h k;
    }
