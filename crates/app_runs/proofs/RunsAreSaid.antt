-- What `run`, `expect` and `sample` may say, after files that were judged.
use Rattle.std.proofs.Common.{◌≡◌, ◌≤◌, ℕ, Bool, List, [], Global, Ok, Err, inr, refl, ap, sym, subst}
use Rattle.std.specs.Prelude.{OnErr, OnOk}
use Rattle.std.specs.declared.result.Result.{Result}
use Rattle.std.specs.declared.vec.Vec.{Vec}
use Rattle.fw_compile.specs.Image.{image_of}
use Rattle.run_probes.specs.Probes.{Watch}
use Rattle.io_edge.specs.Said.{IsBrokenOff, IsSaid, Shown}
use Rattle.io_edge.specs.declared.sink.SinkFault.{SinkFault}
use Rattle.joint_feed.specs.Stories.{Story, story}
use Rattle.key_file.specs.Accepted.{IsAcceptedFor}
use Rattle.key_file.specs.Histories.{KeyHistory}
use Rattle.key_file.specs.KeyFile.{history_of}
use Rattle.layout_reader.specs.Layouts.{IsKeyLayout, KeyLayout}
use Rattle.run_loop.specs.declared.ending.Ending.TheVariants.{TickStart}
use Rattle.run_loop.specs.Running.{IsOverAfter}
use Rattle.subsystem.specs.Agreement.{RunsAsExpected}
use Rattle.law_runs_agree.specs.Outcomes.{RunsComeToOutcomes}
use Rattle.subsystem.specs.LayoutOutcomes.{IsOutcome, Outcome}
use Rattle.app_words.specs.declared.refusal.Refusal.{Refusal}
use Rattle.app_answers.specs.declared.spoken.Spoken.{Spoken}
use Rattle.app_answers.specs.declared.spoken.Spoken.TheVariants.{Said}
use Rattle.app_words.specs.declared.words.RunCommand.{RunCommand}
use Rattle.app_words.specs.declared.words.RunCommand.TheVariants.{Log, Trace}
use Rattle.app_answers.specs.Answers.{answer_of}
use Rattle.app_answers.specs.Leaving.{Left, HaveLookedAtAll}
use Rattle.app_runs.specs.RunAnswers.{MayAnswerRun, MayAnswerSample}
use Rattle.app_answers.specs.FileAnswers.{Answer}
use Rattle.app_runs.specs.RunTexts.{HaveLookedToCut, IsRunText, run_text}
use Rattle.app_runs.specs.Sampling.{sample_history, sample_layout, sample_story, sample_text}
use Rattle.app_answers.specs.Spoken.{IsSpoken, May, still_to_say}
use Rattle.app_answers.specs.Taking.{Taking, Whole, CutOff}
use Rattle.app_runs.specs.RunOfText.{MaySayOfText, MaySayOfRun}
use Rattle.app_answers.proofs.AreSpoken.{left_after, left_so, unsaid_so, with_history}
use Rattle.run_wires.specs.Ending.{IsTraceBrokenOff, IsTraceSaid}
use Rattle.run_wires.specs.Trace.{trace_to}
use Rattle.law_wires_heard.specs.Hearing.{HearsAll}
use Rattle.key_file.proofs.Lawful.{lawful_for}
use Rattle.app_runs.proofs.StrokesAreAccepted.{sample_accepted}

-- the run of a key file without a fault
pub ran : (command : RunCommand) (layout : KeyLayout) (text : List ℕ) (history : KeyHistory)
    (answer : Answer) (probes : List Watch) (left : Left)
    → history_of layout text ≡ Ok history
    → left.log ≡ [] → MayAnswerRun command layout history answer probes left → MaySayOfText command layout text answer probes left
ran command layout text history answer probes left is alone may =
    with_history (MaySayOfRun command layout probes) (history_of layout text) history answer probes left is (may, alone)

module _ (ticks steps : Bool) (layout : KeyLayout) (text : List ℕ) (history : KeyHistory) (is : history_of layout text ≡ Ok history) where
  module _ (law : RunsAsExpected) (sound : IsKeyLayout layout) (accepted : IsAcceptedFor layout history)
      (s : Story) (this : s ≡ story (image_of layout) history)
      (run : Outcome) (made : IsOutcome s run) (probes left : List Watch) where
    outcome : IsOutcome (story (image_of layout) history) run
    outcome = subst (λ (t : Story). IsOutcome t run) this made

    said_so : IsRunText (Log ticks steps) layout history (run_text ticks steps run) run
    said_so = (outcome, law layout history run sound (lawful_for accepted) outcome, refl, tt)

    -- it is said whole
    pub reported_whole : HaveLookedAtAll s run.steps probes left
        → MaySayOfText (Log ticks steps) layout text (Ok (run_text ticks steps run)) probes (left_so left Whole)
    reported_whole looked =
        ran (Log ticks steps) layout text history (Ok (run_text ticks steps run)) probes (left_so left Whole) is refl
        (inr (
          run_text ticks steps run,
          run,
          said_so,
          refl,
          subst (λ (t : Story). HaveLookedAtAll t run.steps probes left) this looked,
        ))

    -- it is broken off
    pub reported_in_part : (x y : Shown) → HaveLookedToCut ticks steps s run x y probes left
        → MaySayOfText (Log ticks steps) layout text (Ok (run_text ticks steps run)) probes (left_so left (CutOff x y))
    reported_in_part x y looked =
        ran (Log ticks steps) layout text history (Ok (run_text ticks steps run)) probes (left_so left (CutOff x y)) is refl
        (inr (
          run_text ticks steps run,
          run,
          said_so,
          refl,
          subst (λ (t : Story). HaveLookedToCut ticks steps t run x y probes left) this looked,
        ))

  -- what the run said while it was made
  pub streamed : (law : RunsAsExpected)
      → IsKeyLayout layout → IsAcceptedFor layout history → (s : Story) → s ≡ story (image_of layout) history
      → (result : Result (Unit {0}) SinkFault) (x y : Shown) (probes left : List Watch)
      → OnOk result ((run : Outcome) × IsOutcome s run × IsSaid x y (run_text ticks steps run) × HaveLookedAtAll s run.steps probes left)
      → OnErr result ((run : Outcome) × IsOutcome s run × IsBrokenOff x y (run_text ticks steps run)
      × HaveLookedToCut ticks steps s run x y probes left)
      → IsSpoken (λ answer taking log. MaySayOfText (Log ticks steps) layout text answer probes (left_after left taking log))
      (Ok (Said result)) x y
  streamed law sound accepted s this (Ok done) x y probes left h k =
      (run_text ticks steps h.0, [], reported_whole law sound accepted s this h.0 h.1 probes left h.3, h.2)
  streamed law sound accepted s this (Err fault) x y probes left h k =
      (Ok (run_text ticks steps k.0), [], reported_in_part law sound accepted s this k.0 k.1 probes left x y k.3, k.2)

-- a text that was said at the end, whole or not
said_at_end : (may : May) (result : Result (Unit {0}) SinkFault) (text : List ℕ) (x y : Shown)
    → ((taking : Taking) → may (Ok text) taking [])
    → OnOk result (IsSaid x y text) → OnErr result (IsBrokenOff x y text) → IsSpoken may (Ok (Said result)) x y
said_at_end may (Ok done) text x y h said broken = (text, [], h Whole, said)
said_at_end may (Err fault) text x y h said broken = (Ok text, [], h (CutOff x y), broken)

-- what `sample` puts is the text that it may answer, whole or broken off
pub said_sample : (count : ℕ) (debounced : Bool) (result : Result (Unit {0}) SinkFault) (text : List ℕ) (x y : Shown) (probes left : List Watch)
    → MayAnswerSample count debounced (Ok text) probes left
    → OnOk result (IsSaid x y text) → OnErr result (IsBrokenOff x y text)
    → IsSpoken (λ answer taking log. MayAnswerSample count debounced answer probes left × (log ≡ [])) (Ok (Said result)) x y
said_sample count debounced result text x y probes left may said broken =
    said_at_end (λ answer taking log. MayAnswerSample count debounced answer probes left × (log ≡ []))
    result text x y (λ taking. (may, refl)) said broken

-- what `sample` says
pub sampled : (count : ℕ) (debounced : Bool)
    → count ≤ 10000 → RunsAsExpected → IsKeyLayout (sample_layout debounced)
    → (s : Story) → s ≡ sample_story count debounced → (text : List ℕ) (probes left : List Watch)
    → ((run : Outcome) × IsOutcome s run × (text ≡ sample_text count run) × HaveLookedAtAll s run.steps probes left)
    → MayAnswerSample count debounced (Ok text) probes left
sampled count debounced few law sound s this text probes left h =
    let made : IsOutcome (sample_story count debounced) h.0 = subst (λ (t : Story). IsOutcome t h.0) this h.1 in
    inr (
      text,
      h.0,
      (made, law (sample_layout debounced) (sample_history count) h.0 sound (lawful_for (sample_accepted count few debounced)) made, h.2),
      refl,
      subst (λ (t : Story). HaveLookedAtAll t h.0.steps probes left) this h.3,
    )

-- what `trace` says, which leaves the probes alone
module _ (seen : Bool) (layout : KeyLayout) (text : List ℕ) (history : KeyHistory) (is : history_of layout text ≡ Ok history) (probes : List Watch) where
  module _ (law : RunsAsExpected) (outcomes : RunsComeToOutcomes)
      (heard : HearsAll (story (image_of layout) history)) (sound : IsKeyLayout layout) (accepted : IsAcceptedFor layout history)
      (x y : Shown) where
    abbrev s : Story
    s = story (image_of layout) history

    trace_reported : (k : ℕ) → IsOverAfter TickStart s k → (taking : Taking)
        → MaySayOfText (Trace seen) layout text (Ok (trace_to seen s k)) probes (left_so probes taking)
    trace_reported k over taking =
        let made = outcomes layout history k sound (lawful_for accepted) over in
        let run = made.0 in
        ran (Trace seen) layout text history (Ok (trace_to seen s k)) probes (left_so probes taking) is refl
        (inr (trace_to seen s k, run, (made.1, law layout history run sound (lawful_for accepted) made.1, ap (trace_to seen s) (sym made.2), heard), refl, refl))

    -- it is said whole
    pub traced : (done : Unit {0}) → IsTraceSaid seen s x y
        → IsSpoken (λ answer taking log. MaySayOfText (Trace seen) layout text answer probes (left_after probes taking log)) (Ok (Said (Ok done))) x y
    traced done h = (trace_to seen s h.steps, [], trace_reported h.steps h.is_over Whole, h.said)

    -- it is broken off
    pub trace_stopped : (fault : SinkFault) → IsTraceBrokenOff seen s x y
        → IsSpoken (λ answer taking log. MaySayOfText (Trace seen) layout text answer probes (left_after probes taking log))
        (Ok (Said (Err fault))) x y
    trace_stopped fault h = (Ok (trace_to seen s h.steps), [], trace_reported h.steps h.is_over (CutOff x y), h.broken)

-- `run` and `expect`, of a layout and a key file's text
pub said_by_run : (c d : RunCommand) (layout : KeyLayout) (text : List ℕ) (probes left : List Watch)
    (result : Result Spoken Refusal) (x y : Shown) → c ≡ d
    → IsSpoken (λ answer taking log. MaySayOfText d layout text answer probes (left_after left taking log)) result x y
    → IsSpoken (λ answer taking log. MaySayOfText c layout text answer probes (left_after left taking log)) result x y
said_by_run c d layout text probes left result x y is h =
    subst (λ (k : RunCommand). IsSpoken (λ answer taking log. MaySayOfText k layout text answer probes (left_after left taking log)) result x y)
    (sym is) h

-- a report that isn't put yet is what the same command may say once it is
pub reported_unsaid : (c d : RunCommand) (layout : KeyLayout) (text : List ℕ) (probes left : List Watch)
    (said : Result (Vec ℕ Global) Refusal) (result : Result Spoken Refusal) (x : Shown) → c ≡ d
    → result ≡ still_to_say said → ((taking : Taking) → MaySayOfText d layout text (answer_of said) probes (left_so left taking))
    → IsSpoken (λ answer taking log. MaySayOfText c layout text answer probes (left_after left taking log)) result x x
reported_unsaid c d layout text probes left said result x is so h =
    said_by_run c d layout text probes left result x x is
    (unsaid_so (λ answer taking log. MaySayOfText d layout text answer probes (left_after left taking log)) said result x so h)
