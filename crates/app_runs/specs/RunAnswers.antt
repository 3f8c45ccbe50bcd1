-- What may be answered of the run of a layout, and of a load on the sample layout.
use Rattle.std.specs.Prelude.{◌≡◌, ◌⊎◌, ℕ, Bool, List, Ok, Err}
use Rattle.run_probes.specs.Probes.{Watch}
use Rattle.key_file.specs.Histories.{KeyHistory}
use Rattle.layout_reader.specs.Layouts.{KeyLayout}
use Rattle.subsystem.specs.LayoutOutcomes.{Outcome}
use Rattle.app_words.specs.declared.refusal.Refusal.TheVariants.{Memory}
use Rattle.app_words.specs.declared.words.RunCommand.{RunCommand}
use Rattle.app_answers.specs.FileAnswers.{Answer}
use Rattle.app_answers.specs.Leaving.{HaveLookedAtAll, Left}
use Rattle.app_runs.specs.RunTexts.{AreLeft, AreLeftWithoutMemory, IsRunText}
use Rattle.app_runs.specs.Sampling.{IsSampleText, sample_story}

-- what may be answered of the run of a layout under a history, at which the probes look
abbrev pub MayAnswerRun : RunCommand → KeyLayout → KeyHistory → Answer → List Watch → Left → Type 0
MayAnswerRun command layout history answer probes left =
    ((answer ≡ Err Memory) × AreLeftWithoutMemory command layout history probes left.probes)
    ⊎ ((text : List ℕ) × (run : Outcome) × IsRunText command layout history text run × (answer ≡ Ok text)
    × AreLeft command layout history run left.taking probes left.probes)

-- what may be answered of the run of so many strokes, with a debounce or without; no memory runs out once it has begun
abbrev pub MayAnswerSample : ℕ → Bool → Answer → List Watch → List Watch → Type 0
MayAnswerSample count debounced answer probes left =
    ((answer ≡ Err Memory) × (left ≡ probes))
    ⊎ ((text : List ℕ) × (run : Outcome) × IsSampleText count debounced text run × (answer ≡ Ok text)
    × HaveLookedAtAll (sample_story count debounced) run.steps probes left)
