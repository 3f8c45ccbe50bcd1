-- From the tick starts of a run to what `expect` says.
use Rattle.std.proofs.Common.{◌≡◌, ℕ, List, Ok, Err, IfOk, Global}
use Rattle.std.specs.declared.alloc.AllocError.{AllocError}
use Rattle.std.specs.declared.result.Result.{Result}
use Rattle.std.specs.declared.vec.Vec.{Vec}
use Rattle.fw_compile.specs.Image.{image_of}
use Rattle.key_file.specs.Histories.{KeyHistory}
use Rattle.layout_reader.specs.Layouts.{KeyLayout}
use Rattle.subsystem.specs.Agreement.{IsAsExpected}
use Rattle.subsystem.specs.Starts.{AreStartsOf}
use Rattle.run_probes.specs.Probes.{Watch}
use Rattle.joint_feed.specs.Stories.{story}
use Rattle.subsystem.specs.LayoutOutcomes.{Outcome}
use Rattle.app_words.specs.declared.words.RunCommand.TheVariants.{Expect}
use Rattle.app_answers.specs.Leaving.{HaveLookedAtAll}
use Rattle.app_runs.specs.RunTexts.{IsRunText, expected_text}

-- its text, if there is memory for one
pub printed : (layout : KeyLayout) (history : KeyHistory) (starts : List ℕ) (result : Result (Vec ℕ Global) AllocError)
    (probes left : List Watch)
    → (are : AreStartsOf (story (image_of layout) history) starts probes left) → IsAsExpected layout history are.run
    → IfOk result (λ text. text.items ≡ expected_text layout history are.run)
    → IfOk result (λ text. (o : Outcome) × IsRunText Expect layout history text.items o
    × HaveLookedAtAll (story (image_of layout) history) o.steps probes left)
printed layout history starts (Ok text) probes left are expected says = (are.run, (are.is, expected, says, tt), are.looked)
printed layout history starts (Err fault) probes left are expected says = tt
