-- What is said of a capture, after its file was found.
use Rattle.std.proofs.Common.{◌≡◌, ℕ, List, Global, Ok, refl, subst}
use Rattle.std.specs.Option.{option_map}
use Rattle.std.specs.declared.option.Option.{Option}
use Rattle.std.specs.declared.result.Result.{Result}
use Rattle.std.specs.declared.vec.Vec.{Vec}
use Rattle.run_probes.specs.Probes.{Watch}
use Rattle.io_edge.specs.Said.{Shown}
use Rattle.io_edge.specs.Shelf.{Shelved, after_fetch}
use Rattle.app_words.specs.declared.kind.Kind.TheVariants as kinds
use Rattle.app_words.specs.declared.refusal.Refusal.{Refusal}
use Rattle.app_answers.specs.declared.spoken.Spoken.{Spoken}
use Rattle.app_answers.specs.Captures.{MayAnswerCapture}
use Rattle.app_answers.specs.Fetching.{MayGive}
use Rattle.app_answers.specs.Spoken.{IsSpoken}
use Rattle.app_answers.proofs.AreSpoken.{left_after, spoken_on}
use Rattle.kbd48_app.specs.Answers.{MayEnd}
use Rattle.kbd48_app.specs.Plans.{Captures, capture_plan}
use Rattle.kbd48_app.proofs.FilesAreFound.{found_so}

module _ (clk dat name : List ℕ) (shelf on : Option Shelved) (file : Vec ℕ Global) (dump : List ℕ)
    (gives : MayGive kinds.Vcd name shelf (Ok file)) (fetched : on ≡ option_map after_fetch shelf) (same : dump ≡ file.items) where
  -- what is put of a dump is what `capture` may answer of its file
  pub capture_spoken : (probes : List Watch) (result : Result Spoken Refusal) (x y : Shown)
      → IsSpoken (λ answer taking log. MayAnswerCapture clk dat dump answer log) result x y
      → IsSpoken (λ answer taking log. MayEnd (capture_plan clk dat name) shelf answer on probes (left_after probes taking log)) result x y
  capture_spoken probes result x y h =
      spoken_on (λ answer taking log. MayAnswerCapture clk dat dump answer log)
      (λ answer taking log. MayEnd (capture_plan clk dat name) shelf answer on probes (left_after probes taking log))
      (λ answer taking log k.
      found_so kinds.Vcd name (Captures clk dat) shelf on on answer probes (left_after probes taking log) file gives fetched
      (subst (λ (d : List ℕ). MayEnd (Captures clk dat d) on answer on probes (left_after probes taking log)) same (k, refl, refl)))
      result x y h
