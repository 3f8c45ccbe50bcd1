-- What the names of a text mean.
use Rattle.std.proofs.Common.{◌≡◌, ℕ, List, map, subst}
use Rattle.std.specs.Str.Lines.{lines}
use Rattle.std.specs.declared.result.Result.{Result}
use Rattle.mcs48_isa.specs.declared.image.Image.{Image}
use Rattle.mcs48_asm.specs.declared.fault.AsmFault.{AsmFault}
use Rattle.mcs48_asm.specs.Names.{Meanings, definitions, value_named}
use Rattle.mcs48_asm.specs.Capped.{kept_places}
use Rattle.mcs48_asm.specs.Kept.{kept_line}
use Rattle.mcs48_asm.specs.Assembly.{outcome_of}
use Rattle.mcs48_asm.specs.Answers.{IsOutcome}

-- names that mean the same give the same answer
pub same_names : (answer : Result Image AsmFault) (text : List ℕ) (names : Meanings)
    → ((q : List ℕ) → names q ≡ value_named (definitions (kept_places 0 (map kept_line (lines text)))) q)
    → IsOutcome answer (outcome_of names (kept_places 0 (map kept_line (lines text))))
    → IsOutcome answer (outcome_of (value_named (definitions (kept_places 0 (map kept_line (lines text)))))
    (kept_places 0 (map kept_line (lines text))))
same_names answer text names h =
    let all = kept_places 0 (map kept_line (lines text)) in
    let same : names ≡ value_named (definitions all) = λ i q. h q i in
    subst (λ m. IsOutcome answer (outcome_of m all)) same
