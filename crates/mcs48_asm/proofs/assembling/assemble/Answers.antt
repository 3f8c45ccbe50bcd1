use Rattle.std.proofs.Common.{◌≡◌, ◌∙◌, map, ap, subst}
use Rattle.std.specs.Char.{to_ascii_uppercase}
use Rattle.std.specs.Str.Lines.{lines}
use Rattle.mcs48_asm.specs.Answers.{IsOutcome}
use Rattle.mcs48_asm.specs.Assembly.{outcome_of, assembly_of}
use Rattle.mcs48_asm.specs.Names.{definitions, value_named}
use Rattle.mcs48_asm.specs.Capped.{kept_places}
use Rattle.mcs48_asm.specs.Kept.{kept_line, kept_value}
use Rattle.mcs48_asm.proofs.Large.{exact-numbers}
use Rattle.mcs48_asm.proofs.Outcomes.{same_names}
use Rattle.mcs48_asm.proofs.RoundTrip.{round_trip}
use Rattle.mcs48_asm.proofs.assembling.assemble.Goals as goal

pub returns : goal.returns
returns c =
    let names = kept_value c.in_ok-names.names.entries in
    let first : c.as_slice.result.now ≡ map to_ascii_uppercase c.args.text.now = c.as_slice.ensures.value ∙ c.in_ok-upper.ensures in
    let again : c.as_slice-2.result.now ≡ map to_ascii_uppercase c.args.text.now = c.as_slice-2.ensures.value ∙ c.in_ok-upper.ensures in
    let kept =
    same_names c.outcome_of.result (map to_ascii_uppercase c.args.text.now) names
    (λ q. c.in_ok-names.ensures q ∙ ap (λ t. value_named (definitions (kept_places 0 (map kept_line (lines t)))) q) first)
    (subst (λ t. IsOutcome c.outcome_of.result (outcome_of names (kept_places 0 (map kept_line (lines t))))) again c.outcome_of.ensures) in
    let outcome : IsOutcome c.outcome_of.result (assembly_of c.args.text.now) =
    subst (IsOutcome c.outcome_of.result) (exact-numbers (lines (map to_ascii_uppercase c.args.text.now))) kept in
    record {
      outcome = outcome;
      listing = λ memory is text_is.
          subst (IsOutcome c.outcome_of.result) (ap assembly_of text_is ∙ round_trip memory is.0 is.1) outcome;
    }
