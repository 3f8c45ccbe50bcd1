-- Items that break no rule, and the end behind them.
use Rattle.std.proofs.Common.{◌≡◌, ℕ, ◌+◌, List, [], ◌∷◌, length, Ok, Err, ap, ◌∙◌, arith}
use Rattle.std.specs.declared.result.Result.{Result}
use Rattle.first_fault.specs.FirstFault.{Fault, and_then, outcome_from, at_item}
use Rattle.first_fault.specs.Law.{taken}

module _ (take : ℕ → ℕ → Result ℕ ℕ) (finish : ℕ → Result ℕ ℕ) where
  one_more : (number after : ℕ) (items : List ℕ) (result : Result ℕ ℕ) (end : Result ℕ (Fault ℕ))
      → and_then result (λ next. taken take next items) ≡ Ok after
      → ((next : ℕ) → taken take next items ≡ Ok after → outcome_from take finish (number + 1) next items ≡ end)
      → and_then (at_item number result) (λ next. outcome_from take finish (number + 1) next items) ≡ end
  one_more number after items (Ok next) end all then = then next all
  one_more number after items (Err broken) end all then = absurd cc

  -- the end is judged with what all items came to
  pub end_from : (number before after : ℕ) (items : List ℕ) → taken take before items ≡ Ok after
      → outcome_from take finish number before items ≡ at_item (number + length items) (finish after)
  end_from number before after [] all =
      let same : before ≡ after = cc in
      ap (λ b. at_item number (finish b)) same ∙ ap (λ n. at_item n (finish after)) (omega arith)
  end_from number before after (first ∷ items) all =
      one_more number after items (take before first) (at_item (number + length (first ∷ items)) (finish after)) all
      (λ next rest. end_from (number + 1) next after items rest ∙ ap (λ n. at_item n (finish after)) (omega arith))

-- what the end comes to
pub ended : (number one : ℕ) (result end : Result ℕ ℕ) → result ≡ end → number ≡ one → at_item number result ≡ at_item one end
ended number one result end is same = ap (λ n. at_item n result) same ∙ ap (at_item one) is
