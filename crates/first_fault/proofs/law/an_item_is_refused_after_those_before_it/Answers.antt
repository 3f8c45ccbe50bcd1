use Rattle.std.proofs.Common.{◌+◌, length, ap, ◌∙◌, arith, Ok, Err}
use Rattle.first_fault.specs.FirstFault.{first_broken}
use Rattle.first_fault.proofs.Earlier.{refusal, refuses_from}
use Rattle.first_fault.proofs.Ended.{end_from, ended}
use Rattle.first_fault.proofs.Rules.{lowest, none_broken, refused, taken_so}
use Rattle.first_fault.proofs.law.an_item_is_refused_after_those_before_it.Goals as goal

pub returns : goal.returns
returns c = record {
  first = λ take finish at_first after item rule earlier later all breaks.
      refuses_from take finish 1 at_first after item rule earlier later all breaks ∙ ap (refusal rule) (omega arith);
  lowest = λ rules makes before item rule lower higher is kept.
      refused (makes before item) rule (first_broken (rules before item))
      (ap first_broken is ∙ lowest rule lower higher kept);
  right = λ rules makes before item kept.
      taken_so (makes before item) (first_broken (rules before item)) (none_broken (rules before item) kept);
  end = λ take finish at_first after items all. (
    λ rule is.
        end_from take finish 1 at_first after items all
        ∙ ended (1 + length items) (length items + 1) (finish after) (Err rule) is (omega arith),
    λ value is.
        end_from take finish 1 at_first after items all
        ∙ ended (1 + length items) (length items + 1) (finish after) (Ok value) is (omega arith),
  );
}
