use Rattle.law_agreement.proofs.AnyStart.{any_count}
use Rattle.law_agreement.proofs.goes_by_its_columns.Goals as goal

pub returns : goal.returns
returns c = record { any_count = any_count }
