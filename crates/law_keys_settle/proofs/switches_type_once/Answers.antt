use Rattle.law_keys_settle.proofs.Once.{types_once}
use Rattle.law_keys_settle.proofs.Taking.{taken_once}
use Rattle.law_keys_settle.proofs.switches_type_once.Goals as goal

pub returns : goal.returns
returns c = record { once = types_once; taken = taken_once }
