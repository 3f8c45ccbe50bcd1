use Rattle.law_keys_seen.proofs.Taking.{one_later, taken_in_turn}
use Rattle.law_keys_seen.proofs.Ticks.{seen_in_turn}
use Rattle.law_keys_seen.proofs.seen_in_turn.Goals as goal

pub returns : goal.returns
returns c = record { turns = seen_in_turn; taken = taken_in_turn; one_later = one_later }
