use Rattle.model_keyboard.proofs.Order.{in_order, at_most_sixteen}
use Rattle.model_keyboard.proofs.CodesAreWhole.{stays_whole}
use Rattle.model_keyboard.proofs.laws.queue_is_in_order.Goals as goal

pub returns-clause-order : goal.returns-clause-order
returns-clause-order c = in_order

pub returns-clause-sixteen : goal.returns-clause-sixteen
returns-clause-sixteen c = at_most_sixteen

pub returns-clause-codes : goal.returns-clause-codes
returns-clause-codes c = stays_whole
