use Rattle.edge_queue.proofs.Law.{are_in_order, are_lawful, releases_fit}
use Rattle.edge_queue.proofs.laws.edges_are_lawful.Goals as goal

pub returns-clause-lawful : goal.returns-clause-lawful
returns-clause-lawful c = are_lawful

pub returns-clause-order : goal.returns-clause-order
returns-clause-order c = are_in_order

pub returns-clause-room : goal.returns-clause-room
returns-clause-room c = releases_fit
