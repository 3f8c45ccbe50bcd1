use Rattle.std.proofs.Common.{refl}
use Rattle.model_keyboard.proofs.Once.{offers_first, sent_leaves, reset_leaves, got_leaves}
use Rattle.model_keyboard.proofs.Adds.{rest_adds, stays_in_line, cut_is_offered}
use Rattle.model_keyboard.proofs.laws.sent_once.Goals as goal

pub returns-clause-offers : goal.returns-clause-offers
returns-clause-offers c = offers_first

pub returns-clause-sends : goal.returns-clause-sends
returns-clause-sends c = sent_leaves

pub returns-clause-resets : goal.returns-clause-resets
returns-clause-resets c = reset_leaves

pub returns-clause-keeps : goal.returns-clause-keeps
returns-clause-keeps c = record {
  inhibited = λ keys k. refl;
  idle = λ keys k. refl;
  cut = λ keys k. refl;
}

pub returns-clause-commands : goal.returns-clause-commands
returns-clause-commands c = got_leaves

pub returns-clause-rest : goal.returns-clause-rest
returns-clause-rest c = rest_adds

pub returns-clause-line : goal.returns-clause-line
returns-clause-line c = stays_in_line

pub returns-clause-cut : goal.returns-clause-cut
returns-clause-cut c = cut_is_offered
