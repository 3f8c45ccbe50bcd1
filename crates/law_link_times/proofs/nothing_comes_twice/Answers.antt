use Rattle.law_link_times.proofs.Twice.{comes_exactly, all_comes_once, nothing_else_arrives}
use Rattle.law_link_times.proofs.nothing_comes_twice.Goals as goal

pub returns-clause-exactly : goal.returns-clause-exactly
returns-clause-exactly c = comes_exactly

pub returns-clause-once : goal.returns-clause-once
returns-clause-once c = all_comes_once

pub returns-clause-all : goal.returns-clause-all
returns-clause-all c = nothing_else_arrives
