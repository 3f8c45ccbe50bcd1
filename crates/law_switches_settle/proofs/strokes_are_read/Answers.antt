use Rattle.law_switches_settle.proofs.Arrivals as arrivals
use Rattle.law_switches_settle.proofs.strokes_are_read.Goals as goal

pub returns : goal.returns
returns c = record {
  read = arrivals.strokes_are_read c.switches_type_once.ensures.taken c.nothing_comes_twice.ensures.exactly
      c.nothing_comes_twice.ensures.all c.nothing_is_read_twice.ensures.lines;
}
