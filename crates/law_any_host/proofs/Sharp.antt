-- At the end of a byte no weaker rule would do.
use Rattle.std.proofs.Common.{true, false}
use Rattle.model_keyboard.specs.declared.meeting.Meeting.TheVariants.{Sent, Cut}
use Rattle.law_any_host.specs.Bounds.{SharpLaw}
use Rattle.law_any_host.proofs.LastLook.{starts, frames, meetings, wires, rules, cut, sent, C, S, s_ticks, c_ticks}
use Rattle.law_any_host.proofs.Loses.{loses, ends_eleven}
use Rattle.law_any_host.proofs.TakesTwice.{takes_twice, ends_ten}

-- one cycle less for a host that counts ten falls, or one more for one that counts eleven, and a byte is heard wrong
pub sharp : SharpLaw
sharp = (
  record {
    wiring = C;
    wires = wires cut false;
    rules = rules cut false;
    ends = ends_ten;
    starts = starts;
    frames = frames cut;
    meetings = meetings Cut;
    ticks = c_ticks;
    fails = takes_twice;
  },
  record {
    wiring = S;
    wires = wires sent true;
    rules = rules sent true;
    ends = ends_eleven;
    starts = starts;
    frames = frames sent;
    meetings = meetings Sent;
    ticks = s_ticks;
    fails = loses;
  },
)
