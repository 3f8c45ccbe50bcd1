use Rattle.std.proofs.Common.{◌≡◌}
use Rattle.capture_vcd.specs.Reads.{left_to_do, reads_left}
use Rattle.capture_vcd.specs.Tokens.{Fits}
use Rattle.capture_vcd.proofs.reader.next_in.Given as goal

-- the tokens so far gave nothing
abbrev pub invariant-loop-left : goal.invariant-loop-left
invariant-loop-left l = record {
  same : reads_left l.names.clk.now l.names.dat.now l.fn.tokens l.fn.state ≡ reads_left l.names.clk.now l.names.dat.now l.left l.state;
  fits : Fits l.left;
}

abbrev pub decreases-loop-left : goal.decreases-loop-left
decreases-loop-left l = left_to_do l.state.part l.left
