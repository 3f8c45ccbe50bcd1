use Rattle.ctl_wire.proofs.Taken.{ended}
use Rattle.ctl_wire.proofs.bits_taken.Bits.ended_by.Goals as goal

pub returns : goal.returns
returns c = record {
  bits = ended c.self.inside.bits c.args.self.now c.self.inside.count c.args.bit c.self.told c.self.invariant c.self.view_is c.requires.ten;
}
