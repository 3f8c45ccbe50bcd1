use Rattle.std.proofs.Common.{rules}
use Rattle.ctl_half.proofs.ReadBack.{read_back}
use Rattle.ctl_half.proofs.controller.CtlHalf.save.Goals as goal

pub returns-clause-loaded : goal.returns-clause-loaded
returns-clause-loaded c =
    read_back c.controller_bytes-saved.result c.end_bytes-saved.result c.link_bytes-saved.result c.pins_in-saved.result
    c.args.self.now (search rules) (search rules) (search rules) (search rules) (search rules) (search rules)
