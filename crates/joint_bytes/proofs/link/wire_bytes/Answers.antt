use Rattle.std.proofs.Common.{◌≡◌, ◌≤◌, List, Bool, length, Some, rules, sym, subst}
use Rattle.ctl_link.specs.declared.link.Link.TheVariants.{Busy}
use Rattle.joint_bytes.proofs.LinkRead.{recv_as}
use Rattle.joint_bytes.specs.Links.{link_in}
use Rattle.joint_bytes.proofs.link.wire_bytes.Goals as goal

pub returns-in-Recv-clause-read : goal.returns-in-Recv-clause-read
returns-in-Recv-clause-read c =
    subst (λ w. link_in c.link_row.result ≡ Some (Busy w)) (sym c.in-Recv.is)
    (recv_as c.link_row.result _ _ (search rules)
    (subst (λ (b : List Bool). length b ≤ 10) c.as_slice-bits.ensures.bits c.as_slice-bits.ensures.few))
