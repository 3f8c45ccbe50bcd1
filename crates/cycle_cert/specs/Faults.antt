-- The faults of a certificate.
use Rattle.std.specs.Prelude.{ℕ}
use Rattle.cycle_cert.specs.declared.fault.CertFault.{CertFault}
use Rattle.cycle_cert.specs.declared.fault.CertFault.TheVariants.{Line}
use Rattle.cycle_cert.specs.declared.fault.Rule.{Rule}
use Rattle.cycle_cert.specs.declared.fault.Rule.TheVariants.{Form, Twice, Empty, Row, Follower, Fall}

-- the number by which a message names the rule that is broken
abbrev pub number_of : Rule → ℕ
number_of Form = 1
number_of Twice = 2
number_of Empty = 3
number_of Row = 4
number_of Follower = 5
number_of Fall = 6

-- a rule that is broken at a line
abbrev pub at_line : ℕ → Rule → CertFault
at_line line rule = Line line (number_of rule)
