use Rattle.std.proofs.Common.{◌≡◌, drop}
use Rattle.cycle_cert.specs.Answers.{said_by}
use Rattle.cycle_cert.specs.Certificates.{first_fault}
use Rattle.cycle_cert.proofs.judging.Certificate.judged.Given as goal

-- the entries so far break no rule
abbrev pub invariant-loop-entry : goal.invariant-loop-entry
invariant-loop-entry l =
    first_fault l.bytes (said_by l.self) (drop l.entry-index l.entries) ≡ first_fault l.bytes (said_by l.self) l.self.table.now
