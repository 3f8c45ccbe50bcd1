-- The definitions compute.
use Rattle.std.proofs.Common.{refl}
use Rattle.cycle_cert.specs.Bounds.{byte_values}
use Rattle.cycle_cert.specs.Falling.{falls}
use Rattle.cycle_cert.specs.Reading.{draft_of, certificate_of}
use Rattle.cycle_cert.specs.Answers.{answer_of}
use Rattle.cycle_cert.specs.Examples.{examples}
use Rattle.cycle_cert.proofs.examples.worked_certificates.Goals as goal

pub returns : goal.returns
unfolding examples answer_of certificate_of draft_of falls byte_values
returns c = record { examples = (refl, (refl, (refl, (refl, (refl, (refl, (refl, (refl, (refl, (refl, (refl, tt))))))))))) }
