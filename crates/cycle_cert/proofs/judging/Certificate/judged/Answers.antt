-- Where no certified place breaks a rule, each keeps its bound.
use Rattle.std.proofs.Common.{◌≡◌, [], None, drop, sym, ◌∙◌, ap}
use Rattle.std.proofs.Math.ListN.{drop_of_length-le}
use Rattle.std.proofs.lemmas.List.Elements.{All-from_get_or}
use Rattle.cycle_cert.specs.Answers.{said_by}
use Rattle.cycle_cert.specs.Certificates.{first_fault}
use Rattle.mcs48_ranges.specs.Sizes.{IsByte}
use Rattle.cycle_cert.proofs.Sound.{keeps_bounds}
use Rattle.cycle_cert.proofs.judging.Certificate.judged.Goals as goal

pub returns-clause-sound : goal.returns-clause-sound
returns-clause-sound c =
    let bytes = c.args.bytes.now in
    let cert = said_by c.args.self.now in
    let none_left : drop c.loop-entry.entry-index c.entries-entries.result.now
    ≡ [] = drop_of_length-le c.entries-entries.result.now c.loop-entry-test.false in
    let clear : first_fault bytes cert cert.entries ≡ None = sym c.loop-entry.invariant ∙ ap (first_fault bytes cert) none_left in
    keeps_bounds bytes cert (All-from_get_or IsByte bytes 0 (λ i below. c.fits-bytes i)) clear c.entries-entries.ensures.registers
