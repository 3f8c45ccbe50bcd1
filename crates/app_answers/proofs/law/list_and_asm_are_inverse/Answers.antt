use Rattle.std.proofs.Common.{Ok, ap, arith}
use Rattle.mcs48_isa.specs.Listing.{listing_of}
use Rattle.mcs48_isa.proofs.Lengths.{listing-within}
use Rattle.mcs48_asm.proofs.RoundTrip.{round_trip}
use Rattle.hexfile.proofs.BackRows.{text_back}
use Rattle.hexfile.proofs.Rows.{text_short}
use Rattle.app_answers.specs.FileAnswers.{of_image, assembled}
use Rattle.app_answers.proofs.law.list_and_asm_are_inverse.Goals as goal

pub returns : goal.returns
returns c = record {
  inverse = λ memory is. (
    ap (of_image (λ image. Ok (listing_of image))) (text_back memory is.0 is.1),
    omega (arith, text_short memory),
    ap assembled (round_trip memory is.0 is.1),
    omega (arith, listing-within memory is.0),
  );
}
