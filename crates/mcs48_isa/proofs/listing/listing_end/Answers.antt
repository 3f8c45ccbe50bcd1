use Rattle.std.proofs.Common.{arith, ◌∙◌, sym}
use Rattle.mcs48_isa.proofs.Lines.{end_of-zero, end_of-other}
use Rattle.mcs48_isa.proofs.listing.listing_end.Goals as goal
use Rattle.mcs48_isa.proofs.listing.listing_end.Goals.{then-byte-ne0, else-byte-ne0}

pub loop-place-preserved : goal.loop-place-preserved
loop-place-preserved c =
    elim c.if-byte-ne0.branch [
      | then-byte-ne0 w ↦
          record {
            end = w.end-is ∙ sym (end_of-other c.args.bytes.now c.loop-place.place (omega arith) w.if-byte-ne0.true);
            within = omega arith;
          }
      | else-byte-ne0 w ↦
          record {
            end =
                w.end-is ∙ c.loop-place.invariant.end
                ∙ sym (end_of-zero c.args.bytes.now c.loop-place.place (omega arith) w.if-byte-ne0.false);
            within = omega arith;
          }
    ]
