use Rattle.std.proofs.Common.{◌≡◌, ◌+◌, ◌<◌, ◌≤◌, ◌++◌, length, length-append, ap, arith, rules, subst}
use Rattle.mcs48_isa.specs.Listing.{end_of, lines_from, size_of, listing_of}
use Rattle.mcs48_isa.proofs.Lengths.{listing-within}
use Rattle.mcs48_isa.proofs.Lines.{size_within, written}
use Rattle.mcs48_isa.proofs.listing.list.Goals as goal

pub loop-place-preserved : goal.loop-place-preserved
loop-place-preserved c =
    let bytes = c.args.image.now.bytes in
    let place = c.loop-place.place in
    let row = c.instruction-row.result in
    let below : place < end_of bytes = subst (λ e. place < e) c.listing_end-end.ensures.end c.loop-place-test.true in
    let fits : place + size_of row ≤ 2048 = size_within row place (omega arith) c.instruction-row.ensures.within in
    record {
      within = omega (arith, fits, c.line_size-place.ensures);
      text =
          written bytes (end_of bytes) place c.line_size-place.result c.loop-place.text.items c.push_statement.new.text.items
          c.extend_from_slice.new.self.items (listing_of bytes) row c.instruction-row.ensures.found
          c.line_size-place.ensures c.instruction-row.ensures.whole c.in_ok-push_statement.ensures
          c.in_ok-extend_from_slice.ensures.items below c.loop-place.invariant.text;
    }

pub returns-clause-within : goal.returns-clause-within
returns-clause-within c =
    let bytes = c.args.image.now.bytes in
    let held = c.loop-place.invariant.text in
    let long : length bytes ≡ 2048 = search rules in
    let whole : length (c.loop-place.text.items ++ lines_from bytes (end_of bytes) held.0 c.loop-place.place)
    ≡ length (listing_of bytes) = ap length held.2 in
    omega (
      arith,
      whole,
      length-append c.loop-place.text.items
          (lines_from bytes (end_of bytes) held.0 c.loop-place.place),
      listing-within bytes long,
    )
