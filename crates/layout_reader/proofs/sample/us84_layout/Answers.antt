use Rattle.std.proofs.Common.{◌≡◌, refl, ◌∙◌, arith, rules}
use Rattle.std.proofs.lemmas.List.FromFn.{map-range_with_len_more}
use Rattle.layout_reader.specs.Layouts.{us84, sample_entry}
use Rattle.layout_reader.proofs.Laws.{sample-sound}
use Rattle.layout_reader.proofs.sample.us84_layout.Goals as goal

pub loop-number-preserved : goal.loop-number-preserved
loop-number-preserved c =
    let key : c.unwrap-key.result ≡ c.loop-number.number = search rules in
    rw (map-range_with_len_more sample_entry 0 c.loop-number.number c.loop-number.number (omega arith))
    (c.in_ok-push.ensures.items ∙ rw (c.loop-number.invariant, c.sample_entry.ensures, key) refl)

pub new-requires-clause-entries : goal.new-requires-clause-entries
new-requires-clause-entries c =
    let all : c.loop-number.number ≡ 84 = omega arith in
    rw (c.loop-number.invariant, all) (sample-sound 84 (omega arith))

pub returns : goal.returns
unfolding us84
returns c =
    let all : c.loop-number.number ≡ 84 = omega arith in
    record { layout = rw (c.new.ensures, c.loop-number.invariant, all) refl }
