use Rattle.std.proofs.Common.{◌≡◌, ◌-◌, length, take, drop, arith, sym, ◌∙◌}
use Rattle.std.proofs.lemmas.Grind.{common_steps}
use Rattle.hexfile.proofs.Digits.{bytes_of_kept}
use Rattle.hexfile.proofs.record.decoded.Goals as goal

pub loop-rest-preserved : goal.loop-rest-preserved
loop-rest-preserved c =
    let digits = c.loop-rest.rest.now in
    let left : take (length digits - 2) (drop 2 digits) ≡ drop 2 digits = grind (arith, common_steps) in (
      bytes_of_kept c.args.digits.now c.loop-rest.bytes.items digits c.push.new.self.items
          (take (length digits - 2) (drop 2 digits)) c.in_ok-high.high c.in_ok-low.low c.in-len2-up.len_at_least
          (sym c.digit_value.ensures.value ∙ c.in_ok-high.was)
          (sym c.digit_value-in-len2-up.ensures.value ∙ c.in_ok-low.was) c.push.ensures.items left c.loop-rest.invariant.0,
      grind (arith, common_steps),
    )
