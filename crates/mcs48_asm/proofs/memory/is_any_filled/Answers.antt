use Rattle.std.proofs.Common.{◌≡◌, ℕ, ◌-◌, ◌<◌, ◌≤◌, ◌&&◌, Bool, true, false, length, nat_le, nat_lt, slice_index_or, sym, ◌∙◌, refl, arith}
use Rattle.std.proofs.lemmas.Bool.Decides.{nat_tests}
use native.Mathlib.Decide.{dec_lt}
use Rattle.std.specs.List.{list_any, range_with_len}
use Rattle.mcs48_asm.proofs.Ranges.{any_range-false, any_range-skip, any_range-none, any_range-end}
use Rattle.mcs48_asm.proofs.memory.is_any_filled.Goals as goal

-- no place before the first, and none from the last on
and_false : (b : Bool) → (b && false) ≡ false
and_false true = refl
and_false false = refl

before : (start end place : ℕ) (b : Bool) → place < start → (nat_le start place && nat_lt place end && b) ≡ false
before start end place b h =
    let no : nat_le start place ≡ false = grind (arith, nat_tests) in
    rw no refl

afterwards : (start end place : ℕ) (b : Bool) → end ≤ place → (nat_le start place && nat_lt place end && b) ≡ false
afterwards start end place b h =
    let no : nat_lt place end ≡ false = grind (arith, nat_tests) in
    rw (no, and_false) refl

unfilled : (start end place : ℕ) (b : Bool) → b ≡ false → (nat_le start place && nat_lt place end && b) ≡ false
unfilled start end place b h = rw (h, and_false) refl

pub loop-place-init : goal.loop-place-init
loop-place-init c =
    any_range-skip (λ place. nat_le c.args.start place && nat_lt place c.args.end
    && slice_index_or c.args.filled.now place false) (length c.args.filled.now) c.args.start
    (λ place h. before c.args.start c.args.end place (slice_index_or c.args.filled.now place false) h)

pub loop-place-preserved : goal.loop-place-preserved
loop-place-preserved c =
    let within : c.loop-place.place < length c.args.filled.now = omega arith in
    c.loop-place.invariant
    ∙ any_range-false (λ place. nat_le c.args.start place && nat_lt place c.args.end
    && slice_index_or c.args.filled.now place false) (length c.args.filled.now) c.loop-place.place
    within (unfilled c.args.start c.args.end c.loop-place.place _ c.if-filled-place.false)

pub returns : goal.returns
returns c =
    let filled = λ (place : ℕ). nat_le c.args.start place && nat_lt place c.args.end && slice_index_or c.args.filled.now place false in
    let none : list_any filled (range_with_len c.loop-place.place (length c.args.filled.now - c.loop-place.place)) ≡ false =
    elim (dec_lt c.loop-place.place (length c.args.filled.now)) [
      | yes within ↦ any_range-none filled c.loop-place.place (length c.args.filled.now - c.loop-place.place)
          (λ place h. afterwards c.args.start c.args.end place (slice_index_or c.args.filled.now place false) (omega (arith, h, within)))
      | no past ↦ any_range-end filled (length c.args.filled.now) c.loop-place.place (omega (arith, past))
    ] in
    sym (c.loop-place.invariant ∙ none)
