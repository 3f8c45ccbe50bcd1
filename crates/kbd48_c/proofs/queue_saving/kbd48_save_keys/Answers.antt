use Rattle.std.proofs.Common.{◌≡◌, ℕ, List, ◌++◌, drop, length, refl, rules, ap, sym, ◌∙◌}
use Rattle.queue_bytes.specs.Saved.{loaded}
use Rattle.kbd48_c.proofs.queue_saving.kbd48_save_keys.Goals as goal

pub returns-clause-filled : goal.returns-clause-filled
returns-clause-filled c =
    let bytes = c.save.ensures.bytes in
    let count : length c.as_slice.result.now ≡ 1629 = search rules in
    λ long. (
      refl,
      c.put.ensures ∙ ap (λ n. c.as_slice.result.now ++ drop n c.args.buffer.now) count
          ∙ ap (λ (v : List ℕ). v ++ drop 1629 c.args.buffer.now) (c.as_slice.ensures.value ∙ bytes),
      ap loaded (sym bytes) ∙ c.save.ensures.loaded,
    )
