use Rattle.std.proofs.Common.{ap, sym, ◌∙◌, subst, [], ◌∷◌}
use Rattle.fw_kernel.specs.declared.bytes.TheConstants.{KERNEL}
use Rattle.fw_kernel.specs.Places.{HasKernel}
use Rattle.fw_kernel.specs.Tables.{codes_at, rate_at, fn_codes_at, make_only_at, fn_place_at, debounce_at}
use Rattle.fw_compile.specs.Image.{fn_codes_of, make_only_of, fn_byte, debounce_byte, with_table}
use Rattle.fw_compile.proofs.Kernel.{has_kernel}
use Rattle.fw_compile.proofs.compile.Goals as goal

-- one table after the other
pub returns : goal.returns
returns c =
    let layout = c.args.layout.now in
    let one = c.put_table.ensures ∙ ap (λ t. with_table codes_at t KERNEL) c.codes_of.ensures in
    let two = c.put_table-2.ensures ∙ ap (λ r. with_table rate_at (r ∷ []) c.put_table.new.bytes) c.rate.ensures.rate
    ∙ ap (with_table rate_at (layout.rate ∷ [])) one in
    let three = c.put_table-3.ensures ∙ ap (λ t. with_table fn_codes_at t c.put_table-2.new.bytes) c.fn_codes_of.ensures
    ∙ ap (with_table fn_codes_at (fn_codes_of layout)) two in
    let four = c.put_table-4.ensures ∙ ap (λ t. with_table make_only_at t c.put_table-3.new.bytes) c.make_only_of.ensures
    ∙ ap (with_table make_only_at (make_only_of layout)) three in
    let five = c.put_table-5.ensures ∙ ap (λ p. with_table fn_place_at (p ∷ []) c.put_table-4.new.bytes) c.fn_byte.ensures
    ∙ ap (with_table fn_place_at (fn_byte layout ∷ [])) four in
    let image = c.put_table-6.ensures ∙ ap (λ d. with_table debounce_at (d ∷ []) c.put_table-5.new.bytes) c.debounce_byte.ensures
    ∙ ap (with_table debounce_at (debounce_byte layout ∷ [])) five in
    record { image = image; kernel = subst HasKernel (sym image) (has_kernel layout) }
