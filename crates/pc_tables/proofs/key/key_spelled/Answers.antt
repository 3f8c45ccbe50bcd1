use Rattle.std.proofs.Common.{◌≡◌, ◌<◌, length, true, [], ap, ◌∙◌, sym, arith}
use Rattle.std.specs.Str.{bytes_eq}
use Rattle.pc_tables.specs.Keys.{Row, row, keys, name_at}
use Rattle.pc_tables.proofs.First.{position-found, position-none}
use Rattle.pc_tables.proofs.KeyLaws.{key_count}
use Rattle.pc_tables.proofs.key.key_spelled.Goals as goal

pub returns-then-eq : goal.returns-then-eq
returns-then-eq c =
    let name = c.args.name.now in
    let n = c.loop-number.number in
    let within : n < length keys = omega (arith, key_count) in
    let e : c.as_bytes.result.now ≡ name_at n = c.as_bytes.ensures.value
    ∙ ap (λ (r : Row). r.name) (c.key_row-in-loop-number.view_is ∙ c.key_row.ensures) in
    let here : bytes_eq (name_at n) name ≡ true =
    ap (λ text. bytes_eq text name) (sym e) ∙ sym c.eq.ensures ∙ c.if-eq.true in
    record { key = sym (position-found (λ (key : Row). bytes_eq key.name name) keys n (row [] 0 0) within c.loop-number.invariant here) }

pub returns : goal.returns
returns c =
    let name = c.args.name.now in
    record {
      key = sym (position-none (λ (key : Row). bytes_eq key.name name) keys (row [] 0 0)
          (λ k l. c.loop-number.invariant k (omega (arith, key_count))));
    }
