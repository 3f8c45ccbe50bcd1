use Rattle.std.proofs.Common.{◌≡◌, true, None, is_some, ap, ◌∙◌}
use Rattle.std.specs.Str.{bytes_eq}
use Rattle.mcs48_asm.specs.Kept.{kept_value}
use Rattle.mcs48_asm.proofs.Keeps.{lookup-kept, kept_value-insert, present, same_bytes, none_kept, some_kept}
use Rattle.mcs48_asm.proofs.names.define.Goals as goal

pub returns-in_ok-insert : goal.returns-in_ok-insert
returns-in_ok-insert c other =
    let none : kept_value c.args.names.now.entries c.args.name.now ≡ None =
    none_kept c.get.result c.args.names.now.entries c.args.name.now
    (c.get.ensures.value ∙ lookup-kept c.args.names.now.entries c.args.name.now) c.if-is_none.ensures in
    ap (λ entries. kept_value entries other) c.in_ok-insert.ensures.entries
    ∙ kept_value-insert c.args.names.now.entries c.args.name c.args.value other none

pub returns-else-is_none : goal.returns-else-is_none
returns-else-is_none c other =
    let some : is_some (kept_value c.args.names.now.entries c.args.name.now) ≡ true =
    some_kept c.get.result c.args.names.now.entries c.args.name.now
    (c.get.ensures.value ∙ lookup-kept c.args.names.now.entries c.args.name.now) c.if-is_none.ensures in
    present c.args.names.now.entries c.args.name.now other c.args.value (bytes_eq other c.args.name.now)
    (same_bytes other c.args.name.now) some
