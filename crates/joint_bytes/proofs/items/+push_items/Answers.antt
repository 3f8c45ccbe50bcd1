use Rattle.std.proofs.Common.{◌-◌, drop, take, length, ◌∷◌, [], arith}
use Rattle.joint_bytes.proofs.ListRead.{items_all, items_more, items_rest}
use Rattle.joint_bytes.proofs.Pushed.{more}
use Rattle.joint_bytes.specs.Lists.{items_bytes}
use Rattle.joint_bytes.proofs.items.+push_items.Goals as goal

pub returns-in-empty-clause-bytes : goal.returns-in-empty-clause-bytes
returns-in-empty-clause-bytes t c =
    let some = c.if-places-eq0.false in
    more c.args.bytes.now.items c.append.new.text.items c.push_items.new.bytes.items
    (0 ∷ 0 ∷ 0 ∷ 0 ∷ 0 ∷ 0 ∷ 0 ∷ 0 ∷ 0 ∷ 0 ∷ 0 ∷ []) (items_bytes (c.args.places - 1) c.args.items.now)
    (items_bytes c.args.places c.args.items.now) c.append.ensures c.push_items.ensures.bytes
    (items_rest c.args.places c.args.items.now (omega (arith, some)) c.in-empty.len_below)

pub returns-in-len1-up-clause-bytes : goal.returns-in-len1-up-clause-bytes
returns-in-len1-up-clause-bytes t c =
    let some = c.if-places-eq0.false in
    let up = c.in-len1-up.len_at_least in
    let is = c.args.items.now in
    more c.args.bytes.now.items c.append-in-len1-up.new.text.items c.push_items-in-len1-up.new.bytes.items c.item_bytes.result
    (items_bytes (c.args.places - 1) (take (length is - 1) (drop 1 is))) (items_bytes c.args.places is)
    c.append-in-len1-up.ensures c.push_items-in-len1-up.ensures.bytes
    (items_more c.args.places is c.item_bytes.result (omega (arith, some)) (omega (arith, up)) c.item_bytes.ensures.bytes)

pub returns-in-len1-up-clause-read : goal.returns-in-len1-up-clause-read
returns-in-len1-up-clause-read t c =
    let some = c.if-places-eq0.false in
    let up = c.in-len1-up.len_at_least in
    items_all c.args.places c.args.items.now c.item_bytes.result (omega (arith, some)) (omega (arith, up))
    c.item_bytes.ensures.bytes c.item_bytes.ensures.read c.push_items-in-len1-up.ensures.read
