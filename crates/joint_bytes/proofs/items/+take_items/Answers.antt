use Rattle.std.proofs.Common.{◌-◌, ◌∷◌, [], ◌++◌, drop, ap, ◌∙◌, arith}
use Rattle.joint_bytes.proofs.Pushed.{items_step, later_is, more}
use Rattle.joint_bytes.specs.Lists.{items_in}
use Rattle.joint_bytes.proofs.items.+take_items.Goals as goal

pub returns : goal.returns
returns t c =
    let some = c.if-count-eq0.false in
    let rest = items_in (c.args.count - 1) (drop 11 c.args.bytes.now) in
    record {
      items =
          more c.args.items.now.items c.push.new.self.items c.take_items.new.items.items (c.item_in.result ∷ []) rest
          (items_in c.args.count c.args.bytes.now) c.push.ensures.items
          (c.take_items.ensures.items
          ∙ ap (λ s. c.push.new.self.items ++ items_in (c.args.count - 1) s) (later_is 11 c.args.bytes.now))
          (ap (λ x. x ∷ rest) c.item_in.ensures ∙ items_step c.args.count c.args.bytes.now (omega (arith, some)));
    }
