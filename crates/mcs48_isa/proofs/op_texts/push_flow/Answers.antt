use Rattle.std.proofs.Common.{◌≡◌, ◌++◌, OnOk, codes, subst}
use Rattle.mcs48_isa.specs.Instructions.{digit}
use Rattle.mcs48_isa.specs.Text.{address}
use Rattle.mcs48_isa.proofs.op_texts.push_flow.Goals as goal

pub returns-in-Djnz : goal.returns-in-Djnz
returns-in-Djnz c =
    let text = c.push_digit_address.new.text.items in
    let said = subst (λ to. OnOk c.push_digit_address.result
    (text ≡ c.args.text.now.items ++ (codes "DJNZ R" ++ digit c.in-Djnz.r ++ codes "," ++ address to)))
    c.jump_target.ensures.whole c.push_digit_address.ensures in
    rw c.in-Djnz.is said
