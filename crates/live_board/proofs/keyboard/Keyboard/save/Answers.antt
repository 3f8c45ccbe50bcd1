use Rattle.std.proofs.Common.{◌≡◌, ap, ◌∙◌}
use Rattle.joint_saved.specs.Saved.{saved_bytes}
use Rattle.joint_saved.specs.Saved.{kept as saved}
use Rattle.live_board.specs.Saved.{kept}
use Rattle.live_board.proofs.keyboard.Keyboard.save.Goals as goal

pub returns-clause-bytes : goal.returns-clause-bytes
returns-clause-bytes c =
    let k = c.self.inside.parts in
    let edges = c.as_slice.ensures.value in
    let items = c.as_slice-2.ensures.value in
    let same : saved k.joint c.as_slice.result.now c.as_slice-2.result.now k.heard.lost k.rises ≡ kept k =
    (λ i. record { joint = k.joint; edges = edges i; items = items i; lost = k.heard.lost; rises = k.rises }) in
    c.save.ensures.bytes ∙ ap saved_bytes (same ∙ ap kept c.self.view_is)
