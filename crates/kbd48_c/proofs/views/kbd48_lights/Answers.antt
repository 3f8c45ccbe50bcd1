use Rattle.std.proofs.Common.{◌≡◌, refl, subst, pos}
use Rattle.live_board.specs.Pasts.{Past}
use Rattle.live_board.specs.States.{HasPast}
use Rattle.kbd48_c.specs.Exports.{HasShownLights}
use Rattle.kbd48_c.proofs.Through.{through_look}
use Rattle.kbd48_c.proofs.views.kbd48_lights.Goals as goal

pub returns-in-Some-clause-lights : goal.returns-in-Some-clause-lights
returns-in-Some-clause-lights c =
    through_look (HasShownLights c.lights.result) c.args.handle.now.keyboard c.holding.result.keyboard (pos 0) c.in-Some.keyboard.value
    c.in-Some.ensures.taken c.holding.ensures (
      (refl, refl),
      subst (λ k. (p : Past) → (s : HasPast p k) → c.lights.result ≡ s.world.board.shown) c.deref.ensures c.lights.ensures.state,
    )
