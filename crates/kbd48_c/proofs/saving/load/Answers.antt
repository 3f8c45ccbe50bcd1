use Rattle.std.proofs.Common.{inr, refl}
use Rattle.joint_saved.specs.declared.unloaded.Unloaded.TheVariants as U
use Rattle.live_board.specs.Saved.{kept}
use Rattle.kbd48_c.proofs.saving.load.Goals as goal

pub returns-in-Ok : goal.returns-in-Ok
returns-in-Ok c =
    record { loaded = inr (U.Memory, inr (kept c.in-Ok.keyboard, c.in-Ok.ensures.loaded, refl), refl, refl) }
