-- A call through a handle: the box was taken out of it, the keyboard in it called, and the box put back.
use Rattle.std.proofs.Common.{◌≡◌, sym, subst, SFits, to_z, of_z, w32}
use Rattle.std.specs.Prelude.{ℤ, Option, Some}
use Rattle.std.proofs.lemmas.Int.{to_z-of_z}
use Rattle.live_board.specs.declared.parts.Parts.{Parts as Keyboard}
use Rattle.kbd48_c.specs.Exports.{Through}

-- a call through a handle does to its keyboard what the call does, and returns its status
pub through_call : (does : Keyboard → ℤ → Keyboard → Type 0) (old new : Option Keyboard) (status : ℤ) (k taken after : Keyboard)
    → SFits w32 status
    → k ≡ taken → Some taken ≡ old → new ≡ Some after → does k status after → Through does old (to_z w32 (of_z w32 status)) new
through_call does old new status k taken after fits same was is h =
    subst (λ s. Through does old s new) (sym (to_z-of_z w32 status fits))
    (subst (λ o. Through does o status new) was (subst (λ t. Through does (Some t) status new) same (after, is, h)))

-- the keyboard was looked at alone
pub through_look : (does : Keyboard → ℤ → Keyboard → Type 0) (old new : Option Keyboard) (status : ℤ) (k : Keyboard)
    → Some k ≡ old → new ≡ Some k → does k status k → Through does old status new
through_look does old new status k was is h = subst (λ o. Through does o status new) was (k, is, h)
