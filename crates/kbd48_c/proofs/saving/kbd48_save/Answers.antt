use Rattle.std.proofs.Common.{rules, ◌≡◌, ◌≤◌, ◌<◌, ℕ, List, length, sym, subst, SFits, to_z, of_z, w32}
use Rattle.std.specs.Prelude.{ℤ, Option, Some}
use Rattle.std.proofs.lemmas.Int.{to_z-of_z}
use Rattle.live_board.specs.declared.parts.Parts.{Parts as Keyboard}
use Rattle.kbd48_c.specs.Saving.{HasFilled, HasSaved, bad_size}
use Rattle.kbd48_c.proofs.saving.kbd48_save.Goals as goal

-- the keyboard was taken out of its handle and looked at
saved_call : (before after : List ℕ) (old : Option Keyboard) (status : ℤ) (k taken : Keyboard) → SFits w32 status → k ≡ taken
    → Some taken ≡ old → (3077 ≤ length before → HasFilled k before status after)
    → (length before < 3077 → (status ≡ bad_size) × (after ≡ before)) → HasSaved old before (to_z w32 (of_z w32 status)) after
saved_call before after old status k taken fits same was filled short =
    subst (λ s. HasSaved old before s after) (sym (to_z-of_z w32 status fits))
    (subst (λ o. HasSaved o before status after) was
    (subst (λ t. HasSaved (Some t) before status after) same (filled, short)))

pub returns-in-Some-clause-saved : goal.returns-in-Some-clause-saved
returns-in-Some-clause-saved c =
    saved_call c.args.buffer.now c.save-status.new.buffer c.args.handle.now.keyboard c.save-status.result c.deref.result.now
    c.in-Some.keyboard.value (search rules) c.deref.ensures c.in-Some.ensures.taken c.save-status.ensures.filled
    c.save-status.ensures.short
