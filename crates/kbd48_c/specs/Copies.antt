-- A keyboard at one handle, and its copy at another.
use Rattle.std.specs.Prelude.{◌≡◌, ◌⊎◌, ℤ, Option, None, Some}
use Rattle.live_board.specs.Looks.{IsCopied}
use Rattle.live_board.specs.Pasts.{Past}
use Rattle.live_board.specs.States.{HasPast}
use Rattle.live_board.specs.declared.parts.Parts.{Parts as Keyboard}
use Rattle.kbd48_c.specs.Statuses.{done, no_memory, not_open}

-- the same machine, by the same edges that wait; it is in every past in which the original does
pub record IsTwin (k copy : Keyboard) : Type 0 where
  pub same : IsCopied k copy
  pub has_past : (p : Past) → HasPast p k → HasPast p copy

-- the other handle has a copy of this keyboard; or it was empty and is, since memory is lacking
abbrev pub HasCopied : Keyboard → Option Keyboard → ℤ → Option Keyboard → Type 0
HasCopied k before status after =
    ((status ≡ done) × (copy : Keyboard) × (after ≡ Some copy) × IsTwin k copy)
    ⊎ ((status ≡ no_memory) × (before ≡ None) × (after ≡ None))

-- a copy from one handle to another: of an empty one it says so, and does nothing
abbrev pub CopiesTo : Option Keyboard → Option Keyboard → ℤ → Option Keyboard → Type 0
CopiesTo None before status after = (status ≡ not_open) × (after ≡ before)
CopiesTo (Some k) before status after = HasCopied k before status after
