-- The output buffer is empty in every state of the link but Hold.
use Rattle.std.specs.Prelude.{◌≡◌, Bool, true, false, not, ◌||◌}
use Rattle.ctl_link.specs.declared.link.Link.{Link}
use Rattle.ctl_link.specs.declared.link.Link.TheVariants.{Free, Hold, Ask, Request, Busy}
use Rattle.ctl_link.specs.declared.port.LinkEnd.{LinkEnd}

-- whether the keyboard is held off, with no byte for it
abbrev pub is_held : {F : Type 0} → Link F → Bool
is_held Free = false
is_held (Hold since) = true
is_held (Ask byte since) = false
is_held (Request byte) = false
is_held (Busy under_way) = false

-- if the output buffer is full, the link is held
abbrev pub fits : {F : Type 0} → Bool → Link F → Bool
fits full link = not full || is_held link

abbrev pub IsEmptyUnlessHeld : {F : Type 0} → LinkEnd F → Type 0
IsEmptyUnlessHeld p = fits p.core.output_full p.link ≡ true
