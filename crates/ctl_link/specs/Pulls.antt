-- Pulls of the clock.
use Rattle.std.specs.Prelude.{◌≡◌, ℕ, ◌+◌, ◌<◌, Some, None, ◌⊎◌}
use Rattle.std.specs.declared.option.Option.{Option}
use Rattle.ctl_link.specs.declared.link.Link.{Link}
use Rattle.ctl_link.specs.declared.link.Link.TheVariants.{Free, Hold, Ask, Request, Busy}

-- since when the controller pulls the clock, by a hold or by an ask
abbrev pub pulled : {F : Type 0} → Link F → Option ℕ
pulled Free = None
pulled (Hold since) = Some since
pulled (Ask byte since) = Some since
pulled (Request byte) = None
pulled (Busy under_way) = None

-- a free link stays free, or is pulled from now on
abbrev pub Begins : {F : Type 0} → ℕ → Link F → Type 0
Begins now link = (link ≡ Free) ⊎ (pulled link ≡ Some now)

-- a pull that began less than 64 cycles ago goes on as it is
abbrev pub KeepsPull : {F : Type 0} → ℕ → Link F → Link F → Type 0
KeepsPull now before after = (since : ℕ) → pulled before ≡ Some since → now < since + 64 → pulled after ≡ Some since

-- from a free link nothing but a pull begins
abbrev pub BeginsPull : {F : Type 0} → ℕ → Link F → Link F → Type 0
BeginsPull now before after = before ≡ Free → Begins now after
