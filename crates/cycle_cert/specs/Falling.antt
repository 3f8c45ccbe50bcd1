-- When the bound falls on a way out of a row.
use Rattle.std.specs.Prelude.{ℕ, ◌+◌, Bool, not, ◌&&◌, ◌||◌, ◌==◌, nat_le, if◌then◌else◌, List, [], ◌∷◌}
use Rattle.std.specs.List.{list_all}
use Rattle.cycle_cert.specs.declared.rows.When.TheVariants.{Always, NotAtOne, AtOne}
use Rattle.cycle_cert.specs.declared.falling.Passage.{Passage}
use Rattle.cycle_cert.specs.Bounds.{byte_values, cycles_at}
use Rattle.cycle_cert.specs.Rows.{fits, values_after}

-- the values that a register can have if another one has this value: all, or that one if they are one register
abbrev pub values_beside : ℕ → ℕ → ℕ → List ℕ
values_beside other value register = if other == register then value ∷ [] else byte_values

-- whether the way can be taken if these are the values before the row of the two bounds' registers
abbrev pub is_open : Passage → ℕ → ℕ → Bool
is_open p first second = fits p.when p.before.register first && fits p.when p.after.register second

-- the bound falls by the row's cycles at least, for each value after that the row allows
abbrev pub falls_at : Passage → ℕ → ℕ → Bool
falls_at p first second =
    not (is_open p first second)
    || list_all (λ left. nat_le (cycles_at p.after left + p.cycles) (cycles_at p.before first))
    (values_after p.op p.after.register second)

-- the bound falls so whatever the two bounds' registers hold before the row
unfoldable pub falls : Passage → Bool
falls p =
    list_all (λ first. list_all (falls_at p first) (values_beside p.before.register first p.after.register)) byte_values

-- the value of the register of the bound before at which that bound is least, of those with which the way can be taken
abbrev pub lightest : Passage → ℕ
lightest p =
    elim p.when [ Always ↦ 1 | NotAtOne counter ↦ if p.before.register == counter then 2 else 1 | AtOne counter ↦ 1 ]
