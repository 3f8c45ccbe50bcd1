-- The keys through the controller.
use Rattle.std.specs.Prelude.{◌≡◌, ℕ, ◌<◌, true, false, Some}
use Rattle.ctl_core.specs.Translation.{translation}
use Rattle.pc_tables.specs.Keys.{code_at, scan_at}

-- with the translate bit set and no break begun, the keyboard code of each key gives that key's scan code
abbrev pub EachKeyGivesItsScanCode : Type 0
EachKeyGivesItsScanCode =
    (key : ℕ) → key < 84 → translation true false (code_at key) ≡ record { byte = Some (scan_at key); mark = false }
