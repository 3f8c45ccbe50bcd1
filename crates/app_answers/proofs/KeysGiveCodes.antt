-- The keys' codes, translated one by one.
use Rattle.std.proofs.Common.{◌≡◌, ℕ, ◌<◌, Bool, true, false, ◌==◌, Some, None, refl, arith, ap}
use Rattle.std.proofs.lemmas.Bool.Decides.{nat_tests}
use Rattle.std.specs.declared.option.Option.{Option}
use Rattle.ctl_core.specs.ScanCodes.{scan_codes, translated}
use Rattle.ctl_core.specs.Translation.{translation}
use Rattle.ctl_core.specs.declared.translation.Translated.{Translated}
use Rattle.pc_tables.specs.Keys.{keys, code_at, scan_at}
use Rattle.bits.proofs.Every.{at_each}

abbrev is_code : Option ℕ → Bool → ℕ → Bool
is_code None mark scan = false
is_code (Some byte) true scan = false
is_code (Some byte) false scan = byte == scan

code_is : (byte : Option ℕ) (mark : Bool) (scan : ℕ) → is_code byte mark scan ≡ true
    → let t : Translated = record { byte = byte; mark = mark } in t ≡ record { byte = Some scan; mark = false }
code_is None mark scan h = absurd cc
code_is (Some byte) true scan h = absurd cc
code_is (Some byte) false scan h =
    let same : byte ≡ scan = grind (arith, nat_tests, h) in
    ap (λ b. let t : Translated = record { byte = Some b; mark = false } in t) same

gives : (key : ℕ)
    → key < 84 → is_code (translation true false (code_at key)).byte (translation true false (code_at key)).mark (scan_at key) ≡ true
unfolding keys scan_codes translated
gives = at_each (λ key. is_code (translation true false (code_at key)).byte (translation true false (code_at key)).mark (scan_at key))
    84 refl

-- the controller translates each key's code to the key's scan code
pub each_gives : (key : ℕ) → key < 84 → translation true false (code_at key) ≡ record { byte = Some (scan_at key); mark = false }
each_gives key below =
    code_is (translation true false (code_at key)).byte (translation true false (code_at key)).mark (scan_at key) (gives key below)
