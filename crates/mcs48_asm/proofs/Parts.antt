-- Tests of the values of a DB line.
use Rattle.std.proofs.Common.{◌≡◌, ℕ, false, ◌||◌, ◌%◌, List, [], ◌∷◌, map, is_none, refl, ap}
use Rattle.std.specs.List.{list_any}
use Rattle.mcs48_asm.specs.Names.{Meanings, meaning, taken, bytes_of}
use Rattle.mcs48_asm.specs.Faults.{arguments, is_above, is_too_large, is_outside}
use Rattle.mcs48_asm.specs.Statements.{Data}
use Rattle.mcs48_asm.specs.Kept.{kept_part}

-- a DB line has too large a number exactly if a part's value is above 255
pub large-parts : (names : Meanings) (texts : List (List ℕ))
    → list_any (is_too_large names) (arguments (Data (map kept_part texts))) ≡ list_any (λ part. is_above names 255 (kept_part part)) texts
large-parts names [] = refl
large-parts names (text ∷ texts) = ap (λ b. is_above names 255 (kept_part text) || b) (large-parts names texts)

-- a DB line has an unknown name exactly if a part's value has no meaning
pub unknown-parts : (names : Meanings) (texts : List (List ℕ))
    → list_any (λ argument. is_none (meaning names argument.value)) (arguments (Data (map kept_part texts)))
    ≡ list_any (λ part. is_none (meaning names (kept_part part))) texts
unknown-parts names [] = refl
unknown-parts names (text ∷ texts) = ap (λ b. is_none (meaning names (kept_part text)) || b) (unknown-parts names texts)

-- a DB line has no jump, so none that leaves its page
pub outside-parts : (names : Meanings) (start : ℕ) (texts : List (List ℕ))
    → list_any (λ argument. is_outside names start argument.role argument.value) (arguments (Data (map kept_part texts))) ≡ false
outside-parts names start [] = refl
outside-parts names start (text ∷ texts) = outside-parts names start texts

-- the bytes of a DB line are its parts' values, of each the low byte
pub map-parts : (names : Meanings) (texts : List (List ℕ))
    → map (λ part. taken names (kept_part part) % 256) texts ≡ bytes_of names (Data (map kept_part texts))
map-parts names [] = refl
map-parts names (text ∷ texts) = ap (λ bytes. taken names (kept_part text) % 256 ∷ bytes) (map-parts names texts)
