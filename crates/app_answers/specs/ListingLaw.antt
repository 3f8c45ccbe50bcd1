-- `list` and `asm` over each other's texts.
use Rattle.std.specs.Prelude.{◌≡◌, ◌≤◌, ℕ, List, Ok, length}
use Rattle.mcs48_isa.specs.Listing.{listing_of}
use Rattle.mcs48_isa.specs.Memory.{IsMemory}
use Rattle.hexfile.specs.Spelling.{hex_text_of}
use Rattle.app_words.specs.declared.kind.Kind.TheVariants.{Hex, Asm}
use Rattle.app_words.specs.declared.words.FileCommand.TheVariants.{Listing, Assemble}
use Rattle.app_words.specs.Kinds.{limit_of}
use Rattle.app_answers.specs.FileAnswers.{file_said}

-- of each program memory: `list` of its HEX text prints its listing, `asm` of its listing prints its HEX text, and
-- neither text is too long for a file
abbrev pub ListAndAsmAreInverse : Type 0
ListAndAsmAreInverse = (memory : List ℕ) → IsMemory memory →
    (file_said Listing (hex_text_of memory) ≡ Ok (listing_of memory)) × (length (hex_text_of memory) ≤ limit_of Hex)
    × (file_said Assemble (listing_of memory) ≡ Ok (hex_text_of memory)) × (length (listing_of memory) ≤ limit_of Asm)
