-- The program memory.
use Rattle.std.specs.Prelude.{◌≡◌, ℕ, ◌<◌, List, All, length}

-- 2,048 bytes
abbrev pub IsMemory : List ℕ → Type 0
IsMemory memory = (length memory ≡ 2048) × All (λ byte. byte < 256) memory
