-- The places of the kernel, and an image that holds it.
use Rattle.std.specs.Prelude.{◌≡◌, ℕ, Bool, false, ◌&&◌, ◌||◌, ◌==◌, nat_le, nat_lt, List, slice_index}
use Rattle.fw_kernel.specs.declared.bytes.TheConstants.{KERNEL}

-- the places 768 to 973 (300 to 3CD in hexadecimal) and 1010 (3F2) hold no code: they are the layout's tables or kept for
-- them
abbrev pub is_table : ℕ → Bool
is_table p = (nat_le 768 p && nat_lt p 974) || (p == 1010)

-- an image that has the kernel's bytes outside the tables, whatever these hold
abbrev pub HasKernel : List ℕ → Type 0
HasKernel bytes = (p : ℕ) → is_table p ≡ false → slice_index bytes p ≡ slice_index KERNEL p
