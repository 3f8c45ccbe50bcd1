-- The bare kernel: it has its own bytes, and they are bytes.
use Rattle.std.proofs.Common.{◌≡◌, ◌==◌, true, false, All, nat_lt, refl, arith}
use Rattle.std.proofs.lemmas.Bool.Decides.{nat_tests}
use Rattle.std.proofs.lemmas.List.Elements.{All-weaker}
use Rattle.std.proofs.lemmas.List.Sums.{AllPass-from_list_all}
use Rattle.bits.proofs.Every.{tests_by}
use Rattle.law_fw_keys.specs.Edges.{image_code, IsSilentAlike}
use Rattle.fw_kernel.specs.Places.{HasKernel}
use Rattle.fw_kernel.specs.declared.bytes.TheConstants.{KERNEL}
use Rattle.mcs48_ranges.specs.Sizes.{IsByte}

-- the kernel has its own bytes outside the tables
pub itself : HasKernel KERNEL
itself p out = refl

-- each of them is a byte
pub small_kernel : All IsByte KERNEL
small_kernel =
    All-weaker (λ b. nat_lt b 256 ≡ true) IsByte (λ b h. grind (arith, nat_tests, h)) KERNEL
    (AllPass-from_list_all (λ b. nat_lt b 256) KERNEL refl)

-- its tables have no code at all
pub silent : IsSilentAlike KERNEL
silent place l =
    tests_by 96 (λ p. image_code KERNEL true p == 0) (λ p. image_code KERNEL false p == 0) refl place l
