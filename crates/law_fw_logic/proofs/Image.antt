-- The rows at the kernel's places, in every image that has it.
use Rattle.std.proofs.Common.{◌≡◌, ◌<◌, ℕ, suc, zero, ◌+◌, ◌*◌, ◌/◌, ◌%◌, List, [], ◌∷◌, Bool, true, false, not}
use Rattle.std.proofs.Common.{◌&&◌, Some, refl, ap, sym, ◌∙◌, arith, take, drop, get_or, slice_index}
use Rattle.std.proofs.lemmas.List.{get_or-take, get_or-drop}
use Rattle.std.specs.declared.option.Option.{Option}
use Rattle.mcs48_isa.specs.declared.operation.Decoded.{Decoded}
use Rattle.mcs48_isa.specs.Table.{row_of}
use Rattle.mcs48_core.specs.Step.{row_at}
use Rattle.fw_kernel.specs.declared.bytes.TheConstants.{KERNEL}
use Rattle.fw_kernel.specs.Places.{is_table, HasKernel}
use Rattle.law_fw_logic.proofs.Kernel.{pages, byte_in, guarded, kernel_row}

abbrev chunks : ℕ → List ℕ → List (List ℕ)
chunks zero xs = []
chunks (suc n) xs = take 64 xs ∷ chunks n (drop 64 xs)

chunk_at : (n i j : ℕ) (xs : List ℕ) → i < n → j < 64
    → get_or (get_or (chunks n xs) i []) j 0 ≡ get_or xs (64 * i + j) 0
chunk_at zero i j xs l k = absurd (omega arith)
chunk_at (suc n) zero j xs l k = let e : j ≡ 64 * 0 + j = omega arith in
    get_or-take 64 xs j 0 k ∙ ap (λ p. get_or xs p 0) e
chunk_at (suc n) (suc i) j xs l k =
    let e : 64 + (64 * i + j) ≡ 64 * suc i + j = omega arith in
    chunk_at n i j (drop 64 xs) (omega arith) k ∙ get_or-drop 64 xs (64 * i + j) 0 ∙ ap (λ p. get_or xs p 0) e

pages_are : chunks 32 KERNEL ≡ pages
pages_are = refl

-- the kernel's byte at a place, by pages of 64, is that of the kernel as a whole
pub byte_is : (p : ℕ) → p < 2048 → byte_in p ≡ slice_index KERNEL p
byte_is p l =
    let e : 64 * (p / 64) + p % 64 ≡ p = omega arith in
    ap (λ xs. get_or (get_or xs (p / 64) []) (p % 64) 0) (sym pages_are) ∙ chunk_at 32 (p / 64) (p % 64) KERNEL
    (omega arith) (omega arith) ∙ ap (λ q. get_or KERNEL q 0) e

-- if a guarded row is there, the guard holds and the row is this
pub guarded_some : (b : Bool) (o : Option Decoded) (r : Decoded) → guarded b o ≡ Some r → (b ≡ true) × (o ≡ Some r)
guarded_some true o r h = (refl, h)
guarded_some false o r h = absurd cc

-- if the and of two negations is true, both are false
pub neither : (a b : Bool) → (not a && not b) ≡ true → (a ≡ false) × (b ≡ false)
neither false false h = (refl, refl)
neither false true h = absurd cc
neither true b h = absurd cc

-- which row is at each place of the code, in every image that has the kernel
pub row_is : (bytes : List ℕ) → HasKernel bytes → (pc : ℕ) (r : Decoded) → kernel_row pc ≡ Some r
    → row_at bytes pc ≡ Some r
row_is bytes has pc r h =
    let g =
    guarded_some (not (is_table (pc % 2048)) && not (is_table ((pc + 1) % 2048)))
    (row_of (byte_in (pc % 2048)) (byte_in ((pc + 1) % 2048))) r h in
    let n = neither (is_table (pc % 2048)) (is_table ((pc + 1) % 2048)) g.0 in
    ap (λ b. row_of b (slice_index bytes ((pc + 1) % 2048))) (has (pc % 2048) n.0
    ∙ sym (byte_is (pc % 2048) (omega arith)))
    ∙ ap (λ b. row_of (byte_in (pc % 2048)) b) (has ((pc + 1) % 2048) n.1
    ∙ sym (byte_is ((pc + 1) % 2048) (omega arith)))
    ∙ g.1
