-- Each place at which the kernel executes an instruction is in a row of the HEX text, in every image that has the kernel.
use Rattle.std.proofs.Common.{◌≡◌, ◌≤◌, ◌<◌, ℕ, suc, zero, ◌+◌, ◌*◌, ◌/◌, List, Bool, true, false, not, ◌&&◌, ◌||◌, ◌==◌}
use Rattle.std.proofs.Common.{slice_index, refl, ap, sym, ◌∙◌, arith}
use Rattle.fw_kernel.specs.Places.{is_table, HasKernel}
use Rattle.law_fw_logic.specs.Executed.{holds_some, is_in_text}
use Rattle.law_fw_logic.proofs.Image.{byte_is}
use Rattle.law_fw_logic.proofs.Kernel.{byte_in}
use Rattle.law_fw_logic.proofs.Placed.{has_some, in_text, or_so}

-- a byte of the kernel's that isn't 0 is one of the image
text_by : (bytes : List ℕ) → HasKernel bytes → (place n : ℕ) → place + n ≤ 2048 → has_some place n ≡ true
    → holds_some bytes place n ≡ true
text_by bytes has place zero room h = absurd cc
text_by bytes has place (suc n) room h =
    by (λ rest. text_by bytes has (suc place) n (omega (arith, room)) rest) (is_table place) (byte_in place == 0) refl refl h
  where
    here : is_table place ≡ false → (byte_in place == 0) ≡ false → holds_some bytes place (suc n) ≡ true
    here out some =
        let same : slice_index bytes place ≡ byte_in place =
        has place out ∙ sym (byte_is place (omega (arith, room))) in
        let is : (slice_index bytes place == 0) ≡ false = ap (λ b. b == 0) same ∙ some in
        ap (λ c. not c || holds_some bytes (suc place) n) is

    later : holds_some bytes (suc place) n ≡ true → holds_some bytes place (suc n) ≡ true
    later rest = or_so (not (slice_index bytes place == 0)) (holds_some bytes (suc place) n) rest

    by : (has_some (suc place) n ≡ true → holds_some bytes (suc place) n ≡ true) → (a b : Bool) → is_table place ≡ a
        → (byte_in place == 0) ≡ b → ((not a && not b) || has_some (suc place) n) ≡ true
        → holds_some bytes place (suc n) ≡ true
    by ih true b t z e = later (ih e)
    by ih false true t z e = later (ih e)
    by ih false false t z e = here t z

-- a place of the kernel's rows is in a row of the HEX text of every image that has the kernel
pub text_is : (bytes : List ℕ) → HasKernel bytes → (p : ℕ) → p < 2048 → in_text p ≡ true → is_in_text bytes p ≡ true
text_is bytes has p low h = text_by bytes has (16 * (p / 16)) 16 (omega (arith, low)) h
