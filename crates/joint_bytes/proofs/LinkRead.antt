-- The link is read from its bytes.
use Rattle.std.proofs.Common.{◌≡◌, ◌≤◌, ℕ, Bool, false, List, [], ◌∷◌, take, length, Some, None, refl, ap, ◌∙◌, arith}
use Rattle.std.specs.Prelude.{if◌then◌else◌, nat_lt, slice_index_or}
use Rattle.std.specs.declared.option.Option.{Option}
use Rattle.std.proofs.lemmas.Bool.Decides.{nat_tests}
use Rattle.ctl_link.specs.declared.link.Link.{Link}
use Rattle.ctl_link.specs.declared.link.Link.TheVariants.{Busy}
use Rattle.ctl_wire.specs.declared.wire.Wire.{Wire}
use Rattle.ctl_wire.specs.declared.wire.Wire.TheVariants.{Recv}
use Rattle.mcs48_bytes.proofs.Choices.{maybe_read, truth_read}
use Rattle.joint_bytes.specs.Links.{bits_at, link_by, link_bytes, link_in, link_row}

-- the ten bits at their places, of which the first so many are the list
abbrev ten : List Bool → List Bool
ten b =
    slice_index_or b 0 false ∷ slice_index_or b 1 false ∷ slice_index_or b 2 false ∷ slice_index_or b 3 false
    ∷ slice_index_or b 4 false ∷ slice_index_or b 5 false ∷ slice_index_or b 6 false ∷ slice_index_or b 7 false
    ∷ slice_index_or b 8 false ∷ slice_index_or b 9 false ∷ []

first_of : (b : List Bool) → length b ≤ 10 → take (length b) (ten b) ≡ b
first_of [] few = refl
first_of (a ∷ []) few = refl
first_of (a ∷ b ∷ []) few = refl
first_of (a ∷ b ∷ c ∷ []) few = refl
first_of (a ∷ b ∷ c ∷ d ∷ []) few = refl
first_of (a ∷ b ∷ c ∷ d ∷ e ∷ []) few = refl
first_of (a ∷ b ∷ c ∷ d ∷ e ∷ f ∷ []) few = refl
first_of (a ∷ b ∷ c ∷ d ∷ e ∷ f ∷ g ∷ []) few = refl
first_of (a ∷ b ∷ c ∷ d ∷ e ∷ f ∷ g ∷ h ∷ []) few = refl
first_of (a ∷ b ∷ c ∷ d ∷ e ∷ f ∷ g ∷ h ∷ i ∷ []) few = refl
first_of (a ∷ b ∷ c ∷ d ∷ e ∷ f ∷ g ∷ h ∷ i ∷ j ∷ []) few = refl
first_of (a ∷ b ∷ c ∷ d ∷ e ∷ f ∷ g ∷ h ∷ i ∷ j ∷ k ∷ l) few = absurd (omega (arith, few))

bits_read : (kind since byte count : ℕ) (flip : Option ℕ) (b : List Bool) → bits_at (link_row kind since byte count flip b) ≡ ten b
bits_read kind since byte count flip b =
    λ i. truth_read (slice_index_or b 0 false) i ∷ truth_read (slice_index_or b 1 false) i ∷ truth_read (slice_index_or b 2 false) i
    ∷ truth_read (slice_index_or b 3 false) i ∷ truth_read (slice_index_or b 4 false) i ∷ truth_read (slice_index_or b 5 false) i
    ∷ truth_read (slice_index_or b 6 false) i ∷ truth_read (slice_index_or b 7 false) i ∷ truth_read (slice_index_or b 8 false) i
    ∷ truth_read (slice_index_or b 9 false) i ∷ []

few_read : (count : ℕ) (l : Link Wire) → count ≤ 10 → (if nat_lt 10 count then None else Some l) ≡ Some l
few_read count l few =
    let test : nat_lt 10 count ≡ false = grind (arith, nat_tests, few) in
    ap (λ (b : Bool). if b then None else Some l) test

-- a byte of the keyboard under way, with ten bits at most, is read from its bytes
pub recv_as : (x : List ℕ) (flip : Option ℕ) (bits : List Bool) → x ≡ link_bytes (Busy (Recv flip bits)) → length bits ≤ 10
    → link_in x ≡ Some (Busy (Recv flip bits))
recv_as x flip bits e few =
    let last = ap (λ b. take (length bits) b) (bits_read 4 0 0 (length bits) flip bits) ∙ first_of bits few in
    ap link_in e
    ∙ few_read (length bits) (link_by (link_bytes (Busy (Recv flip bits)))) few
    ∙ (λ i. Some (Busy (Recv (maybe_read flip i) (last i))))
