-- A byte's frame is read back as that byte, and a right frame is that of its byte.
use Rattle.std.proofs.Common.{◌≡◌, ℕ, ◌<◌, ◌==◌, Bool, true, false, not, ◌&&◌, List, [], ◌∷◌, length, take, drop}
use Rattle.std.proofs.Common.{get_or, ◌++◌, Some, None, eqb, refl, ap, sym, ◌∙◌, bit_and, arith}
use Rattle.std.specs.Prelude.{if◌then◌else◌}
use Rattle.std.specs.declared.option.Option.{Option}
use Rattle.std.proofs.lemmas.Bool.{eqb-true}
use Rattle.board_terms.specs.Bits.{data_bits, value, is_odd}
use Rattle.board_terms.specs.Frame.{frame_bits, is_right, byte_of}
use Rattle.bits.proofs.Every.{at_each, and-left, and-right}
use Rattle.board_terms.proofs.Cases.{same_bits, same_bits-true, each_bit, at_bit}

-- each bit, by its mask
abbrev masked : ℕ → List Bool
masked b =
    not (bit_and b 0x01 == 0) ∷ not (bit_and b 0x02 == 0) ∷ not (bit_and b 0x04 == 0) ∷ not (bit_and b 0x08 == 0)
    ∷ not (bit_and b 0x10 == 0) ∷ not (bit_and b 0x20 == 0) ∷ not (bit_and b 0x40 == 0) ∷ not (bit_and b 0x80 == 0) ∷ []

abbrev by_masks : ℕ → Bool
by_masks b = same_bits (masked b) (data_bits b)

-- the bits of a byte, each by its mask, are its data bits, lowest first
pub masks_give : (b : ℕ) → b < 256 → masked b ≡ data_bits b
masks_give b l = same_bits-true (masked b) (data_bits b) (at_each by_masks 256 refl b l)

-- whether an answer is this byte
abbrev is_some_of : ℕ → Option ℕ → Bool
is_some_of b None = false
is_some_of b (Some n) = eqb n b

some_is : (b : ℕ) (o : Option ℕ) → is_some_of b o ≡ true → o ≡ Some b
some_is b None h = absurd cc
some_is b (Some n) h = ap (λ k. Some k) (eqb-true n b h)

abbrev reads_back : ℕ → Bool
unfolding byte_of
reads_back b = is_some_of b (byte_of (frame_bits b))

-- a byte's frame is read back as that byte
pub read_back : (b : ℕ) → b < 256 → byte_of (frame_bits b) ≡ Some b
unfolding byte_of
read_back b l = some_is b (byte_of (frame_bits b)) (at_each reads_back 256 refl b l)

-- eight bits are those of their number
abbrev given_back : Bool → Bool → Bool → Bool → Bool → Bool → Bool → Bool → Bool
given_back a b c d e f g h = same_bits (data_bits (value (a ∷ b ∷ c ∷ d ∷ e ∷ f ∷ g ∷ h ∷ []))) (a ∷ b ∷ c ∷ d ∷ e ∷ f ∷ g ∷ h ∷ [])

all_given_back : each_bit
    (λ a. each_bit (λ b. each_bit
    (λ c. each_bit (λ d. each_bit (λ e. each_bit (λ f. each_bit (λ g. each_bit (λ h. given_back a b c d e f g h)))))))) ≡ true
all_given_back = refl

-- the data bits of the number of eight bits are these bits
pub bits_of_value : (a b c d e f g h : Bool) → data_bits (value (a ∷ b ∷ c ∷ d ∷ e ∷ f ∷ g ∷ h ∷ [])) ≡ a ∷ b ∷ c ∷ d ∷ e ∷ f ∷ g ∷ h ∷ []
bits_of_value a b c d e f g h =
    same_bits-true (data_bits (value (a ∷ b ∷ c ∷ d ∷ e ∷ f ∷ g ∷ h ∷ []))) (a ∷ b ∷ c ∷ d ∷ e ∷ f ∷ g ∷ h ∷ [])
    (at_bit (λ h. given_back a b c d e f g h)
    (at_bit (λ g. each_bit (λ h. given_back a b c d e f g h))
    (at_bit (λ f. each_bit (λ g. each_bit (λ h. given_back a b c d e f g h)))
    (at_bit (λ e. each_bit (λ f. each_bit (λ g. each_bit (λ h. given_back a b c d e f g h))))
    (at_bit (λ d. each_bit (λ e. each_bit (λ f. each_bit (λ g. each_bit (λ h. given_back a b c d e f g h)))))
    (at_bit (λ c. each_bit (λ d. each_bit (λ e. each_bit (λ f. each_bit (λ g. each_bit (λ h. given_back a b c d e f g h))))))
    (at_bit (λ b. each_bit
    (λ c. each_bit (λ d. each_bit (λ e. each_bit (λ f. each_bit (λ g. each_bit (λ h. given_back a b c d e f g h)))))))
    (at_bit (λ a. each_bit
    (λ b. each_bit (λ c. each_bit (λ d. each_bit (λ e. each_bit (λ f. each_bit (λ g. each_bit (λ h. given_back a b c d e f g h))))))))
    all_given_back a) b) c) d) e) f) g) h)

-- a last bit turns the number of ones
odd_turned : (b : Bool) (bs : List Bool) (p : Bool) → is_odd (bs ++ p ∷ []) ≡ (if p then not (is_odd bs) else is_odd bs)
    → is_odd ((b ∷ bs) ++ p ∷ []) ≡ (if p then not (is_odd (b ∷ bs)) else is_odd (b ∷ bs))
odd_turned true bs true h = ap not h
odd_turned true bs false h = ap not h
odd_turned false bs true h = h
odd_turned false bs false h = h

odd_with : (bs : List Bool) (p : Bool) → is_odd (bs ++ p ∷ []) ≡ (if p then not (is_odd bs) else is_odd bs)
odd_with [] p = refl
odd_with (b ∷ bs) p = odd_turned b bs p (odd_with bs p)

parity_by : (odd p : Bool) → (if p then not odd else odd) ≡ true → p ≡ not odd
parity_by true true h = absurd cc
parity_by true false h = refl
parity_by false true h = refl
parity_by false false h = absurd cc

-- the parity bit of a right frame
parity_is : (bs : List Bool) (p : Bool) → is_odd (bs ++ p ∷ []) ≡ true → p ≡ not (is_odd bs)
parity_is bs p h = parity_by (is_odd bs) p (sym (odd_with bs p) ∙ h)

is_low : (s : Bool) → not s ≡ true → s ≡ false
is_low true h = absurd cc
is_low false h = refl

-- eleven bits of which start, stop and parity are right are the frame of their byte
pub right_is : (f : List Bool) → length f ≡ 11 → is_right f ≡ true → f ≡ frame_bits (value (take 8 (drop 1 f)))
right_is (s ∷ a ∷ b ∷ c ∷ d ∷ e ∷ f ∷ g ∷ h ∷ p ∷ t ∷ []) l r =
    let bs : List Bool = a ∷ b ∷ c ∷ d ∷ e ∷ f ∷ g ∷ h ∷ [] in
    let start_stop : (not s && t) ≡ true = and-left (not s && t) (is_odd (bs ++ p ∷ [])) r in
    let start : s ≡ false = is_low s (and-left (not s) t start_stop) in
    let stop : t ≡ true = and-right (not s) t start_stop in
    let parity : p ≡ not (is_odd bs) = parity_is bs p (and-right (not s && t) (is_odd (bs ++ p ∷ [])) r) in
    ap (λ v. v ∷ bs ++ p ∷ t ∷ []) start ∙ ap (λ v. false ∷ bs ++ p ∷ v ∷ []) stop ∙ ap (λ v. false ∷ bs ++ v ∷ true ∷ []) parity
    ∙ ap (λ (v : List Bool). false ∷ v ++ not (is_odd v) ∷ true ∷ []) (sym (bits_of_value a b c d e f g h))
right_is f l r = absurd (omega (arith, l))

-- the frame of bits that are a byte's
pub framed : (bits : List Bool) (odd : Bool) (b : ℕ) → b < 256 → bits ≡ data_bits b
    → odd ≡ is_odd (get_or bits 0 false ∷ get_or bits 1 false ∷ get_or bits 2 false ∷ get_or bits 3 false
    ∷ get_or bits 4 false ∷ get_or bits 5 false ∷ get_or bits 6 false ∷ get_or bits 7 false ∷ [])
    → byte_of (false ∷ get_or bits 0 false ∷ get_or bits 1 false ∷ get_or bits 2 false ∷ get_or bits 3 false
    ∷ get_or bits 4 false ∷ get_or bits 5 false ∷ get_or bits 6 false ∷ get_or bits 7 false ∷ not odd ∷ true ∷ []) ≡ Some b
framed bits odd b l e o =
    ap (λ p. byte_of (false ∷ get_or bits 0 false ∷ get_or bits 1 false ∷ get_or bits 2 false ∷ get_or bits 3 false
    ∷ get_or bits 4 false ∷ get_or bits 5 false ∷ get_or bits 6 false ∷ get_or bits 7 false ∷ not p ∷ true ∷ [])) o
    ∙ ap (λ (d : List Bool). byte_of
    (false ∷ get_or d 0 false ∷ get_or d 1 false ∷ get_or d 2 false ∷ get_or d 3 false ∷ get_or d 4 false
    ∷ get_or d 5 false ∷ get_or d 6 false ∷ get_or d 7 false
    ∷ not (is_odd (get_or d 0 false ∷ get_or d 1 false ∷ get_or d 2 false ∷ get_or d 3 false ∷ get_or d 4 false
    ∷ get_or d 5 false ∷ get_or d 6 false ∷ get_or d 7 false ∷ [])) ∷ true ∷ [])) e
    ∙ read_back b l
