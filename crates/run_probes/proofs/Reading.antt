-- The transfer that eleven falls are, by the bits of a frame.
use Rattle.std.proofs.Common.{cond, ◌≡◌, ℕ, zero, suc, Bool, true, false, not, ◌&&◌, ◌==◌, List, []}
use Rattle.std.proofs.Common.{◌∷◌, length, get_or, Some, None, refl, ap, sym, ◌∙◌, arith}
use Rattle.std.specs.declared.option.Option.{Option}
use Rattle.board_terms.specs.Bits.{is_odd, value}
use Rattle.board_terms.specs.Frame.{byte_of, is_right}
use Rattle.run_probes.specs.declared.heard.Fall.{Fall}
use Rattle.board_terms.specs.declared.transfer.Transfer.{Transfer}
use Rattle.run_probes.specs.Transfers.{are_spaced, data_at, transfer_by, transfer_in}

-- the data at one of the falls
abbrev pub level : List Fall → ℕ → Bool
level falls k = (get_or falls k (record { cycle = 0; dat = false })).dat

-- at so many, from one on
abbrev pub levels : List Fall → ℕ → ℕ → List Bool
levels falls k zero = []
levels falls k (suc n) = level falls k ∷ levels falls (suc k) n

levels_after : (f : Fall) (fs : List Fall) (k n : ℕ) → levels (f ∷ fs) (suc k) n ≡ levels fs k n
levels_after f fs k zero = refl
levels_after f fs k (suc n) = ap (λ v. level fs k ∷ v) (levels_after f fs (suc k) n)

all_levels : (fs : List Fall) (n : ℕ) → length fs ≡ n → data_at fs ≡ levels fs 0 n
all_levels [] zero h = refl
all_levels [] (suc n) h = absurd (omega (arith, h))
all_levels (f ∷ fs) zero h = absurd (omega (arith, h))
all_levels (f ∷ fs) (suc n) h = ap (λ v. f.dat ∷ v) (all_levels fs n (omega (arith, h)) ∙ sym (levels_after f fs 0 n))

by_byte : (host r : Bool) (v b : ℕ) (rest : Option Transfer) → cond r (Some v) None ≡ Some b
    → cond r (Some (record { from_host = host; byte = v })) rest ≡ Some (record { from_host = host; byte = b })
by_byte host true v b rest h = let e : v ≡ b = cc h in ap (λ (n : ℕ). Some (record { from_host = host; byte = n })) e
by_byte host false v b rest h = absurd (cc h)

not_right : (r : Bool) (v : ℕ) → cond r (Some v) None ≡ None → r ≡ false
not_right true v h = absurd (cc h)
not_right false v h = refl

wrong : (f : List Bool) → byte_of f ≡ None → is_right f ≡ false
unfolding byte_of
wrong f h = not_right (is_right f) _ h

keyboards_bits : (f : List Bool) (b : ℕ) → byte_of f ≡ Some b → transfer_in f ≡ Some (record { from_host = false; byte = b })
unfolding byte_of
keyboards_bits f b h = by_byte false (is_right f) _ b _ h

hosts_bits : (a0 a1 a2 a3 a4 a5 a6 a7 a8 a9 last : Bool) (b : ℕ) → last ≡ false
    → is_right (a0 ∷ a1 ∷ a2 ∷ a3 ∷ a4 ∷ a5 ∷ a6 ∷ a7 ∷ a8 ∷ a9 ∷ last ∷ []) ≡ false
    → byte_of (false ∷ a0 ∷ a1 ∷ a2 ∷ a3 ∷ a4 ∷ a5 ∷ a6 ∷ a7 ∷ a8 ∷ a9 ∷ []) ≡ Some b
    → transfer_in (a0 ∷ a1 ∷ a2 ∷ a3 ∷ a4 ∷ a5 ∷ a6 ∷ a7 ∷ a8 ∷ a9 ∷ last ∷ []) ≡ Some (record { from_host = true; byte = b })
unfolding byte_of
hosts_bits a0 a1 a2 a3 a4 a5 a6 a7 a8 a9 last b low right h =
    let odd = is_odd (a0 ∷ a1 ∷ a2 ∷ a3 ∷ a4 ∷ a5 ∷ a6 ∷ a7 ∷ a8 ∷ []) in
    let v = value (a0 ∷ a1 ∷ a2 ∷ a3 ∷ a4 ∷ a5 ∷ a6 ∷ a7 ∷ []) in
    let w = value (a1 ∷ a2 ∷ a3 ∷ a4 ∷ a5 ∷ a6 ∷ a7 ∷ a8 ∷ []) in
    let hosts : Option Transfer = Some (record { from_host = true; byte = v }) in
    ap (λ c. cond c (Some (record { from_host = false; byte = w })) (cond (not last && a9 && odd) hosts None)) right
    ∙ ap (λ x. cond (not x && a9 && odd) hosts None) low
    ∙ by_byte true (a9 && odd) v b None h

eleven : (fs : List Fall) → length fs ≡ 11 → are_spaced fs ≡ true → transfer_by fs ≡ transfer_in (levels fs 0 11)
eleven fs long spaced =
    let both : ((length fs == 11) && are_spaced fs) ≡ true = ap (λ (n : ℕ). (n == 11) && are_spaced fs) long ∙ spaced in
    ap (λ c. cond c (transfer_in (data_at fs)) None) both ∙ ap transfer_in (all_levels fs 11 long)

-- eleven falls whose levels are a right frame are a byte of the keyboard
pub keyboards : (fs : List Fall) (b : ℕ) → length fs ≡ 11 → are_spaced fs ≡ true → byte_of (levels fs 0 11) ≡ Some b
    → transfer_by fs ≡ Some (record { from_host = false; byte = b })
keyboards fs b long spaced is = eleven fs long spaced ∙ keyboards_bits (levels fs 0 11) b is

-- eleven falls whose levels are a frame of the host, with the keyboard's acknowledge, are a byte of the host
pub hosts : (fs : List Fall) (b : ℕ) → length fs ≡ 11 → are_spaced fs ≡ true → byte_of (levels fs 0 11) ≡ None → level fs 10 ≡ false
    → byte_of (false ∷ levels fs 0 10) ≡ Some b → transfer_by fs ≡ Some (record { from_host = true; byte = b })
hosts fs b long spaced none low is =
    eleven fs long spaced
    ∙ hosts_bits (level fs 0) (level fs 1) (level fs 2) (level fs 3) (level fs 4) (level fs 5) (level fs 6)
    (level fs 7) (level fs 8) (level fs 9) (level fs 10) b low
    (wrong (levels fs 0 11) none) is
