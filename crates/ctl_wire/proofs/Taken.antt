-- A frame's last bit after the others.
use Rattle.std.proofs.Common.{◌≡◌, ℕ, ◌≤◌, ◌<◌, Bool, List, [], ◌∷◌, ◌++◌, length, take, set, ap, sym, ◌∙◌, arith}
use Rattle.std.proofs.lemmas.List.{take_all, length-take, length-set}
use Rattle.std.proofs.Math.Seq.{take-suc-set}

-- ten bits, with the eleventh written after them, are the frame's eleven
pub ended : (bits view : List Bool) (count : ℕ) (bit : Bool) → length bits ≡ 11 → count ≤ 10 → take count bits ≡ view → length view ≡ 10
    → set bits 10 bit ≡ view ++ bit ∷ []
ended bits view count bit n c v l =
    let m : length (take count bits) ≡ 10 = ap length v ∙ l in
    let k : count ≡ 10 = omega (arith, length-take count bits, m, n, c) in
    let all : length (set bits 10 bit) ≤ 11 = omega (arith, length-set bits 10 bit, n) in
    let less : 10 < length bits = omega (arith, n) in
    sym (take_all 11 (set bits 10 bit) all) ∙ take-suc-set bits 10 bit less
    ∙ ap (λ j. take j bits ++ bit ∷ []) (sym k) ∙ ap (λ x. x ++ bit ∷ []) v
