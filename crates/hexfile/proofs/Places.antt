-- A run of places that is filled from its front on.
use Rattle.std.proofs.Common.{◌≡◌, ℕ, suc, ◌+◌, ◌<◌, ◌≤◌, List, [], ◌∷◌, ◌++◌, length, get_or, take, drop, set}
use Rattle.std.proofs.Common.{map, Option, None, Some, ap, ◌∙◌, append_assoc, arith, drop-cons, false}
use Rattle.std.proofs.lemmas.Bool.Decides.{nat_tests}
use Rattle.hexfile.specs.Record.{Record}
use Rattle.hexfile.specs.Memory.{is_past}
use Rattle.std.proofs.lemmas.List.{set_at, take_more, map-append, length-map}
use Rattle.std.proofs.lemmas.Grind.{common_steps}

-- one byte more
pub filled_more : (memory old : List (Option ℕ)) (address i : ℕ) (bytes : List ℕ) → i < length bytes → address + length bytes ≤ length old
    → memory ≡ take address old ++ map Some (take i bytes) ++ drop (address + i) old
    → set memory (address + i) (Some (get_or bytes i 0)) ≡ take address old ++ map Some (take (i + 1) bytes) ++ drop (address + (i + 1)) old
filled_more memory old address i bytes within fits is =
    let lt : address + i < length old = omega arith in
    let front = take address old ++ map Some (take i bytes) in
    let long : length front ≡ address + i = grind (arith, common_steps, length-map) in
    let next : suc (address + i) ≡ address + (i + 1) = omega arith in
    let more : map Some (take (i + 1) bytes) ≡ map Some (take i bytes) ++ Some (get_or bytes i 0) ∷ [] =
    ap (map Some) (take_more bytes i 0 within) ∙ map-append Some (take i bytes) (get_or bytes i 0 ∷ []) in
    rw (is, drop-cons old (address + i) None lt, more, ← next)
    (set_at front (get_or old (address + i) None) (drop (suc (address + i)) old) (Some (get_or bytes i 0))
    (address + i) long ∙ simp append_assoc)

-- data that aren't past the last place end there at the latest
pub end_within : (line : Record) → 0 < length line.bytes → is_past line ≡ false → line.address + length line.bytes ≤ 2048
end_within line h p = grind (arith, nat_tests)
