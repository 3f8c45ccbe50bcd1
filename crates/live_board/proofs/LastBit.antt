-- The byte of ten bits that have come, as the code reads it of eleven.
use Rattle.std.proofs.Common.{◌≡◌, ℕ, ◌-◌, Bool, true, false, List, [], ◌∷◌, ◌++◌, length, take, drop}
use Rattle.std.proofs.Common.{Some, None, ap, sym, ◌∙◌, arith}
use Rattle.std.specs.Prelude.{◌==◌, if◌then◌else◌}
use Rattle.std.proofs.lemmas.Bool.Decides.{nat_tests}
use Rattle.std.proofs.lemmas.List.{drop-append-le, length-drop, take-append-le}
use Rattle.std.specs.declared.option.Option.{Option}
use Rattle.board_terms.specs.Bits.{value}
use Rattle.ctl_wire.specs.declared.wire.Wire.TheVariants.{Recv}
use Rattle.live_board.specs.Passing.{ended_by}
use Rattle.board_terms.specs.declared.transfer.Transfer.{Transfer}

-- the last bit is none of the byte's
same_bits : (bits : List Bool) → length bits ≡ 10 → take 8 (drop 1 (bits ++ true ∷ [])) ≡ take 8 (drop 1 bits)
same_bits bits ten =
    let left : length (drop 1 bits) ≡ length bits - 1 = length-drop 1 bits in
    ap (take 8) (drop-append-le 1 bits (true ∷ []) (omega (arith, ten)))
    ∙ take-append-le 8 (drop 1 bits) (true ∷ []) (omega (arith, left, ten))

-- of ten bits that have come the byte is that of the frame with a right stop bit
pub ended_is : (flip : Option ℕ) (bits frame : List Bool) (lack : Bool) (byte : ℕ) → lack ≡ (length bits == 10) → lack ≡ true
    → frame ≡ bits ++ true ∷ [] → byte ≡ value (take 8 (drop 1 frame))
    → Some (record { from_host = false; byte = byte }) ≡ ended_by (Recv flip bits)
ended_is flip bits frame lack byte log_kept is whole read =
    let h : (length bits == 10) ≡ true = sym log_kept ∙ is in
    let ten : length bits ≡ 10 = grind (arith, nat_tests, h) in
    let same : byte ≡ value (take 8 (drop 1 bits)) =
    read ∙ ap (λ (f : List Bool). value (take 8 (drop 1 f))) whole ∙ ap value (same_bits bits ten) in
    let as_byte : ℕ → Option Transfer = λ n. Some (record { from_host = false; byte = n }) in
    let if_ten : Bool → Option Transfer = λ b. if b then as_byte (value (take 8 (drop 1 bits))) else None in
    ap as_byte same ∙ ap if_ten (sym h)
