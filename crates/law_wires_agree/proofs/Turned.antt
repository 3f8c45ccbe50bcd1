-- A right frame with one bit turned round is wrong: its ones are odd no more.
use Rattle.std.proofs.Common.{◌≡◌, ℕ, suc, zero, ◌≤◌, ◌<◌, Bool, true, false, not, ◌&&◌, List, [], ◌∷◌, length, take, drop, set}
use Rattle.std.proofs.Common.{Some, None, refl, ap, ◌∙◌, arith}
use Rattle.std.specs.Prelude.{if◌then◌else◌, slice_index_or}
use Rattle.board_terms.specs.Bits.{is_odd, value}
use Rattle.board_terms.specs.Frame.{byte_of}
use Rattle.ctl_wire.specs.Wire.{turned}
use Rattle.law_wires_agree.specs.Cells.{bits_to}
use Rattle.law_wires_agree.specs.Flips.{FlipsSeen}

-- turning a bit round turns round whether the ones are odd
head_turned : (bit odd : Bool) → (if not bit then not odd else odd) ≡ not (if bit then not odd else odd)
head_turned true true = refl
head_turned true false = refl
head_turned false true = refl
head_turned false false = refl

rest_turned : (bit odd : Bool) → (if bit then not (not odd) else not odd) ≡ not (if bit then not odd else odd)
rest_turned true odd = refl
rest_turned false odd = refl

odd_turned : (bits : List Bool) (k : ℕ) → k < length bits → is_odd (set bits k (not (slice_index_or bits k false))) ≡ not (is_odd bits)
odd_turned [] k l = absurd (omega arith)
odd_turned (bit ∷ bits) zero l = head_turned bit (is_odd bits)
odd_turned (bit ∷ bits) (suc k) l =
    ap (λ odd. if bit then not odd else odd) (odd_turned bits k (omega (arith, l))) ∙ rest_turned bit (is_odd bits)

-- a frame whose ones are even is wrong
not_odd : (start stop odd : Bool) (read byte other : ℕ) → (if not start && stop && odd then Some read else None) ≡ Some byte
    → (if not start && stop && not odd then Some other else None) ≡ None
not_odd true stop odd read byte other h = absurd cc
not_odd false false odd read byte other h = absurd cc
not_odd false true true read byte other h = refl
not_odd false true false read byte other h = absurd cc

module _ (bits : ℕ → Bool) (byte : ℕ) (right : byte_of (bits_to bits 11) ≡ Some byte) where
  abbrev frame : List Bool
  frame = bits_to bits 11

  -- the data and the parity
  abbrev inner : List Bool
  inner = take 9 (drop 1 frame)

  abbrev with_turned : ℕ → List Bool
  with_turned k = set frame (suc k) (not (slice_index_or frame (suc k) false))

  by_odd : (read : ℕ) (odd : Bool) → odd ≡ not (is_odd inner) → (if not (bits 0) && bits 10 && odd then Some read else None) ≡ None
  unfolding byte_of
  by_odd read odd e =
      ap (λ o. if not (bits 0) && bits 10 && o then Some read else None) e
      ∙ not_odd (bits 0) (bits 10) (is_odd inner) (value (take 8 (drop 1 frame))) byte read right

  at : (k : ℕ) → k < 9 → (read : ℕ)
      → (if not (bits 0) && bits 10 && is_odd (set inner k (not (slice_index_or inner k false))) then Some read else None) ≡ None
  at k l read = by_odd read (is_odd (set inner k (not (slice_index_or inner k false)))) (odd_turned inner k l)

  -- each of the nine
  wrong : (k : ℕ) → k < 9 → byte_of (with_turned k) ≡ None
  unfolding byte_of
  wrong zero l = at 0 l (value (take 8 (drop 1 (with_turned 0))))
  wrong (suc zero) l = at 1 l (value (take 8 (drop 1 (with_turned 1))))
  wrong (suc (suc zero)) l = at 2 l (value (take 8 (drop 1 (with_turned 2))))
  wrong (suc (suc (suc zero))) l = at 3 l (value (take 8 (drop 1 (with_turned 3))))
  wrong (suc (suc (suc (suc zero)))) l = at 4 l (value (take 8 (drop 1 (with_turned 4))))
  wrong (suc (suc (suc (suc (suc zero))))) l = at 5 l (value (take 8 (drop 1 (with_turned 5))))
  wrong (suc (suc (suc (suc (suc (suc zero)))))) l = at 6 l (value (take 8 (drop 1 (with_turned 6))))
  wrong (suc (suc (suc (suc (suc (suc (suc zero))))))) l = at 7 l (value (take 8 (drop 1 (with_turned 7))))
  wrong (suc (suc (suc (suc (suc (suc (suc (suc zero)))))))) l = at 8 l (value (take 8 (drop 1 (with_turned 8))))
  wrong (suc (suc (suc (suc (suc (suc (suc (suc (suc k))))))))) l = absurd (omega (arith, l))

  -- bits are counted from 1 on
  counted : (bit : ℕ) → 1 ≤ bit → bit ≤ 9 → byte_of (turned (Some bit) frame) ≡ None
  counted zero least most = absurd (omega (arith, least))
  counted (suc k) least most = wrong k (omega (arith, most))

-- a right frame with one data bit or the parity turned round is wrong; without noise it brings its byte
pub flips_seen : FlipsSeen
flips_seen bits byte None right is = right
flips_seen bits byte (Some bit) right is = counted bits byte right bit is.0 is.1
