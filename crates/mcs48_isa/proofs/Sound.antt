-- What holds of each row of the opcode table: its operands are in their ranges, it has one or two bytes, it takes one
-- or two cycles, and its operation has just the bytes that it takes, and takes the cycles of its line.
use Rattle.std.proofs.Common.{◌≡◌, ℕ, ◌+◌, ◌*◌, ◌/◌, ◌%◌, ◌<◌, IfSome, refl, arith, lit<, lit≤, subst}
use Rattle.std.proofs.lemmas.Option.{IfSome_then}
use Rattle.mcs48_isa.specs.declared.operation.Decoded.{Decoded}
use Rattle.mcs48_isa.specs.Encoding.{code_of, taken, two_bytes}
use Rattle.mcs48_isa.specs.Instructions.{entry_of}
use Rattle.mcs48_isa.specs.Operands.{IsOp}
use Rattle.mcs48_isa.specs.Table.{row_of}
use Rattle.mcs48_isa.proofs.Cases.{Sixteen, pick}

-- one or two
abbrev pub IsFew : ℕ → Type 0
IsFew k = (0 < k) × (k < 3)

few_1 : IsFew 1
few_1 = (lit< tt, lit< tt)

few_2 : IsFew 2
few_2 = (lit< tt, lit< tt)

abbrev pub IsSound : ℕ → ℕ → Decoded → Type 0
IsSound b n d =
    IsOp d.op × IsFew d.cycles × IsFew d.len × (code_of d.op ≡ taken d.len b n)
    × (d.cycles ≡ (entry_of d.op).cycles)

abbrev pub SoundAt : ℕ → Type 0
SoundAt b = (n : ℕ) → n < 256 → IfSome (row_of b n) (IsSound b n)

-- the bytes of a jump into page p
page : (b p n : ℕ) → n < 256 → two_bytes (b + 32 * ((p * 256 + n) / 256)) ((p * 256 + n) % 256) ≡ two_bytes (b + 32 * p) n
page b p n h =
    let high : (p * 256 + n) / 256 ≡ p = omega arith in
    let low : (p * 256 + n) % 256 ≡ n = omega arith in
    rw (high, low)

sound_0 : Sixteen (λ k. SoundAt (0x00 + k))
sound_0 = (
  λ n h. (tt, few_1, few_1, refl, refl),
  λ n h. tt,
  λ n h. (tt, few_2, few_1, refl, refl),
  λ n h. (tt, few_2, few_2, refl, refl),
  λ n h. (omega arith, few_2, few_2, page 0x04 0 n h, refl),
  λ n h. (tt, few_1, few_1, refl, refl),
  λ n h. tt,
  λ n h. (tt, few_1, few_1, refl, refl),
  λ n h. (tt, few_2, few_1, refl, refl),
  λ n h. (tt, few_2, few_1, refl, refl),
  λ n h. (tt, few_2, few_1, refl, refl),
  λ n h. tt,
  λ n h. ((lit≤ tt, lit< tt), few_2, few_1, refl, refl),
  λ n h. ((lit≤ tt, lit< tt), few_2, few_1, refl, refl),
  λ n h. ((lit≤ tt, lit< tt), few_2, few_1, refl, refl),
  λ n h. ((lit≤ tt, lit< tt), few_2, few_1, refl, refl),
)

sound_1 : Sixteen (λ k. SoundAt (0x10 + k))
sound_1 = (
  λ n h. (lit< tt, few_1, few_1, refl, refl),
  λ n h. (lit< tt, few_1, few_1, refl, refl),
  λ n h. (lit< tt, few_2, few_2, refl, refl),
  λ n h. (tt, few_2, few_2, refl, refl),
  λ n h. (omega arith, few_2, few_2, page 0x14 0 n h, refl),
  λ n h. (tt, few_1, few_1, refl, refl),
  λ n h. (tt, few_2, few_2, refl, refl),
  λ n h. (tt, few_1, few_1, refl, refl),
  λ n h. (lit< tt, few_1, few_1, refl, refl),
  λ n h. (lit< tt, few_1, few_1, refl, refl),
  λ n h. (lit< tt, few_1, few_1, refl, refl),
  λ n h. (lit< tt, few_1, few_1, refl, refl),
  λ n h. (lit< tt, few_1, few_1, refl, refl),
  λ n h. (lit< tt, few_1, few_1, refl, refl),
  λ n h. (lit< tt, few_1, few_1, refl, refl),
  λ n h. (lit< tt, few_1, few_1, refl, refl),
)

sound_2 : Sixteen (λ k. SoundAt (0x20 + k))
sound_2 = (
  λ n h. (lit< tt, few_1, few_1, refl, refl),
  λ n h. (lit< tt, few_1, few_1, refl, refl),
  λ n h. tt,
  λ n h. (tt, few_2, few_2, refl, refl),
  λ n h. (omega arith, few_2, few_2, page 0x04 1 n h, refl),
  λ n h. (tt, few_1, few_1, refl, refl),
  λ n h. (tt, few_2, few_2, refl, refl),
  λ n h. (tt, few_1, few_1, refl, refl),
  λ n h. (lit< tt, few_1, few_1, refl, refl),
  λ n h. (lit< tt, few_1, few_1, refl, refl),
  λ n h. (lit< tt, few_1, few_1, refl, refl),
  λ n h. (lit< tt, few_1, few_1, refl, refl),
  λ n h. (lit< tt, few_1, few_1, refl, refl),
  λ n h. (lit< tt, few_1, few_1, refl, refl),
  λ n h. (lit< tt, few_1, few_1, refl, refl),
  λ n h. (lit< tt, few_1, few_1, refl, refl),
)

sound_3 : Sixteen (λ k. SoundAt (0x30 + k))
sound_3 = (
  λ n h. (lit< tt, few_1, few_1, refl, refl),
  λ n h. (lit< tt, few_1, few_1, refl, refl),
  λ n h. (lit< tt, few_2, few_2, refl, refl),
  λ n h. tt,
  λ n h. (omega arith, few_2, few_2, page 0x14 1 n h, refl),
  λ n h. (tt, few_1, few_1, refl, refl),
  λ n h. (tt, few_2, few_2, refl, refl),
  λ n h. (tt, few_1, few_1, refl, refl),
  λ n h. tt,
  λ n h. (tt, few_2, few_1, refl, refl),
  λ n h. (tt, few_2, few_1, refl, refl),
  λ n h. tt,
  λ n h. ((lit≤ tt, lit< tt), few_2, few_1, refl, refl),
  λ n h. ((lit≤ tt, lit< tt), few_2, few_1, refl, refl),
  λ n h. ((lit≤ tt, lit< tt), few_2, few_1, refl, refl),
  λ n h. ((lit≤ tt, lit< tt), few_2, few_1, refl, refl),
)

sound_4 : Sixteen (λ k. SoundAt (0x40 + k))
sound_4 = (
  λ n h. (lit< tt, few_1, few_1, refl, refl),
  λ n h. (lit< tt, few_1, few_1, refl, refl),
  λ n h. (tt, few_1, few_1, refl, refl),
  λ n h. (tt, few_2, few_2, refl, refl),
  λ n h. (omega arith, few_2, few_2, page 0x04 2 n h, refl),
  λ n h. (tt, few_1, few_1, refl, refl),
  λ n h. (tt, few_2, few_2, refl, refl),
  λ n h. (tt, few_1, few_1, refl, refl),
  λ n h. (lit< tt, few_1, few_1, refl, refl),
  λ n h. (lit< tt, few_1, few_1, refl, refl),
  λ n h. (lit< tt, few_1, few_1, refl, refl),
  λ n h. (lit< tt, few_1, few_1, refl, refl),
  λ n h. (lit< tt, few_1, few_1, refl, refl),
  λ n h. (lit< tt, few_1, few_1, refl, refl),
  λ n h. (lit< tt, few_1, few_1, refl, refl),
  λ n h. (lit< tt, few_1, few_1, refl, refl),
)

sound_5 : Sixteen (λ k. SoundAt (0x50 + k))
sound_5 = (
  λ n h. (lit< tt, few_1, few_1, refl, refl),
  λ n h. (lit< tt, few_1, few_1, refl, refl),
  λ n h. (lit< tt, few_2, few_2, refl, refl),
  λ n h. (tt, few_2, few_2, refl, refl),
  λ n h. (omega arith, few_2, few_2, page 0x14 2 n h, refl),
  λ n h. (tt, few_1, few_1, refl, refl),
  λ n h. (tt, few_2, few_2, refl, refl),
  λ n h. (tt, few_1, few_1, refl, refl),
  λ n h. (lit< tt, few_1, few_1, refl, refl),
  λ n h. (lit< tt, few_1, few_1, refl, refl),
  λ n h. (lit< tt, few_1, few_1, refl, refl),
  λ n h. (lit< tt, few_1, few_1, refl, refl),
  λ n h. (lit< tt, few_1, few_1, refl, refl),
  λ n h. (lit< tt, few_1, few_1, refl, refl),
  λ n h. (lit< tt, few_1, few_1, refl, refl),
  λ n h. (lit< tt, few_1, few_1, refl, refl),
)

sound_6 : Sixteen (λ k. SoundAt (0x60 + k))
sound_6 = (
  λ n h. (lit< tt, few_1, few_1, refl, refl),
  λ n h. (lit< tt, few_1, few_1, refl, refl),
  λ n h. (tt, few_1, few_1, refl, refl),
  λ n h. tt,
  λ n h. (omega arith, few_2, few_2, page 0x04 3 n h, refl),
  λ n h. (tt, few_1, few_1, refl, refl),
  λ n h. tt,
  λ n h. (tt, few_1, few_1, refl, refl),
  λ n h. (lit< tt, few_1, few_1, refl, refl),
  λ n h. (lit< tt, few_1, few_1, refl, refl),
  λ n h. (lit< tt, few_1, few_1, refl, refl),
  λ n h. (lit< tt, few_1, few_1, refl, refl),
  λ n h. (lit< tt, few_1, few_1, refl, refl),
  λ n h. (lit< tt, few_1, few_1, refl, refl),
  λ n h. (lit< tt, few_1, few_1, refl, refl),
  λ n h. (lit< tt, few_1, few_1, refl, refl),
)

sound_7 : Sixteen (λ k. SoundAt (0x70 + k))
sound_7 = (
  λ n h. (lit< tt, few_1, few_1, refl, refl),
  λ n h. (lit< tt, few_1, few_1, refl, refl),
  λ n h. (lit< tt, few_2, few_2, refl, refl),
  λ n h. tt,
  λ n h. (omega arith, few_2, few_2, page 0x14 3 n h, refl),
  λ n h. (tt, few_1, few_1, refl, refl),
  λ n h. (tt, few_2, few_2, refl, refl),
  λ n h. (tt, few_1, few_1, refl, refl),
  λ n h. (lit< tt, few_1, few_1, refl, refl),
  λ n h. (lit< tt, few_1, few_1, refl, refl),
  λ n h. (lit< tt, few_1, few_1, refl, refl),
  λ n h. (lit< tt, few_1, few_1, refl, refl),
  λ n h. (lit< tt, few_1, few_1, refl, refl),
  λ n h. (lit< tt, few_1, few_1, refl, refl),
  λ n h. (lit< tt, few_1, few_1, refl, refl),
  λ n h. (lit< tt, few_1, few_1, refl, refl),
)

sound_8 : Sixteen (λ k. SoundAt (0x80 + k))
sound_8 = (
  λ n h. (lit< tt, few_2, few_1, refl, refl),
  λ n h. (lit< tt, few_2, few_1, refl, refl),
  λ n h. tt,
  λ n h. (tt, few_2, few_1, refl, refl),
  λ n h. (omega arith, few_2, few_2, page 0x04 4 n h, refl),
  λ n h. (tt, few_1, few_1, refl, refl),
  λ n h. (tt, few_2, few_2, refl, refl),
  λ n h. tt,
  λ n h. (tt, few_2, few_2, refl, refl),
  λ n h. (tt, few_2, few_2, refl, refl),
  λ n h. (tt, few_2, few_2, refl, refl),
  λ n h. tt,
  λ n h. ((lit≤ tt, lit< tt), few_2, few_1, refl, refl),
  λ n h. ((lit≤ tt, lit< tt), few_2, few_1, refl, refl),
  λ n h. ((lit≤ tt, lit< tt), few_2, few_1, refl, refl),
  λ n h. ((lit≤ tt, lit< tt), few_2, few_1, refl, refl),
)

sound_9 : Sixteen (λ k. SoundAt (0x90 + k))
sound_9 = (
  λ n h. (lit< tt, few_2, few_1, refl, refl),
  λ n h. (lit< tt, few_2, few_1, refl, refl),
  λ n h. (lit< tt, few_2, few_2, refl, refl),
  λ n h. (tt, few_2, few_1, refl, refl),
  λ n h. (omega arith, few_2, few_2, page 0x14 4 n h, refl),
  λ n h. (tt, few_1, few_1, refl, refl),
  λ n h. (tt, few_2, few_2, refl, refl),
  λ n h. (tt, few_1, few_1, refl, refl),
  λ n h. (tt, few_2, few_2, refl, refl),
  λ n h. (tt, few_2, few_2, refl, refl),
  λ n h. (tt, few_2, few_2, refl, refl),
  λ n h. tt,
  λ n h. ((lit≤ tt, lit< tt), few_2, few_1, refl, refl),
  λ n h. ((lit≤ tt, lit< tt), few_2, few_1, refl, refl),
  λ n h. ((lit≤ tt, lit< tt), few_2, few_1, refl, refl),
  λ n h. ((lit≤ tt, lit< tt), few_2, few_1, refl, refl),
)

sound_A : Sixteen (λ k. SoundAt (0xa0 + k))
sound_A = (
  λ n h. (lit< tt, few_1, few_1, refl, refl),
  λ n h. (lit< tt, few_1, few_1, refl, refl),
  λ n h. tt,
  λ n h. (tt, few_2, few_1, refl, refl),
  λ n h. (omega arith, few_2, few_2, page 0x04 5 n h, refl),
  λ n h. (tt, few_1, few_1, refl, refl),
  λ n h. tt,
  λ n h. (tt, few_1, few_1, refl, refl),
  λ n h. (lit< tt, few_1, few_1, refl, refl),
  λ n h. (lit< tt, few_1, few_1, refl, refl),
  λ n h. (lit< tt, few_1, few_1, refl, refl),
  λ n h. (lit< tt, few_1, few_1, refl, refl),
  λ n h. (lit< tt, few_1, few_1, refl, refl),
  λ n h. (lit< tt, few_1, few_1, refl, refl),
  λ n h. (lit< tt, few_1, few_1, refl, refl),
  λ n h. (lit< tt, few_1, few_1, refl, refl),
)

sound_B : Sixteen (λ k. SoundAt (0xb0 + k))
sound_B = (
  λ n h. (lit< tt, few_2, few_2, refl, refl),
  λ n h. (lit< tt, few_2, few_2, refl, refl),
  λ n h. (lit< tt, few_2, few_2, refl, refl),
  λ n h. (tt, few_2, few_1, refl, refl),
  λ n h. (omega arith, few_2, few_2, page 0x14 5 n h, refl),
  λ n h. (tt, few_1, few_1, refl, refl),
  λ n h. (tt, few_2, few_2, refl, refl),
  λ n h. tt,
  λ n h. (lit< tt, few_2, few_2, refl, refl),
  λ n h. (lit< tt, few_2, few_2, refl, refl),
  λ n h. (lit< tt, few_2, few_2, refl, refl),
  λ n h. (lit< tt, few_2, few_2, refl, refl),
  λ n h. (lit< tt, few_2, few_2, refl, refl),
  λ n h. (lit< tt, few_2, few_2, refl, refl),
  λ n h. (lit< tt, few_2, few_2, refl, refl),
  λ n h. (lit< tt, few_2, few_2, refl, refl),
)

sound_C : Sixteen (λ k. SoundAt (0xc0 + k))
sound_C = (
  λ n h. tt,
  λ n h. tt,
  λ n h. tt,
  λ n h. tt,
  λ n h. (omega arith, few_2, few_2, page 0x04 6 n h, refl),
  λ n h. (tt, few_1, few_1, refl, refl),
  λ n h. (tt, few_2, few_2, refl, refl),
  λ n h. (tt, few_1, few_1, refl, refl),
  λ n h. (lit< tt, few_1, few_1, refl, refl),
  λ n h. (lit< tt, few_1, few_1, refl, refl),
  λ n h. (lit< tt, few_1, few_1, refl, refl),
  λ n h. (lit< tt, few_1, few_1, refl, refl),
  λ n h. (lit< tt, few_1, few_1, refl, refl),
  λ n h. (lit< tt, few_1, few_1, refl, refl),
  λ n h. (lit< tt, few_1, few_1, refl, refl),
  λ n h. (lit< tt, few_1, few_1, refl, refl),
)

sound_D : Sixteen (λ k. SoundAt (0xd0 + k))
sound_D = (
  λ n h. (lit< tt, few_1, few_1, refl, refl),
  λ n h. (lit< tt, few_1, few_1, refl, refl),
  λ n h. (lit< tt, few_2, few_2, refl, refl),
  λ n h. (tt, few_2, few_2, refl, refl),
  λ n h. (omega arith, few_2, few_2, page 0x14 6 n h, refl),
  λ n h. (tt, few_1, few_1, refl, refl),
  λ n h. tt,
  λ n h. (tt, few_1, few_1, refl, refl),
  λ n h. (lit< tt, few_1, few_1, refl, refl),
  λ n h. (lit< tt, few_1, few_1, refl, refl),
  λ n h. (lit< tt, few_1, few_1, refl, refl),
  λ n h. (lit< tt, few_1, few_1, refl, refl),
  λ n h. (lit< tt, few_1, few_1, refl, refl),
  λ n h. (lit< tt, few_1, few_1, refl, refl),
  λ n h. (lit< tt, few_1, few_1, refl, refl),
  λ n h. (lit< tt, few_1, few_1, refl, refl),
)

sound_E : Sixteen (λ k. SoundAt (0xe0 + k))
sound_E = (
  λ n h. tt,
  λ n h. tt,
  λ n h. tt,
  λ n h. (tt, few_2, few_1, refl, refl),
  λ n h. (omega arith, few_2, few_2, page 0x04 7 n h, refl),
  λ n h. (tt, few_1, few_1, refl, refl),
  λ n h. (tt, few_2, few_2, refl, refl),
  λ n h. (tt, few_1, few_1, refl, refl),
  λ n h. (lit< tt, few_2, few_2, refl, refl),
  λ n h. (lit< tt, few_2, few_2, refl, refl),
  λ n h. (lit< tt, few_2, few_2, refl, refl),
  λ n h. (lit< tt, few_2, few_2, refl, refl),
  λ n h. (lit< tt, few_2, few_2, refl, refl),
  λ n h. (lit< tt, few_2, few_2, refl, refl),
  λ n h. (lit< tt, few_2, few_2, refl, refl),
  λ n h. (lit< tt, few_2, few_2, refl, refl),
)

sound_F : Sixteen (λ k. SoundAt (0xf0 + k))
sound_F = (
  λ n h. (lit< tt, few_1, few_1, refl, refl),
  λ n h. (lit< tt, few_1, few_1, refl, refl),
  λ n h. (lit< tt, few_2, few_2, refl, refl),
  λ n h. tt,
  λ n h. (omega arith, few_2, few_2, page 0x14 7 n h, refl),
  λ n h. (tt, few_1, few_1, refl, refl),
  λ n h. (tt, few_2, few_2, refl, refl),
  λ n h. (tt, few_1, few_1, refl, refl),
  λ n h. (lit< tt, few_1, few_1, refl, refl),
  λ n h. (lit< tt, few_1, few_1, refl, refl),
  λ n h. (lit< tt, few_1, few_1, refl, refl),
  λ n h. (lit< tt, few_1, few_1, refl, refl),
  λ n h. (lit< tt, few_1, few_1, refl, refl),
  λ n h. (lit< tt, few_1, few_1, refl, refl),
  λ n h. (lit< tt, few_1, few_1, refl, refl),
  λ n h. (lit< tt, few_1, few_1, refl, refl),
)

sound_lines : Sixteen (λ h. Sixteen (λ k. SoundAt (16 * h + k)))
sound_lines = (
  sound_0,
  sound_1,
  sound_2,
  sound_3,
  sound_4,
  sound_5,
  sound_6,
  sound_7,
  sound_8,
  sound_9,
  sound_A,
  sound_B,
  sound_C,
  sound_D,
  sound_E,
  sound_F,
)

-- each row is sound
pub sound : (b n : ℕ) → b < 256 → n < 256 → IfSome (row_of b n) (IsSound b n)
sound b n first second =
    let high : b / 16 < 16 = omega arith in
    let low : b % 16 < 16 = omega arith in
    let digits : 16 * (b / 16) + b % 16 ≡ b = omega arith in
    subst SoundAt digits
    (pick (λ k. SoundAt (16 * (b / 16) + k)) (pick (λ h. Sixteen (λ k. SoundAt (16 * h + k))) sound_lines (b / 16) high) (b % 16) low)
    n second

-- what follows of a sound row holds of each row
pub each_row : (Q : Decoded → Type 0) (b n : ℕ) → ((d : Decoded) → IsSound b n d → Q d) → b < 256 → n < 256 → IfSome (row_of b n) Q
each_row Q b n follows first second = IfSome_then (row_of b n) (sound b n first second) follows
