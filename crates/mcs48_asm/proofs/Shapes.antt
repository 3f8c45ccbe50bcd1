-- The lines of a listing, by the form of their instruction.
use Rattle.std.proofs.Common.{◌≡◌, ℕ, ◌+◌, ◌/◌, ◌%◌, ◌<◌, ◌≤◌, ◌||◌, not, false, Bool, List, []}
use Rattle.std.proofs.Common.{◌∷◌, Option, Some, None, if◌then◌else◌, refl, ap, arith}
use Rattle.std.proofs.lemmas.Bool.{le-ltb, eq-eqb}
use Rattle.mcs48_isa.specs.Text.{target}
use Rattle.mcs48_asm.specs.declared.argument.Role.{Role}
use Rattle.mcs48_asm.specs.declared.argument.Role.TheVariants as role
use Rattle.mcs48_asm.specs.declared.flaw.Flaw.{Flaw}
use Rattle.mcs48_asm.specs.declared.flaw.Flaw.TheVariants.{Misfit, OffPage}
use Rattle.mcs48_asm.specs.Values.{Number}
use Rattle.mcs48_asm.specs.Statements.{Instruction, line_of}
use Rattle.mcs48_asm.specs.Names.{Meanings, with_value}
use Rattle.mcs48_asm.specs.Faults.{is_past, is_outside}
use Rattle.mcs48_asm.proofs.Plain.{IsPlain}
use Rattle.mcs48_asm.proofs.Readings.{IsRead, said, said_at, late_fault}

-- an instruction without a value
pub bare : (text : List ℕ) (place opcode : ℕ) → IsPlain text → line_of text ≡ said (Instruction opcode None)
    → IsRead text place (opcode ∷ [])
bare text place opcode plain line =
    record {
      statement = Instruction opcode None;
      plain = plain;
      line = line;
      bytes_are = λ names. refl;
      count = refl;
      start = λ before. refl;
      no_name = refl;
      faults = λ names seen filled. refl;
    }

-- a value that is a number of its role's range, and in its page where it is a target
abbrev pub Suits : ℕ → Role → ℕ → Type 0
Suits place role n = (names : Meanings) → (is_past names role (Number n) ≡ false) × (is_outside names place role (Number n) ≡ false)

-- if a number isn't refused and the jump is in its page, only later faults are left
pub if_none : (refused off : Bool) (late : Option Flaw) → refused ≡ false → off ≡ false
    → (if refused then Some Misfit else (if off then Some OffPage else late)) ≡ late
if_none refused off late no_refusal no_jump = rw (no_refusal, no_jump) refl

-- an instruction with a value
pub with_number : (text : List ℕ) (place opcode : ℕ) (role : Role) (n first second : ℕ) → IsPlain text
    → line_of text ≡ said (Instruction opcode (Some (record { role = role; value = Number n }))) → Suits place role n
    → with_value opcode role n ≡ first ∷ second ∷ []
    → IsRead text place (first ∷ second ∷ [])
with_number text place opcode role n first second plain line suits bytes =
    record {
      statement = Instruction opcode (Some (record { role = role; value = Number n }));
      plain = plain;
      line = line;
      bytes_are = λ names. bytes;
      count = refl;
      start = λ before. refl;
      no_name = refl;
      faults = λ names seen filled.
          if_none _ _ (late_fault filled (said_at place (Instruction opcode (Some (record { role = role; value = Number n })))))
          (ap (λ b. (b || false) || false || false || false || false) (suits names).0) (ap (λ b. b || false) (suits names).1);
    }

-- a byte is no refused number, and no jump
pub byte-suits : (place n : ℕ) → n < 256 → Suits place role.Byte n
byte-suits place n below names = (le-ltb 255 n (omega arith), refl)

-- a target in the page of the second byte
pub target-below : (place n : ℕ) → place + 2 ≤ 2048 → n < 256 → target place n < 2048
target-below place n fits below = omega arith

-- the low byte of a target is the jump's byte
pub target-low : (place n : ℕ) → n < 256 → target place n % 256 ≡ n
target-low place n below = omega arith

-- a jump's target in a listing is an address in its page
pub target-suits : (place n : ℕ) → place + 2 ≤ 2048 → n < 256 → Suits place role.Target (target place n)
target-suits place n fits below names =
    let page : target place n / 256 ≡ (place + 1) / 256 = omega arith in
    (le-ltb 65535 (target place n) (omega arith), ap not (eq-eqb (target place n / 256) ((place + 1) / 256) page))
