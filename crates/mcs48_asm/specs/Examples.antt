-- Sources, and what they give: the readings that the grammar's sentences leave open among them.
use Rattle.std.specs.Prelude.{◌≡◌, ℕ, List, [], ◌∷◌, ◌++◌, take, codes, Ok, Err}
use Rattle.std.specs.declared.result.Result.{Result}
use Rattle.mcs48_asm.specs.Assembly.{Fault, assembly_of}

-- the first eight bytes of an image, or the fault
abbrev pub beginning : Result (List ℕ) Fault → Result (List ℕ) Fault
beginning (Ok bytes) = Ok (take 8 bytes)
beginning (Err fault) = Err fault

-- a source, and the beginning of its image or its first fault
pub record Example : Type 0 where
  pub source : List ℕ
  pub gives : Result (List ℕ) Fault

-- a source of one line, and of more
abbrev line : List ℕ → Result (List ℕ) Fault → Example
line source gives = record { source = source; gives = gives }

abbrev lines : List ℕ → List ℕ → Result (List ℕ) Fault → Example
lines first second gives = line (first ++ 10 ∷ second) gives

-- an image that begins with two bytes, and one that begins with four
abbrev two : ℕ → ℕ → Result (List ℕ) Fault
two a b = Ok (a ∷ b ∷ 0 ∷ 0 ∷ 0 ∷ 0 ∷ 0 ∷ 0 ∷ [])

abbrev four : ℕ → ℕ → ℕ → ℕ → Result (List ℕ) Fault
four a b c d = Ok (a ∷ b ∷ c ∷ d ∷ 0 ∷ 0 ∷ 0 ∷ 0 ∷ [])

-- the sources, by what they show
unfoldable pub examples : List Example
examples =
    lines (codes "MOV A,#7FH") (codes "ADD A,#1") (four 0x23 0x7f 0x03 0x01) ∷
    lines (codes "call 7ffh") (codes "djnz r7,0") (four 0xf4 0xff 0xef 0x00) ∷
    -- a number that ends with B and has only 0 and 1 before it is binary
    line (codes "DB 10B, 0BH") (two 2 11) ∷
    line (codes "DB 12B") (Err (1, 1)) ∷
    line (codes "DB 7F") (Err (1, 1)) ∷
    -- no blank is after # or @, and none is wanted before it
    line (codes "MOV A,# 5") (Err (1, 3)) ∷
    line (codes "JMPP @ A") (Err (1, 3)) ∷
    line (codes "jmpp@a ; ü") (two 0xb3 0) ∷
    -- a label, EQU, LOW and blanks
    lines (codes "a_1 EQU 5") (codes " x : DB a_1 , LOW x, 255 ;") (four 5 0 255 0) ∷
    -- a line is of no kind
    line (codes "xy 1") (Err (1, 2)) ∷
    line (codes "EQU 5") (Err (1, 2)) ∷
    -- a second word EQU makes an EQU line
    line (codes "NOP EQU 5") (Err (1, 3)) ∷
    line (codes "ORG EQU 5") (Err (1, 3)) ∷
    line (codes "5 EQU 3") (Err (1, 3)) ∷
    line (codes "JMP EQU") (Err (1, 3)) ∷
    line (codes "DB EQU") (Err (1, 3)) ∷
    line (codes "y: x EQU 5") (Err (1, 3)) ∷
    -- a reserved word as a value is a name that no line defines
    line (codes "JMP far") (Err (1, 4)) ∷
    line (codes "DB R0") (Err (1, 4)) ∷
    line (codes "JMP A") (Err (1, 4)) ∷
    line (codes "DB LOW") (Err (1, 4)) ∷
    lines (codes "DB LOW A") (codes "A: NOP") (Err (1, 4)) ∷
    lines (codes "x1: NOP") (codes "x1: NOP") (Err (2, 5)) ∷
    -- a jump stays in the page of its second byte, whose place is counted on past 2,047
    lines (codes "ORG 255") (codes "JNZ 0") (Err (2, 6)) ∷
    lines (codes "ORG 254") (codes "JNZ 0") (two 0 0) ∷
    lines (codes "ORG 2047") (codes "JNZ 2047") (Err (2, 6)) ∷
    lines (codes "ORG 2047") (codes "MOV A,#1") (Err (2, 7)) ∷
    -- a number past 65,535, and a name with such a value
    line (codes "jnz 70000") (Err (1, 3)) ∷
    lines (codes "x EQU 70000") (codes "jnz x") (Err (1, 3)) ∷
    lines (codes "jnz x") (codes "x EQU 70000") (Err (1, 6)) ∷
    -- a place that is filled twice
    line (codes "DB 1") (two 1 0) ∷
    lines (codes "DB 1") (codes "ORG 0" ++ 10 ∷ codes "DB 2") (Err (3, 8)) ∷
    []

-- each of these sources gives what is beside it
abbrev pub AreRight : List Example → Type 0
AreRight [] = Unit {0}
AreRight (example ∷ more) = (beginning (assembly_of example.source) ≡ example.gives) × AreRight more
