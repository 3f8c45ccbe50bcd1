-- Small programs with certificates, and what they give: the readings that the rules' sentences leave open among them.
use Rattle.std.specs.Prelude.{◌≡◌, ℕ, List, [], ◌∷◌, ◌++◌, codes, Result, Ok, Err}
use Rattle.first_fault.specs.FirstFault.{Fault}
use Rattle.cycle_cert.specs.declared.checking.Proved.{Proved}
use Rattle.cycle_cert.specs.declared.fault.Rule.{Rule}
use Rattle.cycle_cert.specs.declared.fault.Rule.TheVariants.{Form, Twice, Empty, Row, Follower, Fall}
use Rattle.cycle_cert.specs.Answers.{answer_of}

-- a program's first bytes, a certificate, and what it gives
pub record Example : Type 0 where
  pub bytes : List ℕ
  pub text : List ℕ
  pub gives : Result Proved (Fault Rule)

-- so many places with a greatest bound, and a line's first fault
abbrev right : ℕ → ℕ → Result Proved (Fault Rule)
right places greatest = Ok (record { places = places; greatest = greatest })

abbrev wrong : ℕ → Rule → Result Proved (Fault Rule)
wrong line rule = Err (record { item = line; rule = rule })

-- a certificate of two lines, and of three
abbrev two : List ℕ → List ℕ → List ℕ → Result Proved (Fault Rule) → Example
two bytes first second gives = record { bytes = bytes; text = first ++ 10 ∷ second; gives = gives }

abbrev three : List ℕ → List ℕ → List ℕ → List ℕ → Result Proved (Fault Rule) → Example
three bytes first second third gives = two bytes first (second ++ 10 ∷ third) gives

-- MOV R0,#3; DJNZ R0,002H
abbrev counting : List ℕ
counting = 184 ∷ 3 ∷ 232 ∷ 2 ∷ []

-- the programs and certificates, by what they show
unfoldable pub examples : List Example
examples =
    three counting (codes "target 004") (codes "000 8") (codes "002 0 2 0") (right 2 512) ∷
    three counting (codes "target 004") (codes "000 7") (codes "002 0 2 0") (wrong 2 Fall) ∷
    two counting (codes "target 004") (codes "000 8") (wrong 2 Follower) ∷
    two (1 ∷ []) (codes "target 001") (codes "000 9") (wrong 2 Row) ∷
    two [] [] (codes " ") (wrong 1 Empty) ∷
    -- a blank line is skipped, and the lines count on
    three [] (codes "target 001") [] (codes "000 0") (wrong 3 Fall) ∷
    -- a place given twice comes before a bound that doesn't fall
    three [] (codes "target 001") (codes "000 0") (codes "000 0") (wrong 3 Twice) ∷
    -- leading zeros are digits of a number, and digits of a place are of either case
    two [] (codes "target 7Ff") (codes "7fE 0000000001") (right 1 1) ∷
    -- single spaces part the fields, and none is after the last
    two [] (codes "target 001") (codes "000  1") (wrong 2 Form) ∷
    two [] (codes "target 001") (codes "000 1 ") (wrong 2 Form) ∷
    -- JMP 000H: the target may be certified, and nothing is left at it
    two (4 ∷ 0 ∷ []) (codes "target 000") (codes "000 2") (right 1 2) ∷
    []

-- what the definitions give
abbrev IsRight : Example → Type 0
IsRight example = answer_of example.bytes example.text ≡ example.gives

abbrev pub AreRight : List Example → Type 0
AreRight [] = Unit {0}
AreRight (example ∷ more) = IsRight example × AreRight more
