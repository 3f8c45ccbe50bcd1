-- The 84 keys.
use Rattle.std.specs.Prelude.{ℕ, ◌==◌, nat_lt, if◌then◌else◌, List, [], ◌∷◌, codes, position, slice_index_or}
use Rattle.std.specs.Prelude.{Some, None}
use Rattle.std.specs.Str.{bytes_eq}
use Rattle.std.specs.declared.option.Option.{Option}

-- a key: its name, the code that the keyboard sends, and the scan code after translation
pub record Row : Type 0 where
  pub name : List ℕ
  pub code : ℕ
  pub scan : ℕ

abbrev pub row : List ℕ → ℕ → ℕ → Row
row name code scan = record { name = name; code = code; scan = scan }

-- the keys in the order of their numbers, from 0
unfoldable pub keys : List Row
keys =
    row (codes "grave") 0x0e 0x29 ∷
    row (codes "1") 0x16 0x02 ∷
    row (codes "2") 0x1e 0x03 ∷
    row (codes "3") 0x26 0x04 ∷
    row (codes "4") 0x25 0x05 ∷
    row (codes "5") 0x2e 0x06 ∷
    row (codes "6") 0x36 0x07 ∷
    row (codes "7") 0x3d 0x08 ∷
    row (codes "8") 0x3e 0x09 ∷
    row (codes "9") 0x46 0x0a ∷
    row (codes "0") 0x45 0x0b ∷
    row (codes "minus") 0x4e 0x0c ∷
    row (codes "equal") 0x55 0x0d ∷
    row (codes "backslash") 0x5d 0x2b ∷
    row (codes "backspace") 0x66 0x0e ∷
    row (codes "tab") 0x0d 0x0f ∷
    row (codes "q") 0x15 0x10 ∷
    row (codes "w") 0x1d 0x11 ∷
    row (codes "e") 0x24 0x12 ∷
    row (codes "r") 0x2d 0x13 ∷
    row (codes "t") 0x2c 0x14 ∷
    row (codes "y") 0x35 0x15 ∷
    row (codes "u") 0x3c 0x16 ∷
    row (codes "i") 0x43 0x17 ∷
    row (codes "o") 0x44 0x18 ∷
    row (codes "p") 0x4d 0x19 ∷
    row (codes "lbracket") 0x54 0x1a ∷
    row (codes "rbracket") 0x5b 0x1b ∷
    row (codes "ctrl") 0x14 0x1d ∷
    row (codes "a") 0x1c 0x1e ∷
    row (codes "s") 0x1b 0x1f ∷
    row (codes "d") 0x23 0x20 ∷
    row (codes "f") 0x2b 0x21 ∷
    row (codes "g") 0x34 0x22 ∷
    row (codes "h") 0x33 0x23 ∷
    row (codes "j") 0x3b 0x24 ∷
    row (codes "k") 0x42 0x25 ∷
    row (codes "l") 0x4b 0x26 ∷
    row (codes "semicolon") 0x4c 0x27 ∷
    row (codes "quote") 0x52 0x28 ∷
    row (codes "enter") 0x5a 0x1c ∷
    row (codes "lshift") 0x12 0x2a ∷
    row (codes "z") 0x1a 0x2c ∷
    row (codes "x") 0x22 0x2d ∷
    row (codes "c") 0x21 0x2e ∷
    row (codes "v") 0x2a 0x2f ∷
    row (codes "b") 0x32 0x30 ∷
    row (codes "n") 0x31 0x31 ∷
    row (codes "m") 0x3a 0x32 ∷
    row (codes "comma") 0x41 0x33 ∷
    row (codes "period") 0x49 0x34 ∷
    row (codes "slash") 0x4a 0x35 ∷
    row (codes "rshift") 0x59 0x36 ∷
    row (codes "alt") 0x11 0x38 ∷
    row (codes "space") 0x29 0x39 ∷
    row (codes "caps") 0x58 0x3a ∷
    row (codes "f1") 0x05 0x3b ∷
    row (codes "f2") 0x06 0x3c ∷
    row (codes "f3") 0x04 0x3d ∷
    row (codes "f4") 0x0c 0x3e ∷
    row (codes "f5") 0x03 0x3f ∷
    row (codes "f6") 0x0b 0x40 ∷
    row (codes "f7") 0x83 0x41 ∷
    row (codes "f8") 0x0a 0x42 ∷
    row (codes "f9") 0x01 0x43 ∷
    row (codes "f10") 0x09 0x44 ∷
    row (codes "esc") 0x76 0x01 ∷
    row (codes "num") 0x77 0x45 ∷
    row (codes "scroll") 0x7e 0x46 ∷
    row (codes "sysreq") 0x84 0x54 ∷
    row (codes "kp7") 0x6c 0x47 ∷
    row (codes "kp8") 0x75 0x48 ∷
    row (codes "kp9") 0x7d 0x49 ∷
    row (codes "kpminus") 0x7b 0x4a ∷
    row (codes "kp4") 0x6b 0x4b ∷
    row (codes "kp5") 0x73 0x4c ∷
    row (codes "kp6") 0x74 0x4d ∷
    row (codes "kpplus") 0x79 0x4e ∷
    row (codes "kp1") 0x69 0x4f ∷
    row (codes "kp2") 0x72 0x50 ∷
    row (codes "kp3") 0x7a 0x51 ∷
    row (codes "kp0") 0x70 0x52 ∷
    row (codes "kpdot") 0x71 0x53 ∷
    row (codes "prtsc") 0x7c 0x37 ∷
    []

-- the row of the key with this number
abbrev pub row_at : ℕ → Row
row_at number = slice_index_or keys number (row [] 0 0)

abbrev pub name_at : ℕ → List ℕ
name_at number = (row_at number).name

abbrev pub code_at : ℕ → ℕ
code_at number = (row_at number).code

abbrev pub scan_at : ℕ → ℕ
scan_at number = (row_at number).scan

-- the number of the key with this name; names are compared exactly
abbrev pub key_with_name : List ℕ → Option ℕ
key_with_name name = position (λ key. bytes_eq key.name name) keys

-- the number of the key with this keyboard code
abbrev pub key_with_code : ℕ → Option ℕ
key_with_code code = position (λ key. key.code == code) keys

-- the number of the key with this scan code
abbrev pub key_with_scan : ℕ → Option ℕ
key_with_scan scan = position (λ key. key.scan == scan) keys

-- the key with this number
abbrev pub key_numbered : ℕ → Option ℕ
key_numbered number = if nat_lt number 84 then Some number else None
