-- The words that INT 09h enters for a key: the scan code or extended code in the high byte, the character in the low.
use Rattle.std.specs.Prelude.{ℕ, ◌+◌, ◌-◌, ◌*◌, ◌==◌, nat_le, Bool, ◌&&◌, ◌||◌, not, if◌then◌else◌}
use Rattle.std.specs.Prelude.{List, [], ◌∷◌, Some, None, find, option_and_then}
use Rattle.std.specs.Option.{option_map}
use Rattle.std.specs.declared.option.Option.{Option}
use Rattle.pc_tables.specs.declared.words.WordRow.{WordRow}
use Rattle.pc_tables.specs.declared.word_table.ScanRow.{ScanRow}
use Rattle.pc_tables.specs.Keys.{name_at, key_with_scan}

-- a line of the table: the scan code, and the words without a modifier, with shift, with Ctrl and with Alt
abbrev pub row : ℕ → Option ℕ → Option ℕ → Option ℕ → Option ℕ → ScanRow
row scan base shift ctrl alt =
    record { scan = scan; words = record { base = base; shift = shift; ctrl = ctrl; alt = alt } }

-- the keys that go by no rule, by rising scan code
unfoldable pub words : List ScanRow
words =
    row 0x01 (Some 0x011b) (Some 0x011b) (Some 0x011b) None ∷
    row 0x02 (Some 0x0231) (Some 0x0221) None (Some 0x7800) ∷
    row 0x03 (Some 0x0332) (Some 0x0340) (Some 0x0300) (Some 0x7900) ∷
    row 0x04 (Some 0x0433) (Some 0x0423) None (Some 0x7a00) ∷
    row 0x05 (Some 0x0534) (Some 0x0524) None (Some 0x7b00) ∷
    row 0x06 (Some 0x0635) (Some 0x0625) None (Some 0x7c00) ∷
    row 0x07 (Some 0x0736) (Some 0x075e) (Some 0x071e) (Some 0x7d00) ∷
    row 0x08 (Some 0x0837) (Some 0x0826) None (Some 0x7e00) ∷
    row 0x09 (Some 0x0938) (Some 0x092a) None (Some 0x7f00) ∷
    row 0x0a (Some 0x0a39) (Some 0x0a28) None (Some 0x8000) ∷
    row 0x0b (Some 0x0b30) (Some 0x0b29) None (Some 0x8100) ∷
    row 0x0c (Some 0x0c2d) (Some 0x0c5f) (Some 0x0c1f) (Some 0x8200) ∷
    row 0x0d (Some 0x0d3d) (Some 0x0d2b) None (Some 0x8300) ∷
    row 0x0e (Some 0x0e08) (Some 0x0e08) (Some 0x0e7f) None ∷
    row 0x0f (Some 0x0f09) (Some 0x0f00) None None ∷
    row 0x1a (Some 0x1a5b) (Some 0x1a7b) (Some 0x1a1b) None ∷
    row 0x1b (Some 0x1b5d) (Some 0x1b7d) (Some 0x1b1d) None ∷
    row 0x1c (Some 0x1c0d) (Some 0x1c0d) (Some 0x1c0a) None ∷
    row 0x27 (Some 0x273b) (Some 0x273a) None None ∷
    row 0x28 (Some 0x2827) (Some 0x2822) None None ∷
    row 0x29 (Some 0x2960) (Some 0x297e) None None ∷
    row 0x2b (Some 0x2b5c) (Some 0x2b7c) (Some 0x2b1c) None ∷
    row 0x33 (Some 0x332c) (Some 0x333c) None None ∷
    row 0x34 (Some 0x342e) (Some 0x343e) None None ∷
    row 0x35 (Some 0x352f) (Some 0x353f) None None ∷
    row 0x37 (Some 0x372a) None (Some 0x7200) None ∷
    row 0x39 (Some 0x3920) (Some 0x3920) (Some 0x3920) (Some 0x3920) ∷
    row 0x3a None None None None ∷
    row 0x45 None None None None ∷
    row 0x46 None None None None ∷
    row 0x47 (Some 0x4700) (Some 0x4737) (Some 0x7700) None ∷
    row 0x48 (Some 0x4800) (Some 0x4838) None None ∷
    row 0x49 (Some 0x4900) (Some 0x4939) (Some 0x8400) None ∷
    row 0x4a (Some 0x4a2d) (Some 0x4a2d) None None ∷
    row 0x4b (Some 0x4b00) (Some 0x4b34) (Some 0x7300) None ∷
    row 0x4c None (Some 0x4c35) None None ∷
    row 0x4d (Some 0x4d00) (Some 0x4d36) (Some 0x7400) None ∷
    row 0x4e (Some 0x4e2b) (Some 0x4e2b) None None ∷
    row 0x4f (Some 0x4f00) (Some 0x4f31) (Some 0x7500) None ∷
    row 0x50 (Some 0x5000) (Some 0x5032) None None ∷
    row 0x51 (Some 0x5100) (Some 0x5133) (Some 0x7600) None ∷
    row 0x52 (Some 0x5200) (Some 0x5230) None None ∷
    row 0x53 (Some 0x5300) (Some 0x532e) None None ∷
    []

-- the lower-case letter, if the name is one letter
abbrev pub letter_in : List ℕ → Option ℕ
letter_in [] = None
letter_in (c ∷ []) = if nat_le 97 c && nat_le c 122 then Some c else None
letter_in (c ∷ d ∷ cs) = None

-- the lower-case letter on the key with this scan code; a letter is a key whose name is one letter
unfoldable pub letter_on : ℕ → Option ℕ
letter_on scan = option_and_then (λ key. letter_in (name_at key)) (key_with_scan scan)

abbrev pub word : ℕ → ℕ → Option ℕ
word high low = Some (256 * high + low)

-- a letter: the lower-case letter, the upper-case letter, its number in the alphabet (a is 1), and 00 with Alt
abbrev pub letter_words : ℕ → ℕ → WordRow
letter_words scan letter = record {
  base = word scan letter;
  shift = word scan (letter - 32);
  ctrl = word scan (letter - 96);
  alt = word scan 0;
}

-- F1 to F10, k from 0: the scan code, or an extended code, and the character 00
abbrev pub function_words : ℕ → WordRow
function_words k = record {
  base = word (0x3b + k) 0;
  shift = word (0x54 + k) 0;
  ctrl = word (0x5e + k) 0;
  alt = word (0x68 + k) 0;
}

abbrev pub is_function_key : ℕ → Bool
is_function_key scan = nat_le 0x3b scan && nat_le scan 0x44

-- the row of the table with this scan code
abbrev pub table_words : ℕ → Option WordRow
table_words scan = option_map (λ row. row.words) (find (λ row. row.scan == scan) words)

abbrev pub words_by : Option ℕ → ℕ → Option WordRow
words_by (Some letter) scan = Some (letter_words scan letter)
words_by None scan = if is_function_key scan then Some (function_words (scan - 0x3b)) else table_words scan

-- the words of the key with this scan code, by the rule for letters, by that for function keys, or by the table
abbrev pub words_at : ℕ → Option WordRow
words_at scan = words_by (letter_on scan) scan

-- every scan code of the keyboard up to 53, but for Ctrl, the two shift keys and Alt
abbrev pub has_words : ℕ → Bool
has_words scan =
    nat_le 0x01 scan && nat_le scan 0x53
    && not (scan == 0x1d || scan == 0x2a || scan == 0x36 || scan == 0x38)
