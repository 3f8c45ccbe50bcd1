-- Where the kernel reads the layout's tables, from its place 768 (300 in hexadecimal) on.
use Rattle.std.specs.Prelude.{ℕ}

-- the codes of the 96 places (300), and after them the rate (360)
abbrev pub codes_at : ℕ
codes_at = 768

abbrev pub rate_at : ℕ
rate_at = 864

-- the codes of the 96 places under Fn (361); a byte a column of the keys that send no break (3C1); the place of the Fn
-- key (3CD)
abbrev pub fn_codes_at : ℕ
fn_codes_at = 865

abbrev pub make_only_at : ℕ
make_only_at = 961

abbrev pub fn_place_at : ℕ
fn_place_at = 973

-- whether the keys are debounced: 1, or else 0 (3F2)
abbrev pub debounce_at : ℕ
debounce_at = 1010
