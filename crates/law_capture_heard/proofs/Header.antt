-- The header of a trace, read line by line.
use Rattle.std.proofs.Common.{◌≡◌, ℕ, ◌+◌, Bool, true, false, List, [], ◌∷◌, ◌++◌, codes}
use Rattle.std.proofs.Common.{refl, ap, ◌∙◌, append_assoc}
use Rattle.std.specs.Prelude.{if◌then◌else◌}
use Rattle.text_lines.specs.Fields.{fields}
use Rattle.key_lines.proofs.Parted.{IsLine, text-by}
use Rattle.capture_vcd.specs.Levels.{at_start, both_high}
use Rattle.capture_vcd.specs.Reads.{reads_of}
use Rattle.run_wires.specs.Text.{header, if_seen, line}
use Rattle.law_capture_heard.proofs.Reading.{Leads, State, clk, dat, in_body, line_read, reads_at, with_clock, with_data, with_unit}

-- a line more, if it is there
abbrev pub line_if : Bool → ℕ → ℕ
line_if there n = if there then n + 1 else n

-- which signals a trace has, and which of them is read as data: the wire, of a trace without a third signal or with it, or
-- the third signal
pub data View : Type 0 where
  TheWire : Bool → View
  TheSeen : View

abbrev pub has_seen : View → Bool
has_seen (TheWire has) = has
has_seen TheSeen = true

abbrev pub reads_seen : View → Bool
reads_seen (TheWire has) = false
reads_seen TheSeen = true

-- after the line of the data wire
abbrev after_data : Bool → State
after_data seen = if seen then with_clock else with_data seen

-- the header, line by line
module _ (seen : Bool) (n : ℕ) (rest : List ℕ) where
  unit_read : reads_at seen at_start n (line (codes "$timescale 100 ns $end") ++ rest)
      ≡ reads_at seen with_unit (n + 1) rest
  unfolding fields
  unit_read =
      line_read seen at_start with_unit n (codes "$timescale 100 ns $end") rest
      (codes "$timescale" ∷ codes "100" ∷ codes "ns" ∷ codes "$end" ∷ []) (text-by 31 (codes "$timescale 100 ns $end") refl)
      refl (λ m more. refl)

  scope_read : reads_at seen with_unit n (line (codes "$scope module kbd $end") ++ rest)
      ≡ reads_at seen with_unit (n + 1) rest
  unfolding fields
  scope_read =
      line_read seen with_unit with_unit n (codes "$scope module kbd $end") rest
      (codes "$scope" ∷ codes "module" ∷ codes "kbd" ∷ codes "$end" ∷ []) (text-by 31 (codes "$scope module kbd $end") refl)
      refl (λ m more. refl)

  scope_ends : reads_at seen (with_data seen) n (line (codes "$upscope $end") ++ rest)
      ≡ reads_at seen (with_data seen) (n + 1) rest
  unfolding fields
  scope_ends =
      line_read seen (with_data seen) (with_data seen) n
      (codes "$upscope $end") rest (codes "$upscope" ∷ codes "$end" ∷ []) (text-by 31 (codes "$upscope $end") refl)
      refl (λ m more. refl)

  header_ends : reads_at seen (with_data seen) n (line (codes "$enddefinitions $end") ++ rest)
      ≡ reads_at seen (in_body seen 0 both_high both_high) (n + 1) rest
  unfolding fields
  header_ends =
      line_read seen (with_data seen) (in_body seen 0 both_high both_high) n
      (codes "$enddefinitions $end") rest (codes "$enddefinitions" ∷ codes "$end" ∷ [])
      (text-by 31 (codes "$enddefinitions $end") refl) refl (λ m more. refl)

  -- the levels at time 0
  stays_high : (text : List ℕ) → IsLine text → fields text ≡ text ∷ []
      → Leads seen (in_body seen 0 both_high both_high) (text ∷ []) (in_body seen 0 both_high both_high)
      → reads_at seen (in_body seen 0 both_high both_high) n (line text ++ rest)
      ≡ reads_at seen (in_body seen 0 both_high both_high) (n + 1) rest
  stays_high text is one leads =
      line_read seen (in_body seen 0 both_high both_high) (in_body seen 0 both_high both_high) n text rest (text ∷ []) is one leads

-- the words of a signal's line
abbrev signal_words : List ℕ → List ℕ → List (List ℕ)
signal_words letter name = codes "$var" ∷ codes "wire" ∷ codes "1" ∷ letter ∷ name ∷ codes "$end" ∷ []

clock_leads : (seen : Bool) → Leads seen with_unit (signal_words (codes "c") (codes "clock")) with_clock
clock_leads true m more = refl
clock_leads false m more = refl

clock_read : (seen : Bool) (n : ℕ) (rest : List ℕ) → reads_at seen with_unit n (line (codes "$var wire 1 c clock $end") ++ rest)
    ≡ reads_at seen with_clock (n + 1) rest
unfolding fields
clock_read seen n rest =
    line_read seen with_unit with_clock n (codes "$var wire 1 c clock $end") rest (signal_words (codes "c") (codes "clock"))
    (text-by 31 (codes "$var wire 1 c clock $end") refl) refl (clock_leads seen)

data_leads : (seen : Bool) → Leads seen with_clock (signal_words (codes "d") (codes "data")) (after_data seen)
data_leads true m more = refl
data_leads false m more = refl

data_read : (seen : Bool) (n : ℕ) (rest : List ℕ) → reads_at seen with_clock n (line (codes "$var wire 1 d data $end") ++ rest)
    ≡ reads_at seen (after_data seen) (n + 1) rest
unfolding fields
data_read seen n rest =
    line_read seen with_clock (after_data seen) n (codes "$var wire 1 d data $end") rest (signal_words (codes "d") (codes "data"))
    (text-by 31 (codes "$var wire 1 d data $end") refl) refl (data_leads seen)

seen_leads : (seen : Bool) → Leads seen (after_data seen) (signal_words (codes "s") (codes "data_seen")) (with_data seen)
seen_leads true m more = refl
seen_leads false m more = refl

-- the third signal's line, if it is there
seen_read : (v : View) (n : ℕ) (rest : List ℕ)
    → reads_at (reads_seen v) (after_data (reads_seen v)) n (if_seen (has_seen v) (codes "$var wire 1 s data_seen $end") ++ rest)
    ≡ reads_at (reads_seen v) (with_data (reads_seen v)) (line_if (has_seen v) n) rest
unfolding fields
seen_read (TheWire false) n rest = refl
seen_read (TheWire true) n rest =
    line_read false (after_data false) (with_data false) n (codes "$var wire 1 s data_seen $end") rest
    (signal_words (codes "s") (codes "data_seen")) (text-by 31 (codes "$var wire 1 s data_seen $end") refl) refl (seen_leads false)
seen_read TheSeen n rest =
    line_read true (after_data true) (with_data true) n (codes "$var wire 1 s data_seen $end") rest
    (signal_words (codes "s") (codes "data_seen")) (text-by 31 (codes "$var wire 1 s data_seen $end") refl) refl (seen_leads true)

-- a level at time 0
high_leads : (seen : Bool) (text : List ℕ) → Type 0
high_leads seen text = Leads seen (in_body seen 0 both_high both_high) (text ∷ []) (in_body seen 0 both_high both_high)

clock_high : (seen : Bool) → high_leads seen (codes "1c")
unfolding high_leads
clock_high true m more = refl
clock_high false m more = refl

data_high : (seen : Bool) → high_leads seen (codes "1d")
unfolding high_leads
data_high true m more = refl
data_high false m more = refl

seen_high : (seen : Bool) → high_leads seen (codes "1s")
unfolding high_leads
seen_high true m more = refl
seen_high false m more = refl

-- that of the third signal, if it is there
seen_stays : (seen has : Bool) (n : ℕ) (rest : List ℕ)
    → reads_at seen (in_body seen 0 both_high both_high) n (if_seen has (codes "1s") ++ rest)
    ≡ reads_at seen (in_body seen 0 both_high both_high) (line_if has n) rest
unfolding fields high_leads
seen_stays seen false n rest = refl
seen_stays seen true n rest = stays_high seen n rest (codes "1s") (text-by 31 (codes "1s") refl) refl (seen_high seen)

eleven : (a b c d x e f g h i y rest : List ℕ)
    → (a ++ b ++ c ++ d ++ x ++ e ++ f ++ g ++ h ++ i ++ y) ++ rest
    ≡ a ++ (b ++ (c ++ (d ++ (x ++ (e ++ (f ++ (g ++ (h ++ (i ++ (y ++ rest))))))))))
eleven a b c d x e f g h i y rest = simp append_assoc

-- how many lines it has, and one more
abbrev pub lines_of_header : Bool → ℕ
lines_of_header has = line_if has (line_if has 5 + 1 + 1 + 1 + 1 + 1)

-- the header as a whole
pub header_read : (v : View) (rest : List ℕ)
    → reads_of clk (dat (reads_seen v)) (header (has_seen v) ++ rest)
    ≡ reads_at (reads_seen v) (in_body (reads_seen v) 0 both_high both_high) (lines_of_header (has_seen v)) rest
unfolding reads_of fields high_leads
header_read v rest =
    let seen = reads_seen v in
    let has = has_seen v in
    let a = line (codes "$timescale 100 ns $end") in
    let b = line (codes "$scope module kbd $end") in
    let c = line (codes "$var wire 1 c clock $end") in
    let d = line (codes "$var wire 1 d data $end") in
    let x = if_seen has (codes "$var wire 1 s data_seen $end") in
    let e = line (codes "$upscope $end") in
    let f = line (codes "$enddefinitions $end") in
    let g = line (codes "#0") in
    let h = line (codes "1c") in
    let i = line (codes "1d") in
    let y = if_seen has (codes "1s") in
    let m = line_if has 5 in
    ap (reads_at seen at_start 1) (eleven a b c d x e f g h i y rest)
    ∙ unit_read seen 1 (b ++ (c ++ (d ++ (x ++ (e ++ (f ++ (g ++ (h ++ (i ++ (y ++ rest))))))))))
    ∙ scope_read seen 2 (c ++ (d ++ (x ++ (e ++ (f ++ (g ++ (h ++ (i ++ (y ++ rest)))))))))
    ∙ clock_read seen 3 (d ++ (x ++ (e ++ (f ++ (g ++ (h ++ (i ++ (y ++ rest))))))))
    ∙ data_read seen 4 (x ++ (e ++ (f ++ (g ++ (h ++ (i ++ (y ++ rest)))))))
    ∙ seen_read v 5 (e ++ (f ++ (g ++ (h ++ (i ++ (y ++ rest))))))
    ∙ scope_ends seen m (f ++ (g ++ (h ++ (i ++ (y ++ rest)))))
    ∙ header_ends seen (m + 1) (g ++ (h ++ (i ++ (y ++ rest))))
    ∙ stays_high seen (m + 1 + 1) (h ++ (i ++ (y ++ rest))) (codes "#0") (text-by 31 (codes "#0") refl) refl (λ k more. refl)
    ∙ stays_high seen (m + 1 + 1 + 1) (i ++ (y ++ rest)) (codes "1c") (text-by 31 (codes "1c") refl) refl (clock_high seen)
    ∙ stays_high seen (m + 1 + 1 + 1 + 1) (y ++ rest) (codes "1d") (text-by 31 (codes "1d") refl) refl (data_high seen)
    ∙ seen_stays seen has (m + 1 + 1 + 1 + 1 + 1) rest
