-- The lines of a change in a trace, read one after another.
use Rattle.std.proofs.Common.{◌≡◌, ◌<◌, ℕ, ◌+◌, ◌*◌, ◌/◌, ◌%◌, Bool, true, false, not, ◌==◌, ◌&&◌, nat_lt, List, [], ◌∷◌, ◌++◌, codes}
use Rattle.std.proofs.Common.{None, Some, Ok, refl, ap, ◌∙◌, append_assoc, arith, decimal}
use Rattle.std.specs.Prelude.{if◌then◌else◌}
use Rattle.std.specs.declared.option.Option.{Option}
use Rattle.std.specs.Str.Lines.{lines}
use Rattle.std.proofs.lemmas.Bool.Decides.{nat_tests}
use Rattle.board_terms.specs.declared.lines.Lines.{Lines}
use Rattle.board_terms.specs.declared.transfer.Transfer.{Transfer}
use Rattle.hex_text.specs.Digits.{hex_byte, hex_digit}
use Rattle.text_lines.specs.Fields.{fields}
use Rattle.capture_vcd.specs.Changes.{marked, taken}
use Rattle.capture_vcd.specs.Levels.{due, with_sample, without}
use Rattle.capture_vcd.specs.Reads.{after_sample, reads_from, reads_on}
use Rattle.capture_vcd.specs.Tokens.{Token, field, tokens_from, tokens_in}
use Rattle.capture_vcd.specs.Words.{is_end}
use Rattle.run_wires.specs.Text.{change_text, comment, level_text, line, seen_text, sender, turns}
use Rattle.key_lines.proofs.Numerals.{decimal-back}
use Rattle.key_lines.proofs.Parted.{IsLine, IsWord, fields-more, fields-one, first-line, line-more, line-word, text-by}
use Rattle.law_capture_heard.proofs.Words.{byte-word, time-word}
use Rattle.law_capture_heard.proofs.Header.{line_if}
use Rattle.law_capture_heard.proofs.Reading.{Leads, State, Taken, body, clk, dat, in_body, level_leads, line_read, read_by, reads_at}

-- a time, with which the sample of the time before is complete
module _ (seen : Bool) (time cycle : ℕ) (now given : Lines) (later : time < 2500 * cycle) (fits : 25 * cycle < 100000000000000) where
  taken_time : taken (in_body seen time now given).part clk (dat seen) (35 ∷ decimal (25 * cycle)) (in_body seen time now given)
      ≡ Ok (with_sample (in_body seen time now given).part (2500 * cycle) (in_body seen time now given))
  taken_time =
      let same : 25 * cycle * 100 ≡ 2500 * cycle = omega arith in
      let not_back : nat_lt (2500 * cycle) time ≡ false = grind (arith, nat_tests, later) in
      let not_same : (2500 * cycle == time) ≡ false = grind (arith, nat_tests, later) in
      let number = decimal-back 14 (25 * cycle) (omega arith) fits (omega arith) in
      rw (number, same, not_back, not_same) refl

  time_read : (n : ℕ) (rest : List ℕ) → reads_at seen (in_body seen time now given) n (line (codes "#" ++ decimal (25 * cycle)) ++ rest)
      ≡ after_sample (due (in_body seen time now given)) (reads_at seen (in_body seen (2500 * cycle) now now) (n + 1) rest)
  time_read n rest =
      let s = in_body seen time now given in
      let is = time-word (25 * cycle) (omega arith) in
      ap (λ ls. reads_from clk (dat seen) s (tokens_from n ls)) (first-line (35 ∷ decimal (25 * cycle)) rest (line-word (35 ∷ decimal (25 * cycle)) is))
      ∙ ap (λ ws. reads_from clk (dat seen) s (tokens_in n ws ++ tokens_from (n + 1) (lines rest))) (fields-one (35 ∷ decimal (25 * cycle)) is)
      ∙ ap (λ r. reads_on n r (λ after. reads_from clk (dat seen) after (tokens_from (n + 1) (lines rest)))) taken_time

-- the level of a wire, and the levels that are read with it
abbrev wires : Bool → Bool → Lines
wires c d = record { clk = c; dat = d }

abbrev state : Bool → ℕ → Lines → Bool → Bool → Bool → State
state seen time given c d level = in_body seen time (read_by seen (wires c d) level) given

abbrev letter : Bool → List ℕ
letter level = if level then codes "1" else codes "0"

clock_leads : (seen : Bool) (time : ℕ) (given : Lines) (now d level : Bool)
    → Leads seen (state seen time given (not now) d level) ((letter now ++ codes "c") ∷ []) (state seen time given now d level)
clock_leads true time given true d level m more = refl
clock_leads true time given false d level m more = refl
clock_leads false time given true d level m more = refl
clock_leads false time given false d level m more = refl

clock_turns : (seen : Bool) (time n : ℕ) (given : Lines) (before now d level : Bool) (rest : List ℕ)
    → reads_at seen (state seen time given before d level) n (level_text (codes "c") before now ++ rest)
    ≡ reads_at seen (state seen time given now d level) (line_if (turns before now) n) rest
unfolding fields
clock_turns seen time n given true true d level rest = refl
clock_turns seen time n given false false d level rest = refl
clock_turns seen time n given true false d level rest =
    line_read seen (state seen time given true d level) (state seen time given false d level) n
    (codes "0c") rest (codes "0c" ∷ []) (text-by 31 (codes "0c") refl) refl (clock_leads seen time given false d level)
clock_turns seen time n given false true d level rest =
    line_read seen (state seen time given false d level) (state seen time given true d level) n
    (codes "1c") rest (codes "1c" ∷ []) (text-by 31 (codes "1c") refl) refl (clock_leads seen time given true d level)

data_leads : (seen : Bool) (time : ℕ) (given : Lines) (c now level : Bool)
    → Leads seen (state seen time given c (not now) level) ((letter now ++ codes "d") ∷ []) (state seen time given c now level)
data_leads true time given c true level m more = refl
data_leads true time given c false level m more = refl
data_leads false time given c true level m more = refl
data_leads false time given c false level m more = refl

data_turns : (seen : Bool) (time n : ℕ) (given : Lines) (c before now level : Bool) (rest : List ℕ)
    → reads_at seen (state seen time given c before level) n (level_text (codes "d") before now ++ rest)
    ≡ reads_at seen (state seen time given c now level) (line_if (turns before now) n) rest
unfolding fields
data_turns seen time n given c true true level rest = refl
data_turns seen time n given c false false level rest = refl
data_turns seen time n given c true false level rest =
    line_read seen (state seen time given c true level) (state seen time given c false level) n
    (codes "0d") rest (codes "0d" ∷ []) (text-by 31 (codes "0d") refl) refl (data_leads seen time given c false level)
data_turns seen time n given c false true level rest =
    line_read seen (state seen time given c false level) (state seen time given c true level) n
    (codes "1d") rest (codes "1d" ∷ []) (text-by 31 (codes "1d") refl) refl (data_leads seen time given c true level)

-- the third signal's level, if it is there
abbrev pub level_after : Option Bool → Bool → Bool
level_after None level = level
level_after (Some now) level = now

abbrev pub line_if_seen : Option Bool → ℕ → ℕ
line_if_seen None n = n
line_if_seen (Some now) n = n + 1

seen_leads : (seen : Bool) (time : ℕ) (given : Lines) (c d level now : Bool)
    → Leads seen (state seen time given c d level) ((letter now ++ codes "s") ∷ []) (state seen time given c d now)
seen_leads true time given c d level true m more = refl
seen_leads true time given c d level false m more = refl
seen_leads false time given c d level true m more = refl
seen_leads false time given c d level false m more = refl

seen_turns : (seen : Bool) (time n : ℕ) (given : Lines) (c d level : Bool) (o : Option Bool) (rest : List ℕ)
    → reads_at seen (state seen time given c d level) n (seen_text o ++ rest)
    ≡ reads_at seen (state seen time given c d (level_after o level)) (line_if_seen o n) rest
unfolding fields
seen_turns seen time n given c d level None rest = refl
seen_turns seen time n given c d level (Some true) rest =
    line_read seen (state seen time given c d level) (state seen time given c d true) n
    (codes "1s") rest (codes "1s" ∷ []) (text-by 31 (codes "1s") refl) refl (seen_leads seen time given c d level true)
seen_turns seen time n given c d level (Some false) rest =
    line_read seen (state seen time given c d level) (state seen time given c d false) n
    (codes "0s") rest (codes "0s" ∷ []) (text-by 31 (codes "0s") refl) refl (seen_leads seen time given c d level false)

-- two characters end no section
no_end : (x y : ℕ) → is_end (x ∷ y ∷ []) ≡ false
no_end x y = by (x == 36) (y == 101)
  where
    by : (a b : Bool) → (a && (b && false)) ≡ false
    by true true = refl
    by true false = refl
    by false b = refl

abbrev done : State → Taken
done s = Ok (without s)

-- a token without a sample
took : (seen : Bool) (s after : State) (n : ℕ) (text : List ℕ) (more : List Token) → taken s.part clk (dat seen) text s ≡ Ok (without after)
    → reads_from clk (dat seen) s (field n text ∷ more) ≡ reads_from clk (dat seen) after more
took seen s after n text more h = ap (λ (r : Taken). reads_on n r (λ (t : State). reads_from clk (dat seen) t more)) h

-- a comment
module _ (seen : Bool) (time : ℕ) (now given : Lines) (byte : ℕ) where
  abbrev s : State
  s = in_body seen time now given

  -- in it
  abbrev c : State
  c = level_leads (marked (codes "$comment") s)

  abbrev comment_line : List ℕ → List ℕ
  comment_line who = codes "$comment" ++ 32 ∷ (who ++ 32 ∷ (hex_byte byte ++ 32 ∷ codes "$end"))

  dollar_comment : IsWord (codes "$comment")
  dollar_comment = text-by 32 (codes "$comment") refl

  dollar_end : IsWord (codes "$end")
  dollar_end = text-by 32 (codes "$end") refl

  comment_is_line : (who : List ℕ) → IsWord who → IsLine (comment_line who)
  comment_is_line who is =
      line-more (codes "$comment") (who ++ 32 ∷ (hex_byte byte ++ 32 ∷ codes "$end")) (line-word (codes "$comment") dollar_comment)
      (line-more who (hex_byte byte ++ 32 ∷ codes "$end") (line-word who is)
      (line-more (hex_byte byte) (codes "$end") (line-word (hex_byte byte) (byte-word byte)) (line-word (codes "$end") dollar_end)))

  comment_fields : (who : List ℕ)
      → IsWord who → fields (comment_line who) ≡ codes "$comment" ∷ who ∷ hex_byte byte ∷ codes "$end" ∷ []
  comment_fields who is =
      fields-more (codes "$comment") (who ++ 32 ∷ (hex_byte byte ++ 32 ∷ codes "$end")) dollar_comment
      ∙ ap (λ ws. codes "$comment" ∷ ws)
      (fields-more who (hex_byte byte ++ 32 ∷ codes "$end") is
      ∙ ap (λ ws. who ∷ ws)
      (fields-more (hex_byte byte) (codes "$end") (byte-word byte)
      ∙ ap (λ ws. hex_byte byte ∷ ws) (fields-one (codes "$end") dollar_end)))

  -- whoever is named, if the name ends no section
  comment_leads : (who : List ℕ) → is_end who ≡ false
      → Leads seen s (codes "$comment" ∷ who ∷ hex_byte byte ∷ codes "$end" ∷ []) s
  comment_leads who other n more =
      took seen s c n (codes "$comment") (field n who ∷ field n (hex_byte byte) ∷ field n (codes "$end") ∷ more) refl
      ∙ took seen c c n who (field n (hex_byte byte) ∷ field n (codes "$end") ∷ more) (goes_on who other)
      ∙ took seen c c n (hex_byte byte) (field n (codes "$end") ∷ more)
      (goes_on (hex_byte byte) (no_end (hex_digit (byte / 16)) (hex_digit (byte % 16))))
      ∙ took seen c s n (codes "$end") more refl
    where
      goes_on : (text : List ℕ) → is_end text ≡ false → taken c.part clk (dat seen) text c ≡ done c
      goes_on text other = ap (λ (b : Bool). done (if b then record c { part = (body seen).part } else c)) other

  comment_by : (who : List ℕ) (n : ℕ) (rest : List ℕ) → IsWord who → is_end who ≡ false
      → reads_at seen s n (line (comment_line who) ++ rest) ≡ reads_at seen s (n + 1) rest
  comment_by who n rest is other =
      line_read seen s s n (comment_line who) rest (codes "$comment" ∷ who ∷ hex_byte byte ∷ codes "$end" ∷ [])
      (comment_is_line who is) (comment_fields who is) (comment_leads who other)

abbrev pub line_if_some : Option Transfer → ℕ → ℕ
line_if_some None n = n
line_if_some (Some t) n = n + 1

comment_read : (seen : Bool) (time n : ℕ) (now given : Lines) (t : Option Transfer) (rest : List ℕ)
    → reads_at seen (in_body seen time now given) n (comment t ++ rest) ≡ reads_at seen (in_body seen time now given) (line_if_some t n) rest
comment_read seen time n now given None rest = refl
comment_read seen time n now given (Some t) rest = by t.from_host
  where
    by : (from_host : Bool)
        → reads_at seen (in_body seen time now given) n (line (codes "$comment " ++ sender from_host ++ hex_byte t.byte ++ codes " $end") ++ rest)
        ≡ reads_at seen (in_body seen time now given) (n + 1) rest
    by true = comment_by seen time now given t.byte (codes "host") n rest (text-by 32 (codes "host") refl) refl
    by false = comment_by seen time now given t.byte (codes "keyboard") n rest (text-by 32 (codes "keyboard") refl) refl

five : (a b c d e rest : List ℕ) → (a ++ b ++ c ++ d ++ e) ++ rest ≡ a ++ (b ++ (c ++ (d ++ (e ++ rest))))
five a b c d e rest = simp append_assoc

-- the lines of a change
abbrev pub lines_to : ℕ → Lines → Lines → Option Bool → Option Transfer → ℕ
lines_to n before now o t =
    line_if_some t (line_if_seen o (line_if (turns before.dat now.dat) (line_if (turns before.clk now.clk) (n + 1))))

-- the text of a change is read: the sample before it is complete, and the levels are those after it
pub change_read : (seen : Bool) (time cycle n : ℕ) (before now given : Lines) (level : Bool) (o : Option Bool) (t : Option Transfer)
    (rest : List ℕ) → time < 2500 * cycle → 25 * cycle < 100000000000000
    → reads_at seen (in_body seen time (read_by seen before level) given) n (change_text cycle before now o t ++ rest)
    ≡ after_sample (due (in_body seen time (read_by seen before level) given))
    (reads_at seen (in_body seen (2500 * cycle) (read_by seen now (level_after o level)) (read_by seen before level)) (lines_to n before now o t) rest)
change_read seen time cycle n before now given level o t rest later fits =
    let c = level_text (codes "c") before.clk now.clk in
    let d = level_text (codes "d") before.dat now.dat in
    let x = seen_text o in
    let next = 2500 * cycle in
    let old = read_by seen before level in
    let m = line_if (turns before.clk now.clk) (n + 1) in
    let l = line_if (turns before.dat now.dat) m in
    ap (reads_at seen (in_body seen time old given) n) (five (line (codes "#" ++ decimal (25 * cycle))) c d x (comment t) rest)
    ∙ time_read seen time cycle old given later fits n (c ++ (d ++ (x ++ (comment t ++ rest))))
    ∙ ap (after_sample (due (in_body seen time old given)))
    (clock_turns seen next (n + 1) old before.clk now.clk before.dat level (d ++ (x ++ (comment t ++ rest)))
    ∙ data_turns seen next m old now.clk before.dat now.dat level (x ++ (comment t ++ rest))
    ∙ seen_turns seen next l old now.clk now.dat level o (comment t ++ rest)
    ∙ comment_read seen next (line_if_seen o l) (read_by seen now (level_after o level)) old t rest)
