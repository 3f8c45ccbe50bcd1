-- Each row of the opcode table is read as its bytes.
use Rattle.std.proofs.Common.{◌≡◌, ℕ, ◌+◌, ◌*◌, ◌/◌, ◌%◌, ◌<◌, ◌≤◌, ◌||◌, not, Bool, true, false, cond, nat_eq, nat_le, slice_index}
use Rattle.std.proofs.Common.{List, [], ◌∷◌, length, take, Option, Some, None, IfSome, refl, ap, sym, ◌∙◌, subst, arith}
use Rattle.std.specs.List.{list_all}
use Rattle.std.specs.Option.{option_or}
use Rattle.std.proofs.lemmas.Bool.{and_parts, le-ltb}
use Rattle.mcs48_isa.specs.declared.operation.Decoded.{Decoded}
use Rattle.mcs48_isa.specs.Instructions.{Operand, Is, Register, Pointer, Expander, Immediate, Address, Target, Entry, named, entry_of}
use Rattle.mcs48_isa.specs.Encoding.{with_number, own_byte, one_byte, two_bytes, bytes_with, entry_code, taken}
use Rattle.mcs48_isa.specs.Table.{row_of}
use Rattle.mcs48_isa.specs.Text.{target, text_of, entry_text}
use Rattle.mcs48_isa.proofs.Sound.{IsSound, each_row}
use Rattle.mcs48_asm.specs.declared.argument.Role.TheVariants as role
use Rattle.mcs48_asm.specs.Values.{Number}
use Rattle.mcs48_asm.specs.Statements.{Instruction, line_of}
use Rattle.mcs48_asm.proofs.Plain.{IsPlain}
use Rattle.mcs48_asm.proofs.Readings.{IsRead, said}
use Rattle.mcs48_asm.proofs.Shapes.{bare, with_number as valued, byte-suits, target-suits, target-low, target-below}
use Rattle.mcs48_asm.proofs.Entries.{too-many, IsListed, said_by}
use Rattle.mcs48_asm.proofs.EntryLines.{is_word_shown, is_first, is_entry, entry-line}
use Rattle.mcs48_asm.proofs.EntryRanges.{is_fixed, is_word, has_range, Range, is_right_entry, entries}

-- operands without a value
fixed-listed : (place : ℕ) (o : Operand) (os : List Operand) → is_fixed o ≡ true → is_word_shown o ≡ true
    → Range (o ∷ os) → IsListed place o
fixed-listed place (Is word) os f w h = w
fixed-listed place (Register r) os f w h = h
fixed-listed place (Pointer i) os f w h = h
fixed-listed place (Expander p) os f w h = h
fixed-listed place o os f w h = absurd (cc)

record Adds (place first : ℕ) (o : Operand) : Type 0 where
  pub number : with_number first o ≡ first + (said_by place o).offset
  pub byte : own_byte o ≡ None
  pub argument : (said_by place o).argument ≡ None

adds : (place first : ℕ) (o : Operand) → is_fixed o ≡ true → Adds place first o
adds place first (Is word) f = record { number = omega arith; byte = refl; argument = refl }
adds place first (Register r) f = record { number = refl; byte = refl; argument = refl }
adds place first (Pointer i) f = record { number = refl; byte = refl; argument = refl }
adds place first (Expander p) f = record { number = refl; byte = refl; argument = refl }
adds place first o f = absurd (cc)

-- the bytes of a code
one-is : (x len b n : ℕ) → one_byte x ≡ taken len b n → (x ≡ b) × (1 ≡ len)
one-is x len b n h = (ap (λ c. slice_index c.bytes 0) h, ap (λ c. c.len) h)

two-is : (x m len b n : ℕ) → two_bytes x m ≡ taken len b n → (x ≡ b) × (2 ≡ len) × (m ≡ n)
two-is x m len b n h =
    let long : 2 ≡ len = ap (λ c. c.len) h in
    (ap (λ c. slice_index c.bytes 0) h, long, ap (λ c. slice_index c.bytes 1) h ∙ ap (λ k. cond (nat_eq k 2) n 0) (sym long))

bare-reads : (text : List ℕ) (place x y len b n : ℕ) → IsPlain text → line_of text ≡ said (Instruction (x % 256) None)
    → y ≡ x → one_byte y ≡ taken len b n → b < 256
    → IsRead text place (take len (b ∷ n ∷ []))
bare-reads text place x y len b n plain line same code below =
    let is = one-is y len b n code in
    let opcode : x % 256 ≡ b = omega (arith, is.0, same) in
    subst (λ k. IsRead text place (take k (b ∷ n ∷ []))) is.1 (bare text place b plain (line ∙ ap (λ k. said (Instruction k None)) opcode))

-- an operand with a value
value-listed : (place : ℕ) (v : Operand) (x len b n : ℕ) → is_fixed v ≡ false → Range (v ∷ [])
    → bytes_with (with_number x v) (own_byte v) ≡ taken len b n → n < 256 → place + len ≤ 2048
    → IsListed place v
value-listed place (Immediate m) x len b n f range code below fits = let is = two-is x m len b n code in omega (arith, is.2)
value-listed place (Address a) x len b n f range code below fits = range
value-listed place (Target m) x len b n f range code below fits =
    let is = two-is x m len b n code in
    target-below place m (omega (arith, is.1)) (omega (arith, is.2))
value-listed place v x len b n f range code below fits = absurd (cc)

value-reads : (text : List ℕ) (place x : ℕ) (v : Operand) (len b n : ℕ) → is_fixed v ≡ false → Range (v ∷ [])
    → bytes_with (with_number x v) (own_byte v) ≡ taken len b n → b < 256 → n < 256
    → place + len ≤ 2048 → IsPlain text → line_of text ≡ said (Instruction (x % 256) (said_by place v).argument)
    → IsRead text place (take len (b ∷ n ∷ []))
value-reads text place x (Immediate m) len b n f range code first below fits plain line =
    let is = two-is x m len b n code in
    let opcode : x % 256 ≡ b = omega (arith, is.0) in
    let low : m % 256 ≡ n = omega (arith, is.2) in
    subst (λ k. IsRead text place (take k (b ∷ n ∷ []))) is.1
    (valued text place b role.Byte m b n plain
    (line ∙ ap (λ k. said (Instruction k (Some (record { role = role.Byte; value = Number m })))) opcode)
    (byte-suits place m (omega (arith, is.2))) (ap (λ k. b ∷ k ∷ []) low))
value-reads text place x (Address a) len b n f range code first below fits plain line =
    let is = two-is (x + 32 * (a / 256)) (a % 256) len b n code in
    let opcode : (x % 256 + 32 * (a / 256)) % 256 ≡ b = omega (arith, is.0) in
    subst (λ k. IsRead text place (take k (b ∷ n ∷ []))) is.1
    (valued text place (x % 256) role.Address a b n plain line (λ names. (le-ltb 2047 a (omega arith), refl))
    (ap (λ k. k ∷ a % 256 ∷ []) opcode ∙ ap (λ k. b ∷ k ∷ []) is.2))
value-reads text place x (Target m) len b n f range code first below fits plain line =
    let is = two-is x m len b n code in
    let opcode : x % 256 ≡ b = omega (arith, is.0) in
    let within : place + 2 ≤ 2048 = omega (arith, is.1) in
    let small : m < 256 = omega (arith, is.2) in
    subst (λ k. IsRead text place (take k (b ∷ n ∷ []))) is.1
    (valued text place b role.Target (target place m) b n plain
    (line ∙ ap (λ k. said (Instruction k (Some (record { role = role.Target; value = Number (target place m) })))) opcode)
    (target-suits place m within small) (ap (λ k. b ∷ k ∷ []) (target-low place m small ∙ is.2)))
value-reads text place x v len b n f range code first below fits plain line = absurd (cc)

-- the second of two operands
or-none : (o : Option ℕ) → option_or o None ≡ o
or-none None = refl
or-none (Some n) = refl

only-range : (u : Operand) → not (has_range u) ≡ true → Range (u ∷ [])
only-range (Is word) h = tt
only-range (Immediate n) h = tt
only-range (Target n) h = tt
only-range u h = absurd (cc)

second-range : (o u : Operand) → (is_word o || not (has_range u)) ≡ true → Range (o ∷ u ∷ []) → Range (u ∷ [])
second-range (Is word) u h range = range
second-range (Register r) u h range = only-range u h
second-range (Pointer i) u h range = only-range u h
second-range (Expander p) u h range = only-range u h
second-range (Immediate n) u h range = range
second-range (Address a) u h range = only-range u h
second-range (Target n) u h range = range

value-offset : (place : ℕ) (v : Operand) → is_fixed v ≡ false → (said_by place v).offset ≡ 0
value-offset place (Immediate n) f = refl
value-offset place (Address a) f = refl
value-offset place (Target n) f = refl
value-offset place v f = absurd (cc)

entry-few : (entry : Entry) → is_entry entry ≡ true → nat_le (length entry.operands) 2 ≡ true
entry-few entry h = (and_parts (nat_le (length entry.operands) 2) _ (and_parts (is_first entry.word) _ h).1).0

entry-shown : (entry : Entry) → is_entry entry ≡ true → list_all is_word_shown entry.operands ≡ true
entry-shown entry h =
    (and_parts (list_all is_word_shown entry.operands) _
    (and_parts (nat_le (length entry.operands) 2) _ (and_parts (is_first entry.word) _ h).1).1).0

module _ (place len b n : ℕ) (word : List ℕ) (first cycles : ℕ) (low : b < 256) (below : n < 256) (fits : place + len ≤ 2048) where
  abbrev made : List Operand → Entry
  made operands = named word operands first cycles

  none-reads : is_right_entry (made []) ≡ true → entry_code (made []) ≡ taken len b n
      → IsRead (entry_text place (made [])) place (take len (b ∷ n ∷ []))
  none-reads right code =
      let line = entry-line place (made []) (and_parts (is_entry (made [])) _ right).0 tt in
      bare-reads _ place (first + 0) first len b n line.0 line.1 (omega arith) code low

  one-reads : (o : Operand) → is_right_entry (made (o ∷ [])) ≡ true → Range (o ∷ [])
      → entry_code (made (o ∷ [])) ≡ taken len b n → IsRead (entry_text place (made (o ∷ []))) place (take len (b ∷ n ∷ []))
  one-reads o right range code = go (is_fixed o) refl
    where
      entry : is_entry (made (o ∷ [])) ≡ true
      entry = (and_parts (is_entry (made (o ∷ []))) _ right).0

      go : (t : Bool) → is_fixed o ≡ t → IsRead (entry_text place (made (o ∷ []))) place (take len (b ∷ n ∷ []))
      go true f =
          let add = adds place first o f in
          let line = entry-line place (made (o ∷ [])) entry
          (fixed-listed place o [] f (and_parts (is_word_shown o) _ (entry-shown (made (o ∷ [])) entry)).0 range, tt) in
          bare-reads _ place (first + (said_by place o).offset) (with_number first o) len b n line.0
          (line.1 ∙ ap (λ a. said (Instruction ((first + (said_by place o).offset) % 256) a)) add.argument) add.number
          (sym (ap (λ k. bytes_with (with_number first o) (option_or k None)) add.byte) ∙ code) low
      go false f =
          let only = sym (ap (bytes_with (with_number first o)) (or-none (own_byte o))) ∙ code in
          let line = entry-line place (made (o ∷ [])) entry (value-listed place o first len b n f range only below fits, tt) in
          let opcode : first + (said_by place o).offset ≡ first = omega (arith, value-offset place o f) in
          value-reads _ place first o len b n f range only low below fits line.0
          (line.1 ∙ ap (λ k. said (Instruction (k % 256) (said_by place o).argument)) opcode)

  two-reads : (o u : Operand) → is_right_entry (made (o ∷ u ∷ [])) ≡ true → Range (o ∷ u ∷ [])
      → entry_code (made (o ∷ u ∷ [])) ≡ taken len b n
      → IsRead (entry_text place (made (o ∷ u ∷ []))) place (take len (b ∷ n ∷ []))
  two-reads o u right range code = go (is_fixed u) refl
    where
      entry : is_entry (made (o ∷ u ∷ [])) ≡ true
      entry = (and_parts (is_entry (made (o ∷ u ∷ []))) _ right).0

      paired : (is_fixed o ≡ true) × ((is_word o || not (has_range u)) ≡ true)
      paired = and_parts (is_fixed o) _ (and_parts (is_entry (made (o ∷ u ∷ []))) _ right).1

      later : Range (u ∷ [])
      later = second-range o u paired.1 range

      shown : (is_word_shown o ≡ true) × (list_all is_word_shown (u ∷ []) ≡ true)
      shown = and_parts (is_word_shown o) (list_all is_word_shown (u ∷ [])) (entry-shown (made (o ∷ u ∷ [])) entry)

      before : IsListed place o
      before = fixed-listed place o (u ∷ []) paired.0 shown.0 range

      go : (t : Bool) → is_fixed u ≡ t → IsRead (entry_text place (made (o ∷ u ∷ []))) place (take len (b ∷ n ∷ []))
      go true f =
          let add = adds place first o paired.0 in
          let more = adds place (with_number first o) u f in
          let line = entry-line place (made (o ∷ u ∷ [])) entry
          (before, (fixed-listed place u [] f (and_parts (is_word_shown u) true shown.1).0 later, tt)) in
          bare-reads _ place (first + ((said_by place o).offset + (said_by place u).offset))
          (with_number (with_number first o) u) len b n line.0
          (line.1 ∙ ap (λ a. said
          (Instruction ((first + ((said_by place o).offset + (said_by place u).offset)) % 256)
          (option_or a (said_by place u).argument))) add.argument
          ∙ ap (λ a. said (Instruction ((first + ((said_by place o).offset + (said_by place u).offset)) % 256) a)) more.argument)
          (omega (arith, add.number, more.number))
          (sym (ap (λ k. bytes_with (with_number (with_number first o) u) (option_or k (option_or (own_byte u) None))) add.byte
          ∙ ap (λ k. bytes_with (with_number (with_number first o) u) (option_or k None)) more.byte) ∙ code) low
      go false f =
          let add = adds place first o paired.0 in
          let x : ℕ = with_number first o in
          let only =
          sym (ap (λ k. bytes_with (with_number x u) (option_or k (option_or (own_byte u) None))) add.byte
          ∙ ap (bytes_with (with_number x u)) (or-none (own_byte u))) ∙ code in
          let line = entry-line place (made (o ∷ u ∷ [])) entry (before, (value-listed place u x len b n f later only below fits, tt)) in
          let opcode : first + ((said_by place o).offset + (said_by place u).offset)
          ≡ x = omega (arith, value-offset place u f, add.number) in
          value-reads _ place x u len b n f later only low below fits line.0
          (line.1 ∙ ap (λ a. said
          (Instruction ((first + ((said_by place o).offset + (said_by place u).offset)) % 256)
          (option_or a (said_by place u).argument))) add.argument
          ∙ ap (λ k. said (Instruction (k % 256) (said_by place u).argument)) opcode)

  all-reads : (operands : List Operand) → is_right_entry (made operands) ≡ true → Range operands
      → entry_code (made operands) ≡ taken len b n
      → IsRead (entry_text place (made operands)) place (take len (b ∷ n ∷ []))
  all-reads [] right range code = none-reads right code
  all-reads (o ∷ []) right range code = one-reads o right range code
  all-reads (o ∷ u ∷ []) right range code = two-reads o u right range code
  all-reads (o ∷ u ∷ v ∷ vs) right range code =
      absurd (too-many (length vs) (entry-few (made (o ∷ u ∷ v ∷ vs)) (and_parts (is_entry (made (o ∷ u ∷ v ∷ vs))) _ right).0))

-- the text of a row, where all its bytes fit, is read as these bytes
pub row_reads : (b : ℕ) → b < 256 → (place n : ℕ) → n < 256
    → IfSome (row_of b n) (λ d. place + d.len ≤ 2048 → IsRead (text_of d.op place) place (take d.len (b ∷ n ∷ [])))
row_reads b low place n below =
    each_row (λ d. place + d.len ≤ 2048 → IsRead (text_of d.op place) place (take d.len (b ∷ n ∷ []))) b n
    (λ (d : Decoded) (s : IsSound b n d) fits. let e : Entry = entry_of d.op in
    let right = entries d.op s.0 in
    all-reads place d.len b n e.word e.first e.cycles low below fits e.operands right.0 right.1 s.3)
    low below
