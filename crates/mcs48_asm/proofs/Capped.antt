-- Lines with 65,536 for each large number and place: their places, their names and their faults.
use Rattle.std.proofs.Common.{◌≡◌, ℕ, ◌+◌, ◌/◌, ◌%◌, ◌<◌, ◌≤◌, ◌&&◌, ◌||◌, ◌==◌, ◌⊎◌, inl, inr, not, Bool, true, false, cond, List, []}
use Rattle.std.proofs.Common.{◌∷◌, ◌++◌, map, Some, None, Option, is_some, is_none, refl, ap, sym, ◌∙◌, arith, nat_lt, nat_le}
use Rattle.std.specs.List.{list_any, filter, find}
use Rattle.std.specs.Option.{option_map, option_map_or}
use Rattle.std.specs.Str.{bytes_eq}
use Rattle.std.proofs.lemmas.Bool.{cases_lt}
use Rattle.std.proofs.lemmas.Bool.Decides.{nat_tests}
use Rattle.std.proofs.lemmas.List.{map-append, length-map}
use Rattle.mcs48_asm.specs.declared.argument.Role.{Role}
use Rattle.mcs48_asm.specs.declared.argument.Role.TheVariants.{Byte, Address, Target}
use Rattle.mcs48_asm.specs.Values.{Value, Number, Named, Low}
use Rattle.mcs48_asm.specs.Rows.{is_reserved}
use Rattle.mcs48_asm.specs.Statements.{Statement, Nothing, Instruction, Origin, Data, Equate, Line}
use Rattle.mcs48_asm.specs.Places.{Placed, placed, covers, is_filled, count_of, start_of}
use Rattle.mcs48_asm.specs.Names.{Definition, Meanings, labelled, equated, named, defined, definitions, value_named, meaning}
use Rattle.mcs48_asm.specs.declared.flaw.Flaw.{Flaw}
use Rattle.mcs48_asm.specs.Faults.{arguments, is_above, is_huge, is_past, is_too_large, has_wrong_number, is_equate, is_refused}
use Rattle.mcs48_asm.specs.Faults.{has_unknown_name, is_defined_again, is_outside, is_past_end, is_filled_again, fault_of}
use Rattle.mcs48_asm.specs.Assembly.{fault_after}
use Rattle.mcs48_asm.specs.Capped.{capped, value_capped, argument_capped, statement_capped, line_capped, kept_places}
use Rattle.mcs48_asm.proofs.Ranges.{any_places-alike}

abbrev pub def_capped : Definition → Definition
def_capped d = record { name = d.name; value = capped d.value }

abbrev pub at_capped : Placed → Placed
at_capped at = record { start = capped at.start; line = line_capped at.line }

abbrev pub names_capped : Meanings → Meanings
names_capped names = λ q. option_map capped (names q)

lt-capped : (k n : ℕ) → k < 65536 → nat_lt k (capped n) ≡ nat_lt k n
lt-capped k n h = grind (arith, nat_tests)

-- a number up to 65,536 is kept as it is
pub small-capped : (n : ℕ) → n ≤ 65536 → capped n ≡ n
small-capped n h = omega arith

capped-add : (s c : ℕ) → capped (capped s + c) ≡ capped (s + c)
capped-add s c = omega arith

end-capped : (s c : ℕ) → nat_lt 2048 (capped s + c) ≡ nat_lt 2048 (s + c)
end-capped s c = grind (arith, nat_tests)

low-small : (limit n : ℕ) → 255 ≤ limit → nat_lt limit (n % 256) ≡ false
low-small limit n h = grind (arith, nat_tests)

-- places
count-capped : (s : Statement) → count_of (statement_capped s) ≡ count_of s
count-capped Nothing = refl
count-capped (Instruction opcode None) = refl
count-capped (Instruction opcode (Some a)) = refl
count-capped (Origin n) = refl
count-capped (Data vs) = length-map vs value_capped
count-capped (Equate q n) = refl

start-capped : (p : ℕ) (s : Statement) → start_of (capped p) (statement_capped s) ≡ capped (start_of p s)
start-capped p Nothing = refl
start-capped p (Instruction opcode a) = refl
start-capped p (Origin n) = refl
start-capped p (Data vs) = refl
start-capped p (Equate q n) = refl

-- lines with 65,536 for each large number are placed as the lines themselves, with 65,536 for each large place
pub placed-capped : (p : ℕ) (lines : List Line) → kept_places (capped p) (map line_capped lines) ≡ map at_capped (placed p lines)
placed-capped p [] = refl
placed-capped p (line ∷ lines) =
    let s = start_of p line.statement in
    let more = map line_capped lines in
    ap (λ s. record { start = s; line = line_capped line }
    ∷ kept_places (capped (s + count_of (statement_capped line.statement))) more) (start-capped p line.statement)
    ∙ ap (λ c. at_capped (record { start = s; line = line }) ∷ kept_places (capped (capped s + c)) more) (count-capped line.statement)
    ∙ ap (λ n. at_capped (record { start = s; line = line }) ∷ kept_places n more) (capped-add s (count_of line.statement))
    ∙ ap (λ ps. at_capped (record { start = s; line = line }) ∷ ps) (placed-capped (s + count_of line.statement) lines)

-- names
labelled-capped : (at : Placed) → labelled (at_capped at) ≡ map def_capped (labelled at)
labelled-capped at = label at.start at.line.flaw at.line.statement at.line.label
  where
    label : (start : ℕ) (flaw : Option Flaw) (s : Statement) (l : Option (List ℕ))
        → labelled (at_capped (record { start = start; line = record { flaw = flaw; label = l; statement = s } }))
        ≡ map def_capped (labelled (record { start = start; line = record { flaw = flaw; label = l; statement = s } }))
    label start flaw s None = refl
    label start flaw s (Some q) = refl

equated-capped : (s : Statement) → equated (statement_capped s) ≡ map def_capped (equated s)
equated-capped Nothing = refl
equated-capped (Instruction opcode a) = refl
equated-capped (Origin n) = refl
equated-capped (Data vs) = refl
equated-capped (Equate q n) = refl

abbrev pub free : Definition → Bool
free d = not (is_reserved d.name)

filter-capped : (ds : List Definition) → filter free (map def_capped ds) ≡ map def_capped (filter free ds)
filter-capped [] = refl
filter-capped (d ∷ ds) = push (free d) d (filter free (map def_capped ds)) (filter free ds) (filter-capped ds)
  where
    push : (b : Bool) (d : Definition) (xs ys : List Definition) → xs ≡ map def_capped ys
        → cond b (def_capped d ∷ xs) xs ≡ map def_capped (cond b (d ∷ ys) ys)
    push true d xs ys h = ap (λ zs. def_capped d ∷ zs) h
    push false d xs ys h = h

defined-capped : (at : Placed) → defined (at_capped at) ≡ map def_capped (defined at)
defined-capped at =
    ap (λ ds. filter free (ds ++ equated (statement_capped at.line.statement))) (labelled-capped at)
    ∙ ap (λ ds. filter free (map def_capped (labelled at) ++ ds)) (equated-capped at.line.statement)
    ∙ ap (filter free) (sym (map-append def_capped (labelled at) (equated at.line.statement)))
    ∙ filter-capped (named at)

definitions-capped : (ps : List Placed) → definitions (map at_capped ps) ≡ map def_capped (definitions ps)
definitions-capped [] = refl
definitions-capped (p ∷ ps) =
    ap (λ ds. ds ++ definitions (map at_capped ps)) (defined-capped p)
    ∙ ap (λ ds. map def_capped (defined p) ++ ds) (definitions-capped ps)
    ∙ sym (map-append def_capped (defined p) (definitions ps))

value-capped : (ds : List Definition) (q : List ℕ) → value_named (map def_capped ds) q ≡ option_map capped (value_named ds q)
value-capped [] q = refl
value-capped (d ∷ ds) q = found (bytes_eq q d.name) d ds q (value-capped ds q)
  where
    found : (t : Bool) (d : Definition) (ds : List Definition) (q : List ℕ)
        → value_named (map def_capped ds) q ≡ option_map capped (value_named ds q)
        → option_map (λ d. d.value) (cond t (Some (def_capped d)) (find (λ d. bytes_eq q d.name) (map def_capped ds)))
        ≡ option_map capped (option_map (λ d. d.value) (cond t (Some d) (find (λ d. bytes_eq q d.name) ds)))
    found true d ds q h = refl
    found false d ds q h = h

-- names of lines with 65,536 for each large number mean what they meant, or 65,536
pub names-capped : (ps : List Placed) → value_named (definitions (map at_capped ps)) ≡ names_capped (value_named (definitions ps))
names-capped ps =
    let each : (q : List ℕ) → value_named (definitions (map at_capped ps)) q ≡ option_map capped (value_named (definitions ps) q) =
    λ q. ap (λ ds. value_named ds q) (definitions-capped ps) ∙ value-capped (definitions ps) q in
    λ i q. each q i

-- faults
any-map : {X Y : Type 0} (p : Y → Bool) (r : X → Bool) (f : X → Y) (xs : List X) → ((x : X) → p (f x) ≡ r x)
    → list_any p (map f xs) ≡ list_any r xs
any-map p r f [] h = refl
any-map p r f (x ∷ xs) h = rw (h x) (ap (λ b. r x || b) (any-map p r f xs h))

arguments-data : (vs : List Value) → arguments (Data (map value_capped vs)) ≡ map argument_capped (arguments (Data vs))
arguments-data [] = refl
arguments-data (v ∷ vs) = ap (λ more. argument_capped (record { role = Byte; value = v }) ∷ more) (arguments-data vs)

arguments-capped : (s : Statement) → arguments (statement_capped s) ≡ map argument_capped (arguments s)
arguments-capped Nothing = refl
arguments-capped (Instruction opcode None) = refl
arguments-capped (Instruction opcode (Some a)) = refl
arguments-capped (Origin n) = refl
arguments-capped (Data vs) = arguments-data vs
arguments-capped (Equate q n) = refl

above-some : (limit : ℕ) (o : Option ℕ) → limit < 65536
    → option_map_or (λ n. nat_lt limit n) (option_map capped o) false ≡ option_map_or (λ n. nat_lt limit n) o false
above-some limit None h = refl
above-some limit (Some n) h = lt-capped limit n h

above-low : (limit : ℕ) (o : Option ℕ) → 255 ≤ limit
    → option_map_or (λ n. nat_lt limit n) (option_map (λ v. v % 256) (option_map capped o)) false
    ≡ option_map_or (λ n. nat_lt limit n) (option_map (λ v. v % 256) o) false
above-low limit None h = refl
above-low limit (Some n) h = low-small limit (capped n) h ∙ sym (low-small limit n h)

above-capped : (names : Meanings) (limit : ℕ) (v : Value) → 255 ≤ limit → limit < 65536
    → is_above (names_capped names) limit (value_capped v) ≡ is_above names limit v
above-capped names limit (Number n) l h = lt-capped limit n h
above-capped names limit (Named q) l h = above-some limit (names q) h
above-capped names limit (Low q) l h = above-low limit (names q) l

huge-capped : (v : Value) → is_huge (value_capped v) ≡ is_huge v
huge-capped (Number n) = lt-capped 65535 n (omega arith)
huge-capped (Named q) = refl
huge-capped (Low q) = refl

past-capped : (names : Meanings) (role : Role) (v : Value) → is_past (names_capped names) role (value_capped v) ≡ is_past names role v
past-capped names Byte v = above-capped names 255 v (omega arith) (omega arith)
past-capped names Address v = above-capped names 2047 v (omega arith) (omega arith)
past-capped names Target v = huge-capped v

wrong-capped : (s : Statement) → has_wrong_number (statement_capped s) ≡ has_wrong_number s
wrong-capped Nothing = refl
wrong-capped (Instruction opcode a) = refl
wrong-capped (Origin n) = lt-capped 2048 n (omega arith)
wrong-capped (Data vs) = refl
wrong-capped (Equate q n) = lt-capped 65535 n (omega arith)

equate-capped : (s : Statement) → is_equate (statement_capped s) ≡ is_equate s
equate-capped Nothing = refl
equate-capped (Instruction opcode a) = refl
equate-capped (Origin n) = refl
equate-capped (Data vs) = refl
equate-capped (Equate q n) = refl

abbrev pub reserved : Definition → Bool
reserved d = is_reserved d.name

refused-capped : (names : Meanings) (at : Placed) → is_refused (names_capped names) (at_capped at) ≡ is_refused names at
refused-capped names at =
    let large = ap (list_any (is_too_large (names_capped names))) (arguments-capped at.line.statement)
    ∙ any-map (is_too_large (names_capped names)) (is_too_large names) argument_capped (arguments at.line.statement)
    (λ a. past-capped names a.role a.value) in
    let label = ap (list_any reserved) (labelled-capped at) ∙ any-map reserved reserved def_capped (labelled at) (λ d. refl) in
    let equate = ap (list_any reserved) (equated-capped at.line.statement)
    ∙ any-map reserved reserved def_capped (equated at.line.statement) (λ d. refl) in
    let both = ap (λ b. is_some at.line.label && b) (equate-capped at.line.statement) in
    cc (large, wrong-capped at.line.statement, label, equate, both)

none-map : (f : ℕ → ℕ) (o : Option ℕ) → is_none (option_map f o) ≡ is_none o
none-map f None = refl
none-map f (Some n) = refl

some-map : (o : Option ℕ) → is_some (option_map capped o) ≡ is_some o
some-map None = refl
some-map (Some n) = refl

none-capped : (names : Meanings) (v : Value) → is_none (meaning (names_capped names) (value_capped v)) ≡ is_none (meaning names v)
none-capped names (Number n) = refl
none-capped names (Named q) = none-map capped (names q)
none-capped names (Low q) = none-map (λ v. v % 256) (option_map capped (names q)) ∙ none-map capped (names q)
    ∙ sym (none-map (λ v. v % 256) (names q))

unknown-capped : (names : Meanings) (at : Placed) → has_unknown_name (names_capped names) (at_capped at) ≡ has_unknown_name names at
unknown-capped names at =
    ap (list_any (λ a. is_none (meaning (names_capped names) a.value))) (arguments-capped at.line.statement)
    ∙ any-map (λ a. is_none (meaning (names_capped names) a.value))
    (λ a. is_none (meaning names a.value)) argument_capped (arguments at.line.statement) (λ a. none-capped names a.value)

again-capped : (seen : Meanings) (at : Placed) → is_defined_again (names_capped seen) (at_capped at) ≡ is_defined_again seen at
again-capped seen at =
    ap (list_any (λ d. is_some (names_capped seen d.name))) (defined-capped at)
    ∙ any-map (λ d. is_some (names_capped seen d.name)) (λ d. is_some (seen d.name)) def_capped (defined at) (λ d. some-map (seen d.name))

past_end-capped : (at : Placed) → is_past_end (at_capped at) ≡ is_past_end at
past_end-capped at =
    ap (λ c. nat_lt 0 c && nat_lt 2048 (capped at.start + c)) (count-capped at.line.statement)
    ∙ ap (λ b. nat_lt 0 (count_of at.line.statement) && b) (end-capped at.start (count_of at.line.statement))

page-none : (n p : ℕ) → 65536 ≤ n → p ≤ 8 → (n / 256 == p) ≡ false
page-none n p h l = grind (arith, nat_tests)

page-capped : (n p : ℕ) → p ≤ 8 → (capped n / 256 == p) ≡ (n / 256 == p)
page-capped n p l = cases (cases_lt n 65536)
  where
    cases : (n < 65536) ⊎ (65536 ≤ n) → (capped n / 256 == p) ≡ (n / 256 == p)
    cases (inl h) = ap (λ m. m / 256 == p) (small-capped n (omega arith))
    cases (inr h) = page-none (capped n) p (omega arith) l ∙ sym (page-none n p h l)

low-page : (n p : ℕ) → (n % 256 / 256 == p) ≡ (0 == p)
low-page n p = let e : n % 256 / 256 ≡ 0 = omega arith in ap (λ m. m == p) e

outside-number : (n start : ℕ) → start ≤ 2048 → not (capped n / 256 == (capped start + 1) / 256) ≡ not (n / 256 == (start + 1) / 256)
outside-number n start h =
    let near : (start + 1) / 256 ≤ 8 = omega arith in
    ap (λ s. not (capped n / 256 == (s + 1) / 256)) (small-capped start (omega arith)) ∙ ap not (page-capped n ((start + 1) / 256) near)

outside-some : (o : Option ℕ) (start : ℕ) → start ≤ 2048
    → option_map_or (λ n. not (n / 256 == (capped start + 1) / 256)) (option_map capped o) false
    ≡ option_map_or (λ n. not (n / 256 == (start + 1) / 256)) o false
outside-some None start h = refl
outside-some (Some n) start h = outside-number n start h

outside-low : (o : Option ℕ) (start : ℕ) → start ≤ 2048
    → option_map_or (λ n. not (n / 256 == (capped start + 1) / 256))
    (option_map (λ v. v % 256) (option_map capped o)) false
    ≡ option_map_or (λ n. not (n / 256 == (start + 1) / 256)) (option_map (λ v. v % 256) o) false
outside-low None start h = refl
outside-low (Some n) start h =
    ap (λ s. not (capped n % 256 / 256 == (s + 1) / 256)) (small-capped start (omega arith))
    ∙ ap not (low-page (capped n) ((start + 1) / 256) ∙ sym (low-page n ((start + 1) / 256)))

outside-capped : (names : Meanings) (start : ℕ) (role : Role) (v : Value) → start ≤ 2048
    → is_outside (names_capped names) (capped start) role (value_capped v) ≡ is_outside names start role v
outside-capped names start Byte v h = refl
outside-capped names start Address v h = refl
outside-capped names start Target (Number n) h = outside-number n start h
outside-capped names start Target (Named q) h = outside-some (names q) start h
outside-capped names start Target (Low q) h = outside-low (names q) start h

off-at : (names : Meanings) (start : ℕ) (s : Statement) → start ≤ 2048
    → list_any (λ a. is_outside (names_capped names) (capped start) a.role a.value) (arguments (statement_capped s))
    ≡ list_any (λ a. is_outside names start a.role a.value) (arguments s)
off-at names start s h =
    ap (list_any (λ a. is_outside (names_capped names) (capped start) a.role a.value)) (arguments-capped s)
    ∙ any-map (λ a. is_outside (names_capped names) (capped start) a.role a.value)
    (λ a. is_outside names start a.role a.value) argument_capped (arguments s) (λ a. outside-capped names start a.role a.value h)

off-capped : (names : Meanings) (place : ℕ) (s : Statement) → place ≤ 2048
    → list_any (λ a. is_outside (names_capped names) (capped (start_of place s)) a.role a.value)
    (arguments (statement_capped s)) ≡ list_any (λ a. is_outside names (start_of place s) a.role a.value) (arguments s)
off-capped names place Nothing h = refl
off-capped names place (Instruction opcode a) h = off-at names place (Instruction opcode a) h
off-capped names place (Origin n) h = refl
off-capped names place (Data vs) h = off-at names place (Data vs) h
off-capped names place (Equate q n) h = refl

covers-number : (s c k : ℕ) → k < 2048 → (nat_le (capped s) k && nat_lt k (capped s + c)) ≡ (nat_le s k && nat_lt k (s + c))
covers-number s c k h = cases (cases_lt s 65536)
  where
    far : (m : ℕ) → 65536 ≤ m → nat_le m k ≡ false
    far m l = grind (arith, nat_tests)

    cases : (s < 65536) ⊎ (65536 ≤ s) → (nat_le (capped s) k && nat_lt k (capped s + c)) ≡ (nat_le s k && nat_lt k (s + c))
    cases (inl l) = ap (λ m. nat_le m k && nat_lt k (m + c)) (small-capped s (omega arith))
    cases (inr l) = ap (λ b. b && nat_lt k (capped s + c)) (far (capped s) (omega arith)) ∙ sym (ap (λ b. b && nat_lt k (s + c)) (far s l))

covers-capped : (at : Placed) (k : ℕ) → k < 2048 → covers (at_capped at) k ≡ covers at k
covers-capped at k h =
    ap (λ c. nat_le (capped at.start) k && nat_lt k (capped at.start + c)) (count-capped at.line.statement)
    ∙ covers-number at.start (count_of at.line.statement) k h

filled-capped : (ps : List Placed) (k : ℕ) → k < 2048 → is_filled (map at_capped ps) k ≡ is_filled ps k
filled-capped ps k h = any-map (λ at. covers at k) (λ at. covers at k) at_capped ps (λ at. covers-capped at k h)

filled_again-capped : (earlier : List Placed) (at : Placed)
    → is_filled_again (is_filled (map at_capped earlier)) (at_capped at) ≡ is_filled_again (is_filled earlier) at
filled_again-capped earlier at =
    any_places-alike (λ k. covers (at_capped at) k && is_filled (map at_capped earlier) k) (λ k. covers at k && is_filled earlier k)
    (λ k h. ap (λ b. b && is_filled (map at_capped earlier) k) (covers-capped at k h)
    ∙ ap (λ b. covers at k && b) (filled-capped earlier k h))

-- a line at a place of the memory has the same fault if large numbers are kept as 65,536
pub fault-capped : (names : Meanings) (earlier : List Placed) (place : ℕ) (line : Line) → place ≤ 2048
    → fault_after (names_capped names) (map at_capped earlier)
    (at_capped (record { start = start_of place line.statement; line = line }))
    ≡ fault_after names earlier (record { start = start_of place line.statement; line = line })
fault-capped names earlier place line h =
    let at : Placed = record { start = start_of place line.statement; line = line } in
    ap (λ m. fault_of (names_capped names) m (is_filled (map at_capped earlier)) (at_capped at)) (names-capped earlier)
    ∙ cc (
      refused-capped names at,
      unknown-capped names at,
      again-capped
          (value_named (definitions earlier)) at,
      off-capped names place line.statement h,
      past_end-capped at,
      filled_again-capped earlier at,
    )
