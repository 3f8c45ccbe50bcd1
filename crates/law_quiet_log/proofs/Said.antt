-- What INT 09h says of a byte is two items at most, and none of them is a byte that it read.
use Rattle.std.proofs.Common.{◌≡◌, ℕ, ◌≤◌, length, List, [], ◌++◌, ap, Bool, true, false, not, ◌&&◌, ◌==◌, Some, None, refl, subst, ◌||◌, arith}
use Rattle.std.specs.Prelude.{if◌then◌else◌, nat_lt, is_some, option_and_then}
use Rattle.std.specs.Option.{option_map, unwrap_or}
use Rattle.std.specs.declared.option.Option.{Option}
use Rattle.pc_tables.specs.declared.item.Item.{Item}
use Rattle.pc_tables.specs.Words.{words_at}
use Rattle.bits.specs.Bits.{has_bit, with_bit, without_bit, flipped_bit}
use Rattle.int09.specs.Bits.{ctrl, alt, num, sysreq, pause}
use Rattle.int09.specs.Bios.{State, Effect, quiet, says, enters, enters_if}
use Rattle.int09.specs.Keys.{shift_bit, lock_bit, keypad_digit, differ, shift_down, reverses}
use Rattle.int09.specs.Rules.{is_make, code_of, marks, on_sysreq, alt_broken, on_shift_key, locks, lock_made, on_lock_key}
use Rattle.law_quiet_log.specs.Ports.{port_of, ports}
use Rattle.int09.specs.Rules.{without_words, in_pause, word_in, alt_typed, with_alt, with_ctrl, alone, fed}

-- at most two items, and no byte that is read
pub record IsShort (o : Effect) : Type 0 where
  pub few : length o.items ≤ 2
  pub none_read : ports o.items ≡ []

-- where a rule fits
record AreShort (o : Option Effect) : Type 0 where
  each : (p : Effect) → o ≡ Some p → IsShort p

none : AreShort None
none = record { each = λ p e. absurd cc }

some : {o : Effect} → IsShort o → AreShort (Some o)
some h = record { each = λ p e. let k : _ ≡ p = cc in subst IsShort k h }

-- by what was asked
one_of : (b : Bool) {o p : Effect} → IsShort o → IsShort p → IsShort (if b then o else p)
one_of true h g = h
one_of false h g = g

some_of : (b : Bool) {o p : Option Effect} → AreShort o → AreShort p → AreShort (if b then o else p)
some_of true h g = h
some_of false h g = g

short_quiet : {s : State} → IsShort (quiet s)
short_quiet = record { few = omega arith; none_read = refl }

short_says : {i : Item} {s : State} → port_of i ≡ [] → IsShort (says i s)
short_says e = record { few = omega arith; none_read = ap (λ v. v ++ []) e }

short_enters : (word : ℕ) (s : State) → IsShort (enters word s)
short_enters word s = one_of (nat_lt (length s.words) 15) (short_says refl) (short_says refl)

short_enters_if : (word : Option ℕ) (s : State) → IsShort (enters_if word s)
short_enters_if None s = short_quiet
short_enters_if (Some word) s = short_enters word s

short_marks : (byte : ℕ) (s : State) → AreShort (marks byte s)
unfolding marks
short_marks byte s =
    some_of (byte == 0xfa) (some short_quiet) (some_of (byte == 0xfe) (some short_quiet)
    (some_of (byte == 0xff) (some (record { few = omega arith; none_read = refl })) none))

short_sysreq : (byte : ℕ) (s : State) → AreShort (on_sysreq byte s)
unfolding on_sysreq
short_sysreq byte s =
    some_of (byte == 0xd4) (some (short_says refl)) (some_of (byte == 0x54 && has_bit sysreq s.downs) (some short_quiet)
    (some_of (byte == 0x54) (some (short_says refl)) none))

short_alt_broken : (s : State) → IsShort (alt_broken s)
unfolding alt_broken
short_alt_broken s =
    let t : State = record s { shifts = without_bit alt s.shifts } in
    one_of (s.number == 0) (short_quiet {s = t}) (short_enters s.number (record t { number = 0 }))

short_shift_bit : (byte : ℕ) (o : Option ℕ) (s : State)
    → AreShort (option_map (λ bit. if is_make byte then quiet (record s { shifts = with_bit bit s.shifts })
    else if byte == 0xb8 then alt_broken s
    else quiet (record s { shifts = without_bit bit s.shifts })) o)
short_shift_bit byte None s = none
short_shift_bit byte (Some bit) s =
    some (one_of (is_make byte) short_quiet (one_of (byte == 0xb8) (short_alt_broken s) short_quiet))

short_shift_key : (byte : ℕ) (s : State) → AreShort (on_shift_key byte s)
unfolding on_shift_key
short_shift_key byte s = short_shift_bit byte (shift_bit (code_of byte)) s

short_locks : (code bit : ℕ) (s : State) → IsShort (locks code bit s)
unfolding locks
short_locks code bit s =
    let t : State = record s { downs = with_bit bit s.downs; shifts = flipped_bit bit s.shifts } in
    one_of (code == 0x52) (short_enters 0x5200 t) (short_quiet {s = t})

short_lock_made : (code bit : ℕ) (s : State) → AreShort (lock_made code bit s)
unfolding lock_made
short_lock_made code bit s =
    some_of (has_bit ctrl s.shifts || code == 0x52 && has_bit alt s.shifts) none
    (some_of (code == 0x52 && differ (has_bit num s.shifts) (shift_down s)) (some (short_enters 0x5230 s))
    (some_of (has_bit bit s.downs) (some short_quiet) (some (short_locks code bit s))))

short_lock_bit : (byte : ℕ) (o : Option ℕ) (s : State)
    → AreShort (option_and_then (λ bit.
    if is_make byte then lock_made byte bit s else Some (quiet (record s { downs = without_bit bit s.downs }))) o)
short_lock_bit byte None s = none
short_lock_bit byte (Some bit) s = some_of (is_make byte) (short_lock_made byte bit s) (some short_quiet)

short_lock_key : (byte : ℕ) (s : State) → AreShort (on_lock_key byte s)
unfolding on_lock_key
short_lock_key byte s = short_lock_bit byte (lock_bit (code_of byte)) s

short_without : (byte : ℕ) (s : State) → AreShort (without_words byte s)
unfolding without_words
short_without byte s = some_of (is_make byte && is_some (words_at byte)) none (some short_quiet)

short_pause : (code : ℕ) (s : State) → AreShort (in_pause code s)
unfolding in_pause
short_pause code s =
    some_of (has_bit pause s.downs && code == 0x45) (some short_quiet) (some_of (has_bit pause s.downs) (some (short_says refl)) none)

short_alt_typed : (digit : Option ℕ) (code : ℕ) (s : State) → IsShort (alt_typed digit code s)
unfolding alt_typed
short_alt_typed (Some digit) code s = short_quiet
short_alt_typed None code s = short_enters_if (word_in (λ row. row.alt) code) _

short_alt : (code : ℕ) (s : State) → AreShort (with_alt code s)
unfolding with_alt
short_alt code s =
    some_of (not (has_bit alt s.shifts)) none (some_of (has_bit ctrl s.shifts && code == 0x53) (some (short_says refl))
    (some_of (code == 0x39) (some (short_enters 0x3920 s)) (some (short_alt_typed (keypad_digit code) code s))))

short_ctrl : (code : ℕ) (s : State) → AreShort (with_ctrl code s)
unfolding with_ctrl
short_ctrl code s =
    some_of (not (has_bit ctrl s.shifts)) none (some_of (code == 0x46) (some (record { few = omega arith; none_read = refl }))
    (some_of (code == 0x45) (some (short_says refl)) (some (short_enters_if (word_in (λ row. row.ctrl) code) s))))

short_alone : (code : ℕ) (s : State) → AreShort (alone code s)
unfolding alone
short_alone code s =
    some_of (not (differ (shift_down s) (reverses code s))) (some (short_enters_if (word_in (λ row. row.base) code) s))
    (some_of (code == 0x37) (some (short_says refl)) (some (short_enters_if (word_in (λ row. row.shift) code) s)))

-- the first rule that fits, or what the others come to
first : (o : Option Effect) {p : Effect} → AreShort o → IsShort p → IsShort (unwrap_or o p)
first None h g = g
first (Some o) h g = h.each o refl

-- of a byte INT 09h says two items at most, and none of them is a byte that it read
pub short_fed : (byte : ℕ) (s : State) → IsShort (fed byte s)
unfolding fed
short_fed byte s =
    first (marks byte s) (short_marks byte s) (first (on_sysreq byte s) (short_sysreq byte s)
    (first (on_shift_key byte s) (short_shift_key byte s) (first (on_lock_key byte s) (short_lock_key byte s)
    (first (without_words byte s) (short_without byte s) (first (in_pause byte s) (short_pause byte s)
    (first (with_alt byte s) (short_alt byte s) (first (with_ctrl byte s) (short_ctrl byte s)
    (first (alone byte s) (short_alone byte s) short_quiet))))))))
