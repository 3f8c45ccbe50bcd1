-- What INT 09h does with each key that types a character, and with the shift keys, by trying each.
use Rattle.std.proofs.Common.{◌≡◌, ℕ, suc, zero, ◌<◌, ◌%◌, Bool, true, false, ◌==◌, List, []}
use Rattle.std.proofs.Common.{◌∷◌, Some, None, refl, ap, sym, ◌∙◌, subst, arith}
use Rattle.std.specs.Prelude.{if◌then◌else◌, nat_eq}
use Rattle.std.specs.declared.option.Option.{Option}
use Rattle.std.proofs.lemmas.Bool.Decides.{nat_tests}
use Rattle.bits.specs.Bits.{with_bit}
use Rattle.bits.proofs.Every.{tests_by}
use Rattle.pc_tables.specs.declared.item.Item.TheVariants.{Word}
use Rattle.pc_tables.specs.Keys.{keys, scan_at, code_at}
use Rattle.pc_tables.specs.Words.{words, letter_on}
use Rattle.ctl_core.specs.ScanCodes.{scan_codes, translated}
use Rattle.int09.specs.Bios.{State, Effect, start, quiet}
use Rattle.int09.specs.Keys.{reverses}
use Rattle.int09.specs.Rules.{fed, marks, on_sysreq, alt_broken, on_shift_key, locks, lock_made, on_lock_key, without_words}
use Rattle.int09.specs.Rules.{in_pause, with_alt, with_ctrl, alone}
use Rattle.law_typed_log.specs.Typing.{base, shifted, word_of, is_shift}

abbrev table : {X : Type 0} → (ℕ → X) → ℕ → List X
table f zero = []
table f (suc n) = f n ∷ table f n

heads : {X : Type 0} (x y : X) (xs ys : List X) → x ∷ xs ≡ y ∷ ys → x ≡ y
heads x y xs ys h = cc

tails : {X : Type 0} (x y : X) (xs ys : List X) → x ∷ xs ≡ y ∷ ys → xs ≡ ys
tails x y xs ys h = cc

at_table : {X : Type 0} (f g : ℕ → X) (n : ℕ) → table f n ≡ table g n → (k : ℕ) → k < n → f k ≡ g k
at_table f g zero h k l = absurd (omega (arith, l))
at_table f g (suc n) h k l =
    elim (nat_eq k n) as (λ b. nat_eq k n ≡ b → f k ≡ g k) [
      | true ↦ λ e.
          let z : k ≡ n = grind (arith, nat_tests, e) in
          subst (λ v. f v ≡ g v) (sym z) (heads (f n) (g n) (table f n) (table g n) h)
      | false ↦ λ e.
          let z : k < n = grind (arith, nat_tests, e, l) in
          at_table f g n (tails (f n) (g n) (table f n) (table g n) h) k z
    ] refl

-- a keyboard code begins no break, and the controller gives its scan code
pub no_prefix : (k : ℕ) → k < 84 → (code_at k == 0xf0) ≡ false
unfolding keys
no_prefix = tests_by 84 (λ k. code_at k == 0xf0) (λ k. false) refl

-- the controller makes a key's scan code of the code that the key sends
pub scan_is : (k : ℕ) → k < 84 → translated (code_at k) ≡ Some (scan_at k)
unfolding keys scan_codes translated
scan_is = at_table (λ k. translated (code_at k)) (λ k. Some (scan_at k)) 84 refl

-- what there is for a word with a character
abbrev on_word : Option ℕ → (ℕ → Effect) → Effect
on_word None f = quiet start
on_word (Some w) f = if w % 256 == 0 then quiet start else f w

on_word_is : (o : Option ℕ) (f g : ℕ → Effect) (w : ℕ) → on_word o f ≡ on_word o g → o ≡ Some w → (w % 256 == 0)
    ≡ false
    → f w ≡ g w
on_word_is o f g w h e z =
    sym (ap (λ v. on_word v f) e ∙ ap (λ b. if b then quiet start else f w) z) ∙ h
    ∙ ap (λ v. on_word v g) e ∙ ap (λ b. if b then quiet start else g w) z

abbrev pub broken : ℕ → ℕ
broken k = with_bit 0x80 (scan_at k)

abbrev pub entered : ℕ → State → Effect
entered w s = record { after = record s { words = w ∷ [] }; items = Word w ∷ [] }

-- a key without a shift key: its word of the base column, and nothing at its break
pub plain_makes : (k w : ℕ) → k < 84 → word_of base k ≡ Some w → (w % 256 == 0) ≡ false → fed (scan_at k) start
    ≡ entered w start
unfolding keys words letter_on reverses fed marks on_sysreq alt_broken on_shift_key locks lock_made on_lock_key
    without_words in_pause with_alt with_ctrl alone
plain_makes k w l e z =
    on_word_is (word_of base k) (λ w. fed (scan_at k) start) (λ w. entered w start) w
    (at_table (λ k. on_word (word_of base k) (λ w. fed (scan_at k) start))
    (λ k. on_word (word_of base k) (λ w. entered w start))
    84 refl k l) e z

-- the break of a key that types a character enters nothing
pub plain_breaks : (k w : ℕ) → k < 84 → word_of base k ≡ Some w → (w % 256 == 0) ≡ false → fed (broken k) start
    ≡ quiet start
unfolding keys words letter_on reverses fed marks on_sysreq alt_broken on_shift_key locks lock_made on_lock_key
    without_words in_pause with_alt with_ctrl alone
plain_breaks k w l e z =
    on_word_is (word_of base k) (λ w. fed (broken k) start) (λ w. quiet start) w
    (at_table (λ k. on_word (word_of base k) (λ w. fed (broken k) start))
    (λ k. on_word (word_of base k) (λ w. quiet start))
    84 refl k l) e z

-- a shift key that is down, left or right
abbrev pub bit_by : Bool → ℕ
bit_by true = 2
bit_by false = 1

abbrev pub is_left : ℕ → Bool
is_left k = scan_at k == 0x2a

abbrev pub under_shift_key : Bool → State
under_shift_key left = record start { shifts = bit_by left }

shift_table : (f g : ℕ → Effect) → table (λ k. if is_shift k then f k else quiet start) 84
    ≡ table (λ k. if is_shift k then g k else quiet start) 84 → (k : ℕ) → k < 84 → is_shift k ≡ true → f k ≡ g k
shift_table f g h k l s =
    sym (ap (λ b. if b then f k else quiet start) s)
    ∙ at_table (λ k. if is_shift k then f k else quiet start) (λ k. if is_shift k then g k else quiet start) 84 h k l
    ∙ ap (λ b. if b then g k else quiet start) s

-- the make of a shift key puts its shift down, and enters nothing
pub shift_makes : (k : ℕ) → k < 84 → is_shift k ≡ true → fed (scan_at k) start ≡ quiet (under_shift_key (is_left k))
unfolding keys words letter_on reverses fed marks on_sysreq alt_broken on_shift_key locks lock_made on_lock_key
    without_words in_pause with_alt with_ctrl alone
shift_makes = shift_table (λ k. fed (scan_at k) start) (λ k. quiet (under_shift_key (is_left k))) refl

-- the break of a shift key puts its shift up, and enters nothing
pub shift_breaks : (k : ℕ) → k < 84 → is_shift k ≡ true → fed (broken k) (under_shift_key (is_left k)) ≡ quiet start
unfolding keys words letter_on reverses fed marks on_sysreq alt_broken on_shift_key locks lock_made on_lock_key
    without_words in_pause with_alt with_ctrl alone
shift_breaks = shift_table (λ k. fed (broken k) (under_shift_key (is_left k))) (λ k. quiet start) refl

-- a key under it: its word of the shift column, and nothing at its break
shifted_makes_by : (left : Bool) (k w : ℕ) → k < 84 → word_of shifted k ≡ Some w → (w % 256 == 0) ≡ false
    → table (λ k. on_word (word_of shifted k) (λ w. fed (scan_at k) (under_shift_key left))) 84
    ≡ table (λ k. on_word (word_of shifted k) (λ w. entered w (under_shift_key left))) 84
    → fed (scan_at k) (under_shift_key left) ≡ entered w (under_shift_key left)
shifted_makes_by left k w l e z h =
    on_word_is (word_of shifted k) (λ w. fed (scan_at k) (under_shift_key left))
    (λ w. entered w (under_shift_key left)) w
    (at_table (λ k. on_word (word_of shifted k) (λ w. fed (scan_at k) (under_shift_key left)))
    (λ k. on_word (word_of shifted k) (λ w. entered w (under_shift_key left))) 84 h k l) e z

-- under shift the make of a key enters the key's shifted word
pub shifted_makes : (left : Bool) (k w : ℕ) → k < 84 → word_of shifted k ≡ Some w → (w % 256 == 0) ≡ false
    → fed (scan_at k) (under_shift_key left) ≡ entered w (under_shift_key left)
unfolding keys words letter_on reverses fed marks on_sysreq alt_broken on_shift_key locks lock_made on_lock_key
    without_words in_pause with_alt with_ctrl alone
shifted_makes true k w l e z = shifted_makes_by true k w l e z refl
shifted_makes false k w l e z = shifted_makes_by false k w l e z refl

abbrev pub with_word : Bool → ℕ → State
with_word left w = record (under_shift_key left) { words = w ∷ [] }

shifted_breaks_by : (left : Bool) (k w : ℕ) → k < 84 → word_of shifted k ≡ Some w → (w % 256 == 0) ≡ false
    → table (λ k. on_word (word_of shifted k) (λ w. fed (broken k) (with_word left w))) 84
    ≡ table (λ k. on_word (word_of shifted k) (λ w. quiet (with_word left w))) 84
    → fed (broken k) (with_word left w) ≡ quiet (with_word left w)
shifted_breaks_by left k w l e z h =
    on_word_is (word_of shifted k) (λ w. fed (broken k) (with_word left w)) (λ w. quiet (with_word left w)) w
    (at_table (λ k. on_word (word_of shifted k) (λ w. fed (broken k) (with_word left w)))
    (λ k. on_word (word_of shifted k) (λ w. quiet (with_word left w))) 84 h k l) e z

-- under shift the break of a key enters nothing
pub shifted_breaks : (left : Bool) (k w : ℕ) → k < 84 → word_of shifted k ≡ Some w → (w % 256 == 0) ≡ false
    → fed (broken k) (with_word left w) ≡ quiet (with_word left w)
unfolding keys words letter_on reverses fed marks on_sysreq alt_broken on_shift_key locks lock_made on_lock_key
    without_words in_pause with_alt with_ctrl alone
shifted_breaks true k w l e z = shifted_breaks_by true k w l e z refl
shifted_breaks false k w l e z = shifted_breaks_by false k w l e z refl

shifted_ends_by : (left : Bool) (k w : ℕ) → k < 84 → word_of shifted k ≡ Some w → (w % 256 == 0) ≡ false
    → table (λ k. on_word (word_of shifted k) (λ w. fed (broken k) (under_shift_key left))) 84
    ≡ table (λ k. on_word (word_of shifted k) (λ w. quiet (under_shift_key left))) 84
    → fed (broken k) (under_shift_key left) ≡ quiet (under_shift_key left)
shifted_ends_by left k w l e z h =
    on_word_is (word_of shifted k) (λ w. fed (broken k) (under_shift_key left)) (λ w. quiet (under_shift_key left)) w
    (at_table (λ k. on_word (word_of shifted k) (λ w. fed (broken k) (under_shift_key left)))
    (λ k. on_word (word_of shifted k) (λ w. quiet (under_shift_key left))) 84 h k l) e z

-- and nothing at its break once the word is taken
pub shifted_ends : (left : Bool) (k w : ℕ) → k < 84 → word_of shifted k ≡ Some w → (w % 256 == 0) ≡ false
    → fed (broken k) (under_shift_key left) ≡ quiet (under_shift_key left)
unfolding keys words letter_on reverses fed marks on_sysreq alt_broken on_shift_key locks lock_made on_lock_key
    without_words in_pause with_alt with_ctrl alone
shifted_ends true k w l e z = shifted_ends_by true k w l e z refl
shifted_ends false k w l e z = shifted_ends_by false k w l e z refl
