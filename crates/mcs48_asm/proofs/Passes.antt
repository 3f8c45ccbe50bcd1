-- The lines so far, and one line more.
use Rattle.std.proofs.Common.{◌≡◌, ℕ, ◌+◌, ◌-◌, ◌<◌, ◌&&◌, ◌||◌, Bool, true, false, cond, List, [], ◌∷◌, ◌++◌, length, map, Some, None, Ok}
use Rattle.std.proofs.Common.{Err, Option, refl, ap, sym, ◌∙◌, slice_index, slice_index_or, append-nil, append_assoc, zero-add}
use Rattle.std.specs.List.{list_any, range_with_len}
use Rattle.std.specs.Option.{option_or, option_map}
use Rattle.std.proofs.lemmas.Bool.{false_from_ne_true}
use Rattle.std.proofs.lemmas.List.FromFn.{fill_by_all, get_or-range_with_len, length-range_with_len}
use Rattle.std.proofs.lemmas.List.{length-append}
use Rattle.std.proofs.lemmas.List.Folds.{list_any_at}
use Rattle.mcs48_asm.specs.Names.{Meanings, defined, definitions, value_named, bytes_of}
use Rattle.std.specs.Str.Lines.{lines}
use Rattle.mcs48_asm.specs.declared.flaw.Flaw.{Flaw}
use Rattle.mcs48_asm.specs.declared.flaw.Flaw.TheVariants.{Misfit, UnknownName, NameTaken, OffPage, PastEnd, PlaceTaken}
use Rattle.mcs48_asm.specs.Flaws.{number_of}
use Rattle.mcs48_asm.specs.Capped.{capped, kept_places}
use Rattle.mcs48_asm.specs.Kept.{kept_line}
use Rattle.mcs48_asm.specs.Statements.{Line}
use Rattle.mcs48_asm.specs.Places.{Placed, places, covers, is_filled, count_of, start_of}
use Rattle.mcs48_asm.specs.Faults.{fault_of, is_past_end, is_filled_again, is_refused, has_unknown_name, is_defined_again, is_off_page}
use Rattle.mcs48_asm.specs.Assembly.{fault_after, first_fault, byte_at, image_of, image_unless, outcome_of}
use Rattle.mcs48_asm.proofs.Ranges.{places-of, any_places-alike}
use Rattle.mcs48_asm.proofs.Steps.{names-push, is_filled-push, byte_at-kept, byte_at-new}

-- what the pass has made of these lines, where all lines are these and the rest
pub record IsPassed (names : Meanings) (all rest : List Placed) (seen : Meanings) (filled : List Bool) (bytes : List ℕ)
    (number : ℕ) (earlier : List Placed) : Type 0 where
  pub whole : all ≡ earlier ++ rest
  pub count : length earlier ≡ number
  pub names_seen : (q : List ℕ) → seen q ≡ value_named (definitions earlier) q
  pub marks : (k : ℕ) → k < 2048 → slice_index_or filled k false ≡ is_filled earlier k
  pub image : (k : ℕ) → k < 2048 → slice_index bytes k ≡ byte_at names earlier k
  pub faults : first_fault names [] all ≡ first_fault names earlier rest

filled_again-alike : (f g : ℕ → Bool) (at : Placed) → ((k : ℕ) → k < 2048 → f k ≡ g k) → is_filled_again f at ≡ is_filled_again g at
filled_again-alike f g at h =
    any_places-alike (λ k. covers at k && f k) (λ k. covers at k && g k) (λ k l. ap (λ b. covers at k && b) (h k l))

-- a line's fault depends on the names, and on the places below 2,048
fault-alike : (names seen other : Meanings) (f g : ℕ → Bool) (at : Placed) → ((q : List ℕ) → seen q ≡ other q)
    → ((k : ℕ) → k < 2048 → f k ≡ g k)
    → fault_of names seen f at ≡ fault_of names other g at
fault-alike names seen other f g at s h =
    let e : seen ≡ other = λ i q. s q i in
    ap (λ m. fault_of names m f at) e ∙ cc (filled_again-alike f g at h)

-- what the pass finds is the fault of the line after these lines
pub fault-afterwards : (names : Meanings) (all rest : List Placed) (seen : Meanings) (filled : List Bool) (bytes : List ℕ)
    (number : ℕ) (earlier : List Placed) (at : Placed)
    → IsPassed names all rest seen filled bytes number earlier
    → fault_of names seen (λ place. slice_index_or filled place false) at ≡ fault_after names earlier at
fault-afterwards names all rest seen filled bytes number earlier at s =
    fault-alike names seen (value_named (definitions earlier)) (λ place. slice_index_or filled place false)
    (is_filled earlier) at s.names_seen s.marks

-- a line without a fault has none of the faults by number, place and overlap
pub record IsSound (refused past again : Bool) : Type 0 where
  pub numbers : refused ≡ false
  pub within : past ≡ false
  pub apart : again ≡ false

sound : (flaw : Option Flaw) (a b c d e f : Bool)
    → option_or flaw (cond a (Some Misfit)
    (cond b (Some UnknownName)
    (cond c (Some NameTaken) (cond d (Some OffPage) (cond e (Some PastEnd) (cond f (Some PlaceTaken) None)))))) ≡ None → IsSound a e f
sound (Some x) a b c d e f h = absurd (cc)
sound None true b c d e f h = absurd (cc)
sound None false true c d e f h = absurd (cc)
sound None false false true d e f h = absurd (cc)
sound None false false false true e f h = absurd (cc)
sound None false false false false true f h = absurd (cc)
sound None false false false false false true h = absurd (cc)
sound None false false false false false false h = record { numbers = refl; within = refl; apart = refl }

-- a line without a fault has no refused number, ends within the memory, and fills no place again
pub sound-line : (names seen : Meanings) (f : ℕ → Bool) (at : Placed) → fault_of names seen f at ≡ None
    → IsSound (is_refused names at) (is_past_end at) (is_filled_again f at)
sound-line names seen f at h =
    sound at.line.flaw (is_refused names at) (has_unknown_name names at) (is_defined_again seen at)
    (is_off_page names at) (is_past_end at) (is_filled_again f at) h

places-none : (f : ℕ → Bool) (k : ℕ) → list_any f places ≡ false → k < 2048 → f k ≡ false
unfolding places
places-none f k h l =
    false_from_ne_true (f k)
    (λ t. let found : list_any f places
    ≡ true = list_any_at f places k 0 (rw (length-range_with_len 0 2048) l)
    (ap f (get_or-range_with_len 0 2048 k 0 l ∙ zero-add k) ∙ t) in absurd (cc))

-- if an and is false and its first part true, the second part is false
pub and_true : (a b : Bool) → (a && b) ≡ false → a ≡ true → b ≡ false
and_true true b h t = h
and_true false b h t = absurd (cc)

-- the places that such a line fills are free
pub free_place : (f : ℕ → Bool) (at : Placed) (k : ℕ) → is_filled_again f at ≡ false → k < 2048 → covers at k ≡ true → f k ≡ false
free_place f at k h l t = and_true (covers at k) (f k) (places-none (λ place. covers at place && f place) k h l) t

byte-cases : (t : Bool) (names : Meanings) (earlier : List Placed) (at : Placed) (k x : ℕ) → covers at k ≡ t
    → (covers at k ≡ true → is_filled earlier k ≡ false) → x ≡ byte_at names earlier k
    → cond t (slice_index (bytes_of names at.line.statement) (k - at.start)) x ≡ byte_at names (earlier ++ at ∷ []) k
byte-cases true names earlier at k x e h b = sym (byte_at-new names earlier at k (h e) e)
byte-cases false names earlier at k x e h b = b ∙ sym (byte_at-kept names earlier at k e)

or_swap : (a b : Bool) → (a || b) ≡ (b || a)
or_swap true true = refl
or_swap true false = refl
or_swap false true = refl
or_swap false false = refl

-- one line more, which has no fault
pub next : (names : Meanings) (all : List Placed) (at : Placed) (rest : List Placed) (seen seen' : Meanings)
    (filled filled' : List Bool) (bytes bytes' : List ℕ) (number : ℕ) (earlier : List Placed)
    → IsPassed names all (at ∷ rest) seen filled bytes number earlier
    → fault_of names seen (λ place. slice_index_or filled place false) at ≡ None
    → ((q : List ℕ) → seen' q ≡ option_or (seen q) (value_named (defined at) q))
    → ((k : ℕ) → slice_index bytes' k
    ≡ cond (covers at k) (slice_index (bytes_of names at.line.statement) (k - at.start)) (slice_index bytes k))
    → ((k : ℕ) → slice_index_or filled' k false ≡ (covers at k || slice_index_or filled k false))
    → IsPassed names all rest seen' filled' bytes' (number + 1) (earlier ++ at ∷ [])
next names all at rest seen seen' filled filled' bytes bytes' number earlier s none named written marked =
    let line = sound-line names seen (λ place. slice_index_or filled place false) at none in
    record {
      whole = s.whole ∙ sym (append_assoc earlier (at ∷ []) rest);
      count = length-append earlier (at ∷ []) ∙ ap (λ n. n + 1) s.count;
      names_seen = λ q. named q ∙ ap (λ o. option_or o (value_named (defined at) q)) (s.names_seen q) ∙ sym (names-push earlier at q);
      marks = λ k l. marked k ∙ ap (λ b. covers at k || b) (s.marks k l) ∙ or_swap (covers at k) (is_filled earlier k)
          ∙ sym (is_filled-push earlier at k);
      image = λ k l. written k ∙ byte-cases (covers at k) names earlier at k (slice_index bytes k) refl
          (λ t. sym (s.marks k l) ∙ free_place (λ place. slice_index_or filled place false) at k line.apart l t) (s.image k l);
      faults = s.faults ∙ ap
          (λ o. option_or (option_map (λ flaw. (length earlier + 1, number_of flaw)) o) (first_fault names (earlier ++ at ∷ []) rest))
          (sym (fault-afterwards names all (at ∷ rest) seen filled bytes number earlier at s) ∙ none);
    }

-- a line with a fault
pub faulty : (names : Meanings) (all : List Placed) (at : Placed) (rest : List Placed) (seen : Meanings)
    (filled : List Bool) (bytes : List ℕ) (number : ℕ) (earlier : List Placed) (fault : Flaw)
    → IsPassed names all (at ∷ rest) seen filled bytes number earlier
    → fault_of names seen (λ place. slice_index_or filled place false) at ≡ Some fault
    → outcome_of names all ≡ Err (number + 1, number_of fault)
faulty names all at rest seen filled bytes number earlier fault s h =
    let found : first_fault names [] all ≡ Some (length earlier + 1, number_of fault) =
    s.faults ∙ ap (λ o. option_or (option_map (λ flaw. (length earlier + 1, number_of flaw)) o)
    (first_fault names (earlier ++ at ∷ []) rest))
    (sym (fault-afterwards names all (at ∷ rest) seen filled bytes number earlier at s) ∙ h) in
    ap (λ f. image_unless f (image_of names all)) found ∙ ap (λ n. Err (n + 1, number_of fault)) s.count

-- the end of the text
pub ended : (names : Meanings) (all : List Placed) (seen : Meanings) (filled : List Bool) (bytes : List ℕ)
    (number : ℕ) (earlier : List Placed)
    → IsPassed names all [] seen filled bytes number earlier → length bytes ≡ 2048 → outcome_of names all ≡ Ok bytes
ended names all seen filled bytes number earlier s l =
    let same : all ≡ earlier = s.whole ∙ append-nil earlier in
    let filled_so : bytes
    ≡ map (byte_at names earlier) (range_with_len 0 2048) = fill_by_all (byte_at names earlier) bytes 2048 0 l s.image in
    ap (λ f. image_unless f (image_of names all)) s.faults
    ∙ ap (λ xs. Ok (image_of names xs)) same
    ∙ ap (λ ps. Ok (map (byte_at names earlier) ps)) (sym (places-of 2048 refl))
    ∙ ap Ok (sym filled_so)

-- the first of the lines, with its place
pub placed-turn : (place start next : ℕ) (rest more front : List ℕ) (seen : Line) → lines rest ≡ front ∷ lines more
    → seen ≡ kept_line front → start ≡ start_of place seen.statement
    → next ≡ capped (start + count_of seen.statement)
    → kept_places place (map kept_line (lines rest))
    ≡ record { start = start; line = seen } ∷ kept_places next (map kept_line (lines more))
placed-turn place start next rest more front seen first says starts afterwards =
    let others = map kept_line (lines more) in
    ap (λ ls. kept_places place (map kept_line ls)) first
    ∙ sym (ap (λ line. kept_places place (line ∷ others)) says)
    ∙ sym (ap (λ s. record { start = s; line = seen } ∷ kept_places (capped (s + count_of seen.statement)) others) starts)
    ∙ sym (ap (λ n. record { start = start; line = seen } ∷ kept_places n others) afterwards)

-- no line yet
pub begun : (names : Meanings) (all : List Placed) (seen : Meanings) (filled : List Bool) (bytes : List ℕ)
    → ((q : List ℕ) → seen q ≡ None) → ((k : ℕ) → k < 2048 → slice_index_or filled k false ≡ false)
    → ((k : ℕ) → k < 2048 → slice_index bytes k ≡ 0) → IsPassed names all all seen filled bytes 0 []
begun names all seen filled bytes s f b = record { whole = refl; count = refl; names_seen = s; marks = f; image = b; faults = refl }
