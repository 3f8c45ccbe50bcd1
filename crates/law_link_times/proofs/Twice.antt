-- In each run what comes is this, and no more: tick by tick, and over ticks in a row.
use Rattle.std.proofs.Common.{◌≡◌, ℕ, suc, zero, ◌+◌, List, [], ◌∷◌, ◌++◌, length, drop, refl, ap, sym, ◌∙◌, subst, arith, append_assoc}
use Rattle.std.specs.List.Sorted.{IsPermutation}
use Rattle.model_controller.specs.declared.meeting.Meeting.{Meeting}
use Rattle.key_file.specs.Histories.{KeyHistory}
use Rattle.layout_reader.specs.Layouts.{KeyLayout, is_fn_place}
use Rattle.model_keyboard.specs.Codes.{keys_of}
use Rattle.model_keyboard.specs.Keyboard.{Keyboard}
use Rattle.model_keyboard.specs.Once.{waiting}
use Rattle.model_link.specs.Expected.{Whole}
use Rattle.model_link.specs.Laws.{taken_in}
use Rattle.model_link.specs.Machine.{LayeredKeyboard}
use Rattle.law_quiet_log.specs.Once.{came, at_tick, meeting_at, all_arrived, all_taken_away, all_came}
use Rattle.law_quiet_log.proofs.Counted.{all_counted}
use Rattle.law_quiet_log.proofs.Once.{arrives_as_offered, tested_or_idle}
use Rattle.law_quiet_log.proofs.Silent.{silent_in_test}
use Rattle.law_link_times.specs.Coming.{keyboard_at, edges_at, first_at, rest_at, after_at, all_come, IsExact}
use Rattle.model_keyboard.specs.Tick.{is_scanning}
use Rattle.law_link_times.proofs.Wholeness.{codes_whole}
use Rattle.law_link_times.proofs.Repeating.{layered_same}
use Rattle.law_link_times.proofs.Exact.{Comes, comes_by}

module _ (layout : KeyLayout) (history : KeyHistory) (starts : ℕ → ℕ) where
  -- a tick of a run
  pub comes_at : (n : ℕ)
      → Comes (keys_of layout) (edges_at layout history starts n) (meeting_at layout history starts n)
      (keyboard_at layout history starts n) (keyboard_at layout history starts (suc n))
  comes_at n =
      let w : Whole LayeredKeyboard = at_tick layout history starts n in
      comes_by (keys_of layout) (edges_at layout history starts n) (keyboard_at layout history starts n)
      (silent_in_test layout history starts n) (meeting_at layout history starts n)
      (tested_or_idle layout history.host (4096 + starts n) w)
      (λ byte h. (arrives_as_offered layout history.host (4096 + starts n) byte w h).1)

  exact : (n : ℕ) → IsExact layout history starts n
  exact n = let c = comes_at n in record {
    waits = c.waits;
    test = c.test;
    codes = codes_whole (keys_of layout) (meeting_at layout history starts n) (edges_at layout history starts n)
        (keyboard_at layout history starts n) (is_scanning (keyboard_at layout history starts (suc n)));
    edges = layered_same (is_fn_place layout) (taken_in layout history.edges history.host starts n)
        (at_tick layout history starts n).keys.layers;
    repeats = c.repeats;
  }

  -- what is after a list is what is left when that is dropped
  after_dropped : (xs more : List ℕ) → drop (length xs) (xs ++ more) ≡ more
  after_dropped [] more = refl
  after_dropped (x ∷ xs) more = after_dropped xs more

  -- so what came is what comes
  came_is : (n : ℕ)
      → came (meeting_at layout history starts n) (keyboard_at layout history starts n)
      (keyboard_at layout history starts (suc n))
      ≡ first_at layout history starts n ++ after_at layout history starts n
  came_is n =
      let c = comes_at n in
      let first : List ℕ = first_at layout history starts n in
      let rest : List ℕ = rest_at layout history starts n in
      let more : List ℕ = after_at layout history starts n in
      ap (λ v. v ++ drop (length (v ++ rest)) (waiting (keyboard_at layout history starts (suc n)))) c.first
      ∙ ap (λ v. first ++ drop (length (first ++ rest)) v) (c.waits ∙ sym (append_assoc first rest more))
      ∙ ap (λ v. first ++ v) (after_dropped (first ++ rest) more)

  all_is : (n count : ℕ) → all_came layout history starts n count ≡ all_come layout history starts n count
  all_is n zero = refl
  all_is n (suc count) =
      let z : suc (count + n) ≡ suc count + n = omega arith in
      let m : Meeting = meeting_at layout history starts (count + n) in
      let k : Keyboard = keyboard_at layout history starts (count + n) in
      ap (λ v. v ++ came m k (keyboard_at layout history starts (suc count + n))) (all_is n count)
      ∙ ap (λ v. all_come layout history starts n count ++ came m k (keyboard_at layout history starts v)) (sym z)
      ∙ ap (λ v. all_come layout history starts n count ++ v) (came_is (count + n))

  all_once : (n count : ℕ)
      → IsPermutation (waiting (keyboard_at layout history starts n) ++ all_come layout history starts n count)
      (all_arrived layout history starts n count
      ++ (all_taken_away layout history starts n count ++ waiting (keyboard_at layout history starts (count + n))))
  all_once n count =
      subst (λ v. IsPermutation (waiting (keyboard_at layout history starts n) ++ v)
      (all_arrived layout history starts n count
      ++ (all_taken_away layout history starts n count ++ waiting (keyboard_at layout history starts (count + n)))))
      (all_is n count) (all_counted layout history starts n count)

  nothing_else : (n : ℕ)
      → IsPermutation (all_come layout history starts 0 n)
      (all_arrived layout history starts 0 n
      ++ (all_taken_away layout history starts 0 n ++ waiting (keyboard_at layout history starts n)))
  nothing_else n =
      let z : n + 0 ≡ n = omega arith in
      subst (λ v. IsPermutation (all_come layout history starts 0 n)
      (all_arrived layout history starts 0 n
      ++ (all_taken_away layout history starts 0 n ++ waiting (keyboard_at layout history starts v))))
      z (all_once 0 n)

-- after each tick just the right bytes wait: what waited before, less what went, and then what the tick's codes add
pub comes_exactly : (layout : KeyLayout) (history : KeyHistory) (starts : ℕ → ℕ) (n : ℕ)
    → IsExact layout history starts n
comes_exactly layout history starts n = exact layout history starts n

-- over ticks in a row what waited and what came is what arrived, what was taken away, and what waits still
pub all_comes_once : (layout : KeyLayout) (history : KeyHistory) (starts : ℕ → ℕ) (n count : ℕ)
    → IsPermutation (waiting (keyboard_at layout history starts n) ++ all_come layout history starts n count)
    (all_arrived layout history starts n count
    ++ (all_taken_away layout history starts n count ++ waiting (keyboard_at layout history starts (count + n))))
all_comes_once layout history starts n count = all_once layout history starts n count

-- from power-on on all that came has arrived, was taken away, or waits: nothing else arrives
pub nothing_else_arrives : (layout : KeyLayout) (history : KeyHistory) (starts : ℕ → ℕ) (n : ℕ)
    → IsPermutation (all_come layout history starts 0 n)
    (all_arrived layout history starts 0 n
    ++ (all_taken_away layout history starts 0 n ++ waiting (keyboard_at layout history starts n)))
nothing_else_arrives layout history starts n = nothing_else layout history starts n
