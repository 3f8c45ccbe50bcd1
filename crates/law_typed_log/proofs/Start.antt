-- The first eighty ticks: the keyboard's test, its end that is reported, and rest.
use Rattle.std.proofs.Common.{◌≡◌, ℕ, suc, zero, ◌+◌, ◌-◌, ◌*◌, ◌<◌, ◌≤◌, Bool, true, false, not, ◌==◌}
use Rattle.std.proofs.Common.{List, [], ◌∷◌, ◌++◌, None, refl, ap, ◌∙◌, subst, arith}
use Rattle.std.specs.Prelude.{if◌then◌else◌}
use Rattle.std.proofs.lemmas.Bool.Decides.{nat_tests}
use Rattle.std.proofs.lemmas.List.Elements.{All-nil}
use Rattle.pc_tables.specs.declared.item.Item.TheVariants.{Port}
use Rattle.ctl_core.specs.ScanCodes.{scan_codes, translated}
use Rattle.int09.specs.Bios.{start}
use Rattle.int09.specs.Rules.{fed, marks, on_sysreq, alt_broken, on_shift_key}
use Rattle.board_terms.specs.Matrix.{all_up}
use Rattle.layout_reader.specs.Layouts.{KeyLayout, is_fn_place}
use Rattle.model_controller.specs.declared.meeting.Meeting.{Meeting}
use Rattle.model_controller.specs.declared.meeting.Meeting.TheVariants.{Sent}
use Rattle.model_keyboard.specs.declared.state.Mode.TheVariants.{Ready}
use Rattle.model_keyboard.specs.Codes.{Keys, keys_of}
use Rattle.model_keyboard.specs.Queue.{empty}
use Rattle.model_keyboard.specs.Keyboard.{Keyboard}
use Rattle.model_keyboard.specs.Layers.{no_layers, layered, all_layers_after}
use Rattle.model_keyboard.specs.Tick.{met, ticked, tested_if, is_inhibited, is_scanning, scanned, repeated_if}
use Rattle.key_file.specs.Histories.{KeyHistory}
use Rattle.model_link.specs.declared.line.LogLine.{LogLine}
use Rattle.model_link.specs.Debounce.{Switches, all_open, taken, switched}
use Rattle.model_link.specs.Machine.{LayeredKeyboard, keyboard, met_as}
use Rattle.law_quiet_log.proofs.Calm.{Pc, Calm, calm_meeting, met_by, items_of_meeting}
use Rattle.law_typed_log.specs.Typing.{Stroke, edges_from, takes_from}
use Rattle.law_typed_log.specs.Typed.{is_loss}
use Rattle.law_typed_log.proofs.Struck.{AllFit}
use Rattle.law_typed_log.proofs.Settling.{takes_nothing}
use Rattle.law_typed_log.proofs.Steps.{Reached, stepped, says, ticks_on}
use Rattle.law_typed_log.proofs.Turns.{staged, with_switches}
use Rattle.law_typed_log.proofs.Resting.{line, At, Rest, idle, none_before_first}

-- the keyboard in its test, with so many ticks left of it
abbrev in_test : ℕ → ℕ → Bool → Keyboard
in_test rate left due = record {
  test = left;
  enabled = true;
  mode = Ready;
  reply = None;
  aa_due = due;
  last = 0xaa;
  queue = empty;
  repeats = None;
  rate = rate;
  lights = 0;
  held = all_up;
}

abbrev first_pc : Pc
first_pc = record { mark = false; out = 0; bios = start; done = 0 }

abbrev testing : ℕ → ℕ → Bool → Calm LayeredKeyboard
testing rate left due = staged (with_switches all_open (in_test rate left due)) first_pc

none_repeats : (b : Bool) (keys : Keys) (rate left : ℕ) (due : Bool)
    → repeated_if b keys false (in_test rate left due) ≡ in_test rate left due
none_repeats true keys rate left due = refl
none_repeats false keys rate left due = refl

-- a tick without edges, with this meeting
abbrev stage : KeyLayout → Meeting → Keyboard → Pc → List (ℕ × Bool) → Switches → Calm LayeredKeyboard
stage layout meeting k q es switches = staged (record {
  keyboard = ticked (keys_of layout) (met_as meeting) (layered (is_fn_place layout) es no_layers) k;
  layers = all_layers_after (is_fn_place layout) es no_layers;
  switches = switches;
}) q

takes_none : (layout : KeyLayout) (meeting : Meeting) (k : Keyboard) (q : Pc)
    → stage layout meeting k q (taken layout.debounce [] all_open) (switched layout.debounce [] all_open)
    ≡ stage layout meeting k q [] all_open
takes_none layout meeting k q =
    let t = takes_nothing layout.debounce all_up in
    ap (λ es. stage layout meeting k q es (switched layout.debounce [] all_open)) t.are_taken
    ∙ ap (λ s. stage layout meeting k q [] s) t.switches

-- a tick of the test
test_tick : (layout : KeyLayout) (left after : ℕ) (last : Bool) → (left == 0) ≡ false → (left == 1) ≡ last
    → left - 1 ≡ after
    → stepped (keyboard layout) [] false (testing layout.rate left false) ≡ testing layout.rate after last
test_tick layout left after last z o e =
    let keys : Keys = keys_of layout in
    let k : Keyboard = in_test layout.rate left false in
    takes_none layout (calm_meeting (left == 0) None) k (met_by (calm_meeting (left == 0) None) first_pc)
    ∙ ap (λ b. staged (with_switches all_open (scanned keys (is_inhibited (met_as (calm_meeting b None))) []
    (tested_if (not b) (met (met_as (calm_meeting b None)) keys k)))) (met_by (calm_meeting b None) first_pc)) z
    ∙ ap (λ v. staged (with_switches all_open v) first_pc)
    (none_repeats (is_scanning (in_test layout.rate (left - 1) (if left == 1 then true else false))) keys
    layout.rate (left - 1)
    (if left == 1 then true else false))
    ∙ ap (λ b. testing layout.rate (left - 1) (if b then true else false)) o
    ∙ due_is last
    ∙ ap (λ n. testing layout.rate n last) e
  where
    due_is : (b : Bool) → testing layout.rate (left - 1) (if b then true else false) ≡ testing layout.rate (left - 1) b
    due_is true = refl
    due_is false = refl

test_silent : (layout : KeyLayout) (left : ℕ) → (left == 0) ≡ false
    → says (keyboard layout) false (testing layout.rate left false) ≡ []
test_silent layout left z = ap (λ b. items_of_meeting (calm_meeting b None) first_pc ++ []) z

-- its end is reported
reported : (layout : KeyLayout) → stepped (keyboard layout) [] false (testing layout.rate 0 true)
    ≡ staged (with_switches all_open (record (in_test layout.rate 0 false) { last = 0xaa }))
    (record { mark = false; out = 0xaa; bios = start; done = 0 })
unfolding scan_codes translated fed marks on_sysreq alt_broken on_shift_key
reported layout =
    takes_none layout (Sent 0xaa) (in_test layout.rate 0 true) (record { mark = false; out = 0xaa; bios = start; done = 0 })

reported_says : (layout : KeyLayout) → says (keyboard layout) false (testing layout.rate 0 true) ≡ Port 0xaa ∷ []
unfolding scan_codes translated fed marks on_sysreq alt_broken on_shift_key
reported_says layout = refl

module _ (layout : KeyLayout) (h : KeyHistory) (ss : List Stroke) (edges : h.edges ≡ edges_from 0 ss)
    (host : h.host ≡ takes_from 0 ss) (fit : AllFit layout.entries ss) where
  abbrev Reach : ℕ → Calm LayeredKeyboard → Type 0
  Reach n c = Reached (keyboard layout) h ss host n c []

  at_first : Reach 0 (testing layout.rate 64 false)
  at_first = record {
    is = refl;
    kept = All-nil (λ (l : LogLine). is_loss l.item ≡ false);
    taken_so_far = refl;
  }

  test_goes_on : (n left after : ℕ) (last : Bool) → n < 80 → 1 ≤ left → (left == 1) ≡ last → left - 1 ≡ after
      → Reach n (testing layout.rate left false) → Reach (suc n) (testing layout.rate after last)
  test_goes_on n left after last l some o e r =
      let z : (left == 0) ≡ false = grind (arith, nat_tests, some) in
      ticks_on (keyboard layout) h ss host n (testing layout.rate left false) (testing layout.rate after last) [] [] []
      (none_before_first layout h ss edges host fit n l) r (omega (arith, l))
      (test_tick layout left after last z o e) (test_silent layout left z) tt

  -- the test but for its last tick
  tests : (n left : ℕ) → left + n ≡ 64 → 1 ≤ left → Reach n (testing layout.rate left false)
  tests zero left z some =
      let e : 64 ≡ left = omega (arith, z) in subst (λ v. Reach 0 (testing layout.rate v false)) e at_first
  tests (suc n) left z some =
      let o : (suc left == 1) ≡ false = grind (arith, nat_tests, some) in
      test_goes_on n (suc left) left false (omega (arith, z, some)) (omega arith) o (omega arith)
      (tests n (suc left) (omega (arith, z)) (omega arith))

  after_test : Reach 64 (testing layout.rate 0 true)
  after_test =
      test_goes_on 63 1 0 true (omega arith) (omega arith) refl refl (tests 63 1 (omega arith) (omega arith))

  abbrev waits_at : ℕ → Type 0
  waits_at n = At layout h ss edges host fit n (line 0xaa [] false false 0xaa start 0) None all_up []

  after_reporting : waits_at 65
  after_reporting =
      ticks_on (keyboard layout) h ss host 64 (testing layout.rate 0 true)
      (staged (with_switches all_open (record (in_test layout.rate 0 false) { last = 0xaa }))
      (record { mark = false; out = 0xaa; bios = start; done = 0 }))
      [] [] (Port 0xaa ∷ []) (none_before_first layout h ss edges host fit 64 (omega arith)) after_test (omega arith)
      (reported layout) (reported_says layout) (refl, tt)

  waits_on : (count n : ℕ) → n ≡ count + 65 → n ≤ 80 → waits_at n
  waits_on zero n z l = let e : 65 ≡ n = omega (arith, z) in subst waits_at e after_reporting
  waits_on (suc count) zero z l = absurd (omega (arith, z))
  waits_on (suc count) (suc n) z l =
      idle layout h ss edges host fit n 0xaa 0xaa 0 start None all_up []
      (waits_on count n (omega (arith, z)) (omega (arith, l)))
      (none_before_first layout h ss edges host fit n (omega (arith, l))) tt (omega (arith, l))

  -- after the first eighty ticks the keyboard is at rest, and no word is taken yet
  pub at_rest : Rest layout h ss edges host fit 0 []
  at_rest =
      let e : 80 ≡ 80 + 10 * 0 = omega arith in
      record { last = 0xaa; out = 0xaa; is = subst waits_at e (waits_on 15 80 (omega arith) (omega arith)) }
