-- The self-test of an opened keyboard in the model: nothing passes for 64 ticks, and then AA is sent.
use Rattle.std.proofs.Common.{◌≡◌, ◌≤◌, ◌<◌, inl, ℕ, suc, zero, ◌+◌, ◌-◌, ◌==◌, Bool, true, false}
use Rattle.std.proofs.Common.{[], ◌∷◌, ◌++◌, None, refl, ap, sym, ◌∙◌, subst, arith}
use Rattle.std.proofs.lemmas.Bool.Decides.{nat_tests}
use Rattle.model_controller.specs.declared.UnderWay.{UnderWay}
use Rattle.model_controller.specs.declared.meeting.Meeting.TheVariants.{Idle, Sent}
use Rattle.host_turn.specs.Run.{Side, side_at_start}
use Rattle.model_keyboard.specs.Codes.{keys_of}
use Rattle.model_keyboard.specs.Once.{waiting}
use Rattle.model_keyboard.specs.Tick.{ticked}
use Rattle.model_keyboard.specs.declared.meeting.Meeting.TheVariants as kbd
use Rattle.layout_reader.specs.Layouts.{KeyLayout}
use Rattle.model_link.specs.Expected.{Whole, meeting_from, whole_tick}
use Rattle.model_link.specs.Machine.{LayeredKeyboard, keyboard}
use Rattle.law_quiet_log.specs.Once.{all_arrived, arrived, at_tick, meeting_at}
use Rattle.law_ready_agrees.specs.Opened.{masked_history}
use Rattle.law_ready_agrees.proofs.Testing.{IsStill, at, events, idle, idle_side, none_seen, quiet_still, sent, testing, tests_last, tests_on, ticks_untouched, untouched}

-- the model of an opened keyboard
module _ (layout : KeyLayout) (stamp : ℕ) (starts : ℕ → ℕ) where
  abbrev W : ℕ → Whole LayeredKeyboard
  W n = at_tick layout (masked_history stamp) starts n

  record Tests (aa_due : Bool) (test : ℕ) (w : Whole LayeredKeyboard) : Type 0 where
    keys : w.keys ≡ untouched (testing layout.rate aa_due test)
    side : IsStill None w.side
    shown : w.shown ≡ 0

  is_at : (aa_due : Bool) (test : ℕ) (w : Whole LayeredKeyboard) (t : Tests aa_due test w)
      → w ≡ at stamp layout 0 0 w.side t.side aa_due test
  is_at aa_due test w t =
      ap (λ k. record { keys = k; side = w.side; shown = w.shown }) t.keys
      ∙ ap (λ n. record { keys = untouched (testing layout.rate aa_due test); side = w.side; shown = n }) t.shown

  next_is : (n : ℕ) → W (suc n)
      ≡ whole_tick (keyboard layout) (events stamp) [] (4096 + starts n) (starts (suc n) - starts n - 609) (W n)
  next_is n =
      ap (λ es. whole_tick (keyboard layout) (events stamp) es (4096 + starts n) (starts (suc n) - starts n - 609) (W n))
      (none_seen starts n)

  next : (n m j : ℕ) (aa : Bool) → (m == 0) ≡ false
      → ticked (keys_of layout) kbd.Idle [] (testing layout.rate false m) ≡ testing layout.rate aa j → Tests false m (W n)
      → Tests aa j (W (suc n))
  next n m j aa some goes t =
      let start : ℕ = 4096 + starts n in
      let rest : ℕ = starts (suc n) - starts n - 609 in
      let s : Side UnderWay = (W n).side in
      let here : Whole LayeredKeyboard = at stamp layout start rest s t.side false m in
      let is : W (suc n) ≡ whole_tick (keyboard layout) (events stamp) [] start rest here =
      next_is n ∙ ap (whole_tick (keyboard layout) (events stamp) [] start rest) (is_at false m (W n) t) in
      subst (Tests aa j) (sym is) (record {
        keys = ap (λ b. (keyboard layout).ticked b [] here.keys) (idle stamp layout start rest s t.side m some)
            ∙ ticks_untouched layout Idle (testing layout.rate false m) ∙ ap untouched goes;
        side = idle_side stamp layout start rest s t.side m some;
        shown = refl;
      })

  first : Tests false 64 (W 0)
  first = record {
    keys = refl;
    side = quiet_still stamp None (starts 0) 4096 (side_at_start UnderWay) (inl refl);
    shown = refl;
  }

  tests : (n : ℕ) → n < 64 → Tests false (64 - n) (W n)
  tests zero l = first
  tests (suc n) l =
      let some : (64 - n == 0) ≡ false = grind (arith, nat_tests, l) in
      let more : (64 - n == 1) ≡ false = grind (arith, nat_tests, l) in
      let left : (64 - suc n == 0) ≡ false = grind (arith, nat_tests, l) in
      let less : 64 - n - 1 ≡ 64 - suc n = omega (arith, l) in
      next n (64 - n) (64 - suc n) false some
      (tests_on (keys_of layout) layout.rate (64 - n) (64 - suc n) some more left less) (tests n (omega (arith, l)))

  ended : Tests true 0 (W 64)
  ended = next 63 1 0 true refl (tests_last (keys_of layout) layout.rate) (tests 63 (omega arith))

  meets_idle : (n : ℕ) → n < 64 → meeting_at layout (masked_history stamp) starts n ≡ Idle
  meets_idle n l =
      let t = tests n l in
      let some : (64 - n == 0) ≡ false = grind (arith, nat_tests, l) in
      ap (λ w. meeting_from (keyboard layout) (events stamp) (4096 + starts n) w) (is_at false (64 - n) (W n) t)
      ∙ idle stamp layout (4096 + starts n) 0 (W n).side t.side (64 - n) some

  -- in tick 64 AA is sent
  pub sends_it : meeting_at layout (masked_history stamp) starts 64 ≡ Sent 0xaa
  sends_it =
      ap (λ w. meeting_from (keyboard layout) (events stamp) (4096 + starts 64) w) (is_at true 0 (W 64) ended)
      ∙ sent stamp layout (4096 + starts 64) 0 (W 64).side ended.side

  -- at tick start 64 AA waits, and nothing else
  pub waits_for_it : waiting (W 64).keys.keyboard ≡ 0xaa ∷ []
  waits_for_it = ap (λ (k : LayeredKeyboard). waiting k.keyboard) ended.keys

  -- after it nothing waits
  pub none_waits : waiting (W 65).keys.keyboard ≡ []
  none_waits =
      let start : ℕ = 4096 + starts 64 in
      let rest : ℕ = starts 65 - starts 64 - 609 in
      let here : Whole LayeredKeyboard = at stamp layout start rest (W 64).side ended.side true 0 in
      ap (λ (w : Whole LayeredKeyboard). waiting w.keys.keyboard)
      (next_is 64 ∙ ap (whole_tick (keyboard layout) (events stamp) [] start rest) (is_at true 0 (W 64) ended))
      ∙ ap (λ b. waiting ((keyboard layout).ticked b [] here.keys).keyboard)
      (sent stamp layout start rest (W 64).side ended.side)
      ∙ ap (λ (k : LayeredKeyboard). waiting k.keyboard) (ticks_untouched layout (Sent 0xaa) (testing layout.rate true 0))

  -- so nothing arrives before, and AA in that tick
  none_arrived : (n : ℕ) → n ≤ 64 → all_arrived layout (masked_history stamp) starts 0 n ≡ []
  none_arrived zero l = refl
  none_arrived (suc n) l =
      let same : n + 0 ≡ n = omega arith in
      ap (λ v. v ++ arrived (meeting_at layout (masked_history stamp) starts (n + 0))) (none_arrived n (omega (arith, l)))
      ∙ ap (λ k. arrived (meeting_at layout (masked_history stamp) starts k)) same
      ∙ ap arrived (meets_idle n (omega (arith, l)))

  -- in the first 64 ticks nothing arrives
  pub nothing_before : all_arrived layout (masked_history stamp) starts 0 64 ≡ []
  nothing_before = none_arrived 64 (omega arith)

  -- in the first 65 ticks AA arrives, and nothing else
  pub then_aa : all_arrived layout (masked_history stamp) starts 0 65 ≡ 0xaa ∷ []
  then_aa =
      ap (λ v. v ++ arrived (meeting_at layout (masked_history stamp) starts 64)) nothing_before ∙ ap arrived sends_it
