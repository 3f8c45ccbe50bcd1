-- The frame that a listener gathers in eleven cells, pulse by pulse, and the byte that it is.
use Rattle.std.proofs.Common.{◌≡◌, ◌≤◌, ◌<◌, ℕ, zero, suc, ◌+◌, ◌-◌, ◌*◌, Bool, true, false, not, ◌&&◌, ◌==◌, nat_lt, nat_le, [], ◌∷◌, ◌++◌, length}
use Rattle.std.proofs.Common.{None, Some, refl, ap, ◌∙◌, arith, length-append}
use Rattle.std.proofs.lemmas.Bool.Decides.{nat_tests}
use Rattle.std.specs.Prelude.{if◌then◌else◌}
use Rattle.std.specs.declared.option.Option.{Option}
use Rattle.capture_frames.specs.declared.finding.Finding.TheVariants.{Byte}
use Rattle.capture_frames.specs.declared.finding.Timed.{Timed}
use Rattle.capture_frames.specs.Frames.{Frame, asked, ended_low, is_begun, is_late, is_request, lacks_one, of_frame, silent, too_few, unfinished, whole, with_bit}
use Rattle.law_capture_heard.proofs.Pulsed.{left_by, left_is}

-- before the first edge: the controller asked when it let the clock go, or nothing is under way
abbrev pub first_frame : Bool → ℕ → Frame
first_frame by_host let_go = if by_host then asked (2500 * let_go) else silent

-- the time of the fall of a cell
abbrev pub fall_at : ℕ → ℕ → ℕ
fall_at x cell = 2500 * (x + (290 + 32 * cell))

-- after the pulses of so many cells
abbrev pub gathered : Frame → ℕ → (ℕ → Bool) → ℕ → Frame
gathered first x dat zero = first
gathered first x dat (suc c) = with_bit (fall_at x c) (dat c) (gathered first x dat c)

module _ (x let_go : ℕ) (dat : ℕ → Bool) (by_host : Bool) where
  abbrev g : ℕ → Frame
  g c = gathered (first_frame by_host let_go) x dat c

  sender : (c : ℕ) → (g c).from_host ≡ by_host
  sender zero = by by_host
    where
      by : (b : Bool) → (first_frame b let_go).from_host ≡ b
      by true = refl
      by false = refl
  sender (suc c) = sender c

  many : (c : ℕ) → length (g c).bits ≡ (if by_host then 1 else 0) + c
  many zero = by by_host
    where
      by : (b : Bool) → length (first_frame b let_go).bits ≡ (if b then 1 else 0) + 0
      by true = refl
      by false = refl
  many (suc c) =
      let longer : length ((g c).bits ++ dat c ∷ []) ≡ length (g c).bits + 1 = length-append (g c).bits (dat c ∷ []) in
      let before : length (g c).bits ≡ (if by_host then 1 else 0) + c = many c in
      omega (arith, longer, before)

  -- after an edge it is no bare request
  pub no_request : (c : ℕ) → is_request (g (suc c)) ≡ false
  no_request c =
      ap (λ (b : Bool). b && (length (g (suc c)).bits == 1)) (sender (suc c)) ∙ ap (λ m. by_host && (m == 1)) (many (suc c)) ∙ by by_host
    where
      by : (b : Bool) → (b && ((if b then 1 else 0) + suc c == 1)) ≡ false
      by true = grind (arith, nat_tests)
      by false = refl

  -- no edge is late
  not_late : (c : ℕ) → is_late (fall_at x c) (g c) ≡ false
  not_late zero = by by_host
    where
      by : (b : Bool) → is_late (fall_at x 0) (first_frame b let_go) ≡ false
      by true = refl
      by false = refl
  not_late (suc c) =
      let near : fall_at x (suc c) - fall_at x c ≡ 80000 = omega arith in
      let e : nat_lt 400000 (fall_at x (suc c) - fall_at x c) ≡ false = grind (arith, nat_tests, near) in
      by (is_begun (g (suc c))) (is_request (g (suc c))) e
    where
      by : (a b : Bool) → nat_lt 400000 (fall_at x (suc c) - fall_at x c) ≡ false
          → (a && not b && nat_lt 400000 (fall_at x (suc c) - fall_at x c)) ≡ false
      by true true e = refl
      by true false e = e
      by false b e = refl

  lacks : (c : ℕ) → c ≤ 10 → lacks_one (g c) ≡ (c == 10)
  lacks c few =
      let n : length (g c).bits ≡ (if by_host then 1 else 0) + c = many c in
      ap (λ (b : Bool). length (g c).bits + 1 == (if b then 12 else 11)) (sender c)
      ∙ ap (λ m. m + 1 == (if by_host then 12 else 11)) n ∙ by by_host
    where
      by : (b : Bool) → ((if b then 1 else 0) + c + 1 == (if b then 12 else 11)) ≡ (c == 10)
      by true = grind (arith, nat_tests)
      by false = grind (arith, nat_tests)

  begun : (c : ℕ) → is_begun (g (suc c)) ≡ true
  begun c = let n : length (g (suc c)).bits ≡ (if by_host then 1 else 0) + suc c = many (suc c) in grind (arith, nat_tests, n)

  began : (c : ℕ) → (g (suc c)).began ≡ (if by_host then 2500 * let_go else fall_at x 0)
  began zero = by by_host
    where
      by : (b : Bool) → (with_bit (fall_at x 0) (dat 0) (first_frame b let_go)).began ≡ (if b then 2500 * let_go else fall_at x 0)
      by true = refl
      by false = refl
  began (suc c) = ap (λ (b : Bool). if b then (g (suc c)).began else fall_at x (suc c)) (begun c) ∙ began c

  -- the first edge of the keyboard's is a start bit
  abbrev Starts : Type 0
  Starts = by_host ≡ false → dat 0 ≡ false

  no_stray : (c : ℕ) → Starts → (not (is_begun (g c)) && dat c) ≡ false
  no_stray zero h = by by_host h
    where
      by : (b : Bool) → (b ≡ false → dat 0 ≡ false) → (not (is_begun (first_frame b let_go)) && dat 0) ≡ false
      by true h = refl
      by false h = h refl
  no_stray (suc c) h = ap (λ b. not b && dat (suc c)) (begun c)

  -- the bit of a pulse
  bit_is : (c : ℕ) (at_rise : Bool) → (by_host ≡ true → at_rise ≡ dat c)
      → (if (g c).from_host && nat_lt (length (g c).bits) 11 then at_rise else dat c) ≡ dat c
  bit_is c at_rise h =
      ap (λ (b : Bool). if b && nat_lt (length (g c).bits) 11 then at_rise else dat c) (sender c) ∙ by by_host h
      (nat_lt (length (g c).bits) 11)
    where
      by : (b : Bool) → (b ≡ true → at_rise ≡ dat c) → (m : Bool) → (if b && m then at_rise else dat c) ≡ dat c
      by true h true = h refl
      by true h false = refl
      by false h m = refl

  module _ (starts : Starts) where
    -- each pulse but the eleventh is a bit more
    pub one_more_bit : (c : ℕ) → c < 10 → (rise : ℕ) (at_rise : Bool) → rise - fall_at x c ≡ 40000
        → (by_host ≡ true → at_rise ≡ dat c) → left_by (fall_at x c) (dat c) rise at_rise (g c) ≡ g (suc c)
    one_more_bit c few rise at_rise width same =
        let short : nat_le (rise - fall_at x c) 5000 ≡ false = grind (arith, nat_tests, width) in
        let hold : nat_le 55000 (rise - fall_at x c) ≡ false = grind (arith, nat_tests, width) in
        let not_ten : (c == 10) ≡ false = grind (arith, nat_tests, few) in
        left_is (fall_at x c) (dat c) rise at_rise (g c) false false false false false (dat c) short hold (not_late c)
        (no_stray c starts) (lacks c (omega (arith, few)) ∙ not_ten) (bit_is c at_rise same)

    -- which ends the frame
    pub nothing_left : (rise : ℕ) (at_rise : Bool) → rise - fall_at x 10 ≡ 40000
        → left_by (fall_at x 10) (dat 10) rise at_rise (g 10) ≡ silent
    nothing_left rise at_rise width =
        let short : nat_le (rise - fall_at x 10) 5000 ≡ false = grind (arith, nat_tests, width) in
        let hold : nat_le 55000 (rise - fall_at x 10) ≡ false = grind (arith, nat_tests, width) in
        left_is (fall_at x 10) (dat 10) rise at_rise (g 10) false false false false true
        (if (g 10).from_host && nat_lt (length (g 10).bits) 11 then at_rise else dat 10) short hold (not_late 10)
        (no_stray 10 starts) (lacks 10 (omega arith)) refl

    abbrev end_if : Bool → Bool → Bool → Option Timed
    end_if begun late lacks =
        if not begun then None
        else (if late then of_frame (g 10) (too_few (g 10))
        else (if lacks then of_frame (g 10) (Byte (whole (dat 10) (g 10))) else of_frame (g 10) (unfinished (g 10))))

    -- as its edge does, if the clock stays low
    pub last_edge : ended_low (fall_at x 10) (dat 10) (g 10)
        ≡ Some (record {
          time = if by_host then 2500 * let_go else fall_at x 0;
          finding = Byte (whole (dat 10) (g 10));
        })
    last_edge =
        ap (λ b. end_if b (is_late (fall_at x 10) (g 10)) (lacks_one (g 10))) (begun 9)
        ∙ ap (λ b. end_if true b (lacks_one (g 10))) (not_late 10)
        ∙ ap (end_if true false) (lacks 10 (omega arith))
        ∙ ap (λ (t : ℕ). Some (record { time = t; finding = Byte (whole (dat 10) (g 10)) })) (began 9)
