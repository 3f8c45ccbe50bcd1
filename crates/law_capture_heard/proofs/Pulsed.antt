-- What a pulse makes of the frame under way, by its width.
use Rattle.std.proofs.Common.{◌≡◌, ◌≤◌, ℕ, suc, ◌+◌, ◌-◌, Bool, true, false, not, ◌&&◌, ◌==◌, nat_lt, nat_le, [], ◌∷◌, ◌++◌, length}
use Rattle.std.proofs.Common.{None, refl, ap, ◌∙◌, arith, length-append}
use Rattle.std.proofs.lemmas.Bool.Decides.{nat_tests}
use Rattle.std.specs.Prelude.{if◌then◌else◌}
use Rattle.capture_frames.specs.declared.finding.Finding.TheVariants.{Byte, Glitch, Stray}
use Rattle.capture_frames.specs.Frames.{Frame, asked, edges, heard, heard_bit, heard_high, heard_hold, is_begun, is_late, lacks_one, of_frame, of_pulse, silent, too_few, whole, with_bit}
use Rattle.law_capture_heard.proofs.WhileHigh.{IsKept, high_edges, high_kept, kept_high, silent_kept}

-- the frame that is left
abbrev pub left_by : ℕ → Bool → ℕ → Bool → Frame → Frame
left_by fall at_fall rise at_rise f =
    (heard (record { fall = fall; at_fall = at_fall; rise = rise; at_rise = at_rise }) f).left

module _ (fall : ℕ) (at_fall : Bool) (rise : ℕ) (at_rise : Bool) (f : Frame) where
  -- by what is tested of the pulse, and by its bit
  abbrev pub left_if : Bool → Bool → Bool → Bool → Bool → Bool → Frame
  left_if glitch hold late stray lacks bit =
      (if glitch
      then record (heard_high at_rise f) {
        pulse = of_pulse (record { fall = fall; at_fall = at_fall; rise = rise; at_rise = at_rise }) Glitch;
      }
      else (if hold then heard_hold (record { fall = fall; at_fall = at_fall; rise = rise; at_rise = at_rise }) f
      else (if late
      then record (heard_bit (record { fall = fall; at_fall = at_fall; rise = rise; at_rise = at_rise }) silent) {
        frame = of_frame f (too_few f);
      }
      else (if stray
      then record {
        left = silent;
        frame = None;
        pulse = of_pulse (record { fall = fall; at_fall = at_fall; rise = rise; at_rise = at_rise }) Stray;
      }
      else (if lacks
      then record { left = silent; frame = of_frame f (Byte (whole bit f)); pulse = None }
      else record { left = with_bit fall bit f; frame = None; pulse = None }))))).left

  -- what is left, once these are known
  pub left_is : (glitch hold late stray lacks bit : Bool) → nat_le (rise - fall) 5000 ≡ glitch → nat_le 55000 (rise - fall) ≡ hold
      → is_late fall f ≡ late → (not (is_begun f) && at_fall) ≡ stray → lacks_one f ≡ lacks
      → (if f.from_host && nat_lt (length f.bits) 11 then at_rise else at_fall) ≡ bit
      → left_by fall at_fall rise at_rise f ≡ left_if glitch hold late stray lacks bit
  left_is glitch hold late stray lacks bit g h l s k b =
      let bit0 : Bool = if f.from_host && nat_lt (length f.bits) 11 then at_rise else at_fall in
      ap (λ c. left_if c (nat_le 55000 (rise - fall)) (is_late fall f) (not (is_begun f) && at_fall) (lacks_one f) bit0) g
      ∙ ap (λ c. left_if glitch c (is_late fall f) (not (is_begun f) && at_fall) (lacks_one f) bit0) h
      ∙ ap (λ c. left_if glitch hold c (not (is_begun f) && at_fall) (lacks_one f) bit0) l
      ∙ ap (λ c. left_if glitch hold late c (lacks_one f) bit0) s
      ∙ ap (λ c. left_if glitch hold late stray c bit0) k
      ∙ ap (left_if glitch hold late stray lacks) b

  -- a hold leaves a request, if data is low then, or nothing
  pub hold_leaves : 55000 ≤ rise - fall → left_by fall at_fall rise at_rise f ≡ (if at_rise then silent else asked rise)
  hold_leaves long =
      let short : nat_le (rise - fall) 5000 ≡ false = grind (arith, nat_tests, long) in
      let hold : nat_le 55000 (rise - fall) ≡ true = grind (arith, nat_tests, long) in
      left_is false true (is_late fall f) (not (is_begun f) && at_fall) (lacks_one f)
      (if f.from_host && nat_lt (length f.bits) 11 then at_rise else at_fall) short hold refl refl refl refl

  more_edges : (bit : Bool) → edges (with_bit fall bit f) ≤ suc (edges f)
  more_edges bit = by f.from_host
    where
      longer : length (f.bits ++ bit ∷ []) ≡ length f.bits + 1
      longer = length-append f.bits (bit ∷ [])

      by : (b : Bool) → (if b then length (f.bits ++ bit ∷ []) - 1 else length (f.bits ++ bit ∷ []))
          ≤ suc (if b then length f.bits - 1 else length f.bits)
      by true = omega (arith, longer)
      by false = omega (arith, longer)

  held_edges : (b : Bool) → edges (if b then silent else asked rise) ≤ suc (edges f)
  held_edges true = omega arith
  held_edges false = omega arith

  late_edges : (b : Bool)
      → edges (heard_bit (record { fall = fall; at_fall = b; rise = rise; at_rise = at_rise }) silent).left ≤ suc (edges f)
  late_edges true = omega arith
  late_edges false = omega arith

  by_tests : (glitch hold late stray lacks bit : Bool) → edges (left_if glitch hold late stray lacks bit) ≤ suc (edges f)
  by_tests true hold late stray lacks bit =
      let few : edges (heard_high at_rise f).left ≤ edges f = high_edges at_rise f in omega (arith, few)
  by_tests false true late stray lacks bit = held_edges at_rise
  by_tests false false true stray lacks bit = late_edges at_fall
  by_tests false false false true lacks bit = omega arith
  by_tests false false false false true bit = omega arith
  by_tests false false false false false bit = more_edges bit

  -- a pulse is one more edge at most
  pub one_more : edges (left_by fall at_fall rise at_rise f) ≤ suc (edges f)
  one_more =
      by_tests (nat_le (rise - fall) 5000) (nat_le 55000 (rise - fall)) (is_late fall f) (not (is_begun f) && at_fall) (lacks_one f)
      (if f.from_host && nat_lt (length f.bits) 11 then at_rise else at_fall)

  -- what is gathered is no bare request: the host's frame has its start bit before it
  more_kept : (bit : Bool) → (f.from_host ≡ true → is_begun f ≡ true) → IsKept (record { clk = true; dat = at_rise }) (with_bit fall bit f)
  more_kept bit start =
      kept_high at_rise (with_bit fall bit f) (λ host. grind (arith, nat_tests, longer)) (by f.from_host refl)
    where
      longer : length (f.bits ++ bit ∷ []) ≡ length f.bits + 1
      longer = length-append f.bits (bit ∷ [])

      by : (b : Bool) → f.from_host ≡ b → (b && (length (f.bits ++ bit ∷ []) == 1)) ≡ false
      by false e = refl
      by true e = let some : nat_lt 0 (length f.bits) ≡ true = start e in grind (arith, nat_tests, longer, some)

  held_kept : (b : Bool) → IsKept (record { clk = true; dat = b }) (if b then silent else asked rise)
  held_kept true = silent_kept true
  held_kept false = record { start = λ e. refl; taken = refl }

  late_kept : (b : Bool)
      → IsKept (record { clk = true; dat = at_rise })
      (heard_bit (record { fall = fall; at_fall = b; rise = rise; at_rise = at_rise }) silent).left
  late_kept true = silent_kept at_rise
  late_kept false = kept_high at_rise (with_bit fall false silent) (λ e. absurd cc) refl

  kept_by : (glitch hold late stray lacks bit : Bool) → (f.from_host ≡ true → is_begun f ≡ true)
      → IsKept (record { clk = true; dat = at_rise }) (left_if glitch hold late stray lacks bit)
  kept_by true hold late stray lacks bit start = high_kept at_rise f start
  kept_by false true late stray lacks bit start = held_kept at_rise
  kept_by false false true stray lacks bit start = late_kept at_fall
  kept_by false false false true lacks bit start = silent_kept at_rise
  kept_by false false false false true bit start = silent_kept at_rise
  kept_by false false false false false bit start = more_kept bit start

  -- after a pulse the frame is no bare request, if data is high
  pub pulse_kept : (f.from_host ≡ true → is_begun f ≡ true)
      → IsKept (record { clk = true; dat = at_rise }) (left_by fall at_fall rise at_rise f)
  pulse_kept =
      kept_by (nat_le (rise - fall) 5000) (nat_le 55000 (rise - fall)) (is_late fall f) (not (is_begun f) && at_fall) (lacks_one f)
      (if f.from_host && nat_lt (length f.bits) 11 then at_rise else at_fall)
