-- A pulse that ends gives the byte that the end of the capture gave while it was low.
use Rattle.std.proofs.Common.{◌≡◌, ◌<◌, ℕ, ◌+◌, ◌-◌, Bool, true, false, ◌&&◌, ◌==◌, nat_lt, nat_le, length}
use Rattle.std.proofs.Common.{refl, ap, sym, ◌∙◌, arith}
use Rattle.std.proofs.lemmas.Bool.Decides.{nat_tests}
use Rattle.std.specs.Prelude.{if◌then◌else◌}
use Rattle.capture_lines.specs.Captures.{both, listed}
use Rattle.capture_frames.specs.Frames.{Frame, Heard, ended_low, heard, is_begun, is_late, lacks_one}
use Rattle.law_capture_heard.specs.Found.{bytes_in}

none_begun : (f : Frame) → is_begun f ≡ false → length f.bits ≡ 0
none_begun f e = grind (arith, nat_tests, e)

-- a frame without a bit lacks more than one
pub lacks_more : (f : Frame) → is_begun f ≡ false → lacks_one f ≡ false
lacks_more f e = by f.from_host
  where
    by : (b : Bool) → (length f.bits + 1 == (if b then 12 else 11)) ≡ false
    by true = let z : length f.bits ≡ 0 = none_begun f e in grind (arith, nat_tests, z)
    by false = let z : length f.bits ≡ 0 = none_begun f e in grind (arith, nat_tests, z)

-- and isn't late
pub late_is_begun : (fall : ℕ) (f : Frame) → is_begun f ≡ false → is_late fall f ≡ false
late_is_begun fall f e = rw e refl

-- the last level of a frame is read at the fall
last_level : (at_rise at_fall : Bool) (f : Frame) → lacks_one f ≡ true
    → (if f.from_host && nat_lt (length f.bits) 11 then at_rise else at_fall) ≡ at_fall
last_level at_rise at_fall f e = by f.from_host refl
  where
    by : (b : Bool) → f.from_host ≡ b → (if b && nat_lt (length f.bits) 11 then at_rise else at_fall) ≡ at_fall
    by false h = refl
    by true h =
        let z : (length f.bits + 1 == 12) ≡ true = ap (λ (b : Bool). length f.bits + 1 == (if b then 12 else 11)) (sym h) ∙ e in
        let y : nat_lt (length f.bits) 11 ≡ false = grind (arith, nat_tests, z) in
        rw y refl

module _ (fall rise : ℕ) (at_rise : Bool) (f : Frame) where
  abbrev h : Bool → Heard
  h at_fall = heard (record { fall = fall; at_fall = at_fall; rise = rise; at_rise = at_rise }) f

  abbrev IsSame : Bool → Type 0
  IsSame at_fall = bytes_in (both (h at_fall).frame (h at_fall).pulse) ≡ bytes_in (listed (ended_low fall at_fall f))

  by_hold : (at_fall begun late lacks : Bool) → is_begun f ≡ begun → is_late fall f ≡ late → lacks_one f ≡ lacks
      → nat_le (rise - fall) 5000 ≡ false → nat_le 55000 (rise - fall) ≡ true → IsSame at_fall
  by_hold at_fall false late lacks e l k short long = rw (short, long, e) refl
  by_hold at_fall true true lacks e l k short long = rw (short, long, l, e) refl
  by_hold at_fall true false true e l k short long = rw (short, long, l, k, e) refl
  by_hold at_fall true false false e l k short long = rw (short, long, l, k, e) refl

  by_clock : (at_fall begun late lacks : Bool) → is_begun f ≡ begun → is_late fall f ≡ late → lacks_one f ≡ lacks
      → nat_le (rise - fall) 5000 ≡ false → nat_le 55000 (rise - fall) ≡ false → IsSame at_fall
  by_clock true false late lacks e l k short long = rw (short, long, late_is_begun fall f e, e) refl
  by_clock false false late lacks e l k short long = rw (short, long, late_is_begun fall f e, lacks_more f e, e) refl
  by_clock true true true lacks e l k short long = rw (short, long, l, e) refl
  by_clock false true true lacks e l k short long = rw (short, long, l, e) refl
  by_clock at_fall true false true e l k short long = rw (short, long, l, k, e, last_level at_rise at_fall f k) refl
  by_clock at_fall true false false e l k short long = rw (short, long, l, k, e) refl

  -- if it is no glitch
  pub pulse_ends : (at_fall : Bool) → 5000 < rise - fall → IsSame at_fall
  pulse_ends at_fall wide = by (nat_le 55000 (rise - fall)) refl
    where
      short : nat_le (rise - fall) 5000 ≡ false
      short = grind (arith, nat_tests, wide)

      by : (b : Bool) → nat_le 55000 (rise - fall) ≡ b → IsSame at_fall
      by true e = by_hold at_fall (is_begun f) (is_late fall f) (lacks_one f) refl refl refl short e
      by false e = by_clock at_fall (is_begun f) (is_late fall f) (lacks_one f) refl refl refl short e
