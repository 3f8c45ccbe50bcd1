-- The timer over a step.
use Rattle.std.proofs.Common.{◌≡◌, ◌*◌, ◌≤◌, ◌<◌, ℕ, ◌+◌, ◌-◌, ◌%◌, Bool, true, false, ◌&&◌, ◌==◌, nat_le, leb, if◌then◌else◌}
use Rattle.std.proofs.Common.{refl, ap, sym, ◌∙◌, subst, arith}
use Rattle.std.proofs.lemmas.Bool.Decides.{nat_tests}
use Rattle.mcs48_core.specs.declared.levels.Pins.{Pins}
use Rattle.mcs48_core.specs.declared.processor.Count.TheVariants.{Timer}
use Rattle.mcs48_core.specs.Cpu.{Cpu}
use Rattle.mcs48_core.specs.Timer.{after_timer}
use Rattle.law_fw_logic.proofs.TimerParts.{TimerParts, timer_parts, total, IsTiming, IsLater, IsAsking}

-- what a step of a running timer leaves, where T counts or not
abbrev pub counted : Bool → ℕ → TimerParts → TimerParts
counted counts c k = record {
  t = if counts then (k.t + 1) % 256 else k.t;
  pre = if counts then k.pre + c - 32 else k.pre + c;
  tf = if counts && (k.t == 255) then true else k.tf;
  rq = if counts && (k.t == 255) && k.tim_on then true else k.rq;
  run = Timer;
  tim_on = k.tim_on;
}

-- a step of a running timer changes its parts as the count of the prescaler says
pub timer_state : (m : Cpu) (c : ℕ) (pins : Pins) → m.run ≡ Timer
    → timer_parts (after_timer m.run c pins m) ≡ counted (nat_le 32 (m.pre + c)) c (timer_parts m)
timer_state m c pins e = ap (λ k. timer_parts (after_timer k c pins (record m { run = k }))) e

-- without an overflow the timer is later by the step's cycles, and asks for nothing new
pub counted_later : (k : TimerParts) (c : ℕ) → IsTiming k → c ≤ 2 → total k + c < 8192 → (b : Bool)
    → nat_le 32 (k.pre + c) ≡ b → IsLater k (counted b c k) 0 c
counted_later k c h few room false is =
    let l : k.pre < 32 = h.pre in
    record {
      count = omega arith;
      timing = record { run = refl; pre = grind (arith, nat_tests, is); t = h.t };
      tf = refl;
      rq = refl;
      tim_on = refl;
    }
counted_later k c h few room true is =
    let l : k.pre < 32 = h.pre in
    let le : 32 ≤ k.pre + c = grind (arith, nat_tests, is) in
    let low : k.t < 255 = omega (arith, room, le) in
    let no : (k.t == 255) ≡ false = grind (arith, nat_tests, low) in
    record {
      count = omega (arith, le, low);
      timing = record { run = refl; pre = omega (arith, l, few); t = omega (arith, low) };
      tf = rw no refl;
      rq = rw no refl;
      tim_on = refl;
    }

-- from a state whose timer is that before the step
pub step_later : (k : TimerParts) (m : Cpu) (c : ℕ) (pins : Pins) (start : ℕ) → timer_parts m ≡ k → IsTiming k → c ≤ 2
    → total k + (start + c) < 8192 + start
    → IsLater k (timer_parts (after_timer m.run c pins m)) start (start + c)
step_later k m c pins start e h few room =
    subst
    (λ j. IsTiming j → total j + (start + c) < 8192 + start
    → IsLater j (timer_parts (after_timer m.run c pins m)) start (start + c)) e
    (λ h room.
    let run : m.run ≡ Timer = h.run in
    let short : total (timer_parts m) + c < 8192 = omega (arith, room) in
    let l = counted_later (timer_parts m) c h few short (nat_le 32 (m.pre + c)) refl in
    subst (λ j. IsLater (timer_parts m) j start (start + c)) (sym (timer_state m c pins run))
    (record {
      count = (let n : total (counted (nat_le 32 (m.pre + c)) c (timer_parts m)) + 0 ≡ total
          (timer_parts m) + c = l.count in omega (arith, n));
      timing = l.timing;
      tf = l.tf;
      rq = l.rq;
      tim_on = l.tim_on;
    }))
    h room

stays_true : (x r : Bool) → r ≡ true → (if x then true else r) ≡ true
stays_true true r h = refl
stays_true false r h = h

-- a step asks if it overflows
pub counted_asks : (k : TimerParts) (c : ℕ) → IsTiming k → k.tim_on ≡ true → c ≤ 2 → (b : Bool)
    → nat_le 32 (k.pre + c) ≡ b → IsAsking k (counted b c k) 0 c
counted_asks k c h on few false is =
    let less : k.pre + c < 32 = grind (arith, nat_tests, is) in
    let low : k.t < 256 = h.t in
    record {
      timing = record { run = refl; pre = less; t = low };
      tim_on = on;
      keeps = λ q. q;
      asks = λ room. absurd (omega (arith, less, low, room));
      counts = (0, omega arith);
    }
counted_asks k c h on few true is =
    let l : k.pre < 32 = h.pre in
    let low : k.t < 256 = h.t in
    record {
      timing = record { run = refl; pre = omega (arith, l, few); t = omega arith };
      tim_on = on;
      keeps = λ q. stays_true ((k.t == 255) && k.tim_on) k.rq q;
      asks = λ room.
          let high : k.t ≡ 255 = omega (arith, room, l, low, few) in
          let full : (k.t == 255) ≡ true = grind (arith, nat_tests, high) in rw (full, on) refl;
      counts = by (k.t == 255) refl;
    }
  where
    by : (full : Bool) → (k.t == 255) ≡ full
        → (overflows : ℕ) × (32 * ((k.t + 1) % 256) + (k.pre + c - 32) + 0 + 8192 * overflows ≡ 32 * k.t + k.pre + c)
    by true e =
        let more : 32 ≤ k.pre + c = grind (arith, nat_tests, is) in
        let high : k.t ≡ 255 = grind (arith, nat_tests, e) in (1, omega (arith, more, high))
    by false e =
        let more : 32 ≤ k.pre + c = grind (arith, nat_tests, is) in
        let low : k.t < 256 = h.t in
        let less : k.t < 255 = grind (arith, nat_tests, e, low) in (0, omega (arith, more, less))

-- a step of at most two cycles counts the timer on, and an overflow asks for the interrupt
pub step_asks : (k : TimerParts) (m : Cpu) (c : ℕ) (pins : Pins) (start : ℕ) → timer_parts m ≡ k → IsTiming k
    → k.tim_on ≡ true → c ≤ 2 → IsAsking k (timer_parts (after_timer m.run c pins m)) start (start + c)
step_asks k m c pins start e h on few =
    subst
    (λ j. IsTiming j → j.tim_on ≡ true → IsAsking j (timer_parts (after_timer m.run c pins m)) start (start + c)) e
    (λ h on.
    let run : m.run ≡ Timer = h.run in
    let a = counted_asks (timer_parts m) c h on few (nat_le 32 (m.pre + c)) refl in
    subst (λ j. IsAsking (timer_parts m) j start (start + c)) (sym (timer_state m c pins run))
    (record {
      timing = a.timing;
      tim_on = a.tim_on;
      keeps = a.keeps;
      asks = λ room. a.asks (omega (arith, room));
      counts =
          let n : ℕ = a.counts.0 in
          let count : total (counted (nat_le 32 (m.pre + c)) c (timer_parts m)) + 0 + 8192 * n ≡ total (timer_parts m) + c =
          a.counts.1 in
          (n, omega (arith, count));
    }))
    h on

-- two spans of the timer, one after the other, are one: an overflow in either asks, and goes on asking
pub asking_then : (k e f : TimerParts) (a b c : ℕ) → (total k + b < 8192 + a → IsLater k e a b) → IsAsking k e a b
    → IsAsking e f b c → IsAsking k f a c
asking_then k e f a b c later h g =
    record {
      timing = g.timing;
      tim_on = g.tim_on;
      keeps = λ q. g.keeps (h.keeps q);
      asks = λ room. by room (leb (8192 + a) (total k + b)) refl;
      counts =
          let m : ℕ = h.counts.0 in
          let n : ℕ = g.counts.0 in
          let one : total e + a + 8192 * m ≡ total k + b = h.counts.1 in
          let two : total f + b + 8192 * n ≡ total e + c = g.counts.1 in
          (m + n, omega (arith, one, two));
    }
  where
    by : 8192 + a ≤ total k + c → (x : Bool) → leb (8192 + a) (total k + b) ≡ x → f.rq ≡ true
    by room true x = g.keeps (h.asks (grind (arith, nat_tests, x)))
    by room false x =
        let l = later (grind (arith, nat_tests, x)) in
        let count : total e + a ≡ total k + b = l.count in g.asks (omega (arith, count, room))

-- two spans without an overflow, one after the other, are one
pub later_then : (k e f : TimerParts) (a b c : ℕ) → IsLater k e a b → IsLater e f b c → IsLater k f a c
later_then k e f a b c h g =
    let l1 : total e + a ≡ total k + b = h.count in
    let l2 : total f + b ≡ total e + c = g.count in
    record {
      count = omega (arith, l1, l2);
      timing = g.timing;
      tf = g.tf ∙ h.tf;
      rq = g.rq ∙ h.rq;
      tim_on = g.tim_on ∙ h.tim_on;
    }
