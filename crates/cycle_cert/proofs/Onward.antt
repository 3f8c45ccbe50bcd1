-- A run that goes on after another: certificates that follow one another.
use Rattle.std.proofs.Common.{◌≡◌, ◌≤◌, ◌<◌, ℕ, zero, suc, ◌+◌, ◌*◌, List, Some, None, refl, ap, ◌∙◌, subst, arith}
use Rattle.std.proofs.Math.Nat.{mul-le-mul_left}
use Rattle.std.specs.declared.option.Option.{Option}
use Rattle.mcs48_core.specs.declared.levels.Pins.{Pins}
use Rattle.mcs48_core.specs.Cpu.{Cpu}
use Rattle.mcs48_core.specs.Registers.{register}
use Rattle.mcs48_core.specs.Step.{Stepped, stepped}
use Rattle.mcs48_ranges.proofs.Parts.{register_byte}
use Rattle.cycle_cert.specs.declared.bound.Bound.{Bound}
use Rattle.cycle_cert.specs.Bounds.{weight, cycles_at, most_cycles}
use Rattle.cycle_cert.specs.Certificates.{bound_in}
use Rattle.cycle_cert.specs.Following.{FollowLaw}
use Rattle.cycle_cert.specs.Runs.{ArePins, run, later, ComesTo}
use Rattle.cycle_cert.proofs.FallsLemmas.{weight_most}

-- the pins from a later step on
abbrev past_pins : ℕ → (ℕ → Pins) → ℕ → Pins
past_pins zero pins i = pins i
past_pins (suc n) pins i = past_pins n (λ j. pins (suc j)) i

past_levels : (n : ℕ) (pins : ℕ → Pins) → ((i : ℕ) → ArePins (pins i)) → (i : ℕ) → ArePins (past_pins n pins i)
past_levels zero pins levels i = levels i
past_levels (suc n) pins levels i = past_levels n (λ j. pins (suc j)) (λ j. levels (suc j)) i

later_twice : (c d : ℕ) (o : Option Stepped) → later c (later d o) ≡ later (c + d) o
later_twice c d None = refl
later_twice c d (Some e) = ap (λ n. Some (record { cpu = e.cpu; cycles = n })) (omega arith)

later_none : (o : Option Stepped) → o ≡ later 0 o
later_none None = refl
later_none (Some e) = ap (λ n. Some (record { cpu = e.cpu; cycles = n })) (omega arith)

later_some : (c : ℕ) (o : Option Stepped) (mid : Stepped) → later c o ≡ Some mid
    → (e : Stepped) × (o ≡ Some e) × (e.cpu ≡ mid.cpu) × (c + e.cycles ≡ mid.cycles)
later_some c None mid is = absurd cc
later_some c (Some e) mid is =
    let s : record { cpu = e.cpu; cycles = c + e.cycles } ≡ mid = cc in
    (e, refl, ap (λ (x : Stepped). x.cpu) s, ap (λ (x : Stepped). x.cycles) s)

-- a step, and what goes on after it
step_on : (bytes : List ℕ) (n k : ℕ) (pins : ℕ → Pins) (mid : Stepped)
    → ((next e : Stepped) → run n bytes (λ i. pins (suc i)) next.cpu ≡ Some e
    → run (n + k) bytes (λ i. pins (suc i)) next.cpu
    ≡ later e.cycles (run k bytes (past_pins n (λ i. pins (suc i))) e.cpu))
    → (o : Option Stepped)
    → (elim o as (λ _. Option Stepped) [
      | None ↦ None
      | Some next ↦ later next.cycles (run n bytes (λ i. pins (suc i)) next.cpu)
    ])
    ≡ Some mid
    → (elim o as (λ _. Option Stepped) [
      | None ↦ None
      | Some next ↦ later next.cycles (run (n + k) bytes (λ i. pins (suc i)) next.cpu)
    ])
    ≡ later mid.cycles (run k bytes (past_pins n (λ i. pins (suc i))) mid.cpu)
step_on bytes n k pins mid goes None is = absurd cc
step_on bytes n k pins mid goes (Some next) is =
    let onward = λ (m : Cpu). run k bytes (past_pins n (λ i. pins (suc i))) m in
    let s = later_some next.cycles (run n bytes (λ i. pins (suc i)) next.cpu) mid is in
    ap (later next.cycles) (goes next s.0 s.1)
    ∙ (later_twice next.cycles s.0.cycles (onward s.0.cpu)
    ∙ (ap (λ c. later c (onward s.0.cpu)) s.3 ∙ ap (λ m. later mid.cycles (onward m)) s.2))

-- steps after steps
run_on : (bytes : List ℕ) (n k : ℕ) (pins : ℕ → Pins) (m : Cpu) (mid : Stepped) → run n bytes pins m ≡ Some mid
    → run (n + k) bytes pins m ≡ later mid.cycles (run k bytes (past_pins n pins) mid.cpu)
run_on bytes zero k pins m mid is =
    let here : record { cpu = m; cycles = 0 } ≡ mid = cc in
    let none : 0 + k ≡ k = omega arith in
    subst (λ (e : Stepped). run (0 + k) bytes pins m ≡ later e.cycles (run k bytes pins e.cpu)) here
    (ap (λ j. run j bytes pins m) none ∙ later_none (run k bytes pins m))
run_on bytes (suc n) k pins m mid is =
    let more : suc n + k ≡ suc (n + k) = omega arith in
    ap (λ j. run j bytes pins m) more
    ∙ step_on bytes n k pins mid (λ next e goes. run_on bytes n k (λ i. pins (suc i)) next.cpu e goes)
    (stepped bytes (pins 0) m) is

most : (b : Bound) (v : ℕ) → v < 256 → cycles_at b v ≤ most_cycles b
most b v below =
    let m : b.factor * weight v ≤ b.factor * 256 = mul-le-mul_left b.factor (weight_most v below) in omega (arith, m)

-- if one certificate's target is a certified place of another, a run reaches the second's target within both bounds
pub follows : FollowLaw
follows bytes first second one two m pins bound next range plain levels here there =
    let a : ComesTo bytes pins m first.target (cycles_at bound (register bound.register m)) =
    one m pins bound range plain levels here in
    let b : ComesTo bytes (past_pins (suc a.more) pins) a.end.cpu second.target
    (cycles_at next (register next.register a.end.cpu)) =
    two a.end.cpu (past_pins (suc a.more) pins) next a.fine a.plain (past_levels (suc a.more) pins levels)
    (ap (bound_in second.entries) a.there ∙ there) in
    let all : suc (a.more + suc b.more) ≡ suc a.more + suc b.more = omega arith in
    let left : a.end.cycles ≤ cycles_at bound (register bound.register m) = a.within in
    let right : b.end.cycles ≤ cycles_at next (register next.register a.end.cpu) = b.within in
    let greatest : cycles_at next (register next.register a.end.cpu) ≤ most_cycles next =
    most next (register next.register a.end.cpu) (register_byte next.register a.end.cpu a.fine) in
    record {
      more = a.more + suc b.more;
      end = record { cpu = b.end.cpu; cycles = a.end.cycles + b.end.cycles };
      comes = ap (λ j. run j bytes pins m) all
          ∙ (run_on bytes (suc a.more) (suc b.more) pins m a.end a.comes ∙ ap (later a.end.cycles) b.comes);
      there = b.there;
      within = omega (arith, left, right, greatest);
      plain = b.plain;
      fine = b.fine;
    }
