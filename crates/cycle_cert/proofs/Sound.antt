-- A certificate without a fault keeps its bounds: by induction on the bound.
use Rattle.std.proofs.Common.{◌≡◌, ◌≤◌, ◌<◌, ℕ, zero, suc, ◌+◌, ◌%◌, List, [], ◌∷◌, Bool, true, false, ◌&&◌, ◌==◌, leb}
use Rattle.std.proofs.Common.{if◌then◌else◌, Some, None, is_some, All, get_or, refl, ◌∙◌, ap, subst, arith}
use Rattle.std.proofs.lemmas.Bool.Decides.{nat_tests}
use Rattle.std.specs.List.{list_all}
use Rattle.std.specs.declared.option.Option.{Option}
use Rattle.mcs48_isa.specs.declared.operation.Decoded.{Decoded}
use Rattle.mcs48_isa.specs.Table.{row_of}
use Rattle.mcs48_core.specs.declared.levels.Pins.{Pins}
use Rattle.mcs48_core.specs.Cpu.{Cpu}
use Rattle.mcs48_core.specs.Registers.{past, register}
use Rattle.mcs48_core.specs.Timer.{after_timer}
use Rattle.mcs48_core.specs.Step.{Stepped, effect, row_at, executed, stepped}
use Rattle.first_fault.specs.FirstFault.{Fault}
use Rattle.cycle_cert.specs.declared.bound.Bound.{Bound}
use Rattle.cycle_cert.specs.declared.certificate.Entry.{Entry}
use Rattle.cycle_cert.specs.declared.falling.Passage.{Passage}
use Rattle.cycle_cert.specs.declared.fault.Rule.{Rule}
use Rattle.cycle_cert.specs.declared.rows.Way.{Way}
use Rattle.cycle_cert.specs.Bounds.{byte_values, cycles_at, nothing_left}
use Rattle.cycle_cert.specs.Rows.{is_certifiable, fits, ways, values_after}
use Rattle.cycle_cert.specs.Falling.{values_beside, falls_at, falls}
use Rattle.mcs48_ranges.specs.Sizes.{IsByte, IsFine}
use Rattle.cycle_cert.specs.Runs.{ArePins, IsPlain, run, later, ComesTo}
use Rattle.cycle_cert.specs.Certificates.{Certificate, bound_in, bound_at, passage, is_known, way_falls}
use Rattle.cycle_cert.specs.Certificates.{ways_fault, row_fault, place_fault, first_fault, Keeps}
use Rattle.bits.proofs.Every.{both}
use Rattle.cycle_cert.proofs.Values.{at_value}
use Rattle.mcs48_ranges.proofs.Rows.{Regular, row_regular}
use Rattle.mcs48_ranges.proofs.Parts.{read_byte, register_byte, past_fine}
use Rattle.mcs48_ranges.proofs.Flow.{effect_fine}
use Rattle.mcs48_ranges.proofs.Steps.{timer_fine}
use Rattle.cycle_cert.proofs.Given.{value_left}
use Rattle.cycle_cert.proofs.Places.{Takes, takes, values_of}
use Rattle.cycle_cert.proofs.Plain.{effect_plain, step_executes}

-- what is asked at the values that the registers have
falls_here : (p : Passage) (first second left : ℕ) → falls p ≡ true → first < 256 → second < 256
    → (p.before.register ≡ p.after.register → first ≡ second)
    → fits p.when p.before.register first ≡ true → fits p.when p.after.register second ≡ true
    → ((test : ℕ → Bool) → list_all test (values_after p.op p.after.register second) ≡ true → test left ≡ true)
    → cycles_at p.after left + p.cycles ≤ cycles_at p.before first
unfolding falls
falls_here p first second left f a b same o1 o2 any =
    let one : list_all (falls_at p first) (values_beside p.before.register first p.after.register) ≡ true =
    at_value (λ v. list_all (falls_at p v) (values_beside p.before.register v p.after.register)) first f a in
    let two : falls_at p first second ≡ true = beside (p.before.register == p.after.register) refl one in
    let test = λ (l : ℕ). leb (cycles_at p.after l + p.cycles) (cycles_at p.before first) in
    let three : list_all test (values_after p.op p.after.register second) ≡ true = rw (o1, o2) at two in
    let four : leb (cycles_at p.after left + p.cycles) (cycles_at p.before first) ≡ true = any test three in
    grind (arith, nat_tests, four)
  where
    beside : (k : Bool) → (p.before.register == p.after.register) ≡ k
        → list_all (falls_at p first) (if k then first ∷ [] else byte_values) ≡ true → falls_at p first second ≡ true
    beside true e h =
        let is : p.before.register ≡ p.after.register = grind (arith, nat_tests, e) in
        let s : first ≡ second = same is in
        let t : falls_at p first first ≡ true = (both (falls_at p first first) true h).0 in
        subst (λ v. falls_at p first v ≡ true) s t
    beside false e h = at_value (falls_at p first) second h b

same_row : (bytes : List ℕ) (pc : ℕ) → row_at bytes (pc % 2048) ≡ row_at bytes pc
same_row bytes pc =
    let a : pc % 2048 % 2048 ≡ pc % 2048 = omega arith in
    let b : (pc % 2048 + 1) % 2048 ≡ (pc + 1) % 2048 = omega arith in
    ap (λ k. row_of (get_or bytes k 0) (get_or bytes ((pc % 2048 + 1) % 2048) 0)) a
    ∙ ap (λ k. row_of (get_or bytes (pc % 2048) 0) (get_or bytes k 0)) b

ways_clear : (a b : Bool) (x y : Rule) → (if a then (if b then None else Some x) else Some y) ≡ None → (a ≡ true) × (b ≡ true)
ways_clear true true x y e = (refl, refl)
ways_clear true false x y e = absurd cc
ways_clear false b x y e = absurd cc

row_clear : (a : Bool) (o : Option Rule) (x : Rule) → (if a then o else Some x) ≡ None → (a ≡ true) × (o ≡ None)
row_clear true o x e = (refl, e)
row_clear false o x e = absurd cc

all_both : (p q : Way → Bool) (xs : List Way) → list_all p xs ≡ true → list_all q xs ≡ true → list_all (λ x. p x && q x) xs ≡ true
all_both p q [] a b = refl
all_both p q (x ∷ xs) a b =
    let s = both (p x) (list_all p xs) a in
    let t = both (q x) (list_all q xs) b in
    let more = all_both p q xs s.1 t.1 in
    let here : p x ≡ true = s.0 in
    let here' : q x ≡ true = t.0 in
    rw (here, here', more) refl

found_by : (bytes : List ℕ) (cert : Certificate) (x : Entry) (es : List Entry) (p : ℕ) (b : Bound)
    → (first_fault bytes cert es ≡ None → bound_in es p ≡ Some b → place_fault bytes cert p b ≡ None)
    → (o : Option Rule) (k : Bool) → place_fault bytes cert x.place x.bound ≡ o → (x.place == p) ≡ k
    → (elim o as (λ v. Option (Fault Rule))
    [ Some rule ↦ Some (record { item = x.line; rule = rule }) | None ↦ first_fault bytes cert es ]) ≡ None
    → (if k then Some x.bound else bound_in es p) ≡ Some b → place_fault bytes cert p b ≡ None
found_by bytes cert x es p b rest (Some rule) k f h c e = absurd cc
found_by bytes cert x es p b rest None true f h c e =
    let s : x.place ≡ p = grind (arith, nat_tests, h) in
    let t : x.bound ≡ b = cc in
    subst (λ q. place_fault bytes cert q b ≡ None) s (subst (λ v. place_fault bytes cert x.place v ≡ None) t f)
found_by bytes cert x es p b rest None false f h c e = rest c e

-- a certified place with its bound breaks no rule
found : (bytes : List ℕ) (cert : Certificate) (es : List Entry) (p : ℕ) (b : Bound)
    → first_fault bytes cert es ≡ None → bound_in es p ≡ Some b → place_fault bytes cert p b ≡ None
found bytes cert [] p b c e = absurd cc
found bytes cert (x ∷ es) p b c e =
    found_by bytes cert x es p b (λ f g. found bytes cert es p b f g) (place_fault bytes cert x.place x.bound) (x.place == p) refl refl c e

is_some_of : (o : Option Bound) → is_some o ≡ true → (after : Bound) × (o ≡ Some after)
is_some_of (Some after) e = (after, refl)
is_some_of None e = absurd cc

module _ (bytes : List ℕ) (cert : Certificate) (program : All IsByte bytes) (clear : first_fault bytes cert cert.entries ≡ None)
    (low : (p : ℕ) (b : Bound) → bound_in cert.entries p ≡ Some b → b.register < 8) where
  -- a step from a certified place comes to the target or to a certified place, and the bound falls by its cycles
  record Moved (pins : Pins) (m : Cpu) (before : Bound) : Type 0 where
    pub next : Stepped
    pub is : stepped bytes pins m ≡ Some next
    pub range : IsFine next.cpu
    pub plain : IsPlain next.cpu
    pub after : Bound
    pub known : bound_at cert (next.cpu.pc % 2048) ≡ Some after
    pub some : 0 < next.cycles
    pub falls : cycles_at after (register after.register next.cpu) + next.cycles ≤ cycles_at before (register before.register m)

  low_at : (k : Bool) (p : ℕ) (b : Bound) → (if k then Some nothing_left else bound_in cert.entries p) ≡ Some b → b.register < 8
  low_at true p b e = let s : nothing_left ≡ b = cc in subst (λ v. v.register < 8) s (omega arith)
  low_at false p b e = low p b e

  moved_by : (pins : Pins) (m : Cpu) (before : Bound) → IsFine m → IsPlain m → ArePins pins → before.register < 8
      → (o : Option Decoded) → row_at bytes m.pc ≡ o → row_fault cert o (m.pc % 2048) before ≡ None → Moved pins m before
  moved_by pins m before range plain levels register_low None row f = absurd cc
  moved_by pins m before range plain levels register_low (Some d) row f = record {
    next = record { cpu = left; cycles = d.cycles };
    is = step_executes bytes pins m plain ∙ ap (λ o. executed o bytes pins m) row;
    range = timer_fine m.run d.cycles pins done regular.few done_range;
    plain = effect_plain d.op bytes pins (past m) certified plain;
    after = after;
    known = subst (λ p. bound_at cert p ≡ Some after) took.to known.1;
    some = regular.some;
    falls = falls_here way (register before.register m) (register after.register m) (register after.register done) fall
        (register_byte before.register m range) (register_byte after.register m range) (λ e. ap (λ r. register r m) e)
        (took.allowed before.register) (took.allowed after.register)
        (λ test t. value_left d.op bytes pins
        (past m) after.register test regular.register certified plain.0 range.long after_low
        (register_byte after.register done done_range) t);
  }
    where
      regular : Regular d
      regular = row_regular (get_or bytes (m.pc % 2048) 0)
          (get_or bytes ((m.pc + 1) % 2048) 0) d (read_byte bytes ((m.pc + 1) % 2048) program) row

      done : Cpu
      done = effect d.op bytes pins (past m)

      left : Cpu
      left = after_timer m.run d.cycles pins done

      done_range : IsFine done
      done_range = effect_fine d.op bytes pins (past m) program levels.2 regular.operands (past_fine m range)

      clear_row : (is_certifiable d.op ≡ true) × (ways_fault cert d before (ways d.op d.len (m.pc % 2048)) ≡ None)
      clear_row = row_clear (is_certifiable d.op) (ways_fault cert d before (ways d.op d.len (m.pc % 2048))) _ f

      certified : is_certifiable d.op ≡ true
      certified = clear_row.0

      clear_ways : (list_all (is_known cert) (ways d.op d.len (m.pc % 2048)) ≡ true)
          × (list_all (way_falls cert d before) (ways d.op d.len (m.pc % 2048)) ≡ true)
      clear_ways = ways_clear _ _ _ _ clear_row.1

      test : Way → Bool
      test w = is_known cert w && way_falls cert d before w

      took : Takes test (done.pc % 2048) (values_of m)
      took = takes test d.op bytes pins m certified regular.operands (λ r. register_byte r m range)
          (subst (λ n. list_all test (ways d.op n (m.pc % 2048)) ≡ true) regular.long
          (all_both (is_known cert) (way_falls cert d before) (ways d.op d.len (m.pc % 2048)) clear_ways.0 clear_ways.1))

      passed : (is_known cert took.out ≡ true) × (way_falls cert d before took.out ≡ true)
      passed = both (is_known cert took.out) (way_falls cert d before took.out) took.passes

      known : (after : Bound) × (bound_at cert took.out.to ≡ Some after)
      known = is_some_of (bound_at cert took.out.to) passed.0

      after : Bound
      after = known.0

      after_low : after.register < 8
      after_low = low_at (took.out.to == cert.target) took.out.to after known.1

      way : Passage
      way = passage d before took.out after

      fall : falls way ≡ true
      fall = subst (λ o. (elim o as (λ v. Bool) [ None ↦ true | Some a ↦ falls (passage d before took.out a) ]) ≡ true) known.1 passed.1

  moved : (pins : Pins) (m : Cpu) (before : Bound) → IsFine m → IsPlain m → ArePins pins → bound_in cert.entries (m.pc % 2048) ≡ Some before
      → Moved pins m before
  moved pins m before range plain levels here =
      let f : row_fault cert (row_at bytes (m.pc % 2048)) (m.pc % 2048) before
      ≡ None = found bytes cert cert.entries (m.pc % 2048) before clear here in
      moved_by pins m before range plain levels (low (m.pc % 2048) before here) (row_at bytes m.pc) refl
      (subst (λ o. row_fault cert o (m.pc % 2048) before ≡ None) (same_row bytes m.pc) f)

  -- a step, and what follows it
  first_then : (pins : ℕ → Pins) (m : Cpu) (next : Stepped) (limit rest : ℕ) → stepped bytes (pins 0) m ≡ Some next
      → rest + next.cycles ≤ limit
      → ComesTo bytes (λ i. pins (suc i)) next.cpu cert.target rest → ComesTo bytes pins m cert.target limit
  first_then pins m next limit rest is l come =
      let within : come.end.cycles ≤ rest = come.within in
      let run_is : run (suc (suc come.more)) bytes pins m ≡ later next.cycles (run (suc come.more) bytes (λ i. pins (suc i)) next.cpu) =
      ap (λ o. elim o as (λ v. Option Stepped)
      [ None ↦ None | Some n ↦ later n.cycles (run (suc come.more) bytes (λ i. pins (suc i)) n.cpu) ]) is in
      record {
        more = suc come.more;
        end = record { cpu = come.end.cpu; cycles = next.cycles + come.end.cycles };
        comes = run_is ∙ ap (later next.cycles) come.comes;
        there = come.there;
        within = omega (arith, within, l);
        plain = come.plain;
        fine = come.fine;
      }

  -- one step to the target
  at_once : (pins : ℕ → Pins) (m : Cpu) (next : Stepped) (limit rest : ℕ) → stepped bytes (pins 0) m ≡ Some next
      → rest + next.cycles ≤ limit
      → next.cpu.pc % 2048 ≡ cert.target → IsPlain next.cpu → IsFine next.cpu → ComesTo bytes pins m cert.target limit
  at_once pins m next limit rest is l there plain range = record {
    more = zero;
    end = record { cpu = next.cpu; cycles = next.cycles + 0 };
    comes = ap (λ o. elim o as (λ v. Option Stepped)
        [ None ↦ None | Some n ↦ later n.cycles (run zero bytes (λ i. pins (suc i)) n.cpu) ]) is;
    there = there;
    within = omega (arith, l);
    plain = plain;
    fine = range;
  }

  goes_on : (pins : ℕ → Pins) (m : Cpu) (before : Bound) (s : Moved (pins 0) m before) (k : Bool)
      → (s.next.cpu.pc % 2048 == cert.target) ≡ k
      → (if k then Some nothing_left else bound_in cert.entries (s.next.cpu.pc % 2048)) ≡ Some s.after
      → (bound_in cert.entries (s.next.cpu.pc % 2048) ≡ Some s.after
      → ComesTo bytes (λ i. pins (suc i)) s.next.cpu cert.target (cycles_at s.after (register s.after.register s.next.cpu)))
      → ComesTo bytes pins m cert.target (cycles_at before (register before.register m))
  goes_on pins m before s true e f rest =
      let there : s.next.cpu.pc % 2048 ≡ cert.target = grind (arith, nat_tests, e) in
      at_once pins m s.next (cycles_at before (register before.register m))
      (cycles_at s.after (register s.after.register s.next.cpu)) s.is s.falls there s.plain s.range
  goes_on pins m before s false e f rest =
      first_then pins m s.next (cycles_at before (register before.register m))
      (cycles_at s.after (register s.after.register s.next.cpu)) s.is s.falls (rest f)

  keeps_by : (n : ℕ) (pins : ℕ → Pins) (m : Cpu) (before : Bound) → IsFine m → IsPlain m → ((i : ℕ) → ArePins (pins i))
      → bound_in cert.entries (m.pc % 2048) ≡ Some before → cycles_at before (register before.register m) < n
      → ComesTo bytes pins m cert.target (cycles_at before (register before.register m))
  keeps_by zero pins m before range plain levels here l = absurd (omega (arith, l))
  keeps_by (suc n) pins m before range plain levels here l =
      let s = moved (pins 0) m before range plain (levels 0) here in
      let some : 0 < s.next.cycles = s.some in
      let fall : cycles_at s.after (register s.after.register s.next.cpu) + s.next.cycles ≤ cycles_at before
      (register before.register m) = s.falls in
      goes_on pins m before s (s.next.cpu.pc % 2048 == cert.target) refl s.known
      (λ f. keeps_by n (λ i. pins (suc i)) s.next.cpu s.after s.range s.plain (λ i. levels (suc i)) f (omega (arith, some, fall, l)))

  -- each certified place keeps its bound
  pub keeps_bounds : Keeps bytes cert
  keeps_bounds m pins before range plain levels here =
      keeps_by (suc (cycles_at before (register before.register m))) pins m before range plain levels here (omega arith)
