-- What a probe has counted after several lines of a session.
use Rattle.std.proofs.Common.{cond, ◌≡◌, ◌≤◌, ◌<◌, ℕ, zero, suc, ◌-◌, Bool, true, false, ◌==◌}
use Rattle.std.proofs.Common.{nat_lt, List, [], ◌∷◌, Some, None, refl, ap, sym, ◌∙◌, arith}
use Rattle.std.proofs.lemmas.Bool.Decides.{nat_tests}
use Rattle.std.specs.Prelude.{slice_get}
use Rattle.std.specs.List.{remove}
use Rattle.std.specs.Option.{option_and_then, option_map}
use Rattle.std.specs.declared.option.Option.{Option}
use Rattle.std.proofs.lemmas.Option.{slice_get-map}
use Rattle.debugger.specs.declared.command.Command.{Command}
use Rattle.debugger.specs.declared.command.Command.TheVariants.{Step, Go, Show, Ram, Arm, Tell, Drop}
use Rattle.run_probes.specs.Counts.{counted_between}
use Rattle.debugger.specs.CountLaw.{IsCounted, number_then, number_after, obeyed_all, LinesCount, CountsSinceArmed}
use Rattle.run_probes.specs.Probes.{Watch, armed}
use Rattle.debugger.specs.Sessions.{Debug, Debuggee, walk, hunt}
use Rattle.debugger.specs.Effects.{arm_at, obeyed}
use Rattle.run_probes.proofs.Counting.{counted_both, counted_nowhere, counts_from_none}
use Rattle.debugger.proofs.Counted.{walk_counts, hunt_counts}

-- the others stay when one is armed
arm_other : (p a b : ℕ) (ws : List Watch) (i : ℕ) → (p ≡ i → ⊥) → slice_get (arm_at p a b ws) i ≡ slice_get ws i
arm_other p a b [] i h = refl
arm_other zero a b (w ∷ ws) zero h = absurd (h refl)
arm_other zero a b (w ∷ ws) (suc i) h = refl
arm_other (suc p) a b (w ∷ ws) zero h = refl
arm_other (suc p) a b (w ∷ ws) (suc i) h = arm_other p a b ws i (λ e. h (ap (λ (n : ℕ). suc n) e))

arm_this : (p a b : ℕ) (ws : List Watch) (w : Watch) → slice_get ws p ≡ Some w → slice_get (arm_at p a b ws) p ≡ Some (armed a b w)
arm_this p a b [] w h = absurd (cc h)
arm_this zero a b (v ∷ ws) w h = let e : v ≡ w = cc h in ap (λ x. Some (armed a b x)) e
arm_this (suc p) a b (v ∷ ws) w h = arm_this p a b ws w h

-- those before one that is dropped stay, and those after it move down
drop_below : (ws : List Watch) (p i : ℕ) → i < p → slice_get (remove ws p) i ≡ slice_get ws i
drop_below [] zero i l = refl
drop_below [] (suc p) i l = refl
drop_below (w ∷ ws) zero i l = absurd (omega (arith, l))
drop_below (w ∷ ws) (suc p) zero l = refl
drop_below (w ∷ ws) (suc p) (suc i) l = drop_below ws p i (omega (arith, l))

drop_above : (ws : List Watch) (p i : ℕ) → p ≤ i → slice_get (remove ws p) i ≡ slice_get ws (suc i)
drop_above [] zero i l = refl
drop_above [] (suc p) i l = refl
drop_above (w ∷ ws) zero i l = refl
drop_above (w ∷ ws) (suc p) zero l = absurd (omega (arith, l))
drop_above (w ∷ ws) (suc p) (suc i) l = drop_above ws p i (omega (arith, l))

drop_other : (ws : List Watch) (p i : ℕ) (b : Bool)
    → nat_lt p i ≡ b → (p ≡ i → ⊥) → slice_get (remove ws p) (cond b (i - 1) i) ≡ slice_get ws i
drop_other ws p zero true is h = absurd (grind (arith, nat_tests, is))
drop_other ws p (suc i) true is h =
    let e : suc i - 1 ≡ i = omega arith in
    let l : p ≤ i = grind (arith, nat_tests, is) in
    ap (slice_get (remove ws p)) e ∙ drop_above ws p i l
drop_other ws p i false is h =
    let m : i ≤ p = grind (arith, nat_tests, is) in
    let l : i < p = grind (arith, m, h) in
    drop_below ws p i l

not_this : (p i : ℕ) → (p == i) ≡ false → p ≡ i → ⊥
not_this p i h e = grind (arith, nat_tests, h, e)

module _ (s : Debuggee) (d : Debug) (probe : ℕ) (watch : Watch) (is : slice_get d.probes probe ≡ Some watch) where
  read_counted : (new : Debug)
      → IsCounted s.story d new → slice_get new.probes probe ≡ Some (counted_between s.story d.steps new.steps watch)
  read_counted new h =
      ap (λ ps. slice_get ps probe) h.probes ∙ slice_get-map (counted_between s.story d.steps new.steps) d.probes probe
      ∙ ap (option_map (counted_between s.story d.steps new.steps)) is

  still_counted : (probes : List Watch) (later : ℕ)
      → slice_get probes later ≡ slice_get d.probes probe → slice_get probes later ≡ Some (counted_between s.story d.steps d.steps watch)
  still_counted probes later same = same ∙ is ∙ ap (λ w. Some w) (sym (counted_nowhere s.story d.steps watch))

  arm_counted : (p a b later : ℕ) (this : Bool) → (p == probe) ≡ this → cond this None (Some probe) ≡ Some later
      → slice_get (arm_at p a b d.probes) later ≡ Some (counted_between s.story d.steps d.steps watch)
  arm_counted p a b later true at h = absurd (cc h)
  arm_counted p a b later false at h =
      let e : later ≡ probe = cc h in
      still_counted (arm_at p a b d.probes) later
      (ap (slice_get (arm_at p a b d.probes)) e ∙ arm_other p a b d.probes probe (not_this p probe at))

  drop_counted : (p later : ℕ) (this : Bool)
      → (p == probe) ≡ this → cond this None (Some (cond (nat_lt p probe) (probe - 1) probe)) ≡ Some later
      → slice_get (remove d.probes p) later ≡ Some (counted_between s.story d.steps d.steps watch)
  drop_counted p later true at h = absurd (cc h)
  drop_counted p later false at h =
      let e : later ≡ cond (nat_lt p probe) (probe - 1) probe = cc h in
      still_counted (remove d.probes p) later
      (ap (slice_get (remove d.probes p)) e ∙ drop_other d.probes p probe (nat_lt p probe) refl (not_this p probe at))

  same_number : (later : ℕ) → Some probe ≡ Some later → slice_get d.probes later ≡ slice_get d.probes probe
  same_number later h = let e : later ≡ probe = cc h in ap (slice_get d.probes) e

  read_later : (new : Debug) (later : ℕ) → Some probe ≡ Some later
      → IsCounted s.story d new → slice_get new.probes later ≡ Some (counted_between s.story d.steps new.steps watch)
  read_later new later at h = let e : later ≡ probe = cc at in ap (slice_get new.probes) e ∙ read_counted new h

  -- one line
  line_counts : (command : Command) (later : ℕ) → number_then command probe ≡ Some later
      → slice_get (obeyed s command d).debug.probes later ≡ Some (counted_between s.story d.steps (obeyed s command d).debug.steps watch)
  line_counts (Step n) later at = read_later (walk s n d) later at (walk_counts s n d)
  line_counts (Go n) later at = read_later (hunt s n d).debug later at (hunt_counts s n d)
  line_counts Show later at = still_counted d.probes later (same_number later at)
  line_counts (Ram cell) later at = still_counted d.probes later (same_number later at)
  line_counts (Arm p a b) later at = arm_counted p a b later (p == probe) refl at
  line_counts (Tell p) later at = still_counted d.probes later (same_number later at)
  line_counts (Drop p) later at = drop_counted p later (p == probe) refl at

-- no line goes back
line_later : (s : Debuggee) (command : Command) (d : Debug) → d.steps ≤ (obeyed s command d).debug.steps
line_later s (Step n) d = (walk_counts s n d).later
line_later s (Go n) d = (hunt_counts s n d).later
line_later s Show d = omega arith
line_later s (Ram cell) d = omega arith
line_later s (Arm p a b) d = omega arith
line_later s (Tell p) d = omega arith
line_later s (Drop p) d = omega arith

lines_later : (s : Debuggee) (lines : List Command) (d : Debug) → d.steps ≤ (obeyed_all s lines d).steps
lines_later s [] d = omega arith
lines_later s (command ∷ others) d = omega (arith, line_later s command d, lines_later s others (obeyed s command d).debug)

lines_from : (s : Debuggee) (command : Command) (others : List Command) (d : Debug) (probe later : ℕ) (watch : Watch) (o : Option ℕ)
    → number_then command probe ≡ o
    → slice_get d.probes probe ≡ Some watch → option_and_then (number_after others) o ≡ Some later
    → ((now : Watch) (mid : ℕ) → slice_get (obeyed s command d).debug.probes mid ≡ Some now → number_after others mid ≡ Some later
    → slice_get (obeyed_all s (command ∷ others) d).probes later
    ≡ Some (counted_between s.story (obeyed s command d).debug.steps (obeyed_all s (command ∷ others) d).steps now))
    → slice_get (obeyed_all s (command ∷ others) d).probes later
    ≡ Some (counted_between s.story d.steps (obeyed_all s (command ∷ others) d).steps watch)
lines_from s command others d probe later watch None at is to more = absurd (cc to)
lines_from s command others d probe later watch (Some mid) at is to more =
    let k = (obeyed s command d).debug.steps in
    more (counted_between s.story d.steps k watch) mid (line_counts s d probe watch is command mid at) to
    ∙ ap (λ w. Some w)
    (sym (counted_both s.story d.steps k (obeyed_all s (command ∷ others) d).steps (line_later s command d)
    (lines_later s others (obeyed s command d).debug) watch))

-- a probe goes on counting through the lines of a session, until it is armed anew or dropped
pub lines_count : LinesCount
lines_count s [] d probe later watch is to = still_counted s d probe watch is d.probes later (same_number s d probe watch is later to)
lines_count s (command ∷ others) d probe later watch is to =
    lines_from s command others d probe later watch (number_then command probe) refl is to
    (λ now mid there on. lines_count s others (obeyed s command d).debug mid later now there on)

-- a probe that a line arms counts from that line on, with its new arms
pub counts_since_armed : CountsSinceArmed
counts_since_armed s lines d probe a b later watch is to =
    let new = (obeyed s (Arm probe a b) d).debug in
    let end = (obeyed_all s lines new).steps in (
      counted_between s.story d.steps end (armed a b watch),
      lines_count s lines new probe later (armed a b watch) (arm_this probe a b d.probes watch is) to,
      counts_from_none s.story d.steps end (armed a b watch) refl refl,
    )
