-- A script that is judged right breaks no rule where it is obeyed.
use Rattle.std.proofs.Common.{cond, ◌≡◌, ◌<◌, ◌+◌, ◌-◌, ℕ, zero, suc, Bool, true, false, List, [], ◌∷◌}
use Rattle.std.proofs.Common.{length, Some, None, Ok, Err, refl, ap, sym, subst, ◌∙◌, arith}
use Rattle.std.specs.Prelude.{nat_lt}
use Rattle.std.specs.List.{remove}
use Rattle.std.specs.Str.Lines.{lines}
use Rattle.std.specs.declared.option.Option.{Option}
use Rattle.std.specs.declared.result.Result.{Result}
use Rattle.std.proofs.lemmas.Bool.Decides.{nat_tests}
use Rattle.std.proofs.lemmas.List.{length-map}
use Rattle.std.proofs.lemmas.List.Edits.{length-remove}
use Rattle.first_fault.specs.FirstFault.{Fault, and_then, at_item, outcome, outcome_from, some_or, unless}
use Rattle.text_lines.specs.Fields.{is_blank_line}
use Rattle.debugger.specs.declared.command.Command.{Command}
use Rattle.debugger.specs.declared.command.Command.TheVariants.{Step, Go, Show, Ram, Arm, Tell, Drop}
use Rattle.debugger.specs.declared.rule.Rule.{Rule}
use Rattle.debugger.specs.declared.rule.Rule.TheVariants.{Form, Probe}
use Rattle.debugger.specs.Commands.{command_in}
use Rattle.run_probes.specs.Counts.{counted_between}
use Rattle.debugger.specs.Faults.{IsRight, IsVerdict}
use Rattle.debugger.specs.Obeyed.{afterwards, lines_effect}
use Rattle.run_probes.specs.Probes.{Watch}
use Rattle.debugger.specs.Scripts.{judged, left, missing, script_of, take_line}
use Rattle.debugger.specs.Sessions.{Debug, Debuggee, walk, hunt}
use Rattle.debugger.specs.Effects.{LineEffect, arm_at, obeyed, effect_of}
use Rattle.debugger.proofs.Counted.{hunt_counts, walk_counts}

-- arming keeps the number of probes
armed_all : (p a b : ℕ) (ws : List Watch) → length ws ≡ length (arm_at p a b ws)
armed_all p a b [] = refl
armed_all zero a b (w ∷ ws) = refl
armed_all (suc p) a b (w ∷ ws) = ap suc (armed_all p a b ws)

below_so : (n p : ℕ) (b : Bool) → nat_lt p n ≡ b → cond b None (Some Probe) ≡ None → p < n
below_so n p true e none = grind (arith, nat_tests, e)
below_so n p false e none = absurd (cc none)

dropped_one : (ws : List Watch) (p : ℕ) → missing (length ws) (Drop p) ≡ None → length ws - 1 ≡ length (remove ws p)
dropped_one ws p there = omega (arith, length-remove ws p (below_so (length ws) p (nat_lt p (length ws)) refl there))

-- a line leaves as many probes as it was judged to leave
pub left_so : (s : Debuggee) (c : Command) (d : Debug)
    → missing (length d.probes) c ≡ None → left c (length d.probes) ≡ length (obeyed s c d).debug.probes
left_so s (Step k) d there =
    sym (ap (λ (ws : List Watch). length ws) (walk_counts s k d).probes
    ∙ length-map d.probes (counted_between s.story d.steps (walk s k d).steps))
left_so s (Go k) d there =
    sym (ap (λ (ws : List Watch). length ws) (hunt_counts s k d).probes
    ∙ length-map d.probes (counted_between s.story d.steps (hunt s k d).debug.steps))
left_so s Show d there = refl
left_so s (Ram cell) d there = refl
left_so s (Arm p a b) d there = armed_all p a b d.probes
left_so s (Tell p) d there = refl
left_so s (Drop p) d there = dropped_one d.probes p there

there_by : (n : ℕ) (c : Command) (f : Command) (m : Option Rule) → missing n f ≡ m → unless m f ≡ Ok c → missing n c ≡ None
there_by n c f None e is = let same : f ≡ c = cc is in subst (λ (x : Command). missing n x ≡ None) same e
there_by n c f (Some rule) e is = absurd (cc is)

there_from : (n : ℕ) (c : Command) (o : Option Command)
    → and_then (some_or Form o) (λ f. unless (missing n f) f) ≡ Ok c → missing n c ≡ None
there_from n c (Some f) is = there_by n c f (missing n f) refl is
there_from n c None is = absurd (cc is)

-- the probe that a right line names is there
judged_there : (n : ℕ) (line : List ℕ) (c : Command) → judged n line ≡ Ok c → missing n c ≡ None
judged_there n line c is = there_from n c (command_in line) is

abbrev RightOnes : Debuggee → List (List ℕ) → Type 0
RightOnes s ls =
    (k n end : ℕ) (d : Debug) → n ≡ length d.probes → outcome_from take_line Ok k n ls ≡ Ok end → (t : LineEffect) × (lines_effect s ls d ≡ Ok t)

abbrev after_line : Debuggee → List (List ℕ) → Result LineEffect Rule → Result LineEffect Rule
after_line s ls r = and_then r (λ t. and_then (lines_effect s ls t.debug) (λ u. Ok (afterwards t.text u)))

abbrev goes_from : ℕ → List (List ℕ) → Result ℕ Rule → Result ℕ (Fault Rule)
goes_from k ls r = and_then (at_item k r) (λ after. outcome_from take_line Ok (k + 1) after ls)

others_right : (s : Debuggee) (ls : List (List ℕ)) (t : LineEffect)
    → (u : LineEffect) × (lines_effect s ls t.debug ≡ Ok u) → (u : LineEffect) × (after_line s ls (Ok t) ≡ Ok u)
others_right s ls t h = (afterwards t.text h.0, ap (λ (r : Result LineEffect Rule). and_then r (λ u. Ok (afterwards t.text u))) h.1)

command_right : (s : Debuggee) (ls : List (List ℕ))
    → RightOnes s ls → (k end : ℕ) (d : Debug) (r : Result Command Rule) → ((c : Command) → r ≡ Ok c → missing (length d.probes) c ≡ None)
    → goes_from k ls (and_then r (λ c. Ok (left c (length d.probes)))) ≡ Ok end
    → (u : LineEffect) × (after_line s ls (and_then r (λ c. Ok (obeyed s c d))) ≡ Ok u)
command_right s ls h k end d (Ok c) there e =
    others_right s ls (obeyed s c d) (h (k + 1) (left c (length d.probes)) end (obeyed s c d).debug (left_so s c d (there c refl)) e)
command_right s ls h k end d (Err rule) there e = absurd (cc e)

line_right : (s : Debuggee) (ls : List (List ℕ)) → RightOnes s ls → (k end : ℕ) (d : Debug) (line : List ℕ) (blank : Bool)
    → goes_from k ls (cond blank (Ok (length d.probes)) (and_then (judged (length d.probes) line) (λ c. Ok (left c (length d.probes)))))
    ≡ Ok end
    → (u : LineEffect)
    × (after_line s ls (cond blank (Ok (effect_of d [])) (and_then (judged (length d.probes) line) (λ c. Ok (obeyed s c d)))) ≡ Ok u)
line_right s ls h k end d line true e = others_right s ls (effect_of d []) (h (k + 1) (length d.probes) end d refl e)
line_right s ls h k end d line false e =
    command_right s ls h k end d (judged (length d.probes) line) (judged_there (length d.probes) line) e

right_ones : (s : Debuggee) (ls : List (List ℕ)) → RightOnes s ls
right_ones s [] k n end d same e = (effect_of d [], refl)
right_ones s (line ∷ ls) k n end d same e =
    line_right s ls (right_ones s ls) k end d line (is_blank_line line)
    (subst (λ m. outcome_from take_line Ok k m (line ∷ ls) ≡ Ok end) same e)

verdict_right : (r : Result ℕ (Fault Rule)) → IsVerdict r (Ok tt) → (end : ℕ) × (r ≡ Ok end)
verdict_right (Ok end) h = (end, refl)
verdict_right (Err fault) h = absurd h

script_unfolds : (n : ℕ) (script : List ℕ) → script_of n script ≡ outcome take_line Ok n (lines script)
unfolding script_of
script_unfolds n script = refl

-- the lines of a script that is judged right for so many probes come to an end
pub right_effects : (s : Debuggee) (n : ℕ) (script : List ℕ) (d : Debug)
    → n ≡ length d.probes → IsRight n script → (t : LineEffect) × (lines_effect s (lines script) d ≡ Ok t)
right_effects s n script d same right =
    let e : (end : ℕ) × (script_of n script ≡ Ok end) = verdict_right (script_of n script) right in
    right_ones s (lines script) 1 n e.0 d same (sym (script_unfolds n script) ∙ e.1)
