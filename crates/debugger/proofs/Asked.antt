-- What the lines of a script leave is what they ask for leaves.
use Rattle.std.proofs.Common.{cond, ◌≡◌, ℕ, Bool, true, false, List, [], ◌∷◌, ◌++◌, length, Some, None, Ok, Err, refl, ap, sym, ◌∙◌}
use Rattle.std.specs.declared.option.Option.{Option}
use Rattle.std.specs.declared.result.Result.{Result}
use Rattle.first_fault.specs.FirstFault.{and_then, some_or, unless}
use Rattle.text_lines.specs.Fields.{is_blank_line}
use Rattle.debugger.specs.declared.command.Command.{Command}
use Rattle.debugger.specs.declared.rule.Rule.{Rule}
use Rattle.debugger.specs.declared.rule.Rule.TheVariants.{Form}
use Rattle.debugger.specs.Commands.{command_in}
use Rattle.debugger.specs.CountLaw.{LinesAreObeyed, asked, obeyed_all}
use Rattle.debugger.specs.Obeyed.{afterwards, lines_effect}
use Rattle.debugger.specs.Scripts.{judged, missing}
use Rattle.debugger.specs.Sessions.{Debug, Debuggee}
use Rattle.debugger.specs.Effects.{LineEffect, obeyed, effect_of}

abbrev Leave : Debuggee → List (List ℕ) → Type 0
Leave s ls = (d : Debug) (end : LineEffect) → lines_effect s ls d ≡ Ok end → end.debug ≡ obeyed_all s (asked ls) d

-- the others, after a line that printed this and left that
after_it : (s : Debuggee) (text : List ℕ) (cs : List Command) (d : Debug) (r : Result LineEffect Rule)
    → ((end : LineEffect) → r ≡ Ok end → end.debug ≡ obeyed_all s cs d)
    → (end : LineEffect) → and_then r (λ u. Ok (afterwards text u)) ≡ Ok end → end.debug ≡ obeyed_all s cs d
after_it s text cs d (Ok u) h end e = let same : afterwards text u ≡ end = cc e in ap (λ (t : LineEffect). t.debug) (sym same) ∙ h u refl
after_it s text cs d (Err rule) h end e = absurd (cc e)

-- a line that isn't blank, by what it asks for and whether the probe is there
commanded : (s : Debuggee) (ls : List (List ℕ)) (d : Debug) → Leave s ls → (c : Command) (m : Option Rule) (end : LineEffect)
    → and_then (and_then (unless m c) (λ f. Ok (obeyed s f d))) (λ t. and_then (lines_effect s ls t.debug) (λ u. Ok (afterwards t.text u)))
    ≡ Ok end
    → end.debug ≡ obeyed_all s (c ∷ asked ls) d
commanded s ls d h c None end e =
    after_it s (obeyed s c d).text (asked ls) (obeyed s c d).debug (lines_effect s ls (obeyed s c d).debug) (h (obeyed s c d).debug) end e
commanded s ls d h c (Some rule) end e = absurd (cc e)

formed : (s : Debuggee) (ls : List (List ℕ)) (d : Debug) → Leave s ls → (o : Option Command) (end : LineEffect)
    → and_then (and_then (and_then (some_or Form o) (λ c. unless (missing (length d.probes) c) c)) (λ c. Ok (obeyed s c d)))
    (λ t. and_then (lines_effect s ls t.debug) (λ u. Ok (afterwards t.text u))) ≡ Ok end
    → end.debug ≡ obeyed_all s ((elim o [ None ↦ [] | Some c ↦ c ∷ [] ]) ++ asked ls) d
formed s ls d h (Some c) end e = commanded s ls d h c (missing (length d.probes) c) end e
formed s ls d h None end e = absurd (cc e)

lined : (s : Debuggee) (ls : List (List ℕ)) (d : Debug) (line : List ℕ) → Leave s ls → (blank : Bool) (end : LineEffect)
    → and_then (cond blank (Ok (effect_of d [])) (and_then (judged (length d.probes) line) (λ c. Ok (obeyed s c d))))
    (λ t. and_then (lines_effect s ls t.debug) (λ u. Ok (afterwards t.text u))) ≡ Ok end
    → end.debug ≡ obeyed_all s (cond blank [] (elim (command_in line) [ None ↦ [] | Some c ↦ c ∷ [] ]) ++ asked ls) d
lined s ls d line h true end e = after_it s [] (asked ls) d (lines_effect s ls d) (h d) end e
lined s ls d line h false end e = formed s ls d h (command_in line) end e

-- a script's lines leave the session as what they ask for does
pub lines_are_obeyed : LinesAreObeyed
lines_are_obeyed s [] d end e = let same : effect_of d [] ≡ end = cc e in ap (λ (t : LineEffect). t.debug) (sym same)
lines_are_obeyed s (line ∷ ls) d end e = lined s ls d line (lines_are_obeyed s ls) (is_blank_line line) end e
