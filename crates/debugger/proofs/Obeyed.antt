-- The lines of a script in a session, one after another.
use Rattle.std.proofs.Common.{◌≡◌, ℕ, List, [], ◌∷◌, ◌++◌, length, take, Ok, Err, refl, ap, sym, subst, ◌∙◌}
use Rattle.std.proofs.lemmas.List.{append_assoc, append-nil}
use Rattle.std.proofs.Math.Seq.{take-append_seam}
use Rattle.std.specs.Prelude.{MatchResult}
use Rattle.std.specs.Result.{IsErrAnd}
use Rattle.std.specs.Str.Lines.{lines}
use Rattle.std.specs.declared.result.Result.{Result}
use Rattle.first_fault.specs.FirstFault.{and_then}
use Rattle.debugger.specs.declared.rule.LineFault.{LineFault}
use Rattle.debugger.specs.declared.rule.LineFault.TheVariants.{Memory}
use Rattle.debugger.specs.declared.rule.Rule.{Rule}
use Rattle.debugger.specs.Lines.{IsLine}
use Rattle.debugger.specs.Obeyed.{IsObeyed, IsObeyedInPart, afterwards, begun, lines_effect}
use Rattle.run_probes.specs.Probes.{Watch}
use Rattle.debugger.specs.Sessions.{Debug, Debuggee, Sitting}
use Rattle.debugger.specs.Effects.{LineEffect, line_effect, effect_of}

abbrev Outcome : Type 0
Outcome = Result LineEffect Rule

abbrev before_all : List ℕ → Outcome → Outcome
before_all text r = and_then r (λ u. Ok (afterwards text u))

abbrev and_lines : Debuggee → List (List ℕ) → Outcome → Outcome
and_lines s ys r = and_then r (λ t. before_all t.text (lines_effect s ys t.debug))

after_none : (r : Outcome) → r ≡ before_all [] r
after_none (Ok t) = refl
after_none (Err rule) = refl

after_twice : (a b : List ℕ) (r : Outcome) → before_all a (before_all b r) ≡ before_all (a ++ b) r
after_twice a b (Ok t) = ap (λ (x : List ℕ). Ok (effect_of t.debug x)) (sym (append_assoc a b t.text))
after_twice a b (Err rule) = refl

-- after a line come its others and then more
others_both : (s : Debuggee) (ys : List (List ℕ)) (text : List ℕ) (r : Outcome)
    → before_all text (and_lines s ys r) ≡ and_lines s ys (before_all text r)
others_both s ys text (Ok t) = after_twice text t.text (lines_effect s ys t.debug)
others_both s ys text (Err rule) = refl

first_both : (s : Debuggee) (xs ys : List (List ℕ)) (r : Outcome)
    → ((d : Debug) → lines_effect s (xs ++ ys) d ≡ and_lines s ys (lines_effect s xs d))
    → and_lines s (xs ++ ys) r ≡ and_lines s ys (and_lines s xs r)
first_both s xs ys (Ok t) h = ap (before_all t.text) (h t.debug) ∙ others_both s ys t.text (lines_effect s xs t.debug)
first_both s xs ys (Err rule) h = refl

-- some lines, and then others
both_effects : (s : Debuggee) (xs ys : List (List ℕ)) (d : Debug) → lines_effect s (xs ++ ys) d ≡ and_lines s ys (lines_effect s xs d)
both_effects s [] ys d = after_none (lines_effect s ys d)
both_effects s (x ∷ xs) ys d = first_both s xs ys (line_effect s x d) (both_effects s xs ys)

-- the first lines of all are obeyed, and these are left
pub record AreDone (s : Debuggee) (all : List (List ℕ)) (d : Debug) (rest : List (List ℕ)) (now : Debug) (text : List ℕ) : Type 0 where
  pub first : List (List ℕ)
  pub all_so : all ≡ first ++ rest
  pub effect_of : lines_effect s first d ≡ Ok (effect_of now text)

right_by : (s : Debuggee) (others : List (List ℕ)) (text : List ℕ) (end : LineEffect) (r : Outcome)
    → before_all text (and_lines s others r) ≡ Ok end → (t : LineEffect) × (r ≡ Ok t)
right_by s others text end (Ok t) e = (t, refl)
right_by s others text end (Err rule) e = absurd (cc e)

module _ (s : Debuggee) (all : List (List ℕ)) (d : Debug) (line : List ℕ) (others : List (List ℕ)) (now : Debug) (text : List ℕ) where
  -- where all lines come to an end, so does the next one
  pub next_right : (end : LineEffect)
      → lines_effect s all d ≡ Ok end → AreDone s all d (line ∷ others) now text → (t : LineEffect) × (line_effect s line now ≡ Ok t)
  next_right end right done =
      let e : and_lines s (line ∷ others) (Ok (effect_of now text)) ≡ Ok end =
      sym (ap (and_lines s (line ∷ others)) done.effect_of) ∙ sym (both_effects s done.first (line ∷ others) d)
      ∙ sym (ap (λ ls. lines_effect s ls d) done.all_so) ∙ right in
      right_by s others text end (line_effect s line now) e

  -- with one line more
  pub one_more : (t : LineEffect)
      → line_effect s line now ≡ Ok t → AreDone s all d (line ∷ others) now text → AreDone s all d others t.debug (text ++ t.text)
  one_more t is done =
      let one : lines_effect s (line ∷ []) now ≡ Ok (effect_of t.debug (t.text ++ [])) = ap (and_lines s []) is in
      record {
        first = done.first ++ (line ∷ []);
        all_so = done.all_so ∙ sym (append_assoc done.first (line ∷ []) others);
        effect_of =
            both_effects s done.first (line ∷ []) d ∙ ap (and_lines s (line ∷ [])) done.effect_of ∙ ap (before_all text) one
            ∙ ap (λ (x : List ℕ). Ok (effect_of t.debug (text ++ x))) (append-nil t.text);
      }

line_is : (t : LineEffect) (r : Outcome) (now new : Debug) (text text' : List ℕ)
    → r ≡ Ok t → IsLine r now text (Ok tt) new text' → (t.debug ≡ new) × (text' ≡ text ++ t.text)
line_is t r now new text text' is h = subst (λ (o : Outcome). IsLine o now text (Ok tt) new text') is h

line_lacks : (t : LineEffect) (r : Outcome) (now new : Debug) (text text' : List ℕ) (fault : LineFault)
    → r ≡ Ok t → IsLine r now text (Err fault) new text' → (fault ≡ Memory) × (t.debug ≡ new)
line_lacks t r now new text text' fault is h =
    let so : IsLine (Ok t) now text (Err fault) new text' = subst (λ (o : Outcome). IsLine o now text (Err fault) new text') is h in
    (so.0, so.1)

module _ (s s' : Debuggee) (all : List (List ℕ)) (d : Debug) (rest : List (List ℕ)) (line : List ℕ)
    (others : List (List ℕ)) (now new : Debug) (text text' : List ℕ) (end : LineEffect)
    (same : s' ≡ s) (right : lines_effect s all d ≡ Ok end) (next : rest ≡ line ∷ others) (done : AreDone s all d rest now text) where
  before : AreDone s all d (line ∷ others) now text
  before = subst (λ ls. AreDone s all d ls now text) next done

  -- if the whole script is obeyed, its next line is
  pub asked : (t : LineEffect) × (line_effect s' line now ≡ Ok t)
  asked = subst (λ (r : Debuggee). (t : LineEffect) × (line_effect r line now ≡ Ok t)) (sym same)
      (next_right s all d line others now text end right before)

  after : AreDone s all d others asked.0.debug (text ++ asked.0.text)
  after = one_more s all d line others now text asked.0 (subst (λ (r : Debuggee). line_effect r line now ≡ Ok asked.0) same asked.1) before

  -- the next line is obeyed
  pub goes_on : IsLine (line_effect s' line now) now text (Ok tt) new text' → AreDone s all d others new text'
  goes_on h =
      let is : (asked.0.debug ≡ new) × (text' ≡ text ++ asked.0.text) =
      line_is asked.0 (line_effect s' line now) now new text text' asked.1 h in
      subst (λ x. AreDone s all d others new x) (sym is.1)
      (subst (λ (x : Debug). AreDone s all d others x (text ++ asked.0.text)) is.0 after)

  -- or memory was lacking for its text
  pub stops : (fault : LineFault)
      → IsLine (line_effect s' line now) now text (Err fault) new text' → (fault ≡ Memory) × AreDone s all d others new (text ++ asked.0.text)
  stops fault h =
      let is : (fault ≡ Memory) × (asked.0.debug ≡ new) = line_lacks asked.0 (line_effect s' line now) now new text text' fault asked.1 h in
      (is.0, subst (λ (x : Debug). AreDone s all d others x (text ++ asked.0.text)) is.1 after)

module _ (s : Debuggee) (script : List ℕ) (probes : List Watch) (rest : List (List ℕ)) (now : Debug) (text : List ℕ)
    (done : AreDone s (lines script) (begun probes) rest now text) where
  -- after the last line all are obeyed
  pub all_done : rest ≡ [] → IsObeyed s script probes text now.probes
  all_done none = record {
    steps = now.steps;
    effect_of = ap (λ ls. lines_effect s ls (begun probes)) (done.all_so ∙ ap (λ ls. done.first ++ ls) none ∙ append-nil done.first) ∙ done.effect_of;
  }

  -- lines that were obeyed, up to one, are a script obeyed in part
  pub part_done : IsObeyedInPart s script probes now.probes
  part_done = (
    length done.first,
    text,
    record {
      steps = now.steps;
      effect_of = ap (λ ls. lines_effect s ls (begun probes)) (ap (take (length done.first)) done.all_so ∙ take-append_seam done.first rest)
          ∙ done.effect_of;
    },
  )

-- want of memory is answered
pub lacks : {X : Type 0} (result : Result X LineFault) (fault : LineFault) (P : X → Type 0)
    → IsErrAnd result (λ e. e ≡ fault) → fault ≡ Memory → MatchResult result P (λ e. e ≡ Memory)
lacks (Ok x) fault P is memory = absurd is
lacks (Err e) fault P is memory = is ∙ memory

-- a session at its start is over this run
pub said_by : {X : Type 0} (items : X → List ℕ) (result : Result X LineFault) (sitting : Sitting) (s : Debuggee) (script : List ℕ)
    (probes left : List Watch) → sitting ≡ record { debuggee = s; steps = 0 }
    → MatchResult result (λ x. IsObeyed sitting.debuggee script probes (items x) left) (λ e. e ≡ Memory)
    → MatchResult result (λ x. IsObeyed s script probes (items x) left) (λ e. e ≡ Memory)
said_by items result sitting s script probes left is h =
    subst (λ (x : Sitting). MatchResult result (λ y. IsObeyed x.debuggee script probes (items y) left) (λ e. e ≡ Memory)) is h

-- lines obeyed in a sitting at its first state are obeyed in its session
pub part_by : (sitting : Sitting) (s : Debuggee) (script : List ℕ) (probes left : List Watch) → sitting ≡ record { debuggee = s; steps = 0 }
    → IsObeyedInPart sitting.debuggee script probes left → IsObeyedInPart s script probes left
part_by sitting s script probes left is h = subst (λ (x : Sitting). IsObeyedInPart x.debuggee script probes left) is h

-- no line is obeyed yet
pub none_obeyed : (s : Debuggee) (script : List ℕ) (probes : List Watch) → IsObeyedInPart s script probes probes
none_obeyed s script probes = (0, [], record { steps = 0; effect_of = refl })
