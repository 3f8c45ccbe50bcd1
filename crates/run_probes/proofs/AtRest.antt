-- A look at a clock that keeps its level is made good for by a later look, where the probe rests.
use Rattle.std.proofs.Common.{cond, ◌≡◌, ◌<◌, ℕ, Bool, true, false, not, ◌&&◌, ◌==◌, nat_lt, List, []}
use Rattle.std.proofs.Common.{◌∷◌, map, Some, None, is_none, refl, ap, sym, ◌∙◌, arith}
use Rattle.std.proofs.lemmas.Bool.{and_parts}
use Rattle.std.specs.declared.option.Option.{Option}
use Rattle.run_probes.specs.declared.heard.Fall.{Fall}
use Rattle.run_probes.specs.declared.heard.Sample.{Sample}
use Rattle.run_probes.specs.declared.tally.Arms.{Arms}
use Rattle.run_probes.specs.Probes.{Sight, Watch, ear_after, line_kind, listening, looked, met_as}
use Rattle.run_probes.specs.Resting.{has_level, rests, all_rest}
use Rattle.run_probes.specs.Tallies.{noted}
use Rattle.run_probes.specs.Transfers.{Ear, fall_at, falls_with, heard, is_later_than, is_fall, sample, wires_at, with_fall}

abbrev ear_with : Option Sample → List Fall → Ear
ear_with last falls = record { last = last; falls = falls }

never_both : (b : Bool) → b && not b ≡ false
never_both true = refl
never_both false = refl

-- a clock that has a level is that level
level_is : (level clk : Bool) → has_level level clk ≡ true → clk ≡ level
level_is true clk e = e
level_is false true e = absurd (cc e)
level_is false false e = refl

-- a sample with the same clock as the last one is no fall, and after it the next one is a fall as it were without it
heard_less : (level : Bool) (s t : Sample) (ear : Ear)
    → (wires_at ear.last).clk ≡ level → s.lines.clk ≡ level → heard t (heard s ear) ≡ heard t ear
heard_less level s t ear was is =
    let no : is_fall (wires_at ear.last) s.lines ≡ false =
    ap (λ (b : Bool). b && not s.lines.clk) was ∙ ap (λ (b : Bool). level && not b) is ∙ never_both level in
    let kept : falls_with s ear ≡ ear.falls = ap (λ (b : Bool). cond b (with_fall (fall_at s) ear.falls) ear.falls) no in
    let same : is_fall s.lines t.lines ≡ is_fall (wires_at ear.last) t.lines = ap (λ (b : Bool). b && not t.lines.clk) (is ∙ sym was) in
    ap (λ (fs : List Fall). ear_with (Some t) (cond (is_fall s.lines t.lines) (with_fall (fall_at t) fs) fs)) kept
    ∙ ap (λ (b : Bool). ear_with (Some t) (cond b (with_fall (fall_at t) ear.falls) ear.falls)) same

less : (a b : ℕ) → a < b → nat_lt a b ≡ true
less a b l = grind (arith)

later_after : (c d : ℕ) (last : Option Sample) → c < d → is_later_than c last ≡ true → is_later_than d last ≡ true
later_after c d None l h = refl
later_after c d (Some s) l h = grind (arith)

module _ (level : Bool) (s t : Sight) (later : s.cycle < t.cycle) (now : s.lines.clk ≡ level) where
  abbrev first : Sample
  first = sample s.cycle s.lines

  abbrev second : Sample
  second = sample t.cycle t.lines

  after_or_not : (ear : Ear) → (wires_at ear.last).clk ≡ level → (b : Bool) → is_later_than s.cycle ear.last ≡ b
      → ear_after t (cond b (heard first ear) ear) ≡ ear_after t ear
  after_or_not ear was false e = refl
  after_or_not ear was true e =
      ap (λ (b : Bool). cond b (heard second (heard first ear)) (heard first ear)) (less s.cycle t.cycle later)
      ∙ heard_less level first second ear was now
      ∙ sym (ap (λ (b : Bool). cond b (heard second ear) ear) (later_after s.cycle t.cycle ear.last later e))

  heard_again : (ear : Ear) (b : Bool) → (b ≡ true → (wires_at ear.last).clk ≡ level)
      → cond b (ear_after t (cond b (ear_after s ear) ear)) (cond b (ear_after s ear) ear) ≡ cond b (ear_after t ear) ear
  heard_again ear true was = after_or_not ear (was refl) (is_later_than s.cycle ear.last) refl
  heard_again ear false was = refl

-- where a probe listens
listens : (level clk b : Bool) → cond b (has_level level clk) true ≡ true → b ≡ true → clk ≡ level
listens level clk true e is = level_is level clk e
listens level clk false e is = absurd (cc is)

-- without arms nothing is counted
neither : (b : Bool) → cond b false false ≡ false
neither true = refl
neither false = refl

-- a probe that isn't armed meets nothing
pub unmet : (kind : ℕ) (arms : Option Arms) (ear : Ear) (s : Sight) → is_none arms ≡ true → met_as kind arms ear s ≡ false
unmet kind None ear s e = neither (kind == line_kind)
unmet kind (Some arms) ear s e = absurd (cc e)

unnoted : (n : ℕ) (s : Sight) (w : Watch) → is_none w.counted.arms ≡ true
    → looked n s w ≡ record { kind = w.kind; counted = w.counted; ear = listening w.kind s w.ear }
unnoted n s w e =
    ap (λ (b : Bool). record { kind = w.kind; counted = noted n b w.counted; ear = listening w.kind s w.ear })
    (unmet w.kind w.counted.arms w.ear s e)

-- so a probe that rests needn't look at a clock of this level, if it looks at a later state
pub rested : (level : Bool) (m n : ℕ) (s t : Sight) (w : Watch)
    → s.cycle < t.cycle → s.lines.clk ≡ level → rests level w ≡ true → looked n t (looked m s w) ≡ looked n t w
rested level m n s t w later now at_rest =
    let parts = and_parts (cond (w.kind == line_kind) (has_level level (wires_at w.ear.last).clk) true) (is_none w.counted.arms) at_rest in
    ap (looked n t) (unnoted m s w parts.1)
    ∙ unnoted n t (record { kind = w.kind; counted = w.counted; ear = listening w.kind s w.ear }) parts.1
    ∙ ap (λ (ear : Ear). record { kind = w.kind; counted = w.counted; ear = ear })
    (heard_again level s t later now w.ear (w.kind == line_kind) (listens level (wires_at w.ear.last).clk (w.kind == line_kind) parts.0))
    ∙ sym (unnoted n t w parts.1)

-- each of them
pub all_rested : (level : Bool) (m n : ℕ) (s t : Sight) (ws : List Watch)
    → s.cycle < t.cycle → s.lines.clk ≡ level → all_rest level ws ≡ true
    → map (looked n t) (map (looked m s) ws) ≡ map (looked n t) ws
all_rested level m n s t [] later now at_rest = refl
all_rested level m n s t (w ∷ ws) later now at_rest =
    let parts = and_parts (rests level w) (all_rest level ws) at_rest in
    ap (λ (v : Watch). v ∷ map (looked n t) (map (looked m s) ws)) (rested level m n s t w later now parts.0)
    ∙ ap (λ (vs : List Watch). looked n t w ∷ vs) (all_rested level m n s t ws later now parts.1)
