-- A report is made, and a text appended, in parts.
use Rattle.std.proofs.Common.{◌≡◌, ℕ, true, List, [], ◌∷◌, ◌++◌, Some, None, refl, ◌∙◌, append_assoc}
use Rattle.std.specs.declared.option.Option.{Option}
use Rattle.capture_vcd.specs.declared.fault.VcdFault.{VcdFault}
use Rattle.capture_vcd.specs.declared.state.Sample.{Sample}
use Rattle.capture_frames.specs.declared.finding.Timed.{Timed}
use Rattle.capture_frames.specs.Listening.{Hearing, heard_at, hearing_after}
use Rattle.capture_lines.specs.Captures.{Report, both, found_by, is_fault_alone, reported, reported_all}

-- findings, and then others
pub reported_twice : (xs ys : List Timed) (report : Report) → reported_all (xs ++ ys) report ≡ reported_all ys (reported_all xs report)
reported_twice [] ys report = refl
reported_twice (x ∷ xs) ys report = reported_twice xs ys (reported x report)

-- those of a sample, and then the others
pub reported_further : (h : Hearing) (s : Sample) (more : List Sample) (report : Report)
    → reported_all (found_by h (s ∷ more)) report
    ≡ reported_all (found_by (hearing_after s.time s.lines h) more)
    (reported_all (both (heard_at s.time s.lines h).frame (heard_at s.time s.lines h).pulse) report)
reported_further h s more report =
    reported_twice (both (heard_at s.time s.lines h).frame (heard_at s.time s.lines h).pulse)
    (found_by (hearing_after s.time s.lines h) more) report

-- before a fault alone there is no line
pub alone_is_empty : (fault : Option VcdFault) (lines : List ℕ) → is_fault_alone fault lines ≡ true → lines ≡ []
alone_is_empty (Some fault) [] h = refl
alone_is_empty (Some fault) (byte ∷ lines) h = absurd (cc)
alone_is_empty None lines h = absurd (cc)

-- four texts that are appended one after another
pub four : (t a b c d x y z w : List ℕ) → x ≡ t ++ a → y ≡ x ++ b → z ≡ y ++ c → w ≡ z ++ d → w ≡ t ++ (a ++ b ++ c ++ d)
four t a b c d x y z w p q r s = let e : w ≡ (((t ++ a) ++ b) ++ c) ++ d = cc in e ∙ simp append_assoc

-- three texts put one after another are the text before with all three
pub three : (t a b c x y z : List ℕ) → x ≡ t ++ a → y ≡ x ++ b → z ≡ y ++ c → z ≡ t ++ (a ++ b ++ c)
three t a b c x y z p q r = let e : z ≡ ((t ++ a) ++ b) ++ c = cc in e ∙ simp append_assoc
