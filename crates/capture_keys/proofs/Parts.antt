-- Findings are followed in parts.
use Rattle.std.proofs.Common.{◌≡◌, List, [], ◌∷◌, ◌++◌, refl}
use Rattle.layout_reader.specs.Layouts.{KeyLayout}
use Rattle.capture_vcd.specs.declared.state.Sample.{Sample}
use Rattle.capture_frames.specs.declared.finding.Timed.{Timed}
use Rattle.capture_frames.specs.Listening.{Hearing, heard_at, hearing_after}
use Rattle.capture_lines.specs.Captures.{both, found_by}
use Rattle.capture_keys.specs.Typed.{Typist, followed, followed_all}

-- findings are followed in two parts, one after the other
pub followed_twice : (layout : KeyLayout) (xs ys : List Timed) (s : Typist)
    → followed_all layout (xs ++ ys) s ≡ followed_all layout ys (followed_all layout xs s)
followed_twice layout [] ys s = refl
followed_twice layout (x ∷ xs) ys s = followed_twice layout xs ys (followed layout x s)

-- to follow the findings of samples is to follow those of the first sample, and then those of the others
pub followed_further : (layout : KeyLayout) (h : Hearing) (s : Sample) (more : List Sample) (t : Typist)
    → followed_all layout (found_by h (s ∷ more)) t
    ≡ followed_all layout (found_by (hearing_after s.time s.lines h) more)
    (followed_all layout (both (heard_at s.time s.lines h).frame (heard_at s.time s.lines h).pulse) t)
followed_further layout h s more t =
    followed_twice layout (both (heard_at s.time s.lines h).frame (heard_at s.time s.lines h).pulse)
    (found_by (hearing_after s.time s.lines h) more) t
