-- A keyboard at power-on, and one that has been opened from there.
use Rattle.std.proofs.Common.{◌≡◌, ℕ, List, [], ap, sym, subst, ◌∙◌}
use Rattle.joint_run.specs.Due.{powered_on_from}
use Rattle.joint_run.specs.Filled.{filled}
use Rattle.joint_run.specs.History.{IsFirstOfRunFrom}
use Rattle.joint_run.specs.declared.machine.Machine.{Machine}
use Rattle.live_board.proofs.Stepping.{at_first}
use Rattle.live_board.specs.Pasts.{Past, untouched}
use Rattle.live_board.specs.Ready.{IsFirst, IsOpened}
use Rattle.live_board.specs.States.{HasPast}
use Rattle.live_board.specs.declared.parts.Parts.{Parts as Keyboard}

-- a keyboard whose machine is at power-on, for which nothing waits and of whose log nothing is kept, is at its start
pub at_start : (fill : ℕ) (bytes : List ℕ) (k : Keyboard)
    → k.joint ≡ powered_on_from (filled fill) bytes → IsFirstOfRunFrom (filled fill) k.joint
    → k.due.edges.items ≡ [] → k.due.host.items ≡ [] → (k.heard.items.items ≡ []) × (k.heard.lost ≡ 0) → IsFirst fill k
at_start fill bytes k is first edges host none = record {
  at_first = subst (λ b. HasPast (untouched fill b 0) k) (sym (ap (λ (m : Machine). m.image.bytes) is))
      (at_first fill bytes k is first edges host);
  cycle = ap (λ (m : Machine). m.cycle) is;
  none_kept = none;
}

-- a keyboard that was opened with a program was opened with the same program
pub opened_so : (fill : ℕ) (same bytes : List ℕ) (k : Keyboard) → same ≡ bytes → IsOpened fill same k → IsOpened fill bytes k
opened_so fill same bytes k is opened = subst (λ b. IsOpened fill b k) is opened

-- and so it is of the past that it has
pub past_so : (fill : ℕ) (same bytes : List ℕ) (k : Keyboard) → same ≡ bytes
    → ((p : Past) × (p.bytes ≡ same) × (p.held ≡ filled fill) × (p.edges ≡ []) × HasPast p k)
    → (p : Past) × (p.bytes ≡ bytes) × (p.held ≡ filled fill) × (p.edges ≡ []) × HasPast p k
past_so fill same bytes k is past = (past.0, past.1 ∙ is, past.2, past.3, past.4)
