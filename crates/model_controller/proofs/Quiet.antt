-- Quiet cycles in two spans.
use Rattle.std.proofs.Common.{◌≡◌, ℕ, suc, zero, ◌+◌, List, ap, ◌∙◌, arith}
use Rattle.board_terms.specs.declared.event.HostEvent.{HostEvent}
use Rattle.host_turn.specs.Run.{Side}
use Rattle.model_controller.specs.declared.UnderWay.{UnderWay}
use Rattle.model_controller.specs.ByteTime.{quietly, byte_cycle, Quiet}

-- k cycles are m cycles and n more
pub quiet_more : (events : List HostEvent) (m n k now : ℕ) (s : Side UnderWay) → m + n ≡ k
    → quietly events k now s ≡ quietly events n (m + now) (quietly events m now s)
quiet_more events zero n k now s e =
    let a : k ≡ n = omega (arith, e) in
    let z : now ≡ 0 + now = omega arith in
    ap (λ j. quietly events j now s) a ∙ ap (λ j. quietly events n j s) z
quiet_more events (suc m) n zero now s e = absurd (omega (arith, e))
quiet_more events (suc m) n (suc k) now s e =
    let z : m + suc now ≡ suc m + now = omega arith in
    quiet_more events m n k (suc now) (byte_cycle events now Quiet s) (omega (arith, e))
    ∙ ap (λ j. quietly events n j (quietly events (suc m) now s)) z
