-- Cycles in which nothing happens may be left out.
use Rattle.std.proofs.Common.{◌≡◌, ℕ, suc, zero, ◌+◌, List, ap, ◌∙◌, arith, refl}
use Rattle.std.specs.Prelude.{slice_get}
use Rattle.std.proofs.lemmas.List.{append-nil}
use Rattle.board_terms.specs.declared.event.HostEvent.{HostEvent}
use Rattle.host_turn.specs.Run.{Side, goes_on, with_cycled, desk_of}
use Rattle.host_wakes.specs.Wakes.{SleepsTo}
use Rattle.model_controller.specs.declared.UnderWay.{UnderWay}
use Rattle.model_controller.specs.ByteTime.{Quiet, byte_cycle, is_open, quietly}

-- so the cycles up to there may be left out
pub leaps : (events : List HostEvent) (n now : ℕ) (s : Side UnderWay)
    → SleepsTo is_open (slice_get events s.done) (desk_of s) now (now + n) → quietly events n now s ≡ s
unfolding byte_cycle goes_on
leaps events zero now s h = refl
leaps events (suc n) now s h =
    let one : byte_cycle events now Quiet s ≡ s =
    ap (λ c. with_cycled now c s) (h now (omega arith) (omega arith)) ∙ ap (λ v. record s { log = v }) (append-nil s.log) in
    ap (λ v. quietly events n (suc now) v) one
    ∙ leaps events n (suc now) s (λ y l u. h y (omega (arith, l)) (omega (arith, u)))
