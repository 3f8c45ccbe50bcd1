-- The cells of a frame in byte time, as quiet cycles with the closing edge between.
use Rattle.std.proofs.Common.{◌≡◌, ℕ, suc, zero, ◌+◌, ◌*◌, ◌≤◌, List, true, false, ap, sym, ◌∙◌, arith}
use Rattle.std.specs.Prelude.{if◌then◌else◌, ◌==◌}
use Rattle.std.proofs.lemmas.Bool.Decides.{nat_tests}
use Rattle.board_terms.specs.declared.event.HostEvent.{HostEvent}
use Rattle.host_turn.specs.Run.{Side}
use Rattle.model_controller.specs.declared.UnderWay.{UnderWay}
use Rattle.model_controller.specs.ByteTime.{quietly, byte_cycle, Quiet, Begins, Closes}
use Rattle.model_controller.proofs.Quiet.{quiet_more}
use Rattle.law_wires_agree.specs.InFrame.{at_edge, up_to}

module _ (events : List HostEvent) (now : ℕ) (m : Side UnderWay) where
  -- up to the tenth edge a frame is in byte time its begin and then quiet cycles
  pub quiet_cells : (k n : ℕ) → k ≤ 8
      → up_to events true k n now m ≡ quietly events (32 * k + n) (suc now) (byte_cycle events now (Begins true) m)
  quiet_cells zero n l = let z : n ≡ 32 * 0 + n = omega arith in
      ap (λ j. quietly events j (suc now) (byte_cycle events now (Begins true) m)) z
  quiet_cells (suc k) n l =
      let x : ℕ = 32 * suc k + now in
      let y : Side UnderWay = byte_cycle events now (Begins true) m in
      let no : (k == 8) ≡ false = grind (arith, nat_tests, l) in
      let e : 32 * k + 31 + suc n ≡ 32 * suc k + n = omega arith in
      let z : 32 * k + 31 + suc now ≡ x = omega arith in
      ap (λ c. quietly events n (suc x) (byte_cycle events x (if c then Closes else Quiet) (up_to events true k 31 now m))) no
      ∙ ap (λ v. quietly events (suc n) x v) (quiet_cells k 31 (omega (arith, l)))
      ∙ sym (quiet_more events (32 * k + 31) (suc n) (32 * suc k + n) (suc now) y e
      ∙ ap (λ j. quietly events (suc n) j (quietly events (32 * k + 31) (suc now) y)) z)

  -- with the tenth edge, which closes it, a frame is in byte time its begin, its closing and quiet cycles
  pub all_cells : (n : ℕ)
      → up_to events true 9 n now m
      ≡ quietly events n (289 + now)
      (byte_cycle events (288 + now) Closes (quietly events 287 (suc now) (byte_cycle events now (Begins true) m)))
  all_cells n =
      let z : suc (288 + now) ≡ 289 + now = omega arith in
      ap (λ j. quietly events n j (byte_cycle events (288 + now) (at_edge true 9) (up_to events true 8 31 now m))) z
      ∙ ap (λ v. quietly events n (289 + now) (byte_cycle events (288 + now) Closes v)) (quiet_cells 8 31 (omega arith))
