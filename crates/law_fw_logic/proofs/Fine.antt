-- A run between two tick starts leaves bytes bytes, as each of its steps does.
use Rattle.std.proofs.Common.{◌≡◌, ℕ, suc, zero, ◌+◌, List, Bool, true, false, Some, None, All, refl, subst}
use Rattle.std.specs.declared.option.Option.{Option}
use Rattle.mcs48_core.specs.Step.{Stepped, stepped}
use Rattle.mcs48_ranges.specs.Sizes.{IsByte, IsFine, IsFinePins}
use Rattle.mcs48_ranges.proofs.Steps.{stepped_fine}
use Rattle.joint_run.specs.Run.{Board, World, after_cycles, seen, after_step, joint_step}
use Rattle.joint_run.specs.Starts.{at_tick, calm}

module _ (d : Board) (tick : ℕ) (bytes : List ℕ) (b : All IsByte bytes)
    (levels : (p1 p2 x : ℕ) (s : d.State) → IsFinePins (d.pins p1 p2 x s)) where
  next_fine : (w e : World d.State) → IsFine w.cpu → (o : Option Stepped) → stepped bytes (seen d w) w.cpu ≡ o
      → after_step d w o ≡ Some e → IsFine e.cpu
  next_fine w e h None step is = absurd cc
  next_fine w e h (Some n) step is =
      let f = stepped_fine bytes (seen d w) w.cpu n b (levels w.cpu.p1 w.cpu.p2 w.cycle w.board) h step in
      let same : record {
        cpu = n.cpu;
        board = after_cycles n.cycles w.cycle (d.cycle n.cpu.p2) w.board;
        cycle = w.cycle + n.cycles;
      } ≡ e =
      cc in
      subst (λ v. IsFine v.cpu) same f

  calm_by : (k : ℕ) (w e : World d.State)
      → ((v : World d.State) → IsFine v.cpu → calm d tick bytes k v ≡ Some e → IsFine e.cpu) → IsFine w.cpu
      → (c : Bool) → (o : Option (World d.State)) → joint_step d bytes w ≡ o
      → (elim (elim c as (λ v. Option (World d.State)) [ true ↦ None | false ↦ o ]) as (λ v. Option
      (World d.State)) [ None ↦ None | Some v ↦ calm d tick bytes k v ]) ≡ Some e
      → IsFine e.cpu
  calm_by k w e ih h true o step is = absurd cc
  calm_by k w e ih h false None step is = absurd cc
  calm_by k w e ih h false (Some v) step is = ih v (next_fine w v h (stepped bytes (seen d w) w.cpu) refl step) is

  -- steps between two tick starts keep all ranges of the processor
  pub calm_fine : (k : ℕ) (w e : World d.State) → IsFine w.cpu → calm d tick bytes k w ≡ Some e → IsFine e.cpu
  calm_fine zero w e h is = let same : w ≡ e = cc in subst (λ v. IsFine v.cpu) same h
  calm_fine (suc k) w e h is =
      calm_by k w e (λ v g i. calm_fine k v e g i) h (at_tick d tick w) (joint_step d bytes w) refl is
