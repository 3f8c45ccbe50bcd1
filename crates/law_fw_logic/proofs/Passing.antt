-- How the run passes through a tick: by the service's end, to the next start.
use Rattle.std.proofs.Common.{◌≡◌, ◌<◌, ℕ, ◌+◌, List, [], ◌∷◌, Bool, true, false, Some, slice_index}
use Rattle.std.proofs.Common.{refl, ap, sym, ◌∙◌, subst, inl}
use Rattle.mcs48_core.specs.Cpu.{Cpu}
use Rattle.fw_kernel.specs.declared.labels.TheConstants.{TICK, WAIT, DONE}
use Rattle.fw_kernel.specs.Places.{HasKernel}
use Rattle.joint_run.specs.Run.{Board, World, after_cycles, joint_step}
use Rattle.joint_run.specs.Starts.{at_tick, calm, Comes}
use Rattle.law_fw_logic.proofs.Path.{Stage, Run, world_at}
use Rattle.law_fw_logic.proofs.Leads.{Leads, LetsNone}
use Rattle.law_fw_logic.proofs.Kernel.{kernel_in}
use Rattle.law_fw_logic.proofs.Blocks.{ticks_add}
use Rattle.law_fw_logic.proofs.Chain.{calm_add, each_add}
use Rattle.law_fw_logic.proofs.Sound.{sound, ticks_from}
use Rattle.law_fw_logic.proofs.Laws.{comes_as}
use Rattle.law_fw_logic.proofs.Short.{has_rows}
use Rattle.law_fw_logic.proofs.Service.{entering}
use Rattle.law_fw_logic.proofs.Returning.{IsOver, Next}
use Rattle.law_fw_logic.proofs.Serves.{work_at, second, first_step, IsSet, sets, works_on}
use Rattle.law_fw_logic.proofs.Timers.{TimerState, IsInRange, Headed, headed, heads_timer}

-- from a state of the service to its end and on to the next start: no instruction on the way ends the service, and the
-- way back is on the stack there
pub record Through (d : Board) (bytes : List ℕ) (w : World d.State) : Type 0 where
  pub steps : ℕ
  pub done : World d.State
  pub run : calm d TICK bytes steps w ≡ Some done
  pub each : (k : ℕ) (one : World d.State) → k < steps → calm d TICK bytes k w ≡ Some one → LetsNone bytes one.cpu
  pub place : done.cpu.pc ≡ DONE
  pub low : slice_index done.cpu.ram 8 ≡ WAIT
  pub high : slice_index done.cpu.ram 9 ≡ 16
  pub rest : Comes d TICK bytes done (λ v. at_tick d TICK v ≡ true)

-- the same from a tick start, whose step is the first
pub record Passes (d : Board) (bytes : List ℕ) (w : World d.State) : Type 0 where
  pub first : World d.State
  pub step : joint_step d bytes w ≡ Some first
  pub through : Through d bytes first

module _ (d : Board) (bytes : List ℕ) (has : HasKernel bytes) where
  -- by the law of the work
  pub passes : (x : ℕ) (b : TimerState) → IsInRange b → (f : ℕ → ℕ) (ring : List ℕ) (m : Cpu) (board : d.State)
      → (last_off : ℕ) → (R : (ℕ → ℕ) → List ℕ → Stage d.State → Type 0)
      → ((l : TimerState) → IsInRange l → Leads d (kernel_in true bytes) x (work_at d x l f ring m board)
      (IsOver d last_off R))
      → Passes d bytes (record { cpu = entering b f ring m; board = board; cycle = x })
  passes x b range f ring m board last_off R work =
      let t1 : Bool = (d.pins m.p1 m.p2 x board).t1 in
      let two = second d bytes has x b t1 f ring m board in
      let step = d.cycle m.p2 in
      let set = sound d (kernel_in false bytes) (has_rows false bytes has) x (Run 1 ∷ [])
      (IsSet d bytes has x b t1 f ring m board) two (sets d bytes has x b t1 f ring m board) (inl refl) in
      let e = set.end in
      let l : TimerState = headed e.cpu.last_t1 t1 b in
      let head : Headed b l = heads_timer e.cpu.last_t1 t1 b range in
      let at : Stage d.State = work_at d x l f ring m board in
      let same : world_at x e ≡ world_at x at =
      ap (λ c. world_at x (record { cpu = c; board = e.board; off = e.off })) set.goal.0
      ∙ ap (λ o. world_at x (record { cpu = at.cpu; board = e.board; off = o })) set.goal.1
      ∙ ap (λ b. world_at x (record { cpu = at.cpu; board = b; off = 3 }))
      (set.goal.2 ∙ sym (ticks_from 1 2 x step (after_cycles 2 x step board)) ∙ sym (ticks_add 2 1 x step board)) in
      let does = work l head.range in
      let end = does.end in
      let over = does.goal in
      let begin : World d.State = world_at x two in
      record {
        first = begin;
        step = first_step d bytes has x b f ring m board;
        through = record {
          steps = set.steps + does.steps;
          done = world_at x end;
          run =
              calm_add d (kernel_in true bytes) (has_rows true bytes has) x set.steps does.steps begin (world_at x e) set.run
              ∙ ap (λ v. calm d TICK bytes does.steps v) same ∙ does.run;
          each = each_add d (kernel_in true bytes) (has_rows true bytes has) x (λ v. LetsNone bytes v.cpu) set.steps
              does.steps begin (world_at x e) set.run set.each
              (λ k one l h. does.each k one l (ap (λ v. calm d TICK bytes k v) (sym same) ∙ h));
          place = ap (λ (c : Cpu). c.pc) over.cpu;
          low = ap (λ (c : Cpu). slice_index c.ram 8) over.cpu ∙ over.low;
          high = ap (λ (c : Cpu). slice_index c.ram 9) over.cpu ∙ over.high;
          rest =
              comes_as d TICK bytes (Next d x b last_off R) (λ v. at_tick d TICK v ≡ true) (world_at x end)
              (λ v n. subst (λ (u : World d.State). at_tick d TICK u ≡ true) (sym n.is) refl)
              (works_on d bytes has x b l head f ring m board last_off R does);
        };
      }
