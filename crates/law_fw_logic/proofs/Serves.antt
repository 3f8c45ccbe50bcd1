-- A tick, however long its work takes: from a tick start to the next one.
use Rattle.std.proofs.Common.{◌≡◌, ◌≤◌, ◌<◌, ℕ, ◌+◌, ◌*◌, List, [], ◌∷◌, Bool, true, false, Some, leb}
use Rattle.std.proofs.Common.{refl, ap, sym, ◌∙◌, subst, arith, inl, inr, ◌⊎◌}
use Rattle.std.proofs.lemmas.Bool.Decides.{nat_tests}
use Rattle.mcs48_isa.specs.declared.operation.Op.TheVariants.{Moves}
use Rattle.mcs48_isa.specs.declared.operation.MoveOp.TheVariants.{MovAN}
use Rattle.mcs48_core.specs.Cpu.{Cpu}
use Rattle.fw_kernel.specs.declared.labels.TheConstants.{TICK}
use Rattle.fw_kernel.specs.Places.{HasKernel}
use Rattle.joint_run.specs.Run.{Board, World, after_cycles, seen, joint_step, after_step}
use Rattle.joint_run.specs.Starts.{Comes}
use Rattle.joint_run.specs.Starts.{Tick}
use Rattle.law_fw_logic.proofs.TimerParts.{IsTiming, timer_parts, total}
use Rattle.law_fw_logic.proofs.Path.{Stage, Run, Path, world_at}
use Rattle.law_fw_logic.proofs.Leads.{Leads}
use Rattle.law_fw_logic.proofs.Kernel.{kernel_in}
use Rattle.law_fw_logic.proofs.Blocks.{ticks_add}
use Rattle.law_fw_logic.proofs.Sound.{sound, stepped_is, ticks_from}
use Rattle.law_fw_logic.proofs.Laws.{comes_then}
use Rattle.law_fw_logic.proofs.Short.{has_rows}
use Rattle.law_fw_logic.proofs.Service.{entering}
use Rattle.law_fw_logic.proofs.Timers.{TimerState, IsInRange, Headed, run_on, headed}
use Rattle.law_fw_logic.proofs.Timers.{heads_timer}
use Rattle.law_fw_logic.proofs.Returning.{IsOver, IsTimed, Next, ends}

-- where a tick's work begins, whatever the timer is: it has just been written
abbrev pub work_cpu : TimerState → (ℕ → ℕ) → List ℕ → Cpu → Cpu
work_cpu l f ring m = record (entering l f ring m) { pc = TICK + 3; a = 192 }

abbrev pub work_at : (d : Board) → ℕ → TimerState → (ℕ → ℕ) → List ℕ → Cpu → d.State → Stage d.State
work_at d x l f ring m board =
    record { cpu = work_cpu l f ring m; board = after_cycles 3 x (d.cycle m.p2) board; off = 3 }

module _ (d : Board) (bytes : List ℕ) (has : HasKernel bytes) where
  -- the first instruction
  abbrev pub second : ℕ → TimerState → Bool → (ℕ → ℕ) → List ℕ → Cpu → d.State → Stage d.State
  second x b t1 f ring m board =
      record {
        cpu = record (entering (run_on 2 t1 b) f ring m) { pc = TICK + 2; a = 192 };
        board = after_cycles 2 x (d.cycle m.p2) board;
        off = 2;
      }

  -- the first instruction of a tick takes two cycles
  pub first_step : (x : ℕ) (b : TimerState) (f : ℕ → ℕ) (ring : List ℕ) (m : Cpu) (board : d.State)
      → joint_step d bytes (record { cpu = entering b f ring m; board = board; cycle = x })
      ≡ Some (world_at x (second x b (d.pins m.p1 m.p2 x board).t1 f ring m board))
  first_step x b f ring m board =
      let w : World d.State = record { cpu = entering b f ring m; board = board; cycle = x } in
      ap (λ o. after_step d w o) (stepped_is bytes (seen d w) w.cpu
      (record { op = Moves (MovAN 192); len = 2; cycles = 2 }) (inl refl)
      (has_rows true bytes has TICK (record { op = Moves (MovAN 192); len = 2; cycles = 2 }) refl).0)

  -- the second, which writes the timer
  abbrev pub IsSet : ℕ → TimerState → Bool → (ℕ → ℕ) → List ℕ → Cpu → d.State → Stage d.State → Type 0
  IsSet x b t1 f ring m board e =
      (e.cpu ≡ work_cpu (headed e.cpu.last_t1 t1 b) f ring m) × (e.off ≡ 3)
      × (e.board ≡ after_cycles 1 2 (λ o. d.cycle m.p2 (x + o)) (after_cycles 2 x (d.cycle m.p2) board))

  -- the second instruction of a tick writes the timer
  pub sets : (x : ℕ) (b : TimerState) (t1 : Bool) (f : ℕ → ℕ) (ring : List ℕ) (m : Cpu) (board : d.State)
      → Path d (kernel_in false bytes) x (Run 1 ∷ []) (second x b t1 f ring m board) (IsSet x b t1 f ring m board)
  sets x b t1 f ring m board = (refl, refl, refl)

  comes : (code : Bool) (x : ℕ) (s : Stage d.State) (Q : Stage d.State → Type 0)
      → Leads d (kernel_in code bytes) x s Q
      → Comes d TICK bytes (world_at x s) (λ w. (e : Stage d.State) × (w ≡ world_at x e) × Q e)
  comes code x s Q h = record { steps = h.steps; end = world_at x h.end; run = h.run; goal = (h.end, refl, h.goal) }

  -- where the work of a tick has led, the timer is as it should be
  work_timed : (x : ℕ) (b l : TimerState) → Headed b l → (f : ℕ → ℕ) (ring : List ℕ) (m : Cpu) (board : d.State)
      (last_off : ℕ) (R : (ℕ → ℕ) → List ℕ → Stage d.State → Type 0)
      (does : Leads d (kernel_in true bytes) x (work_at d x l f ring m board) (IsOver d last_off R))
      → IsTimed b last_off does.end.off does.end.cpu
  work_timed x b l head f ring m board last_off R does =
      let end = does.end in
      let short : end.off ≤ last_off = does.goal.short in
      let timing : IsTiming (timer_parts (work_cpu l f ring m)) =
      record { run = refl; pre = head.range.pre; t = head.range.t } in
      let over = does.over refl timing refl in
      record {
        timing = over.timing;
        asks = by end.cpu.rq refl;
        punctual = λ late few is room.
            let p = head.prompt late few is in
            let sum : 32 * l.t + l.pre ≡ 6149 + late = p.0 in
            let timer_later = does.timer_later refl timing (omega (arith, sum, few, short, room)) in
            let count : total (timer_parts end.cpu) + 3 ≡ 32 * l.t + l.pre + end.off = timer_later.count in
            (timer_later.rq ∙ p.1, omega (arith, count, sum));
        counted = λ rest.
            let n : ℕ = over.counts.0 in
            let count : total (timer_parts end.cpu) + 3 + 8192 * n ≡ 32 * l.t + l.pre + end.off = over.counts.1 in
            record {
              first = 32 * l.t + l.pre;
              least = head.least;
              most = head.most;
              overflows = n;
              count = count;
              none = λ is.
                  let pre : end.cpu.pre < 32 = over.timing.pre in
                  let t : end.cpu.t < 256 = over.timing.t in
                  (does.timer_later refl timing (omega (arith, count, is, pre, t))).rq ∙ head.rested rest;
            };
      }
    where
      by : (q : Bool) → does.end.cpu.rq ≡ q
          → (does.end.cpu.rq ≡ true) ⊎ ((does.end.cpu.rq ≡ false) × (6144 + does.end.off ≤ total (timer_parts does.end.cpu) + 3))
      by true e = inl e
      by false e = inr (e, least (leb (8192 + 3) (32 * l.t + l.pre + does.end.off)) refl)
        where
          timing : IsTiming (timer_parts (work_cpu l f ring m))
          timing = record { run = refl; pre = head.range.pre; t = head.range.t }

          least : (x : Bool) → leb (8192 + 3) (32 * l.t + l.pre + does.end.off) ≡ x
              → 6144 + does.end.off ≤ total (timer_parts does.end.cpu) + 3
          least true h =
              let over = does.over refl timing refl in
              absurd (let both : true ≡ false = sym (over.asks (grind (arith, nat_tests, h))) ∙ e in cc)
          least false h =
              let timer_later = does.timer_later refl timing (grind (arith, nat_tests, h)) in
              let count : total (timer_parts does.end.cpu) + 3 ≡ 32 * l.t + l.pre + does.end.off = timer_later.count in
              let begun : 6144 ≤ 32 * l.t + l.pre = head.least in
              omega (arith, count, begun)

  -- from the work's beginning to the next start
  pub works_on : (x : ℕ) (b l : TimerState) → Headed b l → (f : ℕ → ℕ) (ring : List ℕ) (m : Cpu) (board : d.State)
      (last_off : ℕ) (R : (ℕ → ℕ) → List ℕ → Stage d.State → Type 0)
      (does : Leads d (kernel_in true bytes) x (work_at d x l f ring m board) (IsOver d last_off R))
      → Comes d TICK bytes (world_at x does.end) (Next d x b last_off R)
  works_on x b l head f ring m board last_off R does =
      ends d bytes has x b last_off R does.end does.goal (work_timed x b l head f ring m board last_off R does)

  -- from a tick start to the next, by the law of the work
  pub serves : (x : ℕ) (b : TimerState) → IsInRange b → (f : ℕ → ℕ) (ring : List ℕ) (m : Cpu) (board : d.State)
      → (last_off : ℕ) → (R : (ℕ → ℕ) → List ℕ → Stage d.State → Type 0)
      → ((l : TimerState) → IsInRange l → Leads d (kernel_in true bytes) x (work_at d x l f ring m board)
      (IsOver d last_off R))
      → Tick d TICK bytes (record { cpu = entering b f ring m; board = board; cycle = x }) (Next d x b last_off R)
  serves x b range f ring m board last_off R work =
      let t1 : Bool = (d.pins m.p1 m.p2 x board).t1 in
      let two = second x b t1 f ring m board in
      let step = d.cycle m.p2 in
      let set = sound d (kernel_in false bytes) (has_rows false bytes has) x (Run 1 ∷ [])
      (IsSet x b t1 f ring m board) two (sets x b t1 f ring m board) (inl refl) in
      record {
        at = refl;
        first = world_at x two;
        step = first_step x b f ring m board;
        rest =
            comes_then d TICK bytes (λ w. (e : Stage d.State) × (w ≡ world_at x e) × IsSet x b t1 f ring m board e)
            (Next d x b last_off R) (world_at x two)
            (comes false x two (IsSet x b t1 f ring m board) set)
            (λ w h.
            let e = h.0 in
            let l : TimerState = headed e.cpu.last_t1 t1 b in
            let head : Headed b l = heads_timer e.cpu.last_t1 t1 b range in
            let at : Stage d.State = work_at d x l f ring m board in
            let same : w ≡ world_at x at =
            h.1 ∙ ap (λ c. world_at x (record { cpu = c; board = e.board; off = e.off })) h.2.0
            ∙ ap (λ o. world_at x (record { cpu = at.cpu; board = e.board; off = o })) h.2.1
            ∙ ap (λ b. world_at x (record { cpu = at.cpu; board = b; off = 3 }))
            (h.2.2 ∙ sym (ticks_from 1 2 x step (after_cycles 2 x step board)) ∙ sym (ticks_add 2 1 x step board)) in
            let does = work l head.range in
            subst (λ v. Comes d TICK bytes v (Next d x b last_off R)) (sym same)
            (comes_then d TICK bytes (λ v. v ≡ world_at x does.end) (Next d x b last_off R) (world_at x at)
            (record { steps = does.steps; end = world_at x does.end; run = does.run; goal = refl })
            (λ v is. subst (λ v. Comes d TICK bytes v (Next d x b last_off R)) (sym is)
            (works_on x b l head f ring m board last_off R does))));
      }
