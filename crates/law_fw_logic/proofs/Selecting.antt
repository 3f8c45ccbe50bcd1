-- The latch of port 1 along a path: of each instruction, in each of its cycles.
use Rattle.std.proofs.Common.{◌≡◌, ◌≤◌, ◌<◌, ℕ, suc, zero, ◌+◌, ◌-◌, ◌%◌, Bool, true, false, ◌&&◌, ◌==◌}
use Rattle.std.proofs.Common.{Some, None, refl, ap, sym, ◌∙◌, subst, arith}
use Rattle.std.proofs.lemmas.Bool.Decides.{nat_tests}
use Rattle.std.specs.declared.option.Option.{Option}
use Rattle.bits.proofs.Every.{both, same_of}
use Rattle.mcs48_isa.specs.declared.operation.Decoded.{Decoded}
use Rattle.mcs48_core.specs.Registers.{past}
use Rattle.joint_run.specs.Run.{Board, World, joint_step}
use Rattle.joint_run.specs.Starts.{calm}
use Rattle.law_fw_logic.proofs.Between.{first_of, same_next}
use Rattle.law_fw_logic.proofs.Chain.{calm_add, each_add, one_step, taken_closed}
use Rattle.law_fw_logic.proofs.TimerParts.{IsFree}
use Rattle.law_fw_logic.proofs.Groups.{effect_free}
use Rattle.law_fw_logic.proofs.Leads.{HasRows}
use Rattle.law_fw_logic.proofs.Path.{Stage, Code, Quiet, Plainly, world_at, pins_at, moved, left, is_taken}
use Rattle.fw_kernel.specs.declared.labels.TheConstants.{TICK}

module _ (d : Board) (code : Code) (tick : code.tick ≡ TICK) (has : HasRows code) (x : ℕ) (latch : ℕ → ℕ) where
  -- so many instructions, the first of which leave the latch as is said, reported in equations
  abbrev pub Shown : ℕ → Stage d.State → (Stage d.State → Type 0) → Type 0
  Shown zero s K = K s
  Shown (suc n) s K =
      Quiet d code x s (λ t. (t.cpu.p1 ≡ latch s.off) × (t.cpu.p1 ≡ latch (t.off - 1)) × Shown n t K)

  -- and reported by one test of them all, where the latch is a numeral
  abbrev pub Traced : ℕ → Stage d.State → Bool → (Stage d.State → Type 0) → Type 0
  Traced zero s b K = (b ≡ true) × K s
  Traced (suc n) s b K =
      Quiet d code x s (λ t. Traced n t (b && ((t.cpu.p1 == latch s.off) && (t.cpu.p1 == latch (t.off - 1)))) K)

  -- in each cycle of the step from a state the latch of port 1 is this
  abbrev Latches : World d.State → Type 0
  Latches one = (c : ℕ) (next : World d.State) → joint_step d code.bytes one ≡ Some next → one.cycle ≤ c
      → c < next.cycle → next.cpu.p1 ≡ latch (c - x)

  -- the run comes from a stage to one of the set, and the latch is this on the way
  pub record Observed (s : Stage d.State) (K : Stage d.State → Type 0) : Type 0 where
    pub steps : ℕ
    pub end : Stage d.State
    pub run : calm d code.tick code.bytes steps (world_at x s) ≡ Some (world_at x end)
    pub each : (k : ℕ) (one : World d.State) → k < steps → calm d code.tick code.bytes k (world_at x s) ≡ Some one
        → Latches one
    pub goal : K end

  -- one step, with what follows it
  step_reported : (K : Stage d.State → Type 0) (s t : Stage d.State)
      → calm d code.tick code.bytes 1 (world_at x s) ≡ Some (world_at x t)
      → t.off ≤ s.off + 2 → t.cpu.p1 ≡ latch s.off → t.cpu.p1 ≡ latch (t.off - 1) → Observed t K → Observed s K
  step_reported K s t run long one two rest = record {
    steps = 1 + rest.steps;
    end = rest.end;
    run = calm_add d code has x 1 rest.steps (world_at x s) (world_at x t) run ∙ rest.run;
    each = each_add d code has x Latches 1 rest.steps (world_at x s) (world_at x t) run first rest.each;
    goal = rest.goal;
  }
    where
      run_here : calm d TICK code.bytes 1 (world_at x s) ≡ Some (world_at x t)
      run_here = ap (λ p. calm d p code.bytes 1 (world_at x s)) (sym tick) ∙ run

      in_cycle : (c : ℕ) → x + s.off ≤ c → c < x + t.off → t.cpu.p1 ≡ latch (c - x)
      in_cycle c a l = by (c - x == s.off) refl
        where
          by : (b : Bool) → (c - x == s.off) ≡ b → t.cpu.p1 ≡ latch (c - x)
          by true e = one ∙ ap latch (sym (same_of (c - x) s.off e))
          by false e =
              let other : c - x ≡ t.off - 1 = grind (arith, nat_tests, e, a, l, long) in two ∙ ap latch (sym other)

      first : (k : ℕ) (here : World d.State) → k < 1 → calm d code.tick code.bytes k (world_at x s) ≡ Some here
          → Latches here
      first k here l at c next step a low =
          let none : k ≡ 0 = omega (arith, l) in
          let now : Some (world_at x s) ≡ Some here =
          ap (λ i. calm d code.tick code.bytes i (world_at x s)) (sym none) ∙ at in
          let same : world_at x s ≡ here = cc in
          let f = first_of d code.bytes 0 (world_at x s) (world_at x t) run_here in
          let end : Some f.next ≡ Some (world_at x t) = f.rest in
          let to : f.next ≡ world_at x t = cc in
          let there : f.next ≡ next =
          same_next d code.bytes (world_at x s) f.next next f.step (ap (joint_step d code.bytes) same ∙ step) in
          let is : world_at x t ≡ next = sym to ∙ there in
          ap (λ (v : World d.State). v.cpu.p1) (sym is)
          ∙ in_cycle c (subst (λ (v : World d.State). v.cycle ≤ c) (sym same) a)
          (subst (λ (v : World d.State). c < v.cycle) (sym is) low)

  -- an instruction, and what is to be shown after it
  pub record Done (s : Stage d.State) (K : Stage d.State → Type 0) : Type 0 where
    pub next : Stage d.State
    pub run : calm d code.tick code.bytes 1 (world_at x s) ≡ Some (world_at x next)
    pub long : next.off ≤ s.off + 2
    pub free : IsFree next.cpu
    pub rest : K next

  quiet : (K : Stage d.State → Type 0) (s : Stage d.State) → IsFree s.cpu → Quiet d code x s K → Done s K
  quiet K s free h = on (s.cpu.pc % 2048 == code.tick) refl h
    where
      taken : (r : Decoded) → code.row s.cpu.pc ≡ Some r → (s.cpu.pc % 2048 == code.tick) ≡ false → (b : Bool)
          → is_taken code.timed r.op ≡ b
          → (elim b as (λ v. Type 0) [ true ↦ K (moved d x r.cycles (left d code x r s) s) | false ↦ ⊥ ])
          → Done s K
      taken r row off false is g = absurd g
      taken r row off true is g =
          let w = has s.cpu.pc r row in
          let few : r.cycles ≤ 2 = w.1 in
          record {
            next = moved d x r.cycles (left d code x r s) s;
            run = one_step d code has x s r free w.0 off;
            long = omega (arith, few);
            free = effect_free r.op code.bytes (pins_at d x s) (past s.cpu) (taken_closed d code has x code.timed r.op is) free;
            rest = g;
          }

      plain : (o : Option Decoded) → code.row s.cpu.pc ≡ o → (s.cpu.pc % 2048 == code.tick) ≡ false
          → Plainly d code x o s K → Done s K
      plain None row off g = absurd g
      plain (Some r) row off g = taken r row off (is_taken code.timed r.op) refl g

      on : (b : Bool) → (s.cpu.pc % 2048 == code.tick) ≡ b
          → (elim b as (λ v. Type 0) [ true ↦ ⊥ | false ↦ Plainly d code x (code.row s.cpu.pc) s K ]) → Done s K
      on true off g = absurd g
      on false off g = plain (code.row s.cpu.pc) refl off g

  -- instructions that were each found to select their column do so on the whole way
  pub shown : (n : ℕ) (K Q : Stage d.State → Type 0) (s : Stage d.State) → IsFree s.cpu
      → ((e : Stage d.State) → IsFree e.cpu → K e → Observed e Q) → Shown n s K → Observed s Q
  shown zero K Q s free more h = more s free h
  shown (suc n) K Q s free more h =
      let q = quiet (λ t. (t.cpu.p1 ≡ latch s.off) × (t.cpu.p1 ≡ latch (t.off - 1)) × Shown n t K) s free h in
      step_reported Q s q.next q.run q.long q.rest.0 q.rest.1 (shown n K Q q.next q.free more q.rest.2)

  -- instructions that one test found to select their columns do so on the whole way
  pub traced : (n : ℕ) (s : Stage d.State) (b : Bool) (K : Stage d.State → Type 0) → IsFree s.cpu → Traced n s b K
      → (b ≡ true) × Observed s K
  traced zero s b K free h = (
    h.0,
    record { steps = 0; end = s; run = refl; each = λ k one l at. absurd (omega (arith, l)); goal = h.1 },
  )
  traced (suc n) s b K free h =
      let decides : Stage d.State → Bool = λ t. (t.cpu.p1 == latch s.off) && (t.cpu.p1 == latch (t.off - 1)) in
      let q = quiet (λ t. Traced n t (b && decides t) K) s free h in
      let t = q.next in
      let r = traced n t (b && decides t) K q.free q.rest in
      let one = both b (decides t) r.0 in
      let two = both (t.cpu.p1 == latch s.off) (t.cpu.p1 == latch (t.off - 1)) one.1 in (
        one.0,
        step_reported K s t q.run q.long (same_of t.cpu.p1 (latch s.off) two.0) (same_of t.cpu.p1 (latch (t.off - 1)) two.1) r.1,
      )
