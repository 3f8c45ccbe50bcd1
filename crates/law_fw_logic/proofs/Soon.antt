-- From a look at the clock wire to the next: the rows between take 24 cycles at most.
use Rattle.std.proofs.Common.{◌≡◌, ◌≤◌, ◌<◌, ℕ, suc, zero, ◌+◌, ◌-◌, List, Bool, true, false, not, ◌&&◌, ◌||◌, nat_le}
use Rattle.std.proofs.Common.{Some, None, if◌then◌else◌, refl, ap, sym, ◌∙◌, subst, inl, arith}
use Rattle.std.proofs.lemmas.Bool.Decides.{nat_tests}
use Rattle.std.specs.List.{list_all}
use Rattle.std.specs.declared.option.Option.{Option}
use Rattle.bits.proofs.Every.{every_below, at_each, both}
use Rattle.fw_kernel.specs.Places.{HasKernel}
use Rattle.mcs48_core.specs.Cpu.{Cpu}
use Rattle.mcs48_core.specs.Step.{Stepped, stepped, row_at}
use Rattle.mcs48_isa.specs.declared.operation.Decoded.{Decoded}
use Rattle.joint_run.specs.Run.{Board, World, seen, joint_step, step_on, run_at}
use Rattle.law_fw_logic.specs.Executed.{row_looks, looks, is_over, LooksSoon}
use Rattle.law_fw_logic.proofs.Between.{step_of}
use Rattle.law_fw_logic.proofs.Chain.{stepped_is}
use Rattle.law_fw_logic.proofs.TimerParts.{is_closed}
use Rattle.law_fw_logic.proofs.Following.{Stays, nexts, follows}
use Rattle.law_fw_logic.proofs.Image.{row_is}
use Rattle.law_fw_logic.proofs.Kernel.{kernel_row}
use Rattle.law_fw_logic.proofs.Late.{left}
use Rattle.law_fw_logic.proofs.Placed.{in_main, in_service, main_at, service_at, ServiceRow}
use Rattle.law_fw_logic.proofs.Turns.{IsMain, IsServing, serve_step}

-- a place at which a look comes next, or from which on no byte is being sent
abbrev ends : ℕ → Bool
ends p = row_looks (kernel_row p) || is_over p

-- a row after which each place passes a test of the cycles left
abbrev passes_on : (ℕ → ℕ → Bool) → ℕ → ℕ → Option Decoded → Bool
passes_on on left p None = false
passes_on on left p (Some r) = nat_le r.cycles left && (is_closed r.op && list_all (on (left - r.cycles)) (nexts r.op p))

-- within so many rows and cycles the run from a place comes to such an end
abbrev soon : ℕ → ℕ → ℕ → Bool
soon zero left p = false
soon (suc rows) left p = ends p || passes_on (soon rows) left p (kernel_row p)

abbrev from_look : ℕ → Bool
from_look p = passes_on (soon 24) 24 p (kernel_row p)

every_look : every_below (λ p. if in_service p && row_looks (kernel_row p) then from_look p else true) 2048 ≡ true
every_look = refl

-- the main program never looks
every_blind : every_below (λ p. if in_main p then not (row_looks (kernel_row p)) else true) 2048 ≡ true
every_blind = refl

when : (b c : Bool) → b ≡ true → (if b then c else true) ≡ true → c ≡ true
when true c e h = h
when false c e h = absurd cc

both_so : (b c : Bool) → b ≡ true → c ≡ true → (b && c) ≡ true
both_so true true e f = refl
both_so true false e f = absurd cc
both_so false c e f = absurd cc

untrue : (b : Bool) → not b ≡ true → b ≡ false
untrue false h = refl
untrue true h = absurd cc

second : (b c : Bool) → (b || c) ≡ true → b ≡ false → c ≡ true
second false c h e = h
second true c h e = absurd cc

module _ (d : Board) (bytes : List ℕ) (has : HasKernel bytes) where
  -- the main program doesn't look at the clock
  pub main_blind : (m : Cpu) → IsMain false m → looks bytes m ≡ false
  main_blind m h =
      let r = main_at m.pc h.place in
      let not_there : row_looks (kernel_row m.pc) ≡ false =
      untrue (row_looks (kernel_row m.pc))
      (when (in_main m.pc) (not (row_looks (kernel_row m.pc))) h.place
      (at_each (λ p. if in_main p then not (row_looks (kernel_row p)) else true) 2048 every_blind m.pc r.low)) in
      ap row_looks (row_is bytes has m.pc r.row r.is ∙ sym r.is) ∙ not_there

  -- a state from which an end comes within so many rows and cycles
  record Near (w v : World d.State) : Type 0 where
    serving : IsServing false v.cpu
    rows : ℕ
    left : ℕ
    near : soon rows left v.cpu.pc ≡ true
    cycle : v.cycle + left ≤ w.cycle + 24

  -- a step of the service by a row that passes on
  steps_near : (w u v : World d.State) (rows cycles : ℕ) → IsServing false u.cpu → u.cycle + cycles ≤ w.cycle + 24
      → passes_on (soon rows) cycles u.cpu.pc (kernel_row u.cpu.pc) ≡ true → joint_step d bytes u ≡ Some v → Near w v
  steps_near w u v rows cycles h time passes step =
      let m : Cpu = u.cpu in
      let r : ServiceRow m.pc = service_at m.pc h.place in
      let row : row_at bytes m.pc ≡ Some r.row = row_is bytes has m.pc r.row r.is in
      let on : passes_on (soon rows) cycles m.pc (Some r.row) ≡ true =
      sym (ap (passes_on (soon rows) cycles m.pc) r.is) ∙ passes in
      let next : ℕ → Bool = soon rows (cycles - r.row.cycles) in
      let one = both (nat_le r.row.cycles cycles) (is_closed r.row.op && list_all next (nexts r.row.op m.pc)) on in
      let two = both (is_closed r.row.op) (list_all next (nexts r.row.op m.pc)) one.1 in
      let fits : nat_le r.row.cycles cycles ≡ true = one.0 in
      let few : r.row.cycles ≤ cycles = grind (arith, nat_tests, fits) in
      let s = step_of d bytes u v (stepped bytes (seen d u) m) step in
      let after : Stepped = record { cpu = left bytes has false r.row (seen d u) m; cycles = r.row.cycles } in
      let made : stepped bytes (seen d u) m ≡ Some after =
      stepped_is bytes (seen d u) m r.row (inl (ap (λ (t : Stays). t.svc) h.stays)) row in
      let there : Some s.0 ≡ Some after = sym s.1 ∙ made in
      let end : s.0 ≡ after = cc in
      let cpu : after.cpu ≡ v.cpu = sym (ap (λ (t : Stepped). t.cpu) end) ∙ s.2 in
      let took : s.0.cycles ≡ r.row.cycles = ap (λ (t : Stepped). t.cycles) end in
      let now : u.cycle + s.0.cycles ≡ v.cycle = s.3 in
      let low : m.mb ≡ false = ap (λ (t : Stays). t.mb) h.stays in
      record {
        serving = subst (IsServing false) s.2
            (serve_step bytes has false (seen d u) m s.0 h (record { row = r.row; is = row; closed = two.0 }) s.1).0;
        rows = rows;
        left = cycles - r.row.cycles;
        near = subst (λ (c : Cpu). next c.pc ≡ true) cpu
            (follows next r.row.op bytes (seen d u) m (r.steady two.0) low two.1);
        cycle = omega (arith, time, few, took, now);
      }

  -- one that isn't such an end goes on so
  goes_near : (w u v : World d.State) → Near w u → (looks bytes u.cpu || is_over u.cpu.pc) ≡ false
      → joint_step d bytes u ≡ Some v → Near w v
  goes_near w u v h quiet step = by h.rows h.near
    where
      not_here : ends u.cpu.pc ≡ false
      not_here =
          let r = service_at u.cpu.pc h.serving.place in
          ap (λ o. row_looks o || is_over u.cpu.pc) (r.is ∙ sym (row_is bytes has u.cpu.pc r.row r.is)) ∙ quiet

      by : (rows : ℕ) → soon rows h.left u.cpu.pc ≡ true → Near w v
      by zero near = absurd cc
      by (suc rows) near =
          steps_near w u v rows h.left h.serving h.cycle
          (second (ends u.cpu.pc) (passes_on (soon rows) h.left u.cpu.pc (kernel_row u.cpu.pc)) near not_here) step

  -- so it is from a look of the service on
  pub serves_soon : (w : World d.State) → IsServing false w.cpu → looks bytes w.cpu ≡ true → LooksSoon d bytes w
  serves_soon w h look n v run quiet = let p = reaches n v run quiet in (let t : v.cycle + p.left ≤ w.cycle + 24 = p.cycle in omega (arith, t))
    where
      begins : passes_on (soon 24) 24 w.cpu.pc (kernel_row w.cpu.pc) ≡ true
      begins =
          let r = service_at w.cpu.pc h.place in
          let there : row_looks (kernel_row w.cpu.pc) ≡ true =
          ap row_looks (r.is ∙ sym (row_is bytes has w.cpu.pc r.row r.is)) ∙ look in
          when (in_service w.cpu.pc && row_looks (kernel_row w.cpu.pc)) (from_look w.cpu.pc)
          (both_so (in_service w.cpu.pc) (row_looks (kernel_row w.cpu.pc)) h.place there)
          (at_each (λ p. if in_service p && row_looks (kernel_row p) then from_look p else true) 2048 every_look w.cpu.pc r.low)

      reaches : (n : ℕ) (v : World d.State) → run_at d bytes w (suc n) ≡ Some v
          → ((i : ℕ) (u : World d.State) → i < n → run_at d bytes w (suc i) ≡ Some u
          → (looks bytes u.cpu || is_over u.cpu.pc) ≡ false) → Near w v
      reaches zero v run quiet = steps_near w w v 24 24 h (omega arith) begins run
      reaches (suc n) v run quiet =
          by (λ u is. reaches n u is (λ i x l. quiet i x (omega (arith, l)))) (λ u is. quiet n u (omega arith) is)
          (run_at d bytes w (suc n)) refl run
        where
          by : ((u : World d.State) → run_at d bytes w (suc n) ≡ Some u → Near w u)
              → ((u : World d.State) → run_at d bytes w (suc n) ≡ Some u → (looks bytes u.cpu || is_over u.cpu.pc) ≡ false)
              → (o : Option (World d.State)) → run_at d bytes w (suc n) ≡ o → step_on d bytes o ≡ Some v → Near w v
          by before quiet None is step = absurd cc
          by before quiet (Some u) is step = goes_near w u v (before u is) (quiet u is) step
