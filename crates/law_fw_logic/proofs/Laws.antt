-- Laws of the relation between states of the joint run: composition, one step, other words, counted loops.
use Rattle.std.proofs.Common.{◌≡◌, ℕ, suc, zero, ◌+◌, List, true, false, Some, None, refl, ap, ◌∙◌}
use Rattle.std.proofs.Common.{arith, zero-add}
use Rattle.std.specs.declared.option.Option.{Option}
use Rattle.mcs48_core.specs.Step.{Stepped, stepped}
use Rattle.joint_run.specs.Run.{Board, World, after_cycles, seen, after_step, joint_step}
use Rattle.joint_run.specs.Starts.{at_tick, calm_step, calm, Comes}
use Rattle.law_fw_logic.proofs.TimerParts.{IsFree}
use Rattle.law_fw_logic.proofs.Path.{Stage, Code}
use Rattle.law_fw_logic.proofs.Leads.{Leads, HasRows}
use Rattle.law_fw_logic.proofs.Sound.{chain, stay}

module _ (d : Board) (tick : ℕ) (bytes : List ℕ) where
  on : (n k : ℕ) (e : World d.State)
      → ((t : World d.State) → calm d tick bytes n t ≡ Some e → calm d tick bytes (n + k) t ≡ calm d tick bytes k e)
      → (o : Option (World d.State))
      → (elim o as (λ v. Option (World d.State)) [ None ↦ None | Some t ↦ calm d tick bytes n t ]) ≡ Some e
      → (elim o as (λ v. Option (World d.State)) [ None ↦ None | Some t ↦ calm d tick bytes (n + k) t ])
      ≡ calm d tick bytes k e
  on n k e ih None h = absurd cc
  on n k e ih (Some t) h = ih t h

  add : (n k : ℕ) (w e : World d.State) → calm d tick bytes n w ≡ Some e
      → calm d tick bytes (n + k) w ≡ calm d tick bytes k e
  add zero k w e h = let g : w ≡ e = cc in rw (zero-add, g) refl
  add (suc n) k w e h =
      let c : suc n + k ≡ suc (n + k) = omega arith in
      rw c (on n k e (λ t g. add n k t e g) (calm_step d tick bytes w) h)

  -- if a run reaches a set, and each state of the set another one, the run reaches that
  pub comes_then : (Q R : World d.State → Type 0) (w : World d.State) → Comes d tick bytes w Q
      → ((e : World d.State) → Q e → Comes d tick bytes e R) → Comes d tick bytes w R
  comes_then Q R w first rest =
      let r = rest first.end first.goal in
      record {
        steps = first.steps + r.steps;
        end = r.end;
        run = add first.steps r.steps w first.end first.run ∙ r.run;
        goal = r.goal;
      }

  -- a run reaches a set in which it is already
  pub comes_here : (Q : World d.State → Type 0) (w : World d.State) → Q w → Comes d tick bytes w Q
  comes_here Q w h = record { steps = 0; end = w; run = refl; goal = h }

  -- a run that reaches a set reaches each larger one
  pub comes_as : (Q R : World d.State → Type 0) (w : World d.State) → ((e : World d.State) → Q e → R e)
      → Comes d tick bytes w Q → Comes d tick bytes w R
  comes_as Q R w f h = record { steps = h.steps; end = h.end; run = h.run; goal = f h.end h.goal }

  -- one step, by what the definitions of a step say
  pub comes_by : (Q : World d.State → Type 0) (w : World d.State) (next : Stepped) → at_tick d tick w ≡ false
      → stepped bytes (seen d w) w.cpu ≡ Some next
      → Comes d tick bytes
      (record {
        cpu = next.cpu;
        board = after_cycles next.cycles w.cycle (d.cycle next.cpu.p2) w.board;
        cycle = w.cycle + next.cycles;
      }) Q
      → Comes d tick bytes w Q
  comes_by Q w next off step rest =
      let e : World d.State =
      record {
        cpu = next.cpu;
        board = after_cycles next.cycles w.cycle (d.cycle next.cpu.p2) w.board;
        cycle = w.cycle + next.cycles;
      } in
      let one : calm_step d tick bytes w ≡ Some e =
      ap (λ b. elim b as (λ v. Option (World d.State)) [ true ↦ None | false ↦ joint_step d bytes w ]) off ∙ ap
      (λ o. after_step d w o) step in
      record {
        steps = suc rest.steps;
        end = rest.end;
        run = ap (λ o. elim o as (λ v. Option
            (World d.State)) [ None ↦ None | Some t ↦ calm d tick bytes rest.steps t ]) one ∙ rest.run;
        goal = rest.goal;
      }

-- the same between stages of a code
module _ (d : Board) (code : Code) (has : HasRows code) (x : ℕ) where
  -- a loop of which each turn leaves one less ends with none left
  pub counts_down : (P : ℕ → Stage d.State → Type 0)
      → ((k : ℕ) (s : Stage d.State) → P (suc k) s → IsFree s.cpu → Leads d code x s (P k))
      → (n : ℕ) (s : Stage d.State) → P n s → IsFree s.cpu → Leads d code x s (P 0)
  counts_down P body zero s h free = stay d code has x (P 0) s h free
  counts_down P body (suc n) s h free =
      chain d code has x (P n) (P 0) s (body n s h free) (λ e g f. counts_down P body n e g f)
