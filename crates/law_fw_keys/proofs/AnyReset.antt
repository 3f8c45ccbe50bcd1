-- A reset from any state of the service, in the words of the joint run.
use Rattle.std.proofs.Common.{◌≡◌, ◌≤◌, ◌<◌, ◌⊎◌, ℕ, ◌+◌, ◌/◌, ◌%◌, true, false, List, All, Bool, drop, not, ◌==◌, nat_lt}
use Rattle.std.proofs.Common.{slice_index, refl, ap, sym, ◌∙◌, subst, arith, add-zero}
use Rattle.std.proofs.lemmas.Bool.Decides.{nat_tests}
use Rattle.bits.specs.Bits.{bit}
use Rattle.fw_kernel.specs.Places.{HasKernel}
use Rattle.fw_kernel.specs.Tables.{fn_place_at}
use Rattle.fw_kernel.specs.declared.cells.TheConstants.{REPLYDUE, HELD, LAYER}
use Rattle.fw_kernel.specs.declared.labels.TheConstants.{TICK, DROP, SCAN}
use Rattle.law_fw_logic.proofs.Block.{begin_at, memory, scratched}
use Rattle.law_fw_logic.proofs.Kernel.{kernel_in}
use Rattle.law_fw_logic.proofs.Memory.{memory_is}
use Rattle.law_fw_logic.proofs.Path.{world_at}
use Rattle.law_fw_logic.proofs.TimerParts.{IsFree}
use Rattle.law_fw_logic.proofs.Short.{has_rows}
use Rattle.law_fw_logic.specs.Blocks.{IsAt}
use Rattle.joint_run.specs.Run.{Board, World}
use Rattle.joint_run.specs.Starts.{Comes}
use Rattle.mcs48_core.specs.Cpu.{Cpu}
use Rattle.mcs48_ranges.specs.Sizes.{IsByte, IsFine}
use Rattle.law_fw_keys.proofs.Block.{Ends}
use Rattle.law_fw_keys.proofs.Blocks.{fine_end}
use Rattle.law_fw_keys.proofs.Heal.{before_edges, was_held}
use Rattle.law_fw_keys.proofs.Healing.{cell_shows, held_at}
use Rattle.law_fw_keys.proofs.Held.{flags_same}
use Rattle.law_fw_keys.proofs.Renewing.{Renewed, any_reset}
use Rattle.law_fw_keys.proofs.Patch.{still}
use Rattle.law_fw_keys.specs.Frameless.{cells_in, layers_by, shown_by}
use Rattle.law_fw_keys.specs.Resets.{Resets}
use Rattle.law_fw_keys.specs.State.{Inv, down_at, held_by, kbd_of}

module _ (d : Board) (bytes : List ℕ) (hk : HasKernel bytes) (small : All IsByte bytes)
    (low : (p1 p2 c : ℕ) (s : d.State) → (d.pins p1 p2 c s).bus < 256) (w : World d.State) (is : IsAt DROP w.cpu)
    (fine : IsFine w.cpu) (due : bit 1 (slice_index w.cpu.ram REPLYDUE) ≡ true) where
  abbrev m : Cpu
  m = w.cpu

  abbrev f : ℕ → ℕ
  f = cells_in m.ram

  abbrev ring : List ℕ
  ring = drop 112 m.ram

  abbrev held : List Bool
  held = held_by (λ c. f (HELD + c))

  same : scratched m DROP (memory f ring) m ≡ m
  same =
      sym (ap (λ v. record m { pc = v; rb = true; mb = false; ram = memory f ring }) is.pc)
      ∙ sym (ap (λ v. record m { rb = v; mb = false; ram = memory f ring }) is.bank)
      ∙ sym (ap (λ v. record m { mb = v; ram = memory f ring }) is.lower)
      ∙ sym (ap (λ v. record m { ram = v }) (memory_is m.ram is.memory))

  -- what the block leaves, in the words of the law
  says : (e : Cpu) (now : ℕ → ℕ) (r : List ℕ) → e ≡ scratched m SCAN (memory now r) e → IsFine e
      → Renewed bytes held f ring e.a now r → Resets bytes m e
  says e now r cpu good h =
      let held_same : held_by (λ c. now (HELD + c)) ≡ held =
      flags_same (down_at (λ c. now (HELD + c))) (down_at (λ c. f (HELD + c))) 96
      (λ i l. ap (λ v. bit (i % 8) v) (h.cells (HELD + i / 8) (omega arith) (omega (arith, l)))) in
      record {
        to = record {
          pc = ap (λ (c : Cpu). c.pc) cpu;
          bank = ap (λ (c : Cpu). c.rb) cpu;
          lower = ap (λ (c : Cpu). c.mb) cpu;
          free = subst (λ (c : Cpu). (c.svc ≡ true) ⊎ ((c.ext_on ≡ false) × (c.tim_on ≡ false))) (sym cpu) is.free;
          memory = good.long;
        };
        inv = subst (λ (c : Cpu). Inv (cells_in c.ram)) (sym cpu)
            (still (refl, refl, refl, refl, refl) h.inv);
        keyboard = ap (λ (c : Cpu). shown_by c.ram) cpu ∙ ap (λ k. kbd_of k now r) held_same ∙ h.kbd;
        fn = ap (λ (c : Cpu). (layers_by c.ram).fn_down) cpu ∙ ap (λ v. not (v == 0)) h.fn
            ∙ cell_shows (was_held bytes f)
            ∙ held_at (before_edges f) (slice_index bytes fn_place_at) (nat_lt (slice_index bytes fn_place_at) 96) refl;
        pressed = ap (λ (c : Cpu). (layers_by c.ram).pressed_in) cpu
            ∙ flags_same (down_at (λ c. now (LAYER + c))) (down_at (λ c. f (LAYER + c))) 96
            (λ i l. ap (λ v. bit (i % 8) v)
            (h.layers (LAYER + i / 8) (omega arith)
            (let n : LAYER ≤ LAYER + i / 8 = omega arith in grind (arith, nat_tests, n))));
      }

  -- the reply to a reset goes, and in 98 cycles at most the keyboard is as after a reset, whatever state the cells
  -- show
  pub resets_any : Comes d TICK bytes w (λ e. Resets bytes m e.cpu × (e.cycle ≤ w.cycle + 98))
  resets_any =
      let begin = begin_at d DROP f ring m w.board in
      let free_there : IsFree (scratched m DROP (memory f ring) m) = subst IsFree (sym same) is.free in
      let fine_there : IsFine (scratched m DROP (memory f ring) m) = subst (λ c. IsFine c) (sym same) fine in
      let law = fine_end d (kernel_in true bytes) (has_rows true bytes hk) small low w.cycle begin
      (Ends d w.cycle m w.board SCAN (9 + (50 + 39)) (Renewed bytes held f ring)) fine_there
      (any_reset d bytes hk small low held f ring w.cycle m w.board (free_there, fine_there) due) in
      let z : w.cycle + 0 ≡ w.cycle = add-zero w.cycle in
      let start : world_at w.cycle begin ≡ w =
      ap (λ c. record { cpu = begin.cpu; board = w.board; cycle = c }) z
      ∙ ap (λ c. record { cpu = c; board = w.board; cycle = w.cycle }) same in
      let e = law.end in
      let g = law.goal.0 in
      let short : e.off ≤ 98 = g.short in
      subst (λ v. Comes d TICK bytes v (λ e. Resets bytes m e.cpu × (e.cycle ≤ w.cycle + 98))) start
      (record {
        steps = law.steps;
        end = world_at w.cycle e;
        run = law.run;
        goal = (says e.cpu g.now g.ring g.cpu law.goal.1 g.facts, omega (arith, short));
      })
