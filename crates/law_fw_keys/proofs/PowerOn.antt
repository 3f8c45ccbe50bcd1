-- From power-on, or from any state at 000, to the first tick start.
use Rattle.std.proofs.Common.{◌≡◌, ◌≤◌, ◌<◌, ℕ, ◌+◌, Bool, true, false, List, All, refl, inl, ap, sym, ◌∙◌, subst, arith}
use Rattle.mcs48_core.specs.Cpu.{Cpu}
use Rattle.mcs48_core.specs.Reset.{reset_in}
use Rattle.mcs48_core.specs.Step.{takes_timer}
use Rattle.fw_kernel.specs.declared.labels.TheConstants.{TICK}
use Rattle.fw_kernel.specs.Places.{HasKernel}
use Rattle.joint_run.specs.Run.{Board, World}
use Rattle.joint_run.specs.Starts.{Comes}
use Rattle.mcs48_ranges.specs.Sizes.{IsByte, IsFine}
use Rattle.law_fw_logic.specs.Boards.{power_on}
use Rattle.law_fw_logic.proofs.Fine.{calm_fine}
use Rattle.law_fw_logic.proofs.Service.{begun}
use Rattle.law_fw_logic.proofs.Laws.{comes_as}
use Rattle.law_fw_logic.proofs.Restarting.{restarts}
use Rattle.law_fw_logic.proofs.Starting.{IsFirst, first_start, powered, empty_ring, reset_by}
use Rattle.board_terms.specs.Matrix.{all_up}
use Rattle.law_fw_keys.specs.State.{debounces, read_of}
use Rattle.law_fw_keys.specs.Frameless.{IsStarted, FromPowerOn, cells_in, shown_by, layers_by, read_by}
use Rattle.law_fw_keys.proofs.Begun.{started_is}

-- cleared memory shows no key
read_none : (b : Bool) (late : ℕ) (tf last : Bool) (bytes : List ℕ) (m : Cpu)
    → read_of b (cells_in (begun late tf last (powered bytes) empty_ring m).ram) ≡ all_up
read_none false late tf last bytes m = refl
read_none true late tf last bytes m = refl

module _ (d : Board) (bytes : List ℕ) (small : All IsByte bytes)
    (low : (p1 p2 c : ℕ) (s : d.State) → (d.pins p1 p2 c s).bus < 256) (board : d.State) (from : World d.State)
    (fine : IsFine from.cpu) (h : Comes d TICK bytes from (IsFirst d bytes board)) where
  -- what is at the first tick start
  from_first : Comes d TICK bytes from (λ w. IsFirst d bytes board w × FromPowerOn bytes w.cpu)
  from_first =
      let a = h.goal in
      let fine_there : IsFine h.end.cpu = calm_fine d TICK bytes small low h.steps from h.end fine h.run in
      let B : Cpu = begun a.late a.tf a.last (powered bytes) empty_ring (record (reset_by a.base) { a = 142 }) in
      let cpu : h.end.cpu ≡ B = ap (λ (u : World d.State). u.cpu) a.is in
      record {
        steps = h.steps;
        end = h.end;
        run = h.run;
        goal = (
          a,
          record {
            started = subst (λ c. IsStarted c) (sym cpu)
                (started_is a.late a.most a.tf a.last (powered bytes) empty_ring (record (reset_by a.base) { a = 142 })
                (subst (λ c. IsFine c) cpu fine_there)
                (record {
                  most = omega arith;
                  started = omega arith;
                  some = omega arith;
                  mode = omega arith;
                  lamps = omega arith;
                  fn = inl refl;
                }));
            keyboard = ap (λ (c : Cpu). shown_by c.ram) cpu;
            layers = ap (λ (c : Cpu). layers_by c.ram) cpu;
            read = ap (λ (c : Cpu). read_by bytes c.ram) cpu ∙ read_none (debounces bytes) a.late a.tf a.last bytes (record (reset_by a.base) { a = 142 });
            latch = ap (λ (c : Cpu). c.p2) cpu;
          },
        );
      }

module _ (d : Board) (bytes : List ℕ) (hk : HasKernel bytes) (small : All IsByte bytes)
    (low : (p1 p2 c : ℕ) (s : d.State) → (d.pins p1 p2 c s).bus < 256) (m : Cpu) (fine : IsFine m)
    (board : d.State) where
  reset_fine : IsFine (record (reset_in m) { svc = m.svc })
  reset_fine =
      record {
        pc = omega arith;
        a = fine.a;
        ram = fine.ram;
        long = fine.long;
        t = fine.t;
        pre = fine.pre;
        p1 = omega arith;
        p2 = omega arith;
        bus = fine.bus;
        sp = omega arith;
      }

  -- the first tick start, with what is beside the processor there
  pub first_started : Comes d TICK bytes (power_on d m board) (λ w. IsFirst d bytes board w × FromPowerOn bytes w.cpu)
  first_started =
      from_first d bytes small low board (power_on d m board) reset_fine (first_start d bytes hk m fine.long board)

  -- the keyboard that memory shows there is the one at power-on
  pub starts : Comes d TICK bytes (power_on d m board) (λ w. FromPowerOn bytes w.cpu)
  starts =
      comes_as d TICK bytes (λ w. IsFirst d bytes board w × FromPowerOn bytes w.cpu) (λ w. FromPowerOn bytes w.cpu)
      (power_on d m board) (λ w g. g.1) first_started

  -- so it is from any state at 000
  pub from_zero : ((p1 p2 c : ℕ) (s : d.State) → (d.pins p1 p2 c s).int_pin ≡ true) → m.pc ≡ 0 → m.p2 ≡ 255
      → m.clk ≡ false → takes_timer m ≡ false
      → Comes d TICK bytes (record { cpu = m; board = board; cycle = 0 })
      (λ w. FromPowerOn bytes w.cpu × (4096 ≤ w.cycle) × (w.cycle ≤ 4097))
  from_zero high zero released silent none =
      let from : World d.State = record { cpu = m; board = board; cycle = 0 } in
      comes_as d TICK bytes (λ w. IsFirst d bytes board w × FromPowerOn bytes w.cpu)
      (λ w. FromPowerOn bytes w.cpu × (4096 ≤ w.cycle) × (w.cycle ≤ 4097)) from
      (λ w g.
      let cycle : w.cycle ≡ 4096 + g.0.late = ap (λ (u : World d.State). u.cycle) g.0.is in
      let most : g.0.late ≤ 1 = g.0.most in
      (g.1, omega (arith, cycle), omega (arith, cycle, most)))
      (from_first d bytes small low board from fine
      (restarts d bytes hk high m fine.long zero silent released none board))
