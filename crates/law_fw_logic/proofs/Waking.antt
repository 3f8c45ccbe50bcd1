-- The first steps of power-on, up to `blank`: what is executed there, whether or not an interrupt is marked as in service.
use Rattle.std.proofs.Common.{◌≡◌, ◌≤◌, ◌<◌, ℕ, suc, zero, ◌+◌, ◌%◌, List, [], Bool, true, false, not, ◌&&◌, ◌==◌}
use Rattle.std.proofs.Common.{Some, None, is_some, length, drop, get_or, nat_le, nat_lt, refl, ap, sym, ◌∙◌, subst, arith, inr}
use Rattle.std.proofs.lemmas.Bool.Decides.{nat_tests}
use Rattle.std.proofs.lemmas.List.{drop_all}
use Rattle.std.specs.declared.option.Option.{Option}
use Rattle.bits.proofs.Every.{both}
use Rattle.mcs48_isa.specs.declared.operation.Decoded.{Decoded}
use Rattle.mcs48_core.specs.Cpu.{Cpu}
use Rattle.mcs48_core.specs.Step.{row_at, takes_external, takes_timer}
use Rattle.fw_kernel.specs.Places.{HasKernel}
use Rattle.fw_kernel.specs.declared.labels.TheConstants.{TICK}
use Rattle.joint_run.specs.Run.{Board, World, joint_step, step_on, run_at, seen, after_step}
use Rattle.joint_run.specs.Starts.{at_tick, calm, Comes}
use Rattle.law_fw_logic.specs.Boards.{power_on}
use Rattle.law_fw_logic.specs.Executed.{IsFit, LooksLate, is_kernels, puts_at, looks_at, is_late, row_looks, looks}
use Rattle.law_fw_logic.proofs.Between.{IsStart, calm_on, steps_first}
use Rattle.law_fw_logic.proofs.Block.{before}
use Rattle.law_fw_logic.proofs.Chain.{stepped_is, ticks_from}
use Rattle.law_fw_logic.proofs.Image.{row_is}
use Rattle.law_fw_logic.proofs.Kernel.{kernel_row, kernel_in}
use Rattle.law_fw_logic.proofs.Memory.{drop_is}
use Rattle.law_fw_logic.proofs.Path.{Stage, left, moved, pins_at, world_at}
use Rattle.law_fw_logic.proofs.Placed.{in_text}
use Rattle.law_fw_logic.proofs.Starting.{reset_at}
use Rattle.law_fw_logic.proofs.Turns.{IsMain}
use Rattle.law_fw_logic.proofs.Written.{text_is}

untrue : (b : Bool) → not b ≡ true → b ≡ false
untrue false h = refl
untrue true h = absurd cc

-- a processor that no interrupt reaches, in the HEX text and at no tick start, with little on the stack, the clock's output
-- off, and port 1 as reset leaves it
abbrev is_dark : Cpu → Bool
is_dark m = not m.clk && (m.p1 == 255)

abbrev is_shallow : Cpu → Bool
is_shallow m = nat_le m.sp 1 && is_dark m

abbrev is_placed : Cpu → Bool
is_placed m = nat_lt m.pc 2048 && (not (m.pc == 7) && (in_text m.pc && is_shallow m))

abbrev is_fitting : Cpu → Bool
is_fitting m = not m.ext_on && (not m.tim_on && is_placed m)

record Fits (m : Cpu) : Type 0 where
  external : m.ext_on ≡ false
  timer : m.tim_on ≡ false
  low : m.pc < 2048
  elsewhere : (m.pc == 7) ≡ false
  text : in_text m.pc ≡ true
  depth : m.sp ≤ 1
  silent : m.clk ≡ false

fits_of : (m : Cpu) → is_fitting m ≡ true → Fits m
fits_of m h =
    let one = both (not m.ext_on) (not m.tim_on && is_placed m) h in
    let two = both (not m.tim_on) (is_placed m) one.1 in
    let three = both (nat_lt m.pc 2048) (not (m.pc == 7) && (in_text m.pc && is_shallow m)) two.1 in
    let four = both (not (m.pc == 7)) (in_text m.pc && is_shallow m) three.1 in
    let five = both (in_text m.pc) (is_shallow m) four.1 in
    let six = both (nat_le m.sp 1) (is_dark m) five.1 in
    let seven = both (not m.clk) (m.p1 == 255) six.1 in
    let place : nat_lt m.pc 2048 ≡ true = three.0 in
    let few : nat_le m.sp 1 ≡ true = six.0 in
    record {
      external = untrue m.ext_on one.0;
      timer = untrue m.tim_on two.0;
      low = grind (arith, nat_tests, place);
      elsewhere = untrue (m.pc == 7) four.0;
      text = five.0;
      depth = grind (arith, nat_tests, few);
      silent = untrue m.clk seven.0;
    }

-- a row looks late after another, if it looks; where none is known the other leaves port 2
abbrev late_next : Decoded → Option Decoded → Bool
late_next r None = not (is_some (puts_at r.op))
late_next r (Some q) = is_late r.cycles (puts_at r.op) (looks_at q.op)

none_late : (cycles : ℕ) (put look : Option ℕ) → not (is_some put) ≡ true → is_late cycles put look ≡ true
none_late cycles None look h = refl
none_late cycles (Some n) look h = absurd cc

module _ (d : Board) (bytes : List ℕ) (has : HasKernel bytes) where
  -- the stage after the kernel's row at its counter
  abbrev onward_by : Option Decoded → Stage d.State → Stage d.State
  onward_by None s = s
  onward_by (Some r) s = moved d 0 r.cycles (left d (kernel_in false bytes) 0 r s) s

  abbrev onward : Stage d.State → Stage d.State
  onward s = onward_by (kernel_row s.cpu.pc) s

  abbrev goes_on : Option Decoded → Cpu → Bool
  goes_on None m = false
  goes_on (Some r) m = is_kernels r.op && (late_next r (kernel_row m.pc) && ((m.p1 == 255) && not (row_looks (Some r))))

  abbrev is_ready : Stage d.State → Bool
  is_ready s = is_fitting s.cpu && goes_on (kernel_row s.cpu.pc) (onward s).cpu

  -- so many stages one after the other, and the last
  abbrev are_ready : ℕ → Stage d.State → Bool
  are_ready zero s = true
  are_ready (suc n) s = is_ready s && are_ready n (onward s)

  abbrev stage_after : ℕ → Stage d.State → Stage d.State
  stage_after zero s = s
  stage_after (suc n) s = stage_after n (onward s)

  -- what holds of a state there: it is fit, it doesn't look, and the next looks late and has port 1 as reset leaves it
  pub record Awake (w : World d.State) : Type 0 where
    pub fit : IsFit bytes w.cpu
    pub blind : looks bytes w.cpu ≡ false
    pub next : (v : World d.State) → joint_step d bytes w ≡ Some v → LooksLate bytes w.cpu v.cpu × (v.cpu.p1 ≡ 255)

  record Ready (s t : Stage d.State) : Type 0 where
    awake : Awake (world_at 0 s)
    step : joint_step d bytes (world_at 0 s) ≡ Some (world_at 0 t)
    off : at_tick d TICK (world_at 0 s) ≡ false

  made : (s : Stage d.State) (r : Decoded) → Fits s.cpu → kernel_row s.cpu.pc ≡ Some r
      → joint_step d bytes (world_at 0 s)
      ≡ Some (world_at 0 (moved d 0 r.cycles (left d (kernel_in false bytes) 0 r s) s))
  made s r f row =
      let m = left d (kernel_in false bytes) 0 r s in
      let next : Stage d.State = moved d 0 r.cycles m s in
      let sum : 0 + s.off + r.cycles ≡ 0 + (s.off + r.cycles) = omega arith in
      ap (λ o. after_step d (world_at 0 s) o)
      (stepped_is bytes (pins_at d 0 s) s.cpu r (inr (f.external, f.timer)) (row_is bytes has s.cpu.pc r row))
      ∙ ap (λ b. Some (record { cpu = m; board = b; cycle = 0 + s.off + r.cycles }))
      (ticks_from r.cycles s.off 0 (d.cycle m.p2) s.board)
      ∙ ap (λ n. Some (record { cpu = m; board = next.board; cycle = n })) sum

  -- the next row is that of the kernel there
  late : (m : Cpu) (place : ℕ) (r q : Decoded) (o : Option Decoded) → kernel_row m.pc ≡ o → late_next r o ≡ true
      → row_at bytes m.pc ≡ Some q → is_late r.cycles (puts_at r.op) (looks_at q.op) ≡ true
  late m place r q None is h next = none_late r.cycles (puts_at r.op) (looks_at q.op) h
  late m place r q (Some k) is h next =
      let there : Some k ≡ Some q = sym (row_is bytes has m.pc k is) ∙ next in
      let same : k ≡ q = cc in
      subst (λ (x : Decoded). is_late r.cycles (puts_at r.op) (looks_at x.op) ≡ true) same h

  ready_by : (s : Stage d.State) (o : Option Decoded) → kernel_row s.cpu.pc ≡ o → Fits s.cpu
      → goes_on o (onward_by o s).cpu ≡ true → Ready s (onward_by o s)
  ready_by s None is f h = absurd cc
  ready_by s (Some r) is f h =
      let t : Stage d.State = onward_by (Some r) s in
      let one = both (is_kernels r.op) (late_next r (kernel_row t.cpu.pc) && ((t.cpu.p1 == 255) && not (row_looks (Some r)))) h in
      let two = both (late_next r (kernel_row t.cpu.pc)) ((t.cpu.p1 == 255) && not (row_looks (Some r))) one.1 in
      let three = both (t.cpu.p1 == 255) (not (row_looks (Some r))) two.1 in
      let dark : (t.cpu.p1 == 255) ≡ true = three.0 in
      let row = row_is bytes has s.cpu.pc r is in
      let low : s.cpu.pc < 2048 = f.low in
      let other : (s.cpu.pc == 7) ≡ false = f.elsewhere in
      let away : (s.cpu.pc % 2048 == 7) ≡ false =
      (let n : s.cpu.pc % 2048 ≡ s.cpu.pc = omega (arith, low) in ap (λ p. p == 7) n ∙ other) in
      record {
        awake = record {
          fit = record {
            place = f.low;
            text = text_is bytes has s.cpu.pc f.low f.text;
            row = r;
            is = row;
            allowed = one.0;
            depth = f.depth;
            silent = f.silent;
          };
          blind = ap row_looks row ∙ untrue (row_looks (Some r)) three.1;
          next = λ v step.
              let there : Some (world_at 0 t) ≡ Some v = sym (made s r f is) ∙ step in
              let same : world_at 0 t ≡ v = cc in
              subst (λ (u : World d.State). LooksLate bytes s.cpu u.cpu × (u.cpu.p1 ≡ 255)) same (
                (λ r' q here next.
                    let rows : Some r ≡ Some r' = sym row ∙ here in
                    let alike : r ≡ r' = cc in
                    subst (λ (x : Decoded). is_late x.cycles (puts_at x.op) (looks_at q.op) ≡ true) alike
                    (late t.cpu 0 r q (kernel_row t.cpu.pc) refl two.0 next)),
                grind (arith, nat_tests, dark),
              );
        };
        step = made s r f is;
        off = ap (λ b. b && not (takes_external (seen d (world_at 0 s)) s.cpu) && not (takes_timer s.cpu)) away;
      }

  ready : (s : Stage d.State) → is_ready s ≡ true → Ready s (onward s)
  ready s h =
      let one = both (is_fitting s.cpu) (goes_on (kernel_row s.cpu.pc) (onward s).cpu) h in
      ready_by s (kernel_row s.cpu.pc) refl (fits_of s.cpu one.0) one.1

  more : (n : ℕ) (s : Stage d.State) → are_ready (suc n) s ≡ true → Ready s (onward s) × (are_ready n (onward s) ≡ true)
  more n s h = let one = both (is_ready s) (are_ready n (onward s)) h in (ready s one.0, one.1)

  run_front : (from next : World d.State) → joint_step d bytes from ≡ Some next → (k : ℕ)
      → run_at d bytes from (suc k) ≡ run_at d bytes next k
  run_front from next step zero = step
  run_front from next step (suc k) = ap (λ o. step_on d bytes o) (run_front from next step k)

  run_awake : (n : ℕ) (s : Stage d.State) → are_ready n s ≡ true → (k : ℕ) (w : World d.State) → k < n
      → run_at d bytes (world_at 0 s) k ≡ Some w → Awake w
  run_awake zero s h k w l run = absurd (omega (arith, l))
  run_awake (suc n) s h zero w l run =
      let same : world_at 0 s ≡ w = cc in subst Awake same (more n s h).0.awake
  run_awake (suc n) s h (suc k) w l run =
      let r = more n s h in
      run_awake n (onward s) r.1 k w (omega (arith, l))
      (sym (run_front (world_at 0 s) (world_at 0 (onward s)) r.0.step k) ∙ run)

  run_on : (n : ℕ) (s : Stage d.State) → are_ready n s ≡ true → (j : ℕ)
      → run_at d bytes (world_at 0 s) (n + j) ≡ run_at d bytes (world_at 0 (stage_after n s)) j
  run_on zero s h j = let z : 0 + j ≡ j = omega arith in ap (run_at d bytes (world_at 0 s)) z
  run_on (suc n) s h j =
      let r = more n s h in
      let z : suc n + j ≡ suc (n + j) = omega arith in
      ap (run_at d bytes (world_at 0 s)) z
      ∙ run_front (world_at 0 s) (world_at 0 (onward s)) r.0.step (n + j) ∙ run_on n (onward s) r.1 j

  calm_awake : (n : ℕ) (s : Stage d.State) → are_ready n s ≡ true → (k : ℕ) (w : World d.State) → k < n
      → calm d TICK bytes k (world_at 0 s) ≡ Some w → Awake w
  calm_awake zero s h k w l run = absurd (omega (arith, l))
  calm_awake (suc n) s h zero w l run =
      let same : world_at 0 s ≡ w = cc in subst Awake same (more n s h).0.awake
  calm_awake (suc n) s h (suc k) w l run =
      let r = more n s h in
      calm_awake n (onward s) r.1 k w (omega (arith, l))
      (sym (calm_on d bytes k (world_at 0 s) (world_at 0 (onward s)) r.0.off r.0.step) ∙ run)

  calm_from : (n : ℕ) (s : Stage d.State) → are_ready n s ≡ true → (j : ℕ)
      → calm d TICK bytes (n + j) (world_at 0 s) ≡ calm d TICK bytes j (world_at 0 (stage_after n s))
  calm_from zero s h j = let z : 0 + j ≡ j = omega arith in ap (λ i. calm d TICK bytes i (world_at 0 s)) z
  calm_from (suc n) s h j =
      let r = more n s h in
      let z : suc n + j ≡ suc (n + j) = omega arith in
      ap (λ i. calm d TICK bytes i (world_at 0 s)) z
      ∙ calm_on d bytes (n + j) (world_at 0 s) (world_at 0 (onward s)) r.0.off r.0.step ∙ calm_from n (onward s) r.1 j

  comes_from : (n : ℕ) (s : Stage d.State) → are_ready n s ≡ true → Comes d TICK bytes (world_at 0 s) (IsStart d bytes)
      → Comes d TICK bytes (world_at 0 (stage_after n s)) (IsStart d bytes)
  comes_from zero s h c = c
  comes_from (suc n) s h c =
      let r = more n s h in
      comes_from n (onward s) r.1
      (steps_first d bytes (world_at 0 s) (world_at 0 (onward s))
      (λ at. absurd (let bad : true ≡ false = sym at ∙ r.0.off in cc)) c r.0.step)

  -- the sixteen steps before `blank`, and the main program from there on
  abbrev pub waking : ℕ
  waking = 16

  pub record Wakes (from : World d.State) : Type 0 where
    pub to : World d.State
    pub main : IsMain false to.cpu
    pub dark : to.cpu.p1 ≡ 255
    pub early : (k : ℕ) (w : World d.State) → k < waking → run_at d bytes from k ≡ Some w → Awake w
    pub on : (j : ℕ) → run_at d bytes from (waking + j) ≡ run_at d bytes to j
    pub calm_early : (k : ℕ) (w : World d.State) → k < waking → calm d TICK bytes k from ≡ Some w → Awake w
    pub calm_on : (j : ℕ) → calm d TICK bytes (waking + j) from ≡ calm d TICK bytes j to
    pub comes : Comes d TICK bytes from (IsStart d bytes) → Comes d TICK bytes to (IsStart d bytes)

  wakes_from : (m : Cpu) (f : ℕ → ℕ) (board : d.State) → Wakes (world_at 0 (reset_at d bytes has m f board))
  wakes_from m f board =
      let s : Stage d.State = reset_at d bytes has m f board in
      let all : are_ready waking s ≡ true = refl in
      record {
        to = world_at 0 (stage_after waking s);
        main = record { place = refl; stays = refl };
        dark = refl;
        early = run_awake waking s all;
        on = run_on waking s all;
        calm_early = calm_awake waking s all;
        calm_on = calm_from waking s all;
        comes = comes_from waking s all;
      }

  -- in the sixteen steps after power-on what is executed is fit, and then the main program goes on
  pub wakes : (m : Cpu) → length m.ram ≡ 128 → (board : d.State) → Wakes (power_on d m board)
  wakes m long board =
      let end : drop 128 m.ram ≡ [] = drop_all 128 m.ram (omega (arith, long)) in
      let cells : m.ram ≡ before (λ i. get_or m.ram i 0) 0 128 [] =
      drop_is m.ram 0 128 (omega (arith, long)) ∙ ap (λ r. before (λ i. get_or m.ram i 0) 0 128 r) end in
      subst (λ (r : List ℕ). Wakes (power_on d (record m { ram = r }) board)) (sym cells)
      (wakes_from m (λ i. get_or m.ram i 0) board)
