-- From the head of a tick to its frame: the power-on test doesn't run, and both wires are looked at.
use Rattle.std.proofs.Common.{◌≡◌, ◌<◌, ℕ, ◌+◌, ◌==◌, List, [], ◌∷◌, All, Bool, true, false, not}
use Rattle.std.proofs.Common.{refl, ap, sym, ◌∙◌, subst, arith}
use Rattle.mcs48_core.specs.Cpu.{Cpu}
use Rattle.fw_kernel.specs.declared.cells.TheConstants.{TEST}
use Rattle.fw_kernel.specs.Places.{HasKernel}
use Rattle.fw_kernel.specs.declared.labels.TheConstants.{TESTED, SEND, GOT}
use Rattle.law_fw_keys.proofs.Blocks.{fine_end}
use Rattle.mcs48_ranges.specs.Sizes.{IsByte, IsFine}
use Rattle.law_fw_logic.proofs.Block.{memory, scratched, begin_at, At}
use Rattle.law_fw_logic.proofs.Blocks.{straight, absolute, from_stage}
use Rattle.law_fw_logic.proofs.TimerParts.{IsFree}
use Rattle.law_fw_logic.proofs.Kernel.{kernel_in}
use Rattle.law_fw_logic.proofs.Leads.{Leads}
use Rattle.law_fw_logic.proofs.Looks.{readied}
use Rattle.law_fw_logic.proofs.Path.{Stage, Code, Go}
use Rattle.law_fw_logic.proofs.Short.{has_rows}
use Rattle.law_fw_logic.proofs.Sound.{chain}
use Rattle.joint_run.specs.Run.{Board, after_cycles}

-- the registers after the looks
abbrev pub looked_in : (ℕ → ℕ) → ℕ → ℕ
looked_in g = readied g

module _ (d : Board) (bytes : List ℕ) (has : HasKernel bytes) (z : ℕ) (m : Cpu) (board : d.State) (g : ℕ → ℕ)
    (ring : List ℕ) where
  abbrev code : Code
  code = kernel_in true bytes

  -- the board so many cycles after
  abbrev pub board_at : ℕ → d.State
  board_at n = after_cycles n z (d.cycle m.p2) board

  -- the clock is looked at in cycle 22, data in cycle 24
  abbrev pub clock : Bool
  clock = (d.pins m.p1 m.p2 (z + 22) (board_at 22)).t0

  abbrev pub data_wire : Bool
  data_wire = (d.pins m.p1 m.p2 (z + 24) (board_at 24)).t1

  -- the looks end at a place, 26 cycles after
  abbrev pub Looked : ℕ → Stage d.State → Type 0
  Looked to = At d (record m { f1 = false }) to (looked_in g) ring 26 (board_at 26)

  clock_is : (d.pins m.p1 m.p2 (z + 22) (after_cycles 22 0 (λ o. d.cycle m.p2 (z + o)) board)).t0 ≡ clock
  clock_is = ap (λ b. (d.pins m.p1 m.p2 (z + 22) b).t0) (absolute 22 z (d.cycle m.p2) board)

  data_is : (d.pins m.p1 m.p2 (z + 24) (after_cycles 24 0 (λ o. d.cycle m.p2 (z + o)) board)).t1 ≡ data_wire
  data_is = ap (λ b. (d.pins m.p1 m.p2 (z + 24) b).t1) (absolute 24 z (d.cycle m.p2) board)

  -- both wires are high
  pub to_send : IsFree m → (g TEST == 0) ≡ true → clock ≡ true → data_wire ≡ true
      → Leads d code z (begin_at d TESTED g ring m board) (Looked SEND)
  to_send free no_test high high' =
      straight d code (has_rows true bytes has) (Go false ∷ Go false ∷ Go false ∷ []) z m
      TESTED SEND 26 g (looked_in g) ring (record m { f1 = false }) board (board_at 26) free (
        ap not no_test,
        (
          ap not (clock_is ∙ high),
          (
            ap not (data_is ∙ high'),
            (refl, refl, absolute 26 z (d.cycle m.p2) board),
          ),
        ),
      )

  -- the clock is high, and data low
  pub to_got : IsFree m → (g TEST == 0) ≡ true → clock ≡ true → data_wire ≡ false
      → Leads d code z (begin_at d TESTED g ring m board) (Looked GOT)
  to_got free no_test high low =
      straight d code (has_rows true bytes has) (Go false ∷ Go false ∷ Go true ∷ []) z m
      TESTED GOT 26 g (looked_in g) ring (record m { f1 = false }) board (board_at 26) free (
        ap not no_test,
        (
          ap not (clock_is ∙ high),
          (
            ap not (data_is ∙ low),
            (refl, refl, absolute 26 z (d.cycle m.p2) board),
          ),
        ),
      )

  -- the processor where the looks end, but for what a block may use
  abbrev pub at_frame : ℕ → Cpu → Cpu
  at_frame pc c = scratched (record m { f1 = false }) pc (memory (looked_in g) ring) c

  -- a frame of n cycles from there, whatever the processor's timer and flags are; A is a byte
  abbrev pub FrameOn : ℕ → ℕ → ℕ → (ℕ → ℕ) → d.State → Type 0
  FrameOn pc to n now after =
      (c : Cpu) → IsFree (at_frame pc c) → c.a < 256
      → Leads d code (z + 26) (begin_at d pc (looked_in g) ring (at_frame pc c) (board_at 26))
      (At d (at_frame pc c) to now ring n after)

module _ (d : Board) (bytes : List ℕ) (has : HasKernel bytes) (small : All IsByte bytes)
    (low : (p1 p2 c : ℕ) (s : d.State) → (d.pins p1 p2 c s).bus < 256) (z : ℕ) (m : Cpu) (board : d.State) (g : ℕ → ℕ)
    (ring : List ℕ) where
  abbrev begin : Stage d.State
  begin = begin_at d TESTED g ring m board

  -- the looks and a frame behind them
  pub with_frame : (pc to n : ℕ) (now : ℕ → ℕ) (after : d.State) → IsFine begin.cpu
      → Leads d (kernel_in true bytes) z begin (Looked d bytes has z m board g ring pc)
      → FrameOn d bytes has z m board g ring pc to n now after
      → Leads d (kernel_in true bytes) z begin (At d (record m { f1 = false }) to now ring (26 + n) after)
  with_frame pc to n now after fine first second =
      let K = kernel_in true bytes in
      let rows = has_rows true bytes has in
      let Q : Stage d.State → Type 0 = Looked d bytes has z m board g ring pc in
      let End : Stage d.State → Type 0 = At d (record m { f1 = false }) to now ring (26 + n) after in
      let b26 : d.State = board_at d bytes has z m board g ring 26 in
      let begins : Cpu → d.State → Stage d.State = λ c b. begin_at d pc (looked_in g) ring c b in
      chain d K rows z (λ e. Q e × IsFine e.cpu) End begin (fine_end d K rows small low z begin Q fine first)
      (λ e af free.
      let a = af.0 in
      let c : Cpu = e.cpu in
      let frame : Leads d K (z + 26) (begins c b26) (At d c to now ring n after) =
      subst (λ u. Leads d K (z + 26) (begins u b26) (At d u to now ring n after)) (sym a.cpu)
      (second c (subst IsFree a.cpu free) af.1.a) in
      from_stage d K rows z pc (record m { f1 = false }) (looked_in g) ring e (At d c to now ring n after) End a.cpu
      (λ e2 h.
      let o : e.off ≡ 26 = a.off in
      let p : e2.off ≡ n = h.off in
      record {
        cpu = h.cpu ∙ ap (λ u. scratched u to (memory now ring) e2.cpu) a.cpu;
        off = omega (arith, o, p);
        now = h.now;
      })
      (subst (λ o. Leads d K (z + o) (begins c e.board) (At d c to now ring n after)) (sym a.off)
      (subst (λ b. Leads d K (z + 26) (begins c b) (At d c to now ring n after)) (sym a.now) frame)))
