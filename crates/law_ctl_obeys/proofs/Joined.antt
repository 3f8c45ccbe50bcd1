-- The run at the controller is a run at a host that keeps the rules.
use Rattle.std.proofs.Common.{◌≡◌, ◌<◌, ℕ, zero, suc, ◌+◌, ◌-◌, ◌*◌, ◌/◌, ◌%◌, Bool, true, false, not}
use Rattle.std.proofs.Common.{refl, ap, sym, ◌∙◌, arith}
use Rattle.bits.proofs.Every.{pair_tests}
use Rattle.bits.specs.Bits.{bit}
use Rattle.board_terms.specs.declared.lines.Lines.{Lines}
use Rattle.ctl_wire.specs.Cycles.{WireState, at_start}
use Rattle.ctl_wire.specs.Pulls.{Happening, wire_cycle}
use Rattle.ctl_wire.specs.Wire.{drive}
use Rattle.ctl_wire.specs.Wires.{joined}
use Rattle.fw_compile.specs.Image.{image_of}
use Rattle.fw_kernel.specs.declared.labels.TheConstants.{TICK}
use Rattle.law_fw_logic.proofs.Blocks.{ticks_add}
use Rattle.joint_run.specs.Joint.{latch_of}
use Rattle.joint_run.specs.Run.{Board, World}
use Rattle.joint_run.specs.Starts.{at_tick}
use Rattle.layout_reader.specs.Layouts.{IsKeyLayout, KeyLayout}
use Rattle.mcs48_core.specs.Cpu.{Cpu}
use Rattle.mcs48_ranges.specs.Sizes.{IsFine}
use Rattle.law_ctl_obeys.proofs.CtlRules.{keeps_end, keeps_rules, wires}
use Rattle.law_any_host.proofs.Hosted.{works_at}
use Rattle.law_any_host.proofs.Latch.{latch, of_run}
use Rattle.law_any_host.proofs.OnRun.{up_to_first}
use Rattle.law_any_host.proofs.Run.{works_alone}
use Rattle.law_any_host.specs.AnyHost.{IsWiringOf, WorksAt, driven_to}
use Rattle.law_any_host.specs.AnyPins.{ShowsOwnKeys, WorksAlone}
use Rattle.law_any_host.specs.Ears.{Eleventh}
use Rattle.law_ctl_obeys.proofs.InBytes.{requests_bytes}
use Rattle.law_ctl_obeys.specs.AtController.{AreKeysOf, AtControllerLaw, at_power, controller_board}
use Rattle.law_ctl_obeys.specs.Controller.{WriteBytes, state_at, wiring_by}

-- a key is down where its row is low
down_is_low : (r n : ℕ) → r < 8 → n < 256 → bit r (255 - n) ≡ true → bit r n ≡ false
down_is_low r n lr ln is =
    let turned : bit r (255 - n) ≡ not (bit r n) = pair_tests 8 256 (λ r n. bit r (255 - n)) (λ r n. not (bit r n)) refl r n lr ln in
    by (bit r n) (sym turned ∙ is)
  where
    by : (b : Bool) → not b ≡ true → b ≡ false
    by true e = absurd cc
    by false e = refl

module _ (layout : KeyLayout) (fine : IsKeyLayout layout) (keys : ℕ → ℕ → ℕ) (low : (c p1 : ℕ) → keys c p1 < 256)
    (own_keys : AreKeysOf layout keys) (calls : ℕ → Happening) (write : WriteBytes calls) (m : Cpu) (small : IsFine m) where
  abbrev d : Board
  d = controller_board keys calls

  abbrev from : World WireState
  from = at_power keys calls m

  -- a tick's columns are the rows of its cycles
  own : (w : World WireState) → ShowsOwnKeys layout d w
  own w = record {
    placed = λ place l is.
        let c : ℕ = w.cycle + (16 + 16 * (place / 8)) in
        let n : ℕ = keys c (32 + place / 8) in
        own_keys c place l (down_is_low (place % 8) n (omega arith) (low c (32 + place / 8)) is);
  }

  -- the run on the controller's board works as the model
  pub alone : WorksAlone layout d from
  alone = works_alone layout fine d (λ p1 p2 c s. low c p1) m small at_start (λ n stamp s. own s.state)

  -- the latch of port 2 in each cycle
  pub l : ℕ → ℕ
  l = latch layout d from alone

  abbrev pub keyboard : ℕ → Lines
  keyboard c = latch_of (l c)

  abbrev pub happens : ℕ → Happening
  happens c = record {
    before = (calls c).before;
    line = joined (latch_of (l c)) (drive (driven_to d l at_start c).port.link);
    calls = (calls c).calls;
  }

  -- the controller's states are the board's
  state_is : (c : ℕ) → state_at happens c ≡ driven_to d l at_start c
  state_is zero = refl
  state_is (suc c) =
      let one : c + 1 ≡ suc c = omega arith in
      let z : 0 + c ≡ c = omega arith in
      ap (λ s. wire_cycle c (happens c) s) (state_is c)
      ∙ ap (λ i. d.cycle (l i) i (driven_to d l at_start c)) (sym z)
      ∙ sym (ticks_add c 1 0 (λ c. d.cycle (l c) c) at_start)
      ∙ ap (λ n. driven_to d l at_start n) one

  link_is : (c : ℕ) → joined (keyboard c) (drive (state_at happens c).port.link)
      ≡ joined (keyboard c) (drive (driven_to d l at_start c).port.link)
  link_is c = ap (λ (s : WireState). joined (keyboard c) (drive s.port.link)) (state_is c)

  begins_high : (keyboard 0).clk ≡ true
  unfolding l
  begins_high =
      ap (λ v. (latch_of v).clk)
      (up_to_first d (image_of layout) from refl (latch layout d from alone) (of_run layout d from alone) (alone.starts 0)
      (alone.each 0) (λ c. 255) (λ e. at_tick d TICK e ≡ true) (λ e q. q) alone.first 0 (omega arith))

  wiring : IsWiringOf d (image_of layout) from (wiring_by keyboard happens)
  unfolding l
  wiring = record {
    latch = latch layout d from alone;
    of_run = of_run layout d from alone;
    keyboard = λ c. refl;
    clock = λ c. ap (λ (v : Lines). v.clk) (link_is c);
    data_wire = λ c. ap (λ (v : Lines). v.dat) (link_is c);
  }

  -- at the controller the keyboard works: each hears each byte of the other
  pub joined_run : WorksAt Eleventh layout d from (wiring_by keyboard happens)
  joined_run =
      works_at layout d from alone (wiring_by keyboard happens) wiring refl
      (wires keyboard happens (λ c. sym (link_is c)) begins_high)
      (keeps_rules keyboard happens (λ c. sym (link_is c)) begins_high
      (requests_bytes happens write))
      Eleventh (keeps_end keyboard happens (λ c. sym (link_is c)) begins_high)

-- the run at the controller is the model's, and keyboard and controller hear each byte of each other
pub at_controller : AtControllerLaw
at_controller layout fine keys low own_keys calls write m small = record {
  keyboard = keyboard layout fine keys low own_keys calls write m small;
  happens = happens layout fine keys low own_keys calls write m small;
  called = λ c. (refl, refl);
  lines = λ c. sym (link_is layout fine keys low own_keys calls write m small c);
  wiring = wiring layout fine keys low own_keys calls write m small;
  works = joined_run layout fine keys low own_keys calls write m small;
}
