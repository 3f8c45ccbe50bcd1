-- For every layout and every lawful history run and model agree, and so do the other laws of the run hold.
use Rattle.std.proofs.Common.{◌≡◌, ℕ, true, false, Some, List, refl, ap, arith}
use Rattle.std.proofs.lemmas.List.Elements.{All-replicate}
use Rattle.fw_compile.specs.Image.{image_of}
use Rattle.fw_kernel.specs.declared.labels.TheConstants.{TICK}
use Rattle.law_fw_logic.proofs.Executing.{begins_dark}
use Rattle.law_fw_logic.proofs.Laws.{comes_as}
use Rattle.law_fw_logic.proofs.Waking.{Wakes, wakes}
use Rattle.board_terms.specs.declared.event.Edge.{Edge}
use Rattle.board_terms.specs.declared.event.HostEvent.{HostEvent}
use Rattle.joint_run.specs.Joint.{Beside, beside_at_start, joint_board}
use Rattle.joint_run.specs.Run.{World, joint_step}
use Rattle.joint_run.specs.Starts.{at_tick, calm, Comes}
use Rattle.key_file.specs.Accepted.{IsLawfulFor}
use Rattle.key_file.specs.Histories.{KeyHistory}
use Rattle.layout_reader.specs.Layouts.{KeyLayout, IsKeyLayout}
use Rattle.model_link.specs.Machine.{LayeredKeyboard, keyboard}
use Rattle.mcs48_core.specs.Cpu.{Cpu}
use Rattle.mcs48_core.specs.Reset.{reset_cpu}
use Rattle.mcs48_ranges.specs.Sizes.{IsByte, IsFine}
use Rattle.law_agreement.specs.AnyStart.{AreFor}
use Rattle.law_agreement.specs.Agreement.{AgreementLaw, AnyMemoryLaw, PromptLaw, switched_on}
use Rattle.law_agreement.specs.Memory.{Holds, MemoryLaw}
use Rattle.law_agreement.specs.Wires.{WiresLaw}
use Rattle.law_agreement.proofs.Beginning.{is_tick, begins_let_go}
use Rattle.law_agreement.proofs.Compiled.{has_kernel, are_bytes}
use Rattle.law_agreement.proofs.Holding.{HasPlaces, none_held, holds_now}
use Rattle.law_fw_logic.specs.Ticks.{IsOnTime}
use Rattle.law_agreement.proofs.Model.{at_first}
use Rattle.law_agreement.proofs.ModelAtEachStart.{keeps_time, at_starts, agrees, drives, prompt}
use Rattle.law_agreement.proofs.Tied.{TiedInTime, drives_in_time, fits_in_time, next_in_time, tied_first}

-- a lawful history is one of the layout's
bare : (layout : KeyLayout) (history : KeyHistory) → IsLawfulFor layout history → AreFor layout history.edges history.host
bare layout history ok = record { places = ok.places; written = ok.lawful.written; flips = ok.lawful.flips }

module _ (layout : KeyLayout) (history : KeyHistory) (fine : IsKeyLayout layout)
    (ok : IsLawfulFor layout history) where
  abbrev edges : List Edge
  edges = history.edges

  abbrev events : List HostEvent
  events = history.host

  abbrev bytes : List ℕ
  bytes = image_of layout

  -- the first start
  module _ (m : Cpu) (small : IsFine m) where
    abbrev from : World Beside
    from = switched_on edges events m

    wake : Wakes (joint_board edges events) bytes (has_kernel layout) from
    wake = wakes (joint_board edges events) bytes (has_kernel layout) m small.long beside_at_start

    comes_first : Comes (joint_board edges events) TICK bytes from (λ e. at_tick (joint_board edges events) TICK e ≡ true)
    comes_first =
        comes_as (joint_board edges events) TICK bytes
        (λ e. IsOnTime 0 e × TiedInTime layout history fine (bare layout history ok) e (at_first (keyboard layout) events e.cycle))
        (λ e. at_tick (joint_board edges events) TICK e ≡ true) from
        (λ e h. is_tick edges events e h.1.tied.ties.started) (tied_first layout history fine (bare layout history ok) m small)

    -- up to it port 1 is as reset leaves it
    stays_dark : (k : ℕ) (one next : World Beside) → calm (joint_board edges events) TICK bytes k from ≡ Some one
        → at_tick (joint_board edges events) TICK one ≡ false
        → joint_step (joint_board edges events) bytes one ≡ Some next → next.cpu.p1 ≡ 255
    stays_dark = begins_dark (joint_board edges events) bytes (has_kernel layout) from wake comes_first

-- run and model have one log under every lawful history, whatever the part held when it was switched on
pub every_memory : AnyMemoryLaw
every_memory layout history fine ok m small = (
  keeps_time LayeredKeyboard (switched_on history.edges history.host m) (image_of layout) history ok.lawful (keyboard layout)
      (TiedInTime layout history fine (bare layout history ok)) (λ k. HasPlaces k) (fits_in_time layout history fine (bare layout history ok)) (λ p l. none_held layout p)
      (holds_now layout) (tied_first layout history fine (bare layout history ok) m small) (next_in_time layout history fine (bare layout history ok))
      (λ w m t. ap (λ (s : _). s.log) t.tied.ties.side) (λ w m t. (t.started.entered.serves, t.started.entered.bank))
      (λ w m t. (t.started.entered.early, t.started.entered.late)),
  agrees LayeredKeyboard (switched_on history.edges history.host m) (image_of layout) history ok.lawful (keyboard layout)
      (TiedInTime layout history fine (bare layout history ok)) (λ k. HasPlaces k) (fits_in_time layout history fine (bare layout history ok)) (λ p l. none_held layout p)
      (holds_now layout) (tied_first layout history fine (bare layout history ok) m small) (next_in_time layout history fine (bare layout history ok))
      (λ w m t. ap (λ (s : _). s.log) t.tied.ties.side) (λ w m t. (t.started.entered.serves, t.started.entered.bank))
      (λ w m t. (t.started.entered.early, t.started.entered.late)),
)

-- cleared memory is fine
pub cleared : IsFine reset_cpu
cleared =
    record {
      pc = omega arith;
      a = omega arith;
      ram = All-replicate IsByte 128 0 (omega arith);
      long = refl;
      t = omega arith;
      pre = omega arith;
      p1 = omega arith;
      p2 = omega arith;
      bus = omega arith;
      sp = omega arith;
    }

-- run and model have one log under every lawful history, and the run keeps its time
pub every_run : AgreementLaw
every_run layout history fine ok = every_memory layout history fine ok reset_cpu cleared

-- each start is prompt
pub every_start : PromptLaw
every_start layout history fine ok m small =
    prompt LayeredKeyboard (switched_on history.edges history.host m) (image_of layout) history ok.lawful (keyboard layout)
    (TiedInTime layout history fine (bare layout history ok)) (λ k. HasPlaces k) (fits_in_time layout history fine (bare layout history ok)) (λ p l. none_held layout p)
    (holds_now layout) (tied_first layout history fine (bare layout history ok) m small) (next_in_time layout history fine (bare layout history ok))
    (λ w m t. ap (λ (s : _). s.log) t.tied.ties.side) (λ w m t. (t.started.entered.serves, t.started.entered.bank))
    (λ w m t. (t.started.entered.early, t.started.entered.late))

-- and the wires are as their law says
pub every_wire : WiresLaw
every_wire layout history fine ok m small =
    drives LayeredKeyboard (switched_on history.edges history.host m) (image_of layout) history ok.lawful (keyboard layout)
    (TiedInTime layout history fine (bare layout history ok)) (λ k. HasPlaces k) (fits_in_time layout history fine (bare layout history ok)) (λ p l. none_held layout p)
    (holds_now layout) (tied_first layout history fine (bare layout history ok) m small) (next_in_time layout history fine (bare layout history ok))
    (λ w m t. ap (λ (s : _). s.log) t.tied.ties.side) (λ w m t. (t.started.entered.serves, t.started.entered.bank))
    (λ w m t. (t.started.entered.early, t.started.entered.late))
    (begins_let_go history.edges history.host (image_of layout) (has_kernel layout) (are_bytes layout fine) m small)
    (stays_dark layout history fine ok m small)
    (drives_in_time layout history fine (bare layout history ok))

-- and data memory shows the model's keyboard
pub every_holding : MemoryLaw
every_holding layout history fine ok m small =
    let a =
    at_starts LayeredKeyboard (switched_on history.edges history.host m) (image_of layout) history ok.lawful
    (keyboard layout)
    (TiedInTime layout history fine (bare layout history ok)) (λ k. HasPlaces k) (fits_in_time layout history fine (bare layout history ok)) (λ p l. none_held layout p)
    (holds_now layout) (tied_first layout history fine (bare layout history ok) m small) (next_in_time layout history fine (bare layout history ok))
    (λ w m t. ap (λ (s : _). s.log) t.tied.ties.side)
    (λ w m t. (t.started.entered.serves, t.started.entered.bank))
    (λ w m t. (t.started.entered.early, t.started.entered.late)) (λ w m. Holds w m.keys)
    (λ n w m time t few. (t.tied.ties.keyboard, t.tied.ties.layers)) in
    record { starts = a.0; each = a.1; holds = a.2 }
