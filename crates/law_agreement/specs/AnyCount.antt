-- The run under any keys, however many change at once: the model goes by what the columns show.
use Rattle.std.specs.Prelude.{◌≡◌, ◌≤◌, ℕ, suc, ◌+◌, ◌*◌, Bool, List, length, Some}
use Rattle.board_terms.specs.declared.event.Edge.{Edge}
use Rattle.board_terms.specs.declared.event.HostEvent.{HostEvent}
use Rattle.fw_compile.specs.Image.{image_of}
use Rattle.fw_kernel.specs.declared.labels.TheConstants.{TICK}
use Rattle.joint_run.specs.Joint.{Beside, joint_board, log_of}
use Rattle.joint_run.specs.Run.{World, run_at}
use Rattle.joint_run.specs.Starts.{IsStart}
use Rattle.layout_reader.specs.Layouts.{KeyLayout, IsKeyLayout}
use Rattle.model_link.specs.Debounce.{taken}
use Rattle.model_link.specs.Expected.{Whole, whole_at}
use Rattle.model_link.specs.Machine.{LayeredKeyboard, keyboard}
use Rattle.model_link.specs.TickEdges.{downs_in, shown}
use Rattle.mcs48_core.specs.Cpu.{Cpu}
use Rattle.mcs48_ranges.specs.Sizes.{IsFine}
use Rattle.law_agreement.specs.Agreement.{switched_on}
use Rattle.law_agreement.specs.AnyKeys.{shortest_tick, tick_with}
use Rattle.law_agreement.specs.AnyStart.{AreFor, model_from}
use Rattle.law_agreement.specs.Memory.{Holds}

-- the keys that a tick takes as changed: those whose columns differ from those that were read last, or with a debounce
-- those that both readings show otherwise than before
abbrev pub changes_in : KeyLayout → List Edge → List HostEvent → (ℕ → ℕ) → Whole LayeredKeyboard → ℕ → List (ℕ × Bool)
changes_in layout edges events starts m k =
    taken layout.debounce
    (shown ((keyboard layout).held (model_from (keyboard layout) edges events starts m k).keys) (downs_in starts edges k))
    (model_from (keyboard layout) edges events starts m k).keys.switches

-- from tick k on at most four keys change in each
abbrev pub IsCalmFrom : KeyLayout → List Edge → List HostEvent → (ℕ → ℕ) → Whole LayeredKeyboard → ℕ → Type 0
IsCalmFrom layout edges events starts m k = (j : ℕ) → length (changes_in layout edges events starts m (k + j)) ≤ 4

-- the starts after start k are at multiples of 2,048 past an origin of their own, or one cycle later
abbrev pub KeepsStepFrom : (ℕ → ℕ) → ℕ → Type 0
KeepsStepFrom starts k = (origin : ℕ)
    × ((j : ℕ) → (origin + 2048 * j ≤ starts (suc (k + j))) × (starts (suc (k + j)) ≤ origin + 2048 * j + 1))

-- the run from a state is never stuck. At each tick start data memory shows the model's keyboard, which goes on from what it
-- is at the first by what the columns show; and what was said up to there is what the model says. A tick lasts at least 2,016
-- cycles, and at most 2,054 and 62 for each key that changed, with a debounce 314 more. Once at most four change, the starts
-- keep step again
pub record GoesByColumns (layout : KeyLayout) (edges : List Edge) (events : List HostEvent) (from : World Beside)
    (at : ℕ → Whole LayeredKeyboard) : Type 0 where
  pub goes_on : (k : ℕ) → (w : World Beside) × (run_at (joint_board edges events) (image_of layout) from k ≡ Some w)
  pub starts : ℕ → ℕ
  pub each : (k : ℕ) → IsStart (joint_board edges events) TICK (image_of layout) from k (starts k)
  pub apart : (k : ℕ) → starts k + shortest_tick ≤ starts (suc k)
  pub soon : (k : ℕ) → starts (suc k) ≤ starts k + tick_with (image_of layout) (length (changes_in layout edges events starts (at (starts 0)) k))
  pub steady : (k : ℕ) → IsCalmFrom layout edges events starts (at (starts 0)) k → KeepsStepFrom starts k
  pub holds : (k stamp : ℕ) (s : IsStart (joint_board edges events) TICK (image_of layout) from k stamp)
      → Holds s.state (model_from (keyboard layout) edges events starts (at (starts 0)) k).keys
  pub log : (k stamp : ℕ) (s : IsStart (joint_board edges events) TICK (image_of layout) from k stamp)
      → log_of s.state.board ≡ (model_from (keyboard layout) edges events starts (at (starts 0)) k).side.log

-- so is the run of a part that held anything when it was switched on, from the model at power-on: whatever the layout's keys
-- do, any number at once, bouncing or not, whatever bytes the host writes and data bits or parities noise inverts
abbrev pub AnyCountLaw : Type 0
AnyCountLaw =
    (layout : KeyLayout) (edges : List Edge) (events : List HostEvent) → IsKeyLayout layout → AreFor layout edges events
    → (m : Cpu) → IsFine m
    → GoesByColumns layout edges events (switched_on edges events m)
    (λ stamp. whole_at (keyboard layout) edges events (λ n. stamp) 0)
