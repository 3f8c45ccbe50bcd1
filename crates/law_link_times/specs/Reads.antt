-- What the PC reads: the log's `port` items are what the keyboard's bytes come to, each once, in their order.
use Rattle.std.specs.Prelude.{◌≡◌, ℕ, false, true, Bool, if◌then◌else◌, List, [], ◌∷◌, ◌++◌, All, Some, None}
use Rattle.std.specs.List.{flat_map}
use Rattle.std.specs.declared.option.Option.{Option}
use Rattle.board_terms.specs.Cadence.{KeepsCadenceTo}
use Rattle.board_terms.specs.declared.event.HostAct.{HostAct}
use Rattle.board_terms.specs.declared.event.HostAct.TheVariants.{Write60, Write64, Read60, Mask, Unmask, Take}
use Rattle.board_terms.specs.declared.event.HostAct.TheVariants.{Status, Flip}
use Rattle.ctl_core.specs.Controller.{ControllerState}
use Rattle.ctl_core.specs.Translation.{translation}
use Rattle.ctl_core.specs.declared.translation.Translated.{Translated}
use Rattle.host_turn.specs.declared.stamped.Stamped.{Stamped}
use Rattle.host_turn.specs.Run.{Side}
use Rattle.model_controller.specs.declared.UnderWay.{UnderWay}
use Rattle.key_file.specs.Histories.{KeyHistory}
use Rattle.layout_reader.specs.Layouts.{KeyLayout}
use Rattle.model_link.specs.declared.line.LogLine.{LogLine}
use Rattle.model_link.specs.Expected.{expected}
use Rattle.model_link.specs.Machine.{keyboard}
use Rattle.law_quiet_log.specs.Once.{at_tick, all_arrived}
use Rattle.law_quiet_log.specs.Ports.{port_of}
use Rattle.law_link_times.specs.Flowing.{IsHostQuiet}

-- the host writes bytes for the keyboard, takes words, reads the status, and masks and unmasks the interrupt, whenever
-- it likes. It gives the controller no command and reads no byte itself, and no noise turns a bit round
abbrev pub LeavesBytes : HostAct → Type 0
LeavesBytes (Write60 byte) = Unit {0}
LeavesBytes (Write64 byte) = ⊥
LeavesBytes Read60 = ⊥
LeavesBytes Mask = Unit {0}
LeavesBytes Unmask = Unit {0}
LeavesBytes Take = Unit {0}
LeavesBytes Status = Unit {0}
LeavesBytes (Flip bit) = ⊥

abbrev pub LeavesAllBytes : KeyHistory → Type 0
LeavesAllBytes history = All (λ event. LeavesBytes event.act) history.host

-- one or none
abbrev pub listed : Option ℕ → List ℕ
listed None = []
listed (Some code) = code ∷ []

-- what the controller puts out for bytes of the keyboard, by whether F0 came before them: nothing for F0, and for any
-- other byte its code in set 1
abbrev pub put_out_for : Bool → List ℕ → List ℕ
put_out_for mark [] = []
put_out_for mark (byte ∷ bytes) =
    let t : Translated = translation true mark byte in
    listed t.byte ++ put_out_for t.mark bytes

-- what INT 09h has read so far, and what is put out and not read yet
abbrev pub read_so_far : Side UnderWay → List ℕ
read_so_far side = flat_map (λ (s : Stamped). port_of s.item) side.log

abbrev pub unread : ControllerState → List ℕ
unread s = if s.output_full then s.output ∷ [] else []

-- up to each tick's start INT 09h has read just what the controller put out for the bytes that have arrived, each once
-- and in their order, but for one that may be unread still
abbrev pub EachIsReadOnce : Type 0
EachIsReadOnce =
    (layout : KeyLayout) (history : KeyHistory) (starts : ℕ → ℕ) (n : ℕ) → LeavesAllBytes history
    → read_so_far (at_tick layout history starts n).side ++ unread (at_tick layout history starts n).side.port.core
    ≡ put_out_for false (all_arrived layout history starts 0 n)

-- the bytes of the `port` lines of a log
abbrev pub port_lines : List LogLine → List ℕ
port_lines lines = flat_map (λ (l : LogLine). port_of l.item) lines

-- with a quiet host none is unread: the `port` lines of the expected log are just that
abbrev pub PortLinesAreArrivals : Type 0
PortLinesAreArrivals =
    (layout : KeyLayout) (history : KeyHistory) (starts : ℕ → ℕ) (n : ℕ) → IsHostQuiet history
    → KeepsCadenceTo starts n
    → port_lines (expected (keyboard layout) history.edges history.host starts n)
    ≡ put_out_for false (all_arrived layout history starts 0 n)
