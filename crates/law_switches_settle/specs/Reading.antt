-- What INT 09h reads of strokes, if the host is quiet.
use Rattle.std.specs.Prelude.{◌≡◌, ◌<◌, ℕ, false, List, ◌++◌}
use Rattle.std.specs.List.{flat_map}
use Rattle.std.specs.List.Sorted.{IsPermutation}
use Rattle.board_terms.specs.declared.event.Edge.{Edge}
use Rattle.board_terms.specs.declared.event.HostEvent.{HostEvent}
use Rattle.fw_compile.specs.Image.{image_of}
use Rattle.fw_kernel.specs.declared.labels.TheConstants.{TICK}
use Rattle.host_turn.specs.declared.stamped.Stamped.{Stamped}
use Rattle.joint_run.specs.Joint.{Beside, joint_board, log_of}
use Rattle.joint_run.specs.Run.{World}
use Rattle.joint_run.specs.Starts.{IsStart}
use Rattle.model_keyboard.specs.Once.{waiting}
use Rattle.key_file.specs.Histories.{KeyHistory}
use Rattle.law_keys_settle.specs.Settling.{AreSwitches, undebounced}
use Rattle.law_keys_settle.specs.Taking.{TakesOnce}
use Rattle.layout_reader.specs.Layouts.{KeyLayout}
use Rattle.law_link_times.specs.Coming.{IsExact, all_come, keyboard_at}
use Rattle.law_link_times.specs.Flowing.{IsHostQuiet}
use Rattle.law_link_times.specs.Reads.{put_out_for}
use Rattle.law_quiet_log.specs.Once.{all_arrived, all_taken_away}
use Rattle.law_quiet_log.specs.Ports.{port_of}
use Rattle.law_switches_settle.specs.Running.{RunsClean}

-- the bytes of the `port` items of a log
abbrev pub bytes_read : List Stamped → List ℕ
bytes_read log = flat_map (λ (s : Stamped). port_of s.item) log

-- the keys without bounces and the host's events, as a history
abbrev pub clean_history : List Edge → List HostEvent → KeyHistory
clean_history seen host = record { edges = seen; host = host; end = 0 }

-- up to each tick start INT 09h has read just what the controller put out for the bytes that arrived, which are those that
-- came, each once; what comes in a tick are the codes of the edges that it takes, each once, of a held key that repeats, and
-- the AA of the test's end; and what is taken of a key are the edges that it has in truth, each once and in their order
pub record ReadsStrokes (layout : KeyLayout) (keys contacts : List Edge) (host : List HostEvent) (from : World Beside)
    (starts : ℕ → ℕ) (seen : List Edge) : Type 0 where
  pub reads : (n stamp : ℕ) (s : IsStart (joint_board contacts host) TICK (image_of layout) from n stamp)
      → bytes_read (log_of s.state.board)
      ≡ put_out_for false (all_arrived (undebounced layout) (clean_history seen host) starts 0 n)
  pub arrives : (n : ℕ)
      → IsPermutation (all_come (undebounced layout) (clean_history seen host) starts 0 n)
      (all_arrived (undebounced layout) (clean_history seen host) starts 0 n
      ++ (all_taken_away (undebounced layout) (clean_history seen host) starts 0 n
      ++ waiting (keyboard_at (undebounced layout) (clean_history seen host) starts n)))
  pub comes : (n : ℕ) → IsExact (undebounced layout) (clean_history seen host) starts n
  pub takes : (place n : ℕ) → place < 96 → TakesOnce layout keys seen host starts place n

-- so it is of each such run, if the host only takes words and reads the status
abbrev pub StrokesAreRead : Type 0
StrokesAreRead =
    (layout : KeyLayout) (keys contacts : List Edge) (host : List HostEvent) (from : World Beside)
    (c : RunsClean layout keys contacts host from) → AreSwitches keys contacts → IsHostQuiet (clean_history c.seen host)
    → ReadsStrokes layout keys contacts host from c.starts c.seen
