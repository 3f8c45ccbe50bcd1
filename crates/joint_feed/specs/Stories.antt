-- What is run, and the states of its joint run from power-on.
use Rattle.std.specs.Prelude.{ℕ, Bool, List}
use Rattle.std.specs.declared.option.Option.{Option}
use Rattle.board_terms.specs.declared.event.Edge.{Edge}
use Rattle.board_terms.specs.declared.event.HostEvent.{HostEvent}
use Rattle.joint_run.specs.Joint.{Beside, joint_board, joint_start_of}
use Rattle.joint_run.specs.Run.{World, run_at}
use Rattle.joint_run.specs.Starts.{at_tick}
use Rattle.fw_kernel.specs.declared.labels.TheConstants.{TICK}
use Rattle.key_file.specs.Histories.{KeyHistory}
use Rattle.mcs48_core.specs.Cpu.{Cpu}
use Rattle.mcs48_core.specs.Reset.{reset_cpu}

-- the program, the edges of keys, the host's events, the end stamp, and what the part held when it was switched on
pub record Story : Type 0 where
  pub bytes : List ℕ
  pub edges : List Edge
  pub events : List HostEvent
  pub stop : ℕ
  pub held : Cpu

abbrev pub story_from : Cpu → List ℕ → KeyHistory → Story
story_from held bytes history = record {
  bytes = bytes;
  edges = history.edges;
  events = history.host;
  stop = history.end;
  held = held;
}

-- with cleared memory
abbrev pub story : List ℕ → KeyHistory → Story
story bytes history = story_from reset_cpu bytes history

-- the joint state after so many steps from power-on, if there is one
abbrev pub state_at : Story → ℕ → Option (World Beside)
state_at s k = run_at (joint_board s.edges s.events) s.bytes (joint_start_of s.held) k

-- whether a tick starts at a state
abbrev pub starts_tick : Story → World Beside → Bool
starts_tick s w = at_tick (joint_board s.edges s.events) TICK w
