-- What the host is answered: what the log says of its event.
use Rattle.std.specs.Prelude.{ℕ, Bool, false, ◌&&◌, List, [], ◌∷◌, Some, None}
use Rattle.std.specs.declared.option.Option.{Option}
use Rattle.ctl_core.specs.Controller.{ControllerState, interrupt_enabled}
use Rattle.host_turn.specs.declared.stamped.Stamped.{Stamped}
use Rattle.joint_run.specs.Joint.{Beside}
use Rattle.joint_run.specs.Run.{World}
use Rattle.pc_tables.specs.declared.item.Item.{Item}
use Rattle.pc_tables.specs.declared.item.Item.TheVariants.{
  Port,
  Read,
  Word,
  Beep,
  Overrun,
  Lights,
  Taken,
  Status,
  Output,
  Pulse,
  Broke,
  Pause,
  Resume,
  Print,
  Boot,
  SysMake,
  SysBreak,
}

-- what an item says of what the host asked for: a byte that it read from port 60h, the status, or a word that it took
-- or found missing
pub record ItemAnswer : Type 0 where
  pub read : Option ℕ
  pub status : Option ℕ
  pub taken : Option (Option ℕ)

abbrev pub no_answer : ItemAnswer
no_answer = record { read = None; status = None; taken = None }

abbrev pub answer_in : Item → ItemAnswer
answer_in (Port byte) = no_answer
answer_in (Read byte) = record no_answer { read = Some byte }
answer_in (Word word) = no_answer
answer_in Beep = no_answer
answer_in Overrun = no_answer
answer_in (Lights lights) = no_answer
answer_in (Taken word) = record no_answer { taken = Some word }
answer_in (Status byte) = record no_answer { status = Some byte }
answer_in (Output byte) = no_answer
answer_in (Pulse lines) = no_answer
answer_in Broke = no_answer
answer_in Pause = no_answer
answer_in Resume = no_answer
answer_in Print = no_answer
answer_in Boot = no_answer
answer_in SysMake = no_answer
answer_in SysBreak = no_answer

-- the first of a kind in a log
abbrev pub first_or : {X : Type 0} → Option X → Option X → Option X
first_or (Some x) later = Some x
first_or None later = later

abbrev pub first_in : {X : Type 0} → (ItemAnswer → Option X) → List Stamped → Option X
first_in f [] = None
first_in f (s ∷ log) = first_or (f (answer_in s.item)) (first_in f log)

-- the interrupt line of the keyboard: the output buffer is full, and its interrupt is enabled
abbrev pub raises : ControllerState → Bool
raises s = s.output_full && interrupt_enabled s

abbrev pub line_in : Option (World Beside) → Bool
line_in None = false
line_in (Some w) = raises w.board.pc.side.port.core
