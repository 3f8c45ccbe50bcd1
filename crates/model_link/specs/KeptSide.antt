-- What the program keeps of a run.
use Rattle.std.specs.Prelude.{ℕ, List}
use Rattle.host_turn.specs.declared.desk.Desk.{Desk}
use Rattle.host_turn.specs.declared.stamped.Stamped.{Stamped}
use Rattle.host_turn.specs.Run.{Side}
use Rattle.model_controller.specs.declared.UnderWay.{UnderWay}

-- the PC's side with what was said so far
abbrev pub side_of : Desk UnderWay → ℕ → List Stamped → Side UnderWay
side_of d done log = record { port = d.port; masked = d.masked; bios = d.bios; done = done; log = log }
