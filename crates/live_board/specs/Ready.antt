-- A keyboard that has just been opened, and one that was run on until its interrupt line rose.
use Rattle.std.specs.Prelude.{◌≡◌, ℕ, true, false, List, [], None}
use Rattle.std.specs.declared.result.Result.{Result}
use Rattle.board_terms.specs.declared.event.HostAct.TheVariants.{Mask}
use Rattle.live_board.specs.Calls.{IsActed}
use Rattle.live_board.specs.Heard.{HasKeptAll, IsKeptLog}
use Rattle.live_board.specs.Pasts.{Past, untouched}
use Rattle.live_board.specs.Running.{HasRun, at_rise}
use Rattle.live_board.specs.States.{HasPast}
use Rattle.live_board.specs.declared.parts.Parts.{Parts as Keyboard}
use Rattle.live_board.specs.declared.ran.RunEnd.{RunEnd}
use Rattle.live_board.specs.declared.refused.Refused.{Refused}

-- it is at power-on, when data memory, A and T hold this byte and nothing is kept of its log
pub record IsFirst (fill : ℕ) (k : Keyboard) : Type 0 where
  pub at_first : HasPast (untouched fill k.joint.image.bytes 0) k
  pub cycle : k.joint.cycle ≡ 0
  pub none_kept : (k.heard.items.items ≡ []) × (k.heard.lost ≡ 0)

-- it has just been opened: from power-on, when data memory, A and T hold this byte and nothing is kept of its log, it
-- has run to stamp 0, and there INT 09h was masked, unless the program is stuck. What was said on the way is kept, and
-- the rises of the line are counted, as of any run and call
pub record IsOpened (fill : ℕ) (bytes : List ℕ) (k : Keyboard) : Type 0 where
  pub first : Keyboard
  pub at_first : HasPast (untouched fill bytes 0) first
  pub first_cycle : first.joint.cycle ≡ 0
  pub none_kept : (first.heard.items.items ≡ []) × (first.heard.lost ≡ 0)
  pub middle : Keyboard
  pub end : RunEnd
  pub ran : HasRun (at_rise false) (untouched fill bytes 0) first 4096 None end middle
  pub ran_reported : HasKeptAll (untouched fill bytes 0) first middle
  pub answer : Result (Unit {0}) Refused
  pub masked : IsActed Mask middle answer k
  pub masked_reported : IsKeptLog Mask middle answer k

-- it was opened with cleared memory, and the run has gone on from there until the interrupt line rose, or for a second:
-- 400,000 cycles
pub record IsReady (bytes : List ℕ) (k : Keyboard) : Type 0 where
  pub opened : Keyboard
  pub is_opened : IsOpened 0 bytes opened
  pub end : RunEnd
  pub ran : (p : Past) → HasPast p opened → HasRun (at_rise true) p opened 400000 None end k
  pub log_kept : (p : Past) → HasPast p opened → HasKeptAll p opened k
