-- A keyboard that runs as one goes, against the model.
use Rattle.std.specs.Prelude.{◌≡◌, ◌<◌, ◌^◌, ℕ, Bool, List, [], ◌++◌, Some}
use Rattle.std.specs.declared.option.Option.{Option}
use Rattle.std.specs.declared.result.Result.{Result}
use Rattle.law_agreement.specs.AnyStart.{AreFor, model_from}
use Rattle.board_terms.specs.Cadence.{KeepsCadence}
use Rattle.board_terms.specs.declared.event.HostAct.{HostAct}
use Rattle.fw_compile.specs.Image.{image_of}
use Rattle.fw_kernel.specs.declared.labels.TheConstants.{TICK}
use Rattle.host_turn.specs.declared.stamped.Stamped.{Stamped}
use Rattle.joint_run.specs.Filled.{filled}
use Rattle.joint_run.specs.Joint.{Beside, joint_board, joint_start_of, log_of}
use Rattle.joint_run.specs.Run.{World}
use Rattle.joint_run.specs.Starts.{IsStart}
use Rattle.board_terms.specs.Flips.{AreFlips}
use Rattle.key_file.specs.Accepted.{AreHostEventsInOrder, AreWritten, IsLawfulFor}
use Rattle.key_file.specs.Histories.{KeyHistory}
use Rattle.layout_reader.specs.Layouts.{IsKeyLayout, KeyLayout}
use Rattle.model_link.specs.Expected.{whole_at}
use Rattle.model_link.specs.Machine.{keyboard}
use Rattle.mcs48_ranges.specs.Sizes.{IsFine}
use Rattle.live_board.specs.Answers.{ItemAnswer}
use Rattle.live_board.specs.Calls.{IsActed, IsKeyed, GivesFirst}
use Rattle.live_board.specs.Pasts.{Past, state_of}
use Rattle.live_board.specs.Running.{HasRun}
use Rattle.live_board.specs.States.{HasPast}
use Rattle.live_board.specs.declared.parts.Parts.{Parts as Keyboard}
use Rattle.live_board.specs.declared.ran.RunEnd.{RunEnd}
use Rattle.live_board.specs.declared.refused.Refused.{Refused}
use Rattle.live_board.specs.declared.stops.Stops.{Stops}

-- the keys and host events of a past, as a history with this end stamp
abbrev pub history_of : Past → ℕ → KeyHistory
history_of p stop = record { edges = p.edges; host = p.events; end = stop }

-- a log is the beginning of what the model says up to one of the run's own tick starts, which keep their cadence
pub record BeginsExpected (layout : KeyLayout) (p : Past) (log : List Stamped) : Type 0 where
  pub starts : ℕ → ℕ
  pub each : (n : ℕ) → IsStart (joint_board p.edges p.events) TICK (image_of layout) (joint_start_of p.held) n (starts n)
  pub cadence : KeepsCadence starts
  pub tick : ℕ
  pub rest : List Stamped
  pub beginning : (whole_at (keyboard layout) p.edges p.events starts tick).side.log ≡ log ++ rest

-- so is what was said so far, if a keyboard is in a past that is lawful for the layout, however long, whatever the part
-- held when it was switched on
abbrev pub LogsAgree : Type 0
LogsAgree =
    (layout : KeyLayout) (p : Past) (stop : ℕ) (k : Keyboard) (s : HasPast p k) → IsKeyLayout layout
    → p.bytes ≡ image_of layout → IsFine p.held → IsLawfulFor layout (history_of p stop)
    → BeginsExpected layout p (log_of s.world.board)

-- two keyboards in one past are in one state of the run
abbrev pub StatesAreAlike : Type 0
StatesAreAlike = (p : Past) (a b : Keyboard) (s : HasPast p a) (t : HasPast p b) → s.world ≡ t.world

-- what is reported between two pasts, if keyboards are in them, is one byte
abbrev pub AnswersAreAlike : Type 0
AnswersAreAlike =
    (f : ItemAnswer → Option ℕ) (p q : Past) (a b : Keyboard) (x y : ℕ) → HasPast p a → HasPast q b
    → GivesFirst f p q x → GivesFirst f p q y → x ≡ y

-- and it is one word, or none
abbrev pub WordsAreAlike : Type 0
WordsAreAlike =
    (f : ItemAnswer → Option (Option ℕ)) (p q : Past) (a b : Keyboard) (x y : Option ℕ) → HasPast p a → HasPast q b
    → GivesFirst f p q x → GivesFirst f p q y → x ≡ y

-- a call of the host is done of both, or refused of both for one cause
abbrev pub CallsAreAlike : Type 0
CallsAreAlike =
    (act : HostAct) (p : Past) (a b c d : Keyboard) (x y : Result (Unit {0}) Refused) → HasPast p a → HasPast p b
    → IsActed act a x c → IsActed act b y d → x ≡ y

-- so is the call of a key
abbrev pub KeysAreAlike : Type 0
KeysAreAlike =
    (place : ℕ) (down : Bool) (p : Past) (a b c d : Keyboard) (x y : Result (Unit {0}) Refused) → HasPast p a → HasPast p b
    → IsKeyed place down a x c → IsKeyed place down b y d → x ≡ y

-- a run ends for one reason and after as many steps, whatever it is to stop for, if the count of cycles doesn't come to its
-- end
abbrev pub RunsEndAlike : Type 0
RunsEndAlike =
    (stops : Stops) (p : Past) (a b c d : Keyboard) (cycles : ℕ) (steps : Option ℕ) (x y : RunEnd) → HasPast p a → HasPast p b
    → HasRun stops p a cycles steps x c → HasRun stops p b cycles steps y d → c.joint.cycle < 2 ^ 62
    → d.joint.cycle < 2 ^ 62 → (x ≡ y) × (c.joint.steps ≡ d.joint.steps)

-- a log is the beginning of what the model says, which goes by what the columns show, up to one of the run's own tick
-- starts
pub record BeginsShown (layout : KeyLayout) (p : Past) (log : List Stamped) : Type 0 where
  pub starts : ℕ → ℕ
  pub each : (n : ℕ) → IsStart (joint_board p.edges p.events) TICK (image_of layout) (joint_start_of p.held) n (starts n)
  pub tick : ℕ
  pub rest : List Stamped
  pub beginning : (model_from (keyboard layout) p.edges p.events starts
      (whole_at (keyboard layout) p.edges p.events starts 0) tick).side.log ≡ log ++ rest

-- so is what was said so far, whether or not keys bounced, however many changed at once, whatever the part held when it was
-- switched on
abbrev pub LogsAreShown : Type 0
LogsAreShown =
    (layout : KeyLayout) (p : Past) (k : Keyboard) (s : HasPast p k) → IsKeyLayout layout → p.bytes ≡ image_of layout
    → IsFine p.held → AreFor layout p.edges p.events → BeginsShown layout p (log_of s.world.board)

-- of a layout's image each past has a state, whatever keys, host events and number of steps it has, and whatever the
-- part held when it was switched on. So no call is refused, and no run ends, because the processor is stuck
abbrev pub NeverStuck : Type 0
NeverStuck =
    (layout : KeyLayout) (p : Past) → IsKeyLayout layout → p.bytes ≡ image_of layout → IsFine p.held
    → (w : World Beside) × (state_of p ≡ Some w)

-- a program may use the ports as often and as long as it likes: if no key moved, a past is lawful whose events are in
-- order, write bytes, and turn round data bits or the parity alone
abbrev pub AnyUseIsLawful : Type 0
AnyUseIsLawful =
    (layout : KeyLayout) (p : Past) (stop : ℕ) → p.edges ≡ [] → AreHostEventsInOrder p.events → AreWritten p.events
    → AreFlips p.events → IsLawfulFor layout (history_of p stop)

-- a part may hold any one byte in data memory, A and T
abbrev pub FillsAreFine : Type 0
FillsAreFine = (fill : ℕ) → fill < 256 → IsFine (filled fill)
