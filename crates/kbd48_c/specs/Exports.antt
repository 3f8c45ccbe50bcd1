-- What each export does to the keyboard of its handle, in the words of the keyboard's own call.
use Rattle.std.specs.Prelude.{◌≡◌, ◌≢◌, ◌<◌, ◌≤◌, ◌+◌, ◌-◌, ℕ, ℤ, Bool, Option, None, Some, Ok, Err, OnErr, OnOk, IfOk}
use Rattle.std.specs.declared.result.Result.{Result}
use Rattle.board_terms.specs.declared.event.HostAct.{HostAct}
use Rattle.board_terms.specs.declared.event.HostAct.TheVariants.{Take, Write60, Write64}
use Rattle.joint_run.specs.Joint.{latch_of}
use Rattle.ctl_wire.specs.Wires.{wires}
use Rattle.live_board.specs.Answers.{ItemAnswer, first_in}
use Rattle.live_board.specs.Calls.{IsActed, IsKeyed, GivesFirst}
use Rattle.live_board.specs.Heard.{HasKeptAll, IsKeptLog}
use Rattle.live_board.specs.Onward.{IsStepped, RunsOn, with_edge}
use Rattle.live_board.specs.Pasts.{Past, acted}
use Rattle.live_board.specs.Running.{HasRun, at_rise}
use Rattle.live_board.specs.States.{HasPast}
use Rattle.live_board.specs.declared.parts.Parts.{Parts as Keyboard}
use Rattle.live_board.specs.declared.ran.RunEnd.{RunEnd}
use Rattle.live_board.specs.declared.refused.Refused.{Refused}
use Rattle.live_board.specs.declared.stops.Stops.{Stops}
use Rattle.kbd48_c.specs.Spots.{spot_after}
use Rattle.kbd48_c.specs.Statuses.{done, no_such_place, no_such_port, no_word, not_open, refused_status, run_status}
use Rattle.kbd48_c.specs.declared.going.Spot.{Spot}

-- a call through a handle: of an empty one it says so, and does nothing
abbrev pub Through : (Keyboard → ℤ → Keyboard → Type 0) → Option Keyboard → ℤ → Option Keyboard → Type 0
Through does None status new = (status ≡ not_open) × (new ≡ None)
Through does (Some k) status new = (after : Keyboard) × (new ≡ Some after) × does k status after

-- the status of a call that needs a keyboard, and has this status of one
abbrev pub held_status : ℤ → Option Keyboard → ℤ
held_status of None = not_open
held_status of (Some k) = of

-- what is shown of a keyboard, or what was there
abbrev pub shown_of : {X : Type 0} → (Keyboard → X) → Option Keyboard → X → X
shown_of f None before = before
shown_of f (Some k) before = f k

-- the status of a call that may be refused
abbrev pub status_of : {X : Type 0} → Result X Refused → ℤ
status_of (Ok answer) = done
status_of (Err refused) = refused_status refused

-- the keyboard's call was made, and its answer has this status
abbrev pub Calls : {X : Type 0} → (Keyboard → Result X Refused → Keyboard → Type 0) → Keyboard → ℤ → Keyboard → Type 0
Calls {X} call k status after = (answer : Result X Refused) × (status ≡ status_of answer) × call k answer after

-- no call was made
abbrev pub IsLeft : ℤ → Keyboard → ℤ → Keyboard → Type 0
IsLeft why k status after = (status ≡ why) × (after ≡ k)

-- the host's call, what is kept and counted of its step, and the step itself, whatever past the keyboard has
abbrev pub Acts : {X : Type 0} → HostAct → Keyboard → Result X Refused → Keyboard → Type 0
Acts act k answer after = IsActed act k answer after × IsKeptLog act k answer after × IsStepped act k answer after

abbrev pub HasActed : HostAct → Keyboard → ℤ → Keyboard → Type 0
HasActed act = Calls {X = Unit {0}} (Acts act)

-- the key's call: no step is made, and what is kept of the log and counted of the line's rises stays; whatever past the
-- keyboard has, the edge waits
abbrev pub Keys : ℕ → Bool → Keyboard → Result (Unit {0}) Refused → Keyboard → Type 0
Keys place down k answer after =
    IsKeyed place down k answer after × (after.joint ≡ k.joint) × (after.heard ≡ k.heard) × (after.rises ≡ k.rises)
    × OnOk answer (after ≡ with_edge place down k)

-- a key at a place, of which there are 96
abbrev pub HasPressed : ℕ → Bool → Keyboard → ℤ → Keyboard → Type 0
HasPressed place down k status after =
    (place < 96 → Calls (Keys place down) k status after) × (96 ≤ place → IsLeft no_such_place k status after)

-- a write to port 60h or 64h
abbrev pub HasWritten : ℕ → ℕ → Keyboard → ℤ → Keyboard → Type 0
HasWritten port byte k status after =
    (port ≡ 96 → HasActed (Write60 byte) k status after)
    × (port ≡ 100 → HasActed (Write64 byte) k status after)
    × (port ≢ 96 → port ≢ 100 → IsLeft no_such_port k status after)

-- a read: the byte is written if it was made, and is what the log says of it; else what was there stays
abbrev pub IsReadAs : HostAct → (ItemAnswer → Option ℕ) → ℕ → ℕ → Keyboard → Result ℕ Refused → Keyboard → Type 0
IsReadAs act f before byte k answer after =
    Acts act k answer after × OnErr answer (byte ≡ before)
    × IfOk answer (λ b. (byte ≡ b) × (first_in f after.seen.items.items ≡ Some b) × ((p : Past) → HasPast p k → GivesFirst f p (acted p (k.joint.cycle - 4096) act) b))

abbrev pub HasRead : HostAct → (ItemAnswer → Option ℕ) → ℕ → ℕ → Keyboard → ℤ → Keyboard → Type 0
HasRead act f before byte = Calls (IsReadAs act f before byte)

-- the status and the word of a program that takes one
abbrev pub taken_status : Result (Option ℕ) Refused → ℤ
taken_status (Ok None) = no_word
taken_status (Ok (Some word)) = done
taken_status (Err refused) = refused_status refused

abbrev pub word_after : Result (Option ℕ) Refused → ℕ → ℕ
word_after (Ok None) before = before
word_after (Ok (Some word)) before = word
word_after (Err refused) before = before

-- a program takes a word: what the log says of it is written if there is one
abbrev pub HasTaken : ℕ → ℕ → Keyboard → ℤ → Keyboard → Type 0
HasTaken before word k status after =
    (answer : Result (Option ℕ) Refused) × (status ≡ taken_status answer) × (word ≡ word_after answer before)
    × Acts Take k answer after
    × IfOk answer (λ w. first_in (λ t. t.taken) after.seen.items.items ≡ Some w)
    × IfOk answer (λ w. (p : Past) → HasPast p k → GivesFirst (λ t. t.taken) p (acted p (k.joint.cycle - 4096) Take) w)

-- a run that ended so: so many cycles passed, and if the processor is stuck the place is written. Whatever past the keyboard
-- has, these are its steps from where it is
pub record HasGone (stops : Stops) (cycles : ℕ) (steps : Option ℕ) (end : RunEnd) (passed : ℕ) (before spot : Spot)
    (k after : Keyboard) : Type 0 where
  pub counts : k.joint.cycle + passed ≡ after.joint.cycle
  pub place : spot ≡ spot_after end before
  pub ran : (p : Past) → HasPast p k → HasRun stops p k cycles steps end after
  pub log_kept : (p : Past) → HasPast p k → HasKeptAll p k after
  pub onward : RunsOn stops k cycles steps end after

-- the run that stops for a rise of the line alone, if it is watched
abbrev pub HasRunFor : ℕ → Bool → ℕ → Spot → Spot → Keyboard → ℤ → Keyboard → Type 0
HasRunFor cycles watched passed before spot k status after =
    (end : RunEnd) × (status ≡ run_status end) × HasGone (at_rise watched) cycles None end passed before spot k after

-- the lights are those of the state in which the keyboard is
abbrev pub HasShownLights : ℕ → Keyboard → ℤ → Keyboard → Type 0
HasShownLights lights k status after =
    IsLeft done k status after × ((p : Past) → (s : HasPast p k) → lights ≡ s.world.board.shown)

-- the wires are those of the state in which the keyboard is, as it and the PC pull them
abbrev pub HasShownWires : Bool → Bool → Keyboard → ℤ → Keyboard → Type 0
HasShownWires clock dat k status after =
    IsLeft done k status after
    × ((p : Past) → (s : HasPast p k)
    → record { clk = clock; dat = dat } ≡ wires (latch_of s.world.cpu.p2) s.world.board.pc)
