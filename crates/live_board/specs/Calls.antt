-- What a call adds to the past, and when it is refused.
use Rattle.std.specs.Prelude.{◌≡◌, ◌≤◌, ◌<◌, ◌^◌, ◌-◌, ◌%◌, ℕ, Bool, true, false, List, ◌++◌, length}
use Rattle.std.specs.Prelude.{slice_index, Some, None, Ok, Err}
use Rattle.std.specs.declared.option.Option.{Option}
use Rattle.std.specs.declared.result.Result.{Result}
use Rattle.board_terms.specs.declared.event.HostAct.{HostAct}
use Rattle.host_turn.specs.declared.stamped.Stamped.{Stamped}
use Rattle.host_turn.specs.Host.{waits}
use Rattle.joint_run.specs.Joint.{Beside, log_of}
use Rattle.joint_run.specs.Run.{World}
use Rattle.joint_run.specs.declared.machine.Machine.{Machine}
use Rattle.mcs48_core.specs.declared.stepping.Stuck.{Stuck}
use Rattle.live_board.specs.Answers.{ItemAnswer, first_in}
use Rattle.live_board.specs.Pasts.{Past, acted, pressed, state_of}
use Rattle.live_board.specs.States.{HasPast}
use Rattle.live_board.specs.declared.parts.Parts.{Parts as Keyboard}
use Rattle.live_board.specs.declared.refused.Refused.{Refused}
use Rattle.live_board.specs.declared.refused.Refused.TheVariants as R

-- the host may act: stamp 0 is reached, the count of cycles isn't at its end, and the event needn't wait
pub record MayAct (act : HostAct) (k : Keyboard) : Type 0 where
  pub late : 4096 ≤ k.joint.cycle
  pub near : k.joint.cycle < 2 ^ 62
  pub room : waits act k.joint.outside.desk.port.core ≡ false

-- the counter, and the byte there
abbrev pub place_of : Machine → Stuck
place_of m = record { pc = m.mcu.pc; byte = slice_index m.image.bytes (m.mcu.pc % 2048) }

-- why the host's call makes no step, the first cause that holds: it comes before stamp 0; the count of cycles is at its
-- end; a write finds the input buffer full; or the processor is stuck, so that no state follows
abbrev pub IsRefused : HostAct → Keyboard → Refused → Type 0
IsRefused act k R.Early = k.joint.cycle < 4096
IsRefused act k R.LastCycle = 2 ^ 62 ≤ k.joint.cycle
IsRefused act k R.Full =
    (4096 ≤ k.joint.cycle) × (k.joint.cycle < 2 ^ 62) × (waits act k.joint.outside.desk.port.core ≡ true)
IsRefused act k (R.Stuck place) =
    MayAct act k × (place ≡ place_of k.joint)
    × ((p : Past) → HasPast p k → state_of (acted p (k.joint.cycle - 4096) act) ≡ None)

-- the host's call: the event is at the end of the past with the stamp of this moment, and is done in the one step
-- that is made; or the call is refused, and all is as it was
abbrev pub IsActed : {X : Type 0} → HostAct → Keyboard → Result X Refused → Keyboard → Type 0
IsActed act old (Ok answer) new =
    MayAct act old × ((p : Past) → HasPast p old → HasPast (acted p (old.joint.cycle - 4096) act) new)
IsActed act old (Err refused) new =
    IsRefused act old refused × (new.joint ≡ old.joint) × ((p : Past) → HasPast p old → HasPast p new)

-- these items are what is said between two pasts
abbrev pub Says : Past → Past → List Stamped → Type 0
Says p q items =
    (w v : World Beside) → state_of p ≡ Some w → state_of q ≡ Some v
    → log_of v.board ≡ log_of w.board ++ items

-- the first answer of its kind that the log gives between two pasts
abbrev pub GivesFirst : {X : Type 0} → (ItemAnswer → Option X) → Past → Past → X → Type 0
GivesFirst f p q x = (items : List Stamped) × Says p q items × (first_in f items ≡ Some x)

-- a key: its edge is at the end of the past with the stamp of this moment
abbrev pub pressed_now : Past → Keyboard → ℕ → Bool → Past
pressed_now p k place down = pressed p (record { stamp = k.joint.cycle - 4096; place = place; down = down })

-- a key's call is refused before stamp 0, and from then on if four edges wait
abbrev pub IsKeyRefused : Keyboard → Refused → Type 0
IsKeyRefused k R.Early = k.joint.cycle < 4096
IsKeyRefused k R.LastCycle = ⊥
IsKeyRefused k R.Full = (4096 ≤ k.joint.cycle) × (length k.due.edges.items ≡ 4)
IsKeyRefused k (R.Stuck place) = ⊥

abbrev pub IsKeyed : ℕ → Bool → Keyboard → Result (Unit {0}) Refused → Keyboard → Type 0
IsKeyed place down old (Ok done) new =
    (4096 ≤ old.joint.cycle) × (length old.due.edges.items < 4)
    × ((p : Past) → HasPast p old → HasPast (pressed_now p old place down) new)
IsKeyed place down old (Err refused) new = IsKeyRefused old refused × (new ≡ old)
