-- Two keyboards of which the same is saved: a keyboard and one that was loaded of its save, or a copy.
use Rattle.std.specs.Prelude.{◌≡◌, ◌<◌, ◌^◌, ◌-◌, ℕ, Bool, List, Ok, Err}
use Rattle.std.specs.declared.option.Option.{Option}
use Rattle.std.specs.declared.result.Result.{Result}
use Rattle.board_terms.specs.declared.event.HostAct.{HostAct}
use Rattle.joint_saved.specs.Saved.{loaded}
use Rattle.live_board.specs.Calls.{IsActed, IsKeyed, pressed_now}
use Rattle.live_board.specs.Heard.{HasKeptAll, IsKeptLog, after_next, next_of}
use Rattle.live_board.specs.Pasts.{Past, acted, gone_on}
use Rattle.live_board.specs.Running.{HasRun}
use Rattle.live_board.specs.Saved.{kept}
use Rattle.live_board.specs.States.{HasPast}
use Rattle.live_board.specs.declared.parts.Parts.{Parts as Keyboard}
use Rattle.live_board.specs.declared.ran.RunEnd.{RunEnd}
use Rattle.live_board.specs.declared.refused.Refused.{Refused}
use Rattle.live_board.specs.declared.stops.Stops.{Stops}

-- two keyboards are in one past, the same waits to be handed out, and the same rises are counted
pub record AreAlike (p : Past) (a b : Keyboard) : Type 0 where
  pub one : HasPast p a
  pub other : HasPast p b
  pub heard : a.heard ≡ b.heard
  pub rises : a.rises ≡ b.rises

-- keyboards of one past that bytes mean are alike
abbrev pub LoadedAreAlike : Type 0
LoadedAreAlike =
    (bytes : List ℕ) (p : Past) (a b : Keyboard) → HasPast p a → HasPast p b → loaded bytes ≡ Ok (kept a)
    → loaded bytes ≡ Ok (kept b) → AreAlike p a b

-- of keyboards that are alike the same is saved
abbrev pub SavesAreAlike : Type 0
SavesAreAlike = (p : Past) (a b : Keyboard) → AreAlike p a b → kept a ≡ kept b

-- a call of the host is done of both, and they are alike after it; or it is refused of both for one cause, and they are
-- still alike
abbrev pub StayAlike : {X : Type 0} → HostAct → Past → Keyboard → Result X Refused → Keyboard → Result X Refused → Keyboard
    → Type 0
StayAlike act p a (Ok x) c (Ok y) d = AreAlike (acted p (a.joint.cycle - 4096) act) c d
StayAlike act p a (Ok x) c (Err y) d = ⊥
StayAlike act p a (Err x) c (Ok y) d = ⊥
StayAlike act p a (Err x) c (Err y) d = (x ≡ y) × AreAlike p c d

abbrev pub AnsweringKeepsAlike : Type 0 → Type 0
AnsweringKeepsAlike X =
    (act : HostAct) (p : Past) (a b c d : Keyboard) (x y : Result X Refused) → AreAlike p a b
    → IsActed act a x c → IsKeptLog act a x c → IsActed act b y d → IsKeptLog act b y d → StayAlike act p a x c y d

-- whether it answers nothing, a byte, or a word if there is one
abbrev pub CallsKeepAlike : Type 0
CallsKeepAlike = AnsweringKeepsAlike (Unit {0}) × AnsweringKeepsAlike ℕ × AnsweringKeepsAlike (Option ℕ)

-- so are they after the call of a key
abbrev pub keyed : Past → Keyboard → ℕ → Bool → Result (Unit {0}) Refused → Past
keyed p a place down (Ok done) = pressed_now p a place down
keyed p a place down (Err refused) = p

abbrev pub IsAsWas : Keyboard → Keyboard → Type 0
IsAsWas old new = (new.heard ≡ old.heard) × (new.rises ≡ old.rises)

abbrev pub KeysKeepAlike : Type 0
KeysKeepAlike =
    (place : ℕ) (down : Bool) (p : Past) (a b c d : Keyboard) (x y : Result (Unit {0}) Refused) → AreAlike p a b
    → IsKeyed place down a x c → IsAsWas a c → IsKeyed place down b y d → IsAsWas b d
    → (x ≡ y) × AreAlike (keyed p a place down x) c d

-- after a run, if the count of cycles doesn't come to its end
abbrev pub RunsKeepAlike : Type 0
RunsKeepAlike =
    (stops : Stops) (p : Past) (a b c d : Keyboard) (cycles : ℕ) (steps : Option ℕ) (x y : RunEnd) → AreAlike p a b
    → HasRun stops p a cycles steps x c → HasKeptAll p a c → HasRun stops p b cycles steps y d → HasKeptAll p b d
    → c.joint.cycle < 2 ^ 62 → d.joint.cycle < 2 ^ 62 → (x ≡ y) × AreAlike (gone_on p c.joint.steps) c d

-- both hand out the same, and are alike after it
abbrev pub HandsKeepAlike : Type 0
HandsKeepAlike =
    (p : Past) (a b : Keyboard) → AreAlike p a b → (next_of a.heard ≡ next_of b.heard)
    × AreAlike p (record a { heard = after_next a.heard }) (record b { heard = after_next b.heard })
