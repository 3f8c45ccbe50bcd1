-- What a call of the host's answers, once its step was made: of the keyboard that contracts see.
use Rattle.std.proofs.Common.{◌≡◌, ◌-◌, Some, Ok, subst}
use Rattle.std.specs.declared.option.Option.{Option}
use Rattle.board_terms.specs.declared.event.HostAct.{HostAct}
use Rattle.live_board.specs.Answers.{ItemAnswer, first_in}
use Rattle.live_board.specs.Calls.{GivesFirst, IsActed, Says}
use Rattle.live_board.specs.Heard.{IsKeptLog}
use Rattle.live_board.specs.Pasts.{Past, acted}
use Rattle.live_board.specs.States.{HasPast}
use Rattle.live_board.specs.declared.parts.Parts.{Parts as Keyboard}

module _ (act : HostAct) (inside old new : Keyboard) (same : inside ≡ old) where
  -- whatever it answers, it is made
  pub acted_so : IsActed {X = Unit {0}} act inside (Ok tt) new → IsActed {X = Unit {0}} act old (Ok tt) new
  acted_so h = subst (λ (k : Keyboard). IsActed {X = Unit {0}} act k (Ok tt) new) same h

  -- and what happens in it is kept
  pub kept_so : IsKeptLog {X = Unit {0}} act inside (Ok tt) new → IsKeptLog {X = Unit {0}} act old (Ok tt) new
  kept_so h = subst (λ (k : Keyboard). IsKeptLog {X = Unit {0}} act k (Ok tt) new) same h

  -- it answers what the log gives between the two pasts, if it answers what its items give
  pub gives_so : {X : Type 0} (x : X) (f : ItemAnswer → Option X)
      → ((p : Past) → HasPast p inside → Says p (acted p (inside.joint.cycle - 4096) act) new.seen.items.items)
      → first_in f new.seen.items.items ≡ Some x
      → (p : Past) → HasPast p old → GivesFirst f p (acted p (old.joint.cycle - 4096) act) x
  gives_so x f said first =
      subst (λ (k : Keyboard). (p : Past) → HasPast p k → GivesFirst f p (acted p (k.joint.cycle - 4096) act) x) same
      (λ p s. (new.seen.items.items, said p s, first))
