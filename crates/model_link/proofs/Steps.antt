-- What the program does in a cycle is the cycle.
use Rattle.std.proofs.Common.{◌≡◌, ℕ, ◌+◌, List, ◌++◌, length, Bool, ◌&&◌, ap, sym, ◌∙◌}
use Rattle.std.specs.Prelude.{if◌then◌else◌, slice_get, nat_lt}
use Rattle.std.specs.declared.option.Option.{Option}
use Rattle.pc_tables.specs.declared.item.Item.{Item}
use Rattle.board_terms.specs.declared.event.HostEvent.{HostEvent}
use Rattle.host_turn.specs.declared.desk.Desk.{Desk}
use Rattle.host_turn.specs.declared.stamped.Stamped.{Stamped}
use Rattle.host_turn.specs.Cycle.{Cycled, cycled}
use Rattle.host_turn.specs.Run.{Side, goes_on, stamped}
use Rattle.model_controller.specs.declared.UnderWay.{UnderWay}
use Rattle.model_controller.specs.ByteTime.{is_open}
use Rattle.model_link.specs.KeptSide.{side_of}
use Rattle.model_link.proofs.Stretch.{count_is}

-- what the program does in a cycle, with its count of events and its log, is the cycle of the definition
pub cycle_ends : (events : List HostEvent) (now : ℕ) (m : Side UnderWay) (d d' : Desk UnderWay) (n n' : ℕ) (l l' : List Stamped)
    (o : Option HostEvent) (b : Bool) (items : List Item)
    → side_of d n l ≡ m → o ≡ slice_get events m.done → d' ≡ (cycled is_open now o d).desk → b ≡ (cycled is_open now o d).done
    → items ≡ (cycled is_open now o d).items → n' ≡ (if b && nat_lt n (length events) then n + 1 else n) → l' ≡ l ++ stamped now items
    → side_of d' n' l' ≡ goes_on is_open events now m
unfolding goes_on
cycle_ends events now m d d' n n' l l' o b items em eo ed eb ei en el =
    let no : o ≡ slice_get events n = eo ∙ ap (λ (v : Side UnderWay). slice_get events v.done) (sym em) in
    let c : Cycled UnderWay = cycled is_open now (slice_get events n) d in
    let kd : d' ≡ c.desk = ed ∙ ap (λ v. (cycled is_open now v d).desk) no in
    let kb : b ≡ c.done = eb ∙ ap (λ v. (cycled is_open now v d).done) no in
    let kn : n' ≡ (if c.done then n + 1 else n) = en ∙ count_is events now n d b kb in
    let kl : l' ≡ l ++ stamped now c.items = el ∙ ap (λ v. l ++ stamped now v) (ei ∙ ap (λ v. (cycled is_open now v d).items) no) in
    ap (λ v. side_of v n' l') kd ∙ ap (λ v. side_of c.desk v l') kn
    ∙ ap (λ v. side_of c.desk (if c.done then n + 1 else n) v) kl
    ∙ ap (λ v. goes_on is_open events now v) em
