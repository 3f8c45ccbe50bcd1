-- What a keyboard keeps of what happened until the caller takes it, and how often its interrupt line rose.
use Rattle.std.specs.Prelude.{◌≡◌, ℕ, zero, suc, ◌+◌, ◌-◌, ◌^◌, ◌==◌, min, Bool, ◌&&◌, nat_lt, if◌then◌else◌}
use Rattle.std.specs.Prelude.{List, [], ◌∷◌, ◌++◌, drop, length, map, Ok, Err}
use Rattle.std.specs.declared.result.Result.{Result}
use Rattle.board_terms.specs.declared.event.HostAct.{HostAct}
use Rattle.host_turn.specs.declared.stamped.Stamped.{Stamped}
use Rattle.live_board.specs.Calls.{Says}
use Rattle.live_board.specs.Passing.{passed_at, passed_between}
use Rattle.live_board.specs.Pasts.{Past, acted, gone_on, state_of}
use Rattle.live_board.specs.Rising.{irq_in, rises, rose}
use Rattle.live_board.specs.States.{HasPast}
use Rattle.live_items.specs.declared.happened.Happened.{Happened}
use Rattle.live_items.specs.declared.happened.What.{What}
use Rattle.live_items.specs.declared.happened.What.TheVariants.{Said as SaidIt, Passed}
use Rattle.live_board.specs.declared.heard.Heard.{Heard}
use Rattle.live_board.specs.declared.heard.Next.{Next}
use Rattle.live_board.specs.declared.heard.Next.TheVariants.{Said, Lost, Nothing}
use Rattle.live_board.specs.declared.irq.Irq.{Irq}
use Rattle.live_board.specs.declared.parts.Parts.{Parts as Keyboard}
use Rattle.live_board.specs.declared.refused.Refused.{Refused}

-- what the log says, as something that happened
abbrev pub said_so : Stamped → Happened
said_so s = record { cycle = s.cycle; what = SaidIt s.item }

-- there is room for one more: fewer than 64 are kept, and none was lost since all were taken
abbrev pub has_room : Heard → Bool
has_room h = (h.lost == 0) && nat_lt (length h.items.items) 64

-- one thing more happens: it is kept after the others, or lost and counted, as far as a count of 64 bits goes
abbrev pub heard_one : Heard → Happened → Heard
heard_one h it = record {
  items = record { items = if has_room h then h.items.items ++ it ∷ [] else h.items.items };
  lost = if has_room h then h.lost else min (h.lost + 1) (2 ^ 64 - 1);
}

-- and more, in order
abbrev pub heard_all : Heard → List Happened → Heard
heard_all h [] = h
heard_all h (it ∷ later) = heard_all (heard_one h it) later

-- what the caller is handed next: what happened first; and when there is none, how much else was lost after that
abbrev pub next_by : List Happened → ℕ → Next
next_by (it ∷ later) lost = Said it
next_by [] lost = if lost == 0 then Nothing else Lost lost

abbrev pub next_of : Heard → Next
next_of h = next_by h.items.items h.lost

-- after that: what was reported is kept no longer
abbrev pub lost_by : List Happened → ℕ → ℕ
lost_by (it ∷ later) lost = lost
lost_by [] lost = 0

abbrev pub after_next : Heard → Heard
after_next h = record { items = record { items = drop 1 h.items.items }; lost = lost_by h.items.items h.lost }

-- what the log says among what happened
abbrev pub item_of : ℕ → What → List Stamped
item_of cycle (SaidIt item) = record { cycle = cycle; item = item } ∷ []
item_of cycle (Passed byte) = []

abbrev pub said_among : List Happened → List Stamped
said_among [] = []
said_among (it ∷ later) = item_of it.cycle it.what ++ said_among later

-- 1 if the line rose
abbrev pub rise : Irq → Irq → ℕ
rise was is = if rose was is then 1 else 0

-- how many of so many steps from one on raise the line
abbrev pub rises_in : Past → ℕ → ℕ → ℕ
rises_in p from zero = 0
rises_in p from (suc n) = rises_in p from n + (if rises p (from + n) then 1 else 0)

-- what happens in so many steps from one on, in order: in each the byte that passes over the wires, and then what it says
abbrev pub HasHappened : Past → ℕ → ℕ → List Happened → Type 0
HasHappened p from zero all = all ≡ []
HasHappened p from (suc n) all =
    (before : List Happened) × (items : List Stamped) × HasHappened p from n before
    × Says (gone_on p (from + n)) (gone_on p (suc (from + n))) items
    × (all ≡ before ++ (passed_at p (from + n) ++ map said_so items))

-- a call of the host's, from one past to the next by one step: what happens in it is kept, and whether it raised the line
-- is counted
pub record HasKept (p q : Past) (old new : Keyboard) : Type 0 where
  pub items : List Stamped
  pub said : Says p q items
  pub kept : new.heard ≡ heard_all old.heard (passed_between (state_of p) (state_of q) ++ map said_so items)
  pub risen : new.rises ≡ rise (irq_in (state_of p)) (irq_in (state_of q))

-- a run of so many steps: what happens in them is kept, the log's items among it are what they say, and the rises of the
-- line are counted
pub record HasKeptAll (p : Past) (old new : Keyboard) : Type 0 where
  pub steps : ℕ
  pub made : new.joint.steps ≡ old.joint.steps + steps
  pub all : List Happened
  pub happened : HasHappened p old.joint.steps steps all
  pub said : Says (gone_on p old.joint.steps) (gone_on p new.joint.steps) (said_among all)
  pub kept : new.heard ≡ heard_all old.heard all
  pub risen : new.rises ≡ rises_in p old.joint.steps steps

-- the host's call adds to what is kept, and counts the rises of its step; or it is refused, and they are as they were
abbrev pub IsKeptLog : {X : Type 0} → HostAct → Keyboard → Result X Refused → Keyboard → Type 0
IsKeptLog act old (Ok answer) new = (p : Past) → HasPast p old → HasKept p (acted p (old.joint.cycle - 4096) act) old new
IsKeptLog act old (Err refused) new = (new.heard ≡ old.heard) × (new.rises ≡ old.rises)
