-- What C is handed of what happened.
use Rattle.std.specs.Prelude.{◌≡◌, ℤ}
use Rattle.joint_bytes.specs.Kinds.{what_kind, what_value}
use Rattle.live_board.specs.Heard.{after_next, next_of}
use Rattle.live_items.specs.declared.happened.Happened.{Happened}
use Rattle.live_board.specs.declared.heard.Next.{Next}
use Rattle.live_board.specs.declared.heard.Next.TheVariants as nexts
use Rattle.live_board.specs.declared.parts.Parts.{Parts as Keyboard}
use Rattle.kbd48_c.specs.Statuses.{done, lost_some, nothing_said}
use Rattle.kbd48_c.specs.declared.items.Said.{Said}

-- what happened, with its kind as a number, and its byte or word
abbrev pub said_of : Happened → Said
said_of it = record { cycle = it.cycle; kind = what_kind it.what; value = what_value it.what }

-- what C gets of what it is handed
abbrev pub next_status : Next → ℤ
next_status (nexts.Said it) = done
next_status (nexts.Lost lost) = lost_some
next_status nexts.Nothing = nothing_said

abbrev pub item_after : Next → Said → Said
item_after (nexts.Said it) before = said_of it
item_after (nexts.Lost lost) before = before
item_after nexts.Nothing before = before

-- what happened next is handed out, and kept no longer
pub record HasHandedOut (before item : Said) (k : Keyboard) (status : ℤ) (after : Keyboard) : Type 0 where
  pub is_status : status ≡ next_status (next_of k.heard)
  pub handed : item ≡ item_after (next_of k.heard) before
  pub left : after ≡ record k { heard = after_next k.heard }
