-- The bytes that pass over the two wires.
use Rattle.std.specs.Prelude.{ℕ, suc, ◌==◌, Bool, true, false, List, [], ◌∷◌, length, take, drop, Some, None, if◌then◌else◌}
use Rattle.std.specs.declared.option.Option.{Option}
use Rattle.board_terms.specs.Bits.{value}
use Rattle.ctl_link.specs.declared.link.Link.{Link}
use Rattle.ctl_link.specs.declared.link.Link.TheVariants.{Free, Hold, Ask, Request, Busy}
use Rattle.ctl_wire.specs.declared.wire.Wire.{Wire}
use Rattle.ctl_wire.specs.declared.wire.Wire.TheVariants.{Recv, Send}
use Rattle.joint_feed.specs.Stories.{state_at}
use Rattle.joint_run.specs.Due.{outside_of}
use Rattle.joint_run.specs.Joint.{Beside}
use Rattle.joint_run.specs.Run.{World}
use Rattle.joint_run.specs.declared.outside.Outside.{Outside}
use Rattle.live_board.specs.Pasts.{Past, story_of}
use Rattle.live_items.specs.declared.happened.Happened.{Happened}
use Rattle.board_terms.specs.declared.transfer.Transfer.{Transfer}
use Rattle.live_items.specs.declared.happened.What.TheVariants.{Passed}

-- the byte that a falling edge of the clock ends, if it is the eleventh of its frame. The keyboard's byte is that of bits 1
-- to 8 as they were on the wires, whatever noise turns round; the controller's is the one that it sends
abbrev pub ended_by : Wire → Option Transfer
ended_by (Recv flip bits) =
    if length bits == 10 then Some (record { from_host = false; byte = value (take 8 (drop 1 bits)) }) else None
ended_by (Send byte edges) = if edges == 10 then Some (record { from_host = true; byte = byte }) else None

-- it ends none if no byte is under way
abbrev pub ended_at : Link Wire → Option Transfer
ended_at Free = None
ended_at (Hold since) = None
ended_at (Ask byte since) = None
ended_at (Request byte) = None
ended_at (Busy wire) = ended_by wire

-- the byte that ends if the clock falls now: it was high at the controller's last look
abbrev pub at_fall : Outside → Option Transfer
at_fall o = if o.clock then ended_at o.desk.port.link else None

-- it has passed in a step that begins at a cycle if the clock is low at the controller's last look in that step
abbrev pub passed_by : Option Transfer → ℕ → Bool → List Happened
passed_by None cycle clock = []
passed_by (Some byte) cycle clock = if clock then [] else record { cycle = cycle; what = Passed byte } ∷ []

-- the byte that passes in a step from one state to the next
abbrev pub passed_in : World Beside → World Beside → List Happened
passed_in w v = passed_by (at_fall (outside_of w.board)) w.cycle v.board.pc.clock

abbrev pub passed_between : Option (World Beside) → Option (World Beside) → List Happened
passed_between None next = []
passed_between (Some w) None = []
passed_between (Some w) (Some v) = passed_in w v

-- and in the step after the first j steps
abbrev pub passed_at : Past → ℕ → List Happened
passed_at p j = passed_between (state_at (story_of p) j) (state_at (story_of p) (suc j))
