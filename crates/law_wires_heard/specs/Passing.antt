-- The bytes that the controller takes and sends over the wires, as it counts their edges.
use Rattle.std.specs.Prelude.{ℕ, zero, suc, ◌+◌, ◌-◌, ◌==◌, Bool, true, false, not, ◌&&◌, List, [], ◌∷◌, ◌++◌}
use Rattle.std.specs.Prelude.{length, take, drop, Some, None, if◌then◌else◌}
use Rattle.std.specs.declared.option.Option.{Option}
use Rattle.board_terms.specs.Bits.{value}
use Rattle.board_terms.specs.declared.event.HostEvent.{HostEvent}
use Rattle.board_terms.specs.declared.lines.Lines.{Lines}
use Rattle.ctl_link.specs.declared.link.Link.{Link}
use Rattle.ctl_link.specs.declared.link.Link.TheVariants.{Free, Hold, Ask, Request, Busy}
use Rattle.ctl_wire.specs.declared.wire.Wire.{Wire}
use Rattle.ctl_wire.specs.declared.wire.Wire.TheVariants.{Recv, Send}
use Rattle.board_terms.specs.declared.transfer.Transfer.{Transfer}
use Rattle.joint_feed.specs.Stories.{Story, state_at}
use Rattle.joint_run.specs.Joint.{Beside, joint_cycle, latch_of}
use Rattle.joint_run.specs.Run.{World}
use Rattle.ctl_wire.specs.Wires.{Pc, wires}

-- the byte that a falling edge ends, with this level of data: it is the eleventh of its frame. The keyboard's byte is
-- that of bits 1 to 8 as they were on the wires, whatever noise turns round; the controller's is the one that it sends
abbrev pub ended_by : Bool → Wire → List Transfer
ended_by dat (Recv flip bits) =
    if length bits == 10
    then record { from_host = false; byte = value (take 8 (drop 1 (bits ++ dat ∷ []))) } ∷ []
    else []
ended_by dat (Send byte edges) = if edges == 10 then record { from_host = true; byte = byte } ∷ [] else []

-- it ends none if no byte is under way
abbrev pub ended_at : Bool → Link Wire → List Transfer
ended_at dat Free = []
ended_at dat (Hold since) = []
ended_at dat (Ask byte since) = []
ended_at dat (Request byte) = []
ended_at dat (Busy wire) = ended_by dat wire

-- the byte that a look of the controller ends, by what the keyboard drives: the clock falls if it was high at the
-- last look, and is low at this one
abbrev pub ended_in : Lines → Pc → List Transfer
ended_in latch b =
    let line : Lines = wires latch b in
    if b.clock && not line.clk then ended_at line.dat b.side.port.link else []

-- the bytes that end in so many cycles, the first of them with this number, in each of which the latch of port 2 is
-- this
abbrev pub ended_within : List HostEvent → ℕ → ℕ → ℕ → Beside → List Transfer
ended_within events p2 now zero s = []
ended_within events p2 now (suc n) s =
    ended_in (latch_of p2) s.pc ++ ended_within events p2 (now + 1) n (joint_cycle events p2 now s)

-- in the cycles of a step of the joint run
abbrev pub passed_in : List HostEvent → World Beside → World Beside → List Transfer
passed_in events one next = ended_within events next.cpu.p2 one.cycle (next.cycle - one.cycle) one.board

abbrev pub passed_between : List HostEvent → Option (World Beside) → Option (World Beside) → List Transfer
passed_between events None o = []
passed_between events (Some one) None = []
passed_between events (Some one) (Some next) = passed_in events one next

-- in a step by its number
abbrev pub passed_at : Story → ℕ → List Transfer
passed_at s k = passed_between s.events (state_at s k) (state_at s (suc k))

-- in the first k steps, in order
abbrev pub passed_to : Story → ℕ → List Transfer
passed_to s zero = []
passed_to s (suc k) = passed_to s k ++ passed_at s k
