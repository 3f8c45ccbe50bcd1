-- A run: it goes on to the first step that does what it is to stop for, within a limit of cycles and one of steps.
use Rattle.std.specs.Prelude.{◌≡◌, ◌≤◌, ◌<◌, ◌^◌, ◌+◌, ◌%◌, ◌==◌, ℕ, suc, Bool, true, false, not, ◌&&◌, ◌||◌, ◌⊎◌, nat_lt}
use Rattle.std.specs.Prelude.{List, [], ◌∷◌, length, Some, None, IfSome, MatchOption}
use Rattle.std.specs.declared.option.Option.{Option}
use Rattle.board_terms.specs.declared.lines.Lines.{Lines}
use Rattle.host_turn.specs.declared.stamped.Stamped.{Stamped}
use Rattle.joint_feed.specs.Stories.{state_at}
use Rattle.joint_run.specs.Cycle.{outside_wires}
use Rattle.joint_run.specs.Joint.{Beside, latch_of, log_of}
use Rattle.joint_run.specs.Run.{World}
use Rattle.ctl_wire.specs.Wires.{wires}
use Rattle.live_board.specs.Calls.{place_of}
use Rattle.live_board.specs.Pasts.{Past, gone_on, state_of, story_of}
use Rattle.live_board.specs.Rising.{irq_of, rose}
use Rattle.live_board.specs.States.{HasPast}
use Rattle.live_board.specs.declared.irq.Irq.{Irq}
use Rattle.live_board.specs.declared.parts.Parts.{Parts as Keyboard}
use Rattle.live_board.specs.declared.ran.RunEnd.{RunEnd}
use Rattle.live_board.specs.declared.ran.RunEnd.TheVariants as ends
use Rattle.live_board.specs.declared.stops.Met.{Met}
use Rattle.live_board.specs.declared.stops.Stops.{Stops}

-- to stop for nothing, but at a rise of the interrupt line if it is watched
abbrev pub at_rise : Bool → Stops
at_rise watched = record { rise = watched; item = false; wires = false; counter = None }

-- a wire is otherwise
abbrev pub differ : Bool → Bool → Bool
differ true b = not b
differ false b = b

abbrev pub wires_met : Lines → Lines → Bool
wires_met a b = differ a.clk b.clk || differ a.dat b.dat

-- something is said
abbrev pub item_met : List Stamped → Bool
item_met [] = false
item_met (said ∷ later) = true

-- the counter is at the place: its low 11 bits are
abbrev pub counter_met : Option ℕ → ℕ → Bool
counter_met None counter = false
counter_met (Some place) counter = counter % 2048 == place

-- what a step from one state to the next does of what the run is to stop for: the interrupt line rose; the log
-- has grown; a wire is otherwise; the counter is at the place
abbrev pub met_from : Stops → World Beside → World Beside → Met
met_from stops w v = record {
  rise = stops.rise && rose (irq_of w.board.pc.side.port) (irq_of v.board.pc.side.port);
  item = stops.item && nat_lt (length (log_of w.board)) (length (log_of v.board));
  wires = stops.wires && wires_met (wires (latch_of w.cpu.p2) w.board.pc) (wires (latch_of v.cpu.p2) v.board.pc);
  counter = counter_met stops.counter v.cpu.pc;
}

-- what it does as the machine after it shows, before which the line and the wires were so
abbrev pub met_by : Stops → Irq → Lines → Keyboard → Met
met_by stops was before k = record {
  rise = stops.rise && rose was (irq_of k.joint.outside.desk.port);
  item = stops.item && item_met k.seen.items.items;
  wires = stops.wires && wires_met before (outside_wires k.joint.mcu.p2 k.joint.outside);
  counter = counter_met stops.counter k.joint.mcu.pc;
}

abbrev pub nothing_met : Met
nothing_met = record { rise = false; item = false; wires = false; counter = false }

abbrev pub met_between : Stops → Option (World Beside) → Option (World Beside) → Met
met_between stops None next = nothing_met
met_between stops (Some w) None = nothing_met
met_between stops (Some w) (Some v) = met_from stops w v

-- what the step after the first j steps does
abbrev pub met_at : Stops → Past → ℕ → Met
met_at stops p j = met_between stops (state_at (story_of p) j) (state_at (story_of p) (suc j))

abbrev pub is_met : Met → Bool
is_met m = m.rise || (m.item || (m.wires || m.counter))

-- none of the steps from one on and before another does any of it
abbrev pub AreUnmet : Stops → Past → ℕ → ℕ → Type 0
AreUnmet stops p from to = (j : ℕ) → from ≤ j → j < to → is_met (met_at stops p j) ≡ false

-- each state from one on and before another is before a cycle
abbrev pub AreBefore : Past → ℕ → ℕ → ℕ → Type 0
AreBefore p from to cycle =
    (j : ℕ) (w : World Beside) → from ≤ j → j < to → state_at (story_of p) j ≡ Some w → w.cycle < cycle

-- as many steps were made as there may be, at most. There may be no limit of them
abbrev pub AreFew : Keyboard → Option ℕ → Keyboard → Type 0
AreFew old steps new = IfSome steps (λ most. new.joint.steps ≤ old.joint.steps + most)

-- a limit is reached
abbrev pub IsAtLimit : Keyboard → ℕ → Option ℕ → Keyboard → Type 0
IsAtLimit old cycles steps new =
    (old.joint.cycle + cycles ≤ new.joint.cycle)
    ⊎ MatchOption steps ⊥ (λ most. new.joint.steps ≡ old.joint.steps + most)

-- neither limit is reached
pub record IsWithin (old : Keyboard) (cycles : ℕ) (steps : Option ℕ) (new : Keyboard) : Type 0 where
  pub soon : new.joint.cycle < old.joint.cycle + cycles
  pub few : IfSome steps (λ most. new.joint.steps < old.joint.steps + most)

-- why it ended: a limit is reached; the last step did this, and no step before it did; or, within both limits, the count
-- of cycles is at its end, or the processor is stuck, so that no state follows
abbrev pub EndsSo : Stops → Past → Keyboard → ℕ → Option ℕ → RunEnd → Keyboard → Type 0
EndsSo stops p old cycles steps ends.Passed new =
    IsAtLimit old cycles steps new × AreUnmet stops p old.joint.steps new.joint.steps
EndsSo stops p old cycles steps (ends.Met what) new =
    (last : ℕ) × (new.joint.steps ≡ suc last) × (old.joint.steps ≤ last) × AreUnmet stops p old.joint.steps last
    × (met_at stops p last ≡ what) × (is_met what ≡ true)
EndsSo stops p old cycles steps ends.LastCycle new =
    (2 ^ 62 ≤ new.joint.cycle) × IsWithin old cycles steps new × AreUnmet stops p old.joint.steps new.joint.steps
EndsSo stops p old cycles steps (ends.Stuck place) new =
    (state_of (gone_on p (suc new.joint.steps)) ≡ None) × (place ≡ place_of new.joint) × IsWithin old cycles steps new
    × AreUnmet stops p old.joint.steps new.joint.steps

-- the run has gone on to the first state at which it was to end, within both limits
pub record HasRun (stops : Stops) (p : Past) (old : Keyboard) (cycles : ℕ) (steps : Option ℕ) (end : RunEnd) (new : Keyboard)
    : Type 0 where
  pub has_past : HasPast (gone_on p new.joint.steps) new
  pub before : AreBefore p old.joint.steps new.joint.steps (old.joint.cycle + cycles)
  pub few : AreFew old steps new
  pub ends : EndsSo stops p old cycles steps end new
