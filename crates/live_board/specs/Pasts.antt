-- What a keyboard that runs as one goes has been through.
use Rattle.std.specs.Prelude.{ℕ, suc, List, [], ◌∷◌, ◌++◌}
use Rattle.std.specs.declared.option.Option.{Option}
use Rattle.board_terms.specs.declared.event.Edge.{Edge}
use Rattle.board_terms.specs.declared.event.HostAct.{HostAct}
use Rattle.board_terms.specs.declared.event.HostEvent.{HostEvent}
use Rattle.joint_feed.specs.Stories.{Story, state_at}
use Rattle.joint_run.specs.Joint.{Beside}
use Rattle.joint_run.specs.Run.{World}
use Rattle.joint_run.specs.Filled.{filled}
use Rattle.mcs48_core.specs.Cpu.{Cpu}

-- the program, what the part held when it was switched on, the edges of keys and the host's events so far, each with the
-- stamp at which it was made, and how many joint steps were made since power-on
pub record Past : Type 0 where
  pub bytes : List ℕ
  pub held : Cpu
  pub edges : List Edge
  pub events : List HostEvent
  pub steps : ℕ

-- its story: no end stamp is known yet
abbrev pub story_of : Past → Story
story_of p = record { bytes = p.bytes; edges = p.edges; events = p.events; stop = 0; held = p.held }

-- the state of the joint run of that story after as many steps, if there is one
abbrev pub state_of : Past → Option (World Beside)
state_of p = state_at (story_of p) p.steps

-- at power-on, with this byte in data memory, in A and in T, and so many steps later, if nothing came from outside
abbrev pub untouched : ℕ → List ℕ → ℕ → Past
untouched fill bytes steps = record { bytes = bytes; held = filled fill; edges = []; events = []; steps = steps }

-- a key goes down or up
abbrev pub pressed : Past → Edge → Past
pressed p e = record p { edges = p.edges ++ e ∷ [] }

-- the host does something at a stamp, and one step is made
abbrev pub acted : Past → ℕ → HostAct → Past
acted p stamp act =
    record p { events = p.events ++ record { stamp = stamp; act = act } ∷ []; steps = suc p.steps }

-- the run has gone on to so many steps
abbrev pub gone_on : Past → ℕ → Past
gone_on p steps = record p { steps = steps }
