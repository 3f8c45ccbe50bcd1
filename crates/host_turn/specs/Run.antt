-- A run of the PC's side under the host's events.
use Rattle.std.specs.Prelude.{ℕ, ◌+◌, Bool, false, ◌==◌, List, [], ◌∷◌, ◌++◌, map, slice_get, if◌then◌else◌}
use Rattle.ctl_link.specs.declared.port.LinkEnd.{LinkEnd}
use Rattle.ctl_link.specs.Link.{port_at_start}
use Rattle.pc_tables.specs.declared.item.Item.{Item}
use Rattle.pc_tables.specs.declared.item.Item.TheVariants.{Lights}
use Rattle.int09.specs.Bios.{State, start}
use Rattle.board_terms.specs.declared.event.HostEvent.{HostEvent}
use Rattle.host_turn.specs.declared.desk.Desk.{Desk}
use Rattle.host_turn.specs.declared.stamped.Stamped.{Stamped}
use Rattle.host_turn.specs.Cycle.{Cycled, cycled}

-- the controller with its link, the mask, INT 09h, how many events of the host are done, and what was said so far
pub record Side (F : Type 0) : Type 0 where
  pub port : LinkEnd F
  pub masked : Bool
  pub bios : State
  pub done : ℕ
  pub log : List Stamped

-- at the start of a run
abbrev pub side_at_start : (F : Type 0) → Side F
side_at_start F = record { port = port_at_start F; masked = false; bios = start; done = 0; log = [] }

-- items with their cycle
abbrev pub stamped : ℕ → List Item → List Stamped
stamped now items = map (λ item. record { cycle = now; item = item }) items

-- the desk of a run
abbrev pub desk_of : {F : Type 0} → Side F → Desk F
desk_of s = record { port = s.port; masked = s.masked; bios = s.bios }

-- a run after a cycle
abbrev pub with_cycled : {F : Type 0} → ℕ → Cycled F → Side F → Side F
with_cycled now c s = record {
  port = c.desk.port;
  masked = c.desk.masked;
  bios = c.desk.bios;
  done = if c.done then s.done + 1 else s.done;
  log = s.log ++ stamped now c.items;
}

-- a cycle of a run, with the events of a history in their order; a byte under way may be broken off by what is known of
-- it
unfoldable pub goes_on : {F : Type 0} → (F → Bool) → List HostEvent → ℕ → Side F → Side F
goes_on breaks events now s = with_cycled now (cycled breaks now (slice_get events s.done) (desk_of s)) s

-- lights that differ from those shown are said
abbrev pub lights_said : ℕ → ℕ → ℕ → List Stamped
lights_said now shown lights = if lights == shown then [] else record { cycle = now; item = Lights lights } ∷ []

abbrev pub says_lights : {F : Type 0} → ℕ → ℕ → ℕ → Side F → Side F
says_lights now shown lights s = record s { log = s.log ++ lights_said now shown lights }
