-- A feed: a history whose events are handed out one after another, and how many of them were taken.
use Rattle.std.specs.Prelude.{ℕ, ◌+◌, Some, None}
use Rattle.std.specs.declared.option.Option.{Option}
use Rattle.board_terms.specs.declared.event.Edge.{Edge}
use Rattle.board_terms.specs.declared.event.HostEvent.{HostEvent}
use Rattle.key_file.specs.Histories.{KeyHistory}

-- a history, and how many of its edges and of its host events were taken
pub record Fed : Type 0 where
  pub history : KeyHistory
  pub edges : ℕ
  pub host : ℕ

-- one edge more is taken, if there was one
abbrev pub edge_taken : Option Edge → Fed → Fed
edge_taken (Some edge) fed = record fed { edges = fed.edges + 1 }
edge_taken None fed = fed

-- one event of the host more is taken, if there was one
abbrev pub host_taken : Option HostEvent → Fed → Fed
host_taken (Some event) fed = record fed { host = fed.host + 1 }
host_taken None fed = fed
