-- A step in which no edge is made.
use Rattle.std.specs.Prelude.{[]}
use Rattle.joint_run.specs.declared.due.Due.{Due}

-- what is handed in, without its edges
abbrev pub without_edges : Due → Due
without_edges due = record { edges = record { items = [] }; host = due.host }
