-- What the rules ask of the events so far.
use Rattle.std.specs.Prelude.{ℕ, ◌+◌, ◌-◌, nat_le, List, [], ◌∷◌, length, None, if◌then◌else◌}
use Rattle.std.specs.List.{slice_get}
use Rattle.std.specs.declared.option.Option.{Option}
use Rattle.board_terms.specs.declared.event.Edge.{Edge}
use Rattle.key_file.specs.Histories.{Before, last_edge}

-- the n-th edge from the end, if there are so many
abbrev pub from_end : ℕ → List Edge → Option Edge
from_end n edges = if nat_le n (length edges) then slice_get edges (length edges - n) else None

-- what the rules ask of the events so far, however many they are: the last edge of the key at each place; the last four
-- edges, the earliest first; the number of edges and of the host's events; the stamp of the last event; and the stamp
-- of `end` if that has come
pub record Brief : Type 0 where
  pub last : ℕ → Option Edge
  pub latest : List (Option Edge)
  pub count : ℕ
  pub stamp : ℕ
  pub end : Option ℕ

abbrev pub latest_of : List Edge → List (Option Edge)
latest_of edges = from_end 4 edges ∷ from_end 3 edges ∷ from_end 2 edges ∷ from_end 1 edges ∷ []

abbrev pub brief_of : Before → Brief
brief_of before = record {
  last = λ place. last_edge place before.edges;
  latest = latest_of before.edges;
  count = length before.edges + length before.host;
  stamp = before.stamp;
  end = before.end;
}
