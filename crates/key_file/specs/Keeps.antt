-- What the program keeps of the events so far, against the events themselves.
use Rattle.std.specs.Prelude.{◌≡◌, ℕ, ◌+◌, List, None, Ok, length, slice_index_or}
use Rattle.board_terms.specs.Laws.{ArePlaces}
use Rattle.layout_reader.specs.Layouts.{KeyLayout}
use Rattle.key_file.specs.declared.brief.Brief.{Brief as Kept}
use Rattle.key_file.specs.Histories.{Before, last_edge}
use Rattle.key_file.specs.Briefs.{Brief, latest_of}
use Rattle.key_file.specs.KeyFile.{take_line}

-- what it keeps, as the rules ask it
abbrev pub asked : Kept → Brief
asked kept = record {
  last = λ place. slice_index_or kept.last place None;
  latest = kept.latest;
  count = kept.count;
  stamp = kept.stamp;
  end = kept.end;
}

-- it is what the rules ask of them; and no edge has a place past the matrix
pub record IsBriefOf (before : Before) (kept : Kept) : Type 0 where
  pub size : length kept.last ≡ 96
  pub last : (place : ℕ) → (asked kept).last place ≡ last_edge place before.edges
  pub latest : kept.latest ≡ latest_of before.edges
  pub count : kept.count ≡ length before.edges + length before.host
  pub stamp : kept.stamp ≡ before.stamp
  pub end : kept.end ≡ before.end
  pub in_matrix : ArePlaces before.edges

-- it is what the rules ask of the events with what a line says
pub record IsBriefAfter (layout : KeyLayout) (before : Before) (line : List ℕ) (kept : Kept) : Type 0 where
  pub after : Before
  pub taken : take_line layout before line ≡ Ok after
  pub brief : IsBriefOf after kept
