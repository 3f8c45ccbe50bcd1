-- The parts of a line. The lines of a text are those of std's `lines`: they end with LF, a CR before an LF is dropped,
-- and a last piece counts if it isn't empty.
use Rattle.std.specs.Prelude.{ℕ, Bool, false, List, [], ◌∷◌, ◌==◌, ◌||◌, nat_lt, length}
use Rattle.std.specs.List.{list_all, slice_split, filter}

-- a space or a tab
abbrev pub is_blank : ℕ → Bool
is_blank character = character == 32 || character == 9

-- a line is blank if it has nothing but spaces and tabs
abbrev pub is_blank_line : List ℕ → Bool
is_blank_line line = list_all is_blank line

-- a piece that isn't empty
abbrev pub is_field : List ℕ → Bool
is_field piece = nat_lt 0 (length piece)

-- the fields of a line, parted by spaces and tabs: the pieces between these that aren't empty
unfoldable pub fields : List ℕ → List (List ℕ)
fields line = filter is_field (slice_split is_blank line)

-- the pieces of a line between marks, some of which may be empty; single spaces part fields into such pieces
abbrev pub pieces : ℕ → List ℕ → List (List ℕ)
pieces mark line = slice_split (λ character. character == mark) line

-- two pieces at least
abbrev pub HasMore : List (List ℕ) → Type 0
HasMore (first ∷ second ∷ others) = Unit {0}
HasMore others = ⊥

-- the first character of a text is a space or a tab
abbrev pub begins_blank : List ℕ → Bool
begins_blank [] = false
begins_blank (first ∷ others) = is_blank first
