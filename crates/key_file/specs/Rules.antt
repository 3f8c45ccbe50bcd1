-- The rules of an event, each judged against what those before it came to.
use Rattle.std.specs.Prelude.{ℕ, ◌+◌, nat_le, nat_lt, not, Bool, false, List, [], ◌∷◌, ◌++◌, None, Some}
use Rattle.std.specs.Prelude.{is_some, slice_index_or, if◌then◌else◌}
use Rattle.std.specs.declared.option.Option.{Option}
use Rattle.board_terms.specs.declared.event.Edge.{Edge}
use Rattle.first_fault.specs.FirstFault.{Judgement, judge}
use Rattle.key_file.specs.declared.event.Event.{Event}
use Rattle.key_file.specs.declared.event.Event.TheVariants.{EdgeOf, End}
use Rattle.key_file.specs.declared.rule.Rule.{Rule}
use Rattle.key_file.specs.declared.rule.Rule.TheVariants.{Form, UnknownWord, UnknownKey, Order, Held, Dwell}
use Rattle.key_file.specs.declared.rule.Rule.TheVariants.{Density, NoEnd, AfterEnd, Late, TooMany}
use Rattle.key_file.specs.Histories.{stamp_at}
use Rattle.key_file.specs.Briefs.{Brief}

-- the number of each rule
abbrev pub number_of : Rule → ℕ
number_of Form = 1
number_of UnknownWord = 2
number_of UnknownKey = 3
number_of (Order earlier stamp) = 4
number_of Held = 5
number_of (Dwell earlier stamp) = 6
number_of (Density earlier stamp) = 7
number_of NoEnd = 8
number_of AfterEnd = 9
number_of (Late stamp) = 10
number_of TooMany = 11

-- a key is down as its last edge left it; all are up at first
abbrev pub is_down : Option Edge → Bool
is_down None = false
is_down (Some last) = last.down

-- press of a key that is down, or release of one that is up
abbrev pub is_held : Edge → Option Edge → Bool
is_held edge last = if edge.down then is_down last else not (is_down last)

-- fewer than 2,240 cycles since an earlier edge, if there is one; the rule names both stamps
abbrev pub soon_after : (ℕ → ℕ → Rule) → Option Edge → Edge → List (Judgement Rule)
soon_after rule None edge = []
soon_after rule (Some earlier) edge =
    judge (rule earlier.stamp edge.stamp) (nat_lt edge.stamp (earlier.stamp + 2240)) ∷ []

-- the fourth edge from the end
abbrev pub fourth_back : Brief → Option Edge
fourth_back before = slice_index_or before.latest 0 None

-- the rules of edges: the key's state, the dwell since its last edge, and the density of five edges in a row
abbrev pub edge_judgements : Brief → Edge → List (Judgement Rule)
edge_judgements before edge =
    judge Held (is_held edge (before.last edge.place))
    ∷ soon_after Dwell (before.last edge.place) edge
    ++ soon_after Density (fourth_back before) edge

abbrev pub key_judgements : Brief → Event → List (Judgement Rule)
key_judgements before (EdgeOf edge) = edge_judgements before edge
key_judgements before event = []

-- it would be event 65,537; `end` isn't counted
abbrev pub is_too_many : Brief → Event → Bool
is_too_many before (End stamp) = false
is_too_many before event = nat_le 65536 before.count

-- the rules from the fourth on, in the order of their numbers: the stamp is less than the one before; the rules of
-- edges; `end` has come; the stamp is greater than 240,000,000; there are too many events
abbrev pub judgements : Brief → Event → List (Judgement Rule)
judgements before event =
    judge (Order before.stamp (stamp_at event)) (nat_lt (stamp_at event) before.stamp)
    ∷ key_judgements before event
    ++ judge AfterEnd (is_some before.end)
    ∷ judge (Late (stamp_at event)) (nat_lt 240000000 (stamp_at event))
    ∷ judge TooMany (is_too_many before event)
    ∷ []
