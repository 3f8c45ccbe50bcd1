-- The bytes of lists: so many places, of which the first have the list's items, and the others are zero.
use Rattle.std.specs.Prelude.{ℕ, zero, suc, ◌&&◌, Bool, true, false, nat_lt, List, [], ◌∷◌, ◌++◌, drop, slice_index, slice_index_or}
use Rattle.std.specs.Int.{w16, w64, to_le_bytes, from_bool}
use Rattle.board_terms.specs.declared.event.Edge.{Edge}
use Rattle.pc_tables.specs.declared.item.Item.TheVariants.{Port}
use Rattle.joint_bytes.specs.Kinds.{what_by, what_kind, what_value}
use Rattle.live_items.specs.declared.happened.Happened.{Happened}
use Rattle.live_items.specs.declared.happened.What.TheVariants.{Said}
use Rattle.mcs48_bytes.specs.Numbers.{number_at, truth_at, word_at}

-- words of 2 bytes
abbrev pub words_bytes : ℕ → List ℕ → List ℕ
words_bytes zero words = []
words_bytes (suc n) words = to_le_bytes w16 (slice_index words 0) ++ words_bytes n (drop 1 words)

-- the first of them
abbrev pub words_in : ℕ → List ℕ → List ℕ
words_in zero s = []
words_in (suc n) s = word_at 0 s ∷ words_in n (drop 2 s)

-- an edge of a key, in 10 bytes: its stamp (8 bytes), its place, and whether the key goes down
abbrev pub edge_bytes : Edge → List ℕ
edge_bytes e = to_le_bytes w64 e.stamp ++ e.place ∷ from_bool e.down ∷ []

abbrev pub edge_in : List ℕ → Edge
edge_in s = record { stamp = number_at 0 s; place = slice_index s 8; down = truth_at 9 s }

abbrev pub no_edge : Edge
no_edge = record { stamp = 0; place = 0; down = false }

abbrev pub edges_bytes : ℕ → List Edge → List ℕ
edges_bytes zero edges = []
edges_bytes (suc n) edges = edge_bytes (slice_index_or edges 0 no_edge) ++ edges_bytes n (drop 1 edges)

abbrev pub edges_in : ℕ → List ℕ → List Edge
edges_in zero s = []
edges_in (suc n) s = edge_in s ∷ edges_in n (drop 10 s)

-- the first of them are at places of the matrix
abbrev pub have_places : ℕ → List ℕ → Bool
have_places zero s = true
have_places (suc n) s = nat_lt (slice_index s 8) 96 && have_places n (drop 10 s)

-- what happened, in 11 bytes: its cycle (8 bytes), its kind, and its byte or word (2 bytes)
abbrev pub item_bytes : Happened → List ℕ
item_bytes it = to_le_bytes w64 it.cycle ++ what_kind it.what ∷ to_le_bytes w16 (what_value it.what)

abbrev pub item_in : List ℕ → Happened
item_in s = record { cycle = number_at 0 s; what = what_by (slice_index s 8) (slice_index s 9) (word_at 9 s) }

abbrev pub no_item : Happened
no_item = record { cycle = 0; what = Said (Port 0) }

abbrev pub items_bytes : ℕ → List Happened → List ℕ
items_bytes zero items = []
items_bytes (suc n) items = item_bytes (slice_index_or items 0 no_item) ++ items_bytes n (drop 1 items)

abbrev pub items_in : ℕ → List ℕ → List Happened
items_in zero s = []
items_in (suc n) s = item_in s ∷ items_in n (drop 11 s)
