-- What is so of the keys, whatever codes come.
use Rattle.std.proofs.Common.{◌≡◌, ◌≤◌, ◌<◌, true, false, List, [], ◌∷◌, ◌++◌, length, refl, ap, sym, ◌∙◌, append_assoc, arith}
use Rattle.std.specs.Prelude.{All}
use Rattle.std.proofs.lemmas.List.Elements.{All-nil}
use Rattle.capture_lines.specs.Speech.{is_code}
use Rattle.edge_queue.specs.Calls.{Call, ArePlaced, after, handed}
use Rattle.edge_queue.specs.Queue.{empty}
use Rattle.key_file.specs.Accepted.{IsPlaceOf}
use Rattle.key_lines.proofs.Owned.{IsOwn}
use Rattle.layout_reader.specs.declared.entry.Entry.{Entry}
use Rattle.layout_reader.specs.Layouts.{KeyLayout}
use Rattle.capture_keys.specs.Keys.{Keys, at_start, filled}
use Rattle.capture_keys.specs.KeyTexts.{edges_at, edges_in}
use Rattle.capture_keys.specs.declared.key_line.KeyLine.{KeyLine}
use Rattle.capture_keys.specs.declared.key_line.KeyLine.TheVariants.{Turned, Unsent}

-- an entry of the layout that its key's name finds
pub record IsKeyOf (layout : KeyLayout) (e : Entry) : Type 0 where
  pub own : IsOwn layout e
  pub place : e.place < 96
  pub is_place : IsPlaceOf layout e.place

-- a line moves such a key, or names a code
abbrev pub IsLineOf : KeyLayout → KeyLine → Type 0
IsLineOf layout (Turned e p) = IsKeyOf layout e × (p.place ≡ e.place)
IsLineOf layout (Unsent code) = is_code code ≡ true

abbrev pub AreLinesOf : KeyLayout → List KeyLine → Type 0
AreLinesOf layout [] = Unit {0}
AreLinesOf layout (line ∷ more) = IsLineOf layout line × AreLinesOf layout more

-- what a queue handed over by these calls is in the lines; each edge had its time, and none waits unless there is no room
pub record IsSound (layout : KeyLayout) (k : Keys) : Type 0 where
  pub calls : List Call
  pub placed : ArePlaced calls
  pub queue : k.queue ≡ after layout.debounce calls empty
  pub edges : edges_in k.lines ≡ handed layout.debounce calls empty
  pub lines : AreLinesOf layout k.lines
  pub few : length k.lines ≤ 65536
  pub soon : k.queue.ready ≤ 239979520
  pub before : All (λ e. e.stamp ≤ k.queue.ready) (edges_in k.lines)
  pub idle : k.full ≡ false → k.queue.waiting ≡ []

-- before all codes the keys are sound
pub start_sound : (layout : KeyLayout) → IsSound layout at_start
start_sound layout = record {
  calls = [];
  placed = tt;
  queue = refl;
  edges = refl;
  lines = tt;
  few = omega arith;
  soon = omega arith;
  before = All-nil _;
  idle = λ h. refl;
}

-- sound keys stay sound if something finds no room
pub filled_sound : (layout : KeyLayout) (k : Keys) → IsSound layout k → IsSound layout (filled k)
filled_sound layout k s = record {
  calls = s.calls;
  placed = s.placed;
  queue = s.queue;
  edges = s.edges;
  lines = s.lines;
  few = s.few;
  soon = s.soon;
  before = s.before;
  idle = λ h. absurd cc;
}

-- if the lines of two lists are lines of a layout, so are those of both together
pub lines_more : (layout : KeyLayout) (xs ys : List KeyLine) → AreLinesOf layout xs → AreLinesOf layout ys → AreLinesOf layout (xs ++ ys)
lines_more layout [] ys h k = k
lines_more layout (x ∷ xs) ys h k = (h.0, lines_more layout xs ys h.1 k)

-- the edges of some lines and then others are those of the first, and then those of the others
pub edges_more : (xs ys : List KeyLine) → edges_in (xs ++ ys) ≡ edges_in xs ++ edges_in ys
edges_more [] ys = refl
edges_more (x ∷ xs) ys = ap (λ es. edges_at x ++ es) (edges_more xs ys) ∙ sym (append_assoc (edges_at x) (edges_in xs) (edges_in ys))
