-- The key file tells the history, and it isn't long.
use Rattle.std.proofs.Common.{◌≡◌, ◌≤◌, ◌<◌, ℕ, ◌+◌, ◌*◌, Bool, true, false, List, [], ◌∷◌, ◌++◌, length, codes, refl, subst, sym}
use Rattle.std.proofs.Common.{arith, append_assoc, length-append}
use Rattle.std.specs.Prelude.{All, nat_le, nat_lt, if◌then◌else◌}
use Rattle.std.proofs.lemmas.Bool.{and_parts}
use Rattle.std.proofs.lemmas.Bool.Decides.{nat_tests}
use Rattle.std.proofs.lemmas.List.Elements.{All-cons, All-head, All-nil, All-tail}
use Rattle.bits.proofs.Every.{at_each}
use Rattle.board_terms.specs.declared.event.Edge.{Edge}
use Rattle.capture_lines.specs.Speech.{is_code}
use Rattle.edge_queue.specs.Laws.{AreSpaced}
use Rattle.edge_queue.specs.Queue.{time_of}
use Rattle.key_lines.proofs.Parted.{IsLine, is_text, text-by}
use Rattle.key_lines.proofs.Sizes.{key-size, word-size}
use Rattle.key_lines.proofs.Told.{Tells, comment-tells, end-tells, press-tells, release-tells}
use Rattle.key_lines.specs.Lines.{comment_line, end_line, press_line, release_line}
use Rattle.layout_reader.specs.declared.entry.Entry.{Entry}
use Rattle.layout_reader.specs.Layouts.{KeyLayout}
use Rattle.capture_keys.specs.Keys.{Keys}
use Rattle.capture_keys.specs.KeyTexts.{edges_in, line_text, lines_text, rest_text, turn_line, unsent_text}
use Rattle.capture_keys.specs.declared.key_line.KeyLine.{KeyLine}
use Rattle.capture_keys.specs.declared.key_line.KeyLine.TheVariants.{Turned, Unsent}
use Rattle.capture_keys.proofs.Sound.{AreLinesOf, IsKeyOf, IsLineOf}

-- what a comment says is of visible characters and spaces
unsents_plain : (code : ℕ) → code < 133 → is_text 31 (unsent_text code) ≡ true
unsents_plain = at_each (λ code. is_text 31 (unsent_text code)) 133 refl

code_below : (code : ℕ) → is_code code ≡ true → code < 133
code_below code h =
    let both = and_parts (nat_lt 0 code) (nat_le code 0x84) h in
    let most = both.1 in
    grind (arith, nat_tests, most)

unsent_plain : (code : ℕ) → is_code code ≡ true → IsLine (unsent_text code)
unsent_plain code h = text-by 31 (unsent_text code) (unsents_plain code (code_below code h))

module _ (layout : KeyLayout) (end : ℕ) where
  -- a key goes down or up
  turn_tells : (from : ℕ) (e : Entry) (stamp place : ℕ) (down : Bool) (edges : List Edge) (rest : List ℕ)
      → from ≤ stamp → stamp < 1000000000 → IsKeyOf layout e → place ≡ e.place → Tells layout end stamp edges [] rest
      → Tells layout end from (record { stamp = stamp; place = place; down = down } ∷ edges) []
      (turn_line e (record { stamp = stamp; place = place; down = down }) ++ rest)
  turn_tells from e stamp place true edges rest later short is at more =
      subst (λ p. Tells layout end from (record { stamp = stamp; place = p; down = true } ∷ edges) []
      (turn_line e (record { stamp = stamp; place = p; down = true }) ++ rest)) (sym at)
      (press-tells layout end from stamp e edges [] rest later short is.own more)
  turn_tells from e stamp place false edges rest later short is at more =
      subst (λ p. Tells layout end from (record { stamp = stamp; place = p; down = false } ∷ edges) []
      (turn_line e (record { stamp = stamp; place = p; down = false }) ++ rest)) (sym at)
      (release-tells layout end from stamp e edges [] rest later short is.own more)

  -- lines whose edges are in order, before lines that describe no edge, describe these edges
  pub lines_tell : (debounce : Bool) (from ready : ℕ) (lines : List KeyLine) (rest : List ℕ) → end < 1000000000
      → ((last : ℕ) → last ≤ end → Tells layout end last [] [] rest) → from ≤ ready → from ≤ end → AreLinesOf layout lines
      → AreSpaced debounce ready (edges_in lines) → All (λ (x : Edge). x.stamp ≤ end) (edges_in lines)
      → Tells layout end from (edges_in lines) [] (lines_text lines ++ rest)
  lines_tell debounce from ready [] rest short more l early own spaced before = more from early
  lines_tell debounce from ready (Turned e p ∷ lines) rest short more l early own spaced before =
      let at = All-head (λ (x : Edge). x.stamp ≤ end) _ (edges_in lines) before in
      let since = spaced.0 in
      subst (Tells layout end from (edges_in (Turned e p ∷ lines)) []) (sym (append_assoc (turn_line e p) (lines_text lines) rest))
      (turn_tells from e p.stamp p.place p.down (edges_in lines) (lines_text lines ++ rest) (omega (arith, l, since)) (omega (arith, at, short))
      own.0.0 own.0.1
      (lines_tell debounce p.stamp (p.stamp + time_of debounce p.down) lines rest short more (omega arith) at own.1 spaced.1
      (All-tail (λ (x : Edge). x.stamp ≤ end) _ (edges_in lines) before)))
  lines_tell debounce from ready (Unsent code ∷ lines) rest short more l early own spaced before =
      subst (Tells layout end from (edges_in lines) []) (sym (append_assoc (comment_line (unsent_text code)) (lines_text lines) rest))
      (comment-tells layout end from (unsent_text code) (edges_in lines) [] (lines_text lines ++ rest) (unsent_plain code own.0)
      (lines_tell debounce from ready lines rest short more l early own.1 spaced before))

  -- the comment that something found no room, if there is one, and the end describe no edge
  pub rest_tells : (k : Keys) (from : ℕ) → from ≤ end → end < 1000000000 → Tells layout end from [] [] (rest_text k ++ end_line end)
  rest_tells k from l short =
      elim k.full as (λ b. Tells layout end from [] [] ((if b then comment_line (codes "the rest found no room") else []) ++ end_line end)) [
        | true ↦ comment-tells layout end from (codes "the rest found no room") [] [] (end_line end)
            (text-by 31 (codes "the rest found no room") refl) (end-tells layout end from l short)
        | false ↦ end-tells layout end from l short
      ]

-- how long a line is, and all
line_size : (layout : KeyLayout) (line : KeyLine) (end : ℕ) → IsLineOf layout line → end < 1000000000
    → All (λ (x : Edge). x.stamp ≤ end) (edges_in (line ∷ [])) → length (line_text line) ≤ 28
line_size layout (Turned e p) end is short before =
    let at = All-head (λ (x : Edge). x.stamp ≤ end) _ [] before in
    elim p.down as (λ b. length (if b then press_line p.stamp e else release_line p.stamp e) ≤ 28) [
      | true ↦ omega (arith, key-size p.stamp (codes "press") e (omega (arith, at, short)) is.0.own.key)
      | false ↦ omega (arith, key-size p.stamp (codes "release") e (omega (arith, at, short)) is.0.own.key)
    ]
line_size layout (Unsent code) end is short before = omega arith

-- the lines before the end have at most 28 characters each
pub lines_size : (layout : KeyLayout) (lines : List KeyLine) (end : ℕ) → AreLinesOf layout lines → end < 1000000000
    → All (λ (x : Edge). x.stamp ≤ end) (edges_in lines) → length (lines_text lines) ≤ 28 * length lines
lines_size layout [] end own short before = omega arith
lines_size layout (Turned e p ∷ lines) end own short before =
    let at = All-head (λ (x : Edge). x.stamp ≤ end) _ (edges_in lines) before in
    let tail = All-tail (λ (x : Edge). x.stamp ≤ end) _ (edges_in lines) before in
    let here = line_size layout (Turned e p) end own.0 short (All-cons (λ (x : Edge). x.stamp ≤ end) _ [] at (All-nil _)) in
    let more = lines_size layout lines end own.1 short tail in
    omega (arith, here, more, length-append (line_text (Turned e p)) (lines_text lines))
lines_size layout (Unsent code ∷ lines) end own short before =
    let here = line_size layout (Unsent code) end own.0 short (All-nil _) in
    let more = lines_size layout lines end own.1 short before in
    omega (arith, here, more, length-append (line_text (Unsent code)) (lines_text lines))

-- the comment and the end have at most 64 characters
pub rest_size : (k : Keys) (end : ℕ) → end < 1000000000 → length (rest_text k ++ end_line end) ≤ 64
rest_size k end short =
    let last = word-size end (codes "end") short in
    elim k.full as (λ b. length ((if b then comment_line (codes "the rest found no room") else []) ++ end_line end) ≤ 64) [
      | true ↦ omega (arith, last, length-append (comment_line (codes "the rest found no room")) (end_line end))
      | false ↦ omega (arith, last)
    ]
