-- A text of lines that describes a history, line by line from its end backwards.
use Rattle.std.proofs.Common.{◌≡◌, ◌≤◌, ◌<◌, ℕ, Bool, true, false, List, [], ◌∷◌, ◌++◌, None, Some, Ok, codes, refl}
use Rattle.std.proofs.Common.{ap, sym, subst, ◌∙◌, append-nil, arith}
use Rattle.std.specs.Str.Lines.{lines}
use Rattle.std.proofs.lemmas.List.Elements.{All-cons}
use Rattle.board_terms.specs.declared.event.Edge.{Edge}
use Rattle.board_terms.specs.declared.event.HostAct.TheVariants.{Take}
use Rattle.board_terms.specs.declared.event.HostEvent.{HostEvent}
use Rattle.pc_tables.specs.Keys.{name_at}
use Rattle.layout_reader.specs.declared.entry.Entry.{Entry}
use Rattle.layout_reader.specs.Layouts.{KeyLayout}
use Rattle.text_lines.specs.Fields.{fields}
use Rattle.first_fault.specs.FirstFault.{and_then}
use Rattle.key_file.specs.Cursors.{sound, edge_before, host_before, edges_in, host_in}
use Rattle.key_file.specs.Fields.{edge_of, said_by}
use Rattle.key_file.specs.Histories.{KeyHistory}
use Rattle.key_file.specs.Described.{AreOfRightForm, event_before, events_in, AreInJointOrder, Describes}
use Rattle.key_lines.specs.Lines.{comment_line, end_line, press_line, release_line, take_line}
use Rattle.key_lines.proofs.Numerals.{stamp-back}
use Rattle.key_lines.proofs.Owned.{IsOwn}
use Rattle.key_lines.proofs.Parted.{IsLine, fields-more, first-line, is_text, name-word, text-by}
use Rattle.key_lines.proofs.Said.{key_text, word_text, key-line, press-said, release-said, take-said, word-line, word-said}

-- lines tell these edges and events of the host, none before a stamp, and then the end
pub record AreTold (layout : KeyLayout) (end from : ℕ) (edges : List Edge) (host : List HostEvent) (texts : List (List ℕ)) : Type 0 where
  pub form : AreOfRightForm layout texts
  pub edges_are : edges_in layout texts ≡ edges
  pub host_are : host_in layout texts ≡ host
  pub order : AreInJointOrder from (events_in layout texts) end

-- and so does a text
abbrev pub Tells : KeyLayout → ℕ → ℕ → List Edge → List HostEvent → List ℕ → Type 0
Tells layout end from edges host text = AreTold layout end from edges host (lines text)

module _ (layout : KeyLayout) (end : ℕ) where
  -- a line, by what a reader says of it, and what follows it
  told : (line rest : List ℕ) (r : _) → IsLine line → said_by layout (fields line) ≡ r → r ≡ Ok (sound r)
      → (from : ℕ) (edges : List Edge) (host : List HostEvent) → AreOfRightForm layout (lines rest)
      → edge_before (sound r) (edges_in layout (lines rest)) ≡ edges → host_before (sound r) (host_in layout (lines rest)) ≡ host
      → AreInJointOrder from (event_before (sound r) (events_in layout (lines rest))) end
      → Tells layout end from edges host ((line ++ 10 ∷ []) ++ rest)
  told line rest r plain says right from edges host form edges_are host_are order =
      subst (AreTold layout end from edges host) (sym (first-line line rest plain)) (record {
        form = (subst (λ s. s ≡ Ok (sound s)) (sym says) right, form);
        edges_are = ap (λ s. edge_before (sound s) (edges_in layout (lines rest))) says ∙ edges_are;
        host_are = ap (λ s. host_before (sound s) (host_in layout (lines rest))) says ∙ host_are;
        order = subst (λ s. AreInJointOrder from (event_before (sound s) (events_in layout (lines rest))) end) (sym says) order;
      })

  -- the line of an edge
  edge-tells : (word : List ℕ) (from stamp : ℕ) (down : Bool) (key : Entry) (edges : List Edge) (host : List HostEvent) (rest : List ℕ)
      → is_text 32 word ≡ true → stamp < 1000000000
      → said_by layout (fields (key_text stamp word (name_at key.key)))
      ≡ and_then (edge_of layout stamp down (name_at key.key ∷ [])) (λ event. Ok (Some event))
      → from ≤ stamp → IsOwn layout key → Tells layout end stamp edges host rest
      → Tells layout end from (record { stamp = stamp; place = key.place; down = down } ∷ edges) host
      ((key_text stamp word (name_at key.key) ++ 10 ∷ []) ++ rest)
  edge-tells word from stamp down key edges host rest is short says later own more =
      let place = own.place in
      told (key_text stamp word (name_at key.key)) rest _
      (key-line stamp word (name_at key.key) short (text-by 32 word is) (name-word key.key own.key)) says (rw place refl) from _ host
      more.form (rw place (ap (λ es. record { stamp = stamp; place = key.place; down = down } ∷ es) more.edges_are))
      (rw place more.host_are) (rw place (later, more.order))

  -- a line `press` before lines that tell a history from its stamp on tells one edge more: its key goes down
  pub press-tells : (from stamp : ℕ) (key : Entry) (edges : List Edge) (host : List HostEvent) (rest : List ℕ)
      → from ≤ stamp → stamp < 1000000000 → IsOwn layout key → Tells layout end stamp edges host rest
      → Tells layout end from (record { stamp = stamp; place = key.place; down = true } ∷ edges) host (press_line stamp key ++ rest)
  press-tells from stamp key edges host rest later short own more =
      edge-tells (codes "press") from stamp true key edges host rest refl short
      (press-said layout stamp (name_at key.key) short (name-word key.key own.key)) later own more

  -- a line `release` before lines that tell a history from its stamp on tells one edge more: its key goes up
  pub release-tells : (from stamp : ℕ) (key : Entry) (edges : List Edge) (host : List HostEvent) (rest : List ℕ)
      → from ≤ stamp → stamp < 1000000000 → IsOwn layout key → Tells layout end stamp edges host rest
      → Tells layout end from (record { stamp = stamp; place = key.place; down = false } ∷ edges) host (release_line stamp key ++ rest)
  release-tells from stamp key edges host rest later short own more =
      edge-tells (codes "release") from stamp false key edges host rest refl short
      (release-said layout stamp (name_at key.key) short (name-word key.key own.key)) later own more

  -- a line `take` before lines that tell a history from its stamp on tells one event more: the host takes a word
  pub take-tells : (from stamp : ℕ) (edges : List Edge) (host : List HostEvent) (rest : List ℕ)
      → from ≤ stamp → stamp < 1000000000 → Tells layout end stamp edges host rest
      → Tells layout end from edges (record { stamp = stamp; act = Take } ∷ host) (take_line stamp ++ rest)
  take-tells from stamp edges host rest later short more =
      told (word_text stamp (codes "take")) rest _ (word-line stamp (codes "take") short (text-by 32 (codes "take") refl))
      (take-said layout stamp short) refl from edges _
      more.form more.edges_are (ap (λ es. record { stamp = stamp; act = Take } ∷ es) more.host_are) (later, more.order)

  -- a comment before lines that tell a history changes nothing of what they tell
  pub comment-tells : (from : ℕ) (text : List ℕ) (edges : List Edge) (host : List HostEvent) (rest : List ℕ) → IsLine text
      → Tells layout end from edges host rest → Tells layout end from edges host (comment_line text ++ rest)
  comment-tells from text edges host rest plain more =
      let is : IsLine (35 ∷ 32 ∷ text) = record {
        some = omega arith;
        each = All-cons (λ c. 31 < c) 35 (32 ∷ text) (omega arith) (All-cons (λ c. 31 < c) 32 text (omega arith) plain.each);
      } in
      told (35 ∷ 32 ∷ text) rest (Ok None) is (ap (said_by layout) (fields-more (35 ∷ []) text (text-by 32 (35 ∷ []) refl))) refl
      from edges host more.form more.edges_are more.host_are more.order

  -- the last line of a key file tells no event
  pub end-tells : (from : ℕ) → from ≤ end → end < 1000000000 → Tells layout end from [] [] (end_line end)
  end-tells from later short =
      let word = text-by 32 (codes "end") refl in
      let back = stamp-back end short in
      subst (Tells layout end from [] []) (append-nil (end_line end))
      (told (word_text end (codes "end")) [] _ (word-line end (codes "end") short word) (word-said layout end (codes "end") short word)
      (rw back refl) from [] [] tt (rw back refl) (rw back refl) (rw back (later, refl, refl)))

-- a text that tells a history, and then its end, describes it
pub tells-describes : (layout : KeyLayout) (history : KeyHistory) (text : List ℕ)
    → Tells layout history.end 0 history.edges history.host text → Describes layout text history
tells-describes layout history text told =
    record { form = told.form; edges = told.edges_are; host = told.host_are; order = told.order }
