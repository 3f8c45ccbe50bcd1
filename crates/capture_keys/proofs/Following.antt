-- Whatever is found on the wires, what is so of the keys stays so.
use Rattle.std.proofs.Common.{◌≡◌, ◌≤◌, ℕ, true, false, not, ◌&&◌, List, [], ◌∷◌, ◌++◌, length, Some, None, refl, subst, sym, ◌∙◌}
use Rattle.std.proofs.Common.{arith, length-append, append-nil}
use Rattle.std.specs.Prelude.{All, IsSome, nat_lt, slice_index_or, slice_set, if◌then◌else◌}
use Rattle.std.specs.declared.option.Option.{Option}
use Rattle.std.proofs.lemmas.Bool.{and_parts}
use Rattle.std.proofs.lemmas.Bool.Decides.{nat_tests}
use Rattle.capture_frames.specs.declared.finding.Finding.{Finding}
use Rattle.capture_frames.specs.declared.finding.Finding.TheVariants.{Byte, Few, Cut, Unfinished, Stray, Glitch, Hold, StaysLow}
use Rattle.capture_frames.specs.declared.finding.Timed.{Timed}
use Rattle.board_terms.specs.declared.event.Edge.{Edge}
use Rattle.capture_lines.specs.Speech.{is_code}
use Rattle.layout_reader.specs.declared.entry.Entry.{Entry}
use Rattle.layout_reader.specs.Layouts.{KeyLayout, IsKeyLayout}
use Rattle.key_lines.proofs.Owned.{own-entry}
use Rattle.law_typed_log.proofs.Found.{found}
use Rattle.capture_keys.specs.Codes.{code_at, code_of, is_new}
use Rattle.capture_keys.specs.Keys.{Keys, entry_of, filled, has_room, is_struck, moved, sends, struck, turned, typed, unsent}
use Rattle.capture_keys.specs.KeyTexts.{edges_in}
use Rattle.capture_keys.specs.Typed.{Typist, followed, followed_all}
use Rattle.capture_keys.specs.declared.codes.Code.{Code}
use Rattle.capture_keys.specs.declared.codes.Codes.{Codes}
use Rattle.capture_keys.specs.declared.key_line.KeyLine.TheVariants.{Unsent}
use Rattle.capture_keys.proofs.Sound.{IsKeyOf, IsSound, edges_more, filled_sound, lines_more}
use Rattle.capture_keys.proofs.Turning.{turned_sound}

-- a code is one of a key
abbrev IsCode : Option Code → Type 0
IsCode None = Unit {0}
IsCode (Some c) = is_code c.byte ≡ true

code_is : (t : Timed) (f : Finding) (c : Codes) → IsCode (code_of t f c)
code_is t (Byte w) c =
    elim (not w.from_host && is_new w c && is_code w.byte) as (λ b. (not w.from_host && is_new w c && is_code w.byte) ≡ b
    → IsCode (if b then Some (code_at t.time w.byte c) else None)) [
      | true ↦ λ h. (and_parts (not w.from_host && is_new w c) (is_code w.byte) h).1
      | false ↦ λ h. tt
    ] refl
code_is t (Few from_host edges) c = tt
code_is t (Cut from_host edges) c = tt
code_is t (Unfinished from_host edges) c = tt
code_is t Stray c = tt
code_is t Glitch c = tt
code_is t (Hold asks) c = tt
code_is t StaysLow c = tt

module _ (layout : KeyLayout) (sound : IsKeyLayout layout) where
  -- an entry that sends a code is the layout's
  key_of : (code : ℕ) (e : Entry) → entry_of code layout.entries ≡ Some e → IsKeyOf layout e
  unfolding entry_of
  key_of code e h =
      let own = found (sends code) e layout.entries sound.entries h in
      record {
        own = own-entry layout e sound own.is.key own.own;
        place = own.is.place;
        is_place = subst (λ (o : Option Entry). IsSome o) (sym own.own) refl;
      }

  struck_sound : (c : Code) (e : Entry) (k : Keys) → IsKeyOf layout e → IsSound layout k → IsSound layout (struck layout.debounce c e k)
  struck_sound c e k is s =
      let first = turned_sound layout e c.time c.down k is s in
      elim (is_struck c e) as (λ b. IsSound layout (if b
      then turned layout.debounce c.time e false (turned layout.debounce c.time e c.down k) else turned layout.debounce c.time e c.down k)) [
        | true ↦ turned_sound layout e c.time false (turned layout.debounce c.time e c.down k) is first
        | false ↦ first
      ]

  named_sound : (code : ℕ) (k : Keys) → is_code code ≡ true → has_room k ≡ true → IsSound layout k
      → IsSound layout (record k { named = slice_set k.named code true; lines = k.lines ++ Unsent code ∷ [] })
  named_sound code k is room s =
      let both = and_parts (not k.full) (nat_lt (length k.lines) 65536) room in
      let few = both.1 in
      let same : edges_in (k.lines ++ Unsent code ∷ []) ≡ edges_in k.lines =
      edges_more k.lines (Unsent code ∷ []) ∙ append-nil (edges_in k.lines) in
      record {
        calls = s.calls;
        placed = s.placed;
        queue = s.queue;
        edges = same ∙ s.edges;
        lines = lines_more layout k.lines (Unsent code ∷ []) s.lines (is, tt);
        few = grind (arith, nat_tests, few, length-append k.lines (Unsent code ∷ []));
        soon = s.soon;
        before = subst (All (λ (x : Edge). x.stamp ≤ k.queue.ready)) (sym same) s.before;
        idle = s.idle;
      }

  unsent_sound : (code : ℕ) (k : Keys) → is_code code ≡ true → IsSound layout k → IsSound layout (unsent code k)
  unsent_sound code k is s =
      elim (slice_index_or k.named code false) as (λ b. IsSound layout (if b then k else if has_room k
      then record k { named = slice_set k.named code true; lines = k.lines ++ Unsent code ∷ [] } else filled k)) [
        | true ↦ s
        | false ↦ elim (has_room k) as (λ b. has_room k ≡ b → IsSound layout (if b
            then record k { named = slice_set k.named code true; lines = k.lines ++ Unsent code ∷ [] } else filled k)) [
              | true ↦ λ room. named_sound code k is room s
              | false ↦ λ none. filled_sound layout k s
            ] refl
      ]

  moved_sound : (c : Code) (o : Option Entry) (k : Keys) → is_code c.byte ≡ true → entry_of c.byte layout.entries ≡ o
      → IsSound layout k → IsSound layout (moved layout c o k)
  moved_sound c None k is h s = unsent_sound c.byte k is s
  moved_sound c (Some e) k is h s = struck_sound c e k (key_of c.byte e h) s

  typed_sound : (o : Option Code) (k : Keys) → IsCode o → IsSound layout k → IsSound layout (typed layout o k)
  typed_sound None k is s = s
  typed_sound (Some c) k is s = moved_sound c (entry_of c.byte layout.entries) k is refl s

  -- the keys stay sound, whatever is found on the wires
  pub followed_sound : (found : List Timed) (s : Typist) → IsSound layout s.keys → IsSound layout (followed_all layout found s).keys
  followed_sound [] s sound_keys = sound_keys
  followed_sound (t ∷ more) s sound_keys =
      followed_sound more (followed layout t s)
      (typed_sound (code_of t t.finding s.codes) s.keys (code_is t t.finding s.codes) sound_keys)
