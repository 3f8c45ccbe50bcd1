-- The key file of what was typed is read as its history, which is accepted for the layout.
use Rattle.std.proofs.Common.{◌≡◌, ◌≤◌, ◌<◌, ℕ, ◌+◌, true, false, List, [], ◌∷◌, ◌++◌, length, ap, subst, sym, arith}
use Rattle.std.proofs.Common.{append_assoc, length-append}
use Rattle.std.specs.Prelude.{All, nat_lt, if◌then◌else◌}
use Rattle.std.proofs.lemmas.List.Elements.{All-cons, All-nil, All-weaker}
use Rattle.board_terms.specs.declared.event.Edge.{Edge}
use Rattle.edge_queue.proofs.Law.{are_lawful}
use Rattle.edge_queue.specs.Laws.{AreSpaced}
use Rattle.edge_queue.specs.Queue.{due_at}
use Rattle.key_file.specs.Accepted.{IsAccepted, IsLawful, IsPlaceOf}
use Rattle.key_file.proofs.ReadsDescribed.{reads-described}
use Rattle.key_lines.specs.Lines.{end_line}
use Rattle.key_lines.proofs.Told.{Tells, tells-describes}
use Rattle.layout_reader.specs.Layouts.{KeyLayout, IsKeyLayout}
use Rattle.capture_vcd.specs.Reads.{reads_of}
use Rattle.capture_frames.specs.Listening.{at_first as nothing_heard}
use Rattle.capture_lines.specs.Captures.{found_by}
use Rattle.capture_keys.specs.Keys.{Keys}
use Rattle.capture_keys.specs.KeyTexts.{edges_in, end_of, history_of_keys, key_text, lines_text, rest_text}
use Rattle.capture_keys.specs.Laws.{Plays}
use Rattle.capture_keys.specs.Typed.{before_all, keys_of}
use Rattle.capture_keys.specs.declared.key_line.KeyLine.{KeyLine}
use Rattle.capture_keys.specs.declared.key_line.KeyLine.TheVariants.{Turned, Unsent}
use Rattle.capture_keys.proofs.Following.{followed_sound}
use Rattle.capture_keys.proofs.Sound.{AreLinesOf, IsSound, start_sound}
use Rattle.capture_keys.proofs.Telling.{lines_size, lines_tell, rest_size, rest_tells}
use Rattle.capture_keys.proofs.Waiting.{due_later}

-- the end is in range
end_range : (ready : ℕ) → ready ≤ 239979520 → due_at ready 162816 + 20480 ≤ 240000000
end_range ready l =
    elim (nat_lt 162816 ready) as (λ b. (if b then ready else 162816) + 20480 ≤ 240000000) [ true ↦ omega (arith, l) | false ↦ omega arith ]

edges_few : (lines : List KeyLine) → length (edges_in lines) ≤ length lines
edges_few [] = omega arith
edges_few (Turned e p ∷ lines) = let few = edges_few lines in omega (arith, few)
edges_few (Unsent code ∷ lines) = let few = edges_few lines in omega (arith, few)

places_own : (layout : KeyLayout) (lines : List KeyLine) → AreLinesOf layout lines → All (λ (x : Edge). IsPlaceOf layout x.place) (edges_in lines)
places_own layout [] own = All-nil _
places_own layout (Turned e p ∷ lines) own =
    All-cons (λ (x : Edge). IsPlaceOf layout x.place) _ (edges_in lines)
    (subst (IsPlaceOf layout) (sym own.0.1) own.0.0.is_place) (places_own layout lines own.1)
places_own layout (Unsent code ∷ lines) own = places_own layout lines own.1

module _ (layout : KeyLayout) (k : Keys) (s : IsSound layout k) where
  abbrev End : ℕ
  End = end_of k

  early : End ≤ 240000000
  early = end_range k.queue.ready s.soon

  before_end : All (λ (x : Edge). x.stamp ≤ End) (edges_in k.lines)
  before_end =
      let later = due_later k.queue.ready 162816 in
      All-weaker (λ (x : Edge). x.stamp ≤ k.queue.ready) (λ (x : Edge). x.stamp ≤ End) (λ x l. omega (arith, l, later)) (edges_in k.lines) s.before

  spaced : AreSpaced layout.debounce 0 (edges_in k.lines)
  spaced = subst (AreSpaced layout.debounce 0) (sym s.edges) (are_lawful layout.debounce s.calls End s.placed).0

  lawful : IsLawful (history_of_keys k)
  lawful =
      subst (λ es. IsLawful (record { edges = es; host = []; end = End })) (sym s.edges)
      (are_lawful layout.debounce s.calls End s.placed).1

  accepted : IsAccepted (history_of_keys k)
  accepted = record {
    lawful = lawful;
    edges_before_end = before_end;
    host_before_end = All-nil _;
    end_in_range = early;
    number_in_range = let few = edges_few k.lines in let most = s.few in omega (arith, few, most);
  }

  -- the text of sound keys is a key file: it is read as their history, which is accepted, and a queue hands its edges over
  pub sound_plays : Plays layout (history_of_keys k) (key_text k)
  sound_plays =
      let rest = rest_text k ++ end_line End in
      let short : End < 1000000000 = let l = early in omega (arith, l) in
      let same : key_text k ≡ lines_text k.lines ++ rest = append_assoc (lines_text k.lines) (rest_text k) (end_line End) in
      let most = s.few in
      record {
        within =
            omega (
              arith,
              most,
              ap (λ (t : List ℕ). length t) same,
              length-append (lines_text k.lines) rest,
              lines_size layout k.lines End s.lines short before_end,
              rest_size k End short,
            );
        read =
            reads-described layout (key_text k) (history_of_keys k) accepted
            (tells-describes layout (history_of_keys k) (key_text k)
            (subst (Tells layout End 0 (edges_in k.lines) []) (sym same)
            (lines_tell layout End layout.debounce 0 0 k.lines rest short (λ last l. rest_tells layout End k last l short)
            (omega arith) (omega arith) s.lines spaced before_end)));
        accepted = record { accepted = accepted; places = places_own layout k.lines s.lines };
        spaced = spaced;
        queued = record { calls = s.calls; placed = s.placed; handed_over = s.edges };
      }

-- the keys of any dump are sound
pub keys_sound : (layout : KeyLayout) (clk dat dump : List ℕ) → IsKeyLayout layout → IsSound layout (keys_of layout clk dat dump)
unfolding keys_of
keys_sound layout clk dat dump is =
    followed_sound layout is (found_by nothing_heard (reads_of clk dat dump).samples) before_all (start_sound layout)

-- the text of the keys of any dump is a key file of their history
pub keys_play : (layout : KeyLayout) (clk dat dump : List ℕ) → IsKeyLayout layout
    → Plays layout (history_of_keys (keys_of layout clk dat dump)) (key_text (keys_of layout clk dat dump))
keys_play layout clk dat dump is = sound_plays layout (keys_of layout clk dat dump) (keys_sound layout clk dat dump is)
