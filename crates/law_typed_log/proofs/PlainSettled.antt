-- A stroke without shift, from rest to rest, on a layout with a debounce: its edges are taken a tick later.
use Rattle.std.proofs.Common.{◌≡◌, ℕ, suc, ◌+◌, ◌-◌, ◌*◌, ◌<◌, ◌≤◌, Bool, true, false, ◌==◌, List, [], ◌∷◌}
use Rattle.std.proofs.Common.{◌++◌, length, append-nil, Some, None, refl, ◌∙◌, subst, arith}
use Rattle.std.specs.Prelude.{slice_get, slice_index_or, if◌then◌else◌}
use Rattle.std.specs.declared.option.Option.{Option}
use Rattle.std.proofs.lemmas.List.{get_or-set_same, length-set}
use Rattle.bits.specs.Bits.{with_bit}
use Rattle.pc_tables.specs.declared.item.Item.TheVariants.{Port, Word}
use Rattle.int09.specs.Bios.{State, start}
use Rattle.board_terms.specs.Matrix.{all_up, turned}
use Rattle.layout_reader.specs.declared.entry.Entry.{Entry}
use Rattle.layout_reader.specs.Layouts.{KeyLayout}
use Rattle.model_keyboard.specs.declared.state.Repeat.{Repeat}
use Rattle.model_keyboard.specs.Codes.{keys_of}
use Rattle.model_keyboard.specs.Typematic.{delay}
use Rattle.model_keyboard.specs.Tick.{ended_at}
use Rattle.key_file.specs.Histories.{KeyHistory}
use Rattle.law_quiet_log.proofs.Calm.{Pc}
use Rattle.law_typed_log.specs.Typing.{Stroke, Plain, stroke_start, presses, releases, edges_from, takes_from}
use Rattle.law_typed_log.proofs.Struck.{AllFit}
use Rattle.law_typed_log.proofs.Keying.{pressed_at, struck, up_at_first, delay_long}
use Rattle.law_typed_log.proofs.Settling.{takes_none, takes_one, takes_nothing}
use Rattle.law_typed_log.proofs.Turns.{Line, IsKeyAt, Moves, nothing, prefix, code_passes, no_edges, press_moves, silent_moves, break_moves}
use Rattle.law_typed_log.proofs.Turns.{turn_by, taking_by}
use Rattle.law_typed_log.proofs.Resting.{line, not_one, Pends, Rest, idle, none_then, one_then, rests}
use Rattle.law_typed_log.proofs.PlainStroke.{IsPlain, waiting, ended_self, ends_at_rest}

module _ (layout : KeyLayout) (h : KeyHistory) (ss : List Stroke) (edges : h.edges ≡ edges_from 0 ss)
    (host : h.host ≡ takes_from 0 ss) (fit : AllFit layout.entries ss) (on : layout.debounce ≡ true) (m : ℕ) (key : Entry)
    (is : slice_get ss m ≡ Some (Plain key)) (below : m < length ss) (code scan w : ℕ) (only : Bool)
    (k : IsKeyAt layout key.place code only) (f : IsPlain code scan w) (words : List (Option ℕ)) where
  abbrev At' : List (ℕ × Bool) → ℕ → Line → Option Repeat → List Bool → List (Option ℕ) → Type 0
  At' = Pends layout h ss edges host fit

  abbrev d : ℕ
  d = delay layout.rate

  abbrev down : List Bool
  down = turned key.place true all_up

  abbrev press : List (ℕ × Bool)
  press = (key.place, true) ∷ []

  abbrev release : List (ℕ × Bool)
  release = (key.place, false) ∷ []

  abbrev sent : ℕ → ℕ
  sent last = if code == 0xfe then last else code

  all_long : length all_up ≡ 96
  all_long = refl

  down_long : length down ≡ 96
  down_long = length-set all_up key.place true ∙ all_long

  is_down : slice_index_or down key.place false ≡ true
  is_down = get_or-set_same all_up key.place true false (omega (arith, all_long, k.in_matrix))

  -- the key goes down; a tick later its code enters, is sent and its word entered; it waits to repeat
  goes_down : (last out : ℕ) → At' [] (80 + 10 * m) (line last [] false false out start m) None all_up words
      → At' [] (suc (suc (suc (80 + 10 * m)))) (line (sent last) [] false false scan (record start { words = w ∷ [] }) m)
      (waiting key.place (d - 1)) down words
  goes_down last out r =
      let n : ℕ = 80 + 10 * m in
      let q : Pc = record { mark = false; out = out; bios = start; done = m } in
      let l : Line = line last [] false false out start m in
      let r1 : At' press (suc n) l None all_up words =
      turn_by layout h ss host n l l words [] [] press [] press None None all_up all_up [] r
      (one_then layout h ss edges host fit m (Plain key) is n 0 (presses key (stroke_start m)) (omega arith)
      (omega arith) k.in_matrix refl)
      (takes_none layout.debounce press all_up on)
      tt (nothing (keys_of layout) layout.rate last false q) (no_edges layout [] None all_up)
      (omega arith) tt words (append-nil words) in
      let r2 : At' [] (suc (suc n)) (line last (code ∷ []) false false out start m) (waiting key.place d) down words =
      turn_by layout h ss host (suc n) l l words [] press [] press [] None (pressed_at layout.rate key.place) all_up down
      (code ∷ []) r1
      (none_then layout h ss edges host fit m (Plain key) is (suc n) 1 (omega arith) (omega arith) refl)
      (takes_one layout.debounce key.place true [] all_up down on all_long k.in_matrix
      (up_at_first key.place k.in_matrix) refl is_down)
      tt (nothing (keys_of layout) layout.rate last false q)
      (press_moves layout key.place code [] None all_up only k refl)
      (omega arith) tt words (append-nil words) in
      turn_by layout h ss host (suc (suc n)) (line last (code ∷ []) false false out start m)
      (line (sent last) [] false false scan (record start { words = w ∷ [] }) m) words (Port scan ∷ Word w ∷ []) [] [] [] []
      (waiting key.place d) (waiting key.place (d - 1)) down down [] r2
      (none_then layout h ss edges host fit m (Plain key) is (suc (suc n)) 2 (omega arith) (omega arith) refl)
      (takes_nothing layout.debounce down)
      (not_one d (omega (arith, delay_long layout.rate)))
      (code_passes (keys_of layout) layout.rate last code scan f.no_prefix f.scan_is [] false out m start
      (record start { words = w ∷ [] }) (Word w ∷ []) f.makes)
      (no_edges layout [] (waiting key.place (d - 1)) down)
      (omega arith) (refl, (refl, tt)) words (append-nil words)

  -- so it does for two ticks, and in the next its release is read
  stays_down : (last out : ℕ) (bios : State)
      → At' [] (suc (suc (suc (80 + 10 * m)))) (line last [] false false out bios m) (waiting key.place (d - 1)) down words
      → At' release (suc (suc (suc (suc (suc (suc (80 + 10 * m))))))) (line last [] false false out bios m)
      (waiting key.place (d - 1 - 1 - 1 - 1)) down words
  stays_down last out bios r =
      let n : ℕ = suc (suc (suc (80 + 10 * m))) in
      let q : Pc = record { mark = false; out = out; bios = bios; done = m } in
      let l : Line = line last [] false false out bios m in
      let long : 49 ≤ d = delay_long layout.rate in
      let r4 : At' [] (suc n) l (waiting key.place (d - 1 - 1)) down words =
      idle layout h ss edges host fit n last out m bios (waiting key.place (d - 1)) down words r
      (none_then layout h ss edges host fit m (Plain key) is n 3 (omega arith) (omega arith) refl)
      (not_one (d - 1) (omega (arith, long))) (omega arith) in
      let r5 : At' [] (suc (suc n)) l (waiting key.place (d - 1 - 1 - 1)) down words =
      idle layout h ss edges host fit (suc n) last out m bios (waiting key.place (d - 1 - 1)) down words r4
      (none_then layout h ss edges host fit m (Plain key) is (suc n) 4 (omega arith) (omega arith) refl)
      (not_one (d - 1 - 1) (omega (arith, long))) (omega arith) in
      turn_by layout h ss host (suc (suc n)) l l words [] [] release [] release (waiting key.place (d - 1 - 1 - 1))
      (waiting key.place (d - 1 - 1 - 1 - 1)) down down [] r5
      (one_then layout h ss edges host fit m (Plain key) is (suc (suc n)) 5 (releases key (stroke_start m + 10240))
      (omega arith) (omega arith) k.in_matrix refl)
      (takes_none layout.debounce release down on)
      (not_one (d - 1 - 1 - 1) (omega (arith, long))) (nothing (keys_of layout) layout.rate last false q)
      (no_edges layout [] (waiting key.place (d - 1 - 1 - 1 - 1)) down)
      (omega arith) tt words (append-nil words)

  -- it goes up as the word is taken
  goes_up : (last out : ℕ) (bytes : List ℕ)
      → Moves layout release [] (waiting key.place (d - 1 - 1 - 1 - 1 - 1)) down bytes
      (ended_at key.place (waiting key.place (d - 1 - 1 - 1 - 1 - 1))) (turned key.place false down)
      → At' release (suc (suc (suc (suc (suc (suc (80 + 10 * m)))))))
      (line last [] false false out (record start { words = w ∷ [] }) m) (waiting key.place (d - 1 - 1 - 1 - 1)) down words
      → At' [] (suc (suc (suc (suc (suc (suc (suc (80 + 10 * m)))))))) (line last bytes false false out start (m + 1)) None
      all_up (words ++ Some w ∷ [])
  goes_up last out bytes mv r =
      let n : ℕ = suc (suc (suc (suc (suc (suc (80 + 10 * m)))))) in
      let bios : State = record start { words = w ∷ [] } in
      let rep : Option Repeat = waiting key.place (d - 1 - 1 - 1 - 1 - 1) in
      let q : Pc = record { mark = false; out = out; bios = bios; done = m } in
      let l : Line = line last [] false false out bios m in
      taking_by layout h ss host n l l words [] release [] release [] (waiting key.place (d - 1 - 1 - 1 - 1)) None down
      all_up bytes r
      (none_then layout h ss edges host fit m (Plain key) is n 6 (omega arith) (omega arith) refl)
      (takes_one layout.debounce key.place false [] down all_up on down_long k.in_matrix is_down
      (struck all_up key.place (up_at_first key.place k.in_matrix)) (up_at_first key.place k.in_matrix))
      (not_one (d - 1 - 1 - 1 - 1) (omega (arith, delay_long layout.rate)))
      (nothing (keys_of layout) layout.rate last false q)
      (ends_at_rest layout release [] bytes rep (ended_at key.place rep) down (turned key.place false down)
      all_up (ended_self key.place (d - 1 - 1 - 1 - 1 - 1))
      (struck all_up key.place (up_at_first key.place k.in_matrix)) mv)
      (omega arith) below (refl, tt) (words ++ Some w ∷ []) refl

  -- then nothing comes in the last ticks
  last_one : (last out : ℕ)
      → At' [] (suc (suc (suc (suc (suc (suc (suc (suc (suc (80 + 10 * m))))))))))
      (line last [] false false out start (m + 1)) None all_up (words ++ Some w ∷ [])
      → Rest layout h ss edges host fit (suc m) (words ++ Some w ∷ [])
  last_one last out r =
      let n : ℕ = suc (suc (suc (suc (suc (suc (suc (suc (suc (80 + 10 * m))))))))) in
      rests layout h ss edges host fit (suc n) m last out (words ++ Some w ∷ []) (omega arith)
      (idle layout h ss edges host fit n last out (m + 1) start None all_up (words ++ Some w ∷ []) r
      (none_then layout h ss edges host fit m (Plain key) is n 9 (omega arith) (omega arith) refl) tt (omega arith))

  silently : (last : ℕ) → IsKeyAt layout key.place code true
      → At' release (suc (suc (suc (suc (suc (suc (80 + 10 * m)))))))
      (line last [] false false scan (record start { words = w ∷ [] }) m) (waiting key.place (d - 1 - 1 - 1 - 1)) down words
      → Rest layout h ss edges host fit (suc m) (words ++ Some w ∷ [])
  silently last k' r =
      let n : ℕ = suc (suc (suc (suc (suc (suc (suc (80 + 10 * m))))))) in
      let more : List (Option ℕ) = words ++ Some w ∷ [] in
      let r7 : At' [] n (line last [] false false scan start (m + 1)) None all_up more =
      goes_up last scan []
      (silent_moves layout key.place code [] (waiting key.place (d - 1 - 1 - 1 - 1 - 1)) down k') r in
      let r8 : At' [] (suc n) (line last [] false false scan start (m + 1)) None all_up more =
      idle layout h ss edges host fit n last scan (m + 1) start None all_up more r7
      (none_then layout h ss edges host fit m (Plain key) is n 7 (omega arith) (omega arith) refl) tt (omega arith) in
      last_one last scan
      (idle layout h ss edges host fit (suc n) last scan (m + 1) start None all_up more r8
      (none_then layout h ss edges host fit m (Plain key) is (suc n) 8 (omega arith) (omega arith) refl) tt (omega arith))

  with_break : (last : ℕ) → IsKeyAt layout key.place code false
      → At' release (suc (suc (suc (suc (suc (suc (80 + 10 * m)))))))
      (line last [] false false scan (record start { words = w ∷ [] }) m) (waiting key.place (d - 1 - 1 - 1 - 1)) down words
      → Rest layout h ss edges host fit (suc m) (words ++ Some w ∷ [])
  with_break last k' r =
      let n : ℕ = suc (suc (suc (suc (suc (suc (suc (80 + 10 * m))))))) in
      let more : List (Option ℕ) = words ++ Some w ∷ [] in
      let r7 : At' [] n (line last (0xf0 ∷ code ∷ []) false false scan start (m + 1)) None all_up more =
      goes_up last scan (0xf0 ∷ code ∷ [])
      (break_moves layout key.place code [] (waiting key.place (d - 1 - 1 - 1 - 1 - 1)) down k' refl) r in
      let r8 : At' [] (suc n) (line 0xf0 (code ∷ []) true true scan start (m + 1)) None all_up more =
      turn_by layout h ss host n (line last (0xf0 ∷ code ∷ []) false false scan start (m + 1))
      (line 0xf0 (code ∷ []) true true scan start (m + 1)) more [] [] [] [] [] None None all_up all_up (code ∷ []) r7
      (none_then layout h ss edges host fit m (Plain key) is n 7 (omega arith) (omega arith) refl)
      (takes_nothing layout.debounce all_up)
      tt (prefix (keys_of layout) layout.rate last (code ∷ []) scan (m + 1) start) (no_edges layout (code ∷ []) None all_up)
      (omega arith) tt more (append-nil more) in
      last_one (sent 0xf0) (with_bit 0x80 scan)
      (turn_by layout h ss host (suc n) (line 0xf0 (code ∷ []) true true scan start (m + 1))
      (line (sent 0xf0) [] false false (with_bit 0x80 scan) start (m + 1)) more
      (Port (with_bit 0x80 scan) ∷ []) [] [] [] [] None None all_up all_up [] r8
      (none_then layout h ss edges host fit m (Plain key) is (suc n) 8 (omega arith) (omega arith) refl)
      (takes_nothing layout.debounce all_up)
      tt
      (code_passes (keys_of layout) layout.rate 0xf0 code scan f.no_prefix f.scan_is [] true scan (m + 1) start
      start [] f.breaks)
      (no_edges layout [] None all_up) (omega arith) (refl, tt) more (append-nil more))

  -- with a debounce a plain stroke leads from rest to rest, and its word is taken
  pub plain_settled : Rest layout h ss edges host fit m words
      → Rest layout h ss edges host fit (suc m) (words ++ Some w ∷ [])
  plain_settled r =
      let r6 : At' release (suc (suc (suc (suc (suc (suc (80 + 10 * m)))))))
      (line (sent r.last) [] false false scan (record start { words = w ∷ [] }) m)
      (waiting key.place (d - 1 - 1 - 1 - 1)) down words =
      stays_down (sent r.last) scan (record start { words = w ∷ [] }) (goes_down r.last r.out r.is) in
      elim only as (λ b. only ≡ b → Rest layout h ss edges host fit (suc m) (words ++ Some w ∷ [])) [
        | true ↦ λ e. silently (sent r.last) (subst (λ b. IsKeyAt layout key.place code b) e k) r6
        | false ↦ λ e. with_break (sent r.last) (subst (λ b. IsKeyAt layout key.place code b) e k) r6
      ] refl
