-- A stroke under shift, from rest to rest, on a layout with a debounce: its edges are taken a tick later.
use Rattle.std.proofs.Common.{◌≡◌, ℕ, suc, ◌+◌, ◌-◌, ◌*◌, ◌<◌, ◌≤◌, ◌≢◌, Bool, true, false, ◌==◌, List, []}
use Rattle.std.proofs.Common.{◌∷◌, ◌++◌, length, append-nil, Some, None, refl, sym, ◌∙◌, subst, arith}
use Rattle.std.specs.Prelude.{slice_get, slice_index_or, if◌then◌else◌}
use Rattle.std.specs.declared.option.Option.{Option}
use Rattle.std.proofs.lemmas.List.{get_or-set_same, get_or-set_other, length-set}
use Rattle.bits.specs.Bits.{with_bit}
use Rattle.pc_tables.specs.declared.item.Item.TheVariants.{Port, Word}
use Rattle.int09.specs.Bios.{start}
use Rattle.board_terms.specs.Matrix.{all_up, turned}
use Rattle.layout_reader.specs.declared.entry.Entry.{Entry}
use Rattle.layout_reader.specs.Layouts.{KeyLayout}
use Rattle.model_keyboard.specs.declared.state.Repeat.{Repeat}
use Rattle.model_keyboard.specs.Codes.{keys_of}
use Rattle.model_keyboard.specs.Typematic.{delay}
use Rattle.model_keyboard.specs.Tick.{ended_at}
use Rattle.key_file.specs.Histories.{KeyHistory}
use Rattle.law_quiet_log.proofs.Calm.{Pc}
use Rattle.law_typed_log.specs.Typing.{Stroke, Shifted, stroke_start, presses, releases, edges_from, takes_from}
use Rattle.law_typed_log.proofs.Struck.{AllFit}
use Rattle.law_typed_log.proofs.Tables.{under_shift_key, with_word}
use Rattle.law_typed_log.proofs.Keying.{pressed_at, struck, up_at_first, up_beside, delay_long}
use Rattle.law_typed_log.proofs.Settling.{takes_none, takes_one, takes_nothing}
use Rattle.law_typed_log.proofs.Turns.{Line, IsKeyAt, Moves, nothing, prefix, code_passes, no_edges, press_moves, silent_moves, break_moves}
use Rattle.law_typed_log.proofs.Turns.{turn_by, taking_by}
use Rattle.law_typed_log.proofs.Resting.{line, not_one, Pends, Rest, idle, none_then, one_then, rests}
use Rattle.law_typed_log.proofs.PlainStroke.{waiting, ended_self, ends_at_rest}
use Rattle.law_typed_log.proofs.ShiftedStroke.{AreShifted}

module _ (layout : KeyLayout) (h : KeyHistory) (ss : List Stroke) (edges : h.edges ≡ edges_from 0 ss)
    (host : h.host ≡ takes_from 0 ss) (fit : AllFit layout.entries ss) (on : layout.debounce ≡ true) (m : ℕ)
    (shift key : Entry) (is : slice_get ss m ≡ Some (Shifted shift key)) (below : m < length ss) (left : Bool)
    (code scan code' scan' w : ℕ) (only : Bool) (k : IsKeyAt layout key.place code only)
    (k' : IsKeyAt layout shift.place code' false) (apart : key.place ≢ shift.place)
    (f : AreShifted left code scan code' scan' w) (words : List (Option ℕ)) where
  abbrev At' : List (ℕ × Bool) → ℕ → Line → Option Repeat → List Bool → List (Option ℕ) → Type 0
  At' = Pends layout h ss edges host fit

  abbrev d : ℕ
  d = delay layout.rate

  abbrev shift_down : List Bool
  shift_down = turned shift.place true all_up

  abbrev both_down : List Bool
  both_down = turned key.place true shift_down

  abbrev sent : ℕ → ℕ → ℕ
  sent c last = if c == 0xfe then last else c

  abbrev shift_press : List (ℕ × Bool)
  shift_press = (shift.place, true) ∷ []

  abbrev press : List (ℕ × Bool)
  press = (key.place, true) ∷ []

  abbrev release : List (ℕ × Bool)
  release = (key.place, false) ∷ []

  abbrev shift_release : List (ℕ × Bool)
  shift_release = (shift.place, false) ∷ []

  all_long : length all_up ≡ 96
  all_long = refl

  shift_long : length shift_down ≡ 96
  shift_long = length-set all_up shift.place true ∙ all_long

  both_long : length both_down ≡ 96
  both_long = length-set shift_down key.place true ∙ shift_long

  other : shift.place ≢ key.place
  other = λ e. apart (sym e)

  shift_is : slice_index_or shift_down shift.place false ≡ true
  shift_is = get_or-set_same all_up shift.place true false (omega (arith, all_long, k'.in_matrix))

  shift_still : slice_index_or both_down shift.place false ≡ true
  shift_still = get_or-set_other shift_down key.place shift.place true false other ∙ shift_is

  key_was : slice_index_or shift_down key.place false ≡ false
  key_was = up_beside key.place shift.place k.in_matrix apart

  key_is : slice_index_or both_down key.place false ≡ true
  key_is = get_or-set_same shift_down key.place true false (omega (arith, shift_long, k.in_matrix))

  key_still : slice_index_or (turned shift.place false shift_down) key.place false ≡ false
  key_still = get_or-set_other shift_down shift.place key.place false false apart ∙ key_was

  -- shift goes down, then the key; a tick later each code enters; both are sent and the word entered
  go_down : (last out : ℕ) → At' [] (80 + 10 * m) (line last [] false false out start m) None all_up words
      → At' [] (suc (suc (suc (suc (80 + 10 * m)))))
      (line (sent code (sent code' last)) [] false false scan (with_word left w) m)
      (waiting key.place (d - 1)) both_down words
  go_down last out r =
      let n : ℕ = 80 + 10 * m in
      let long : 49 ≤ d = delay_long layout.rate in
      let q : Pc = record { mark = false; out = out; bios = start; done = m } in
      let l : Line = line last [] false false out start m in
      let r1 : At' shift_press (suc n) l None all_up words =
      turn_by layout h ss host n l l words [] [] shift_press [] shift_press None None all_up all_up [] r
      (one_then layout h ss edges host fit m (Shifted shift key) is n 0 (presses shift (stroke_start m)) (omega arith)
      (omega arith) k'.in_matrix refl)
      (takes_none layout.debounce shift_press all_up on)
      tt (nothing (keys_of layout) layout.rate last false q) (no_edges layout [] None all_up)
      (omega arith) tt words (append-nil words) in
      let r2 : At' press (suc (suc n)) (line last (code' ∷ []) false false out start m) (waiting shift.place d) shift_down
      words =
      turn_by layout h ss host (suc n) l l words [] shift_press press shift_press press None
      (pressed_at layout.rate shift.place) all_up shift_down (code' ∷ []) r1
      (one_then layout h ss edges host fit m (Shifted shift key) is (suc n) 1 (presses key (stroke_start m + 2048))
      (omega arith) (omega arith) k.in_matrix refl)
      (takes_one layout.debounce shift.place true press all_up shift_down on all_long k'.in_matrix
      (up_at_first shift.place k'.in_matrix) refl shift_still)
      tt (nothing (keys_of layout) layout.rate last false q)
      (press_moves layout shift.place code' [] None all_up false k' refl)
      (omega arith) tt words (append-nil words) in
      let r3 : At' [] (suc (suc (suc n))) (line (sent code' last) (code ∷ []) false false scan' (under_shift_key left) m)
      (waiting key.place d) both_down words =
      turn_by layout h ss host (suc (suc n)) (line last (code' ∷ []) false false out start m)
      (line (sent code' last) [] false false scan' (under_shift_key left) m) words (Port scan' ∷ []) press [] press []
      (waiting shift.place d) (pressed_at layout.rate key.place) shift_down both_down (code ∷ []) r2
      (none_then layout h ss edges host fit m (Shifted shift key) is (suc (suc n)) 2 (omega arith) (omega arith) refl)
      (takes_one layout.debounce key.place true [] shift_down both_down on shift_long k.in_matrix key_was refl key_is)
      (not_one d (omega (arith, long)))
      (code_passes (keys_of layout) layout.rate last code' scan' f.no_prefix' f.scan_is' [] false out m start
      (under_shift_key left) [] f.makes')
      (press_moves layout key.place code [] (waiting shift.place (d - 1)) shift_down only k refl)
      (omega arith) (refl, tt) words (append-nil words) in
      turn_by layout h ss host (suc (suc (suc n)))
      (line (sent code' last) (code ∷ []) false false scan' (under_shift_key left) m)
      (line (sent code (sent code' last)) [] false false scan (with_word left w) m) words (Port scan ∷ Word w ∷ [])
      [] [] [] [] (waiting key.place d) (waiting key.place (d - 1)) both_down both_down [] r3
      (none_then layout h ss edges host fit m (Shifted shift key) is (suc (suc (suc n))) 3 (omega arith) (omega arith) refl)
      (takes_nothing layout.debounce both_down)
      (not_one d (omega (arith, long)))
      (code_passes (keys_of layout) layout.rate (sent code' last) code scan f.no_prefix f.scan_is [] false scan' m
      (under_shift_key left) (with_word left w) (Word w ∷ []) f.makes)
      (no_edges layout [] (waiting key.place (d - 1)) both_down)
      (omega arith) (refl, (refl, tt)) words (append-nil words)

  -- the key's release is read, and taken as shift's is read
  key_up : (last : ℕ) (bytes : List ℕ)
      → Moves layout release [] (waiting key.place (d - 1 - 1 - 1)) both_down bytes
      (ended_at key.place (waiting key.place (d - 1 - 1 - 1))) (turned key.place false both_down)
      → At' [] (suc (suc (suc (suc (80 + 10 * m))))) (line last [] false false scan (with_word left w) m)
      (waiting key.place (d - 1)) both_down words
      → At' shift_release (suc (suc (suc (suc (suc (suc (80 + 10 * m)))))))
      (line last bytes false false scan (with_word left w) m) None shift_down words
  key_up last bytes mv r =
      let n : ℕ = suc (suc (suc (suc (80 + 10 * m)))) in
      let long : 49 ≤ d = delay_long layout.rate in
      let q : Pc = record { mark = false; out = scan; bios = with_word left w; done = m } in
      let l : Line = line last [] false false scan (with_word left w) m in
      let r5 : At' release (suc n) l (waiting key.place (d - 1 - 1)) both_down words =
      turn_by layout h ss host n l l words [] [] release [] release (waiting key.place (d - 1))
      (waiting key.place (d - 1 - 1)) both_down both_down [] r
      (one_then layout h ss edges host fit m (Shifted shift key) is n 4 (releases key (stroke_start m + 8192))
      (omega arith) (omega arith) k.in_matrix refl)
      (takes_none layout.debounce release both_down on)
      (not_one (d - 1) (omega (arith, long))) (nothing (keys_of layout) layout.rate last false q)
      (no_edges layout [] (waiting key.place (d - 1 - 1)) both_down)
      (omega arith) tt words (append-nil words) in
      turn_by layout h ss host (suc n) l l words [] release shift_release release shift_release
      (waiting key.place (d - 1 - 1)) None both_down shift_down bytes r5
      (one_then layout h ss edges host fit m (Shifted shift key) is (suc n) 5 (releases shift (stroke_start m + 10240))
      (omega arith) (omega arith) k'.in_matrix refl)
      (takes_one layout.debounce key.place false shift_release both_down shift_down on both_long k.in_matrix key_is
      (struck shift_down key.place key_was) key_still)
      (not_one (d - 1 - 1) (omega (arith, long)))
      (nothing (keys_of layout) layout.rate last false q)
      (ends_at_rest layout release [] bytes (waiting key.place (d - 1 - 1 - 1))
      (ended_at key.place (waiting key.place (d - 1 - 1 - 1))) both_down (turned key.place false both_down) shift_down
      (ended_self key.place (d - 1 - 1 - 1)) (struck shift_down key.place key_was) mv)
      (omega arith) tt words (append-nil words)

  -- what shift's release does to a queue
  shift_up : (bytes : List ℕ) → Moves layout shift_release bytes None shift_down (bytes ++ 0xf0 ∷ code' ∷ []) None
      (turned shift.place false shift_down)
      → Moves layout shift_release bytes None shift_down (bytes ++ 0xf0 ∷ code' ∷ []) None all_up
  shift_up bytes mv =
      subst (λ v. Moves layout shift_release bytes None shift_down (bytes ++ 0xf0 ∷ code' ∷ []) None v)
      (struck all_up shift.place (up_at_first shift.place k'.in_matrix)) mv

  -- the key sends no break: shift's enters as the word is taken
  silently : (last : ℕ) → IsKeyAt layout key.place code true
      → At' [] (suc (suc (suc (suc (80 + 10 * m))))) (line last [] false false scan (with_word left w) m)
      (waiting key.place (d - 1)) both_down words
      → Rest layout h ss edges host fit (suc m) (words ++ Some w ∷ [])
  silently last k0 r =
      let n : ℕ = suc (suc (suc (suc (suc (suc (80 + 10 * m)))))) in
      let q : Pc = record { mark = false; out = scan; bios = with_word left w; done = m } in
      let more : List (Option ℕ) = words ++ Some w ∷ [] in
      let l : Line = line last [] false false scan (with_word left w) m in
      let r6 : At' shift_release n l None shift_down words =
      key_up last [] (silent_moves layout key.place code [] (waiting key.place (d - 1 - 1 - 1)) both_down k0) r in
      let r7 : At' [] (suc n) (line last (0xf0 ∷ code' ∷ []) false false scan (under_shift_key left) (m + 1)) None all_up
      more =
      taking_by layout h ss host n l l words [] shift_release [] shift_release [] None None shift_down all_up
      (0xf0 ∷ code' ∷ []) r6
      (none_then layout h ss edges host fit m (Shifted shift key) is n 6 (omega arith) (omega arith) refl)
      (takes_one layout.debounce shift.place false [] shift_down all_up on shift_long k'.in_matrix shift_is
      (struck all_up shift.place (up_at_first shift.place k'.in_matrix)) (up_at_first shift.place k'.in_matrix))
      tt (nothing (keys_of layout) layout.rate last false q)
      (shift_up [] (break_moves layout shift.place code' [] None shift_down k' refl))
      (omega arith) below (refl, tt) more refl in
      let r8 : At' [] (suc (suc n)) (line 0xf0 (code' ∷ []) true true scan (under_shift_key left) (m + 1)) None all_up
      more =
      turn_by layout h ss host (suc n) (line last (0xf0 ∷ code' ∷ []) false false scan (under_shift_key left) (m + 1))
      (line 0xf0 (code' ∷ []) true true scan (under_shift_key left) (m + 1)) more [] [] [] [] [] None None all_up all_up
      (code' ∷ []) r7
      (none_then layout h ss edges host fit m (Shifted shift key) is (suc n) 7 (omega arith) (omega arith) refl)
      (takes_nothing layout.debounce all_up)
      tt (prefix (keys_of layout) layout.rate last (code' ∷ []) scan (m + 1) (under_shift_key left))
      (no_edges layout (code' ∷ []) None all_up) (omega arith) tt more (append-nil more) in
      let r9 : At' [] (suc (suc (suc n))) (line (sent code' 0xf0) [] false false (with_bit 0x80 scan') start (m + 1))
      None all_up more =
      turn_by layout h ss host (suc (suc n)) (line 0xf0 (code' ∷ []) true true scan (under_shift_key left) (m + 1))
      (line (sent code' 0xf0) [] false false (with_bit 0x80 scan') start (m + 1)) more
      (Port (with_bit 0x80 scan') ∷ []) [] [] [] [] None None all_up all_up [] r8
      (none_then layout h ss edges host fit m (Shifted shift key) is (suc (suc n)) 8 (omega arith) (omega arith) refl)
      (takes_nothing layout.debounce all_up)
      tt
      (code_passes (keys_of layout) layout.rate 0xf0 code' scan' f.no_prefix' f.scan_is' [] true scan (m + 1)
      (under_shift_key left) start [] f.breaks')
      (no_edges layout [] None all_up) (omega arith) (refl, tt) more (append-nil more) in
      rests layout h ss edges host fit (suc (suc (suc (suc n)))) m (sent code' 0xf0) (with_bit 0x80 scan') more (omega arith)
      (idle layout h ss edges host fit (suc (suc (suc n))) (sent code' 0xf0) (with_bit 0x80 scan') (m + 1) start
      None all_up more r9
      (none_then layout h ss edges host fit m (Shifted shift key) is (suc (suc (suc n))) 9 (omega arith)
      (omega arith) refl)
      tt (omega arith))

  -- the key's break is sent before shift's, and begins as the word is taken
  with_break : (last : ℕ) → IsKeyAt layout key.place code false
      → At' [] (suc (suc (suc (suc (80 + 10 * m))))) (line last [] false false scan (with_word left w) m)
      (waiting key.place (d - 1)) both_down words
      → Rest layout h ss edges host fit (suc m) (words ++ Some w ∷ [])
  with_break last k0 r =
      let n : ℕ = suc (suc (suc (suc (suc (suc (80 + 10 * m)))))) in
      let more : List (Option ℕ) = words ++ Some w ∷ [] in
      let out : ℕ = with_bit 0x80 scan in
      let r6 : At' shift_release n (line last (0xf0 ∷ code ∷ []) false false scan (with_word left w) m) None shift_down
      words =
      key_up last (0xf0 ∷ code ∷ [])
      (break_moves layout key.place code [] (waiting key.place (d - 1 - 1 - 1)) both_down k0 refl) r in
      let r7 : At' [] (suc n) (line 0xf0 (code ∷ 0xf0 ∷ code' ∷ []) true true scan (under_shift_key left) (m + 1)) None
      all_up more =
      taking_by layout h ss host n (line last (0xf0 ∷ code ∷ []) false false scan (with_word left w) m)
      (line 0xf0 (code ∷ []) true true scan (with_word left w) m) words [] shift_release [] shift_release [] None None
      shift_down all_up (code ∷ 0xf0 ∷ code' ∷ []) r6
      (none_then layout h ss edges host fit m (Shifted shift key) is n 6 (omega arith) (omega arith) refl)
      (takes_one layout.debounce shift.place false [] shift_down all_up on shift_long k'.in_matrix shift_is
      (struck all_up shift.place (up_at_first shift.place k'.in_matrix)) (up_at_first shift.place k'.in_matrix))
      tt (prefix (keys_of layout) layout.rate last (code ∷ []) scan m (with_word left w))
      (shift_up (code ∷ []) (break_moves layout shift.place code' (code ∷ []) None shift_down k' refl))
      (omega arith) below (refl, tt) more refl in
      let r8 : At' [] (suc (suc n)) (line (sent code 0xf0) (0xf0 ∷ code' ∷ []) false false out (under_shift_key left) (m + 1))
      None all_up more =
      turn_by layout h ss host (suc n)
      (line 0xf0 (code ∷ 0xf0 ∷ code' ∷ []) true true scan (under_shift_key left) (m + 1))
      (line (sent code 0xf0) (0xf0 ∷ code' ∷ []) false false out (under_shift_key left) (m + 1)) more (Port out ∷ [])
      [] [] [] [] None None all_up all_up (0xf0 ∷ code' ∷ []) r7
      (none_then layout h ss edges host fit m (Shifted shift key) is (suc n) 7 (omega arith) (omega arith) refl)
      (takes_nothing layout.debounce all_up)
      tt
      (code_passes (keys_of layout) layout.rate 0xf0 code scan f.no_prefix f.scan_is (0xf0 ∷ code' ∷ []) true scan (m + 1)
      (under_shift_key left) (under_shift_key left) [] f.ends)
      (no_edges layout (0xf0 ∷ code' ∷ []) None all_up) (omega arith) (refl, tt) more (append-nil more) in
      let r9 : At' [] (suc (suc (suc n))) (line 0xf0 (code' ∷ []) true true out (under_shift_key left) (m + 1)) None
      all_up more =
      turn_by layout h ss host (suc (suc n))
      (line (sent code 0xf0) (0xf0 ∷ code' ∷ []) false false out (under_shift_key left) (m + 1))
      (line 0xf0 (code' ∷ []) true true out (under_shift_key left) (m + 1)) more [] [] [] [] [] None None all_up all_up
      (code' ∷ []) r8
      (none_then layout h ss edges host fit m (Shifted shift key) is (suc (suc n)) 8 (omega arith) (omega arith) refl)
      (takes_nothing layout.debounce all_up)
      tt (prefix (keys_of layout) layout.rate (sent code 0xf0) (code' ∷ []) out (m + 1) (under_shift_key left))
      (no_edges layout (code' ∷ []) None all_up) (omega arith) tt more (append-nil more) in
      rests layout h ss edges host fit (suc (suc (suc (suc n)))) m (sent code' 0xf0) (with_bit 0x80 scan') more (omega arith)
      (turn_by layout h ss host (suc (suc (suc n))) (line 0xf0 (code' ∷ []) true true out (under_shift_key left) (m + 1))
      (line (sent code' 0xf0) [] false false (with_bit 0x80 scan') start (m + 1)) more
      (Port (with_bit 0x80 scan') ∷ []) [] [] [] [] None None all_up all_up [] r9
      (none_then layout h ss edges host fit m (Shifted shift key) is (suc (suc (suc n))) 9 (omega arith)
      (omega arith) refl)
      (takes_nothing layout.debounce all_up)
      tt
      (code_passes (keys_of layout) layout.rate 0xf0 code' scan' f.no_prefix' f.scan_is' [] true out (m + 1)
      (under_shift_key left) start [] f.breaks')
      (no_edges layout [] None all_up) (omega arith) (refl, tt) more (append-nil more))

  -- with a debounce a stroke under shift leads from rest to rest, and its word is taken
  pub shifted_settled : Rest layout h ss edges host fit m words
      → Rest layout h ss edges host fit (suc m) (words ++ Some w ∷ [])
  shifted_settled r =
      let r4 : At' [] (suc (suc (suc (suc (80 + 10 * m)))))
      (line (sent code (sent code' r.last)) [] false false scan (with_word left w) m)
      (waiting key.place (d - 1)) both_down words = go_down r.last r.out r.is in
      elim only as (λ b. only ≡ b → Rest layout h ss edges host fit (suc m) (words ++ Some w ∷ [])) [
        | true ↦ λ e. silently (sent code (sent code' r.last)) (subst (λ b. IsKeyAt layout key.place code b) e k) r4
        | false ↦ λ e. with_break (sent code (sent code' r.last)) (subst (λ b. IsKeyAt layout key.place code b) e k) r4
      ] refl
