-- A stroke under shift, from rest to rest, on a layout without a debounce.
use Rattle.std.proofs.Common.{◌≡◌, ℕ, suc, ◌+◌, ◌-◌, ◌*◌, ◌<◌, ◌≤◌, ◌≢◌, Bool, true, false, ◌==◌, List, []}
use Rattle.std.proofs.Common.{◌∷◌, ◌++◌, length, append-nil, Some, None, refl, subst, arith}
use Rattle.std.specs.Prelude.{slice_get, if◌then◌else◌}
use Rattle.std.specs.declared.option.Option.{Option}
use Rattle.bits.specs.Bits.{with_bit}
use Rattle.pc_tables.specs.declared.item.Item.TheVariants.{Port, Word}
use Rattle.int09.specs.Bios.{start, quiet}
use Rattle.int09.specs.Rules.{fed}
use Rattle.ctl_core.specs.ScanCodes.{translated}
use Rattle.board_terms.specs.Matrix.{all_up, turned}
use Rattle.layout_reader.specs.declared.entry.Entry.{Entry}
use Rattle.layout_reader.specs.Layouts.{KeyLayout}
use Rattle.model_keyboard.specs.declared.state.Repeat.{Repeat}
use Rattle.model_keyboard.specs.Codes.{keys_of}
use Rattle.model_keyboard.specs.Typematic.{delay}
use Rattle.model_keyboard.specs.Tick.{ended_at}
use Rattle.key_file.specs.Histories.{KeyHistory}
use Rattle.law_quiet_log.proofs.Calm.{Pc}
use Rattle.law_typed_log.specs.Typing.{Stroke, Shifted, stroke_start, presses, releases, edges_from, takes_from}
use Rattle.law_typed_log.proofs.Struck.{AllFit}
use Rattle.law_typed_log.proofs.Tables.{entered, under_shift_key, with_word}
use Rattle.law_typed_log.proofs.Keying.{pressed_at, struck, up_at_first, up_beside, delay_long}
use Rattle.law_typed_log.proofs.Turns.{Line, IsKeyAt, Moves, nothing, prefix, code_passes, no_edges, press_moves, silent_moves, break_moves}
use Rattle.law_typed_log.proofs.Turns.{turn, taking_turn}
use Rattle.law_typed_log.proofs.Resting.{line, not_one, At, Rest, idle, none_then, one_then, rests}
use Rattle.law_typed_log.proofs.PlainStroke.{waiting, ended_self, ends_at_rest}

-- the two keys' codes and scan codes, and what INT 09h makes of them
pub record AreShifted (left : Bool) (code scan code' scan' w : ℕ) : Type 0 where
  pub no_prefix : (code == 0xf0) ≡ false
  pub scan_is : translated code ≡ Some scan
  pub no_prefix' : (code' == 0xf0) ≡ false
  pub scan_is' : translated code' ≡ Some scan'
  pub makes' : fed scan' start ≡ quiet (under_shift_key left)
  pub makes : fed scan (under_shift_key left) ≡ entered w (under_shift_key left)
  pub breaks : fed (with_bit 0x80 scan) (with_word left w) ≡ quiet (with_word left w)
  pub ends : fed (with_bit 0x80 scan) (under_shift_key left) ≡ quiet (under_shift_key left)
  pub breaks' : fed (with_bit 0x80 scan') (under_shift_key left) ≡ quiet start

module _ (layout : KeyLayout) (h : KeyHistory) (ss : List Stroke) (edges : h.edges ≡ edges_from 0 ss)
    (host : h.host ≡ takes_from 0 ss) (fit : AllFit layout.entries ss)
    (off : layout.debounce ≡ false) (m : ℕ) (shift key : Entry)
    (is : slice_get ss m ≡ Some (Shifted shift key)) (below : m < length ss) (left : Bool) (code scan code' scan' w : ℕ)
    (only : Bool) (k : IsKeyAt layout key.place code only) (k' : IsKeyAt layout shift.place code' false)
    (apart : key.place ≢ shift.place) (f : AreShifted left code scan code' scan' w) (words : List (Option ℕ)) where
  abbrev At' : ℕ → Line → Option Repeat → List Bool → List (Option ℕ) → Type 0
  At' = At layout h ss edges host fit

  abbrev d : ℕ
  d = delay layout.rate

  abbrev shift_down : List Bool
  shift_down = turned shift.place true all_up

  abbrev both_down : List Bool
  both_down = turned key.place true shift_down

  abbrev sent : ℕ → ℕ → ℕ
  sent c last = if c == 0xfe then last else c

  -- shift goes down, then the key; both codes are sent and the word entered
  go_down : (last out : ℕ) → At' (80 + 10 * m) (line last [] false false out start m) None all_up words
      → At' (suc (suc (suc (80 + 10 * m))))
      (line (sent code (sent code' last)) [] false false scan (with_word left w) m)
      (waiting key.place (d - 1)) both_down words
  go_down last out r =
      let n : ℕ = 80 + 10 * m in
      let long : 49 ≤ d = delay_long layout.rate in
      let q : Pc = record { mark = false; out = out; bios = start; done = m } in
      let r1 : At' (suc n) (line last (code' ∷ []) false false out start m) (waiting shift.place d) shift_down words =
      turn layout h ss host off n (line last [] false false out start m) (line last [] false false out start m) words []
      ((shift.place, true) ∷ []) None (pressed_at layout.rate shift.place) all_up shift_down (code' ∷ []) r
      (one_then layout h ss edges host fit m (Shifted shift key) is n 0 (presses shift (stroke_start m)) (omega arith)
      (omega arith) k'.in_matrix refl)
      tt (nothing (keys_of layout) layout.rate last false q)
      (press_moves layout shift.place code' [] None all_up false k' refl)
      (omega arith) tt words (append-nil words) in
      let r2 : At' (suc (suc n)) (line (sent code' last) (code ∷ []) false false scan' (under_shift_key left) m)
      (waiting key.place d) both_down words =
      turn layout h ss host off (suc n) (line last (code' ∷ []) false false out start m)
      (line (sent code' last) [] false false scan' (under_shift_key left) m) words (Port scan' ∷ [])
      ((key.place, true) ∷ []) (waiting shift.place d) (pressed_at layout.rate key.place) shift_down both_down
      (code ∷ []) r1
      (one_then layout h ss edges host fit m (Shifted shift key) is (suc n) 1 (presses key (stroke_start m + 2048))
      (omega arith) (omega arith) k.in_matrix refl)
      (not_one d (omega (arith, long)))
      (code_passes (keys_of layout) layout.rate last code' scan' f.no_prefix' f.scan_is' [] false out m start
      (under_shift_key left) [] f.makes')
      (press_moves layout key.place code [] (waiting shift.place (d - 1)) shift_down only k refl)
      (omega arith) (refl, tt) words (append-nil words) in
      turn layout h ss host off (suc (suc n))
      (line (sent code' last) (code ∷ []) false false scan' (under_shift_key left) m)
      (line (sent code (sent code' last)) [] false false scan (with_word left w) m) words (Port scan ∷ Word w ∷ []) []
      (waiting key.place d) (waiting key.place (d - 1)) both_down both_down [] r2
      (none_then layout h ss edges host fit m (Shifted shift key) is (suc (suc n)) 2 (omega arith) (omega arith) refl)
      (not_one d (omega (arith, long)))
      (code_passes (keys_of layout) layout.rate (sent code' last) code scan f.no_prefix f.scan_is [] false scan' m
      (under_shift_key left) (with_word left w) (Word w ∷ []) f.makes)
      (no_edges layout [] (waiting key.place (d - 1)) both_down)
      (omega arith) (refl, (refl, tt)) words (append-nil words)

  -- the key goes up
  key_up : (last : ℕ) (bytes : List ℕ)
      → Moves layout ((key.place, false) ∷ []) [] (waiting key.place (d - 1 - 1 - 1)) both_down bytes
      (ended_at key.place (waiting key.place (d - 1 - 1 - 1))) (turned key.place false both_down)
      → At' (suc (suc (suc (80 + 10 * m)))) (line last [] false false scan (with_word left w) m)
      (waiting key.place (d - 1))
      both_down words
      → At' (suc (suc (suc (suc (suc (80 + 10 * m)))))) (line last bytes false false scan (with_word left w) m) None
      shift_down words
  key_up last bytes mv r =
      let n : ℕ = suc (suc (suc (80 + 10 * m))) in
      let long : 49 ≤ d = delay_long layout.rate in
      let q : Pc = record { mark = false; out = scan; bios = with_word left w; done = m } in
      let r4 : At' (suc n) (line last [] false false scan (with_word left w) m) (waiting key.place (d - 1 - 1))
      both_down words =
      idle layout h ss edges host fit n last scan m (with_word left w) (waiting key.place (d - 1)) both_down words r
      (none_then layout h ss edges host fit m (Shifted shift key) is n 3 (omega arith) (omega arith) refl)
      (not_one (d - 1) (omega (arith, long))) (omega arith) in
      turn layout h ss host off (suc n) (line last [] false false scan (with_word left w) m)
      (line last [] false false scan (with_word left w) m) words [] ((key.place, false) ∷ [])
      (waiting key.place (d - 1 - 1)) None
      both_down shift_down bytes r4
      (one_then layout h ss edges host fit m (Shifted shift key) is (suc n) 4 (releases key (stroke_start m + 8192))
      (omega arith)
      (omega arith) k.in_matrix refl)
      (not_one (d - 1 - 1) (omega (arith, long)))
      (nothing (keys_of layout) layout.rate last false q)
      (ends_at_rest layout ((key.place, false) ∷ []) [] bytes (waiting key.place (d - 1 - 1 - 1))
      (ended_at key.place (waiting key.place (d - 1 - 1 - 1))) both_down (turned key.place false both_down) shift_down
      (ended_self key.place (d - 1 - 1 - 1))
      (struck shift_down key.place (up_beside key.place shift.place k.in_matrix apart)) mv)
      (omega arith) tt words (append-nil words)

  -- what shift's release does to a queue
  shift_up : (bytes : List ℕ) → Moves layout ((shift.place, false) ∷ []) bytes None shift_down
      (bytes ++ 0xf0 ∷ code' ∷ []) None
      (turned shift.place false shift_down)
      → Moves layout ((shift.place, false) ∷ []) bytes None shift_down (bytes ++ 0xf0 ∷ code' ∷ []) None all_up
  shift_up bytes mv =
      subst (λ v. Moves layout ((shift.place, false) ∷ []) bytes None shift_down (bytes ++ 0xf0 ∷ code' ∷ []) None v)
      (struck all_up shift.place (up_at_first shift.place k'.in_matrix)) mv

  -- after shift's break nothing comes
  last_one : (last out : ℕ)
      → At' (suc (suc (suc (suc (suc (suc (suc (suc (suc (80 + 10 * m))))))))))
      (line last [] false false out start (m + 1)) None
      all_up (words ++ Some w ∷ [])
      → Rest layout h ss edges host fit (suc m) (words ++ Some w ∷ [])
  last_one last out r =
      let n : ℕ = suc (suc (suc (suc (suc (suc (suc (suc (suc (80 + 10 * m))))))))) in
      rests layout h ss edges host fit (suc n) m last out (words ++ Some w ∷ []) (omega arith)
      (idle layout h ss edges host fit n last out (m + 1) start None all_up (words ++ Some w ∷ []) r
      (none_then layout h ss edges host fit m (Shifted shift key) is n 9 (omega arith) (omega arith) refl) tt
      (omega arith))

  -- the key sends no break: shift's is begun as the word is taken
  silently : (last : ℕ) → IsKeyAt layout key.place code true
      → At' (suc (suc (suc (80 + 10 * m)))) (line last [] false false scan (with_word left w) m)
      (waiting key.place (d - 1))
      both_down words
      → Rest layout h ss edges host fit (suc m) (words ++ Some w ∷ [])
  silently last k0 r =
      let n : ℕ = suc (suc (suc (suc (suc (80 + 10 * m))))) in
      let q : Pc = record { mark = false; out = scan; bios = with_word left w; done = m } in
      let more : List (Option ℕ) = words ++ Some w ∷ [] in
      let r5 : At' n (line last [] false false scan (with_word left w) m) None shift_down words =
      key_up last [] (silent_moves layout key.place code [] (waiting key.place (d - 1 - 1 - 1)) both_down k0) r in
      let r6 : At' (suc n) (line last (0xf0 ∷ code' ∷ []) false false scan (with_word left w) m) None all_up words =
      turn layout h ss host off n (line last [] false false scan (with_word left w) m)
      (line last [] false false scan (with_word left w) m) words [] ((shift.place, false) ∷ []) None None shift_down
      all_up
      (0xf0 ∷ code' ∷ []) r5
      (one_then layout h ss edges host fit m (Shifted shift key) is n 5 (releases shift (stroke_start m + 10240))
      (omega arith) (omega arith) k'.in_matrix refl)
      tt (nothing (keys_of layout) layout.rate last false q)
      (shift_up [] (break_moves layout shift.place code' [] None shift_down k' refl))
      (omega arith) tt words (append-nil words) in
      let r7 : At' (suc (suc n)) (line 0xf0 (code' ∷ []) true true scan (under_shift_key left) (m + 1)) None all_up
      more =
      taking_turn layout h ss host off (suc n) (line last (0xf0 ∷ code' ∷ []) false false scan (with_word left w) m)
      (line 0xf0 (code' ∷ []) true true scan (with_word left w) m) words [] [] None None all_up all_up (code' ∷ []) r6
      (none_then layout h ss edges host fit m (Shifted shift key) is (suc n) 6 (omega arith) (omega arith) refl)
      tt (prefix (keys_of layout) layout.rate last (code' ∷ []) scan m (with_word left w))
      (no_edges layout (code' ∷ []) None all_up) (omega arith) below (refl, tt) more refl in
      let r8 : At' (suc (suc (suc n))) (line (sent code' 0xf0) [] false false (with_bit 0x80 scan') start (m + 1))
      None all_up more =
      turn layout h ss host off (suc (suc n)) (line 0xf0 (code' ∷ []) true true scan (under_shift_key left) (m + 1))
      (line (sent code' 0xf0) [] false false (with_bit 0x80 scan') start (m + 1)) more
      (Port (with_bit 0x80 scan') ∷ []) []
      None None all_up all_up [] r7
      (none_then layout h ss edges host fit m (Shifted shift key) is (suc (suc n)) 7 (omega arith) (omega arith) refl)
      tt
      (code_passes (keys_of layout) layout.rate 0xf0 code' scan' f.no_prefix' f.scan_is' [] true scan (m + 1)
      (under_shift_key left) start [] f.breaks')
      (no_edges layout [] None all_up) (omega arith) (refl, tt) more (append-nil more) in
      last_one (sent code' 0xf0) (with_bit 0x80 scan')
      (idle layout h ss edges host fit (suc (suc (suc n))) (sent code' 0xf0) (with_bit 0x80 scan') (m + 1) start
      None all_up more r8
      (none_then layout h ss edges host fit m (Shifted shift key) is (suc (suc (suc n))) 8 (omega arith)
      (omega arith) refl)
      tt (omega arith))

  -- the key's break is sent before shift's
  with_break : (last : ℕ) → IsKeyAt layout key.place code false
      → At' (suc (suc (suc (80 + 10 * m)))) (line last [] false false scan (with_word left w) m)
      (waiting key.place (d - 1))
      both_down words
      → Rest layout h ss edges host fit (suc m) (words ++ Some w ∷ [])
  with_break last k0 r =
      let n : ℕ = suc (suc (suc (suc (suc (80 + 10 * m))))) in
      let more : List (Option ℕ) = words ++ Some w ∷ [] in
      let out : ℕ = with_bit 0x80 scan in
      let r5 : At' n (line last (0xf0 ∷ code ∷ []) false false scan (with_word left w) m) None shift_down words =
      key_up last (0xf0 ∷ code ∷ [])
      (break_moves layout key.place code [] (waiting key.place (d - 1 - 1 - 1)) both_down k0 refl) r in
      let r6 : At' (suc n) (line 0xf0 (code ∷ 0xf0 ∷ code' ∷ []) true true scan (with_word left w) m) None all_up
      words =
      turn layout h ss host off n (line last (0xf0 ∷ code ∷ []) false false scan (with_word left w) m)
      (line 0xf0 (code ∷ []) true true scan (with_word left w) m) words [] ((shift.place, false) ∷ []) None None
      shift_down all_up
      (code ∷ 0xf0 ∷ code' ∷ []) r5
      (one_then layout h ss edges host fit m (Shifted shift key) is n 5 (releases shift (stroke_start m + 10240))
      (omega arith) (omega arith) k'.in_matrix refl)
      tt (prefix (keys_of layout) layout.rate last (code ∷ []) scan m (with_word left w))
      (shift_up (code ∷ []) (break_moves layout shift.place code' (code ∷ []) None shift_down k' refl))
      (omega arith) tt words (append-nil words) in
      let r7 : At' (suc (suc n)) (line (sent code 0xf0) (0xf0 ∷ code' ∷ []) false false out (under_shift_key left)
      (m + 1)) None
      all_up more =
      taking_turn layout h ss host off (suc n) (line 0xf0 (code ∷ 0xf0 ∷ code' ∷ []) true true scan (with_word left w) m)
      (line (sent code 0xf0) (0xf0 ∷ code' ∷ []) false false out (with_word left w) m) words (Port out ∷ []) [] None
      None
      all_up all_up (0xf0 ∷ code' ∷ []) r6
      (none_then layout h ss edges host fit m (Shifted shift key) is (suc n) 6 (omega arith) (omega arith) refl)
      tt
      (code_passes (keys_of layout) layout.rate 0xf0 code scan f.no_prefix f.scan_is (0xf0 ∷ code' ∷ []) true scan m
      (with_word left w) (with_word left w) [] f.breaks)
      (no_edges layout (0xf0 ∷ code' ∷ []) None all_up) (omega arith) below (refl, (refl, tt)) more refl in
      let r8 : At' (suc (suc (suc n))) (line 0xf0 (code' ∷ []) true true out (under_shift_key left) (m + 1)) None
      all_up more =
      turn layout h ss host off (suc (suc n))
      (line (sent code 0xf0) (0xf0 ∷ code' ∷ []) false false out (under_shift_key left) (m + 1))
      (line 0xf0 (code' ∷ []) true true out (under_shift_key left) (m + 1)) more [] [] None None all_up all_up
      (code' ∷ []) r7
      (none_then layout h ss edges host fit m (Shifted shift key) is (suc (suc n)) 7 (omega arith) (omega arith) refl)
      tt (prefix (keys_of layout) layout.rate (sent code 0xf0) (code' ∷ []) out (m + 1) (under_shift_key left))
      (no_edges layout (code' ∷ []) None all_up) (omega arith) tt more (append-nil more) in
      last_one (sent code' 0xf0) (with_bit 0x80 scan')
      (turn layout h ss host off (suc (suc (suc n))) (line 0xf0 (code' ∷ []) true true out (under_shift_key left) (m + 1))
      (line (sent code' 0xf0) [] false false (with_bit 0x80 scan') start (m + 1)) more
      (Port (with_bit 0x80 scan') ∷ []) []
      None None all_up all_up [] r8
      (none_then layout h ss edges host fit m (Shifted shift key) is (suc (suc (suc n))) 8 (omega arith)
      (omega arith) refl)
      tt
      (code_passes (keys_of layout) layout.rate 0xf0 code' scan' f.no_prefix' f.scan_is' [] true out (m + 1)
      (under_shift_key left) start [] f.breaks')
      (no_edges layout [] None all_up) (omega arith) (refl, tt) more (append-nil more))

  -- without a debounce a stroke under shift leads from rest to rest, and its word is taken
  pub shifted_stroke : Rest layout h ss edges host fit m words
      → Rest layout h ss edges host fit (suc m) (words ++ Some w ∷ [])
  shifted_stroke r =
      let r3 : At' (suc (suc (suc (80 + 10 * m))))
      (line (sent code (sent code' r.last)) [] false false scan (with_word left w) m)
      (waiting key.place (d - 1)) both_down words = go_down r.last r.out r.is in
      elim only as (λ b. only ≡ b → Rest layout h ss edges host fit (suc m) (words ++ Some w ∷ [])) [
        | true ↦ λ e. silently (sent code (sent code' r.last)) (subst (λ b. IsKeyAt layout key.place code b) e k) r3
        | false ↦ λ e. with_break (sent code (sent code' r.last)) (subst (λ b. IsKeyAt layout key.place code b) e k) r3
      ] refl
