-- A stroke without shift, from rest to rest, on a layout without a debounce.
use Rattle.std.proofs.Common.{◌≡◌, ℕ, suc, ◌+◌, ◌-◌, ◌*◌, ◌<◌, ◌≤◌, Bool, true, false, ◌==◌, List, [], ◌∷◌}
use Rattle.std.proofs.Common.{◌++◌, length, append-nil, Some, None, refl, ap, subst, arith}
use Rattle.std.specs.Prelude.{slice_get, if◌then◌else◌}
use Rattle.std.specs.declared.option.Option.{Option}
use Rattle.bits.specs.Bits.{with_bit}
use Rattle.pc_tables.specs.declared.item.Item.TheVariants.{Port, Word}
use Rattle.int09.specs.Bios.{State, start, quiet}
use Rattle.int09.specs.Rules.{fed}
use Rattle.ctl_core.specs.ScanCodes.{translated}
use Rattle.board_terms.specs.Matrix.{all_up, turned}
use Rattle.layout_reader.specs.declared.entry.Entry.{Entry}
use Rattle.layout_reader.specs.Layouts.{KeyLayout}
use Rattle.model_keyboard.specs.declared.state.Repeat.{Repeat}
use Rattle.model_keyboard.specs.Codes.{keys_of}
use Rattle.model_keyboard.specs.Typematic.{delay}
use Rattle.model_keyboard.specs.Tick.{ended_at}
use Rattle.key_file.specs.Histories.{KeyHistory}
use Rattle.law_quiet_log.proofs.Calm.{Pc}
use Rattle.law_typed_log.specs.Typing.{Stroke, Plain, stroke_start, presses, releases, edges_from, takes_from}
use Rattle.law_typed_log.proofs.Struck.{AllFit}
use Rattle.law_typed_log.proofs.Found.{same_place}
use Rattle.law_typed_log.proofs.Tables.{entered}
use Rattle.law_typed_log.proofs.Keying.{pressed_at, struck, up_at_first, delay_long}
use Rattle.law_typed_log.proofs.Turns.{Line, IsKeyAt, Moves, nothing, prefix, code_passes, no_edges, press_moves, silent_moves, break_moves}
use Rattle.law_typed_log.proofs.Turns.{turn, taking_turn}
use Rattle.law_typed_log.proofs.Resting.{line, not_one, At, Rest, idle, none_then, one_then, rests}

-- a key's code, its scan code, and what INT 09h makes of them
pub record IsPlain (code scan w : ℕ) : Type 0 where
  pub no_prefix : (code == 0xf0) ≡ false
  pub scan_is : translated code ≡ Some scan
  pub makes : fed scan start ≡ entered w start
  pub breaks : fed (with_bit 0x80 scan) start ≡ quiet start

-- the key that repeats after so many ticks
abbrev pub waiting : ℕ → ℕ → Option Repeat
waiting place count = Some (record { place = place; count = count; on_fn = false })

-- the release of the key that repeats ends its repeat
pub ended_self : (place count : ℕ) → ended_at place (waiting place count) ≡ None
ended_self place count = ap (λ b. if b then None else waiting place count) (same_place place)

-- a release at which the repeating ends and the keys are up as before
pub ends_at_rest : (layout : KeyLayout) (edges : List (ℕ × Bool)) (bytes bytes' : List ℕ) (rep rep' : Option Repeat)
    (held held' back : List Bool) → rep' ≡ None → held' ≡ back → Moves layout edges bytes rep held bytes' rep' held'
    → Moves layout edges bytes rep held bytes' None back
ends_at_rest layout edges bytes bytes' rep rep' held held' back e f m =
    subst (λ v. Moves layout edges bytes rep held bytes' None v) f
    (subst (λ v. Moves layout edges bytes rep held bytes' v held') e m)

module _ (layout : KeyLayout) (h : KeyHistory) (ss : List Stroke) (edges : h.edges ≡ edges_from 0 ss)
    (host : h.host ≡ takes_from 0 ss) (fit : AllFit layout.entries ss)
    (off : layout.debounce ≡ false) (m : ℕ) (key : Entry)
    (is : slice_get ss m ≡ Some (Plain key)) (below : m < length ss) (code scan w : ℕ) (only : Bool)
    (k : IsKeyAt layout key.place code only) (f : IsPlain code scan w) (words : List (Option ℕ)) where
  abbrev At' : ℕ → Line → Option Repeat → List Bool → List (Option ℕ) → Type 0
  At' = At layout h ss edges host fit

  abbrev d : ℕ
  d = delay layout.rate

  abbrev down : List Bool
  down = turned key.place true all_up

  abbrev sent : ℕ → ℕ
  sent last = if code == 0xfe then last else code

  -- the key goes down, its code is sent and its word entered; it waits to repeat
  goes_down : (last out : ℕ) → At' (80 + 10 * m) (line last [] false false out start m) None all_up words
      → At' (suc (suc (80 + 10 * m))) (line (sent last) [] false false scan (record start { words = w ∷ [] }) m)
      (waiting key.place (d - 1)) down words
  goes_down last out r =
      let n : ℕ = 80 + 10 * m in
      let q : Pc = record { mark = false; out = out; bios = start; done = m } in
      let r1 : At' (suc n) (line last (code ∷ []) false false out start m) (waiting key.place d) down words =
      turn layout h ss host off n (line last [] false false out start m) (line last [] false false out start m) words []
      ((key.place, true) ∷ []) None (pressed_at layout.rate key.place) all_up down (code ∷ []) r
      (one_then layout h ss edges host fit m (Plain key) is n 0 (presses key (stroke_start m)) (omega arith)
      (omega arith)
      k.in_matrix refl)
      tt (nothing (keys_of layout) layout.rate last false q)
      (press_moves layout key.place code [] None all_up only k refl)
      (omega arith) tt words (append-nil words) in
      turn layout h ss host off (suc n) (line last (code ∷ []) false false out start m)
      (line (sent last) [] false false scan (record start { words = w ∷ [] }) m) words (Port scan ∷ Word w ∷ []) []
      (waiting key.place d) (waiting key.place (d - 1)) down down [] r1
      (none_then layout h ss edges host fit m (Plain key) is (suc n) 1 (omega arith) (omega arith) refl)
      (not_one d (omega (arith, delay_long layout.rate)))
      (code_passes (keys_of layout) layout.rate last code scan f.no_prefix f.scan_is [] false out m start
      (record start { words = w ∷ [] }) (Word w ∷ []) f.makes)
      (no_edges layout [] (waiting key.place (d - 1)) down)
      (omega arith) (refl, (refl, tt)) words (append-nil words)

  -- so it does for three ticks
  stays_down : (last out : ℕ) (bios : State)
      → At' (suc (suc (80 + 10 * m))) (line last [] false false out bios m) (waiting key.place (d - 1)) down words
      → At' (suc (suc (suc (suc (suc (80 + 10 * m)))))) (line last [] false false out bios m)
      (waiting key.place (d - 1 - 1 - 1 - 1)) down words
  stays_down last out bios r =
      let n : ℕ = suc (suc (80 + 10 * m)) in
      let long : 49 ≤ d = delay_long layout.rate in
      let r3 : At' (suc n) (line last [] false false out bios m) (waiting key.place (d - 1 - 1)) down words =
      idle layout h ss edges host fit n last out m bios (waiting key.place (d - 1)) down words r
      (none_then layout h ss edges host fit m (Plain key) is n 2 (omega arith) (omega arith) refl)
      (not_one (d - 1) (omega (arith, long))) (omega arith) in
      let r4 : At' (suc (suc n)) (line last [] false false out bios m) (waiting key.place (d - 1 - 1 - 1)) down words =
      idle layout h ss edges host fit (suc n) last out m bios (waiting key.place (d - 1 - 1)) down words r3
      (none_then layout h ss edges host fit m (Plain key) is (suc n) 3 (omega arith) (omega arith) refl)
      (not_one (d - 1 - 1) (omega (arith, long))) (omega arith) in
      idle layout h ss edges host fit (suc (suc n)) last out m bios (waiting key.place (d - 1 - 1 - 1)) down words r4
      (none_then layout h ss edges host fit m (Plain key) is (suc (suc n)) 4 (omega arith) (omega arith) refl)
      (not_one (d - 1 - 1 - 1) (omega (arith, long))) (omega arith)

  -- it goes up
  goes_up : (last out : ℕ) (bios : State) (bytes : List ℕ)
      → Moves layout ((key.place, false) ∷ []) [] (waiting key.place (d - 1 - 1 - 1 - 1 - 1)) down bytes
      (ended_at key.place (waiting key.place (d - 1 - 1 - 1 - 1 - 1))) (turned key.place false down)
      → At' (suc (suc (suc (suc (suc (80 + 10 * m)))))) (line last [] false false out bios m)
      (waiting key.place (d - 1 - 1 - 1 - 1)) down words
      → At' (suc (suc (suc (suc (suc (suc (80 + 10 * m))))))) (line last bytes false false out bios m) None all_up words
  goes_up last out bios bytes mv r =
      let n : ℕ = suc (suc (suc (suc (suc (80 + 10 * m))))) in
      let rep : Option Repeat = waiting key.place (d - 1 - 1 - 1 - 1 - 1) in
      let q : Pc = record { mark = false; out = out; bios = bios; done = m } in
      turn layout h ss host off n (line last [] false false out bios m) (line last [] false false out bios m) words []
      ((key.place, false) ∷ []) (waiting key.place (d - 1 - 1 - 1 - 1)) None down all_up bytes r
      (one_then layout h ss edges host fit m (Plain key) is n 5 (releases key (stroke_start m + 10240))
      (omega arith) (omega arith)
      k.in_matrix refl)
      (not_one (d - 1 - 1 - 1 - 1) (omega (arith, delay_long layout.rate)))
      (nothing (keys_of layout) layout.rate last false q)
      (ends_at_rest layout ((key.place, false) ∷ []) [] bytes rep (ended_at key.place rep) down
      (turned key.place false down)
      all_up (ended_self key.place (d - 1 - 1 - 1 - 1 - 1))
      (struck all_up key.place (up_at_first key.place k.in_matrix)) mv)
      (omega arith) tt words (append-nil words)

  -- after the take nothing comes in the last ticks
  last_two : (last out : ℕ)
      → At' (suc (suc (suc (suc (suc (suc (suc (suc (80 + 10 * m)))))))))
      (line last [] false false out start (m + 1)) None all_up
      (words ++ Some w ∷ [])
      → Rest layout h ss edges host fit (suc m) (words ++ Some w ∷ [])
  last_two last out r =
      let n : ℕ = suc (suc (suc (suc (suc (suc (suc (suc (80 + 10 * m)))))))) in
      let r9 : At' (suc n) (line last [] false false out start (m + 1)) None all_up (words ++ Some w ∷ []) =
      idle layout h ss edges host fit n last out (m + 1) start None all_up (words ++ Some w ∷ []) r
      (none_then layout h ss edges host fit m (Plain key) is n 8 (omega arith) (omega arith) refl) tt (omega arith) in
      let r10 : At' (suc (suc n)) (line last [] false false out start (m + 1)) None all_up (words ++ Some w ∷ []) =
      idle layout h ss edges host fit (suc n) last out (m + 1) start None all_up (words ++ Some w ∷ []) r9
      (none_then layout h ss edges host fit m (Plain key) is (suc n) 9 (omega arith) (omega arith) refl) tt
      (omega arith) in
      rests layout h ss edges host fit (suc (suc n)) m last out (words ++ Some w ∷ []) (omega arith) r10

  -- the word is taken; a key that sends a break sends it around that
  silently : (last : ℕ) → IsKeyAt layout key.place code true
      → At' (suc (suc (suc (suc (suc (80 + 10 * m))))))
      (line last [] false false scan (record start { words = w ∷ [] }) m)
      (waiting key.place (d - 1 - 1 - 1 - 1)) down words
      → Rest layout h ss edges host fit (suc m) (words ++ Some w ∷ [])
  silently last k' r =
      let bios : State = record start { words = w ∷ [] } in
      let q : Pc = record { mark = false; out = scan; bios = bios; done = m } in
      let n : ℕ = suc (suc (suc (suc (suc (suc (80 + 10 * m)))))) in
      let r6 : At' n (line last [] false false scan bios m) None all_up words =
      goes_up last scan bios []
      (silent_moves layout key.place code [] (waiting key.place (d - 1 - 1 - 1 - 1 - 1)) down k') r in
      let r7 : At' (suc n) (line last [] false false scan start (m + 1)) None all_up (words ++ Some w ∷ []) =
      taking_turn layout h ss host off n (line last [] false false scan bios m) (line last [] false false scan bios m)
      words []
      [] None None all_up all_up [] r6
      (none_then layout h ss edges host fit m (Plain key) is n 6 (omega arith) (omega arith) refl)
      tt (nothing (keys_of layout) layout.rate last false q) (no_edges layout [] None all_up) (omega arith) below
      (refl, tt) (words ++ Some w ∷ []) refl in
      last_two last scan
      (idle layout h ss edges host fit (suc n) last scan (m + 1) start None all_up (words ++ Some w ∷ []) r7
      (none_then layout h ss edges host fit m (Plain key) is (suc n) 7 (omega arith) (omega arith) refl) tt
      (omega arith))

  with_break : (last : ℕ) → IsKeyAt layout key.place code false
      → At' (suc (suc (suc (suc (suc (80 + 10 * m))))))
      (line last [] false false scan (record start { words = w ∷ [] }) m)
      (waiting key.place (d - 1 - 1 - 1 - 1)) down words
      → Rest layout h ss edges host fit (suc m) (words ++ Some w ∷ [])
  with_break last k' r =
      let bios : State = record start { words = w ∷ [] } in
      let n : ℕ = suc (suc (suc (suc (suc (suc (80 + 10 * m)))))) in
      let r6 : At' n (line last (0xf0 ∷ code ∷ []) false false scan bios m) None all_up words =
      goes_up last scan bios (0xf0 ∷ code ∷ [])
      (break_moves layout key.place code [] (waiting key.place (d - 1 - 1 - 1 - 1 - 1)) down k' refl) r in
      let r7 : At' (suc n) (line 0xf0 (code ∷ []) true true scan start (m + 1)) None all_up (words ++ Some w ∷ []) =
      taking_turn layout h ss host off n (line last (0xf0 ∷ code ∷ []) false false scan bios m)
      (line 0xf0 (code ∷ []) true true scan bios m) words [] [] None None all_up all_up (code ∷ []) r6
      (none_then layout h ss edges host fit m (Plain key) is n 6 (omega arith) (omega arith) refl)
      tt (prefix (keys_of layout) layout.rate last (code ∷ []) scan m bios) (no_edges layout (code ∷ []) None all_up)
      (omega arith) below (refl, tt) (words ++ Some w ∷ []) refl in
      last_two (sent 0xf0) (with_bit 0x80 scan)
      (turn layout h ss host off (suc n) (line 0xf0 (code ∷ []) true true scan start (m + 1))
      (line (sent 0xf0) [] false false (with_bit 0x80 scan) start (m + 1)) (words ++ Some w ∷ [])
      (Port (with_bit 0x80 scan) ∷ []) [] None None all_up all_up [] r7
      (none_then layout h ss edges host fit m (Plain key) is (suc n) 7 (omega arith) (omega arith) refl)
      tt
      (code_passes (keys_of layout) layout.rate 0xf0 code scan f.no_prefix f.scan_is [] true scan (m + 1) start
      start [] f.breaks)
      (no_edges layout [] None all_up) (omega arith) (refl, tt) (words ++ Some w ∷ [])
      (append-nil (words ++ Some w ∷ [])))

  -- without a debounce a plain stroke leads from rest to rest, and its word is taken
  pub plain_stroke : Rest layout h ss edges host fit m words
      → Rest layout h ss edges host fit (suc m) (words ++ Some w ∷ [])
  plain_stroke r =
      let r5 : At' (suc (suc (suc (suc (suc (80 + 10 * m))))))
      (line (sent r.last) [] false false scan (record start { words = w ∷ [] }) m)
      (waiting key.place (d - 1 - 1 - 1 - 1)) down words =
      stays_down (sent r.last) scan (record start { words = w ∷ [] }) (goes_down r.last r.out r.is) in
      elim only as (λ b. only ≡ b → Rest layout h ss edges host fit (suc m) (words ++ Some w ∷ [])) [
        | true ↦ λ e. silently (sent r.last) (subst (λ b. IsKeyAt layout key.place code b) e k) r5
        | false ↦ λ e. with_break (sent r.last) (subst (λ b. IsKeyAt layout key.place code b) e k) r5
      ] refl
