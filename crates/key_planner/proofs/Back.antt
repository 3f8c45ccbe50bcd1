-- A plan, read again, is the history of its strokes.
use Rattle.std.proofs.Common.{◌≡◌, ◌≤◌, ℕ, suc, ◌+◌, List, [], ◌∷◌, ◌++◌, length, Ok}
use Rattle.std.proofs.Common.{sym, subst, append_assoc, arith}
use Rattle.board_terms.specs.declared.event.Edge.{Edge}
use Rattle.board_terms.specs.declared.event.HostEvent.{HostEvent}
use Rattle.layout_reader.specs.Layouts.{KeyLayout, IsKeyLayout}
use Rattle.key_file.specs.Accepted.{IsAccepted}
use Rattle.key_file.specs.KeyFile.{history_of}
use Rattle.law_typed_log.specs.Typing.{Stroke, Plain, Shifted, character, enters, base, shifted, is_shift_entry, stroke_start, first_up, second_down}
use Rattle.law_typed_log.specs.Typing.{second_up, word_taken, edges_of, take_of, edges_from, takes_from, planned}
use Rattle.key_lines.specs.Lines.{press_line, release_line, take_line, end_line}
use Rattle.key_planner.specs.Plan.{stroke_lines, lines_from, plan_of}
use Rattle.law_typed_log.proofs.Struck.{IsStroke, AreStrokes}
use Rattle.key_file.proofs.ReadsDescribed.{reads-described}
use Rattle.key_lines.proofs.Owned.{IsOwn}
use Rattle.key_lines.proofs.Told.{Tells, end-tells, press-tells, release-tells, take-tells, tells-describes}
use Rattle.key_planner.proofs.Owned.{owned}

regroup : (a b c d : List ℕ) → ((a ++ b) ++ c) ++ d ≡ a ++ (b ++ (c ++ d))
regroup a b c d = simp append_assoc

regroup_five : (a b c d e f : List ℕ) → ((((a ++ b) ++ c) ++ d) ++ e) ++ f ≡ a ++ (b ++ (c ++ (d ++ (e ++ f))))
regroup_five a b c d e f = simp append_assoc

-- the keys of a stroke are the layout's
abbrev pub AreOwn : KeyLayout → Stroke → Type 0
AreOwn layout (Plain key) = IsOwn layout key
AreOwn layout (Shifted shift key) = IsOwn layout shift × IsOwn layout key

-- and those of each stroke
abbrev pub AllOwn : KeyLayout → List Stroke → Type 0
AllOwn layout [] = Unit {0}
AllOwn layout (stroke ∷ strokes) = AreOwn layout stroke × AllOwn layout strokes

module _ (layout : KeyLayout) (end : ℕ) where
  -- a stroke, and what follows it
  stroke-tells : (from start : ℕ) (stroke : Stroke) (edges : List Edge) (host : List HostEvent) (rest : List ℕ)
      → from ≤ start → start ≤ 240000000 → AreOwn layout stroke
      → Tells layout end (word_taken start) edges host rest
      → Tells layout end from (edges_of start stroke ++ edges) (take_of start ∷ host) (stroke_lines start stroke ++ rest)
  stroke-tells from start (Plain key) edges host rest later h own more =
      subst (Tells layout end from (edges_of start (Plain key) ++ edges) (take_of start ∷ host))
      (sym (regroup (press_line start key) (release_line (first_up start) key) (take_line (word_taken start)) rest))
      (press-tells layout end from start key _ _ _ later (omega arith) own
      (release-tells layout end start (first_up start) key _ _ _ (omega arith) (omega arith) own
      (take-tells layout end (first_up start) (word_taken start) edges host rest (omega arith) (omega arith) more)))
  stroke-tells from start (Shifted shift key) edges host rest later h own more =
      subst (Tells layout end from (edges_of start (Shifted shift key) ++ edges) (take_of start ∷ host))
      (sym (regroup_five (press_line start shift) (press_line (second_down start) key) (release_line (second_up start) key)
      (release_line (first_up start) shift) (take_line (word_taken start)) rest))
      (press-tells layout end from start shift _ _ _ later (omega arith) own.0
      (press-tells layout end start (second_down start) key _ _ _ (omega arith) (omega arith) own.1
      (release-tells layout end (second_down start) (second_up start) key _ _ _ (omega arith) (omega arith) own.1
      (release-tells layout end (second_up start) (first_up start) shift _ _ _ (omega arith) (omega arith) own.0
      (take-tells layout end (first_up start) (word_taken start) edges host rest (omega arith) (omega arith) more)))))

  -- strokes, to the end
  strokes-tell : (from number : ℕ) (strokes : List Stroke) → from ≤ stroke_start number
      → AllOwn layout strokes → end ≡ stroke_start (number + length strokes) → number + length strokes ≤ 10000
      → Tells layout end from (edges_from number strokes) (takes_from number strokes) (lines_from number strokes)
  strokes-tell from number [] later own ends few =
      let last : end ≡ stroke_start number = omega arith in
      subst (λ stamp. Tells layout end from [] [] (end_line stamp)) last (end-tells layout end from (omega arith) (omega arith))
  strokes-tell from number (stroke ∷ strokes) later own ends few =
      stroke-tells from (stroke_start number) stroke (edges_from (suc number) strokes) (takes_from (suc number) strokes)
      (lines_from (suc number) strokes) later (omega arith) own.0
      (strokes-tell (word_taken (stroke_start number)) (suc number) strokes (omega arith) own.1 (omega arith) (omega arith))

-- the keys of a text's strokes are the layout's
stroke-own : (layout : KeyLayout) (c : ℕ) (stroke : Stroke) → IsKeyLayout layout → IsStroke layout.entries c stroke → AreOwn layout stroke
stroke-own layout c (Plain key) is found = owned layout (enters base c) key is found
stroke-own layout c (Shifted shift key) is found =
    (owned layout is_shift_entry shift is found.of_shift, owned layout (enters shifted c) key is found.of_key)

-- the keys of a text's strokes are found in the layout by their names
pub strokes-own : (layout : KeyLayout) (text : List ℕ) (strokes : List Stroke)
    → IsKeyLayout layout → AreStrokes layout.entries text strokes → AllOwn layout strokes
strokes-own layout [] [] is are = tt
strokes-own layout [] (stroke ∷ strokes) is are = absurd are
strokes-own layout (byte ∷ text) [] is are = absurd are
strokes-own layout (byte ∷ text) (stroke ∷ strokes) is are =
    (stroke-own layout (character byte) stroke is are.0.is, strokes-own layout text strokes is are.1)

-- the plan of strokes whose history is accepted
pub plan-back : (layout : KeyLayout) (strokes : List Stroke) → AllOwn layout strokes → length strokes ≤ 10000 → IsAccepted (planned strokes)
    → history_of layout (plan_of strokes) ≡ Ok (planned strokes)
unfolding plan_of planned
plan-back layout strokes own few accepted =
    reads-described layout (plan_of strokes) (planned strokes) accepted
    (tells-describes layout (planned strokes) (plan_of strokes)
    (strokes-tell layout (planned strokes).end 0 0 strokes (omega arith) own (omega arith) (omega arith)))
