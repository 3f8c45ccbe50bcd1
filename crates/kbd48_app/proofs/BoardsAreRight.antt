-- The plan of `board`.
use Rattle.std.proofs.Common.{◌≡◌, ℕ, List, [], ◌∷◌, None, Some, Ok, inl, inr, refl, ap, ◌∙◌}
use Rattle.std.specs.declared.option.Option.{Option}
use Rattle.run_program.proofs.EndOf.{end_found, end_of, outcome_of}
use Rattle.run_loop.specs.declared.ending.End.{End}
use Rattle.run_loop.specs.declared.ending.End.TheVariants.{Reached, Stuck}
use Rattle.hexfile.specs.Hex.{hex_of}
use Rattle.io_edge.specs.Shelf.{Shelved}
use Rattle.key_file.specs.Histories.{KeyHistory}
use Rattle.key_file.specs.KeyFile.{history_of}
use Rattle.layout_reader.specs.Documents.{layout_of_document}
use Rattle.layout_reader.specs.Layouts.{KeyLayout}
use Rattle.app_words.specs.declared.exit.Exit.TheVariants as exits
use Rattle.app_words.specs.declared.kind.Kind.TheVariants as kinds
use Rattle.app_words.specs.declared.words.BoardRun.{BoardRun}
use Rattle.app_words.specs.declared.words.Command.TheVariants.{Board}
use Rattle.app_boards.specs.BoardTexts.{board_story}
use Rattle.kbd48_app.specs.Causes.{BoardStops}
use Rattle.kbd48_app.specs.Plans.{Plan, Boards}
use Rattle.kbd48_app.specs.Plans.{program_next, program_plan}
use Rattle.kbd48_app.proofs.ExitsAreRight.{Cause, Files, In, IsReached, IsRight, Stops, ends_right}
use Rattle.kbd48_app.proofs.PlansEnd.{board_exit}
use Rattle.kbd48_app.proofs.FilesAndFaults.{keys_clean, same_story}
use Rattle.kbd48_app.proofs.FilesReadFirst.{StopsLast, IsRightAfter, image_right, history_right}

-- the run of `board` stops at most after a history is read
pub board_last : (wanted : BoardRun) → StopsLast (Some (Board wanted))
board_last wanted files (inl h) = absurd (cc h.1)
board_last wanted files (inr h) = (h.6, h.7, h.8, h.9, h.10, h.11, h.12, h.13)

-- `board`
module _ (n : ℕ) (wanted : BoardRun) (plan : Plan) (shelf : Shelved) (bytes image document text : List ℕ) (layout : KeyLayout)
    (history : KeyHistory) (is : hex_of bytes ≡ Ok image) (has : layout_of_document document ≡ Ok layout)
    (reads : history_of layout text ≡ Ok history) where
  abbrev OfBoard : Files
  OfBoard = (kinds.Keys, text) ∷ (kinds.Layout, document) ∷ (kinds.Hex, bytes) ∷ []

  board_stops : Stops (Some (Board wanted)) (In OfBoard) → board_exit (end_of (board_story wanted image history)) ≡ exits.Stuck
  board_stops (inl h) = absurd (cc h.1)
  board_stops (inr h) =
      ap (λ s. board_exit (end_of s)) (same_story wanted bytes image document text layout history is has reads h)
      ∙ ap board_exit (end_found (board_story h.0 h.4 h.12) h.14 h.15) ∙ ap (λ (e : End). board_exit (Some e)) h.17

  board_cause : (end : Option End) → end_of (board_story wanted image history) ≡ end
      → Cause n (Some (Board wanted)) plan shelf OfBoard (board_exit end)
  board_cause None e = inl refl
  board_cause (Some Reached) e = inl refl
  board_cause (Some (Stuck place)) e =
      let run = outcome_of (board_story wanted image history) (Stuck place) e in
      let hex : In OfBoard kinds.Hex bytes = inr (inr (inl (refl, refl))) in
      let layouts : In OfBoard kinds.Layout document = inr (inl (refl, refl)) in
      let keys : In OfBoard kinds.Keys text = inl (refl, refl) in
      let stops : BoardStops (Some (Board wanted)) (In OfBoard) =
      (wanted, refl, bytes, hex, image, is, document, layouts, layout, has, text, keys, history, reads, run.0, run.1, place, run.2) in
      inr (inr (refl, inr stops))

  board_judged : (after : Shelved) → IsReached n (Some (Board wanted)) plan shelf OfBoard (Boards wanted image history) after
      → IsRight n (Some (Board wanted)) plan shelf (board_exit (end_of (board_story wanted image history)))
  board_judged after at =
      ends_right n (Some (Board wanted)) plan shelf OfBoard (board_exit (end_of (board_story wanted image history))) at
      (board_cause (end_of (board_story wanted image history)) refl)
      (λ fault h. absurd (keys_clean n ((kinds.Hex, bytes) ∷ []) document text layout (inr (bytes, image, refl, is)) has history reads fault h))
      board_stops

-- `board` ends with the right exit
pub board_right : (n : ℕ) (wanted : BoardRun) (plan : Plan) (shelf : Shelved) (first second third : List ℕ)
    → IsRightAfter n (Some (Board wanted)) plan shelf (board_last wanted) [] (program_plan (Boards wanted) first second third)
board_right n wanted plan shelf first second third =
    image_right n (Some (Board wanted)) plan shelf (board_last wanted) (program_next (Boards wanted) second third)
    (λ bytes image is.
    history_right n (Some (Board wanted)) plan shelf (board_last wanted) ((kinds.Hex, bytes) ∷ []) (inr (bytes, image, refl, is))
    (λ layout. Boards wanted image)
    (λ document text layout history has reads.
    board_judged n wanted plan shelf bytes image document text layout history is has reads) second third) first
