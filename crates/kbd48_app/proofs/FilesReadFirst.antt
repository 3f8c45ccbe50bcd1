-- A plan ends with the right exit if its first files have a fault, or else if what comes after them does.
use Rattle.std.proofs.Common.{◌≡◌, ℕ, List, [], ◌∷◌, Ok, Err, inl, inr, refl}
use Rattle.std.specs.declared.option.Option.{Option}
use Rattle.std.specs.declared.result.Result.{Result}
use Rattle.hexfile.specs.Hex.{HexOutcome, hex_of}
use Rattle.io_edge.specs.Shelf.{Shelved, after_fetch}
use Rattle.key_file.specs.Histories.{KeyHistory}
use Rattle.key_file.specs.KeyFile.{history_of}
use Rattle.key_file.specs.declared.fault.KeyFault.{KeyFault}
use Rattle.layout_reader.specs.Documents.{layout_of_document}
use Rattle.layout_reader.specs.Faults.{Refusal as LayoutRefusal}
use Rattle.layout_reader.specs.Layouts.{KeyLayout}
use Rattle.app_words.specs.declared.exit.Exit.TheVariants as exits
use Rattle.app_words.specs.declared.kind.Kind.TheVariants as kinds
use Rattle.app_words.specs.declared.words.Command.{Command}
use Rattle.app_words.specs.Refusals.{exit_of}
use Rattle.app_answers.specs.FileAnswers.{keys_refusal}
use Rattle.kbd48_app.specs.Causes.{InHex, InLayout, InKeys}
use Rattle.kbd48_app.specs.Plans.{Plan, Fetches}
use Rattle.kbd48_app.specs.Plans.{history_plan, keys_next}
use Rattle.kbd48_app.specs.Plans.{with_history, with_image, with_layout}
use Rattle.kbd48_app.proofs.ExitsAreRight.{Files, In, IsReached, IsRight, Stops, ends_right, fetched_right}
use Rattle.kbd48_app.proofs.PlansEnd.{leads}
use Rattle.kbd48_app.proofs.FilesAndFaults.{ReadsHistory, IsOlder, older_clean, older_unread, hex_faulty, hex_unread, layout_clean, layout_faulty, layout_unread, keys_faulty, keys_unread}

-- the run of a command stops at most after a history is read
abbrev pub StopsLast : Option Command → Type 0
StopsLast command = (files : Files) → Stops command (In files) → ReadsHistory (In files)

module _ (n : ℕ) (command : Option Command) (plan : Plan) (shelf : Shelved) (stops : StopsLast command) where
  -- after these files a plan ends with the right exit
  abbrev pub IsRightAfter : Files → Plan → Type 0
  IsRightAfter files rest =
      (after : Shelved) → IsReached n command plan shelf files rest after → IsRight n command plan shelf (leads n rest after)

  -- after the file of an image, which is read first
  module _ (next : List ℕ → Plan)
      (goes : (bytes image : List ℕ) → hex_of bytes ≡ Ok image → IsRightAfter ((kinds.Hex, bytes) ∷ []) (next image)) where
    image_judged : (bytes : List ℕ) (outcome : HexOutcome) → hex_of bytes ≡ outcome
        → IsRightAfter ((kinds.Hex, bytes) ∷ []) (with_image next outcome)
    image_judged bytes (Ok image) is = goes bytes image is
    image_judged bytes (Err bad) is = λ after at.
        ends_right n command plan shelf ((kinds.Hex, bytes) ∷ []) exits.Input at
        (inr (inl (InHex bad, refl, (bytes, inl (refl, refl), is)))) (hex_faulty n bytes bad is)
        (λ h. absurd (hex_unread bytes (stops ((kinds.Hex, bytes) ∷ []) h)))

    -- a plan that reads an image first ends with the right exit if it does so after each image without a fault
    pub image_right : (first : List ℕ) → IsRightAfter [] (Fetches kinds.Hex first (λ bytes. with_image next (hex_of bytes)))
    image_right first after =
        fetched_right n command plan shelf kinds.Hex first (λ bytes. with_image next (hex_of bytes)) [] after
        (older_clean n [] (inl refl), (λ h. absurd (older_unread [] (inl refl) (stops [] h))))
        (λ bytes. image_judged bytes (hex_of bytes) refl (after_fetch after))

  module _ (older : Files) (is : IsOlder older) where
    -- after the document of a layout
    module _ (next : KeyLayout → Plan)
        (goes : (document : List ℕ) (layout : KeyLayout) → layout_of_document document ≡ Ok layout
        → IsRightAfter ((kinds.Layout, document) ∷ older) (next layout)) where
      layout_judged : (document : List ℕ) (outcome : Result KeyLayout LayoutRefusal) → layout_of_document document ≡ outcome
          → IsRightAfter ((kinds.Layout, document) ∷ older) (with_layout next outcome)
      layout_judged document (Ok layout) has = goes document layout has
      layout_judged document (Err bad) has = λ after at.
          ends_right n command plan shelf ((kinds.Layout, document) ∷ older) exits.Input at
          (inr (inl (InLayout bad, refl, (document, inl (refl, refl), has)))) (layout_faulty n older document bad is has)
          (λ h. absurd (layout_unread older document is (stops ((kinds.Layout, document) ∷ older) h)))

      -- a plan that then reads a layout ends with the right exit if it does so after each layout without a fault
      pub layout_right : (first : List ℕ)
          → IsRightAfter older (Fetches kinds.Layout first (λ bytes. with_layout next (layout_of_document bytes)))
      layout_right first after =
          fetched_right n command plan shelf kinds.Layout first (λ bytes. with_layout next (layout_of_document bytes)) older after
          (older_clean n older is, (λ h. absurd (older_unread older is (stops older h))))
          (λ bytes. layout_judged bytes (layout_of_document bytes) refl (after_fetch after))

    -- after the document of a layout and a key file
    module _ (next : KeyLayout → KeyHistory → Plan)
        (goes : (document text : List ℕ) (layout : KeyLayout) (history : KeyHistory) → layout_of_document document ≡ Ok layout
        → history_of layout text ≡ Ok history
        → IsRightAfter ((kinds.Keys, text) ∷ (kinds.Layout, document) ∷ older) (next layout history)) where
      keys_judged : (document text : List ℕ) (layout : KeyLayout) (outcome : Result KeyHistory KeyFault)
          → layout_of_document document ≡ Ok layout → history_of layout text ≡ outcome
          → IsRightAfter ((kinds.Keys, text) ∷ (kinds.Layout, document) ∷ older) (with_history (next layout) outcome)
      keys_judged document text layout (Ok history) has reads = goes document text layout history has reads
      keys_judged document text layout (Err bad) has reads = λ after at.
          ends_right n command plan shelf ((kinds.Keys, text) ∷ (kinds.Layout, document) ∷ older) (exit_of (keys_refusal bad)) at
          (inr (inl (InKeys bad, refl, (document, inr (inl (refl, refl)), layout, has, text, inl (refl, refl), reads))))
          (keys_faulty n older document text layout is has bad reads)
          (λ h. absurd (keys_unread n older document text layout is has bad reads (stops ((kinds.Keys, text) ∷ (kinds.Layout, document) ∷ older) h)))

      -- a plan that then reads a key file too ends with the right exit if it does so after each history
      pub history_right : (first second : List ℕ) → IsRightAfter older (history_plan next first second)
      history_right first second =
          layout_right (keys_next next second)
          (λ document layout has after.
          fetched_right n command plan shelf kinds.Keys second (λ text. with_history (next layout) (history_of layout text))
          ((kinds.Layout, document) ∷ older) after
          (layout_clean n older document layout is has, (λ h. absurd (layout_unread older document is (stops ((kinds.Layout, document) ∷ older) h))))
          (λ text. keys_judged document text layout (history_of layout text) has refl (after_fetch after))) first
