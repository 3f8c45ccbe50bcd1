-- Plans that end with a dump: `capture`.
use Rattle.std.proofs.Common.{◌≡◌, ℕ, List, [], ◌∷◌, None, Some, Ok, inl, inr, refl, arith}
use Rattle.std.specs.declared.option.Option.{Option}
use Rattle.io_edge.specs.Shelf.{Shelved}
use Rattle.layout_reader.specs.Documents.{layout_of_document}
use Rattle.layout_reader.specs.Layouts.{KeyLayout}
use Rattle.capture_vcd.specs.Reads.{reads_of}
use Rattle.capture_vcd.specs.declared.fault.VcdFault.{VcdFault}
use Rattle.app_words.specs.declared.kind.Kind.TheVariants as kinds
use Rattle.app_words.specs.declared.words.Command.{Command}
use Rattle.kbd48_app.specs.Causes.{Fault, IsFault}
use Rattle.kbd48_app.specs.Plans.{Plan}
use Rattle.app_words.specs.declared.kind.Kind.{Kind}
use Rattle.kbd48_app.specs.Reached.{Reads}
use Rattle.kbd48_app.proofs.ExitAndCause.{IsCaused}
use Rattle.kbd48_app.proofs.ExitsAreRight.{Files, In, IsReachedBy, IsRight, Stops, fault_on, stop_on}
use Rattle.kbd48_app.proofs.PlansEnd.{capture_exit}
use Rattle.kbd48_app.specs.Reached.{HasDumpFault}

-- a dump is the last of these files, and none of them has another file's fault
module _ (n : ℕ) (command : Option Command) (plan : Plan) (shelf : Shelved) (never : (files : Files) → Stops command (In files) → ⊥)
    (clk dat dump : List ℕ) (files : Files) (clean : (fault : Fault) → IsFault n fault (In files) → ⊥) where
  dump_judged : (first : Option VcdFault) → (reads_of clk dat dump).fault ≡ first
      → ((fault : VcdFault) × ((reads_of clk dat dump).fault ≡ Some fault) → HasDumpFault plan shelf)
      → IsCaused n command plan shelf (capture_exit first)
  dump_judged None is reached = tt
  dump_judged (Some fault) is reached = inr (inr (reached (fault, is)))

  -- a plan whose last file is a dump ends with the right exit
  pub dump_right : IsReachedBy n command plan shelf files (λ kind file. ⊥) (λ kind. ⊥) ⊥
      ((fault : VcdFault) × ((reads_of clk dat dump).fault ≡ Some fault))
      → IsRight n command plan shelf (capture_exit (reads_of clk dat dump).fault)
  dump_right at =
      let all : (kind : Kind) (file : List ℕ) → Reads kind file plan shelf → In files kind file =
      λ kind file h. elim (at.0 kind file h) [ inl old ↦ old | inr none ↦ absurd none ] in (
        dump_judged (reads_of clk dat dump).fault refl at.4,
        (λ fault h. absurd (clean fault (fault_on n (λ kind file. Reads kind file plan shelf) (In files) all fault h))),
        (λ h. absurd (never files (stop_on command (λ kind file. Reads kind file plan shelf) (In files) all h))),
      )

-- a dump alone has none of the other files' faults
pub dump_clean : (n : ℕ) (dump : List ℕ) (fault : Fault) → IsFault n fault (In ((kinds.Vcd, dump) ∷ [])) → ⊥
dump_clean n dump fault h = grind arith

-- nor has a dump after a layout without a fault
pub typed_clean : (n : ℕ) (document dump : List ℕ) (layout : KeyLayout) → layout_of_document document ≡ Ok layout → (fault : Fault)
    → IsFault n fault (In ((kinds.Vcd, dump) ∷ (kinds.Layout, document) ∷ [])) → ⊥
typed_clean n document dump layout has fault h = grind arith
