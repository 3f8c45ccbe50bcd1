-- The plan of each command ends with the right exit.
use Rattle.std.proofs.Common.{◌≡◌, ℕ, List, [], ◌∷◌, None, Some, inl, inr, refl, ap}
use Rattle.std.specs.declared.option.Option.{Option}
use Rattle.io_edge.specs.Shelf.{Shelved, after_fetch}
use Rattle.app_words.specs.declared.exit.Exit.TheVariants as exits
use Rattle.app_words.specs.declared.kind.Kind.TheVariants as kinds
use Rattle.app_words.specs.declared.words.BoardRun.{BoardRun}
use Rattle.app_words.specs.declared.words.Command.{Command}
use Rattle.app_words.specs.declared.words.Command.TheVariants.{OverFile, OverPair, Debug, Probe, Board, Feed, Sample, Capture, Typed}
use Rattle.app_words.specs.declared.words.FileCommand.{FileCommand}
use Rattle.app_words.specs.declared.words.FileCommand.TheVariants.{Step}
use Rattle.app_words.specs.declared.words.PairCommand.TheVariants.{Certify, Spell, OverRun}
use Rattle.app_words.specs.Kinds.{kind_of}
use Rattle.app_words.specs.Words.{clock_in, data_in, fourth_in, name_in, second_in, third_in, typed_clock_in, typed_data_in}
use Rattle.app_answers.specs.FileAnswers.{file_said}
use Rattle.app_answers.specs.Says.{exit_said}
use Rattle.app_answers.proofs.FileExits.{file_exits}
use Rattle.kbd48_app.specs.Causes.{InHex, InAsm, InLayout}
use Rattle.kbd48_app.specs.Plans.{Plan, Captures, Follows, Gives, Samples}
use Rattle.kbd48_app.specs.Plans.{pair_plan}
use Rattle.kbd48_app.specs.Plans.{plan_of, typed_next}
use Rattle.kbd48_app.proofs.ExitsAreRight.{Files, In, IsReached, IsReachedBy, IsRight, Stops, ends_right, fetched_right, start}
use Rattle.kbd48_app.proofs.PlansEnd.{leads}
use Rattle.kbd48_app.proofs.FilesAndFaults.{layout_clean, file_faulty, file_stops, none_faulty, none_stops}
use Rattle.kbd48_app.proofs.FilesReadFirst.{layout_right}
use Rattle.kbd48_app.proofs.RunsAreRight.{last, cert_right, text_right, run_right, debug_right, probe_right}
use Rattle.kbd48_app.proofs.BoardsAreRight.{board_right}
use Rattle.kbd48_app.proofs.CapturesAreRight.{dump_clean, dump_right, typed_clean}

-- a command over one file
module _ (n : ℕ) (over : FileCommand) (plan : Plan) (shelf : Shelved) where
  file_judged : (bytes : List ℕ) (after : Shelved)
      → IsReached n (Some (OverFile over)) plan shelf ((kind_of over, bytes) ∷ []) (Gives (file_said over bytes)) after
      → IsRight n (Some (OverFile over)) plan shelf (exit_said (file_said over bytes))
  file_judged bytes after at =
      ends_right n (Some (OverFile over)) plan shelf ((kind_of over, bytes) ∷ []) (exit_said (file_said over bytes)) at
      (elim (file_exits over bytes) [
        | inl done ↦ inl done
        | inr more ↦ elim more [
          | inl input ↦ inr (inl (elim input.1 [
            | inl hex ↦ (InHex hex.0, input.0, (bytes, inl (hex.1, refl), hex.2))
            | inr others ↦ elim others [
              | inl asm ↦ (InAsm asm.0, input.0, (bytes, inl (asm.1, refl), asm.2))
              | inr layout ↦ (InLayout layout.0, input.0, (bytes, inl (layout.1, refl), layout.2))
            ]
          ]))
          | inr stop ↦
              let is = ap (λ (c : FileCommand). let k : Option Command = Some (OverFile c) in k) stop.1.1 in
              let hex = ap kind_of stop.1.1 in
              inr (inr (stop.0, inl (stop.1.0, is, bytes, inl (hex, refl), stop.1.2, stop.1.3, stop.1.4, stop.1.5)))
        ]
      ]) (file_faulty n over bytes) (file_stops over bytes)

-- a plan that reads nothing
done_right : (n : ℕ) (command : Option Command) (plan : Plan) (shelf : Shelved)
    → IsReachedBy n command plan shelf [] (λ kind file. ⊥) (λ kind. ⊥) ⊥ ⊥ → IsRight n command plan shelf exits.Done
done_right n command plan shelf at =
    ends_right n command plan shelf [] exits.Done at (inl refl) (λ fault h. absurd (none_faulty n fault h))
    (λ h. absurd (none_stops command h))

abbrev IsNever : Command → Type 0
IsNever command = (files : Files) → Stops (Some command) (In files) → ⊥

never : (command : Command) → ((count : ℕ) → Some command ≡ Some (OverFile (Step count)) → ⊥)
    → ((wanted : BoardRun) → Some command ≡ Some (Board wanted) → ⊥) → IsNever command
never command step board files (inl h) = step h.0 h.1
never command step board files (inr h) = board h.0 h.1

-- the plan of each command
pub right : (n : ℕ) (command : Option Command) (words : List (List ℕ)) (shelf : Shelved)
    → IsRight n command (plan_of command words) shelf (leads n (plan_of command words) shelf)
right n None words shelf =
    (refl, (λ fault h. absurd (none_faulty n fault h)), (λ h. absurd (none_stops None h)))
right n (Some (Feed bytes)) words shelf =
    done_right n (Some (Feed bytes)) (plan_of (Some (Feed bytes)) words) shelf
    (start n (Some (Feed bytes)) (plan_of (Some (Feed bytes)) words) shelf)
right n (Some (Sample count debounced)) words shelf =
    done_right n (Some (Sample count debounced)) (Samples count debounced) shelf (start n (Some (Sample count debounced)) (Samples count debounced) shelf)
right n (Some (OverFile over)) words shelf =
    let plan = plan_of (Some (OverFile over)) words in
    fetched_right n (Some (OverFile over)) plan shelf (kind_of over) (name_in words) (λ bytes. Gives (file_said over bytes)) [] shelf
    (none_faulty n, none_stops (Some (OverFile over))) (λ bytes. file_judged n over plan shelf bytes (after_fetch shelf))
    (start n (Some (OverFile over)) plan shelf)
right n (Some (OverPair Certify)) words shelf =
    let plan = pair_plan Certify (name_in words) (second_in words) in
    cert_right n (Some (OverPair Certify)) plan shelf (never (OverPair Certify) (λ count e. cc) (λ wanted e. cc))
    (name_in words) (second_in words) shelf (start n (Some (OverPair Certify)) plan shelf)
right n (Some (OverPair Spell)) words shelf =
    let plan = pair_plan Spell (name_in words) (second_in words) in
    text_right n (Some (OverPair Spell)) plan shelf (never (OverPair Spell) (λ count e. cc) (λ wanted e. cc))
    (name_in words) (second_in words) shelf (start n (Some (OverPair Spell)) plan shelf)
right n (Some (OverPair (OverRun over))) words shelf =
    let command : Command = OverPair (OverRun over) in
    let plan = plan_of (Some command) words in
    run_right n (Some command) plan shelf (never command (λ count e. cc) (λ wanted e. cc)) over
    (name_in words) (second_in words) shelf (start n (Some command) plan shelf)
right n (Some (Board wanted)) words shelf =
    let plan = plan_of (Some (Board wanted)) words in
    board_right n wanted plan shelf (name_in words) (second_in words) (third_in words) shelf (start n (Some (Board wanted)) plan shelf)
right n (Some Debug) words shelf =
    let plan = plan_of (Some Debug) words in
    debug_right n (Some Debug) plan shelf (never Debug (λ count e. cc) (λ wanted e. cc))
    (name_in words) (second_in words) (third_in words) shelf (start n (Some Debug) plan shelf)
right n (Some (Probe fill)) words shelf =
    let plan = plan_of (Some (Probe fill)) words in
    probe_right n (Some (Probe fill)) plan shelf (never (Probe fill) (λ count e. cc) (λ wanted e. cc)) fill
    (name_in words) (second_in words) (third_in words) (fourth_in words) shelf (start n (Some (Probe fill)) plan shelf)
right n (Some Capture) words shelf =
    let plan = plan_of (Some Capture) words in
    fetched_right n (Some Capture) plan shelf kinds.Vcd (name_in words) (Captures (clock_in words) (data_in words)) [] shelf
    (none_faulty n, none_stops (Some Capture))
    (λ dump. dump_right n (Some Capture) plan shelf (never Capture (λ count e. cc) (λ wanted e. cc)) (clock_in words) (data_in words) dump
    ((kinds.Vcd, dump) ∷ []) (dump_clean n dump))
    (start n (Some Capture) plan shelf)
right n (Some Typed) words shelf =
    let plan = plan_of (Some Typed) words in
    let clk = typed_clock_in words in
    let dat = typed_data_in words in
    let none : IsNever Typed = never Typed (λ count e. cc) (λ wanted e. cc) in
    layout_right n (Some Typed) plan shelf (last n (Some Typed) plan shelf none) [] (inl refl) (typed_next clk dat (third_in words))
    (λ document layout has after.
    fetched_right n (Some Typed) plan shelf kinds.Vcd (third_in words) (Follows layout clk dat) ((kinds.Layout, document) ∷ []) after
    (layout_clean n [] document layout (inl refl) has, none ((kinds.Layout, document) ∷ []))
    (λ dump. dump_right n (Some Typed) plan shelf none clk dat dump ((kinds.Vcd, dump) ∷ (kinds.Layout, document) ∷ [])
    (typed_clean n document dump layout has))) (second_in words) shelf (start n (Some Typed) plan shelf)
