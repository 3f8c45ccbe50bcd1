-- Plans that fetch the same files, one beside the other: what is so of what follows the files is so of the plans.
use Rattle.std.proofs.Common.{◌≡◌, ℕ, List, Ok, Err}
use Rattle.std.specs.declared.result.Result.{Result}
use Rattle.hexfile.specs.Hex.{HexOutcome, hex_of}
use Rattle.key_file.specs.Histories.{KeyHistory}
use Rattle.key_file.specs.KeyFile.{history_of}
use Rattle.key_file.specs.declared.fault.KeyFault.{KeyFault}
use Rattle.key_file.specs.declared.fault.KeyFault.TheVariants as faults
use Rattle.layout_reader.specs.Documents.{layout_of_document}
use Rattle.layout_reader.specs.Faults.{Refusal as LayoutRefusal}
use Rattle.layout_reader.specs.Layouts.{KeyLayout}
use Rattle.app_words.specs.declared.exit.Exit.TheVariants as exits
use Rattle.app_words.specs.declared.kind.Kind.{Kind}
use Rattle.app_words.specs.declared.kind.Kind.TheVariants as kinds
use Rattle.app_words.specs.declared.refusal.Refusal.{Refusal}
use Rattle.app_words.specs.declared.refusal.Refusal.TheVariants.{Hex, Layout}
use Rattle.app_words.specs.Refusals.{exit_of}
use Rattle.app_answers.specs.FileAnswers.{keys_refusal}
use Rattle.kbd48_app.specs.Plans.{Plan, Fetches, Gives, history_plan, keys_next, program_next, program_plan}
use Rattle.kbd48_app.specs.Plans.{with_history, with_image, with_layout}

-- a key file's refusal isn't that of words
keys_refused : (fault : KeyFault) → exit_of (keys_refusal fault) ≡ exits.Words → ⊥
keys_refused (faults.Input line number) h = cc
keys_refused (faults.Timing line number first second) h = cc
keys_refused faults.Memory h = cc

module _ (P : Plan → Plan → Type 0)
    (fetches : (kind : Kind) (name : List ℕ) (next other : List ℕ → Plan) → ((bytes : List ℕ) → P (next bytes) (other bytes))
    → P (Fetches kind name next) (Fetches kind name other))
    (refused : (refusal : Refusal) → (exit_of refusal ≡ exits.Words → ⊥) → P (Gives (Err refusal)) (Gives (Err refusal))) where
  -- after an image
  pub images : (next other : List ℕ → Plan) → ((image : List ℕ) → P (next image) (other image))
      → (outcome : HexOutcome) → P (with_image next outcome) (with_image other outcome)
  images next other h (Ok image) = h image
  images next other h (Err fault) = refused (Hex fault) (λ e. cc)

  -- after a layout
  pub layouts : (next other : KeyLayout → Plan) → ((layout : KeyLayout) → P (next layout) (other layout))
      → (outcome : Result KeyLayout LayoutRefusal) → P (with_layout next outcome) (with_layout other outcome)
  layouts next other h (Ok layout) = h layout
  layouts next other h (Err fault) = refused (Layout fault.entry fault.number) (λ e. cc)

  -- after a key file
  key_files : (next other : KeyHistory → Plan) → ((history : KeyHistory) → P (next history) (other history))
      → (outcome : Result KeyHistory KeyFault) → P (with_history next outcome) (with_history other outcome)
  key_files next other h (Ok history) = h history
  key_files next other h (Err fault) = refused (keys_refusal fault) (keys_refused fault)

  -- what is so of two plans for each layout and history is so of them over a layout and a key file
  pub histories : (next other : KeyLayout → KeyHistory → Plan)
      → ((layout : KeyLayout) (history : KeyHistory) → P (next layout history) (other layout history))
      → (first second : List ℕ) → P (history_plan next first second) (history_plan other first second)
  histories next other h first second =
      fetches kinds.Layout first (λ bytes. with_layout (keys_next next second) (layout_of_document bytes))
      (λ bytes. with_layout (keys_next other second) (layout_of_document bytes))
      (λ bytes. layouts (keys_next next second) (keys_next other second)
      (λ layout. fetches kinds.Keys second (λ text. with_history (next layout) (history_of layout text))
      (λ text. with_history (other layout) (history_of layout text))
      (λ text. key_files (next layout) (other layout) (h layout) (history_of layout text)))
      (layout_of_document bytes))

  -- what is so of two plans for each image and history is so of them over a program, a layout and a key file
  pub programs : (next other : List ℕ → KeyHistory → Plan)
      → ((image : List ℕ) (history : KeyHistory) → P (next image history) (other image history))
      → (first second third : List ℕ) → P (program_plan next first second third) (program_plan other first second third)
  programs next other h first second third =
      fetches kinds.Hex first (λ bytes. with_image (program_next next second third) (hex_of bytes))
      (λ bytes. with_image (program_next other second third) (hex_of bytes))
      (λ bytes. images (program_next next second third) (program_next other second third)
      (λ image. histories (λ layout. next image) (λ layout. other image) (λ layout. h image) second third) (hex_of bytes))
