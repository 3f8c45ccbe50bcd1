-- The plans that can't get stuck: `cert`, `type`, `run`, `expect`, `trace`, `debug` and `probe`.
use Rattle.std.proofs.Common.{◌≡◌, ℕ, List, [], ◌∷◌, None, Some, Ok, inl, inr, refl, ap, sym}
use Rattle.std.specs.declared.option.Option.{Option}
use Rattle.debugger.specs.Sessions.{Debuggee, of_layout, of_program, with_fill}
use Rattle.fw_compile.specs.Image.{image_of}
use Rattle.joint_feed.specs.Stories.{story}
use Rattle.hexfile.specs.Hex.{hex_of}
use Rattle.io_edge.specs.Shelf.{Shelved, after_fetch}
use Rattle.key_file.specs.Histories.{KeyHistory}
use Rattle.key_file.specs.KeyFile.{history_of}
use Rattle.layout_reader.specs.Documents.{layout_of_document}
use Rattle.layout_reader.specs.Layouts.{KeyLayout}
use Rattle.law_typed_log.specs.Typing.{first_without}
use Rattle.app_words.specs.declared.exit.Exit.TheVariants as exits
use Rattle.app_words.specs.declared.kind.Kind.TheVariants as kinds
use Rattle.app_words.specs.declared.words.Command.{Command}
use Rattle.app_words.specs.declared.words.PairCommand.TheVariants.{Certify, Spell, OverRun}
use Rattle.app_words.specs.declared.words.RunCommand.{RunCommand}
use Rattle.app_answers.specs.CertTexts.{cert_said}
use Rattle.app_answers.specs.Says.{exit_said}
use Rattle.app_boards.specs.Debugging.{script_fault}
use Rattle.kbd48_app.specs.Causes.{Fault, InCert, InScript, InText, IsFault, exit_at}
use Rattle.kbd48_app.specs.Plans.{Plan, Certifies, Debugs, Runs, Spells, cert_next, debug_next, debug_plan}
use Rattle.kbd48_app.specs.Plans.{pair_plan, probe_plan}
use Rattle.kbd48_app.specs.Plans.{probe_next, program_next, script_next, text_next}
use Rattle.kbd48_app.proofs.CertExits.{cert_exits}
use Rattle.kbd48_app.proofs.ExitsAreRight.{Files, In, IsReachedBy, IsRight, Stops, ends_right, fetched_right}
use Rattle.kbd48_app.proofs.PlansEnd.{exit_by}
use Rattle.kbd48_app.proofs.FilesAndFaults.{IsOlder, older_clean, layout_clean, keys_clean, script_faulty, text_faulty, cert_faulty}
use Rattle.kbd48_app.proofs.FilesReadFirst.{StopsLast, IsRightAfter, image_right, layout_right, history_right}

-- a command that makes no run that could stop
module _ (n : ℕ) (command : Option Command) (plan : Plan) (shelf : Shelved) (never : (files : Files) → Stops command (In files) → ⊥) where
  -- a command that makes no run that could stop stops only after a history was read
  pub last : StopsLast command
  last files h = absurd (never files h)

  -- these files end a plan, with an exit by the first fault of the last one
  by_first : (files : Files) (first : Option (ℕ × ℕ)) (fault : ℕ × ℕ → Fault) (after : Shelved) (rest : Plan)
      → ((place : ℕ × ℕ) → first ≡ Some place → IsFault n (fault place) (In files) × (exit_at (fault place) ≡ exits.Input))
      → ((other : Fault) → IsFault n other (In files) → exit_by first ≡ exit_at other)
      → IsReachedBy n command plan shelf files (λ kind file. ⊥) (λ kind. ⊥) ⊥ ⊥ → IsRight n command plan shelf (exit_by first)
  by_first files None fault after rest is alone at =
      ends_right n command plan shelf files exits.Done at (inl refl) alone (λ h. absurd (never files h))
  by_first files (Some place) fault after rest is alone at =
      let this = is place refl in
      ends_right n command plan shelf files exits.Input at (inr (inl (fault place, sym this.1, this.0))) alone (λ h. absurd (never files h))

  -- `cert`
  cert_judged : (bytes image text : List ℕ) → hex_of bytes ≡ Ok image
      → IsRightAfter n command plan shelf last ((kinds.Cert, text) ∷ (kinds.Hex, bytes) ∷ []) (Certifies image text)
  cert_judged bytes image text is after at =
      ends_right n command plan shelf ((kinds.Cert, text) ∷ (kinds.Hex, bytes) ∷ []) (exit_said (cert_said image text)) at
      (elim (cert_exits image text) [
        | inl done ↦ inl done
        | inr fault ↦
            inr (inl (InCert fault.0, ap exit_said fault.1, (bytes, inr (inl (refl, refl)), image, is, text, inl (refl, refl), fault.1)))
      ]) (cert_faulty n bytes image text is) (λ h. absurd (never ((kinds.Cert, text) ∷ (kinds.Hex, bytes) ∷ []) h))

  -- `cert` ends with the right exit
  pub cert_right : (first second : List ℕ) → IsRightAfter n command plan shelf last [] (pair_plan Certify first second)
  cert_right first second =
      image_right n command plan shelf last (cert_next second)
      (λ bytes image is after.
      fetched_right n command plan shelf kinds.Cert second (Certifies image) ((kinds.Hex, bytes) ∷ []) after
      (older_clean n ((kinds.Hex, bytes) ∷ []) (inr (bytes, image, refl, is)), (λ h. absurd (never ((kinds.Hex, bytes) ∷ []) h)))
      (λ text. cert_judged bytes image text is (after_fetch after))) first

  -- `type` ends with the right exit
  pub text_right : (first second : List ℕ) → IsRightAfter n command plan shelf last [] (pair_plan Spell first second)
  text_right first second =
      layout_right n command plan shelf last [] (inl refl) (text_next second)
      (λ document layout has after.
      fetched_right n command plan shelf kinds.Text second (Spells layout) ((kinds.Layout, document) ∷ []) after
      (layout_clean n [] document layout (inl refl) has, (λ h. absurd (never ((kinds.Layout, document) ∷ []) h)))
      (λ text at.
      by_first ((kinds.Text, text) ∷ (kinds.Layout, document) ∷ []) (first_without layout text) InText after (Spells layout text)
      (λ place e. ((document, inr (inl (refl, refl)), layout, has, text, inl (refl, refl), e), refl))
      (text_faulty n document text layout has) at)) first

  -- `run`, `expect` and `trace` end with the right exit
  pub run_right : (over : RunCommand) (first second : List ℕ) → IsRightAfter n command plan shelf last [] (pair_plan (OverRun over) first second)
  run_right over first second =
      history_right n command plan shelf last [] (inl refl) (Runs over)
      (λ document text layout history has reads after at.
      ends_right n command plan shelf ((kinds.Keys, text) ∷ (kinds.Layout, document) ∷ []) exits.Done at (inl refl)
      (λ fault h. absurd (keys_clean n [] document text layout (inl refl) has history reads fault h)) (λ h. absurd (never ((kinds.Keys, text) ∷ (kinds.Layout, document) ∷ []) h)))
      first second

  -- a script after a layout and a key file
  script_right : (older : Files) → IsOlder older → (name : List ℕ) (s : Debuggee) (document text : List ℕ) (layout : KeyLayout)
      (history : KeyHistory) → layout_of_document document ≡ Ok layout → history_of layout text ≡ Ok history
      → IsRightAfter n command plan shelf last ((kinds.Keys, text) ∷ (kinds.Layout, document) ∷ older) (script_next name s)
  script_right older is name s document text layout history has reads after =
      let files : Files = (kinds.Keys, text) ∷ (kinds.Layout, document) ∷ older in
      fetched_right n command plan shelf kinds.Script name (Debugs s) files after
      (keys_clean n older document text layout is has history reads, (λ h. absurd (never files h)))
      (λ script at.
      by_first ((kinds.Script, script) ∷ files) (script_fault n script) InScript after (Debugs s script)
      (λ place e. ((script, inl (refl, refl), e), refl))
      (script_faulty n older document text layout is has history script reads) at)

  -- `debug` ends with the right exit
  pub debug_right : (first second third : List ℕ) → IsRightAfter n command plan shelf last [] (debug_plan first second third)
  debug_right first second third =
      history_right n command plan shelf last [] (inl refl) (debug_next third)
      (λ document text layout history has reads.
      script_right [] (inl refl) third (of_layout (story (image_of layout) history)) document text layout history has reads)
      first second

  -- `probe` ends with the right exit
  pub probe_right : (fill : ℕ) (first second third fourth : List ℕ)
      → IsRightAfter n command plan shelf last [] (probe_plan fill first second third fourth)
  probe_right fill first second third fourth =
      image_right n command plan shelf last (program_next (probe_next fill fourth) second third)
      (λ bytes image is.
      let older : IsOlder ((kinds.Hex, bytes) ∷ []) = inr (bytes, image, refl, is) in
      history_right n command plan shelf last ((kinds.Hex, bytes) ∷ []) older (λ layout. probe_next fill fourth image)
      (λ document text layout history has reads.
      script_right ((kinds.Hex, bytes) ∷ []) older fourth (with_fill fill (of_program (story image history)))
      document text layout history has reads)
      second third) first
