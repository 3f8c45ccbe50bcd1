-- What `board` may say of three files.
use Rattle.std.proofs.Common.{◌≡◌, ℕ, List, Global, Ok, Err, refl, sym, subst}
use Rattle.std.specs.Option.{option_map}
use Rattle.std.specs.Result.{IsErrAnd}
use Rattle.std.specs.declared.option.Option.{Option}
use Rattle.std.specs.declared.result.Result.{Result}
use Rattle.std.specs.declared.vec.Vec.{Vec}
use Rattle.run_probes.specs.Probes.{Watch}
use Rattle.hexfile.specs.Hex.{HexOutcome, hex_of}
use Rattle.io_edge.specs.Said.{Shown}
use Rattle.io_edge.specs.Shelf.{Shelved, after_fetch}
use Rattle.key_file.specs.Histories.{KeyHistory}
use Rattle.key_file.specs.KeyFile.{history_of}
use Rattle.layout_reader.specs.Documents.{layout_of_document}
use Rattle.layout_reader.specs.Layouts.{KeyLayout}
use Rattle.app_words.specs.declared.kind.Kind.TheVariants as kinds
use Rattle.app_words.specs.declared.refusal.Refusal.{Refusal}
use Rattle.app_answers.specs.declared.spoken.Spoken.{Spoken}
use Rattle.app_words.specs.declared.words.BoardRun.{BoardRun}
use Rattle.app_answers.specs.Leaving.{Left}
use Rattle.kbd48_app.specs.Answers.{MayEnd}
use Rattle.app_answers.specs.Fetching.{MayGive}
use Rattle.app_answers.specs.FileAnswers.{Answer}
use Rattle.kbd48_app.specs.Plans.{Plan, Boards, keys_next, program_next, program_plan, with_history, with_image}
use Rattle.kbd48_app.specs.Plans.{with_layout}
use Rattle.app_answers.specs.Spoken.{IsSpoken}
use Rattle.app_answers.specs.Taking.{Taking}
use Rattle.app_boards.specs.BoardOfText.{MaySayOfBoard}
use Rattle.app_boards.proofs.BoardsAreSaid.{MayRun}
use Rattle.kbd48_app.proofs.FilesAreFound.{end_of_history, found_so, keys_unfound}
use Rattle.kbd48_app.proofs.RunPlans.{LayoutOutcome, plan_from}
use Rattle.app_answers.proofs.AreSpoken.{spoken_on, left_after, left_so}

-- after all three files
module _ (wanted : BoardRun) (first second third : List ℕ) (shelf on mid last : Option Shelved)
    (file document keys : Vec ℕ Global) (image : List ℕ) (layout : KeyLayout) (text : List ℕ)
    (gives : MayGive kinds.Hex first shelf (Ok file)) (fetched : on ≡ option_map after_fetch shelf) (is : hex_of file.items ≡ Ok image)
    (gives' : MayGive kinds.Layout second on (Ok document)) (fetched' : mid ≡ option_map after_fetch on)
    (has : layout_of_document document.items ≡ Ok layout)
    (gives'' : MayGive kinds.Keys third mid (Ok keys)) (fetched'' : last ≡ option_map after_fetch mid) (same : text ≡ keys.items) where
  over_three : (answer : Answer) (probes : List Watch) (left : Left) → MaySayOfBoard wanted image layout text answer probes left
      → MayEnd (program_plan (Boards wanted) first second third) shelf answer last probes left
  over_three answer probes left says_so =
      let next : KeyLayout → KeyHistory → Plan = λ of. Boards wanted image in
      found_so kinds.Hex first (λ b. with_image (program_next (Boards wanted) second third) (hex_of b))
      shelf on last answer probes left file gives fetched
      (subst (λ (o : HexOutcome). MayEnd (with_image (program_next (Boards wanted) second third) o) on answer last probes left) (sym is)
      (found_so kinds.Layout second (plan_from next third) on mid last answer probes left document gives' fetched'
      (subst (λ (o : LayoutOutcome). MayEnd (with_layout (keys_next next third) o) mid answer last probes left) (sym has)
      (found_so kinds.Keys third (λ t. with_history (Boards wanted image) (history_of layout t)) mid
      last last answer probes left keys gives'' fetched''
      (subst (λ (t : List ℕ). MayEnd (with_history (Boards wanted image) (history_of layout t)) last answer last probes left)
      same (end_of_history (MayRun wanted image probes) (Boards wanted image) last answer probes left (λ history h. (h, refl))
      (history_of layout text) says_so))))))

  -- what a run on the board puts is what `board` may answer of its three files
  pub three_spoken : (probes left : List Watch) (result : Result Spoken Refusal) (x y : Shown)
      → IsSpoken (λ answer taking log. MaySayOfBoard wanted image layout text answer probes (left_after left taking log)) result x y
      → IsSpoken (λ answer taking log.
      MayEnd (program_plan (Boards wanted) first second third) shelf answer last probes (left_after left taking log)) result x y
  three_spoken probes left result x y h =
      spoken_on (λ answer taking log. MaySayOfBoard wanted image layout text answer probes (left_after left taking log))
      (λ answer taking log. MayEnd (program_plan (Boards wanted) first second third) shelf answer last probes (left_after left taking log))
      (λ answer taking log k. over_three answer probes (left_after left taking log) k) result x y h

-- the key file wasn't fetched
module _ (wanted : BoardRun) (first second third : List ℕ) (shelf on mid last : Option Shelved)
    (file document : Vec ℕ Global) (image : List ℕ) (layout : KeyLayout)
    (gives : MayGive kinds.Hex first shelf (Ok file)) (fetched : on ≡ option_map after_fetch shelf) (is : hex_of file.items ≡ Ok image)
    (gives' : MayGive kinds.Layout second on (Ok document)) (fetched' : mid ≡ option_map after_fetch on)
    (has : layout_of_document document.items ≡ Ok layout)
    (refusal : Refusal) (gives'' : MayGive kinds.Keys third mid (Err refusal))
    (fetched'' : last ≡ option_map after_fetch mid) (probes : List Watch) where
  without_keys : (taking : Taking)
      → MayEnd (program_plan (Boards wanted) first second third) shelf (Err refusal) last probes (left_so probes taking)
  without_keys taking =
      keys_unfound (Boards wanted) first second third shelf on mid last file document image layout gives fetched is
      gives' fetched' has refusal gives'' fetched'' probes (left_so probes taking) refl refl

  -- if the key file isn't fetched, `board` refuses it, and nothing is said
  pub keys_unread : (result : Result Spoken Refusal) (x : Shown) → IsErrAnd result (λ (r : Refusal). r ≡ refusal)
      → IsSpoken (λ answer taking log.
      MayEnd (program_plan (Boards wanted) first second third) shelf answer last probes (left_after probes taking log)) result x x
  keys_unread (Ok said) x same = absurd same
  keys_unread (Err r) x same =
      subst (λ (k : Refusal).
      IsSpoken (λ answer taking log.
      MayEnd (program_plan (Boards wanted) first second third) shelf answer last probes (left_after probes taking log))
      (Err k) x x)
      (sym same) (without_keys, refl)
