-- After files that were found.
use Rattle.std.proofs.Common.{◌≡◌, ℕ, List, [], Global, Ok, Err, inl, inr, refl, ap, subst, sym, ◌∙◌}
use Rattle.std.specs.Option.{option_map}
use Rattle.std.specs.Result.{IsErrAnd}
use Rattle.std.specs.declared.option.Option.{Option}
use Rattle.std.specs.declared.result.Result.{Result}
use Rattle.std.specs.declared.vec.Vec.{Vec}
use Rattle.run_probes.specs.Probes.{Watch}
use Rattle.debugger.specs.Sessions.{Debuggee}
use Rattle.hexfile.specs.Hex.{HexOutcome, hex_of}
use Rattle.io_edge.specs.Shelf.{Shelved, Fetched, Fails, Long, Found, after_fetch}
use Rattle.key_file.specs.Histories.{KeyHistory}
use Rattle.key_file.specs.KeyFile.{history_of}
use Rattle.layout_reader.specs.Documents.{layout_of_document}
use Rattle.layout_reader.specs.Layouts.{KeyLayout}
use Rattle.app_words.specs.declared.kind.Kind.{Kind}
use Rattle.app_words.specs.declared.kind.Kind.TheVariants as kinds
use Rattle.app_words.specs.declared.refusal.Refusal.{Refusal}
use Rattle.app_boards.specs.SessionAnswers.{MayAnswerDebug}
use Rattle.kbd48_app.specs.Answers.{MayEnd}
use Rattle.app_answers.specs.Fetching.{MayFetch, IsGiven, MayGive}
use Rattle.app_answers.specs.Leaving.{Left, OfHistory}
use Rattle.app_answers.specs.Answers.{answer_of}
use Rattle.app_words.specs.Kinds.{limit_of}
use Rattle.app_answers.specs.FileAnswers.{Answer}
use Rattle.kbd48_app.specs.Plans.{Plan, Debugs, Fetches, history_plan, keys_next, program_next}
use Rattle.kbd48_app.specs.Plans.{program_plan, script_next, with_history, with_image, with_layout}
use Rattle.kbd48_app.proofs.RunPlans.{Afterwards, program_from}
use Rattle.kbd48_app.proofs.RunPlans.{Following, HistoryOutcome, LayoutOutcome, plan_from}

found_by : (kind : Kind) (name : List ℕ) (next : List ℕ → Plan) (shelf on after : Option Shelved) (answer : Answer) (probes : List Watch)
    (left : Left) (file : Vec ℕ Global) (outcome : Fetched) → MayFetch shelf name (limit_of kind) outcome → IsGiven kind outcome (Ok file)
    → on ≡ option_map after_fetch shelf
    → MayEnd (next file.items) on answer after probes left → MayEnd (Fetches kind name next) shelf answer after probes left
found_by kind name next shelf on after answer probes left file Fails may given fetched h = absurd given
found_by kind name next shelf on after answer probes left file Long may given fetched h = absurd given
found_by kind name next shelf on after answer probes left file (Found bytes) may given fetched h = (
  Found bytes,
  may,
  inr (subst (λ (b : List ℕ). MayEnd (next b) (option_map after_fetch shelf) answer after probes left) given
      (subst (λ (o : Option Shelved). MayEnd (next file.items) o answer after probes left) fetched h)),
)

-- after one file
pub found_so : (kind : Kind) (name : List ℕ) (next : List ℕ → Plan) (shelf on after : Option Shelved) (answer : Answer) (probes : List Watch)
    (left : Left) (file : Vec ℕ Global) → MayGive kind name shelf (Ok file) → on ≡ option_map after_fetch shelf
    → MayEnd (next file.items) on answer after probes left → MayEnd (Fetches kind name next) shelf answer after probes left
found_so kind name next shelf on after answer probes left file gives fetched h =
    found_by kind name next shelf on after answer probes left file gives.0 gives.1 gives.2 fetched h

unfound_by : (kind : Kind) (name : List ℕ) (next : List ℕ → Plan) (shelf on : Option Shelved) (answer : Answer) (probes : List Watch)
    (left : Left) (refusal : Refusal) (outcome : Fetched) → MayFetch shelf name (limit_of kind) outcome → IsGiven kind outcome (Err refusal)
    → on ≡ option_map after_fetch shelf
    → answer ≡ Err refusal → left.probes ≡ probes → left.log ≡ [] → MayEnd (Fetches kind name next) shelf answer on probes left
unfound_by kind name next shelf on answer probes left refusal Fails may given fetched same kept alone =
    (Fails, may, (same ∙ ap (λ (r : Refusal). Err r) given, (fetched, kept, alone)))
unfound_by kind name next shelf on answer probes left refusal Long may given fetched same kept alone =
    (Long, may, (same ∙ ap (λ (r : Refusal). Err r) given, (fetched, kept, alone)))
unfound_by kind name next shelf on answer probes left refusal (Found bytes) may given fetched same kept alone =
    (Found bytes, may, inl (same ∙ ap (λ (r : Refusal). Err r) given, (fetched, kept, alone)))

-- one that wasn't fetched ends it
pub unfound : (kind : Kind) (name : List ℕ) (next : List ℕ → Plan) (shelf on : Option Shelved) (answer : Answer) (probes : List Watch)
    (left : Left) (refusal : Refusal) → MayGive kind name shelf (Err refusal) → on ≡ option_map after_fetch shelf
    → answer ≡ Err refusal → left.probes ≡ probes → left.log ≡ [] → MayEnd (Fetches kind name next) shelf answer on probes left
unfound kind name next shelf on answer probes left refusal gives fetched same kept alone =
    unfound_by kind name next shelf on answer probes left refusal gives.0 gives.1 gives.2 fetched same kept alone

-- what may be said of a key file is how the plan that reads it ends
pub end_of_history : (may : KeyHistory → Answer → Left → Type 0) (next : KeyHistory → Plan) (shelf : Option Shelved)
    (answer : Answer) (probes : List Watch) (left : Left)
    → ((history : KeyHistory) → may history answer left → MayEnd (next history) shelf answer shelf probes left)
    → (outcome : HistoryOutcome) → OfHistory may outcome answer probes left
    → MayEnd (with_history next outcome) shelf answer shelf probes left
end_of_history may next shelf answer probes left on (Ok history) h = on history h
end_of_history may next shelf answer probes left on (Err fault) h = (h.0, (refl, h.1, h.2))

-- after a layout and a key file without a fault
pub both_found : (first second : List ℕ) (next : Following) (shelf on on' after : Option Shelved) (answer : Answer) (probes : List Watch)
    (left : Left) (file text : Vec ℕ Global) (layout : KeyLayout) (history : KeyHistory) → MayGive kinds.Layout first shelf (Ok file)
    → on ≡ option_map after_fetch shelf → layout_of_document file.items ≡ Ok layout → MayGive kinds.Keys second on (Ok text)
    → on' ≡ option_map after_fetch on → history_of layout text.items ≡ Ok history
    → MayEnd (next layout history) on' answer after probes left → MayEnd (history_plan next first second) shelf answer after probes left
both_found first second next shelf on on' after answer probes left file text layout history gives fetched is gives' fetched' has h =
    found_so kinds.Layout first (plan_from next second) shelf on after answer probes left file gives fetched
    (subst (λ (o : LayoutOutcome). MayEnd (with_layout (keys_next next second) o) on answer after probes left) (sym is)
    (found_so kinds.Keys second (λ t. with_history (next layout) (history_of layout t)) on on' after answer probes left text gives' fetched'
    (subst (λ (o : HistoryOutcome). MayEnd (with_history (next layout) o) on' answer after probes left) (sym has) h)))

-- after an image without a fault
pub image_found : (first second third : List ℕ) (next : Afterwards) (shelf on after : Option Shelved) (answer : Answer) (probes : List Watch)
    (left : Left) (file : Vec ℕ Global) (image : List ℕ) → MayGive kinds.Hex first shelf (Ok file) → on ≡ option_map after_fetch shelf
    → hex_of file.items ≡ Ok image → MayEnd (program_next next second third image) on answer after probes left
    → MayEnd (program_plan next first second third) shelf answer after probes left
image_found first second third next shelf on after answer probes left file image gives fetched is h =
    found_so kinds.Hex first (program_from next second third) shelf on after answer probes left file gives fetched
    (subst (λ (o : HexOutcome). MayEnd (with_image (program_next next second third) o) on answer after probes left) (sym is) h)

-- after an image and a layout without a fault, where the key file wasn't fetched
module _ (next : Afterwards) (first second third : List ℕ) (shelf on mid last : Option Shelved) (file document : Vec ℕ Global)
    (image : List ℕ) (layout : KeyLayout)
    (gives : MayGive kinds.Hex first shelf (Ok file)) (fetched : on ≡ option_map after_fetch shelf) (is : hex_of file.items ≡ Ok image)
    (gives' : MayGive kinds.Layout second on (Ok document)) (fetched' : mid ≡ option_map after_fetch on)
    (has : layout_of_document document.items ≡ Ok layout)
    (refusal : Refusal) (gives'' : MayGive kinds.Keys third mid (Err refusal)) (fetched'' : last ≡ option_map after_fetch mid)
    (probes : List Watch) (left : Left) (kept : left.probes ≡ probes) (alone : left.log ≡ []) where
  -- if the key file isn't fetched, a plan over a program, a layout and a key file ends with that refusal
  pub keys_unfound : MayEnd (program_plan next first second third) shelf (Err refusal) last probes left
  keys_unfound =
      let afterwards : Following = λ of. next image in
      image_found first second third next shelf on last (Err refusal) probes left file image gives fetched is
      (found_so kinds.Layout second (plan_from afterwards third) on mid last (Err refusal) probes left document gives' fetched'
      (subst (λ (o : LayoutOutcome). MayEnd (with_layout (keys_next afterwards third) o) mid (Err refusal) last probes left) (sym has)
      (unfound kinds.Keys third (λ t. with_history (afterwards layout) (history_of layout t)) mid last (Err refusal)
      probes left refusal gives'' fetched'' refl kept alone)))

  -- if the key file isn't fetched, the fetch's result is the answer of a plan over a program, a layout and a key file
  pub keys_unfound_by : (result : Result (Vec ℕ Global) Refusal) → IsErrAnd result (λ (r : Refusal). r ≡ refusal)
      → MayEnd (program_plan next first second third) shelf (answer_of result) last probes left
  keys_unfound_by (Ok text) same = absurd same
  keys_unfound_by (Err r) same =
      subst (λ (k : Refusal). MayEnd (program_plan next first second third) shelf (Err k) last probes left) (sym same) keys_unfound

-- a script after what is debugged, by what that is
pub script_of : (s t : Debuggee) (name : List ℕ) (shelf after : Option Shelved) (answer : Answer) (probes : List Watch) (left : Left)
    → s ≡ t → MayEnd (script_next name s) shelf answer after probes left → MayEnd (script_next name t) shelf answer after probes left
script_of s t name shelf after answer probes left is h =
    subst (λ (d : Debuggee). MayEnd (script_next name d) shelf answer after probes left) is h

-- a script is obeyed, and no file is fetched after it
pub debugged : (s : Debuggee) (text script : List ℕ) (answer : Answer) (probes : List Watch) (left : Left) (shelf : Option Shelved)
    → text ≡ script → left.log ≡ [] → MayAnswerDebug s text answer probes left → MayEnd (Debugs s script) shelf answer shelf probes left
debugged s text script answer probes left shelf is alone h =
    (subst (λ (t : List ℕ). MayAnswerDebug s t answer probes left) is h, refl, alone)
