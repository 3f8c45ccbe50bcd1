-- What lines come to, the first of which is taken or refused.
use Rattle.std.proofs.Common.{◌≡◌, ◌≤◌, ℕ, ◌+◌, List, ◌∷◌, length, Ok, Err, refl, ap, ◌∙◌, suc, arith}
use Rattle.std.specs.Str.Lines.{lines}
use Rattle.std.specs.declared.result.Result.{Result}
use Rattle.layout_reader.specs.Layouts.{KeyLayout}
use Rattle.first_fault.specs.FirstFault.{outcome_from}
use Rattle.key_file.specs.declared.rule.Rule.{Rule}
use Rattle.key_file.specs.declared.fault.KeyFault.{KeyFault}
use Rattle.key_file.specs.declared.brief.Brief.{Brief as Kept}
use Rattle.key_file.specs.Histories.{KeyHistory, Before, at_first}
use Rattle.key_file.specs.Keeps.{IsBriefOf, IsBriefAfter}
use Rattle.key_file.specs.KeyFile.{history_of, take_line, finish, placed_fault, with_fault_placed}
use Rattle.key_file.proofs.Sound.{IsSound, sound-first}
use Rattle.key_file.proofs.Taken.{sound-line}

-- what lines come to, the first of which has this number
abbrev pub judged : KeyLayout → ℕ → Before → List (List ℕ) → Result KeyHistory KeyFault
judged layout number before texts = with_fault_placed (outcome_from (take_line layout) finish number before texts)

-- a line that is taken
judged-taken : (layout : KeyLayout) (number : ℕ) (before after : Before) (line : List ℕ) (more : List (List ℕ))
    → take_line layout before line ≡ Ok after → judged layout number before (line ∷ more) ≡ judged layout (number + 1) after more
judged-taken layout number before after line more h = rw h refl

-- a line that is refused
judged-refused : (layout : KeyLayout) (number : ℕ) (before : Before) (line : List ℕ) (more : List (List ℕ)) (rule : Rule)
    → take_line layout before line ≡ Err rule → judged layout number before (line ∷ more) ≡ Err (placed_fault number rule)
judged-refused layout number before line more rule h = rw h refl

-- the file comes to what its other lines come to after those so far, which are sound, and what is kept is what the rules
-- ask of these
pub record HasCome (layout : KeyLayout) (text : List ℕ) (number : ℕ) (rest : List ℕ) (brief : Kept) : Type 0 where
  pub before : Before
  pub kept : IsBriefOf before brief
  pub meaning : history_of layout text ≡ judged layout number before (lines rest)
  pub number_in_range : number + length rest ≤ 1 + length text
  pub sound : IsSound layout before

-- before the first line nothing is read, and the whole text is left
pub come-first : (layout : KeyLayout) (text : List ℕ) (brief : Kept) → IsBriefOf at_first brief → HasCome layout text 1 text brief
unfolding history_of
come-first layout text brief kept = record {
  before = at_first;
  kept = kept;
  meaning = refl;
  number_in_range = omega arith;
  sound = sound-first layout;
}

module _ (layout : KeyLayout) (text : List ℕ) (number : ℕ) (rest after line : List ℕ)
    (brief : Kept) (h : HasCome layout text number rest brief)
    (first : lines rest ≡ line ∷ lines after) where
  -- after a line that is taken the reading goes on with the next
  pub come-next : (later : Kept)
      → suc (length after) ≤ length rest → IsBriefAfter layout h.before line later → HasCome layout text (number + 1) after later
  come-next later shorter taken = record {
    before = taken.after;
    kept = taken.brief;
    meaning = h.meaning ∙ ap (judged layout number h.before) first
        ∙ judged-taken layout number h.before taken.after line (lines after) taken.taken;
    number_in_range = omega (arith, shorter, h.number_in_range);
    sound = sound-line layout h.before taken.after line h.sound taken.taken;
  }

  -- a line with a fault is the text's first fault
  pub come-fault : (rule : Rule) → take_line layout h.before line ≡ Err rule → history_of layout text ≡ Err (placed_fault number rule)
  come-fault rule refused =
      h.meaning ∙ ap (judged layout number h.before) first ∙ judged-refused layout number h.before line (lines after) rule refused
