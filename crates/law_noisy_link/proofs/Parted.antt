-- What was taken off the line came right, or was given up, or was asked for again.
use Rattle.std.proofs.Common.{◌≡◌, ℕ, zero, suc, ◌+◌, List, [], ◌∷◌, ◌++◌, Bool, true, false, Some, None, refl, sym, append_assoc}
use Rattle.std.specs.Prelude.{if◌then◌else◌, nat_lt}
use Rattle.std.specs.declared.option.Option.{Option}
use Rattle.std.specs.List.Sorted.{IsPermutation}
use Rattle.std.proofs.lemmas.List.Sorted.{IsPermutation-refl, IsPermutation-append_left, IsPermutation-append_right, IsPermutation-trans}
use Rattle.model_controller.specs.declared.meeting.Meeting.{Meeting}
use Rattle.model_controller.specs.declared.meeting.Meeting.TheVariants.{Got, Inhibited, Idle, Sent, Cut}
use Rattle.key_file.specs.Histories.{KeyHistory}
use Rattle.layout_reader.specs.Layouts.{KeyLayout}
use Rattle.law_quiet_log.specs.Once.{arrived, meeting_at, all_arrived}
use Rattle.law_quiet_log.proofs.EachOnce.{same_order, moved_first}
use Rattle.law_noisy_link.specs.Fates.{Fate, Again, GivenUp, fate_of, flip_in, side_before, wrong_before, fate_at, right}
use Rattle.law_noisy_link.specs.Fates.{given_up, asked_again, all_right, all_given_up, all_asked_again}

-- the byte of a tick, by its fate
parts_wrong : (few : Bool) (byte : ℕ)
    → byte ∷ [] ≡ right (if few then Again byte else GivenUp byte)
    ++ (given_up (if few then Again byte else GivenUp byte) ++ asked_again (if few then Again byte else GivenUp byte))
parts_wrong true byte = refl
parts_wrong false byte = refl

parts : (meeting : Meeting) (flip : Option ℕ) (wrong : ℕ)
    → arrived meeting
    ≡ right (fate_of meeting flip wrong) ++ (given_up (fate_of meeting flip wrong) ++ asked_again (fate_of meeting flip wrong))
parts (Got byte) flip wrong = refl
parts Inhibited flip wrong = refl
parts Idle flip wrong = refl
parts (Sent byte) None wrong = refl
parts (Sent byte) (Some bit) wrong = parts_wrong (nat_lt wrong 3) byte
parts Cut flip wrong = refl

-- lists in parts, with one more of each
swaps : (a b c d : List ℕ) → IsPermutation ((a ++ b) ++ (c ++ d)) ((a ++ c) ++ (b ++ d))
swaps a b c d =
    IsPermutation-trans ((a ++ b) ++ (c ++ d)) (a ++ (b ++ (c ++ d))) ((a ++ c) ++ (b ++ d))
    (same_order ((a ++ b) ++ (c ++ d)) (a ++ (b ++ (c ++ d))) (append_assoc a b (c ++ d)))
    (IsPermutation-trans (a ++ (b ++ (c ++ d))) (a ++ (c ++ (b ++ d))) ((a ++ c) ++ (b ++ d))
    (IsPermutation-append_right a (b ++ (c ++ d)) (c ++ (b ++ d)) (moved_first b c d))
    (same_order (a ++ (c ++ (b ++ d))) ((a ++ c) ++ (b ++ d)) (sym (append_assoc a c (b ++ d)))))

one_more : (all a r g k r' g' k' : List ℕ)
    → IsPermutation all (r ++ (g ++ k)) → a ≡ r' ++ (g' ++ k') → IsPermutation (all ++ a) ((r ++ r') ++ ((g ++ g') ++ (k ++ k')))
one_more all a r g k r' g' k' h e =
    let both : List ℕ = (r ++ (g ++ k)) ++ (r' ++ (g' ++ k')) in
    let first : IsPermutation (all ++ a) both =
    IsPermutation-trans (all ++ a) ((r ++ (g ++ k)) ++ a) both
    (IsPermutation-append_left a all (r ++ (g ++ k)) h)
    (IsPermutation-append_right (r ++ (g ++ k)) a (r' ++ (g' ++ k')) (same_order a (r' ++ (g' ++ k')) e)) in
    IsPermutation-trans (all ++ a) both ((r ++ r') ++ ((g ++ g') ++ (k ++ k'))) first
    (IsPermutation-trans both ((r ++ r') ++ ((g ++ k) ++ (g' ++ k'))) ((r ++ r') ++ ((g ++ g') ++ (k ++ k')))
    (swaps r (g ++ k) r' (g' ++ k'))
    (IsPermutation-append_right (r ++ r') ((g ++ k) ++ (g' ++ k')) ((g ++ g') ++ (k ++ k')) (swaps g k g' k')))

-- each byte that was taken off the line came right, was given up, or was asked for again
pub parted : (layout : KeyLayout) (history : KeyHistory) (starts : ℕ → ℕ) (n count : ℕ)
    → IsPermutation (all_arrived layout history starts n count)
    (all_right layout history starts n count
    ++ (all_given_up layout history starts n count ++ all_asked_again layout history starts n count))
parted layout history starts n zero = IsPermutation-refl []
parted layout history starts n (suc count) =
    let j : ℕ = count + n in
    let fate : Fate = fate_at layout history starts j in
    one_more (all_arrived layout history starts n count) (arrived (meeting_at layout history starts j))
    (all_right layout history starts n count) (all_given_up layout history starts n count) (all_asked_again layout history starts n count)
    (right fate) (given_up fate) (asked_again fate)
    (parted layout history starts n count)
    (parts (meeting_at layout history starts j) (flip_in (side_before layout history starts j).port.link)
    (wrong_before layout history starts j))
