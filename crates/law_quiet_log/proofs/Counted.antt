-- Over any ticks each byte that waited or came to wait has arrived, or was taken away, or waits still.
use Rattle.std.proofs.Common.{◌≡◌, ℕ, suc, zero, ◌+◌, ◌-◌, List, [], ◌∷◌, ◌++◌, length, drop, refl}
use Rattle.std.proofs.Common.{ap, sym, ◌∙◌, subst, arith, append_assoc, append-nil}
use Rattle.std.specs.List.Sorted.{IsPermutation}
use Rattle.std.proofs.lemmas.List.Sorted.{IsPermutation-append_left, IsPermutation-append_right, IsPermutation-trans}
use Rattle.model_controller.specs.declared.meeting.Meeting.{Meeting}
use Rattle.key_file.specs.Histories.{KeyHistory}
use Rattle.layout_reader.specs.Layouts.{KeyLayout}
use Rattle.model_keyboard.specs.Keyboard.{Keyboard}
use Rattle.model_keyboard.specs.Once.{waiting}
use Rattle.model_link.specs.TickEdges.{tick_edges}
use Rattle.law_quiet_log.specs.Once.{arrived, taken_away, left, put_before, Passes, at_tick}
use Rattle.law_quiet_log.specs.Once.{meeting_at, came, all_arrived, all_taken_away, all_came}
use Rattle.law_quiet_log.proofs.EachOnce.{same_order, moved_first, each_byte_once}
use Rattle.law_quiet_log.proofs.Silent.{silent_in_test}

-- what is after a list is what is left when that is dropped
after_dropped : (xs more : List ℕ) → drop (length xs) (xs ++ more) ≡ more
after_dropped [] more = refl
after_dropped (x ∷ xs) more = after_dropped xs more

-- what waits after a tick: the rest, and what came
waits_then : (meeting : Meeting) (before after : Keyboard) → Passes meeting before after
    → IsPermutation (left meeting before ++ came meeting before after) (waiting after)
waits_then meeting before after p =
    let first : List ℕ = put_before meeting before after in
    let rest : List ℕ = left meeting before in
    let more : List ℕ = p.rest.more in
    let d : drop (length (first ++ rest)) (waiting after) ≡ more =
    ap (λ v. drop (length (first ++ rest)) v) p.rest.is ∙ after_dropped (first ++ rest) more in
    subst (λ v. IsPermutation (rest ++ (first ++ v)) (waiting after)) (sym d)
    (IsPermutation-trans (rest ++ (first ++ more)) (first ++ (rest ++ more)) (waiting after)
    (moved_first rest first more)
    (same_order (first ++ (rest ++ more)) (waiting after) (sym (append_assoc first rest more) ∙ sym p.rest.is)))

-- a tick more: what arrived in it, what it took away, and what waits after it
one_more : (before all gone now a d rest new next : List ℕ) → IsPermutation before (all ++ (gone ++ now))
    → IsPermutation now (a ++ (d ++ rest)) → IsPermutation (rest ++ new) next
    → IsPermutation (before ++ new) ((all ++ a) ++ ((gone ++ d) ++ next))
one_more before all gone now a d rest new next h n w =
    let tail : List ℕ = d ++ (rest ++ new) in
    let goes : IsPermutation (now ++ new) (a ++ tail) =
    IsPermutation-trans (now ++ new) ((a ++ (d ++ rest)) ++ new) (a ++ tail)
    (IsPermutation-append_left new now (a ++ (d ++ rest)) n)
    (same_order ((a ++ (d ++ rest)) ++ new) (a ++ tail)
    (append_assoc a (d ++ rest) new ∙ ap (λ v. a ++ v) (append_assoc d rest new))) in
    let sorted : IsPermutation (gone ++ (now ++ new)) (a ++ (gone ++ tail)) =
    IsPermutation-trans (gone ++ (now ++ new)) (gone ++ (a ++ tail)) (a ++ (gone ++ tail))
    (IsPermutation-append_right gone (now ++ new) (a ++ tail) goes) (moved_first gone a tail) in
    let waits : IsPermutation (gone ++ tail) ((gone ++ d) ++ next) =
    IsPermutation-trans (gone ++ tail) ((gone ++ d) ++ (rest ++ new)) ((gone ++ d) ++ next)
    (same_order (gone ++ tail) ((gone ++ d) ++ (rest ++ new)) (sym (append_assoc gone d (rest ++ new))))
    (IsPermutation-append_right (gone ++ d) (rest ++ new) next w) in
    let whole : IsPermutation (gone ++ (now ++ new)) (a ++ ((gone ++ d) ++ next)) =
    IsPermutation-trans (gone ++ (now ++ new)) (a ++ (gone ++ tail)) (a ++ ((gone ++ d) ++ next)) sorted
    (IsPermutation-append_right a (gone ++ tail) ((gone ++ d) ++ next) waits) in
    IsPermutation-trans (before ++ new) (all ++ (gone ++ (now ++ new))) ((all ++ a) ++ ((gone ++ d) ++ next))
    (IsPermutation-trans (before ++ new) ((all ++ (gone ++ now)) ++ new) (all ++ (gone ++ (now ++ new)))
    (IsPermutation-append_left new before (all ++ (gone ++ now)) h)
    (same_order ((all ++ (gone ++ now)) ++ new) (all ++ (gone ++ (now ++ new)))
    (append_assoc all (gone ++ now) new ∙ ap (λ v. all ++ v) (append_assoc gone now new))))
    (IsPermutation-trans (all ++ (gone ++ (now ++ new))) (all ++ (a ++ ((gone ++ d) ++ next)))
    ((all ++ a) ++ ((gone ++ d) ++ next))
    (IsPermutation-append_right all (gone ++ (now ++ new)) (a ++ ((gone ++ d) ++ next)) whole)
    (same_order (all ++ (a ++ ((gone ++ d) ++ next))) ((all ++ a) ++ ((gone ++ d) ++ next))
    (sym (append_assoc all a ((gone ++ d) ++ next)))))

-- over ticks in a row
pub all_counted : (layout : KeyLayout) (history : KeyHistory) (starts : ℕ → ℕ) (n count : ℕ)
    → IsPermutation (waiting (at_tick layout history starts n).keys.keyboard ++ all_came layout history starts n count)
    (all_arrived layout history starts n count
    ++ (all_taken_away layout history starts n count ++ waiting (at_tick layout history starts (count + n)).keys.keyboard))
all_counted layout history starts n zero =
    let w : List ℕ = waiting (at_tick layout history starts n).keys.keyboard in
    let z : n ≡ zero + n = omega arith in
    same_order (w ++ []) (waiting (at_tick layout history starts (zero + n)).keys.keyboard)
    (append-nil w ∙ ap (λ v. waiting (at_tick layout history starts v).keys.keyboard) z)
all_counted layout history starts n (suc count) =
    let m : ℕ = count + n in
    let z : suc m ≡ suc count + n = omega arith in
    let k : Keyboard = (at_tick layout history starts m).keys.keyboard in
    let meeting : Meeting = meeting_at layout history starts m in
    let w : List ℕ = waiting (at_tick layout history starts n).keys.keyboard in
    let so_far : List ℕ = all_came layout history starts n count in
    let all : List ℕ = all_arrived layout history starts n count in
    let gone : List ℕ = all_taken_away layout history starts n count in
    let p : Passes meeting k (at_tick layout history starts (suc m)).keys.keyboard =
    each_byte_once layout history.host (tick_edges starts history.edges m) (4096 + starts m)
    (starts (suc m) - starts m - 609) (at_tick layout history starts m) (silent_in_test layout history starts m) in
    let step : (v : ℕ) → Passes meeting k (at_tick layout history starts v).keys.keyboard
    → IsPermutation (w ++ (so_far ++ came meeting k (at_tick layout history starts v).keys.keyboard))
    ((all ++ arrived meeting) ++ ((gone ++ taken_away meeting k) ++ waiting (at_tick layout history starts v).keys.keyboard)) =
    λ v q.
    let k' : Keyboard = (at_tick layout history starts v).keys.keyboard in
    let new : List ℕ = came meeting k k' in
    let next : List ℕ = waiting k' in
    IsPermutation-trans (w ++ (so_far ++ new)) ((w ++ so_far) ++ new)
    ((all ++ arrived meeting) ++ ((gone ++ taken_away meeting k) ++ next))
    (same_order (w ++ (so_far ++ new)) ((w ++ so_far) ++ new) (sym (append_assoc w so_far new)))
    (one_more (w ++ so_far) all gone (waiting k) (arrived meeting) (taken_away meeting k) (left meeting k) new next
    (all_counted layout history starts n count) q.each (waits_then meeting k k' q)) in
    step (suc count + n) (subst (λ v. Passes meeting k (at_tick layout history starts v).keys.keyboard) z p)
