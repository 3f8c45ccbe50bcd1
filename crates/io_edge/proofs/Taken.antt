-- What a sink has after one piece and then another.
use Rattle.std.proofs.Common.{◌≡◌, ℕ, ◌+◌, ◌-◌, ◌≤◌, List, ◌++◌, length, take, drop, Some, None}
use Rattle.std.proofs.Common.{Ok, Err, OnErr, ap, subst, sym, ◌∙◌, arith, refl}
use Rattle.std.proofs.lemmas.List.{append_assoc, append-nil, take-take, length-take, length-take-le, length-drop}
use Rattle.std.proofs.Math.Seq.{take-add}
use Rattle.std.specs.declared.option.Option.{Option}
use Rattle.std.specs.declared.result.Result.{Result}
use Rattle.io_edge.specs.Sink.{Takes}
use Rattle.io_edge.specs.Said.{TakesAll, TakesPart}

-- a sink that is as before has taken nothing of a text
pub takes_none : (before : Option (List ℕ)) (text : List ℕ) → Takes before before text 0
takes_none (Some before) text = ap (λ bytes. Some bytes) (sym (append-nil before))
takes_none None text = refl

-- i bytes, and then n of what is behind them
takes_after : (text : List ℕ) (i n : ℕ) (a b c : Option (List ℕ)) → Takes a b text i → Takes b c (drop i text) n → Takes a c text (i + n)
takes_after text i n (Some before) b c first second =
    subst (λ (x : Option (List ℕ)). Takes x c (drop i text) n) first second
    ∙ ap (λ bytes. Some bytes)
    (append_assoc before (take i text) (take n (drop i text)) ∙ ap (λ bytes. before ++ bytes) (sym (take-add i n text)))
takes_after text i n None b c first second = subst (λ (x : Option (List ℕ)). Takes x c (drop i text) n) first second

-- of a piece of m bytes the same n are taken
takes_within : (text : List ℕ) (n m : ℕ) (b c : Option (List ℕ)) → n ≤ m → Takes b c (take m text) n → Takes b c text n
takes_within text n m (Some before) c fits h = h ∙ ap (λ bytes. Some (before ++ bytes)) (take-take n m text fits)
takes_within text n m None c fits h = h

-- i bytes, and then n of a piece that begins behind them
pub takes_on : (text : List ℕ) (i m n : ℕ) (a b c : Option (List ℕ)) → Takes a b text i
    → n ≤ length (take m (drop i text)) → Takes b c (take m (drop i text)) n → Takes a c text (i + n)
takes_on text i m n a b c first fits second =
    let short : n ≤ m = grind (arith, length-take m (drop i text), fits) in
    takes_after text i n a b c first (takes_within (drop i text) n m b c short second)

-- a text up to `start`, and then a whole piece up to `end`
pub takes_piece : (text : List ℕ) (start end : ℕ) (a b c : Option (List ℕ)) → start ≤ end → end ≤ length text
    → Takes a b text start → TakesAll b c (take (end - start) (drop start text)) → Takes a c text end
takes_piece text start end a b c order inside first second =
    let piece = take (end - start) (drop start text) in
    let size : length piece
    ≡ end - start = length-take-le (end - start) (drop start text) (grind (arith, length-drop start text, order, inside)) in
    let ends : start + length piece ≡ end = grind (arith, size, order) in
    subst (λ (n : ℕ). Takes a c text n) ends (takes_on text start (end - start) (length piece) a b c first (grind (arith)) second)

-- a text up to `start`, and then a part of a piece up to `end`
pub takes_part : (text : List ℕ) (start end : ℕ) (a b c : Option (List ℕ)) → start ≤ end → end ≤ length text
    → Takes a b text start → TakesPart b c (take (end - start) (drop start text)) → TakesPart a c text
takes_part text start end a b c order inside first part =
    let short : part.0 ≤ end - start = grind (arith, length-take (end - start) (drop start text), part.1) in
    (start + part.0, grind (arith, short, order, inside), takes_on text start (end - start) part.0 a b c first part.1 part.2)

-- what holds in any case holds if the result is an error
pub on_err : {A E : Type 0} (result : Result A E) (P : Type 0) → P → OnErr result P
on_err (Ok value) P p = tt
on_err (Err fault) P p = p
