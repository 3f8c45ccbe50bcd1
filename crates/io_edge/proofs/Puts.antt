-- Puts of a piece into a sink in memory, and of a text line by line.
use Rattle.std.proofs.Common.{◌≡◌, ℕ, zero, suc, ◌+◌, ◌-◌, ◌<◌, ◌≤◌, Bool, true, false, List, [], ◌∷◌, length, take}
use Rattle.std.proofs.Common.{drop, Some, None, Ok, Err, IfSome, refl, ap, sym, subst, ◌∙◌, arith}
use Rattle.std.specs.Prelude.{if◌then◌else◌}
use Rattle.std.proofs.lemmas.List.{take_all, length-drop, drop-drop, drop_all}
use Rattle.std.specs.declared.option.Option.{Option}
use Rattle.std.specs.declared.result.Result.{Result}
use Rattle.io_edge.specs.MemorySink.{HeldBytes, after_put, put_answer, put_fails, put_size}
use Rattle.io_edge.specs.Said.{Offered, all_offered, line_length, lines_in, offered, offered_by, said}
use Rattle.io_edge.specs.declared.sink.SinkFault.{SinkFault}
use Rattle.io_edge.specs.declared.sink.SinkFault.TheVariants.{Failed}
use Rattle.io_edge.proofs.Lines.{parted}

if_false : {A : Type 0} (fails : Bool) (a b : A) → fails ≡ false → (if fails then a else b) ≡ b
if_false true a b h = absurd cc
if_false false a b h = refl

if_true : {A : Type 0} (fails : Bool) (a b : A) → fails ≡ true → (if fails then a else b) ≡ a
if_true true a b h = refl
if_true false a b h = absurd cc

answer_ok : (fails : Bool) (size n : ℕ)
    → let ok : Result ℕ SinkFault = Ok n in ok ≡ (if fails then Err Failed else Ok size) → (fails ≡ false) × (n ≡ size)
answer_ok true size n h = absurd cc
answer_ok false size n h = (refl, cc)

answer_err : (fails : Bool) (size : ℕ) (fault : SinkFault)
    → let err : Result ℕ SinkFault = Err fault in err ≡ (if fails then Err Failed else Ok size) → fails ≡ true
answer_err true size fault h = refl
answer_err false size fault h = absurd cc

-- nothing is left to be offered
offered_none : (puts : ℕ) (sink : HeldBytes) → offered_by puts [] sink ≡ record { sink = sink; failed = false }
offered_none zero sink = refl
offered_none (suc puts) sink = refl

-- a put that fails, and one that takes a part or all of what is left
offered_failing : (puts : ℕ) (rest : List ℕ) (sink : HeldBytes) → 0 < length rest → put_fails sink ≡ true
    → offered_by (suc puts) rest sink ≡ record { sink = after_put sink rest; failed = true }
offered_failing puts [] sink some fails = absurd (omega arith)
offered_failing puts (byte ∷ bytes) sink some fails = if_true (put_fails sink) _ _ fails

offered_more : (puts : ℕ) (rest : List ℕ) (sink : HeldBytes) → 0 < length rest → put_fails sink ≡ false
    → offered_by (suc puts) rest sink ≡ offered_by puts (drop (put_size sink rest) rest) (after_put sink rest)
offered_more puts [] sink some runs = absurd (omega arith)
offered_more puts (byte ∷ bytes) sink some runs = if_false (put_fails sink) _ _ runs

-- how far the offering of a piece has come: to this sink the rest is still to be offered, and then all is as it is after
-- the whole offering
abbrev pub Offering : Option HeldBytes → Option HeldBytes → List ℕ → ℕ → Type 0
Offering before now piece done =
    IfSome before (λ sink. (held : HeldBytes) × (puts : ℕ) × (now ≡ Some held) × (length piece ≤ done + puts)
    × (offered_by puts (drop done piece) held ≡ offered piece sink))

-- before the first put nothing of a piece is offered
pub offering_first : (before : Option HeldBytes) (piece : List ℕ) → Offering before before piece 0
offering_first None piece = tt
offering_first (Some sink) piece = (sink, length piece, refl, omega arith, refl)

-- the rest of the piece, as it is put
rest_is : (piece : List ℕ) (done : ℕ) → take (length piece - done) (drop done piece) ≡ drop done piece
rest_is piece done = take_all (length piece - done) (drop done piece) (omega (arith, length-drop done piece))

-- what is known of a put of the rest to a sink is known of the one that is now
of_rest : (P : HeldBytes → List ℕ → Type 0) (now : Option HeldBytes) (held : HeldBytes) (piece : List ℕ) (done : ℕ)
    → now ≡ Some held → IfSome now (λ s. P s (take (length piece - done) (drop done piece))) → P held (drop done piece)
of_rest P now held piece done is h =
    subst (λ (p : List ℕ). P held p) (rest_is piece done)
    (subst (λ (o : Option HeldBytes). IfSome o (λ s. P s (take (length piece - done) (drop done piece)))) is h)

-- one put more
offering_further : (next : Option HeldBytes) (piece : List ℕ) (done n puts : ℕ) (sink held : HeldBytes)
    → done < length piece → 0 < n → length piece ≤ done + puts
    → offered_by puts (drop done piece) held ≡ offered piece sink → (put_fails held ≡ false)
    × (n ≡ put_size held (drop done piece)) → next ≡ Some (after_put held (drop done piece)) → Offering (Some sink) next piece (done + n)
offering_further next piece done n zero sink held below some enough is took after = absurd (omega (arith, below, enough))
offering_further next piece done n (suc puts) sink held below some enough is took after =
    let rest = drop done piece in
    let left : drop (put_size held rest) rest ≡ drop (done + n) piece =
    ap (λ k. drop k rest) (sym took.1) ∙ drop-drop n done piece ∙ ap (λ k. drop k piece) (omega arith) in (
      after_put held rest,
      puts,
      after,
      omega (arith, some, enough),
      ap (λ (b : List ℕ). offered_by puts b (after_put held rest)) (sym left)
          ∙ sym (offered_more puts rest held (omega (arith, below, length-drop done piece)) took.0) ∙ is,
    )

-- a put that takes some bytes brings the offering of a piece so much further
pub offering_on : (before now next : Option HeldBytes) (piece : List ℕ) (done n : ℕ) → done < length piece → 0 < n
    → Offering before now piece done
    → IfSome now (λ sink. let ok : Result ℕ SinkFault = Ok n in ok
    ≡ put_answer sink (take (length piece - done) (drop done piece)))
    → IfSome now (λ sink. next ≡ Some (after_put sink (take (length piece - done) (drop done piece))))
    → Offering before next piece (done + n)
offering_on None now next piece done n below some so answer after = tt
offering_on (Some sink) now next piece done n below some so answer after =
    let held = so.0 in
    offering_further next piece done n so.1 sink held below some so.3 so.4
    (answer_ok (put_fails held) (put_size held (drop done piece)) n
    (of_rest (λ s p. let ok : Result ℕ SinkFault = Ok n in ok ≡ put_answer s p) now held piece done so.2 answer))
    (of_rest (λ s p. next ≡ Some (after_put s p)) now held piece done so.2 after)

-- how the offering of a piece ends
abbrev pub Ends : Option HeldBytes → Option HeldBytes → List ℕ → Bool → Type 0
Ends before after piece failed =
    IfSome before (λ sink. (held : HeldBytes) × (after ≡ Some held) × (record { sink = held; failed = failed } ≡ offered piece sink))

-- after all bytes of a piece are taken its offering ends without a failure
pub offering_ends : (before now : Option HeldBytes) (piece : List ℕ) (done : ℕ) → length piece ≤ done
    → Offering before now piece done → Ends before now piece false
offering_ends None now piece done all so = tt
offering_ends (Some sink) now piece done all so =
    let none : drop done piece ≡ [] = drop_all done piece all in
    (so.0, so.2, sym (ap (λ (b : List ℕ). offered_by so.1 b so.0) none ∙ offered_none so.1 so.0) ∙ so.4)

failing : (next : Option HeldBytes) (piece : List ℕ) (done puts : ℕ) (sink held : HeldBytes) → done < length piece
    → length piece ≤ done + puts → offered_by puts (drop done piece) held ≡ offered piece sink → put_fails held ≡ true
    → next ≡ Some (after_put held (drop done piece)) → Ends (Some sink) next piece true
failing next piece done zero sink held below enough is fails after = absurd (omega (arith, below, enough))
failing next piece done (suc puts) sink held below enough is fails after =
    let rest = drop done piece in
    (after_put held rest, after, sym (offered_failing puts rest held (omega (arith, below, length-drop done piece)) fails) ∙ is)

-- a put that fails ends the offering of a piece with a failure
pub offering_fails : (before now next : Option HeldBytes) (piece : List ℕ) (done : ℕ) (fault : SinkFault)
    → done < length piece → Offering before now piece done
    → IfSome now (λ sink. let err : Result ℕ SinkFault = Err fault in err
    ≡ put_answer sink (take (length piece - done) (drop done piece)))
    → IfSome now (λ sink. next ≡ Some (after_put sink (take (length piece - done) (drop done piece)))) → Ends before next piece true
offering_fails None now next piece done fault below so answer after = tt
offering_fails (Some sink) now next piece done fault below so answer after =
    let held = so.0 in
    failing next piece done so.1 sink held below so.3 so.4
    (answer_err (put_fails held) (put_size held (drop done piece)) fault
    (of_rest (λ s p. let err : Result ℕ SinkFault = Err fault in err ≡ put_answer s p) now held piece done so.2 answer))
    (of_rest (λ s p. next ≡ Some (after_put s p)) now held piece done so.2 after)

-- the two facts of an end
pub ended_failed : (before after : Option HeldBytes) (piece : List ℕ) (failed : Bool) → Ends before after piece failed
    → IfSome before (λ sink. (offered piece sink).failed ≡ failed)
ended_failed None after piece failed h = tt
ended_failed (Some sink) after piece failed h = sym (ap (λ (o : Offered). o.failed) h.2)

-- the sink after an offering is as the definition says
pub ended_after : (before after : Option HeldBytes) (piece : List ℕ) (failed : Bool) → Ends before after piece failed
    → IfSome before (λ sink. after ≡ Some (offered piece sink).sink)
ended_after None after piece failed h = tt
ended_after (Some sink) after piece failed h = h.1 ∙ ap (λ (o : Offered). Some o.sink) h.2

-- how far a text has come, line by line: to this sink the lines after this place are still to be offered, and then all
-- is as it is after the whole text
abbrev pub Saying : Option HeldBytes → Option HeldBytes → List ℕ → ℕ → Type 0
Saying before now text start =
    IfSome before (λ sink. (held : HeldBytes) × (now ≡ Some held) × (said (drop start text) held ≡ said text sink))

-- before the first line nothing of a text is said
pub saying_first : (before : Option HeldBytes) (text : List ℕ) → Saying before before text 0
saying_first None text = tt
saying_first (Some sink) text = (sink, refl, refl)

-- the line at this place
line_at : (text : List ℕ) (start end : ℕ) → start < length text → end ≡ start + line_length (drop start text)
    → lines_in (drop start text) ≡ take (end - start) (drop start text) ∷ lines_in (drop end text)
line_at text start end below is =
    let size : line_length (drop start text) ≡ end - start = omega (arith, is) in
    let more : 0 < length (drop start text) = omega (arith, below, length-drop start text) in
    let rest : drop (end - start) (drop start text) ≡ drop end text =
    drop-drop (end - start) start text ∙ ap (λ n. drop n text) (omega (arith, is)) in
    parted (drop start text) more
    ∙ ap (λ n. take n (drop start text) ∷ lines_in (drop n (drop start text))) size
    ∙ ap (λ ls. take (end - start) (drop start text) ∷ lines_in ls) rest

-- a fact of the sink that is now
of_now : (P : HeldBytes → Type 0) (now : Option HeldBytes) (held : HeldBytes) → now ≡ Some held → IfSome now P → P held
of_now P now held is h = subst (λ (o : Option HeldBytes). IfSome o P) is h

-- one line more
pub saying_on : (before now next : Option HeldBytes) (text : List ℕ) (start end : ℕ) → start < length text
    → end ≡ start + line_length (drop start text) → Saying before now text start
    → IfSome now (λ sink. (offered (take (end - start) (drop start text)) sink).failed ≡ false)
    → IfSome now (λ sink. next ≡ Some (offered (take (end - start) (drop start text)) sink).sink) → Saying before next text end
saying_on None now next text start end below is so stood after = tt
saying_on (Some sink) now next text start end below is so stood after =
    let line = take (end - start) (drop start text) in
    let here = offered line so.0 in (
      here.sink,
      of_now (λ s. next ≡ Some (offered line s).sink) now so.0 so.1 after,
      sym (if_false here.failed here (said (drop end text) here.sink) (of_now (λ s. (offered line s).failed ≡ false) now so.0 so.1 stood))
          ∙ sym (ap (λ ls. all_offered ls so.0) (line_at text start end below is)) ∙ so.2,
    )

-- a line whose put failed
said_failed : (before now : Option HeldBytes) (text : List ℕ) (start end : ℕ) → start < length text
    → end ≡ start + line_length (drop start text) → Saying before now text start
    → IfSome now (λ sink. (offered (take (end - start) (drop start text)) sink).failed ≡ true)
    → IfSome before (λ sink. (held : HeldBytes) × (now ≡ Some held)
    × (said text sink ≡ offered (take (end - start) (drop start text)) held))
said_failed None now text start end below is so failed = tt
said_failed (Some sink) now text start end below is so failed =
    let line = take (end - start) (drop start text) in
    let here = offered line so.0 in (
      so.0,
      so.1,
      sym so.2 ∙ ap (λ ls. all_offered ls so.0) (line_at text start end below is)
          ∙ if_true here.failed here (said (drop end text) here.sink) (of_now (λ s. (offered line s).failed ≡ true) now so.0 so.1 failed),
    )

-- if the offering of a line fails, the saying of the text fails
pub failed_said : (before now : Option HeldBytes) (text : List ℕ) (start end : ℕ) → start < length text
    → end ≡ start + line_length (drop start text) → Saying before now text start
    → IfSome now (λ sink. (offered (take (end - start) (drop start text)) sink).failed ≡ true)
    → IfSome before (λ sink. (said text sink).failed ≡ true)
failed_said None now text start end below is so failed = tt
failed_said (Some sink) now text start end below is so failed =
    let h = said_failed (Some sink) now text start end below is so failed in
    ap (λ (o : Offered). o.failed) h.2 ∙ of_now (λ s. (offered (take (end - start) (drop start text)) s).failed ≡ true) now h.0 h.1 failed

-- if the offering of a line fails, the sink is as after the saying of the text
pub failed_after : (before now next : Option HeldBytes) (text : List ℕ) (start end : ℕ) → start < length text
    → end ≡ start + line_length (drop start text) → Saying before now text start
    → IfSome now (λ sink. (offered (take (end - start) (drop start text)) sink).failed ≡ true)
    → IfSome now (λ sink. next ≡ Some (offered (take (end - start) (drop start text)) sink).sink)
    → IfSome before (λ sink. next ≡ Some (said text sink).sink)
failed_after None now next text start end below is so failed after = tt
failed_after (Some sink) now next text start end below is so failed after =
    let h = said_failed (Some sink) now text start end below is so failed in
    of_now (λ s. next ≡ Some (offered (take (end - start) (drop start text)) s).sink) now h.0 h.1 after
    ∙ ap (λ (o : Offered). Some o.sink) (sym h.2)

-- all lines
saying_ends : (before now : Option HeldBytes) (text : List ℕ) (start : ℕ) → length text ≤ start
    → Saying before now text start
    → IfSome before (λ sink. (held : HeldBytes) × (now ≡ Some held) × (record { sink = held; failed = false } ≡ said text sink))
saying_ends None now text start all so = tt
saying_ends (Some sink) now text start all so =
    (so.0, so.1, sym (ap (λ (ls : List ℕ). said ls so.0) (drop_all start text all)) ∙ so.2)

-- a text whose lines were all said is said without a failure
pub whole_said : (before now : Option HeldBytes) (text : List ℕ) (start : ℕ) → length text ≤ start
    → Saying before now text start → IfSome before (λ sink. (said text sink).failed ≡ false)
whole_said None now text start all so = tt
whole_said (Some sink) now text start all so = sym (ap (λ (o : Offered). o.failed) (saying_ends (Some sink) now text start all so).2)

-- after all lines of a text are said, the sink is as after the saying of the text
pub whole_after : (before now : Option HeldBytes) (text : List ℕ) (start : ℕ) → length text ≤ start
    → Saying before now text start → IfSome before (λ sink. now ≡ Some (said text sink).sink)
whole_after None now text start all so = tt
whole_after (Some sink) now text start all so =
    let h = saying_ends (Some sink) now text start all so in h.1 ∙ ap (λ (o : Offered). Some o.sink) h.2
