use Rattle.std.proofs.Common.{map, string_bytes, inl, inr, arith}
use Rattle.kbd48_app.proofs.AnswersEndCalls.{has_ended, read_ends, read_of}
use Rattle.kbd48_app.proofs.top.answer_and_print.Goals as goal

pub returns-clause-says : goal.returns-clause-says
returns-clause-says g c =
    has_ended (map string_bytes c.args.words.now) (g.F.Shelf.in_memory c.args.shelf.now) _ _ _ c.answer-answer.result
    _ _ _ _ c.answer-answer.ensures.ends c.conclude.ensures.concludes

pub returns-clause-read : goal.returns-clause-read
returns-clause-read g c = λ is. c.answer-answer.ensures.read (read_of c.answer-answer.result _ _ _ c.conclude.ensures.concludes is)

pub returns-clause-fetch_failed : goal.returns-clause-fetch_failed
returns-clause-fetch_failed g c = λ more.
    elim c.answer-answer.ensures.steady [
      | inl read ↦ read_ends c.answer-answer.result _ _ _ c.conclude.ensures.concludes read
      | inr same ↦ absurd (omega (arith, same, more))
    ]
