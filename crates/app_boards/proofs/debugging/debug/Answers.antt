use Rattle.std.proofs.Common.{sym}
use Rattle.std.proofs.lemmas.List.{length-map}
use Rattle.app_boards.proofs.ScriptsAreAnswered.{refused_so, right_by, said_so}
use Rattle.app_boards.proofs.debugging.debug.Goals as goal

pub over_session-requires : goal.over_session-requires
over_session-requires g c = record { right = right_by _ c.args.script.now c.args.verdict c.in-Ok.is c.requires.judged }

pub returns-in-Err-clause-says : goal.returns-in-Err-clause-says
returns-in-Err-clause-says g c = λ taking.
    refused_so taking _ c.args.debuggee c.args.script.now _ c.args.verdict c.in-Err.fault c.refusal_of.result
    (sym (length-map c.args.probes.now.items _)) c.in-Err.is c.refusal_of.ensures c.requires.judged

pub returns-in-Ok-clause-says : goal.returns-in-Ok-clause-says
returns-in-Ok-clause-says g c = λ taking.
    said_so taking _ c.args.debuggee c.args.script.now _ _ _
    (sym (length-map c.args.probes.now.items _)) (right_by _ c.args.script.now c.args.verdict c.in-Ok.is c.requires.judged)
    c.over_session.ensures.says c.over_session.ensures.obeyed_so_far
