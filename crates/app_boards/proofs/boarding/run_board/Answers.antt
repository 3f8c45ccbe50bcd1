use Rattle.std.proofs.Common.{Ok, subst, sym}
use Rattle.joint_feed.specs.Stories.{Story}
use Rattle.key_file.specs.Accepted.{IsAccepted}
use Rattle.key_file.specs.KeyFile.{history_of}
use Rattle.run_loop.specs.Gliding.{history_of as history_run}
use Rattle.app_answers.proofs.AreSpoken.{keys_refused}
use Rattle.app_boards.proofs.BoardsAreSaid.{MayRun, boarded}
use Rattle.app_boards.proofs.boarding.run_board.Goals as goal

pub returns-in_err-feed-clause-says : goal.returns-in_err-feed-clause-says
returns-in_err-feed-clause-says g c =
    keys_refused (MayRun c.args.wanted c.args.image.now.bytes _) (history_of c.args.layout.now c.args.text.now) _ _ c.from_residual.result
    (g.K.Sink.shown c.args.out.now)
    c.in_err-feed.ensures.history c.from_residual.ensures.1

pub returns-in-Ok-clause-says : goal.returns-in-Ok-clause-says
returns-in-Ok-clause-says g c =
    boarded c.args.wanted c.args.image.now.bytes c.args.layout.now c.args.text.now c.in_ok-feed.feed.history
    c.in_ok-feed.ensures.history c.in-Ok.board _ _ (Ok c.put_board.result)
    (g.K.Sink.shown c.args.out.now)
    (g.K.Sink.shown c.put_board.new.out)
    c.in-Ok.ensures.run c.put_board.ensures.says

pub put_board-requires : goal.put_board-requires
put_board-requires g c = record {
  accepted = subst (λ (s : Story). IsAccepted (history_run s)) (sym c.in-Ok.ensures.run) c.in_ok-feed.ensures.accepted.accepted;
}
