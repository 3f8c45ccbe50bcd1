use Rattle.std.proofs.Common.{ap, sym, ◌∙◌}
use Rattle.board_terms.specs.declared.event.HostAct.TheVariants.{Status}
use Rattle.live_board.proofs.Answering.{acted_so, gives_so, kept_so}
use Rattle.live_board.specs.Answers.{first_in}
use Rattle.live_board.proofs.keyboard.Keyboard.status.Goals as goal

pub returns-clause-acted : goal.returns-clause-acted
returns-clause-acted c = acted_so Status _ _ c.act.new.self c.self.view_is c.in_ok-act.ensures.acted

pub returns-clause-log_kept : goal.returns-clause-log_kept
returns-clause-log_kept c = kept_so Status _ _ c.act.new.self c.self.view_is c.in_ok-act.ensures.log_kept

pub returns-clause-byte : goal.returns-clause-byte
returns-clause-byte c =
    gives_so Status _ _ c.act.new.self c.self.view_is c.status_in.result (λ t. t.status) c.in_ok-act.ensures.said
    (ap (first_in (λ t. t.status)) (sym c.as_slice.ensures.value) ∙ c.status_in.ensures)
