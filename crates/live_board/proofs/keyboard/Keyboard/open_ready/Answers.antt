use Rattle.live_board.proofs.keyboard.Keyboard.open_ready.Goals as goal

pub returns : goal.returns
returns c = record {
  ready = record {
    opened = c.open-keyboard.result;
    is_opened = c.open-keyboard.ensures.opened;
    end = c.run.result.end;
    ran = c.run.ensures.run;
    log_kept = c.run.ensures.log_kept;
  };
}
