use Rattle.std.proofs.Common.{◌+◌, None, ap, subst, sym, ◌∙◌, rules, w32}
use Rattle.std.proofs.lemmas.Int.{to_z-of_z}
use Rattle.live_board.specs.Running.{at_rise}
use Rattle.kbd48_c.specs.Exports.{HasGone}
use Rattle.kbd48_c.specs.Queueing.{keyed_status}
use Rattle.kbd48_c.proofs.keyed.go_keyed.Goals as goal

pub returns : goal.returns
returns c =
    let middle = c.hand_over.new.keyboard in
    let run = c.run-ran.ensures in
    let ran = c.run-ran.result in
    let passed = c.put_ran.ensures.passed in
    record {
      gone = record {
        middle = middle;
        hands = c.hand_over.ensures.hands;
        end = ran.end;
        is_status = to_z-of_z w32 c.keyed_status.result (search rules) ∙ c.keyed_status.ensures
            ∙ ap (λ n. keyed_status c.args.cycles n ran.end) (sym passed);
        gone = subst (λ n. HasGone (at_rise c.args.watched) n None ran.end c.put_ran.new.passed c.args.spot.now c.put_ran.new.spot
            middle c.run-ran.new.self) c.room-room.ensures.room
            (record {
              counts = ap (λ n. middle.joint.cycle + n) passed ∙ run.cycles;
              place = c.put_ran.ensures.place;
              ran = run.run;
              log_kept = run.log_kept;
              onward = run.onward;
            });
      };
    }
