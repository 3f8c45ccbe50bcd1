-- What is reported after one stretch of steps, each item with its stamp.
use Rattle.std.proofs.Common.{◌≡◌, ℕ, false, List, ap, sym, subst, ◌∙◌}
use Rattle.std.proofs.lemmas.List.Concat.{flat_map-append}
use Rattle.run_program.specs.Texts.{line_text, log_text}
use Rattle.host_turn.specs.declared.stamped.Stamped.{Stamped}
use Rattle.io_edge.specs.Said.{IsSaid, Shown}
use Rattle.joint_feed.specs.Stories.{Story}
use Rattle.joint_feed.specs.declared.course.Course.{Course}
use Rattle.run_loop.specs.declared.ending.Ending.{Ending}
use Rattle.run_loop.specs.Advance.{IsAtReport}
use Rattle.run_loop.specs.Running.{log_at, step_says}
use Rattle.run_loop.specs.Reports.{IsReportedTo}
use Rattle.run_loop.proofs.Reported.{log_grown, says_seen}
use Rattle.run_loop.proofs.Texts.{IsOneFurther}
use Rattle.run_program.proofs.Lines.{are_lines}

-- the lines of the items that are handed in are after those of the first k steps
pub text_further : (e : Ending) (s : Story) (k : ℕ) (c : Course) (b : IsAtReport e false s k c) (given : List Stamped)
    → given ≡ c.seen.items.items
    → IsOneFurther (λ n. log_text (log_at s n)) (λ n. log_text (step_says s n)) k b.last c.joint.steps (log_text given)
text_further e s k c b given same = record {
  still = ap log_text b.quiet.log;
  more = ap log_text (log_grown e false s k c b) ∙ flat_map-append line_text (log_at s b.last) (step_says s b.last);
  steps = b.steps;
  lines = are_lines (log_at s b.last);
  is = ap log_text (same ∙ sym (says_seen e false s k c b));
}

-- what is reported up to a state is the log's text there
pub said_to : (e : Ending) (s : Story) (n : ℕ) (first now : Shown) → IsReportedTo e false s (λ k. IsSaid first now (log_text (log_at s k))) n
    → IsSaid first now (log_text (log_at s n))
said_to e s n first now h = subst (λ (l : List Stamped). IsSaid first now (log_text l)) (sym h.quiet.log) h.reported_so
