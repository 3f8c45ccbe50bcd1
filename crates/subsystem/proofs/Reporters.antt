-- What is reported of one step more, by whoever reports it.
use Rattle.std.proofs.Common.{◌≡◌, ◌≤◌, ℕ, ◌-◌, Bool, true, false, List, [], ◌∷◌, ◌++◌, length, map}
use Rattle.std.proofs.Common.{vec_capacity, Some, append_assoc, ap, sym, ◌∙◌, arith}
use Rattle.std.specs.Prelude.{flat_map, if◌then◌else◌}
use Rattle.std.proofs.lemmas.List.{append-nil}
use Rattle.std.proofs.lemmas.List.Concat.{flat_map-append}
use Rattle.host_turn.specs.declared.stamped.Stamped.{Stamped}
use Rattle.joint_feed.specs.Stories.{Story, starts_tick}
use Rattle.joint_feed.specs.declared.course.Course.{Course}
use Rattle.joint_run.specs.Joint.{Beside}
use Rattle.joint_run.specs.Run.{World}
use Rattle.model_link.specs.declared.line.LogLine.{LogLine}
use Rattle.run_loop.specs.declared.ending.Ending.{Ending}
use Rattle.run_loop.specs.Starts.{start_stamp}
use Rattle.subsystem.specs.Account.{in_tick}
use Rattle.subsystem.specs.Counts.{none_counted, with_lines}
use Rattle.subsystem.specs.Progress.{lines_so_far}
use Rattle.subsystem.specs.Putting.{step_lines}
use Rattle.subsystem.specs.LogReports.{HasNoted, HasPut}
use Rattle.subsystem.specs.Texts.{line_text, log_text}
use Rattle.subsystem.specs.declared.starts.Starts.{Starts}
use Rattle.subsystem.specs.declared.reporting.Putting.{Putting}
use Rattle.run_loop.proofs.Texts.{IsOneFurther}
use Rattle.subsystem.proofs.Lines.{are_lines, lines_in_tick, short_more, with_lines-append}
use Rattle.subsystem.proofs.Reported.{IsOneMore, lines_more, lines_of_step}

-- a state at which no tick starts adds no stamp, and one at which a tick starts its own
pub none_noted : (s : Story) (w : World Beside) (b : Bool) (xs : List ℕ)
    → b ≡ starts_tick s w → b ≡ false → xs ≡ xs ++ start_stamp s (Some w)
none_noted s w b xs decides off = sym (append-nil xs) ∙ ap (λ v. xs ++ (if v then (w.cycle - 4096) ∷ [] else [])) (sym off ∙ decides)

-- the stamp that is noted at a tick start is that of the state
pub one_noted : (s : Story) (w : World Beside) (b : Bool) (xs : List ℕ) (cycle : ℕ) → b ≡ starts_tick s w → b ≡ true → w.cycle ≡ cycle
    → xs ++ (cycle - 4096) ∷ [] ≡ xs ++ start_stamp s (Some w)
one_noted s w b xs cycle decides on same =
    ap (λ (n : ℕ). xs ++ (n - 4096) ∷ []) (sym same) ∙ ap (λ v. xs ++ (if v then (w.cycle - 4096) ∷ [] else [])) (sym on ∙ decides)

-- the lines of a step are its items in the tick that is counted
pub lines_by : (c : Course) (starts : List ℕ) (tick : ℕ) (items : List Stamped) → tick ≡ length starts - 1 → items ≡ c.seen.items.items
    → map (in_tick tick) items ≡ lines_of_step c starts
lines_by c starts tick items last same = ap (λ n. map (in_tick n) items) last ∙ ap (map (in_tick (length starts - 1))) same

module _ (e : Ending) (s : Story) (k : ℕ) (c : Course) (last : ℕ) (world : World Beside) (it : Starts) (noted : HasNoted e s k it)
    (m : IsOneMore s k c last world it.stamps.items) where
  -- the start at the present state is noted
  pub noted_on : (next : Starts) → next.stamps.items ≡ it.stamps.items ++ start_stamp s (Some world) → HasNoted e s c.joint.steps next
  noted_on next is = record { ending = noted.ending; starts = is ∙ m.more }

  -- the lines of the step are kept
  pub kept_on : (first before after : List LogLine) → before ≡ first ++ lines_so_far s k
      → after ≡ before ++ lines_of_step c it.stamps.items → after ≡ first ++ lines_so_far s c.joint.steps
  kept_on first before after kept is =
      is ∙ ap (λ v. v ++ lines_of_step c it.stamps.items) kept
      ∙ append_assoc first (lines_so_far s k) (lines_of_step c it.stamps.items)
      ∙ ap (λ v. first ++ v) (sym (lines_more s k c last world it.stamps.items m))

  -- the text of the log goes on by the lines of what a step says
  pub text_further : (tick : ℕ) (items : List Stamped) → tick ≡ length it.stamps.items - 1 → items ≡ c.seen.items.items
      → IsOneFurther (λ n. log_text (lines_so_far s n)) (λ n. log_text (step_lines s n)) k last c.joint.steps
      (flat_map (λ i. line_text (in_tick tick i)) items)
  text_further tick items in_last seen = record {
    still = ap log_text m.still;
    more = ap log_text m.step ∙ flat_map-append line_text (lines_so_far s last) (step_lines s last);
    steps = m.steps;
    lines = are_lines (lines_so_far s last);
    is = lines_in_tick tick items ∙ ap log_text (lines_by c it.stamps.items tick items in_last seen ∙ m.says);
  }

-- they are counted, and there is room for the starts
pub put_on : (e : Ending) (s : Story) (k : ℕ) (c : Course) (last : ℕ) (world : World Beside) (it next : Putting) → HasPut e s k it
    → IsOneMore s k c last world it.starts.stamps.items
    → next.starts.stamps.items ≡ it.starts.stamps.items ++ start_stamp s (Some world)
    → vec_capacity it.starts.stamps ≤ vec_capacity next.starts.stamps
    → next.counts ≡ with_lines it.counts (lines_of_step c it.starts.stamps.items) → length c.seen.items.items ≤ 16
    → HasPut e s c.joint.steps next
put_on e s k c last world it next put m more room counts few =
    let old = put.room in
    let new = lines_of_step c it.starts.stamps.items in
    let all = lines_more s k c last world it.starts.stamps.items m in
    record {
      noted = noted_on e s k c last world it.starts put.noted m next.starts more;
      room = omega (arith, old, room);
      counts = counts ∙ ap (λ v. with_lines v new) put.counts ∙ with_lines-append none_counted (lines_so_far s k) new
          ∙ ap (with_lines none_counted) (sym all);
      short = short_more (lines_so_far s k) (lines_so_far s c.joint.steps) (in_tick (length it.starts.stamps.items - 1))
          c.seen.items.items k c.joint.steps all put.short few m.later;
    }
