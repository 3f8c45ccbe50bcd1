-- What is reported after one stretch of steps.
use Rattle.std.proofs.Common.{◌≡◌, ◌<◌, ◌^◌, ℕ, suc, ◌-◌, true, false, List, [], ◌∷◌, ◌++◌}
use Rattle.std.proofs.Common.{length, map, Some, ap, sym, subst, ◌∙◌, arith}
use Rattle.std.specs.Prelude.{if◌then◌else◌}
use Rattle.std.proofs.lemmas.List.{append-nil, map-append}
use Rattle.std.specs.declared.option.Option.{Option}
use Rattle.fw_ticks.specs.JointRun.{KeepsTimeFrom}
use Rattle.joint_feed.proofs.Going.{here}
use Rattle.joint_feed.specs.Stories.{Story, starts_tick, state_at}
use Rattle.joint_feed.specs.declared.course.Course.{Course}
use Rattle.joint_run.specs.Joint.{Beside, log_of, joint_start_of}
use Rattle.joint_run.specs.Run.{World}
use Rattle.model_link.specs.declared.line.LogLine.{LogLine}
use Rattle.run_loop.specs.declared.ending.Ending.{Ending}
use Rattle.run_loop.specs.declared.ending.Ending.TheVariants.{TickStart, Stamp}
use Rattle.run_loop.specs.Advance.{IsAtReport}
use Rattle.run_loop.specs.Running.{log_at, logged, step_says}
use Rattle.run_loop.specs.Starts.{start_stamp, starts_among}
use Rattle.run_loop.specs.Gliding.{IsSilent}
use Rattle.run_loop.proofs.Reported.{says_seen}
use Rattle.run_loop.proofs.Steps.{log_grows, said_by, says_in}
use Rattle.subsystem.specs.Account.{in_tick}
use Rattle.subsystem.specs.Progress.{line_so_far, lines_to, lines_so_far, most_starts}
use Rattle.subsystem.specs.LogReports.{HasNoted}
use Rattle.subsystem.specs.Putting.{step_lines}
use Rattle.subsystem.specs.declared.starts.Starts.{Starts}
use Rattle.subsystem.proofs.Lines.{lines_later, lines_now}
use Rattle.subsystem.proofs.Begun.{begun_among, few_among, few_before}

module _ (s : Story) where
  -- the start at a state changes no line of what was said before it
  pub still_reported : (k : ℕ) (w : World Beside) → state_at s k ≡ Some w
      → map (line_so_far (starts_among s (suc k))) (log_of w.board) ≡ map (line_so_far (starts_among s k)) (log_of w.board)
  still_reported k w h =
      let xs = starts_among s k in
      ap (λ (o : Option (World Beside)). map (line_so_far (xs ++ start_stamp s o)) (log_of w.board)) h
      ∙ (elim (starts_tick s w) as (λ b. map (line_so_far (xs ++ (if b then (w.cycle - 4096) ∷ [] else []))) (log_of w.board)
      ≡ map (line_so_far xs) (log_of w.board)) [
        | true ↦ lines_later xs (w.cycle - 4096) w.cycle (log_of w.board) (omega arith) (said_by s k w h)
        | false ↦ ap (λ v. map (line_so_far v) (log_of w.board)) (append-nil xs)
      ])

-- what is reported is so by the starts among the states up to the present one too
all_reported : (s : Story) → KeepsTimeFrom (joint_start_of s.held) s.bytes s.edges s.events → (k : ℕ) (w : World Beside) → state_at s k ≡ Some w
    → lines_to s (starts_among s (suc k)) k ≡ lines_so_far s k
all_reported s t k w there =
    ap (λ (o : Option (World Beside)). map (line_so_far (starts_among s (suc k))) (logged o)) there
    ∙ still_reported s k w there
    ∙ ap (λ (o : Option (World Beside)). map (line_so_far (starts_among s k)) (logged o)) (sym there)

-- and it stays so as long as nothing is to be reported
pub reported_quiet : (s : Story) → KeepsTimeFrom (joint_start_of s.held) s.bytes s.edges s.events → (k n : ℕ)
    → IsSilent TickStart false s k n → lines_so_far s k ≡ lines_so_far s n
reported_quiet s t k n quiet =
    let from = t.goes_on k in
    let to = t.goes_on n in
    sym (all_reported s t k from.0 from.1)
    ∙ ap (λ (v : List ℕ). lines_to s v k) (sym quiet.starts)
    ∙ ap (map (line_so_far (starts_among s (suc n)))) (sym quiet.log)
    ∙ all_reported s t n to.0 to.1

-- one step more puts its lines after
pub reported_step : (s : Story) → KeepsTimeFrom (joint_start_of s.held) s.bytes s.edges s.events → (k : ℕ)
    → lines_so_far s (suc k) ≡ lines_so_far s k ++ step_lines s k
reported_step s t k =
    let from = t.goes_on k in
    let to = t.goes_on (suc k) in
    let starts = starts_among s (suc k) in
    let says = step_says s k in
    ap (map (line_so_far starts)) (log_grows s k to.0 to.1)
    ∙ map-append (line_so_far starts) (log_at s k) says
    ∙ ap (λ l. l ++ map (line_so_far starts) says) (all_reported s t k from.0 from.1)
    ∙ ap (λ l. lines_so_far s k ++ l)
    (sym (lines_now starts from.0.cycle to.0.cycle says (begun_among s t k from.0 from.1) (says_in s k from.0 to.0 from.1 to.1)))

-- the lines of what a step says, in the tick of the last of these starts
abbrev pub lines_of_step : Course → List ℕ → List LogLine
lines_of_step c starts = map (in_tick (length starts - 1)) c.seen.items.items

-- what is reported of one step more, by the starts that were noted: `last` steps were made before it, and it led to this state
pub record IsOneMore (s : Story) (k : ℕ) (c : Course) (last : ℕ) (world : World Beside) (starts : List ℕ) : Type 0 where
  pub few : length starts < 2 ^ 32
  pub room : length starts < most_starts s.stop
  pub later : k < c.joint.steps
  pub steps : c.joint.steps ≡ suc last
  pub still : lines_so_far s last ≡ lines_so_far s k
  pub step : lines_so_far s (suc last) ≡ lines_so_far s last ++ step_lines s last
  pub says : lines_of_step c starts ≡ step_lines s last
  pub more : starts ++ start_stamp s (Some world) ≡ starts_among s (suc c.joint.steps)

-- so many lines more are reported
pub lines_more : (s : Story) (k : ℕ) (c : Course) (last : ℕ) (world : World Beside) (starts : List ℕ) → IsOneMore s k c last world starts
    → lines_so_far s c.joint.steps ≡ lines_so_far s k ++ lines_of_step c starts
lines_more s k c last world starts m =
    ap (lines_so_far s) m.steps ∙ m.step ∙ ap (λ v. v ++ step_lines s last) m.still ∙ ap (λ v. lines_so_far s k ++ v) (sym m.says)

module _ (s : Story) (k : ℕ) (c : Course) (b : IsAtReport TickStart false s k c) where
  abbrev starts : List ℕ
  starts = starts_among s (suc k)

  -- no tick started since
  same : starts_among s c.joint.steps ≡ starts
  same = ap (starts_among s) b.steps ∙ b.quiet.starts

  -- what is reported of a step is known from the tick starts that were noted
  pub one_more_by : IsOneMore s k c b.last b.run_so_far.on.world starts
  one_more_by =
      let silent = b.quiet.later in
      let number = b.steps in
      let few = few_among s (suc k) in
      let most = b.run_so_far.on.few in
      let near = b.near in
      let all = few_before s b.timely c.joint.steps b.run_so_far.goes_on in
      let length_same : length (starts_among s c.joint.steps) ≡ length starts = ap length same in
      record {
        few = omega (arith, few, most, near, silent, number);
        room = omega (arith, all, length_same);
        later = omega (arith, silent, number);
        steps = number;
        still = sym (reported_quiet s b.timely k b.last b.quiet);
        step = reported_step s b.timely b.last;
        says = ap (map (in_tick (length starts - 1))) (sym (says_seen TickStart false s k c b))
            ∙ ap (λ (v : List ℕ). map (in_tick (length v - 1)) (step_says s b.last)) (sym b.quiet.starts);
        more = ap (λ (v : List ℕ). v ++ start_stamp s (Some b.run_so_far.on.world)) (sym same)
            ∙ ap (λ (o : Option (World Beside)). starts_among s c.joint.steps ++ start_stamp s o) (sym (here s c b.run_so_far.on));
      }

-- what is reported of a step is the tick start to which it led and the lines of what it said
pub one_more : (e : Ending) (s : Story) (k : ℕ) (c : Course) (it : Starts) (b : IsAtReport e false s k c) → HasNoted e s k it
    → IsOneMore s k c b.last b.run_so_far.on.world it.stamps.items
one_more TickStart s k c it b noted =
    subst (λ (v : List ℕ). IsOneMore s k c b.last b.run_so_far.on.world v) (sym noted.starts) (one_more_by s k c b)
one_more Stamp s k c it b noted = absurd (cc noted.ending)
