-- The log so far is the beginning of what the model says.
use Rattle.std.proofs.Common.{◌≡◌, ◌≤◌, ◌<◌, ℕ, zero, suc, ◌+◌, ◌-◌, true, false, List, [], ◌++◌}
use Rattle.std.proofs.Common.{length, drop, leb, Some, refl, ap, sym, subst, ◌∙◌, arith}
use Rattle.std.proofs.Math.Seq.{drop-append_seam}
use Rattle.std.proofs.lemmas.Bool.Decides.{nat_tests}
use Rattle.std.specs.declared.option.Option.{Option}
use Rattle.std.proofs.lemmas.List.Elements.{All-replicate}
use Rattle.law_agreement.specs.Agreement.{AnyMemoryLaw}
use Rattle.law_agreement.specs.AnyCount.{AnyCountLaw}
use Rattle.law_agreement.specs.AnyKeys.{AnyKeysLaw}
use Rattle.fw_kernel.specs.declared.labels.TheConstants.{TICK}
use Rattle.joint_run.specs.Starts.{IsStart}
use Rattle.mcs48_ranges.specs.Sizes.{IsByte}
use Rattle.fw_compile.specs.Image.{image_of}
use Rattle.host_turn.specs.declared.stamped.Stamped.{Stamped}
use Rattle.joint_feed.proofs.Going.{same_state}
use Rattle.joint_feed.specs.Stories.{Story, state_at}
use Rattle.joint_run.specs.Joint.{joint_board, joint_start_of, log_of}
use Rattle.joint_run.specs.Run.{run_at}
use Rattle.law_live_agrees.proofs.Logs.{goes_between}
use Rattle.law_live_agrees.specs.Law.{AnswersAreAlike, AnyUseIsLawful, FillsAreFine, LogsAgree, LogsAreShown, StatesAreAlike}
use Rattle.law_live_agrees.specs.Law.{NeverStuck, WordsAreAlike, history_of}
use Rattle.live_board.specs.Calls.{GivesFirst}
use Rattle.live_board.specs.States.{HasPast}
use Rattle.live_board.specs.declared.parts.Parts.{Parts as Keyboard}
use Rattle.board_terms.specs.Flips.{AreFlips}
use Rattle.board_terms.specs.declared.event.HostEvent.{HostEvent}
use Rattle.key_file.specs.Accepted.{AreHostEventsInOrder, AreWritten, IsLawfulFor}
use Rattle.layout_reader.specs.Layouts.{KeyLayout}
use Rattle.live_board.proofs.Stepping.{here}
use Rattle.live_board.specs.Answers.{ItemAnswer, first_in}
use Rattle.live_board.specs.Pasts.{Past}

-- two keyboards in one past are in one state of the run
pub states_alike : StatesAreAlike
states_alike p a b s t = same_state (sym (here p a s) ∙ here p b t)

-- a log has one rest after the same beginning
pub same_rest : (log a b after : List Stamped) → after ≡ log ++ a → after ≡ log ++ b → a ≡ b
same_rest log a b after h k =
    sym (drop-append_seam log a) ∙ ap (drop (length log)) (sym h ∙ k) ∙ drop-append_seam log b

same_some : {X : Type 0} (x y : X) → Some x ≡ Some y → x ≡ y
same_some x y h = cc h

reported_alike : {X : Type 0} (f : ItemAnswer → Option X) (p q : Past) (a b : Keyboard) (x y : X) → HasPast p a → HasPast q b
    → GivesFirst f p q x → GivesFirst f p q y → x ≡ y
reported_alike f p q a b x y s t h k =
    let w = s.world in
    let v = t.world in
    let from = here p a s in
    let to = here q b t in
    let same : h.0 ≡ k.0 = same_rest (log_of w.board) h.0 k.0 (log_of v.board) (h.1 w v from to) (k.1 w v from to) in
    same_some x y (sym h.2 ∙ ap (first_in f) same ∙ k.2)

-- two keyboards between the same pasts answer with the same byte
pub answers_alike : AnswersAreAlike
answers_alike f p q a b x y s t h k = reported_alike f p q a b x y s t h k

-- two keyboards between the same pasts answer with the same word, or both with none
pub words_alike : WordsAreAlike
words_alike f p q a b x y s t h k = reported_alike f p q a b x y s t h k

-- without edges nothing is asked of them
without_edges : (layout : KeyLayout) (events : List HostEvent) (stop : ℕ) → AreHostEventsInOrder events
    → AreWritten events → AreFlips events → IsLawfulFor layout (record { edges = []; host = events; end = stop })
without_edges layout events stop order written flips = record {
  lawful = record {
    in_matrix = tt;
    edges_in_order = tt;
    host_in_order = order;
    written = written;
    flips = flips;
    alternate = λ place. tt;
    dwell = λ place. tt;
    thin = tt;
  };
  places = λ k d within. absurd (omega (arith, within));
}

-- if no key moved, a past is lawful however often and long a program uses the ports
pub any_use_is_lawful : AnyUseIsLawful
any_use_is_lawful layout p stop none order written flips =
    subst (λ es. IsLawfulFor layout (record { edges = es; host = p.events; end = stop })) (sym none)
    (without_edges layout p.events stop order written flips)

-- the log so far begins that of a start which is later
log_begins : (layout : KeyLayout) (p : Past) (k : Keyboard) (s : HasPast p k) → p.bytes ≡ image_of layout → (stamp : ℕ)
    (start : IsStart (joint_board p.edges p.events) TICK (image_of layout) (joint_start_of p.held) s.world.cycle stamp)
    → s.world.cycle ≤ stamp → (rest : List Stamped) × (log_of start.state.board ≡ log_of s.world.board ++ rest)
log_begins layout p k s bytes stamp start low =
    let w = s.world in
    let story : Story = record { bytes = image_of layout; edges = p.edges; events = p.events; stop = 0; held = p.held } in
    let at : state_at story p.steps ≡ Some w =
    subst (λ b. run_at (joint_board p.edges p.events) b (joint_start_of p.held) p.steps ≡ Some w) bytes (here p k s) in
    let cycle = start.cycle in
    let later : w.cycle < start.state.cycle = omega (arith, low, cycle) in
    let order : p.steps ≤ start.steps =
    elim (leb p.steps start.steps) as (λ b. leb p.steps start.steps ≡ b → p.steps ≤ start.steps) [
      | true ↦ λ h. grind (arith, nat_tests, h)
      | false ↦ λ h.
          let less : start.steps < p.steps = grind (arith, nat_tests, h) in
          let up : p.steps - start.steps + start.steps ≡ p.steps = omega (arith, less) in
          let back = (goes_between story start.steps (p.steps - start.steps) start.state w start.reached (ap (state_at story) up ∙ at)).0 in
          absurd (omega (arith, back, later))
    ] refl in
    let up : start.steps - p.steps + p.steps ≡ start.steps = omega (arith, order) in
    (goes_between story p.steps (start.steps - p.steps) w start.state at (ap (state_at story) up ∙ start.reached)).1

-- what was said so far is the beginning of what the model says, if the past is lawful for the layout
pub logs_agree : AnyMemoryLaw → LogsAgree
logs_agree law layout p stop k s is bytes fine lawful =
    let both = law layout (history_of p stop) is lawful p.held fine in
    let agrees = both.1 in
    let n : ℕ = s.world.cycle in
    let start = agrees.each n in
    let stamp : ℕ = agrees.starts n in
    let near = both.0.near n stamp start in
    let low : n ≤ stamp = let l = near.least in omega (arith, l) in
    let on = log_begins layout p k s bytes stamp start low in
    record {
      starts = agrees.starts;
      each = agrees.each;
      cadence = λ m. both.0.near m (agrees.starts m) (agrees.each m);
      tick = n;
      rest = on.0;
      beginning = sym (agrees.log n stamp start) ∙ on.1;
    }

-- a part may hold any one byte
pub fills_are_fine : FillsAreFine
fills_are_fine fill l = record {
  pc = omega arith;
  a = l;
  ram = All-replicate IsByte 128 fill l;
  long = refl;
  t = l;
  pre = omega arith;
  p1 = omega arith;
  p2 = omega arith;
  bus = omega arith;
  sp = omega arith;
}

-- a start is no sooner than its number
numbered : (starts : ℕ → ℕ) → ((k : ℕ) → starts k + 2016 ≤ starts (suc k)) → (n : ℕ) → n ≤ starts n
numbered starts apart zero = omega arith
numbered starts apart (suc n) =
    let before : n ≤ starts n = numbered starts apart n in
    let next : starts n + 2016 ≤ starts (suc n) = apart n in
    omega (arith, before, next)

-- what was said so far is the beginning of what the model says of what the columns showed, however keys bounced
pub logs_are_shown : AnyCountLaw → LogsAreShown
logs_are_shown law layout p k s is bytes fine ok =
    let goes = law layout p.edges p.events is ok p.held fine in
    let n : ℕ = s.world.cycle in
    let start = goes.each n in
    let stamp : ℕ = goes.starts n in
    let on = log_begins layout p k s bytes stamp start (numbered goes.starts goes.apart n) in
    record {
      starts = goes.starts;
      each = goes.each;
      tick = n;
      rest = on.0;
      beginning = sym (goes.log n stamp start) ∙ on.1;
    }

-- the run under any keys has a state after each number of steps
pub never_stuck : AnyKeysLaw → NeverStuck
never_stuck law layout p is bytes fine =
    let goes = (law layout p.edges p.events is p.held fine).goes_on p.steps in
    (goes.0, ap (λ b. run_at (joint_board p.edges p.events) b (joint_start_of p.held) p.steps) bytes ∙ goes.1)
