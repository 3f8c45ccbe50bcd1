-- From one law a tick to the run from a start on: each of its tick starts has beside it the model that goes by what the
-- columns show, however many keys change. If few do, the starts keep time.
use Rattle.std.proofs.Common.{◌≡◌, ◌≤◌, ◌<◌, ℕ, suc, zero, ◌+◌, ◌-◌, ◌*◌, Bool, true, List, length, Some}
use Rattle.std.proofs.Common.{refl, ap, sym, ◌∙◌, subst, arith}
use Rattle.board_terms.specs.declared.event.Edge.{Edge}
use Rattle.board_terms.specs.declared.event.HostEvent.{HostEvent}
use Rattle.model_controller.specs.declared.meeting.Meeting.{Meeting}
use Rattle.fw_kernel.specs.declared.labels.TheConstants.{TICK}
use Rattle.law_fw_keys.specs.Frameless.{IsStarted, edges_now}
use Rattle.fw_ticks.proofs.Numbers as numbers
use Rattle.fw_ticks.proofs.Numbers.{Reached}
use Rattle.law_fw_logic.specs.Ticks.{IsOnTime}
use Rattle.joint_run.specs.Joint.{Beside, joint_board}
use Rattle.joint_run.specs.Run.{Board, World, run_at}
use Rattle.joint_run.specs.Starts.{at_tick, Comes, Tick, IsNth, IsStart}
use Rattle.model_link.proofs.Edges.{same_by_place}
use Rattle.model_link.specs.Expected.{Whole, meeting_from, whole_tick}
use Rattle.model_link.specs.Machine.{KeyboardMachine}
use Rattle.model_link.specs.TickEdges.{change_at, shown, shown_at, downs_in}
use Rattle.law_agreement.specs.Agreement.{IsPrompt}
use Rattle.law_agreement.specs.AnyKeys.{tick_with}
use Rattle.law_agreement.specs.AnyStart.{ShowsFew, model_from}
use Rattle.law_agreement.proofs.InTime.{InTime, on_time}
use Rattle.law_agreement.proofs.Model.{by_columns, columns_in}
use Rattle.law_agreement.proofs.Ran.{Lasted}

-- a start that is in time is prompt
as_prompt : (n : ℕ) (w : World Beside) → InTime n w → IsPrompt n (w.cycle - 4096)
as_prompt n w t =
    let cycle : w.cycle ≡ 4096 + 2048 * n + (w.cpu.pre - 2) = t.cycle in
    let most : w.cpu.pre - 2 ≤ 1 = t.most in
    record { least = omega (arith, cycle); most = omega (arith, cycle, most) }

-- A tick's law, with what it leaves open; and the start from which it is used
module _ (S : Type 0) (bytes : List ℕ) (edges : List Edge) (events : List HostEvent) (kb : KeyboardMachine S)
    (R : World Beside → Whole S → Type 0)
    (goes_on : (w : World Beside) (m : Whole S) → 4096 ≤ w.cycle → R w m → Tick (joint_board edges events) TICK bytes w
    (λ e. R e (by_columns kb edges events w.cycle e.cycle m) × Lasted (joint_board edges events) bytes w e))
    (from begin : World Beside) (model : Whole S) (comes : Comes (joint_board edges events) TICK bytes from (λ e. e ≡ begin))
    (begins_past : 4096 ≤ begin.cycle) (begins_tied : R begin model) where
  abbrev d : Board
  d = joint_board edges events

  -- a start with the model's state there
  pub record Station : Type 0 where
    pub w : World Beside
    pub m : Whole S
    pub past : 4096 ≤ w.cycle
    pub ties : R w m

  -- the run reaches the next start
  onward : (s : Station) → Tick d TICK bytes s.w
      (λ e. R e (by_columns kb edges events s.w.cycle e.cycle s.m) × Lasted d bytes s.w e)
  onward s = goes_on s.w s.m s.past s.ties

  first : Station
  first = record { w = begin; m = model; past = begins_past; ties = begins_tied }

  next : Station → Station
  next s =
      let c = (onward s).rest in
      let long : s.w.cycle + 2016 ≤ c.end.cycle = c.goal.1.later in
      let past : 4096 ≤ s.w.cycle = s.past in
      record {
        w = c.end;
        m = by_columns kb edges events s.w.cycle c.end.cycle s.m;
        past = omega (arith, past, long);
        ties = c.goal.0;
      }

  -- each tick start is reached, with the model's state that is tied to it
  pub station : ℕ → Station
  station zero = first
  station (suc k) = next (station k)

  abbrev pub starts : ℕ → ℕ
  starts k = (station k).w.cycle - 4096

  cycle_is : (k : ℕ) → (station k).w.cycle ≡ 4096 + starts k
  cycle_is k = let past : 4096 ≤ (station k).w.cycle = (station k).past in omega (arith, past)

  -- the model's state is what the model says from the first start on
  model_first : (station 0).m ≡ model
  unfolding station first
  model_first = refl

  -- the first tick start is the one from which the run goes on
  pub begins_there : (station 0).w ≡ begin
  unfolding station first
  begins_there = refl

  model_next : (k : ℕ) → (station (suc k)).m
      ≡ by_columns kb edges events (station k).w.cycle (station (suc k)).w.cycle (station k).m
  unfolding station next
  model_next k = refl

  -- the model's state at a tick start is that which goes by what the columns showed
  pub model_is : (k : ℕ) → (station k).m ≡ model_from kb edges events starts model k
  model_is zero = model_first
  model_is (suc k) =
      let w : World Beside = (station k).w in
      let m : Whole S = (station k).m in
      let v : World Beside = (station (suc k)).w in
      let a : w.cycle ≡ 4096 + starts k = cycle_is k in
      let b : v.cycle ≡ 4096 + starts (suc k) = cycle_is (suc k) in
      let c : v.cycle - w.cycle - 609 ≡ starts (suc k) - starts k - 609 = omega (arith, a, b) in
      model_next k
      ∙ ap (λ x. whole_tick kb events (shown (kb.held m.keys) (downs_in starts edges k)) x (v.cycle - w.cycle - 609) m) a
      ∙ ap (λ x. whole_tick kb events (shown (kb.held m.keys) (downs_in starts edges k)) (4096 + starts k) x m) c
      ∙ ap (λ (x : Whole S). whole_tick kb events (shown (kb.held x.keys) (downs_in starts edges k)) (4096 + starts k)
      (starts (suc k) - starts k - 609) x) (model_is k)

  -- the run comes to each
  run_next : (k : ℕ) → Tick d TICK bytes (station k).w (λ e. e ≡ (station (suc k)).w)
  unfolding station next
  run_next k =
      let t = onward (station k) in
      let rest : Comes d TICK bytes t.first (λ e. e ≡ t.rest.end) =
      record { steps = t.rest.steps; end = t.rest.end; run = t.rest.run; goal = refl } in
      record { at = t.at; first = t.first; step = t.step; rest = rest }

  -- by a tick that lasts as it should
  pub lasted : (k : ℕ) → Lasted d bytes (station k).w (station (suc k)).w
  unfolding station next
  lasted k = (onward (station k)).rest.goal.1

  nth : (k : ℕ) → IsNth d TICK bytes from k (station k).w
  nth zero = record { steps = comes.steps; end = comes.end; run = comes.run; goal = comes.goal ∙ sym begins_there }
  nth (suc k) = ((station k).w, nth k, run_next k)

  reached : (k : ℕ) → Reached d TICK bytes from k (station k).w
  reached k = numbers.nth_reached d TICK bytes from k (station k).w (nth k)

  here : (k : ℕ) → at_tick d TICK (station k).w ≡ true
  here k = (onward (station k)).at

  -- the run has a state after each number of steps
  pub never_stuck : (k : ℕ) → (w : World Beside) × (run_at d bytes from k ≡ Some w)
  never_stuck = numbers.goes_on d TICK bytes from (λ k. ((station k).w, reached k))

  -- each state that is reached so is the tick start of its number
  pub each : (k : ℕ) → IsStart d TICK bytes from k (starts k)
  each k =
      let r = reached k in
      record {
        steps = r.steps;
        state = (station k).w;
        reached = r.run;
        at = here k;
        number = r.count;
        cycle = cycle_is k;
      }

  -- what holds of each start, with the model there
  pub at_each : (P : ℕ → World Beside → Whole S → Type 0) → ((k : ℕ) → P k (station k).w (station k).m)
      → (k stamp : ℕ) (s : IsStart d TICK bytes from k stamp) → P k s.state (model_from kb edges events starts model k)
  at_each P law k stamp s =
      let w : World Beside = (station k).w in
      let r = reached k in
      let same : w ≡ s.state =
      numbers.same_start d TICK bytes from r.steps s.steps w s.state r.run s.reached (here k) s.at (r.count ∙ sym s.number) in
      subst (λ w. P k w (model_from kb edges events starts model k)) same (subst (λ m. P k w m) (model_is k) (law k))

  -- what the tie says of a state and a model is so at each tick start
  pub at_starts : (P : World Beside → Whole S → Type 0) → ((w : World Beside) (m : Whole S) → R w m → P w m)
      → (k stamp : ℕ) (s : IsStart d TICK bytes from k stamp) → P s.state (model_from kb edges events starts model k)
  at_starts P law = at_each (λ k w m. P w m) (λ k. law (station k).w (station k).m (station k).ties)

  -- the keys that a tick's columns show otherwise than the last reading did
  abbrev seen : ℕ → List (ℕ × Bool)
  seen k = shown (kb.held (station k).m.keys) (columns_in edges (station k).w.cycle)

  -- by the edges that a tick takes of them
  module _ (takes : S → List (ℕ × Bool) → List (ℕ × Bool))
      (edges_are : (w : World Beside) (m : Whole S) → 4096 ≤ w.cycle → R w m
      → edges_now bytes d w ≡ takes m.keys (shown (kb.held m.keys) (columns_in edges w.cycle))) where
    counted : (k : ℕ) → edges_now bytes d (station k).w ≡ takes (station k).m.keys (seen k)
    counted k = edges_are (station k).w (station k).m (station k).past (station k).ties

    -- they are those of the model
    abbrev changed : ℕ → List (ℕ × Bool)
    changed k =
        takes (model_from kb edges events starts model k).keys
        (shown (kb.held (model_from kb edges events starts model k).keys) (downs_in starts edges k))

    changes_are : (k : ℕ) → takes (station k).m.keys (seen k) ≡ changed k
    changes_are k = ap (λ (m : Whole S). takes m.keys (shown (kb.held m.keys) (downs_in starts edges k))) (model_is k)

    few_of : (k : ℕ) → length (changed k) ≤ 4 → length (edges_now bytes d (station k).w) ≤ 4
    few_of k few = subst (λ v. length v ≤ 4) (sym (counted k ∙ changes_are k)) few

    -- how long a tick lasts
    pub apart : (k : ℕ) → starts k + 2016 ≤ starts (suc k)
    apart k =
        let long : (station k).w.cycle + 2016 ≤ (station (suc k)).w.cycle = (lasted k).later in
        let past : 4096 ≤ (station k).w.cycle = (station k).past in
        omega (arith, long, past)

    -- a tick start comes no later than the changed keys of the tick before it allow
    pub soon : (k : ℕ) → starts (suc k) ≤ starts k + tick_with bytes (length (changed k))
    soon k =
        let by : (station (suc k)).w.cycle ≤ (station k).w.cycle + tick_with bytes (length (changed k)) =
        subst (λ v. (station (suc k)).w.cycle ≤ (station k).w.cycle + tick_with bytes (length v)) (counted k ∙ changes_are k)
        (lasted k).by_keys in
        let past : 4096 ≤ (station k).w.cycle = (station k).past in
        omega (arith, by, past)

    -- once few keys change, the next start is in time, and so are those after it, by a cadence of their own
    module _ (k : ℕ) (calm : (j : ℕ) → length (changed (k + j)) ≤ 4) where
      started : (j : ℕ) → IsStarted (station (suc (k + j))).w.cpu
      started j = (lasted (k + j)).settles (few_of (k + j) (calm j))

      abbrev late : ℕ → ℕ
      late j = (station (suc (k + j))).w.cpu.pre

      kept : (j : ℕ) → (station (suc (k + j))).w.cycle + late 0 ≡ (station (suc (k + 0))).w.cycle + 2048 * j + late j
      kept zero = omega arith
      kept (suc j) =
          let ih : (station (suc (k + j))).w.cycle + late 0 ≡ (station (suc (k + 0))).w.cycle + 2048 * j + late j = kept j in
          let z : suc (k + j) ≡ k + suc j = omega arith in
          let few : length (edges_now bytes d (station (suc (k + j))).w) ≤ 4 =
          subst (λ i. length (edges_now bytes d (station i).w) ≤ 4) (sym z) (few_of (k + suc j) (calm (suc j))) in
          let p = (lasted (suc (k + j))).prompt (started j) few in
          let pass : (station (suc (suc (k + j)))).w.cycle + late j
          ≡ (station (suc (k + j))).w.cycle + 2048 + (station (suc (suc (k + j)))).w.cpu.pre = p.1 in
          subst (λ i. (station (suc i)).w.cycle + late 0 ≡ (station (suc (k + 0))).w.cycle + 2048 * suc j + (station (suc i)).w.cpu.pre) z
          (omega (arith, ih, pass))

      -- once few keys change, tick starts come at the multiples of 2,048 from some stamp on, or a cycle past them
      pub steady : (origin : ℕ) × ((j : ℕ) → (origin + 2048 * j ≤ starts (suc (k + j)))
          × (starts (suc (k + j)) ≤ origin + 2048 * j + 1))
      steady = (
        starts (suc (k + 0)) - (late 0 - 2),
        λ j.
            let ih : (station (suc (k + j))).w.cycle + late 0 ≡ (station (suc (k + 0))).w.cycle + 2048 * j + late j = kept j in
            let a : 2 ≤ late 0 = (started 0).entered.early in
            let b : late 0 ≤ 3 = (started 0).entered.late in
            let c : 2 ≤ late j = (started j).entered.early in
            let e : late j ≤ 3 = (started j).entered.late in
            let past : 4096 ≤ (station (suc (k + 0))).w.cycle = (station (suc (k + 0))).past in
            let room : (station (k + 0)).w.cycle + 2016 ≤ (station (suc (k + 0))).w.cycle = (lasted (k + 0)).later in
            let base : 4096 ≤ (station (k + 0)).w.cycle = (station (k + 0)).past in
            (omega (arith, ih, a, b, c, e, past, room, base), omega (arith, ih, a, b, c, e, past, room, base)),
      )

    -- from a start in time on, if few keys change, each start keeps the time
    module _ (Fit : S → Type 0) (fits : (w : World Beside) (m : Whole S) → R w m → Fit m.keys)
        (so : (meeting : Meeting) (k : S) (now : ℕ → Bool) (p : ℕ) → Fit k → p < 96
        → kb.held (kb.ticked meeting (shown (kb.held k) now) k) p ≡ now p)
        (HasFew : S → Type 0)
        (few_taken : (k : S) (now : ℕ → Bool) → HasFew k → length (shown (kb.held k) now) ≤ 4
        → length (takes k (shown (kb.held k) now)) ≤ 4)
        (few_left : (meeting : Meeting) (k : S) (now : ℕ → Bool) → Fit k → length (shown (kb.held k) now) ≤ 4
        → HasFew (kb.ticked meeting (shown (kb.held k) now) k))
        (n : ℕ) (begins_on : IsOnTime n begin) (begins_started : IsStarted begin.cpu) (begins_calm : HasFew model.keys)
        (begins_few : length (shown (kb.held model.keys) (columns_in edges begin.cycle)) ≤ 4)
        (later : (k : ℕ) → ShowsFew edges (suc (n + k))) where
      record Timed (k : ℕ) : Type 0 where
        time : IsOnTime (n + k) (station k).w
        started : IsStarted (station k).w.cpu
        few : length (seen k) ≤ 4
        calm : HasFew (station k).m.keys

      punctual : (k : ℕ) → Timed k → InTime (n + k) (station k).w
      punctual k t = on_time (n + k) (station k).w t.time t.started.entered.early t.started.entered.late

      timed_first : Timed 0
      unfolding station first
      timed_first =
          let t : begin.cycle + 2 ≡ 4096 + 2048 * n + begin.cpu.pre = begins_on in
          record { time = omega (arith, t); started = begins_started; few = begins_few; calm = begins_calm }

      -- a key that is held is one that the tick before showed as down
      held_is : (k p : ℕ) → p < 96 → kb.held (station (suc k)).m.keys p ≡ columns_in edges (station k).w.cycle p
      held_is k p l =
          ap (λ (m : Whole S). kb.held m.keys p) (model_next k)
          ∙ so (meeting_from kb events (station k).w.cycle (station k).m) (station k).m.keys
          (columns_in edges (station k).w.cycle) p (fits (station k).w (station k).m (station k).ties) l

      timed_next : (k : ℕ) → Timed k → Timed (suc k)
      timed_next k t =
          let w : World Beside = (station k).w in
          let e : World Beside = (station (suc k)).w in
          let p = (lasted k).prompt t.started (subst (λ v. length v ≤ 4) (sym (counted k))
          (few_taken (station k).m.keys (columns_in edges w.cycle) t.calm t.few)) in
          let now : w.cycle + 2 ≡ 4096 + 2048 * (n + k) + w.cpu.pre = t.time in
          let pass : e.cycle + w.cpu.pre ≡ w.cycle + 2048 + e.cpu.pre = p.1 in
          let time : IsOnTime (n + suc k) e = omega (arith, now, pass) in
          let next : IsOnTime (suc (n + k)) e = omega (arith, now, pass) in
          let held : ℕ → Bool = kb.held (station (suc k)).m.keys in
          let there : ℕ → Bool = columns_in edges e.cycle in
          let before : ℕ → Bool = columns_in edges w.cycle in
          let same : shown held there ≡ shown before there =
          same_by_place (shown_at held there) (shown_at before there)
          (λ p l. ap (λ b. change_at p b (there p)) (held_is k p l)) 96 (omega arith) in
          record {
            time = time;
            started = p.0;
            calm =
                subst (λ (m : Whole S). HasFew m.keys) (sym (model_next k))
                (few_left (meeting_from kb events w.cycle (station k).m) (station k).m.keys (columns_in edges w.cycle)
                (fits w (station k).m (station k).ties) t.few);
            few =
                subst (λ (v : List (ℕ × Bool)). length v ≤ 4) (sym same)
                (later k (w.cycle - 4096) (e.cycle - 4096) (as_prompt (n + k) w (punctual k t))
                (as_prompt (suc (n + k)) e (on_time (suc (n + k)) e next p.0.entered.early p.0.entered.late)));
          }

      timed : (k : ℕ) → Timed k
      timed zero = timed_first
      timed (suc k) = timed_next k (timed k)

      -- if few keys change, each tick start is at its multiple of 2,048 or one cycle past it
      pub prompt : (k : ℕ) → IsPrompt (n + k) (starts k)
      prompt k = as_prompt (n + k) (station k).w (punctual k (timed k))

      -- what holds of each start in time is so at each tick start, if few keys change
      pub in_time : (P : ℕ → World Beside → Whole S → Type 0)
          → ((k : ℕ) (w : World Beside) (m : Whole S) → IsOnTime (n + k) w → IsStarted w.cpu → HasFew m.keys → R w m → P k w m)
          → (k stamp : ℕ) (s : IsStart d TICK bytes from k stamp) → P k s.state (model_from kb edges events starts model k)
      in_time P law =
          at_each P (λ k. law k (station k).w (station k).m (timed k).time (timed k).started (timed k).calm (station k).ties)
