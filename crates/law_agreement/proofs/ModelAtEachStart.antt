-- From one law a tick to the whole run: each tick start of the run has the model's state beside it.
use Rattle.std.proofs.Common.{◌≡◌, ◌≤◌, ◌<◌, ℕ, suc, zero, ◌+◌, ◌-◌, ◌*◌, Bool, true, false, List, length, Some}
use Rattle.std.proofs.Common.{refl, ap, sym, ◌∙◌, subst, arith}
use Rattle.board_terms.specs.Cadence.{KeepsCadence}
use Rattle.model_controller.specs.declared.meeting.Meeting.{Meeting}
use Rattle.fw_kernel.specs.declared.labels.TheConstants.{TICK}
use Rattle.fw_ticks.specs.JointRun.{KeepsTimeFrom}
use Rattle.law_fw_logic.proofs.Clockwork as clockwork
use Rattle.law_fw_logic.proofs.Clockwork.{IsClockwork}
use Rattle.joint_run.specs.Joint.{Beside, joint_board, log_of}
use Rattle.joint_run.specs.Run.{Board, World, joint_step}
use Rattle.joint_run.specs.Starts.{at_tick, calm, Comes, Tick, IsStart}
use Rattle.law_fw_link.specs.Drives.{Drives}
use Rattle.key_file.specs.Accepted.{IsLawful}
use Rattle.key_file.specs.Histories.{KeyHistory}
use Rattle.model_link.specs.Expected.{Whole, meeting_from, whole_tick, whole_at}
use Rattle.model_link.specs.Machine.{KeyboardMachine}
use Rattle.model_link.specs.TickEdges.{shown, tick_edges}
use Rattle.law_agreement.specs.Agreement.{AgreesFrom, IsPrompt}
use Rattle.law_agreement.specs.Wires.{DrivesFrame, DrivesWires}
use Rattle.law_agreement.proofs.InTime.{InTime, on_time}
use Rattle.law_fw_logic.specs.Ticks.{IsOnTime}
use Rattle.law_agreement.proofs.Model.{at_first, by_columns, columns_in}
use Rattle.law_agreement.proofs.FewEdges.{WasNear, HeldBefore, edges_seen, at_most_four}

-- A tick's law, with what it leaves open: what ties the run to the model, and of which keyboards it holds that a tick's
-- edges become the keys held.
module _ (S : Type 0) (from : World Beside) (bytes : List ℕ) (history : KeyHistory) (ok : IsLawful history)
    (kb : KeyboardMachine S) (R : World Beside → Whole S → Type 0) (Fit : S → Type 0)
    (fits : (w : World Beside) (m : Whole S) → R w m → Fit m.keys)
    (none : (p : ℕ) → p < 96 → kb.held kb.start p ≡ false)
    (so : (meeting : Meeting) (k : S) (now : ℕ → Bool) (p : ℕ) → Fit k → p < 96
    → kb.held (kb.ticked meeting (shown (kb.held k) now) k) p ≡ now p)
    (begins : Comes (joint_board history.edges history.host) TICK bytes from
    (λ e. IsOnTime 0 e × R e (at_first kb history.host e.cycle)))
    (goes_on : (n : ℕ) (w : World Beside) (m : Whole S) → IsOnTime n w → R w m
    → length (shown (kb.held m.keys) (columns_in history.edges w.cycle)) ≤ 4
    → Tick (joint_board history.edges history.host) TICK bytes w
    (λ e. IsOnTime (suc n) e × R e (by_columns kb history.edges history.host w.cycle e.cycle m)))
    (logs : (w : World Beside) (m : Whole S) → R w m → log_of w.board ≡ m.side.log)
    (serves : (w : World Beside) (m : Whole S) → R w m → (w.cpu.svc ≡ true) × (w.cpu.rb ≡ true))
    (late : (w : World Beside) (m : Whole S) → R w m → (2 ≤ w.cpu.pre) × (w.cpu.pre ≤ 3)) where
  -- the board under the history
  abbrev d : Board
  d = joint_board history.edges history.host

  -- so is each start where the run is tied to a model: its prescaler is 2 or 3
  in_time : (n : ℕ) (w : World Beside) (m : Whole S) → IsOnTime n w → R w m → InTime n w
  in_time n w m time ties = on_time n w time (late w m ties).0 (late w m ties).1

  -- a start with the model's state there, and the stamp of the start before it, whose reads showed the keys held
  record Station (n : ℕ) : Type 0 where
    pub w : World Beside
    pub m : Whole S
    pub time : IsOnTime n w
    pub ties : R w m
    pub ago : ℕ
    pub was : WasNear n ago
    pub held : HeldBefore history.edges (λ j. ago) n (kb.held m.keys)

  -- and so is each start that is here
  punctual : (n : ℕ) (s : Station n) → InTime n s.w
  punctual n s = in_time n s.w s.m s.time s.ties

  -- its tick sees at most four edges
  few : (n : ℕ) (s : Station n) → length (shown (kb.held s.m.keys) (columns_in history.edges s.w.cycle)) ≤ 4
  few n s =
      let t = punctual n s in
      at_most_four history ok n s.ago (s.w.cycle - 4096) s.w.cycle (kb.held s.m.keys) s.was t.near t.stamp s.held

  -- and the run reaches the next start
  onward : (n : ℕ) (s : Station n) → Tick d TICK bytes s.w
      (λ e. IsOnTime (suc n) e × R e (by_columns kb history.edges history.host s.w.cycle e.cycle s.m))
  onward n s = goes_on n s.w s.m s.time s.ties (few n s)

  -- the first start
  first : Station 0
  first = record {
    w = begins.end;
    m = at_first kb history.host begins.end.cycle;
    time = begins.goal.0;
    ties = begins.goal.1;
    ago = 0;
    was = tt;
    held = none;
  }

  -- and from each to the next
  next : (n : ℕ) → Station n → Station (suc n)
  next n s =
      let c = (onward n s).rest in
      record {
        w = c.end;
        m = by_columns kb history.edges history.host s.w.cycle c.end.cycle s.m;
        time = c.goal.0;
        ties = c.goal.1;
        ago = s.w.cycle - 4096;
        was = (punctual n s).near;
        held = λ p l. so (meeting_from kb history.host s.w.cycle s.m) s.m.keys (columns_in history.edges s.w.cycle) p
            (fits s.w s.m s.ties) l;
      }

  -- every start, from the first one on
  station : (n : ℕ) → Station n
  station zero = first
  station (suc n) = next n (station n)

  -- the model begins at the first start
  model_first : (station 0).m ≡ at_first kb history.host (station 0).w.cycle
  unfolding station first
  model_first = refl

  -- and its tick goes from each start to the next
  model_next : (n : ℕ) → (station (suc n)).m
      ≡ by_columns kb history.edges history.host (station n).w.cycle (station (suc n)).w.cycle (station n).m
  unfolding station next
  model_next n = refl

  -- the run reaches the first start
  run_first : Comes d TICK bytes from (λ e. e ≡ (station 0).w)
  unfolding station first
  run_first = record { steps = begins.steps; end = begins.end; run = begins.run; goal = refl }

  -- and from each to the next
  run_next : (n : ℕ) → Tick d TICK bytes (station n).w (λ e. e ≡ (station (suc n)).w)
  unfolding station next
  run_next n =
      let t = onward n (station n) in
      let rest : Comes d TICK bytes t.first (λ e. e ≡ t.rest.end) =
      record { steps = t.rest.steps; end = t.rest.end; run = t.rest.run; goal = refl } in
      record { at = t.at; first = t.first; step = t.step; rest = rest }

  -- the stamps of the starts
  abbrev starts : ℕ → ℕ
  starts n = (station n).w.cycle - 4096

  -- a start's cycle is 4,096 past its stamp
  cycle_is : (n : ℕ) → (station n).w.cycle ≡ 4096 + starts n
  cycle_is n = (punctual n (station n)).stamp

  -- the starts keep the cadence
  cadence : KeepsCadence starts
  cadence n = (punctual n (station n)).near

  -- the keys held at each start are those of the reads before it
  held_is : (n : ℕ) → HeldBefore history.edges starts n (kb.held (station n).m.keys)
  held_is zero p l = ap (λ (m : Whole S). kb.held m.keys p) model_first ∙ none p l
  held_is (suc n) p l =
      let s = station n in
      ap (λ (m : Whole S). kb.held m.keys p) (model_next n)
      ∙ so (meeting_from kb history.host s.w.cycle s.m) s.m.keys (columns_in history.edges s.w.cycle) p
      (fits s.w s.m s.ties) l

  -- so what the columns show are the tick's edges
  changes_are : (n : ℕ) → shown (kb.held (station n).m.keys) (columns_in history.edges (station n).w.cycle)
      ≡ tick_edges starts history.edges n
  changes_are n =
      let s = station n in
      edges_seen history ok starts n s.w.cycle (kb.held s.m.keys) (λ j l. cadence j) (cycle_is n) (held_is n)

  -- and the model's state is what the model says up to the start
  model_is : (n : ℕ) → (station n).m ≡ whole_at kb history.edges history.host starts n
  model_is zero = model_first
  model_is (suc n) =
      let w : World Beside = (station n).w in
      let m : Whole S = (station n).m in
      let v : World Beside = (station (suc n)).w in
      let a : w.cycle ≡ 4096 + starts n = cycle_is n in
      let b : v.cycle ≡ 4096 + starts (suc n) = cycle_is (suc n) in
      let c : v.cycle - w.cycle - 609 ≡ starts (suc n) - starts n - 609 = omega (arith, a, b) in
      model_next n
      ∙ ap (λ es. whole_tick kb history.host es w.cycle (v.cycle - w.cycle - 609) m) (changes_are n)
      ∙ ap (λ x. whole_tick kb history.host (tick_edges starts history.edges n) x (v.cycle - w.cycle - 609) m) a
      ∙ ap (λ x. whole_tick kb history.host (tick_edges starts history.edges n) (4096 + starts n) x m) c
      ∙ ap (λ x. whole_tick kb history.host (tick_edges starts history.edges n) (4096 + starts n)
      (starts (suc n) - starts n - 609) x) (model_is n)

  -- a start of the run, so many cycles late
  abbrev IsStation : ℕ → World Beside → Type 0
  IsStation l w = (n : ℕ) × (w ≡ (station n).w) × (w.cpu.pre ≡ l + 2)

  -- such a start is in time
  in_time_as : (n : ℕ) (w : World Beside) → w ≡ (station n).w → InTime n w
  in_time_as n w is = subst (λ (v : World Beside). InTime n v) (sym is) (punctual n (station n))

  -- one cycle late at most
  late_by : (n : ℕ) (w : World Beside) → w ≡ (station n).w
      → (l : ℕ) × IsStation l w × (l ≤ 1) × (w.cycle ≡ 4096 + 2048 * n + l)
  late_by n w is =
      let s = station n in
      let least : 2 ≤ w.cpu.pre = subst (λ (v : World Beside). 2 ≤ v.cpu.pre) (sym is) (late s.w s.m s.ties).0 in
      let t = in_time_as n w is in
      let pre : w.cpu.pre ≡ w.cpu.pre - 2 + 2 = omega (arith, least) in
      (w.cpu.pre - 2, (n, is, pre), t.most, t.cycle)

  -- the first start is such a start
  clock_first : Comes d TICK bytes from (λ w. (l : ℕ) × IsStation l w × (l ≤ 1) × (w.cycle ≡ 4096 + l))
  clock_first =
      let c = run_first in
      let r = late_by 0 c.end c.goal in
      let cycle : c.end.cycle ≡ 4096 + 2048 * 0 + r.0 = r.3 in
      record { steps = c.steps; end = c.end; run = c.run; goal = (r.0, r.1, r.2, omega (arith, cycle)) }

  -- and after each comes the next, 2,048 cycles later but for how late they are
  clock_each : (l : ℕ) (w : World Beside) → IsStation l w → l ≤ 1
      → Tick d TICK bytes w (λ v. (k : ℕ) × IsStation k v × (k ≤ 1) × (v.cycle + l ≡ w.cycle + 2048 + k))
  clock_each l w is most =
      let n : ℕ = is.0 in
      let t = subst (λ (v : World Beside). Tick d TICK bytes v (λ e. e ≡ (station (suc n)).w)) (sym is.1) (run_next n) in
      let c = t.rest in
      let r = late_by (suc n) c.end c.goal in
      let here : w.cycle ≡ 4096 + 2048 * n + (w.cpu.pre - 2) = (in_time_as n w is.1).cycle in
      let pre : w.cpu.pre ≡ l + 2 = is.2 in
      let there : c.end.cycle ≡ 4096 + 2048 * suc n + r.0 = r.3 in
      let rest : Comes d TICK bytes t.first
      (λ v. (k : ℕ) × IsStation k v × (k ≤ 1) × (v.cycle + l ≡ w.cycle + 2048 + k)) =
      record {
        steps = c.steps;
        end = c.end;
        run = c.run;
        goal = (r.0, r.1, r.2, omega (arith, here, pre, there));
      } in
      record { at = t.at; first = t.first; step = t.step; rest = rest }

  -- the starts are a clockwork
  clock : IsClockwork d bytes from IsStation
  clock = record {
    first = clock_first;
    each = clock_each;
    serves = λ l w is.
        subst (λ (v : World Beside). (v.cpu.svc ≡ true) × (v.cpu.rb ≡ true)) (sym is.1)
        (serves (station is.0).w (station is.0).m (station is.0).ties);
  }

  -- the run keeps its time
  pub keeps_time : KeepsTimeFrom from bytes history.edges history.host
  keeps_time = record {
    goes_on = clockwork.never_stuck d bytes from IsStation clock;
    none_early = clockwork.none_early d bytes from IsStation clock;
    starts = λ n. (_, clockwork.starts d bytes from IsStation clock n);
    near = clockwork.near d bytes from IsStation clock;
    serves = clockwork.serving d bytes from IsStation clock;
    ends = clockwork.ends d bytes from IsStation clock;
  }

  -- each tick start of a number is the start of that number here
  same_start : (n stamp : ℕ) (s : IsStart d TICK bytes from n stamp) → s.state ≡ (station n).w
  same_start n stamp s =
      let k = clockwork.known d bytes from IsStation clock n in
      let j : ℕ = k.set.0 in
      let is : k.w ≡ (station j).w = k.set.1 in
      let cycle : k.w.cycle ≡ 4096 + 2048 * n + k.late = k.cycle in
      let most : k.late ≤ 1 = k.most in
      let t = in_time_as j k.w is in
      let cycle_there : k.w.cycle ≡ 4096 + 2048 * j + (k.w.cpu.pre - 2) = t.cycle in
      let most_there : k.w.cpu.pre - 2 ≤ 1 = t.most in
      let same : j ≡ n = omega (arith, cycle, most, cycle_there, most_there) in
      sym (clockwork.is_nth d bytes from IsStation clock n stamp s)
      ∙ subst (λ i. k.w ≡ (station i).w) same is

  -- and it has the stamp of that one
  is_start : (n stamp : ℕ) → IsStart d TICK bytes from n stamp → IsStart d TICK bytes from n (starts n)
  is_start n stamp s =
      let cycle : s.state.cycle ≡ 4096 + stamp = s.cycle in
      let there : (station n).w.cycle ≡ 4096 + starts n = cycle_is n in
      let same : s.state.cycle ≡ (station n).w.cycle = ap (λ (v : World Beside). v.cycle) (same_start n stamp s) in
      let stamp_is : stamp ≡ starts n = omega (arith, cycle, there, same) in
      subst (λ t. IsStart d TICK bytes from n t) stamp_is s

  -- a start of the run is at its multiple of 2,048 or one cycle past it
  pub prompt : (n stamp : ℕ) → IsStart d TICK bytes from n stamp → IsPrompt n stamp
  prompt n stamp s =
      let t = in_time_as n s.state (same_start n stamp s) in
      let cycle : s.state.cycle ≡ 4096 + stamp = s.cycle in
      let there : s.state.cycle ≡ 4096 + 2048 * n + (s.state.cpu.pre - 2) = t.cycle in
      let most : s.state.cpu.pre - 2 ≤ 1 = t.most in
      record { least = omega (arith, cycle, there); most = omega (arith, cycle, there, most) }

  -- what holds of each start, with the model there; and the starts of the run's numbers
  pub at_starts : (P : World Beside → Whole S → Type 0)
      → ((n : ℕ) (w : World Beside) (m : Whole S) → IsOnTime n w → R w m
      → length (shown (kb.held m.keys) (columns_in history.edges w.cycle)) ≤ 4 → P w m)
      → (starts : ℕ → ℕ) × ((n : ℕ) → IsStart d TICK bytes from n (starts n))
      × ((n stamp : ℕ) (s : IsStart d TICK bytes from n stamp)
      → P s.state (whole_at kb history.edges history.host starts n))
  at_starts P law = (
    starts,
    λ n. let s = keeps_time.starts n in is_start n s.0 s.1,
    λ n stamp s.
        let at : Station n = station n in
        subst (λ w. P w (whole_at kb history.edges history.host starts n)) (sym (same_start n stamp s))
        (subst (λ m. P at.w m) (model_is n) (law n at.w at.m at.time at.ties (few n at))),
  )

  -- at each the log is the model's
  pub agrees : AgreesFrom from bytes kb history.edges history.host
  agrees =
      let a = at_starts (λ w m. log_of w.board ≡ m.side.log) (λ n w m time ties few. logs w m ties) in
      record { starts = a.0; each = a.1; log = a.2 }

  -- and the wires of each tick are as the law of a tick says
  pub drives : Drives d TICK bytes from (λ c. 255) (λ e. at_tick d TICK e ≡ true)
      → ((k : ℕ) (one next : World Beside) → calm d TICK bytes k from ≡ Some one → at_tick d TICK one ≡ false
      → joint_step d bytes one ≡ Some next → next.cpu.p1 ≡ 255)
      → ((n : ℕ) (w : World Beside) (m : Whole S) → IsOnTime n w → R w m
      → length (shown (kb.held m.keys) (columns_in history.edges w.cycle)) ≤ 4
      → DrivesFrame history.edges history.host bytes (kb.offer m.keys) (meeting_from kb history.host w.cycle m) w)
      → DrivesWires from bytes kb history.edges history.host
  drives begins dark law =
      let a = at_starts
      (λ w m. DrivesFrame history.edges history.host bytes (kb.offer m.keys) (meeting_from kb history.host w.cycle m) w)
      law in
      record { first = begins; dark = dark; starts = a.0; each = a.1; frames = a.2 }
