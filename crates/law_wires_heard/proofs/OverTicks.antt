-- The steps of a run, tick by tick: from power-on to the first tick start, and from each start to the next.
use Rattle.std.proofs.Common.{◌≡◌, ◌≤◌, ◌<◌, ℕ, suc, zero, ◌+◌, ◌-◌, ◌*◌, Bool, true, false, Some, refl, ap, sym, ◌∙◌, arith}
use Rattle.std.proofs.lemmas.Bool.Decides.{nat_tests}
use Rattle.std.specs.Prelude.{nat_lt}
use Rattle.std.specs.declared.option.Option.{Option}
use Rattle.law_agreement.specs.Wires.{DrivesWires, IsFrameOf, IsLetGo}
use Rattle.bits.specs.Bits.{bit}
use Rattle.model_controller.specs.declared.meeting.Meeting.{Meeting}
use Rattle.model_controller.specs.declared.meeting.Meeting.TheVariants.{Got, Inhibited, Idle, Sent, Cut}
use Rattle.fw_kernel.specs.declared.labels.TheConstants.{TICK}
use Rattle.law_fw_link.proofs.TickLatch.{before_lights, without_frame}
use Rattle.law_fw_link.proofs.Wired.{IsReleased}
use Rattle.law_fw_link.specs.Latch.{Frame, NoFrame, SentFrame, CutFrame, ReceivedFrame, tick_latch}
use Rattle.fw_ticks.specs.JointRun.{KeepsTimeFrom}
use Rattle.joint_feed.specs.Stories.{Story, state_at}
use Rattle.joint_run.specs.Joint.{Beside, beside_at_start, joint_board, joint_start_of}
use Rattle.joint_run.specs.Run.{Board, World, step_on}
use Rattle.joint_run.specs.Starts.{at_tick, IsStart, starts_before}
use Rattle.model_link.specs.Expected.{meeting_from, whole_at}
use Rattle.model_link.specs.Machine.{KeyboardMachine}
use Rattle.law_wires_heard.proofs.Chain.{Latches, calm_ends, calm_latches, tick_ends, tick_latches}
use Rattle.law_wires_heard.proofs.Clock.{Fits}
use Rattle.law_wires_heard.proofs.Cut.{is_broken}
use Rattle.law_wires_heard.proofs.HeardAtLastCell.{whole}
use Rattle.law_wires_heard.proofs.InTick.{high_next}
use Rattle.law_wires_heard.proofs.Pulls.{same_state}
use Rattle.law_wires_heard.proofs.Silent.{IsTick}
use Rattle.law_wires_heard.proofs.Steps.{step_of}
use Rattle.law_wires_heard.proofs.ATick.{IsATick}

released : (v : ℕ) → IsLetGo v → IsReleased v
released v h = record { byte = h.0; clock = h.1; data_wire = h.2 }

-- a frame of a meeting that is cut is cut at a look
fits_of : (old v : ℕ) (was : IsReleased old) (is : IsReleased v) (offered : Option ℕ) (meeting : Meeting) (frame : Frame)
    → IsFrameOf offered meeting frame → Fits old v was is frame
fits_of old v was is offered meeting NoFrame h = tt
fits_of old v was is offered meeting (SentFrame byte) h = tt
fits_of old v was is offered (Sent b) (CutFrame byte look) h = absurd cc
fits_of old v was is offered Cut (CutFrame byte look) h = h.1
fits_of old v was is offered (Got b) (CutFrame byte look) h = absurd cc
fits_of old v was is offered Inhibited (CutFrame byte look) h = absurd cc
fits_of old v was is offered Idle (CutFrame byte look) h = absurd cc
fits_of old v was is offered meeting ReceivedFrame h = tt

-- what leads from each tick's start to its end holds at each start; and what it says of each step on the way, of all steps
module _ (s : Story) (time : KeepsTimeFrom (joint_start_of s.held) s.bytes s.edges s.events)
    (AtStart AtStep : ℕ → Type 0) (begins : AtStart 0)
    (leads : (t : IsATick s) → AtStart t.from → AtStart t.to × ((k : ℕ) → t.from ≤ k → k < t.to → AtStep k)) where
  abbrev d : Board
  d = joint_board s.edges s.events

  -- a tick start, up to which this holds, and long before which the latch leaves the clock alone
  record IsUpTo (n : ℕ) : Type 0 where
    pub steps : ℕ
    pub many : n ≤ steps
    pub w : World Beside
    pub at : state_at s steps ≡ Some w
    pub starts : at_tick d TICK w ≡ true
    pub number : starts_before d TICK s.bytes (joint_start_of s.held) steps ≡ n
    pub high : (j : ℕ) (u : World Beside) → j ≤ steps → state_at s j ≡ Some u → w.cycle < u.cycle + 330 → bit 0 u.cpu.p2 ≡ true
    pub holds : AtStart steps
    pub each : (k : ℕ) → k < steps → AtStep k

  start_of : (n : ℕ) (t : IsUpTo n) → IsStart d TICK s.bytes (joint_start_of s.held) n (t.w.cycle - 4096)
  start_of n t =
      let early : 4096 ≤ t.w.cycle = time.none_early t.steps t.w t.at t.starts in
      record { steps = t.steps; state = t.w; reached = t.at; at = t.starts; number = t.number; cycle = omega (arith, early) }

  -- how late a start is
  bounds : (k n : ℕ) (w : World Beside) → state_at s k ≡ Some w → at_tick d TICK w ≡ true
      → starts_before d TICK s.bytes (joint_start_of s.held) k ≡ n → (4096 + 2048 * n ≤ w.cycle) × (w.cycle ≤ 4096 + 2048 * n + 5)
  bounds k n w at starts number =
      let early : 4096 ≤ w.cycle = time.none_early k w at starts in
      let near = time.near n (w.cycle - 4096)
      (record { steps = k; state = w; reached = at; at = starts; number = number; cycle = omega (arith, early) }) in
      let least : 2048 * n ≤ w.cycle - 4096 = near.least in
      let most : w.cycle - 4096 ≤ 2048 * n + 5 = near.most in
      (omega (arith, early, least), omega (arith, early, most))

  -- up to the first start the latch pulls no wire: a tick without a frame, so to speak
  high_latch : IsReleased 255
  high_latch = record { byte = omega arith; clock = refl; data_wire = refl }

  no_frame : (o : ℕ) → tick_latch 255 255 NoFrame o ≡ 255
  no_frame o = by (nat_lt o 232) refl
    where
      by : (c : Bool) → nat_lt o 232 ≡ c → tick_latch 255 255 NoFrame o ≡ 255
      by true e = before_lights 255 255 NoFrame o (grind (arith, nat_tests, e))
      by false e = without_frame 255 255 o (grind (arith, nat_tests, e))

  begin : (k1 : ℕ) → Latches s 0 k1 (λ c. 255) → IsTick s 0 k1 0 beside_at_start 255 255 high_latch high_latch NoFrame tt refl
  begin k1 latches = record {
    w = joint_start_of s.held;
    at = refl;
    begins = record { cycle = refl; board = refl; p2 = refl; between = λ i few at. absurd (omega (arith, few)) };
    goes = λ j one next a b from to. record {
      step = step_of s.edges s.events s.bytes one next (sym (ap (λ o. step_on d s.bytes o) from) ∙ to);
      latches = λ c l u. latches j one next a b from to c l u ∙ sym (no_frame (c - 0));
    };
    high = λ j u l at near.
        let z : j ≡ 0 = omega (arith, l) in
        ap (λ (v : World Beside). bit 0 v.cpu.p2) (same_state s 0 u (joint_start_of s.held) (ap (λ i. state_at s i) (sym z) ∙ at) refl);
    broken = λ ten. absurd (omega (arith, ten));
    steady = λ all. absurd (omega (arith, all));
  }

  module _ {S : Type 0} (kb : KeyboardMachine S) (wires : DrivesWires (joint_start_of s.held) s.bytes kb s.edges s.events) where
    first : IsUpTo 0
    first =
        let r = wires.first in
        let k1 : ℕ = 0 + r.steps in
        let Q : World Beside → Type 0 = λ e. at_tick d TICK e ≡ true in
        let t = begin k1 (calm_latches s 0 (joint_start_of s.held) (λ c. 255) Q refl r) in
        let e = calm_ends s 0 (joint_start_of s.held) (λ c. 255) Q refl r in
        let b = bounds k1 0 r.end e.0 r.goal e.1 in
        let far : 4096 + 2048 * 0 ≤ r.end.cycle = b.0 in
        let whole : IsATick s = record {
          from = 0;
          to = k1;
          cycle = 0;
          start = beside_at_start;
          old = 255;
          lit = 255;
          was = high_latch;
          is = high_latch;
          frame = NoFrame;
          fits = tt;
          idle = refl;
          tick = t;
          whole = λ all. absurd (omega (arith, all));
          goes_with = tt;
          cut = tt;
          some = omega arith;
          end = r.end;
          ends = e.0;
          long = omega (arith, far);
        } in
        let led = leads whole begins in
        record {
          steps = k1;
          many = omega arith;
          w = r.end;
          at = e.0;
          starts = r.goal;
          number = e.1;
          high = high_next s 0 k1 0 beside_at_start 255 255 high_latch high_latch NoFrame tt refl t
              (λ all. absurd (omega (arith, all))) r.end.cycle
              (omega (arith, far)) (omega arith);
          holds = led.0;
          each = λ k l. led.1 k (omega arith) l;
        }

    next : (n : ℕ) → IsUpTo n → IsUpTo (suc n)
    unfolding start_of
    next n t0 =
        let w : World Beside = t0.w in
        let k0 : ℕ = t0.steps in
        let x : ℕ = w.cycle in
        let f = wires.frames n (x - 4096) (start_of n t0) in
        let was = released w.cpu.p2 f.before in
        let is = released f.lit f.afterwards in
        let fits : Fits w.cpu.p2 f.lit was is f.frame =
        fits_of w.cpu.p2 f.lit was is (kb.offer (whole_at kb s.edges s.events wires.starts n).keys)
        (meeting_from kb s.events x (whole_at kb s.edges s.events wires.starts n)) f.frame f.of_meeting in
        let latch : ℕ → ℕ = λ c. tick_latch w.cpu.p2 f.lit f.frame (c - x) in
        let Q : World Beside → Type 0 = λ e. (at_tick d TICK e ≡ true) × (e.cpu.p2 ≡ f.lit) in
        let k1 : ℕ = suc k0 + f.drives.rest.steps in
        let latches = tick_latches s k0 w latch Q t0.at f.drives in
        let e = tick_ends s k0 w latch Q t0.at f.drives in
        let end : World Beside = f.drives.rest.end in
        let goal = f.drives.rest.goal in
        let z : starts_before d TICK s.bytes (joint_start_of s.held) k0 ≡ n = t0.number in
        let one : starts_before d TICK s.bytes (joint_start_of s.held) k1
        ≡ starts_before d TICK s.bytes (joint_start_of s.held) k0 + 1 = e.1 in
        let number : starts_before d TICK s.bytes (joint_start_of s.held) k1 ≡ suc n = omega (arith, one, z) in
        let here = bounds k0 n w t0.at t0.starts t0.number in
        let there = bounds k1 (suc n) end e.0 goal.0 number in
        let most : x ≤ 4096 + 2048 * n + 5 = here.1 in
        let least : 4096 + 2048 * suc n ≤ end.cycle = there.0 in
        let many : n ≤ k0 = t0.many in
        let all = whole s.events x w.board w.cpu.p2 f.lit was is f.idle f.frame fits f.goes_with in
        let t : IsTick s k0 k1 x w.board w.cpu.p2 f.lit was is f.frame fits f.idle =
        record {
          w = w;
          at = t0.at;
          begins = record { cycle = omega arith; board = refl; p2 = refl; between = λ i few at. absurd (omega (arith, at)) };
          goes = λ j one next a b from to. record {
            step = step_of s.edges s.events s.bytes one next (sym (ap (λ o. step_on d s.bytes o) from) ∙ to);
            latches = λ c l u. latches j one next a b from to c l u;
          };
          high = t0.high;
          broken = is_broken s.events x w.board w.cpu.p2 f.lit was is f.frame fits f.idle f.cut;
          steady = λ eleven. (all eleven).steady;
        } in
        let whole : IsATick s = record {
          from = k0;
          to = k1;
          cycle = x;
          start = w.board;
          old = w.cpu.p2;
          lit = f.lit;
          was = was;
          is = is;
          frame = f.frame;
          fits = fits;
          idle = f.idle;
          tick = t;
          whole = all;
          goes_with = f.goes_with;
          cut = f.cut;
          some = omega arith;
          end = end;
          ends = e.0;
          long = omega (arith, most, least);
        } in
        let led = leads whole t0.holds in
        record {
          steps = k1;
          many = omega (arith, many);
          w = end;
          at = e.0;
          starts = goal.0;
          number = number;
          high = high_next s k0 k1 x w.board w.cpu.p2 f.lit was is f.frame fits f.idle t all end.cycle
              (omega (arith, most, least)) (omega arith);
          holds = led.0;
          each = λ k l. before_or_in k (t0.each k) (λ a b. led.1 k a b) l (nat_lt k k0) refl;
        }
      where
        before_or_in : (k : ℕ) → (k < t0.steps → AtStep k)
            → (t0.steps ≤ k → k < suc t0.steps + (wires.frames n (t0.w.cycle - 4096) (start_of n t0)).drives.rest.steps → AtStep k)
            → k < suc t0.steps + (wires.frames n (t0.w.cycle - 4096) (start_of n t0)).drives.rest.steps
            → (c : Bool) → nat_lt k t0.steps ≡ c → AtStep k
        before_or_in k f g l true e = f (grind (arith, nat_tests, e))
        before_or_in k f g l false e = g (grind (arith, nat_tests, e)) l

    up_to : (n : ℕ) → IsUpTo n
    up_to zero = first
    up_to (suc n) = next n (up_to n)

    -- what each tick says of its steps is so of each step of a run
    pub each_step : (k : ℕ) → AtStep k
    each_step k =
        let t = up_to (suc k) in
        let many : suc k ≤ t.steps = t.many in
        t.each k (omega (arith, many))
