-- A step from a state in which the controller pulls the clock.
use Rattle.std.proofs.Common.{◌≡◌, ◌≤◌, ◌<◌, ◌⊎◌, inl, inr, ℕ, suc, ◌+◌, ◌-◌, ◌*◌, Bool, true, false, not, ◌&&◌, nat_lt}
use Rattle.std.proofs.Common.{Some, refl, ap, sym, subst, ◌∙◌, arith}
use Rattle.std.proofs.lemmas.Bool.Decides.{nat_tests}
use Rattle.std.specs.Prelude.{if◌then◌else◌}
use Rattle.ctl_link.specs.Link.{is_busy}
use Rattle.ctl_wire.specs.Wire.{drive}
use Rattle.joint_feed.specs.Stories.{Story, state_at}
use Rattle.joint_run.specs.Joint.{Beside}
use Rattle.joint_run.specs.Run.{World}
use Rattle.capture_frames.specs.Frames.{asked, silent}
use Rattle.law_wires_heard.proofs.Pulls.{lets, link_of, shown_at}
use Rattle.law_capture_heard.specs.Captured.{hearing_to}
use Rattle.law_capture_heard.proofs.FromRest.{high_by_latch, next_in, not_past}
use Rattle.law_capture_heard.proofs.Gathered.{first_frame}
use Rattle.law_wires_heard.proofs.ATick.{IsATick, IsInTick}
use Rattle.law_capture_heard.proofs.Links.{data_is, low_is_idle, requests, step_idle}
use Rattle.law_capture_heard.proofs.LowSince.{IsLowSince, level_is, low_since}
use Rattle.law_capture_heard.proofs.Next.{let_go_now, risen}
use Rattle.law_capture_heard.proofs.Phases.{B, High, In, Last, On, RestsLow, n}
use Rattle.law_capture_heard.proofs.Pulsed.{hold_leaves}
use Rattle.law_capture_heard.proofs.Widths.{long_if_pulled}
use Rattle.law_capture_heard.proofs.Windows.{IsAlone, LetsGo, alone_as_let_go, not_in_cells}

module _ (s : Story) (t : IsATick s) (k : ℕ) (one next : World Beside) (from : state_at s k ≡ Some one)
    (to : state_at s (suc k) ≡ Some next) (o : ℕ) (i : In s t one o) (g : On s t one next) where
  abbrev count : ℕ
  count = g.step.count

  at_next : In s t next (o + count)
  at_next = next_in s t k one next from to o i g

  -- from a clock that the controller pulls
  module _ (there : (j : ℕ) → (w : World Beside) × (state_at s j ≡ Some w)) (ticks : (j : ℕ) → IsInTick s j) (h : RestsLow s k one) where
    -- it lets it go
    module _ (still : lets next.board ≡ true) where
      abbrev m : ℕ
      m = o + count - 1

      least : 1 ≤ count
      least = g.step.least

      most : count ≤ 2
      most = g.step.most

      after_m : suc m ≡ o + count
      after_m = let l : 1 ≤ count = least in omega (arith, l)

      let_go : LetsGo s.events t.cycle t.start t.old t.lit t.was t.is t.idle t.frame t.fits o m
      let_go =
          let l : 1 ≤ count = least in
          let u : count ≤ 2 = most in
          record {
            near = omega (arith, u);
            not_before = omega (arith, l);
            low = ap lets (sym i.board) ∙ h.low;
            high = ap (λ j. lets (B s t j)) after_m ∙ ap lets (sym at_next.board) ∙ still;
            between = λ c few at. at_next.between c few (sym after_m ∙ at);
          }

      latch_alone : IsAlone next.cpu.p2
      latch_alone =
          subst IsAlone (sym (at_next.p2 ∙ ap (Last s t) (sym after_m)))
          (alone_as_let_go s.events t.cycle t.start t.old t.lit t.was t.is t.idle t.frame t.fits t.goes_with t.cut t.whole o m let_go)

      clock : (shown_at s next).clk ≡ true
      clock = high_by_latch s t k one next from to o i g latch_alone.0 still

      idle : is_busy (link_of next.board) ≡ false
      idle = step_idle s.events one next g.step latch_alone.0 (low_is_idle (link_of one.board) h.low)

      since : IsLowSince s k
      since = low_since s there k (level_is s k one from ∙ h.clock)

      wide : 55000 ≤ 2500 * next.cycle - (hearing_to s k).clock.fall
      wide =
          let long : since.next.cycle + 62 ≤ next.cycle = long_if_pulled s ticks k next to clock since one from h.low in
          let fell : (hearing_to s k).clock.fall ≡ 2500 * since.next.cycle = since.time in
          omega (arith, long, fell)

      data_is_high : (shown_at s next).dat ≡ not (requests (link_of next.board))
      data_is_high =
          ap (λ c. c && (drive (link_of next.board)).dat) latch_alone.1
          ∙ data_is (link_of next.board) idle (requests (link_of next.board)) refl

      frame_by : (b : Bool) → requests (link_of next.board) ≡ b
          → (if not b then silent else asked (2500 * next.cycle)) ≡ first_frame b next.cycle
      frame_by true e = refl
      frame_by false e = refl

      place : n s t ≡ 11 → (o + count ≤ 288) ⊎ (609 ≤ o + count)
      place e = by (nat_lt o 288) refl (nat_lt m 650) refl
        where
          by : (p : Bool) → nat_lt o 288 ≡ p → (q : Bool) → nat_lt m 650 ≡ q → (o + count ≤ 288) ⊎ (609 ≤ o + count)
          by true c q d =
              let l : o < 288 = grind (arith, nat_tests, c) in
              inl (early l (nat_lt 288 (o + count)) refl)
            where
              early : o < 288 → (b : Bool) → nat_lt 288 (o + count) ≡ b → o + count ≤ 288
              early l false d = not_past 288 (o + count) d
              early l true d =
                  let past : 288 < o + count = grind (arith, nat_tests, d) in
                  let u : count ≤ 2 = most in
                  absurd (at_next.between 0 (omega (arith, e)) (omega (arith, l, past, u)))
          by false c true d =
              absurd (not_in_cells s.events t.cycle t.start t.old t.lit t.was t.is t.idle t.frame t.fits (t.whole e) o m let_go
              (grind (arith, nat_tests, c)) (grind (arith, nat_tests, d)))
          by false c false d =
              let l : 650 ≤ m = grind (arith, nat_tests, d) in
              let z : suc m ≡ o + count = after_m in
              inr (omega (arith, l, z))

      -- so it is at rest, and the listener has a request just if the controller requests to send
      pub lets_go : High s t (suc k) next (o + count)
      lets_go = record {
        rests = record {
          clock = clock;
          idle = idle;
          frame = risen s k one next from to h.clock clock
              ∙ hold_leaves (hearing_to s k).clock.fall (hearing_to s k).clock.at_fall (2500 * next.cycle) (shown_at s next).dat
              (hearing_to s k).frame wide
              ∙ ap (λ b. if b then silent else asked (2500 * next.cycle)) data_is_high
              ∙ frame_by (requests (link_of next.board)) refl
              ∙ ap (first_frame (requests (link_of next.board))) (sym (let_go_now s k one next from to h.low still));
        };
        place = place;
      }
