-- A step from a state within the cells of a frame.
use Rattle.std.proofs.Common.{◌≡◌, ◌≤◌, ◌<◌, ◌⊎◌, inl, inr, ℕ, suc, ◌+◌, ◌-◌, ◌*◌, Bool, true, false, ◌&&◌, ◌==◌, nat_lt, nat_le}
use Rattle.std.proofs.Common.{Some, refl, ap, sym, subst, ◌∙◌, arith}
use Rattle.std.proofs.lemmas.Bool.Decides.{nat_tests}
use Rattle.bits.specs.Bits.{bit}
use Rattle.ctl_link.specs.Link.{is_busy}
use Rattle.ctl_link.specs.declared.link.Link.TheVariants.{Free}
use Rattle.ctl_wire.specs.Wires.{wires}
use Rattle.joint_feed.specs.Stories.{Story, state_at}
use Rattle.joint_run.specs.Joint.{Beside, latch_of}
use Rattle.joint_run.specs.Run.{World}
use Rattle.capture_frames.specs.Frames.{edges, silent}
use Rattle.law_wires_heard.proofs.Clock.{clock_in}
use Rattle.law_wires_heard.proofs.Pulls.{lets, link_of, shown_at}
use Rattle.law_wires_heard.proofs.Stepping.{first_latch}
use Rattle.law_wires_heard.proofs.Ticks.{drives}
use Rattle.law_capture_heard.specs.Captured.{hearing_to}
use Rattle.law_capture_heard.specs.Found.{let_go_to}
use Rattle.law_capture_heard.proofs.Eleven.{IsEleven}
use Rattle.law_capture_heard.proofs.FromRest.{high_by_latch, next_in}
use Rattle.law_capture_heard.proofs.Gathered.{fall_at, first_frame, gathered, nothing_left, one_more_bit}
use Rattle.law_wires_heard.proofs.ATick.{IsATick}
use Rattle.law_capture_heard.proofs.Links.{requests}
use Rattle.law_capture_heard.proofs.Next.{data_before, fell_before, let_go_before, risen, still_low}
use Rattle.law_capture_heard.proofs.Phases.{B, Down, Gathers, High, In, L, Last, On, Up, dat, n, whole_frame}
use Rattle.law_capture_heard.proofs.Pulsed.{left_by, one_more}
use Rattle.law_capture_heard.proofs.RightBytes.{starts}
use Rattle.law_capture_heard.proofs.Rises.{high_at, low_in, second_latch}

module _ (s : Story) (t : IsATick s) (k : ℕ) (one next : World Beside) (from : state_at s k ≡ Some one)
    (to : state_at s (suc k) ≡ Some next) (o : ℕ) (i : In s t one o) (g : On s t one next) where
  abbrev count : ℕ
  count = g.step.count

  least : 1 ≤ count
  least = g.step.least

  most : count ≤ 2
  most = g.step.most

  there : In s t next (o + count)
  there = next_in s t k one next from to o i g

  -- the clock that the latch drives in the step's first cycle, and in its second
  pub latch_first : (latch_of next.cpu.p2).clk ≡ clock_in (n s t) o
  latch_first =
      ap (bit 0) (first_latch s.events t.cycle t.start t.old t.lit t.was t.is t.frame t.fits t.idle one next o i g)
      ∙ drives s.events t.cycle t.start t.old t.lit t.was t.is t.frame t.fits t.idle o

  latch_second : count ≡ 2 → (latch_of next.cpu.p2).clk ≡ clock_in (n s t) (suc o)
  latch_second two =
      ap (bit 0) (second_latch s t.from t.to t.cycle t.start t.old t.lit t.was t.is t.frame t.fits t.idle t.tick one next o i g two)
      ∙ drives s.events t.cycle t.start t.old t.lit t.was t.is t.frame t.fits t.idle (suc o)

  -- what is gathered stays, as long as the controller leaves the clock alone and the frame is as before
  pub keeps : (c : ℕ) → (hearing_to s (suc k)).frame ≡ (hearing_to s k).frame → lets one.board ≡ true → Gathers s t k c
      → Gathers s t (suc k) c
  keeps c same alone h =
      let go : let_go_to s (suc k) ≡ let_go_to s k = let_go_before s k one next from to alone in
      record {
        few = subst (λ f. edges f ≤ c) (sym same) h.few;
        exact = λ e. same ∙ h.exact e
            ∙ ap (λ m. gathered (first_frame (whole_frame s t e).by_host m) t.cycle (dat s t) c) (sym go);
      }

  -- while the keyboard holds the clock low
  module _ (d : Down s t k one o) where
    abbrev c : ℕ
    c = d.cell

    -- it stays low
    pub stays_down : (latch_of next.cpu.p2).clk ≡ false → lets next.board ≡ true → Down s t (suc k) next (o + count)
    stays_down down still =
        let clock : (shown_at s next).clk ≡ false = ap (λ b. b && lets next.board) down in
        let since : 290 + 32 * c ≤ o = d.from in
        record {
          cell = c;
          in_frame = d.in_frame;
          from = omega (arith, since);
          to = by (o == 304 + 32 * c) refl (nat_le (o + count) (304 + 32 * c)) refl;
          clock = clock;
          alone = still;
          latch_low = down;
          fall = fell_before s k one next from to d.clock ∙ d.fall;
          data_then = data_before s k one next from to d.clock ∙ d.data_then;
          gathers = keeps c (still_low s k one next from to d.clock clock) d.alone d.gathers;
        }
      where
        until : o ≤ 304 + 32 * c
        until = d.to

        by : (p : Bool) → (o == 304 + 32 * c) ≡ p → (q : Bool) → nat_le (o + count) (304 + 32 * c) ≡ q → o + count ≤ 304 + 32 * c
        by p e true f = grind (arith, nat_tests, f)
        by true e false f =
            let at : o ≡ 304 + 32 * c = grind (arith, nat_tests, e) in
            let high : (latch_of next.cpu.p2).clk ≡ true = latch_first ∙ ap (clock_in (n s t)) at ∙ high_at (n s t) c in
            absurd (let z : true ≡ false = sym high ∙ down in cc)
        by false e false f =
            let u : o ≤ 304 + 32 * c = until in
            let l : count ≤ 2 = most in
            let at : suc o ≡ 304 + 32 * c = grind (arith, nat_tests, e, f, u, l) in
            let two : count ≡ 2 = grind (arith, nat_tests, e, f, u, l) in
            let high : (latch_of next.cpu.p2).clk ≡ true = latch_second two ∙ ap (clock_in (n s t)) at ∙ high_at (n s t) c in
            absurd (let z : true ≡ false = sym high ∙ down in cc)

    -- it rises
    module _ (up : (latch_of next.cpu.p2).clk ≡ true) (still : lets next.board ≡ true) where
      at_rise : o ≡ 304 + 32 * c
      at_rise = by (nat_lt o (304 + 32 * c)) refl
        where
          by : (b : Bool) → nat_lt o (304 + 32 * c) ≡ b → o ≡ 304 + 32 * c
          by false e = let u : o ≤ 304 + 32 * c = d.to in grind (arith, nat_tests, e, u)
          by true e =
              let since : 290 + 32 * c ≤ o = d.from in
              let low = latch_first ∙ low_in (n s t) c o d.in_frame (omega (arith, since)) (grind (arith, nat_tests, e)) in
              absurd (let z : true ≡ false = sym up ∙ low in cc)

      two : count ≡ 2
      two = elim g.step.slow [
        | inl same ↦ absurd (let z : true ≡ false = sym up ∙ ap (bit 0) same ∙ d.latch_low in cc)
        | inr slow ↦ slow
      ]

      here : o + count ≡ 306 + 32 * c
      here = omega (arith, at_rise, two)

      clock : (shown_at s next).clk ≡ true
      clock = high_by_latch s t k one next from to o i g up still

      width : 2500 * next.cycle - fall_at t.cycle c ≡ 40000
      width = let cycle : next.cycle ≡ t.cycle + (o + count) = there.cycle in omega (arith, cycle, here)

      frame_is : (hearing_to s (suc k)).frame
          ≡ left_by (fall_at t.cycle c) (dat s t c) (2500 * next.cycle) (shown_at s next).dat (hearing_to s k).frame
      frame_is =
          risen s k one next from to d.clock clock
          ∙ ap (λ m. left_by m (hearing_to s k).clock.at_fall (2500 * next.cycle) (shown_at s next).dat (hearing_to s k).frame) d.fall
          ∙ ap (λ b. left_by (fall_at t.cycle c) b (2500 * next.cycle) (shown_at s next).dat (hearing_to s k).frame) d.data_then

      -- in a frame of eleven cells it is known what the frame is, and that it begins with a start bit
      module _ (e : n s t ≡ 11) where
        abbrev w : IsEleven s.events t.cycle t.start t.old t.lit t.was t.is t.idle t.frame t.fits
        w = whole_frame s t e

        start_bit : w.by_host ≡ false → dat s t 0 ≡ false
        start_bit h = starts (dat s t) w.passes ((t.whole e).so ∙ w.ends) (w.sender ∙ h)

        data_here : w.by_host ≡ true → c < 10 → (shown_at s next).dat ≡ dat s t c
        data_here h few =
            let z : o + count ≡ suc (305 + 32 * c) = omega (arith, here) in
            ap (λ p2. (wires (latch_of p2) next.board.pc).dat) (there.p2 ∙ ap (Last s t) z)
            ∙ ap (λ (b : Beside). (wires (latch_of (L s t (305 + 32 * c))) b.pc).dat) (there.board ∙ ap (B s t) here)
            ∙ w.rises h c few

      -- after the eleventh cell the frame is over
      pub is_over : (e : n s t ≡ 11) → c ≡ 10 → High s t (suc k) next (o + count)
      is_over e ten = by (w e).by_host refl
        where
          at_end : o + count ≡ 626
          at_end = omega (arith, here, ten)

          by : (b : Bool) → (w e).by_host ≡ b → High s t (suc k) next (o + count)
          by false h =
              let low : lets (B s t (o + count)) ≡ false = (w e).low h (o + count) (omega (arith, at_end)) (omega (arith, at_end)) in
              absurd (let z : true ≡ false = sym still ∙ ap lets there.board ∙ low in cc)
          by true h =
              let free : link_of next.board ≡ Free =
              ap link_of there.board ∙ (w e).afterwards h (o + count) (omega (arith, at_end)) in
              let nothing : left_by (fall_at t.cycle 10) (dat s t 10) (2500 * next.cycle) (shown_at s next).dat
              (gathered (first_frame (w e).by_host (let_go_to s k)) t.cycle (dat s t) 10) ≡ silent =
              nothing_left t.cycle (let_go_to s k) (dat s t) (w e).by_host (start_bit e)
              (2500 * next.cycle) (shown_at s next).dat (ap (λ m. 2500 * next.cycle - fall_at t.cycle m) (sym ten) ∙ width) in
              record {
                rests = record {
                  clock = clock;
                  idle = ap is_busy free;
                  frame = frame_is
                      ∙ ap (left_by (fall_at t.cycle c) (dat s t c) (2500 * next.cycle) (shown_at s next).dat) (d.gathers.exact e)
                      ∙ ap (λ m. left_by (fall_at t.cycle m) (dat s t m) (2500 * next.cycle) (shown_at s next).dat
                      (gathered (first_frame (w e).by_host (let_go_to s k)) t.cycle (dat s t) m)) ten
                      ∙ nothing
                      ∙ ap (λ l. first_frame (requests l) (let_go_to s (suc k))) (sym free);
                };
                place = λ a. inr (omega (arith, at_end));
              }

      -- after each other one there is a bit more
      pub goes_up : c ≤ 9 → (c ≤ 8) ⊎ (n s t ≡ 11) → Up s t (suc k) next (o + count)
      goes_up nine small = record {
        cell = c;
        in_frame = d.in_frame;
        from = omega (arith, here);
        to = omega (arith, here);
        clock = clock;
        alone = still;
        nine = nine;
        small = small;
        gathers = record {
          few = let before : edges (hearing_to s k).frame ≤ c = d.gathers.few in
              let more : edges (left_by (fall_at t.cycle c) (dat s t c) (2500 * next.cycle) (shown_at s next).dat (hearing_to s k).frame)
              ≤ suc (edges (hearing_to s k).frame) =
              one_more (fall_at t.cycle c) (dat s t c) (2500 * next.cycle) (shown_at s next).dat (hearing_to s k).frame in
              subst (λ f. edges f ≤ suc c) (sym frame_is) (omega (arith, before, more));
          exact = λ e.
              frame_is
              ∙ ap (left_by (fall_at t.cycle c) (dat s t c) (2500 * next.cycle) (shown_at s next).dat) (d.gathers.exact e)
              ∙ one_more_bit t.cycle (let_go_to s k) (dat s t) (w e).by_host (start_bit e) c (omega (arith, nine))
              (2500 * next.cycle) (shown_at s next).dat width (λ h. data_here e h (omega (arith, nine)))
              ∙ ap (λ m. gathered (first_frame (w e).by_host m) t.cycle (dat s t) (suc c))
              (sym (let_go_before s k one next from to d.alone));
        };
      }

      -- a frame of ten cells is cut before its last pulse ends
      pub not_tenth : n s t ≡ 10 → c ≡ 9 → ⊥
      not_tenth ten nine =
          let at : o + count ≡ 594 = omega (arith, here, nine) in
          let low = t.tick.broken ten (o + count) (omega (arith, at)) (omega (arith, at)) in
          let z : true ≡ false = sym still ∙ ap lets there.board ∙ low in
          cc
