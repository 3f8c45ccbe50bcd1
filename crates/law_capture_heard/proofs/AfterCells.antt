-- A step after the pulse of a cell, up to the next one or to the end of the frame.
use Rattle.std.proofs.Common.{◌≡◌, ◌≤◌, ◌<◌, ◌⊎◌, inl, inr, ℕ, suc, ◌+◌, ◌-◌, ◌*◌, Bool, true, false, ◌&&◌, ◌==◌, nat_lt}
use Rattle.std.proofs.Common.{List, [], ◌∷◌, Some, refl, ap, sym, ◌∙◌, arith, map}
use Rattle.std.proofs.lemmas.Bool.Decides.{nat_tests}
use Rattle.std.specs.Prelude.{if◌then◌else◌}
use Rattle.law_agreement.specs.Wires.{IsCutBy}
use Rattle.board_terms.specs.declared.event.HostEvent.{HostEvent}
use Rattle.capture_lines.specs.Captures.{listed}
use Rattle.ctl_link.specs.Link.{is_busy}
use Rattle.law_fw_link.proofs.Wired.{IsReleased}
use Rattle.law_fw_link.specs.Latch.{Frame, NoFrame, SentFrame, CutFrame, ReceivedFrame}
use Rattle.joint_feed.specs.Stories.{Story, state_at}
use Rattle.joint_run.specs.Joint.{Beside, latch_of}
use Rattle.joint_run.specs.Run.{World}
use Rattle.capture_frames.specs.declared.finding.Finding.TheVariants.{Byte}
use Rattle.capture_frames.specs.Frames.{Frame as Heard, edges, ended_low, is_request, whole}
use Rattle.law_wires_heard.proofs.Clock.{Fits, IsEdge, cells}
use Rattle.law_wires_heard.proofs.Pulls.{both_high, lets, link_of, shown_at}
use Rattle.law_wires_heard.proofs.Stepping.{ends_last, fall_by_latch, slow_at_cell}
use Rattle.law_wires_heard.proofs.Ticks.{beside, eleven_at_most}
use Rattle.law_wires_heard.specs.Passing.{ended_in, passed_at, passed_between}
use Rattle.law_capture_heard.specs.Captured.{hearing_to}
use Rattle.law_capture_heard.specs.Found.{bytes_at, bytes_by, bytes_in, found_as, let_go_to, right}
use Rattle.law_capture_heard.proofs.Eleven.{IsEleven}
use Rattle.law_capture_heard.proofs.FromRest.{fall_data, fall_time, high_by_latch, is_past, next_in, not_past, quiet_fall}
use Rattle.law_capture_heard.proofs.Gathered.{fall_at, first_frame, gathered, last_edge, no_request}
use Rattle.law_capture_heard.proofs.InCells.{keeps, latch_first}
use Rattle.law_wires_heard.proofs.ATick.{IsATick}
use Rattle.law_capture_heard.proofs.Next.{data_fallen, fallen, high_few, let_go_before, now_low, still_high}
use Rattle.law_capture_heard.proofs.Phases.{B, Down, In, L, On, Up, dat, n, whole_frame}
use Rattle.law_capture_heard.proofs.RightBytes.{right_byte, starts}
use Rattle.law_capture_heard.proofs.Rises.{low_in}
use Rattle.law_capture_heard.proofs.WhileHigh.{and_false}
use Rattle.law_capture_heard.proofs.Windows.{cut_low}

-- after its last cell a frame that is cut leaves the clock to the controller, which pulls it
pulled_after : (events : List HostEvent) (x : ℕ) (start : Beside) (old v : ℕ) (was : IsReleased old) (is : IsReleased v)
    (idle : is_busy (link_of start) ≡ false) (frame : Frame) (fits : Fits old v was is frame)
    → IsCutBy (λ o. link_of (beside events x start old v was is frame fits idle o)) x frame → (c o : ℕ) → cells frame ≡ suc c → c ≤ 9
    → 320 + 32 * c ≤ o → o ≤ 322 + 32 * c → lets (beside events x start old v was is frame fits idle o) ≡ false
pulled_after events x start old v was is idle NoFrame fits cut c o e few from to = absurd (omega (arith, e))
pulled_after events x start old v was is idle (SentFrame byte) fits cut c o e few from to = absurd (omega (arith, e, few))
pulled_after events x start old v was is idle (CutFrame byte look) fits cut c o e few from to =
    cut_low events x start old v was is idle byte look fits cut o (omega (arith, e, from)) (omega (arith, e, to))
pulled_after events x start old v was is idle ReceivedFrame fits cut c o e few from to = absurd (omega (arith, e, few))

not_nine : (c : ℕ) → (c == 9) ≡ false → c ≤ 9 → c ≤ 8
not_nine c d few = grind (arith, nat_tests, d, few)

module _ (s : Story) (t : IsATick s) (k : ℕ) (one next : World Beside) (from : state_at s k ≡ Some one)
    (to : state_at s (suc k) ≡ Some next) (o : ℕ) (i : In s t one o) (g : On s t one next) (u : Up s t k one o) where
  abbrev count : ℕ
  count = g.step.count

  most : count ≤ 2
  most = g.step.most

  there : In s t next (o + count)
  there = next_in s t k one next from to o i g

  abbrev c : ℕ
  c = u.cell

  since : 306 + 32 * c ≤ o
  since = u.from

  until : o ≤ 320 + 32 * c
  until = u.to

  -- if the keyboard leaves the clock alone, the step ends by the next cell
  by_next_cell : (latch_of next.cpu.p2).clk ≡ true → suc c < n s t → o + count ≤ 320 + 32 * c
  by_next_cell up few = by (nat_lt (320 + 32 * c) (o + count)) refl
    where
      at_edge : 320 + 32 * c < o + count → count ≤ 2 → o ≤ 320 + 32 * c → (b : Bool) → (o == 320 + 32 * c) ≡ b → ⊥
      at_edge far l m true d =
          let at : o ≡ 320 + 32 * c = grind (arith, nat_tests, d) in
          let low = latch_first s t k one next from to o i g
          ∙ low_in (n s t) (suc c) o few (omega (arith, at)) (omega (arith, at)) in
          let z : true ≡ false = sym up ∙ low in
          cc
      at_edge far l m false d =
          let not_there : o < 320 + 32 * c = grind (arith, nat_tests, d, m) in
          there.between (suc c) few (omega (arith, not_there, l, far))

      by : (b : Bool) → nat_lt (320 + 32 * c) (o + count) ≡ b → o + count ≤ 320 + 32 * c
      by false d = not_past (320 + 32 * c) (o + count) d
      by true d = absurd (at_edge (is_past (320 + 32 * c) (o + count) d) most until (o == 320 + 32 * c) refl)

  -- or the frame has none, and the controller pulls the clock
  in_time : (latch_of next.cpu.p2).clk ≡ true → (o + count ≤ 320 + 32 * c) ⊎ (lets next.board ≡ false)
  in_time up = by (nat_lt (suc c) (n s t)) refl (nat_lt (320 + 32 * c) (o + count)) refl
    where
      past : n s t ≤ suc c → 320 + 32 * c < o + count → lets next.board ≡ false
      past all far =
          let few : c < n s t = u.in_frame in
          let l : count ≤ 2 = most in
          let m : o ≤ 320 + 32 * c = until in
          ap lets there.board
          ∙ pulled_after s.events t.cycle t.start t.old t.lit t.was t.is t.idle t.frame t.fits t.cut c (o + count)
          (omega (arith, all, few)) u.nine (omega (arith, far)) (omega (arith, l, m))

      by : (a : Bool) → nat_lt (suc c) (n s t) ≡ a → (b : Bool) → nat_lt (320 + 32 * c) (o + count) ≡ b
          → (o + count ≤ 320 + 32 * c) ⊎ (lets next.board ≡ false)
      by true d b e = inl (by_next_cell up (is_past (suc c) (n s t) d))
      by false d false e = inl (not_past (320 + 32 * c) (o + count) e)
      by false d true e = inr (past (not_past (suc c) (n s t) d) (is_past (320 + 32 * c) (o + count) e))

  -- while the clock stays high, so does the state
  pub stays_up : (latch_of next.cpu.p2).clk ≡ true → lets next.board ≡ true → Up s t (suc k) next (o + count)
  stays_up up still = record {
    cell = c;
    in_frame = u.in_frame;
    from = let l : 306 + 32 * c ≤ o = since in omega (arith, l);
    to = elim (in_time up) [
      | inl soon ↦ soon
      | inr low ↦ absurd (let z : true ≡ false = sym still ∙ low in cc)
    ];
    clock = high_by_latch s t k one next from to o i g up still;
    alone = still;
    nine = u.nine;
    small = u.small;
    gathers = record {
      few = let before : edges (hearing_to s k).frame ≤ suc c = u.gathers.few in
          let more : edges (hearing_to s (suc k)).frame ≤ edges (hearing_to s k).frame =
          high_few s k one next from to u.clock (high_by_latch s t k one next from to o i g up still) in
          omega (arith, before, more);
      exact = λ e.
          still_high s k one next from to u.clock (high_by_latch s t k one next from to o i g up still) (waits e)
          ∙ u.gathers.exact e
          ∙ ap (λ m. gathered (first_frame (whole_frame s t e).by_host m) t.cycle (dat s t) (suc c))
          (sym (let_go_before s k one next from to u.alone));
    };
  }
    where
      -- after an edge there is no bare request that could be given up
      waits : n s t ≡ 11 → ((shown_at s next).dat && is_request (hearing_to s k).frame) ≡ false
      waits e =
          and_false (shown_at s next).dat (is_request (hearing_to s k).frame)
          (ap is_request (u.gathers.exact e)
          ∙ no_request t.cycle (let_go_to s k) (dat s t) (whole_frame s t e).by_host c)

  abbrev IsRight : Type 0
  IsRight = bytes_in (listed (ended_low (2500 * next.cycle) (shown_at s next).dat (hearing_to s k).frame)) ≡ bytes_at s k

  -- a fall up to the tenth ends no byte
  early_fall : c ≤ 8 → IsRight
  early_fall small =
      let few : edges (hearing_to s k).frame ≤ suc c = u.gathers.few in
      quiet_fall s t k one next from to o i g (omega (arith, few, small))
      (λ last. let at : o ≡ 608 = last.0 in let l : o ≤ 320 + 32 * c = until in omega (arith, at, l, small))

  -- nor does one by the controller alone
  pub pulled_fall : (latch_of next.cpu.p2).clk ≡ true → lets next.board ≡ false → IsRight
  pulled_fall up low = elim u.small [
    | inl small ↦ early_fall small
    | inr e ↦ absurd (not_pulled e)
  ]
    where
      not_pulled : n s t ≡ 11 → ⊥
      not_pulled e =
          let nine : c ≤ 9 = u.nine in
          let l : 306 + 32 * c ≤ o = since in
          let m : o + count ≤ 320 + 32 * c = by_next_cell up (omega (arith, nine, e)) in
          let high : lets next.board ≡ true =
          ap lets there.board ∙ (t.whole e).opens (o + count) (omega (arith, l)) (omega (arith, m, nine)) in
          let z : true ≡ false = sym high ∙ low in
          cc

  -- the latch falls where the next cell begins
  module _ (down : (latch_of next.cpu.p2).clk ≡ false) where
    clock : (shown_at s next).clk ≡ false
    clock = ap (λ b. b && lets next.board) down

    edge : IsEdge (n s t) o
    edge =
        fall_by_latch s.events t.cycle t.start t.old t.lit t.was t.is t.frame t.fits t.idle one next o i g
        (both_high (latch_of one.cpu.p2).clk (lets one.board) u.clock).0 down

    next_cell : edge.cell ≡ suc c
    next_cell =
        let at : o ≡ 288 + 32 * edge.cell = edge.at in
        let l : 306 + 32 * c ≤ o = since in
        let m : o ≤ 320 + 32 * c = until in
        omega (arith, at, l, m)

    few : suc c < n s t
    few = let l : edge.cell < n s t = edge.few in let z : edge.cell ≡ suc c = next_cell in omega (arith, l, z)

    begins : o ≡ 288 + 32 * suc c
    begins = let at : o ≡ 288 + 32 * edge.cell = edge.at in let z : edge.cell ≡ suc c = next_cell in omega (arith, at, z)

    two : count ≡ 2
    two =
        slow_at_cell s.events t.cycle t.start t.old t.lit t.was t.is t.frame t.fits t.idle one next o (suc c) i g few begins

    here : o + count ≡ 290 + 32 * suc c
    here = omega (arith, begins, two)

    -- unless the controller pulls the clock too, the state is one in the next cell
    pub goes_down_again : lets next.board ≡ true → Down s t (suc k) next (o + count)
    goes_down_again still = record {
      cell = suc c;
      in_frame = few;
      from = omega (arith, here);
      to = omega (arith, here);
      clock = clock;
      alone = still;
      latch_low = down;
      fall = fallen s k one next from to u.clock clock ∙ fall_time s t k one next from to o i g (suc c) here;
      data_then = data_fallen s k one next from to u.clock clock ∙ fall_data s t k one next from to o i g (suc c) here;
      gathers = keeps s t k one next from to o i g (suc c) (now_low s k one next from to u.clock clock) u.alone u.gathers;
    }

    -- the eleventh edge ends the byte
    module _ (nine : c ≡ 9) where
      bound : n s t ≤ 11
      bound = eleven_at_most s.events t.cycle t.start t.old t.lit t.was t.is t.frame t.fits t.idle

      e : n s t ≡ 11
      e = let l : suc c < n s t = few in let m : n s t ≤ 11 = bound in omega (arith, l, m, nine)

      abbrev w : IsEleven s.events t.cycle t.start t.old t.lit t.was t.is t.idle t.frame t.fits
      w = whole_frame s t e

      abbrev let_go : ℕ
      let_go = let_go_to s k

      ten : suc c ≡ 10
      ten = omega (arith, nine)

      at_ten : o + count ≡ 290 + 32 * 10
      at_ten = omega (arith, here, nine)

      frame_is : (hearing_to s k).frame ≡ gathered (first_frame w.by_host let_go) t.cycle (dat s t) 10
      frame_is = u.gathers.exact e ∙ ap (gathered (first_frame w.by_host let_go) t.cycle (dat s t)) ten

      start_bit : w.by_host ≡ false → dat s t 0 ≡ false
      start_bit h = starts (dat s t) w.passes ((t.whole e).so ∙ w.ends) (w.sender ∙ h)

      -- the time is that of the byte's first edge, or of the request
      time_is : (b : Bool)
          → (if b then 2500 * let_go else fall_at t.cycle 0) ≡ 2500 * (if b then let_go else next.cycle - 320)
      time_is true = refl
      time_is false = let cycle : next.cycle ≡ t.cycle + (o + count) = there.cycle in omega (arith, cycle, at_ten)

      passes : bytes_at s k ≡ found_as next.cycle let_go w.passes ∷ []
      passes =
          let at : o ≡ 608 = omega (arith, begins, nine) in
          ap (λ v. bytes_by v let_go (passed_at s k)) to
          ∙ ap (map (found_as next.cycle let_go))
          (ap (λ v. passed_between s.events v (state_at s (suc k))) from ∙ ap (λ v. passed_between s.events (Some one) v) to
          ∙ ends_last s.events t.cycle t.start t.old t.lit t.was t.is t.frame t.fits t.idle one next o i g at
          ∙ ap (λ m. ended_in
          (latch_of (L s t m)) (B s t m).pc) at
          ∙ w.ends)

      last_fall : IsRight
      last_fall =
          ap (λ m. bytes_in (listed (ended_low m (shown_at s next).dat (hearing_to s k).frame)))
          (fall_time s t k one next from to o i g 10 at_ten)
          ∙ ap (λ d. bytes_in (listed (ended_low (fall_at t.cycle 10) d (hearing_to s k).frame)))
          (fall_data s t k one next from to o i g 10 at_ten)
          ∙ ap (λ (f : Heard). bytes_in (listed (ended_low (fall_at t.cycle 10) (dat s t 10) f))) frame_is
          ∙ ap (λ f. bytes_in (listed f)) (last_edge t.cycle let_go (dat s t) w.by_host start_bit)
          ∙ ap (λ m. record {
            time = m;
            finding = Byte (whole (dat s t 10) (gathered (first_frame w.by_host let_go) t.cycle (dat s t) 10));
          } ∷ []) (time_is w.by_host)
          ∙ ap (λ b. record { time = 2500 * (if w.by_host then let_go else next.cycle - 320); finding = b } ∷ [])
          (right_byte (dat s t) w.passes ((t.whole e).so ∙ w.ends) t.cycle let_go w.by_host w.sender)
          ∙ ap (λ b. record { time = 2500 * (if b then let_go else next.cycle - 320); finding = right w.passes } ∷ []) (sym w.sender)
          ∙ sym passes

    -- so a fall by the latch ends the byte that passes, if one does
    pub latch_falls : IsRight
    latch_falls = by (c == 9) refl
      where
        by : (b : Bool) → (c == 9) ≡ b → IsRight
        by true d = last_fall (grind (arith, nat_tests, d))
        by false d = early_fall (not_nine c d u.nine)
