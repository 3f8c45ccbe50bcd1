-- A step from a state between frames.
use Rattle.std.proofs.Common.{◌≡◌, ◌≤◌, ◌<◌, ◌⊎◌, inl, inr, ℕ, suc, ◌+◌, ◌*◌, Bool, true, false, ◌&&◌, nat_lt, []}
use Rattle.std.proofs.Common.{Some, refl, ap, sym, ◌∙◌, arith}
use Rattle.std.proofs.lemmas.Bool.Decides.{nat_tests}
use Rattle.std.specs.Prelude.{map}
use Rattle.bits.specs.Bits.{bit}
use Rattle.capture_lines.specs.Captures.{listed}
use Rattle.ctl_wire.specs.Wire.{drive}
use Rattle.ctl_wire.specs.Wires.{wires}
use Rattle.joint_feed.specs.Stories.{Story, state_at}
use Rattle.joint_run.specs.Joint.{Beside, latch_of}
use Rattle.joint_run.specs.Run.{World}
use Rattle.capture_frames.specs.Frames.{edges, ended_low, is_request}
use Rattle.law_wires_heard.proofs.Clock.{IsEdge, clock_in}
use Rattle.law_wires_heard.proofs.Pulls.{both_high, lets, link_of, shown_at}
use Rattle.law_wires_heard.proofs.Stepping.{ends_nothing, fall_by_latch, first_latch, goes_in, slow_at_cell}
use Rattle.law_wires_heard.proofs.Ticks.{drives}
use Rattle.law_wires_heard.specs.Passing.{passed_at, passed_between}
use Rattle.law_capture_heard.specs.Captured.{hearing_to}
use Rattle.law_capture_heard.specs.Found.{bytes_at, bytes_by, bytes_in, found_as, let_go_to}
use Rattle.law_capture_heard.proofs.Gathered.{fall_at, first_frame, gathered}
use Rattle.law_wires_heard.proofs.ATick.{IsATick}
use Rattle.law_capture_heard.proofs.Links.{data_is, requests, step_asks, step_idle}
use Rattle.law_capture_heard.proofs.Next.{fallen, data_fallen, let_go_before, now_low, still_high, too_few_edges}
use Rattle.law_capture_heard.proofs.Phases.{B, Down, High, In, L, Last, On, RestsLow, dat, n, whole_frame}
use Rattle.law_capture_heard.proofs.WhileHigh.{and_false}

-- a first frame has no edge
pub no_edges : (b : Bool) (let_go : ℕ) → edges (first_frame b let_go) ≡ 0
no_edges true let_go = refl
no_edges false let_go = refl

-- the order of two numbers, by its test
pub is_past : (a b : ℕ) → nat_lt a b ≡ true → a < b
is_past a b e = grind (arith, nat_tests, e)

-- the order of two numbers, if the test fails
pub not_past : (a b : ℕ) → nat_lt a b ≡ false → b ≤ a
not_past a b e = grind (arith, nat_tests, e)

module _ (s : Story) (t : IsATick s) (k : ℕ) (one next : World Beside) (from : state_at s k ≡ Some one)
    (to : state_at s (suc k) ≡ Some next) (o : ℕ) (i : In s t one o) (g : On s t one next) where
  abbrev pub count : ℕ
  count = g.step.count

  -- where the step leads
  pub next_in : In s t next (o + count)
  next_in = goes_in s.events t.cycle t.start t.old t.lit t.was t.is t.frame t.fits t.idle one next o i g

  -- a step that isn't the last edge of a frame of eleven
  pub none_at : (((o ≡ 608) × (n s t ≡ 11)) → ⊥) → bytes_at s k ≡ []
  none_at not_last =
      ap (λ w. bytes_by w (let_go_to s k) (passed_at s k)) to
      ∙ ap (map (found_as next.cycle (let_go_to s k)))
      (ap (λ w. passed_between s.events w (state_at s (suc k))) from ∙ ap (λ w. passed_between s.events (Some one) w) to
      ∙ ends_nothing s.events t.cycle t.start t.old t.lit t.was t.is t.frame t.fits t.idle one next o i g not_last)

  -- a fall after fewer edges than ten
  pub quiet_fall : edges (hearing_to s k).frame ≤ 9 → (((o ≡ 608) × (n s t ≡ 11)) → ⊥)
      → bytes_in (listed (ended_low (2500 * next.cycle) (shown_at s next).dat (hearing_to s k).frame)) ≡ bytes_at s k
  quiet_fall few not_last =
      too_few_edges (2500 * next.cycle) (shown_at s next).dat (hearing_to s k).frame few ∙ sym (none_at not_last)

  -- if the controller pulls the clock after the step, the clock is low
  pub low_by_pull : lets next.board ≡ false → RestsLow s (suc k) next
  low_by_pull low = record { clock = and_false (latch_of next.cpu.p2).clk (lets next.board) low; low = low }

  -- the keyboard leaves the clock alone in a step
  pub high_by_latch : (latch_of next.cpu.p2).clk ≡ true → lets next.board ≡ true → (shown_at s next).clk ≡ true
  high_by_latch up alone = ap (λ c. c && lets next.board) up ∙ alone

  -- the time and the data at the fall of a cell
  pub fall_time : (c : ℕ) → o + count ≡ 290 + 32 * c → 2500 * next.cycle ≡ fall_at t.cycle c
  fall_time c at = let here : next.cycle ≡ t.cycle + (o + count) = next_in.cycle in omega (arith, here, at)

  -- the data at the fall of a cell
  pub fall_data : (c : ℕ) → o + count ≡ 290 + 32 * c → (shown_at s next).dat ≡ dat s t c
  fall_data c at =
      let z : o + count ≡ suc (289 + 32 * c) = omega (arith, at) in
      ap (λ p2. (wires (latch_of p2) next.board.pc).dat) (next_in.p2 ∙ ap (Last s t) z)
      ∙ ap (λ (b : Beside). (wires (latch_of (L s t (289 + 32 * c))) b.pc).dat) (next_in.board ∙ ap (B s t) at)

  -- from a high clock
  module _ (h : High s t k one o) where
    alone : lets one.board ≡ true
    alone = (both_high (latch_of one.cpu.p2).clk (lets one.board) h.rests.clock).1

    up_before : (latch_of one.cpu.p2).clk ≡ true
    up_before = (both_high (latch_of one.cpu.p2).clk (lets one.board) h.rests.clock).0

    rest_few : edges (hearing_to s k).frame ≤ 9
    rest_few =
        let none : edges (hearing_to s k).frame ≡ 0 =
        ap edges h.rests.frame ∙ no_edges (requests (link_of one.board)) (let_go_to s k) in
        omega (arith, none)

    -- while a request waits, data is low, so it isn't given up
    module _ (up : (latch_of next.cpu.p2).clk ≡ true) (still : lets next.board ≡ true) where
      asks_still : requests (link_of next.board) ≡ requests (link_of one.board)
      asks_still = step_asks s.events one next g.step up h.rests.idle alone still

      waits : ((shown_at s next).dat && is_request (hearing_to s k).frame) ≡ false
      waits = by (requests (link_of next.board)) refl
        where
          by : (b : Bool) → requests (link_of next.board) ≡ b → ((shown_at s next).dat && is_request (hearing_to s k).frame) ≡ false
          by true e =
              ap (λ d. d && is_request (hearing_to s k).frame)
              (and_false (latch_of next.cpu.p2).dat (drive (link_of next.board)).dat
              (data_is (link_of next.board) (step_idle s.events one next g.step up h.rests.idle) true e))
          by false e =
              and_false (shown_at s next).dat (is_request (hearing_to s k).frame)
              (ap is_request (h.rests.frame ∙ ap (λ b. first_frame b (let_go_to s k)) (sym asks_still ∙ e)))

    -- if neither side pulls the clock, the state is still at rest
    pub stays_high : (latch_of next.cpu.p2).clk ≡ true → lets next.board ≡ true → High s t (suc k) next (o + count)
    stays_high up still = record {
      rests = record {
        clock = high_by_latch up still;
        idle = step_idle s.events one next g.step up h.rests.idle;
        frame = still_high s k one next from to h.rests.clock (high_by_latch up still) (waits up still) ∙ h.rests.frame
            ∙ ap (λ b. first_frame b (let_go_to s k)) (sym (asks_still up still))
            ∙ ap (first_frame (requests (link_of next.board))) (sym (let_go_before s k one next from to alone));
      };
      place = place_next;
    }
      where
        place_next : n s t ≡ 11 → (o + count ≤ 288) ⊎ (609 ≤ o + count)
        place_next e = elim (h.place e) [
          | inr late ↦ inr (omega (arith, late))
          | inl early ↦ inl (by early (nat_lt 288 (o + count)) refl)
        ]
          where
            two : count ≤ 2
            two = g.step.most

            by : o ≤ 288 → (b : Bool) → nat_lt 288 (o + count) ≡ b → o + count ≤ 288
            by early false d = not_past 288 (o + count) d
            by early true d =
                let past : 288 < o + count = is_past 288 (o + count) d in
                absurd (at_edge (nat_lt o 288) refl past early)
              where
                at_edge : (b : Bool) → nat_lt o 288 ≡ b → 288 < o + count → o ≤ 288 → ⊥
                at_edge true c past early =
                    let l : o < 288 = is_past o 288 c in
                    next_in.between 0 (omega (arith, e)) (omega (arith, l, past, two))
                at_edge false c past early =
                    let l : 288 ≤ o = not_past o 288 c in
                    let z : o ≡ 288 = omega (arith, l, early) in
                    let down : (latch_of next.cpu.p2).clk ≡ false =
                    ap (bit 0) (first_latch s.events t.cycle t.start t.old t.lit t.was t.is t.frame t.fits t.idle one next o i g)
                    ∙ drives s.events t.cycle t.start t.old t.lit t.was t.is t.frame t.fits t.idle o
                    ∙ ap (λ m. clock_in (n s t) m) z ∙ ap (λ m. clock_in m 288) e in
                    let y : true ≡ false = sym up ∙ down in
                    cc

    -- it falls by the latch where a cell begins, which is the first if there are eleven
    begins : (latch_of next.cpu.p2).clk ≡ false → IsEdge (n s t) o
    begins down =
        fall_by_latch s.events t.cycle t.start t.old t.lit t.was t.is t.frame t.fits t.idle one next o i g up_before down

    first_cell : (c : ℕ) → o ≡ 288 + 32 * c → n s t ≡ 11 → c < n s t → c ≡ 0
    first_cell c at e few = elim (h.place e) [
      | inl early ↦ omega (arith, early, at)
      | inr late ↦ absurd (omega (arith, late, at, few, e))
    ]

    not_last : ((o ≡ 608) × (n s t ≡ 11)) → ⊥
    not_last last = let at : o ≡ 608 = last.0 in elim (h.place last.1) [
      | inl early ↦ omega (arith, early, at)
      | inr late ↦ omega (arith, late, at)
    ]

    -- a fall from rest ends no byte
    pub rest_falls : bytes_in (listed (ended_low (2500 * next.cycle) (shown_at s next).dat (hearing_to s k).frame)) ≡ bytes_at s k
    rest_falls = quiet_fall rest_few not_last

    -- and begins a cell, unless the controller pulls the clock
    pub goes_down : (latch_of next.cpu.p2).clk ≡ false → lets next.board ≡ true → Down s t (suc k) next (o + count)
    goes_down down still =
        let edge = begins down in
        let at : o ≡ 288 + 32 * edge.cell = edge.at in
        let two : count ≡ 2 =
        slow_at_cell s.events t.cycle t.start t.old t.lit t.was t.is t.frame t.fits t.idle one next o edge.cell i g edge.few at in
        let there : o + count ≡ 290 + 32 * edge.cell = omega (arith, at, two) in
        let clock : (shown_at s next).clk ≡ false = ap (λ c. c && lets next.board) down in
        record {
          cell = edge.cell;
          in_frame = edge.few;
          from = omega (arith, there);
          to = omega (arith, there);
          clock = clock;
          alone = still;
          latch_low = down;
          fall = fallen s k one next from to h.rests.clock clock ∙ fall_time edge.cell there;
          data_then = data_fallen s k one next from to h.rests.clock clock ∙ fall_data edge.cell there;
          gathers = record {
            few = let none : edges (hearing_to s (suc k)).frame ≡ 0 =
                ap edges (now_low s k one next from to h.rests.clock clock ∙ h.rests.frame)
                ∙ no_edges (requests (link_of one.board)) (let_go_to s k) in
                omega (arith, none);
            exact = λ e. exactly clock edge.cell at edge.few e;
          };
        }
      where
        asks : (c : ℕ) → o ≡ 288 + 32 * c → c < n s t → (e : n s t ≡ 11) → requests (link_of one.board) ≡ (whole_frame s t e).by_host
        asks c at few e =
            let zero_is : c ≡ 0 = first_cell c at e few in
            let here : o ≡ 288 = omega (arith, at, zero_is) in
            ap (λ b. requests (link_of b)) i.board ∙ ap (λ m. requests (link_of (B s t m))) here ∙ (whole_frame s t e).asks

        exactly : (shown_at s next).clk ≡ false → (c : ℕ) → o ≡ 288 + 32 * c → c < n s t → (e : n s t ≡ 11)
            → (hearing_to s (suc k)).frame
            ≡ gathered (first_frame (whole_frame s t e).by_host (let_go_to s (suc k))) t.cycle (dat s t) c
        exactly clock c at few e =
            let zero_is : c ≡ 0 = first_cell c at e few in
            now_low s k one next from to h.rests.clock clock ∙ h.rests.frame
            ∙ ap (λ b. first_frame b (let_go_to s k)) (asks c at few e)
            ∙ ap (first_frame (whole_frame s t e).by_host) (sym (let_go_before s k one next from to alone))
            ∙ ap (gathered (first_frame (whole_frame s t e).by_host (let_go_to s (suc k))) t.cycle (dat s t)) (sym zero_is)
