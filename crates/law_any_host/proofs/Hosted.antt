-- The run at a host that keeps the rules: what its looks find is on the wires.
use Rattle.std.proofs.Common.{◌≡◌, ◌≤◌, ◌<◌, ◌⊎◌, ℕ, zero, suc, ◌+◌, ◌-◌, ◌*◌, Bool, true, false, nat_lt, [], ◌∷◌, ◌++◌, Some}
use Rattle.std.proofs.Common.{refl, ap, sym, ◌∙◌, arith, inl, inr}
use Rattle.std.proofs.lemmas.Bool.Decides.{nat_tests}
use Rattle.fw_compile.specs.Image.{image_of}
use Rattle.fw_kernel.specs.declared.labels.TheConstants.{TICK}
use Rattle.law_fw_keys.specs.Frameless.{IsFrameless, clock_now, data_now, latch_now, shown_by}
use Rattle.law_fw_link.proofs.Cut.{as_sent}
use Rattle.law_fw_link.proofs.Latches.{driven}
use Rattle.law_fw_link.proofs.TickLatch.{before_data, before_lights, within}
use Rattle.law_fw_link.proofs.Wired.{IsReleased, spans_on, ticks_alike}
use Rattle.law_fw_link.proofs.Wires.{look_within}
use Rattle.law_fw_link.specs.Latch.{Frame, NoFrame, SentFrame, CutFrame, ReceivedFrame, IsLook, tick_latch}
use Rattle.law_fw_link.specs.Reading.{byte_in, right_in}
use Rattle.fw_ticks.proofs.Numbers.{same_start}
use Rattle.law_fw_logic.specs.Boards.{numbered, power_on}
use Rattle.law_fw_logic.specs.Scan.{in_tick}
use Rattle.joint_run.specs.Run.{Board, World, after_cycles}
use Rattle.joint_run.specs.Joint.{latch_of}
use Rattle.joint_run.specs.Starts.{IsStart, at_tick}
use Rattle.model_keyboard.specs.Keyboard.{offer}
use Rattle.model_keyboard.specs.declared.meeting.Meeting.{Meeting}
use Rattle.model_keyboard.specs.declared.meeting.Meeting.TheVariants.{Got, Idle, Inhibited, Sent, Cut}
use Rattle.layout_reader.specs.Layouts.{KeyLayout}
use Rattle.mcs48_core.specs.declared.levels.Pins.{Pins}
use Rattle.law_agreement.proofs.AtLook.{one_byte}
use Rattle.law_agreement.specs.Firmware.{Finds, board_at, clock_in, data_in, latch_at, levels_at}
use Rattle.law_agreement.specs.Wires.{IsLetGo}
use Rattle.law_any_host.proofs.Heard.{ruleful}
use Rattle.law_any_host.proofs.OnRun.{board_past, in_tick_run, up_to_first}
use Rattle.law_any_host.proofs.Run.{works_alone}
use Rattle.law_any_host.proofs.SameLines.{same_lines}
use Rattle.law_any_host.specs.AnyHost.{AnyHostLaw, IsWiringOf, WorksAt, driven_to, said_before, said_by}
use Rattle.law_any_host.specs.AnyPins.{TicksBy, WorksAlone, keyboard_after}
use Rattle.law_any_host.specs.Ears.{Counting, ear_to, taken_by}
use Rattle.law_any_host.specs.Hearing.{HearsEach, sent_before, sent_by}
use Rattle.law_any_host.specs.Rules.{Ends, IsRuleful}
use Rattle.law_any_host.specs.Ticks.{AreTicks, IsFound}
use Rattle.law_any_host.specs.Wires.{AreWires, Wiring}

-- the levels at the first looks, by the latch of the tick
module _ (d : Board) (w : World d.State) (frame : Frame) where
  abbrev x : ℕ
  x = w.cycle

  abbrev v : ℕ
  v = latch_now d w

  abbrev latch : ℕ → ℕ
  latch = latch_at d w frame

  to_lights : in_tick d w 232 ≡ driven d x latch 232 0 w.board
  to_lights =
      spans_on d x latch 232 0 x w.cpu.p2 w.board w.board (omega arith)
      (λ i l. let z : 0 + i ≡ i = omega arith in ap latch z ∙ before_lights w.cpu.p2 v frame i l) refl

  lit : (n : ℕ) → n ≤ 27 → after_cycles n (x + 232) (d.cycle v) (in_tick d w 232) ≡ board_at d w frame (232 + n)
  lit n l =
      spans_on d x latch n 232 (x + 232) v (in_tick d w 232) w.board refl
      (λ i m. before_data w.cpu.p2 v frame i (omega (arith, l, m))) to_lights

  -- the clock that the tick's look finds is the clock on the wire in that cycle
  pub clock_there : clock_now d w ≡ (levels_at d w frame 256).t0
  clock_there =
      let p : x + 232 + 24 ≡ x + 256 = omega arith in
      ap (λ s. (d.pins 44 v (x + 232 + 24) s).t0) (lit 24 (omega arith))
      ∙ ap (λ c. (d.pins 44 v c (board_at d w frame 256)).t0) p
      ∙ ap (λ l. (d.pins 44 l (x + 256) (board_at d w frame 256)).t0) (sym (before_data w.cpu.p2 v frame 24 (omega arith)))

  -- the data that the tick's look finds is the data on the wire in that cycle
  pub data_there : data_now d w ≡ (levels_at d w frame 258).t1
  data_there =
      let p : x + 232 + 26 ≡ x + 258 = omega arith in
      ap (λ s. (d.pins 44 v (x + 232 + 26) s).t1) (lit 26 (omega arith))
      ∙ ap (λ c. (d.pins 44 v c (board_at d w frame 258)).t1) p
      ∙ ap (λ l. (d.pins 44 l (x + 258) (board_at d w frame 258)).t1) (sym (before_data w.cpu.p2 v frame 26 (omega arith)))

-- at a look that cuts a frame all is as if the frame was sent
module _ (d : Board) (w : World d.State) (byte look : ℕ) (is : IsLook look) where
  same_latch : (o : ℕ) → o < 262 + look → latch_at d w (SentFrame byte) o ≡ latch_at d w (CutFrame byte look) o
  same_latch o l = by (nat_lt o 260) refl
    where
      by : (b : Bool) → nat_lt o 260 ≡ b
          → latch_at d w (SentFrame byte) o ≡ latch_at d w (CutFrame byte look) o
      by true e =
          let m : nat_lt o 260 ≡ true = e in rw m refl
      by false e =
          let a : 260 ≤ o = grind (arith, nat_tests, e) in
          let far : look ≤ 334 = look_within look is in
          let i : ℕ = o - 260 in
          let p : 260 + i ≡ o = omega (arith, a) in
          ap (latch_at d w (SentFrame byte)) (sym p)
          ∙ within w.cpu.p2 (latch_now d w) (SentFrame byte) i (omega (arith, a, l, far))
          ∙ sym (as_sent (latch_now d w) byte look i (omega (arith, a, l)))
          ∙ sym (within w.cpu.p2 (latch_now d w) (CutFrame byte look) i (omega (arith, a, l)))
          ∙ ap (latch_at d w (CutFrame byte look)) p

  same_board : board_at d w (SentFrame byte) (260 + look) ≡ board_at d w (CutFrame byte look) (260 + look)
  same_board =
      ticks_alike (260 + look) 0 0 (λ o. d.cycle (latch_at d w (SentFrame byte) o) (w.cycle + o))
      (λ o. d.cycle (latch_at d w (CutFrame byte look) o) (w.cycle + o)) w.board
      (λ i t l. let z : 0 + i ≡ i = omega arith in
      ap (λ v. d.cycle v (w.cycle + (0 + i)) t) (same_latch (0 + i) (omega (arith, l))))

  -- the clock that a look of a frame finds is the clock on the wire there, if the frame is cut at that look
  pub clock_same : clock_in d w byte look ≡ (levels_at d w (CutFrame byte look) (260 + look)).t0
  clock_same =
      ap (λ s. (d.pins 44 (latch_at d w (SentFrame byte) (260 + look)) (w.cycle + (260 + look)) s).t0) same_board
      ∙ ap (λ v. (d.pins 44 v (w.cycle + (260 + look)) (board_at d w (CutFrame byte look) (260 + look))).t0)
      (same_latch (260 + look) (omega arith))

-- a tick without a frame
no_frame : (d : Board) (w : World d.State) (meeting : Meeting) → IsFrameless d w meeting
    → (meeting ≡ Idle) ⊎ (meeting ≡ Inhibited)
no_frame d w Idle h = inl refl
no_frame d w Inhibited h = inr refl
no_frame d w Sent h = absurd h
no_frame d w Cut h = absurd h
no_frame d w (Got byte good) h = absurd h

module _ (layout : KeyLayout) (d : Board) (from : World d.State) (a : WorksAlone layout d from) (w : Wiring)
    (of_run : IsWiringOf d (image_of layout) from w) (begins : from.cycle ≡ 0) (wires : AreWires w) (rules : IsRuleful w)
    (counts : Counting) (ends : Ends counts w)
  where
    abbrev starts : ℕ → ℕ
    starts n = 4096 + a.starts n

    abbrev at : (n : ℕ) → IsStart d TICK (image_of layout) from n (a.starts n)
    at n = a.each n

    tick : (n : ℕ) → TicksBy layout d (keyboard_after layout a.meetings a.edges n) (a.frames n) (a.meetings n) (a.edges n) (at n).state
    tick n = a.ticks n (a.starts n) (at n)

    -- the latch in each cycle, and the levels that a look finds
    latch_is : (n o : ℕ) → starts n + o < starts (suc n) → of_run.latch (starts n + o) ≡ latch_at d (at n).state (a.frames n) o
    latch_is n o l =
        let here : (at n).state.cycle ≡ 4096 + a.starts n = (at n).cycle in
        let p : starts n + o - (at n).state.cycle ≡ o = omega (arith, here) in
        in_tick_run d (image_of layout) from begins of_run.latch of_run.of_run n (a.starts n) (a.starts (suc n)) (at n) (at (suc n))
        (λ c. tick_latch (at n).state.cpu.p2 (latch_now d (at n).state) (a.frames n) (c - (at n).state.cycle))
        (λ e. (at_tick d TICK e ≡ true) × (e.cpu.p2 ≡ latch_now d (at n).state)) (λ e q. q.0) (tick n).drives (starts n + o)
        (omega (arith, here)) l
        ∙ ap (latch_at d (at n).state (a.frames n)) p

    shows : (n o : ℕ) → starts n + o < starts (suc n)
        → d.pins 44 (of_run.latch (starts n + o)) (starts n + o) (driven_to d of_run.latch from.board (starts n + o))
        ≡ levels_at d (at n).state (a.frames n) o
    shows n o l =
        let here : (at n).state.cycle ≡ 4096 + a.starts n = (at n).cycle in
        let p : starts n + o ≡ (at n).state.cycle + o = omega (arith, here) in
        ap (λ v. d.pins 44 v (starts n + o) (driven_to d of_run.latch from.board (starts n + o))) (latch_is n o l)
        ∙ ap (λ c. d.pins 44 (latch_at d (at n).state (a.frames n) o) c (driven_to d of_run.latch from.board c)) p
        ∙ ap (λ b. d.pins 44 (latch_at d (at n).state (a.frames n) o) ((at n).state.cycle + o) b)
        (board_past d (image_of layout) from begins of_run.latch of_run.of_run n (a.starts n) (at n)
        (latch_at d (at n).state (a.frames n)) o
        (λ i m.
        let q : (at n).state.cycle + i ≡ starts n + i = omega (arith, here) in
        ap of_run.latch q ∙ latch_is n i (omega (arith, l, m))))

    far : (n o : ℕ) → o < 2016 → starts n + o < starts (suc n)
    far n o l =
        let room : a.starts n + 2016 ≤ a.starts (suc n) = a.apart n in
        omega (arith, room, l)

    released : (v : ℕ) → IsLetGo v → IsReleased v
    released v h = record { byte = h.0; clock = h.1; data_wire = h.2 }

    -- the byte that is sent is the one that the model's keyboard offers
    offers : (n byte : ℕ) → offer (shown_by (at n).state.cpu.ram) ≡ Some byte
        → offer (keyboard_after layout a.meetings a.edges n).keyboard ≡ Some byte
    offers n byte is = ap offer (sym (tick n).keyboard) ∙ is

    found : (n : ℕ) → IsFound w.pins (starts n) (a.frames n) (a.meetings n)
    found n =
        by (a.frames n) (tick n).finds
        (λ o l. of_run.clock (starts n + o) ∙ ap (λ (p : Pins). p.t0) (shows n o (far n o l)))
        (λ o l. of_run.data_wire (starts n + o) ∙ ap (λ (p : Pins). p.t1) (shows n o (far n o l)))
      where
        by : (f : Frame) → Finds d (at n).state f (a.meetings n)
            → ((o : ℕ) → o < 2016 → (w.pins (starts n + o)).clk ≡ (levels_at d (at n).state f o).t0)
            → ((o : ℕ) → o < 2016 → (w.pins (starts n + o)).dat ≡ (levels_at d (at n).state f o).t1)
            → IsFound w.pins (starts n) f (a.meetings n)
        by NoFrame h c s = no_frame d (at n).state (a.meetings n) h
        by (SentFrame byte) h c s = (
          h.0,
          (tick n).offered byte (offers n byte h.1.2),
          s 258 (omega arith) ∙ sym (data_there d (at n).state (SentFrame byte)) ∙ h.1.1,
          c 256 (omega arith) ∙ sym (clock_there d (at n).state (SentFrame byte)) ∙ h.1.0.1,
          λ look is.
              let far : look ≤ 334 = look_within look is in
              c (260 + look) (omega (arith, far)) ∙ h.2 look is,
        )
        by (CutFrame byte look) h c s =
            let far : look ≤ 334 = look_within look h.2 in (
              h.0,
              h.2,
              c (260 + look) (omega (arith, far)) ∙ sym (clock_same d (at n).state byte look h.2) ∙ h.4,
            )
        by ReceivedFrame h c s =
            let same = one_byte (data_in d (at n).state) (λ k. (w.pins (starts n + (306 + 32 * k))).dat)
            (λ k l. sym (s (306 + 32 * k) (omega (arith, l)))) in (
              h.0 ∙ ap (λ b. Got b (right_in (data_in d (at n).state))) same.0
                  ∙ ap (λ g. Got (byte_in (λ k. (w.pins (starts n + (306 + 32 * k))).dat)) g) same.1,
              c 256 (omega arith) ∙ sym (clock_there d (at n).state ReceivedFrame) ∙ h.1.1,
              s 258 (omega arith) ∙ sym (data_there d (at n).state ReceivedFrame) ∙ h.2,
            )

    are_ticks : AreTicks w starts a.frames a.meetings
    are_ticks = record {
      before = λ c l.
          ap (λ l. l.clk) (of_run.keyboard c)
          ∙ ap (λ v. (latch_of v).clk)
          (up_to_first d (image_of layout) from begins of_run.latch of_run.of_run (a.starts 0) (at 0) (λ c. 255)
          (λ e. at_tick d TICK e ≡ true) (λ e q. q) a.first c l);
      long = λ n.
          let room : a.starts n + 2016 ≤ a.starts (suc n) = a.apart n in omega (arith, room);
      drives = λ n o l.
          of_run.keyboard (starts n + o) ∙ ap latch_of (latch_is n o l)
          ∙ same_lines (latch_now d (at n).state) (released (latch_now d (at n).state) (tick n).afterwards)
          (at n).state.cpu.p2 (released (at n).state.cpu.p2 (tick n).before) (a.frames n) o;
      found = found;
    }

    hears : HearsEach counts w starts a.frames a.meetings
    hears = ruleful counts w wires rules ends starts a.frames a.meetings are_ticks

    -- what is sent is what the model's keyboard offers
    said : (n : ℕ) → sent_by (a.frames n) ≡ said_by (a.meetings n) (offer (keyboard_after layout a.meetings a.edges n).keyboard)
    said n = by (a.frames n) (a.meetings n) (tick n).finds
      where
        by_none : (m : Meeting) → IsFrameless d (at n).state m
            → [] ≡ said_by m (offer (keyboard_after layout a.meetings a.edges n).keyboard)
        by_none Idle h = refl
        by_none Inhibited h = refl
        by_none Sent h = absurd h
        by_none Cut h = absurd h
        by_none (Got byte good) h = refl

        by : (f : Frame) (m : Meeting) → Finds d (at n).state f m
            → sent_by f ≡ said_by m (offer (keyboard_after layout a.meetings a.edges n).keyboard)
        by NoFrame m h = by_none m h
        by (SentFrame byte) m h =
            ap (λ o. o ∷ []) (sym (offers n byte h.1.2))
            ∙ ap (λ m. said_by m (offer (keyboard_after layout a.meetings a.edges n).keyboard)) (sym h.0)
        by (CutFrame byte look) m h =
            ap (λ m. said_by m (offer (keyboard_after layout a.meetings a.edges n).keyboard)) (sym h.0)
        by ReceivedFrame m h = ap (λ m. said_by m (offer (keyboard_after layout a.meetings a.edges n).keyboard)) (sym h.0)

    said_all : (n : ℕ) → sent_before a.frames n ≡ said_before layout a.meetings a.edges n
    said_all zero = refl
    said_all (suc n) =
        ap (λ v. v ++ sent_by (a.frames n)) (said_all n) ∙ ap (λ v. said_before layout a.meetings a.edges n ++ v) (said n)

    -- each start of a number has its stamp
    one_stamp : (n stamp : ℕ) → IsStart d TICK (image_of layout) from n stamp → stamp ≡ a.starts n
    one_stamp n stamp s =
        let one = a.each n in
        let same : s.state ≡ one.state =
        same_start d TICK (image_of layout) from s.steps one.steps s.state one.state s.reached
        one.reached s.at one.at (s.number ∙ sym one.number) in
        let here : s.state.cycle ≡ 4096 + stamp = s.cycle in
        let there : one.state.cycle ≡ 4096 + a.starts n = one.cycle in
        let cycles : s.state.cycle ≡ one.state.cycle = ap (λ (v : World d.State). v.cycle) same in
        omega (arith, here, there, cycles)

    -- at a host that keeps the rules the keyboard works: each hears each byte of the other
    pub works_at : WorksAt counts layout d from w
    works_at = record {
      works = a;
      taken = λ n stamp s.
          ap (λ t. taken_by counts w (4096 + t)) (one_stamp n stamp s) ∙ hears.taken n ∙ said_all n;
      given = λ n stamp s. ap (λ t. (ear_to w (4096 + t)).given) (one_stamp n stamp s) ∙ hears.given n;
      right = hears.right;
    }

-- at any host that keeps the rules the run is the model's, and host and keyboard hear each byte of each other
pub any_host : AnyHostLaw
any_host layout fine pins tick low m small board few w of_run wires rules counts ends =
    works_at layout (numbered pins tick) (power_on (numbered pins tick) m board)
    (works_alone layout fine (numbered pins tick) low m small board few) w of_run refl wires rules counts ends
