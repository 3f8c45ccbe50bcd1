-- Which way a tick goes: by whether the power-on test runs, the link at the look at the clock, what is offered, the link
-- at the first edge, and the looks of the frame.
use Rattle.std.proofs.Common.{◌≡◌, ◌≤◌, ◌<◌, ◌⊎◌, inl, inr, ℕ, suc, ◌+◌, ◌-◌, ◌*◌, ◌==◌, nat_lt, List, All, Bool, true, false, Some}
use Rattle.std.proofs.Common.{None, slice_index, refl, ap, sym, ◌∙◌, subst, arith}
use Rattle.std.specs.declared.option.Option.{Option}
use Rattle.std.proofs.lemmas.Bool.Decides.{nat_tests}
use Rattle.board_terms.specs.Flips.{AreFlips}
use Rattle.board_terms.specs.declared.event.Edge.{Edge}
use Rattle.board_terms.specs.declared.event.HostEvent.{HostEvent}
use Rattle.board_terms.specs.declared.lines.Lines.{Lines}
use Rattle.model_controller.specs.ByteTime.{meeting_in, meeting_by, meeting_of}
use Rattle.model_controller.specs.declared.UnderWay.{UnderWay}
use Rattle.model_controller.specs.declared.meeting.Meeting.{Meeting}
use Rattle.model_controller.specs.declared.meeting.Meeting.TheVariants as met
use Rattle.ctl_link.specs.Link.{is_busy}
use Rattle.ctl_link.specs.declared.link.Link.{Link}
use Rattle.ctl_link.specs.declared.link.Link.TheVariants.{Free, Hold, Ask, Request, Busy}
use Rattle.ctl_wire.specs.Wire.{drive}
use Rattle.ctl_wire.specs.declared.wire.Wire.{Wire}
use Rattle.fw_kernel.specs.Places.{HasKernel}
use Rattle.fw_kernel.specs.Tables.{fn_place_at}
use Rattle.fw_kernel.specs.declared.labels.TheConstants.{TICK}
use Rattle.law_fw_keys.proofs.Carried.{SameKeys}
use Rattle.law_fw_keys.proofs.Kept.{NoPrefix}
use Rattle.law_fw_keys.specs.Edges.{image_keys, IsSilentAlike}
use Rattle.law_fw_keys.specs.Frameless.{shown_by, edges_now, latch_now}
use Rattle.law_fw_logic.specs.Ticks.{column_read}
use Rattle.law_fw_keys.specs.State.{held_by}
use Rattle.law_fw_link.proofs.Lets.{lets_at, as_cycle, pulled_look}
use Rattle.law_fw_link.proofs.Outside.{sent_lines}
use Rattle.law_fw_link.proofs.Over.{IsOver, under}
use Rattle.law_fw_link.proofs.TickLatch.{lines_by}
use Rattle.law_fw_link.proofs.Ticked.{cut_up, cut_sides, cut_lets}
use Rattle.law_fw_link.proofs.Ticked.{sent_ticked, got_ticked, cut_ticked, broken_ticked, still_ticked}
use Rattle.law_fw_link.proofs.Wired.{IsReleased}
use Rattle.law_fw_link.specs.Latch.{Frame, NoFrame, SentFrame, CutFrame, ReceivedFrame, IsLook}
use Rattle.mcs48_ranges.specs.Sizes.{IsByte}
use Rattle.host_turn.specs.Run.{Side}
use Rattle.joint_run.specs.Joint.{Beside, latch_of, lights_of}
use Rattle.joint_run.specs.Run.{Board, World}
use Rattle.joint_run.specs.Starts.{Tick}
use Rattle.model_keyboard.proofs.CodesAreWhole.{IsWhole}
use Rattle.model_keyboard.specs.Keyboard.{Keyboard, offer}
use Rattle.model_keyboard.specs.declared.meeting.Meeting.TheVariants as kbd
use Rattle.layout_reader.specs.Layouts.{KeyLayout}
use Rattle.model_link.specs.Debounce.{turned_all}
use Rattle.model_link.specs.Expected.{Whole}
use Rattle.model_link.specs.Machine.{LayeredKeyboard, met_as}
use Rattle.ctl_wire.specs.Wires.{Pc}
use Rattle.law_wires_agree.proofs.Pending.{flips_stay}
use Rattle.law_wires_agree.specs.Flips.{IsFlip}
use Rattle.law_wires_agree.specs.Ticks.{Ticked, IsNone, at_meeting, leaves_cycle}
use Rattle.law_agreement.proofs.CutLooks.{since, is_early, free_stays_high}
use Rattle.law_wires_agree.specs.Without.{without_bits, link_by, seen_in_bytes}
use Rattle.law_agreement.specs.Wires.{IsFrameOf}
use Rattle.law_agreement.proofs.Frames.{FirstLow, free_or_not, first_low, frame_offered, frame_free, frame_ended}
use Rattle.law_agreement.proofs.Frames.{frame_tested, frame_in}
use Rattle.law_agreement.proofs.Compiled.{silent_keys}
use Rattle.law_agreement.proofs.Placed.{IsOfLayout}
use Rattle.law_agreement.proofs.FnFollows.{IsFnPlaceOf}
use Rattle.law_agreement.proofs.Going.{Went, goes, flip_at_look}
use Rattle.law_agreement.proofs.Happened.{at_look}
use Rattle.law_agreement.proofs.Model.{columns_in}
use Rattle.law_agreement.proofs.Ran.{Ran}
use Rattle.law_agreement.proofs.Sides.{looks_same}
use Rattle.law_agreement.proofs.Taking.{sees, takes}
use Rattle.law_agreement.proofs.Ties.{Ties}
use Rattle.law_agreement.proofs.Ways.{testing, idle, inhibited, sends, is_cut, gets}

-- on any board above the joint board
module _ (edges : List Edge) (events : List HostEvent) (d : Board) (to : d.State → Beside)
    (over : IsOver edges events d to) (bytes : List ℕ) (hk : HasKernel bytes) (alike : IsSilentAlike bytes)
    (small : All IsByte bytes)
    (low : (p1 p2 c : ℕ) (s : d.State) → (d.pins p1 p2 c s).bus < 256)
    (layout : KeyLayout) (same : SameKeys (image_keys bytes) (silent_keys layout))
    (codes : NoPrefix (silent_keys layout))
    (own : IsFnPlaceOf layout (slice_index bytes fn_place_at))
    (w : World d.State) (m : Whole LayeredKeyboard)
    (tie : Ties bytes (silent_keys layout) (under to w) m)
    (columns : edges_now bytes d w ≡ takes layout m (columns_in edges w.cycle))
    (of_layout : All (IsOfLayout layout) (takes layout m (columns_in edges w.cycle)))
    (reads : held_by (column_read d w) ≡ turned_all (sees m (columns_in edges w.cycle)) m.keys.switches.read)
    (released : IsReleased (latch_now d w))
    (lamps : m.keys.keyboard.lights ≡ lights_of (latch_now d w))
    (noise : AreFlips events) (offered : (byte : ℕ) → offer m.keys.keyboard ≡ Some byte → byte < 256)
    (asked : (byte : ℕ) → (at_look edges events (under to w)).side.port.link ≡ Request byte → byte < 256) where
  abbrev v : ℕ
  v = latch_now d w

  abbrev u : World Beside
  u = under to w

  abbrev look : Pc
  look = at_look edges events u

  abbrev Goes : Frame → Type 0
  Goes frame = Tick d TICK bytes w
      (Went edges events d to over bytes layout same codes own w m tie columns of_layout reads released lamps noise frame)

  abbrev tests : Bool
  tests = m.keys.keyboard.test == 0

  -- the keyboard that memory shows is the model's
  shown_tests : (shown_by w.cpu.ram).test == 0 ≡ tests
  shown_tests = ap (λ (k : Keyboard). k.test == 0) tie.keyboard

  shown_offers : offer (shown_by w.cpu.ram) ≡ offer m.keys.keyboard
  shown_offers = ap offer tie.keyboard

  idle_look : is_busy look.side.port.link ≡ false
  idle_look = (looks_same edges events u tie.released released tie.idle).1

  abbrev now : Side UnderWay
  now = seen_in_bytes look.side

  -- ticks in which no byte passes, whatever the wires do
  still : (meeting : Meeting) → ((later : Side UnderWay) → meeting_in tests (offer m.keys.keyboard) now later ≡ meeting)
      → IsNone meeting → IsFrameOf (offer m.keys.keyboard) meeting NoFrame
      → Tick d TICK bytes w (Ran d bytes (met_as meeting) NoFrame w) → Goes NoFrame
  still meeting is none fits t =
      goes edges events d to over bytes layout same codes own w m tie columns of_layout reads released lamps noise
      (met_as meeting) meeting NoFrame fits refl (λ byte e. elim (subst IsNone e none) [ ])
      (λ rest more k all long.
      still_ticked events v w.cycle released rest k look all tests (offer m.keys.keyboard) meeting idle_look
      (is (seen_in_bytes (at_meeting events (λ o. latch_of v) w.cycle look).side)) none) t

  abbrev over_lines : Frame → ℕ → Lines
  over_lines frame = lines_by frame v w.cycle released

  -- a law of the tick at what the model's keyboard says
  at_model : (lines : ℕ → Lines) (rest k : ℕ) (o : Option ℕ) (met : Meeting) → tests ≡ true → offer m.keys.keyboard ≡ o
      → Ticked events lines w.cycle rest look true o met k
      → Ticked events lines w.cycle rest look tests (offer m.keys.keyboard) met k
  at_model lines rest k o met ended is law =
      subst (λ t. Ticked events lines w.cycle rest look t (offer m.keys.keyboard) met k) (sym ended)
      (subst (λ v. Ticked events lines w.cycle rest look true v met k) (sym is) law)

  -- what is offered, where the link is free at the tick's look at the clock
  module _ (byte : ℕ) (ended : tests ≡ true) (some : offer m.keys.keyboard ≡ Some byte) (free : look.side.port.link ≡ Free)
    where
      abbrev whole : ℕ → Lines
      whole = over_lines (SentFrame byte)

      abbrev cut_lines : ℕ → ℕ → Lines
      cut_lines number = over_lines (CutFrame byte number)

      abbrev lets : ℕ → Bool
      lets number = lets_at events whole w.cycle look number

      abbrev Free_there : Type 0
      Free_there = (at_meeting events whole w.cycle look).side.port.link ≡ Free

      -- the link is let at the look of the first cell, so it is free at the first edge
      is_there : lets 46 ≡ true → Free_there
      is_there high =
          elim (free_or_not (at_meeting events whole w.cycle look).side.port.link) [
            | inl still ↦ still
            | inr gone ↦
                let low : lets 46 ≡ false = as_cycle events whole w.cycle look 46 18 refl
                ∙ pulled_look events whole w.cycle look (sent_lines v w.cycle released byte 0).0 free gone in
                absurd (cc (high, low))
          ]

      -- the controller leaves the clock alone at all looks: it is sent
      sent : ((number : ℕ) → IsLook number → lets number ≡ true) → Goes (SentFrame byte)
      sent leaves =
          let codes_whole : IsWhole (shown_by w.cpu.ram).queue =
          subst (λ (k : Keyboard). IsWhole k.queue) (sym tie.keyboard) tie.sound.codes in
          let flip : IsFlip (at_meeting events whole w.cycle look).side.port.flip =
          flips_stay events whole 32 (256 + w.cycle) look noise
          (flip_at_look edges events d to over bytes layout same codes own w m tie columns of_layout reads released lamps noise) in
          let there : Free_there = is_there (leaves 46 (inr (inr (0, omega arith, inl refl)))) in
          goes edges events d to over bytes layout same codes own w m tie columns of_layout reads released lamps noise kbd.Sent
          (met.Sent byte) (SentFrame byte) refl refl (λ b e. absurd cc)
          (λ rest more k all long.
          at_model whole rest k (Some byte) (met.Sent byte) ended some
          (sent_ticked events v w.cycle released rest k look all byte more (offered byte some) long free there flip
          (λ i l. sym (as_cycle events whole w.cycle look (46 + 32 * i) (32 * i + 18) (omega arith))
          ∙ leaves (46 + 32 * i) (inr (inr (i, l, inl refl))))))
          (sends edges events d to over bytes hk alike small low w tie.started tie.repeating tie.lit byte (shown_tests ∙ ended)
          (shown_offers ∙ some) codes_whole free leaves)

      -- what is said of the whole frame's lines holds of those of the frame that is cut
      module _ (first : FirstLow lets) where
        abbrev here : ℕ → Lines
        here = cut_lines first.look

        by_cycle : (number n : ℕ) → number ≡ 28 + n → number ≤ first.look
            → leaves_cycle events here w.cycle look n ≡ lets number
        by_cycle number n e l =
            sym (as_cycle events here w.cycle look number n e)
            ∙ cut_lets v w.cycle byte released events first.look number look first.is l

        ticked : (rest k : ℕ) → k ≡ 353 + rest → Ticked events here w.cycle rest look true (Some byte) met.Cut k
        ticked rest k all =
            elim (free_or_not (at_meeting events here w.cycle look).side.port.link) [
              | inl there ↦ by_look there first.is
              | inr gone ↦
                  cut_ticked events v w.cycle released rest k look all byte first.look first.is (early gone) free gone
            ]
          where
            -- up to the meeting the lines are those of the whole frame, where the look is after it
            at_edge : 28 ≤ first.look + 2 → at_meeting events here w.cycle look ≡ at_meeting events whole w.cycle look
            at_edge l = cut_sides v w.cycle byte released events first.look 32 (256 + w.cycle) look first.is (omega (arith, l))

            early : ((at_meeting events here w.cycle look).side.port.link ≡ Free → ⊥) → first.look ≤ 46
            early gone = by (nat_lt 46 first.look) refl
              where
                by : (c : Bool) → nat_lt 46 first.look ≡ c → first.look ≤ 46
                by true e =
                    let l : 46 < first.look = grind (arith, nat_tests, e) in
                    is_early events v w.cycle released look byte free first
                    (λ there. gone (ap (λ (c : Pc). c.side.port.link) (at_edge (omega (arith, l))) ∙ there))
                by false e = grind (arith, nat_tests, e)

            late : (at_meeting events here w.cycle look).side.port.link ≡ Free → first.look ≤ 26 → ⊥
            late there l =
                free_stays_high events here (256 + w.cycle) look (4 + first.look) (28 - first.look) (omega (arith, l))
                (λ o a u. cut_up v w.cycle byte released first.look first.is o a (omega (arith, u))) free there
                (cut_lets v w.cycle byte released events first.look first.look look first.is (omega arith) ∙ first.low)

            by_look : (at_meeting events here w.cycle look).side.port.link ≡ Free → IsLook first.look
                → Ticked events here w.cycle rest look true (Some byte) met.Cut k
            by_look there (inl e) = absurd (late there (omega (arith, e)))
            by_look there (inr (inl e)) = absurd (late there (omega (arith, e)))
            by_look there (inr (inr (j, below, inl e))) =
                broken_ticked events v w.cycle released rest k look all byte j 17 first.look first.is (omega (arith, e)) below
                (omega arith) (omega arith) free there
                (λ i l. let less : i < 10 = omega (arith, l, below) in
                by_cycle (46 + 32 * i) (32 * i + 18) (omega arith) (omega (arith, e, l))
                ∙ first.before (46 + 32 * i) (inr (inr (i, less, inl refl))) (omega (arith, e, l)))
                (by_cycle first.look (32 * j + suc 17) (omega (arith, e)) (omega arith) ∙ first.low)
            by_look there (inr (inr (j, below, inr (e, more)))) =
                broken_ticked events v w.cycle released rest k look all byte j 27 first.look first.is (omega (arith, e)) below
                (omega arith) (omega arith) free there
                (λ i l. let less : i < 10 = omega (arith, l, below) in
                by_cycle (46 + 32 * i) (32 * i + 18) (omega arith) (omega (arith, e, l))
                ∙ first.before (46 + 32 * i) (inr (inr (i, less, inl refl))) (omega (arith, e, l)))
                (by_cycle first.look (32 * j + suc 27) (omega (arith, e)) (omega arith) ∙ first.low)

        -- it pulls the clock at a look, the first such: the frame is cut there
        cut : Goes (CutFrame byte first.look)
        cut =
            goes edges events d to over bytes layout same codes own w m tie columns of_layout reads released lamps noise kbd.Cut met.Cut
            (CutFrame byte first.look)
            (some, first.is) refl (λ b e. absurd cc)
            (λ rest more k all long. at_model here rest k (Some byte) met.Cut ended some (ticked rest k all))
            (is_cut edges events d to over bytes hk alike small low w tie.started tie.repeating tie.lit byte first.look first.is
            (shown_tests ∙ ended) (shown_offers ∙ some) free first.before first.low)

      offers : Goes (frame_offered byte (first_low lets))
      offers = by (first_low lets)
        where
          by : (looks : ((number : ℕ) → IsLook number → lets number ≡ true) ⊎ (FirstLow lets)) → Goes (frame_offered byte looks)
          by (inl leaves) = sent leaves
          by (inr first) = cut first

  -- the frame of each byte that may be offered
  abbrev each : ℕ → Frame
  each byte = frame_offered byte (first_low (lets_at events (over_lines (SentFrame byte)) w.cycle look))

  -- the link is free at the look
  when_free : (o : Option ℕ) → tests ≡ true → offer m.keys.keyboard ≡ o → look.side.port.link ≡ Free → Goes (frame_free each o)
  when_free None ended none free =
      still met.Idle
      (λ later.
      ap (λ t. meeting_by t (offer m.keys.keyboard) now.port.link later.port.link) ended
      ∙ ap (λ o. meeting_of now.port.link o later.port.link) none
      ∙ ap (λ l. meeting_of (link_by without_bits l) None later.port.link) free) tt refl
      (idle edges events d to over bytes hk alike small low w tie.started tie.repeating tie.lit (shown_tests ∙ ended) free
      (shown_offers ∙ none))
  when_free (Some byte) ended some free = offers byte ended some free

  -- the controller pulls the clock at the look
  when_low : tests ≡ true → (drive look.side.port.link).clk ≡ false
      → ((o : Option ℕ) (later : Link UnderWay) → meeting_of (link_by without_bits look.side.port.link) o later
      ≡ met.Inhibited) → Goes NoFrame
  when_low ended pulls is =
      still met.Inhibited
      (λ later. ap (λ t. meeting_by t (offer m.keys.keyboard) now.port.link later.port.link) ended
      ∙ is (offer m.keys.keyboard) later.port.link) tt refl
      (inhibited edges events d to over bytes hk alike small low w tie.started tie.repeating tie.lit (shown_tests ∙ ended) pulls)

  -- the controller requests to send
  when_asked : (byte : ℕ) → tests ≡ true → look.side.port.link ≡ Request byte → Goes ReceivedFrame
  when_asked byte ended request =
      goes edges events d to over bytes layout same codes own w m tie columns of_layout reads released lamps noise
      (kbd.Got byte true) (met.Got byte) ReceivedFrame refl refl
      (λ b e. let same : byte ≡ b = cc in request ∙ ap (λ n. Request n) same)
      (λ rest more k all long.
      at_model (over_lines ReceivedFrame) rest k (offer m.keys.keyboard) (met.Got byte) ended refl
      (got_ticked events v w.cycle released rest k look all byte more (offer m.keys.keyboard) long request))
      (gets edges events d to over bytes hk alike small low w tie.started tie.repeating tie.lit byte (asked byte request)
      (shown_tests ∙ ended) request)

  when_ended : (l : Link Wire) → look.side.port.link ≡ l → tests ≡ true
      → Goes (frame_ended (frame_free each (offer m.keys.keyboard)) l)
  when_ended Free e ended = when_free (offer m.keys.keyboard) ended refl e
  when_ended (Hold since) e ended =
      when_low ended (ap (λ l. (drive l).clk) e) (λ o later. ap (λ l. meeting_of (link_by without_bits l) o later) e)
  when_ended (Ask byte since) e ended =
      when_low ended (ap (λ l. (drive l).clk) e) (λ o later. ap (λ l. meeting_of (link_by without_bits l) o later) e)
  when_ended (Request byte) e ended = when_asked byte ended e
  when_ended (Busy x) e ended = absurd (let busy : true ≡ false = sym (ap is_busy e) ∙ idle_look in cc)

  by_test : (t : Bool) → tests ≡ t
      → Goes (frame_tested (frame_ended (frame_free each (offer m.keys.keyboard)) look.side.port.link) t)
  by_test false e =
      still met.Idle (λ later. ap (λ t. meeting_by t (offer m.keys.keyboard) now.port.link later.port.link) e) tt refl
      (testing edges events d to over bytes hk alike small low w tie.started tie.repeating tie.lit (shown_tests ∙ e))
  by_test true e = when_ended look.side.port.link refl e

  -- every tick goes one way, and what ties the joint run to the model goes on
  pub every_tick : Goes (frame_in events over_lines w.cycle look tests (offer m.keys.keyboard))
  every_tick = by_test tests refl
