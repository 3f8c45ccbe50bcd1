-- For every layout, whatever its keys and the host do, what ties the joint run to the model goes on from tick to tick; and
-- a tick in time that shows few edges is followed by one in time.
use Rattle.std.proofs.Common.{◌≡◌, ◌≤◌, ◌<◌, ℕ, suc, ◌+◌, ◌-◌, ◌*◌, ◌/◌, ◌%◌, ◌==◌, true, false, nat_le}
use Rattle.std.proofs.Common.{slice_index, if◌then◌else◌, All, List, length, refl, ap, sym, ◌∙◌, subst, arith}
use Rattle.std.proofs.lemmas.Bool.Decides.{nat_tests}
use Rattle.fw_compile.specs.Image.{image_of}
use Rattle.fw_kernel.specs.declared.cells.TheConstants.{LIGHTS, HELD}
use Rattle.fw_kernel.specs.declared.labels.TheConstants.{TICK}
use Rattle.law_fw_keys.proofs.Held.{held_same}
use Rattle.law_fw_keys.proofs.Keyboard.{flags_long}
use Rattle.law_fw_keys.specs.Frameless.{IsStarted, cells_in, edges_now}
use Rattle.law_fw_keys.specs.State.{down_at, held_by, debounces, read_cell}
use Rattle.law_fw_logic.specs.Ticks.{column_read}
use Rattle.law_fw_link.proofs.Over.{IsOver, itself, under}
use Rattle.law_fw_link.proofs.Watching.{watching, watched, driven_good, drives_tick}
use Rattle.law_fw_link.proofs.Wired.{IsReleased}
use Rattle.law_fw_link.specs.Latch.{Frame, tick_latch}
use Rattle.law_fw_link.proofs.TickLatch.{lines_by}
use Rattle.law_fw_logic.proofs.Laws.{comes_as}
use Rattle.law_fw_logic.proofs.Passing.{Passes}
use Rattle.law_fw_logic.proofs.Sweep.{selects_from, column_from}
use Rattle.ctl_link.specs.declared.link.Link.TheVariants.{Request}
use Rattle.board_terms.specs.declared.event.Edge.{Edge}
use Rattle.board_terms.specs.declared.event.HostEvent.{HostEvent}
use Rattle.joint_run.specs.Joint.{Beside, joint_board}
use Rattle.joint_run.specs.Run.{Board, World}
use Rattle.joint_run.specs.Starts.{at_tick, Comes, Tick}
use Rattle.model_keyboard.specs.Keyboard.{Keyboard, offer}
use Rattle.key_file.specs.Histories.{KeyHistory}
use Rattle.layout_reader.specs.Layouts.{KeyLayout, IsKeyLayout, HasEntry}
use Rattle.model_link.proofs.Taken.{AreWide, shown_known, switched_known, turned_long, turned_shown}
use Rattle.model_link.specs.Debounce.{is_down_at, turned_all, AreKnown}
use Rattle.model_link.specs.Expected.{Whole, meeting_from}
use Rattle.model_link.specs.Machine.{LayeredKeyboard, keyboard}
use Rattle.mcs48_core.specs.Cpu.{Cpu}
use Rattle.mcs48_ranges.specs.Sizes.{IsFine}
use Rattle.law_agreement.specs.Agreement.{switched_on}
use Rattle.law_agreement.specs.AnyStart.{AreFor}
use Rattle.law_agreement.specs.Bytes.{IsInBytes}
use Rattle.law_agreement.specs.Wires.{DrivesFrame}
use Rattle.law_agreement.proofs.Above.{down_over, edges_over, low_over}
use Rattle.law_agreement.proofs.Beginning.{begins, is_tick}
use Rattle.law_agreement.proofs.Columns.{bus_low, board_edges, down_read}
use Rattle.law_agreement.proofs.Compiled.{has_kernel, has_rate, is_alike, are_bytes, silent_keys, same_keys, no_prefix}
use Rattle.law_agreement.proofs.Cutting.{cut_since, is_cut_by}
use Rattle.law_agreement.proofs.Deciding.{every_tick}
use Rattle.law_agreement.proofs.FnFollows.{image_fn}
use Rattle.law_agreement.proofs.Frames.{frame_in}
use Rattle.law_agreement.proofs.Going.{Went}
use Rattle.law_agreement.proofs.Happened.{lit_latch, at_look}
use Rattle.law_agreement.proofs.Holding.{HasPlaces, none_held}
use Rattle.law_agreement.proofs.InBytes.{look_in_bytes, tick_in_bytes, first_in_bytes, request_in_bytes}
use Rattle.law_fw_logic.specs.Ticks.{IsOnTime}
use Rattle.law_agreement.proofs.Model.{at_first, by_columns, columns_in}
use Rattle.law_agreement.proofs.Offering.{offers_byte, lit_released, lit_shows}
use Rattle.law_agreement.proofs.Ran.{Lasted}
use Rattle.law_agreement.proofs.Sides.{model_looks}
use Rattle.law_agreement.proofs.Placed.{IsOfLayout, down_placed}
use Rattle.law_agreement.proofs.Taking.{sees, takes, is_debounced, flags_are, takes_few, takes_placed, HasFewWaiting, few_wait}
use Rattle.law_agreement.proofs.Ties.{Ties}
use Rattle.law_agreement.proofs.Together.{together, goes_with, asks_for}

module _ (layout : KeyLayout) (history : KeyHistory) (fine : IsKeyLayout layout)
    (ok : AreFor layout history.edges history.host) where
  abbrev edges : List Edge
  edges = history.edges

  abbrev events : List HostEvent
  events = history.host

  abbrev bytes : List ℕ
  bytes = image_of layout

  -- the joint state is tied to the model, whose bytes are bytes, and whose held keys are at places of the layout; port 1
  -- is as reset leaves it at the first start, and then selects no column
  pub record Tied (w : World Beside) (m : Whole LayeredKeyboard) : Type 0 where
    pub ties : Ties bytes (silent_keys layout) w m
    pub in_bytes : IsInBytes m.side
    pub placed : AreKnown layout m.keys.switches
    pub column : w.cpu.p1 ≡ (if nat_le w.cycle 4097 then 255 else 44)

  -- and the start is in time, with few keys that wait to settle
  pub record TiedInTime (w : World Beside) (m : Whole LayeredKeyboard) : Type 0 where
    pub tied : Tied w m
    pub started : IsStarted w.cpu
    pub waits : HasFewWaiting layout m.keys

  -- what is tied to the model has a place for each key
  pub fits : (w : World Beside) (m : Whole LayeredKeyboard) → Tied w m → HasPlaces m.keys
  fits w m t = record {
    read = ap length (sym t.ties.read) ∙ flags_long (down_at (read_cell (debounces bytes) (cells_in w.cpu.ram))) 96;
    settled =
        ap length (sym t.ties.settled) ∙ ap (λ (k : Keyboard). length k.held) (sym t.ties.keyboard)
        ∙ flags_long (down_at (λ c. slice_index w.cpu.ram (HELD + c))) 96;
  }

  -- what is tied to the model in time has a place for each key
  pub fits_in_time : (w : World Beside) (m : Whole LayeredKeyboard) → TiedInTime w m → HasPlaces m.keys
  fits_in_time w m t = fits w m t.tied

  -- the first tick start is tied to the model at power-on
  pub tied_first : (m : Cpu) → IsFine m → Comes (joint_board edges events) TICK bytes (switched_on edges events m)
      (λ e. IsOnTime 0 e × TiedInTime e (at_first (keyboard layout) events e.cycle))
  tied_first m small =
      comes_as (joint_board edges events) TICK bytes
      (λ e. IsOnTime 0 e × IsStarted e.cpu × Ties bytes (silent_keys layout) e (at_first (keyboard layout) events e.cycle)
      × (e.cpu.p1 ≡ 255))
      (λ e. IsOnTime 0 e × TiedInTime e (at_first (keyboard layout) events e.cycle)) (switched_on edges events m)
      (λ e h. (
        h.0,
        record {
          started = h.1;
          waits = λ on. omega arith;
          tied = record {
            ties = h.2;
            in_bytes = first_in_bytes events ok.written LayeredKeyboard (keyboard layout) e.cycle;
            placed = λ p l. (
              λ down. absurd (let off : false ≡ true = sym (none_held layout p) ∙ down in cc),
              λ down. absurd (let off : false ≡ true = sym (none_held layout p) ∙ down in cc),
            );
            column =
                let pre : e.cpu.pre ≤ 3 = h.1.entered.late in
                let time : e.cycle + 2 ≡ 4096 + 2048 * 0 + e.cpu.pre = h.0 in
                let low : e.cycle ≤ 4097 = omega (arith, pre, time) in
                let first : nat_le e.cycle 4097 ≡ true = grind (arith, nat_tests, low) in
                h.3 ∙ sym (ap (λ b. if b then 255 else 44) first);
          };
        },
      ))
      (begins edges events ok.flips bytes (has_kernel layout) (are_bytes layout fine) (bus_low edges events) m small
      layout (has_rate layout))

  module _ (w : World Beside) (m : Whole LayeredKeyboard) (past : 4096 ≤ w.cycle) (tied : Tied w m) where
    abbrev tie : Ties bytes (silent_keys layout) w m
    tie = tied.ties

    abbrev wide : AreWide m.keys.switches
    wide = fits w m tied

    -- the edges that a tick takes are the model's
    pub columns : edges_now bytes (joint_board edges events) w ≡ takes layout m (columns_in edges w.cycle)
    columns =
        board_edges edges events w past m.keys.switches (ap (λ (k : Keyboard). k.held) tie.keyboard ∙ tie.settled) bytes
        layout.debounce (is_debounced layout) tie.read wide.read

    -- what the columns show is what was read after the tick
    read_there : (place : ℕ) → place < 96 → down_at (column_read (joint_board edges events) w) place
        ≡ is_down_at (turned_all (sees m (columns_in edges w.cycle)) m.keys.switches.read) place
    read_there place l =
        let own : 8 * (place / 8) + place % 8 ≡ place = omega arith in
        down_read edges events w past (place / 8) (place % 8) (omega (arith, l)) (omega arith)
        ∙ ap (columns_in edges w.cycle) own
        ∙ sym (turned_shown m.keys.switches.read (columns_in edges w.cycle) place wide.read l)

    reads : held_by (column_read (joint_board edges events) w)
        ≡ turned_all (sees m (columns_in edges w.cycle)) m.keys.switches.read
    reads =
        flags_are (down_at (column_read (joint_board edges events) w)) 96
        (turned_all (sees m (columns_in edges w.cycle)) m.keys.switches.read)
        (turned_long (sees m (columns_in edges w.cycle)) m.keys.switches.read ∙ wide.read) read_there

    lamps : m.keys.keyboard.lights ≡ Rattle.joint_run.specs.Joint.lights_of (lit_latch edges events w)
    lamps = ap (λ (k : Keyboard). k.lights) (sym tie.keyboard) ∙ lit_shows edges events w tie.started

    -- the edges that are shown are at places of the layout
    now_placed : (p : ℕ) → columns_in edges w.cycle p ≡ true → HasEntry layout p
    now_placed p is = down_placed layout p (w.cycle - 4096 + 16 + 16 * (p / 8)) edges ok.places is

    of_layout : All (IsOfLayout layout) (takes layout m (columns_in edges w.cycle))
    of_layout =
        takes_placed layout fine layout.debounce (columns_in edges w.cycle) m.keys.switches wide tied.placed
        (λ p l. now_placed p)

    -- a byte that the controller asks to be taken is one of the host's
    asked : (byte : ℕ) → (at_look edges events w).side.port.link ≡ Request byte → byte < 256
    asked byte request =
        request_in_bytes (at_look edges events w).side byte
        (subst (λ s. IsInBytes s)
        (sym (model_looks edges events w tie.released (lit_released edges events w tie.started) tie.idle LayeredKeyboard
        (keyboard layout) m tie.side tie.shown lamps))
        (look_in_bytes events ok.written m.shown m.keys.keyboard.lights w.cycle m.side tied.in_bytes))
        request

    -- the latch of the tick, by the cycle
    abbrev lit : ℕ
    lit = lit_latch edges events w

    abbrev released : IsReleased lit
    released = lit_released edges events w tie.started

    abbrev frame : Frame
    frame = frame_in events (λ f. lines_by f lit w.cycle released) w.cycle (at_look edges events w) (m.keys.keyboard.test == 0)
        (offer m.keys.keyboard)

    abbrev latch : ℕ → ℕ
    latch c = tick_latch w.cpu.p2 lit frame (c - w.cycle)

    abbrev joint : Board
    joint = joint_board edges events

    went : Tick joint TICK bytes w
        (Went edges events joint (λ b. b) (itself edges events) bytes layout (same_keys layout) (no_prefix layout fine) (image_fn layout) w m
        tie columns of_layout reads released lamps ok.flips frame)
    went =
        every_tick edges events joint (λ b. b) (itself edges events) bytes (has_kernel layout)
        (is_alike layout fine) (are_bytes layout fine) (bus_low edges events) layout (same_keys layout)
        (no_prefix layout fine) (image_fn layout) w m tie columns of_layout reads
        released lamps ok.flips
        (λ byte is. offers_byte w.cpu tie.started.fine byte (ap offer tie.keyboard ∙ is)) asked

    -- by the service's end
    pub passes : Passes joint bytes w
    passes = went.rest.goal.3

    abbrev next : World Beside
    next = went.rest.end

    column_next : next.cpu.p1 ≡ 44
    column_next =
        column_from joint bytes (has_kernel layout) w tie.started.served passes went.rest.steps went.first next went.step
        went.rest.run (is_tick edges events next went.rest.goal.0.started)

    -- from a start that is tied to the model each tick leads to one that is
    pub tied_next : Tick joint TICK bytes w
        (λ e. Tied e (by_columns (keyboard layout) edges events w.cycle e.cycle m) × Lasted joint bytes w e)
    tied_next = record {
      at = went.at;
      first = went.first;
      step = went.step;
      rest = record { steps = went.rest.steps; end = next; run = went.rest.run; goal = (there, went.rest.goal.5) };
    }
      where
        there : Tied next (by_columns (keyboard layout) edges events w.cycle next.cycle m)
        there = record {
          ties = went.rest.goal.0;
          in_bytes = tick_in_bytes events ok.written LayeredKeyboard (keyboard layout)
              (sees m (columns_in edges w.cycle)) w.cycle (next.cycle - w.cycle - 609) m
              tied.in_bytes;
          placed = switched_known layout layout.debounce (sees m (columns_in edges w.cycle)) m.keys.switches
              (shown_known (HasEntry layout) (is_down_at m.keys.switches.read) (columns_in edges w.cycle)
              (λ p l. (tied.placed p l).0) (λ p l. now_placed p)) tied.placed;
          column =
              let long : w.cycle + 2016 ≤ next.cycle = went.rest.goal.5.later in
              let high : 4097 < next.cycle = omega (arith, past, long) in
              let later : nat_le next.cycle 4097 ≡ false = grind (arith, nat_tests, high) in
              column_next ∙ sym (ap (λ b. if b then 255 else 44) later);
        }

    abbrev W : Board
    W = watching joint latch

    abbrev beneath : W.State → Beside
    beneath s = s.under

    above : IsOver edges events W beneath
    above = record { pins = λ p1 p2 cycle s. refl; cycle = λ p2 cycle s. refl }

    columns_above : edges_now bytes W (watched w) ≡ takes layout m (columns_in edges w.cycle)
    columns_above = edges_over edges events W beneath above (watched w) bytes ∙ columns

    reads_above : held_by (column_read W (watched w))
        ≡ turned_all (sees m (columns_in edges w.cycle)) m.keys.switches.read
    reads_above =
        held_same (column_read W (watched w)) (column_read joint w) (λ c l. down_over edges events W beneath above (watched w) c)
        ∙ reads

    -- in each tick the keyboard drives the frame that its meeting says
    pub tick_drives : DrivesFrame edges events bytes (offer m.keys.keyboard) (meeting_from (keyboard layout) events w.cycle m) w
    tick_drives =
        let t =
        every_tick edges events W beneath above bytes (has_kernel layout) (is_alike layout fine)
        (are_bytes layout fine) (low_over edges events W beneath above) layout (same_keys layout)
        (no_prefix layout fine) (image_fn layout) (watched w) m
        tie columns_above of_layout reads_above released lamps ok.flips
        (λ byte is. offers_byte w.cpu tie.started.fine byte (ap offer tie.keyboard ∙ is)) asked in
        record {
          frame = frame;
          of_meeting = t.rest.goal.2;
          before = (tie.released.byte, tie.released.clock, tie.released.data_wire);
          lit = lit;
          afterwards = (released.byte, released.clock, released.data_wire);
          lamps = (
            slice_index w.cpu.ram LIGHTS / 16 % 8,
            omega arith,
            ap (λ v. 255 - v) tie.started.inv.lamps,
          );
          idle = tie.idle;
          goes_with = goes_with edges events w tie.lit released frame
              (together events lit w.cycle released (at_look edges events w) (offer m.keys.keyboard) asked
              (λ byte is. offers_byte w.cpu tie.started.fine byte (ap offer tie.keyboard ∙ is)) (m.keys.keyboard.test == 0));
          asked = asks_for edges events w tie.lit released (offer m.keys.keyboard)
              (meeting_from (keyboard layout) events w.cycle m) frame t.rest.goal.2 went.rest.goal.4;
          none = tied.column;
          columns = selects_from joint bytes (has_kernel layout) w tie.started.served passes;
          cut = is_cut_by edges events w tie.lit released frame
              (cut_since events lit w.cycle released (at_look edges events w) (m.keys.keyboard.test == 0)
              (offer m.keys.keyboard));
          drives = drives_tick joint latch TICK bytes w
              (Went edges events W beneath above bytes layout (same_keys layout) (no_prefix layout fine) (image_fn layout) (watched w) m
              tie columns_above of_layout reads_above released lamps ok.flips frame)
              (λ e. (at_tick joint TICK e ≡ true) × (e.cpu.p2 ≡ lit))
              (λ e g. (
                (is_tick edges events (under beneath e) g.0.started, g.1.latch),
                ap (λ (s : W.State). s.good) g.1.board
                    ∙ driven_good joint latch w.cycle (tick_latch w.cpu.p2 lit frame) g.1.length 0 (watched w).board
                    (λ o a u. let p : o ≡ w.cycle + o - w.cycle = omega arith in ap (tick_latch w.cpu.p2 lit frame) p)
                    refl,
              ))
              t;
        }

  -- and a tick in time, with four edges at most, comes to one in time
  module _ (n : ℕ) (w : World Beside) (m : Whole LayeredKeyboard) (time : IsOnTime n w) (t : TiedInTime w m)
      (four : length (sees m (columns_in edges w.cycle)) ≤ 4) where
    past : 4096 ≤ w.cycle
    past = let early : 2 ≤ w.cpu.pre = t.started.entered.early in omega (arith, time, early)

    few : length (edges_now bytes (joint_board edges events) w) ≤ 4
    few =
        subst (λ v. length v ≤ 4) (sym (columns w m past t.tied))
        (takes_few layout.debounce (columns_in edges w.cycle) m.keys.switches four t.waits)

    -- with four changes at most a tick in time leads to one in time
    pub next_in_time : Tick (joint_board edges events) TICK bytes w
        (λ e. IsOnTime (suc n) e × TiedInTime e (by_columns (keyboard layout) edges events w.cycle e.cycle m))
    next_in_time =
        let next = tied_next w m past t.tied in
        record {
          at = next.at;
          first = next.first;
          step = next.step;
          rest = comes_as (joint_board edges events) TICK bytes
              (λ e. Tied e (by_columns (keyboard layout) edges events w.cycle e.cycle m)
              × Lasted (joint_board edges events) bytes w e)
              (λ e. IsOnTime (suc n) e × TiedInTime e (by_columns (keyboard layout) edges events w.cycle e.cycle m)) next.first
              (λ e h.
              let p = h.1.prompt t.started few in
              let now : w.cycle + 2 ≡ 4096 + 2048 * n + w.cpu.pre = time in
              let pass : e.cycle + w.cpu.pre ≡ w.cycle + 2048 + e.cpu.pre = p.1 in (
                omega (arith, now, pass),
                record {
                  tied = h.0;
                  started = p.0;
                  waits = few_wait layout.debounce (columns_in edges w.cycle) m.keys.switches (fits w m t.tied) four;
                },
              ))
              next.rest;
        }

    -- in a tick in time the keyboard drives the frame that its meeting says
    pub drives_in_time : DrivesFrame edges events bytes (offer m.keys.keyboard) (meeting_from (keyboard layout) events w.cycle m) w
    drives_in_time = tick_drives w m past t.tied
