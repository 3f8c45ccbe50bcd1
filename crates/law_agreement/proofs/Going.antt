-- From one tick start to the next, by the tick's meeting: what ties the joint run to the model goes on.
use Rattle.std.proofs.Common.{◌≡◌, ◌≤◌, ℕ, ◌+◌, ◌-◌, ◌==◌, not, All, List, Bool, false, length, slice_index, slice_index_or, refl, ap, sym, ◌∙◌, subst, arith}
use Rattle.board_terms.specs.declared.event.Edge.{Edge}
use Rattle.board_terms.specs.declared.event.HostEvent.{HostEvent}
use Rattle.board_terms.specs.declared.lines.Lines.{Lines}
use Rattle.board_terms.specs.Flips.{AreFlips}
use Rattle.model_controller.specs.declared.meeting.Meeting.{Meeting}
use Rattle.model_controller.specs.declared.meeting.Meeting.TheVariants.{Got}
use Rattle.ctl_link.specs.declared.link.Link.TheVariants.{Request}
use Rattle.fw_kernel.specs.declared.labels.TheConstants.{TICK}
use Rattle.law_fw_keys.proofs.Carried.{SameKeys, ticks_same, layers_alike, edges_low, low_edges}
use Rattle.law_fw_keys.proofs.Edges.{IsWide}
use Rattle.law_fw_keys.proofs.Kept.{Sound, NoPrefix, pressed_low, met_sound, tested_sound, tick_sound}
use Rattle.law_fw_keys.specs.Edges.{image_keys}
use Rattle.law_fw_keys.specs.Frameless.{shown_by, layers_by, layers_met, edges_now, changed_now, latch_now}
use Rattle.law_fw_keys.specs.Healing.{is_fn_held}
use Rattle.law_fw_keys.proofs.Healing.{healed_same}
use Rattle.fw_kernel.specs.Tables.{fn_place_at}
use Rattle.law_agreement.proofs.FnFollows.{IsFnPlaceOf, fn_follows}
use Rattle.law_agreement.proofs.Holding.{ticked_holds, same_turned}
use Rattle.law_fw_logic.specs.Ticks.{column_read}
use Rattle.law_fw_keys.specs.State.{held_by}
use Rattle.law_fw_link.proofs.Over.{IsOver, under}
use Rattle.law_fw_link.proofs.TickLatch.{lines_by}
use Rattle.law_fw_link.proofs.Wired.{IsReleased}
use Rattle.law_fw_link.specs.Latch.{Frame}
use Rattle.law_fw_logic.proofs.Laws.{comes_as}
use Rattle.law_fw_logic.proofs.Passing.{Passes}
use Rattle.host_turn.specs.Run.{says_lights}
use Rattle.joint_run.specs.Joint.{Beside, latch_of, lights_of}
use Rattle.joint_run.specs.Run.{Board, World}
use Rattle.joint_run.specs.Starts.{Tick}
use Rattle.model_keyboard.proofs.Alike.{layered_same, layers_same, ticked_same}
use Rattle.model_keyboard.specs.Codes.{Keys, keys_of}
use Rattle.model_keyboard.specs.Layers.{Layers, layered, all_layers_after}
use Rattle.model_keyboard.specs.Keyboard.{Keyboard, offer}
use Rattle.model_keyboard.specs.Tick.{ticked, tested_if, met}
use Rattle.model_keyboard.specs.declared.meeting.Meeting.{Meeting as KeyboardMeeting}
use Rattle.layout_reader.specs.Layouts.{KeyLayout, is_fn_place}
use Rattle.model_link.proofs.Known.{layered_known}
use Rattle.model_link.specs.Debounce.{turned_all}
use Rattle.model_link.specs.Expected.{Whole, meeting_from}
use Rattle.model_link.specs.Machine.{LayeredKeyboard, keyboard, met_as}
use Rattle.law_wires_agree.proofs.Pending.{flips_stay}
use Rattle.law_wires_agree.specs.Flips.{IsFlip}
use Rattle.law_wires_agree.specs.Ticks.{Ticked}
use Rattle.law_wires_agree.specs.Without.{seen_in_bytes}
use Rattle.law_agreement.specs.Wires.{IsFrameOf}
use Rattle.law_agreement.proofs.Compiled.{is_silent, silent_keys}
use Rattle.law_agreement.proofs.Placed.{IsOfLayout}
use Rattle.law_agreement.proofs.Happened.{GoesBy, at_lights, at_look}
use Rattle.law_agreement.proofs.Model.{columns_in, by_columns}
use Rattle.law_agreement.proofs.OnWires.{on_wires}
use Rattle.law_agreement.proofs.Ran.{Lasted, Ran, lasted}
use Rattle.law_agreement.proofs.Sides.{met_is, side_is}
use Rattle.law_agreement.proofs.Taking.{sees, takes}
use Rattle.law_agreement.proofs.Ties.{Ties}

-- a tick of the image's keyboard is one of the layout's, and keeps what is to be kept
module _ (a b : Keys) (same : SameKeys a b) (codes : NoPrefix b) where
  -- a tick of the image's keyboard is a tick of the layout's
  pub layout_ticks : (meeting : KeyboardMeeting) (es : List (ℕ × Bool)) (l : Layers) (k : Keyboard) → low_edges es
      → Sound b l k → ticked a meeting (layered a.is_fn es l) k ≡ ticked b meeting (layered b.is_fn es l) k
  layout_ticks meeting es l k low s =
      ticks_same a b same meeting es l k
      (pressed_low b l (tested_if (not (k.test == 0)) (met meeting b k)).repeats
      (tested_sound b codes l (not (k.test == 0)) (met meeting b k) (met_sound b codes l meeting k s)).place) low

-- at places of the layout the kernel's Fn key is the layout's: the layers and the tick are those of the layout
module _ (layout : KeyLayout) (es : List (ℕ × Bool)) (of_layout : All (IsOfLayout layout) es) where
  own_layers : (l : Layers) → all_layers_after (is_silent layout) es l ≡ all_layers_after (is_fn_place layout) es l
  own_layers l = layers_same (is_silent layout) (is_fn_place layout) es l of_layout

  own_ticks : (meeting : KeyboardMeeting) (l : Layers) (k : Keyboard)
      → ticked (silent_keys layout) meeting (layered (is_silent layout) es l) k
      ≡ ticked (keys_of layout) meeting (layered (is_fn_place layout) es l) k
  own_ticks meeting l k =
      ap (λ v. ticked (silent_keys layout) meeting v k) (layered_same (is_silent layout) (is_fn_place layout) es l of_layout)
      ∙ ticked_same (silent_keys layout) (is_fn_place layout) meeting (layered (is_fn_place layout) es l) k
      (layered_known (λ p. is_silent layout p ≡ is_fn_place layout p) (is_fn_place layout) es l of_layout)

-- on any board above the joint board, by the state of the joint run
module _ (edges : List Edge) (events : List HostEvent) (d : Board) (to : d.State → Beside)
    (over : IsOver edges events d to) (bytes : List ℕ) (layout : KeyLayout)
    (same : SameKeys (image_keys bytes) (silent_keys layout)) (codes : NoPrefix (silent_keys layout))
    (fn_is : IsFnPlaceOf layout (slice_index bytes fn_place_at)) (w : World d.State) (m : Whole LayeredKeyboard)
    (tie : Ties bytes (silent_keys layout) (under to w) m)
    (columns : edges_now bytes d w ≡ takes layout m (columns_in edges w.cycle))
    (of_layout : All (IsOfLayout layout) (takes layout m (columns_in edges w.cycle)))
    (reads : held_by (column_read d w) ≡ turned_all (sees m (columns_in edges w.cycle)) m.keys.switches.read)
    (released : IsReleased (latch_now d w))
    (lamps : m.keys.keyboard.lights ≡ lights_of (latch_now d w)) (noise : AreFlips events) where
  abbrev u : World Beside
  u = under to w

  -- the next start is tied to the model
  abbrev pub Goal : World Beside → Type 0
  Goal e = Ties bytes (silent_keys layout) e (by_columns (keyboard layout) edges events w.cycle e.cycle m)

  abbrev pub lines : Frame → ℕ → Lines
  lines frame = lines_by frame (latch_now d w) w.cycle released

  -- what the law of a tick's wires has to say, whatever the tick's length
  abbrev pub Wires : (ℕ → Lines) → Meeting → Type 0
  Wires lines met = (rest more k : ℕ) → k ≡ 353 + rest → rest ≡ 15 + more
      → Ticked events lines w.cycle rest (at_look edges events u) (m.keys.keyboard.test == 0) (offer m.keys.keyboard) met k

  -- what noise is to turn round at the look
  pub flip_at_look : IsFlip (at_look edges events u).side.port.flip
  flip_at_look =
      flips_stay events (λ o. latch_of (latch_now d w)) 24 (232 + w.cycle)
      (record (at_lights events u) {
        side = says_lights (232 + w.cycle) u.board.shown (lights_of (latch_now d w)) (at_lights events u).side;
      })
      noise (flips_stay events (λ o. latch_of w.cpu.p2) 232 w.cycle u.board.pc noise tie.flip)

  -- the meeting is the law's
  meets : (met : Meeting) (frame : Frame) → Wires (lines frame) met
      → meeting_from (keyboard layout) events w.cycle m ≡ met
  meets met frame wires =
      met_is edges events u tie.released released tie.idle LayeredKeyboard (keyboard layout) m tie.side tie.shown lamps
      (lines frame) 15 368 met (wires 15 0 368 refl refl)

  ends : (meeting : KeyboardMeeting) (met : Meeting) (frame : Frame) → met_as met ≡ meeting → Wires (lines frame) met
      → (e : World d.State) → Ran d bytes meeting frame w e → Goal (under to e)
  ends meeting met frame kind wires e h =
      let es : List (ℕ × Bool) = takes layout m (columns_in edges w.cycle) in
      let later : w.cycle + 2016 ≤ e.cycle = h.later in
      let rest : ℕ = e.cycle - w.cycle - 609 in
      let k : ℕ = 353 + rest in
      let end : e.cycle ≡ 256 + w.cycle + k = omega (arith, later) in
      let long : rest ≡ 15 + (rest - 15) = omega (arith, later) in
      let law = wires rest (rest - 15) k refl long in
      let is : meeting_from (keyboard layout) events w.cycle m ≡ met = meets met frame wires in
      let there = on_wires edges events d to over w tie.lit released frame bytes meeting e h in
      let low : low_edges es = subst (λ v. low_edges v) columns (edges_low (changed_now bytes d w) (column_read d w)) in
      let as_met : met_as (meeting_from (keyboard layout) events w.cycle m) ≡ meeting = ap met_as is ∙ kind in
      let l : Layers = m.keys.layers in
      let k0 : Keyboard = m.keys.keyboard in
      let img : Keys = image_keys bytes in
      let b : Keys = silent_keys layout in
      let wide : IsWide l = subst IsWide tie.layers refl in
      let whole : length k0.held ≡ 96 = subst (λ (k : Keyboard). length k.held ≡ 96) tie.keyboard refl in
      let follows : (layers_by w.cpu.ram).fn_down ≡ is_fn_held bytes (shown_by w.cpu.ram) =
      ap (λ (v : Layers). v.fn_down) tie.layers ∙ tie.fn ∙ ap (is_fn_held bytes) (sym tie.keyboard) in
      let unhealed : layers_met bytes meeting w.cpu.ram ≡ layers_by w.cpu.ram =
      healed_same bytes meeting (shown_by w.cpu.ram) (layers_by w.cpu.ram) follows in
      let keys : shown_by e.cpu.ram ≡ ticked b meeting (layered b.is_fn es l) k0 =
      h.keyboard
      ∙ ap (λ v. ticked img meeting (layered img.is_fn (edges_now bytes d w) v) (shown_by w.cpu.ram)) unhealed
      ∙ ap (λ v. ticked img meeting (layered img.is_fn (edges_now bytes d w) (layers_by w.cpu.ram)) v) tie.keyboard
      ∙ ap (λ v. ticked img meeting (layered img.is_fn (edges_now bytes d w) v) k0) tie.layers
      ∙ ap (λ v. ticked img meeting (layered img.is_fn v l) k0) columns
      ∙ layout_ticks img b same codes meeting es l k0 low tie.sound in
      let layers : layers_by e.cpu.ram ≡ all_layers_after b.is_fn es l =
      h.layers
      ∙ ap (λ v. all_layers_after img.is_fn (edges_now bytes d w) v) (unhealed ∙ tie.layers)
      ∙ ap (λ v. all_layers_after img.is_fn v l) columns
      ∙ layers_alike img b same es l low in
      let own_tick : ticked b meeting (layered b.is_fn es l) k0
      ≡ ticked (keys_of layout) (met_as (meeting_from (keyboard layout) events w.cycle m)) (layered (is_fn_place layout) es l) k0 =
      own_ticks layout es of_layout meeting l k0
      ∙ ap (λ v. ticked (keys_of layout) v (layered (is_fn_place layout) es l) k0) (sym as_met) in
      let own_after = own_layers layout es of_layout l in
      let place : ℕ = slice_index bytes fn_place_at in
      let pc = there.pc k end in
      record {
        started = h.started;
        keyboard = keys ∙ own_tick;
        layers = layers ∙ own_after;
        read = h.read ∙ reads;
        settled =
            ticked_holds (keys_of layout) (met_as (meeting_from (keyboard layout) events w.cycle m)) (is_fn_place layout)
            es l k0
            ∙ same_turned es k0.held ∙ ap (λ h. turned_all es h) tie.settled;
        fn =
            fn_follows (is_fn_place layout) place fn_is es l k0.held whole low tie.fn
            ∙ ap (λ v. slice_index_or v place false)
            (sym (ticked_holds (keys_of layout) (met_as (meeting_from (keyboard layout) events w.cycle m)) (is_fn_place layout)
            es l k0));
        repeating = h.repeating;
        sound =
            subst (λ v. Sound b v
            (ticked (keys_of layout) (met_as (meeting_from (keyboard layout) events w.cycle m)) (layered (is_fn_place layout) es l) k0))
            own_after
            (subst (λ v. Sound b (all_layers_after b.is_fn es l) v) own_tick (tick_sound b codes meeting es l k0 low wide tie.sound));
        side = ap (λ (b : Rattle.ctl_wire.specs.Wires.Pc). seen_in_bytes b.side) pc
            ∙ side_is edges events u tie.released released tie.idle LayeredKeyboard (keyboard layout) m tie.side tie.shown
            lamps (lines frame) rest k met law;
        idle =
            ap (λ (b : Rattle.ctl_wire.specs.Wires.Pc). Rattle.ctl_link.specs.Link.is_busy b.side.port.link) pc
            ∙ law.idle_again;
        flip = subst (λ (b : Rattle.ctl_wire.specs.Wires.Pc). IsFlip b.side.port.flip) (sym pc)
            (flips_stay events (lines frame) k (256 + w.cycle) (at_look edges events u) noise flip_at_look);
        shown = there.shown ∙ sym lamps;
        lit = ap lights_of h.latch ∙ sym there.shown;
        released = subst (λ v. IsReleased v) (sym h.latch) released;
      }

  -- a byte that is received was requested at the look at the clock
  abbrev pub Asks : Meeting → Type 0
  Asks met = (byte : ℕ) → met ≡ Got byte → (at_look edges events u).side.port.link ≡ Request byte

  -- the run comes there by the service's end, and the board has gone on by the tick's latch; and how long the tick was
  abbrev pub Went : Frame → World d.State → Type 0
  Went frame e =
      Goal (under to e) × GoesBy d frame w e
      × IsFrameOf (offer m.keys.keyboard) (meeting_from (keyboard layout) events w.cycle m) frame × Passes d bytes w
      × Asks (meeting_from (keyboard layout) events w.cycle m) × Lasted d bytes w e

  by_frame : (meeting : KeyboardMeeting) (frame : Frame) (e : World d.State) → Ran d bytes meeting frame w e
      → GoesBy d frame w e
  by_frame meeting frame e h =
      let later : w.cycle + 2016 ≤ e.cycle = h.later in
      let n : ℕ = e.cycle - w.cycle in
      let cycles : e.cycle ≡ w.cycle + n = omega (arith, later) in
      record { latch = h.latch; length = n; cycles = cycles; board = h.board n cycles }

  -- a tick whose frame and meeting fit the PC's side leads to a start that is tied to the model a tick later
  pub goes : (meeting : KeyboardMeeting) (met : Meeting) (frame : Frame) → IsFrameOf (offer m.keys.keyboard) met frame
      → met_as met ≡ meeting → Asks met
      → Wires (lines frame) met
      → Tick d TICK bytes w (Ran d bytes meeting frame w)
      → Tick d TICK bytes w (Went frame)
  goes meeting met frame fits kind asks wires t = record {
    at = t.at;
    first = t.first;
    step = t.step;
    rest = comes_as d TICK bytes (Ran d bytes meeting frame w) (Went frame) t.first
        (λ e h. (
          ends meeting met frame kind wires e h,
          by_frame meeting frame e h,
          subst (λ v. IsFrameOf (offer m.keys.keyboard) v frame) (sym (meets met frame wires)) fits,
          h.passes,
          λ byte is. asks byte (sym (meets met frame wires) ∙ is),
          lasted d bytes meeting frame w e h,
        ))
        t.rest;
  }
