-- From one tick start to the next on any board: data memory shows the model's keyboard, a tick later.
use Rattle.std.proofs.Common.{◌≡◌, ◌≤◌, ◌<◌, ℕ, ◌+◌, ◌-◌, ◌*◌, ◌/◌, ◌%◌, ◌==◌, ◌&&◌, not, Bool, true, false, List, All, length}
use Rattle.std.proofs.Common.{slice_index, slice_index_or, refl, ap, sym, ◌∙◌, subst, arith}
use Rattle.bits.proofs.Every.{by_below}
use Rattle.fw_compile.specs.Image.{image_of}
use Rattle.fw_kernel.specs.Tables.{fn_place_at}
use Rattle.fw_kernel.specs.declared.cells.TheConstants.{LIGHTS}
use Rattle.fw_kernel.specs.declared.labels.TheConstants.{TICK}
use Rattle.law_fw_keys.proofs.Begun.{IsAnyStart}
use Rattle.law_fw_keys.proofs.Carried.{low_edges, edges_low, layers_alike}
use Rattle.law_fw_keys.proofs.Edges.{IsWide}
use Rattle.law_fw_keys.proofs.Healing.{healed_same}
use Rattle.law_fw_keys.proofs.Kept.{Sound, tick_sound}
use Rattle.law_fw_keys.specs.Edges.{image_keys}
use Rattle.law_fw_keys.specs.Frameless.{IsRepeating, changed_now, edges_now, latch_now}
use Rattle.law_fw_keys.specs.Frameless.{layers_by, layers_met, read_by, shown_by}
use Rattle.law_fw_keys.specs.Healing.{is_fn_held}
use Rattle.law_fw_link.proofs.Watching.{bare, drives_tick, driven_good, watched, watching}
use Rattle.law_fw_link.proofs.Wired.{IsReleased, lights_leave}
use Rattle.law_fw_link.specs.Drives.{DrivesTick}
use Rattle.law_fw_link.specs.Latch.{Frame, tick_latch}
use Rattle.law_fw_logic.proofs.Entered.{IsServed}
use Rattle.law_fw_logic.specs.Ticks.{column_read}
use Rattle.joint_run.specs.Joint.{lights_of}
use Rattle.joint_run.specs.Run.{Board, World, seen}
use Rattle.joint_run.specs.Starts.{Tick, at_tick}
use Rattle.model_keyboard.proofs.Alike.{layered_same, layers_same, ticked_same}
use Rattle.model_keyboard.proofs.CodesAreWhole.{IsWhole}
use Rattle.model_keyboard.specs.Codes.{Keys, keys_of}
use Rattle.model_keyboard.specs.Keyboard.{Keyboard, offer}
use Rattle.model_keyboard.specs.Layers.{Layers, all_layers_after, layered}
use Rattle.model_keyboard.specs.Tick.{ticked}
use Rattle.model_keyboard.specs.declared.meeting.Meeting.{Meeting}
use Rattle.layout_reader.specs.Layouts.{IsKeyLayout, KeyLayout, is_fn_place}
use Rattle.model_link.proofs.Known.{layered_known}
use Rattle.model_link.specs.Debounce.{AreKnown, taken, turned_all}
use Rattle.model_link.specs.Machine.{LayeredKeyboard}
use Rattle.mcs48_core.specs.Cpu.{Cpu}
use Rattle.mcs48_core.specs.Step.{takes_external, takes_timer}
use Rattle.law_agreement.proofs.Compiled.{are_bytes, has_kernel, is_alike, is_silent, no_prefix, same_keys, silent_keys}
use Rattle.law_agreement.proofs.FnFollows.{fn_follows, image_fn}
use Rattle.law_agreement.proofs.Going.{layout_ticks}
use Rattle.law_agreement.proofs.Holding.{ticked_holds, same_turned}
use Rattle.law_agreement.proofs.Offering.{offers_byte}
use Rattle.law_agreement.proofs.Placed.{IsOfLayout}
use Rattle.law_agreement.proofs.AnyTick.{every}
use Rattle.law_agreement.proofs.Ran.{Ran}
use Rattle.law_fw_logic.proofs.Sweep.{selects_from}
use Rattle.law_agreement.specs.Firmware.{Finds, HasNoPrefix}
use Rattle.law_any_host.proofs.Above.{finds_same}
use Rattle.law_any_host.proofs.OwnKeys.{edges_by, edges_placed, next_known, next_read, seen as seen_edges}
use Rattle.law_any_host.specs.AnyPins.{ShowsOwnKeys, TicksBy, keyboard_tick}

-- at places of the layout the kernel's Fn key is the layout's: the layers and the tick are those of the layout
module _ (layout : KeyLayout) (es : List (ℕ × Bool)) (of_layout : All (IsOfLayout layout) es) where
  own_layers : (l : Layers) → all_layers_after (is_silent layout) es l ≡ all_layers_after (is_fn_place layout) es l
  own_layers l = layers_same (is_silent layout) (is_fn_place layout) es l of_layout

  own_ticks : (meeting : Meeting) (l : Layers) (k : Keyboard)
      → ticked (silent_keys layout) meeting (layered (is_silent layout) es l) k
      ≡ ticked (keys_of layout) meeting (layered (is_fn_place layout) es l) k
  own_ticks meeting l k =
      ap (λ v. ticked (silent_keys layout) meeting v k) (layered_same (is_silent layout) (is_fn_place layout) es l of_layout)
      ∙ ticked_same (silent_keys layout) (is_fn_place layout) meeting (layered (is_fn_place layout) es l) k
      (layered_known (λ p. is_silent layout p ≡ is_fn_place layout p) (is_fn_place layout) es l of_layout)

-- a start is a tick start
pub starts_tick : (d : Board) (v : World d.State) → IsServed v.cpu → at_tick d TICK v ≡ true
starts_tick d v s =
    ap (λ p. (p % 2048 == TICK) && not (takes_external (seen d v) v.cpu) && not (takes_timer v.cpu)) s.pc
    ∙ ap (λ b. not (not b && v.cpu.ext_on && not (seen d v).int_pin) && not (not b && v.cpu.tim_on && v.cpu.rq))
    s.serves

-- a latch that shows the lights of data memory
module _ (m : Cpu) (s : IsAnyStart m) where
  abbrev lamps : ℕ
  lamps = slice_index m.ram LIGHTS

  -- the latch that shows the lights pulls neither wire
  pub lit_let_go : IsReleased (255 - lamps)
  lit_let_go =
      let alone : lamps ≡ 16 * (lamps / 16 % 8) = s.inv.lamps in
      lights_leave lamps (omega (arith, alone)) (omega (arith, alone))

  -- the latch shows the lights of the keyboard that memory shows
  pub lit_shows : (shown_by m.ram).lights ≡ lights_of (255 - lamps)
  lit_shows =
      let alone : lamps ≡ 16 * (lamps / 16 % 8) = s.inv.lamps in
      let three : lamps / 16 ≡ lamps / 16 % 8 = omega (arith, alone) in
      three ∙ sym (by_below 8 (λ n. lights_of (255 - 16 * n)) (λ n. n) refl (lamps / 16 % 8) (omega arith))
      ∙ sym (ap (λ c. lights_of (255 - c)) alone)

module _ (layout : KeyLayout) (fine : IsKeyLayout layout) (d : Board)
    (low : (p1 p2 c : ℕ) (s : d.State) → (d.pins p1 p2 c s).bus < 256) where
  abbrev bytes : List ℕ
  bytes = image_of layout

  abbrev img : Keys
  img = image_keys bytes

  abbrev own : Keys
  own = silent_keys layout

  prefix : HasNoPrefix bytes
  prefix on_fn p l = ap (λ c. c == 240) ((same_keys layout).code on_fn p l) ∙ no_prefix layout fine on_fn p l

  -- what each tick start keeps
  pub record Keeps (w : World d.State) (k : LayeredKeyboard) : Type 0 where
    pub started : IsAnyStart w.cpu
    pub keyboard : shown_by w.cpu.ram ≡ k.keyboard
    pub layers : layers_by w.cpu.ram ≡ k.layers
    pub fn : k.layers.fn_down ≡ is_fn_held bytes k.keyboard
    pub repeating : IsRepeating bytes w.cpu.ram
    pub sound : Sound own k.layers k.keyboard
    pub released : IsReleased w.cpu.p2
    pub read : read_by bytes w.cpu.ram ≡ k.switches.read
    pub settled : k.keyboard.held ≡ k.switches.settled
    pub placed : AreKnown layout k.switches

  module _ (w : World d.State) (k : LayeredKeyboard) (g : Keeps w k) (shows : ShowsOwnKeys layout d w) (frame : Frame)
      (meeting : Meeting) (finds : Finds d w frame meeting) where
    -- the edges that its columns show, and those that it takes
    abbrev pub es0 : List (ℕ × Bool)
    es0 = seen_edges layout fine d w k g.keyboard g.read g.settled

    abbrev es : List (ℕ × Bool)
    es = taken layout.debounce es0 k.switches

    columns : edges_now bytes d w ≡ es
    columns = edges_by layout fine d w k g.keyboard g.read g.settled

    whole : IsWhole (shown_by w.cpu.ram).queue
    whole = subst (λ (k : Keyboard). IsWhole k.queue) (sym g.keyboard) g.sound.codes

    of_layout : All (IsOfLayout layout) es
    of_layout = edges_placed layout fine d w k g.keyboard g.read g.settled shows g.placed

    -- each tick goes as its frame and its meeting say, on any board
    pub tick : Tick d TICK bytes w (Ran d bytes meeting frame w)
    tick =
        every d bytes (has_kernel layout) (is_alike layout fine) (are_bytes layout fine) low w g.started g.repeating frame meeting
        whole finds

    -- the next start
    pub kept : (v : World d.State) → Ran d bytes meeting frame w v → Keeps v (keyboard_tick layout meeting es0 k)
    kept v h =
        let lows : low_edges es = subst (λ v. low_edges v) columns (edges_low (changed_now bytes d w) (column_read d w)) in
        let l : Layers = k.layers in
        let k0 : Keyboard = k.keyboard in
        let wide : IsWide l = subst IsWide g.layers refl in
        let long : length k0.held ≡ 96 = subst (λ (k : Keyboard). length k.held ≡ 96) g.keyboard refl in
        let follows : (layers_by w.cpu.ram).fn_down ≡ is_fn_held bytes (shown_by w.cpu.ram) =
        ap (λ (v : Layers). v.fn_down) g.layers ∙ g.fn ∙ ap (is_fn_held bytes) (sym g.keyboard) in
        let unhealed : layers_met bytes meeting w.cpu.ram ≡ l =
        healed_same bytes meeting (shown_by w.cpu.ram) (layers_by w.cpu.ram) follows ∙ g.layers in
        let keys : shown_by v.cpu.ram ≡ ticked own meeting (layered own.is_fn es l) k0 =
        h.keyboard
        ∙ ap (λ e. ticked img meeting (layered img.is_fn e (layers_met bytes meeting w.cpu.ram)) (shown_by w.cpu.ram)) columns
        ∙ ap (λ x. ticked img meeting (layered img.is_fn es x) (shown_by w.cpu.ram)) unhealed
        ∙ ap (λ x. ticked img meeting (layered img.is_fn es l) x) g.keyboard
        ∙ layout_ticks img own (same_keys layout) (no_prefix layout fine) meeting es l k0 lows g.sound in
        let layers : layers_by v.cpu.ram ≡ all_layers_after own.is_fn es l =
        h.layers
        ∙ ap (λ e. all_layers_after img.is_fn e (layers_met bytes meeting w.cpu.ram)) columns
        ∙ ap (λ x. all_layers_after img.is_fn es x) unhealed
        ∙ layers_alike img own (same_keys layout) es l lows in
        let own_tick : ticked own meeting (layered own.is_fn es l) k0
        ≡ ticked (keys_of layout) meeting (layered (is_fn_place layout) es l) k0 = own_ticks layout es of_layout meeting l k0 in
        let own_after = own_layers layout es of_layout l in
        let place : ℕ = slice_index bytes fn_place_at in
        record {
          started = h.started;
          keyboard = keys ∙ own_tick;
          layers = layers ∙ own_after;
          fn =
              fn_follows (is_fn_place layout) place (image_fn layout) es l k0.held long lows g.fn
              ∙ ap (λ v. slice_index_or v place false)
              (sym (ticked_holds (keys_of layout) meeting (is_fn_place layout) es l k0));
          repeating = h.repeating;
          sound =
              subst (λ x. Sound own x (ticked (keys_of layout) meeting (layered (is_fn_place layout) es l) k0)) own_after
              (subst (λ x. Sound own (all_layers_after own.is_fn es l) x) own_tick
              (tick_sound own (no_prefix layout fine) meeting es l k0 lows wide g.sound));
          released = subst (λ x. IsReleased x) (sym h.latch) (lit_let_go w.cpu g.started);
          read = h.read ∙ next_read layout fine d w k g.keyboard g.read g.settled;
          settled =
              ticked_holds (keys_of layout) meeting (is_fn_place layout) es l k0 ∙ same_turned es k0.held
              ∙ ap (λ h. turned_all es h) g.settled;
          placed = next_known layout fine d w k g.keyboard g.read g.settled shows g.placed;
        }

    -- in each cycle the latch of port 2
    abbrev lit : ℕ
    lit = latch_now d w

    abbrev latch : ℕ → ℕ
    latch c = tick_latch w.cpu.p2 lit frame (c - w.cycle)

    abbrev W : Board
    W = watching d latch

    driven_so : DrivesTick d TICK bytes w latch (λ e. (at_tick d TICK e ≡ true) × (e.cpu.p2 ≡ lit))
    driven_so =
        drives_tick d latch TICK bytes w (Ran W bytes meeting frame (watched w))
        (λ e. (at_tick d TICK e ≡ true) × (e.cpu.p2 ≡ lit))
        (λ e h.
        let later : w.cycle + 2016 ≤ e.cycle = h.later in
        let n : ℕ = e.cycle - w.cycle in
        let cycles : e.cycle ≡ w.cycle + n = omega (arith, later) in (
          (starts_tick d (bare e) h.started.served, h.latch),
          ap (λ (s : W.State). s.good) (h.board n cycles)
              ∙ driven_good d latch w.cycle (tick_latch w.cpu.p2 lit frame) n 0 (watched w).board
              (λ o a u. let p : o ≡ w.cycle + o - w.cycle = omega arith in ap (tick_latch w.cpu.p2 lit frame) p) refl,
        ))
        (every W bytes (has_kernel layout) (is_alike layout fine) (are_bytes layout fine)
        (λ p1 p2 c s. low p1 p2 c s.under) (watched w) g.started g.repeating frame meeting whole
        (finds_same d latch w frame meeting finds))

    -- in each tick what is driven, taken and shown is the model's
    pub ticks_by : TicksBy layout d k frame meeting es0 w
    ticks_by =
        let r = lit_let_go w.cpu g.started in
        record {
          keyboard = g.keyboard;
          layers = g.layers;
          read = g.read;
          edges_shown = refl;
          takes = columns;
          finds = finds;
          before = (g.released.byte, g.released.clock, g.released.data_wire);
          afterwards = (r.byte, r.clock, r.data_wire);
          lit = sym (lit_shows w.cpu g.started) ∙ ap (λ (k : Keyboard). k.lights) g.keyboard;
          offered = λ byte is. offers_byte w.cpu g.started.fine byte (ap offer g.keyboard ∙ is);
          drives = driven_so;
          columns = selects_from d bytes (has_kernel layout) w g.started.served tick.rest.goal.passes;
        }
