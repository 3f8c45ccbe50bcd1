-- The run from any tick start at which data memory shows a keyboard, and the run from power-on under keys that bounce.
use Rattle.std.proofs.Common.{◌≡◌, ◌≤◌, ℕ, suc, ◌+◌, ◌-◌, ◌*◌, Bool, List, length, Some, None, false}
use Rattle.std.proofs.Common.{refl, ap, sym, ◌∙◌, subst, arith}
use Rattle.std.specs.declared.option.Option.{Option}
use Rattle.board_terms.specs.declared.event.Edge.{Edge}
use Rattle.board_terms.specs.declared.event.HostEvent.{HostEvent}
use Rattle.fw_compile.specs.Image.{image_of}
use Rattle.fw_kernel.specs.declared.labels.TheConstants.{TICK}
use Rattle.law_fw_keys.proofs.Begun.{any_start}
use Rattle.law_fw_keys.specs.Edges.{image_keys}
use Rattle.law_fw_keys.specs.Frameless.{IsPressed, IsStarted, shown_by, layers_by}
use Rattle.law_fw_keys.specs.Healing.{is_fn_held}
use Rattle.law_fw_logic.specs.Ticks.{IsOnTime}
use Rattle.joint_run.specs.Joint.{Beside, joint_board, log_of}
use Rattle.joint_run.specs.Run.{World, run_at}
use Rattle.joint_run.specs.Starts.{Comes, IsStart}
use Rattle.model_keyboard.proofs.CodesAreWhole.{IsWhole}
use Rattle.model_keyboard.specs.Keyboard.{Keyboard}
use Rattle.model_keyboard.specs.Layers.{Layers}
use Rattle.model_keyboard.specs.declared.state.Repeat.{Repeat}
use Rattle.key_file.specs.Histories.{KeyHistory}
use Rattle.layout_reader.specs.Layouts.{KeyLayout, IsKeyLayout}
use Rattle.model_link.proofs.Edges.{same_by_place}
use Rattle.mcs48_core.specs.Cpu.{Cpu}
use Rattle.mcs48_ranges.specs.Sizes.{IsFine}
use Rattle.model_controller.specs.declared.meeting.Meeting.{Meeting}
use Rattle.model_link.specs.Debounce.{Switches, is_down_at, taken, AreKnown}
use Rattle.model_link.specs.Expected.{Whole, whole_at}
use Rattle.model_link.specs.Machine.{LayeredKeyboard, KeyboardMachine, keyboard}
use Rattle.model_link.specs.TickEdges.{change_at, shown, shown_at}
use Rattle.law_agreement.specs.Agreement.{IsPrompt, switched_on}
use Rattle.law_agreement.specs.AnyCount.{AnyCountLaw, GoesByColumns, IsCalmFrom, changes_in}
use Rattle.law_agreement.specs.AnyKeys.{tick_with}
use Rattle.law_agreement.specs.AnyStart.{AreFor, AsShown, FromAnyStart, GoesOnAs, ShowsFew, ShowsKeyboard}
use Rattle.law_agreement.specs.AnyStart.{model_at, model_from, switches_by}
use Rattle.law_agreement.specs.Bytes.{IsInBytes}
use Rattle.law_agreement.specs.Memory.{Holds}
use Rattle.law_agreement.proofs.Compiled.{same_keys, silent_keys}
use Rattle.law_agreement.proofs.FromStart as chain
use Rattle.law_agreement.proofs.Holding.{HasPlaces, none_held, holds_now}
use Rattle.law_agreement.proofs.InTime.{on_time}
use Rattle.law_agreement.proofs.Model.{at_first, columns_in}
use Rattle.law_agreement.proofs.Taking.{HasFewWaiting, few_wait, takes_few}
use Rattle.law_agreement.proofs.Tied.{Tied, TiedInTime, columns, fits, tied_first, tied_next}

-- what repeats by the image's keys repeats by the layout's
repeats_alike : (layout : KeyLayout) (l : Layers) (r : Option Repeat) → IsPressed (image_keys (image_of layout)) l r
    → IsPressed (silent_keys layout) l r
repeats_alike layout l None h = tt
repeats_alike layout l (Some r) h = (h.0, sym ((same_keys layout).is_fn r.place h.0) ∙ h.1, h.2)

module _ (layout : KeyLayout) (edges : List Edge) (events : List HostEvent) (fine : IsKeyLayout layout)
    (ok : AreFor layout edges events) where
  abbrev history : KeyHistory
  history = record { edges = edges; host = events; end = 0 }

  abbrev kb : KeyboardMachine LayeredKeyboard
  kb = keyboard layout

  abbrev R : World Beside → Whole LayeredKeyboard → Type 0
  R = Tied layout history fine ok

  -- the edges that a tick takes
  abbrev took : LayeredKeyboard → List (ℕ × Bool) → List (ℕ × Bool)
  took k es = taken layout.debounce es k.switches

  -- few, if it shows few
  few_taken : (k : LayeredKeyboard) (now : ℕ → Bool) → HasFewWaiting layout k → length (shown (kb.held k) now) ≤ 4
      → length (took k (shown (kb.held k) now)) ≤ 4
  few_taken k now calm four = takes_few layout.debounce now k.switches four calm

  few_left : (meeting : Meeting) (k : LayeredKeyboard) (now : ℕ → Bool) → HasPlaces k → length (shown (kb.held k) now) ≤ 4
      → HasFewWaiting layout (kb.ticked meeting (shown (kb.held k) now) k)
  few_left meeting k now wide four = few_wait layout.debounce now k.switches wide four

  -- memory shows the model's switches
  switches_are : (w : World Beside) (m : Whole LayeredKeyboard) → R w m → switches_by layout w ≡ m.keys.switches
  switches_are w m t =
      ap (λ (h : List Bool). record { read = h; settled = (shown_by w.cpu.ram).held }) t.ties.read
      ∙ ap (λ (h : List Bool). record { read = m.keys.switches.read; settled = h })
      (ap (λ (k : Keyboard). k.held) t.ties.keyboard ∙ t.ties.settled)

  -- a start in time that is tied to a model shows its keyboard
  shows : (n : ℕ) (w : World Beside) (m : Whole LayeredKeyboard) → IsOnTime n w → IsStarted w.cpu
      → HasFewWaiting layout m.keys → R w m → ShowsKeyboard layout n w
  shows n w m time started calm t = record {
    started = started;
    time = time;
    repeating = t.ties.repeating;
    fn = ap (λ (l : Layers). l.fn_down) t.ties.layers ∙ t.ties.fn ∙ ap (is_fn_held (image_of layout)) (sym t.ties.keyboard);
    codes = subst (λ (k : Keyboard). IsWhole k.queue) (sym t.ties.keyboard) t.ties.sound.codes;
    placed = subst (AreKnown layout) (sym (switches_are w m t)) t.placed;
    waits = λ on.
        subst (λ (s : Switches). length (shown (is_down_at s.settled) (is_down_at s.read)) ≤ 4) (sym (switches_are w m t))
        (calm on);
    idle = t.ties.idle;
    flip = t.ties.flip;
    in_bytes = subst (λ s. IsInBytes s) (sym t.ties.side) t.in_bytes;
    lit = t.ties.lit;
    released = (t.ties.released.byte, t.ties.released.clock, t.ties.released.data_wire);
    column = t.column;
  }

  -- and a state that shows a keyboard is tied to what it shows
  tied_at : (n : ℕ) (w : World Beside) → ShowsKeyboard layout n w → R w (model_at layout w)
  tied_at n w s = record {
    ties = record {
      started = any_start w.cpu s.started;
      keyboard = refl;
      layers = refl;
      read = refl;
      settled = refl;
      fn = s.fn;
      repeating = s.repeating;
      sound = record {
        codes = s.codes;
        place = repeats_alike layout (layers_by w.cpu.ram) (shown_by w.cpu.ram).repeats s.repeating;
      };
      side = refl;
      idle = s.idle;
      flip = s.flip;
      shown = refl;
      lit = s.lit;
      released = record { byte = s.released.0; clock = s.released.1; data_wire = s.released.2 };
    };
    in_bytes = s.in_bytes;
    placed = s.placed;
    column = s.column;
  }

  module _ (from begin : World Beside) (model : Whole LayeredKeyboard)
      (run : Comes (joint_board edges events) TICK (image_of layout) from (λ e. e ≡ begin)) (past : 4096 ≤ begin.cycle)
      (ties : R begin model) where
    abbrev starts : ℕ → ℕ
    starts =
        chain.starts LayeredKeyboard (image_of layout) edges events kb R (tied_next layout history fine ok) from begin model
        run past ties

    first_is : starts 0 ≡ begin.cycle - 4096
    first_is =
        ap (λ (w : World Beside). w.cycle - 4096)
        (chain.begins_there LayeredKeyboard (image_of layout) edges events kb R (tied_next layout history fine ok) from begin
        model run past ties)

    never_stuck : (k : ℕ) → (w : World Beside) × (run_at (joint_board edges events) (image_of layout) from k ≡ Some w)
    never_stuck =
        chain.never_stuck LayeredKeyboard (image_of layout) edges events kb R (tied_next layout history fine ok) from begin
        model run past ties

    each : (k : ℕ) → IsStart (joint_board edges events) TICK (image_of layout) from k (starts k)
    each =
        chain.each LayeredKeyboard (image_of layout) edges events kb R (tied_next layout history fine ok) from begin model run
        past ties

    law : (P : World Beside → Whole LayeredKeyboard → Type 0)
        → ((w : World Beside) (m : Whole LayeredKeyboard) → R w m → P w m) → (k stamp : ℕ)
        (s : IsStart (joint_board edges events) TICK (image_of layout) from k stamp)
        → P s.state (model_from kb edges events starts model k)
    law =
        chain.at_starts LayeredKeyboard (image_of layout) edges events kb R (tied_next layout history fine ok) from begin
        model run past ties

    holds : (k stamp : ℕ) (s : IsStart (joint_board edges events) TICK (image_of layout) from k stamp)
        → Holds s.state (model_from kb edges events starts model k).keys
    holds = law (λ w m. Holds w m.keys) (λ w m t. (t.ties.keyboard, t.ties.layers))

    says : (k stamp : ℕ) (s : IsStart (joint_board edges events) TICK (image_of layout) from k stamp)
        → log_of s.state.board ≡ (model_from kb edges events starts model k).side.log
    says = law (λ w m. log_of w.board ≡ m.side.log) (λ w m t. ap (λ (s : _). s.log) t.ties.side)

    -- whatever the keys do
    goes_by : (at : ℕ → Whole LayeredKeyboard) → model ≡ at (starts 0) → GoesByColumns layout edges events from at
    goes_by at is =
        record {
          goes_on = never_stuck;
          starts = starts;
          each = each;
          apart =
              chain.apart LayeredKeyboard (image_of layout) edges events kb R (tied_next layout history fine ok) from begin
              model run past ties took (columns layout history fine ok);
          soon = λ k.
              subst (λ m. starts (suc k) ≤ starts k + tick_with (image_of layout) (length (changes_in layout edges events starts m k))) is
              (chain.soon LayeredKeyboard (image_of layout) edges events kb R (tied_next layout history fine ok) from begin
              model run past ties took (columns layout history fine ok) k);
          steady = λ k calm.
              chain.steady LayeredKeyboard (image_of layout) edges events kb R (tied_next layout history fine ok) from begin
              model run past ties took (columns layout history fine ok) k
              (subst (λ m. IsCalmFrom layout edges events starts m k) (sym is) calm);
          holds = λ k stamp s.
              subst (λ m. Holds s.state (model_from kb edges events starts m k).keys) is (holds k stamp s);
          log = λ k stamp s.
              subst (λ m. log_of s.state.board ≡ (model_from kb edges events starts m k).side.log) is (says k stamp s);
        }

    -- if few keys change, in time
    module _ (n : ℕ) (time : IsOnTime n begin) (started : IsStarted begin.cpu) (calm : HasFewWaiting layout model.keys)
        (few : length (shown (kb.held model.keys) (columns_in edges begin.cycle)) ≤ 4)
        (later : (k : ℕ) → ShowsFew edges (suc (n + k))) where
      goes_as : (at : ℕ → Whole LayeredKeyboard) → model ≡ at (starts 0) → GoesOnAs layout edges events from n at
      goes_as at is = record {
        goes_on = never_stuck;
        starts = starts;
        each = each;
        prompt =
            chain.prompt LayeredKeyboard (image_of layout) edges events kb R (tied_next layout history fine ok) from begin
            model run past ties took (columns layout history fine ok) (λ k. HasPlaces k) (fits layout history fine ok)
            (holds_now layout) (λ k. HasFewWaiting layout k) few_taken few_left n time started calm few
            later;
        shows =
            chain.in_time LayeredKeyboard (image_of layout) edges events kb R (tied_next layout history fine ok) from begin
            model run past ties took (columns layout history fine ok) (λ k. HasPlaces k) (fits layout history fine ok)
            (holds_now layout) (λ k. HasFewWaiting layout k) few_taken few_left n time started calm few
            later (λ k w m. ShowsKeyboard layout (n + k) w)
            (λ k w m on s c t. shows (n + k) w m on s c t);
        holds = λ k stamp s.
            subst (λ m. Holds s.state (model_from kb edges events starts m k).keys) is (holds k stamp s);
        log = λ k stamp s.
            subst (λ m. log_of s.state.board ≡ (model_from kb edges events starts m k).side.log) is (says k stamp s);
      }

-- from any tick start at which data memory shows a keyboard the run goes on as the model, if each tick shows few
-- changes
pub from_any_start : FromAnyStart
from_any_start layout edges events n w fine ok s few later =
    let early : 2 ≤ w.cpu.pre = s.started.entered.early in
    let time : w.cycle + 2 ≡ 4096 + 2048 * n + w.cpu.pre = s.time in
    goes_as layout edges events fine ok w w (model_at layout w) (record { steps = 0; end = w; run = refl; goal = refl })
    (omega (arith, early, time)) (tied_at layout edges events fine ok n w s) n s.time s.started s.waits few later
    (λ stamp. model_at layout w) refl

-- the run from power-on
module _ (layout : KeyLayout) (edges : List Edge) (events : List HostEvent) (fine : IsKeyLayout layout)
    (ok : AreFor layout edges events) (m : Cpu) (small : IsFine m) where
  abbrev c : Comes (joint_board edges events) TICK (image_of layout) (switched_on edges events m)
      (λ e. IsOnTime 0 e × TiedInTime layout (record { edges = edges; host = events; end = 0 }) fine ok e
      (at_first (keyboard layout) events e.cycle))
  c = tied_first layout (record { edges = edges; host = events; end = 0 }) fine ok m small

  abbrev begin : World Beside
  begin = c.end

  run : Comes (joint_board edges events) TICK (image_of layout) (switched_on edges events m) (λ e. e ≡ begin)
  run = record { steps = c.steps; end = c.end; run = c.run; goal = refl }

  past : 4096 ≤ begin.cycle
  past =
      let early : 2 ≤ begin.cpu.pre = c.goal.1.started.entered.early in
      let time : begin.cycle + 2 ≡ 4096 + 2048 * 0 + begin.cpu.pre = c.goal.0 in
      omega (arith, early, time)

  abbrev at : ℕ → Whole LayeredKeyboard
  at stamp = whole_at (keyboard layout) edges events (λ n. stamp) 0

  abbrev model : Whole LayeredKeyboard
  model = at_first (keyboard layout) events begin.cycle

  model_is : model ≡ at (starts layout edges events fine ok (switched_on edges events m) begin model run past c.goal.1.tied 0)
  model_is =
      ap at (sym (first_is layout edges events fine ok (switched_on edges events m) begin model run past c.goal.1.tied))

  from_power_on : GoesByColumns layout edges events (switched_on edges events m) at
  from_power_on =
      goes_by layout edges events fine ok (switched_on edges events m) begin model run past c.goal.1.tied at model_is

  in_time : ((n : ℕ) → ShowsFew edges n) → GoesOnAs layout edges events (switched_on edges events m) 0 at
  in_time few =
      let kb : KeyboardMachine LayeredKeyboard = keyboard layout in
      let t = on_time 0 begin c.goal.0 c.goal.1.started.entered.early c.goal.1.started.entered.late in
      let cycle : begin.cycle ≡ 4096 + 2048 * 0 + (begin.cpu.pre - 2) = t.cycle in
      let most : begin.cpu.pre - 2 ≤ 1 = t.most in
      let prompt : IsPrompt 0 (begin.cycle - 4096) = record { least = omega arith; most = omega (arith, cycle, most) } in
      let now : ℕ → Bool = columns_in edges begin.cycle in
      let up : shown (kb.held kb.start) now ≡ shown (λ p. false) now =
      same_by_place (shown_at (kb.held kb.start) now) (shown_at (λ p. false) now)
      (λ p l. ap (λ b. change_at p b (now p)) (none_held layout p)) 96 (omega arith) in
      let first : length (shown (kb.held kb.start) now) ≤ 4 =
      subst (λ v. length v ≤ 4) (sym up) (few 0 (begin.cycle - 4096) prompt) in
      goes_as layout edges events fine ok (switched_on edges events m) begin model run past c.goal.1.tied 0 c.goal.0
      c.goal.1.started c.goal.1.waits first
      (λ k. let same : k ≡ 0 + k = omega arith in subst (λ j. ShowsFew edges (suc j)) same (few (suc k))) at model_is

-- from power-on the run goes on as the model, whether or not keys bounce, if each tick shows few changes
pub as_shown : AsShown
as_shown layout edges events fine ok few m small = in_time layout edges events fine ok m small few

-- the run goes on as the model whatever the layout's keys do, any number at once, by what its columns show
pub any_count : AnyCountLaw
any_count layout edges events fine ok m small = from_power_on layout edges events fine ok m small
