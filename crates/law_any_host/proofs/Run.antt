-- The run from power-on at any host: from tick to tick.
use Rattle.std.proofs.Common.{◌≡◌, ◌≤◌, ◌<◌, ℕ, zero, suc, ◌+◌, ◌-◌, ◌*◌, Bool, true, List, length}
use Rattle.std.proofs.Common.{slice_index, refl, ap, sym, ◌∙◌, subst, arith}
use Rattle.fw_compile.specs.Image.{image_of}
use Rattle.fw_kernel.specs.Tables.{fn_place_at}
use Rattle.fw_kernel.specs.declared.labels.TheConstants.{TICK}
use Rattle.law_fw_keys.proofs.Begun.{any_start}
use Rattle.law_fw_keys.proofs.PowerOn.{first_started}
use Rattle.law_fw_keys.specs.Edges.{image_keys}
use Rattle.law_fw_keys.specs.Frameless.{FromPowerOn, IsPressed, IsStarted, edges_now, layers_by}
use Rattle.law_fw_link.proofs.Watching.{bare, drives_by, ticks_stay_good, watching}
use Rattle.law_fw_link.specs.Drives.{Drives}
use Rattle.law_fw_link.specs.Latch.{Frame}
use Rattle.law_fw_logic.proofs.Laws.{comes_as}
use Rattle.fw_ticks.proofs.Numbers.{Reached, goes_on, nth_reached, same_start}
use Rattle.law_fw_logic.proofs.Starting.{IsFirst}
use Rattle.law_fw_logic.specs.Boards.{numbered, power_on}
use Rattle.law_fw_logic.specs.Ticks.{IsOnTime}
use Rattle.joint_run.specs.Run.{Board, World}
use Rattle.joint_run.specs.Starts.{Comes, IsNth, IsStart, at_tick}
use Rattle.model_keyboard.specs.Keyboard.{Keyboard, at_power_on}
use Rattle.model_keyboard.specs.declared.meeting.Meeting.{Meeting}
use Rattle.layout_reader.specs.Layouts.{IsKeyLayout, KeyLayout}
use Rattle.model_link.proofs.Taken.{open_known}
use Rattle.model_link.specs.Debounce.{is_down_at, taken}
use Rattle.model_link.specs.Machine.{LayeredKeyboard, keyboard}
use Rattle.model_link.specs.TickEdges.{shown}
use Rattle.mcs48_core.specs.Cpu.{Cpu}
use Rattle.mcs48_ranges.specs.Sizes.{IsFine}
use Rattle.law_agreement.proofs.Compiled.{are_bytes, has_kernel, has_rate}
use Rattle.law_agreement.proofs.Found.{Found, found}
use Rattle.law_agreement.proofs.Holding.{none_held}
use Rattle.law_agreement.proofs.Ran.{Ran}
use Rattle.law_agreement.specs.Agreement.{IsPrompt}
use Rattle.law_agreement.specs.AnyKeys.{tick_with}
use Rattle.law_any_host.proofs.Keeping.{Keeps, kept, starts_tick, tick, ticks_by}
use Rattle.law_any_host.proofs.OwnKeys.{edges_by}
use Rattle.law_any_host.specs.AnyPins.{AnyPinsLaw, ShowsOwnKeys, TicksBy, WorksAlone, is_shown, keyboard_after, keyboard_tick}
use Rattle.law_any_host.specs.AnyPins.{takes_at}

module _ (layout : KeyLayout) (fine : IsKeyLayout layout) (d : Board)
    (low : (p1 p2 c : ℕ) (s : d.State) → (d.pins p1 p2 c s).bus < 256) (m : Cpu) (small : IsFine m) (board : d.State) where
  abbrev bytes : List ℕ
  bytes = image_of layout

  abbrev from : World d.State
  from = power_on d m board

  abbrev kb0 : LayeredKeyboard
  kb0 = (keyboard layout).start

  abbrev K : World d.State → LayeredKeyboard → Type 0
  K = Keeps layout fine d low

  keeps_first : (w : World d.State) → IsFirst d bytes board w → FromPowerOn bytes w.cpu → IsStarted w.cpu × IsOnTime 0 w × K w kb0
  keeps_first w i f =
      let cycle : w.cycle ≡ 4096 + i.late = ap (λ (v : World d.State). v.cycle) i.is in
      let pre : w.cpu.pre ≡ i.late + 2 = ap (λ (v : World d.State). v.cpu.pre) i.is in (
        f.started,
        omega (arith, cycle, pre),
        record {
          started = any_start w.cpu f.started;
          keyboard = f.keyboard ∙ ap at_power_on (has_rate layout);
          layers = f.layers;
          fn = sym (none_held layout (slice_index bytes fn_place_at));
          repeating = subst (λ (k : Keyboard). IsPressed (image_keys bytes) (layers_by w.cpu.ram) k.repeats) (sym f.keyboard) tt;
          sound = record { codes = refl; place = tt };
          released =
              subst (λ v. Rattle.law_fw_link.proofs.Wired.IsReleased v) (sym f.latch)
              (record { byte = omega arith; clock = refl; data_wire = refl });
          read = f.read;
          settled = refl;
          placed = open_known layout;
        },
      )

  first_comes : Comes d TICK bytes from (λ w. IsStarted w.cpu × IsOnTime 0 w × K w kb0)
  first_comes =
      comes_as d TICK bytes (λ w. IsFirst d bytes board w × FromPowerOn bytes w.cpu) (λ w. IsStarted w.cpu × IsOnTime 0 w × K w kb0) from
      (λ w g. keeps_first w g.0 g.1)
      (first_started d bytes (has_kernel layout) (are_bytes layout fine) low m small board)

  -- up to the first start the latch of port 2 is as reset leaves it
  lets_go : Drives d TICK bytes from (λ c. 255) (λ e. at_tick d TICK e ≡ true)
  lets_go =
      let latch : ℕ → ℕ = λ c. 255 in
      let W : Board = watching d latch in
      let b : W.State = record { under = board; good = true } in
      drives_by d latch TICK bytes from (λ e. IsFirst W bytes b e × FromPowerOn bytes e.cpu) (λ e. at_tick d TICK e ≡ true)
      (λ e h. (
        starts_tick d (bare e) (any_start e.cpu h.1.started).served,
        ap (λ (v : World W.State). v.board.good) h.0.is
            ∙ ticks_stay_good d latch (4096 + h.0.late) 0 255 b (λ c a u. refl) refl,
      ))
      (first_started W bytes (has_kernel layout) (are_bytes layout fine) (λ p1 p2 c s. low p1 p2 c s.under) m small b)

  module _ (few : (n stamp : ℕ) (s : IsStart d TICK bytes from n stamp) → ShowsOwnKeys layout d s.state) where
    -- a start, and the model's keyboard there
    pub record Station (n : ℕ) : Type 0 where
      pub w : World d.State
      pub k : LayeredKeyboard
      pub nth : IsNth d TICK bytes from n w
      pub past : 4096 ≤ w.cycle
      pub keeps : K w k

    reached : (n : ℕ) (s : Station n) → Reached d TICK bytes from n s.w
    reached n s = nth_reached d TICK bytes from n s.w s.nth

    stamp : (n : ℕ) (s : Station n) → s.w.cycle ≡ 4096 + (s.w.cycle - 4096)
    stamp n s = let past : 4096 ≤ s.w.cycle = s.past in omega (arith, past)

    start : (n : ℕ) (s : Station n) → IsStart d TICK bytes from n (s.w.cycle - 4096)
    start n s =
        let r = reached n s in
        record {
          steps = r.steps;
          state = s.w;
          reached = r.run;
          at = starts_tick d s.w s.keeps.started.served;
          number = r.count;
          cycle = stamp n s;
        }

    shows : (n : ℕ) (s : Station n) → ShowsOwnKeys layout d s.w
    unfolding start
    shows n s = few n (s.w.cycle - 4096) (start n s)

    next : (n : ℕ) → Station n → Station (suc n)
    next n s =
        let f = found d s.w in
        let t = (tick layout fine d low s.w s.k s.keeps (shows n s) f.frame f.meeting f.finds) in
        let c = t.rest in
        let rest : Comes d TICK bytes t.first (λ e. e ≡ c.end) =
        record { steps = c.steps; end = c.end; run = c.run; goal = refl } in
        record {
          w = c.end;
          k = keyboard_tick layout f.meeting (shown (is_down_at s.k.switches.read) (is_shown d s.w)) s.k;
          nth = (s.w, s.nth, record { at = t.at; first = t.first; step = t.step; rest = rest });
          past = (let l : s.w.cycle + 2016 ≤ c.end.cycle = c.goal.later in let p : 4096 ≤ s.w.cycle = s.past in omega (arith, l, p));
          keeps = kept layout fine d low s.w s.k s.keeps (shows n s) f.frame f.meeting f.finds c.end c.goal;
        }

    first : Station 0
    first = record {
      w = first_comes.end;
      k = kb0;
      nth = record { steps = first_comes.steps; end = first_comes.end; run = first_comes.run; goal = refl };
      past = (let time : first_comes.end.cycle + 2 ≡ 4096 + 2048 * 0 + first_comes.end.cpu.pre = first_comes.goal.1 in let early : 2 ≤ first_comes.end.cpu.pre = first_comes.goal.0.entered.early in omega (arith, time, early));
      keeps = first_comes.goal.2;
    }

    -- each tick start is reached, and memory shows the model's keyboard there
    pub station : (n : ℕ) → Station n
    station zero = first
    station (suc n) = next n (station n)

    abbrev at : (n : ℕ) → Found d (station n).w
    at n = found d (station n).w

    abbrev meetings : ℕ → Meeting
    meetings n = (at n).meeting

    abbrev frames : ℕ → Frame
    frames n = (at n).frame

    abbrev edges : ℕ → List (ℕ × Bool)
    edges n = shown (is_down_at (station n).k.switches.read) (is_shown d (station n).w)

    -- the model's keyboard there is the one after the ticks before
    model_first : (station 0).k ≡ kb0
    unfolding station first
    model_first = refl

    model_next : (n : ℕ) → (station (suc n)).k ≡ keyboard_tick layout (meetings n) (edges n) (station n).k
    unfolding station next
    model_next n = refl

    model_is : (n : ℕ) → (station n).k ≡ keyboard_after layout meetings edges n
    model_is zero = model_first
    model_is (suc n) = model_next n ∙ ap (keyboard_tick layout (meetings n) (edges n)) (model_is n)

    -- a tick comes to the next start
    ran_on : (n : ℕ) → Ran d bytes (meetings n) (frames n) (station n).w (station (suc n)).w
    unfolding station next
    ran_on n =
        (tick layout fine d low (station n).w (station n).k (station n).keeps (shows n (station n)) (frames n) (meetings n)
        (at n).finds).rest.goal

    apart : (n : ℕ) → (station n).w.cycle - 4096 + 2016 ≤ (station (suc n)).w.cycle - 4096
    apart n =
        let l : (station n).w.cycle + 2016 ≤ (station (suc n)).w.cycle = (ran_on n).later in
        let p : 4096 ≤ (station n).w.cycle = (station n).past in
        omega (arith, l, p)

    -- the edges that it takes there, by the model and in the run
    abbrev takes : ℕ → List (ℕ × Bool)
    takes n = takes_at layout meetings edges n

    takes_are : (n : ℕ) → edges_now bytes d (station n).w ≡ takes n
    takes_are n =
        let g = (station n).keeps in
        edges_by layout fine d (station n).w (station n).k g.keyboard g.read g.settled
        ∙ ap (λ (k : LayeredKeyboard). taken layout.debounce (edges n) k.switches) (model_is n)

    soon : (n : ℕ) → (station (suc n)).w.cycle - 4096 ≤ (station n).w.cycle - 4096 + tick_with bytes (length (takes n))
    soon n =
        let most : ℕ = tick_with bytes (length (takes n)) in
        let l : (station (suc n)).w.cycle ≤ (station n).w.cycle + most =
        subst (λ e. (station (suc n)).w.cycle ≤ (station n).w.cycle + tick_with bytes (length e)) (takes_are n) (ran_on n).by_keys in
        let p : 4096 ≤ (station n).w.cycle = (station n).past in
        omega (arith, l, p)

    first_punctual : IsStarted (station 0).w.cpu × IsOnTime 0 (station 0).w
    unfolding station first
    first_punctual = (first_comes.goal.0, first_comes.goal.1)

    punctual : ((n : ℕ) → length (takes n) ≤ 4) → (n : ℕ) → IsStarted (station n).w.cpu × IsOnTime n (station n).w
    punctual few zero = first_punctual
    punctual few (suc n) =
        let before = punctual few n in
        let p = (ran_on n).prompt before.0 (subst (λ e. length e ≤ 4) (sym (takes_are n)) (few n)) in
        let now : (station n).w.cycle + 2 ≡ 4096 + 2048 * n + (station n).w.cpu.pre = before.1 in
        let pass : (station (suc n)).w.cycle + (station n).w.cpu.pre ≡ (station n).w.cycle + 2048 + (station (suc n)).w.cpu.pre = p.1 in
        (p.0, omega (arith, now, pass))

    prompt : ((n : ℕ) → length (takes n) ≤ 4) → (n : ℕ) → IsPrompt n ((station n).w.cycle - 4096)
    prompt few n =
        let p = punctual few n in
        let early : 2 ≤ (station n).w.cpu.pre = p.0.entered.early in
        let late : (station n).w.cpu.pre ≤ 3 = p.0.entered.late in
        let time : (station n).w.cycle + 2 ≡ 4096 + 2048 * n + (station n).w.cpu.pre = p.1 in
        record { least = omega (arith, early, time); most = omega (arith, late, time) }

    -- each start of a number is that one
    is_nth : (n stamp : ℕ) (s : IsStart d TICK bytes from n stamp) → (station n).w ≡ s.state
    is_nth n stamp s =
        let r = reached n (station n) in
        same_start d TICK bytes from r.steps s.steps (station n).w s.state r.run s.reached
        (starts_tick d (station n).w (station n).keeps.started.served) s.at (r.count ∙ sym s.number)

    -- the run works by itself: it never stops, its ticks come in their bounds, and they go as the model's
    pub works_alone : WorksAlone layout d from
    works_alone = record {
      goes_on = goes_on d TICK bytes from (λ n. ((station n).w, reached n (station n)));
      first = lets_go;
      starts = λ n. (station n).w.cycle - 4096;
      each = λ n. start n (station n);
      apart = apart;
      soon = soon;
      prompt = prompt;
      frames = frames;
      meetings = meetings;
      edges = edges;
      ticks = λ n stamp s.
          subst (λ w. TicksBy layout d (keyboard_after layout meetings edges n) (frames n) (meetings n) (edges n) w)
          (is_nth n stamp s)
          (subst (λ k. TicksBy layout d k (frames n) (meetings n) (edges n) (station n).w) (model_is n)
          (ticks_by layout fine d low (station n).w (station n).k (station n).keeps (shows n (station n)) (frames n)
          (meetings n) (at n).finds));
    }

-- the run of a layout's image is the model's, whatever the pins show, if the columns show keys of the layout alone
pub any_pins : AnyPinsLaw
any_pins layout fine pins tick low m small board few =
    works_alone layout fine (numbered pins tick) low m small board few
