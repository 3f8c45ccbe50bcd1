-- The run whatever the keys and the PC do: from each tick start to the next, and so the whole run.
use Rattle.std.proofs.Common.{◌≡◌, ◌≤◌, ◌<◌, ℕ, suc, zero, ◌+◌, ◌-◌, ◌==◌, List, All, length, true, Some, refl, ap, sym, ◌∙◌}
use Rattle.std.proofs.Common.{subst, arith}
use Rattle.board_terms.specs.declared.event.Edge.{Edge}
use Rattle.board_terms.specs.declared.event.HostEvent.{HostEvent}
use Rattle.fw_compile.specs.Image.{image_of}
use Rattle.fw_kernel.specs.Places.{HasKernel}
use Rattle.fw_kernel.specs.declared.labels.TheConstants.{TICK}
use Rattle.law_fw_keys.proofs.Begun.{IsAnyStart, any_start}
use Rattle.law_fw_keys.proofs.Carried.{edges_low}
use Rattle.law_fw_keys.proofs.Healing.{pressed_by}
use Rattle.law_fw_keys.proofs.Kept.{Sound, tick_sound}
use Rattle.law_fw_keys.proofs.PowerOn.{first_started}
use Rattle.law_fw_keys.specs.Edges.{image_keys, IsSilentAlike}
use Rattle.law_fw_keys.specs.Frameless.{FromPowerOn, IsRepeating, IsPressed, changed_now, edges_now, layers_by, layers_met, shown_by}
use Rattle.law_fw_logic.proofs.Laws.{comes_as}
use Rattle.fw_ticks.proofs.Numbers.{Reached, goes_on, nth_reached, same_start}
use Rattle.law_fw_logic.proofs.Passing.{Passes}
use Rattle.law_fw_logic.proofs.Starting.{IsFirst}
use Rattle.law_fw_logic.specs.Ticks.{column_read}
use Rattle.joint_run.specs.Joint.{Beside, beside_at_start, joint_board}
use Rattle.joint_run.specs.Run.{Board, World, run_at}
use Rattle.joint_run.specs.Starts.{at_tick, starts_before, Comes, Tick, IsNth, IsStart}
use Rattle.model_keyboard.proofs.CodesAreWhole.{IsWhole}
use Rattle.model_keyboard.specs.Keyboard.{Keyboard}
use Rattle.layout_reader.specs.Layouts.{KeyLayout, IsKeyLayout}
use Rattle.mcs48_core.specs.Cpu.{Cpu}
use Rattle.mcs48_ranges.specs.Sizes.{IsByte, IsFine}
use Rattle.law_agreement.proofs.AnyTick.{every}
use Rattle.law_agreement.proofs.Columns.{bus_low}
use Rattle.law_agreement.proofs.Compiled.{has_kernel, is_alike, are_bytes, same_keys, no_prefix}
use Rattle.law_agreement.proofs.Found.{found}
use Rattle.law_agreement.proofs.Ran.{Ran}
use Rattle.law_agreement.specs.Agreement.{switched_on}
use Rattle.law_agreement.specs.AnyKeys.{longest_tick, shortest_tick, tick_with, NeverStops}
use Rattle.law_agreement.specs.Firmware.{HasNoPrefix, HasWholeCodes}

module _ (d : Board) (bytes : List ℕ) (hk : HasKernel bytes) (alike : IsSilentAlike bytes) (bare : HasNoPrefix bytes)
    (small : All IsByte bytes) (low : (p1 p2 c : ℕ) (s : d.State) → (d.pins p1 p2 c s).bus < 256) where
  -- what each tick start keeps
  pub record GoesOn (w : World d.State) : Type 0 where
    pub start : IsAnyStart w.cpu
    pub repeating : IsRepeating bytes w.cpu.ram
    pub codes : HasWholeCodes w.cpu.ram
    pub past : 4096 ≤ w.cycle

  abbrev pub Next : World d.State → World d.State → Type 0
  Next w v =
      GoesOn v × (v.cycle ≤ w.cycle + longest_tick bytes) × (v.cycle ≤ w.cycle + tick_with bytes (length (edges_now bytes d w)))
      × Passes d bytes w × (w.cycle + shortest_tick ≤ v.cycle)

  -- each tick start leads to the next one, whatever the keys and the PC do, and within the bounds of a tick
  pub onward : (w : World d.State) → GoesOn w → Tick d TICK bytes w (Next w)
  onward w g =
      let f = found d w in
      let t = every d bytes hk alike small low w g.start g.repeating f.frame f.meeting g.codes f.finds in
      record {
        at = t.at;
        first = t.first;
        step = t.step;
        rest = comes_as d TICK bytes (Ran d bytes f.meeting f.frame w) (Next w) t.first
            (λ v r.
            let sound : Sound (image_keys bytes) (layers_met bytes f.meeting w.cpu.ram) (shown_by w.cpu.ram) =
            record {
              codes = g.codes;
              place = pressed_by (image_keys bytes) (layers_by w.cpu.ram) (layers_met bytes f.meeting w.cpu.ram).fn_down
                  (shown_by w.cpu.ram).repeats g.repeating;
            } in
            let kept = tick_sound (image_keys bytes) bare f.meeting (edges_now bytes d w) (layers_met bytes f.meeting w.cpu.ram)
            (shown_by w.cpu.ram) (edges_low (changed_now bytes d w) (column_read d w)) refl sound in
            let before : 4096 ≤ w.cycle = g.past in
            let later : w.cycle + shortest_tick ≤ v.cycle = r.later in (
              record {
                start = r.started;
                repeating = r.repeating;
                codes = subst (λ (k : Keyboard). IsWhole k.queue) (sym r.keyboard) kept.codes;
                past = omega (arith, before, later);
              },
              r.soon,
              r.by_keys,
              r.passes,
              r.later,
            ))
            t.rest;
      }

  -- from a first start on
  module _ (from : World d.State) (first : Comes d TICK bytes from GoesOn) where
    pub record Known (n : ℕ) : Type 0 where
      pub w : World d.State
      pub nth : IsNth d TICK bytes from n w
      pub keeps : GoesOn w

    -- each number has a tick start
    pub known : (n : ℕ) → Known n
    known zero = record {
      w = first.end;
      nth = record { steps = first.steps; end = first.end; run = first.run; goal = refl };
      keeps = first.goal;
    }
    known (suc n) =
        let k = known n in
        let t = onward k.w k.keeps in
        let r = t.rest in
        let rest : Comes d TICK bytes t.first (λ e. e ≡ r.end) =
        record { steps = r.steps; end = r.end; run = r.run; goal = refl } in
        record {
          w = r.end;
          nth = (k.w, k.nth, record { at = t.at; first = t.first; step = t.step; rest = rest });
          keeps = r.goal.0;
        }

    reached : (n : ℕ) → Reached d TICK bytes from n (known n).w
    reached n = nth_reached d TICK bytes from n (known n).w (known n).nth

    at_start : (n : ℕ) → at_tick d TICK (known n).w ≡ true
    at_start n = (onward (known n).w (known n).keeps).at

    -- each start has its way through the tick
    pub passes : (k : ℕ) (w : World d.State) → run_at d bytes from k ≡ Some w → at_tick d TICK w ≡ true
        → Passes d bytes w
    passes k w run at =
        let n = starts_before d TICK bytes from k in
        let r = reached n in
        subst (λ v. Passes d bytes v)
        (same_start d TICK bytes from r.steps k (known n).w w r.run run (at_start n) at r.count)
        (onward (known n).w (known n).keeps).rest.goal.3

    -- the run has a state after each number of steps
    pub never_stuck : (k : ℕ) → (w : World d.State) × (run_at d bytes from k ≡ Some w)
    never_stuck = goes_on d TICK bytes from (λ n. ((known n).w, reached n))

    -- each tick start has a stamp
    pub starts : (n : ℕ) → (stamp : ℕ) × IsStart d TICK bytes from n stamp
    starts n =
        let r = reached n in
        let past : 4096 ≤ (known n).w.cycle = (known n).keeps.past in (
          (known n).w.cycle - 4096,
          record {
            steps = r.steps;
            state = (known n).w;
            reached = r.run;
            at = at_start n;
            number = r.count;
            cycle = omega (arith, past);
          },
        )

    -- each start of a number is that one
    is_nth : (n stamp : ℕ) (s : IsStart d TICK bytes from n stamp) → (known n).w ≡ s.state
    is_nth n stamp s =
        let r = reached n in
        same_start d TICK bytes from r.steps s.steps (known n).w s.state r.run s.reached (at_start n) s.at
        (r.count ∙ sym s.number)

    cycle_is : (n stamp : ℕ) → IsStart d TICK bytes from n stamp → (known n).w.cycle ≡ 4096 + stamp
    cycle_is n stamp s = ap (λ (v : World d.State). v.cycle) (is_nth n stamp s) ∙ s.cycle

    -- the first tick start is the one to which power-on leads
    pub begins : (stamp : ℕ) → IsStart d TICK bytes from 0 stamp → first.end.cycle ≡ 4096 + stamp
    unfolding known
    begins stamp s = cycle_is 0 stamp s

    -- each is a tick after the one before
    one_on : (n : ℕ) → Next (known n).w (known (suc n)).w
    unfolding known
    one_on n = (onward (known n).w (known n).keeps).rest.goal

    -- a tick start comes no later after the one before than the longest tick takes
    pub soon : (n stamp next : ℕ) → IsStart d TICK bytes from n stamp → IsStart d TICK bytes from (suc n) next
        → next ≤ stamp + longest_tick bytes
    soon n stamp next s e =
        let here : (known n).w.cycle ≡ 4096 + stamp = cycle_is n stamp s in
        let there : (known (suc n)).w.cycle ≡ 4096 + next = cycle_is (suc n) next e in
        let short : (known (suc n)).w.cycle ≤ (known n).w.cycle + longest_tick bytes = (one_on n).1 in
        omega (arith, here, there, short)

    -- a tick start comes no sooner after the one before than the shortest tick takes
    pub apart : (n stamp next : ℕ) → IsStart d TICK bytes from n stamp → IsStart d TICK bytes from (suc n) next
        → stamp + shortest_tick ≤ next
    apart n stamp next s e =
        let here : (known n).w.cycle ≡ 4096 + stamp = cycle_is n stamp s in
        let there : (known (suc n)).w.cycle ≡ 4096 + next = cycle_is (suc n) next e in
        let long : (known n).w.cycle + shortest_tick ≤ (known (suc n)).w.cycle = (one_on n).4 in
        omega (arith, here, there, long)

    -- a tick start comes no later than the keys that the tick before it takes allow
    pub by_keys : (n stamp next : ℕ) (s : IsStart d TICK bytes from n stamp) → IsStart d TICK bytes from (suc n) next
        → next ≤ stamp + tick_with bytes (length (edges_now bytes d s.state))
    by_keys n stamp next s e =
        let here : (known n).w.cycle ≡ 4096 + stamp = cycle_is n stamp s in
        let there : (known (suc n)).w.cycle ≡ 4096 + next = cycle_is (suc n) next e in
        let most : ℕ = tick_with bytes (length (edges_now bytes d s.state)) in
        let short : (known (suc n)).w.cycle ≤ (known n).w.cycle + most =
        subst (λ v. (known (suc n)).w.cycle ≤ (known n).w.cycle + tick_with bytes (length (edges_now bytes d v))) (is_nth n stamp s)
        (one_on n).2 in
        omega (arith, here, there, short)

-- from power-on
module _ (layout : KeyLayout) (edges : List Edge) (events : List HostEvent) (fine : IsKeyLayout layout) (m : Cpu)
    (small : IsFine m) where
  abbrev joint : Board
  joint = joint_board edges events

  abbrev bytes : List ℕ
  bytes = image_of layout

  -- no code of the image is the prefix of a break
  prefix : HasNoPrefix bytes
  prefix on_fn p l = ap (λ c. c == 240) ((same_keys layout).code on_fn p l) ∙ no_prefix layout fine on_fn p l

  abbrev Keeps : World Beside → Type 0
  Keeps = GoesOn joint bytes (has_kernel layout) (is_alike layout fine) prefix (are_bytes layout fine) (bus_low edges events)

  keeps_first : (w : World Beside) → IsFirst joint bytes beside_at_start w → FromPowerOn bytes w.cpu
      → Keeps w × (w.cycle ≤ 4097)
  keeps_first w i f =
      let cycle : w.cycle ≡ 4096 + i.late = ap (λ (v : World Beside). v.cycle) i.is in
      let most : i.late ≤ 1 = i.most in (
        record {
          start = any_start w.cpu f.started;
          repeating = subst (λ (k : Keyboard). IsPressed (image_keys bytes) (layers_by w.cpu.ram) k.repeats) (sym f.keyboard) tt;
          codes = subst (λ (k : Keyboard). IsWhole k.queue) (sym f.keyboard) refl;
          past = omega (arith, cycle);
        },
        omega (arith, cycle, most),
      )

  abbrev from : World Beside
  from = switched_on edges events m

  first_comes : Comes joint TICK bytes from (λ w. Keeps w × (w.cycle ≤ 4097))
  first_comes =
      comes_as joint TICK bytes (λ w. IsFirst joint bytes beside_at_start w × FromPowerOn bytes w.cpu)
      (λ w. Keeps w × (w.cycle ≤ 4097)) from (λ w g. keeps_first w g.0 g.1)
      (first_started joint bytes (has_kernel layout) (are_bytes layout fine) (bus_low edges events) m small beside_at_start)

  abbrev first : Comes joint TICK bytes from Keeps
  first =
      record { steps = first_comes.steps; end = first_comes.end; run = first_comes.run; goal = first_comes.goal.0 }

  -- power-on leads to a first tick start
  pub comes_first : Comes joint TICK bytes from (λ w. at_tick joint TICK w ≡ true)
  comes_first =
      comes_as joint TICK bytes Keeps (λ w. at_tick joint TICK w ≡ true) from
      (λ w g.
      (onward joint bytes (has_kernel layout) (is_alike layout fine) prefix (are_bytes layout fine) (bus_low edges events) w
      g).at)
      first

  -- each tick start has its way through the service to the next one
  pub each_passes : (k : ℕ) (w : World Beside) → run_at joint bytes from k ≡ Some w → at_tick joint TICK w ≡ true
      → Passes joint bytes w
  each_passes =
      passes joint bytes (has_kernel layout) (is_alike layout fine) prefix (are_bytes layout fine) (bus_low edges events)
      from first

  -- from power-on the run never stops, whatever the keys and the PC do
  pub never_stops : NeverStops from bytes edges events
  never_stops =
      let kernel = has_kernel layout in
      let alike = is_alike layout fine in
      let are = are_bytes layout fine in
      let low = bus_low edges events in
      record {
        goes_on = never_stuck joint bytes kernel alike prefix are low from first;
        starts = starts joint bytes kernel alike prefix are low from first;
        first = λ stamp s.
            let most : first.end.cycle ≤ 4097 = first_comes.goal.1 in
            let at : first.end.cycle ≡ 4096 + stamp = begins joint bytes kernel alike prefix are low from first stamp s in
            omega (arith, at, most);
        soon = soon joint bytes kernel alike prefix are low from first;
        apart = apart joint bytes kernel alike prefix are low from first;
        by_keys = by_keys joint bytes kernel alike prefix are low from first;
      }
