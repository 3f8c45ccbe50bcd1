-- Cycles and steps by events of which none is reached yet are those without them.
use Rattle.std.proofs.Common.{◌≡◌, ◌≤◌, ◌<◌, ℕ, zero, suc, ◌+◌, Bool, false, not, ◌&&◌, List, []}
use Rattle.std.proofs.Common.{◌∷◌, ◌++◌, Some, None, refl, ap, sym, ◌∙◌, arith}
use Rattle.std.specs.Prelude.{if◌then◌else◌, nat_le, slice_get}
use Rattle.std.specs.List.{All, filter}
use Rattle.std.specs.declared.option.Option.{Option}
use Rattle.std.proofs.lemmas.Bool.Decides.{nat_tests}
use Rattle.std.proofs.lemmas.List.{append-nil}
use Rattle.std.proofs.lemmas.List.Elements.{All-head, All-tail, filter-append}
use Rattle.board_terms.specs.Edges.{is_made}
use Rattle.board_terms.specs.Matrix.{all_up, turned_by}
use Rattle.board_terms.specs.declared.event.Edge.{Edge}
use Rattle.board_terms.specs.declared.event.HostEvent.{HostEvent}
use Rattle.ctl_link.specs.Link.{broken_off, settled}
use Rattle.ctl_wire.specs.Wire.{is_breakable}
use Rattle.ctl_wire.specs.declared.wire.Wire.{Wire}
use Rattle.host_turn.specs.Cycle.{Cycled, cycled, ends_cycle, host_of, port_by}
use Rattle.host_turn.specs.Host.{Turn, acted_where, bios_turn, waits}
use Rattle.host_turn.specs.Run.{lights_said, stamped}
use Rattle.host_turn.specs.declared.desk.Desk.{Desk}
use Rattle.joint_run.proofs.Passing.{cycle_is}
use Rattle.joint_run.specs.Cycle.{Passed, looked_outside, outside_wires}
use Rattle.joint_run.specs.Due.{beside, outside_of}
use Rattle.joint_run.specs.Joint.{Beside, joint_board, joint_cycle, joint_pins, keys_at, lights_of, pins_by}
use Rattle.joint_run.specs.Run.{World, after_cycles, after_step}
use Rattle.joint_run.specs.declared.outside.Outside.{Outside}
use Rattle.joint_feed.proofs.Going.{same_state}
use Rattle.mcs48_core.specs.Step.{Stepped}

-- a cycle whose event turn is known
abbrev cycle_by : ℕ → Desk Wire → Turn → Bool → Cycled Wire
cycle_by now d first done =
    let second : Turn = bios_turn now d.port.filled first.host in
    let t : Turn = record { host = second.host; items = first.items ++ second.items } in
    ends_cycle t done (settled now (broken_off is_breakable now (port_by t d.port)))

-- an event whose stamp isn't reached is as none
undue : (now : ℕ) (e : HostEvent) (d : Desk Wire)
    → nat_le (e.stamp + 4096) now ≡ false → cycled is_breakable now (Some e) d ≡ cycled is_breakable now None d
undue now e d h =
    let w : Bool = waits e.act d.port.core in
    ap (λ c. cycle_by now d (acted_where (c && not w) e.act (host_of d)) (c && not w)) h

unreached : (now last stamp : ℕ) → now < last → last ≤ stamp + 4096 → nat_le (stamp + 4096) now ≡ false
unreached now last stamp l h = grind (arith, nat_tests, l, h)

-- the next event, among more that aren't reached
beyond : (now last n : ℕ) (more : List HostEvent) (d : Desk Wire) → now < last → All (λ e. last ≤ e.stamp + 4096) more
    → cycled is_breakable now (slice_get more n) d ≡ cycled is_breakable now None d
beyond now last n [] d l h = refl
beyond now last zero (e ∷ more) d l h =
    undue now e d (unreached now last e.stamp l (All-head (λ (x : HostEvent). last ≤ x.stamp + 4096) e more h))
beyond now last (suc n) (e ∷ more) d l h = beyond now last n more d l (All-tail (λ (x : HostEvent). last ≤ x.stamp + 4096) e more h)

next_alike : (now last n : ℕ) (hs more : List HostEvent) (d : Desk Wire) → now < last → All (λ e. last ≤ e.stamp + 4096) more
    → cycled is_breakable now (slice_get (hs ++ more) n) d ≡ cycled is_breakable now (slice_get hs n) d
next_alike now last n [] more d l h = beyond now last n more d l h
next_alike now last zero (e ∷ hs) more d l h = refl
next_alike now last (suc n) (e ∷ hs) more d l h = next_alike now last n hs more d l h

-- what is outside the processor, by what the host and the controller come to
abbrev passed_by : ℕ → ℕ → Outside → Cycled Wire → Passed
passed_by now p2 o c = record {
  outside = record { desk = c.desk; clock = (looked_outside now (outside_wires p2 o) o).clock; shown = lights_of p2 };
  items = lights_said now o.shown (lights_of p2) ++ stamped now c.items;
  done = c.done;
}

abbrev beside_by : Beside → Passed → Beside
beside_by s c = beside c.outside (if c.done then s.pc.side.done + 1 else s.pc.side.done) (s.pc.side.log ++ c.items)

module _ (hs more : List HostEvent) (last : ℕ) (ahead : All (λ e. last ≤ e.stamp + 4096) more) where
  cycle_alike : (p2 now : ℕ) (s : Beside) → now < last → joint_cycle (hs ++ more) p2 now s ≡ joint_cycle hs p2 now s
  cycle_alike p2 now s l =
      let o : Outside = outside_of s in
      let n : ℕ = s.pc.side.done in
      cycle_is (hs ++ more) p2 now o n s.pc.side.log
      ∙ ap (λ c. beside_by s (passed_by now p2 o c))
      (next_alike now last n hs more (looked_outside now (outside_wires p2 o) o).desk l ahead)
      ∙ sym (cycle_is hs p2 now o n s.pc.side.log)

  cycles_alike : (p2 n now : ℕ) (s : Beside)
      → now + n ≤ last → after_cycles n now (joint_cycle (hs ++ more) p2) s ≡ after_cycles n now (joint_cycle hs p2) s
  cycles_alike p2 zero now s l = refl
  cycles_alike p2 (suc n) now s l =
      ap (λ v. after_cycles n (now + 1) (joint_cycle (hs ++ more) p2) v) (cycle_alike p2 now s (omega (arith, l)))
      ∙ cycles_alike p2 n (now + 1) (joint_cycle hs p2 now s) (omega (arith, l))

  -- edges and events that aren't due yet change nothing of a step
  pub step_alike : (es es2 : List Edge) (v w : World Beside) (o : Option Stepped)
      → w.cycle ≤ last → after_step (joint_board es hs) v o ≡ Some w
      → after_step (joint_board (es ++ es2) (hs ++ more)) v o ≡ Some w
  step_alike es es2 v w None l h = absurd cc
  step_alike es es2 v w (Some n) l h =
      let e : v.cycle + n.cycles ≡ w.cycle = ap (λ (u : World Beside). u.cycle) (same_state h) in
      ap (λ b. Some (record { cpu = n.cpu; board = b; cycle = v.cycle + n.cycles }))
      (cycles_alike n.cpu.p2 n.cycles v.cycle v.board (omega (arith, l, e))) ∙ h

-- edges that aren't reached
none_made : (cycle last : ℕ) (more : List Edge) → cycle < last → All (λ e. last ≤ e.stamp + 4096) more → filter (is_made cycle) more ≡ []
none_made cycle last [] l h = refl
none_made cycle last (e ∷ es) l h =
    let off : is_made cycle e ≡ false = unreached cycle last e.stamp l (All-head (λ (x : Edge). last ≤ x.stamp + 4096) e es h) in
    ap (λ b. if b then e ∷ filter (is_made cycle) es else filter (is_made cycle) es) off
    ∙ none_made cycle last es l (All-tail (λ (x : Edge). last ≤ x.stamp + 4096) e es h)

pins_are : (edges : List Edge) (p1 p2 cycle : ℕ) (s : Beside) → joint_pins edges p1 p2 cycle s ≡ pins_by (keys_at edges cycle) p1 p2 s
unfolding joint_pins
pins_are edges p1 p2 cycle s = refl

-- edges that aren't due yet change no level at the pins
pub pins_alike : (es more : List Edge) (last p1 p2 cycle : ℕ) (s : Beside) → cycle < last → All (λ e. last ≤ e.stamp + 4096) more
    → joint_pins (es ++ more) p1 p2 cycle s ≡ joint_pins es p1 p2 cycle s
pins_alike es more last p1 p2 cycle s l h =
    pins_are (es ++ more) p1 p2 cycle s
    ∙ ap (λ v. pins_by (turned_by v all_up) p1 p2 s)
    (filter-append (is_made cycle) es more ∙ ap (λ v. filter (is_made cycle) es ++ v) (none_made cycle last more l h)
    ∙ append-nil (filter (is_made cycle) es))
    ∙ sym (pins_are es p1 p2 cycle s)
