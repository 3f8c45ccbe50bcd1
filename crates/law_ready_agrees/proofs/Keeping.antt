-- Once INT 09h is masked, a byte in the output buffer stays there, and nothing is read.
use Rattle.std.proofs.Common.{◌≡◌, ◌⊎◌, inl, inr, ℕ, suc, zero, ◌+◌, ◌==◌, not, ◌&&◌, Bool, true, false}
use Rattle.std.proofs.Common.{List, [], ◌∷◌, ◌++◌, append-nil, Some, None, refl, ap, sym, ◌∙◌, subst, arith}
use Rattle.std.specs.Prelude.{if◌then◌else◌, nat_le, slice_get}
use Rattle.std.proofs.lemmas.Grind.{flat_map-append}
use Rattle.board_terms.specs.declared.event.HostAct.TheVariants.{Mask}
use Rattle.board_terms.specs.declared.event.HostEvent.{HostEvent}
use Rattle.ctl_core.specs.Controller.{ControllerState, interrupt_enabled}
use Rattle.ctl_link.specs.Empty.{fits}
use Rattle.ctl_link.specs.Link.{Settled, broken_off, moves_link, settled}
use Rattle.ctl_link.specs.declared.link.Link.{Link}
use Rattle.ctl_link.specs.declared.port.LinkEnd.{LinkEnd}
use Rattle.ctl_wire.specs.Cycles.{port_looked}
use Rattle.ctl_wire.specs.Wire.{is_breakable}
use Rattle.ctl_wire.specs.Wires.{board_cycle, wires}
use Rattle.ctl_wire.specs.declared.wire.Wire.{Wire}
use Rattle.host_turn.specs.Cycle.{Cycled, cycled, ends_cycle, host_of, port_by}
use Rattle.host_turn.specs.Host.{Host, Turn, acted_where, bios_turn, in_silence, interrupts, is_done, read_by_bios, turn}
use Rattle.host_turn.specs.Run.{Side, desk_of, goes_on, lights_said, with_cycled}
use Rattle.host_turn.specs.declared.stamped.Stamped.{Stamped}
use Rattle.joint_run.specs.Joint.{Beside, joint_cycle, latch_of, lights_of}
use Rattle.joint_run.specs.Run.{after_cycles}
use Rattle.pc_tables.specs.declared.item.Item.TheVariants.{Lights}
use Rattle.law_quiet_log.specs.Ports.{port_of}
use Rattle.law_ready_agrees.specs.Opened.{bytes_read, masked_history}
use Rattle.law_ready_agrees.proofs.Looking.{Looks, looks_at, moved_fits, settles}

-- INT 09h's read
record Reads (h g : Host) : Type 0 where
  input : h.core.input ≡ None → g.core.input ≡ None
  command : g.core.command_byte ≡ h.core.command_byte
  held : (l : Link Wire) → fits h.core.output_full l ≡ true → fits g.core.output_full l ≡ true
  masked : g.masked ≡ h.masked

reads_if : (b : Bool) (h : Host) → Reads h (if b then read_by_bios h else in_silence h).host
reads_if true h = record { input = λ e. e; command = refl; held = λ l f. refl; masked = refl }
reads_if false h = record { input = λ e. e; command = refl; held = λ l f. f; masked = refl }

unmasked : (a b d : Bool) → (a && b && not true && d) ≡ false
unmasked true true d = refl
unmasked true false d = refl
unmasked false b d = refl

silent : (now filled : ℕ) (h : Host) → h.masked ≡ true → bios_turn now filled h ≡ in_silence h
silent now filled h m =
    ap (λ c. if h.core.output_full && interrupt_enabled h.core && not c && nat_le (filled + 64) now then read_by_bios h
    else in_silence h) m
    ∙ ap (λ c. if c then read_by_bios h else in_silence h)
    (unmasked h.core.output_full (interrupt_enabled h.core) (nat_le (filled + 64) now))

module _ (stamp : ℕ) where
  abbrev mask : HostEvent
  mask = record { stamp = stamp; act = Mask }

  abbrev pub events : List HostEvent
  events = (masked_history stamp).host

  -- no input waits, and INT 09h is masked once the event is done
  pub record IsKept (s : Side Wire) : Type 0 where
    pub input : s.port.core.input ≡ None
    pub command : s.port.core.command_byte ≡ 0x45
    pub held : fits s.port.core.output_full s.port.link ≡ true
    pub event : (s.done ≡ 0) ⊎ ((s.done ≡ 1) × (s.masked ≡ true))

  -- a byte in the output buffer stays, and nothing is read
  pub record Keeps (s t : Side Wire) : Type 0 where
    pub done : t.done ≡ 1
    pub reads : bytes_read t.log ≡ bytes_read s.log
    pub stays : s.port.core.output_full ≡ true → t.port.core ≡ s.port.core

  -- a turn of the host before the mask, or with it
  abbrev first_of : Bool → Side Wire → Turn
  first_of done s = acted_where done Mask (host_of (desk_of s))

  abbrev turn_of : Bool → ℕ → Side Wire → Turn
  turn_of done now s =
      let first : Turn = first_of done s in
      let second : Turn = bios_turn now s.port.filled first.host in
      record { host = second.host; items = first.items ++ second.items }

  abbrev gone_by : Bool → ℕ → Side Wire → Side Wire
  gone_by done now s =
      with_cycled now
      (ends_cycle (turn_of done now s) done
      (settled now (broken_off is_breakable now (port_by (turn_of done now s) s.port)))) s

  goes_first : (now : ℕ) (s : Side Wire) → s.done ≡ 0
      → goes_on is_breakable events now s ≡ gone_by (is_done now (Some mask) s.port.core) now s
  unfolding goes_on
  goes_first now s none =
      ap (λ n. with_cycled now (cycled is_breakable now (slice_get events n) (desk_of s)) s) none

  -- the host's view after it
  record Turns (done : Bool) (now : ℕ) (s : Side Wire) : Type 0 where
    input : s.port.core.input ≡ None → (turn_of done now s).host.core.input ≡ None
    command : (turn_of done now s).host.core.command_byte ≡ s.port.core.command_byte
    held : (l : Link Wire) → fits s.port.core.output_full l ≡ true → fits (turn_of done now s).host.core.output_full l ≡ true
    masked : (turn_of done now s).host.masked ≡ (first_of done s).host.masked

  turns : (done : Bool) (now : ℕ) (s : Side Wire) → Turns done now s
  turns true now s =
      let r = reads_if (interrupts now s.port.filled (first_of true s).host) (first_of true s).host in
      record { input = r.input; command = r.command; held = r.held; masked = r.masked }
  turns false now s =
      let r = reads_if (interrupts now s.port.filled (first_of false s).host) (first_of false s).host in
      record { input = r.input; command = r.command; held = r.held; masked = r.masked }

  counted : (done : Bool) (now : ℕ) (s : Side Wire) → s.done ≡ 0
      → (turn_of done now s).host.masked ≡ (first_of done s).host.masked
      → ((if done then s.done + 1 else s.done) ≡ 0)
      ⊎ (((if done then s.done + 1 else s.done) ≡ 1) × ((turn_of done now s).host.masked ≡ true))
  counted true now s none masked = inr (omega (arith, none), masked)
  counted false now s none masked = inl none

  gone_kept : (done : Bool) (now : ℕ) (s : Side Wire) → IsKept s → s.done ≡ 0 → IsKept (gone_by done now s)
  gone_kept done now s k none =
      let t : Turn = turn_of done now s in
      let h = turns done now s in
      let p : LinkEnd Wire = port_by t s.port in
      let input : p.core.input ≡ None = h.input k.input in
      subst (λ (q : Settled Wire). IsKept (with_cycled now (ends_cycle t done q) s)) (sym (settles is_breakable now p input))
      (record {
        input = input;
        command = h.command ∙ k.command;
        held = moved_fits now p input (h.held s.port.link k.held);
        event = counted done now s none h.masked;
      })

  -- a cycle after the mask
  abbrev calm_by : ℕ → Side Wire → Side Wire
  calm_by now s = record s { port = moves_link now s.port; log = s.log ++ [] }

  goes_masked : (now : ℕ) (s : Side Wire) → s.done ≡ 1 → s.masked ≡ true → s.port.core.input ≡ None
      → goes_on is_breakable events now s ≡ calm_by now s
  unfolding goes_on
  goes_masked now s done masked input =
      let h : Host = host_of (desk_of s) in
      let by : Turn → Cycled Wire = λ t.
      ends_cycle t false (settled now (broken_off is_breakable now (port_by t s.port))) in
      let turn_is : turn now s.port.filled None h ≡ in_silence h =
      ap (λ (t : Turn). record { host = t.host; items = [] ++ t.items }) (silent now s.port.filled h masked) in
      ap (λ n. with_cycled now (cycled is_breakable now (slice_get events n) (desk_of s)) s) done
      ∙ ap (λ t. with_cycled now (by t) s) turn_is
      ∙ ap (λ (q : Settled Wire). with_cycled now (ends_cycle (in_silence h) false q) s)
      (settles is_breakable now s.port input)

  -- lights are no byte that is read
  none_lit : (same : Bool) (now lights : ℕ)
      → bytes_read (if same then [] else record { cycle = now; item = Lights lights } ∷ []) ≡ []
  none_lit true now lights = refl
  none_lit false now lights = refl

  -- a cycle of the run: the lights and the look, and then the host and the controller
  abbrev looked_side : ℕ → ℕ → Beside → Side Wire
  looked_side p2 now s = record s.pc.side {
    port = port_looked now s.pc.clock (wires (latch_of p2) s.pc) s.pc.side.port;
    log = s.pc.side.log ++ lights_said now s.shown (lights_of p2);
  }

  side_after : (p2 now : ℕ) (s : Beside)
      → (joint_cycle events p2 now s).pc.side ≡ goes_on is_breakable events now (looked_side p2 now s)
  unfolding joint_cycle board_cycle
  side_after p2 now s = refl

  module _ (p2 now : ℕ) (s : Beside) (k : IsKept s.pc.side) where
    abbrev u : Side Wire
    u = looked_side p2 now s

    looks : Looks s.pc.side.port u.port
    looks = looks_at now s.pc.clock (wires (latch_of p2) s.pc) s.pc.side.port k.input k.held

    looked : IsKept u
    looked = record { input = looks.input; command = looks.command ∙ k.command; held = looks.held; event = k.event }

    calm_kept : s.pc.side.done ≡ 1 → s.pc.side.masked ≡ true → IsKept (calm_by now u)
    calm_kept done masked = record {
      input = looks.input;
      command = looks.command ∙ k.command;
      held = moved_fits now u.port looks.input looks.held;
      event = inr (done, masked);
    }

    cycle_kept : IsKept (joint_cycle events p2 now s).pc.side
    cycle_kept = subst IsKept (sym (side_after p2 now s)) (by k.event)
      where
        by : (s.pc.side.done ≡ 0) ⊎ ((s.pc.side.done ≡ 1) × (s.pc.side.masked ≡ true))
            → IsKept (goes_on is_breakable events now u)
        by (inl none) =
            subst IsKept (sym (goes_first now u none)) (gone_kept (is_done now (Some mask) u.port.core) now u looked none)
        by (inr done) =
            subst IsKept (sym (goes_masked now u done.0 done.1 looks.input)) (calm_kept done.0 done.1)

    reads_none : bytes_read (u.log ++ []) ≡ bytes_read s.pc.side.log
    reads_none =
        ap bytes_read (append-nil u.log)
        ∙ flat_map-append (λ (x : Stamped). port_of x.item) s.pc.side.log (lights_said now s.shown (lights_of p2))
        ∙ ap (λ v. bytes_read s.pc.side.log ++ v) (none_lit (lights_of p2 == s.shown) now (lights_of p2))
        ∙ append-nil (bytes_read s.pc.side.log)

    cycle_keeps : s.pc.side.done ≡ 1 → Keeps s.pc.side (joint_cycle events p2 now s).pc.side
    cycle_keeps done = subst (Keeps s.pc.side) (sym (side_after p2 now s)) (by k.event)
      where
        by : (s.pc.side.done ≡ 0) ⊎ ((s.pc.side.done ≡ 1) × (s.pc.side.masked ≡ true))
            → Keeps s.pc.side (goes_on is_breakable events now u)
        by (inl none) = absurd (omega (arith, none, done))
        by (inr both) =
            subst (Keeps s.pc.side) (sym (goes_masked now u both.0 both.1 looks.input)) (record {
              done = done;
              reads = reads_none;
              stays = λ full. ap (λ (q : LinkEnd Wire). q.core) (looks.stays full);
            })

  -- one after the other
  pub keeps_then : (s t u : Side Wire) → Keeps s t → Keeps t u → Keeps s u
  keeps_then s t u h k = record {
    done = k.done;
    reads = k.reads ∙ h.reads;
    stays = λ full.
        let same = h.stays full in
        let on : t.port.core.output_full ≡ true = ap (λ (c : ControllerState). c.output_full) same ∙ full in
        k.stays on ∙ same;
  }

  -- and so many cycles
  pub cycles_kept : (p2 n now : ℕ) (s : Beside) → IsKept s.pc.side → IsKept (after_cycles n now (joint_cycle events p2) s).pc.side
  cycles_kept p2 zero now s k = k
  cycles_kept p2 (suc n) now s k = cycles_kept p2 n (now + 1) (joint_cycle events p2 now s) (cycle_kept p2 now s k)

  -- once INT 09h is masked, cycles leave a byte in the output buffer, and nothing is read
  pub cycles_keep : (p2 n now : ℕ) (s : Beside) → IsKept s.pc.side → s.pc.side.done ≡ 1
      → Keeps s.pc.side (after_cycles n now (joint_cycle events p2) s).pc.side
  cycles_keep p2 zero now s k done = record { done = done; reads = refl; stays = λ full. refl }
  cycles_keep p2 (suc n) now s k done =
      let next : Beside = joint_cycle events p2 now s in
      let one = cycle_keeps p2 now s k done in
      keeps_then s.pc.side next.pc.side (after_cycles n (now + 1) (joint_cycle events p2) next).pc.side one
      (cycles_keep p2 n (now + 1) next (cycle_kept p2 now s k) one.done)
