-- With a quiet host the controller and its link go on as with no host: two sides that are alike in what it hangs on.
use Rattle.std.proofs.Common.{◌≡◌, ◌≤◌, ℕ, suc, zero, ◌+◌, List, [], Bool, true, false, Some, None, refl, ap, sym, ◌∙◌, arith}
use Rattle.std.specs.Prelude.{if◌then◌else◌, slice_get, All}
use Rattle.std.specs.declared.option.Option.{Option}
use Rattle.std.proofs.lemmas.Option.{slice_get_within, get_or_from_slice_get}
use Rattle.std.proofs.Common.{subst}
use Rattle.ctl_core.specs.Controller.{ControllerState}
use Rattle.ctl_link.specs.declared.port.LinkEnd.{LinkEnd}
use Rattle.ctl_link.specs.Link.{broken_off, settled}
use Rattle.board_terms.specs.declared.event.HostAct.{HostAct}
use Rattle.board_terms.specs.declared.event.HostAct.TheVariants.{Write60, Write64, Read60, Mask, Unmask, Take, Flip, Status as AskStatus}
use Rattle.board_terms.specs.declared.event.HostEvent.{HostEvent}
use Rattle.int09.specs.Bios.{State, without_first}
use Rattle.host_turn.specs.Host.{Host, acted_where, bios_turn, event_turn, in_silence, interrupts, is_done, read_by_bios, turn}
use Rattle.host_turn.specs.Cycle.{host_of}
use Rattle.host_turn.specs.Rest.{is_due}
use Rattle.host_turn.specs.Run.{Side, desk_of, goes_on}
use Rattle.model_controller.specs.declared.UnderWay.{UnderWay}
use Rattle.model_controller.specs.declared.meeting.Meeting.{Meeting}
use Rattle.model_controller.specs.declared.meeting.Meeting.TheVariants.{Got, Inhibited, Idle, Sent, Cut}
use Rattle.model_controller.specs.ByteTime.{Event, Quiet, Begins, Closes, Arrives, IsWhole, byte_cycle}
use Rattle.model_controller.specs.ByteTime.{carried, happened_at, is_open, quietly, sends}
use Rattle.law_quiet_log.specs.Quiet.{IsQuietAct}
use Rattle.law_quiet_log.proofs.Acting.{IsQuietNext}
use Rattle.law_link_times.proofs.Clear.{IsClear, happened_clear, happened_plain, next_clear, next_plain, next_port, plain, read_core, view}

-- each event of a list is a quiet one
pub next_quiet : (o : Option HostEvent) → ((e : HostEvent) → o ≡ Some e → IsQuietAct e.act) → IsQuietNext o
next_quiet None g = tt
next_quiet (Some e) g = g e refl

-- if all events of a host are quiet, each next one is
pub all_quiet : (events : List HostEvent) → All (λ event. IsQuietAct event.act) events
    → (i : ℕ) → IsQuietNext (slice_get events i)
all_quiet events all i =
    next_quiet (slice_get events i)
    (λ e g. subst (λ (v : HostEvent). IsQuietAct v.act) (get_or_from_slice_get events i e e g)
    (all i e (slice_get_within events i e g)))

-- no events at all are quiet, and none is due
pub none_quiet : (i : ℕ) → IsQuietNext (slice_get [] i)
none_quiet zero = tt
none_quiet (suc i) = tt

-- without events none is due
pub none_due : (y i : ℕ) → is_due y (slice_get [] i) ≡ false
none_due y zero = refl
none_due y (suc i) = refl

-- a quiet event changes nothing of the host's view but INT 09h
acts_quietly : (c : Bool) (act : HostAct) (h : Host) → IsQuietAct act
    → (b : State) × ((acted_where c act h).host ≡ record h { bios = b })
acts_quietly c (Write60 byte) h q = absurd q
acts_quietly c (Write64 byte) h q = absurd q
acts_quietly c Read60 h q = absurd q
acts_quietly c Mask h q = absurd q
acts_quietly c Unmask h q = absurd q
acts_quietly true Take h q = (without_first h.bios, refl)
acts_quietly false Take h q = (h.bios, refl)
acts_quietly true AskStatus h q = (h.bios, refl)
acts_quietly false AskStatus h q = (h.bios, refl)
acts_quietly c (Flip bit) h q = absurd q

-- a quiet event changes the state of INT 09h at most, and nothing else of the host's
pub event_quietly : (now : ℕ) (o : Option HostEvent) (h : Host) → IsQuietNext o
    → (b : State) × ((event_turn now o h).host ≡ record h { bios = b })
event_quietly now None h q = (h.bios, refl)
event_quietly now (Some e) h q = acts_quietly (is_done now (Some e) h.core) e.act h q

record Turned (core : ControllerState) (masked : Bool) (flip : Option ℕ) (h : Host) : Type 0 where
  core_is : h.core ≡ core
  masked_is : h.masked ≡ masked
  flip_is : h.flip ≡ flip

reads_by : (c : Bool) (h : Host)
    → Turned (read_core c h.core) h.masked h.flip (if c then read_by_bios h else in_silence h).host
reads_by true h = record { core_is = refl; masked_is = refl; flip_is = refl }
reads_by false h = record { core_is = refl; masked_is = refl; flip_is = refl }

-- the host's turn
turns : (now filled : ℕ) (o : Option HostEvent) (h : Host) → IsQuietNext o
    → Turned (read_core (interrupts now filled h) h.core) h.masked h.flip (turn now filled o h).host
turns now filled o h q =
    let e = event_quietly now o h q in
    subst (λ v. Turned (read_core (interrupts now filled h) h.core) h.masked h.flip (bios_turn now filled v).host)
    (sym e.1) (reads_by (interrupts now filled h) (record h { bios = e.0 }))

-- the events from one on are quiet
abbrev pub AreQuietFrom : ℕ → List HostEvent → Type 0
AreQuietFrom d events = (i : ℕ) → d ≤ i → IsQuietNext (slice_get events i)

-- so many steps of which each has its own host, as far as the controller goes on by itself; d events are done
pub record Same (d : ℕ) (a b : Side UnderWay) : Type 0 where
  pub port : plain a.port ≡ b.port
  pub clear : IsClear a.port
  pub masked : a.masked ≡ b.masked
  pub done : d ≤ a.done

-- what is done stays done
done_more : (c : Bool) (d n : ℕ) → d ≤ n → d ≤ (if c then n + 1 else n)
done_more true d n h = omega (arith, h)
done_more false d n h = h

later : (events : List HostEvent) (d now : ℕ) (e : Event) (m : Side UnderWay) → d ≤ m.done
    → d ≤ (byte_cycle events now e m).done
unfolding byte_cycle goes_on
later events d now e m h =
    done_more (is_done now (slice_get events m.done) (happened_at now e m.port).core) d m.done h

-- with a quiet host a cycle changes the port as the controller does by itself, and leaves the host's mask
pub cycle_port : (events : List HostEvent) (now : ℕ) (e : Event) (m : Side UnderWay)
    → IsQuietNext (slice_get events m.done)
    → ((byte_cycle events now e m).port ≡ next_port now m.masked (happened_at now e m.port))
    × ((byte_cycle events now e m).masked ≡ m.masked)
unfolding byte_cycle goes_on
cycle_port events now e m quiet =
    let p : LinkEnd UnderWay = happened_at now e m.port in
    let h : Host = host_of (desk_of (record m { port = p })) in
    let t = turns now p.filled (slice_get events m.done) h quiet in (
      ap (λ c. (settled now (broken_off is_open now
          (record p { core = c; flip = (turn now p.filled (slice_get events m.done) h).host.flip }))).port) t.core_is
          ∙ ap (λ f. (settled now (broken_off is_open now
          (record p { core = read_core (interrupts now p.filled (view m.masked p)) p.core; flip = f }))).port) t.flip_is,
      t.masked_is,
    )

module _ (events : List HostEvent) (d : ℕ) (quiet : AreQuietFrom d events) where
  same_cycle : (now : ℕ) (e : Event) (a b : Side UnderWay) → Same d a b
      → Same d (byte_cycle events now e a) (byte_cycle [] now e b)
  same_cycle now e a b s =
      let f = cycle_port events now e a (quiet a.done s.done) in
      let g = cycle_port [] now e b (none_quiet b.done) in
      let h : IsClear (happened_at now e a.port) = happened_clear now e a.port s.clear in
      record {
        port = ap plain f.0 ∙ next_plain now a.masked (happened_at now e a.port) h
            ∙ ap (λ v. next_port now a.masked v) (happened_plain now e a.port s.clear)
            ∙ ap (λ v. next_port now a.masked (happened_at now e v)) s.port
            ∙ ap (λ v. next_port now v (happened_at now e b.port)) s.masked ∙ sym g.0;
        clear = subst IsClear (sym f.0) (next_clear now a.masked (happened_at now e a.port) h);
        masked = f.1 ∙ s.masked ∙ sym g.1;
        done = later events d now e a s.done;
      }

  -- with a quiet host cycles leave the controller and its link as without a host
  pub same_span : (n now : ℕ) (a b : Side UnderWay) → Same d a b → Same d (quietly events n now a) (quietly [] n now b)
  same_span zero now a b s = s
  same_span (suc n) now a b s =
      same_span n (suc now) (byte_cycle events now Quiet a) (byte_cycle [] now Quiet b) (same_cycle now Quiet a b s)

  -- with a quiet host a byte begins as without a host
  pub same_sends : (now : ℕ) (a b : Side UnderWay) → Same d a b → Same d (sends events now a) (sends [] now b)
  same_sends now a b s =
      let a1 : Side UnderWay = byte_cycle events now (Begins true) a in
      let b1 : Side UnderWay = byte_cycle [] now (Begins true) b in
      let a2 : Side UnderWay = quietly events 287 (suc now) a1 in
      let b2 : Side UnderWay = quietly [] 287 (suc now) b1 in
      same_span 31 (289 + now) (byte_cycle events (288 + now) Closes a2) (byte_cycle [] (288 + now) Closes b2)
      (same_cycle (288 + now) Closes a2 b2
      (same_span 287 (suc now) a1 b1 (same_cycle now (Begins true) a b s)))

  -- with a quiet host a byte passes as without a host
  pub same_carried : (meeting : Meeting) (now : ℕ) (a b : Side UnderWay) → Same d a b
      → Same d (carried events meeting now a) (carried [] meeting now b)
  same_carried (Got byte) now a b s =
      let a1 : Side UnderWay = byte_cycle events now (Begins false) a in
      let b1 : Side UnderWay = byte_cycle [] now (Begins false) b in
      same_cycle (320 + now) IsWhole (quietly events 319 (suc now) a1) (quietly [] 319 (suc now) b1)
      (same_span 319 (suc now) a1 b1 (same_cycle now (Begins false) a b s))
  same_carried Inhibited now a b s = same_span 321 now a b s
  same_carried Idle now a b s = same_span 321 now a b s
  same_carried (Sent byte) now a b s =
      same_cycle (320 + now) (Arrives byte) (sends events now a) (sends [] now b) (same_sends now a b s)
  same_carried Cut now a b s = same_span 321 now a b s
