-- A cycle leaves what was read and what is unread as one list, where the host leaves the bytes to INT 09h.
use Rattle.std.proofs.Common.{◌≡◌, ℕ, ◌+◌, List, [], ◌∷◌, ◌++◌, Bool, true, false, not, ◌&&◌, ◌||◌, Some, None, refl, ap, sym, ◌∙◌, subst}
use Rattle.std.proofs.Common.{append_assoc, append-nil}
use Rattle.std.specs.Prelude.{if◌then◌else◌, nat_le, is_some, slice_get}
use Rattle.std.specs.List.{flat_map}
use Rattle.std.specs.declared.option.Option.{Option}
use Rattle.std.proofs.lemmas.Grind.{flat_map-append}
use Rattle.std.proofs.lemmas.List.Folds.{flat_map-map}
use Rattle.board_terms.specs.declared.event.HostAct.{HostAct}
use Rattle.board_terms.specs.declared.event.HostAct.TheVariants.{Write60, Write64, Read60, Mask, Unmask, Take, Flip, Status as AskStatus}
use Rattle.board_terms.specs.declared.event.HostEvent.{HostEvent}
use Rattle.ctl_core.specs.Controller.{ControllerState, interrupt_enabled, is_disabled}
use Rattle.ctl_core.specs.Commands.{Taken, passed, taken_by, taken_from}
use Rattle.ctl_core.specs.declared.command.Parameter.{Parameter}
use Rattle.ctl_core.specs.declared.port.Port.{Port as InputPort}
use Rattle.ctl_core.specs.declared.port.Port.TheVariants.{P60, P64}
use Rattle.ctl_core.specs.declared.controller.Did.TheVariants.{ToKeyboard}
use Rattle.bits.specs.Bits.{without_bit}
use Rattle.ctl_core.specs.declared.port.Input.{Input}
use Rattle.ctl_link.specs.declared.link.Link.{Link}
use Rattle.ctl_link.specs.declared.link.Link.TheVariants.{Free, Hold, Ask, Request, Busy}
use Rattle.ctl_link.specs.declared.port.LinkEnd.{LinkEnd}
use Rattle.ctl_link.specs.Link.{broken_off, held_since, link_after, may_break, moves_link, settled, takes_input, took_where}
use Rattle.ctl_link.specs.Link.{Settled, asking}
use Rattle.host_turn.specs.declared.desk.Desk.{Desk}
use Rattle.host_turn.specs.declared.stamped.Stamped.{Stamped}
use Rattle.host_turn.specs.Host.{Host, Turn, in_silence, read_by_bios, acted, acted_where, is_done, event_turn, interrupts, bios_turn, turn}
use Rattle.host_turn.specs.Cycle.{said_of, Cycled, cycled, host_of, port_by}
use Rattle.host_turn.specs.Run.{Side, desk_of, stamped, goes_on}
use Rattle.pc_tables.specs.declared.item.Item.{Item}
use Rattle.model_controller.specs.declared.UnderWay.{UnderWay}
use Rattle.model_controller.specs.ByteTime.{closed, is_open}
use Rattle.law_quiet_log.specs.Ports.{port_of, ports}
use Rattle.law_quiet_log.proofs.Said.{short_fed}
use Rattle.law_link_times.specs.Reads.{LeavesBytes, read_so_far, unread}

-- the next event leaves the bytes, where there is one
abbrev pub LeavesNext : Option HostEvent → Type 0
LeavesNext None = Unit {0}
LeavesNext (Some e) = LeavesBytes e.act

-- a waiting input is for the keyboard
abbrev pub IsForKeyboard : Option Input → Type 0
IsForKeyboard None = Unit {0}
IsForKeyboard (Some input) = input.port ≡ P60

-- the output buffer is empty but under a hold
abbrev pub IsEmptyBut : Link UnderWay → Bool → Type 0
IsEmptyBut Free full = full ≡ false
IsEmptyBut (Hold since) full = Unit {0}
IsEmptyBut (Ask byte since) full = full ≡ false
IsEmptyBut (Request byte) full = full ≡ false
IsEmptyBut (Busy u) full = full ≡ false

-- a byte under way took no flip
abbrev pub IsUnflipped : Link UnderWay → Type 0
IsUnflipped Free = Unit {0}
IsUnflipped (Hold since) = Unit {0}
IsUnflipped (Ask byte since) = Unit {0}
IsUnflipped (Request byte) = Unit {0}
IsUnflipped (Busy u) = u.flip ≡ None

-- a byte that took no flip has none after it can't be broken off any more
pub closed_unflipped : (l : Link UnderWay) → IsUnflipped l → IsUnflipped (closed l)
closed_unflipped Free e = e
closed_unflipped (Hold since) e = e
closed_unflipped (Ask byte since) e = e
closed_unflipped (Request byte) e = e
closed_unflipped (Busy u) e = e

-- the controller, as far as no turn changes it; 45 is the command byte of the start
pub record IsPlain (mark : Bool) (c : ControllerState) : Type 0 where
  pub input : IsForKeyboard c.input
  pub awaited : c.awaited ≡ None
  pub command : c.command_byte ≡ 0x45
  pub mark_is : c.break_mark ≡ mark

-- the port so
pub record IsSound (mark : Bool) (p : LinkEnd UnderWay) : Type 0 where
  pub plain : IsPlain mark p.core
  pub flip : p.flip ≡ None
  pub empty : IsEmptyBut p.link p.core.output_full
  pub unflipped : IsUnflipped p.link

-- a side at which this was put out so far
pub record HasPut (mark : Bool) (out : List ℕ) (m : Side UnderWay) : Type 0 where
  pub sound : IsSound mark m.port
  pub put : read_so_far m ++ unread m.port.core ≡ out

-- a turn of the host
record Turns (h : Host) (t : Turn) : Type 0 where
  plain : (mark : Bool) → IsPlain mark h.core → IsPlain mark t.host.core
  flip : t.host.flip ≡ h.flip
  empty : h.core.output_full ≡ false → t.host.core.output_full ≡ false
  put : ports t.items ++ unread t.host.core ≡ unread h.core

same : (h : Host) → Turns h (in_silence h)
same h = record { plain = λ mark s. s; flip = refl; empty = λ e. e; put = refl }

acts : (act : HostAct) (h : Host) → LeavesBytes act → Turns h (acted act h)
acts (Write60 byte) h l = record {
  plain = λ mark s. record { input = refl; awaited = s.awaited; command = s.command; mark_is = s.mark_is };
  flip = refl;
  empty = λ e. e;
  put = refl;
}
acts (Write64 byte) h l = absurd l
acts Read60 h l = absurd l
acts Mask h l = record { plain = λ mark s. s; flip = refl; empty = λ e. e; put = refl }
acts Unmask h l = record { plain = λ mark s. s; flip = refl; empty = λ e. e; put = refl }
acts Take h l = record { plain = λ mark s. s; flip = refl; empty = λ e. e; put = refl }
acts AskStatus h l = record { plain = λ mark s. s; flip = refl; empty = λ e. e; put = refl }
acts (Flip bit) h l = absurd l

acts_where : (done : Bool) (act : HostAct) (h : Host) → LeavesBytes act → Turns h (acted_where done act h)
acts_where true act h l = acts act h l
acts_where false act h l = same h

acts_next : (now : ℕ) (next : Option HostEvent) (h : Host) → LeavesNext next → Turns h (event_turn now next h)
acts_next now None h l = same h
acts_next now (Some e) h l = acts_where (is_done now (Some e) h.core) e.act h l

-- INT 09h's read takes what is unread
read : (full : Bool) (h : Host) → h.core.output_full ≡ full → full ≡ true
    → ports (read_by_bios h).items ++ [] ≡ (if full then h.core.output ∷ [] else [])
read false h e t = absurd cc
read true h e t =
    append-nil (ports (read_by_bios h).items)
    ∙ ap (λ v. h.core.output ∷ v) (short_fed h.core.output h.bios).none_read

reads_where : (reads : Bool) (h : Host) → (reads ≡ true → h.core.output_full ≡ true)
    → Turns h (if reads then read_by_bios h else in_silence h)
reads_where false h e = same h
reads_where true h e = record {
  plain = λ mark s. record { input = s.input; awaited = s.awaited; command = s.command; mark_is = s.mark_is };
  flip = refl;
  empty = λ f. refl;
  put = read h.core.output_full h refl (e refl);
}

is_full : (a b c d : Bool) → (a && b && c && d) ≡ true → a ≡ true
is_full true b c d e = refl
is_full false b c d e = absurd cc

serves : (now filled : ℕ) (h : Host) → Turns h (bios_turn now filled h)
serves now filled h =
    reads_where (interrupts now filled h) h
    (is_full h.core.output_full (interrupt_enabled h.core) (not h.masked) (nat_le (filled + 64) now))

turns : (now filled : ℕ) (next : Option HostEvent) (h : Host) → LeavesNext next → Turns h (turn now filled next h)
turns now filled next h l =
    let first : Turn = event_turn now next h in
    let second : Turn = bios_turn now filled first.host in
    let a = acts_next now next h l in
    let b = serves now filled first.host in
    record {
      plain = λ mark s. b.plain mark (a.plain mark s);
      flip = b.flip ∙ a.flip;
      empty = λ e. b.empty (a.empty e);
      put = ap (λ v. v ++ unread second.host.core) (flat_map-append port_of first.items second.items)
          ∙ append_assoc (ports first.items) (ports second.items) (unread second.host.core)
          ∙ ap (λ v. ports first.items ++ v) b.put ∙ a.put;
    }

-- what the controller does by itself
record Settles (mark : Bool) (p q : LinkEnd UnderWay) (said : List Item) : Type 0 where
  sound : IsSound mark q
  full : q.core.output_full ≡ p.core.output_full
  output : q.core.output ≡ p.core.output
  none : ports said ≡ []

breaks : (mark : Bool) (b : Bool) (now : ℕ) (p : LinkEnd UnderWay) → IsSound mark p
    → Settles mark p (if b then record p { link = Hold now } else p) []
breaks mark true now p s = record {
  sound = record { plain = s.plain; flip = s.flip; empty = tt; unflipped = tt };
  full = refl;
  output = refl;
  none = refl;
}
breaks mark false now p s = record { sound = s; full = refl; output = refl; none = refl }

-- the link by itself
let_go : (since : ℕ) (b : Bool) → IsEmptyBut (if b then Free else Hold since) false
let_go since true = refl
let_go since false = tt

asked : (byte since : ℕ) (full b : Bool) → full ≡ false → IsEmptyBut (if b then Request byte else Ask byte since) full
asked byte since full true e = e
asked byte since full false e = e

stays_empty : (now : ℕ) (full disabled awaits : Bool) (l : Link UnderWay) → IsEmptyBut l full
    → IsEmptyBut (link_after now (full || disabled) awaits l) full
stays_empty now full disabled true Free e = e
stays_empty now true disabled false Free e = tt
stays_empty now false true false Free e = tt
stays_empty now false false false Free e = refl
stays_empty now true disabled awaits (Hold since) e = tt
stays_empty now false true awaits (Hold since) e = tt
stays_empty now false false awaits (Hold since) e = let_go since (nat_le (since + 64) now)
stays_empty now full disabled awaits (Ask byte since) e = asked byte since full (nat_le (since + 64) now) e
stays_empty now full disabled awaits (Request byte) e = e
stays_empty now full disabled awaits (Busy u) e = e

none_let_go : (since : ℕ) (b : Bool) → IsUnflipped (if b then Free else Hold since)
none_let_go since true = tt
none_let_go since false = tt

none_asked : (byte since : ℕ) (b : Bool) → IsUnflipped (if b then Request byte else Ask byte since)
none_asked byte since true = tt
none_asked byte since false = tt

-- the link by itself puts no flip into a byte under way
pub stays_unflipped : (now : ℕ) (stop awaits : Bool) (l : Link UnderWay) → IsUnflipped l → IsUnflipped (link_after now stop awaits l)
stays_unflipped now stop true Free u = tt
stays_unflipped now true false Free u = tt
stays_unflipped now false false Free u = tt
stays_unflipped now true awaits (Hold since) u = tt
stays_unflipped now false awaits (Hold since) u = none_let_go since (nat_le (since + 64) now)
stays_unflipped now stop awaits (Ask byte since) u = none_asked byte since (nat_le (since + 64) now)
stays_unflipped now stop awaits (Request byte) u = tt
stays_unflipped now stop awaits (Busy under_way) u = u

moves : (mark : Bool) (now : ℕ) (p : LinkEnd UnderWay) → IsSound mark p → Settles mark p (moves_link now p) []
moves mark now p s = record {
  sound = record {
    plain = s.plain;
    flip = s.flip;
    empty = stays_empty now p.core.output_full (is_disabled p.core) p.awaits p.link s.empty;
    unflipped = stays_unflipped now (p.core.output_full || is_disabled p.core) p.awaits p.link s.unflipped;
  };
  full = refl;
  output = refl;
  none = refl;
}

-- a byte that no parameter waits for is for the keyboard
record Hands (byte : ℕ) (s : ControllerState) (t : Taken) : Type 0 where
  did : t.did ≡ ToKeyboard byte
  input : t.state.input ≡ s.input
  awaited : t.state.awaited ≡ s.awaited
  command : t.state.command_byte ≡ without_bit 0x10 s.command_byte
  mark : t.state.break_mark ≡ s.break_mark
  full : t.state.output_full ≡ s.output_full
  output : t.state.output ≡ s.output

passes : (awaited : Option Parameter) (byte : ℕ) (s : ControllerState) → awaited ≡ None
    → Hands byte s (passed awaited byte s)
passes None byte s e = record {
  did = refl;
  input = refl;
  awaited = refl;
  command = refl;
  mark = refl;
  full = refl;
  output = refl;
}
passes (Some parameter) byte s e = absurd cc

taken_so : (port : InputPort) (byte : ℕ) (s : ControllerState) → port ≡ P60 → s.awaited ≡ None
    → Hands byte (record s { input = None; awaited = None }) (taken_by port byte s)
taken_so P60 byte s e a = passes s.awaited byte (record s { input = None; awaited = None }) a
taken_so P64 byte s e a = absurd cc

takes : (mark : Bool) (now : ℕ) (held : Option ℕ) (full : Bool) (input : Option Input) (p : LinkEnd UnderWay)
    → p.core.output_full ≡ full → p.core.input ≡ input → IsSound mark p
    → (let q : Settled UnderWay = took_where now held (if full then None else taken_from input p.core) p in
    Settles mark p q.port (said_of q.did))
takes mark now None full input p f i s = record { sound = s; full = refl; output = refl; none = refl }
takes mark now (Some since) true input p f i s = record { sound = s; full = refl; output = refl; none = refl }
takes mark now (Some since) false None p f i s = record { sound = s; full = refl; output = refl; none = refl }
takes mark now (Some since) false (Some input) p f i s =
    let of_port : input.port ≡ P60 = subst IsForKeyboard i s.plain.input in
    let t : Taken = taken_by input.port input.byte p.core in
    let h = taken_so input.port input.byte p.core of_port s.plain.awaited in
    record {
      sound = record {
        plain = record {
          input = subst IsForKeyboard (sym h.input) tt;
          awaited = h.awaited;
          command = h.command ∙ ap (λ b. without_bit 0x10 b) s.plain.command;
          mark_is = h.mark ∙ s.plain.mark_is;
        };
        flip = s.flip;
        empty = subst (λ d. IsEmptyBut (asking since d p.link) t.state.output_full) (sym h.did) (h.full ∙ f);
        unflipped = subst (λ d. IsUnflipped (asking since d p.link)) (sym h.did) tt;
      };
      full = h.full;
      output = h.output;
      none = ap (λ d. ports (said_of d)) h.did;
    }

settles : (mark : Bool) (now : ℕ) (p : LinkEnd UnderWay) → IsSound mark p
    → Settles mark p (settled now p).port (said_of (settled now p).did)
settles mark now p s =
    let a = takes mark now (held_since now p.awaits p.link) p.core.output_full p.core.input p refl refl s in
    let b = moves mark now (takes_input now p).port a.sound in
    record { sound = b.sound; full = b.full ∙ a.full; output = b.output ∙ a.output; none = a.none }

-- so what is unread is the same
unread_same : (s t : ControllerState) → t.output_full ≡ s.output_full → t.output ≡ s.output → unread t ≡ unread s
unread_same s t full output =
    ap (λ b. if b then t.output ∷ [] else []) full ∙ ap (λ x. if s.output_full then x ∷ [] else []) output

-- a cycle, once it is known what came over the link
record Goes (mark : Bool) (d : Desk UnderWay) (c : Cycled UnderWay) : Type 0 where
  sound : IsSound mark c.desk.port
  empty : d.port.core.output_full ≡ false → c.desk.port.core.output_full ≡ false
  put : ports c.items ++ unread c.desk.port.core ≡ unread d.port.core

cycles : (mark : Bool) (now : ℕ) (next : Option HostEvent) (d : Desk UnderWay) → LeavesNext next → IsSound mark d.port
    → Goes mark d (cycled is_open now next d)
cycles mark now next d l s =
    let t : Turn = turn now d.port.filled next (host_of d) in
    let h = turns now d.port.filled next (host_of d) l in
    let p : LinkEnd UnderWay = port_by t d.port in
    let sound : IsSound mark p = record {
      plain = h.plain mark s.plain;
      flip = h.flip ∙ s.flip;
      empty = still_empty d.port.link d.port.core.output_full t.host.core.output_full h.empty s.empty;
      unflipped = s.unflipped;
    } in
    let b = breaks mark (may_break is_open p.link && not p.awaits && is_some p.core.input) now p sound in
    let q : LinkEnd UnderWay = broken_off is_open now p in
    let e = settles mark now q b.sound in
    let said : List Item = said_of (settled now q).did in
    let last : ControllerState = (settled now q).port.core in
    record {
      sound = e.sound;
      empty = λ f. e.full ∙ b.full ∙ h.empty f;
      put = ap (λ v. v ++ unread last) (flat_map-append port_of t.items said)
          ∙ ap (λ v. (ports t.items ++ v) ++ unread last) e.none
          ∙ ap (λ v. v ++ unread last) (append-nil (ports t.items))
          ∙ ap (λ v. ports t.items ++ v) (unread_same q.core last e.full e.output ∙ unread_same p.core q.core b.full b.output)
          ∙ h.put;
    }
  where
    still_empty : (link : Link UnderWay) (before after : Bool) → (before ≡ false → after ≡ false) → IsEmptyBut link before
        → IsEmptyBut link after
    still_empty Free before after g e = g e
    still_empty (Hold since) before after g e = tt
    still_empty (Ask byte since) before after g e = g e
    still_empty (Request byte) before after g e = g e
    still_empty (Busy u) before after g e = g e

-- what was read so far, with the items of a cycle
read_more : (log : List Stamped) (now : ℕ) (items : List Item)
    → flat_map (λ (s : Stamped). port_of s.item) (log ++ stamped now items)
    ≡ flat_map (λ (s : Stamped). port_of s.item) log ++ ports items
read_more log now items =
    flat_map-append (λ (s : Stamped). port_of s.item) log (stamped now items)
    ∙ ap (λ v. flat_map (λ (s : Stamped). port_of s.item) log ++ v)
    (flat_map-map (λ (s : Stamped). port_of s.item) (λ item. record { cycle = now; item = item }) items)

module _ (events : List HostEvent) (leaves : (i : ℕ) → LeavesNext (slice_get events i)) where
  -- a cycle of a run
  pub goes : (mark : Bool) (out : List ℕ) (now : ℕ) (m : Side UnderWay) → HasPut mark out m
      → HasPut mark out (goes_on is_open events now m)
  unfolding goes_on
  goes mark out now m h =
      let c : Cycled UnderWay = cycled is_open now (slice_get events m.done) (desk_of m) in
      let g = cycles mark now (slice_get events m.done) (desk_of m) (leaves m.done) h.sound in
      record {
        sound = g.sound;
        put = ap (λ v. v ++ unread c.desk.port.core) (read_more m.log now c.items)
            ∙ append_assoc (read_so_far m) (ports c.items) (unread c.desk.port.core)
            ∙ ap (λ v. read_so_far m ++ v) g.put ∙ h.put;
      }

  -- in which an empty output buffer stays so
  pub goes_empty : (mark : Bool) (now : ℕ) (m : Side UnderWay) → IsSound mark m.port
      → m.port.core.output_full ≡ false → (goes_on is_open events now m).port.core.output_full ≡ false
  unfolding goes_on
  goes_empty mark now m s e =
      (cycles mark now (slice_get events m.done) (desk_of m) (leaves m.done) s).empty e
