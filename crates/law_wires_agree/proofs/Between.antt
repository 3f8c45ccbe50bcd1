-- Between frames.
use Rattle.std.proofs.Common.{◌≡◌, ℕ, suc, zero, ◌+◌, ◌≤◌, ◌<◌, List, Bool, true, false, not}
use Rattle.std.proofs.Common.{◌&&◌, ◌||◌, Some, None, refl, ap, sym, ◌∙◌, arith}
use Rattle.std.specs.Prelude.{if◌then◌else◌, nat_le}
use Rattle.std.specs.declared.option.Option.{Option}
use Rattle.ctl_core.specs.Controller.{is_disabled}
use Rattle.ctl_core.specs.Commands.{Taken, taken}
use Rattle.ctl_core.specs.declared.controller.Did.{Did}
use Rattle.ctl_core.specs.declared.controller.Did.TheVariants.{Nothing, ToKeyboard, Output, Pulse}
use Rattle.ctl_link.specs.declared.link.Link.{Link}
use Rattle.ctl_link.specs.declared.link.Link.TheVariants.{Free, Hold, Ask, Request, Busy}
use Rattle.ctl_link.specs.declared.port.LinkEnd.{LinkEnd}
use Rattle.ctl_link.specs.Link.{held_since, asking, took_where, takes_input, link_after, is_busy, settled}
use Rattle.board_terms.specs.declared.event.HostEvent.{HostEvent}
use Rattle.host_turn.specs.Run.{Side, goes_on}
use Rattle.host_turn.proofs.Turns.{turn_of}
use Rattle.board_terms.specs.declared.lines.Lines.{Lines}
use Rattle.ctl_wire.specs.declared.wire.Wire.{Wire}
use Rattle.ctl_wire.specs.Wire.{edge_at, drive, is_breakable}
use Rattle.ctl_wire.specs.Wires.{Pc, board_cycle, looked, wires}
use Rattle.model_controller.specs.ByteTime.{quietly, byte_cycle, Quiet}
use Rattle.law_wires_agree.specs.Without.{seen_in_bytes}
use Rattle.law_wires_agree.specs.Laws.{BetweenFrames}
use Rattle.law_wires_agree.specs.Cycles.{board_cycles}
use Rattle.law_wires_agree.proofs.Same.{in_bytes_same}
use Rattle.ctl_link.proofs.Breaks.{unbroken}
use Rattle.law_wires_agree.proofs.Spans.{board_by, clock_by, still_cycle}

-- whether a byte is under way is for the link alone to say
module _ {F : Type 0} (opens : F → Bool) where
  either_busy : (c : Bool) (x y : Link F) → is_busy x ≡ false → is_busy y ≡ false → is_busy (if c then x else y) ≡ false
  either_busy true x y hx hy = hx
  either_busy false x y hx hy = hy

  asking_free : (since : ℕ) (d : Did) (l : Link F) → is_busy l ≡ false → is_busy (asking since d l) ≡ false
  asking_free since Nothing l h = h
  asking_free since (ToKeyboard byte) l h = refl
  asking_free since (Output byte) l h = h
  asking_free since (Pulse lines) l h = h

  where_free : (now : ℕ) (since : Option ℕ) (input : Option Taken) (p : LinkEnd F) → is_busy p.link ≡ false
      → is_busy (took_where now since input p).port.link ≡ false
  where_free now None input p h = h
  where_free now (Some since) None p h = h
  where_free now (Some since) (Some t) p h = asking_free since t.did p.link h

  after_free : (now : ℕ) (stop awaits : Bool) (l : Link F) → is_busy l ≡ false → is_busy (link_after now stop awaits l) ≡ false
  after_free now stop true Free h = refl
  after_free now true false Free h = refl
  after_free now false false Free h = refl
  after_free now true awaits (Hold since) h = refl
  after_free now false awaits (Hold since) h = either_busy (nat_le (since + 64) now) Free (Hold since) refl refl
  after_free now stop awaits (Ask byte since) h = either_busy (nat_le (since + 64) now) (Request byte) (Ask byte since) refl refl
  after_free now stop awaits (Request byte) h = refl
  after_free now stop awaits (Busy x) h = h

  -- if no byte is under way, none is after a cycle in which nothing comes over the link
  pub stays_free : (events : List HostEvent) (now : ℕ) (s : Side F) → is_busy s.port.link ≡ false
      → is_busy (goes_on opens events now s).port.link ≡ false
  unfolding goes_on
  stays_free events now s h =
      let p : LinkEnd F = Rattle.host_turn.specs.Cycle.port_by (turn_of events now s) s.port in
      let t : LinkEnd F = (takes_input now p).port in
      ap (λ q. is_busy (settled now q).port.link) (unbroken opens now p h)
      ∙ after_free now (t.core.output_full || is_disabled t.core) t.awaits t.link
      (where_free now (held_since now p.awaits p.link) (if p.core.output_full then None else taken p.core) p h)

-- the look, while the keyboard leaves the clock alone
look_still : (now : ℕ) (dat clock : Bool) (p : LinkEnd Wire) (l : Link Wire) → is_busy l ≡ false
    → (if clock && not (true && (drive l).clk) then edge_at now dat l p else p) ≡ p
look_still now dat true p Free h = refl
look_still now dat true p (Hold since) h = refl
look_still now dat true p (Ask byte since) h = refl
look_still now dat true p (Request byte) h = refl
look_still now dat true p (Busy x) h = absurd cc
look_still now dat false p l h = refl

-- between frames a look at the wires changes nothing while the keyboard lets the clock go
pub looks_still : (now : ℕ) (latch : Lines) (b : Pc) → latch.clk ≡ true → is_busy b.side.port.link ≡ false
    → (looked now (wires latch b) b).side ≡ b.side
looks_still now latch b up h =
    let p : LinkEnd Wire = b.side.port in
    let dat : Bool = latch.dat && (drive p.link).dat in
    ap (λ c. record b.side { port = if b.clock && not (c && (drive p.link).clk) then edge_at now dat p.link p else p }) up
    ∙ ap (λ q. record b.side { port = q }) (look_still now dat b.clock p p.link h)

-- between frames, while the keyboard lets the clock go, a cycle is in byte time a quiet one
pub one_cycle : (events : List HostEvent) (now : ℕ) (latch : Lines) (b : Pc) → latch.clk ≡ true → is_busy b.side.port.link ≡ false
    → seen_in_bytes (board_cycle events now latch b).side ≡ byte_cycle events now Quiet (seen_in_bytes b.side)
unfolding board_cycle byte_cycle
one_cycle events now latch b up h =
    ap (λ s. seen_in_bytes (goes_on is_breakable events now s)) (looks_still now latch b up h) ∙ sym (in_bytes_same events now b.side)

-- between frames no byte begins in a cycle in which the keyboard lets the clock go
pub one_free : (events : List HostEvent) (now : ℕ) (latch : Lines) (b : Pc) → latch.clk ≡ true → is_busy b.side.port.link ≡ false
    → is_busy (board_cycle events now latch b).side.port.link ≡ false
unfolding board_cycle
one_free events now latch b up h =
    ap (λ s. is_busy (goes_on is_breakable events now s).port.link) (looks_still now latch b up h)
    ∙ stays_free is_breakable events now b.side h

-- any number of cycles
pub between : BetweenFrames
between events latch zero now b up h = (refl, h)
between events latch (suc n) now b up h =
    let next : Pc = board_cycle events now (latch now) b in
    let high : (latch now).clk ≡ true = up now (omega arith) (omega arith) in
    let rest = between events latch n (suc now) next (λ o l u. up o (omega (arith, l)) (omega (arith, u)))
    (one_free events now (latch now) b high h) in
    (rest.0 ∙ ap (λ m. quietly events n (suc now) m) (one_cycle events now (latch now) b high h), rest.1)

-- the look, while the clock was low and the keyboard keeps it low
looks_low : (now : ℕ) (latch : Lines) (b : Pc) → b.clock ≡ false → (looked now (wires latch b) b).side ≡ b.side
looks_low now latch b h =
    let line : Lines = wires latch b in
    ap (λ c. record b.side { port = if c && not line.clk then edge_at now line.dat b.side.port.link b.side.port else b.side.port }) h

-- cycles after an edge, in which the keyboard keeps the clock low
pub low_span : (events : List HostEvent) (latch : ℕ → Lines) (n now : ℕ) (b : Pc)
    → ((o : ℕ) → now ≤ o → o < now + n → (latch o).clk ≡ false) → b.clock ≡ false
    → is_busy b.side.port.link ≡ false
    → (seen_in_bytes (board_cycles events latch n now b).side ≡ quietly events n now (seen_in_bytes b.side))
    × (is_busy (board_cycles events latch n now b).side.port.link ≡ false)
low_span events latch zero now b low c h = (refl, h)
low_span events latch (suc n) now b low c h =
    let next : Pc = board_cycle events now (latch now) b in
    let same : (looked now (wires (latch now) b) b).side ≡ b.side = looks_low now (latch now) b c in
    let free : is_busy next.side.port.link
    ≡ false = ap (λ s. is_busy s.port.link) (board_by events now (latch now) b b.side same)
    ∙ stays_free is_breakable events now b.side h in
    let down : next.clock ≡ false = clock_by events now (latch now) b
    ∙ ap (λ k. k && (drive b.side.port.link).clk) (low now (omega arith) (omega arith)) in
    let rest = low_span events latch n (suc now) next (λ o l u. low o (omega (arith, l)) (omega (arith, u))) down free in
    (rest.0 ∙ ap (λ m. quietly events n (suc now) m) (still_cycle events now (latch now) b same), rest.1)
