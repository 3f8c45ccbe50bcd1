-- A pull of the clock lasts 64 cycles at least.
use Rattle.std.proofs.Common.{◌≡◌, ℕ, suc, zero, ◌+◌, ◌<◌, ◌≤◌, Bool, true, false, not, ◌&&◌, ◌||◌, Some, None, List}
use Rattle.std.proofs.Common.{[], ◌∷◌, ◌++◌, length, refl, ap, sym, subst, ◌∙◌, ◌⊎◌, inl, inr, arith}
use Rattle.std.specs.Prelude.{if◌then◌else◌, ◌==◌}
use Rattle.std.specs.declared.option.Option.{Option}
use Rattle.board_terms.specs.Frame.{byte_of}
use Rattle.ctl_core.specs.Controller.{ControllerState, asks_again, is_disabled}
use Rattle.ctl_core.specs.Commands.{Taken, taken}
use Rattle.ctl_link.specs.declared.link.Link.{Link}
use Rattle.ctl_link.specs.declared.link.Link.TheVariants.{Free, Hold, Ask, Request, Busy}
use Rattle.ctl_link.specs.declared.port.LinkEnd.{LinkEnd}
use Rattle.ctl_link.specs.Link.{received, next_link, handed_over, held_since, took_where}
use Rattle.ctl_link.specs.Link.{takes_input, link_after, settled, broken_off, is_busy}
use Rattle.ctl_link.specs.Pulls.{pulled, Begins}
use Rattle.ctl_link.proofs.Pulls.{keeps_pull, begins_pull}
use Rattle.ctl_link.proofs.Breaks.{unbroken, pulled_idle, breaks_or_not}
use Rattle.ctl_wire.specs.declared.wire.Wire.{Wire}
use Rattle.ctl_wire.specs.declared.wire.Wire.TheVariants.{Recv, Send}
use Rattle.ctl_wire.specs.Wire.{edge_at, turned, drive, is_breakable}
use Rattle.ctl_wire.specs.Cycles.{WireState, looked, port_looked}
use Rattle.ctl_wire.specs.Pulls.{Call, Writes, Reads, Flips, Happening, called, acts, wire_cycle, wire_cycles, PullsLast}

-- the clock is low by the controller where it pulls, and nowhere else
low_is_pulled : (l : Link Wire) → (drive l).clk ≡ false → (h : ℕ) × (pulled l ≡ Some h)
low_is_pulled Free e = absurd cc
low_is_pulled (Hold since) e = (since, refl)
low_is_pulled (Ask byte since) e = (since, refl)
low_is_pulled (Request byte) e = absurd cc
low_is_pulled (Busy (Recv flip bits)) e = absurd cc
low_is_pulled (Busy (Send byte edges)) e = absurd cc

-- while a pull lasts, the controller drives the clock low
pub pulled_is_low : (l : Link Wire) (h : ℕ) → pulled l ≡ Some h → (drive l).clk ≡ false
pulled_is_low Free h e = absurd cc
pulled_is_low (Hold since) h e = refl
pulled_is_low (Ask byte since) h e = refl
pulled_is_low (Request byte) h e = absurd cc
pulled_is_low (Busy wire) h e = absurd cc

-- if the controller lets the clock go, no pull lasts
pub high_is_none : (l : Link Wire) → (drive l).clk ≡ true → pulled l ≡ None
high_is_none Free e = refl
high_is_none (Hold since) e = absurd cc
high_is_none (Ask byte since) e = absurd cc
high_is_none (Request byte) e = refl
high_is_none (Busy wire) e = refl

abbrev ask : ℕ → ℕ → Link Wire
ask byte since = Ask byte since

abbrev hold : ℕ → Link Wire
hold since = Hold since

-- a link is pulled since now, or not at all
abbrev pub OrNow : ℕ → Link Wire → Type 0
OrNow now l = (pulled l ≡ None) ⊎ (pulled l ≡ Some now)

-- a look leaves a pull as it is
pub look_keeps : (c : Bool) (now : ℕ) (dat : Bool) (p : LinkEnd Wire) (l : Link Wire) (h : ℕ) → pulled l ≡ Some h
    → (if c then edge_at now dat l p else p) ≡ p
look_keeps true now dat p Free h e = absurd cc
look_keeps true now dat p (Hold since) h e = refl
look_keeps true now dat p (Ask byte since) h e = refl
look_keeps true now dat p (Request byte) h e = absurd cc
look_keeps true now dat p (Busy wire) h e = absurd cc
look_keeps false now dat p l h e = refl

-- and begins none but now
choice : (c : Bool) (now : ℕ) (x y : LinkEnd Wire) → OrNow now x.link → OrNow now y.link → OrNow now (if c then x else y).link
choice true now x y h g = h
choice false now x y h g = g

-- after the keyboard's byte the clock is pulled
afterwards_pulled : (now : ℕ) (came : Option ℕ) (s : ControllerState) → pulled (next_link {F = Wire} now came s) ≡ Some now
afterwards_pulled now (Some byte) s = refl
afterwards_pulled now None s = by_count (asks_again s)
  where
    by_count : (c : Bool) → pulled (if c then ask 0xfe now else hold now) ≡ Some now
    by_count true = refl
    by_count false = refl

edge_begins : (now : ℕ) (dat : Bool) (p : LinkEnd Wire) (l : Link Wire) → p.link ≡ l → pulled l ≡ None → OrNow now (edge_at now dat l p).link
edge_begins now dat p Free e h = inl refl
edge_begins now dat p (Hold since) e h = absurd cc
edge_begins now dat p (Ask byte since) e h = absurd cc
edge_begins now dat p (Request byte) e h = inl refl
edge_begins now dat p (Busy (Recv flip bits)) e h =
    let came : Option ℕ = byte_of (turned flip (bits ++ dat ∷ [])) in
    choice (length bits == 10) now (received now came p) (record p { link = Busy (Recv flip (bits ++ dat ∷ [])) })
    (inr (afterwards_pulled now came p.core)) (inl refl)
edge_begins now dat p (Busy (Send byte edges)) e h =
    choice (edges == 10) now (handed_over p) (record p { link = Busy (Send byte (edges + 1)) }) (inl refl) (inl refl)

-- if no pull lasts, there is none after a look at the wires, or one that begins now
pub look_begins : (c : Bool) (now : ℕ) (dat : Bool) (p : LinkEnd Wire) → pulled p.link ≡ None
    → OrNow now (if c then edge_at now dat p.link p else p).link
look_begins c now dat p h = choice c now (edge_at now dat p.link p) p (edge_begins now dat p p.link refl h) (inl h)

-- settling keeps what it finds under way, and begins a pull now
begun : (now : ℕ) (l : Link Wire) → Begins now l → OrNow now l
begun now l (inl e) = inl (ap (λ k. pulled k) e)
begun now l (inr e) = inr e

-- what the settling takes leaves a request and a byte under way
took : ℕ → LinkEnd Wire → LinkEnd Wire
took now p = (takes_input now p).port

not_taken : (now : ℕ) (p : LinkEnd Wire) (l : Link Wire) → p.link ≡ l → held_since now p.awaits l ≡ None → (took now p).link ≡ l
unfolding took
not_taken now p l e none =
    let input : Option Taken = if p.core.output_full then None else taken p.core in
    ap (λ k. (took_where now (held_since now p.awaits k) input p).port.link) e
    ∙ ap (λ (s : Option ℕ). (took_where now s input p).port.link) none ∙ e

settled_link : (now : ℕ) (p : LinkEnd Wire)
    → (settled now p).port.link
    ≡ link_after now ((took now p).core.output_full || is_disabled (took now p).core) (took now p).awaits (took now p).link
unfolding took
settled_link now p = refl

settles_still : (now : ℕ) (p : LinkEnd Wire) (l : Link Wire) → p.link ≡ l → held_since now p.awaits l ≡ None
    → ((stop awaits : Bool) → link_after now stop awaits l ≡ l)
    → (settled now p).port.link ≡ l
settles_still now p l e none fixed =
    let q : LinkEnd Wire = took now p in
    settled_link now p ∙ ap (λ k. link_after now (q.core.output_full || is_disabled q.core) q.awaits k) (not_taken now p l e none)
    ∙ fixed (q.core.output_full || is_disabled q.core) q.awaits

-- a link that isn't pulled, settled
settles_none : (now : ℕ) (p : LinkEnd Wire) (l : Link Wire) → p.link ≡ l → pulled l ≡ None → OrNow now (settled now p).port.link
settles_none now p Free e h = begun now (settled now p).port.link (begins_pull Wire now p e)
settles_none now p (Hold since) e h = absurd cc
settles_none now p (Ask byte since) e h = absurd cc
settles_none now p (Request byte) e h = inl (ap (λ k. pulled k) (settles_still now p (Request byte) e refl (λ stop awaits. refl)))
settles_none now p (Busy wire) e h = inl (ap (λ k. pulled k) (settles_still now p (Busy wire) e refl (λ stop awaits. refl)))

settles_once : (now : ℕ) (p : LinkEnd Wire) → OrNow now p.link → OrNow now (settled now p).port.link
settles_once now p (inl h) = settles_none now p p.link refl h
settles_once now p (inr h) = inr (keeps_pull Wire now p now h (omega arith))

unbroken_once : (now : ℕ) (p : LinkEnd Wire) → is_busy p.link ≡ false → OrNow now p.link
    → OrNow now (settled now (broken_off is_breakable now p)).port.link
unbroken_once now p idle h =
    subst (λ (q : LinkEnd Wire). OrNow now (settled now q).port.link) (sym (unbroken is_breakable now p idle)) (settles_once now p h)

-- the break of a byte under way, and the settling: a pull begins now, or none
pub breaks_once : (now : ℕ) (p : LinkEnd Wire) (l : Link Wire) → p.link ≡ l → OrNow now l
    → OrNow now (settled now (broken_off is_breakable now p)).port.link
breaks_once now p (Busy wire) e h =
    elim (breaks_or_not is_breakable now p wire e) [
      | inl stays ↦ inl (ap (λ k. pulled k) stays)
      | inr broken ↦ inr broken.1
    ]
breaks_once now p Free e h = unbroken_once now p (ap is_busy e) (subst (λ k. OrNow now k) (sym e) h)
breaks_once now p (Hold since) e h = unbroken_once now p (ap is_busy e) (subst (λ k. OrNow now k) (sym e) h)
breaks_once now p (Ask byte since) e h = unbroken_once now p (ap is_busy e) (subst (λ k. OrNow now k) (sym e) h)
breaks_once now p (Request byte) e h = unbroken_once now p (ap is_busy e) (subst (λ k. OrNow now k) (sym e) h)

-- the calls of the host leave link and clock as they are
call_leaves : (c : Call) (w : WireState) → (called c w).port.link ≡ w.port.link
call_leaves (Writes port byte) w = refl
call_leaves Reads w = refl
call_leaves (Flips bit) w = refl

calls_leave : (calls : List Call) (w : WireState) → (acts calls w).port.link ≡ w.port.link
calls_leave [] w = refl
calls_leave (c ∷ calls) w = calls_leave calls (called c w) ∙ call_leaves c w

-- a cycle begins no pull but one since now
cycle_begins : (now : ℕ) (h : Happening) (w : WireState) → pulled w.port.link ≡ None → OrNow now (wire_cycle now h w).port.link
unfolding wire_cycle
cycle_begins now h w e =
    let early : WireState = acts h.before w in
    let seen : WireState = looked now h.line early in
    let none : pulled early.port.link ≡ None = ap (λ k. pulled k) (calls_leave h.before w) ∙ e in
    let once : OrNow now (acts h.calls seen).port.link =
    subst (λ k. OrNow now k) (sym (calls_leave h.calls seen))
    (look_begins (early.clock && not h.line.clk) now h.line.dat early.port none) in
    breaks_once now (acts h.calls seen).port (acts h.calls seen).port.link refl once

-- and keeps one for 64 cycles
cycle_keeps : (now since : ℕ) (h : Happening) (w : WireState) → pulled w.port.link ≡ Some since → now < since + 64
    → pulled (wire_cycle now h w).port.link ≡ Some since
unfolding wire_cycle
cycle_keeps now since h w e soon =
    let early : WireState = acts h.before w in
    let seen : WireState = looked now h.line early in
    let late : WireState = acts h.calls seen in
    let held : pulled early.port.link ≡ Some since = ap (λ k. pulled k) (calls_leave h.before w) ∙ e in
    let same : port_looked now early.clock h.line early.port
    ≡ early.port = look_keeps (early.clock && not h.line.clk) now h.line.dat early.port early.port.link since held in
    let still : pulled late.port.link ≡ Some since = ap (λ k. pulled k) (calls_leave h.calls seen)
    ∙ ap (λ (q : LinkEnd Wire). pulled q.link) same ∙ held in
    ap (λ (q : LinkEnd Wire). pulled (settled now q).port.link)
    (unbroken is_breakable now late.port (pulled_idle is_breakable late.port.link since still))
    ∙ keeps_pull Wire now late.port since still soon

cycles_keep : (happens : ℕ → Happening) (n now since : ℕ) (w : WireState) → pulled w.port.link ≡ Some since → now + n ≤ since + 64
    → pulled (wire_cycles happens n now w).port.link ≡ Some since
cycles_keep happens zero now since w e l = e
cycles_keep happens (suc n) now since w e l =
    cycles_keep happens n (suc now) since (wire_cycle now (happens now) w)
    (cycle_keeps now since (happens now) w e (omega (arith, l))) (omega (arith, l))

-- a link that was pulled by this cycle is pulled since now
pub since_now : (now : ℕ) (l : Link Wire) → OrNow now l → (drive l).clk ≡ false → pulled l ≡ Some now
since_now now l (inr e) low = e
since_now now l (inl e) low = let p = low_is_pulled l low in let q : pulled l ≡ Some p.0 = p.1 in absurd (cc (e, q))

-- a pull of the clock that begins lasts 64 cycles at least
pub pulls_last : PullsLast
pulls_last happens now n w high low l =
    let next : WireState = wire_cycle now (happens now) w in
    let start : pulled next.port.link
    ≡ Some now = since_now now next.port.link (cycle_begins now (happens now) w (high_is_none w.port.link high)) low in
    pulled_is_low (wire_cycles happens n (suc now) next).port.link now (cycles_keep happens n (suc now) now next start (omega (arith, l)))
