-- How many falling edges the controller has counted of a byte under way: each is one of the latch's.
use Rattle.std.proofs.Common.{◌≡◌, ◌≤◌, inl, inr, ℕ, ◌+◌, List, [], ◌∷◌, ◌++◌, length, Bool, true, false, not, ◌&&◌}
use Rattle.std.proofs.Common.{Some, None, if◌then◌else◌, ◌==◌, refl, ap, sym, ◌∙◌, arith, length-append}
use Rattle.std.specs.declared.option.Option.{Option}
use Rattle.board_terms.specs.Frame.{byte_of}
use Rattle.board_terms.specs.declared.event.HostEvent.{HostEvent}
use Rattle.board_terms.specs.declared.lines.Lines.{Lines}
use Rattle.ctl_link.specs.Link.{is_busy, received, handed_over, next_link}
use Rattle.ctl_link.specs.Pulls.{pulled}
use Rattle.ctl_link.specs.declared.link.Link.{Link}
use Rattle.ctl_link.specs.declared.link.Link.TheVariants.{Free, Hold, Ask, Request, Busy}
use Rattle.ctl_link.specs.declared.port.LinkEnd.{LinkEnd}
use Rattle.ctl_core.specs.Controller.{ControllerState, asks_again}
use Rattle.ctl_wire.specs.Wire.{drive, edge_at, is_breakable, turned}
use Rattle.ctl_wire.specs.declared.wire.Wire.{Wire}
use Rattle.ctl_wire.specs.declared.wire.Wire.TheVariants.{Recv, Send}
use Rattle.host_turn.specs.Run.{Side, goes_on, says_lights}
use Rattle.joint_run.specs.Joint.{Beside, joint_cycle, latch_of, lights_of}
use Rattle.ctl_wire.specs.Wires.{Pc, board_cycle, looked, wires}
use Rattle.law_wires_agree.proofs.Between.{stays_free}
use Rattle.law_wires_agree.proofs.Breaks.{busy_or_breaks}
use Rattle.law_wires_heard.proofs.Pulls.{link_of}

-- the edges counted
abbrev pub edges_in : Link Wire → ℕ
edges_in Free = 0
edges_in (Hold since) = 0
edges_in (Ask byte since) = 0
edges_in (Request byte) = 0
edges_in (Busy (Recv flip bits)) = length bits
edges_in (Busy (Send byte edges)) = edges

-- if no byte is under way, no falling edge of one is counted
pub none_in : (l : Link Wire) → is_busy l ≡ false → edges_in l ≡ 0
none_in Free h = refl
none_in (Hold since) h = refl
none_in (Ask byte since) h = refl
none_in (Request byte) h = refl
none_in (Busy w) h = absurd cc

none_pulled : (l : Link Wire) (since : ℕ) → pulled l ≡ Some since → edges_in l ≡ 0
none_pulled Free since h = refl
none_pulled (Hold x) since h = refl
none_pulled (Ask byte x) since h = refl
none_pulled (Request byte) since h = refl
none_pulled (Busy w) since h = absurd cc

-- the rest of a cycle counts none
rest_counts : (events : List HostEvent) (now : ℕ) (s : Side Wire) (l : Link Wire) → s.port.link ≡ l
    → edges_in (goes_on is_breakable events now s).port.link ≤ edges_in s.port.link
rest_counts events now s (Busy w) e =
    elim (busy_or_breaks is_breakable events now s w e) [
      | inl stays ↦
          let z : edges_in (goes_on is_breakable events now s).port.link ≡ edges_in s.port.link = ap edges_in (stays ∙ sym e) in
          omega (arith, z)
      | inr broken ↦
          let z : edges_in (goes_on is_breakable events now s).port.link ≡ 0 =
          none_pulled (goes_on is_breakable events now s).port.link now broken.1 in
          omega (arith, z)
    ]
rest_counts events now s Free e =
    let z : edges_in (goes_on is_breakable events now s).port.link ≡ 0 =
    none_in (goes_on is_breakable events now s).port.link (stays_free is_breakable events now s (ap is_busy e)) in
    omega (arith, z)
rest_counts events now s (Hold since) e =
    let z : edges_in (goes_on is_breakable events now s).port.link ≡ 0 =
    none_in (goes_on is_breakable events now s).port.link (stays_free is_breakable events now s (ap is_busy e)) in
    omega (arith, z)
rest_counts events now s (Ask byte since) e =
    let z : edges_in (goes_on is_breakable events now s).port.link ≡ 0 =
    none_in (goes_on is_breakable events now s).port.link (stays_free is_breakable events now s (ap is_busy e)) in
    omega (arith, z)
rest_counts events now s (Request byte) e =
    let z : edges_in (goes_on is_breakable events now s).port.link ≡ 0 =
    none_in (goes_on is_breakable events now s).port.link (stays_free is_breakable events now s (ap is_busy e)) in
    omega (arith, z)

-- an edge counts one at most
either : (c : Bool) (x y : LinkEnd Wire) (n : ℕ) → edges_in x.link ≤ n → edges_in y.link ≤ n → edges_in (if c then x else y).link ≤ n
either true x y n h g = h
either false x y n h g = g

abbrev ask : ℕ → ℕ → Link Wire
ask byte since = Ask byte since

abbrev hold : ℕ → Link Wire
hold since = Hold since

after_none : (now : ℕ) (came : Option ℕ) (s : ControllerState) → edges_in (next_link {F = Wire} now came s) ≡ 0
after_none now (Some byte) s = refl
after_none now None s = by (asks_again s)
  where
    by : (c : Bool) → edges_in (if c then ask 0xfe now else hold now) ≡ 0
    by true = refl
    by false = refl

edge_counts : (now : ℕ) (dat : Bool) (p : LinkEnd Wire) (l : Link Wire) → p.link ≡ l → edges_in (edge_at now dat l p).link ≤ edges_in l + 1
edge_counts now dat p Free e = omega arith
edge_counts now dat p (Hold since) e = let z : edges_in p.link ≡ 0 = ap edges_in e in omega (arith, z)
edge_counts now dat p (Ask byte since) e = let z : edges_in p.link ≡ 0 = ap edges_in e in omega (arith, z)
edge_counts now dat p (Request byte) e = omega arith
edge_counts now dat p (Busy (Recv flip bits)) e =
    let came : Option ℕ = byte_of (turned flip (bits ++ dat ∷ [])) in
    let long : length (bits ++ dat ∷ []) ≡ length bits + 1 = length-append bits (dat ∷ []) in
    let none : edges_in (next_link {F = Wire} now came p.core) ≡ 0 = after_none now came p.core in
    either (length bits == 10) (received now came p) (record p { link = Busy (Recv flip (bits ++ dat ∷ [])) }) (length bits + 1)
    (omega (arith, none)) (omega (arith, long))
edge_counts now dat p (Busy (Send byte edges)) e =
    either (edges == 10) (handed_over p) (record p { link = Busy (Send byte (edges + 1)) }) (edges + 1) (omega arith) (omega arith)

-- one more where the clock falls by the latch
abbrev pub one_if : Bool → ℕ
one_if true = 1
one_if false = 0

-- while the latch leaves the clock alone, a look that sees it fall sees the controller's own pull
look_counts : (c k : Bool) (now : ℕ) (dat : Bool) (p : LinkEnd Wire) (l : Link Wire) → p.link ≡ l
    → edges_in (if c && not (k && (drive l).clk) then edge_at now dat l p else p).link ≤ edges_in l + one_if (c && not k)
look_counts false k now dat p l e = let z : edges_in p.link ≡ edges_in l = ap edges_in e in omega (arith, z)
look_counts true false now dat p l e = edge_counts now dat p l e
look_counts true true now dat p Free e = let z : edges_in p.link ≡ 0 = ap edges_in e in omega (arith, z)
look_counts true true now dat p (Hold since) e = let z : edges_in p.link ≡ 0 = ap edges_in e in omega (arith, z)
look_counts true true now dat p (Ask byte since) e = let z : edges_in p.link ≡ 0 = ap edges_in e in omega (arith, z)
look_counts true true now dat p (Request byte) e = let z : edges_in p.link ≡ 0 = ap edges_in e in omega (arith, z)
look_counts true true now dat p (Busy (Recv flip bits)) e = let z : edges_in p.link ≡ length bits = ap edges_in e in omega (arith, z)
look_counts true true now dat p (Busy (Send byte edges)) e = let z : edges_in p.link ≡ edges = ap edges_in e in omega (arith, z)

board_counts : (events : List HostEvent) (now : ℕ) (latch : Lines) (b : Pc)
    → edges_in (board_cycle events now latch b).side.port.link ≤ edges_in b.side.port.link + one_if (b.clock && not latch.clk)
unfolding board_cycle
board_counts events now latch b =
    let l : Link Wire = b.side.port.link in
    let seen : Side Wire = (looked now (wires latch b) b).side in
    let a : edges_in seen.port.link ≤ edges_in l + one_if (b.clock && not latch.clk) =
    look_counts b.clock latch.clk now (latch.dat && (drive l).dat) b.side.port l refl in
    let r : edges_in (goes_on is_breakable events now seen).port.link ≤ edges_in seen.port.link =
    rest_counts events now seen seen.port.link refl in
    omega (arith, a, r)

-- so does a cycle of the joint run
pub cycle_counts : (events : List HostEvent) (p2 now : ℕ) (s : Beside)
    → edges_in (link_of (joint_cycle events p2 now s)) ≤ edges_in (link_of s) + one_if (s.pc.clock && not (latch_of p2).clk)
unfolding joint_cycle
cycle_counts events p2 now s =
    board_counts events now (latch_of p2) (record s.pc { side = says_lights now s.shown (lights_of p2) s.pc.side })

-- the clock's level at the look of a cycle
pub clock_seen : (events : List HostEvent) (p2 now : ℕ) (s : Beside)
    → (joint_cycle events p2 now s).pc.clock ≡ ((latch_of p2).clk && (drive (link_of s)).clk)
unfolding joint_cycle board_cycle
clock_seen events p2 now s = refl
