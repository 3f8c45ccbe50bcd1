-- How a frame of the keyboard ends: it arrives whole, or was broken off.
use Rattle.std.proofs.Common.{◌≡◌, ℕ, suc, ◌+◌, ◌-◌, ◌*◌, ◌≤◌, ◌<◌, List, [], ◌∷◌, ◌++◌, Bool, true}
use Rattle.std.proofs.Common.{false, ◌&&◌, Some, None, refl, ap, sym, ◌∙◌, subst, arith}
use Rattle.std.specs.Prelude.{if◌then◌else◌, nat_lt}
use Rattle.std.proofs.lemmas.Bool.Decides.{nat_tests}
use Rattle.std.specs.declared.option.Option.{Option}
use Rattle.ctl_core.specs.Controller.{ControllerState, asks_again}
use Rattle.ctl_link.specs.declared.link.Link.{Link}
use Rattle.ctl_link.specs.declared.link.Link.TheVariants.{Free, Hold, Ask, Request, Busy}
use Rattle.ctl_link.specs.declared.port.LinkEnd.{LinkEnd}
use Rattle.ctl_link.specs.Link.{next_link, received, is_busy}
use Rattle.board_terms.specs.declared.event.HostEvent.{HostEvent}
use Rattle.host_turn.specs.Run.{Side, goes_on}
use Rattle.board_terms.specs.declared.lines.Lines.{Lines}
use Rattle.board_terms.specs.Frame.{byte_of}
use Rattle.ctl_wire.specs.declared.wire.Wire.{Wire}
use Rattle.ctl_wire.specs.declared.wire.Wire.TheVariants.{Recv}
use Rattle.ctl_wire.specs.Wire.{edge_at, turned, is_breakable}
use Rattle.ctl_wire.specs.Wires.{Pc, board_cycle}
use Rattle.model_controller.specs.declared.UnderWay.{UnderWay}
use Rattle.model_controller.specs.ByteTime.{quietly, byte_cycle, happened_at, closed, Quiet, Begins, Closes}
use Rattle.model_controller.specs.ByteTime.{Arrives, arrived_in, arriving, sends, is_open}
use Rattle.model_controller.proofs.Quiet.{quiet_more}
use Rattle.law_wires_agree.specs.Without.{seen_in_bytes, without_bits, port_by, link_by}
use Rattle.law_wires_agree.specs.Cycles.{board_cycles}
use Rattle.law_wires_agree.specs.Cells.{IsFrame, bits_to}
use Rattle.law_wires_agree.specs.InFrame.{up_to}
use Rattle.law_wires_agree.proofs.Spans.{IsAt, and-true}
use Rattle.law_wires_agree.proofs.Between.{between, stays_free}
use Rattle.law_wires_agree.proofs.Same.{received_same}
use Rattle.law_wires_agree.proofs.Frames.{fall_cycle, event_by}
use Rattle.law_wires_agree.proofs.Ways.{sent_way, afterwards_first}
use Rattle.law_wires_agree.proofs.CellByCell.{IsThrough, IsAfterCells, cycles_more}
use Rattle.law_wires_agree.proofs.QuietCells.{all_cells, quiet_cells}

busy_seen : (l : Link Wire) → is_busy l ≡ false → is_busy (link_by without_bits l) ≡ false
busy_seen Free h = refl
busy_seen (Hold since) h = refl
busy_seen (Ask byte since) h = refl
busy_seen (Request byte) h = refl
busy_seen (Busy w) h = absurd cc

-- where no byte is under way, none closes and none arrives
closed_idle : (l : Link UnderWay) → is_busy l ≡ false → closed l ≡ l
closed_idle Free h = refl
closed_idle (Hold since) h = refl
closed_idle (Ask byte since) h = refl
closed_idle (Request byte) h = refl
closed_idle (Busy u) h = absurd cc

closes_idle : (events : List HostEvent) (now : ℕ) (m : Side UnderWay) → is_busy m.port.link ≡ false
    → byte_cycle events now Closes m ≡ byte_cycle events now Quiet m
closes_idle events now m h =
    event_by events now Closes m
    ∙ ap (λ l. goes_on is_open events now (record m { port = record m.port { link = l } })) (closed_idle m.port.link h)
    ∙ sym (event_by events now Quiet m)

none_arrives : (now byte : ℕ) (p : LinkEnd UnderWay) (l : Link UnderWay) → is_busy l ≡ false → arrived_in now byte l p ≡ p
none_arrives now byte p Free h = refl
none_arrives now byte p (Hold since) h = refl
none_arrives now byte p (Ask asked since) h = refl
none_arrives now byte p (Request asked) h = refl
none_arrives now byte p (Busy u) h = absurd cc

arrives_idle : (events : List HostEvent) (now byte : ℕ) (m : Side UnderWay) → is_busy m.port.link ≡ false
    → byte_cycle events now (Arrives byte) m ≡ byte_cycle events now Quiet m
arrives_idle events now byte m h =
    event_by events now (Arrives byte) m
    ∙ ap (λ p. goes_on is_open events now (record m { port = p })) (none_arrives now byte m.port m.port.link h)
    ∙ sym (event_by events now Quiet m)

module _ (events : List HostEvent) (latch : ℕ → Lines) (now byte : ℕ) (b : Pc) where
  abbrev pc_at : ℕ → Pc
  pc_at t = board_cycles events latch t now b

  abbrev m : Side UnderWay
  m = seen_in_bytes b.side

  abbrev y : Side UnderWay
  y = byte_cycle events now (Begins true) m

  -- from a cycle without a byte under way to a later one, while the keyboard leaves the clock alone
  on : (t n k : ℕ) (v : Side UnderWay) → t + n ≡ k → ((o : ℕ) → t + now ≤ o → o < k + now → (latch o).clk ≡ true)
      → is_busy (pc_at t).side.port.link ≡ false
      → seen_in_bytes (pc_at t).side ≡ v
      → (seen_in_bytes (pc_at k).side ≡ quietly events n (t + now) v) × (is_busy (pc_at k).side.port.link ≡ false)
  on t n k v e up idle is =
      let more : pc_at k ≡ board_cycles events latch n (t + now) (pc_at t) = cycles_more events latch t n k now b e in
      let rest = between events latch n (t + now) (pc_at t) (λ o l u. up o l (omega (arith, u, e))) idle in (
        ap (λ (v : Pc). seen_in_bytes v.side) more ∙ rest.0
            ∙ ap (λ s. quietly events n (t + now) s) is,
        ap (λ (v : Pc). is_busy v.side.port.link) more ∙ rest.1,
      )

  -- a frame that was broken off by cycle n of its last cell
  late : (n : ℕ) → n ≤ 31 → (up : (o : ℕ) → 289 + n + now ≤ o → o < 321 + now → (latch o).clk ≡ true)
      → is_busy (pc_at (288 + suc n)).side.port.link ≡ false
      → seen_in_bytes (pc_at (288 + suc n)).side ≡ up_to events true 9 n now m
      → (seen_in_bytes (pc_at 320).side ≡ sends events now m) × (is_busy (pc_at 320).side.port.link ≡ false)
  late n short up idle is =
      let rest : ℕ = 31 - n in
      let e : 288 + suc n + rest ≡ 320 = omega (arith, short) in
      let all : n + rest ≡ 31 = omega (arith, short) in
      let r = on (288 + suc n) rest 320 (up_to events true 9 n now m) e (λ o l u. up o (omega (arith, l)) (omega (arith, u))) idle is in
      let z : 288 + suc n + now ≡ n + (289 + now) = omega arith in (
        r.0 ∙ ap (λ v. quietly events rest (288 + suc n + now) v) (all_cells events now m n)
            ∙ ap (λ j. quietly events rest j
            (quietly events n (289 + now) (byte_cycle events (288 + now) Closes (quietly events 287 (suc now) y)))) z
            ∙ sym (quiet_more events n rest 31 (289 + now) (byte_cycle events (288 + now) Closes (quietly events 287 (suc now) y)) all),
        r.1,
      )

  -- or by that of an earlier one
  early : (j n : ℕ) → j ≤ 8 → n ≤ 31 → (up : (o : ℕ) → 32 * j + suc n + now ≤ o → o < 321 + now → (latch o).clk ≡ true)
      → is_busy (pc_at (32 * j + suc n)).side.port.link ≡ false
      → seen_in_bytes (pc_at (32 * j + suc n)).side ≡ up_to events true j n now m
      → (seen_in_bytes (pc_at 320).side ≡ sends events now m) × (is_busy (pc_at 320).side.port.link ≡ false)
  early j p l short up idle is =
      let t : ℕ = 32 * j + suc p in
      let n : ℕ = 287 - (32 * j + p) in
      let e : t + n ≡ 288 = omega (arith, l, short) in
      let z : t + now ≡ 32 * j + p + suc now = omega arith in
      let f : 32 * j + p + n ≡ 287 = omega (arith, l, short) in
      let to = on t n 288 (up_to events true j p now m) e (λ o a u. up o a (omega (arith, u))) idle is in
      let there : seen_in_bytes (pc_at 288).side ≡ quietly events 287 (suc now) y =
      to.0 ∙ ap (λ v. quietly events n (t + now) v) (quiet_cells events now m j p l)
      ∙ ap (λ j'. quietly events n j' (quietly events (32 * j + p) (suc now) y)) z
      ∙ sym (quiet_more events (32 * j + p) n 287 (suc now) y f) in
      let far : (o : ℕ) → 288 + now ≤ o → o < 321 + now → (latch o).clk ≡ true =
      λ o a u. up o (omega (arith, a, l, short)) u in
      let one = on 288 1 289 (quietly events 287 (suc now) y) refl (λ o a u. far o a (omega (arith, u))) to.1 there in
      let shut : seen_in_bytes (pc_at 289).side ≡ byte_cycle events (288 + now) Closes (quietly events 287 (suc now) y) =
      one.0 ∙ sym (closes_idle events (288 + now) (quietly events 287 (suc now) y)
      (ap (λ s. is_busy s.port.link) (sym there) ∙ busy_seen (pc_at 288).side.port.link to.1)) in
      on 289 31 320 (byte_cycle events (288 + now) Closes (quietly events 287 (suc now) y)) refl
      (λ o a u. far o (omega (arith, a)) (omega (arith, u))) one.1 shut

  -- and so nothing arrives
  pub broken : (j n : ℕ) → j < 10 → n ≤ 31 → (up : (o : ℕ) → 32 * j + suc n + now ≤ o → o < 321 + now → (latch o).clk ≡ true)
      → is_busy (pc_at (32 * j + suc n)).side.port.link ≡ false
      → seen_in_bytes (pc_at (32 * j + suc n)).side ≡ up_to events true j n now m
      → (seen_in_bytes (pc_at 321).side ≡ byte_cycle events (320 + now) (Arrives byte) (sends events now m))
      × (is_busy (pc_at 321).side.port.link ≡ false)
      × (is_busy (sends events now m).port.link ≡ false)
  broken j n below short up idle is =
      let to = at_last (nat_lt j 9) refl in
      let far : (o : ℕ) → 320 + now ≤ o → o < 321 + now → (latch o).clk ≡ true =
      λ o a u. up o (omega (arith, a, below, short)) u in
      let one = on 320 1 321 (sends events now m) refl far to.1 to.0 in
      let idle' : is_busy (sends events now m).port.link ≡ false = ap (λ s. is_busy s.port.link) (sym to.0)
      ∙ busy_seen (pc_at 320).side.port.link to.1 in
      (one.0 ∙ sym (arrives_idle events (320 + now) byte (sends events now m) idle'), one.1, idle')
    where
      at_last : (c : Bool) → nat_lt j 9 ≡ c → (seen_in_bytes (pc_at 320).side ≡ sends events now m)
          × (is_busy (pc_at 320).side.port.link ≡ false)
      at_last true e = early j n (grind (arith, nat_tests, e)) short up idle is
      at_last false e =
          let same : j ≡ 9 = grind (arith, nat_tests, e, below) in
          late n short (λ o a u. up o (omega (arith, a, same)) u)
          (subst (λ j. is_busy (pc_at (32 * j + suc n)).side.port.link ≡ false) same idle)
          (subst (λ j. seen_in_bytes (pc_at (32 * j + suc n)).side ≡ up_to events true j n now m) same is)

abbrev asked_at : ℕ → Link Wire
asked_at now = Ask 0xfe now

abbrev held_at : ℕ → Link Wire
held_at now = Hold now

-- after a byte that has come the controller pulls
afterwards_idle : (now : ℕ) (came : Option ℕ) (s : ControllerState) → is_busy (next_link {F = Wire} now came s) ≡ false
afterwards_idle now (Some byte) s = refl
afterwards_idle now None s = by_count (asks_again s)
  where
    by_count : (c : Bool) → is_busy (if c then asked_at now else held_at now) ≡ false
    by_count true = refl
    by_count false = refl

module _ (events : List HostEvent) (latch : ℕ → Lines) (now byte : ℕ) (bits : ℕ → Bool) (is : IsFrame latch now bits)
    (b : Pc) (at : IsAt b Free true)
    (comes : byte_of (turned b.side.port.flip (bits_to bits 11)) ≡ arriving b.side.port.flip byte) where
  abbrev flip : Option ℕ
  flip = b.side.port.flip

  abbrev w : ℕ → Wire
  w k = Recv flip (bits_to bits (suc k))

  abbrev q : LinkEnd Wire
  q = afterwards_first (bits 0) b.side.port

  arrived : (v : Pc) → v.side.port.link ≡ Busy (w 9)
      → port_by without_bits (received (320 + now) (arriving flip byte) v.side.port)
      ≡ happened_at (320 + now) (Arrives byte) (port_by without_bits v.side.port)
  arrived v e =
      received_same without_bits (320 + now) (arriving flip byte) v.side.port
      ∙ sym (ap (λ l. arrived_in (320 + now) byte (link_by without_bits l) (port_by without_bits v.side.port)) e)

  -- a frame that passes all its cells arrives
  pub whole : IsThrough events latch now bits is b q Free w true at (sent_way bits b.side.port) 9
      → (seen_in_bytes (board_cycles events latch 321 now b).side
      ≡ byte_cycle events (320 + now) (Arrives byte) (sends events now (seen_in_bytes b.side)))
      × IsAfterCells (board_cycles events latch 321 now b)
      × ((sends events now (seen_in_bytes b.side)).port.link ≡ Busy (without_bits (w 9)))
  whole through =
      let b' : Pc = board_cycles events latch 320 now b in
      let came : Option ℕ = arriving flip byte in
      let more : board_cycles events latch 321 now b
      ≡ board_cycle events (320 + now) (latch (320 + now)) b' = cycles_more events latch 320 1 321 now b refl in
      let edge : edge_at (320 + now) (bits 10 && true) (Busy (w 9)) b'.side.port ≡ received (320 + now) came b'.side.port =
      ap (λ d. received (320 + now) (byte_of (turned flip (bits_to bits 10 ++ d ∷ []))) b'.side.port)
      (and-true (bits 10)) ∙ ap (λ o. received (320 + now) o b'.side.port) comes in
      let c = fall_cycle events (320 + now) (latch (320 + now)) b' (Busy (w 9))
      (received (320 + now) came b'.side.port) (Arrives byte) through.there is.ends
      (ap (λ d. edge_at (320 + now) (d && true) (Busy (w 9)) b'.side.port) is.last ∙ edge) (arrived b' through.there.link_is) in
      let sent : seen_in_bytes b'.side ≡ sends events now (seen_in_bytes b.side) = through.agrees
      ∙ all_cells events now (seen_in_bytes b.side) 31 in (
        ap (λ (v : Pc). seen_in_bytes v.side) more ∙ c.0 ∙ ap (λ v. byte_cycle events (320 + now) (Arrives byte) v) sent,
        record {
          low = ap (λ (v : Pc). v.clock) more ∙ c.2;
          free = ap (λ (v : Pc). is_busy v.side.port.link) more ∙ ap (λ v. is_busy v.port.link) c.1
              ∙ stays_free is_breakable events (320 + now)
              (record b'.side { port = received (320 + now) came b'.side.port }) (afterwards_idle (320 + now) came b'.side.port.core);
        },
        ap (λ m. m.port.link) (sym sent) ∙ ap (λ l. link_by without_bits l) through.there.link_is,
      )
