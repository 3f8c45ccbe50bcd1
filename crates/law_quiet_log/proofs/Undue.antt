-- Cycles in which no event of the host is due, in each state of the link that a quiet run comes to.
use Rattle.std.proofs.Common.{◌≡◌, ℕ, suc, zero, ◌+◌, ◌≤◌, ◌<◌, List, [], ◌∷◌, ◌++◌, Bool, true}
use Rattle.std.proofs.Common.{false, not, ◌&&◌, Some, None, refl, ap, ◌∙◌, arith}
use Rattle.std.specs.Prelude.{if◌then◌else◌, nat_le, slice_get}
use Rattle.std.specs.declared.option.Option.{Option}
use Rattle.std.proofs.lemmas.Bool.Decides.{nat_tests}
use Rattle.std.proofs.lemmas.List.{append-nil}
use Rattle.ctl_link.specs.declared.link.Link.{Link}
use Rattle.ctl_link.specs.declared.link.Link.TheVariants.{Free, Hold, Busy}
use Rattle.ctl_link.specs.Link.{broken_off, settled}
use Rattle.pc_tables.specs.declared.item.Item.TheVariants.{Port as PortItem}
use Rattle.board_terms.specs.declared.event.HostEvent.{HostEvent}
use Rattle.host_turn.specs.declared.stamped.Stamped.{Stamped}
use Rattle.host_turn.specs.Host.{Host, Turn, waits, acted_where, in_silence, bios_turn, read_by_bios}
use Rattle.host_turn.specs.Cycle.{cycled, ends_cycle, host_of, port_by}
use Rattle.host_turn.specs.Run.{Side, stamped, desk_of, with_cycled, goes_on}
use Rattle.host_turn.specs.Rest.{is_due}
use Rattle.int09.specs.Rules.{fed}
use Rattle.model_controller.specs.declared.UnderWay.{UnderWay}
use Rattle.model_controller.specs.ByteTime.{Quiet, byte_cycle, is_open, quietly}
use Rattle.law_quiet_log.proofs.Calm.{Pc, core_of}

-- the side of a quiet run
abbrev pub side : Link UnderWay → Bool → Pc → ℕ → List Stamped → Side UnderWay
side l full q filled log = record {
  port = record { core = core_of full q; filled = filled; link = l; awaits = false; flip = None };
  masked = false;
  bios = q.bios;
  done = q.done;
  log = log;
}

-- a cycle whose event turn is known
abbrev turn_by : ℕ → ℕ → Turn → Turn
turn_by now filled first =
    record {
      host = (bios_turn now filled first.host).host;
      items = first.items ++ (bios_turn now filled first.host).items;
    }

abbrev pub cycle_by : ℕ → Turn → Bool → Side UnderWay → Side UnderWay
cycle_by now first done s =
    with_cycled now
    (ends_cycle (turn_by now s.port.filled first) done
    (settled now (broken_off is_open now (port_by (turn_by now s.port.filled first) s.port))))
    s

-- a quiet cycle is a cycle of the PC's side
pub cycle_is : (events : List HostEvent) (now : ℕ) (s : Side UnderWay)
    → byte_cycle events now Quiet s ≡ with_cycled now (cycled is_open now (slice_get events s.done) (desk_of s)) s
unfolding byte_cycle goes_on
cycle_is events now s = refl

-- no event is due: the host says nothing, and no event is done
abbrev pub undue : ℕ → Side UnderWay → Side UnderWay
undue now s = cycle_by now (in_silence (host_of (desk_of s))) false s

-- by the next event, where there is one
undue_by : (now : ℕ) (o : Option HostEvent) (s : Side UnderWay) → is_due now o ≡ false
    → with_cycled now (cycled is_open now o (desk_of s)) s ≡ undue now s
undue_by now None s h = refl
undue_by now (Some e) s h =
    let w : Bool = waits e.act s.port.core in
    ap (λ c. cycle_by now (acted_where (c && not w) e.act (host_of (desk_of s))) (c && not w) s) h

-- so it is in the run
pub undue_cycle : (events : List HostEvent) (now : ℕ) (s : Side UnderWay) → is_due now (slice_get events s.done) ≡ false
    → byte_cycle events now Quiet s ≡ undue now s
undue_cycle events now s h = cycle_is events now s ∙ undue_by now (slice_get events s.done) s h

-- a log that nothing was added to
pub relogged : (l : Link UnderWay) (full : Bool) (q : Pc) (filled : ℕ) (log : List Stamped)
    → side l full q filled (log ++ []) ≡ side l full q filled log
relogged l full q filled log = ap (λ v. side l full q filled v) (append-nil log)

-- a byte of the keyboard whose frame took no flip, and that may still be broken off, or not
abbrev pub passing : Bool → UnderWay
passing breaks = record { from_keyboard = true; flip = None; breakable = breaks }

-- a free link, and one with a byte under way, stay so: no input waits
free_rests : (now : ℕ) (q : Pc) (filled : ℕ) (log : List Stamped)
    → undue now (side Free false q filled log) ≡ side Free false q filled log
free_rests now q filled log = relogged Free false q filled log

busy_rests : (now : ℕ) (breakable : Bool) (q : Pc) (filled : ℕ) (log : List Stamped)
    → undue now (side (Busy (passing breakable)) false q filled log)
    ≡ side (Busy (passing breakable)) false q filled log
busy_rests now true q filled log = relogged (Busy (passing true)) false q filled log
busy_rests now false q filled log = relogged (Busy (passing false)) false q filled log

-- a hold with nothing put out ends after 64 cycles
pub hold_empty : (now since : ℕ) (q : Pc) (filled : ℕ) (log : List Stamped)
    → undue now (side (Hold since) false q filled log)
    ≡ side (if nat_le (since + 64) now then Free else Hold since) false q filled log
hold_empty now since q filled log = relogged (if nat_le (since + 64) now then Free else Hold since) false q filled log

-- a byte that is put out is read after 64 cycles
abbrev full_turn : Pc → Bool → Turn
full_turn q c =
    let h : Host = record { core = core_of true q; masked = false; bios = q.bios; flip = None } in
    if c then read_by_bios h else in_silence h

abbrev full_by : ℕ → ℕ → Pc → ℕ → List Stamped → Bool → Side UnderWay
full_by now since q filled log c =
    let t : Turn = record { host = (full_turn q c).host; items = [] ++ (full_turn q c).items } in
    let s : Side UnderWay = side (Hold since) true q filled log in
    with_cycled now (ends_cycle t false (settled now (broken_off is_open now (port_by t s.port)))) s

-- by whether it is read
hold_full : (now since : ℕ) (q : Pc) (filled : ℕ) (log : List Stamped)
    → undue now (side (Hold since) true q filled log) ≡ full_by now since q filled log (nat_le (filled + 64) now)
hold_full now since q filled log = refl

-- up to there it stays
full_stays : (now since : ℕ) (q : Pc) (filled : ℕ) (log : List Stamped) → nat_le (filled + 64) now ≡ false
    → undue now (side (Hold since) true q filled log) ≡ side (Hold since) true q filled log
full_stays now since q filled log h =
    hold_full now since q filled log ∙ ap (λ c. full_by now since q filled log c) h
    ∙ relogged (Hold since) true q filled log

-- the side after the read of a byte, under a hold or not
abbrev pub after_read : ℕ → Link UnderWay → Pc → ℕ → List Stamped → Side UnderWay
after_read now l q filled log =
    side l false (record q { bios = (fed q.out q.bios).after }) filled
    (log ++ stamped now (PortItem q.out ∷ (fed q.out q.bios).items))

-- in the cycle of the read
read_now : (now since : ℕ) (q : Pc) (filled : ℕ) (log : List Stamped)
    → full_by now since q filled log true
    ≡ after_read now (if nat_le (since + 64) now then Free else Hold since) q filled log
read_now now since q filled log =
    ap (λ v. side (if nat_le (since + 64) now then Free else Hold since) false
    (record q { bios = (fed q.out q.bios).after }) filled (log ++ stamped now (PortItem q.out ∷ v)))
    (append-nil (fed q.out q.bios).items)

-- where the hold has lasted 64 cycles too, it ends
pub full_read : (now since : ℕ) (q : Pc) (filled : ℕ) (log : List Stamped) → nat_le (filled + 64) now ≡ true
    → nat_le (since + 64) now ≡ true
    → undue now (side (Hold since) true q filled log) ≡ after_read now Free q filled log
full_read now since q filled log h g =
    hold_full now since q filled log ∙ ap (λ c. full_by now since q filled log c) h
    ∙ read_now now since q filled log
    ∙ ap (λ c. after_read now (if c then Free else Hold since) q filled log) g

-- spans of such cycles
module _ (events : List HostEvent) where
  -- no event is due in so many cycles from one on
  abbrev pub IsUndue : Pc → ℕ → ℕ → Type 0
  IsUndue q now n = (y : ℕ) → now ≤ y → y < now + n → is_due y (slice_get events q.done) ≡ false

  -- a side that each cycle leaves as it is stays so
  stays : (s : Side UnderWay) (n now : ℕ) → ((y : ℕ) → now ≤ y → y < now + n → byte_cycle events y Quiet s ≡ s)
      → quietly events n now s ≡ s
  stays s zero now h = refl
  stays s (suc n) now h =
      ap (λ v. quietly events n (suc now) v) (h now (omega arith) (omega arith))
      ∙ stays s n (suc now) (λ y l u. h y (omega (arith, l)) (omega (arith, u)))

  -- a free link
  pub free_span : (q : Pc) (filled : ℕ) (log : List Stamped) (n now : ℕ) → IsUndue q now n
      → quietly events n now (side Free false q filled log) ≡ side Free false q filled log
  free_span q filled log n now h =
      let s : Side UnderWay = side Free false q filled log in
      stays s n now (λ y l u. undue_cycle events y s (h y l u) ∙ free_rests y q filled log)

  -- a byte under way
  pub busy_span : (breakable : Bool) (q : Pc) (filled : ℕ) (log : List Stamped) (n now : ℕ) → IsUndue q now n
      → quietly events n now (side (Busy (passing breakable)) false q filled log)
      ≡ side (Busy (passing breakable)) false q filled log
  busy_span breakable q filled log n now h =
      let s : Side UnderWay = side (Busy (passing breakable)) false q filled log in
      stays s n now (λ y l u. undue_cycle events y s (h y l u) ∙ busy_rests y breakable q filled log)

  -- a hold ends no earlier
  early : (since y : ℕ) → y < since + 64 → nat_le (since + 64) y ≡ false
  early since y l = grind (arith, nat_tests, l)

  -- the first 64 cycles of a hold, with a byte put out as it began, and with none
  pub full_span : (since : ℕ) (q : Pc) (log : List Stamped) (n now : ℕ) → now + n ≤ since + 64 → IsUndue q now n
      → quietly events n now (side (Hold since) true q since log) ≡ side (Hold since) true q since log
  full_span since q log n now e h =
      let s : Side UnderWay = side (Hold since) true q since log in
      stays s n now (λ y l u.
      undue_cycle events y s (h y l u) ∙ full_stays y since q since log (early since y (omega (arith, e, u))))

  -- in cycles in which no event is due a hold with an empty output buffer stays for 64 cycles
  pub empty_span : (since : ℕ) (q : Pc) (filled : ℕ) (log : List Stamped) (n now : ℕ) → now + n ≤ since + 64
      → IsUndue q now n
      → quietly events n now (side (Hold since) false q filled log) ≡ side (Hold since) false q filled log
  empty_span since q filled log n now e h =
      let s : Side UnderWay = side (Hold since) false q filled log in
      stays s n now (λ y l u.
      undue_cycle events y s (h y l u) ∙ hold_empty y since q filled log
      ∙ ap (λ c. side (if c then Free else Hold since) false q filled log) (early since y (omega (arith, e, u))))
