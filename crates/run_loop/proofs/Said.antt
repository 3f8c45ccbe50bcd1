-- What a joint step says is after what was said before, with the step's cycles.
use Rattle.std.proofs.Common.{◌≡◌, ◌≤◌, ◌<◌, ℕ, zero, suc, ◌+◌, true, false, List, [], ◌∷◌, ◌++◌, length, get_or, Some, None}
use Rattle.std.proofs.Common.{refl, ap, sym, subst, ◌∙◌, arith}
use Rattle.std.specs.Prelude.{if◌then◌else◌, ◌==◌, slice_get}
use Rattle.std.specs.declared.option.Option.{Option}
use Rattle.std.proofs.lemmas.List.{append-nil, append_assoc}
use Rattle.board_terms.specs.declared.event.Edge.{Edge}
use Rattle.board_terms.specs.declared.event.HostEvent.{HostEvent}
use Rattle.board_terms.specs.declared.lines.Lines.{Lines}
use Rattle.ctl_wire.specs.Wire.{is_breakable}
use Rattle.ctl_wire.specs.declared.Wire.{Wire}
use Rattle.host_turn.specs.declared.stamped.Stamped.{Stamped}
use Rattle.host_turn.specs.Cycle.{Cycled, cycled}
use Rattle.host_turn.specs.Run.{desk_of, goes_on, lights_said, says_lights, stamped}
use Rattle.pc_tables.specs.declared.item.Item.{Item}
use Rattle.mcs48_core.specs.Step.{Stepped, stepped}
use Rattle.ctl_wire.specs.Wires.{Pc, board_cycle, looked, wires}
use Rattle.joint_run.specs.Joint.{Beside, joint_board, joint_cycle, latch_of, lights_of, log_of}
use Rattle.joint_run.specs.Run.{World, after_step, joint_step, seen, after_cycles}
use Rattle.run_loop.specs.Running.{AreIn}

-- what was said in cycles from one on and before another is put after a log
pub record Said (from to : ℕ) (before after : List Stamped) : Type 0 where
  pub more : List Stamped
  pub afterwards : after ≡ before ++ more
  pub each : AreIn from to more

-- items before a cycle are before a later one
pub all_in_more : (a b c : ℕ) (xs : List Stamped) → b ≤ c → AreIn a b xs → AreIn a c xs
all_in_more a b c [] l h = h
all_in_more a b c (x ∷ xs) l h = let k = h.0.1 in ((h.0.0, omega (arith, k, l)), all_in_more a b c xs l h.1)

-- items from a cycle on are from an earlier one on
pub all_in_less : (a b c : ℕ) (xs : List Stamped) → a ≤ b → AreIn b c xs → AreIn a c xs
all_in_less a b c [] l h = h
all_in_less a b c (x ∷ xs) l h = let k = h.0.0 in ((omega (arith, k, l), h.0.1), all_in_less a b c xs l h.1)

-- an item among those of some cycles
pub one_in : (a b : ℕ) (xs : List Stamped) (i : ℕ) (d : Stamped) → AreIn a b xs → i < length xs → (get_or xs i d).cycle < b
one_in a b [] i d h l = absurd (omega (arith, l))
one_in a b (x ∷ xs) zero d h l = h.0.1
one_in a b (x ∷ xs) (suc i) d h l = one_in a b xs i d h.1 (omega (arith, l))

all_in_both : (a b : ℕ) (xs ys : List Stamped) → AreIn a b xs → AreIn a b ys → AreIn a b (xs ++ ys)
all_in_both a b [] ys h k = k
all_in_both a b (x ∷ xs) ys h k = (h.0, all_in_both a b xs ys h.1 k)

-- what was said in some cycles and in those after them was said in all of them
pub said_then : (a b c : ℕ) (x y z : List Stamped) → a ≤ b → b ≤ c → Said a b x y → Said b c y z → Said a c x z
said_then a b c x y z l m h k = record {
  more = h.more ++ k.more;
  afterwards = k.afterwards ∙ ap (λ v. v ++ k.more) h.afterwards ∙ append_assoc x h.more k.more;
  each = all_in_both a c h.more k.more (all_in_more a b c h.more m h.each) (all_in_less a b c k.more l k.each);
}

stamped_in : (now : ℕ) (items : List Item) → AreIn now (suc now) (stamped now items)
stamped_in now [] = tt
stamped_in now (item ∷ items) = ((omega arith, omega arith), stamped_in now items)

lights_in : (now shown lights : ℕ) → AreIn now (suc now) (lights_said now shown lights)
lights_in now shown lights =
    elim (lights == shown) as (λ b.
    AreIn now (suc now)
    (if b then [] else record { cycle = now; item = Rattle.pc_tables.specs.declared.item.Item.TheVariants.Lights lights } ∷ [])) [
      | true ↦ tt
      | false ↦ ((omega arith, omega arith), tt)
    ]

-- a look leaves the log
look_log : (now : ℕ) (line : Lines) (b : Pc) → (looked now line b).side.log ≡ b.side.log
look_log now line b = refl

cycle_log : (events : List HostEvent) (p2 now : ℕ) (s : Beside) → Said now (suc now) (log_of s) (log_of (joint_cycle events p2 now s))
unfolding joint_cycle board_cycle goes_on
cycle_log events p2 now s =
    let lit : Pc = record s.pc { side = says_lights now s.shown (lights_of p2) s.pc.side } in
    let l : Pc = looked now (wires (latch_of p2) lit) lit in
    let c : Cycled Wire = cycled is_breakable now (slice_get events l.side.done) (desk_of l.side) in
    let from_look : l.side.log ≡ s.pc.side.log ++ lights_said now s.shown (lights_of p2) = look_log now (wires (latch_of p2) lit) lit in
    record {
      more = lights_said now s.shown (lights_of p2) ++ stamped now c.items;
      afterwards = ap (λ v. v ++ stamped now c.items) from_look
          ∙ append_assoc s.pc.side.log (lights_said now s.shown (lights_of p2)) (stamped now c.items);
      each = all_in_both now (suc now) (lights_said now s.shown (lights_of p2)) (stamped now c.items)
          (lights_in now s.shown (lights_of p2)) (stamped_in now c.items);
    }

cycles_log : (events : List HostEvent) (p2 n now : ℕ) (s : Beside)
    → Said now (now + n) (log_of s) (log_of (after_cycles n now (joint_cycle events p2) s))
cycles_log events p2 zero now s = record { more = []; afterwards = sym (append-nil (log_of s)); each = tt }
cycles_log events p2 (suc n) now s =
    let first = cycle_log events p2 now s in
    let rest = cycles_log events p2 n (now + 1) (joint_cycle events p2 now s) in
    let e : suc now ≡ now + 1 = omega arith in
    let f : now + 1 + n ≡ now + suc n = omega arith in
    subst (λ (k : ℕ). Said now k (log_of s) (log_of (after_cycles n (now + 1) (joint_cycle events p2) (joint_cycle events p2 now s)))) f
    (said_then now (now + 1) (now + 1 + n) (log_of s) (log_of (joint_cycle events p2 now s))
    (log_of (after_cycles n (now + 1) (joint_cycle events p2) (joint_cycle events p2 now s)))
    (omega arith) (omega arith) (subst (λ (k : ℕ). Said now k (log_of s) (log_of (joint_cycle events p2 now s))) e first) rest)

after_log : (edges : List Edge) (events : List HostEvent) (w next : World Beside) (n : Option Stepped)
    → after_step (joint_board edges events) w n ≡ Some next → Said w.cycle next.cycle (log_of w.board) (log_of next.board)
after_log edges events w next None h = absurd cc
after_log edges events w next (Some n) h =
    let e : record { cpu = n.cpu; board = after_cycles n.cycles w.cycle (joint_cycle events n.cpu.p2) w.board; cycle = w.cycle + n.cycles }
    ≡ next = cc h in
    subst (λ (v : World Beside). Said w.cycle v.cycle (log_of w.board) (log_of v.board)) e
    (cycles_log events n.cpu.p2 n.cycles w.cycle w.board)

-- what a joint step says
pub step_log : (edges : List Edge) (events : List HostEvent) (bytes : List ℕ) (w next : World Beside)
    → joint_step (joint_board edges events) bytes w ≡ Some next → Said w.cycle next.cycle (log_of w.board) (log_of next.board)
step_log edges events bytes w next h = after_log edges events w next (stepped bytes (seen (joint_board edges events) w) w.cpu) h
