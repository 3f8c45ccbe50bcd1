-- In quiet cycles nothing but the clock's level is noted.
use Rattle.std.proofs.Common.{◌≡◌, ◌≤◌, ◌<◌, ℕ, zero, suc, ◌+◌, ◌-◌, List, [], ◌∷◌, ◌++◌, Bool, true}
use Rattle.std.proofs.Common.{false, not, ◌&&◌, Some, None, refl, ap, ◌∙◌, subst, arith}
use Rattle.std.specs.Prelude.{◌==◌, if◌then◌else◌, slice_get}
use Rattle.std.proofs.lemmas.Bool.{not-true, not_from_false}
use Rattle.std.proofs.lemmas.Bool.Decides.{nat_tests}
use Rattle.std.proofs.Math.Bool.{and-true}
use Rattle.std.specs.declared.option.Option.{Option}
use Rattle.board_terms.specs.declared.event.HostEvent.{HostEvent}
use Rattle.board_terms.specs.declared.lines.Lines.{Lines}
use Rattle.ctl_link.specs.declared.link.Link.{Link}
use Rattle.ctl_link.specs.declared.link.Link.TheVariants.{Free, Hold, Ask, Request, Busy}
use Rattle.ctl_wire.specs.declared.wire.Wire.{Wire}
use Rattle.ctl_wire.specs.Wire.{drive, edge_at, is_breakable}
use Rattle.bits.proofs.Every.{and-left, and-right}
use Rattle.ctl_core.specs.Controller.{is_idle}
use Rattle.host_turn.specs.Cycle.{Cycled, cycled}
use Rattle.host_turn.specs.Rest.{is_free, is_at_rest, is_due}
use Rattle.host_turn.specs.Run.{lights_said, stamped}
use Rattle.host_turn.proofs.Rest.{rests}
use Rattle.pc_tables.specs.declared.item.Item.TheVariants.{Lights}
use Rattle.joint_run.specs.declared.outside.Outside.{Outside}
use Rattle.ctl_wire.specs.Wires.{joined}
use Rattle.joint_run.specs.Joint.{Beside, latch_of, lights_of, joint_cycle}
use Rattle.joint_run.specs.Due.{beside, passed}
use Rattle.joint_run.specs.Cycle.{Passed, is_quiet, looked_outside, outside_cycle}
use Rattle.joint_run.proofs.Passing.{cycle_is}

both : (a b : Bool) → a ≡ true → b ≡ true → (a && b) ≡ true
both true b h k = k
both false b h k = absurd cc

-- what falls to a level doesn't fall from it again
no_second_fall : (a : Bool) → (a && not a) ≡ false
no_second_fall true = refl
no_second_fall false = refl

-- an event that isn't due in a cycle wasn't due in an earlier one
not_due_before : (now last : ℕ) (next : Option HostEvent) → now ≤ last → is_due last next ≡ false → is_due now next ≡ false
not_due_before now last None h e = refl
not_due_before now last (Some event) h e = grind (arith, nat_tests, h, e)

-- a free link leaves the wires to the keyboard
pub wires_free : (l : Lines) (k : Link Wire) → is_free k ≡ true → joined l (drive k) ≡ l
wires_free l Free h =
    ap (λ a. record { clk = a; dat = l.dat && true }) (and-true l.clk) ∙ ap (λ a. record { clk = l.clk; dat = a }) (and-true l.dat)
wires_free l (Hold since) h = absurd cc
wires_free l (Ask byte since) h = absurd cc
wires_free l (Request byte) h = absurd cc
wires_free l (Busy x) h = absurd cc

-- the clock's level is noted
abbrev pub noted : ℕ → Outside → Outside
noted p2 o = record o { clock = (latch_of p2).clk }

-- what makes a cycle quiet
pub record IsQuiet (now p2 : ℕ) (next : Option HostEvent) (o : Outside) : Type 0 where
  pub rest : is_at_rest o.desk ≡ true
  pub none : is_due now next ≡ false
  pub lights : (lights_of p2 == o.shown) ≡ true
  pub level : (o.clock && not (latch_of p2).clk) ≡ false

-- the test tells it
pub quiet_parts : (now p2 : ℕ) (next : Option HostEvent) (o : Outside) → is_quiet now p2 next o ≡ true → IsQuiet now p2 next o
quiet_parts now p2 next o h =
    let rest : Bool = is_at_rest o.desk in
    let none : Bool = not (is_due now next) in
    let lights : Bool = lights_of p2 == o.shown in
    let level : Bool = not (o.clock && not (latch_of p2).clk) in
    let front : ((rest && none) && lights) ≡ true = and-left ((rest && none) && lights) level h in
    let pair : (rest && none) ≡ true = and-left (rest && none) lights front in
    record {
      rest = and-left rest none pair;
      none = not-true (is_due now next) (and-right rest none pair);
      lights = and-right (rest && none) lights front;
      level = not-true (o.clock && not (latch_of p2).clk) (and-right ((rest && none) && lights) level h);
    }

-- a cycle before a quiet one is quiet in the same state
pub quiet_before : (now last p2 : ℕ) (next : Option HostEvent) (o : Outside) → now ≤ last → IsQuiet last p2 next o → IsQuiet now p2 next o
quiet_before now last p2 next o h q =
    record {
      rest = q.rest;
      none = not_due_before now last next h q.none;
      lights = q.lights;
      level = q.level;
    }

-- a cycle stays quiet once the level is noted
pub quiet_again : (now p2 : ℕ) (next : Option HostEvent) (o : Outside) → IsQuiet now p2 next o → IsQuiet now p2 next (noted p2 o)
quiet_again now p2 next o q = record { rest = q.rest; none = q.none; lights = q.lights; level = no_second_fall (latch_of p2).clk }

-- in a quiet cycle the link is free
pub link_free : (now p2 : ℕ) (next : Option HostEvent) (o : Outside) → IsQuiet now p2 next o → is_free o.desk.port.link ≡ true
link_free now p2 next o q = and-left (is_free o.desk.port.link) (is_idle o.desk.port.core) q.rest

-- a quiet cycle, with any latch and any lights
module _ (line : Lines) (lit now : ℕ) (next : Option HostEvent) (o : Outside) where
  -- the outcome of a cycle, by the clock's level and what the host and the controller did in it
  abbrev ended : Bool → Cycled Wire → Passed
  ended clock c = record {
    outside = record { desk = c.desk; clock = clock; shown = lit };
    items = lights_said now o.shown lit ++ stamped now c.items;
    done = c.done;
  }

  -- the same after a look at these wires
  abbrev ended_at : Lines → Passed
  ended_at l = ended l.clk (cycled is_breakable now next (looked_outside now l o).desk)

  -- the clock doesn't fall
  looks : is_free o.desk.port.link ≡ true → (o.clock && not line.clk) ≡ false
      → ended_at (joined line (drive o.desk.port.link)) ≡ ended line.clk (cycled is_breakable now next o.desk)
  looks free level =
      ap ended_at (wires_free line o.desk.port.link free)
      ∙ ap (λ b. ended line.clk
      (cycled is_breakable now next
      (record o.desk { port = if b then edge_at now line.dat o.desk.port.link o.desk.port else o.desk.port }))) level

  -- nothing is said
  says : (lit == o.shown) ≡ true → ended line.clk (record { desk = o.desk; items = []; done = false })
      ≡ record { outside = record o { clock = line.clk }; items = []; done = false }
  says same =
      let e : lit ≡ o.shown = grind (arith, nat_tests, same) in
      ap (λ b. record {
        outside = record o { clock = line.clk; shown = lit };
        items = (if b then [] else record { cycle = now; item = Lights lit } ∷ []) ++ [];
        done = false;
      }) same
      ∙ ap (λ v. record { outside = record o { clock = line.clk; shown = v }; items = []; done = false }) e

  quiet_with : is_free o.desk.port.link ≡ true → (o.clock && not line.clk) ≡ false → (is_at_rest o.desk && not (is_due now next)) ≡ true
      → (lit == o.shown) ≡ true
      → ended_at (joined line (drive o.desk.port.link)) ≡ record { outside = record o { clock = line.clk }; items = []; done = false }
  quiet_with free level rest same = looks free level ∙ ap (ended line.clk) (rests is_breakable now next o.desk rest) ∙ says same

-- a quiet cycle notes the level
quiet_cycle : (now p2 : ℕ) (next : Option HostEvent) (o : Outside) → IsQuiet now p2 next o
    → outside_cycle now p2 next o ≡ record { outside = noted p2 o; items = []; done = false }
quiet_cycle now p2 next o q =
    quiet_with (latch_of p2) (lights_of p2) now next o (link_free now p2 next o q) q.level
    (both (is_at_rest o.desk) (not (is_due now next)) q.rest (not_from_false (is_due now next) q.none)) q.lights

module _ (events : List HostEvent) (p2 : ℕ) where
  abbrev next : Option HostEvent
  next = slice_get events 0

  -- in the run it does the same, and nothing is done and said
  quiet_tick : (now : ℕ) (o : Outside) → IsQuiet now p2 next o → joint_cycle events p2 now (beside o 0 []) ≡ beside (noted p2 o) 0 []
  quiet_tick now o q =
      cycle_is events p2 now o 0 []
      ∙ ap (λ (c : Passed). beside c.outside (if c.done then 0 + 1 else 0) ([] ++ c.items)) (quiet_cycle now p2 next o q)

  -- in a quiet cycle nothing but the clock's level is noted
  pub quiet_one : (now : ℕ) (o : Outside) → IsQuiet now p2 next o → passed 1 now p2 events o ≡ beside (noted p2 o) 0 []
  quiet_one now o q = quiet_tick now o q

  quiet_two : (now : ℕ) (o : Outside) → IsQuiet (now + 1) p2 next o → passed 2 now p2 events o ≡ beside (noted p2 o) 0 []
  quiet_two now o q =
      ap (λ (s : Beside). joint_cycle events p2 (now + 1) s) (quiet_tick now o (quiet_before now (now + 1) p2 next o (omega arith) q))
      ∙ quiet_tick (now + 1) (noted p2 o) (quiet_again (now + 1) p2 next o q)

  -- a step whose last cycle is quiet notes the level, and no more
  pub quiet_step : (cycles now last : ℕ) (o : Outside) → 0 < cycles → cycles < 3 → last ≡ now + cycles - 1 → IsQuiet last p2 next o
      → passed cycles now p2 events o ≡ beside (noted p2 o) 0 []
  quiet_step zero now last o some few e q = absurd (omega (arith, some))
  quiet_step (suc zero) now last o some few e q = quiet_one now o (subst (λ k. IsQuiet k p2 next o) (omega (arith, e)) q)
  quiet_step (suc (suc zero)) now last o some few e q = quiet_two now o (subst (λ k. IsQuiet k p2 next o) (omega (arith, e)) q)
  quiet_step (suc (suc (suc n))) now last o some few e q = absurd (omega (arith, few))
