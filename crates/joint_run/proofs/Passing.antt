-- A cycle of the joint run is a cycle of what is outside the processor, and what it does and says.
use Rattle.std.proofs.Common.{◌≡◌, ℕ, ◌+◌, List, [], ◌++◌, append_assoc, Bool, true, false, refl, ap, sym, ◌∙◌}
use Rattle.std.specs.Prelude.{if◌then◌else◌, slice_get}
use Rattle.std.specs.declared.option.Option.{Option}
use Rattle.board_terms.specs.declared.event.HostEvent.{HostEvent}
use Rattle.board_terms.specs.declared.lines.Lines.{Lines}
use Rattle.ctl_link.specs.declared.port.LinkEnd.{LinkEnd}
use Rattle.ctl_wire.specs.declared.wire.Wire.{Wire}
use Rattle.ctl_wire.specs.Cycles.{port_looked}
use Rattle.ctl_wire.specs.Wire.{is_breakable}
use Rattle.host_turn.specs.declared.stamped.Stamped.{Stamped}
use Rattle.host_turn.specs.Cycle.{Cycled, cycled}
use Rattle.host_turn.specs.Run.{Side, desk_of, goes_on, lights_said, stamped, with_cycled}
use Rattle.joint_run.specs.declared.outside.Outside.{Outside}
use Rattle.ctl_wire.specs.Wires.{board_cycle}
use Rattle.joint_run.specs.Joint.{lights_of, joint_cycle}
use Rattle.joint_run.specs.Due.{beside, passed}
use mir.Val.{bool_byte}
use Rattle.joint_run.specs.Cycle.{Passed, outside_wires, looked_outside, outside_cycle}

-- the host and the controller, in a run and by the next event alone
going : (events : List HostEvent) (now : ℕ) (s : Side Wire) →
    goes_on is_breakable events now s ≡ with_cycled now (cycled is_breakable now (slice_get events s.done) (desk_of s)) s
unfolding goes_on
going events now s = refl

opened : (events : List HostEvent) (p2 now : ℕ) (o : Outside) (done : ℕ) (log : List Stamped) →
    let s : Side Wire = record {
      port = o.desk.port;
      masked = o.desk.masked;
      bios = o.desk.bios;
      done = done;
      log = log ++ lights_said now o.shown (lights_of p2);
    } in
    let line : Lines = outside_wires p2 o in
    joint_cycle events p2 now (beside o done log) ≡ record {
      pc = record {
        side = goes_on is_breakable events now (record s { port = port_looked now o.clock line o.desk.port });
        clock = line.clk;
      };
      shown = lights_of p2;
    }
unfolding joint_cycle board_cycle
opened events p2 now o done log = refl

-- a cycle of the joint run is that of what is outside the processor, with the count of events and the log gone on
pub cycle_is : (events : List HostEvent) (p2 now : ℕ) (o : Outside) (done : ℕ) (log : List Stamped) →
    let c : Passed = outside_cycle now p2 (slice_get events done) o in
    joint_cycle events p2 now (beside o done log) ≡ beside c.outside (if c.done then done + 1 else done) (log ++ c.items)
cycle_is events p2 now o done log =
    let lights : List Stamped = lights_said now o.shown (lights_of p2) in
    let s : Side Wire = record { port = o.desk.port; masked = o.desk.masked; bios = o.desk.bios; done = done; log = log ++ lights } in
    let line : Lines = outside_wires p2 o in
    let p : LinkEnd Wire = port_looked now o.clock line o.desk.port in
    let c : Cycled Wire = cycled is_breakable now (slice_get events done) (looked_outside now line o).desk in
    opened events p2 now o done log
    ∙ ap (λ t. record { pc = record { side = t; clock = line.clk }; shown = lights_of p2 }) (going events now (record s { port = p }))
    ∙ ap (λ v. beside (record { desk = c.desk; clock = line.clk; shown = lights_of p2 }) (if c.done then done + 1 else done) v)
    (append_assoc log lights (stamped now c.items))

count_first : (d : Bool) → (if d then 0 + 1 else 0) ≡ bool_byte d
count_first true = refl
count_first false = refl

count_second : (d e : Bool) → (if e then bool_byte d + 1 else bool_byte d) ≡ bool_byte d + bool_byte e
count_second true true = refl
count_second true false = refl
count_second false true = refl
count_second false false = refl

-- the cycles of a step, by the clauses of one cycle
module _ (events : List HostEvent) (p2 now : ℕ) (o o1 : Outside) (d1 : Bool) (i0 i1 : List Stamped) (next1 : Option HostEvent)
    (z : i0 ≡ []) (n1 : next1 ≡ slice_get events 0) (a1 : o1 ≡ (outside_cycle now p2 next1 o).outside)
    (b1 : d1 ≡ (outside_cycle now p2 next1 o).done)
    (e1 : i1 ≡ i0 ++ (outside_cycle now p2 next1 o).items) where
  -- one cycle that is made is the cycle of a step of one
  pub pass_one : passed 1 now p2 events o ≡ beside o1 (bool_byte d1) i1
  pass_one =
      let c : Passed = outside_cycle now p2 next1 o in
      cycle_is events p2 now o 0 []
      ∙ ap (λ v. beside (outside_cycle now p2 v o).outside (if (outside_cycle now p2 v o).done then 0 + 1 else 0)
      ([] ++ (outside_cycle now p2 v o).items)) (sym n1)
      ∙ ap (λ v. beside c.outside (if c.done then 0 + 1 else 0) (v ++ c.items)) (sym z)
      ∙ ap (λ v. beside v (if c.done then 0 + 1 else 0) (i0 ++ c.items)) (sym a1)
      ∙ ap (λ v. beside o1 (if v then 0 + 1 else 0) (i0 ++ c.items)) (sym b1)
      ∙ ap (λ v. beside o1 v (i0 ++ c.items)) (count_first d1)
      ∙ ap (λ v. beside o1 (bool_byte d1) v) (sym e1)

  module _ (o2 : Outside) (d2 : Bool) (i2 : List Stamped) (next2 : Option HostEvent)
      (n2 : next2 ≡ slice_get events (bool_byte d1)) (a2 : o2 ≡ (outside_cycle (now + 1) p2 next2 o1).outside)
      (b2 : d2 ≡ (outside_cycle (now + 1) p2 next2 o1).done) (e2 : i2 ≡ i1 ++ (outside_cycle (now + 1) p2 next2 o1).items) where
    -- two cycles that are made are those of a step of two
    pub pass_two : passed 2 now p2 events o ≡ beside o2 (bool_byte d1 + bool_byte d2) i2
    pass_two =
        let c : Passed = outside_cycle (now + 1) p2 next2 o1 in
        ap (λ v. joint_cycle events p2 (now + 1) v) pass_one
        ∙ cycle_is events p2 (now + 1) o1 (bool_byte d1) i1
        ∙ ap (λ v. beside (outside_cycle (now + 1) p2 v o1).outside
        (if (outside_cycle (now + 1) p2 v o1).done then bool_byte d1 + 1 else bool_byte d1)
        (i1 ++ (outside_cycle (now + 1) p2 v o1).items)) (sym n2)
        ∙ ap (λ v. beside v (if c.done then bool_byte d1 + 1 else bool_byte d1) (i1 ++ c.items)) (sym a2)
        ∙ ap (λ v. beside o2 (if v then bool_byte d1 + 1 else bool_byte d1) (i1 ++ c.items)) (sym b2)
        ∙ ap (λ v. beside o2 v (i1 ++ c.items)) (count_second d1 d2)
        ∙ ap (λ v. beside o2 (bool_byte d1 + bool_byte d2) v) (sym e2)
