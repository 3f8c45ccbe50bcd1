-- The parts of a cycle outside the processor, one after another, are the cycle, whatever the host and the controller do.
use Rattle.std.proofs.Common.{◌≡◌, ℕ, List, ◌++◌, append_assoc, Bool, ap, ◌∙◌}
use Rattle.ctl_wire.specs.declared.wire.Wire.{Wire}
use Rattle.host_turn.specs.declared.desk.Desk.{Desk}
use Rattle.host_turn.specs.declared.stamped.Stamped.{Stamped}
use Rattle.host_turn.specs.Cycle.{Cycled}
use Rattle.host_turn.specs.Run.{lights_said, stamped}
use Rattle.joint_run.specs.declared.outside.Outside.{Outside}
use Rattle.joint_run.specs.Joint.{lights_of}
use Rattle.joint_run.specs.Cycle.{outside_wires, looked_outside}

module _ (goes : Desk Wire → Cycled Wire) (now p2 : ℕ) (o o1 o2 : Outside) (shown : o1 ≡ record o { shown = lights_of p2 })
    (looks : o2 ≡ looked_outside now (outside_wires p2 o1) o1) where
  abbrev l : Outside
  l = looked_outside now (outside_wires p2 o) o

  whole : o2 ≡ record l { shown = lights_of p2 }
  whole = looks ∙ ap (λ (x : Outside). looked_outside now (outside_wires p2 x) x) shown

  -- the parts of a cycle, one after another, leave what is outside the processor as the cycle does
  pub outside_is : (o3 : Outside) → o3 ≡ record o2 { desk = (goes o2.desk).desk }
      → o3 ≡ record { desk = (goes l.desk).desk; clock = l.clock; shown = lights_of p2 }
  outside_is o3 e = e ∙ ap (λ (x : Outside). record x { desk = (goes x.desk).desk }) whole

  -- the parts of a cycle, one after another, say what the cycle says
  pub items_are : (i0 i1 i2 : List Stamped)
      → i1 ≡ i0 ++ lights_said now o.shown (lights_of p2) → i2 ≡ i1 ++ stamped now (goes o2.desk).items
      → i2 ≡ i0 ++ (lights_said now o.shown (lights_of p2) ++ stamped now (goes l.desk).items)
  items_are i0 i1 i2 a b =
      b ∙ ap (λ v. v ++ stamped now (goes o2.desk).items) a
      ∙ ap (λ (x : Outside). (i0 ++ lights_said now o.shown (lights_of p2)) ++ stamped now (goes x.desk).items) whole
      ∙ append_assoc i0 (lights_said now o.shown (lights_of p2)) (stamped now (goes l.desk).items)

  -- the parts of a cycle do an event exactly if the cycle does
  pub done_is : (d : Bool) → d ≡ (goes o2.desk).done → d ≡ (goes l.desk).done
  done_is d e = e ∙ ap (λ (x : Outside). (goes x.desk).done) whole
