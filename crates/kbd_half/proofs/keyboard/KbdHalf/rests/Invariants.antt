use Rattle.std.proofs.Common.{◌≡◌, ◌≤◌, ◌-◌}
use Rattle.kbd_half.proofs.Ahead.{IsAhead}
use Rattle.kbd_half.proofs.keyboard.KbdHalf.rests.Given as goal

abbrev pub invariant-steps : goal.invariant-steps
invariant-steps l = record {
  ahead : IsAhead l.others l.most l.fn.self l.ahead l.cycles;
  first : l.first ≡ l.fn.self.chip.mcu.p2;
  within : l.cycles ≤ l.most;
}

abbrev pub decreases-steps : goal.decreases-steps
decreases-steps l = l.most - l.cycles
