use Rattle.std.proofs.Common.{◌≡◌}
use Rattle.std.specs.Option.{ForSome}
use Rattle.board_terms.specs.Cadence.{listed}
use Rattle.model_keyboard.specs.Codes.{HasCode}
use Rattle.model_link.specs.Debounce.{AreKnown}
use Rattle.model_link.specs.Expected.{whole_at}
use Rattle.model_link.specs.Machine.{keyboard}
use Rattle.model_link.proofs.expecting.expect_events.Given as goal

abbrev pub invariant-loop-n : goal.invariant-loop-n
invariant-loop-n l = record {
  is : l.together ≡ whole_at (keyboard l.layout) l.edges l.host (listed l.starts) l.n;
  known : ForSome l.together.keys.keyboard.repeats (λ r. HasCode l.layout r.place);
  switched : AreKnown l.layout l.together.keys.switches;
}
