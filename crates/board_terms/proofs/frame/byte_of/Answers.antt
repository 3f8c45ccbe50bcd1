use Rattle.std.proofs.Common.{ap, sym, ◌∙◌}
use Rattle.board_terms.specs.Frame.{frame_bits}
use Rattle.board_terms.proofs.Frames.{right_is}
use Rattle.board_terms.proofs.frame.byte_of.Goals as goal

pub returns-then-is_right-clause-only : goal.returns-then-is_right-clause-only
returns-then-is_right-clause-only c =
    right_is c.args.f.bits c.is_right.ensures.eleven (sym c.is_right.ensures.right ∙ c.if-is_right.true)
    ∙ ap frame_bits (sym c.value.ensures.value)
