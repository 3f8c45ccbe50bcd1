use Rattle.model_link.proofs.Windows.{window_has}
use Rattle.model_link.proofs.seeing.window.Goals as goal

pub returns : goal.returns
returns c =
    window_has c.args.before c.args.now c.args.edges.now c.first_left-first.result c.count_up_to-end.result c.first_left-first.ensures.bound
    c.count_up_to-end.ensures.bound c.first_left-first.ensures.read c.count_up_to-end.ensures.point.1
