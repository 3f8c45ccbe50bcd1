use Rattle.std.proofs.Common.{◌≡◌, ℕ, Bool, ◌||◌, ap, ◌∙◌, max, min}
use Rattle.std.specs.Prelude.{is_some}
use Rattle.ctl_core.specs.Controller.{ControllerState, is_disabled}
use Rattle.host_wakes.specs.Wakes.{event_wake, read_wake, break_wake, take_wake, link_wake}
use Rattle.host_wakes.proofs.Wakes.{first_of, turned_round}
use Rattle.host_wakes.proofs.waking.first_stir.Goals as goal

pub returns-clause-is : goal.returns-clause-is
returns-clause-is g c =
    let end : ℕ = c.args.end in
    let core : ControllerState = c.args.desk.now.port.core in
    let awaits : Bool = c.args.desk.now.port.awaits in
    let event : ℕ = event_wake c.args.next core end in
    let read : ℕ = read_wake c.args.desk.now.port.filled c.args.desk.now.masked core end in
    let break : ℕ = break_wake g.F.Passing.breaks c.args.desk.now.port.link awaits (is_some core.input) end in
    let take : ℕ = take_wake c.args.desk.now.port.link awaits core.output_full (is_some core.input) end in
    let move : ℕ = link_wake c.args.desk.now.port.link awaits (core.output_full || is_disabled core) end in
    let by_host : c.min-by_host.result ≡ min (min event read) end =
    c.min-by_host.ensures
    ∙ first_of event read end c.event_stir.result c.read_stir.result c.event_stir.ensures c.read_stir.ensures in
    let by_itself : c.min-by_itself.result ≡ min (min take move) end =
    c.min-by_itself.ensures
    ∙ first_of take move end c.take_stir.result c.link_stir.result c.take_stir.ensures c.link_stir.ensures in
    let by_link : c.min-by_link.result ≡ min (min break (min take move)) end =
    c.min-by_link.ensures
    ∙ first_of break (min take move) end c.break_stir.result c.min-by_itself.result c.break_stir.ensures by_itself in
    let first : ℕ = min (min event read) (min break (min take move)) in
    let all : c.min.result ≡ min first end =
    c.min.ensures
    ∙ first_of (min event read) (min break (min take move)) end c.min-by_host.result c.min-by_link.result by_host
    by_link in
    c.max.ensures ∙ ap (λ v. max v c.args.now) all ∙ turned_round (min first end) c.args.now
