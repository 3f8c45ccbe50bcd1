use Rattle.std.proofs.Common.{length, subst, arith}
use Rattle.joint_feed.proofs.Afterwards.{next_within}
use Rattle.joint_feed.specs.Ahead.{IsFed}
use Rattle.joint_feed.specs.Filled.{run_of}
use Rattle.key_file.specs.Feeds.{Fed}
use Rattle.debugger.proofs.Strode.{strode_on, strode_stuck, took_edges, took_host}
use Rattle.debugger.proofs.striding.stride.Goals as goal

pub overflow_add-edges : goal.overflow_add-edges
overflow_add-edges c =
    let on = c.requires.on in
    let within =
    next_within 4 c.args.course.now.ahead.made (length c.args.course.now.ahead.due.edges.items) c.args.history.now.edges
    _ on.fed.edges_next (omega arith) on.made_within in
    let v = c.len.ensures.value in
    let most = c.end.ensures.accepted.number_in_range in
    omega (arith, within, v, most)

pub overflow_add-host : goal.overflow_add-host
overflow_add-host c =
    let on = c.requires.on in
    let within =
    next_within 2 c.args.course.now.ahead.done (length c.args.course.now.ahead.due.host.items) c.args.history.now.host
    _ on.fed.host_next (omega arith) on.done_within in
    let v = c.len-2.ensures.value in
    let most = c.end.ensures.accepted.number_in_range in
    omega (arith, within, v, most)

pub at-requires-clause-edges : goal.at-requires-clause-edges
at-requires-clause-edges c =
    let on = c.requires.on in
    let within =
    next_within 4 c.args.course.now.ahead.made (length c.args.course.now.ahead.due.edges.items) c.args.history.now.edges
    _ on.fed.edges_next (omega arith) on.made_within in
    let v = c.len.ensures.value in
    omega (arith, within, v)

pub at-requires-clause-host : goal.at-requires-clause-host
at-requires-clause-host c =
    let on = c.requires.on in
    let within =
    next_within 2 c.args.course.now.ahead.done (length c.args.course.now.ahead.due.host.items) c.args.history.now.host
    _ on.fed.host_next (omega arith) on.done_within in
    let v = c.len-2.ensures.value in
    omega (arith, within, v)

pub count-requires-clause-edges : goal.count-requires-clause-edges
count-requires-clause-edges c =
    let s = run_of c.args.course.now c.args.history.now in
    let a = c.end.ensures.accepted.lawful in
    took_edges s c.args.course.now c.requires.on a.thin a.edges_in_order c.args.most c.go_on.new.joint
    c.go_on.new.seen c.in_ok-go_on.ensures.gone

pub count-requires-clause-host : goal.count-requires-clause-host
count-requires-clause-host c =
    let s = run_of c.args.course.now c.args.history.now in
    let a = c.end.ensures.accepted.lawful in
    took_host s c.args.course.now c.requires.on a.thin a.edges_in_order c.args.most c.go_on.new.joint
    c.go_on.new.seen c.in_ok-go_on.ensures.gone

pub returns-in_err-go_on-clause-strode : goal.returns-in_err-go_on-clause-strode
returns-in_err-go_on-clause-strode c =
    let s = run_of c.args.course.now c.args.history.now in
    let a = c.end.ensures.accepted.lawful in
    strode_stuck s c.args.course.now c.requires.on a.thin a.edges_in_order c.args.most c.go_on.new.joint
    c.go_on.new.seen c.in_err-go_on.field-0.0 c.in_err-go_on.ensures.gone
    c.from_residual.result c.from_residual.ensures.0

pub returns-clause-strode : goal.returns-clause-strode
returns-clause-strode c =
    let s = run_of c.args.course.now c.args.history.now in
    let a = c.end.ensures.accepted.lawful in
    let e = c.in_ok-go_on.ensures in
    strode_on s c.args.course.now c.requires.on a.thin a.edges_in_order c.args.most c.go_on.new.joint
    c.go_on.new.seen e.gone c.count.new.self
    e.some e.few (subst (λ (f : Fed). IsFed f.history.edges f.history.host c.count.new.self) c.at.ensures c.count.ensures.fed)
    c.count.ensures.made c.count.ensures.done
