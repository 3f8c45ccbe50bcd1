use Rattle.std.proofs.Common.{◌≡◌, ◌+◌, Bool, map, ap, sym, subst, ◌∙◌, arith}
use Rattle.joint_feed.specs.Ahead.{IsFed}
use Rattle.joint_feed.specs.Course.{IsOnCourse}
use Rattle.joint_feed.specs.Stories.{Story}
use Rattle.joint_feed.specs.declared.ahead.Ahead.{Ahead}
use Rattle.key_file.specs.Accepted.{IsAccepted}
use Rattle.key_file.specs.Histories.{KeyHistory}
use Rattle.run_loop.specs.declared.ending.Halt.{Halt}
use Rattle.run_loop.specs.Advance.{IsAtReport}
use Rattle.run_loop.specs.Gliding.{HasGlided, IsSilent, IsUnderWay, history_of}
use Rattle.run_loop.proofs.Advanced.{IsCountable, at_report, countable, later, taken_now}
use Rattle.run_loop.proofs.Held.{still_quiet, stuck_end}
use Rattle.run_loop.proofs.Looked.{some_looked}
use Rattle.run_loop.proofs.Loop.{broke_off, first_cycle, first_goes_on, first_looked, over_now, under_way}
use Rattle.run_loop.proofs.Quietly.{none_quiet}
use Rattle.run_loop.proofs.ready.ReadyRun.make.Given as given
use Rattle.run_loop.proofs.ready.ReadyRun.make.Goals as goal
use Rattle.run_loop.proofs.ready.ReadyRun.make.Goals.{In-Ok}

pub steps-init : goal.steps-init
steps-init g c =
    let r = c.self.invariant in
    let course = c.self.inside.course in
    let on = subst (λ (s : Story). IsOnCourse s course) c.self.view_is r.on in
    record {
      history = ap history_of c.self.view_is;
      accepted = subst (λ (s : Story). IsAccepted (history_of s)) c.self.view_is r.accepted;
      stop = sym (c.end-stop.ensures.end ∙ ap (λ (s : Story). s.stop) c.self.view_is);
      run_so_far = first_goes_on c.args.ending c.args.self course on r.steps;
      taken = r.taken;
      near = first_cycle c.args.self course on r.steps;
      reported = subst (λ k. g.T.Reporter.has_reported c.args.ending c.args.self c.args.out.now k c.args.reporter.now c.args.out.now)
          (sym r.steps) c.requires.reported;
      looked = first_looked c.args.self course _ r.steps;
    }

pub is_over-requires : goal.is_over-requires
is_over-requires g c =
    let range = c.steps.invariant.accepted.end_in_range in
    let stop = c.steps.invariant.stop in
    omega (arith, range, stop)

pub glide-requires : goal.glide-requires
glide-requires g c =
    let i = c.steps.invariant in
    let u : Halt = record { ending = c.args.ending; stop = c.end-stop.result; wires = c.WIRES.result } in
    let range = i.accepted.end_in_range in
    let stop = i.stop in
    record {
      way = (
        c.args.self,
        _,
        under_way u c.args.self c.steps.course i.run_so_far i.stop c.is_over.result c.is_over.ensures c.requires.timely i.accepted
            (cc c.steps-test.true) _ _ i.looked,
      );
      range = omega (arith, range, stop);
    }

pub returns-in-Err : goal.returns-in-Err
returns-in-Err g c =
    let i = c.steps.invariant in
    let s = c.args.self in
    let u : Halt = record { ending = c.args.ending; stop = c.end-stop.result; wires = c.WIRES.result } in
    let held = c.in-Err.ensures.glide s _ (under_way u s c.steps.course i.run_so_far i.stop c.is_over.result c.is_over.ensures
    c.requires.timely i.accepted (cc c.steps-test.true) _ _ i.looked) in
    let finished = stuck_end u s _ c.steps.course c.glide.new.course _ c.in-Err.stuck held in
    record {
      finished = finished;
      reported = record {
        steps = c.steps.course.joint.steps;
        reported_so = i.reported;
        quiet = subst (λ (b : Bool). IsSilent c.args.ending b s c.steps.course.joint.steps c.glide.new.course.joint.steps) c.WIRES.ensures
            (still_quiet u s _ c.steps.course c.glide.new.course _ c.in-Err.stuck held);
      };
      looked = held.looked;
      looked_so_far = some_looked c.args.ending s _ _ c.glide.new.course.joint.steps finished.after.goes_on held.looked;
      broken = tt;
    }

-- at each turn the run goes on
way : (g : given.Over) (c : In-Ok g)
    → IsUnderWay (record { ending = c.args.ending; stop = c.end-stop.result; wires = c.WIRES.result }) c.args.self
    (map (λ b. (given.Probe-dyn g (b.vtable, b.value)).watch b.value) c.args.probes.now.items) c.steps.course
    (map (λ b. (given.Probe-dyn g (b.vtable, b.value)).watch b.value) c.steps.probes.items)
way g c =
    let i = c.steps.invariant in
    under_way _ _ c.steps.course i.run_so_far i.stop c.is_over.result c.is_over.ensures c.requires.timely i.accepted
    (cc c.steps-test.true) _ _ i.looked

-- and steps of it are made
turned : (g : given.Over) (c : In-Ok g)
    → HasGlided (record { ending = c.args.ending; stop = c.end-stop.result; wires = c.WIRES.result }) c.args.self
    (map (λ b. (given.Probe-dyn g (b.vtable, b.value)).watch b.value) c.args.probes.now.items) c.steps.course c.glide.new.course
    (map (λ b. (given.Probe-dyn g (b.vtable, b.value)).watch b.value) c.glide.new.probes.items)
turned g c = c.in-Ok.ensures.glide _ _ (way g c)

-- whose last one is counted
abbrev counted : (g : given.Over) (c : In-Ok g) → IsCountable (g.F.Feed.feeds c.steps.feed).history c.glide.new.course.ahead c.glide.new.course.seen
counted g c =
    subst (λ (h : KeyHistory). IsCountable h c.glide.new.course.ahead c.glide.new.course.seen) (sym c.steps.invariant.history)
    (countable _ _ _ c.steps.course c.glide.new.course _ (way g c).going (turned g c))

pub count-requires : goal.count-requires
count-requires g c =
    let it = (goal.at.count-requires g c).In-Ok in
    let r = counted g it in
    record {
      accepted = r.accepted;
      fed = r.fed;
      taken = taken_now _ _ _ c.steps.course c.glide.new.course _ (way g it).going (turned g it) _ c.steps.invariant.taken;
      made = r.made;
      done = r.done;
      edges = r.edges;
      host = r.host;
    }

reported : (g : given.Over) (c : In-Ok g) (ahead : Ahead)
    → IsFed (g.F.Feed.feeds c.steps.feed).history.edges (g.F.Feed.feeds c.steps.feed).history.host ahead
    → ahead.made ≡ c.glide.new.course.ahead.made + c.glide.new.course.seen.edges
    → ahead.done ≡ c.glide.new.course.ahead.done + c.glide.new.course.seen.host
    → IsAtReport c.args.ending g.T.Reporter.WIRES c.args.self c.steps.course.joint.steps
    (record c.glide.new.course { ahead = ahead })
reported g c ahead fed made done =
    let s = c.args.self in
    subst (λ (b : Bool). IsAtReport c.args.ending b s c.steps.course.joint.steps (record c.glide.new.course { ahead = ahead })) c.WIRES.ensures
    (at_report _ _ _ c.steps.course c.glide.new.course _ (way g c).going (turned g c) ahead
    (subst (λ (h : KeyHistory). IsFed h.edges h.host ahead) c.steps.invariant.history fed) made done)

pub report-requires : goal.report-requires
report-requires g c =
    let s = c.args.self in
    let e = c.count.ensures in
    let a = reported g (goal.at.report-requires g c).In-Ok c.count.new.self e.fed e.made e.done in
    record { reported = (c.args.ending, s, c.args.out.now, c.steps.course.joint.steps, a, c.steps.invariant.reported) }

pub returns-in-Err-report-clause-broken : goal.returns-in-Err-report-clause-broken
returns-in-Err-report-clause-broken g c =
    let s = c.args.self in
    let e = c.count.ensures in
    let it = (goal.at.returns-in-Err-report-clause-broken g c).In-Ok in
    let a = reported g it c.count.new.self e.fed e.made e.done in
    broke_off c.args.ending g.T.Reporter.WIRES s c.steps.course.joint.steps _ _ _ _ a (turned g it).looked
    (c.in-Err-report.ensures.broken c.args.ending s c.args.out.now c.steps.course.joint.steps a c.steps.invariant.reported)

pub returns-in-Err-report-clause-looked_so_far : goal.returns-in-Err-report-clause-looked_so_far
returns-in-Err-report-clause-looked_so_far g c =
    let e = c.count.ensures in
    let it = (goal.at.returns-in-Err-report-clause-looked_so_far g c).In-Ok in
    let a = reported g it c.count.new.self e.fed e.made e.done in
    some_looked c.args.ending c.args.self _ _ c.glide.new.course.joint.steps a.run_so_far.goes_on (turned g it).looked

pub steps-smaller : goal.steps-smaller
steps-smaller g c =
    let it = (goal.at.steps-smaller g c).In-Ok in
    let near = c.steps.invariant.near in
    let more = later _ _ _ c.steps.course c.glide.new.course _ (way g it).going (turned g it) in
    omega (arith, near, more)

pub steps-preserved : goal.steps-preserved
steps-preserved g c =
    let s = c.args.self in
    let e = c.count.ensures in
    let it = (goal.at.steps-preserved g c).In-Ok in
    let a = reported g it c.count.new.self e.fed e.made e.done in
    record {
      history = e.history ∙ c.steps.invariant.history;
      accepted = c.steps.invariant.accepted;
      stop = c.steps.invariant.stop;
      run_so_far = a.run_so_far;
      taken = e.taken;
      near = a.near;
      reported = c.in-Ok-report.ensures.reported c.args.ending s c.args.out.now c.steps.course.joint.steps a c.steps.invariant.reported;
      looked = (turned g it).looked;
    }

pub returns : goal.returns
returns g c =
    let i = c.steps.invariant in
    let s = c.args.self in
    let u : Halt = record { ending = c.args.ending; stop = c.end-stop.result; wires = c.WIRES.result } in
    record {
      finished = over_now u s c.steps.course i.run_so_far i.stop c.is_over.result c.is_over.ensures (cc c.steps-test.false);
      reported = record {
        steps = c.steps.course.joint.steps;
        reported_so = i.reported;
        quiet = none_quiet c.args.ending g.T.Reporter.WIRES s c.steps.course.joint.steps;
      };
      looked = i.looked;
      looked_so_far = some_looked c.args.ending s _ _ c.steps.course.joint.steps i.run_so_far.goes_on i.looked;
      broken = tt;
    }
