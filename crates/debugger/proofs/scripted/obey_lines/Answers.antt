use Rattle.std.proofs.Common.{◌∙◌, sym}
use Rattle.std.proofs.lemmas.List.{length-map}
use Rattle.debugger.specs.Obeyed.{begun}
use Rattle.debugger.proofs.Obeyed.{all_done, goes_on, lacks, part_done, stops}
use Rattle.debugger.proofs.Right.{right_effects}
use Rattle.debugger.proofs.scripted.obey_lines.Goals as goal

pub loop-line-preserved : goal.loop-line-preserved
loop-line-preserved g c =
    let s = c.args.session.now.debuggee in
    let right = right_effects s _ c.args.script.now (begun _) (sym (length-map c.args.probes.now.items _)) c.requires.right in
    record {
      debuggee = c.in_ok-line.ensures.debuggee ∙ c.loop-line.invariant.debuggee;
      so_far = goes_on s _ _ _ _ _ _ _ _ _ _ right.0 c.loop-line.invariant.debuggee right.1 c.in-Some.ensures.lines
          c.loop-line.invariant.so_far c.in_ok-line.ensures.line;
    }

pub returns-clause-says : goal.returns-clause-says
returns-clause-says g c =
    all_done c.args.session.now.debuggee c.args.script.now _ _ _ _ c.loop-line.invariant.so_far c.in_default.ensures.lines

pub returns-clause-obeyed_so_far : goal.returns-clause-obeyed_so_far
returns-clause-obeyed_so_far g c = part_done c.args.session.now.debuggee c.args.script.now _ _ _ _ c.loop-line.invariant.so_far

pub returns-in_err-line-clause-says : goal.returns-in_err-line-clause-says
returns-in_err-line-clause-says g c =
    let s = c.args.session.now.debuggee in
    let right = right_effects s _ c.args.script.now (begun _) (sym (length-map c.args.probes.now.items _)) c.requires.right in
    let stopped =
    stops s _ _ _ _ _ _ _ _ _ _ right.0 c.loop-line.invariant.debuggee right.1 c.in-Some.ensures.lines
    c.loop-line.invariant.so_far c.in_err-line.field-0.0 c.in_err-line.ensures.line in
    lacks c.from_residual.result c.in_err-line.field-0.0 _ c.from_residual.ensures.1 stopped.0

pub returns-in_err-line-clause-obeyed_so_far : goal.returns-in_err-line-clause-obeyed_so_far
returns-in_err-line-clause-obeyed_so_far g c =
    let s = c.args.session.now.debuggee in
    let right = right_effects s _ c.args.script.now (begun _) (sym (length-map c.args.probes.now.items _)) c.requires.right in
    let stopped =
    stops s _ _ _ _ _ _ _ _ _ _ right.0 c.loop-line.invariant.debuggee right.1 c.in-Some.ensures.lines
    c.loop-line.invariant.so_far c.in_err-line.field-0.0 c.in_err-line.ensures.line in
    part_done s c.args.script.now _ _ _ _ stopped.1
