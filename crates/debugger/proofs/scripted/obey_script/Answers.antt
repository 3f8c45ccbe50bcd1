use Rattle.debugger.proofs.Obeyed.{none_obeyed, part_by, said_by}
use Rattle.debugger.proofs.scripted.obey_script.Goals as goal

pub returns-in-Err-clause-obeyed_so_far : goal.returns-in-Err-clause-obeyed_so_far
returns-in-Err-clause-obeyed_so_far g c = none_obeyed c.args.debuggee c.args.script.now _

pub returns-in-Ok-clause-says : goal.returns-in-Ok-clause-says
returns-in-Ok-clause-says g c =
    said_by _ c.obey_lines.result c.in-Ok.session c.args.debuggee c.args.script.now _ _ c.in-Ok.ensures.made c.obey_lines.ensures.says

pub returns-in-Ok-clause-obeyed_so_far : goal.returns-in-Ok-clause-obeyed_so_far
returns-in-Ok-clause-obeyed_so_far g c =
    part_by c.in-Ok.session c.args.debuggee c.args.script.now _ _ c.in-Ok.ensures.made c.obey_lines.ensures.obeyed_so_far
