use Rattle.std.proofs.Common.{◌≡◌, suc, drop}
use Rattle.law_typed_log.specs.Typing.{first_without, without_from}
use Rattle.key_planner.proofs.planning.keyless.Given as goal

-- the bytes so far have keys
abbrev pub invariant-loop-number : goal.invariant-loop-number
invariant-loop-number l = first_without l.layout l.text ≡ without_from l.layout (suc l.number) (drop l.number l.text)
