use Rattle.std.proofs.Common.{rules, ◌∷◌, []}
use Rattle.joint_bytes.proofs.SideRead.{controller_as}
use Rattle.joint_bytes.proofs.side.controller_bytes.Goals as goal

pub returns-clause-read : goal.returns-clause-read
returns-clause-read c =
    controller_as
    (c.input_bytes-kind.result.0 ∷ c.input_bytes-kind.result.1 ∷ c.from.result ∷ c.parts-parts.result.output
    ∷ c.parts-parts.result.command_byte ∷ c.awaited_byte.result ∷ c.parts-parts.result.output_port ∷ c.from-2.result
    ∷ c.from-3.result ∷ c.from-4.result ∷ c.parts-parts.result.resends ∷ [])
    c.args.controller.now (search rules)
