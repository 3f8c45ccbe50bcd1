use Rattle.std.proofs.Common.{◌<◌, ◌∷◌, [], rules, slice_index_or, subst, arith}
use Rattle.mcs48_core.specs.Cpu.{Cpu}
use Rattle.mcs48_bytes.proofs.ProcessorRead.{processor_read}
use Rattle.mcs48_bytes.proofs.processor.processor_bytes.Goals as goal

pub returns-clause-read : goal.returns-clause-read
returns-clause-read c =
    processor_read
    (slice_index_or c.to_le_bytes.result 0 0 ∷ slice_index_or c.to_le_bytes.result 1 0 ∷ c.mcu.inside.a ∷ c.status.result
    ∷ c.from.result ∷ c.from-2.result ∷ c.mcu.inside.t ∷ c.mcu.inside.pre ∷ c.from-3.result ∷ c.count_byte.result
    ∷ c.from-4.result ∷ c.from-5.result ∷ c.from-6.result ∷ c.from-7.result ∷ c.mcu.inside.p1 ∷ c.mcu.inside.p2
    ∷ c.mcu.inside.bus ∷ c.from-8.result ∷ c.from-9.result ∷ [])
    c.args.mcu.now (search rules)
    (subst (λ (m : Cpu). m.pc < 4096) c.mcu.view_is c.mcu.invariant.counter)
    (subst (λ (m : Cpu). m.pre < 32) c.mcu.view_is c.mcu.invariant.prescaler)
    (subst (λ (m : Cpu). m.sp < 8) c.mcu.view_is (omega arith))
