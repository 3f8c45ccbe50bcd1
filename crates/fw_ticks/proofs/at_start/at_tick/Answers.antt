use Rattle.std.proofs.Common.{◌%◌, ◌&&◌, ◌==◌, Bool, not, ap, sym, ◌∙◌}
use Rattle.mcs48_core.specs.Cpu.{Cpu}
use Rattle.mcs48_core.specs.Step.{takes_timer}
use Rattle.fw_kernel.specs.declared.labels.TheConstants.{TICK}
use Rattle.fw_ticks.proofs.AtTick.{at_tick_is, at_tick_row}
use Rattle.fw_ticks.proofs.at_start.at_tick.Goals as goal

-- the processor's own test
abbrev holds_so : Cpu → Bool
holds_so m = m.pc % 2048 == TICK && not (takes_timer m)

pub returns-clause-decides : goal.returns-clause-decides
returns-clause-decides c edges events w same =
    c.is_at_tick_start.ensures ∙ ap holds_so (c.mcu.ensures.processor ∙ sym same) ∙ sym (at_tick_is edges events w)

pub returns-clause-executes : goal.returns-clause-executes
returns-clause-executes c bytes has edges events w same said =
    at_tick_row bytes has edges events w
    (at_tick_is edges events w ∙ ap holds_so (same ∙ sym c.mcu.ensures.processor) ∙ sym c.is_at_tick_start.ensures ∙ said)
