use Rattle.std.proofs.Common.{◌%◌, ◌+◌, ap, ◌∙◌, slice_index}
use Rattle.mcs48_isa.specs.Table.{row_of}
use Rattle.fw_kernel.specs.declared.bytes.TheConstants.{KERNEL}
use Rattle.law_fw_logic.proofs.steps.every_row.Goals as goal

pub returns : goal.returns
returns c = record {
  rows = λ bytes has pc first second.
      ap (λ b. row_of b (slice_index bytes ((pc + 1) % 2048))) (has (pc % 2048) first)
      ∙ ap (λ b. row_of (slice_index KERNEL (pc % 2048)) b) (has ((pc + 1) % 2048) second);
}
