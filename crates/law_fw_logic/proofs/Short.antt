-- The rows of the kernel's code, each of one or two cycles.
use Rattle.std.proofs.Common.{ℕ, List, Bool, ◌&&◌, not, ◌%◌, ◌+◌}
use Rattle.mcs48_isa.specs.Table.{row_of}
use Rattle.mcs48_ranges.proofs.Rows.{row_timed}
use Rattle.fw_kernel.specs.Places.{is_table, HasKernel}
use Rattle.law_fw_logic.proofs.Leads.{HasRows}
use Rattle.law_fw_logic.proofs.Kernel.{byte_in, kernel_in}
use Rattle.law_fw_logic.proofs.Image.{row_is, guarded_some}

-- every image that has the kernel has the kernel's rows at their places
pub has_rows : (timed : Bool) (bytes : List ℕ) → HasKernel bytes → HasRows (kernel_in timed bytes)
has_rows timed bytes has pc r h = (
  row_is bytes has pc r h,
  (row_timed (byte_in (pc % 2048)) (byte_in ((pc + 1) % 2048)) r
      (guarded_some (not (is_table (pc % 2048)) && not (is_table ((pc + 1) % 2048)))
      (row_of (byte_in (pc % 2048)) (byte_in ((pc + 1) % 2048))) r h).1).1,
)
