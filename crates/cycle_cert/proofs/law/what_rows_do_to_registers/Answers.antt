-- By cases of the operation.
use Rattle.cycle_cert.proofs.Registers.{keeps}
use Rattle.mcs48_ranges.proofs.Operands.{operands_low}
use Rattle.cycle_cert.proofs.Given.{given}
use Rattle.cycle_cert.proofs.law.what_rows_do_to_registers.Goals as goal

pub returns : goal.returns
returns c = record {
  registers = λ op bytes pins m r o a b l h.
      (λ w. keeps op bytes pins m r a b h w, λ v e. given op bytes pins m r v (operands_low op o) l e);
}
