use Rattle.mcs48_ranges.proofs.Steps.{stepped_fine}
use Rattle.law_fw_logic.proofs.steps.bytes_stay_bytes.Goals as goal

pub returns : goal.returns
returns c = record { bytes = λ bytes are pins fine m is next step. stepped_fine bytes pins m next are fine is step }
