use Rattle.app_runs.proofs.LinesAreInText.{printed, printed_from}
use Rattle.app_runs.proofs.latency.keys_are_printed_in_time.Goals as goal

pub returns : goal.returns
returns c = record {
  soon = λ layout history command text probes left prints quiet may.
      printed layout history command prints c.keys_come_in_time.ensures.soon quiet text probes left may;
  soon_from = λ layout history command text probes left prints may.
      printed_from layout history command prints c.keys_come_in_time.ensures.soon_from text probes left may;
}
