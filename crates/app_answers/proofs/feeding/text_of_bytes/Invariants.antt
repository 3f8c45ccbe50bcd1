use Rattle.std.proofs.Common.{◌≡◌, ◌++◌, false, drop}
use Rattle.app_answers.specs.Feeding.{items_of, lines_of, fed_text}
use Rattle.app_answers.proofs.feeding.text_of_bytes.Given as goal

abbrev pub invariant-loop-byte : goal.invariant-loop-byte
invariant-loop-byte l = record {
  empty : l.controller.output_full ≡ false;
  said :
      l.text.items ++ lines_of (items_of (record { controller = l.controller; bios = l.bios }) (drop l.byte-index l.bytes))
      ≡ fed_text l.bytes;
}
