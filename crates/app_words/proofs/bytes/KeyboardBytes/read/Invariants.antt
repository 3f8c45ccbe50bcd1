use Rattle.std.proofs.Common.{◌≡◌, ◌≤◌, ◌++◌, drop, length, map, string_bytes, option_map}
use Rattle.app_words.specs.Words.{bytes_of}
use Rattle.app_words.proofs.bytes.KeyboardBytes.read.Given as goal

abbrev pub invariant-loop-word : goal.invariant-loop-word
invariant-loop-word l = record {
  room : length l.bytes.items ≤ l.word-index;
  read :
      option_map (λ bytes. l.bytes.items ++ bytes) (bytes_of (map string_bytes (drop l.word-index l.words)))
      ≡ bytes_of (map string_bytes l.words);
}
