-- What was typed in a capture.
use Rattle.std.specs.Prelude.{ℕ, List, [], ◌∷◌}
use Rattle.layout_reader.specs.Layouts.{KeyLayout}
use Rattle.capture_vcd.specs.Reads.{reads_of}
use Rattle.capture_frames.specs.declared.finding.Timed.{Timed}
use Rattle.capture_frames.specs.Listening.{at_first as nothing_heard}
use Rattle.capture_lines.specs.Captures.{found_by}
use Rattle.capture_keys.specs.Codes.{after, at_first, code_of}
use Rattle.capture_keys.specs.Keys.{Keys, at_start, typed}
use Rattle.capture_keys.specs.declared.codes.Codes.{Codes}

-- what was heard, and the keys
pub record Typist : Type 0 where
  pub codes : Codes
  pub keys : Keys

abbrev pub before_all : Typist
before_all = record { codes = at_first; keys = at_start }

-- a finding
abbrev pub followed : KeyLayout → Timed → Typist → Typist
followed layout t s = record {
  codes = after t t.finding s.codes;
  keys = typed layout (code_of t t.finding s.codes) s.keys;
}

abbrev pub followed_all : KeyLayout → List Timed → Typist → Typist
followed_all layout [] s = s
followed_all layout (t ∷ more) s = followed_all layout more (followed layout t s)

-- the keys of a dump of two wires with these names, up to its first fault
unfoldable pub keys_of : KeyLayout → List ℕ → List ℕ → List ℕ → Keys
keys_of layout clk dat dump =
    (followed_all layout (found_by nothing_heard (reads_of clk dat dump).samples) before_all).keys
