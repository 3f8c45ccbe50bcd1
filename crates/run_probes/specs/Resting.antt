-- Probes that miss nothing as long as the clock keeps its level.
use Rattle.std.specs.Prelude.{Bool, true, not, ◌==◌, ◌&&◌, List, [], ◌∷◌, is_none, if◌then◌else◌}
use Rattle.run_probes.specs.Probes.{Watch, line_kind}
use Rattle.run_probes.specs.Transfers.{wires_at}

-- the clock has a level
abbrev pub has_level : Bool → Bool → Bool
has_level level clk = if level then clk else not clk

-- a probe rests while the clock has this level: it isn't armed, and if it listens the clock had this level at the
-- last sample that it heard
abbrev pub rests : Bool → Watch → Bool
rests level watch =
    (if watch.kind == line_kind then has_level level (wires_at watch.ear.last).clk else true)
    && is_none watch.counted.arms

-- each of them does
abbrev pub all_rest : Bool → List Watch → Bool
all_rest level [] = true
all_rest level (watch ∷ others) = rests level watch && all_rest level others
