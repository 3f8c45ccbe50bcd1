-- What is heard in a list of samples: its falls, and the transfer that its last sample completes.
use Rattle.std.specs.Prelude.{◌≡◌, ◌-◌, List, [], ◌∷◌, ◌++◌, length, drop, Some, None, if◌then◌else◌}
use Rattle.std.specs.declared.option.Option.{Option}
use Rattle.board_terms.specs.declared.lines.Lines.{Lines}
use Rattle.run_probes.specs.declared.heard.Sample.{Sample}
use Rattle.run_probes.specs.declared.heard.Fall.{Fall}
use Rattle.run_probes.specs.Transfers.{Ear, completed, fall_at, heard, is_fall, silence, transfer_by, wires_at}

-- the falls among samples, the first of which is after these wires
abbrev pub falls_after : Lines → List Sample → List Fall
falls_after before [] = []
falls_after before (s ∷ more) =
    (if is_fall before s.lines then fall_at s ∷ [] else []) ++ falls_after s.lines more

-- the falls among all samples
abbrev pub falls_among : List Sample → List Fall
falls_among samples = falls_after (wires_at None) samples

-- the last eleven of them
abbrev pub last_eleven : List Fall → List Fall
last_eleven falls = drop (length falls - 11) falls

-- the last sample, and else the one that was last before
abbrev pub last_of : Option Sample → List Sample → Option Sample
last_of before [] = before
last_of before (s ∷ more) = last_of (Some s) more

-- what is heard of samples, one after another
abbrev pub heard_all : List Sample → Ear → Ear
heard_all [] ear = ear
heard_all (s ∷ more) ear = heard_all more (heard s ear)

-- what is kept of samples is their last one and the last eleven of their falls
abbrev pub KeepsElevenFalls : Type 0
KeepsElevenFalls = (samples : List Sample)
    → heard_all samples silence ≡ record { last = last_of None samples; falls = last_eleven (falls_among samples) }

-- a sample completes a transfer if it is a fall, and the last eleven falls, of which it is the last, are one
abbrev pub CompletesByFalls : Type 0
CompletesByFalls = (samples : List Sample) (s : Sample)
    → completed s (heard_all samples silence)
    ≡ (if is_fall (wires_at (last_of None samples)) s.lines
    then transfer_by (last_eleven (falls_among (samples ++ s ∷ [])))
    else None)
