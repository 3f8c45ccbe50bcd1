-- What can be heard on the two wires: samples of them, falls of the clock, and transfers.
use Rattle.std.specs.Prelude.{ℕ, ◌+◌, ◌-◌, Bool, true, false, not, ◌==◌, ◌&&◌, nat_lt, List, [], ◌∷◌, ◌++◌, length, map}
use Rattle.std.specs.Prelude.{take, drop, slice_index_or, Some, None, if◌then◌else◌}
use Rattle.std.specs.declared.option.Option.{Option}
use Rattle.board_terms.specs.declared.lines.Lines.{Lines}
use Rattle.board_terms.specs.Bits.{value, is_odd}
use Rattle.run_probes.specs.declared.heard.Sample.{Sample}
use Rattle.run_probes.specs.declared.heard.Fall.{Fall}
use Rattle.board_terms.specs.declared.transfer.Transfer.{Transfer}

-- a sample: the wires, after so many cycles
abbrev pub sample : ℕ → Lines → Sample
sample cycle lines = record { cycle = cycle; lines = lines }

-- the wires at the last sample; before the first one both are high
abbrev pub wires_at : Option Sample → Lines
wires_at None = record { clk = true; dat = true }
wires_at (Some s) = s.lines

-- the clock falls: it was high, and is low
abbrev pub is_fall : Lines → Lines → Bool
is_fall before now = before.clk && not now.clk

-- the fall that a sample is
abbrev pub fall_at : Sample → Fall
fall_at s = record { cycle = s.cycle; dat = s.lines.dat }

-- each fall is 32 cycles after the one before it
abbrev pub are_spaced_after : ℕ → List Fall → Bool
are_spaced_after cycle [] = true
are_spaced_after cycle (fall ∷ falls) = (fall.cycle == cycle + 32) && are_spaced_after fall.cycle falls

abbrev pub are_spaced : List Fall → Bool
are_spaced [] = true
are_spaced (fall ∷ falls) = are_spaced_after fall.cycle falls

-- the data at eleven falls, f0 to f10, is a byte from the keyboard: f0 is low, f10 high, and f1 to f9 have odd parity
abbrev pub is_keyboards : List Bool → Bool
is_keyboards f = not (slice_index_or f 0 true) && slice_index_or f 10 false && is_odd (take 9 (drop 1 f))

-- or one from the host: f10 is low, f9 high, and f0 to f8 have odd parity
abbrev pub is_hosts : List Bool → Bool
is_hosts f = not (slice_index_or f 10 true) && slice_index_or f 9 false && is_odd (take 9 f)

-- the keyboard's byte is f1 to f8, the host's f0 to f7, the low bit first; any other eleven bits are no transfer
abbrev pub transfer_in : List Bool → Option Transfer
transfer_in f =
    if is_keyboards f then Some (record { from_host = false; byte = value (take 8 (drop 1 f)) })
    else (if is_hosts f then Some (record { from_host = true; byte = value (take 8 f) }) else None)

-- the data at falls
abbrev pub data_at : List Fall → List Bool
data_at falls = map (λ fall. fall.dat) falls

-- the transfer that these falls are, of which there are eleven
abbrev pub transfer_by : List Fall → Option Transfer
transfer_by falls = if (length falls == 11) && are_spaced falls then transfer_in (data_at falls) else None

-- what is kept of the samples so far: the last one, and the last eleven falls, in their order
pub record Ear : Type 0 where
  pub last : Option Sample
  pub falls : List Fall

-- no sample was heard
abbrev pub silence : Ear
silence = record { last = None; falls = [] }

-- the last eleven falls, with one more
abbrev pub with_fall : Fall → List Fall → List Fall
with_fall fall falls = drop (length falls - 10) falls ++ fall ∷ []

abbrev pub falls_with : Sample → Ear → List Fall
falls_with s ear = if is_fall (wires_at ear.last) s.lines then with_fall (fall_at s) ear.falls else ear.falls

-- with one sample more
abbrev pub heard : Sample → Ear → Ear
heard s ear = record { last = Some s; falls = falls_with s ear }

-- the transfer that this sample completes: it is a fall, and that fall and the ten before it are one
abbrev pub completed : Sample → Ear → Option Transfer
completed s ear =
    if is_fall (wires_at ear.last) s.lines then transfer_by (with_fall (fall_at s) ear.falls) else None

-- a sample at this cycle is after the last one
abbrev pub is_later_than : ℕ → Option Sample → Bool
is_later_than cycle None = true
is_later_than cycle (Some s) = nat_lt s.cycle cycle
