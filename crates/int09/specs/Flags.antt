-- The state's parts but for the words.
use Rattle.std.specs.Prelude.{ℕ, List}
use Rattle.int09.specs.declared.bios.Flags9.{Flags9}
use Rattle.int09.specs.Bios.{State}

abbrev pub flags_of : State → Flags9
flags_of s = record { b17 = s.shifts; b18 = s.downs; ack = s.ack; resend = s.resend; number = s.number }

-- the state of these parts and these words
abbrev pub state_of : Flags9 → List ℕ → State
state_of f words = record {
  shifts = f.b17;
  downs = f.b18;
  number = f.number;
  ack = f.ack;
  resend = f.resend;
  words = words;
}
