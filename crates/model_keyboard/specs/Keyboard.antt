-- The keyboard's state, and the byte that it offers to the line.
use Rattle.std.specs.Prelude.{ℕ, nat_lt, List, slice_index_or, Bool, true, false, if◌then◌else◌, Some, None}
use Rattle.std.specs.declared.option.Option.{Option}
use Rattle.board_terms.specs.Matrix.{all_up}
use Rattle.model_keyboard.specs.declared.state.Mode.{Mode}
use Rattle.model_keyboard.specs.declared.state.Mode.TheVariants.{Ready}
use Rattle.model_keyboard.specs.declared.state.Reply.{Reply}
use Rattle.model_keyboard.specs.declared.state.Repeat.{Repeat}
use Rattle.model_keyboard.specs.Queue.{KeyQueue, empty, first}

-- the ticks left of the power-on test; whether scanning is enabled; whether a parameter is awaited; the reply to a
-- command, with whether a reset is due once it is sent; whether AA is due, by which the end of the test is reported; the
-- last byte sent other than FE; the key queue; the key that repeats; the rate byte; the lights (bit 0 Scroll, bit 1
-- Num, bit 2 Caps); which places are held, by their numbers
pub record Keyboard : Type 0 where
  pub test : ℕ
  pub enabled : Bool
  pub mode : Mode
  pub reply : Option Reply
  pub aa_due : Bool
  pub last : ℕ
  pub queue : KeyQueue
  pub repeats : Option Repeat
  pub rate : ℕ
  pub lights : ℕ
  pub held : List Bool

-- at power-on
abbrev pub at_power_on : ℕ → Keyboard
at_power_on rate = record {
  test = 64;
  enabled = true;
  mode = Ready;
  reply = None;
  aa_due = false;
  last = 0xaa;
  queue = empty;
  repeats = None;
  rate = rate;
  lights = 0;
  held = all_up;
}

-- what is offered: the reply, else AA if it is due, else the queue's first byte
abbrev pub offered : Option Reply → Bool → KeyQueue → Option ℕ
offered (Some reply) aa_due q = Some reply.byte
offered None aa_due q = if aa_due then Some 0xaa else first q

abbrev pub offer : Keyboard → Option ℕ
offer k = offered k.reply k.aa_due k.queue

-- a key that repeats has at least a tick to wait
abbrev pub counts : Option Repeat → Bool
counts (Some r) = nat_lt 0 r.count
counts None = true

-- whether a place is held
abbrev pub is_held : Keyboard → ℕ → Bool
is_held k place = slice_index_or k.held place false
