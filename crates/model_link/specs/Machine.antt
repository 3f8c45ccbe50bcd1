-- The keyboard as a machine of ticks, as far as the link's model knows it.
use Rattle.std.specs.Prelude.{ℕ, ◌==◌, Bool, true, List}
use Rattle.std.specs.declared.option.Option.{Option}
use Rattle.layout_reader.specs.Layouts.{KeyLayout, is_fn_place}
use Rattle.model_keyboard.specs.declared.meeting.Meeting.{Meeting as KeyboardMeeting}
use Rattle.model_keyboard.specs.declared.meeting.Meeting.TheVariants as kbd
use Rattle.model_keyboard.specs.Codes.{keys_of}
use Rattle.model_keyboard.specs.Keyboard.{Keyboard, at_power_on, offer}
use Rattle.model_keyboard.specs.Layers.{Layers, no_layers, layered, all_layers_after}
use Rattle.model_keyboard.specs.Tick.{ticked}
use Rattle.model_controller.specs.declared.meeting.Meeting.{Meeting}
use Rattle.model_controller.specs.declared.meeting.Meeting.TheVariants.{Got, Inhibited, Idle, Sent, Cut}
use Rattle.model_link.specs.Debounce.{Switches, all_open, is_down_at, taken, switched}

-- the state at power-on; whether the test has ended; the byte offered; the lights; whether the last reading showed the key
-- of a place down; and what a tick makes of the state, by its meeting and the edges that its reading shows
pub record KeyboardMachine (S : Type 0) : Type 0 where
  pub start : S
  pub tested : S → Bool
  pub offer : S → Option ℕ
  pub lights : S → ℕ
  pub held : S → ℕ → Bool
  pub ticked : Meeting → List (ℕ × Bool) → S → S

-- a meeting as the keyboard knows it: the byte that is sent is the one it offers; one that it gets has right parity
abbrev pub met_as : Meeting → KeyboardMeeting
met_as (Got byte) = kbd.Got byte true
met_as Inhibited = kbd.Inhibited
met_as Idle = kbd.Idle
met_as (Sent byte) = kbd.Sent
met_as Cut = kbd.Cut

-- the keyboard, the layers of its keys' presses up to now, and its switches
pub record LayeredKeyboard : Type 0 where
  pub keyboard : Keyboard
  pub layers : Layers
  pub switches : Switches

-- the keyboard with a layout. Of the edges that a reading shows it takes those that settle. Each of these has its layer,
-- which is no concern of scanning or of the test
abbrev pub keyboard : KeyLayout → KeyboardMachine LayeredKeyboard
keyboard layout = record {
  start = record { keyboard = at_power_on layout.rate; layers = no_layers; switches = all_open };
  tested = λ k. k.keyboard.test == 0;
  offer = λ k. offer k.keyboard;
  lights = λ k. k.keyboard.lights;
  held = λ k. is_down_at k.switches.read;
  ticked = λ meeting edges k. record {
    keyboard = ticked (keys_of layout) (met_as meeting)
        (layered (is_fn_place layout) (taken layout.debounce edges k.switches) k.layers) k.keyboard;
    layers = all_layers_after (is_fn_place layout) (taken layout.debounce edges k.switches) k.layers;
    switches = switched layout.debounce edges k.switches;
  };
}
