-- What data memory means: the keyboard of the model that its cells show.
use Rattle.std.specs.Prelude.{◌≡◌, ◌≤◌, ◌⊎◌, ℕ, zero, suc, ◌+◌, ◌-◌, ◌*◌, ◌/◌, ◌%◌, Bool, true, false, not, ◌==◌, nat_le}
use Rattle.std.specs.Prelude.{if◌then◌else◌, List, [], ◌∷◌, slice_index, bit_xor, Some, None}
use Rattle.std.specs.declared.option.Option.{Option}
use Rattle.bits.specs.Bits.{bit}
use Rattle.fw_kernel.specs.declared.cells.TheConstants.{HELD, REPLYDUE, AADUE, COUNT, HEAD, STARTED, TEST, MODE}
use Rattle.fw_kernel.specs.declared.cells.TheConstants.{DISABLED, RINDEX, RATE, RCOUNT, REPLY, LAST, LIGHTS, FN, LAYER}
use Rattle.fw_kernel.specs.declared.cells.TheConstants.{PENDING}
use Rattle.fw_kernel.specs.Tables.{debounce_at}
use Rattle.model_keyboard.specs.declared.state.Mode.{Mode}
use Rattle.model_keyboard.specs.declared.state.Mode.TheVariants.{Ready, WantRate, WantLights}
use Rattle.model_keyboard.specs.declared.state.Reply.{Reply}
use Rattle.model_keyboard.specs.declared.state.Repeat.{Repeat}
use Rattle.model_keyboard.specs.Layers.{Layers}
use Rattle.model_keyboard.specs.Queue.{KeyQueue}
use Rattle.model_keyboard.specs.Keyboard.{Keyboard}

-- the first n values of a function
abbrev pub made : (ℕ → ℕ) → ℕ → List ℕ
made g zero = []
made g (suc n) = g 0 ∷ made (λ i. g (suc i)) n

-- the queue, by the cell of its length and overrun, its head, and whether a break is started
abbrev pub queue_by : ℕ → ℕ → ℕ → List ℕ → KeyQueue
queue_by count head started ring = record {
  bytes = made (λ i. slice_index ring ((head + i) % 16)) (count % 128);
  overrun = bit 7 count;
  break_started = not (started == 0);
}

abbrev pub queue_of : (ℕ → ℕ) → List ℕ → KeyQueue
queue_of f ring = queue_by (f COUNT) (f HEAD) (f STARTED) ring

-- which byte is awaited
abbrev pub mode_of : ℕ → Mode
mode_of n = if n == 0 then Ready else if n == 1 then WantRate else WantLights

-- the reply, by whether one is due (3: that of a reset) and its byte
abbrev pub reply_of : ℕ → ℕ → Option Reply
reply_of due byte = if due == 0 then None else Some (record { byte = byte; resets = bit 1 due })

-- what repeats, by its count and its index: the place, or in the second layer 97 more
abbrev pub is_upper : ℕ → Bool
is_upper index = nat_le 97 index

abbrev pub place_of : ℕ → ℕ
place_of index = if is_upper index then index - 97 else index

abbrev pub repeat_of : ℕ → ℕ → Option Repeat
repeat_of count index =
    if count == 0 then None else Some (record { place = place_of index; count = count; on_fn = is_upper index })

-- the keyboard with these keys held, by the cells 40 to 4D (hexadecimal) and the ring
abbrev pub kbd_of : List Bool → (ℕ → ℕ) → List ℕ → Keyboard
kbd_of held f ring = record {
  test = f TEST;
  enabled = f DISABLED == 0;
  mode = mode_of (f MODE);
  reply = reply_of (f REPLYDUE) (f REPLY);
  aa_due = not (f AADUE == 0);
  last = f LAST;
  queue = queue_of f ring;
  repeats = repeat_of (f RCOUNT) (f RINDEX);
  rate = f RATE;
  lights = f LIGHTS / 16;
  held = held;
}

-- the held keys, by a byte for each column: bit r of column c is place 8 c + r
abbrev pub flags : (ℕ → Bool) → ℕ → List Bool
flags g zero = []
flags g (suc n) = g 0 ∷ flags (λ i. g (suc i)) n

abbrev pub down_at : (ℕ → ℕ) → ℕ → Bool
down_at bytes place = bit (place % 8) (bytes (place / 8))

abbrev pub held_by : (ℕ → ℕ) → List Bool
held_by bytes = flags (down_at bytes) 96

-- the whole keyboard that data memory shows: the held keys are the cells 20 to 2B (hexadecimal)
abbrev pub keyboard_of : (ℕ → ℕ) → List ℕ → Keyboard
keyboard_of f ring = kbd_of (held_by (λ c. f (HELD + c))) f ring

-- whether an image debounces keys
abbrev pub debounces : List ℕ → Bool
debounces bytes = not (slice_index bytes debounce_at == 0)

-- the keys that the last reading showed down: with a debounce they differ from those held by the cells 60 to 6B (hexadecimal)
abbrev pub read_cell : Bool → (ℕ → ℕ) → ℕ → ℕ
read_cell false f c = f (HELD + c)
read_cell true f c = bit_xor (f (HELD + c)) (f (PENDING + c))

abbrev pub read_of : Bool → (ℕ → ℕ) → List Bool
read_of debounce f = held_by (read_cell debounce f)

-- the layers: whether the Fn key is down is cell 4E, the layers of the last presses are 50 to 5B (hexadecimal)
abbrev pub layers_of : (ℕ → ℕ) → Layers
layers_of f = record { fn_down = not (f FN == 0); pressed_in = held_by (λ c. f (LAYER + c)) }

-- what holds of the cells between blocks: the queue's length, a started break whose code is still in the queue, the
-- modes that there are, that the lights are at bits 4 to 6 alone, and that the Fn key's cell is 00 or FF
pub record Inv (f : ℕ → ℕ) : Type 0 where
  pub most : f COUNT % 128 ≤ 16
  pub started : f STARTED ≤ 1
  pub some : f STARTED ≤ f COUNT % 128
  pub mode : f MODE ≤ 2
  pub lamps : f LIGHTS ≡ 16 * (f LIGHTS / 16 % 8)
  pub fn : (f FN ≡ 0) ⊎ (f FN ≡ 255)
