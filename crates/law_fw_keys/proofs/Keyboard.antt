-- From cells and edges to the model's tick: the held keys are cells too.
use Rattle.law_fw_keys.proofs.Fold.{turned_all}
use Rattle.std.proofs.Common.{◌≡◌, ◌<◌, ℕ, suc, zero, ◌+◌, ◌==◌, not, Bool, true, false, List, length, bit_xor, refl}
use Rattle.std.proofs.Common.{ap, sym, ◌∙◌, subst}
use Rattle.model_keyboard.specs.declared.meeting.Meeting.{Meeting}
use Rattle.model_keyboard.specs.Codes.{Keys}
use Rattle.model_keyboard.specs.Keyboard.{Keyboard}
use Rattle.model_keyboard.specs.Layers.{Layers, layered, all_layers_after}
use Rattle.model_keyboard.specs.Tick.{met, tested_if, ticked}
use Rattle.law_fw_keys.specs.State.{flags, kbd_of, held_by, keyboard_of, layers_of}
use Rattle.law_fw_keys.specs.Frameless.{IsPressed, IsFrameless, shown_by, layers_by}
use Rattle.joint_run.specs.Run.{Board, World}
use Rattle.model_keyboard.specs.declared.meeting.Meeting.TheVariants.{Idle, Inhibited, Sent, Cut, Got}
use Rattle.law_fw_keys.specs.Edges.{tick_edges}
use Rattle.law_fw_keys.proofs.KeyedTick.{keyed_tick}
use Rattle.law_fw_keys.proofs.Edges.{ticked_is}
use Rattle.law_fw_keys.proofs.Held.{held_turns, held_same}
use Rattle.fw_kernel.specs.declared.cells.TheConstants.{HELD}

-- the list of n keys has n keys
pub flags_long : (g : ℕ → Bool) (n : ℕ) → length (flags g n) ≡ n
flags_long g zero = refl
flags_long g (suc n) = ap suc (flags_long (λ i. g (suc i)) n)

pub record Gone (keys : Keys) (meeting : Meeting) (changed down : ℕ → ℕ) (from : Layers) (s : ℕ → ℕ) (ring : List ℕ)
    (now : ℕ → ℕ) (last : List ℕ) : Type 0 where
  pub keyboard : keyboard_of now last
      ≡ ticked keys meeting (layered keys.is_fn (tick_edges changed down) from) (keyboard_of s ring)
  pub layers : layers_of now ≡ all_layers_after keys.is_fn (tick_edges changed down) from
  pub pressed : IsPressed keys (layers_of now) (keyboard_of now last).repeats

-- where what repeats as the keys' steps begin is pressed
abbrev pub IsPressedAt : Keys → Meeting → Layers → Keyboard → Type 0
IsPressedAt keys meeting l k = IsPressed keys l (tested_if (not (k.test == 0)) (met meeting keys k)).repeats

-- a tick of the self-test keeps that what repeats is pressed
pub tested_pressed : (keys : Keys) (l : Layers) (k : Keyboard) (b : Bool) → IsPressed keys l k.repeats
    → IsPressed keys l (tested_if b k).repeats
tested_pressed keys l k true h = h
tested_pressed keys l k false h = h

-- without a frame nothing changes what repeats before the keys' steps
pub frameless_pressed : (d : Board) (w : World d.State) (keys : Keys) (meeting : Meeting) → IsFrameless d w meeting
    → IsPressed keys (layers_by w.cpu.ram) (shown_by w.cpu.ram).repeats
    → IsPressedAt keys meeting (layers_by w.cpu.ram) (shown_by w.cpu.ram)
frameless_pressed d w keys Idle q h =
    tested_pressed keys (layers_by w.cpu.ram) (shown_by w.cpu.ram) (not ((shown_by w.cpu.ram).test == 0)) h
frameless_pressed d w keys Inhibited q h =
    tested_pressed keys (layers_by w.cpu.ram) (shown_by w.cpu.ram) (not ((shown_by w.cpu.ram).test == 0)) h
frameless_pressed d w keys (Got byte good) q h = elim q [ ]
frameless_pressed d w keys Sent q h = elim q [ ]
frameless_pressed d w keys Cut q h = elim q [ ]

-- a tick that does the keys' steps right but for the held keys, and leaves those as read, is a tick of the model
pub keyboard_goes : (keys : Keys) (meeting : Meeting) (from : Layers) (s : ℕ → ℕ) (ring : List ℕ) (now : ℕ → ℕ)
    (last : List ℕ) (changed down : ℕ → ℕ)
    → length from.pressed_in ≡ 96
    → ((i : ℕ) → i < 12 → now (HELD + i) ≡ down i)
    → ((i : ℕ) → i < 12 → bit_xor (s (HELD + i)) (down i) ≡ changed i)
    → kbd_of (held_by (λ c. s (HELD + c))) now last ≡ keyed_tick keys meeting changed down from (keyboard_of s ring)
    → layers_of now ≡ all_layers_after keys.is_fn (tick_edges changed down) from
    → IsPressedAt keys meeting from (keyboard_of s ring)
    → Gone keys meeting changed down from s ring now last
keyboard_goes keys meeting from s ring now last changed down long downs changes is layers pressed =
    let es : List (ℕ × Bool) = tick_edges changed down in
    let held : List Bool = held_by (λ c. s (HELD + c)) in
    let k : Keyboard = keyboard_of s ring in
    let t = ticked_is keys meeting changed down from k long pressed in
    let goes : keyboard_of now last ≡ ticked keys meeting (layered keys.is_fn es from) k =
    ap (λ h. kbd_of h now last) (held_same (λ c. now (HELD + c)) down downs)
    ∙ ap (λ h. kbd_of h now last) (sym (held_turns (λ c. s (HELD + c)) down changed changes))
    ∙ ap (λ (k : Keyboard). record k { held = turned_all es k.held }) is
    ∙ sym t.is in
    record {
      keyboard = goes;
      layers = layers;
      pressed = subst (λ (j : Keyboard). IsPressed keys (layers_of now) j.repeats) (sym goes)
          (subst (λ l. IsPressed keys l (ticked keys meeting (layered keys.is_fn es from) k).repeats)
          (sym layers) t.pressed);
    }
