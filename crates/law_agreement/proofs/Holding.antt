-- A tick's edges become the keys that are held, where each of the 96 places has its Boolean.
use Rattle.std.proofs.Common.{◌≡◌, ◌<◌, ℕ, suc, zero, ◌%◌, ◌==◌, nat_le, nat_lt, not, Bool, true, false}
use Rattle.std.proofs.Common.{if◌then◌else◌, List, [], ◌∷◌, replicate, slice_index_or, Some, None}
use Rattle.std.proofs.Common.{refl, ap, ◌∙◌}
use Rattle.std.specs.declared.option.Option.{Option}
use Rattle.board_terms.specs.Matrix.{turned}
use Rattle.law_fw_keys.proofs.Fold.{turned_all}
use Rattle.model_keyboard.specs.declared.meeting.Meeting.{Meeting as KeyboardMeeting}
use Rattle.model_keyboard.specs.declared.meeting.Meeting.TheVariants.{Idle, Inhibited, Sent, Cut, Got}
use Rattle.model_keyboard.specs.declared.state.Mode.{Mode}
use Rattle.model_keyboard.specs.declared.state.Mode.TheVariants.{Ready, WantRate, WantLights}
use Rattle.model_keyboard.specs.declared.state.Reply.{Reply}
use Rattle.model_keyboard.specs.declared.state.Repeat.{Repeat}
use Rattle.model_keyboard.specs.Codes.{Keys}
use Rattle.model_keyboard.specs.Commands.{obeyed_in, parameter, commanded, acknowledges, replies}
use Rattle.model_keyboard.specs.Keyboard.{Keyboard, offer}
use Rattle.model_keyboard.specs.Queue.{clear}
use Rattle.model_keyboard.specs.Tick.{met, sent_byte, without_offered, reset, tested_if, repeated, repeated_if}
use Rattle.model_keyboard.specs.Layers.{Layers, layer_of, layers_after, layered}
use Rattle.model_keyboard.specs.Tick.{edge_if, edges_if, is_scanning, is_inhibited, ticked}
use Rattle.model_controller.specs.declared.meeting.Meeting.{Meeting}
use Rattle.layout_reader.specs.Layouts.{KeyLayout}
use Rattle.model_link.proofs.Taken.{AreWide, turned_shown}
use Rattle.model_link.specs.Debounce.{turned_all as switches_turned}
use Rattle.model_link.specs.Machine.{LayeredKeyboard, keyboard}
use Rattle.model_link.specs.TickEdges.{shown}

-- each place has its Boolean
abbrev pub HasPlaces : LayeredKeyboard → Type 0
HasPlaces k = AreWide k.switches

-- a choice of two keyboards that hold the same keys
chosen : (b : Bool) (x y : Keyboard) (held : List Bool) → x.held ≡ held → y.held ≡ held
    → (if b then x else y).held ≡ held
chosen true x y held p q = p
chosen false x y held p q = q

-- a command says nothing of the held keys
command_holds : (keys : Keys) (byte : ℕ) (k : Keyboard) → (commanded keys byte k).held ≡ k.held
command_holds keys byte k =
    by (byte == 0xff) (byte == 0xfe) (byte == 0xf6) (byte == 0xf5) (byte == 0xf4) (byte == 0xf3) (byte == 0xed)
    (byte == 0xee) (nat_le 0xef byte)
  where
    by : (b0 b1 b2 b3 b4 b5 b6 b7 b8 : Bool) → (
        if b0 then record k { reply = Some (record { byte = 0xfa; resets = true }) }
        else if b1 then replies k.last k
        else if b2 then record (acknowledges k) { queue = clear k.queue; rate = keys.rate; repeats = None }
        else if b3 then
        record (acknowledges k) { queue = clear k.queue; rate = keys.rate; repeats = None; enabled = false }
        else if b4 then record (acknowledges k) { queue = clear k.queue; repeats = None; enabled = true }
        else if b5 then record (acknowledges k) { mode = WantRate }
        else if b6 then record (acknowledges k) { mode = WantLights }
        else if b7 then replies 0xee k
        else if b8 then acknowledges k
        else replies 0xfe k).held ≡ k.held
    by true b1 b2 b3 b4 b5 b6 b7 b8 = refl
    by false true b2 b3 b4 b5 b6 b7 b8 = refl
    by false false true b3 b4 b5 b6 b7 b8 = refl
    by false false false true b4 b5 b6 b7 b8 = refl
    by false false false false true b5 b6 b7 b8 = refl
    by false false false false false true b6 b7 b8 = refl
    by false false false false false false true b7 b8 = refl
    by false false false false false false false true b8 = refl
    by false false false false false false false false true = refl
    by false false false false false false false false false = refl

-- nor does a parameter
parameter_holds : (keys : Keys) (byte : ℕ) (with_it k : Keyboard) → with_it.held ≡ k.held
    → (parameter keys byte with_it k).held ≡ k.held
parameter_holds keys byte with_it k same =
    let ready : Keyboard = record k { mode = Ready } in
    let other : Keyboard = if nat_lt byte 0xed then replies 0xfe k else commanded keys byte ready in
    chosen (nat_lt byte 0x80) (record (acknowledges with_it) { mode = Ready }) other k.held same
    (chosen (nat_lt byte 0xed) (replies 0xfe k) (commanded keys byte ready) k.held refl (command_holds keys byte ready))

-- so no byte from the system does
obeyed_holds : (keys : Keys) (mode : Mode) (byte : ℕ) (k : Keyboard) → (obeyed_in mode keys byte k).held ≡ k.held
obeyed_holds keys Ready byte k = command_holds keys byte k
obeyed_holds keys WantRate byte k = parameter_holds keys byte (record k { rate = byte }) k refl
obeyed_holds keys WantLights byte k = parameter_holds keys byte (record k { lights = byte % 8 }) k refl

-- nor what was offered and is sent
without_holds : (keys : Keys) (reply : Option Reply) (k : Keyboard) → (without_offered reply keys k).held ≡ k.held
without_holds keys None k = refl
without_holds keys (Some reply) k = chosen reply.resets (reset keys k) (record k { reply = None }) k.held refl refl

-- nor the byte that is sent
sent_holds : (keys : Keys) (byte : Option ℕ) (k : Keyboard) → (sent_byte byte keys k).held ≡ k.held
sent_holds keys None k = refl
sent_holds keys (Some byte) k = without_holds keys k.reply (record k { last = if byte == 0xfe then k.last else byte })

-- so a meeting leaves them
met_holds : (keys : Keys) (meeting : KeyboardMeeting) (k : Keyboard) → (met meeting keys k).held ≡ k.held
met_holds keys Sent k = sent_holds keys (offer k) k
met_holds keys (Got byte good) k =
    chosen good (obeyed_in k.mode keys byte k) (replies 0xfe k) k.held (obeyed_holds keys k.mode byte k) refl
met_holds keys Inhibited k = refl
met_holds keys Idle k = refl
met_holds keys Cut k = refl

-- so does the test
tested_holds : (b : Bool) (k : Keyboard) → (tested_if b k).held ≡ k.held
tested_holds true k = refl
tested_holds false k = refl

-- and so does the key that repeats
repeat_holds : (keys : Keys) (r : Option Repeat) (inhibited : Bool) (k : Keyboard)
    → (repeated r keys inhibited k).held ≡ k.held
repeat_holds keys None inhibited k = refl
repeat_holds keys (Some r) inhibited k = refl

-- whether scanning is on or off
repeats_hold : (keys : Keys) (on inhibited : Bool) (k : Keyboard) → (repeated_if on keys inhibited k).held ≡ k.held
repeats_hold keys true inhibited k = repeat_holds keys k.repeats inhibited k
repeats_hold keys false inhibited k = refl

-- an edge turns what is held, whatever its layer
edge_turns : (keys : Keys) (on : Bool) (place : ℕ) (down on_fn : Bool) (k : Keyboard)
    → (edge_if on keys place down on_fn k).held ≡ turned place down k.held
edge_turns keys true place true on_fn k = refl
edge_turns keys true place false on_fn k = refl
edge_turns keys false place down on_fn k = refl

edges_turn : (keys : Keys) (on : Bool) (is_fn : ℕ → Bool) (edges : List (ℕ × Bool)) (l : Layers) (k : Keyboard) (held : List Bool)
    → k.held ≡ held → (edges_if on keys (layered is_fn edges l) k).held ≡ turned_all edges held
edges_turn keys on is_fn [] l k held same = same
edges_turn keys on is_fn (e ∷ es) l k held same =
    edges_turn keys on is_fn es (layers_after is_fn e l) (edge_if on keys e.0 e.1 (layer_of l e.0 e.1) k) (turned e.0 e.1 held)
    (edge_turns keys on e.0 e.1 (layer_of l e.0 e.1) k ∙ ap (λ h. turned e.0 e.1 h) same)

-- the edges alone turn the keys of a tick
pub ticked_holds : (keys : Keys) (meeting : KeyboardMeeting) (is_fn : ℕ → Bool) (edges : List (ℕ × Bool)) (l : Layers) (k : Keyboard)
    → (ticked keys meeting (layered is_fn edges l) k).held ≡ turned_all edges k.held
ticked_holds keys meeting is_fn edges l k =
    let j : Keyboard = tested_if (not (k.test == 0)) (met meeting keys k) in
    let i : Keyboard = repeated_if (is_scanning j) keys (is_inhibited meeting) j in
    edges_turn keys (is_scanning j) is_fn edges l i k.held
    (repeats_hold keys (is_scanning j) (is_inhibited meeting) j ∙ tested_holds (not (k.test == 0)) (met meeting keys k)
    ∙ met_holds keys meeting k)

-- the same edges turn the same keys
pub same_turned : (edges : List (ℕ × Bool)) (held : List Bool) → turned_all edges held ≡ switches_turned edges held
same_turned [] held = refl
same_turned (e ∷ es) held = same_turned es (turned e.0 e.1 held)

-- what the columns show is what was read after the tick
pub holds_now : (layout : KeyLayout) (meeting : Meeting) (k : LayeredKeyboard) (now : ℕ → Bool) (p : ℕ) → HasPlaces k → p < 96
    → (keyboard layout).held ((keyboard layout).ticked meeting (shown ((keyboard layout).held k) now) k) p ≡ now p
holds_now layout meeting k now p has l = turned_shown k.switches.read now p has.read l

-- a list of keys that are up
none_down : (n p : ℕ) → slice_index_or (replicate n false) p false ≡ false
none_down zero p = refl
none_down (suc n) zero = refl
none_down (suc n) (suc p) = none_down n p

-- no key is held at power-on
pub none_held : (layout : KeyLayout) (p : ℕ) → (keyboard layout).held (keyboard layout).start p ≡ false
none_held layout p = none_down 96 p
