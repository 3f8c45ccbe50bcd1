-- The keyboard's ticks while keys are struck.
use Rattle.std.proofs.Common.{◌≡◌, ℕ, suc, zero, ◌+◌, ◌-◌, ◌<◌, ◌≤◌, ◌≢◌, Bool, true, false, not, ◌&&◌, ◌||◌, ◌==◌, List, []}
use Rattle.std.proofs.Common.{◌∷◌, ◌++◌, length, replicate, get_or, set, Some, None, refl, ap, sym, ◌∙◌, arith}
use Rattle.std.specs.Prelude.{if◌then◌else◌, nat_lt}
use Rattle.std.specs.declared.option.Option.{Option}
use Rattle.std.proofs.lemmas.List.{get_or-replicate, get_or-set_other, set-get_or}
use Rattle.board_terms.specs.Matrix.{all_up, turned}
use Rattle.model_keyboard.specs.declared.edge.TickEdge.{TickEdge}
use Rattle.model_keyboard.specs.declared.state.Mode.TheVariants.{Ready}
use Rattle.model_keyboard.specs.declared.state.Repeat.{Repeat}
use Rattle.model_keyboard.specs.Codes.{Keys, make, release}
use Rattle.model_keyboard.specs.Queue.{KeyQueue, enter}
use Rattle.model_keyboard.specs.Typematic.{delay, period}
use Rattle.model_keyboard.specs.Keyboard.{Keyboard}
use Rattle.model_keyboard.specs.Layers.{no_layers, layered, all_layers_after}
use Rattle.model_keyboard.specs.Tick.{scanned, edges_if, ended_at}

-- the keyboard after its test, at the rate that it had at power-on
abbrev pub typing : ℕ → ℕ → List ℕ → Bool → Option Repeat → List Bool → Keyboard
typing rate last bytes started repeats held = record {
  test = 0;
  enabled = true;
  mode = Ready;
  reply = None;
  aa_due = false;
  last = last;
  queue = record { bytes = bytes; overrun = false; break_started = started };
  repeats = repeats;
  rate = rate;
  lights = 0;
  held = held;
}

-- a key that repeats has a tick less to wait, and isn't at the last of them
abbrev pub later : Option Repeat → Option Repeat
later None = None
later (Some r) = Some (record r { count = r.count - 1 })

abbrev pub IsLong : Option Repeat → Type 0
IsLong None = Unit {0}
IsLong (Some r) = (r.count == 1) ≡ false

-- if the key that repeats isn't due yet, it waits a tick less, and the tick's edges do the rest
pub waits : (keys : Keys) (edges : List TickEdge) (rate last : ℕ) (bytes : List ℕ) (started : Bool)
    (rep : Option Repeat)
    (held : List Bool) → IsLong rep
    → scanned keys false edges (typing rate last bytes started rep held)
    ≡ edges_if true keys edges (typing rate last bytes started (later rep) held)
waits keys edges rate last bytes started None held l = refl
waits keys edges rate last bytes started (Some r) held l =
    let q : KeyQueue = record { bytes = bytes; overrun = false; break_started = started } in
    ap (λ c. edges_if true keys edges (record (typing rate last bytes started (Some r) held) {
      repeats = Some (record r { count = if c then period rate else r.count - 1 });
      queue = if c && not false then enter (make (keys.code r.on_fn r.place)) q else q;
    })) l

abbrev pub edge : ℕ → Bool → TickEdge
edge place down = record { place = place; down = down; on_fn = false }

abbrev pub pressed_at : ℕ → ℕ → Option Repeat
pressed_at rate place = Some (record { place = place; count = delay rate; on_fn = false })

module _ (keys : Keys) (rate last : ℕ) (bytes : List ℕ) (started : Bool) (rep : Option Repeat) (held : List Bool)
    (place code : ℕ) (at : keys.code false place ≡ code) (fn : keys.is_fn place ≡ false) where
  -- a press enters the key's code and begins to repeat, if there is room
  pub presses : nat_lt 16 (length bytes + length (code ∷ [])) ≡ false
      → edges_if true keys (edge place true ∷ []) (typing rate last bytes started rep held)
      ≡ typing rate last (bytes ++ code ∷ []) started (pressed_at rate place) (turned place true held)
  presses room =
      let q : KeyQueue = record { bytes = bytes; overrun = false; break_started = started } in
      ap (λ b. record (typing rate last bytes started rep held) {
        held = turned place true held;
        queue = if b then q else enter (make (keys.code false place)) q;
        repeats = if b then rep else pressed_at rate place;
      }) fn
      ∙ ap (λ c. record (typing rate last bytes started (pressed_at rate place) (turned place true held)) {
        queue = enter (make c) q;
      }) at
      ∙ ap (λ b. record (typing rate last bytes started (pressed_at rate place) (turned place true held)) {
        queue = if b then record q { overrun = true } else record q { bytes = bytes ++ code ∷ [] };
      }) room

  -- the release of a key that only makes enters nothing
  pub ends_silently : keys.make_only place ≡ true
      → edges_if true keys (edge place false ∷ []) (typing rate last bytes started rep held)
      ≡ typing rate last bytes started (ended_at place rep) (turned place false held)
  ends_silently only =
      let q : KeyQueue = record { bytes = bytes; overrun = false; break_started = started } in
      ap (λ b. record (typing rate last bytes started rep held) {
        held = turned place false held;
        queue = if b || keys.make_only place then q else enter (release (keys.code false place)) q;
        repeats = if b then rep else ended_at place rep;
      }) fn
      ∙ ap (λ b. record (typing rate last bytes started (ended_at place rep) (turned place false held)) {
        queue = if b then q else enter (release (keys.code false place)) q;
      }) only

  -- the release of a key enters F0 and its code, if there is room
  pub ends : keys.make_only place ≡ false → nat_lt 16 (length bytes + length (0xf0 ∷ code ∷ [])) ≡ false
      → edges_if true keys (edge place false ∷ []) (typing rate last bytes started rep held)
      ≡ typing rate last (bytes ++ 0xf0 ∷ code ∷ []) started (ended_at place rep) (turned place false held)
  ends only room =
      let q : KeyQueue = record { bytes = bytes; overrun = false; break_started = started } in
      ap (λ b. record (typing rate last bytes started rep held) {
        held = turned place false held;
        queue = if b || keys.make_only place then q else enter (release (keys.code false place)) q;
        repeats = if b then rep else ended_at place rep;
      }) fn
      ∙ ap (λ b. record (typing rate last bytes started (ended_at place rep) (turned place false held)) {
        queue = if b then q else enter (release (keys.code false place)) q;
      }) only
      ∙ ap (λ c. record (typing rate last bytes started (ended_at place rep) (turned place false held)) {
        queue = enter (release c) q;
      }) at
      ∙ ap (λ b. record (typing rate last bytes started (ended_at place rep) (turned place false held)) {
        queue = if b then record q { overrun = true } else record q { bytes = bytes ++ 0xf0 ∷ code ∷ [] };
      }) room

-- the base layer holds throughout
none_pressed : (place : ℕ) → place < 96 → get_or (replicate 96 false) place false ≡ false
none_pressed place l = get_or-replicate 96 place false false l

set_none : (place : ℕ) → place < 96 → set (replicate 96 false) place false ≡ replicate 96 false
set_none place l =
    ap (λ b. set (replicate 96 false) place b) (sym (none_pressed place l))
    ∙ set-get_or (replicate 96 false) place false

-- the press of a key that isn't Fn, with Fn up, leaves the layers
pub layers_of_press : (is_fn : ℕ → Bool) (place : ℕ) → place < 96 → is_fn place ≡ false
    → all_layers_after is_fn ((place, true) ∷ []) no_layers ≡ no_layers
layers_of_press is_fn place l fn =
    ap (λ b. record { fn_down = if b then true else false; pressed_in = set (replicate 96 false) place false }) fn
    ∙ ap (λ v. record { fn_down = false; pressed_in = v }) (set_none place l)

-- the release of a key that isn't Fn leaves the layers
pub layers_of_release : (is_fn : ℕ → Bool) (place : ℕ) → is_fn place ≡ false
    → all_layers_after is_fn ((place, false) ∷ []) no_layers ≡ no_layers
layers_of_release is_fn place fn =
    ap (λ b. record { fn_down = if b then false else false; pressed_in = replicate 96 false }) fn

-- with Fn up the release of a key is an edge in the base layer
pub release_layered : (is_fn : ℕ → Bool) (place : ℕ) → place < 96
    → layered is_fn ((place, false) ∷ []) no_layers ≡ edge place false ∷ []
release_layered is_fn place l =
    ap (λ b. record { place = place; down = false; on_fn = b } ∷ []) (none_pressed place l)

-- a key that was pressed and released
set_set : (xs : List Bool) (i : ℕ) (a b : Bool) → set (set xs i a) i b ≡ set xs i b
set_set [] i a b = refl
set_set (x ∷ xs) zero a b = refl
set_set (x ∷ xs) (suc i) a b = ap (λ v. x ∷ v) (set_set xs i a b)

-- a key that is pressed and released leaves the held keys
pub struck : (held : List Bool) (place : ℕ) → get_or held place false ≡ false
    → turned place false (turned place true held) ≡ held
struck held place up =
    set_set held place true false ∙ ap (λ b. set held place b) (sym up) ∙ set-get_or held place false

-- with no key down a key is up
pub up_at_first : (place : ℕ) → place < 96 → get_or all_up place false ≡ false
up_at_first place l = none_pressed place l

-- with one other key down a key is up
pub up_beside : (place other : ℕ) → place < 96 → place ≢ other → get_or (turned other true all_up) place false ≡ false
up_beside place other l apart = get_or-set_other all_up other place true false apart ∙ none_pressed place l

-- the delay before a key repeats is at least 49 ticks
pub delay_long : (rate : ℕ) → 49 ≤ delay rate
delay_long rate = omega arith
