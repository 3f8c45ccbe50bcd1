-- Which places have the Fn key matters at the edges' own places alone.
use Rattle.std.proofs.Common.{◌≡◌, ℕ, suc, Bool, true, false, not, ◌==◌, ◌||◌, List, [], ◌∷◌, Some, None, refl, ap, ◌∙◌, arith}
use Rattle.std.specs.Prelude.{All, if◌then◌else◌}
use Rattle.std.specs.declared.option.Option.{Option}
use Rattle.board_terms.specs.Matrix.{turned}
use Rattle.model_keyboard.specs.declared.edge.TickEdge.{TickEdge}
use Rattle.model_keyboard.specs.declared.meeting.Meeting.{Meeting}
use Rattle.model_keyboard.specs.declared.meeting.Meeting.TheVariants.{Got, Inhibited, Idle, Sent, Cut}
use Rattle.model_keyboard.specs.declared.state.Mode.{Mode}
use Rattle.model_keyboard.specs.declared.state.Mode.TheVariants.{Ready, WantRate, WantLights}
use Rattle.model_keyboard.specs.declared.state.Reply.{Reply}
use Rattle.model_keyboard.specs.declared.state.Repeat.{Repeat}
use Rattle.model_keyboard.specs.Codes.{Keys, make, release}
use Rattle.model_keyboard.specs.Queue.{enter}
use Rattle.model_keyboard.specs.Typematic.{delay}
use Rattle.model_keyboard.specs.Keyboard.{Keyboard, offer}
use Rattle.model_keyboard.specs.Commands.{commanded, parameter, obeyed_in}
use Rattle.model_keyboard.specs.Layers.{Layers, in_layer, layers_after, layered, all_layers_after}
use Rattle.model_keyboard.specs.Tick.{met, tested_if, without_offered, sent_byte, is_scanning, repeated}
use Rattle.model_keyboard.specs.Tick.{repeated_if, ended_at, edge_if, edges_if, is_inhibited, scanned, ticked}

-- the same keys with the Fn key elsewhere
abbrev pub with_fn : Keys → (ℕ → Bool) → Keys
with_fn a g = record { code = a.code; make_only = a.make_only; is_fn = g; rate = a.rate }

-- what the layers make of the edges, and they of the layers
module _ (f g : ℕ → Bool) where
  after_same : (edge : ℕ × Bool) (l : Layers) → f edge.0 ≡ g edge.0 → layers_after f edge l ≡ layers_after g edge l
  after_same edge l h = ap (λ b. record {
    fn_down = if b then edge.1 else l.fn_down;
    pressed_in = if edge.1 then Rattle.std.specs.Prelude.slice_set l.pressed_in edge.0 l.fn_down else l.pressed_in;
  }) h

  -- edges are in the same layers, if at their own places the Fn key is the same
  pub layered_same : (edges : List (ℕ × Bool)) (l : Layers) → All (λ (c : ℕ × Bool). f c.0 ≡ g c.0) edges
      → layered f edges l ≡ layered g edges l
  layered_same [] l h = refl
  layered_same (c ∷ cs) l h =
      ap (λ v. in_layer l c ∷ layered f cs v) (after_same c l (h 0 c (omega arith)))
      ∙ ap (λ v. in_layer l c ∷ v) (layered_same cs (layers_after g c l) (λ k d m. h (suc k) d (omega (arith, m))))

  -- the layers after edges are the same, if at their own places the Fn key is the same
  pub layers_same : (edges : List (ℕ × Bool)) (l : Layers) → All (λ (c : ℕ × Bool). f c.0 ≡ g c.0) edges
      → all_layers_after f edges l ≡ all_layers_after g edges l
  layers_same [] l h = refl
  layers_same (c ∷ cs) l h =
      ap (λ v. all_layers_after f cs v) (after_same c l (h 0 c (omega arith)))
      ∙ layers_same cs (layers_after g c l) (λ k d m. h (suc k) d (omega (arith, m)))

module _ (a : Keys) (g : ℕ → Bool) where
  -- steps 1 and 2 know of no place
  off_same : (r : Option Reply) (k : Keyboard) → without_offered r a k ≡ without_offered r (with_fn a g) k
  off_same (Some r) k = refl
  off_same None k = refl

  sent_same : (o : Option ℕ) (k : Keyboard) → sent_byte o a k ≡ sent_byte o (with_fn a g) k
  sent_same (Some b) k = off_same k.reply (record k { last = if b == 0xfe then k.last else b })
  sent_same None k = refl

  obeyed_same : (m : Mode) (byte : ℕ) (k : Keyboard) → obeyed_in m a byte k ≡ obeyed_in m (with_fn a g) byte k
  obeyed_same Ready byte k = refl
  obeyed_same WantRate byte k = refl
  obeyed_same WantLights byte k = refl

  met_same : (m : Meeting) (k : Keyboard) → met m a k ≡ met m (with_fn a g) k
  met_same Sent k = sent_same (offer k) k
  met_same (Got byte true) k = obeyed_same k.mode byte k
  met_same (Got byte false) k = refl
  met_same Inhibited k = refl
  met_same Idle k = refl
  met_same Cut k = refl

  -- nor does step 4
  repeat_same : (r : Option Repeat) (inhibited : Bool) (k : Keyboard) → repeated r a inhibited k ≡ repeated r (with_fn a g) inhibited k
  repeat_same (Some r) inhibited k = refl
  repeat_same None inhibited k = refl

  repeats_same : (on inhibited : Bool) (k : Keyboard) → repeated_if on a inhibited k ≡ repeated_if on (with_fn a g) inhibited k
  repeats_same true inhibited k = repeat_same k.repeats inhibited k
  repeats_same false inhibited k = refl

  -- an edge at a place where both say the same
  edge_same : (on : Bool) (place : ℕ) (down on_fn : Bool) (k : Keyboard) → a.is_fn place ≡ g place
      → edge_if on a place down on_fn k ≡ edge_if on (with_fn a g) place down on_fn k
  edge_same true place true on_fn k h = ap (λ b. record k {
    held = turned place true k.held;
    queue = if b then k.queue else enter (make (a.code on_fn place)) k.queue;
    repeats = if b then k.repeats else Some (record { place = place; count = delay k.rate; on_fn = on_fn });
  }) h
  edge_same true place false on_fn k h = ap (λ b. record k {
    held = turned place false k.held;
    queue = if b || a.make_only place then k.queue else enter (release (a.code on_fn place)) k.queue;
    repeats = if b then k.repeats else ended_at place k.repeats;
  }) h
  edge_same false place down on_fn k h = refl

  edges_same : (on : Bool) (edges : List TickEdge) (k : Keyboard) → All (λ (e : TickEdge). a.is_fn e.place ≡ g e.place) edges
      → edges_if on a edges k ≡ edges_if on (with_fn a g) edges k
  edges_same on [] k h = refl
  edges_same on (e ∷ es) k h =
      ap (λ v. edges_if on a es v) (edge_same on e.place e.down e.on_fn k (h 0 e (omega arith)))
      ∙ edges_same on es (edge_if on (with_fn a g) e.place e.down e.on_fn k) (λ i d l. h (suc i) d (omega (arith, l)))

  scanned_same : (inhibited : Bool) (edges : List TickEdge) (k : Keyboard) → All (λ (e : TickEdge). a.is_fn e.place ≡ g e.place) edges
      → scanned a inhibited edges k ≡ scanned (with_fn a g) inhibited edges k
  scanned_same inhibited edges k h =
      ap (λ v. edges_if (is_scanning k) a edges v) (repeats_same (is_scanning k) inhibited k)
      ∙ edges_same (is_scanning k) edges (repeated_if (is_scanning k) (with_fn a g) inhibited k) h

  -- so a tick is the same
  pub ticked_same : (meeting : Meeting) (edges : List TickEdge) (k : Keyboard) → All (λ (e : TickEdge). a.is_fn e.place ≡ g e.place) edges
      → ticked a meeting edges k ≡ ticked (with_fn a g) meeting edges k
  ticked_same meeting edges k h =
      let on : Bool = not (k.test == 0) in
      ap (λ v. scanned a (is_inhibited meeting) edges (tested_if on v)) (met_same meeting k)
      ∙ scanned_same (is_inhibited meeting) edges (tested_if on (met meeting (with_fn a g) k)) h
