-- The layout's keys in place of the image's: a tick asks for the codes of places below 96 and for the rate alone.
use Rattle.std.proofs.Common.{◌≡◌, ◌<◌, ℕ, suc, zero, ◌+◌, ◌-◌, ◌*◌, ◌==◌, not, ◌&&◌, ◌||◌, slice_set, Bool, true}
use Rattle.std.proofs.Common.{false}
use Rattle.std.proofs.Common.{if◌then◌else◌, List, [], ◌∷◌, ◌++◌, Some, None, refl, ap, sym, ◌∙◌, subst, arith}
use Rattle.std.specs.declared.option.Option.{Option}
use Rattle.bits.specs.Bits.{bit}
use Rattle.model_keyboard.specs.declared.edge.TickEdge.{TickEdge}
use Rattle.model_keyboard.specs.declared.meeting.Meeting.{Meeting}
use Rattle.model_keyboard.specs.declared.meeting.Meeting.TheVariants.{Idle, Inhibited, Sent, Cut, Got}
use Rattle.model_keyboard.specs.declared.state.Mode.{Mode}
use Rattle.model_keyboard.specs.declared.state.Mode.TheVariants.{Ready, WantRate, WantLights}
use Rattle.model_keyboard.specs.declared.state.Reply.{Reply}
use Rattle.model_keyboard.specs.declared.state.Repeat.{Repeat}
use Rattle.model_keyboard.specs.Codes.{Keys, make, release}
use Rattle.model_keyboard.specs.Queue.{enter}
use Rattle.model_keyboard.specs.Typematic.{delay, period}
use Rattle.model_keyboard.specs.Keyboard.{Keyboard, offer}
use Rattle.model_keyboard.specs.Commands.{obeyed, obeyed_in, commanded}
use Rattle.model_keyboard.specs.Layers.{Layers, in_layer, layers_after, layered, all_layers_after}
use Rattle.model_keyboard.specs.Tick.{met, sent_byte, without_offered, tested_if, repeated, repeated_if, edge_if}
use Rattle.model_keyboard.specs.Tick.{edges_if, ended_at, is_scanning, is_inhibited, scanned, ticked}
use Rattle.board_terms.specs.Matrix.{turned}
use Rattle.law_fw_keys.specs.Edges.{row_edges, column_edges, tick_edges}

-- what repeats, and edges, at places below 96
abbrev pub low_repeat : Option Repeat → Type 0
low_repeat None = Unit {0}
low_repeat (Some r) = r.place < 96

abbrev pub low_edges : List (ℕ × Bool) → Type 0
low_edges [] = Unit {0}
low_edges (e ∷ es) = (e.0 < 96) × low_edges es

abbrev pub low_ticks : List TickEdge → Type 0
low_ticks [] = Unit {0}
low_ticks (e ∷ es) = (e.place < 96) × low_ticks es

-- edges at places of the matrix are still at such places once each has its layer
pub low_layered : (is_fn : ℕ → Bool) (es : List (ℕ × Bool)) (t : Layers) → low_edges es → low_ticks (layered is_fn es t)
low_layered is_fn [] t l = tt
low_layered is_fn (x ∷ xs) t l = (l.0, low_layered is_fn xs (layers_after is_fn x t) l.1)

pub record SameKeys (a b : Keys) : Type 0 where
  pub rate : a.rate ≡ b.rate
  pub code : (on_fn : Bool) (p : ℕ) → p < 96 → a.code on_fn p ≡ b.code on_fn p
  pub make_only : (p : ℕ) → p < 96 → a.make_only p ≡ b.make_only p
  pub is_fn : (p : ℕ) → p < 96 → a.is_fn p ≡ b.is_fn p

abbrev with_rate : Keys → ℕ → Keys
with_rate a v = record { code = a.code; make_only = a.make_only; is_fn = a.is_fn; rate = v }

module _ (a b : Keys) (same : SameKeys a b) where
  goes : (r : Option Reply) (k : Keyboard) → without_offered r a k ≡ without_offered r b k
  goes None k = refl
  goes (Some r) k = ap (λ v. without_offered (Some r) (with_rate a v) k) same.rate

  sends : (o : Option ℕ) (k : Keyboard) → sent_byte o a k ≡ sent_byte o b k
  sends None k = refl
  sends (Some byte) k = goes k.reply (record k { last = if byte == 0xfe then k.last else byte })

  commands : (byte : ℕ) (k : Keyboard) → commanded a byte k ≡ commanded b byte k
  commands byte k = ap (λ v. commanded (with_rate a v) byte k) same.rate

  obeys_in : (mode : Mode) (byte : ℕ) (k : Keyboard) → obeyed_in mode a byte k ≡ obeyed_in mode b byte k
  obeys_in Ready byte k = commands byte k
  obeys_in WantRate byte k = ap (λ v. obeyed_in WantRate (with_rate a v) byte k) same.rate
  obeys_in WantLights byte k = ap (λ v. obeyed_in WantLights (with_rate a v) byte k) same.rate

  obeys : (byte : ℕ) (good : Bool) (k : Keyboard) → obeyed a byte good k ≡ obeyed b byte good k
  obeys byte true k = obeys_in k.mode byte k
  obeys byte false k = refl

  meets : (meeting : Meeting) (k : Keyboard) → met meeting a k ≡ met meeting b k
  meets Sent k = sends (offer k) k
  meets (Got byte good) k = obeys byte good k
  meets Inhibited k = refl
  meets Idle k = refl
  meets Cut k = refl

  repeats : (r : Option Repeat) (inhibited : Bool) (k : Keyboard) → low_repeat r
      → repeated r a inhibited k ≡ repeated r b inhibited k
  repeats None inhibited k l = refl
  repeats (Some r) inhibited k l =
      ap (λ (c : ℕ). record k {
        repeats = Some (record r { count = if r.count == 1 then period k.rate else r.count - 1 });
        queue = if (r.count == 1) && not inhibited then enter (make c) k.queue else k.queue;
      }) (same.code r.on_fn r.place l)

  repeats_if : (on inhibited : Bool) (k : Keyboard) → low_repeat k.repeats
      → repeated_if on a inhibited k ≡ repeated_if on b inhibited k
  repeats_if true inhibited k l = repeats k.repeats inhibited k l
  repeats_if false inhibited k l = refl

  one_edge : (on : Bool) (place : ℕ) (down on_fn : Bool) (k : Keyboard) → place < 96
      → edge_if on a place down on_fn k ≡ edge_if on b place down on_fn k
  one_edge true place true on_fn k l =
      ap (λ (c : ℕ).
      record k {
        held = turned place true k.held;
        queue = if a.is_fn place then k.queue else enter (make c) k.queue;
        repeats =
            if a.is_fn place then k.repeats
            else Some (record { place = place; count = delay k.rate; on_fn = on_fn });
      }) (same.code on_fn place l)
      ∙ ap (λ (z : Bool).
      record k {
        held = turned place true k.held;
        queue = if z then k.queue else enter (make (b.code on_fn place)) k.queue;
        repeats = if z then k.repeats else Some (record { place = place; count = delay k.rate; on_fn = on_fn });
      }) (same.is_fn place l)
  one_edge true place false on_fn k l =
      ap (λ (c : ℕ).
      record k {
        held = turned place false k.held;
        queue = if a.is_fn place || a.make_only place then k.queue else enter (release c) k.queue;
        repeats = if a.is_fn place then k.repeats else ended_at place k.repeats;
      }) (same.code on_fn place l)
      ∙ ap (λ (o : Bool).
      record k {
        held = turned place false k.held;
        queue = if a.is_fn place || o then k.queue else enter (release (b.code on_fn place)) k.queue;
        repeats = if a.is_fn place then k.repeats else ended_at place k.repeats;
      }) (same.make_only place l)
      ∙ ap (λ (z : Bool).
      record k {
        held = turned place false k.held;
        queue = if z || b.make_only place then k.queue else enter (release (b.code on_fn place)) k.queue;
        repeats = if z then k.repeats else ended_at place k.repeats;
      }) (same.is_fn place l)
  one_edge false place down on_fn k l = refl

  edges : (on : Bool) (es : List TickEdge) (k : Keyboard) → low_ticks es → edges_if on a es k ≡ edges_if on b es k
  edges on [] k l = refl
  edges on (e ∷ es) k l = edges on es (edge_if on a e.place e.down e.on_fn k) l.1
      ∙ ap (λ j. edges_if on b es j) (one_edge on e.place e.down e.on_fn k l.0)

  -- each edge is in the same layer, and the layers behind them are the same
  step_same : (x : ℕ × Bool) (t : Layers) → x.0 < 96 → layers_after a.is_fn x t ≡ layers_after b.is_fn x t
  step_same (place, down) t l =
      ap (λ z. record {
        fn_down = if z then down else t.fn_down;
        pressed_in = if down then slice_set t.pressed_in place t.fn_down else t.pressed_in;
      }) (same.is_fn place l)

  layered_same : (es : List (ℕ × Bool)) (t : Layers) → low_edges es → layered a.is_fn es t ≡ layered b.is_fn es t
  layered_same [] t l = refl
  layered_same (x ∷ xs) t l =
      ap (λ u. in_layer t x ∷ layered a.is_fn xs u) (step_same x t l.0)
      ∙ ap (λ u. in_layer t x ∷ u) (layered_same xs (layers_after b.is_fn x t) l.1)

  -- edges at places of the matrix leave the same layers for both keys
  pub layers_alike : (es : List (ℕ × Bool)) (t : Layers) → low_edges es
      → all_layers_after a.is_fn es t ≡ all_layers_after b.is_fn es t
  layers_alike [] t l = refl
  layers_alike (x ∷ xs) t l =
      ap (λ u. all_layers_after a.is_fn xs u) (step_same x t l.0) ∙ layers_alike xs (layers_after b.is_fn x t) l.1

  -- steps 4 and 5, and a whole tick, where what repeats when they begin has a place below 96
  pub scans_same : (inhibited : Bool) (es : List (ℕ × Bool)) (t : Layers) (k : Keyboard) → low_repeat k.repeats
      → low_edges es → scanned a inhibited (layered a.is_fn es t) k ≡ scanned b inhibited (layered b.is_fn es t) k
  scans_same inhibited es t k l m =
      let on : Bool = is_scanning k in
      ap (λ u. scanned a inhibited u k) (layered_same es t m)
      ∙ edges on (layered b.is_fn es t) (repeated_if on a inhibited k) (low_layered b.is_fn es t m)
      ∙ ap (λ j. edges_if on b (layered b.is_fn es t) j) (repeats_if on inhibited k l)

  -- a tick does the same for both keys, if its edges and what repeats are at places of the matrix
  pub ticks_same : (meeting : Meeting) (es : List (ℕ × Bool)) (t : Layers) (k : Keyboard)
      → low_repeat (tested_if (not (k.test == 0)) (met meeting b k)).repeats → low_edges es
      → ticked a meeting (layered a.is_fn es t) k ≡ ticked b meeting (layered b.is_fn es t) k
  ticks_same meeting es t k l m =
      ap (λ j. scanned a (is_inhibited meeting) (layered a.is_fn es t) (tested_if (not (k.test == 0)) j))
      (meets meeting k)
      ∙ scans_same (is_inhibited meeting) es t (tested_if (not (k.test == 0)) (met meeting b k)) l m

-- the places that columns show are below 96
more_low : (xs ys : List (ℕ × Bool)) → low_edges xs → low_edges ys → low_edges (xs ++ ys)
more_low [] ys l m = m
more_low (x ∷ xs) ys l m = (l.0, more_low xs ys l.1 m)

row_low : (place r n ch dn : ℕ) (b : Bool) → bit r ch ≡ b → place + r < 96 → low_edges (row_edges place (suc r) n ch dn)
    → low_edges (row_edges place r (suc n) ch dn)
row_low place r n ch dn true e l rest =
    subst (λ b. low_edges (if b then (place + r, bit r dn) ∷ row_edges place (suc r) n ch dn else row_edges place
    (suc r) n ch dn)) (sym e) (l, rest)
row_low place r n ch dn false e l rest =
    subst (λ b. low_edges (if b then (place + r, bit r dn) ∷ row_edges place (suc r) n ch dn else row_edges place
    (suc r) n ch dn)) (sym e) rest

rows_low : (place r n ch dn : ℕ) → place + (r + n) < 97 → low_edges (row_edges place r n ch dn)
rows_low place r zero ch dn l = tt
rows_low place r (suc n) ch dn l =
    row_low place r n ch dn (bit r ch) refl (omega (arith, l)) (rows_low place (suc r) n ch dn (omega (arith, l)))

columns_low : (c n : ℕ) (ch dn : ℕ → ℕ) → c + n ≡ 12 → low_edges (column_edges c n ch dn)
columns_low c zero ch dn sum = tt
columns_low c (suc n) ch dn sum =
    more_low (row_edges (8 * c) 0 8 (ch c) (dn c)) (column_edges (suc c) n ch dn)
    (rows_low (8 * c) 0 8 (ch c) (dn c) (omega (arith, sum))) (columns_low (suc c) n ch dn (omega (arith, sum)))

-- the edges of a tick are at places of the matrix
pub edges_low : (ch dn : ℕ → ℕ) → low_edges (tick_edges ch dn)
edges_low ch dn = columns_low 0 12 ch dn refl
