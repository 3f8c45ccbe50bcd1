-- The edges of a tick as the code goes through them are the model's: the held keys apart, and what repeats by its
-- place.
use Rattle.law_fw_keys.proofs.Fold.{alike, edge_by, ended_in, turned_all}
use Rattle.law_fw_keys.proofs.Layered.{one, each}
use Rattle.std.proofs.Common.{◌≡◌, ◌≢◌, ◌<◌, ℕ, ◌==◌, not, ◌&&◌, ◌||◌, Bool, true, false}
use Rattle.std.proofs.Common.{if◌then◌else◌, List, [], ◌∷◌, Some, None, length, slice_index_or}
use Rattle.std.proofs.Common.{length-set, refl, ap, sym, ◌∙◌, subst, arith}
use Rattle.std.proofs.lemmas.Bool.Decides.{nat_tests}
use Rattle.std.proofs.lemmas.List.{get_or-set_same, get_or-set_other}
use Rattle.std.specs.declared.option.Option.{Option}
use Rattle.board_terms.specs.Matrix.{turned}
use Rattle.model_keyboard.specs.declared.edge.TickEdge.{TickEdge}
use Rattle.model_keyboard.specs.declared.meeting.Meeting.{Meeting}
use Rattle.model_keyboard.specs.declared.state.Repeat.{Repeat}
use Rattle.model_keyboard.specs.Codes.{Keys, make, release}
use Rattle.model_keyboard.specs.Keyboard.{Keyboard}
use Rattle.model_keyboard.specs.Layers.{Layers, in_layer, layer_of, layers_after, layered, all_layers_after}
use Rattle.model_keyboard.specs.Queue.{enter}
use Rattle.model_keyboard.specs.Tick.{edge_if, edges_if, ended_at, is_scanning, met, tested_if, is_inhibited}
use Rattle.model_keyboard.specs.Tick.{scanned, repeated, repeated_if}
use Rattle.model_keyboard.specs.Typematic.{delay}
use Rattle.law_fw_keys.specs.Edges.{tick_edges}
use Rattle.law_fw_keys.specs.Frameless.{IsPressed}
use Rattle.law_fw_keys.proofs.Carried.{low_edges, edges_low}
use Rattle.law_fw_keys.proofs.Typematic.{repeating}
use Rattle.law_fw_keys.proofs.Scan.{keyed}

-- a press, by whether it is that of the Fn key
press_by : (z only : Bool) (code place : ℕ) (on_fn : Bool) (h : List Bool) (k : Keyboard)
    → record k {
      held = h;
      queue = if z then k.queue else enter (make code) k.queue;
      repeats = if z then k.repeats else Some (record { place = place; count = delay k.rate; on_fn = on_fn });
    } ≡ record (edge_by z true only code place true on_fn k) { held = h }
press_by true only code place on_fn h k = refl
press_by false only code place on_fn h k = refl

release_by : (z only : Bool) (code place : ℕ) (on_fn : Bool) (h : List Bool) (k : Keyboard)
    → ended_at place k.repeats ≡ ended_in place on_fn k.repeats
    → record k {
      held = h;
      queue = if z || only then k.queue else enter (release code) k.queue;
      repeats = if z then k.repeats else ended_at place k.repeats;
    } ≡ record (edge_by z true only code place false on_fn k) { held = h }
release_by true only code place on_fn h k e = refl
release_by false true code place on_fn h k e = ap (λ r. record k { held = h; repeats = r }) e
release_by false false code place on_fn h k e =
    ap (λ r. record k { held = h; queue = enter (release code) k.queue; repeats = r }) e

alike_self : (b : Bool) → alike b b ≡ true
alike_self true = refl
alike_self false = refl

-- what repeats at a place is in the layer of its press
ends_alike : (keys : Keys) (l : Layers) (place : ℕ) (r : Option Repeat) → IsPressed keys l r
    → ended_at place r ≡ ended_in place (layer_of l place false) r
ends_alike keys l place None is = refl
ends_alike keys l place (Some r) is = by (r.place == place) refl
  where
    by : (b : Bool) → (r.place == place) ≡ b → ended_at place (Some r) ≡ ended_in place (layer_of l place false)
        (Some r)
    by false e =
        ap (λ b. if b then None else Some r) e
        ∙ sym (ap (λ b. if b && alike r.on_fn (slice_index_or l.pressed_in place false) then None else Some r) e)
    by true e =
        let at : r.place ≡ place = grind (arith, nat_tests, e) in
        let same : slice_index_or l.pressed_in place false ≡ r.on_fn =
        ap (λ p. slice_index_or l.pressed_in p false) (sym at) ∙ is.2 in
        ap (λ b. if b then None else Some r) e
        ∙ sym (ap (λ b. if b && alike r.on_fn (slice_index_or l.pressed_in place false) then None else Some r) e
        ∙ ap (λ u. if alike r.on_fn u then None else Some r) same
        ∙ ap (λ b. if b then None else Some r) (alike_self r.on_fn))

turns : (keys : Keys) (place : ℕ) (down : Bool) (l : Layers) (k : Keyboard) → IsPressed keys l k.repeats
    → edge_if true keys place down (layer_of l place down) k
    ≡ record (one keys true (in_layer l (place, down)) k) { held = turned place down k.held }
turns keys place true l k is =
    press_by (keys.is_fn place) (keys.make_only place) (keys.code l.fn_down place) place l.fn_down
    (turned place true k.held) k
turns keys place false l k is =
    let on_fn : Bool = layer_of l place false in
    release_by (keys.is_fn place) (keys.make_only place) (keys.code on_fn place) place on_fn
    (turned place false k.held) k (ends_alike keys l place k.repeats is)

-- what is held says nothing to the rest
edge_apart : (z on only : Bool) (code place : ℕ) (down on_fn : Bool) (held : List Bool) (k : Keyboard)
    → edge_by z on only code place down on_fn (record k { held = held })
    ≡ record (edge_by z on only code place down on_fn k) { held = held }
edge_apart true on only code place down on_fn held k = refl
edge_apart false false only code place down on_fn held k = refl
edge_apart false true only code place true on_fn held k = refl
edge_apart false true true code place false on_fn held k = refl
edge_apart false true false code place false on_fn held k = refl

apart : (keys : Keys) (on : Bool) (e : TickEdge) (held : List Bool) (k : Keyboard)
    → one keys on e (record k { held = held }) ≡ record (one keys on e k) { held = held }
apart keys on e held k =
    edge_apart (keys.is_fn e.place) on (keys.make_only e.place) (keys.code e.on_fn e.place) e.place e.down e.on_fn
    held k

each_apart : (keys : Keys) (on : Bool) (xs : List TickEdge) (held : List Bool) (k : Keyboard)
    → each keys on xs (record k { held = held }) ≡ record (each keys on xs k) { held = held }
each_apart keys on [] held k = refl
each_apart keys on (x ∷ xs) held k =
    ap (λ j. each keys on xs j) (apart keys on x held k) ∙ each_apart keys on xs held (one keys on x k)

edge_held : (z on only : Bool) (code place : ℕ) (down on_fn : Bool) (k : Keyboard)
    → (edge_by z on only code place down on_fn k).held ≡ k.held
edge_held true on only code place down on_fn k = refl
edge_held false false only code place down on_fn k = refl
edge_held false true only code place true on_fn k = refl
edge_held false true true code place false on_fn k = refl
edge_held false true false code place false on_fn k = refl

each_held : (keys : Keys) (on : Bool) (xs : List TickEdge) (k : Keyboard) → (each keys on xs k).held ≡ k.held
each_held keys on [] k = refl
each_held keys on (x ∷ xs) k =
    each_held keys on xs (one keys on x k)
    ∙ edge_held (keys.is_fn x.place) on (keys.make_only x.place) (keys.code x.on_fn x.place) x.place x.down x.on_fn k

-- the layers have a place for each key
abbrev pub IsWide : Layers → Type 0
IsWide l = length l.pressed_in ≡ 96

wide_after : (is_fn : ℕ → Bool) (place : ℕ) (down : Bool) (l : Layers) → IsWide l
    → IsWide (layers_after is_fn (place, down) l)
wide_after is_fn place true l w = length-set l.pressed_in place l.fn_down ∙ w
wide_after is_fn place false l w = w

-- an edge keeps what is pressed
other_place : (keys : Keys) (place : ℕ) (l : Layers) (r : Option Repeat) → keys.is_fn place ≡ true → IsPressed keys l r
    → IsPressed keys (layers_after keys.is_fn (place, true) l) r
other_place keys place l None fn is = tt
other_place keys place l (Some r) fn is =
    let ne : r.place ≢ place =
    (λ e. let a : keys.is_fn r.place ≡ true = ap keys.is_fn e ∙ fn in let b : true ≡ false = sym a ∙ is.1 in absurd cc)
    in (is.0, is.1, get_or-set_other l.pressed_in place r.place l.fn_down false ne ∙ is.2)

ended_pressed : (keys : Keys) (place : ℕ) (l : Layers) (r : Option Repeat) → IsPressed keys l r
    → IsPressed keys l (ended_at place r)
ended_pressed keys place l None is = tt
ended_pressed keys place l (Some r) is = by (r.place == place)
  where
    by : (b : Bool) → IsPressed keys l (if b then None else Some r)
    by true = tt
    by false = is

-- after an edge what repeats is still a key pressed in its layer
pub edge_pressed : (keys : Keys) (place : ℕ) (down : Bool) (l : Layers) (k : Keyboard) → place < 96 → IsWide l
    → IsPressed keys l k.repeats
    → IsPressed keys (layers_after keys.is_fn (place, down) l)
    (edge_if true keys place down (layer_of l place down) k).repeats
edge_pressed keys place true l k low w is = by (keys.is_fn place) refl
  where
    by : (z : Bool) → keys.is_fn place ≡ z → IsPressed keys (layers_after keys.is_fn (place, true) l)
        (if z then k.repeats else Some (record { place = place; count = delay k.rate; on_fn = l.fn_down }))
    by true e = other_place keys place l k.repeats e is
    by false e = (low, e, get_or-set_same l.pressed_in place l.fn_down false (omega (arith, low, w)))
edge_pressed keys place false l k low w is = by (keys.is_fn place)
  where
    by : (z : Bool) → IsPressed keys l (if z then k.repeats else ended_at place k.repeats)
    by true = is
    by false = ended_pressed keys place l k.repeats is

-- the model's edges are those of the code, and turn the keys; and they keep what is pressed
pub record Turns (keys : Keys) (on : Bool) (xs : List (ℕ × Bool)) (l : Layers) (k : Keyboard) : Type 0 where
  pub is : edges_if on keys (layered keys.is_fn xs l) k
      ≡ record (each keys on (layered keys.is_fn xs l) k) { held = turned_all xs k.held }
  pub pressed : IsPressed keys (all_layers_after keys.is_fn xs l)
      (edges_if on keys (layered keys.is_fn xs l) k).repeats

each_turns : (keys : Keys) (xs : List (ℕ × Bool)) (l : Layers) (k : Keyboard) → low_edges xs → IsWide l
    → IsPressed keys l k.repeats → Turns keys true xs l k
each_turns keys [] l k low w is = record { is = refl; pressed = is }
each_turns keys (x ∷ xs) l k low w is =
    let e : TickEdge = in_layer l x in
    let l1 : Layers = layers_after keys.is_fn x l in
    let es : List TickEdge = layered keys.is_fn xs l1 in
    let j : Keyboard = one keys true e k in
    let h : List Bool = turned x.0 x.1 k.held in
    let k1 : Keyboard = edge_if true keys x.0 x.1 (layer_of l x.0 x.1) k in
    let t : k1 ≡ record j { held = h } = turns keys x.0 x.1 l k is in
    let more = each_turns keys xs l1 k1 low.1 (wide_after keys.is_fn x.0 x.1 l w)
    (edge_pressed keys x.0 x.1 l k low.0 w is) in
    record {
      is = more.is
          ∙ ap (λ (i : Keyboard). record (each keys true es i) { held = turned_all xs i.held }) t
          ∙ ap (λ (i : Keyboard). record i { held = turned_all xs h }) (each_apart keys true es h j);
      pressed = more.pressed;
    }

none_turn : (keys : Keys) (es : List TickEdge) (xs : List (ℕ × Bool)) (l : Layers) (k : Keyboard)
    → es ≡ layered keys.is_fn xs l
    → edges_if false keys (layered keys.is_fn xs l) k ≡ record k { held = turned_all xs k.held }
none_turn keys es [] l k e = refl
none_turn keys es (x ∷ xs) l k e =
    none_turn keys (layered keys.is_fn xs (layers_after keys.is_fn x l)) xs (layers_after keys.is_fn x l)
    (record k { held = turned x.0 x.1 k.held }) refl

none_each : (keys : Keys) (es : List TickEdge) (k : Keyboard) → each keys false es k ≡ k
none_each keys [] k = refl
none_each keys (e ∷ es) k =
    ap (λ i. each keys false es i) (off (keys.is_fn e.place)) ∙ none_each keys es k
  where
    off : (z : Bool) → edge_by z false (keys.make_only e.place) (keys.code e.on_fn e.place) e.place e.down e.on_fn k ≡ k
    off true = refl
    off false = refl

-- where scanning is off nothing repeats
pub turns_by : (keys : Keys) (on inhibited : Bool) (xs : List (ℕ × Bool)) (l : Layers) (k : Keyboard) → low_edges xs
    → IsWide l → IsPressed keys l k.repeats → Turns keys on xs l (repeated_if on keys inhibited k)
turns_by keys true inhibited xs l k low w is =
    each_turns keys xs l (repeated k.repeats keys inhibited k) low w (counted k.repeats is is)
  where
    counted : (r : Option Repeat) → IsPressed keys l r → IsPressed keys l k.repeats
        → IsPressed keys l (repeated r keys inhibited k).repeats
    counted None r_is is = is
    counted (Some r) r_is is = r_is
turns_by keys false inhibited xs l k low w is =
    let k0 : Keyboard = record k { repeats = None } in
    let t = none_turn keys (layered keys.is_fn xs l) xs l k0 refl in
    record {
      is = t ∙ sym (ap (λ (i : Keyboard). record i { held = turned_all xs k.held })
          (none_each keys (layered keys.is_fn xs l) k0));
      pressed = subst (λ (i : Keyboard). IsPressed keys (all_layers_after keys.is_fn xs l) i.repeats) (sym t) tt;
    }

-- steps 4 and 5 with the held keys
pub record ScannedIs (keys : Keys) (inhibited : Bool) (changed down : ℕ → ℕ) (l : Layers) (k : Keyboard) : Type 0 where
  pub is : scanned keys inhibited (layered keys.is_fn (tick_edges changed down) l) k
      ≡ record (keyed keys inhibited changed down l
      k) { held = turned_all (tick_edges changed down) (keyed keys inhibited changed down l k).held }
  pub pressed : IsPressed keys (all_layers_after keys.is_fn (tick_edges changed down) l)
      (scanned keys inhibited (layered keys.is_fn (tick_edges changed down) l) k).repeats

-- steps 4 and 5 of the model are those of the code, with the held keys turned by the tick's edges
pub scanned_is : (keys : Keys) (inhibited : Bool) (changed down : ℕ → ℕ) (l : Layers) (k : Keyboard) → IsWide l
    → IsPressed keys l k.repeats → ScannedIs keys inhibited changed down l k
scanned_is keys inhibited changed down l k w is =
    let on : Bool = is_scanning k in
    let xs : List (ℕ × Bool) = tick_edges changed down in
    let es : List TickEdge = layered keys.is_fn xs l in
    let j : Keyboard = repeating keys inhibited k in
    let t = turns_by keys on inhibited xs l k (edges_low changed down) w is in
    record {
      is = t.is
          ∙ ap (λ h. record (each keys on es j) { held = turned_all xs h }) (sym (each_held keys on es j));
      pressed = t.pressed;
    }

-- a whole tick with them
pub ticked_is : (keys : Keys) (meeting : Meeting) (changed down : ℕ → ℕ) (l : Layers) (k : Keyboard) → IsWide l
    → IsPressed keys l (tested_if (not (k.test == 0)) (met meeting keys k)).repeats
    → ScannedIs keys (is_inhibited meeting) changed down l (tested_if (not (k.test == 0)) (met meeting keys k))
ticked_is keys meeting changed down l k w is =
    scanned_is keys (is_inhibited meeting) changed down l (tested_if (not (k.test == 0)) (met meeting keys k)) w is
