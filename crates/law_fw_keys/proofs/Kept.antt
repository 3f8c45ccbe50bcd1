-- What a tick keeps: codes are whole in the queue, and what repeats is pressed.
use Rattle.std.proofs.Common.{◌≡◌, ◌<◌, ℕ, ◌%◌, ◌==◌, not, ◌&&◌, ◌||◌, Bool, true, false, if◌then◌else◌, List, []}
use Rattle.std.proofs.Common.{◌∷◌, Some, None, nat_le, nat_lt}
use Rattle.std.specs.declared.option.Option.{Option}
use Rattle.model_keyboard.specs.declared.meeting.Meeting.{Meeting}
use Rattle.model_keyboard.specs.declared.meeting.Meeting.TheVariants.{Idle, Inhibited, Sent, Cut, Got}
use Rattle.model_keyboard.specs.declared.state.Mode.{Mode}
use Rattle.model_keyboard.specs.declared.state.Mode.TheVariants.{Ready, WantRate, WantLights}
use Rattle.model_keyboard.specs.declared.state.Reply.{Reply}
use Rattle.model_keyboard.specs.declared.state.Repeat.{Repeat}
use Rattle.model_keyboard.specs.Codes.{Keys, make, release}
use Rattle.model_keyboard.specs.Queue.{KeyQueue, enter, clear, drop_first}
use Rattle.model_keyboard.specs.Keyboard.{Keyboard, offer}
use Rattle.model_keyboard.specs.Commands.{obeyed, obeyed_in, parameter, commanded}
use Rattle.model_keyboard.specs.Tick.{met, sent_byte, without_offered, tested_if, repeated, repeated_if, edge_if}
use Rattle.model_keyboard.specs.Tick.{edges_if, is_scanning, is_inhibited, ticked}
use Rattle.model_keyboard.proofs.CodesAreWhole.{IsWhole, entered_whole, make_whole, release_whole, dropped_whole, cleared_whole}
use Rattle.model_keyboard.specs.declared.edge.TickEdge.{TickEdge}
use Rattle.model_keyboard.specs.Layers.{Layers, layered, all_layers_after}
use Rattle.law_fw_keys.specs.Frameless.{IsPressed}
use Rattle.law_fw_keys.proofs.Edges.{IsWide, turns_by}
use Rattle.law_fw_keys.proofs.Carried.{low_repeat, low_edges, low_ticks, low_layered}

pub record Sound (keys : Keys) (l : Layers) (k : Keyboard) : Type 0 where
  pub codes : IsWhole k.queue
  pub place : IsPressed keys l k.repeats

-- no code of a place is F0
abbrev pub NoPrefix : Keys → Type 0
NoPrefix keys = (on_fn : Bool) (p : ℕ) → p < 96 → (keys.code on_fn p == 240) ≡ false

-- what repeats is at a place of the matrix
pub pressed_low : (keys : Keys) (l : Layers) (r : Option Repeat) → IsPressed keys l r → low_repeat r
pressed_low keys l None is = tt
pressed_low keys l (Some r) is = is.0

module _ (keys : Keys) (codes : NoPrefix keys) where
  module _ (l : Layers) where
    dropped_if : (b : Bool) (q : KeyQueue) → IsWhole q → IsWhole (if b then q else drop_first q)
    dropped_if true q h = h
    dropped_if false q h = dropped_whole q h

    goes : (r : Option Reply) (k : Keyboard) → Sound keys l k → Sound keys l (without_offered r keys k)
    goes None k s = record { codes = dropped_if k.aa_due k.queue s.codes; place = s.place }
    goes (Some r) k s = goes_by r.resets
      where
        goes_by : (b : Bool) → Sound keys l
            (if b then record {
              test = 64;
              enabled = true;
              mode = Ready;
              reply = None;
              aa_due = false;
              last = 0xaa;
              queue = clear k.queue;
              repeats = None;
              rate = keys.rate;
              lights = 0;
              held = k.held;
            } else record k { reply = None })
        goes_by true = record { codes = cleared_whole k.queue s.codes; place = tt }
        goes_by false = record { codes = s.codes; place = s.place }

    sends : (o : Option ℕ) (k : Keyboard) → Sound keys l k → Sound keys l (sent_byte o keys k)
    sends None k s = s
    sends (Some byte) k s = goes k.reply (record k { last = if byte == 0xfe then k.last else byte })
        (record { codes = s.codes; place = s.place })

    commands : (byte : ℕ) (k : Keyboard) → Sound keys l k → Sound keys l (commanded keys byte k)
    commands byte k s =
        let c : IsWhole (clear k.queue) = cleared_whole k.queue s.codes in
        by (byte == 0xff) (byte == 0xfe) (byte == 0xf6) (byte == 0xf5) (byte == 0xf4) (byte == 0xf3) (byte == 0xed)
        (byte == 0xee) (nat_le 0xef byte) c
      where
        by : (b0 b1 b2 b3 b4 b5 b6 b7 b8 : Bool) → IsWhole (clear k.queue) → Sound keys l (
            if b0 then record k { reply = Some (record { byte = 0xfa; resets = true }) }
            else if b1 then record k { reply = Some (record { byte = k.last; resets = false }) }
            else if b2 then record k {
              reply = Some (record { byte = 0xfa; resets = false });
              queue = clear k.queue;
              rate = keys.rate;
              repeats = None;
            }
            else if b3 then record k {
              reply = Some (record { byte = 0xfa; resets = false });
              queue = clear k.queue;
              rate = keys.rate;
              repeats = None;
              enabled = false;
            }
            else if b4 then record k {
              reply = Some (record { byte = 0xfa; resets = false });
              queue = clear k.queue;
              repeats = None;
              enabled = true;
            }
            else if b5 then record k { reply = Some (record { byte = 0xfa; resets = false }); mode = WantRate }
            else if b6 then record k { reply = Some (record { byte = 0xfa; resets = false }); mode = WantLights }
            else if b7 then record k { reply = Some (record { byte = 0xee; resets = false }) }
            else if b8 then record k { reply = Some (record { byte = 0xfa; resets = false }) }
            else record k { reply = Some (record { byte = 0xfe; resets = false }) })
        by true b1 b2 b3 b4 b5 b6 b7 b8 c = record { codes = s.codes; place = s.place }
        by false true b2 b3 b4 b5 b6 b7 b8 c = record { codes = s.codes; place = s.place }
        by false false true b3 b4 b5 b6 b7 b8 c = record { codes = c; place = tt }
        by false false false true b4 b5 b6 b7 b8 c = record { codes = c; place = tt }
        by false false false false true b5 b6 b7 b8 c = record { codes = c; place = tt }
        by false false false false false true b6 b7 b8 c = record { codes = s.codes; place = s.place }
        by false false false false false false true b7 b8 c = record { codes = s.codes; place = s.place }
        by false false false false false false false true b8 c = record { codes = s.codes; place = s.place }
        by false false false false false false false false true c = record { codes = s.codes; place = s.place }
        by false false false false false false false false false c = record { codes = s.codes; place = s.place }

    parameters : (byte : ℕ) (with_it k : Keyboard) → Sound keys l with_it → Sound keys l k → Sound keys l
        (parameter keys byte with_it k)
    parameters byte with_it k w s =
        by (nat_lt byte 0x80) (nat_lt byte 0xed)
        (commands byte (record k { mode = Ready }) (record { codes = s.codes; place = s.place }))
      where
        by : (b0 b1 : Bool) → Sound keys l (commanded keys byte (record k { mode = Ready })) → Sound keys l (
            if b0 then record with_it { reply = Some (record { byte = 0xfa; resets = false }); mode = Ready }
            else if b1 then record k { reply = Some (record { byte = 0xfe; resets = false }) }
            else commanded keys byte (record k { mode = Ready }))
        by true b1 c = record { codes = w.codes; place = w.place }
        by false true c = record { codes = s.codes; place = s.place }
        by false false c = c

    obeys_in : (mode : Mode) (byte : ℕ) (k : Keyboard) → Sound keys l k → Sound keys l (obeyed_in mode keys byte k)
    obeys_in Ready byte k s = commands byte k s
    obeys_in WantRate byte k s =
        parameters byte (record k { rate = byte }) k (record { codes = s.codes; place = s.place }) s
    obeys_in WantLights byte k s =
        parameters byte (record k { lights = byte % 8 }) k (record { codes = s.codes; place = s.place }) s

    obeys : (byte : ℕ) (good : Bool) (k : Keyboard) → Sound keys l k → Sound keys l (obeyed keys byte good k)
    obeys byte true k s = obeys_in k.mode byte k s
    obeys byte false k s = record { codes = s.codes; place = s.place }

    -- a meeting keeps whole codes in the queue, and that what repeats is pressed
    pub met_sound : (meeting : Meeting) (k : Keyboard) → Sound keys l k → Sound keys l (met meeting keys k)
    met_sound Sent k s = sends (offer k) k s
    met_sound (Got byte good) k s = obeys byte good k s
    met_sound Inhibited k s = s
    met_sound Idle k s = s
    met_sound Cut k s = s

    -- a tick of the self-test keeps whole codes in the queue, and that what repeats is pressed
    pub tested_sound : (b : Bool) (k : Keyboard) → Sound keys l k → Sound keys l (tested_if b k)
    tested_sound true k s = record { codes = s.codes; place = s.place }
    tested_sound false k s = s

  entered_if : (b : Bool) (code : List ℕ) (q : KeyQueue) → IsWhole (enter code q) → IsWhole q
      → IsWhole (if b then enter code q else q)
  entered_if true code q h g = h
  entered_if false code q h g = g

  whole_or : (b : Bool) (p q : KeyQueue) → IsWhole p → IsWhole q → IsWhole (if b then p else q)
  whole_or true p q h g = h
  whole_or false p q h g = g

  repeats : (r : Option Repeat) (inhibited : Bool) (k : Keyboard) → low_repeat r → IsWhole k.queue
      → IsWhole (repeated r keys inhibited k).queue
  repeats None inhibited k l s = s
  repeats (Some r) inhibited k l s =
      let code : ℕ = keys.code r.on_fn r.place in
      entered_if ((r.count == 1) && not inhibited) (make code) k.queue
      (entered_whole (make code) k.queue (make_whole code (codes r.on_fn r.place l)) s) s

  repeats_if : (on inhibited : Bool) (k : Keyboard) → low_repeat k.repeats → IsWhole k.queue
      → IsWhole (repeated_if on keys inhibited k).queue
  repeats_if true inhibited k l s = repeats k.repeats inhibited k l s
  repeats_if false inhibited k l s = s

  one_edge : (on : Bool) (place : ℕ) (down on_fn : Bool) (k : Keyboard) → place < 96 → IsWhole k.queue
      → IsWhole (edge_if on keys place down on_fn k).queue
  one_edge true place true on_fn k l s =
      let code : ℕ = keys.code on_fn place in
      whole_or (keys.is_fn place) k.queue (enter (make code) k.queue) s
      (entered_whole (make code) k.queue (make_whole code (codes on_fn place l)) s)
  one_edge true place false on_fn k l s =
      let code : ℕ = keys.code on_fn place in
      whole_or (keys.is_fn place || keys.make_only place) k.queue (enter (release code) k.queue) s
      (entered_whole (release code) k.queue (release_whole code (codes on_fn place l)) s)
  one_edge false place down on_fn k l s = s

  edges : (on : Bool) (es : List TickEdge) (k : Keyboard) → low_ticks es → IsWhole k.queue
      → IsWhole (edges_if on keys es k).queue
  edges on [] k l s = s
  edges on (e ∷ es) k l s =
      edges on es (edge_if on keys e.place e.down e.on_fn k) l.1 (one_edge on e.place e.down e.on_fn k l.0 s)

  -- a tick keeps both
  pub tick_sound : (meeting : Meeting) (es : List (ℕ × Bool)) (l : Layers) (k : Keyboard) → low_edges es → IsWide l
      → Sound keys l k
      → Sound keys (all_layers_after keys.is_fn es l) (ticked keys meeting (layered keys.is_fn es l) k)
  tick_sound meeting es l k low wide s =
      let j : Keyboard = tested_if (not (k.test == 0)) (met meeting keys k) in
      let on : Bool = is_scanning j in
      let inhibited : Bool = is_inhibited meeting in
      let t : Sound keys l j = tested_sound l (not (k.test == 0)) (met meeting keys k) (met_sound l meeting k s) in
      record {
        codes = edges on (layered keys.is_fn es l) (repeated_if on keys inhibited j) (low_layered keys.is_fn es l low)
            (repeats_if on inhibited j (pressed_low keys l j.repeats t.place) t.codes);
        place = (turns_by keys on inhibited es l j low wide t.place).pressed;
      }
