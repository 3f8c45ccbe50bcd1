-- A tick while a text is typed: its meeting, its edges, and whether a word is taken in it.
use Rattle.std.proofs.Common.{◌≡◌, ℕ, suc, ◌+◌, ◌*◌, ◌<◌, Bool, true, false, not, ◌&&◌, ◌==◌, List, []}
use Rattle.std.proofs.Common.{◌∷◌, ◌++◌, length, append-nil, Some, None, refl, ap, ◌∙◌, subst}
use Rattle.std.specs.Prelude.{if◌then◌else◌, nat_lt}
use Rattle.std.specs.declared.option.Option.{Option}
use Rattle.bits.specs.Bits.{with_bit}
use Rattle.pc_tables.specs.declared.item.Item.{Item}
use Rattle.pc_tables.specs.declared.item.Item.TheVariants.{Port, Taken}
use Rattle.board_terms.specs.Matrix.{turned}
use Rattle.layout_reader.specs.Layouts.{KeyLayout, is_fn_place}
use Rattle.ctl_core.specs.ScanCodes.{translated}
use Rattle.ctl_core.specs.Translation.{translation, coded}
use Rattle.ctl_core.specs.declared.translation.Translated.{Translated}
use Rattle.int09.specs.Bios.{State, Effect, first_word}
use Rattle.int09.specs.Rules.{fed}
use Rattle.model_controller.specs.declared.meeting.Meeting.{Meeting}
use Rattle.model_controller.specs.declared.meeting.Meeting.TheVariants.{Idle, Sent}
use Rattle.model_keyboard.specs.declared.edge.TickEdge.{TickEdge}
use Rattle.model_keyboard.specs.declared.state.Repeat.{Repeat}
use Rattle.model_keyboard.specs.Codes.{Keys, keys_of}
use Rattle.model_keyboard.specs.Keyboard.{Keyboard}
use Rattle.model_keyboard.specs.Layers.{no_layers, layered, all_layers_after}
use Rattle.model_keyboard.specs.Tick.{ticked, edges_if, ended_at}
use Rattle.key_file.specs.Histories.{KeyHistory}
use Rattle.model_link.specs.Debounce.{Switches, turned_all, switched}
use Rattle.model_link.specs.Machine.{LayeredKeyboard, keyboard, met_as}
use Rattle.model_link.specs.TickEdges.{tick_edges}
use Rattle.law_quiet_log.specs.Quiet.{even}
use Rattle.law_quiet_log.proofs.Calm.{Pc, Calm, meets, met_by, read_of, marked, items_of_meeting, said_of_read}
use Rattle.law_typed_log.specs.Typing.{Stroke, takes_from}
use Rattle.law_typed_log.proofs.Takes.{took}
use Rattle.law_typed_log.proofs.Settling.{Takes, pending, takes_all}
use Rattle.law_typed_log.proofs.Steps.{Reached, AreKept, taken_of, ticks_on, ticks_taking}
use Rattle.law_typed_log.proofs.Keying.{typing, later, IsLong, waits, pressed_at, presses, ends_silently, ends}
use Rattle.law_typed_log.proofs.Keying.{layers_of_press, layers_of_release, release_layered}

-- what waits in the queue, and what passes in a tick
abbrev pub passing : List ℕ → Meeting
passing [] = Idle
passing (byte ∷ bytes) = Sent byte

-- the last byte sent, the queue, whether a break is started, and the PC's side
pub record Line : Type 0 where
  pub last : ℕ
  pub bytes : List ℕ
  pub started : Bool
  pub pc : Pc

-- a meeting takes the line from one state to another
pub record Passes (keys : Keys) (rate : ℕ) (before after : Line) (items : List Item) : Type 0 where
  pub keyed : (edges : List TickEdge) (rep : Option Repeat) (held : List Bool) → IsLong rep
      → ticked keys (met_as (passing before.bytes)) edges (typing rate before.last before.bytes before.started rep held)
      ≡ edges_if true keys edges (typing rate after.last after.bytes after.started (later rep) held)
  pub met : met_by (passing before.bytes) before.pc ≡ after.pc
  pub said : items_of_meeting (passing before.bytes) before.pc ≡ items

module _ (keys : Keys) (rate last : ℕ) where
  -- if nothing waits, nothing passes in the tick, and the line stays
  pub nothing : (started : Bool) (q : Pc)
      → Passes keys rate (record { last = last; bytes = []; started = started; pc = q })
      (record { last = last; bytes = []; started = started; pc = q }) []
  nothing started q = record {
    keyed = λ edges rep held l. waits keys edges rate last [] started rep held l;
    met = refl;
    said = refl;
  }

  -- F0 begins a break
  pub prefix : (bytes : List ℕ) (out done : ℕ) (bios : State)
      → Passes keys rate
      (record {
        last = last;
        bytes = 0xf0 ∷ bytes;
        started = false;
        pc = record
            { mark = false; out = out; bios = bios; done = done };
      })
      (record {
        last = 0xf0;
        bytes = bytes;
        started = true;
        pc = record
            { mark = true; out = out; bios = bios; done = done };
      })
      []
  prefix bytes out done bios = record {
    keyed = λ edges rep held l. waits keys edges rate 0xf0 bytes true rep held l;
    met = refl;
    said = refl;
  }

  -- a code is translated, put out and read
  module _ (code scan : ℕ) (np : (code == 0xf0) ≡ false) (is : translated code ≡ Some scan) where
    abbrev pub put : Bool → ℕ
    put mark = if mark then with_bit 0x80 scan else scan

    translation_is : (mark : Bool) → translation true mark code ≡ record { byte = Some (put mark); mark = false }
    translation_is mark =
        ap (λ b. if b then record { byte = None; mark = true } else coded mark code (translated code)) np
        ∙ ap (λ o. coded mark code o) is

    -- a code that is sent is translated, put out and read by INT 09h
    pub code_passes : (bytes : List ℕ) (mark : Bool) (out done : ℕ) (bios after : State) (items : List Item)
        → fed (put mark) bios ≡ record { after = after; items = items }
        → Passes keys rate
        (record {
          last = last;
          bytes = code ∷ bytes;
          started = mark;
          pc = record
              { mark = mark; out = out; bios = bios; done = done };
        })
        (record {
          last = if code == 0xfe then last else code;
          bytes = bytes;
          started = false;
          pc = record { mark = false; out = put mark; bios = after; done = done };
        })
        (Port (put mark) ∷ items)
    code_passes bytes mark out done bios after items f = record {
      keyed = λ edges rep held l.
          waits keys edges rate (if code == 0xfe then last else code) bytes ((code == 0xf0) && not mark) rep held l
          ∙ ap (λ b. edges_if true keys edges
          (typing rate (if code == 0xfe then last else code) bytes (b && not mark) (later rep) held)) np;
      met =
          ap (λ (t : Translated). read_of t.byte
          (marked t.mark (record { mark = mark; out = out; bios = bios; done = done })))
          (translation_is mark)
          ∙ ap (λ (o : Effect). record { mark = false; out = put mark; bios = o.after; done = done }) f;
      said =
          ap (λ (t : Translated). said_of_read t.byte (record { mark = mark; out = out; bios = bios; done = done }))
          (translation_is mark)
          ∙ ap (λ (o : Effect). Port (put mark) ∷ o.items) f;
    }

-- the edges of a tick take the queue, the key that repeats and the keys that are held from one state to another
pub record Moves (layout : KeyLayout) (edges : List (ℕ × Bool)) (bytes : List ℕ) (rep : Option Repeat)
    (held : List Bool)
    (bytes' : List ℕ) (rep' : Option Repeat) (held' : List Bool) : Type 0 where
  pub layers : all_layers_after (is_fn_place layout) edges no_layers ≡ no_layers
  pub turns : turned_all edges held ≡ held'
  pub keyed : (last : ℕ) (started : Bool)
      → edges_if true (keys_of layout) (layered (is_fn_place layout) edges no_layers)
      (typing layout.rate last bytes started rep held)
      ≡ typing layout.rate last bytes' started rep' held'

module _ (layout : KeyLayout) where
  -- without edges the queue, what repeats and the held keys stay
  pub no_edges : (bytes : List ℕ) (rep : Option Repeat) (held : List Bool)
      → Moves layout [] bytes rep held bytes rep held
  no_edges bytes rep held = record { layers = refl; turns = refl; keyed = λ last started. refl }

  -- a key of the layout that sends a code
  pub record IsKeyAt (place code : ℕ) (only : Bool) : Type 0 where
    pub in_matrix : place < 96
    pub code_is : (keys_of layout).code false place ≡ code
    pub only_is : (keys_of layout).make_only place ≡ only
    pub fn_is : is_fn_place layout place ≡ false

  module _ (place code : ℕ) (bytes : List ℕ) (rep : Option Repeat) (held : List Bool) where
    -- the press of a key enters its code, and the key repeats and is held
    pub press_moves : (only : Bool) → IsKeyAt place code only → nat_lt 16 (length bytes + length (code ∷ [])) ≡ false
        → Moves layout ((place, true) ∷ []) bytes rep held (bytes ++ code ∷ []) (pressed_at layout.rate place)
        (turned place true held)
    press_moves only k room = record {
      layers = layers_of_press (is_fn_place layout) place k.in_matrix k.fn_is;
      turns = refl;
      keyed = λ last started.
          presses (keys_of layout) layout.rate last bytes started rep held place code k.code_is k.fn_is room;
    }

    -- the release of a key that only makes ends its repeat and its hold
    pub silent_moves : IsKeyAt place code true
        → Moves layout ((place, false) ∷ []) bytes rep held bytes (ended_at place rep) (turned place false held)
    silent_moves k = record {
      layers = layers_of_release (is_fn_place layout) place k.fn_is;
      turns = refl;
      keyed = λ last started.
          ap (λ v. edges_if true (keys_of layout) v (typing layout.rate last bytes started rep held))
          (release_layered (is_fn_place layout) place k.in_matrix)
          ∙ ends_silently (keys_of layout) layout.rate last bytes started rep held place code k.code_is k.fn_is
          k.only_is;
    }

    -- the release of a key enters F0 and its code, and ends its repeat and its hold
    pub break_moves : IsKeyAt place code false → nat_lt 16 (length bytes + length (0xf0 ∷ code ∷ [])) ≡ false
        → Moves layout ((place, false) ∷ []) bytes rep held (bytes ++ 0xf0 ∷ code ∷ []) (ended_at place rep)
        (turned place false held)
    break_moves k room = record {
      layers = layers_of_release (is_fn_place layout) place k.fn_is;
      turns = refl;
      keyed = λ last started.
          ap (λ v. edges_if true (keys_of layout) v (typing layout.rate last bytes started rep held))
          (release_layered (is_fn_place layout) place k.in_matrix)
          ∙ ends (keys_of layout) layout.rate last bytes started rep held place code k.code_is k.fn_is k.only_is room;
    }

-- the whole at a tick start, while a text is typed: these edges were read and aren't taken yet
abbrev pub with_switches : Switches → Keyboard → LayeredKeyboard
with_switches switches k = record { keyboard = k; layers = no_layers; switches = switches }

abbrev pub layers_of : List (ℕ × Bool) → Keyboard → LayeredKeyboard
layers_of next k = with_switches (pending next k.held) k

abbrev pub at_work : List (ℕ × Bool) → ℕ → Line → Option Repeat → List Bool → Calm LayeredKeyboard
at_work next rate line rep held = record {
  keys = layers_of next (typing rate line.last line.bytes line.started rep held);
  pc = line.pc;
  shown = 0;
}

abbrev pub staged : LayeredKeyboard → Pc → Calm LayeredKeyboard
staged k q = record { keys = k; pc = q; shown = 0 }

meets_is : (next : List (ℕ × Bool)) (bytes : List ℕ) (layout : KeyLayout) (rate last : ℕ) (started : Bool) (q : Pc)
    (rep : Option Repeat) (held : List Bool)
    → meets (keyboard layout)
    (at_work next rate (record { last = last; bytes = bytes; started = started; pc = q }) rep held) ≡ passing bytes
meets_is next [] layout rate last started q rep held = refl
meets_is next (byte ∷ bytes) layout rate last started q rep held = refl

abbrev pub with_bytes : Line → List ℕ → Line
with_bytes line bytes = record line { bytes = bytes }

-- a tick takes edges by what it sees and what is pending
module _ (layout : KeyLayout) (h : KeyHistory) (ss : List Stroke) (host : h.host ≡ takes_from 0 ss) (n : ℕ)
    (before after : Line) (words : List (Option ℕ)) (items : List Item) (next seen edges next' : List (ℕ × Bool))
    (rep rep' : Option Repeat) (held held' : List Bool) (bytes' : List ℕ)
    (r : Reached (keyboard layout) h ss host n (at_work next layout.rate before rep held) words)
    (sees : tick_edges even h.edges n ≡ seen) (takes : Takes layout.debounce next seen edges next' held held')
    (long : IsLong rep) (p : Passes (keys_of layout) layout.rate before after items)
    (m : Moves layout edges after.bytes (later rep) held bytes' rep' held') where
  abbrev was : LayeredKeyboard
  was = layers_of next (typing layout.rate before.last before.bytes before.started rep held)

  met : meets (keyboard layout) (at_work next layout.rate before rep held) ≡ passing before.bytes
  met = meets_is next before.bytes layout layout.rate before.last before.started before.pc rep held

  keyed : ticked (keys_of layout) (met_as (passing before.bytes)) (layered (is_fn_place layout) edges no_layers)
      (typing layout.rate before.last before.bytes before.started rep held)
      ≡ typing layout.rate after.last bytes' after.started rep' held'
  keyed = p.keyed (layered (is_fn_place layout) edges no_layers) rep held long ∙ m.keyed after.last after.started

  -- the keyboard after the meeting of these bytes, with these edges and these switches
  abbrev stage : List (ℕ × Bool) → Switches → Pc → Calm LayeredKeyboard
  stage es switches q = staged (record {
    keyboard = ticked (keys_of layout) (met_as (passing before.bytes)) (layered (is_fn_place layout) es no_layers)
        (typing layout.rate before.last before.bytes before.started rep held);
    layers = all_layers_after (is_fn_place layout) es no_layers;
    switches = switches;
  }) q

  next_is : (q : Pc)
      → staged ((keyboard layout).ticked (meets (keyboard layout) (at_work next layout.rate before rep held)) seen was) q
      ≡ staged (layers_of next' (typing layout.rate after.last bytes' after.started rep' held')) q
  next_is q =
      ap (λ v. staged ((keyboard layout).ticked v seen was) q) met
      ∙ ap (λ es. stage es (switched layout.debounce seen (pending next held)) q) takes.are_taken
      ∙ ap (λ s. stage edges s q) takes.switches
      ∙ ap (λ v. staged (record {
        keyboard = v;
        layers = all_layers_after (is_fn_place layout) edges no_layers;
        switches = pending next' held';
      }) q) keyed
      ∙ ap (λ v. staged (record {
        keyboard = typing layout.rate after.last bytes' after.started rep' held';
        layers = v;
        switches = pending next' held';
      }) q) m.layers

  met_pc : met_by (meets (keyboard layout) (at_work next layout.rate before rep held)) before.pc ≡ after.pc
  met_pc = ap (λ v. met_by v before.pc) met ∙ p.met

  said_is : items_of_meeting (meets (keyboard layout) (at_work next layout.rate before rep held)) before.pc ≡ items
  said_is = ap (λ v. items_of_meeting v before.pc) met ∙ p.said

  -- a tick of a stroke leads to the next one, by the edges that it takes
  pub turn_by : n < 86 + 10 * before.pc.done → AreKept items → (words' : List (Option ℕ)) → words ++ taken_of items
      ≡ words'
      → Reached (keyboard layout) h ss host (suc n) (at_work next' layout.rate (with_bytes after bytes') rep' held') words'
  turn_by l kept words' w =
      subst (λ v. Reached (keyboard layout) h ss host (suc n)
      (at_work next' layout.rate (with_bytes after bytes') rep' held') v) w
      (ticks_on (keyboard layout) h ss host n (at_work next layout.rate before rep held)
      (at_work next' layout.rate (with_bytes after bytes') rep' held') words seen items sees r l
      (ap (λ v. staged ((keyboard layout).ticked (meets (keyboard layout) (at_work next layout.rate before rep held)) seen
      was) v) met_pc ∙ next_is after.pc)
      (ap (λ v. v ++ []) said_is ∙ append-nil items)
      kept)

  -- a tick of a stroke in which a word is taken leads to the next one, by the edges that it takes
  pub taking_by : n ≡ 86 + 10 * before.pc.done → before.pc.done < length ss
      → AreKept (items ++ Taken (first_word after.pc.bios) ∷ []) → (words' : List (Option ℕ))
      → words ++ taken_of (items ++ Taken (first_word after.pc.bios) ∷ []) ≡ words'
      → Reached (keyboard layout) h ss host (suc n)
      (at_work next' layout.rate (record {
        last = after.last;
        bytes = bytes';
        started = after.started;
        pc = took after.pc;
      }) rep' held') words'
  taking_by at l kept words' w =
      let end : Line = record { last = after.last; bytes = bytes'; started = after.started; pc = took after.pc } in
      subst (λ v. Reached (keyboard layout) h ss host (suc n) (at_work next' layout.rate end rep' held') v) w
      (ticks_taking (keyboard layout) h ss host n (at_work next layout.rate before rep held)
      (at_work next' layout.rate end rep' held') words seen (items ++ Taken (first_word after.pc.bios) ∷ []) sees r at l
      (ap (λ v. staged ((keyboard layout).ticked (meets (keyboard layout) (at_work next layout.rate before rep held)) seen
      was) (took v)) met_pc
      ∙ next_is (took after.pc))
      (ap (λ v. v ++ Taken (first_word
      (met_by (meets (keyboard layout) (at_work next layout.rate before rep held)) before.pc).bios) ∷ []) said_is
      ∙ ap (λ (v : Pc). items ++ Taken (first_word v.bios) ∷ []) met_pc)
      kept)

-- without a debounce it takes what it sees
module _ (layout : KeyLayout) (h : KeyHistory) (ss : List Stroke) (host : h.host ≡ takes_from 0 ss)
    (off : layout.debounce ≡ false) (n : ℕ) (before after : Line) (words : List (Option ℕ)) (items : List Item)
    (edges : List (ℕ × Bool)) (rep rep' : Option Repeat) (held held' : List Bool) (bytes' : List ℕ)
    (r : Reached (keyboard layout) h ss host n (at_work [] layout.rate before rep held) words)
    (sees : tick_edges even h.edges n ≡ edges) (long : IsLong rep)
    (p : Passes (keys_of layout) layout.rate before after items)
    (m : Moves layout edges after.bytes (later rep) held bytes' rep' held') where
  takes : Takes layout.debounce [] edges edges [] held held'
  takes = takes_all layout.debounce edges held held' off m.turns

  -- without a debounce a tick takes the edges that it sees
  pub turn : n < 86 + 10 * before.pc.done → AreKept items → (words' : List (Option ℕ)) → words ++ taken_of items
      ≡ words'
      → Reached (keyboard layout) h ss host (suc n) (at_work [] layout.rate (with_bytes after bytes') rep' held') words'
  turn = turn_by layout h ss host n before after words items [] edges edges [] rep rep' held held' bytes' r sees takes long p m

  -- without a debounce a tick in which a word is taken takes the edges that it sees
  pub taking_turn : n ≡ 86 + 10 * before.pc.done → before.pc.done < length ss
      → AreKept (items ++ Taken (first_word after.pc.bios) ∷ []) → (words' : List (Option ℕ))
      → words ++ taken_of (items ++ Taken (first_word after.pc.bios) ∷ []) ≡ words'
      → Reached (keyboard layout) h ss host (suc n)
      (at_work [] layout.rate (record {
        last = after.last;
        bytes = bytes';
        started = after.started;
        pc = took after.pc;
      }) rep' held') words'
  taking_turn =
      taking_by layout h ss host n before after words items [] edges edges [] rep rep' held held' bytes' r sees takes long p m
