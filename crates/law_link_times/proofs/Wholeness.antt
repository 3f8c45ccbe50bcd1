-- Each code of a tick is one byte, or F0 and one.
use Rattle.std.proofs.Common.{ℕ, ◌==◌, Bool, true, false, not, ◌&&◌, List, [], ◌∷◌, Some, None, refl}
use Rattle.std.specs.Prelude.{if◌then◌else◌, All}
use Rattle.std.specs.declared.option.Option.{Option}
use Rattle.std.proofs.lemmas.List.Elements.{All-append, All-cons, All-nil}
use Rattle.model_controller.specs.declared.meeting.Meeting.{Meeting}
use Rattle.model_keyboard.specs.declared.edge.TickEdge.{TickEdge}
use Rattle.model_keyboard.specs.declared.state.Repeat.{Repeat}
use Rattle.model_keyboard.specs.Codes.{IsCode, Keys, make, release}
use Rattle.model_keyboard.specs.Keyboard.{Keyboard}
use Rattle.model_keyboard.specs.Tick.{is_inhibited}
use Rattle.model_link.specs.Machine.{met_as}
use Rattle.law_link_times.specs.Coming.{code_of, codes_of, repeat_code, repeats_still, tick_codes}

one : (code : List ℕ) → IsCode code → All IsCode (code ∷ [])
one code h = All-cons IsCode code [] h (All-nil IsCode)

if_any : (c : Bool) (code : List ℕ) → IsCode code → All IsCode (if c then code ∷ [] else [])
if_any true code h = one code h
if_any false code h = All-nil IsCode

-- an edge's
edge_by : (silent down make_only : Bool) (pressed released : List ℕ) → IsCode pressed → IsCode released
    → All IsCode (if silent then [] else if down then pressed ∷ [] else if make_only then [] else released ∷ [])
edge_by true down make_only pressed released p r = All-nil IsCode
edge_by false true make_only pressed released p r = one pressed p
edge_by false false true pressed released p r = All-nil IsCode
edge_by false false false pressed released p r = one released r

edges_whole : (keys : Keys) (edges : List TickEdge) → All IsCode (codes_of keys edges)
edges_whole keys [] = All-nil IsCode
edges_whole keys (e ∷ es) =
    All-append IsCode (code_of keys e) (codes_of keys es)
    (edge_by (keys.is_fn e.place) e.down (keys.make_only e.place) (make (keys.code e.on_fn e.place))
    (release (keys.code e.on_fn e.place)) tt refl)
    (edges_whole keys es)

-- the repeat's
repeat_whole : (keys : Keys) (inhibited : Bool) (r : Option Repeat) → All IsCode (repeat_code keys inhibited r)
repeat_whole keys inhibited None = All-nil IsCode
repeat_whole keys inhibited (Some r) =
    if_any ((r.count == 1) && not inhibited) (make (keys.code r.on_fn r.place)) tt

-- and so all of them
pub codes_whole : (keys : Keys) (meeting : Meeting) (edges : List TickEdge) (before : Keyboard) (scanning : Bool)
    → All IsCode (tick_codes keys meeting edges before scanning)
codes_whole keys meeting edges before true =
    All-append IsCode (repeat_code keys (is_inhibited (met_as meeting)) (repeats_still meeting before))
    (codes_of keys edges) (repeat_whole keys (is_inhibited (met_as meeting)) (repeats_still meeting before))
    (edges_whole keys edges)
codes_whole keys meeting edges before false = All-nil IsCode
