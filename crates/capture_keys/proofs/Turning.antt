-- A key goes down or up: what is so of the keys stays so.
use Rattle.std.proofs.Common.{◌≡◌, ◌≤◌, ◌<◌, ℕ, ◌+◌, Bool, true, false, not, ◌&&◌, List, [], ◌∷◌, ◌++◌, length, Some, None}
use Rattle.std.proofs.Common.{refl, ap, sym, subst, ◌∙◌, arith, append-nil, length-append}
use Rattle.std.specs.Prelude.{All, nat_lt, if◌then◌else◌}
use Rattle.std.specs.declared.option.Option.{Option}
use Rattle.std.proofs.lemmas.Bool.{and_parts}
use Rattle.std.proofs.lemmas.Bool.Decides.{nat_tests}
use Rattle.std.proofs.lemmas.List.Elements.{All-nil, All-cons, All-append, All-weaker}
use Rattle.board_terms.specs.Matrix.{turned as turned_at}
use Rattle.board_terms.specs.declared.event.Edge.{Edge}
use Rattle.edge_queue.specs.Calls.{Call, edge_of, handed, if_taken}
use Rattle.edge_queue.specs.Calls.Call.{Push, Take}
use Rattle.edge_queue.specs.Queue.{Queue, after_taken, due_of, edge_at, empty, pushed, taken, time_of}
use Rattle.edge_queue.specs.declared.queue.Pushed.{Pushed}
use Rattle.layout_reader.specs.declared.entry.Entry.{Entry}
use Rattle.layout_reader.specs.Layouts.{KeyLayout}
use Rattle.capture_keys.specs.Keys.{Keys, filled, handed_at, handed_over, has_room, last_stamp, origin_at, stamp_at, turned, turned_line, with_edge}
use Rattle.capture_keys.specs.KeyTexts.{edges_in}
use Rattle.capture_keys.specs.declared.key_line.KeyLine.TheVariants.{Turned}
use Rattle.capture_keys.proofs.Calls.{after_more, handed_more, placed_more}
use Rattle.capture_keys.proofs.Sound.{AreLinesOf, IsKeyOf, IsSound, edges_more, filled_sound, lines_more}
use Rattle.capture_keys.proofs.Waiting.{IsDue, after_now, due_is, due_later, idle, none_due, one, ready_kept, short, taken_now}

module _ (layout : KeyLayout) (e : Entry) (is : IsKeyOf layout e) (k : Keys) (s : IsSound layout k) (stamp : ℕ) (down : Bool) where
  abbrev P : Pushed
  P = edge_at stamp e.place down

  abbrev With : Keys
  With = record k { queue = pushed P k.queue }

  -- an edge is pushed
  push_sound : (full : Bool) → (full ≡ false → (pushed P k.queue).waiting ≡ []) → IsSound layout (record With { full = full })
  push_sound full waits =
      let debounce = layout.debounce in
      let calls = s.calls in
      let kept = ready_kept P k.queue in
      record {
        calls = calls ++ Push P ∷ [];
        placed = placed_more calls (Push P ∷ []) s.placed (is.place, tt);
        queue = ap (pushed P) s.queue ∙ sym (after_more debounce calls (Push P ∷ []) empty);
        edges = s.edges ∙ sym (handed_more debounce calls (Push P ∷ []) empty ∙ append-nil (handed debounce calls empty));
        lines = s.lines;
        few = s.few;
        soon = subst (λ ready. ready ≤ 239979520) (sym kept) s.soon;
        before = subst (λ ready. All (λ (x : Edge). x.stamp ≤ ready) (edges_in k.lines)) (sym kept) s.before;
        idle = waits;
      }

  -- it is handed over
  module _ (time now : ℕ) (keys_down : List Bool) (none : k.queue ≡ idle keys_down k.queue.ready) (due : IsDue P keys_down k.queue.ready now)
      (early : now ≤ last_stamp) (room : length k.lines < 65536) where
    abbrev Ready : ℕ
    Ready = k.queue.ready

    abbrev After : Queue
    After = after_taken layout.debounce now (pushed P k.queue)

    waits : pushed P k.queue ≡ one P keys_down Ready
    waits = ap (pushed P) none ∙ due.waits

    takes : taken now (pushed P k.queue) ≡ Some (edge_at now e.place down)
    takes =
        ap (taken now) waits ∙ ap (λ t. taken t (one P keys_down Ready)) due.now_is ∙ taken_now P keys_down Ready
        ∙ ap (λ t. Some (edge_at t e.place down)) (sym due.now_is)

    leaves : After ≡ idle (turned_at e.place down keys_down) (now + time_of layout.debounce down)
    leaves =
        ap (after_taken layout.debounce now) waits
        ∙ ap (λ t. after_taken layout.debounce t (one P keys_down Ready)) due.now_is
        ∙ after_now layout.debounce P keys_down Ready
        ∙ ap (λ t. idle (turned_at e.place down keys_down) (t + time_of layout.debounce down)) (sym due.now_is)

    handed_sound : IsSound layout (handed_at layout.debounce time e now With)
    handed_sound =
        let debounce = layout.debounce in
        let calls = s.calls in
        let more : List Call = Push P ∷ Take now ∷ [] in
        let line = Turned e (edge_at now e.place down) in
        let last : turned_line e (taken now (pushed P k.queue)) ≡ line ∷ [] = ap (turned_line e) takes in
        let lines_are : k.lines ++ turned_line e (taken now (pushed P k.queue)) ≡ k.lines ++ line ∷ [] = ap (λ ls. k.lines ++ ls) last in
        let ready_is : After.ready ≡ now + time_of debounce down = ap (λ (q : Queue). q.ready) leaves in
        let time_is = short debounce down in
        let later : Ready ≤ now = subst (λ t. Ready ≤ t) (sym due.now_is) (due_later Ready stamp) in
        let handed_is : handed debounce more k.queue ≡ edges_in (line ∷ []) = ap (λ o. if_taken o ++ []) takes in
        record {
          calls = calls ++ more;
          placed = placed_more calls more s.placed (is.place, (tt, tt));
          queue = ap (λ q. after_taken debounce now (pushed P q)) s.queue ∙ sym (after_more debounce calls more empty);
          edges =
              ap edges_in lines_are ∙ edges_more k.lines (line ∷ []) ∙ ap (λ es. es ++ edges_in (line ∷ [])) s.edges
              ∙ ap (λ es. handed debounce calls empty ++ es) (sym handed_is)
              ∙ ap (λ q. handed debounce calls empty ++ handed debounce more q) s.queue
              ∙ sym (handed_more debounce calls more empty);
          lines = subst (AreLinesOf layout) (sym lines_are) (lines_more layout k.lines (line ∷ []) s.lines ((is, refl), tt));
          few = subst (λ ls. length ls ≤ 65536) (sym lines_are) (omega (arith, room, length-append k.lines (line ∷ [])));
          soon = omega (arith, ready_is, time_is, early);
          before =
              subst (λ ls. All (λ (x : Edge). x.stamp ≤ After.ready) (edges_in ls)) (sym lines_are)
              (subst (All (λ (x : Edge). x.stamp ≤ After.ready)) (sym (edges_more k.lines (line ∷ [])))
              (All-append (λ (x : Edge). x.stamp ≤ After.ready) (edges_in k.lines) (edges_in (line ∷ []))
              (All-weaker (λ (x : Edge). x.stamp ≤ Ready) (λ (x : Edge). x.stamp ≤ After.ready) (λ x l. omega (arith, l, later, ready_is)) (edges_in k.lines) s.before)
              (All-cons (λ (x : Edge). x.stamp ≤ After.ready) (edge_of (edge_at now e.place down)) [] (omega (arith, ready_is))
              (All-nil (λ (x : Edge). x.stamp ≤ After.ready)))));
          idle = λ h. ap (λ (q : Queue). q.waiting) leaves;
        }

  -- the edge is due now, or it isn't taken in
  over_sound : (time : ℕ) (due : Option ℕ) → k.full ≡ false → length k.lines < 65536 → due_of (pushed P k.queue) ≡ due
      → IsSound layout (handed_over layout.debounce time e due With)
  over_sound time None free room is_due = push_sound k.full (λ h. none_due (pushed P k.queue) is_due)
  over_sound time (Some now) free room is_due =
      let none : k.queue ≡ idle k.queue.down k.queue.ready =
      ap (λ w. record { waiting = w; down = k.queue.down; ready = k.queue.ready }) (s.idle free) in
      let due : IsDue P k.queue.down k.queue.ready now =
      due_is P k.queue.down k.queue.ready now (ap (λ q. due_of (pushed P q)) (sym none) ∙ is_due) in
      elim (nat_lt last_stamp now) as (λ b. nat_lt last_stamp now ≡ b
      → IsSound layout (if b then filled With else handed_at layout.debounce time e now With)) [
        | true ↦ λ late. push_sound true (λ h. absurd cc)
        | false ↦ λ early. handed_sound time now k.queue.down none due (grind (arith, nat_tests, early)) room
      ] refl

  -- a key goes down or up
  abbrev Free : Bool
  Free = not k.full && nat_lt (length k.lines) 65536

  room_of : Free ≡ true → (k.full ≡ false) × (length k.lines < 65536)
  room_of h =
      let both = and_parts (not k.full) (nat_lt (length k.lines) 65536) h in
      let few = both.1 in
      (not_true k.full both.0, grind (arith, nat_tests, few))
    where
      not_true : (b : Bool) → not b ≡ true → b ≡ false
      not_true true h = absurd cc
      not_true false h = refl

-- sound keys stay sound when a key of the layout goes down or up
pub turned_sound : (layout : KeyLayout) (e : Entry) (time : ℕ) (down : Bool) (k : Keys) → IsKeyOf layout e → IsSound layout k
    → IsSound layout (turned layout.debounce time e down k)
turned_sound layout e time down k is s =
    let stamp = stamp_at (origin_at time k) time in
    elim (has_room k) as (λ b. has_room k ≡ b → IsSound layout (if b
    then handed_over layout.debounce time e (due_of (with_edge time e down k).queue) (with_edge time e down k) else filled k)) [
      | true ↦ λ h.
          let room = room_of layout e is k s stamp down h in
          over_sound layout e is k s stamp down time (due_of (with_edge time e down k).queue) room.0 room.1 refl
      | false ↦ λ h. filled_sound layout k s
    ] refl
