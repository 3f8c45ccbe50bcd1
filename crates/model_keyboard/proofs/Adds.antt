-- After its meeting a tick takes nothing away from what waits.
use Rattle.std.proofs.Common.{◌≡◌, ℕ, ◌+◌, ◌==◌, Bool, true, false, not, ◌&&◌, ◌||◌, List, [], ◌∷◌, ◌++◌}
use Rattle.std.proofs.Common.{length, Some, None, refl, ap, sym, ◌∙◌, append_assoc, append-nil}
use Rattle.std.specs.Prelude.{if◌then◌else◌, nat_lt, slice_get}
use Rattle.std.specs.declared.option.Option.{Option}
use Rattle.model_keyboard.specs.declared.edge.TickEdge.{TickEdge}
use Rattle.model_keyboard.specs.declared.meeting.Meeting.{Meeting}
use Rattle.model_keyboard.specs.declared.meeting.Meeting.TheVariants.{Cut}
use Rattle.model_keyboard.specs.declared.state.Repeat.{Repeat}
use Rattle.model_keyboard.specs.Codes.{make, release, Keys}
use Rattle.model_keyboard.specs.Queue.{KeyQueue, enter}
use Rattle.model_keyboard.specs.Keyboard.{Keyboard, offer}
use Rattle.model_keyboard.specs.Tick.{met, tested_if, is_scanning, repeated, repeated_if, edge_if, edges_if, is_inhibited, scanned, ticked}
use Rattle.model_keyboard.specs.Once.{reply_bytes, byte_if, queued, waiting, Extends, OnlyAdds}
use Rattle.model_keyboard.proofs.Once.{offers_first}

-- lists of which one is after another
none_afterwards : (xs : List ℕ) → Extends xs xs
none_afterwards xs = record { more = []; is = sym (append-nil xs) }

-- what is after what is after
more_after : (xs ys zs : List ℕ) → Extends xs ys → Extends ys zs → Extends xs zs
more_after xs ys zs a b = record {
  more = a.more ++ b.more;
  is = b.is ∙ ap (λ v. v ++ b.more) a.is ∙ append_assoc xs a.more b.more;
}

-- a code that finds no room is reported by 00, once
full_after : (q : KeyQueue) (overrun : Bool) → q.overrun ≡ overrun
    → Extends (queued q) (queued (record q { overrun = true }))
full_after q true e = record {
  more = [];
  is = ap (λ c. q.bytes ++ byte_if c 0x00) (sym e) ∙ sym (append-nil (queued q));
}
full_after q false e = record {
  more = 0x00 ∷ [];
  is = ap (λ v. v ++ 0x00 ∷ []) (sym (append-nil q.bytes))
      ∙ ap (λ c. (q.bytes ++ byte_if c 0x00) ++ 0x00 ∷ []) (sym e);
}

-- a code that finds room is after the others
room_after : (code : List ℕ) (q : KeyQueue) → q.overrun ≡ false
    → Extends (queued q) (queued (record q { bytes = q.bytes ++ code }))
room_after code q e = record {
  more = code;
  is = ap (λ c. (q.bytes ++ code) ++ byte_if c 0x00) e ∙ append-nil (q.bytes ++ code)
      ∙ ap (λ v. v ++ code) (sym (append-nil q.bytes)) ∙ ap (λ c. (q.bytes ++ byte_if c 0x00) ++ code) (sym e);
}

-- by the overrun, and by whether there is room
entered_by : (code : List ℕ) (q : KeyQueue) (overrun no_room : Bool) → q.overrun ≡ overrun
    → Extends (queued q)
    (queued (if overrun || no_room then record q { overrun = true } else record q { bytes = q.bytes ++ code }))
entered_by code q true no_room e = full_after q true e
entered_by code q false true e = full_after q false e
entered_by code q false false e = room_after code q e

-- so it is of each code that enters
entered : (code : List ℕ) (q : KeyQueue) → Extends (queued q) (queued (enter code q))
entered code q = entered_by code q q.overrun (nat_lt 16 (length q.bytes + length code)) refl

-- steps that change neither the reply nor a due AA, and add to the queue
pub record Adds (before after : Keyboard) : Type 0 where
  pub reply : after.reply ≡ before.reply
  pub aa_due : after.aa_due ≡ before.aa_due
  pub queue : Extends (queued before.queue) (queued after.queue)

-- steps that leave all three as they were
nothing_added : (a b : Keyboard) → b.reply ≡ a.reply → b.aa_due ≡ a.aa_due → b.queue ≡ a.queue → Adds a b
nothing_added a b r d q =
    record {
      reply = r;
      aa_due = d;
      queue = record { more = []; is = ap queued q ∙ sym (append-nil (queued a.queue)) };
    }

-- one such step after another
both_add : (a b c : Keyboard) → Adds a b → Adds b c → Adds a c
both_add a b c f g = record {
  reply = g.reply ∙ f.reply;
  aa_due = g.aa_due ∙ f.aa_due;
  queue = more_after (queued a.queue) (queued b.queue) (queued c.queue) f.queue g.queue;
}

-- the key that repeats
repeat_adds : (r : Option Repeat) (keys : Keys) (inhibited : Bool) (k : Keyboard)
    → Adds k (repeated r keys inhibited k)
repeat_adds None keys inhibited k = nothing_added k k refl refl refl
repeat_adds (Some r) keys inhibited k =
    record { reply = refl; aa_due = refl; queue = entered_if ((r.count == 1) && not inhibited) }
  where
    entered_if : (c : Bool)
        → Extends (queued k.queue) (queued (if c then enter (make (keys.code r.on_fn r.place)) k.queue else k.queue))
    entered_if true = entered (make (keys.code r.on_fn r.place)) k.queue
    entered_if false = none_afterwards (queued k.queue)

-- where scanning is on, and where it is off
repeats_add : (scanning : Bool) (keys : Keys) (inhibited : Bool) (k : Keyboard)
    → Adds k (repeated_if scanning keys inhibited k)
repeats_add true keys inhibited k = repeat_adds k.repeats keys inhibited k
repeats_add false keys inhibited k = nothing_added k (record k { repeats = None }) refl refl refl

-- the edges
entered_unless : (silent : Bool) (code : List ℕ) (q : KeyQueue) → Extends (queued q) (queued (if silent then q else enter code q))
entered_unless true code q = none_afterwards (queued q)
entered_unless false code q = entered code q

edge_adds : (scanning : Bool) (keys : Keys) (place : ℕ) (down on_fn : Bool) (k : Keyboard)
    → Adds k (edge_if scanning keys place down on_fn k)
edge_adds true keys place true on_fn k =
    record { reply = refl; aa_due = refl; queue = entered_unless (keys.is_fn place) (make (keys.code on_fn place)) k.queue }
edge_adds true keys place false on_fn k = record {
  reply = refl;
  aa_due = refl;
  queue = entered_unless (keys.is_fn place || keys.make_only place) (release (keys.code on_fn place)) k.queue;
}
edge_adds false keys place down on_fn k = nothing_added k (edge_if false keys place down on_fn k) refl refl refl

-- all edges, one after another
edges_add : (scanning : Bool) (keys : Keys) (edges : List TickEdge) (k : Keyboard)
    → Adds k (edges_if scanning keys edges k)
edges_add scanning keys [] k = nothing_added k k refl refl refl
edges_add scanning keys (e ∷ es) k =
    let k' : Keyboard = edge_if scanning keys e.place e.down e.on_fn k in
    both_add k k' (edges_if scanning keys es k') (edge_adds scanning keys e.place e.down e.on_fn k) (edges_add scanning keys es k')

-- steps 4 and 5
pub scans_add : (keys : Keys) (inhibited : Bool) (edges : List TickEdge) (k : Keyboard)
    → Adds k (scanned keys inhibited edges k)
scans_add keys inhibited edges k =
    let on : Bool = is_scanning k in
    let k' : Keyboard = repeated_if on keys inhibited k in
    both_add k k' (edges_if on keys edges k') (repeats_add on keys inhibited k) (edges_add on keys edges k')

-- the count of the test
tests : (running : Bool) (k : Keyboard) → OnlyAdds k (tested_if running k)
tests false k = record { reply = refl; aa_due = λ h. h; queue = none_afterwards (queued k.queue) }
tests true k = record { reply = refl; aa_due = due (k.test == 1); queue = none_afterwards (queued k.queue) }
  where
    due : (c : Bool) → k.aa_due ≡ true → (if c then true else k.aa_due) ≡ true
    due true h = refl
    due false h = h

-- steps 3 to 5
pub rest_adds : (keys : Keys) (meeting : Meeting) (edges : List TickEdge) (k : Keyboard)
    → OnlyAdds (met meeting keys k) (ticked keys meeting edges k)
rest_adds keys meeting edges k =
    let a : Keyboard = met meeting keys k in
    let b : Keyboard = tested_if (not (k.test == 0)) a in
    let t : OnlyAdds a b = tests (not (k.test == 0)) a in
    let s : Adds b (ticked keys meeting edges k) = scans_add keys (is_inhibited meeting) edges b in
    record {
      reply = s.reply ∙ t.reply;
      aa_due = λ h. s.aa_due ∙ t.aa_due h;
      queue =
          more_after (queued a.queue) (queued b.queue) (queued (ticked keys meeting edges k).queue) t.queue s.queue;
    }

-- so all that waits stays in line
in_line : (a b : Keyboard) → Adds a b → Extends (waiting a) (waiting b)
in_line a b h =
    let r : List ℕ = reply_bytes a.reply in
    let d : List ℕ = byte_if a.aa_due 0xaa in
    let q : List ℕ = queued a.queue in
    record {
      more = h.queue.more;
      is = ap (λ v. reply_bytes v ++ (byte_if b.aa_due 0xaa ++ queued b.queue)) h.reply
          ∙ ap (λ v. r ++ (byte_if v 0xaa ++ queued b.queue)) h.aa_due
          ∙ ap (λ v. r ++ (d ++ v)) h.queue.is
          ∙ ap (λ v. r ++ v) (sym (append_assoc d q h.queue.more)) ∙ sym (append_assoc r (d ++ q) h.queue.more);
    }

-- where the test had ended, step 3 does nothing
pub stays_in_line : (keys : Keys) (meeting : Meeting) (edges : List TickEdge) (k : Keyboard) → k.test ≡ 0
    → Extends (waiting (met meeting keys k)) (waiting (ticked keys meeting edges k))
stays_in_line keys meeting edges k e =
    let a : Keyboard = met meeting keys k in
    let z : tested_if (not (k.test == 0)) a ≡ a = ap (λ v. tested_if (not (v == 0)) a) e in
    let h : Extends (waiting a) (waiting (scanned keys (is_inhibited meeting) edges a)) =
    in_line a (scanned keys (is_inhibited meeting) edges a) (scans_add keys (is_inhibited meeting) edges a) in
    record { more = h.more; is = ap (λ v. waiting (scanned keys (is_inhibited meeting) edges v)) z ∙ h.is }

-- the first of a list stays the first
first_of_more : (xs more : List ℕ) (byte : ℕ) → slice_get xs 0 ≡ Some byte → slice_get (xs ++ more) 0 ≡ Some byte
first_of_more [] more byte e = absurd cc
first_of_more (x ∷ xs) more byte e = e

-- so a byte that was cut off is the first that waits
pub cut_is_offered : (keys : Keys) (edges : List TickEdge) (k : Keyboard) (byte : ℕ) → k.test ≡ 0
    → offer k ≡ Some byte → offer (ticked keys Cut edges k) ≡ Some byte
cut_is_offered keys edges k byte e o =
    let h : Extends (waiting k) (waiting (ticked keys Cut edges k)) = stays_in_line keys Cut edges k e in
    offers_first (ticked keys Cut edges k) ∙ ap (λ v. slice_get v 0) h.is
    ∙ first_of_more (waiting k) h.more byte (sym (offers_first k) ∙ o)
