-- What enters the queue in a tick: the repeat's code and the edges', one after the other.
use Rattle.std.proofs.Common.{◌≡◌, ℕ, ◌+◌, ◌==◌, Bool, true, false, not, ◌&&◌, ◌||◌, List, [], ◌∷◌, ◌++◌}
use Rattle.std.proofs.Common.{length, Some, None, refl, ap, sym, ◌∙◌, append_assoc, append-nil}
use Rattle.std.specs.Prelude.{if◌then◌else◌, nat_lt}
use Rattle.std.specs.declared.option.Option.{Option}
use Rattle.model_keyboard.specs.declared.edge.TickEdge.{TickEdge}
use Rattle.model_keyboard.specs.declared.state.Repeat.{Repeat}
use Rattle.model_keyboard.specs.Codes.{Keys, make, release}
use Rattle.model_keyboard.specs.Keyboard.{Keyboard}
use Rattle.model_keyboard.specs.Laws.{Enters, let_in}
use Rattle.model_keyboard.specs.Once.{byte_if, queued}
use Rattle.model_keyboard.specs.Queue.{KeyQueue, enter}
use Rattle.model_keyboard.specs.Tick.{is_scanning, repeated, repeated_if, edge_if, edges_if}
use Rattle.law_link_times.specs.Coming.{code_of, codes_of, repeat_code, overrun_mark, added}

-- the queue after codes
abbrev pub entered : List (List ℕ) → KeyQueue → KeyQueue
entered [] q = q
entered (code ∷ codes) q = entered codes (enter code q)

-- to enter the codes of two lists, one list after the other, is to enter both joined
pub entered_more : (xs ys : List (List ℕ)) (q : KeyQueue) → entered (xs ++ ys) q ≡ entered ys (entered xs q)
entered_more [] ys q = refl
entered_more (x ∷ xs) ys q = entered_more xs ys (enter x q)

-- what one code adds, by the overrun and by the room
one_by : (code : List ℕ) (q : KeyQueue) (overrun full : Bool) → q.overrun ≡ overrun
    → queued (if overrun || full then record q { overrun = true } else record q { bytes = q.bytes ++ code })
    ≡ queued q ++ ((if overrun || full then [] else code) ++ byte_if (not overrun && full) 0x00)
one_by code q true full e = ap (λ c. q.bytes ++ byte_if c 0x00) (sym e) ∙ sym (append-nil (queued q))
one_by code q false true e =
    ap (λ v. v ++ 0x00 ∷ []) (sym (append-nil q.bytes))
    ∙ ap (λ c. (q.bytes ++ byte_if c 0x00) ++ 0x00 ∷ []) (sym e)
one_by code q false false e =
    ap (λ c. (q.bytes ++ code) ++ byte_if c 0x00) e ∙ append-nil (q.bytes ++ code)
    ∙ ap (λ v. v ++ code) (sym (append-nil q.bytes)) ∙ ap (λ c. (q.bytes ++ byte_if c 0x00) ++ code) (sym e)
    ∙ ap (λ v. queued q ++ v) (sym (append-nil code))

-- and all of them
pub queue_adds : (codes : List (List ℕ)) (q : KeyQueue) → queued (entered codes q) ≡ queued q ++ added codes q
queue_adds [] q = sym (append-nil (queued q))
queue_adds (code ∷ codes) q =
    queue_adds codes (enter code q)
    ∙ ap (λ v. v ++ added codes (enter code q))
    (one_by code q q.overrun (nat_lt 16 (length q.bytes + length code)) refl)
    ∙ append_assoc (queued q) (let_in (Enters code) q ++ overrun_mark code q) (added codes (enter code q))

-- steps in which codes enter the queue, and that change neither reply, AA, test, nor whether scanning is on
pub record Enter' (codes : List (List ℕ)) (before after : Keyboard) : Type 0 where
  pub reply : after.reply ≡ before.reply
  pub aa_due : after.aa_due ≡ before.aa_due
  pub test : after.test ≡ before.test
  pub scanning : is_scanning after ≡ is_scanning before
  pub queue : after.queue ≡ entered codes before.queue

both : (xs ys : List (List ℕ)) (a b c : Keyboard) → Enter' xs a b → Enter' ys b c → Enter' (xs ++ ys) a c
both xs ys a b c f g = record {
  reply = g.reply ∙ f.reply;
  aa_due = g.aa_due ∙ f.aa_due;
  test = g.test ∙ f.test;
  scanning = g.scanning ∙ f.scanning;
  queue = g.queue ∙ ap (λ q. entered ys q) f.queue ∙ sym (entered_more xs ys a.queue);
}

-- an edge
pressed_by : (silent : Bool) (code : List ℕ) (q : KeyQueue)
    → (if silent then q else enter code q) ≡ entered (if silent then [] else code ∷ []) q
pressed_by true code q = refl
pressed_by false code q = refl

released_by : (silent make_only : Bool) (code : List ℕ) (q : KeyQueue)
    → (if silent || make_only then q else enter code q)
    ≡ entered (if silent then [] else if make_only then [] else code ∷ []) q
released_by true make_only code q = refl
released_by false true code q = refl
released_by false false code q = refl

edge_enters : (keys : Keys) (place : ℕ) (down on_fn : Bool) (k : Keyboard)
    → Enter' (code_of keys (record { place = place; down = down; on_fn = on_fn })) k
    (edge_if true keys place down on_fn k)
edge_enters keys place true on_fn k = record {
  reply = refl;
  aa_due = refl;
  test = refl;
  scanning = refl;
  queue = pressed_by (keys.is_fn place) (make (keys.code on_fn place)) k.queue;
}
edge_enters keys place false on_fn k = record {
  reply = refl;
  aa_due = refl;
  test = refl;
  scanning = refl;
  queue = released_by (keys.is_fn place) (keys.make_only place) (release (keys.code on_fn place)) k.queue;
}

edges_enter : (keys : Keys) (edges : List TickEdge) (k : Keyboard)
    → Enter' (codes_of keys edges) k (edges_if true keys edges k)
edges_enter keys [] k = record { reply = refl; aa_due = refl; test = refl; scanning = refl; queue = refl }
edges_enter keys (e ∷ es) k =
    let k' : Keyboard = edge_if true keys e.place e.down e.on_fn k in
    both (code_of keys e) (codes_of keys es) k k' (edges_if true keys es k')
    (edge_enters keys e.place e.down e.on_fn k) (edges_enter keys es k')

-- where scanning is off
edges_off : (keys : Keys) (edges : List TickEdge) (k : Keyboard) → Enter' [] k (edges_if false keys edges k)
edges_off keys [] k = record { reply = refl; aa_due = refl; test = refl; scanning = refl; queue = refl }
edges_off keys (e ∷ es) k =
    let r = edges_off keys es (edge_if false keys e.place e.down e.on_fn k) in
    record { reply = r.reply; aa_due = r.aa_due; test = r.test; scanning = r.scanning; queue = r.queue }

-- the key that repeats
repeat_enters : (r : Option Repeat) (keys : Keys) (inhibited : Bool) (k : Keyboard)
    → Enter' (repeat_code keys inhibited r) k (repeated r keys inhibited k)
repeat_enters None keys inhibited k =
    record { reply = refl; aa_due = refl; test = refl; scanning = refl; queue = refl }
repeat_enters (Some r) keys inhibited k = record {
  reply = refl;
  aa_due = refl;
  test = refl;
  scanning = refl;
  queue = by ((r.count == 1) && not inhibited);
}
  where
    by : (c : Bool) → (if c then enter (make (keys.code r.on_fn r.place)) k.queue else k.queue)
        ≡ entered (if c then make (keys.code r.on_fn r.place) ∷ [] else []) k.queue
    by true = refl
    by false = refl

-- steps 4 and 5, by whether scanning is on
pub scans_enter : (on : Bool) (keys : Keys) (inhibited : Bool) (edges : List TickEdge) (k : Keyboard)
    → Enter' (if on then repeat_code keys inhibited k.repeats ++ codes_of keys edges else []) k
    (edges_if on keys edges (repeated_if on keys inhibited k))
scans_enter true keys inhibited edges k =
    let k' : Keyboard = repeated k.repeats keys inhibited k in
    both (repeat_code keys inhibited k.repeats) (codes_of keys edges) k k' (edges_if true keys edges k')
    (repeat_enters k.repeats keys inhibited k) (edges_enter keys edges k')
scans_enter false keys inhibited edges k =
    let r = edges_off keys edges (record k { repeats = None }) in
    record { reply = r.reply; aa_due = r.aa_due; test = r.test; scanning = r.scanning; queue = r.queue }
