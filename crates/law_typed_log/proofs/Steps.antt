-- A tick of the typed history, by the edges that it sees and whether a word is taken in it.
use Rattle.std.proofs.Common.{◌≡◌, ℕ, suc, ◌+◌, ◌*◌, ◌≤◌, ◌<◌, List, [], ◌∷◌, ◌++◌, length, append_assoc, Bool}
use Rattle.std.proofs.Common.{true, false, Option, Some, None, refl, ap, sym, ◌∙◌, subst, arith}
use Rattle.std.specs.Prelude.{All, slice_get}
use Rattle.std.proofs.lemmas.List.Elements.{All-nil, All-cons, All-append}
use Rattle.pc_tables.specs.declared.item.Item.{Item}
use Rattle.ctl_core.specs.Translation.{translation}
use Rattle.model_controller.specs.declared.meeting.Meeting.{Meeting}
use Rattle.model_controller.specs.declared.meeting.Meeting.TheVariants.{Got, Inhibited, Idle, Sent, Cut}
use Rattle.key_file.specs.Histories.{KeyHistory}
use Rattle.model_link.specs.declared.line.LogLine.{LogLine}
use Rattle.model_link.specs.Machine.{KeyboardMachine}
use Rattle.model_link.specs.TickEdges.{tick_edges}
use Rattle.law_quiet_log.specs.Quiet.{even}
use Rattle.law_quiet_log.proofs.Calm.{Pc, Calm, meets, met_by, read_of, marked, light_items, items_of_meeting, pc_after}
use Rattle.law_quiet_log.proofs.Calm.{calm_tick, calm_items, calm_at, calm_lines, in_tick}
use Rattle.law_typed_log.specs.Typing.{Stroke, stroke_start, take_of, takes_from}
use Rattle.law_typed_log.specs.Typed.{is_loss, taken_by, taken_in}
use Rattle.law_typed_log.proofs.Takes.{taken_if, said_if, IsUndueTo, undue, undue_silent, taken, taken_says, take_at, take_only}

abbrev pub stepped : {S : Type 0} → KeyboardMachine S → List (ℕ × Bool) → Bool → Calm S → Calm S
stepped kb edges takes c = record {
  keys = kb.ticked (meets kb c) edges c.keys;
  pc = taken_if takes (met_by (meets kb c) c.pc);
  shown = kb.lights c.keys;
}

abbrev pub says : {S : Type 0} → KeyboardMachine S → Bool → Calm S → List Item
says kb takes c =
    light_items c.shown (kb.lights c.keys)
    ++ (items_of_meeting (meets kb c) c.pc ++ said_if takes (met_by (meets kb c) c.pc))

read_done : (o : Option ℕ) (q : Pc) → (read_of o q).done ≡ q.done
read_done None q = refl
read_done (Some code) q = refl

met_done : (m : Meeting) (q : Pc) → (met_by m q).done ≡ q.done
met_done (Got byte) q = refl
met_done Inhibited q = refl
met_done Idle q = refl
met_done (Sent byte) q = let t = translation true q.mark byte in read_done t.byte (marked t.mark q)
met_done Cut q = refl

-- what a list of items takes
abbrev pub taken_of : List Item → List (Option ℕ)
taken_of [] = []
taken_of (item ∷ items) = taken_by item ++ taken_of items

abbrev pub AreKept : List Item → Type 0
AreKept [] = Unit {0}
AreKept (item ∷ items) = (is_loss item ≡ false) × AreKept items

taken_append : (a b : List LogLine) → taken_in (a ++ b) ≡ taken_in a ++ taken_in b
taken_append [] b = refl
taken_append (x ∷ a) b =
    ap (λ v. taken_by x.item ++ v) (taken_append a b) ∙ sym (append_assoc (taken_by x.item) (taken_in a) (taken_in b))

taken_tick : (n : ℕ) (items : List Item) → taken_in (in_tick n items) ≡ taken_of items
taken_tick n [] = refl
taken_tick n (item ∷ items) = ap (λ v. taken_by item ++ v) (taken_tick n items)

kept_tick : (n : ℕ) (items : List Item) → AreKept items → All (λ line. is_loss line.item ≡ false) (in_tick n items)
kept_tick n [] k = All-nil (λ (line : LogLine). is_loss line.item ≡ false)
kept_tick n (item ∷ items) k =
    All-cons (λ (line : LogLine). is_loss line.item ≡ false) (record { tick = n; item = item }) (in_tick n items) k.0
    (kept_tick n items k.1)

module _ {S : Type 0} (kb : KeyboardMachine S) (h : KeyHistory) (ss : List Stroke) (host : h.host ≡ takes_from 0 ss) where
  -- the next take isn't due before a stamp
  next_is : (done stop : ℕ) → stop ≤ stroke_start done + 18432 → IsUndueTo h.host done stop
  next_is done stop l e g =
      let k : e.stamp ≡ stroke_start (done + 0) + 14336 =
      take_only 0 done ss e (ap (λ v. slice_get v done) (sym host) ∙ g) in
      omega (arith, l, k)

  -- the model after so many ticks, and what was said up to then
  pub record Reached (n : ℕ) (c : Calm S) (words : List (Option ℕ)) : Type 0 where
    pub is : calm_at kb h n ≡ c
    pub kept : All (λ line. is_loss line.item ≡ false) (calm_lines kb h n)
    pub taken_so_far : taken_in (calm_lines kb h n) ≡ words

  -- a tick more, by what it comes to
  goes_on : (n : ℕ) (c after : Calm S) (words : List (Option ℕ)) (items : List Item) → Reached n c words
      → calm_tick kb h n c ≡ after → calm_items kb h n c ≡ items → AreKept items
      → Reached (suc n) after (words ++ taken_of items)
  goes_on n c after words items r next said kept =
      let i : calm_items kb h n (calm_at kb h n) ≡ items = ap (λ v. calm_items kb h n v) r.is ∙ said in
      record {
        is = ap (λ v. calm_tick kb h n v) r.is ∙ next;
        kept = All-append (λ (line : LogLine). is_loss line.item ≡ false) (calm_lines kb h n)
            (in_tick n (calm_items kb h n (calm_at kb h n))) r.kept
            (subst (λ v. All (λ (line : LogLine). is_loss line.item ≡ false) (in_tick n v)) (sym i)
            (kept_tick n items kept));
        taken_so_far = taken_append (calm_lines kb h n) (in_tick n (calm_items kb h n (calm_at kb h n)))
            ∙ ap (λ v. v ++ taken_in (in_tick n (calm_items kb h n (calm_at kb h n)))) r.taken_so_far
            ∙ ap (λ v. words ++ v) (taken_tick n (calm_items kb h n (calm_at kb h n)) ∙ ap taken_of i);
      }

  module _ (n : ℕ) (c after : Calm S) (words : List (Option ℕ)) (edges : List (ℕ × Bool)) (items : List Item)
      (sees : tick_edges even h.edges n ≡ edges) (r : Reached n c words) where
    -- in a tick without a take
    pub ticks_on : n < 86 + 10 * c.pc.done → stepped kb edges false c ≡ after → says kb false c ≡ items
        → AreKept items → Reached (suc n) after (words ++ taken_of items)
    ticks_on l next said kept =
        let q : Pc = met_by (meets kb c) c.pc in
        let z : 1024 + (5120 + 2048 * n) ≡ 6144 + 2048 * n = omega arith in
        let u : IsUndueTo h.host q.done (6144 + 2048 * n) =
        subst (λ d. IsUndueTo h.host d (6144 + 2048 * n)) (sym (met_done (meets kb c) c.pc))
        (next_is c.pc.done (6144 + 2048 * n) (omega (arith, l))) in
        goes_on n c after words items r
        (ap (λ v. record {
          keys = kb.ticked (meets kb c) v c.keys;
          pc = pc_after h.host 1024 (5120 + 2048 * n) q;
          shown = kb.lights c.keys;
        }) sees
        ∙ ap (λ v. record { keys = kb.ticked (meets kb c) edges c.keys; pc = v; shown = kb.lights c.keys })
        (undue h.host 1024 (5120 + 2048 * n) (6144 + 2048 * n) q z u)
        ∙ next)
        (ap (λ v. light_items c.shown (kb.lights c.keys) ++ (items_of_meeting (meets kb c) c.pc ++ v))
        (undue_silent h.host 1024 (5120 + 2048 * n) (6144 + 2048 * n) q z u)
        ∙ said)
        kept

    -- in the tick of a take
    pub ticks_taking : n ≡ 86 + 10 * c.pc.done → c.pc.done < length ss → stepped kb edges true c ≡ after
        → says kb true c ≡ items → AreKept items → Reached (suc n) after (words ++ taken_of items)
    ticks_taking at l next said kept =
        let q : Pc = met_by (meets kb c) c.pc in
        let d : q.done ≡ c.pc.done = met_done (meets kb c) c.pc in
        let z : suc 1023 + (5120 + 2048 * n) ≡ 6144 + 2048 * n = omega arith in
        let y : c.pc.done + 0 ≡ c.pc.done = omega arith in
        let is : slice_get h.host q.done ≡ Some (take_of (stroke_start c.pc.done)) =
        ap (λ v. slice_get v q.done) host ∙ ap (λ v. slice_get (takes_from 0 ss) v) d ∙ take_at 0 c.pc.done ss l
        ∙ ap (λ v. Some (take_of (stroke_start v))) y in
        let u : IsUndueTo h.host (q.done + 1) (6144 + 2048 * n) =
        next_is (q.done + 1) (6144 + 2048 * n) (omega (arith, at, d)) in
        let now : stroke_start c.pc.done + 18432 ≡ 5120 + 2048 * n = omega (arith, at) in
        goes_on n c after words items r
        (ap (λ v. record {
          keys = kb.ticked (meets kb c) v c.keys;
          pc = pc_after h.host 1024 (5120 + 2048 * n) q;
          shown = kb.lights c.keys;
        }) sees
        ∙ ap (λ v. record { keys = kb.ticked (meets kb c) edges c.keys; pc = v; shown = kb.lights c.keys })
        (taken h.host 1023 (5120 + 2048 * n) (6144 + 2048 * n) (stroke_start c.pc.done) q z is now u)
        ∙ next)
        (ap (λ v. light_items c.shown (kb.lights c.keys) ++ (items_of_meeting (meets kb c) c.pc ++ v))
        (taken_says h.host 1023 (5120 + 2048 * n) (6144 + 2048 * n) (stroke_start c.pc.done) q z is now u)
        ∙ said)
        kept
