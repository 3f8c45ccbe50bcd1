-- Over ticks without a command or a reset, all that waited arrives in its order, or waits still.
use Rattle.std.proofs.Common.{◌≡◌, ℕ, suc, zero, ◌+◌, ◌-◌, ◌≤◌, ◌<◌, List, [], ◌++◌, Bool, Some}
use Rattle.std.proofs.Common.{refl, ap, sym, ◌∙◌, subst, arith, append_assoc, append-nil}
use Rattle.board_terms.specs.declared.event.HostEvent.{HostEvent}
use Rattle.model_controller.specs.declared.meeting.Meeting.{Meeting}
use Rattle.model_controller.specs.declared.meeting.Meeting.TheVariants.{Got, Inhibited, Idle, Sent, Cut}
use Rattle.key_file.specs.Histories.{KeyHistory}
use Rattle.layout_reader.specs.Layouts.{KeyLayout, is_fn_place}
use Rattle.model_keyboard.specs.declared.edge.TickEdge.{TickEdge}
use Rattle.model_keyboard.specs.Layers.{layered}
use Rattle.model_keyboard.specs.Codes.{Keys, keys_of}
use Rattle.model_keyboard.specs.Keyboard.{Keyboard, offer}
use Rattle.model_keyboard.specs.Tick.{met, ticked}
use Rattle.model_keyboard.specs.Once.{waiting, Extends}
use Rattle.model_keyboard.proofs.Once.{sent_leaves}
use Rattle.model_keyboard.proofs.Adds.{stays_in_line}
use Rattle.model_link.specs.Debounce.{taken}
use Rattle.model_link.specs.Machine.{LayeredKeyboard, keyboard, met_as}
use Rattle.model_link.specs.Expected.{Whole, meeting_from, whole_tick}
use Rattle.model_link.specs.TickEdges.{tick_edges}
use Rattle.law_quiet_log.specs.Once.{arrived, IsPlain, at_tick, meeting_at, all_arrived, IsPlainTick}
use Rattle.law_quiet_log.proofs.Once.{arrives_as_offered}

-- the byte that arrives is the first that waited, and leaves; the others wait on, in their order; what is new is
-- behind them. Where nothing arrives nothing leaves
record Leaves (arrived before after : List ℕ) : Type 0 where
  others : List ℕ
  leaves : before ≡ arrived ++ others
  afterwards : Extends others after

-- in a plain tick of the keyboard what arrives leaves
passes_by : (keys : Keys) (edges : List TickEdge) (k : Keyboard) (meeting : Meeting) → k.test ≡ 0
    → ((byte : ℕ) → meeting ≡ Sent byte → offer k ≡ Some byte) → IsPlain meeting k
    → Leaves (arrived meeting) (waiting k) (waiting (ticked keys (met_as meeting) edges k))
passes_by keys edges k (Got byte) e o p = absurd p
passes_by keys edges k Inhibited e o p =
    record { others = waiting k; leaves = refl; afterwards = stays_in_line keys (met_as Inhibited) edges k e }
passes_by keys edges k Idle e o p =
    record { others = waiting k; leaves = refl; afterwards = stays_in_line keys (met_as Idle) edges k e }
passes_by keys edges k (Sent byte) e o p =
    record {
      others = waiting (met (met_as (Sent byte)) keys k);
      leaves = sent_leaves keys k byte (o byte refl) p;
      afterwards = stays_in_line keys (met_as (Sent byte)) edges k e;
    }
passes_by keys edges k Cut e o p =
    record { others = waiting k; leaves = refl; afterwards = stays_in_line keys (met_as Cut) edges k e }

-- so it is in the model of a layout
plain_tick : (layout : KeyLayout) (events : List HostEvent) (edges : List (ℕ × Bool)) (start rest : ℕ)
    (w : Whole LayeredKeyboard) → w.keys.keyboard.test ≡ 0 → IsPlain (meeting_from (keyboard layout) events start w) w.keys.keyboard
    → Leaves (arrived (meeting_from (keyboard layout) events start w)) (waiting w.keys.keyboard)
    (waiting (whole_tick (keyboard layout) events edges start rest w).keys.keyboard)
plain_tick layout events edges start rest w e p =
    passes_by (keys_of layout) (layered (is_fn_place layout) (taken layout.debounce edges w.keys.switches) w.keys.layers) w.keys.keyboard
    (meeting_from (keyboard layout) events start w) e
    (λ byte h. (arrives_as_offered layout events start byte w h).1) p

-- from tick to tick
one_more : (before now next all : List ℕ) (a : List ℕ) → Extends before (all ++ now) → Leaves a now next
    → Extends before ((all ++ a) ++ next)
one_more before now next all a h p =
    let more : List ℕ = p.afterwards.more in
    record {
      more = h.more ++ more;
      is = append_assoc all a next ∙ ap (λ v. all ++ (a ++ v)) p.afterwards.is
          ∙ ap (λ v. all ++ v) (sym (append_assoc a p.others more) ∙ ap (λ v. v ++ more) (sym p.leaves))
          ∙ sym (append_assoc all now more) ∙ ap (λ v. v ++ more) h.is ∙ append_assoc before h.more more;
    }

-- and over ticks in a row
pub all_in_order : (layout : KeyLayout) (history : KeyHistory) (starts : ℕ → ℕ) (n count : ℕ)
    → ((j : ℕ) → n ≤ j → j < count + n → IsPlainTick layout history starts j)
    → Extends (waiting (at_tick layout history starts n).keys.keyboard)
    (all_arrived layout history starts n count ++ waiting (at_tick layout history starts (count + n)).keys.keyboard)
all_in_order layout history starts n zero h =
    let z : n ≡ zero + n = omega arith in
    record {
      more = [];
      is = ap (λ v. waiting (at_tick layout history starts v).keys.keyboard) (sym z)
          ∙ sym (append-nil (waiting (at_tick layout history starts n).keys.keyboard));
    }
all_in_order layout history starts n (suc count) h =
    let m : ℕ = count + n in
    let z : suc m ≡ suc count + n = omega arith in
    let t : IsPlainTick layout history starts m = h m (omega arith) (omega arith) in
    let w : Whole LayeredKeyboard = at_tick layout history starts m in
    let a : List ℕ = arrived (meeting_at layout history starts m) in
    let all : List ℕ = all_arrived layout history starts n count in
    let p : Leaves a (waiting w.keys.keyboard) (waiting (at_tick layout history starts (suc m)).keys.keyboard) =
    plain_tick layout history.host (tick_edges starts history.edges m) (4096 + starts m)
    (starts (suc m) - starts m - 609) w t.tested t.plain in
    let before : Extends (waiting (at_tick layout history starts n).keys.keyboard) (all ++ waiting w.keys.keyboard) =
    all_in_order layout history starts n count (λ j l u. h j l (omega (arith, u))) in
    subst (λ v. Extends (waiting (at_tick layout history starts n).keys.keyboard)
    ((all ++ a) ++ waiting (at_tick layout history starts v).keys.keyboard))
    z (one_more (waiting (at_tick layout history starts n).keys.keyboard) (waiting w.keys.keyboard)
    (waiting (at_tick layout history starts (suc m)).keys.keyboard) all a before p)
