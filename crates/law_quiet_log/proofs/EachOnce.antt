-- A tick, whatever its meeting: what waited arrives, is taken away, or waits on.
use Rattle.std.proofs.Common.{◌≡◌, ℕ, ◌⊎◌, inl, inr, List, [], ◌∷◌, ◌++◌, drop, Bool, true, false, not, ◌&&◌}
use Rattle.std.proofs.Common.{◌==◌, Some, None, refl, ap, sym, ◌∙◌, subst, append_assoc, append-nil}
use Rattle.std.specs.Prelude.{if◌then◌else◌, slice_get}
use Rattle.std.specs.declared.option.Option.{Option}
use Rattle.std.specs.List.Sorted.{IsPermutation}
use Rattle.std.proofs.lemmas.List.Sorted.{IsPermutation-refl, IsPermutation-append_comm}
use Rattle.std.proofs.lemmas.List.Sorted.{IsPermutation-append_left, IsPermutation-append_right, IsPermutation-trans}
use Rattle.board_terms.specs.declared.event.HostEvent.{HostEvent}
use Rattle.model_controller.specs.declared.meeting.Meeting.{Meeting}
use Rattle.model_controller.specs.declared.meeting.Meeting.TheVariants.{Got, Inhibited, Idle, Sent, Cut}
use Rattle.layout_reader.specs.Layouts.{KeyLayout, is_fn_place}
use Rattle.model_keyboard.specs.declared.edge.TickEdge.{TickEdge}
use Rattle.model_keyboard.specs.Layers.{layered}
use Rattle.model_keyboard.specs.declared.meeting.Meeting.TheVariants as kbd
use Rattle.model_keyboard.specs.declared.state.Reply.{Reply}
use Rattle.model_keyboard.specs.Codes.{Keys, keys_of}
use Rattle.model_keyboard.specs.Queue.{KeyQueue, clear, kept}
use Rattle.model_keyboard.specs.Keyboard.{Keyboard, offer}
use Rattle.model_keyboard.specs.Tick.{met, tested_if, scanned, ticked}
use Rattle.model_keyboard.specs.Once.{byte_if, clears_queue, is_reset_due, queued, reply_bytes, waiting, Extends, GotKeeps, OnlyAdds}
use Rattle.model_keyboard.proofs.Once.{offers_first, sent_leaves, reset_leaves, got_leaves}
use Rattle.model_keyboard.proofs.Adds.{rest_adds, stays_in_line, Adds, scans_add}
use Rattle.model_link.specs.Debounce.{taken}
use Rattle.model_link.specs.Machine.{LayeredKeyboard, keyboard, met_as}
use Rattle.model_link.specs.Expected.{Whole, meeting_from, whole_tick}
use Rattle.law_quiet_log.specs.Once.{cleared_away, Passes, IsSilentInTest}
use Rattle.law_quiet_log.proofs.Once.{arrives_as_offered, tested_or_idle}

-- equal lists are one another in another order
pub same_order : (xs ys : List ℕ) → xs ≡ ys → IsPermutation xs ys
same_order xs ys e = subst (λ v. IsPermutation xs v) e (IsPermutation-refl xs)

-- what is after others may be before them
pub moved_first : (xs ys zs : List ℕ) → IsPermutation (xs ++ (ys ++ zs)) (ys ++ (xs ++ zs))
moved_first xs ys zs =
    IsPermutation-trans (xs ++ (ys ++ zs)) ((xs ++ ys) ++ zs) (ys ++ (xs ++ zs))
    (same_order (xs ++ (ys ++ zs)) ((xs ++ ys) ++ zs) (sym (append_assoc xs ys zs)))
    (IsPermutation-trans ((xs ++ ys) ++ zs) ((ys ++ xs) ++ zs) (ys ++ (xs ++ zs))
    (IsPermutation-append_left zs (xs ++ ys) (ys ++ xs) (IsPermutation-append_comm xs ys))
    (same_order ((ys ++ xs) ++ zs) (ys ++ (xs ++ zs)) (append_assoc ys xs zs)))

-- a queue is what its clearing takes away, and what that leaves
clearing_by : (started : Bool) (bytes end : List ℕ)
    → IsPermutation (bytes ++ end) (((if started then drop 1 bytes else bytes) ++ end) ++ (kept started bytes ++ []))
clearing_by false bytes end = same_order (bytes ++ end) ((bytes ++ end) ++ []) (sym (append-nil (bytes ++ end)))
clearing_by true [] end = same_order end (end ++ []) (sym (append-nil end))
clearing_by true (b ∷ bs) end = IsPermutation-append_comm (b ∷ []) (bs ++ end)

clearing : (q : KeyQueue) → IsPermutation (queued q) (cleared_away q ++ queued (clear q))
clearing q = clearing_by q.break_started q.bytes (byte_if q.overrun 0x00)

clearing_if : (c : Bool) (q : KeyQueue)
    → IsPermutation (queued q) ((if c then cleared_away q else []) ++ queued (if c then clear q else q))
clearing_if true q = clearing q
clearing_if false q = IsPermutation-refl (queued q)

-- a list whose first is known
first_known : (xs : List ℕ) (byte : ℕ) → slice_get xs 0 ≡ Some byte → xs ≡ byte ∷ drop 1 xs
first_known [] byte e = absurd cc
first_known (x ∷ xs) byte e = let z : x ≡ byte = cc in ap (λ v. v ∷ xs) z

-- AA that became due is before the queue
aa_after : (before after : Bool) (q q' : List ℕ) → (before ≡ true → after ≡ true) → Extends q q'
    → Extends (byte_if (after && not before) 0xaa ++ (byte_if before 0xaa ++ q)) (byte_if after 0xaa ++ q')
aa_after true true q q' h b = record { more = b.more; is = ap (λ v. 0xaa ∷ v) b.is }
aa_after true false q q' h b = let e : false ≡ true = h refl in absurd cc
aa_after false true q q' h b = record { more = b.more; is = ap (λ v. 0xaa ∷ v) b.is }
aa_after false false q q' h b = b

none_new : (b : Bool) → (b && not b) ≡ false
none_new true = refl
none_new false = refl

module _ (keys : Keys) (edges : List TickEdge) (k : Keyboard) where
  -- nothing passes, and the test has ended: all that waited waits on
  waits_on : (meeting : Meeting) → met (met_as meeting) keys k ≡ k → k.test ≡ 0
      → Extends (waiting k) (waiting (ticked keys (met_as meeting) edges k))
  waits_on meeting e t =
      subst (λ v. Extends (waiting v) (waiting (ticked keys (met_as meeting) edges k))) e
      (stays_in_line keys (met_as meeting) edges k t)

  -- a byte from the system
  gets : (byte : ℕ) → k.test ≡ 0 → Passes (Got byte) k (ticked keys (met_as (Got byte)) edges k)
  gets byte t =
      let m : Keyboard = met (kbd.Got byte true) keys k in
      let after : Keyboard = ticked keys (kbd.Got byte true) edges k in
      let c : Bool = clears_queue byte in
      let r : List ℕ = reply_bytes k.reply in
      let aa : List ℕ = byte_if k.aa_due 0xaa in
      let gone : List ℕ = if c then cleared_away k.queue else [] in
      let stays : List ℕ = queued (if c then clear k.queue else k.queue) in
      let g : GotKeeps keys byte true k = got_leaves keys byte true k in
      let h : Extends (waiting m) (waiting after) = stays_in_line keys (kbd.Got byte true) edges k t in
      let w : waiting m ≡ reply_bytes after.reply ++ (aa ++ stays) =
      ap (λ v. reply_bytes v ++ (byte_if m.aa_due 0xaa ++ queued m.queue))
      (sym (rest_adds keys (kbd.Got byte true) edges k).reply)
      ∙ ap (λ v. reply_bytes after.reply ++ (byte_if v 0xaa ++ queued m.queue)) g.aa_due
      ∙ ap (λ v. reply_bytes after.reply ++ (aa ++ queued v)) g.queue in
      record {
        first = record { more = waiting k; is = refl };
        each = IsPermutation-trans (r ++ (aa ++ queued k.queue)) (r ++ (gone ++ (aa ++ stays)))
            ((r ++ gone) ++ (aa ++ stays))
            (IsPermutation-append_right r (aa ++ queued k.queue) (gone ++ (aa ++ stays))
            (IsPermutation-trans (aa ++ queued k.queue) (aa ++ (gone ++ stays)) (gone ++ (aa ++ stays))
            (IsPermutation-append_right aa (queued k.queue) (gone ++ stays) (clearing_if c k.queue))
            (moved_first aa gone stays)))
            (same_order (r ++ (gone ++ (aa ++ stays))) ((r ++ gone) ++ (aa ++ stays))
            (sym (append_assoc r gone (aa ++ stays))));
        rest = record { more = h.more; is = h.is ∙ ap (λ v. v ++ h.more) w };
      }

  -- the byte that was offered is sent
  module _ (byte : ℕ) (t : k.test ≡ 0) (o : offer k ≡ Some byte) where
    abbrev after : Keyboard
    after = ticked keys kbd.Sent edges k

    abbrev others : List ℕ
    others = drop 1 (waiting k)

    known : waiting k ≡ byte ∷ others
    known = first_known (waiting k) byte (sym (offers_first k) ∙ o)

    -- with no reset due
    sends : is_reset_due k.reply ≡ false → Passes (Sent byte) k after
    sends n =
        let h : Extends (waiting (met kbd.Sent keys k)) (waiting after) = stays_in_line keys kbd.Sent edges k t in
        let l : others ≡ waiting (met kbd.Sent keys k) = ap (λ v. drop 1 v) (sent_leaves keys k byte o n) in
        let gone : Bool → List ℕ = λ c. if c then byte_if k.aa_due 0xaa ++ cleared_away k.queue else [] in
        let stays : Bool → List ℕ = λ c. if c then queued (clear k.queue) else others in
        record {
          first = record { more = others; is = known };
          each = subst (λ c. IsPermutation (waiting k) (byte ∷ (gone c ++ stays c))) (sym n)
              (same_order (waiting k) (byte ∷ others) known);
          rest = subst (λ c. Extends (stays c) (waiting after)) (sym n)
              (record { more = h.more; is = h.is ∙ ap (λ v. v ++ h.more) (sym l) });
        }

    -- the reply is the first that waits
    reply_first : (r : Option Reply) → is_reset_due r ≡ true → (xs : List ℕ)
        → drop 1 (reply_bytes r ++ xs) ≡ xs
    reply_first None e xs = absurd cc
    reply_first (Some r) e xs = refl

    -- with one
    resets : is_reset_due k.reply ≡ true → Passes (Sent byte) k after
    resets n =
        let h : Extends (waiting (met kbd.Sent keys k)) (waiting after) = stays_in_line keys kbd.Sent edges k t in
        let aa : List ℕ = byte_if k.aa_due 0xaa in
        let cleared : List ℕ = queued (clear k.queue) in
        let gone : Bool → List ℕ = λ c. if c then aa ++ cleared_away k.queue else [] in
        let stays : Bool → List ℕ = λ c. if c then cleared else others in
        let l : others ≡ aa ++ queued k.queue = reply_first k.reply n (aa ++ queued k.queue) in
        let all : IsPermutation (waiting k) (byte ∷ ((aa ++ cleared_away k.queue) ++ cleared)) =
        IsPermutation-trans (waiting k) (byte ∷ (aa ++ queued k.queue))
        (byte ∷ ((aa ++ cleared_away k.queue) ++ cleared))
        (same_order (waiting k) (byte ∷ (aa ++ queued k.queue)) (known ∙ ap (λ v. byte ∷ v) l))
        (IsPermutation-trans (byte ∷ (aa ++ queued k.queue)) (byte ∷ (aa ++ (cleared_away k.queue ++ cleared)))
        (byte ∷ ((aa ++ cleared_away k.queue) ++ cleared))
        (IsPermutation-append_right (byte ∷ aa) (queued k.queue) (cleared_away k.queue ++ cleared) (clearing k.queue))
        (same_order (byte ∷ (aa ++ (cleared_away k.queue ++ cleared)))
        (byte ∷ ((aa ++ cleared_away k.queue) ++ cleared))
        (ap (λ v. byte ∷ v) (sym (append_assoc aa (cleared_away k.queue) cleared))))) in
        record {
          first = record { more = others; is = known };
          each = subst (λ c. IsPermutation (waiting k) (byte ∷ (gone c ++ stays c))) (sym n) all;
          rest = subst (λ c. Extends (stays c) (waiting after)) (sym n)
              (record { more = h.more; is = h.is ∙ ap (λ v. v ++ h.more) (reset_leaves keys k n) });
        }

    passes_sent : (c : Bool) → is_reset_due k.reply ≡ c → Passes (Sent byte) k after
    passes_sent true n = resets n
    passes_sent false n = sends n

  -- nothing is offered, or the test runs
  module _ (silent : IsSilentInTest k) where
    abbrev then' : Keyboard
    then' = ticked keys kbd.Idle edges k

    idles : Passes Idle k then'
    idles = record {
      first = record { more = waiting k; is = refl };
      each = IsPermutation-refl (waiting k);
      rest = elim silent [
        | inl t ↦
            let z : tested_if (not (k.test == 0)) k ≡ k = ap (λ v. tested_if (not (v == 0)) k) t in
            let s : Adds k (scanned keys false edges k) = scans_add keys false edges k in
            let a : then'.aa_due ≡ k.aa_due = ap (λ v. (scanned keys false edges v).aa_due) z ∙ s.aa_due in
            let n : (then'.aa_due && not k.aa_due) ≡ false = ap (λ v. v && not k.aa_due) a ∙ none_new k.aa_due in
            subst (λ v. Extends (byte_if v 0xaa ++ waiting k) (waiting then')) (sym n)
            (stays_in_line keys kbd.Idle edges k t)
        | inr r ↦
            let h : OnlyAdds k then' = rest_adds keys kbd.Idle edges k in
            let b = aa_after k.aa_due then'.aa_due (queued k.queue) (queued then'.queue) h.aa_due h.queue in
            let front : List ℕ = byte_if (then'.aa_due && not k.aa_due) 0xaa in
            record {
              more = b.more;
              is = ap (λ v. reply_bytes v ++ (byte_if then'.aa_due 0xaa ++ queued then'.queue)) (h.reply ∙ r) ∙ b.is
                  ∙ ap (λ v. (front ++ (reply_bytes v ++ (byte_if k.aa_due 0xaa ++ queued k.queue))) ++ b.more) (sym r);
            }
      ];
    }

    -- in a tick each byte that waited arrives, is taken away, or waits on
    pub passes_by : (meeting : Meeting) → (k.test ≡ 0) ⊎ (meeting ≡ Idle)
        → ((byte : ℕ) → meeting ≡ Sent byte → offer k ≡ Some byte)
        → Passes meeting k (ticked keys (met_as meeting) edges k)
    passes_by (Got byte) (inl t) o = gets byte t
    passes_by (Got byte) (inr e) o = absurd cc
    passes_by Inhibited (inl t) o =
        record {
          first = record { more = waiting k; is = refl };
          each = IsPermutation-refl (waiting k);
          rest = waits_on Inhibited refl t;
        }
    passes_by Inhibited (inr e) o = absurd cc
    passes_by Idle t o = idles
    passes_by (Sent byte) (inl t) o = passes_sent byte t (o byte refl) (is_reset_due k.reply) refl
    passes_by (Sent byte) (inr e) o = absurd cc
    passes_by Cut (inl t) o =
        record {
          first = record { more = waiting k; is = refl };
          each = IsPermutation-refl (waiting k);
          rest = waits_on Cut refl t;
        }
    passes_by Cut (inr e) o = absurd cc

-- so it is in the model of a layout
pub each_byte_once : (layout : KeyLayout) (events : List HostEvent) (edges : List (ℕ × Bool)) (start rest : ℕ)
    (w : Whole LayeredKeyboard) → IsSilentInTest w.keys.keyboard
    → Passes (meeting_from (keyboard layout) events start w) w.keys.keyboard
    (whole_tick (keyboard layout) events edges start rest w).keys.keyboard
each_byte_once layout events edges start rest w silent =
    passes_by (keys_of layout) (layered (is_fn_place layout) (taken layout.debounce edges w.keys.switches) w.keys.layers) w.keys.keyboard
    silent (meeting_from (keyboard layout) events start w)
    (tested_or_idle layout events start w) (λ byte h. (arrives_as_offered layout events start byte w h).1)
