-- Over ticks that clear nothing what waited after the reply arrives in its order, or waits still.
use Rattle.std.proofs.Common.{◌≡◌, ℕ, suc, zero, ◌+◌, ◌≤◌, ◌<◌, ◌⊎◌, inl, inr, List, [], ◌∷◌, ◌++◌, Bool, true}
use Rattle.std.proofs.Common.{false, Some, None, refl, ap, sym, ◌∙◌, subst, arith, append_assoc}
use Rattle.std.specs.Prelude.{if◌then◌else◌, ◌==◌}
use Rattle.std.specs.declared.option.Option.{Option}
use Rattle.model_controller.specs.declared.meeting.Meeting.{Meeting}
use Rattle.model_controller.specs.declared.meeting.Meeting.TheVariants.{Got, Inhibited, Idle, Sent, Cut}
use Rattle.key_file.specs.Histories.{KeyHistory}
use Rattle.layout_reader.specs.Layouts.{KeyLayout, is_fn_place}
use Rattle.model_keyboard.specs.declared.edge.TickEdge.{TickEdge}
use Rattle.model_keyboard.specs.Layers.{layered}
use Rattle.model_keyboard.specs.declared.meeting.Meeting.TheVariants as kbd
use Rattle.model_keyboard.specs.declared.state.Reply.{Reply}
use Rattle.model_keyboard.specs.Codes.{Keys, keys_of}
use Rattle.model_keyboard.specs.Queue.{clear}
use Rattle.model_keyboard.specs.Keyboard.{Keyboard, offer}
use Rattle.model_keyboard.specs.Tick.{reset, met, without_offered, sent_byte, ticked}
use Rattle.model_keyboard.specs.Once.{byte_if, is_reset_due, queued, reply_bytes, waiting, Extends, GotKeeps, OnlyAdds}
use Rattle.model_keyboard.proofs.Once.{sent_leaves, got_leaves}
use Rattle.model_keyboard.proofs.Adds.{rest_adds}
use Rattle.model_link.specs.Debounce.{taken}
use Rattle.model_link.specs.Machine.{LayeredKeyboard, met_as}
use Rattle.model_link.specs.TickEdges.{tick_edges}
use Rattle.model_link.specs.Expected.{Whole}
use Rattle.law_quiet_log.specs.Once.{arrived, at_tick, meeting_at, all_arrived, line, ClearsNothing, IsSubsequence}
use Rattle.law_quiet_log.proofs.Once.{arrives_as_offered}

-- a list is in itself, and in what has more before it, in it or after it
subsequence_self : (xs : List ℕ) → IsSubsequence xs xs
subsequence_self [] = tt
subsequence_self (x ∷ xs) = inl (refl, subsequence_self xs)

subsequence_before : (ys xs zs : List ℕ) → IsSubsequence xs zs → IsSubsequence xs (ys ++ zs)
subsequence_before [] xs zs h = h
subsequence_before (y ∷ ys) [] zs h = tt
subsequence_before (y ∷ ys) (x ∷ xs) zs h = inr (subsequence_before ys (x ∷ xs) zs h)

subsequence_after : (ys xs zs : List ℕ) → IsSubsequence xs ys → IsSubsequence xs (ys ++ zs)
subsequence_after [] [] zs h = tt
subsequence_after [] (x ∷ xs) zs h = absurd h
subsequence_after (y ∷ ys) [] zs h = tt
subsequence_after (y ∷ ys) (x ∷ xs) zs (inl e) = inl (e.0, subsequence_after ys xs zs e.1)
subsequence_after (y ∷ ys) (x ∷ xs) zs (inr h) = inr (subsequence_after ys (x ∷ xs) zs h)

-- the same before both
holds_after : (ys xs zs : List ℕ) → IsSubsequence xs zs → IsSubsequence (ys ++ xs) (ys ++ zs)
holds_after [] xs zs h = h
holds_after (y ∷ ys) xs zs h = inl (refl, holds_after ys xs zs h)

-- one among another that is among a third
subsequence_among : (zs ys xs : List ℕ) → IsSubsequence xs ys → IsSubsequence ys zs → IsSubsequence xs zs
subsequence_among zs ys [] h g = tt
subsequence_among zs [] (x ∷ xs) h g = absurd h
subsequence_among [] (y ∷ ys) (x ∷ xs) h g = absurd g
subsequence_among (z ∷ zs) (y ∷ ys) (x ∷ xs) (inl e) (inl f) = inl (e.0 ∙ f.0, subsequence_among zs ys xs e.1 f.1)
subsequence_among (z ∷ zs) (y ∷ ys) (x ∷ xs) (inr h) (inl f) = inr (subsequence_among zs ys (x ∷ xs) h f.1)
subsequence_among (z ∷ zs) (y ∷ ys) (x ∷ xs) h (inr g) = inr (subsequence_among zs (y ∷ ys) (x ∷ xs) h g)

-- what is after a list has it among it
after_subsequence : (xs ys : List ℕ) → Extends xs ys → IsSubsequence xs ys
after_subsequence xs ys h = subst (λ v. IsSubsequence xs v) (sym h.is) (subsequence_after xs xs h.more (subsequence_self xs))

-- what a tick adds leaves the line in its order
aa_is_there : (before after : Bool) (q q' : List ℕ) → (before ≡ true → after ≡ true) → IsSubsequence q q'
    → IsSubsequence (byte_if before 0xaa ++ q) (byte_if after 0xaa ++ q')
aa_is_there true true q q' h s = inl (refl, s)
aa_is_there true false q q' h s = let e : false ≡ true = h refl in absurd cc
aa_is_there false true q q' h s = subsequence_before (0xaa ∷ []) q q' s
aa_is_there false false q q' h s = s

added : (a b : Keyboard) → OnlyAdds a b → IsSubsequence (line a) (line b)
added a b h =
    aa_is_there a.aa_due b.aa_due (queued a.queue) (queued b.queue) h.aa_due
    (after_subsequence (queued a.queue) (queued b.queue) h.queue)

module _ (keys : Keys) (k : Keyboard) where
  -- a byte that is sent was the first of the line, or the reply, which the line isn't asked for
  went : (r : Option Reply) (k' : Keyboard) (byte : ℕ) → k'.reply ≡ r → is_reset_due r ≡ false
      → waiting k' ≡ byte ∷ waiting (without_offered r keys k')
      → (line (without_offered r keys k') ≡ line k') ⊎ (line k' ≡ byte ∷ line (without_offered r keys k'))
  went None k' byte e n w =
      inr (ap (λ v. reply_bytes v ++ line k') (sym e) ∙ w
      ∙ ap (λ v. byte ∷ (reply_bytes v ++ line (without_offered None keys k'))) e)
  went (Some r) k' byte e n w =
      inl (ap (λ c. line (if c then reset keys k' else record k' { reply = None })) n)

  sent_line : (byte : ℕ) → offer k ≡ Some byte → is_reset_due k.reply ≡ false
      → IsSubsequence (line k) (byte ∷ line (met kbd.Sent keys k))
  sent_line byte o n =
      let k' : Keyboard = record k { last = if byte == 0xfe then k.last else byte } in
      let s : met kbd.Sent keys k ≡ without_offered k.reply keys k' = ap (λ v. sent_byte v keys k) o in
      let w : waiting k ≡ byte ∷ waiting (without_offered k.reply keys k') =
      sent_leaves keys k byte o n ∙ ap (λ v. byte ∷ waiting v) s in
      subst (λ v. IsSubsequence (line k) (byte ∷ line v)) (sym s)
      (elim (went k.reply k' byte refl n w) [
        | inl e ↦ subsequence_before (byte ∷ []) (line k) (line (without_offered k.reply keys k'))
            (subst (λ v. IsSubsequence (line k) v) (sym e) (subsequence_self (line k)))
        | inr e ↦ subst (λ v. IsSubsequence (line k) v) e (subsequence_self (line k))
      ])

  -- by the meeting, and then the rest of the tick
  met_line : (meeting : Meeting) → ClearsNothing meeting k
      → ((byte : ℕ) → meeting ≡ Sent byte → offer k ≡ Some byte)
      → IsSubsequence (line k) (arrived meeting ++ line (met (met_as meeting) keys k))
  met_line (Got byte) c o =
      let g : GotKeeps keys byte true k = got_leaves keys byte true k in
      let q : (met (kbd.Got byte true) keys k).queue ≡ k.queue =
      g.queue ∙ ap (λ v. if v then clear k.queue else k.queue) c in
      let e : line (met (kbd.Got byte true) keys k) ≡ line k =
      ap (λ v. byte_if v 0xaa ++ queued (met (kbd.Got byte true) keys k).queue) g.aa_due
      ∙ ap (λ v. byte_if k.aa_due 0xaa ++ queued v) q in
      subst (λ v. IsSubsequence (line k) v) (sym e) (subsequence_self (line k))
  met_line Inhibited c o = subsequence_self (line k)
  met_line Idle c o = subsequence_self (line k)
  met_line (Sent byte) c o = sent_line byte (o byte refl) c
  met_line Cut c o = subsequence_self (line k)

  -- in a tick that clears nothing what waited after the reply arrives in its order, or waits still
  pub ticked_line : (meeting : Meeting) (edges : List TickEdge) → ClearsNothing meeting k
      → ((byte : ℕ) → meeting ≡ Sent byte → offer k ≡ Some byte)
      → IsSubsequence (line k) (arrived meeting ++ line (ticked keys (met_as meeting) edges k))
  ticked_line meeting edges c o =
      let m : Keyboard = met (met_as meeting) keys k in
      let after : Keyboard = ticked keys (met_as meeting) edges k in
      subsequence_among (arrived meeting ++ line after) (arrived meeting ++ line m) (line k) (met_line meeting c o)
      (holds_after (arrived meeting) (line m) (line after) (added m after (rest_adds keys (met_as meeting) edges k)))

-- over ticks in a row
pub line_in_order : (layout : KeyLayout) (history : KeyHistory) (starts : ℕ → ℕ) (n count : ℕ)
    → ((j : ℕ) → n ≤ j → j < count + n
    → ClearsNothing (meeting_at layout history starts j) (at_tick layout history starts j).keys.keyboard)
    → IsSubsequence (line (at_tick layout history starts n).keys.keyboard)
    (all_arrived layout history starts n count ++ line (at_tick layout history starts (count + n)).keys.keyboard)
line_in_order layout history starts n zero h =
    let w : List ℕ = line (at_tick layout history starts n).keys.keyboard in
    let z : n ≡ zero + n = omega arith in
    subst (λ v. IsSubsequence w (line (at_tick layout history starts v).keys.keyboard)) z (subsequence_self w)
line_in_order layout history starts n (suc count) h =
    let m : ℕ = count + n in
    let z : suc m ≡ suc count + n = omega arith in
    let w : Whole LayeredKeyboard = at_tick layout history starts m in
    let meeting : Meeting = meeting_at layout history starts m in
    let first : List ℕ = line (at_tick layout history starts n).keys.keyboard in
    let all : List ℕ = all_arrived layout history starts n count in
    let next : List ℕ = line (at_tick layout history starts (suc m)).keys.keyboard in
    let before : IsSubsequence first (all ++ line w.keys.keyboard) =
    line_in_order layout history starts n count (λ j l u. h j l (omega (arith, u))) in
    let step : IsSubsequence (line w.keys.keyboard) (arrived meeting ++ next) =
    ticked_line (keys_of layout) w.keys.keyboard meeting (layered (is_fn_place layout) (taken layout.debounce (tick_edges starts history.edges m) w.keys.switches) w.keys.layers)
    (h m (omega arith) (omega arith))
    (λ byte g. (arrives_as_offered layout history.host (4096 + starts m) byte w g).1) in
    let whole : IsSubsequence first (all ++ (arrived meeting ++ next)) =
    subsequence_among (all ++ (arrived meeting ++ next)) (all ++ line w.keys.keyboard) first before
    (holds_after all (line w.keys.keyboard) (arrived meeting ++ next) step) in
    let after : IsSubsequence first ((all ++ arrived meeting) ++ next) =
    subst (λ v. IsSubsequence first v) (sym (append_assoc all (arrived meeting) next)) whole in
    subst (λ v. IsSubsequence first ((all ++ arrived meeting) ++ line (at_tick layout history starts v).keys.keyboard)) z after
