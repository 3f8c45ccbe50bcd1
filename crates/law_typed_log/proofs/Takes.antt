-- The takes of strokes: each is done in the first cycle of its tick's second half, and nothing else is.
use Rattle.std.proofs.Common.{◌≡◌, ℕ, suc, zero, ◌+◌, ◌≤◌, ◌<◌, List, [], ◌∷◌, ◌++◌, length, Bool}
use Rattle.std.proofs.Common.{true, false, Some, None, refl, ap, sym, ◌∙◌, arith}
use Rattle.std.specs.Prelude.{if◌then◌else◌, nat_le, slice_get}
use Rattle.std.specs.declared.option.Option.{Option}
use Rattle.std.proofs.lemmas.Bool.Decides.{nat_tests}
use Rattle.pc_tables.specs.declared.item.Item.{Item}
use Rattle.pc_tables.specs.declared.item.Item.TheVariants.{Taken}
use Rattle.int09.specs.Bios.{first_word, without_first}
use Rattle.board_terms.specs.declared.event.HostEvent.{HostEvent}
use Rattle.law_quiet_log.proofs.Calm.{Pc, after_event, items_now, pc_after, items_in, bios_by, items_by}
use Rattle.law_typed_log.specs.Typing.{Stroke, stroke_start, take_of, takes_from}

-- the PC's side once a word is taken, and what is said of it
abbrev pub took : Pc → Pc
took q = record { mark = q.mark; out = q.out; bios = without_first q.bios; done = q.done + 1 }

abbrev pub taken_if : Bool → Pc → Pc
taken_if true q = took q
taken_if false q = q

abbrev pub said_if : Bool → Pc → List Item
said_if true q = Taken (first_word q.bios) ∷ []
said_if false q = []

-- an event that isn't due does nothing
waits_now : (now : ℕ) (o : Option HostEvent) (q : Pc) → ((e : HostEvent) → o ≡ Some e → now < e.stamp + 4096)
    → after_event now o q ≡ q
waits_now now None q h = refl
waits_now now (Some e) q h =
    let l : now < e.stamp + 4096 = h e refl in
    let k : nat_le (e.stamp + 4096) now ≡ false = grind (arith, nat_tests, l) in
    ap (λ b. record {
      mark = q.mark;
      out = q.out;
      bios = if b then bios_by e.act q.bios else q.bios;
      done = if b then q.done + 1 else q.done;
    }) k

silent_now : (now : ℕ) (o : Option HostEvent) (q : Pc) → ((e : HostEvent) → o ≡ Some e → now < e.stamp + 4096)
    → items_now now o q ≡ []
silent_now now None q h = refl
silent_now now (Some e) q h =
    let l : now < e.stamp + 4096 = h e refl in
    let k : nat_le (e.stamp + 4096) now ≡ false = grind (arith, nat_tests, l) in
    ap (λ b. if b then items_by e.act q else []) k

module _ (events : List HostEvent) where
  -- the next event isn't due before a cycle
  abbrev pub IsUndueTo : ℕ → ℕ → Type 0
  IsUndueTo done stop = (e : HostEvent) → slice_get events done ≡ Some e → stop ≤ e.stamp + 4096

  -- cycles in which no event is due change nothing of the PC's side
  pub undue : (n now stop : ℕ) (q : Pc) → n + now ≡ stop → IsUndueTo q.done stop → pc_after events n now q ≡ q
  undue zero now stop q z u = refl
  undue (suc n) now stop q z u =
      ap (λ v. pc_after events n (suc now) v)
      (waits_now now (slice_get events q.done) q (λ e g. omega (arith, z, u e g)))
      ∙ undue n (suc now) stop q (omega (arith, z)) u

  -- in cycles in which no event is due nothing is said
  pub undue_silent : (n now stop : ℕ) (q : Pc) → n + now ≡ stop → IsUndueTo q.done stop → items_in events n now q ≡ []
  undue_silent zero now stop q z u = refl
  undue_silent (suc n) now stop q z u =
      let w : (e : HostEvent) → slice_get events q.done ≡ Some e
      → now < e.stamp + 4096 = λ e g. omega (arith, z, u e g) in
      ap (λ v. v ++ items_in events n (suc now) (after_event now (slice_get events q.done) q))
      (silent_now now (slice_get events q.done) q w)
      ∙ ap (λ v. items_in events n (suc now) v) (waits_now now (slice_get events q.done) q w)
      ∙ undue_silent n (suc now) stop q (omega (arith, z)) u

  -- a take that is due, and nothing after it
  takes_now : (now t : ℕ) (o : Option HostEvent) (q : Pc) → o ≡ Some (take_of t) → t + 18432 ≡ now
      → after_event now o q ≡ took q
  takes_now now t o q is at =
      let k : nat_le (t + 14336 + 4096) now ≡ true = grind (arith, nat_tests, at) in
      ap (λ v. after_event now v q) is
      ∙ ap (λ b. record {
        mark = q.mark;
        out = q.out;
        bios = if b then without_first q.bios else q.bios;
        done = if b then q.done + 1 else q.done;
      }) k

  says_now : (now t : ℕ) (o : Option HostEvent) (q : Pc) → o ≡ Some (take_of t) → t + 18432 ≡ now
      → items_now now o q ≡ Taken (first_word q.bios) ∷ []
  says_now now t o q is at =
      let k : nat_le (t + 14336 + 4096) now ≡ true = grind (arith, nat_tests, at) in
      ap (λ v. items_now now v q) is ∙ ap (λ b. if b then Taken (first_word q.bios) ∷ [] else []) k

  -- in the cycle in which a take is due a word is taken
  pub taken : (n now stop t : ℕ) (q : Pc) → suc n + now ≡ stop → slice_get events q.done ≡ Some (take_of t)
      → t + 18432 ≡ now → IsUndueTo (q.done + 1) stop → pc_after events (suc n) now q ≡ took q
  taken n now stop t q z is at u =
      ap (λ v. pc_after events n (suc now) v) (takes_now now t (slice_get events q.done) q is at)
      ∙ undue n (suc now) stop (took q) (omega (arith, z)) u

  -- in the cycle in which a take is due the word that is taken is said
  pub taken_says : (n now stop t : ℕ) (q : Pc) → suc n + now ≡ stop → slice_get events q.done ≡ Some (take_of t)
      → t + 18432 ≡ now → IsUndueTo (q.done + 1) stop → items_in events (suc n) now q ≡ Taken (first_word q.bios) ∷ []
  taken_says n now stop t q z is at u =
      ap (λ v. items_now now (slice_get events q.done) q ++ items_in events n (suc now) v)
      (takes_now now t (slice_get events q.done) q is at)
      ∙ ap (λ v. v ++ items_in events n (suc now) (took q)) (says_now now t (slice_get events q.done) q is at)
      ∙ ap (λ v. Taken (first_word q.bios) ∷ v) (undue_silent n (suc now) stop (took q) (omega (arith, z)) u)

-- the takes by their numbers
pub take_at : (k i : ℕ) (ss : List Stroke) → i < length ss → slice_get (takes_from k ss) i
    ≡ Some (take_of (stroke_start (i + k)))
take_at k i [] l = absurd (omega (arith, l))
take_at k zero (s ∷ ss) l = let z : k ≡ 0 + k = omega arith in ap (λ n. Some (take_of (stroke_start n))) z
take_at k (suc i) (s ∷ ss) l =
    let z : i + suc k ≡ suc i + k = omega arith in
    take_at (suc k) i ss (omega (arith, l)) ∙ ap (λ n. Some (take_of (stroke_start n))) z

-- each take of a text's strokes comes 14,336 cycles after the start of its stroke
pub take_only : (k i : ℕ) (ss : List Stroke) (e : HostEvent) → slice_get (takes_from k ss) i ≡ Some e
    → e.stamp ≡ stroke_start (i + k) + 14336
take_only k i [] e h = absurd cc
take_only k zero (s ∷ ss) e h =
    let z : take_of (stroke_start k) ≡ e = cc in
    let w : e.stamp ≡ stroke_start k + 14336 = ap (λ (v : HostEvent). v.stamp) (sym z) in
    omega (arith, w)
take_only k (suc i) (s ∷ ss) e h = omega (arith, take_only (suc k) i ss e h)
