-- The next event of a quiet history is never overdue, and never due in the first half of a tick.
use Rattle.std.proofs.Common.{◌≡◌, ℕ, suc, zero, ◌+◌, ◌*◌, ◌≤◌, ◌<◌, List, [], ◌∷◌, true}
use Rattle.std.proofs.Common.{false, Some, None, refl, ap, sym, ◌∙◌, subst, arith}
use Rattle.std.specs.Prelude.{if◌then◌else◌, nat_le, slice_get, All}
use Rattle.std.specs.declared.option.Option.{Option}
use Rattle.std.proofs.lemmas.Bool.Decides.{nat_tests}
use Rattle.std.proofs.lemmas.Option.{slice_get_within, get_or_from_slice_get}
use Rattle.ctl_core.specs.Translation.{translation}
use Rattle.board_terms.specs.declared.event.HostEvent.{HostEvent}
use Rattle.host_turn.specs.Rest.{is_due}
use Rattle.model_controller.specs.declared.meeting.Meeting.{Meeting}
use Rattle.model_controller.specs.declared.meeting.Meeting.TheVariants.{Got, Inhibited, Idle, Sent, Cut}
use Rattle.key_file.specs.Histories.{KeyHistory}
use Rattle.law_quiet_log.specs.Quiet.{IsQuiet, IsQuietAct, IsLate, AreRising}
use Rattle.law_quiet_log.proofs.Calm.{Pc, after_event, pc_after, marked, read_of, met_by}
use Rattle.law_quiet_log.proofs.Undue.{IsUndue}
use Rattle.law_quiet_log.proofs.Acting.{IsQuietNext}

-- what holds of all holds of each
all_at : {X : Type 0} (P : X → Type 0) (xs : List X) (i : ℕ) (x : X) → All P xs → slice_get xs i ≡ Some x → P x
all_at P xs i x all e = subst (λ v. P v) (get_or_from_slice_get xs i x x e) (all i x (slice_get_within xs i x e))

-- an event is later than the one before it
rising_at : (es : List HostEvent) (i : ℕ) (e f : HostEvent) → AreRising es → slice_get es i ≡ Some e
    → slice_get es (suc i) ≡ Some f → e.stamp < f.stamp
rising_at [] i e f r a b = absurd cc
rising_at (x ∷ []) i e f r a b = absurd cc
rising_at (x ∷ y ∷ es) zero e f r a b =
    let s : x ≡ e = cc in
    let t : y ≡ f = cc in
    subst (λ (v : HostEvent). v.stamp < f.stamp) s (subst (λ (v : HostEvent). x.stamp < v.stamp) t r.0)
rising_at (x ∷ y ∷ es) (suc i) e f r a b = rising_at (y ∷ es) i e f r.1 a b

-- the next event isn't before a cycle
abbrev pub IsAhead : List HostEvent → ℕ → Pc → Type 0
IsAhead events y q = (e : HostEvent) → slice_get events q.done ≡ Some e → y ≤ e.stamp + 4096

-- before it, it isn't due
next_by : (o : Option HostEvent) (y bound : ℕ) → ((e : HostEvent) → o ≡ Some e → bound ≤ e.stamp + 4096) → y < bound
    → is_due y o ≡ false
next_by None y bound g l = refl
next_by (Some e) y bound g l =
    let b : bound ≤ e.stamp + 4096 = g e refl in
    let k : y < e.stamp + 4096 = omega (arith, b, l) in
    grind (arith, nat_tests, k)

-- it is a quiet one
next_quiet : (o : Option HostEvent) → ((e : HostEvent) → o ≡ Some e → IsQuietAct e.act) → IsQuietNext o
next_quiet None g = tt
next_quiet (Some e) g = g e refl

-- a meeting does no event
read_done : (o : Option ℕ) (q : Pc) → (read_of o q).done ≡ q.done
read_done None q = refl
read_done (Some code) q = refl

met_done : (m : Meeting) (q : Pc) → (met_by m q).done ≡ q.done
met_done (Got byte) q = refl
met_done Inhibited q = refl
met_done Idle q = refl
met_done (Sent byte) q = let t = translation true q.mark byte in read_done t.byte (marked t.mark q)
met_done Cut q = refl

-- so whatever is met, the next event is as far ahead
pub ahead_met : (events : List HostEvent) (m : Meeting) (y : ℕ) (q : Pc) → IsAhead events y q
    → IsAhead events y (met_by m q)
ahead_met events m y q a = λ e g. a e (ap (λ d. slice_get events d) (sym (met_done m q)) ∙ g)

module _ (h : KeyHistory) (quiet : IsQuiet h) where
  -- each event is in the second half of a tick
  late_at : (i : ℕ) (e : HostEvent) → slice_get h.host i ≡ Some e → IsLate e.stamp
  late_at i e g = all_at (λ (v : HostEvent). IsLate v.stamp) h.host i e quiet.host_late g

  -- in the first half of a tick nothing is due
  pub nothing_due : (n : ℕ) (q : Pc) → IsAhead h.host (4096 + 2048 * n) q → (now k : ℕ) → now + k ≤ 5120 + 2048 * n
      → IsUndue h.host q now k
  nothing_due n q a now k e y l u =
      next_by (slice_get h.host q.done) y (5120 + 2048 * n)
      (λ v g.
      let b : 4096 + 2048 * n ≤ v.stamp + 4096 = a v g in
      let r : IsLate v.stamp = late_at q.done v g in
      omega (arith, b, r))
      (omega (arith, e, l, u))

  -- each event is a quiet one
  pub quiet_next : (i : ℕ) → IsQuietNext (slice_get h.host i)
  quiet_next i =
      next_quiet (slice_get h.host i) (λ e g. all_at (λ (v : HostEvent). IsQuietAct v.act) h.host i e quiet.acts g)

  -- each event is done at its stamp
  ahead_by : (y : ℕ) (o : Option HostEvent) (q : Pc) → slice_get h.host q.done ≡ o
      → ((e : HostEvent) → o ≡ Some e → y ≤ e.stamp + 4096) → IsAhead h.host (suc y) (after_event y o q)
  ahead_by y None q is a = λ e g. absurd (cc (is, g))
  ahead_by y (Some v) q is a =
      elim (nat_le (v.stamp + 4096) y) as (λ c. nat_le (v.stamp + 4096) y ≡ c → (e : HostEvent)
      → slice_get h.host (if c then q.done + 1 else q.done) ≡ Some e → suc y ≤ e.stamp + 4096) [
        | true ↦ λ g e k.
            let z : q.done + 1 ≡ suc q.done = omega arith in
            let k' : slice_get h.host (suc q.done) ≡ Some e = ap (λ i. slice_get h.host i) (sym z) ∙ k in
            let b : y ≤ v.stamp + 4096 = a v refl in
            let r : v.stamp < e.stamp = rising_at h.host q.done v e quiet.rising is k' in
            omega (arith, b, r)
        | false ↦ λ g e k.
            let s : v ≡ e = cc (is, k) in
            let r : y < v.stamp + 4096 = grind (arith, nat_tests, g) in
            subst (λ (x : HostEvent). suc y ≤ x.stamp + 4096) s (omega (arith, r))
      ] refl

  -- so after so many cycles the next event isn't before the last of them
  ahead_span : (n y last : ℕ) (q : Pc) → n + y ≡ last → IsAhead h.host y q
      → IsAhead h.host last (pc_after h.host n y q)
  ahead_span zero y last q z a = let k : y ≡ last = omega (arith, z) in subst (λ v. IsAhead h.host v q) k a
  ahead_span (suc n) y last q z a =
      ahead_span n (suc y) last (after_event y (slice_get h.host q.done) q) (omega (arith, z))
      (ahead_by y (slice_get h.host q.done) q refl a)

  -- so it is from tick to tick
  pub ahead_next : (n : ℕ) (q : Pc) → IsAhead h.host (4096 + 2048 * n) q
      → IsAhead h.host (4096 + 2048 * suc n) (pc_after h.host 1024 (5120 + 2048 * n) q)
  ahead_next n q a =
      ahead_span 1024 (5120 + 2048 * n) (4096 + 2048 * suc n) q (omega arith)
      (λ e g.
      let b : 4096 + 2048 * n ≤ e.stamp + 4096 = a e g in
      let r : IsLate e.stamp = late_at q.done e g in
      omega (arith, b, r))
