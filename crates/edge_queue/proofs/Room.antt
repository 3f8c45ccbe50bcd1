-- There is room for the release of each key that is down.
use Rattle.std.proofs.Common.{◌≡◌, ◌≤◌, ◌<◌, ◌≢◌, ℕ, zero, suc, ◌+◌, Bool, true, false, not, List, [], ◌∷◌, length}
use Rattle.std.proofs.Common.{Ok, Err, get_or, set, refl, ap, ◌∙◌, arith, ◌==◌, length-append}
use Rattle.std.specs.Prelude.{nat_lt, if◌then◌else◌}
use Rattle.std.proofs.lemmas.Bool.Decides.{nat_tests}
use Rattle.std.proofs.lemmas.List.{get_or-set_same, get_or-set_other, length-set}
use Rattle.edge_queue.specs.Calls.{Call, after}
use Rattle.edge_queue.specs.Calls.Call.{Push, Take}
use Rattle.edge_queue.specs.Queue.{
  Queue,
  after_first,
  all_released,
  answer_of,
  due_at,
  edge_at,
  entered,
  is_down,
  is_full,
  is_repeated,
  pushed,
  released_to,
  time_of,
}
use Rattle.edge_queue.specs.declared.queue.Pushed.{Pushed}
use Rattle.edge_queue.specs.declared.refusal.NotQueued.TheVariants.{Repeated, Full}

-- how many keys are down
abbrev pub downs : List Bool → ℕ
downs [] = 0
downs (b ∷ bs) = (if b then 1 else 0) + downs bs

downs_few : (bs : List Bool) → downs bs ≤ length bs
downs_few [] = omega arith
downs_few (true ∷ bs) = let few = downs_few bs in omega (arith, few)
downs_few (false ∷ bs) = let few = downs_few bs in omega (arith, few)

-- one of them goes up
downs_less : (bs : List Bool) (p : ℕ) → get_or bs p false ≡ true → downs (set bs p false) + 1 ≡ downs bs
downs_less [] p h = absurd (cc)
downs_less (true ∷ bs) zero h = omega arith
downs_less (false ∷ bs) zero h = absurd (cc)
downs_less (b ∷ bs) (suc p) h = let less = downs_less bs p h in omega (arith, less)

-- the edges that wait, and a release of each key that is down, are 160 at most
pub record Fits (q : Queue) : Type 0 where
  pub room : length q.waiting + downs q.down ≤ 160
  pub long : length q.down ≡ 96

-- a key that is not up is down
is_on : (b : Bool) → not b ≡ false → b ≡ true
is_on true h = refl
is_on false h = absurd (cc)

entered_fits : (stamp place : ℕ) (down : Bool) (q : Queue) → Fits q → is_repeated (edge_at stamp place down) q ≡ false
    → is_full down q ≡ false → Fits (entered (edge_at stamp place down) q)
entered_fits stamp place true q f new room =
    let more = length-append q.waiting (edge_at stamp place true ∷ []) in
    let long = f.long in
    let same = length-set q.down place true in
    let few = downs_few (set q.down place true) in
    let least : length q.waiting < 64 = grind (arith, nat_tests, room) in
    record { room = omega (arith, more, few, same, long, least); long = same ∙ long }
entered_fits stamp place false q f new room =
    let more = length-append q.waiting (edge_at stamp place false ∷ []) in
    let less = downs_less q.down place (is_on (is_down q place) new) in
    let old = f.room in
    record { room = omega (arith, more, less, old); long = length-set q.down place false ∙ f.long }

-- after an edge is pushed there is still room for the release of each key that is down
pub pushed_fits : (e : Pushed) (q : Queue) → Fits q → Fits (pushed e q)
pushed_fits e q f =
    elim (is_repeated e q) as (λ b. is_repeated e q ≡ b
    → Fits (if b then q else if is_full e.down q then q else entered e q)) [
      | true ↦ λ h. f
      | false ↦ λ h. elim (is_full e.down q) as (λ b. is_full e.down q ≡ b → Fits (if b then q else entered e q)) [
        | true ↦ λ g. f
        | false ↦ λ g. entered_fits e.stamp e.place e.down q f h g
      ] refl
    ] refl

module _ (debounce : Bool) where
  take_fits : (now : ℕ) (waiting : List Pushed) (down : List Bool) (ready : ℕ)
      → Fits (record { waiting = waiting; down = down; ready = ready })
      → Fits (after_first debounce now waiting (record { waiting = waiting; down = down; ready = ready }))
  take_fits now [] down ready f = f
  take_fits now (e ∷ es) down ready f =
      let q : Queue = record { waiting = e ∷ es; down = down; ready = ready } in
      let next : Queue = record { waiting = es; down = down; ready = now + time_of debounce e.down } in
      let old = f.room in
      elim (nat_lt now (due_at ready e.stamp)) as (λ b. Fits (if b then q else next)) [
        | true ↦ f
        | false ↦ record { room = omega (arith, old); long = f.long }
      ]

  -- after all calls there is still room for the release of each key that is down
  pub after_fits : (calls : List Call) (q : Queue) → Fits q → Fits (after debounce calls q)
  after_fits [] q f = f
  after_fits (Push e ∷ cs) q f = after_fits cs (pushed e q) (pushed_fits e q f)
  after_fits (Take now ∷ cs) q f = after_fits cs _ (take_fits now q.waiting q.down q.ready f)

downs_some : (bs : List Bool) (p : ℕ) → get_or bs p false ≡ true → 1 ≤ downs bs
downs_some bs p h = let less = downs_less bs p h in omega (arith, less)

-- while a key is down, there is room for its release
pub has_room : (p : ℕ) (q : Queue) → Fits q → is_down q p ≡ true → is_full false q ≡ false
has_room p q f h =
    let some = downs_some q.down p h in
    let room = f.room in
    let least : length q.waiting < 160 = omega (arith, some, room) in
    grind (arith, nat_tests, least)

-- the release of a key that is down is let in
pub release_fits : (stamp p : ℕ) (q : Queue) → Fits q → is_down q p ≡ true → answer_of (edge_at stamp p false) q ≡ Ok tt
release_fits stamp p q f h =
    ap (λ b. if not b then Err Repeated else if is_full false q then Err Full else Ok tt) h
    ∙ ap (λ b. if b then Err Full else Ok tt) (has_room p q f h)

-- a released key is up, and one that was up stays so
record Up (n : ℕ) (q : Queue) : Type 0 where
  fits : Fits q
  up : (p : ℕ) → p < n → is_down q p ≡ false

release_up : (stamp n : ℕ) (q : Queue) → n < 96 → Up n q → Up (suc n) (pushed (edge_at stamp n false) q)
release_up stamp n q l u =
    let e : Pushed = edge_at stamp n false in
    let long = u.fits.long in
    elim (is_down q n) as (λ b. is_down q n ≡ b → Up (suc n) (if not b then q else if is_full false q then q else entered e q)) [
      | false ↦ λ h. record {
        fits = u.fits;
        up = λ p less. elim (p == n) as (λ c. (p == n) ≡ c → is_down q p ≡ false) [
          | true ↦ λ g. let same : p ≡ n = grind (arith, nat_tests, g) in ap (is_down q) same ∙ h
          | false ↦ λ g. u.up p (grind (arith, nat_tests, g, less))
        ] refl;
      }
      | true ↦ λ h. elim (is_full false q) as (λ b. is_full false q ≡ b → Up (suc n) (if b then q else entered e q)) [
        | true ↦ λ g. let room = has_room n q u.fits h in absurd (cc)
        | false ↦ λ g. record {
          fits = entered_fits stamp n false q u.fits (ap not h) g;
          up = λ p less. elim (p == n) as (λ c. (p == n) ≡ c → get_or (set q.down n false) p false ≡ false) [
            | true ↦ λ i.
                let same : p ≡ n = grind (arith, nat_tests, i) in
                let within : n < length q.down = omega (arith, long, l) in
                ap (λ k. get_or (set q.down n false) k false) same ∙ get_or-set_same q.down n false false within
            | false ↦ λ i.
                let apart : p ≢ n = grind (arith, nat_tests, i) in
                get_or-set_other q.down n p false false apart ∙ u.up p (grind (arith, nat_tests, i, less))
          ] refl;
        }
      ] refl
    ] refl

released_up : (stamp n : ℕ) (q : Queue) → n ≤ 96 → Fits q → Up n (released_to n stamp q)
released_up stamp zero q l f = record { fits = f; up = λ p less. absurd (omega (arith, less)) }
released_up stamp (suc n) q l f =
    release_up stamp n (released_to n stamp q) (omega (arith, l)) (released_up stamp n q (omega (arith, l)) f)

-- after all keys were released no key is down
pub all_up_then : (stamp p : ℕ) (q : Queue) → p < 96 → Fits q → is_down (all_released stamp q) p ≡ false
unfolding all_released
all_up_then stamp p q l f = (released_up stamp 96 q (omega arith) f).up p l

-- all places were released
pub all_done : (stamp n : ℕ) (q : Queue) → n ≡ 96 → released_to n stamp q ≡ all_released stamp q
unfolding all_released
all_done stamp n q is = ap (λ k. released_to k stamp q) is
