-- The edges that the columns show the model's keyboard, and those of them that it takes: four at most, and of the layout.
use Rattle.std.proofs.Common.{◌≡◌, ◌≤◌, ◌<◌, ℕ, suc, zero, not, ◌==◌, Bool, true, false, if◌then◌else◌}
use Rattle.std.proofs.Common.{List, [], ◌∷◌, All, length, slice_index_or, refl, ap, sym, ◌∙◌, subst, arith}
use Rattle.fw_compile.proofs.Kernel.{debounce_read}
use Rattle.fw_compile.specs.Image.{image_of}
use Rattle.law_fw_keys.specs.State.{flags, debounces}
use Rattle.layout_reader.specs.Layouts.{KeyLayout, IsKeyLayout, HasEntry}
use Rattle.model_link.proofs.Taken.{AreWide, differ, settles_read, shown_fewer, turned_shown, unsettled}
use Rattle.model_link.specs.Debounce.{Switches, is_down_at, settles, turned_all, taken, switched, AreKnown}
use Rattle.model_link.specs.Expected.{Whole}
use Rattle.model_link.specs.Machine.{LayeredKeyboard}
use Rattle.model_link.specs.TickEdges.{shown}
use Rattle.law_agreement.proofs.Placed.{IsOfLayout, shown_placed}

-- by what the columns show now
abbrev pub sees : Whole LayeredKeyboard → (ℕ → Bool) → List (ℕ × Bool)
sees m now = shown (is_down_at m.keys.switches.read) now

abbrev pub takes : KeyLayout → Whole LayeredKeyboard → (ℕ → Bool) → List (ℕ × Bool)
takes layout m now = taken layout.debounce (sees m now) m.keys.switches

-- the image debounces keys if the layout says so
pub is_debounced : (layout : KeyLayout) → debounces (image_of layout) ≡ layout.debounce
is_debounced layout = ap (λ v. not (v == 0)) (debounce_read layout) ∙ by layout.debounce
  where
    by : (b : Bool) → not ((if b then 1 else 0) == 0) ≡ b
    by true = refl
    by false = refl

-- keys by place, of a list that says the same
pub flags_are : (g : ℕ → Bool) (n : ℕ) (keys : List Bool) → length keys ≡ n
    → ((p : ℕ) → p < n → g p ≡ slice_index_or keys p false) → flags g n ≡ keys
flags_are g zero [] long same = refl
flags_are g zero (k ∷ ks) long same = absurd cc
flags_are g (suc n) [] long same = absurd cc
flags_are g (suc n) (k ∷ ks) long same =
    let rest : length ks ≡ n = cc in
    ap (λ v. v ∷ flags (λ i. g (suc i)) n) (same 0 (omega arith))
    ∙ ap (λ v. k ∷ v) (flags_are (λ i. g (suc i)) n ks rest (λ p l. same (suc p) (omega (arith, l))))

-- few keys wait to settle, so few settle
pub takes_few : (debounce : Bool) (now : ℕ → Bool) (s : Switches) → length (shown (is_down_at s.read) now) ≤ 4
    → (debounce ≡ true → length (shown (is_down_at s.settled) (is_down_at s.read)) ≤ 4)
    → length (taken debounce (shown (is_down_at s.read) now) s) ≤ 4
takes_few false now s four waits = four
takes_few true now s four waits =
    let less =
    shown_fewer (is_down_at s.settled)
    (λ p. settles (is_down_at s.settled p) (is_down_at s.read p)
    (is_down_at (turned_all (shown (is_down_at s.read) now) s.read) p))
    (is_down_at s.settled) (is_down_at s.read)
    (λ p l h. settles_read (is_down_at s.settled p) (is_down_at s.read p)
    (is_down_at (turned_all (shown (is_down_at s.read) now) s.read) p) h) in
    let most : length (shown (is_down_at s.settled) (is_down_at s.read)) ≤ 4 = waits refl in
    omega (arith, less, most)

-- and few wait after it
waits_few : (now : ℕ → Bool) (s : Switches) → AreWide s → length (shown (is_down_at s.read) now) ≤ 4
    → length (shown (is_down_at (switched true (shown (is_down_at s.read) now) s).settled)
    (is_down_at (switched true (shown (is_down_at s.read) now) s).read)) ≤ 4
waits_few now s wide four =
    let es : List (ℕ × Bool) = shown (is_down_at s.read) now in
    let settled_to : ℕ → Bool =
    λ p. settles (is_down_at s.settled p) (is_down_at s.read p) (is_down_at (turned_all es s.read) p) in
    let less =
    shown_fewer (is_down_at (turned_all (shown (is_down_at s.settled) settled_to) s.settled)) (is_down_at (turned_all es s.read))
    (is_down_at s.read) now
    (λ p l h.
    let settled = turned_shown s.settled settled_to p wide.settled l in
    let read = turned_shown s.read now p wide.read l in
    subst (λ v. differ (is_down_at s.read p) v ≡ true) read
    (unsettled (is_down_at s.settled p) (is_down_at s.read p) (is_down_at (turned_all es s.read) p)
    (sym (ap (λ v. differ v (is_down_at (turned_all es s.read) p)) settled) ∙ h))) in
    omega (arith, less, four)

-- with a debounce, few keys wait to settle
abbrev pub HasFewWaiting : KeyLayout → LayeredKeyboard → Type 0
HasFewWaiting layout k =
    layout.debounce ≡ true → length (shown (is_down_at k.switches.settled) (is_down_at k.switches.read)) ≤ 4

-- if a reading shows four changes at most, at most four keys wait to settle after it
pub few_wait : (debounce : Bool) (now : ℕ → Bool) (s : Switches) → AreWide s → length (shown (is_down_at s.read) now) ≤ 4
    → debounce ≡ true
    → length (shown (is_down_at (switched debounce (shown (is_down_at s.read) now) s).settled)
    (is_down_at (switched debounce (shown (is_down_at s.read) now) s).read)) ≤ 4
few_wait true now s wide four on = waits_few now s wide four
few_wait false now s wide four on = absurd cc

-- what settles is of the layout, where what is down is
pub takes_placed : (layout : KeyLayout) → IsKeyLayout layout → (debounce : Bool) (now : ℕ → Bool) (s : Switches) → AreWide s
    → AreKnown layout s → ((p : ℕ) → p < 96 → now p ≡ true → HasEntry layout p)
    → All (IsOfLayout layout) (taken debounce (shown (is_down_at s.read) now) s)
takes_placed layout fine false now s wide known is =
    shown_placed layout fine (is_down_at s.read) now (λ p l. (known p l).0) is
takes_placed layout fine true now s wide known is =
    let es : List (ℕ × Bool) = shown (is_down_at s.read) now in
    shown_placed layout fine (is_down_at s.settled)
    (λ p. settles (is_down_at s.settled p) (is_down_at s.read p) (is_down_at (turned_all es s.read) p))
    (λ p l. (known p l).1)
    (λ p l h. by p (is_down_at s.settled p) (is_down_at s.read p) (is_down_at (turned_all es s.read) p) h (known p l).1
    (λ down. is p l (sym (turned_shown s.read now p wide.read l) ∙ down)))
  where
    by : (p : ℕ) (was before now : Bool) → settles was before now ≡ true → (was ≡ true → HasEntry layout p)
        → (now ≡ true → HasEntry layout p) → HasEntry layout p
    by p was true true h f g = g refl
    by p was false false h f g = absurd cc
    by p was true false h f g = f h
    by p was false true h f g = f h
