-- The model at rest between two strokes, and the ticks of a stroke.
use Rattle.std.proofs.Common.{◌≡◌, ℕ, suc, ◌+◌, ◌*◌, ◌<◌, ◌≢◌, Bool, true, false, ◌==◌, List, []}
use Rattle.std.proofs.Common.{◌∷◌, append-nil, Some, None, refl, ap, ◌∙◌, subst, arith}
use Rattle.std.specs.Prelude.{slice_get}
use Rattle.std.specs.List.{filter}
use Rattle.std.specs.declared.option.Option.{Option}
use Rattle.std.proofs.lemmas.Bool.Decides.{nat_tests}
use Rattle.int09.specs.Bios.{State, start}
use Rattle.board_terms.specs.declared.event.Edge.{Edge}
use Rattle.board_terms.specs.Matrix.{all_up}
use Rattle.layout_reader.specs.Layouts.{KeyLayout}
use Rattle.model_keyboard.specs.declared.state.Repeat.{Repeat}
use Rattle.model_keyboard.specs.Codes.{keys_of}
use Rattle.key_file.specs.Histories.{KeyHistory}
use Rattle.model_link.specs.Machine.{keyboard}
use Rattle.model_link.specs.TickEdges.{tick_edges, change_of, is_seen}
use Rattle.law_quiet_log.specs.Quiet.{even}
use Rattle.law_quiet_log.proofs.Calm.{Pc}
use Rattle.law_typed_log.specs.Typing.{Stroke, stroke_start, edges_from, takes_from}
use Rattle.law_typed_log.proofs.Struck.{AllFit}
use Rattle.law_typed_log.proofs.TickOf.{sees_none, sees_one}
use Rattle.law_typed_log.proofs.InTicks.{seen_by, seen_at, seen_before}
use Rattle.law_typed_log.proofs.Steps.{Reached}
use Rattle.law_typed_log.proofs.Keying.{later, IsLong}
use Rattle.law_typed_log.proofs.Settling.{takes_nothing}
use Rattle.law_typed_log.proofs.Turns.{Line, at_work, nothing, no_edges, turn_by}

abbrev pub line : ℕ → List ℕ → Bool → Bool → ℕ → State → ℕ → Line
line last bytes started mark out bios done = record {
  last = last;
  bytes = bytes;
  started = started;
  pc = record { mark = mark; out = out; bios = bios; done = done };
}

-- a count that isn't at its last tick
pub not_one : (d : ℕ) → 1 < d → (d == 1) ≡ false
not_one d l = grind (arith, nat_tests, l)

module _ (layout : KeyLayout) (h : KeyHistory) (ss : List Stroke) (edges : h.edges ≡ edges_from 0 ss)
    (host : h.host ≡ takes_from 0 ss) (fit : AllFit layout.entries ss) where
  abbrev pub At : ℕ → Line → Option Repeat → List Bool → List (Option ℕ) → Type 0
  At n l rep held words = Reached (keyboard layout) h ss host n (at_work [] layout.rate l rep held) words

  -- with a debounce: these edges were read, and aren't taken yet
  abbrev pub Pends : List (ℕ × Bool) → ℕ → Line → Option Repeat → List Bool → List (Option ℕ) → Type 0
  Pends next n l rep held words = Reached (keyboard layout) h ss host n (at_work next layout.rate l rep held) words

  -- before a stroke: nothing waits, nothing repeats, no key is down, INT 09h is as at its start
  pub record Rest (m : ℕ) (words : List (Option ℕ)) : Type 0 where
    pub last : ℕ
    pub out : ℕ
    pub is : At (80 + 10 * m) (line last [] false false out start m) None all_up words

  -- a tick in which nothing comes
  pub idle : (n last out done : ℕ) (bios : State) (rep : Option Repeat) (held : List Bool) (words : List (Option ℕ))
      → At n (line last [] false false out bios done) rep held words → tick_edges even h.edges n ≡ [] → IsLong rep
      → n < 86 + 10 * done → At (suc n) (line last [] false false out bios done) (later rep) held words
  idle n last out done bios rep held words r sees long l =
      let q : Pc = record { mark = false; out = out; bios = bios; done = done } in
      turn_by layout h ss host n (line last [] false false out bios done) (line last [] false false out bios done)
      words [] [] [] [] []
      rep (later rep) held held [] r sees (takes_nothing layout.debounce held) long (nothing (keys_of layout) layout.rate last false q)
      (no_edges layout [] (later rep) held) l tt words (append-nil words)

  -- before the first stroke
  pub none_before_first : (n : ℕ) → n < 80 → tick_edges even h.edges n ≡ []
  none_before_first n l =
      sees_none h.edges n
      (ap (λ v. filter (is_seen even n) v) edges ∙ seen_before layout.entries n 0 ss fit (omega (arith, l)))

  -- the edges of the ticks of a stroke
  module _ (m : ℕ) (s : Stroke) (is : slice_get ss m ≡ Some s) where
    tests_are : (n j o : ℕ) → n ≡ j + (80 + 10 * m) → (n == suc (79 + 10 * m + o)) ≡ (j == o)
    tests_are n j o z =
        elim (j == o) as (λ b. (j == o) ≡ b → (n == suc (79 + 10 * m + o)) ≡ b) [
          | true ↦ λ g.
              let k : j ≡ o = grind (arith, nat_tests, g) in
              let e : n ≡ suc (79 + 10 * m + o) = omega (arith, z, k) in
              grind (arith, nat_tests, e)
          | false ↦ λ g.
              let k : j ≢ o = grind (arith, nat_tests, g) in
              let e : n ≢ suc (79 + 10 * m + o) = omega (arith, z, k) in
              grind (arith, nat_tests, e)
        ] refl

    seen_then : (n j : ℕ) → n ≡ j + (80 + 10 * m) → j < 10
        → filter (is_seen even n) h.edges ≡ seen_by (λ o. j == o) (stroke_start m) s
    seen_then n j z l =
        ap (λ v. filter (is_seen even n) v) edges
        ∙ seen_at layout.entries n 0 m m ss s (λ o. j == o) fit (omega arith) is (omega (arith, z))
        (omega (arith, z, l))
        (λ o u. tests_are n j o z)

    -- a tick of a stroke sees nothing, if no edge of the stroke is in it
    pub none_then : (n j : ℕ) → n ≡ j + (80 + 10 * m) → j < 10 → seen_by (λ o. j == o) (stroke_start m) s ≡ []
        → tick_edges even h.edges n ≡ []
    none_then n j z l empty = sees_none h.edges n (seen_then n j z l ∙ empty)

    -- a tick of a stroke sees the one edge of the stroke that is in it
    pub one_then : (n j : ℕ) (e : Edge) → n ≡ j + (80 + 10 * m) → j < 10 → e.place < 96
        → seen_by (λ o. j == o) (stroke_start m) s ≡ e ∷ [] → tick_edges even h.edges n ≡ change_of e ∷ []
    one_then n j e z l p one = sees_one h.edges n e p (seen_then n j z l ∙ one)

  -- after ten ticks at rest again
  pub rests : (n m last out : ℕ) (words : List (Option ℕ)) → n ≡ 80 + 10 * suc m
      → At n (line last [] false false out start (m + 1)) None all_up words → Rest (suc m) words
  rests n m last out words z r =
      let d : m + 1 ≡ suc m = omega arith in
      record {
        last = last;
        out = out;
        is = subst (λ v. At (80 + 10 * suc m) (line last [] false false out start v) None all_up words) d
            (subst (λ v. At v (line last [] false false out start (m + 1)) None all_up words) z r);
      }
