-- A tick sees at most four edges, where the keys held before it are those that the tick before it read.
use Rattle.std.proofs.Common.{◌≡◌, ◌≤◌, ◌<◌, ℕ, suc, zero, ◌+◌, ◌-◌, ◌*◌, ◌/◌, Bool, true, false, List, length}
use Rattle.std.proofs.Common.{refl, ap, sym, ◌∙◌, subst, arith}
use Rattle.std.specs.Prelude.{nat_le, if◌then◌else◌}
use Rattle.std.proofs.lemmas.Bool.Decides.{nat_tests}
use Rattle.board_terms.specs.Cadence.{IsNear, KeepsCadenceTo}
use Rattle.board_terms.specs.declared.event.Edge.{Edge}
use Rattle.key_file.specs.Accepted.{IsLawful}
use Rattle.key_file.specs.Histories.{KeyHistory}
use Rattle.model_link.specs.TickEdges.{is_down, change_at, shown_at, shown, tick_edges, downs_in, downs_before}
use Rattle.model_link.proofs.Edges.{same_by_place}
use Rattle.model_link.proofs.Few.{edges_are_shown}
use Rattle.law_agreement.proofs.Model.{columns_in}

-- the start before start n, if there is one, is near its multiple
abbrev pub WasNear : ℕ → ℕ → Type 0
WasNear zero ago = Unit {0}
WasNear (suc m) ago = IsNear m ago

-- starts that keep the cadence, of which start m and the next are given
abbrev given : ℕ → ℕ → ℕ → ℕ → ℕ
given m ago now j = if nat_le j m then 2048 * j + (ago - 2048 * m) else now

-- start m is the given one
given_first : (m ago now : ℕ) → IsNear m ago → given m ago now m ≡ ago
given_first m ago now near =
    let here : nat_le m m ≡ true = grind (arith, nat_tests) in
    let least : 2048 * m ≤ ago = near.least in
    let sum : 2048 * m + (ago - 2048 * m) ≡ ago = omega (arith, least) in
    ap (λ b. if b then 2048 * m + (ago - 2048 * m) else now) here ∙ sum

-- and so is the next
given_next : (m ago now : ℕ) → given m ago now (suc m) ≡ now
given_next m ago now =
    let past : nat_le (suc m) m ≡ false = grind (arith, nat_tests) in
    ap (λ b. if b then 2048 * suc m + (ago - 2048 * m) else now) past

-- where these two are near their multiples, all up to the second are
given_near : (m ago now : ℕ) → IsNear m ago → IsNear (suc m) now → KeepsCadenceTo (given m ago now) (suc m)
given_near m ago now was is j l = by (nat_le j m) refl
  where
    by : (b : Bool) → nat_le j m ≡ b → IsNear j (if b then 2048 * j + (ago - 2048 * m) else now)
    by true e =
        let most : ago ≤ 2048 * m + 5 = was.most in
        record { least = omega arith; most = omega (arith, most) }
    by false e =
        let last : suc m ≡ j = grind (arith, nat_tests, e, l) in
        subst (λ i. IsNear i now) last is

-- the keys held are those that the reads of the tick before start n showed
abbrev pub HeldBefore : List Edge → (ℕ → ℕ) → ℕ → (ℕ → Bool) → Type 0
HeldBefore edges starts n held = (p : ℕ) → p < 96 → held p ≡ downs_before starts edges n p

module _ (history : KeyHistory) (ok : IsLawful history) where
  -- then what the columns show against them are the tick's edges
  pub edges_seen : (starts : ℕ → ℕ) (n cycle : ℕ) (held : ℕ → Bool) → KeepsCadenceTo starts n
      → cycle ≡ 4096 + starts n → HeldBefore history.edges starts n held
      → shown held (columns_in history.edges cycle) ≡ tick_edges starts history.edges n
  edges_seen starts n cycle held cadence at same =
      let stamp : cycle - 4096 ≡ starts n = omega (arith, at) in
      same_by_place (shown_at held (columns_in history.edges cycle))
      (shown_at (downs_before starts history.edges n) (downs_in starts history.edges n))
      (λ p l.
      ap (λ b. change_at p b (columns_in history.edges cycle p)) (same p l)
      ∙ ap (λ s. change_at p (downs_before starts history.edges n p)
      (is_down history.edges p (s + 16 + 16 * (p / 8)))) stamp)
      96 (omega arith)
      ∙ sym (edges_are_shown starts history n ok cadence).same

  -- a lawful history has at most four of them in a tick
  few_of : (starts : ℕ → ℕ) (n cycle : ℕ) (held : ℕ → Bool) → KeepsCadenceTo starts n → cycle ≡ 4096 + starts n
      → HeldBefore history.edges starts n held → length (shown held (columns_in history.edges cycle)) ≤ 4
  few_of starts n cycle held cadence at same =
      subst (λ v. length v ≤ 4) (sym (edges_seen starts n cycle held cadence at same))
      (edges_are_shown starts history n ok cadence).few

  -- so they are at most four, whatever the starts before the last one were
  pub at_most_four : (n ago now cycle : ℕ) (held : ℕ → Bool) → WasNear n ago → IsNear n now → cycle ≡ 4096 + now
      → HeldBefore history.edges (λ j. ago) n held → length (shown held (columns_in history.edges cycle)) ≤ 4
  at_most_four zero ago now cycle held was is at same =
      few_of (λ j. now) 0 cycle held
      (λ j l. let first : 0 ≡ j = omega (arith, l) in subst (λ i. IsNear i now) first is) at same
  at_most_four (suc m) ago now cycle held was is at same =
      let first : given m ago now m ≡ ago = given_first m ago now was in
      let next : given m ago now (suc m) ≡ now = given_next m ago now in
      few_of (given m ago now) (suc m) cycle held (given_near m ago now was is) (at ∙ ap (λ s. 4096 + s) (sym next))
      (λ p l. same p l ∙ ap (λ s. is_down history.edges p (s + 16 + 16 * (p / 8))) (sym first))
