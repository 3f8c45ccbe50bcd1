-- Each byte that is taken off the line ends: it comes right or is given up, in three resends at most.
use Rattle.std.proofs.Common.{◌≡◌, ◌≤◌, ◌<◌, ℕ, zero, suc, ◌+◌, ◌-◌, ◌⊎◌, inl, inr, Bool, true, false, Some, None, refl, ap, ◌∙◌, arith}
use Rattle.std.specs.Prelude.{if◌then◌else◌, nat_lt}
use Rattle.std.specs.declared.option.Option.{Option}
use Rattle.std.proofs.lemmas.Bool.Decides.{nat_tests}
use Rattle.board_terms.specs.Cadence.{KeepsCadenceTo}
use Rattle.model_controller.specs.declared.meeting.Meeting.TheVariants.{Sent}
use Rattle.key_file.specs.Histories.{KeyHistory}
use Rattle.layout_reader.specs.Layouts.{KeyLayout}
use Rattle.law_quiet_log.specs.Once.{meeting_at}
use Rattle.law_noisy_link.specs.Fates.{Right, Again, GivenUp, flipped_fate, fate_of, flip_in, side_before, wrong_before, fate_at}
use Rattle.law_noisy_link.specs.Noise.{next_try, next_byte, ComesAgain, Ends}
use Rattle.law_noisy_link.proofs.Counted.{counted}
use Rattle.law_noisy_link.proofs.Again.{comes_again}

-- the fate of a byte that was sent, by what is left of its tries
last_fate : (flip : Option ℕ) (wrong byte : ℕ)
    → zero + wrong ≡ 3 → (flipped_fate flip wrong byte ≡ Right byte) ⊎ (flipped_fate flip wrong byte ≡ GivenUp byte)
last_fate None wrong byte e = inl refl
last_fate (Some bit) wrong byte e =
    let t : nat_lt wrong 3 ≡ false = grind (arith, nat_tests, e) in
    inr (ap (λ b. if b then Again byte else GivenUp byte) t)

earlier_fate : (flip : Option ℕ) (left wrong byte : ℕ)
    → suc left + wrong ≡ 3 → (flipped_fate flip wrong byte ≡ Right byte) ⊎ (flipped_fate flip wrong byte ≡ Again byte)
earlier_fate None left wrong byte e = inl refl
earlier_fate (Some bit) left wrong byte e =
    let t : nat_lt wrong 3 ≡ true = grind (arith, nat_tests, e) in
    inr (ap (λ b. if b then Again byte else GivenUp byte) t)

-- a start is past the last one, or not
past_or_not : (last n : ℕ) → (last < n) ⊎ (n ≤ last)
past_or_not last n = by (nat_lt last n) refl
  where
    by : (b : Bool) → nat_lt last n ≡ b → (last < n) ⊎ (n ≤ last)
    by true e = inl (grind (arith, nat_tests, e))
    by false e = inr (grind (arith, nat_tests, e))

module _ (layout : KeyLayout) (history : KeyHistory) (starts : ℕ → ℕ) (last : ℕ) (cadence : KeepsCadenceTo starts last) where
  -- one that is asked for again goes on, unless the run ends before
  goes_on : (left n byte : ℕ) → suc left + wrong_before layout history starts n ≡ 3 → fate_at layout history starts n ≡ Again byte
      → (left + wrong_before layout history starts (next_try layout history starts n) ≡ 3
      → meeting_at layout history starts (next_try layout history starts n) ≡ Sent (next_byte layout history starts n byte)
      → Ends layout history starts last left (next_try layout history starts n) (next_byte layout history starts n byte))
      → (last < next_try layout history starts n) ⊎ (next_try layout history starts n ≤ last)
      → (last < next_try layout history starts n)
      ⊎ (ComesAgain layout history starts n byte
      × Ends layout history starts last left (next_try layout history starts n) (next_byte layout history starts n byte))
  goes_on left n byte e a more (inl past) = inl past
  goes_on left n byte e a more (inr within) =
      let c : ComesAgain layout history starts n byte = comes_again layout history starts last n byte cadence within a in
      inr (c, more (omega (arith, e, c.counted)) c.sent)

  ends_in : (left n byte : ℕ) → left + wrong_before layout history starts n ≡ 3
      → meeting_at layout history starts n ≡ Sent byte → Ends layout history starts last left n byte
  ends_in zero n byte e m =
      let wrong : ℕ = wrong_before layout history starts n in
      let flip : Option ℕ = flip_in (side_before layout history starts n).port.link in
      let f : fate_at layout history starts n ≡ flipped_fate flip wrong byte = ap (λ v. fate_of v flip wrong) m in
      elim (last_fate flip wrong byte e) [ inl r ↦ inl (f ∙ r) | inr g ↦ inr (f ∙ g) ]
  ends_in (suc left) n byte e m =
      let wrong : ℕ = wrong_before layout history starts n in
      let flip : Option ℕ = flip_in (side_before layout history starts n).port.link in
      let f : fate_at layout history starts n ≡ flipped_fate flip wrong byte = ap (λ v. fate_of v flip wrong) m in
      elim (earlier_fate flip left wrong byte e) [
        | inl r ↦ inl (f ∙ r)
        | inr a ↦ inr (
          f ∙ a,
          goes_on left n byte e (f ∙ a)
              (λ rest sent. ends_in left (next_try layout history starts n) (next_byte layout history starts n byte) rest sent)
              (past_or_not last (next_try layout history starts n)),
        )
      ]

  -- each byte that is sent comes right or is given up, in at most three resends, unless the run ends before
  pub ends : (n byte : ℕ)
      → meeting_at layout history starts n ≡ Sent byte → Ends layout history starts last (3 - wrong_before layout history starts n) n byte
  ends n byte m =
      let few = (counted layout history starts n).few in
      ends_in (3 - wrong_before layout history starts n) n byte (omega (arith, few)) m
