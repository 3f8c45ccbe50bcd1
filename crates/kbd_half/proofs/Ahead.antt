-- The state of a keyboard that goes on by itself, as the loop has it.
use Rattle.std.proofs.Common.{◌≡◌, ◌≤◌, ◌<◌, ℕ, suc, ◌+◌, inl, inr, ap, sym, subst, ◌∙◌, arith}
use Rattle.std.specs.Prelude.{IsSome}
use Rattle.std.proofs.Math.Nat.{eq-or-lt_of_le}
use Rattle.board_terms.specs.declared.lines.Lines.{Lines}
use Rattle.chip_core.specs.Chips.{cycles_of}
use Rattle.kbd_half.specs.declared.keyboard.KbdHalf.{KbdHalf}
use Rattle.kbd_half.specs.Rests.{AreAlike, RestsOn, alone_after, cycles_alone, next_alone, stepped_alone}
use Rattle.mcs48_core.specs.Cpu.{Cpu}

-- with another processor
abbrev pub with_cpu : Cpu → KbdHalf → KbdHalf
with_cpu cpu k = record k { chip = record k.chip { mcu = cpu } }

-- some steps were made, each of them unseen: the processor is that after them, and these are their cycles
abbrev pub IsAhead : Lines → ℕ → KbdHalf → Cpu → ℕ → Type 0
IsAhead others most k cpu cycles =
    (n : ℕ)
    × ((i : ℕ) → i < n → RestsOn others most k i)
    × (with_cpu cpu k ≡ alone_after others n k)
    × (cycles ≡ cycles_alone others n k)

-- what is so of all numbers below one, and of it, is so of all below the next
further : (P : ℕ → Type 0) (n : ℕ) → ((i : ℕ) → i < n → P i) → P n → (i : ℕ) → i < suc n → P i
further P n below own i less =
    elim (eq-or-lt_of_le {n = i} {m = n} (omega (arith, less))) [ inl same ↦ subst P (sym same) own | inr fewer ↦ below i fewer ]

-- a step more, which is unseen, too
pub ahead_by : (others : Lines) (most : ℕ) (k : KbdHalf) (cpu next : Cpu) (cycles taken : ℕ)
    → IsAhead others most k cpu cycles
    → IsSome (next_alone others (with_cpu cpu k))
    → taken ≡ cycles_of (next_alone others (with_cpu cpu k))
    → with_cpu next k ≡ stepped_alone others (with_cpu cpu k)
    → cycles + taken ≤ most
    → AreAlike (with_cpu next k) k
    → IsAhead others most k next (cycles + taken)
ahead_by others most k cpu next cycles taken (n, each, at, sum) some took after within alike =
    let at_next : with_cpu next k ≡ alone_after others (suc n) k = after ∙ ap (stepped_alone others) at in
    let sum_next : cycles + taken ≡ cycles_alone others (suc n) k =
    ap (λ c. c + taken) sum
    ∙ ap (λ t. cycles_alone others n k + t) (took ∙ ap (λ j. cycles_of (next_alone others j)) at) in
    let own : RestsOn others most k n = (
      subst (λ j. IsSome (next_alone others j)) at some,
      subst (λ c. c ≤ most) sum_next within,
      subst (λ j. AreAlike j k) at_next alike,
    ) in
    (suc n, further (λ i. RestsOn others most k i) n each own, at_next, sum_next)
