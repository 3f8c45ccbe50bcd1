-- A probe that listens to the wires meets the steps in which the controller takes, or sends, its byte.
use Rattle.std.proofs.Common.{◌≡◌, ◌≤◌, ℕ, zero, suc, ◌+◌, ◌-◌, Bool, true, false, ◌||◌, List}
use Rattle.std.proofs.Common.{[], ◌∷◌, ◌++◌, Some, None, refl, ap, sym, ◌∙◌, arith}
use Rattle.std.specs.Prelude.{if◌then◌else◌, nat_lt}
use Rattle.std.specs.declared.option.Option.{Option}
use Rattle.std.proofs.lemmas.Bool.Decides.{nat_tests}
use Rattle.board_terms.specs.declared.transfer.Transfer.{Transfer}
use Rattle.run_probes.specs.declared.tally.Arms.{Arms}
use Rattle.run_probes.specs.Counts.{meets_if, hears_if, met_from, ear_from}
use Rattle.run_probes.specs.Probes.{line_kind, is_awaited, awaited_if}
use Rattle.run_probes.specs.Transfers.{Ear, is_later_than, heard, completed}
use Rattle.joint_feed.specs.Stories.{Story, state_at}
use Rattle.joint_run.specs.Joint.{Beside}
use Rattle.joint_run.specs.Run.{World}
use Rattle.law_wires_heard.specs.Hearing.{sample_in, heard_in, heard_to, listed, transfer_in, HearsAll}
use Rattle.law_wires_heard.specs.Passing.{passed_at}
use Rattle.law_wires_heard.specs.Probing.{is_among, passing_from, CountsPassing, ProbeLaw}
use Rattle.law_wires_heard.proofs.Pulls.{comes_from, later}
use Rattle.law_wires_heard.proofs.Run.{any_run_is_heard}

-- one or none
or_none : (b : Bool) → (b || false) ≡ b
or_none true = refl
or_none false = refl

among_listed : (arms : Arms) (o : Option Transfer) → awaited_if (Some arms) o ≡ is_among arms (listed o)
among_listed arms None = refl
among_listed arms (Some t) = sym (or_none (is_awaited arms t))

module _ (s : Story) where
  -- each state's sample is after the last one
  afterwards : (k : ℕ) (w : World Beside) → state_at s (suc k) ≡ Some w → is_later_than w.cycle (heard_to s k).last ≡ true
  afterwards zero w at = refl
  afterwards (suc k) w at =
      let c = comes_from s (suc k) w at in
      let y : 1 + suc k ≡ suc (suc k) = omega arith in
      let l : c.before.cycle + 1 ≤ w.cycle = later s 1 (suc k) c.before w c.at (ap (λ j. state_at s j) y ∙ at) in
      let before : nat_lt c.before.cycle w.cycle ≡ true = grind (arith, nat_tests, l) in
      ap (λ o. is_later_than w.cycle (heard_in o (heard_to s k)).last) c.at ∙ before

  -- so the probe hears what is heard
  hears_so : (k : ℕ) (o : Option (World Beside)) → state_at s (suc k) ≡ o → hears_if line_kind o (heard_to s k) ≡ heard_in o (heard_to s k)
  hears_so k None at = refl
  hears_so k (Some w) at = ap (λ b. if b then heard (sample_in w) (heard_to s k) else heard_to s k) (afterwards k w at)

  next_ear : (k : ℕ) → hears_if line_kind (state_at s (k + 1)) (heard_to s k) ≡ heard_to s (suc k)
  next_ear k =
      let z : k + 1 ≡ suc k = omega arith in
      ap (λ j. hears_if line_kind (state_at s j) (heard_to s k)) z ∙ hears_so k (state_at s (suc k)) refl

  -- and meets what is heard
  meets_so : (k : ℕ) (arms : Arms) (o : Option (World Beside)) → state_at s (suc k) ≡ o
      → meets_if line_kind (Some arms) (heard_to s k) o ≡ is_among arms (transfer_in o (heard_to s k))
  meets_so k arms None at = refl
  meets_so k arms (Some w) at =
      ap (λ b. awaited_if (Some arms) (if b then completed (sample_in w) (heard_to s k) else None)) (afterwards k w at)
      ∙ among_listed arms (completed (sample_in w) (heard_to s k))

  module _ (all : HearsAll s) (arms : Arms) where
    next_met : (k : ℕ) → meets_if line_kind (Some arms) (heard_to s k) (state_at s (k + 1)) ≡ is_among arms (passed_at s k)
    next_met k =
        let z : k + 1 ≡ suc k = omega arith in
        ap (λ j. meets_if line_kind (Some arms) (heard_to s k) (state_at s j)) z ∙ meets_so k arms (state_at s (suc k)) refl
        ∙ ap (is_among arms) (all.each k)

    met_so : (more k : ℕ) → met_from s line_kind (Some arms) (k + 1) more (heard_to s k) ≡ passing_from s arms k more
    met_so zero k = refl
    met_so (suc more) k =
        let z : k + 1 ≡ suc k = omega arith in
        let rest : ℕ → Ear → List ℕ = λ step ear. met_from s line_kind (Some arms) step more ear in
        ap (λ b. (if b then (k + 1) ∷ [] else []) ++ rest (k + 1 + 1) (hears_if line_kind (state_at s (k + 1)) (heard_to s k))) (next_met k)
        ∙ ap (λ ear. (if is_among arms (passed_at s k) then (k + 1) ∷ [] else []) ++ rest (k + 1 + 1) ear) (next_ear k)
        ∙ ap (λ j. (if is_among arms (passed_at s k) then j ∷ [] else []) ++ rest (j + 1) (heard_to s (suc k))) z
        ∙ ap (λ steps. (if is_among arms (passed_at s k) then suc k ∷ [] else []) ++ steps) (met_so more (suc k))

  ear_so : (more k : ℕ) → ear_from s line_kind (k + 1) more (heard_to s k) ≡ heard_to s (more + k)
  ear_so zero k = let z : k ≡ zero + k = omega arith in ap (heard_to s) z
  ear_so (suc more) k =
      let z : k + 1 ≡ suc k = omega arith in
      let y : more + suc k ≡ suc more + k = omega arith in
      ap (λ ear. ear_from s line_kind (k + 1 + 1) more ear) (next_ear k)
      ∙ ap (λ j. ear_from s line_kind (j + 1) more (heard_to s (suc k))) z ∙ ear_so more (suc k) ∙ ap (heard_to s) y

  -- if all is heard, a probe on the wires counts just the bytes that pass
  pub counts : HearsAll s → (a b k n : ℕ) → CountsPassing s a b k n
  counts all a b k n = record {
    steps = met_so all (record { a = a; b = b }) (n - k) k;
    hears = λ order. let z : (n - k) + k ≡ n = omega (arith, order) in ear_so (n - k) k ∙ ap (heard_to s) z;
  }

-- a probe that listens to the wires counts just the bytes that the controller takes, or those that it sends
pub every_probe_counts : ProbeLaw
every_probe_counts layout history m fine ok small a b k n = counts _ (any_run_is_heard layout history m fine ok small) a b k n
