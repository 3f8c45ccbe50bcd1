-- Samples of wires that keep their levels: they add nothing, and are heard as if they weren't.
use Rattle.std.proofs.Common.{◌≡◌, ◌≤◌, ℕ, zero, suc, ◌+◌, ◌-◌, Bool, true, false, not, ◌&&◌, ◌||◌}
use Rattle.std.proofs.Common.{List, [], ◌++◌, Some, None, refl, ap, sym, subst, ◌∙◌, arith}
use Rattle.std.specs.Prelude.{if◌then◌else◌}
use Rattle.std.proofs.lemmas.List.{append-nil}
use Rattle.std.specs.declared.option.Option.{Option}
use Rattle.board_terms.specs.declared.lines.Lines.{Lines}
use Rattle.run_probes.specs.Transfers.{Ear, completed, fall_at, heard, is_fall, transfer_by, wires_at, with_fall}
use Rattle.run_probes.specs.declared.heard.Fall.{Fall}
use Rattle.run_probes.specs.declared.heard.Sample.{Sample}
use Rattle.board_terms.specs.declared.transfer.Transfer.{Transfer}
use Rattle.joint_feed.specs.Stories.{Story, state_at}
use Rattle.joint_run.specs.Joint.{Beside}
use Rattle.joint_run.specs.Run.{World}
use Rattle.run_loop.specs.Gliding.{lines_at, lines_in}
use Rattle.run_wires.specs.Text.{change_text, differ, sample_text, turns}
use Rattle.run_wires.specs.Trace.{changes_to, seen_if, text_in}
use Rattle.law_wires_heard.specs.Hearing.{heard_in, heard_to, sample_in}

-- two ears that hear the next sample alike
pub record HearAlike (a b : Ear) : Type 0 where
  pub wires : wires_at a.last ≡ wires_at b.last
  pub falls : a.falls ≡ b.falls

-- whatever it is
with_falls : Sample → List Fall → Ear
with_falls x falls = record { last = Some x; falls = falls }

-- two ears that hear the next sample alike are the same after it
pub alike_heard : (x : Sample) (a b : Ear) → HearAlike a b → heard x a ≡ heard x b
unfolding with_falls
alike_heard x a b h =
    ap (with_falls x)
    (ap (λ (l : Lines). if is_fall l x.lines then with_fall (fall_at x) a.falls else a.falls) h.wires
    ∙ ap (λ (f : List Fall). if is_fall (wires_at b.last) x.lines then with_fall (fall_at x) f else f) h.falls)

-- for two ears that hear the next sample alike a dump gets the same text
pub alike_text : (x : Sample) (seen : Option Bool) (a b : Ear) → HearAlike a b → sample_text x seen a ≡ sample_text x seen b
alike_text x seen a b h =
    let same : completed x a ≡ completed x b =
    ap (λ (l : Lines). if is_fall l x.lines then transfer_by (with_fall (fall_at x) a.falls) else None) h.wires
    ∙ ap (λ (f : List Fall). if is_fall (wires_at b.last) x.lines then transfer_by (with_fall (fall_at x) f) else None) h.falls in
    ap (λ (l : Lines). if differ l x.lines then change_text x.cycle l x.lines seen (completed x a) else []) h.wires
    ∙ ap (λ (t : Option Transfer). if differ (wires_at b.last) x.lines then change_text x.cycle (wires_at b.last) x.lines seen t else []) same

no_turn : (b : Bool) → turns b b ≡ false
no_turn true = refl
no_turn false = refl

no_change : (l : Lines) → differ l l ≡ false
no_change l = ap (λ b. b || turns l.dat l.dat) (no_turn l.clk) ∙ no_turn l.dat

no_fall : (b : Bool) → b && not b ≡ false
no_fall true = refl
no_fall false = refl

same_lines : (a b : Lines) → Some a ≡ Some b → a ≡ b
same_lines a b h = cc h

-- one such sample
module _ (w : World Beside) (ear : Ear) (level : (sample_in w).lines ≡ wires_at ear.last) where
  adds_nothing : (seen : Option Bool) → sample_text (sample_in w) seen ear ≡ []
  adds_nothing seen =
      let still : differ (wires_at ear.last) (sample_in w).lines ≡ false =
      ap (differ (wires_at ear.last)) level ∙ no_change (wires_at ear.last) in
      ap (λ (b : Bool). if b then change_text w.cycle (wires_at ear.last) (sample_in w).lines seen (completed (sample_in w) ear) else []) still

  heard_still : HearAlike (heard (sample_in w) ear) ear
  heard_still = record {
    wires = level;
    falls =
        let none : is_fall (wires_at ear.last) (sample_in w).lines ≡ false =
        ap (λ (l : Lines). is_fall (wires_at ear.last) l) level ∙ no_fall (wires_at ear.last).clk in
        ap (λ (b : Bool). if b then with_fall (fall_at (sample_in w)) ear.falls else ear.falls) none;
  }

module _ (seen : Bool) (s : Story) (k : ℕ) (level : lines_at s k ≡ Some (wires_at (heard_to s k).last)) where
  abbrev pub IsStill : ℕ → Type 0
  IsStill n = HearAlike (heard_to s n) (heard_to s k) × (changes_to seen s n ≡ changes_to seen s k)

  one_still : (n : ℕ) → IsStill n → (o : Option (World Beside)) → lines_in o ≡ lines_at s k
      → HearAlike (heard_in o (heard_to s n)) (heard_to s k) × (changes_to seen s n ++ text_in seen o (heard_to s n) ≡ changes_to seen s k)
  one_still n h None e = absurd (cc (e, level))
  one_still n h (Some w) e =
      let now : (sample_in w).lines ≡ wires_at (heard_to s n).last =
      same_lines (sample_in w).lines (wires_at (heard_to s k).last) (e ∙ level) ∙ sym h.0.wires in
      let ear = heard_to s n in
      let alike = heard_still w ear now in (
        record { wires = alike.wires ∙ h.0.wires; falls = alike.falls ∙ h.0.falls },
        ap (λ v. changes_to seen s n ++ v) (adds_nothing w ear now (seen_if seen w)) ∙ append-nil (changes_to seen s n) ∙ h.1,
      )

  still_by : (m : ℕ) → ((j : ℕ) → k ≤ j → j ≤ m + k → lines_at s j ≡ lines_at s k) → IsStill (m + k)
  still_by zero levels = let e : 0 + k ≡ k = omega arith in subst IsStill (sym e) (record { wires = refl; falls = refl }, refl)
  still_by (suc m) levels =
      let e : suc m + k ≡ suc (m + k) = omega arith in
      let before = still_by m (λ j l h. levels j l (omega (arith, h))) in
      subst IsStill (sym e)
      (one_still (m + k) before (state_at s (suc (m + k))) (levels (suc (m + k)) (omega arith) (omega arith)))

  -- as long as the wires keep their levels, the dump's text stays, and what is heard next is the same
  pub still_to : (n : ℕ) → k ≤ n → ((j : ℕ) → k ≤ j → j ≤ n → lines_at s j ≡ lines_at s k) → IsStill n
  still_to n l levels =
      let m = n - k in
      let e : m + k ≡ n = omega (arith, l) in
      subst IsStill e (still_by m (λ j a b. levels j a (omega (arith, b, e))))
