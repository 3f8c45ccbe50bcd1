-- The model's run of a quiet history is at rest at each tick start, and its log has no start in it.
use Rattle.std.proofs.Common.{◌≡◌, ℕ, suc, zero, ◌+◌, ◌-◌, ◌*◌, ◌≤◌, ◌<◌, inl, inr, List, [], ◌++◌, length, Bool, refl, ap, sym, ◌∙◌, arith}
use Rattle.board_terms.specs.Cadence.{KeepsCadenceTo, IsLast, listed}
use Rattle.host_turn.specs.declared.stamped.Stamped.{Stamped}
use Rattle.key_file.specs.Histories.{KeyHistory}
use Rattle.model_link.specs.Machine.{KeyboardMachine, keyboard}
use Rattle.model_link.specs.TickEdges.{tick_edges}
use Rattle.model_link.specs.Expected.{Whole, whole_tick, whole_at, lines, expected}
use Rattle.law_quiet_log.specs.Quiet.{IsQuiet, even, last_even, EvenLaw, QuietLaw, ListedLaw}
use Rattle.law_quiet_log.proofs.Calm.{Pc, Calm, calm_at, calm_items, calm_lines, in_tick, meets, met_by}
use Rattle.law_quiet_log.proofs.Undue.{free_span}
use Rattle.law_quiet_log.proofs.Ahead.{IsAhead, nothing_due, ahead_met, ahead_next}
use Rattle.law_quiet_log.proofs.SameEdges.{edges_same}
use Rattle.law_quiet_log.proofs.Ticking.{whole_of, log_after, ticks, lines_of_tick}

module _ {S : Type 0} (kb : KeyboardMachine S) (h : KeyHistory) (quiet : IsQuiet h) (starts : ℕ → ℕ) (last : ℕ)
    (cadence : KeepsCadenceTo starts last) where
  -- at a start, the model is at rest
  pub record Ran (n : ℕ) : Type 0 where
    pub filled : ℕ
    pub log : List Stamped
    pub is : whole_at kb h.edges h.host starts n ≡ whole_of (calm_at kb h n) filled log
    pub ahead : IsAhead h.host (4096 + 2048 * n) (calm_at kb h n).pc
    pub said : lines starts last log ≡ calm_lines kb h n

  -- from tick to tick: its edges, its meeting and its items are those of the even starts
  ran : (n : ℕ) → n ≤ last → Ran n
  ran zero l =
      let hi : starts 0 ≤ 2048 * 0 + 5 = (cadence 0 l).most in
      let q : Pc = (calm_at kb h 0).pc in
      let a : IsAhead h.host (4096 + 2048 * 0) q = λ e g. omega arith in
      record {
        filled = 0;
        log = [];
        is = ap (λ v. record { keys = kb.start; side = v; shown = 0 })
            (free_span h.host q 0 [] (starts 0) 4096 (nothing_due h quiet 0 q a 4096 (starts 0) (omega (arith, hi))));
        ahead = a;
        said = refl;
      }
  ran (suc n) l =
      let r : Ran n = ran n (omega (arith, l)) in
      let c : Calm S = calm_at kb h n in
      let rest : ℕ = starts (suc n) - starts n - 609 in
      let edges : List (ℕ × Bool) = tick_edges even h.edges n in
      let t = ticks kb h quiet starts last cadence n c r.filled r.log l r.ahead edges in
      record {
        filled = t.filled;
        log = log_after kb h quiet starts last cadence n c r.log;
        is = ap (λ v. whole_tick kb h.host v (4096 + starts n) rest (whole_at kb h.edges h.host starts n))
            (edges_same starts last cadence h.edges quiet.edges_late n (omega (arith, l)))
            ∙ ap (λ v. whole_tick kb h.host edges (4096 + starts n) rest v) r.is ∙ t.is;
        ahead = ahead_next h quiet n (met_by (meets kb c) c.pc)
            (ahead_met h.host (meets kb c) (4096 + 2048 * n) c.pc r.ahead);
        said = lines_of_tick kb h quiet starts last cadence n c r.log l
            ∙ ap (λ v. v ++ in_tick n (calm_items kb h n c)) r.said;
      }

  -- the expected log, whatever the starts
  pub expected_is : expected kb h.edges h.host starts last ≡ calm_lines kb h last
  expected_is =
      let r : Ran last = ran last (omega arith) in
      ap (λ (w : Whole S). lines starts last w.side.log) r.is ∙ r.said

-- the even starts
pub even_law : EvenLaw
even_law = record {
  cadence = λ n. record { least = omega arith; most = omega arith };
  last = λ stop. record { reaches = omega arith; before = λ j l. omega (arith, l) };
}

-- they end where the others do
last_is : (h : KeyHistory) (starts : ℕ → ℕ) (last : ℕ) → IsQuiet h → KeepsCadenceTo starts last
    → IsLast starts h.end last → last ≡ last_even h.end
last_is h starts zero quiet cadence is =
    let hi : starts 0 ≤ 2048 * 0 + 5 = (cadence 0 (omega arith)).most in
    let up : h.end ≤ starts 0 = is.reaches in
    elim quiet.clear [ inl e ↦ omega (arith, hi, up, e) | inr e ↦ omega (arith, hi, up, e) ]
last_is h starts (suc n) quiet cadence is =
    let hi : starts (suc n) ≤ 2048 * suc n + 5 = (cadence (suc n) (omega arith)).most in
    let lo : 2048 * n ≤ starts n = (cadence n (omega arith)).least in
    let up : h.end ≤ starts (suc n) = is.reaches in
    let down : starts n < h.end = is.before n (omega arith) in
    elim quiet.clear [ inl e ↦ omega (arith, hi, lo, up, down, e) | inr e ↦ omega (arith, hi, lo, up, down, e) ]

-- so it is that of the even starts
pub quiet_law : QuietLaw
quiet_law layout h starts last quiet cadence is =
    let kb = keyboard layout in
    let z : last ≡ last_even h.end = last_is h starts last quiet cadence is in
    record {
      ticks = z;
      log = expected_is kb h quiet starts last cadence
          ∙ sym (expected_is kb h quiet even last (λ n l. even_law.cadence n))
          ∙ ap (λ n. expected kb h.edges h.host even n) z;
    }

-- and of the starts of a list
pub listed_law : ListedLaw
listed_law layout h starts quiet cadence is =
    (quiet_law layout h (listed starts) (length starts - 1) quiet cadence is).log
