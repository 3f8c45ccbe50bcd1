-- A tick of a quiet history: from rest at its start to rest at the next, wherever these are.
use Rattle.std.proofs.Common.{◌≡◌, ℕ, suc, ◌+◌, ◌-◌, ◌*◌, ◌≤◌, ◌<◌, List, ◌++◌, Bool, false, refl, ap, sym, ◌∙◌, arith}
use Rattle.std.proofs.lemmas.List.{append_assoc, map-append}
use Rattle.ctl_link.specs.declared.link.Link.TheVariants.{Free}
use Rattle.board_terms.specs.Cadence.{KeepsCadenceTo, tick_of}
use Rattle.pc_tables.specs.declared.item.Item.{Item}
use Rattle.host_turn.specs.declared.stamped.Stamped.{Stamped}
use Rattle.host_turn.specs.Run.{Side, stamped, lights_said, says_lights}
use Rattle.model_controller.specs.declared.UnderWay.{UnderWay}
use Rattle.model_controller.specs.declared.meeting.Meeting.{Meeting}
use Rattle.model_controller.specs.ByteTime.{quietly, carried, meeting_in, ended_as}
use Rattle.model_controller.proofs.Quiet.{quiet_more}
use Rattle.key_file.specs.Histories.{KeyHistory}
use Rattle.model_link.specs.declared.line.LogLine.{LogLine}
use Rattle.model_link.specs.Machine.{KeyboardMachine}
use Rattle.model_link.specs.Expected.{Whole, to_look, to_meeting, from_meeting, begins_from, meeting_from, whole_tick, lines}
use Rattle.law_quiet_log.specs.Quiet.{IsQuiet}
use Rattle.law_quiet_log.proofs.Calm.{Pc, pc_after, items_in, met_by, items_of_meeting, light_items, Calm, meets, calm_items, in_tick}
use Rattle.law_quiet_log.proofs.Undue.{side, IsUndue, free_span}
use Rattle.law_quiet_log.proofs.Acting.{said_in, acts_span}
use Rattle.law_quiet_log.proofs.Ahead.{IsAhead, nothing_due, quiet_next, ahead_met, ahead_next}
use Rattle.law_quiet_log.proofs.Carrying.{Freed}
use Rattle.law_quiet_log.proofs.Passing.{meets_calm, ends_calm, passes}
use Rattle.law_quiet_log.proofs.Saying.{tick_is, stamped_at, lights_at, said_at}

-- the model at rest
abbrev pub whole_of : {S : Type 0} → Calm S → ℕ → List Stamped → Whole S
whole_of c filled log = record { keys = c.keys; side = side Free false c.pc filled log; shown = c.shown }

module _ {S : Type 0} (kb : KeyboardMachine S) (h : KeyHistory) (quiet : IsQuiet h) (starts : ℕ → ℕ) (last : ℕ)
    (cadence : KeepsCadenceTo starts last) where
  -- the log with what is said in tick n
  abbrev pub log_after : ℕ → Calm S → List Stamped → List Stamped
  log_after n c log =
      ((log ++ lights_said (232 + (4096 + starts n)) c.shown (kb.lights c.keys))
      ++ stamped (672 + (4096 + starts n)) (items_of_meeting (meets kb c) c.pc))
      ++ said_in h.host 1024 (5120 + 2048 * n) (met_by (meets kb c) c.pc)

  pub record Ticked (n : ℕ) (changes : List (ℕ × Bool)) (c : Calm S) (log : List Stamped) (w : Whole S) : Type 0 where
    pub filled : ℕ
    pub is : w ≡ record {
      keys = kb.ticked (meets kb c) changes c.keys;
      side = side Free false (pc_after h.host 1024 (5120 + 2048 * n) (met_by (meets kb c) c.pc)) filled
          (log_after n c log);
      shown = kb.lights c.keys;
    }

  -- after the byte: nothing, the events of the second half, and nothing up to the next start
  ends : (n : ℕ) (q : Pc) (filled : ℕ) (log : List Stamped) → n < last → IsAhead h.host (4096 + 2048 * n) q
      → quietly h.host (starts (suc n) - starts n - 673) (673 + (4096 + starts n)) (side Free false q filled log)
      ≡ side Free false (pc_after h.host 1024 (5120 + 2048 * n) q) filled
      (log ++ said_in h.host 1024 (5120 + 2048 * n) q)
  ends n q filled log l a =
      let lo : 2048 * n ≤ starts n = (cadence n (omega (arith, l))).least in
      let hi : starts n ≤ 2048 * n + 5 = (cadence n (omega (arith, l))).most in
      let lo' : 2048 * suc n ≤ starts (suc n) = (cadence (suc n) (omega (arith, l))).least in
      let hi' : starts (suc n) ≤ 2048 * suc n + 5 = (cadence (suc n) (omega (arith, l))).most in
      let from : ℕ = 673 + (4096 + starts n) in
      let half : ℕ = 5120 + 2048 * n in
      let next : ℕ = 4096 + 2048 * suc n in
      let before : ℕ = 351 + 2048 * n - starts n in
      let afterwards : ℕ = starts (suc n) - 2048 * suc n in
      let all : before + (1024 + afterwards) ≡ starts (suc n) - starts n - 673 = omega (arith, lo, hi, lo', hi') in
      let to_half : before + from ≡ half = omega (arith, lo, hi) in
      let to_next : 1024 + half ≡ next = omega arith in
      let s : Side UnderWay = side Free false q filled log in
      let q' : Pc = pc_after h.host 1024 half q in
      let log' : List Stamped = log ++ said_in h.host 1024 half q in
      let s' : Side UnderWay = side Free false q' filled log' in
      let undue : IsUndue h.host q from before = nothing_due h quiet n q a from before (omega (arith, lo, hi)) in
      let undue' : IsUndue h.host q' next afterwards =
      nothing_due h quiet (suc n) q' (ahead_next h quiet n q a) next afterwards (omega (arith, hi')) in
      quiet_more h.host before (1024 + afterwards) (starts (suc n) - starts n - 673) from s all
      ∙ ap (λ y. quietly h.host (1024 + afterwards) y (quietly h.host before from s)) to_half
      ∙ ap (λ v. quietly h.host (1024 + afterwards) half v) (free_span h.host q filled log before from undue)
      ∙ quiet_more h.host 1024 afterwards (1024 + afterwards) half s refl
      ∙ ap (λ v. quietly h.host afterwards (1024 + half) v) (acts_span h.host (quiet_next h quiet) 1024 half q filled log)
      ∙ ap (λ y. quietly h.host afterwards y s') to_next
      ∙ free_span h.host q' filled log' afterwards next undue'

  -- up to the meeting: nothing but the lights
  looks : (n shown lights : ℕ) (q : Pc) (filled : ℕ) (log : List Stamped) → n < last
      → IsAhead h.host (4096 + 2048 * n) q
      → to_look h.host shown lights (4096 + starts n) (side Free false q filled log)
      ≡ side Free false q filled (log ++ lights_said (232 + (4096 + starts n)) shown lights)
  looks n shown lights q filled log l a =
      let hi : starts n ≤ 2048 * n + 5 = (cadence n (omega (arith, l))).most in
      let s : ℕ = 4096 + starts n in
      let log' : List Stamped = log ++ lights_said (232 + s) shown lights in
      ap (λ v. quietly h.host 24 (232 + s) (says_lights (232 + s) shown lights v))
      (free_span h.host q filled log 232 s (nothing_due h quiet n q a s 232 (omega (arith, hi))))
      ∙ free_span h.host q filled log' 24 (232 + s) (nothing_due h quiet n q a (232 + s) 24 (omega (arith, hi)))

  -- so the meeting depends on the keyboard alone
  module _ (n : ℕ) (c : Calm S) (filled : ℕ) (log : List Stamped) (l : n < last)
      (a : IsAhead h.host (4096 + 2048 * n) c.pc) where
    abbrev lit : List Stamped
    lit = log ++ lights_said (232 + (4096 + starts n)) c.shown (kb.lights c.keys)

    abbrev looked : Side UnderWay
    looked = to_look h.host c.shown (kb.lights c.keys) (4096 + starts n) (side Free false c.pc filled log)

    -- in the tick's first half no event is due
    quiet_from : (now k : ℕ) → now + k ≤ 5120 + 2048 * n → IsUndue h.host c.pc now k
    quiet_from now k u = nothing_due h quiet n c.pc a now k u

    -- at the look at the link all is as at the start, but for the lights that are put
    look : looked ≡ side Free false c.pc filled lit
    look = looks n c.shown (kb.lights c.keys) c.pc filled log l a

    -- and in the cycle before a byte may begin
    meet : to_meeting h.host (4096 + starts n) looked ≡ side Free false c.pc filled lit
    meet =
        let hi : starts n ≤ 2048 * n + 5 = (cadence n (omega (arith, l))).most in
        ap (λ v. to_meeting h.host (4096 + starts n) v) look
        ∙ free_span h.host c.pc filled lit 32 (256 + (4096 + starts n))
        (quiet_from (256 + (4096 + starts n)) 32 (omega (arith, hi)))

    -- what begins
    begins : begins_from kb h.host (4096 + starts n) (whole_of c filled log) ≡ meets kb c
    begins =
        ap (λ v. meeting_in (kb.tested c.keys) (kb.offer c.keys) v (to_meeting h.host (4096 + starts n) looked)) look
        ∙ ap (λ v. meeting_in (kb.tested c.keys) (kb.offer c.keys) (side Free false c.pc filled lit) v) meet
        ∙ meets_calm (kb.tested c.keys) (kb.offer c.keys) c.pc filled lit

    -- the meeting
    met : meeting_from kb h.host (4096 + starts n) (whole_of c filled log) ≡ meets kb c
    met =
        let hi : starts n ≤ 2048 * n + 5 = (cadence n (omega (arith, l))).most in
        let now : ℕ = 288 + (4096 + starts n) in
        ap (λ v. ended_as h.host v now (to_meeting h.host (4096 + starts n) looked)) begins
        ∙ ap (λ v. ended_as h.host (meets kb c) now v) meet
        ∙ ends_calm h.host (kb.tested c.keys) (kb.offer c.keys) now c.pc filled lit
        (quiet_from now 320 (omega (arith, hi)))

    -- and the link is free again at the next start
    passed : Freed (pc_after h.host 1024 (5120 + 2048 * n) (met_by (meets kb c) c.pc))
        (from_meeting h.host (4096 + starts n) (starts (suc n) - starts n - 609) (meets kb c)
        (to_meeting h.host (4096 + starts n) looked))
        (log_after n c log)
    passed =
        let hi : starts n ≤ 2048 * n + 5 = (cadence n (omega (arith, l))).most in
        let lo' : 2048 * suc n ≤ starts (suc n) = (cadence (suc n) (omega (arith, l))).least in
        let s : ℕ = 4096 + starts n in
        let rest : ℕ = starts (suc n) - starts n - 609 in
        let more : ℕ = starts (suc n) - starts n - 673 in
        let m : Meeting = meets kb c in
        let s1 : Side UnderWay = side Free false c.pc filled lit in
        let r = passes h.host (kb.tested c.keys) (kb.offer c.keys) s (672 + s) c.pc filled lit refl
        (quiet_from (288 + s) 385 (omega (arith, hi))) in
        let all : 64 + more ≡ rest = omega (arith, hi, lo') in
        let from : 64 + (609 + s) ≡ 673 + s = omega arith in
        record {
          filled = r.filled;
          is = ap (λ v. from_meeting h.host s rest m v) meet
              ∙ quiet_more h.host 64 more rest (609 + s) (carried h.host m (288 + s) s1) all
              ∙ ap (λ y. quietly h.host more y (quietly h.host 64 (609 + s) (carried h.host m (288 + s) s1))) from
              ∙ ap (λ v. quietly h.host more (673 + s) v) r.is
              ∙ ends n (met_by m c.pc) r.filled (lit ++ stamped (672 + s) (items_of_meeting m c.pc)) l
              (ahead_met h.host m (4096 + 2048 * n) c.pc a);
        }

    -- the whole after the tick, by its meeting and by the PC's side
    whole_by : List (ℕ × Bool) → Meeting → Side UnderWay → Whole S
    whole_by changes m s = record { keys = kb.ticked m changes c.keys; side = s; shown = kb.lights c.keys }

    -- the whole tick
    pub ticks : (changes : List (ℕ × Bool))
        → Ticked n changes c log
        (whole_tick kb h.host changes (4096 + starts n) (starts (suc n) - starts n - 609) (whole_of c filled log))
    unfolding whole_by
    ticks changes =
        let from : Meeting → Side UnderWay =
        λ m. from_meeting h.host (4096 + starts n) (starts (suc n) - starts n - 609) m
        (to_meeting h.host (4096 + starts n) looked) in
        record {
          filled = passed.filled;
          is = ap (λ m. whole_by changes m (from (begins_from kb h.host (4096 + starts n) (whole_of c filled log)))) met
              ∙ ap (λ m. whole_by changes (meets kb c) (from m)) begins
              ∙ ap (λ s. whole_by changes (meets kb c) s) passed.is;
        }

  -- what the tick says, with its number
  pub lines_of_tick : (n : ℕ) (c : Calm S) (log : List Stamped) → n < last
      → lines starts last (log_after n c log) ≡ lines starts last log ++ in_tick n (calm_items kb h n c)
  lines_of_tick n c log l =
      let lo : 2048 * n ≤ starts n = (cadence n (omega (arith, l))).least in
      let hi : starts n ≤ 2048 * n + 5 = (cadence n (omega (arith, l))).most in
      let s : ℕ = 4096 + starts n in
      let f : Stamped → LogLine = λ v. record { tick = tick_of starts last v.cycle; item = v.item } in
      let g : Item → LogLine = λ i. record { tick = n; item = i } in
      let lights : List Item = light_items c.shown (kb.lights c.keys) in
      let byte : List Item = items_of_meeting (meets kb c) c.pc in
      let q1 : Pc = met_by (meets kb c) c.pc in
      let late : List Item = items_in h.host 1024 (5120 + 2048 * n) q1 in
      let lit : List Stamped = lights_said (232 + s) c.shown (kb.lights c.keys) in
      let read : List Stamped = stamped (672 + s) byte in
      let acts : List Stamped = said_in h.host 1024 (5120 + 2048 * n) q1 in
      let is : (y : ℕ) → s ≤ y → y < 4096 + 2048 * suc n → tick_of starts last y ≡ n =
      λ y a b. tick_is starts last cadence n y l a b in
      let e1 : lines starts last lit ≡ in_tick n lights =
      lights_at starts last n (232 + s) c.shown (kb.lights c.keys)
      (is (232 + s) (omega arith) (omega (arith, hi))) in
      let e2 : lines starts last read ≡ in_tick n byte =
      stamped_at starts last n (672 + s) (is (672 + s) (omega arith) (omega (arith, hi))) byte in
      let e3 : lines starts last acts ≡ in_tick n late =
      said_at starts last n h.host 1024 (5120 + 2048 * n) q1
      (λ y a b. is y (omega (arith, a, hi)) (omega (arith, b))) in
      let whole : log_after n c log ≡ log ++ (lit ++ (read ++ acts)) =
      append_assoc (log ++ lit) read acts ∙ append_assoc log lit (read ++ acts) in
      ap (λ v. lines starts last v) whole
      ∙ map-append f log (lit ++ (read ++ acts))
      ∙ ap (λ v. lines starts last log ++ v) (map-append f lit (read ++ acts))
      ∙ ap (λ v. lines starts last log ++ (lines starts last lit ++ v)) (map-append f read acts)
      ∙ ap (λ v. lines starts last log ++ (v ++ (lines starts last read ++ lines starts last acts))) e1
      ∙ ap (λ v. lines starts last log ++ (in_tick n lights ++ (v ++ lines starts last acts))) e2
      ∙ ap (λ v. lines starts last log ++ (in_tick n lights ++ (in_tick n byte ++ v))) e3
      ∙ sym (ap (λ v. lines starts last log ++ v)
      (map-append g lights (byte ++ late) ∙ ap (λ v. in_tick n lights ++ v) (map-append g byte late)))
