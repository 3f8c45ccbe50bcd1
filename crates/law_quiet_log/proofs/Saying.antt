-- What is said in a tick is said with its number.
use Rattle.std.proofs.Common.{◌≡◌, ℕ, suc, zero, ◌+◌, ◌-◌, ◌*◌, ◌/◌, ◌≤◌, ◌<◌, List, [], ◌∷◌}
use Rattle.std.proofs.Common.{◌++◌, true, false, ◌==◌, min, refl, ap, sym, ◌∙◌, arith}
use Rattle.std.specs.Prelude.{if◌then◌else◌, nat_le, slice_get}
use Rattle.std.specs.declared.option.Option.{Option}
use Rattle.std.proofs.lemmas.Bool.Decides.{nat_tests}
use Rattle.std.proofs.lemmas.List.{map-append}
use Rattle.board_terms.specs.Cadence.{KeepsCadenceTo, tick_of}
use Rattle.board_terms.specs.declared.event.HostEvent.{HostEvent}
use Rattle.pc_tables.specs.declared.item.Item.{Item}
use Rattle.pc_tables.specs.declared.item.Item.TheVariants.{Lights}
use Rattle.host_turn.specs.declared.stamped.Stamped.{Stamped}
use Rattle.host_turn.specs.Run.{stamped, lights_said}
use Rattle.model_link.specs.Expected.{lines}
use Rattle.model_link.proofs.Ticks.{tick_near}
use Rattle.law_quiet_log.proofs.Calm.{Pc, after_event, items_now, items_in, light_items, in_tick}
use Rattle.law_quiet_log.proofs.Acting.{said_in}

-- the tick of a cycle that is past its start in each cadence, and before the next start in each
pub tick_is : (starts : ℕ → ℕ) (last : ℕ) → KeepsCadenceTo starts last → (n cycle : ℕ) → n < last
    → 4096 + starts n ≤ cycle → cycle < 4096 + 2048 * suc n → tick_of starts last cycle ≡ n
tick_is starts last cadence n cycle l from to =
    let lo : 2048 * n ≤ starts n = (cadence n (omega (arith, l))).least in
    let near : n ≡ min ((cycle - 4096) / 2048) last = omega (arith, l, lo, from, to) in
    let begun : nat_le (4096 + starts n) cycle ≡ true = grind (arith, nat_tests, from) in
    let is : tick_of starts last cycle ≡ n + 1 - 1 = tick_near starts cycle last cadence n near true begun in
    is ∙ omega arith

module _ (starts : ℕ → ℕ) (last n : ℕ) where
  -- items of one cycle
  pub stamped_at : (cycle : ℕ) → tick_of starts last cycle ≡ n → (items : List Item)
      → lines starts last (stamped cycle items) ≡ in_tick n items
  stamped_at cycle h [] = refl
  stamped_at cycle h (i ∷ is) =
      ap (λ k. record { tick = k; item = i } ∷ lines starts last (stamped cycle is)) h
      ∙ ap (λ v. record { tick = n; item = i } ∷ v) (stamped_at cycle h is)

  -- lights that are put, or not
  pub lights_at : (cycle shown lights : ℕ) → tick_of starts last cycle ≡ n
      → lines starts last (lights_said cycle shown lights) ≡ in_tick n (light_items shown lights)
  lights_at cycle shown lights h =
      elim (lights == shown) as (λ c. lines starts last
      (if c then [] else record { cycle = cycle; item = Lights lights } ∷ [])
      ≡ in_tick n (if c then [] else Lights lights ∷ [])) [
        | true ↦ refl
        | false ↦ ap (λ k. record { tick = k; item = Lights lights } ∷ []) h
      ]

  -- the items of the host's events in so many cycles
  pub said_at : (events : List HostEvent) (k cycle : ℕ) (q : Pc)
      → ((c : ℕ) → cycle ≤ c → c < cycle + k → tick_of starts last c ≡ n)
      → lines starts last (said_in events k cycle q) ≡ in_tick n (items_in events k cycle q)
  said_at events zero cycle q h = refl
  said_at events (suc k) cycle q h =
      let o : Option HostEvent = slice_get events q.done in
      let q' : Pc = after_event cycle o q in
      map-append (λ (s : Stamped). record { tick = tick_of starts last s.cycle; item = s.item })
      (stamped cycle (items_now cycle o q)) (said_in events k (suc cycle) q')
      ∙ ap (λ v. v ++ lines starts last (said_in events k (suc cycle) q'))
      (stamped_at cycle (h cycle (omega arith) (omega arith)) (items_now cycle o q))
      ∙ ap (λ v. in_tick n (items_now cycle o q) ++ v)
      (said_at events k (suc cycle) q' (λ c l u. h c (omega (arith, l)) (omega (arith, u))))
      ∙ sym (map-append (λ i. record { tick = n; item = i }) (items_now cycle o q) (items_in events k (suc cycle) q'))
