-- Between two tick starts: each state of the run is one of the service or of the main program.
use Rattle.std.proofs.Common.{◌≡◌, ◌≤◌, ◌⊎◌, ℕ, suc, zero, ◌+◌, ◌%◌, List, Bool, true, false, not, ◌&&◌, ◌==◌}
use Rattle.std.proofs.Common.{Some, None, slice_index, refl, ap, sym, ◌∙◌, subst, arith, inl, inr}
use Rattle.std.proofs.lemmas.Bool.Decides.{nat_tests}
use Rattle.std.specs.declared.option.Option.{Option}
use Rattle.mcs48_core.specs.Cpu.{Cpu}
use Rattle.mcs48_isa.specs.declared.operation.Decoded.{Decoded}
use Rattle.mcs48_isa.specs.declared.operation.Op.TheVariants.{Moves}
use Rattle.mcs48_isa.specs.declared.operation.MoveOp.TheVariants.{MovAN}
use Rattle.mcs48_core.specs.Step.{Stepped, stepped, row_at, takes_external, takes_timer}
use Rattle.fw_kernel.specs.declared.labels.TheConstants.{TICK, DONE, OFFER}
use Rattle.fw_kernel.specs.Places.{HasKernel}
use Rattle.joint_run.specs.Run.{Board, World, after_cycles, seen, joint_step, after_step}
use Rattle.joint_run.specs.Starts.{at_tick, calm, Comes}
use Rattle.law_fw_logic.proofs.Following.{Stays}
use Rattle.law_fw_logic.proofs.Leads.{LetsNone}
use Rattle.law_fw_logic.proofs.Image.{row_is}
use Rattle.law_fw_logic.proofs.Passing.{Through, Passes}
use Rattle.law_fw_logic.proofs.Placed.{in_main, is_later_than, main_at}
use Rattle.law_fw_logic.proofs.Turns.{IsMain, IsServing, main_step, serve_step, back_step}

-- where a state stands on the way to the next start: in the service, in the main program, or at that start
pattern abbrev at_work : {A B C : Type 0} → A → A ⊎ (B ⊎ C)
at_work a = inl a

pattern abbrev at_rest : {A B C : Type 0} → B → A ⊎ (B ⊎ C)
at_rest b = inr (inl b)

pattern abbrev at_start : {A B C : Type 0} → C → A ⊎ (B ⊎ C)
at_start c = inr (inr c)

module _ (d : Board) (bytes : List ℕ) where
  abbrev pub IsStart : World d.State → Type 0
  IsStart v = at_tick d TICK v ≡ true

  -- what the processor's step is where the joint step is this
  pub step_of : (w next : World d.State) (o : Option Stepped) → after_step d w o ≡ Some next
      → (n : Stepped) × (o ≡ Some n) × (n.cpu ≡ next.cpu) × (w.cycle + n.cycles ≡ next.cycle)
  step_of w next None h = absurd cc
  step_of w next (Some n) h =
      let e : World d.State =
      record {
        cpu = n.cpu;
        board = after_cycles n.cycles w.cycle (d.cycle n.cpu.p2) w.board;
        cycle = w.cycle + n.cycles;
      } in
      let is : e ≡ next = cc in
      (n, refl, ap (λ (v : World d.State). v.cpu) is, ap (λ (v : World d.State). v.cycle) is)

  -- the first step of a run that meets no start before its end
  pub record First (k : ℕ) (w e : World d.State) : Type 0 where
    pub next : World d.State
    pub calm_here : at_tick d TICK w ≡ false
    pub step : joint_step d bytes w ≡ Some next
    pub rest : calm d TICK bytes k next ≡ Some e

  first_by : (k : ℕ) (w e : World d.State) (b : Bool) (o : Option (World d.State)) → at_tick d TICK w ≡ b
      → joint_step d bytes w ≡ o
      → (elim (elim b as (λ v. Option (World d.State)) [ true ↦ None | false ↦ o ]) as (λ v. Option (World d.State)) [
        | None ↦ None
        | Some v ↦ calm d TICK bytes k v
      ]) ≡ Some e
      → First k w e
  first_by k w e true o at step h = absurd cc
  first_by k w e false None at step h = absurd cc
  first_by k w e false (Some v) at step h = record { next = v; calm_here = at; step = step; rest = h }

  -- a way of one step or more that meets no tick start has a first step
  pub first_of : (k : ℕ) (w e : World d.State) → calm d TICK bytes (suc k) w ≡ Some e → First k w e
  first_of k w e h = first_by k w e (at_tick d TICK w) (joint_step d bytes w) refl refl h

  -- and the other way round
  pub calm_on : (k : ℕ) (w next : World d.State) → at_tick d TICK w ≡ false → joint_step d bytes w ≡ Some next
      → calm d TICK bytes (suc k) w ≡ calm d TICK bytes k next
  calm_on k w next at step =
      ap (λ b. elim (elim b as (λ v. Option (World d.State)) [ true ↦ None | false ↦ joint_step d bytes w ])
      as (λ v. Option (World d.State)) [ None ↦ None | Some v ↦ calm d TICK bytes k v ]) at
      ∙ ap (λ o. elim o as (λ v. Option (World d.State)) [ None ↦ None | Some v ↦ calm d TICK bytes k v ]) step

  -- cycles go on
  pub cycles_on : (w next : World d.State) → joint_step d bytes w ≡ Some next → w.cycle ≤ next.cycle
  cycles_on w next step =
      let s = step_of w next (stepped bytes (seen d w) w.cpu) step in
      let sum : w.cycle + s.0.cycles ≡ next.cycle = s.3 in
      omega (arith, sum)

  -- a way that meets no tick start leads to no earlier cycle
  pub later_on : (k : ℕ) (w e : World d.State) → calm d TICK bytes k w ≡ Some e → w.cycle ≤ e.cycle
  later_on zero w e h =
      let same : w ≡ e = cc in subst (λ (v : World d.State). w.cycle ≤ v.cycle) same (omega arith)
  later_on (suc k) w e h =
      let f = first_of k w e h in
      let one : w.cycle ≤ f.next.cycle = cycles_on w f.next f.step in
      let rest : f.next.cycle ≤ e.cycle = later_on k f.next e f.rest in
      omega (arith, one, rest)

  -- a state has one next state
  pub same_next : (w a b : World d.State) → joint_step d bytes w ≡ Some a → joint_step d bytes w ≡ Some b → a ≡ b
  same_next w a b one two = let both : Some a ≡ Some b = sym one ∙ two in cc

  -- a start isn't in the main program, and no end of the service is a start
  pub start_place : (w : World d.State) → IsStart w → w.cpu.pc % 2048 ≡ 7
  start_place w at =
      by (w.cpu.pc % 2048 == TICK) (not (takes_external (seen d w) w.cpu)) (not (takes_timer w.cpu)) refl at
    where
      by : (a b c : Bool) → (w.cpu.pc % 2048 == TICK) ≡ a → (a && b && c) ≡ true → w.cpu.pc % 2048 ≡ 7
      by true b c e h = grind (arith, nat_tests, e)
      by false b c e h = absurd cc

  -- so the way to the next start begins with a step, from a state that is none
  pub steps_first : (w next : World d.State) → (IsStart w → ⊥) → Comes d TICK bytes w IsStart
      → joint_step d bytes w ≡ Some next → Comes d TICK bytes next IsStart
  steps_first w next off c step = by c.steps c.run
    where
      by : (n : ℕ) → calm d TICK bytes n w ≡ Some c.end → Comes d TICK bytes next IsStart
      by zero run = let same : w ≡ c.end = cc in absurd (off (subst IsStart (sym same) c.goal))
      by (suc n) run =
          let f = first_of n w c.end run in
          let same = same_next w f.next next f.step step in
          record {
            steps = n;
            end = c.end;
            run = subst (λ v. calm d TICK bytes n v ≡ Some c.end) same f.rest;
            goal = c.goal;
          }

  module _ (has : HasKernel bytes) (on : Bool) where
    -- a state of the main program, and one of the service, from which the run reaches the next start
    pub record Resting (w : World d.State) : Type 0 where
      pub main : IsMain on w.cpu
      pub rest : Comes d TICK bytes w IsStart

    pub record Working (w : World d.State) : Type 0 where
      pub serving : IsServing on w.cpu
      pub through : Through d bytes w

    -- the entry of the interrupt is a start
    entered_start : (w : World d.State) → IsServing on w.cpu → w.cpu.pc ≡ TICK → IsStart w
    entered_start w h at =
        let svc : w.cpu.svc ≡ true = ap (λ (s : Stays). s.svc) h.stays in
        ap (λ p. (p % 2048 == TICK) && not (takes_external (seen d w) w.cpu) && not (takes_timer w.cpu)) at
        ∙ ap (λ b. not (not b && w.cpu.ext_on && not (seen d w).int_pin) && not (not b && w.cpu.tim_on && w.cpu.rq)) svc

    main_place : (w : World d.State) → IsMain on w.cpu → IsStart w → ⊥
    main_place w h at =
        let low = (main_at w.cpu.pc h.place).low in
        let here = start_place w at in
        let tick : w.cpu.pc ≡ TICK = omega (arith, low, here) in
        let none : true ≡ false = sym h.place ∙ ap in_main tick in
        cc

    -- from the main program: it goes on, or the next start is there; the latch of port 1 stays
    pub rests_on : (w next : World d.State) → Resting w → joint_step d bytes w ≡ Some next
        → (Resting next ⊎ (IsServing on next.cpu × IsStart next)) × (next.cpu.p1 ≡ w.cpu.p1)
    rests_on w next h step =
        let s = step_of w next (stepped bytes (seen d w) w.cpu) step in
        let rest = steps_first w next (main_place w h.main) h.rest step in
        by rest
        (subst (λ (c : Cpu). (IsMain on c × (c.p1 ≡ w.cpu.p1)) ⊎ (IsServing on c × (c.pc ≡ TICK) × (c.p1 ≡ w.cpu.p1))) s.2
        (main_step bytes has on (seen d w) w.cpu s.0 h.main s.1))
      where
        by : Comes d TICK bytes next IsStart
            → ((IsMain on next.cpu × (next.cpu.p1 ≡ w.cpu.p1))
            ⊎ (IsServing on next.cpu × (next.cpu.pc ≡ TICK) × (next.cpu.p1 ≡ w.cpu.p1)))
            → (Resting next ⊎ (IsServing on next.cpu × IsStart next)) × (next.cpu.p1 ≡ w.cpu.p1)
        by rest (inl g) = (inl (record { main = g.0; rest = rest }), g.1)
        by rest (inr g) = (inr (g.0, entered_start next g.0 g.1), g.2)

    -- from the service: it goes on, or it ends and the main program goes on
    abbrev pub WorksOn : World d.State → World d.State → Type 0
    WorksOn w next =
        (Working next × (is_later_than w.cpu.pc ≡ true → (is_later_than next.cpu.pc ≡ true) × (next.cpu.p1 ≡ w.cpu.p1)))
        ⊎ (Resting next × (next.cpu.p1 ≡ w.cpu.p1) × (w.cpu.pc ≡ DONE))

    -- a step of the service goes on in it, or ends it and returns to the main program
    pub works_on : (w next : World d.State) → Working w → joint_step d bytes w ≡ Some next → WorksOn w next
    works_on w next h step = by h.through.steps refl
      where
        by : (n : ℕ) → h.through.steps ≡ n → WorksOn w next
        by zero none =
            let t = h.through in
            let s = step_of w next (stepped bytes (seen d w) w.cpu) step in
            let here : Some w ≡ Some t.done = ap (λ i. calm d TICK bytes i w) (sym none) ∙ t.run in
            let same : w ≡ t.done = cc in
            let place : w.cpu.pc ≡ DONE = ap (λ (v : World d.State). v.cpu.pc) same ∙ t.place in
            let low = ap (λ (v : World d.State). slice_index v.cpu.ram 8) same ∙ t.low in
            let high = ap (λ (v : World d.State). slice_index v.cpu.ram 9) same ∙ t.high in
            let off : IsStart w → ⊥ = λ at.
            (let tick : w.cpu.pc % 2048 ≡ 7 = start_place w at in omega (arith, tick, place)) in
            let b = back_step bytes has on (seen d w) w.cpu s.0 h.serving place low high s.1 in
            let rest = steps_first w next off (subst (λ v. Comes d TICK bytes v IsStart) (sym same) t.rest) step in
            inr (
              record { main = subst (IsMain on) s.2 b.0; rest = rest },
              ap (λ (c : Cpu). c.p1) (sym s.2) ∙ b.1,
              place,
            )
        by (suc n) some =
            let t = h.through in
            let s = step_of w next (stepped bytes (seen d w) w.cpu) step in
            let run : calm d TICK bytes (suc n) w ≡ Some t.done = ap (λ i. calm d TICK bytes i w) (sym some) ∙ t.run in
            let f = first_of n w t.done run in
            let same = same_next w f.next next f.step step in
            let lets : LetsNone bytes w.cpu = t.each 0 w (omega (arith, some)) refl in
            let g = serve_step bytes has on (seen d w) w.cpu s.0 h.serving lets s.1 in
            inl (
              record {
                serving = subst (IsServing on) s.2 g.0;
                through = record {
                  steps = n;
                  done = t.done;
                  run = subst (λ v. calm d TICK bytes n v ≡ Some t.done) same f.rest;
                  each = λ k one l at. t.each (suc k) one (omega (arith, l, some))
                      (calm_on k w next f.calm_here step ∙ at);
                  place = t.place;
                  low = t.low;
                  high = t.high;
                  rest = t.rest;
                };
              },
              λ late. subst (λ (c : Cpu). (is_later_than c.pc ≡ true) × (c.p1 ≡ w.cpu.p1)) s.2 (g.1 late),
            )

    -- from a start, with its way through the tick: the first step leads into the service
    pub begins_work : (w : World d.State) → IsServing on w.cpu → w.cpu.pc ≡ TICK → (p : Passes d bytes w)
        → Working p.first
    begins_work w h at p =
        let s = step_of w p.first (stepped bytes (seen d w) w.cpu) p.step in
        let r : Decoded = record { op = Moves (MovAN 192); len = 2; cycles = 2 } in
        let lets : LetsNone bytes w.cpu =
        record { row = r; is = ap (row_at bytes) at ∙ row_is bytes has TICK r refl; closed = refl } in
        record {
          serving = subst (IsServing on) s.2 (serve_step bytes has on (seen d w) w.cpu s.0 h lets s.1).0;
          through = p.through;
        }

    -- a state on the way to the next start, and one after the reading of the columns, where port 1 selects none
    abbrev pub Inside : World d.State → Type 0
    Inside w = Working w ⊎ (Resting w ⊎ IsStart w)

    abbrev pub After : World d.State → Type 0
    After w =
        (Working w × (is_later_than w.cpu.pc ≡ true) × (w.cpu.p1 ≡ 44))
        ⊎ ((Resting w × (w.cpu.p1 ≡ 44)) ⊎ (IsStart w × (w.cpu.p1 ≡ 44)))

    -- a tick start isn't a state without one
    pub no_start : (w : World d.State) → IsStart w → at_tick d TICK w ≡ false → ⊥
    no_start w at off = let both : true ≡ false = sym at ∙ off in cc

    inside_on : (w next : World d.State) → Inside w → at_tick d TICK w ≡ false → joint_step d bytes w ≡ Some next
        → Inside next
    inside_on w next (at_work h) off step = by (works_on w next h step)
      where
        by : WorksOn w next → Inside next
        by (inl g) = at_work g.0
        by (inr g) = at_rest g.0
    inside_on w next (at_rest h) off step = by (rests_on w next h step).0
      where
        by : Resting next ⊎ (IsServing on next.cpu × IsStart next) → Inside next
        by (inl g) = at_rest g
        by (inr g) = at_start g.1
    inside_on w next (at_start h) off step = absurd (no_start w h off)

    -- after the reading of the columns a step still selects none, up to the next tick start
    pub after_on : (w next : World d.State) → After w → at_tick d TICK w ≡ false → joint_step d bytes w ≡ Some next
        → After next
    after_on w next (at_work h) off step = by (works_on w next h.0 step)
      where
        by : WorksOn w next → After next
        by (inl g) = let k = g.1 h.1 in at_work (g.0, k.0, k.1 ∙ h.2)
        by (inr g) = at_rest (g.0, g.1 ∙ h.2)
    after_on w next (at_rest h) off step =
        let r = rests_on w next h.0 step in by r.0 (r.1 ∙ h.1)
      where
        by : Resting next ⊎ (IsServing on next.cpu × IsStart next) → next.cpu.p1 ≡ 44 → After next
        by (inl g) e = at_rest (g, e)
        by (inr g) e = at_start (g.1, e)
    after_on w next (at_start h) off step = absurd (no_start w h.0 off)

    -- after the reading of the columns port 1 selects none
    pub after_column : (w : World d.State) → After w → w.cpu.p1 ≡ 44
    after_column w (at_work h) = h.2
    after_column w (at_rest h) = h.1
    after_column w (at_start h) = h.1

    -- so it is along a run
    pub along : (P : World d.State → Type 0)
        → ((w next : World d.State) → P w → at_tick d TICK w ≡ false → joint_step d bytes w ≡ Some next → P next)
        → (k : ℕ) (w e : World d.State) → P w → calm d TICK bytes k w ≡ Some e → P e
    along P goes zero w e h run = let same : w ≡ e = cc in subst P same h
    along P goes (suc k) w e h run =
        let f = first_of k w e run in along P goes k f.next e (goes w f.next h f.calm_here f.step) f.rest

    -- after the last column
    pub at_offer : (w e : World d.State) (k : ℕ) → Working w → calm d TICK bytes k w ≡ Some e → e.cpu.pc ≡ OFFER
        → e.cpu.p1 ≡ 44 → After e
    at_offer w e k h run place column = by (along Inside inside_on k w e (at_work h) run)
      where
        by : Inside e → After e
        by (at_work g) = at_work (g, ap is_later_than place, column)
        by (at_rest g) = absurd (let none : true ≡ false = sym g.main.place ∙ ap in_main place in cc)
        by (at_start g) = absurd (let at : e.cpu.pc % 2048 ≡ 7 = start_place e g in omega (arith, at, place))
