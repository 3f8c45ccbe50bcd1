-- A run of the processor, step by step.
use Rattle.std.proofs.Common.{◌≡◌, ℕ, zero, suc, ◌+◌, ◌-◌, ◌%◌, ◌<◌, List, Some, None, Ok, Err}
use Rattle.std.proofs.Common.{slice_index, ap, subst, sym, ◌∙◌, arith, add-one}
use Rattle.std.specs.declared.option.Option.{Option}
use Rattle.mcs48_core.specs.Cpu.{Cpu}
use Rattle.mcs48_core.specs.Step.{Stepped, stepped, IsStep}
use Rattle.mcs48_core.specs.declared.stepping.Stuck.{Stuck}
use Rattle.app_answers.specs.Stepping.{high, Progress, WentOn, Stopped, step_on, onward, after_steps}

-- a step that was made
holds_on : (bytes : List ℕ) (cpu new : Cpu) (cycles n : ℕ) (next : Option Stepped)
    → IsStep bytes cpu next (Ok n) new → step_on bytes cpu cycles next ≡ WentOn new (cycles + n)
holds_on bytes cpu new cycles n (Some next) h = let same : n ≡ next.cycles = cc in grind (arith, h.1, same)
holds_on bytes cpu new cycles n None h = absurd (cc)

-- a step that met a byte without an instruction
stops_on : (bytes : List ℕ) (cpu new : Cpu) (cycles : ℕ) (stuck : Stuck) (next : Option Stepped)
    → IsStep bytes cpu next (Err stuck) new → step_on bytes cpu cycles next ≡ Stopped stuck
stops_on bytes cpu new cycles stuck (Some next) h = absurd (cc)
stops_on bytes cpu new cycles stuck None h =
    let same : record { pc = cpu.pc; byte = slice_index bytes (cpu.pc % 2048) } ≡ stuck = cc in ap (λ s. Stopped s) same

after_more : (bytes : List ℕ) (k : ℕ) (p : Progress) → after_steps bytes k ≡ p → after_steps bytes (k + 1) ≡ onward bytes p
after_more bytes k p h = subst (λ (n : ℕ). after_steps bytes n ≡ onward bytes p) (sym (add-one k)) (ap (onward bytes) h)

-- one step more of the processor is one step more of the run, with its cycles
pub holds_after : (bytes : List ℕ) (k : ℕ) (cpu new : Cpu) (cycles n : ℕ) → after_steps bytes k ≡ WentOn cpu cycles
    → IsStep bytes cpu (stepped bytes high cpu) (Ok n) new → after_steps bytes (k + 1) ≡ WentOn new (cycles + n)
holds_after bytes k cpu new cycles n before h =
    after_more bytes k (WentOn cpu cycles) before ∙ holds_on bytes cpu new cycles n (stepped bytes high cpu) h

-- a run that has stopped stays where it is
stays : (bytes : List ℕ) (k more : ℕ) (stuck : Stuck) → after_steps bytes k ≡ Stopped stuck → after_steps bytes (k + more) ≡ Stopped stuck
stays bytes k zero stuck h = let same : k ≡ k + 0 = omega arith in subst (λ (n : ℕ). after_steps bytes n ≡ Stopped stuck) same h
stays bytes k (suc more) stuck h =
    let next : after_steps bytes (suc (k + more)) ≡ Stopped stuck = ap (onward bytes) (stays bytes k more stuck h) in
    let same : suc (k + more) ≡ k + suc more = omega arith in
    subst (λ (n : ℕ). after_steps bytes n ≡ Stopped stuck) same next

-- a run whose processor is stuck before so many steps stops there
pub stopped_after : (bytes : List ℕ) (k count : ℕ) (cpu new : Cpu) (cycles : ℕ) (stuck : Stuck) → k < count
    → after_steps bytes k ≡ WentOn cpu cycles
    → IsStep bytes cpu (stepped bytes high cpu) (Err stuck) new → after_steps bytes count ≡ Stopped stuck
stopped_after bytes k count cpu new cycles stuck below before h =
    let stopped = after_more bytes k (WentOn cpu cycles) before ∙ stops_on bytes cpu new cycles stuck (stepped bytes high cpu) h in
    let same : k + 1 + (count - (k + 1)) ≡ count = omega (arith, below) in
    subst (λ (n : ℕ). after_steps bytes n ≡ Stopped stuck) same (stays bytes (k + 1) (count - (k + 1)) stuck stopped)
