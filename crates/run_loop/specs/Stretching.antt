-- Steps that are made at once: quiet ones, and then one of any kind.
use Rattle.std.specs.Prelude.{◌≡◌, ◌<◌, ℕ, ◌+◌, ◌-◌, Bool, true, false, []}
use Rattle.std.specs.declared.result.Result.{Result}
use Rattle.board_terms.specs.declared.lines.Lines.{Lines}
use Rattle.run_probes.specs.Probes.{sight_of}
use Rattle.fw_kernel.specs.declared.labels.TheConstants.{TICK}
use Rattle.joint_feed.specs.declared.course.Course.{Course}
use Rattle.joint_glide.specs.Still.{IsNoted, first_stir}
use Rattle.joint_glide.specs.Uneventful.{HasGone, HasGoneFar}
use Rattle.joint_glide.specs.declared.going.TheConstants.{NOWHERE}
use Rattle.joint_run.specs.declared.due.Seen.{Seen}
use Rattle.mcs48_core.specs.declared.stepping.Stuck.{Stuck}
use Rattle.run_loop.specs.declared.ending.Ending.{Ending}
use Rattle.run_loop.specs.declared.ending.Ending.TheVariants.{TickStart, Stamp}
use Rattle.run_loop.specs.declared.ending.Halt.{Halt}
use Rattle.run_loop.specs.Answers.{MeetsNoTick, DecidesOver}

-- the place of the program at which quiet steps end: the tick's if the run ends at a tick start, and else none
abbrev pub halting_place : Ending → ℕ
halting_place TickStart = TICK
halting_place Stamp = NOWHERE

-- how many cycles quiet steps may take together: more than there are between two tick starts, or all before the end
abbrev pub most_cycles : Ending → (stop cycle : ℕ) → ℕ
most_cycles TickStart stop cycle = 65536
most_cycles Stamp stop cycle = 4096 - 1 + stop - cycle

-- no step up to a cycle leads to a halt, if none of them leads to a place
abbrev pub NoneHalts : Ending → (stop place to : ℕ) → Type 0
NoneHalts TickStart stop place to = place ≡ TICK
NoneHalts Stamp stop place to = to < 4096 + stop

-- quiet steps were made, none of which leads to a halt, and none at all if probes don't rest; and then one of any
-- kind, or the processor was stuck
pub record HasMade (u : Halt) (rest : Bool) (old : Course) (result : Result Seen Stuck) (new : Course) : Type 0 where
  pub place : ℕ
  pub most : ℕ
  pub before_halt : NoneHalts u.ending u.stop place (old.joint.cycle + most)
  pub gone : HasGone old.ahead.due place most old.joint result new.joint
  pub alone : rest ≡ false → gone.count ≡ 0
  pub ahead : new.ahead ≡ old.ahead

-- steps went on up to the first cycle in which something may happen outside the processor, or to one that wrote port 2,
-- or to the place at which they end
abbrev pub HasMadeFar : Halt → Course → Course → Type 0
HasMadeFar u old new =
    IsNoted old.joint
    → HasGoneFar (halting_place u.ending) (first_stir old.ahead.due old.joint (most_cycles u.ending u.stop old.joint.cycle)) old.joint new.joint

-- the next step can follow at once: the last one took no event, said nothing, and led to no halt and to no change of
-- wires that are sampled
pub record CanFollow (u : Halt) (lines : Lines) (c : Course) : Type 0 where
  pub edges : c.seen.edges ≡ 0
  pub host : c.seen.host ≡ 0
  pub items : c.seen.items.items ≡ []
  pub before_end : DecidesOver u.ending c.joint u.stop false
  pub no_tick : MeetsNoTick u.ending c.joint
  pub levels : u.wires ≡ true → (sight_of c.joint).lines ≡ lines
