-- What is said of a state apart from what a path says: the timer, interrupts, and the sizes of what it keeps.
use Rattle.std.specs.Prelude.{◌≡◌, ◌≤◌, ◌<◌, ◌⊎◌, ℕ, ◌+◌, ◌*◌, Bool, true, false}
use Rattle.mcs48_isa.specs.declared.operation.Op.{Op}
use Rattle.mcs48_isa.specs.declared.operation.Op.TheVariants.{Moves, Flow, Control}
use Rattle.mcs48_isa.specs.declared.operation.MoveOp.TheVariants.{MovTA}
use Rattle.mcs48_isa.specs.declared.operation.FlowOp.TheVariants.{Retr, Jtf}
use Rattle.mcs48_isa.specs.declared.operation.ControlOp.TheVariants.{EnI, EnTcnti, DisTcnti, StrtT, StrtCnt, StopTcnt}
use Rattle.mcs48_core.specs.declared.processor.Count.{Count}
use Rattle.mcs48_core.specs.declared.processor.Count.TheVariants.{Timer}
use Rattle.mcs48_core.specs.Cpu.{Cpu}

-- no interrupt can come
abbrev pub IsFree : Cpu → Type 0
IsFree m = (m.svc ≡ true) ⊎ ((m.ext_on ≡ false) × (m.tim_on ≡ false))

-- lets no interrupt in
abbrev pub is_closed : Op → Bool
is_closed (Flow Retr) = false
is_closed (Control EnI) = false
is_closed (Control EnTcnti) = false
is_closed op = true

-- nor writes the timer
abbrev pub is_plain : Op → Bool
is_plain (Moves MovTA) = false
is_plain (Flow Retr) = false
is_plain (Flow (Jtf to)) = false
is_plain (Control EnI) = false
is_plain (Control EnTcnti) = false
is_plain (Control DisTcnti) = false
is_plain (Control StrtT) = false
is_plain (Control StrtCnt) = false
is_plain (Control StopTcnt) = false
is_plain op = true

-- the timer's parts
pub record TimerParts : Type 0 where
  pub t : ℕ
  pub pre : ℕ
  pub tf : Bool
  pub rq : Bool
  pub run : Count
  pub tim_on : Bool

abbrev pub timer_parts : Cpu → TimerParts
timer_parts m = record { t = m.t; pre = m.pre; tf = m.tf; rq = m.rq; run = m.run; tim_on = m.tim_on }

-- the timer as one count: the cycles since T and the prescaler were 0
abbrev pub total : TimerParts → ℕ
total k = 32 * k.t + k.pre

-- a timer that runs as a timer, and is in its bounds
pub record IsTiming (k : TimerParts) : Type 0 where
  pub run : k.run ≡ Timer
  pub pre : k.pre < 32
  pub t : k.t < 256

-- from an offset to a later one, and no overflow meanwhile
pub record IsLater (k e : TimerParts) (start stop : ℕ) : Type 0 where
  pub count : total e + start ≡ total k + stop
  pub timing : IsTiming e
  pub tf : e.tf ≡ k.tf
  pub rq : e.rq ≡ k.rq
  pub tim_on : e.tim_on ≡ k.tim_on

-- from an offset to a later one, however long it takes: an overflow asks for the enabled interrupt, and goes on asking
pub record IsAsking (k e : TimerParts) (start stop : ℕ) : Type 0 where
  pub timing : IsTiming e
  pub tim_on : e.tim_on ≡ true
  pub keeps : k.rq ≡ true → e.rq ≡ true
  pub asks : 8192 + start ≤ total k + stop → e.rq ≡ true
  pub counts : (overflows : ℕ) × (total e + start + 8192 * overflows ≡ total k + stop)
