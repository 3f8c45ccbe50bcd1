-- What a call of the whole program says.
use Rattle.std.specs.Prelude.{◌≡◌, ℕ, List, [], ◌∷◌, Some}
use Rattle.std.specs.declared.option.Option.{Option}
use Rattle.io_edge.specs.MemorySink.{HeldBytes}
use Rattle.io_edge.specs.Said.{Shown}
use Rattle.io_edge.specs.Shelf.{Shelved}
use Rattle.run_probes.specs.Probes.{Watch, address_kind, cell_kind, line_kind, register_kind, unarmed}
use Rattle.kbd48_app.specs.Answers.{MayAnswer}
use Rattle.app_words.specs.Exits.{status_of}
use Rattle.app_answers.specs.FileAnswers.{Answer}
use Rattle.app_answers.specs.Says.{Says}
use Rattle.app_answers.specs.Taking.{taking_of}
use Rattle.app_words.specs.declared.exit.Exit.{Exit}

-- the probes of the program, of which none is armed
abbrev pub new_probes : List Watch
new_probes = unarmed address_kind ∷ unarmed register_kind ∷ unarmed cell_kind ∷ unarmed line_kind ∷ []

-- a sink in memory as the program sees it
abbrev pub shown : HeldBytes → Shown
shown sink = record { taken = Some sink.taken; in_memory = Some sink; faults = sink.faults }

-- one that has taken nothing, and never fails unless its room is full
abbrev pub IsEmpty : ℕ → HeldBytes → Type 0
IsEmpty room sink = (sink.taken ≡ []) × (sink.room ≡ room) × (sink.fails ≡ []) × (sink.faults ≡ 0)

-- of these words, over this shelf, with these probes: the program answers what it may answer, says it, and ends with this
-- exit; the sink was like the first, and is like the last
pub record HasSaid (words : List (List ℕ)) (shelf : Shelved) (probes : List Watch) (first last : HeldBytes) (exit : Exit) : Type 0 where
  pub log : List ℕ
  pub answer : Answer
  pub after : Option Shelved
  pub left : List Watch
  pub may : MayAnswer words (Some shelf) answer after probes
      (record { probes = left; taking = taking_of exit (shown first) (shown last); log = log })
  pub says : Says log answer (shown first) (shown last) exit

-- the text that the sink has taken, and the status of the exit
abbrev pub IsCall : List (List ℕ) → Shelved → ℕ → List ℕ → ℕ → Type 0
IsCall words shelf room text status =
    (first : HeldBytes) × (last : HeldBytes) × (exit : Exit) × IsEmpty room first
    × HasSaid words shelf new_probes first last exit × (text ≡ last.taken) × (status ≡ status_of exit)
