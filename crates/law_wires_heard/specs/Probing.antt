-- What a probe that listens to the wires counts: the steps in which the controller takes, or sends, a byte.
use Rattle.std.specs.Prelude.{◌≡◌, ◌≤◌, ℕ, zero, suc, ◌-◌, Bool, false, ◌||◌, List, [], ◌∷◌, ◌++◌, if◌then◌else◌}
use Rattle.fw_compile.specs.Image.{image_of}
use Rattle.board_terms.specs.declared.transfer.Transfer.{Transfer}
use Rattle.run_probes.specs.declared.tally.Arms.{Arms}
use Rattle.run_probes.specs.Counts.{met_between, ear_between}
use Rattle.run_probes.specs.Probes.{Watch, heard_as, is_awaited}
use Rattle.run_probes.specs.Tallies.{armed}
use Rattle.joint_feed.specs.Stories.{Story, story_from}
use Rattle.key_file.specs.Accepted.{IsLawfulFor}
use Rattle.key_file.specs.Histories.{KeyHistory}
use Rattle.layout_reader.specs.Layouts.{KeyLayout, IsKeyLayout}
use Rattle.mcs48_core.specs.Cpu.{Cpu}
use Rattle.mcs48_ranges.specs.Sizes.{IsFine}
use Rattle.law_wires_heard.specs.Hearing.{heard_to}
use Rattle.law_wires_heard.specs.Passing.{passed_at}

-- whether arms await one of these bytes: the keyboard's if `a` is 0, the controller's if it is 1
abbrev pub is_among : Arms → List Transfer → Bool
is_among arms [] = false
is_among arms (t ∷ ts) = is_awaited arms t || is_among arms ts

-- of so many steps after step k those in which the controller takes, or sends, such a byte, in their order; they are
-- numbered from 1 on
abbrev pub passing_from : Story → Arms → ℕ → ℕ → List ℕ
passing_from s arms k zero = []
passing_from s arms k (suc more) =
    (if is_among arms (passed_at s k) then suc k ∷ [] else []) ++ passing_from s arms (suc k) more

-- a probe of the wires that has listened from power-on, and is armed after step k; at k = 0 it is armed at power-on,
-- and has heard nothing
abbrev pub armed_at : Story → ℕ → ℕ → ℕ → Watch
armed_at s k a b = heard_as (armed a b) (heard_to s k)

-- the steps that it meets up to step n, which are those it counts, are just these; and it has heard all
pub record CountsPassing (s : Story) (a b k n : ℕ) : Type 0 where
  pub steps : met_between s k n (armed_at s k a b) ≡ passing_from s (record { a = a; b = b }) k (n - k)
  pub hears : k ≤ n → ear_between s k n (armed_at s k a b) ≡ heard_to s n

-- for every layout and every history that is lawful for it, whatever the part held when it was switched on
abbrev pub ProbeLaw : Type 0
ProbeLaw =
    (layout : KeyLayout) (history : KeyHistory) (m : Cpu) → IsKeyLayout layout → IsLawfulFor layout history → IsFine m
    → (a b k n : ℕ) → CountsPassing (story_from m (image_of layout) history) a b k n
