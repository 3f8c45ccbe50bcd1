-- What a load read is what the bytes mean.
use Rattle.std.proofs.Common.{◌≡◌, ℕ, true, false, List, Some, None, Ok, Err, ap, sym, ◌∙◌, inr}
use Rattle.std.specs.Prelude.{IfErr, slice_index, slice_range}
use Rattle.std.specs.declared.option.Option.{Option}
use Rattle.std.specs.declared.result.Result.{Result}
use Rattle.ctl_link.specs.declared.link.Link.{Link}
use Rattle.ctl_wire.specs.declared.wire.Wire.{Wire}
use Rattle.joint_bytes.specs.Links.{link_in}
use Rattle.joint_bytes.specs.Lists.{edges_in, items_in}
use Rattle.mcs48_bytes.specs.Numbers.{number_at}
use Rattle.mcs48_bytes.specs.Processors.{processor_in}
use Rattle.joint_run.specs.declared.machine.Machine.{Machine}
use Rattle.mcs48_core.specs.Cpu.{Cpu}
use Rattle.joint_saved.specs.Saved.{HasMachine, HasNoMachine, Kept, is_sound, kept_by, kept_of}
use Rattle.joint_saved.specs.Saved.{machine_in, needs, with_some}
use Rattle.joint_saved.specs.declared.loading.Loaded.{Loaded}
use Rattle.joint_saved.specs.declared.unloaded.Unloaded.{Unloaded}
use Rattle.joint_saved.specs.declared.unloaded.Unloaded.TheVariants as U

-- what the bytes mean by the processor and the link that were read; by the processor, if there is a link
abbrev judged : List ℕ → Cpu → Link Wire → Result Kept Unloaded
judged b cpu link = needs (is_sound (kept_by b cpu link).joint) U.State (Ok (kept_by b cpu link))

abbrev linked : List ℕ → Option (Link Wire) → Cpu → Result Kept Unloaded
linked b o cpu = with_some o U.Link (judged b cpu)

abbrev cpu_of : List ℕ → Option Cpu
cpu_of b = processor_in (slice_range b 40 59) (slice_range b 901 1029)

abbrev link_of : List ℕ → Option (Link Wire)
link_of b = link_in (slice_range b 101 124)

-- bytes without a right processor mean no machine, and the fault is the processor's
pub no_processor : (b : List ℕ) → cpu_of b ≡ None → machine_in b ≡ Err U.Processor
no_processor b e = ap (λ o. with_some o U.Processor (linked b (link_of b))) e

by_processor : (b : List ℕ) (cpu : Cpu) → cpu_of b ≡ Some cpu → machine_in b ≡ linked b (link_of b) cpu
by_processor b cpu e = ap (λ o. with_some o U.Processor (linked b (link_of b))) e

-- bytes with a right processor and without a right link mean no machine, and the fault is the link's
pub no_link : (b : List ℕ) (cpu : Cpu) → cpu_of b ≡ Some cpu → link_of b ≡ None → machine_in b ≡ Err U.Link
no_link b cpu e f = by_processor b cpu e ∙ ap (λ o. linked b o cpu) f

by_both : (b : List ℕ) (cpu : Cpu) (link : Link Wire) → cpu_of b ≡ Some cpu → link_of b ≡ Some link
    → machine_in b ≡ judged b cpu link
by_both b cpu link e f = by_processor b cpu e ∙ ap (λ o. linked b o cpu) f

-- bytes whose processor and link are right, but not the whole state, mean no machine, and the fault is the state's
pub unsound : (b : List ℕ) (cpu : Cpu) (link : Link Wire) → cpu_of b ≡ Some cpu → link_of b ≡ Some link
    → is_sound (kept_by b cpu link).joint ≡ false → machine_in b ≡ Err U.State
unsound b cpu link e f g =
    by_both b cpu link e f ∙ ap (λ s. needs s U.State (Ok (kept_by b cpu link))) g

-- bytes whose processor, link and state are right mean that machine
pub a_machine : (b : List ℕ) (cpu : Cpu) (link : Link Wire) → cpu_of b ≡ Some cpu → link_of b ≡ Some link
    → is_sound (kept_by b cpu link).joint ≡ true → machine_in b ≡ Ok (kept_by b cpu link)
a_machine b cpu link e f g =
    by_both b cpu link e f ∙ ap (λ s. needs s U.State (Ok (kept_by b cpu link))) g

-- the machine of the bytes is had, or there was no memory for it
pub joint_is : (b : List ℕ) (cpu : Cpu) (link : Link Wire) (m : Machine) → cpu_of b ≡ Some cpu → link_of b ≡ Some link
    → is_sound (kept_by b cpu link).joint ≡ true → m ≡ (kept_by b cpu link).joint → HasMachine b m
joint_is b cpu link m e f g h = (cpu, link, a_machine b cpu link e f g, h)

-- if bytes mean a machine, no error is returned but that of memory
pub no_memory : (b : List ℕ) (cpu : Cpu) (link : Link Wire) (r : Result Machine Unloaded) → cpu_of b ≡ Some cpu
    → link_of b ≡ Some link → is_sound (kept_by b cpu link).joint ≡ true → IfErr r (λ fault. fault ≡ U.Memory)
    → IfErr r (HasNoMachine b)
no_memory b cpu link (Ok m) e f g h = tt
no_memory b cpu link (Err fault) e f g h = inr (kept_by b cpu link, a_machine b cpu link e f g, h)

-- the parts that were read are those of the bytes
pub are_kept : (b : List ℕ) (k : Loaded) → HasMachine b k.joint
    → k.edges.items ≡ edges_in (slice_index b 125) (slice_range b 157 197)
    → k.items.items ≡ items_in (slice_index b 126) (slice_range b 197 901)
    → k.lost ≡ number_at 32 b → k.rises ≡ number_at 24 b → machine_in b ≡ Ok (kept_of k)
are_kept b k m edges items lost rises =
    m.2 ∙ (λ i. Ok (record {
      joint = sym m.3 i;
      edges = sym edges i;
      items = sym items i;
      lost = sym lost i;
      rises = sym rises i;
    }))
