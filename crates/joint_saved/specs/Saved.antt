-- A saved keyboard: 3,077 bytes. Numbers of more than a byte have their lowest byte first; a truth value is 1 or 0. A part
-- of which there are fewer than there are places for is followed by zeros.
--
-- | from | bytes | what it is |
-- | 0 | 8 | KBD48SV, and the version, 1 |
-- | 8 | 8 | the cycle |
-- | 16 | 8 | the joint steps so far |
-- | 24 | 8 | the rises of the interrupt line in the last run or call of the host's that wasn't refused |
-- | 32 | 8 | the items that were lost and not reported yet |
-- | 40 | 19 | the processor (mcs48_bytes, Processors) |
-- | 59 | 12 | the columns of the matrix: bit k is row k, 0 for down |
-- | 71 | 11 | the controller (joint_bytes, Sides) |
-- | 82 | 19 | what else is outside the processor (joint_bytes, Sides) |
-- | 101 | 23 | the link (joint_bytes, Links) |
-- | 124 | 3 | how many words, edges and items follow |
-- | 127 | 30 | the words of INT 09h, 15 places of 2 bytes |
-- | 157 | 40 | the edges of keys that wait for a step, 4 places of 10 bytes (joint_bytes, Lists) |
-- | 197 | 704 | the items that are kept, 64 places of 11 bytes (joint_bytes, Lists) |
-- | 901 | 128 | data memory |
-- | 1029 | 2048 | the program |
use Rattle.std.specs.Prelude.{◌≡◌, ◌<◌, ℕ, ◌%◌, ◌^◌, ◌==◌, ◌&&◌, ◌⊎◌, Bool, nat_le, if◌then◌else◌}
use Rattle.std.specs.Prelude.{List, [], ◌∷◌, ◌++◌, length, slice_index, slice_range, Some, None, Ok, Err}
use Rattle.std.specs.declared.option.Option.{Option}
use Rattle.std.specs.declared.result.Result.{Result}
use Rattle.std.specs.Int.{w64, to_le_bytes}
use Rattle.board_terms.specs.Columns.{keys_in}
use Rattle.board_terms.specs.Matrix.{rows_of}
use Rattle.board_terms.specs.declared.event.Edge.{Edge}
use Rattle.ctl_link.specs.Empty.{fits}
use Rattle.ctl_link.specs.declared.link.Link.{Link}
use Rattle.ctl_wire.specs.declared.wire.Wire.{Wire}
use Rattle.live_items.specs.declared.happened.Happened.{Happened}
use Rattle.joint_bytes.specs.Links.{link_bytes, link_in}
use Rattle.joint_bytes.specs.Lists.{edges_bytes, edges_in, have_places, items_bytes, items_in, words_bytes, words_in}
use Rattle.mcs48_bytes.specs.Numbers.{number_at}
use Rattle.mcs48_bytes.specs.Processors.{processor_bytes, processor_in}
use Rattle.joint_bytes.specs.Sides.{controller_bytes, side_bytes, side_in}
use Rattle.joint_run.specs.declared.machine.Machine.{Machine}
use Rattle.mcs48_core.specs.Cpu.{Cpu}
use Rattle.joint_saved.specs.declared.loading.Loaded.{Loaded}
use Rattle.joint_saved.specs.declared.unloaded.Unloaded.{Unloaded}
use Rattle.joint_saved.specs.declared.unloaded.Unloaded.TheVariants as U

-- what is saved of a keyboard: its machine, the edges that wait, the items that are kept and how many were lost, and the
-- rises
pub record Kept : Type 0 where
  pub joint : Machine
  pub edges : List Edge
  pub items : List Happened
  pub lost : ℕ
  pub rises : ℕ

abbrev pub kept : Machine → List Edge → List Happened → ℕ → ℕ → Kept
kept joint edges items lost rises = record { joint = joint; edges = edges; items = items; lost = lost; rises = rises }

abbrev pub kept_of : Loaded → Kept
kept_of k = kept k.joint k.edges.items k.items.items k.lost k.rises

-- KBD48SV as a number of 7 bytes
abbrev pub magic : ℕ
magic = 0x5653383444424B

-- the rows of each column
abbrev pub columns_of : List Bool → List ℕ
columns_of keys =
    rows_of keys 0 ∷ rows_of keys 1 ∷ rows_of keys 2 ∷ rows_of keys 3 ∷ rows_of keys 4 ∷ rows_of keys 5
    ∷ rows_of keys 6 ∷ rows_of keys 7 ∷ rows_of keys 8 ∷ rows_of keys 9 ∷ rows_of keys 10 ∷ rows_of keys 11 ∷ []

-- the name, the version and the numbers: the cycle, the steps, the rises, and how many items were lost
abbrev pub number_bytes : ℕ → ℕ → ℕ → ℕ → List ℕ
number_bytes cycle steps rises lost =
    0x4B ∷ 0x42 ∷ 0x44 ∷ 0x34 ∷ 0x38 ∷ 0x53 ∷ 0x56 ∷ 1 ∷ to_le_bytes w64 cycle
    ++ to_le_bytes w64 steps ++ to_le_bytes w64 rises ++ to_le_bytes w64 lost

-- these, and the machine's parts but for the words, data memory and the program
abbrev pub machine_bytes : Machine → ℕ → ℕ → List ℕ
machine_bytes m rises lost =
    number_bytes m.cycle m.steps rises lost ++ processor_bytes m.mcu ++ columns_of m.matrix
    ++ controller_bytes m.outside.desk.port.core ++ side_bytes m.outside ++ link_bytes m.outside.desk.port.link

abbrev pub saved_bytes : Kept → List ℕ
saved_bytes k =
    machine_bytes k.joint k.rises k.lost
    ++ length k.joint.outside.desk.bios.words ∷ length k.edges ∷ length k.items ∷ []
    ++ words_bytes 15 k.joint.outside.desk.bios.words ++ edges_bytes 4 k.edges ++ items_bytes 64 k.items
    ++ k.joint.mcu.ram ++ k.joint.image.bytes

-- each part is read from its bytes, and each number has no more bits than there is room for
pub record IsRead (m : Machine) : Type 0 where
  pub cycle : m.cycle < 2 ^ 64
  pub steps : m.steps < 2 ^ 64
  pub processor : processor_in (processor_bytes m.mcu) m.mcu.ram ≡ Some m.mcu
  pub keys : keys_in (columns_of m.matrix) ≡ m.matrix
  pub side : side_in (controller_bytes m.outside.desk.port.core) (side_bytes m.outside) m.outside.desk.port.link
      m.outside.desk.bios.words ≡ m.outside
  pub link : link_in (link_bytes m.outside.desk.port.link) ≡ Some m.outside.desk.port.link

-- how many words, edges and items there may be
abbrev pub counts_fit : List ℕ → Bool
counts_fit b = nat_le (slice_index b 124) 15 && nat_le (slice_index b 125) 4 && nat_le (slice_index b 126) 64

-- what the bytes mean, by the processor and the link
abbrev pub kept_by : List ℕ → Cpu → Link Wire → Kept
kept_by b cpu link = record {
  joint = record {
    image = record { bytes = slice_range b 1029 3077 };
    matrix = keys_in (slice_range b 59 71);
    mcu = cpu;
    outside = side_in (slice_range b 71 82) (slice_range b 82 101) link (words_in (slice_index b 124) (slice_range b 127 157));
    cycle = number_at 8 b;
    steps = number_at 16 b;
  };
  edges = edges_in (slice_index b 125) (slice_range b 157 197);
  items = items_in (slice_index b 126) (slice_range b 197 901);
  lost = number_at 32 b;
  rises = number_at 24 b;
}

-- each step took a cycle at least, and the output buffer is empty unless the controller holds the keyboard off
abbrev pub is_sound : Machine → Bool
is_sound m = nat_le m.steps m.cycle && fits m.outside.desk.port.core.output_full m.outside.desk.port.link

-- a condition, or else a fault; what is read, or else a fault
abbrev pub needs : {X : Type 0} → Bool → Unloaded → Result X Unloaded → Result X Unloaded
needs met fault result = if met then result else Err fault

abbrev pub with_some : {X Y : Type 0} → Option X → Unloaded → (X → Result Y Unloaded) → Result Y Unloaded
with_some None fault f = Err fault
with_some (Some x) fault f = f x

-- what bytes mean, or the first of these faults that they have
abbrev pub checked : List ℕ → Result (Unit {0}) Unloaded
checked b =
    needs (length b == 3077) U.Length (needs (number_at 0 b % 2 ^ 56 == magic) U.Format
    (needs (slice_index b 7 == 1) U.Version (needs (counts_fit b) U.Counts
    (needs (have_places (slice_index b 125) (slice_range b 157 197)) U.Keys (Ok tt)))))

abbrev pub machine_in : List ℕ → Result Kept Unloaded
machine_in b =
    with_some (processor_in (slice_range b 40 59) (slice_range b 901 1029)) U.Processor (λ cpu.
    with_some (link_in (slice_range b 101 124)) U.Link (λ link.
    needs (is_sound (kept_by b cpu link).joint) U.State (Ok (kept_by b cpu link))))

abbrev pub loaded_by : Result (Unit {0}) Unloaded → List ℕ → Result Kept Unloaded
loaded_by (Ok done) b = machine_in b
loaded_by (Err fault) b = Err fault

abbrev pub loaded : List ℕ → Result Kept Unloaded
loaded b = loaded_by (checked b) b

-- the machine of bytes that were checked, and why they have none
abbrev pub HasMachine : List ℕ → Machine → Type 0
HasMachine b joint = (cpu : Cpu) × (link : Link Wire) × (machine_in b ≡ Ok (kept_by b cpu link)) × (joint ≡ (kept_by b cpu link).joint)

abbrev pub HasNoMachine : List ℕ → Unloaded → Type 0
HasNoMachine b fault = (machine_in b ≡ Err fault) ⊎ ((k : Kept) × (machine_in b ≡ Ok k) × (fault ≡ U.Memory))

-- why bytes were refused: what they lack first; or they mean a keyboard, and there was no memory for it
abbrev pub IsUnloaded : List ℕ → Unloaded → Type 0
IsUnloaded b fault = (loaded b ≡ Err fault) ⊎ ((k : Kept) × (loaded b ≡ Ok k) × (fault ≡ U.Memory))
