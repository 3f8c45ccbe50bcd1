-- What is saved of a keyboard is loaded from its bytes.
use Rattle.std.proofs.Common.{◌≡◌, ◌<◌, ◌≤◌, ◌^◌, ◌==◌, ◌&&◌, ◌++◌, ℕ, Bool, true, false, List, take, drop, length, Ok}
use Rattle.std.proofs.Common.{refl, ap, ◌∙◌, arith}
use Rattle.std.specs.Prelude.{nat_le, slice_range}
use Rattle.std.specs.declared.option.Option.{Option}
use Rattle.std.specs.declared.result.Result.{Result}
use Rattle.std.specs.Int.{w64, to_le_bytes, from_le_bytes}
use Rattle.std.proofs.lemmas.Bool.Decides.{nat_tests}
use Rattle.std.proofs.lemmas.List.{drop-append-le, drop_all, take-append-le, take_all}
use Rattle.std.proofs.lemmas.Nat.{from_le_bytes-to_le_bytes_8}
use Rattle.ctl_link.specs.declared.link.Link.{Link}
use Rattle.ctl_wire.specs.declared.wire.Wire.{Wire}
use Rattle.joint_bytes.specs.Links.{link_in}
use Rattle.joint_bytes.specs.Lists.{edges_bytes, edges_in, have_places, items_bytes, items_in, words_bytes, words_in}
use Rattle.mcs48_bytes.specs.Processors.{processor_in}
use Rattle.joint_bytes.specs.Sides.{controller_bytes, side_bytes, side_in}
use Rattle.joint_run.specs.Sound.{IsSound}
use Rattle.joint_run.specs.declared.machine.Machine.{Machine}
use Rattle.mcs48_core.specs.Cpu.{Cpu}
use Rattle.joint_saved.specs.Saved.{IsRead, Kept, checked, counts_fit, is_sound, kept_by, loaded, loaded_by, machine_in}
use Rattle.joint_saved.specs.Saved.{needs, saved_bytes, with_some}
use Rattle.joint_saved.specs.declared.unloaded.Unloaded.{Unloaded}
use Rattle.joint_saved.specs.declared.unloaded.Unloaded.TheVariants as U

needs_met : {X : Type 0} (met : Bool) (fault : Unloaded) (r : Result X Unloaded) → met ≡ true → needs met fault r ≡ r
needs_met true fault r e = refl
needs_met false fault r e = absurd cc

-- of two lists the first, and the other
front : (xs ys : List ℕ) (n : ℕ) → length xs ≡ n → take n (xs ++ ys) ≡ xs
front xs ys n e = take-append-le n xs ys (omega (arith, e)) ∙ take_all n xs (omega (arith, e))

back : (xs ys : List ℕ) (n : ℕ) → length xs ≡ n → drop n (xs ++ ys) ≡ ys
back xs ys n e = drop-append-le n xs ys (omega (arith, e)) ∙ ap (λ l. l ++ ys) (drop_all n xs (omega (arith, e)))

-- what is known of the lists
pub record AreKept (k : Kept) : Type 0 where
  pub words_few : length k.joint.outside.desk.bios.words ≤ 15
  pub edges_few : length k.edges ≤ 4
  pub items_few : length k.items ≤ 64
  pub words : words_in (length k.joint.outside.desk.bios.words) (words_bytes 15 k.joint.outside.desk.bios.words)
      ≡ k.joint.outside.desk.bios.words
  pub edges : edges_in (length k.edges) (edges_bytes 4 k.edges) ≡ k.edges
  pub places : have_places (length k.edges) (edges_bytes 4 k.edges) ≡ true
  pub items : items_in (length k.items) (items_bytes 64 k.items) ≡ k.items
  pub ram : length k.joint.mcu.ram ≡ 128
  pub image : length k.joint.image.bytes ≡ 2048
  pub sound : IsSound k.joint
  pub count : length (saved_bytes k) ≡ 3077
  pub rises : k.rises < 2 ^ 64
  pub lost : k.lost < 2 ^ 64

kept_read : (k : Kept) → IsRead k.joint → AreKept k → kept_by (saved_bytes k) k.joint.mcu k.joint.outside.desk.port.link ≡ k
kept_read k r a =
    let b : List ℕ = saved_bytes k in
    let ram = k.joint.mcu.ram in
    let image : slice_range b 1029 3077 ≡ k.joint.image.bytes =
    ap (λ (l : List ℕ). take 2048 l) (back ram k.joint.image.bytes 128 a.ram)
    ∙ take_all 2048 k.joint.image.bytes (let n = a.image in omega (arith, n)) in
    let cycle : from_le_bytes w64 (to_le_bytes w64 k.joint.cycle) ≡ k.joint.cycle = from_le_bytes-to_le_bytes_8 k.joint.cycle r.cycle in
    let steps : from_le_bytes w64 (to_le_bytes w64 k.joint.steps) ≡ k.joint.steps = from_le_bytes-to_le_bytes_8 k.joint.steps r.steps in
    let rises : from_le_bytes w64 (to_le_bytes w64 k.rises) ≡ k.rises = from_le_bytes-to_le_bytes_8 k.rises a.rises in
    let lost : from_le_bytes w64 (to_le_bytes w64 k.lost) ≡ k.lost = from_le_bytes-to_le_bytes_8 k.lost a.lost in
    let outside =
    ap (λ (ws : List ℕ). side_in (controller_bytes k.joint.outside.desk.port.core) (side_bytes k.joint.outside)
    k.joint.outside.desk.port.link ws) a.words ∙ r.side in
    let keys = r.keys in
    let edges = a.edges in
    let items = a.items in
    λ i. record {
      joint = record {
        image = record { bytes = image i };
        matrix = keys i;
        mcu = k.joint.mcu;
        outside = outside i;
        cycle = cycle i;
        steps = steps i;
      };
      edges = edges i;
      items = items i;
      lost = lost i;
      rises = rises i;
    }

both_met : (a b : Bool) → a ≡ true → b ≡ true → (a && b) ≡ true
both_met true b e f = f
both_met false b e f = absurd cc

is_same : (m n : ℕ) → m ≡ n → (m == n) ≡ true
is_same m n e = grind (arith, nat_tests, e)

is_most : (m n : ℕ) → m ≤ n → nat_le m n ≡ true
is_most m n l = grind (arith, nat_tests, l)

counts : (k : Kept) → AreKept k → counts_fit (saved_bytes k) ≡ true
counts k a =
    both_met _ _ (both_met _ _ (is_most (length k.joint.outside.desk.bios.words) 15 a.words_few)
    (is_most (length k.edges) 4 a.edges_few)) (is_most (length k.items) 64 a.items_few)

checks : (k : Kept) → AreKept k → checked (saved_bytes k) ≡ Ok tt
checks k a =
    needs_met _ U.Length _ (is_same (length (saved_bytes k)) 3077 a.count) ∙ needs_met true U.Format _ refl
    ∙ needs_met true U.Version _ refl ∙ needs_met _ U.Counts _ (counts k a) ∙ needs_met _ U.Keys _ a.places

sound : (m : Machine) → IsSound m → is_sound m ≡ true
sound m s = both_met _ _ (is_most m.steps m.cycle s.steps) s.empty

reads : (k : Kept) → IsRead k.joint → AreKept k → machine_in (saved_bytes k) ≡ Ok k
reads k r a =
    let b : List ℕ = saved_bytes k in
    let link = k.joint.outside.desk.port.link in
    let rest : Cpu → Result Kept Unloaded =
    (λ cpu. with_some (link_in (slice_range b 101 124)) U.Link (λ l. needs (is_sound (kept_by b cpu l).joint) U.State (Ok (kept_by b cpu l)))) in
    let kept = kept_read k r a in
    ap (λ (ram : List ℕ). with_some (processor_in (slice_range b 40 59) ram) U.Processor rest)
    (front k.joint.mcu.ram k.joint.image.bytes 128 a.ram)
    ∙ ap (λ (o : Option Cpu). with_some o U.Processor rest) r.processor
    ∙ ap (λ (o : Option (Link Wire)). with_some o U.Link
    (λ l. needs (is_sound (kept_by b k.joint.mcu l).joint) U.State (Ok (kept_by b k.joint.mcu l)))) r.link
    ∙ needs_met (is_sound (kept_by b k.joint.mcu link).joint) U.State (Ok (kept_by b k.joint.mcu link))
    (ap (λ (x : Kept). is_sound x.joint) kept ∙ sound k.joint a.sound)
    ∙ ap (λ (x : Kept). Ok x) kept

-- what is saved of a keyboard is loaded from its bytes
pub loads : (x : List ℕ) (k : Kept) → x ≡ saved_bytes k → IsRead k.joint → AreKept k → loaded x ≡ Ok k
loads x k e r a =
    ap loaded e ∙ ap (λ (o : Result (Unit {0}) Unloaded). loaded_by o (saved_bytes k)) (checks k a) ∙ reads k r a
