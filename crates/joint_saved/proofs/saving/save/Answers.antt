use Rattle.std.proofs.Common.{◌≡◌, ◌≤◌, ℕ, List, [], ◌∷◌, ◌++◌, length, rules, refl, ap, subst, ◌∙◌}
use Rattle.int09.specs.Bios.{State}
use Rattle.joint_bytes.specs.Lists.{edges_bytes, items_bytes, words_bytes, words_in}
use Rattle.joint_saved.proofs.Loads.{loads}
use Rattle.joint_saved.proofs.Pieces.{add}
use Rattle.joint_saved.specs.Saved.{kept, machine_bytes}
use Rattle.joint_saved.proofs.saving.save.Goals as goal

pub returns-clause-bytes : goal.returns-clause-bytes
returns-clause-bytes c =
    let j = c.args.joint.now in
    let m : List ℕ = machine_bytes j c.args.rises c.args.lost in
    let n : List ℕ = length j.outside.desk.bios.words ∷ length c.args.edges.now ∷ length c.args.items.now ∷ [] in
    let w : List ℕ = words_bytes 15 j.outside.desk.bios.words in
    let e : List ℕ = edges_bytes 4 c.args.edges.now in
    let i : List ℕ = items_bytes 64 c.args.items.now in
    let words = c.as_slice.ensures.value ∙ c.words-words.ensures.words ∙ ap (λ (b : State). b.words) c.bios.ensures.bios in
    add (m ++ n ++ w ++ e ++ i ++ j.mcu.ram) j.image.bytes c.push-3.ensures.bytes
    (add (m ++ n ++ w ++ e ++ i) j.mcu.ram c.push-2.ensures.bytes
    (add (m ++ n ++ w ++ e) i c.push_items.ensures.bytes
    (add (m ++ n ++ w) e c.push_edges.ensures.bytes
    (add (m ++ n) w c.push_words.ensures.bytes
    (add m n c.push.ensures.bytes c.machine-bytes.ensures.bytes (search rules))
    (ap (λ s. words_bytes 15 s) words))
    refl)
    refl)
    (search rules))
    (search rules)

pub returns-clause-loaded : goal.returns-clause-loaded
returns-clause-loaded c =
    let j = c.args.joint.now in
    let words = c.as_slice.ensures.value ∙ c.words-words.ensures.words ∙ ap (λ (b : State). b.words) c.bios.ensures.bios in
    let bytes = returns-clause-bytes c in
    let few : length c.as_slice.result.now ≤ 15 = search rules in
    let many : length c.push-3.new.bytes.items ≡ 3077 = search rules in
    loads c.push-3.new.bytes.items (kept j c.args.edges.now c.args.items.now c.args.lost c.args.rises) bytes
    c.machine-bytes.ensures.read
    (record {
      words_few = subst (λ (s : List ℕ). length s ≤ 15) words few;
      edges_few = c.requires.edges;
      items_few = c.requires.items;
      words = subst (λ (s : List ℕ). words_in (length s) (words_bytes 15 s) ≡ s) words c.push_words.ensures.read;
      edges = c.push_edges.ensures.read;
      places = c.push_edges.ensures.places;
      items = c.push_items.ensures.read;
      ram = c.machine-bytes.ensures.memory;
      image = search rules;
      sound = c.parts-parts.ensures.sound;
      count = subst (λ (l : List ℕ). length l ≡ 3077) bytes many;
      rises = search rules;
      lost = search rules;
    })
