-- The falls of a frame's cells, 32 cycles apart: eleven of them are a transfer, by their data.
use Rattle.std.proofs.Common.{◌≡◌, ◌≤◌, ℕ, suc, zero, ◌+◌, ◌-◌, ◌*◌, List, [], ◌∷◌}
use Rattle.std.proofs.Common.{◌++◌, length, drop, Bool, true, ◌&&◌, ◌==◌}
use Rattle.std.proofs.Common.{None, if◌then◌else◌, refl, ap, ◌∙◌, arith, length-append}
use Rattle.std.proofs.lemmas.List.{append_assoc, drop-append-le}
use Rattle.run_probes.specs.Transfers.{are_spaced, are_spaced_after}
use Rattle.run_probes.specs.Transfers.{transfer_by, transfer_in, with_fall}
use Rattle.run_probes.specs.declared.heard.Fall.{Fall}
use Rattle.law_fw_link.proofs.Watching.{same_number}

-- falls that are 32 cycles apart, from this cycle on
abbrev falls_from : ℕ → (ℕ → Bool) → ℕ → ℕ → List Fall
falls_from start_cycle dat cell zero = []
falls_from start_cycle dat cell (suc more) =
    record { cycle = start_cycle + (290 + 32 * cell); dat = dat cell } ∷ falls_from start_cycle dat (suc cell) more

spaced_from : (start_cycle : ℕ) (dat : ℕ → Bool) (more cell : ℕ)
    → are_spaced_after (start_cycle + (290 + 32 * cell)) (falls_from start_cycle dat (suc cell) more) ≡ true
spaced_from start_cycle dat zero cell = refl
spaced_from start_cycle dat (suc more) cell =
    let apart : (start_cycle + (290 + 32 * suc cell) == start_cycle + (290 + 32 * cell) + 32) ≡ true =
    same_number (start_cycle + (290 + 32 * suc cell)) (start_cycle + (290 + 32 * cell) + 32) (omega arith) in
    ap (λ spaced. spaced && are_spaced_after (start_cycle + (290 + 32 * suc cell)) (falls_from start_cycle dat (suc (suc cell)) more))
    apart ∙ spaced_from start_cycle dat more (suc cell)

-- the falls of the first cells of a frame
abbrev pub cell_falls : ℕ → (ℕ → Bool) → ℕ → List Fall
cell_falls start_cycle dat zero = []
cell_falls start_cycle dat (suc cell) =
    cell_falls start_cycle dat cell ++ record { cycle = start_cycle + (290 + 32 * cell); dat = dat cell } ∷ []

cells_many : (start_cycle : ℕ) (dat : ℕ → Bool) (cell : ℕ) → length (cell_falls start_cycle dat cell) ≡ cell
cells_many start_cycle dat zero = refl
cells_many start_cycle dat (suc cell) =
    let as_many : length (cell_falls start_cycle dat cell) ≡ cell = cells_many start_cycle dat cell in
    let longer : length (cell_falls start_cycle dat (suc cell)) ≡ length (cell_falls start_cycle dat cell) + 1 =
    length-append (cell_falls start_cycle dat cell) (record { cycle = start_cycle + (290 + 32 * cell); dat = dat cell } ∷ []) in
    omega (arith, as_many, longer)

abbrev pub eleven_of : (ℕ → Bool) → List Bool
eleven_of dat = dat 0 ∷ dat 1 ∷ dat 2 ∷ dat 3 ∷ dat 4 ∷ dat 5 ∷ dat 6 ∷ dat 7 ∷ dat 8 ∷ dat 9 ∷ dat 10 ∷ []

-- eleven of them are a transfer by their data
pub transfer_is : (start_cycle : ℕ) (dat : ℕ → Bool) → transfer_by (cell_falls start_cycle dat 11) ≡ transfer_in (eleven_of dat)
transfer_is start_cycle dat =
    let spaced : are_spaced (falls_from start_cycle dat 0 11) ≡ true = spaced_from start_cycle dat 10 0 in
    let same : are_spaced (cell_falls start_cycle dat 11) ≡ true = spaced in
    ap (λ are. if are then transfer_in (eleven_of dat) else None) same

-- with one more
pub with_cell : (start_cycle : ℕ) (dat : ℕ → Bool) (cell : ℕ) (earlier : List Fall) → cell ≤ 10
    → with_fall (record { cycle = start_cycle + (290 + 32 * cell); dat = dat cell }) (earlier ++ cell_falls start_cycle dat cell)
    ≡ drop (length earlier + cell - 10) earlier ++ cell_falls start_cycle dat (suc cell)
with_cell start_cycle dat cell earlier few =
    let fall : Fall = record { cycle = start_cycle + (290 + 32 * cell); dat = dat cell } in
    let so_far : List Fall = cell_falls start_cycle dat cell in
    let many : length so_far ≡ cell = cells_many start_cycle dat cell in
    let longer : length (earlier ++ so_far) ≡ length earlier + length so_far = length-append earlier so_far in
    let dropped : length (earlier ++ so_far) - 10 ≡ length earlier + cell - 10 = omega (arith, many, longer) in
    ap (λ count. drop count (earlier ++ so_far) ++ fall ∷ []) dropped
    ∙ ap (λ falls. falls ++ fall ∷ []) (drop-append-le (length earlier + cell - 10) earlier so_far (omega (arith, few)))
    ∙ append_assoc (drop (length earlier + cell - 10) earlier) so_far (fall ∷ [])
