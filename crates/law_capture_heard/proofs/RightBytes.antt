-- The byte of eleven falls that are a transfer is right.
use Rattle.std.proofs.Common.{◌≡◌, ℕ, Bool, true, false, not, ◌&&◌, List, [], ◌∷◌}
use Rattle.std.proofs.Common.{None, Some, refl, ap, sym, ◌∙◌}
use Rattle.std.specs.Prelude.{drop, if◌then◌else◌, take}
use Rattle.std.specs.declared.option.Option.{Option}
use Rattle.bits.proofs.Every.{and-left, and-right}
use Rattle.run_probes.specs.Transfers.{is_hosts, is_keyboards, transfer_in}
use Rattle.board_terms.specs.declared.transfer.Transfer.{Transfer}
use Rattle.board_terms.specs.Bits.{is_odd, value}
use Rattle.capture_frames.specs.declared.finding.Finding.{Finding}
use Rattle.capture_frames.specs.declared.finding.Finding.TheVariants.{Byte}
use Rattle.capture_frames.specs.Frames.{whole}
use Rattle.law_wires_heard.proofs.CellFalls.{eleven_of}
use Rattle.law_wires_heard.specs.Hearing.{listed}
use Rattle.law_capture_heard.specs.Found.{right}
use Rattle.law_capture_heard.proofs.Gathered.{first_frame, gathered}

unlist : (a b : Transfer) → a ∷ [] ≡ b ∷ [] → a ≡ b
unlist a b h = cc

is_low : (b : Bool) → not b ≡ true → b ≡ false
is_low true h = absurd cc
is_low false h = refl

module _ (dat : ℕ → Bool) (t : Transfer) (is : listed (transfer_in (eleven_of dat)) ≡ t ∷ []) where
  abbrev f : List Bool
  f = eleven_of dat

  abbrev keyboards : Transfer
  keyboards = record { from_host = false; byte = value (take 8 (drop 1 f)) }

  abbrev hosts : Transfer
  hosts = record { from_host = true; byte = value (take 8 f) }

  abbrev chosen : Bool → Bool → Option Transfer
  chosen a b = if a then Some keyboards else (if b then Some hosts else None)

  -- it is one from the keyboard, or from the host
  by_keyboard : t.from_host ≡ false → (is_keyboards f ≡ true) × (keyboards ≡ t)
  by_keyboard sender = by (is_keyboards f) refl (is_hosts f) refl is
    where
      by : (a : Bool) → is_keyboards f ≡ a → (b : Bool) → is_hosts f ≡ b → listed (chosen a b) ≡ t ∷ []
          → (is_keyboards f ≡ true) × (keyboards ≡ t)
      by true e b d h = (e, unlist keyboards t h)
      by false e true d h =
          let same : true ≡ t.from_host = ap (λ (u : Transfer). u.from_host) (unlist hosts t h) in
          absurd (let z : true ≡ false = same ∙ sender in cc)
      by false e false d h = absurd (cc h)

  by_host : t.from_host ≡ true → (is_hosts f ≡ true) × (hosts ≡ t)
  by_host sender = by (is_keyboards f) refl (is_hosts f) refl is
    where
      by : (a : Bool) → is_keyboards f ≡ a → (b : Bool) → is_hosts f ≡ b → listed (chosen a b) ≡ t ∷ []
          → (is_hosts f ≡ true) × (hosts ≡ t)
      by true e b d h =
          let same : false ≡ t.from_host = ap (λ (u : Transfer). u.from_host) (unlist keyboards t h) in
          absurd (let z : true ≡ false = sym sender ∙ sym same in cc)
      by false e true d h = (d, unlist hosts t h)
      by false e false d h = absurd (cc h)

  -- the keyboard's has a start bit
  pub starts : t.from_host ≡ false → dat 0 ≡ false
  starts sender =
      let k = by_keyboard sender in
      is_low (dat 0) (and-left (not (dat 0)) (dat 10) (and-left (not (dat 0) && dat 10) (is_odd (take 9 (drop 1 f))) k.0))

  abbrev found : Bool → Bool → Bool → Bool → Bool → ℕ → Finding
  found from_host start parity stop acknowledged byte = Byte (record {
    from_host = from_host;
    byte = byte;
    start = start;
    parity = parity;
    stop = stop;
    acknowledged = acknowledged;
  })

  right_keyboards : (x let_go : ℕ) → t.from_host ≡ false
      → Byte (whole (dat 10) (gathered (first_frame false let_go) x dat 10)) ≡ right t
  right_keyboards x let_go sender =
      let k = by_keyboard sender in
      let ends = and-left (not (dat 0) && dat 10) (is_odd (take 9 (drop 1 f))) k.0 in
      let start = and-left (not (dat 0)) (dat 10) ends in
      let stop = and-right (not (dat 0)) (dat 10) ends in
      let parity = and-right (not (dat 0) && dat 10) (is_odd (take 9 (drop 1 f))) k.0 in
      ap (λ b. found false b (is_odd (take 9 (drop 1 f))) (dat 10) true (value (take 8 (drop 1 f)))) start
      ∙ ap (λ b. found false true b (dat 10) true (value (take 8 (drop 1 f)))) parity
      ∙ ap (λ b. found false true true b true (value (take 8 (drop 1 f)))) stop
      ∙ ap right k.1

  right_hosts : (x let_go : ℕ) → t.from_host ≡ true
      → Byte (whole (dat 10) (gathered (first_frame true let_go) x dat 10)) ≡ right t
  right_hosts x let_go sender =
      let k = by_host sender in
      let ends = and-left (not (dat 10) && dat 9) (is_odd (take 9 f)) k.0 in
      let low = and-left (not (dat 10)) (dat 9) ends in
      let stop = and-right (not (dat 10)) (dat 9) ends in
      let parity = and-right (not (dat 10) && dat 9) (is_odd (take 9 f)) k.0 in
      ap (λ b. found true true (is_odd (take 9 f)) (dat 9) b (value (take 8 f))) low
      ∙ ap (λ b. found true true b (dat 9) true (value (take 8 f))) parity
      ∙ ap (λ b. found true true true b true (value (take 8 f))) stop
      ∙ ap right k.1

  -- so the byte that is found is right
  pub right_byte : (x let_go : ℕ) (from_host : Bool) → t.from_host ≡ from_host
      → Byte (whole (dat 10) (gathered (first_frame from_host let_go) x dat 10)) ≡ right t
  right_byte x let_go true sender = right_hosts x let_go sender
  right_byte x let_go false sender = right_keyboards x let_go sender
