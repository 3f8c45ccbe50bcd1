-- The ways of a byte over the wires, edge by edge: what is known of it after each edge, in either direction.
use Rattle.std.proofs.Common.{◌≡◌, ℕ, suc, zero, ◌+◌, ◌<◌, List, [], ◌∷◌, ◌++◌, length, length-append}
use Rattle.std.proofs.Common.{Bool, true, false, ◌&&◌, None, refl, ap, sym, ◌∙◌, arith}
use Rattle.std.specs.Prelude.{if◌then◌else◌, ◌==◌, nat_lt}
use Rattle.std.proofs.lemmas.Bool.Decides.{nat_tests}
use Rattle.std.specs.declared.option.Option.{Option}
use Rattle.ctl_link.specs.declared.link.Link.{Link}
use Rattle.ctl_link.specs.declared.link.Link.TheVariants.{Free, Request, Busy}
use Rattle.ctl_link.specs.declared.port.LinkEnd.{LinkEnd}
use Rattle.ctl_link.specs.Link.{received, handed_over}
use Rattle.board_terms.specs.Frame.{byte_of}
use Rattle.ctl_wire.specs.declared.wire.Wire.{Wire}
use Rattle.ctl_wire.specs.declared.wire.Wire.TheVariants.{Recv, Send}
use Rattle.ctl_wire.specs.Wire.{edge_at, turned, drive, is_breakable}
use Rattle.model_controller.specs.declared.UnderWay.{UnderWay}
use Rattle.model_controller.specs.ByteTime.{happened_at, closed, Quiet, Begins, Closes}
use Rattle.law_wires_agree.specs.Without.{without_bits, port_by}
use Rattle.law_wires_agree.specs.Cells.{bits_to}
use Rattle.law_wires_agree.specs.InFrame.{at_edge}
use Rattle.law_wires_agree.proofs.Spans.{and-true}

-- what is known of the byte after edge k, for k = 0 to 9, with these levels of the keyboard's data wire; p0 is the
-- controller before the first edge, q0 after it
pub record IsWay (p0 q0 : LinkEnd Wire) (l : Link Wire) (w : ℕ → Wire) (from : Bool) (bits : ℕ → Bool) : Type 0 where
  pub first : (now : ℕ) → edge_at now (bits 0 && (drive l).dat) l p0 ≡ q0
  pub begins : q0.link ≡ Busy (w 0)
  pub starts : (now : ℕ) → port_by without_bits q0 ≡ happened_at now (Begins from) (port_by without_bits p0)
  pub next : (k now : ℕ) (p : LinkEnd Wire) → k < 9
      → edge_at now (bits (suc k) && (drive (Busy (w k))).dat) (Busy (w k)) p ≡ record p { link = Busy (w (suc k)) }
  pub kind : (k now : ℕ) (p : LinkEnd Wire) → k < 9 → p.link ≡ Busy (w k)
      → port_by without_bits (record p { link = Busy (w (suc k)) }) ≡ happened_at now (at_edge from (suc k)) (port_by without_bits p)
  pub last : is_breakable (w 9) ≡ false

length-bits : (bits : ℕ → Bool) (k : ℕ) → length (bits_to bits k) ≡ k
length-bits bits zero = refl
length-bits bits (suc k) = let e = length-bits bits k in let l : length (bits_to bits k ++ bits k ∷ [])
    ≡ length (bits_to bits k) + 1 = length-append (bits_to bits k) (bits k ∷ []) in omega (arith, e, l)

not_ten : (n k : ℕ) → n ≡ suc k → k < 9 → (n == 10) ≡ false
not_ten n k e l = grind (arith, nat_tests)

abbrev as_seen : Option ℕ → Bool → LinkEnd UnderWay → LinkEnd UnderWay
as_seen flip o v = record v { link = Busy (record { from_keyboard = true; flip = flip; breakable = o }) }

-- the controller after the first edge of the keyboard's frame, with this level of data
abbrev pub afterwards_first : Bool → LinkEnd Wire → LinkEnd Wire
afterwards_first dat p = record p { link = Busy (Recv p.flip (dat ∷ [])); flip = None }

-- the way of a byte of the keyboard, with its bits and the flip that was pending
pub sent_way : (bits : ℕ → Bool) (p : LinkEnd Wire)
    → IsWay p (afterwards_first (bits 0) p) Free (λ k. Recv p.flip (bits_to bits (suc k))) true bits
sent_way bits p = record {
  first = λ now. ap (λ d. afterwards_first d p) (and-true (bits 0));
  begins = refl;
  starts = λ now. refl;
  next = λ k now v l.
      let q : List Bool = bits_to bits (suc k) in
      ap (λ c. if c then received now
      (byte_of (turned p.flip (q ++ (bits (suc k) && true) ∷ []))) v else record v
      { link = Busy (Recv p.flip (q ++ (bits (suc k) && true) ∷ [])) }) (not_ten (length q) k (length-bits bits (suc k)) l)
      ∙ ap (λ d. record v { link = Busy (Recv p.flip (q ++ d ∷ [])) }) (and-true (bits (suc k)));
  kind = kinds;
  last = ap (λ n. nat_lt n 10) (length-bits bits 10);
}
  where
    few : (n : ℕ) → n < 10 → nat_lt (length (bits_to bits n)) 10 ≡ true
    few n l = ap (λ m. nat_lt m 10) (length-bits bits n) ∙ grind (arith, nat_tests)

    kinds : (k now : ℕ) (v : LinkEnd Wire) → k < 9 → v.link ≡ Busy (Recv p.flip (bits_to bits (suc k)))
        → port_by without_bits (record v { link = Busy (Recv p.flip (bits_to bits (suc (suc k)))) })
        ≡ happened_at now (at_edge true (suc k)) (port_by without_bits v)
    kinds k now v l e = by_case (k == 8) refl
      where
        by_case : (c : Bool) → (k == 8) ≡ c
            → as_seen p.flip (nat_lt (length (bits_to bits (suc (suc k)))) 10) (port_by without_bits v)
            ≡ happened_at now (if (k == 8) then Closes else Quiet) (port_by without_bits v)
        by_case true t =
            let k8 : suc (suc k) ≡ 10 = grind (arith, nat_tests, t) in
            let shut : nat_lt (length (bits_to bits (suc (suc k)))) 10
            ≡ false = ap (λ n. nat_lt n 10) (length-bits bits (suc (suc k)) ∙ k8) in
            ap (λ o. as_seen p.flip o (port_by without_bits v)) shut
            ∙ sym (ap (λ c. happened_at now (if c then Closes else Quiet) (port_by without_bits v)) t
            ∙ ap (λ l. record (port_by without_bits v) { link = closed (Rattle.law_wires_agree.specs.Without.link_by without_bits l) }) e)
        by_case false t =
            let small : suc (suc k) < 10 = grind (arith, nat_tests, t, l) in
            ap (λ o. as_seen p.flip o (port_by without_bits v)) (few (suc (suc k)) small ∙ sym (few (suc k) (omega (arith, small))))
            ∙ sym (ap (λ c. happened_at now (if c then Closes else Quiet) (port_by without_bits v)) t
            ∙ ap (λ l. record (port_by without_bits v) { link = Rattle.law_wires_agree.specs.Without.link_by without_bits l }) e)

-- the way of a byte for the keyboard
pub got_way : (byte : ℕ) (bits : ℕ → Bool) (p : LinkEnd Wire)
    → IsWay p (record p { link = Busy (Send byte 1) }) (Request byte) (λ k. Send byte (k + 1)) false bits
got_way byte bits p = record {
  first = λ now. refl;
  begins = refl;
  starts = λ now. refl;
  next = λ k now v l.
      let a : k + 1 ≡ suc k = omega arith in
      let z : k + 1 + 1 ≡ suc k + 1 = omega arith in
      ap (λ c. if c then handed_over v else record v { link = Busy (Send byte (k + 1 + 1)) }) (not_ten (k + 1) k a l)
      ∙ ap (λ n. record v { link = Busy (Send byte n) }) z;
  kind = λ k now v l e. ap
      (λ l. record (port_by without_bits v) { link = Rattle.law_wires_agree.specs.Without.link_by without_bits l }) (sym e);
  last = refl;
}
