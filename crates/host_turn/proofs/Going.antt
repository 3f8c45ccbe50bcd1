-- The parts of a cycle, one after another, are the cycle.
use Rattle.std.proofs.Common.{◌≡◌, ℕ, Bool, List, ◌++◌, append_assoc, ap, ◌∙◌}
use Rattle.std.specs.declared.option.Option.{Option}
use Rattle.ctl_core.specs.declared.controller.Did.{Did}
use Rattle.ctl_link.specs.declared.port.LinkEnd.{LinkEnd}
use Rattle.ctl_link.specs.Link.{broken_off, settled}
use Rattle.pc_tables.specs.declared.item.Item.{Item}
use Rattle.board_terms.specs.declared.event.HostEvent.{HostEvent}
use Rattle.host_turn.specs.declared.desk.Desk.{Desk}
use Rattle.host_turn.specs.Host.{Host, event_turn, bios_turn}
use Rattle.host_turn.specs.Cycle.{cycled, host_of, said_of, with_host}

module _ {F : Type 0} (breaks : F → Bool) (now : ℕ) (next : Option HostEvent) (d d1 d2 : Desk F)
    (e1 : d1 ≡ with_host (event_turn now next (host_of d)).host d)
    (e2 : d2 ≡ with_host (bios_turn now d1.port.filled (host_of d1)).host d1) (q : LinkEnd F) (e3 : q ≡ broken_off breaks now d2.port) where
  h1 : Host
  h1 = (event_turn now next (host_of d)).host

  both : d2 ≡ with_host (bios_turn now d.port.filled (event_turn now next (host_of d)).host).host d
  both = e2 ∙ ap (λ (x : Desk F). with_host (bios_turn now x.port.filled (host_of x)).host x) e1

  -- the parts of a cycle, one after another, leave the PC as the cycle does
  pub going_desk : (p : LinkEnd F) → p ≡ (settled now q).port → record d2 { port = p } ≡ (cycled breaks now next d).desk
  going_desk p e =
      ap (λ r. record d2 { port = r }) (e ∙ ap (λ r. (settled now r).port) e3)
      ∙ ap (λ (x : Desk F). record x { port = (settled now (broken_off breaks now x.port)).port }) both

  -- the parts of a cycle, one after another, say what the cycle says
  pub going_items : (i0 i1 i2 i3 : List Item) (did : Did) → i1 ≡ i0 ++ (event_turn now next (host_of d)).items
      → i2 ≡ i1 ++ (bios_turn now d1.port.filled (host_of d1)).items
      → did ≡ (settled now q).did → i3 ≡ i2 ++ said_of did → i3 ≡ i0 ++ (cycled breaks now next d).items
  going_items i0 i1 i2 i3 did a b c e =
      let x : List Item = (event_turn now next (host_of d)).items in
      let y : List Item = (bios_turn now d.port.filled (event_turn now next (host_of d)).host).items in
      let z : List Item = said_of
      (settled now (broken_off breaks now
      (with_host (bios_turn now d.port.filled (event_turn now next (host_of d)).host).host d).port)).did in
      let b' : i2 ≡ (i0 ++ x) ++ y = b ∙ ap (λ (v : Desk F). i1 ++ (bios_turn now v.port.filled (host_of v)).items) e1
      ∙ ap (λ v. v ++ y) a in
      let z' : said_of did ≡ z = ap said_of (c ∙ ap (λ r. (settled now r).did) e3)
      ∙ ap (λ (v : Desk F). said_of (settled now (broken_off breaks now v.port)).did) both in
      let last : ((i0 ++ x) ++ y) ++ z ≡ i0 ++ ((x ++ y) ++ z) = simp append_assoc in
      e ∙ ap (λ v. v ++ said_of did) b' ∙ ap (λ v. ((i0 ++ x) ++ y) ++ v) z' ∙ last
