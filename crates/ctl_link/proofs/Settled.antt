-- Settling by its two parts keeps what settling keeps.
use Rattle.std.proofs.Common.{◌≡◌, ℕ, ap, sym, ◌∙◌, subst}
use Rattle.ctl_link.specs.declared.port.LinkEnd.{LinkEnd}
use Rattle.ctl_link.specs.Empty.{IsEmptyUnlessHeld}
use Rattle.ctl_link.specs.Link.{settled, takes_input, moves_link}
use Rattle.ctl_link.specs.Pulls.{KeepsPull, BeginsPull}
use Rattle.ctl_link.proofs.Empty.{keeps_empty}
use Rattle.ctl_link.proofs.Pulls.{keeps_pull, begins_pull}

module _ (F : Type 0) (now : ℕ) (p q r : LinkEnd F) (took : q ≡ (takes_input now p).port) (moved : r ≡ moves_link now q) where
  by_parts : r ≡ (settled now p).port
  by_parts = moved ∙ ap (λ (x : LinkEnd F). moves_link now x) took

  -- after both parts of settling the output buffer is empty unless the link is held
  pub empty_after : IsEmptyUnlessHeld p → IsEmptyUnlessHeld r
  empty_after h = subst (λ (x : LinkEnd F). IsEmptyUnlessHeld x) (sym by_parts) (keeps_empty now p h)

  -- a pull of the clock that is younger than 64 cycles goes on through both parts of settling
  pub pull_kept : KeepsPull now p.link r.link
  pull_kept = subst (λ (x : LinkEnd F). KeepsPull now p.link x.link) (sym by_parts) (keeps_pull F now p)

  -- from a free link both parts of settling begin nothing but a pull
  pub pull_begun : BeginsPull now p.link r.link
  pull_begun = subst (λ (x : LinkEnd F). BeginsPull now p.link x.link) (sym by_parts) (begins_pull F now p)
