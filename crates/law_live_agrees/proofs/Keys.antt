-- Two keyboards in one past have the same edges that wait, and so their keys are refused alike.
use Rattle.std.proofs.Common.{◌≡◌, ◌≤◌, ◌<◌, ℕ, zero, suc, ◌+◌, Bool, true, false, ltb, List, [], ◌∷◌, length, drop}
use Rattle.std.proofs.Common.{Ok, Err, refl, ap, sym, subst, ◌∙◌, arith}
use Rattle.std.proofs.lemmas.Bool.Decides.{nat_tests}
use Rattle.std.proofs.lemmas.List.Elements.{All-head, All-tail}
use Rattle.board_terms.specs.declared.event.Edge.{Edge}
use Rattle.joint_run.specs.Joint.{Beside}
use Rattle.joint_run.specs.Run.{World}
use Rattle.law_live_agrees.proofs.Agreed.{states_alike}
use Rattle.law_live_agrees.proofs.Ends.{same_cycle}
use Rattle.law_live_agrees.specs.Law.{KeysAreAlike}
use Rattle.live_board.specs.Pasts.{Past}
use Rattle.live_board.specs.States.{AreParted, HasPast}
use Rattle.live_board.specs.declared.parts.Parts.{Parts as Keyboard}
use Rattle.live_board.specs.declared.refused.Refused.TheVariants as R

-- an edge isn't made before this cycle and come in it
one_part : (cycle m n : ℕ) (es : List Edge) → AreParted cycle m es → AreParted cycle n es → n ≤ length es → m < n → ⊥
one_part cycle m n [] h g within less = omega (arith, within, less)
one_part cycle m zero (e ∷ es) h g within less = omega (arith, less)
one_part cycle zero (suc n) (e ∷ es) h g within less =
    let now = All-head (λ (x : Edge). cycle ≤ x.stamp + 4096) e es h.come_now in
    let before = All-head (λ (x : Edge). x.stamp + 4096 < cycle) e _ g.made_before in
    omega (arith, now, before)
one_part cycle (suc m) (suc n) (e ∷ es) h g within less =
    one_part cycle m n es
    (record {
      made_before = All-tail (λ (x : Edge). x.stamp + 4096 < cycle) e _ h.made_before;
      come_now = h.come_now;
    })
    (record {
      made_before = All-tail (λ (x : Edge). x.stamp + 4096 < cycle) e _ g.made_before;
      come_now = g.come_now;
    })
    (omega (arith, within)) (omega (arith, less))

module _ (p : Past) (a b : Keyboard) (s : HasPast p a) (t : HasPast p b) where
  same_now : s.world.cycle ≡ t.world.cycle
  same_now = ap (λ (w : World Beside). w.cycle) (states_alike p a b s t)

  -- two keyboards in one past have made as many edges
  pub same_made : s.made ≡ t.made
  same_made = by (ltb s.made t.made) (ltb t.made s.made) refl refl
    where
      by : (u v : Bool) → ltb s.made t.made ≡ u → ltb t.made s.made ≡ v → s.made ≡ t.made
      by true v h g =
          absurd (one_part t.world.cycle s.made t.made p.edges
          (subst (λ c. AreParted c s.made p.edges) same_now s.parted) t.parted t.made_within (grind (arith, nat_tests, h)))
      by false true h g =
          absurd (one_part t.world.cycle t.made s.made p.edges t.parted
          (subst (λ c. AreParted c s.made p.edges) same_now s.parted) s.made_within (grind (arith, nat_tests, g)))
      by false false h g = grind (arith, nat_tests, h, g)

  -- in two keyboards in one past the same edges wait
  pub same_wait : a.due.edges.items ≡ b.due.edges.items
  same_wait = s.edges_wait ∙ ap (λ n. drop n p.edges) same_made ∙ sym t.edges_wait

-- a key is let in at both of two keyboards in one past, or refused at both for one cause
pub keys_alike : KeysAreAlike
keys_alike place down p a b c d (Ok x) (Ok y) s t h g = refl
keys_alike place down p a b c d (Ok x) (Err R.Early) s t h g =
    absurd (let e = same_cycle p a b s t in let l = h.0 in let k = g.0 in omega (arith, e, l, k))
keys_alike place down p a b c d (Ok x) (Err R.LastCycle) s t h g = absurd g.0
keys_alike place down p a b c d (Ok x) (Err R.Full) s t h g =
    absurd (let e = ap length (same_wait p a b s t) in let l = h.1 in let k = g.0.1 in omega (arith, e, l, k))
keys_alike place down p a b c d (Ok x) (Err (R.Stuck q)) s t h g = absurd g.0
keys_alike place down p a b c d (Err R.Early) (Ok y) s t h g =
    absurd (let e = same_cycle p a b s t in let l = g.0 in let k = h.0 in omega (arith, e, l, k))
keys_alike place down p a b c d (Err R.LastCycle) y s t h g = absurd h.0
keys_alike place down p a b c d (Err R.Full) (Ok y) s t h g =
    absurd (let e = ap length (same_wait p a b s t) in let l = g.1 in let k = h.0.1 in omega (arith, e, l, k))
keys_alike place down p a b c d (Err (R.Stuck q)) y s t h g = absurd h.0
keys_alike place down p a b c d (Err R.Early) (Err R.Early) s t h g = refl
keys_alike place down p a b c d (Err R.Early) (Err R.LastCycle) s t h g = absurd g.0
keys_alike place down p a b c d (Err R.Early) (Err R.Full) s t h g =
    absurd (let e = same_cycle p a b s t in let l = g.0.0 in let k = h.0 in omega (arith, e, l, k))
keys_alike place down p a b c d (Err R.Early) (Err (R.Stuck q)) s t h g = absurd g.0
keys_alike place down p a b c d (Err R.Full) (Err R.Early) s t h g =
    absurd (let e = same_cycle p a b s t in let l = h.0.0 in let k = g.0 in omega (arith, e, l, k))
keys_alike place down p a b c d (Err R.Full) (Err R.LastCycle) s t h g = absurd g.0
keys_alike place down p a b c d (Err R.Full) (Err R.Full) s t h g = refl
keys_alike place down p a b c d (Err R.Full) (Err (R.Stuck q)) s t h g = absurd g.0
