-- Two keyboards that are alike stay so, whatever is called.
use Rattle.std.proofs.Common.{◌≡◌, ◌≤◌, ℕ, zero, suc, ◌+◌, ◌-◌, List, ◌++◌, take, map, Some, Ok, Err}
use Rattle.std.proofs.Common.{ap, sym, subst, ◌∙◌, arith}
use Rattle.std.specs.declared.result.Result.{Result}
use Rattle.board_terms.specs.Matrix.{all_up, turned_by}
use Rattle.live_items.specs.declared.happened.Happened.{Happened}
use Rattle.joint_feed.specs.Stories.{state_at}
use Rattle.joint_run.specs.Due.{outside_of}
use Rattle.joint_run.specs.Joint.{Beside, log_of}
use Rattle.joint_run.specs.Run.{World}
use Rattle.joint_saved.specs.Saved.{Kept}
use Rattle.joint_saved.specs.declared.unloaded.Unloaded.{Unloaded}
use Rattle.law_live_agrees.proofs.Agreed.{same_rest, states_alike}
use Rattle.law_live_agrees.proofs.Ends.{earlier, never_alone, one_cause, same_cycle}
use Rattle.law_live_agrees.proofs.Keys.{keys_alike, same_made, same_wait}
use Rattle.law_live_agrees.proofs.Runs.{runs_end_alike}
use Rattle.law_live_agrees.specs.Saved.{AnsweringKeepsAlike, HandsKeepAlike, KeysKeepAlike, LoadedAreAlike}
use Rattle.law_live_agrees.specs.Saved.{RunsKeepAlike, SavesAreAlike}
use Rattle.live_board.proofs.Stepping.{here}
use Rattle.live_board.specs.Heard.{HasHappened, HasKept, HasKeptAll, after_next, heard_all, next_of, rises_in, said_so}
use Rattle.live_board.specs.Passing.{passed_at, passed_between}
use Rattle.live_board.specs.Pasts.{Past, acted, gone_on, pressed, state_of, story_of}
use Rattle.live_board.specs.Saved.{kept}
use Rattle.live_board.specs.States.{HasPast}
use Rattle.live_board.specs.declared.heard.Heard.{Heard}
use Rattle.live_board.specs.declared.parts.Parts.{Parts as Keyboard}

-- what is kept is a list and a count
same_heard : (h g : Heard) → h.items.items ≡ g.items.items → h.lost ≡ g.lost → h ≡ g
same_heard h g items lost = λ i. record { items = record { items = items i }; lost = lost i }

-- what bytes mean, if they mean a keyboard
abbrev meant : Kept → Result Kept Unloaded → Kept
meant other (Ok k) = k
meant other (Err fault) = other

-- two keyboards of one past that the same bytes mean are alike
pub loaded_alike : LoadedAreAlike
loaded_alike bytes p a b s t h g =
    let same : kept a ≡ kept b = ap (meant (kept a)) (sym h ∙ g) in
    record {
      one = s;
      other = t;
      heard = same_heard a.heard b.heard (ap (λ (k : Kept). k.items) same) (ap (λ (k : Kept). k.lost) same);
      rises = ap (λ (k : Kept). k.rises) same;
    }

-- of two keyboards that are alike the same bytes are saved
pub saves_alike : SavesAreAlike
saves_alike p a b h =
    let s = h.one in
    let t = h.other in
    let world = states_alike p a b s t in
    let image : a.joint.image.bytes ≡ b.joint.image.bytes = s.image ∙ sym t.image in
    let matrix : a.joint.matrix ≡ b.joint.matrix =
    s.in_run.matrix ∙ ap (λ n. turned_by (take n p.edges) all_up) (same_made p a b s t) ∙ sym t.in_run.matrix in
    let mcu : a.joint.mcu ≡ b.joint.mcu = s.in_run.mcu ∙ ap (λ (w : World Beside). w.cpu) world ∙ sym t.in_run.mcu in
    let outside : a.joint.outside ≡ b.joint.outside =
    s.in_run.outside ∙ ap (λ (w : World Beside). outside_of w.board) world ∙ sym t.in_run.outside in
    let cycle : a.joint.cycle ≡ b.joint.cycle = same_cycle p a b s t in
    let steps : a.joint.steps ≡ b.joint.steps = s.steps ∙ sym t.steps in
    let edges : a.due.edges.items ≡ b.due.edges.items = same_wait p a b s t in
    λ i. record {
      joint = record {
        image = record { bytes = image i };
        matrix = matrix i;
        mcu = mcu i;
        outside = outside i;
        cycle = cycle i;
        steps = steps i;
      };
      edges = edges i;
      items = (h.heard i).items.items;
      lost = (h.heard i).lost;
      rises = h.rises i;
    }

-- what one step adds is the same of both
kept_alike : (p q : Past) (a b c d : Keyboard) → HasPast p a → HasPast q c → a.heard ≡ b.heard → HasKept p q a c → HasKept p q b d
    → (c.heard ≡ d.heard) × (c.rises ≡ d.rises)
kept_alike p q a b c d s t same h g =
    let w = s.world in
    let v = t.world in
    let from = here p a s in
    let to = here q c t in
    let items : h.items ≡ g.items = same_rest (log_of w.board) h.items g.items (log_of v.board) (h.said w v from to) (g.said w v from to) in
    let passed : List Happened = passed_between (state_of p) (state_of q) in
    let heard : heard_all a.heard (passed ++ map said_so h.items) ≡ heard_all b.heard (passed ++ map said_so g.items) =
    λ i. heard_all (same i) (passed ++ map said_so (items i)) in
    (h.kept ∙ heard ∙ sym g.kept, h.risen ∙ sym g.risen)

-- two keyboards that are alike stay so after a call of the host
pub answers_keep_alike : {X : Type 0} → AnsweringKeepsAlike X
answers_keep_alike act p a b c d (Ok x) (Ok y) h f k g l =
    let cycle = same_cycle p a b h.one h.other in
    let q : Past = acted p (a.joint.cycle - 4096) act in
    let first : HasPast q c = f.1 p h.one in
    let other : HasPast q d = subst (λ n. HasPast (acted p (n - 4096) act) d) (sym cycle) (g.1 p h.other) in
    let log : HasKept p q b d = subst (λ n. HasKept p (acted p (n - 4096) act) b d) (sym cycle) (l p h.other) in
    let same = kept_alike p q a b c d h.one first h.heard (k p h.one) log in
    record { one = first; other = other; heard = same.0; rises = same.1 }
answers_keep_alike act p a b c d (Ok x) (Err y) h f k g l =
    absurd (never_alone p b a h.other h.one act y c g.0 f.0 (f.1 p h.one))
answers_keep_alike act p a b c d (Err x) (Ok y) h f k g l =
    absurd (never_alone p a b h.one h.other act x d f.0 g.0 (g.1 p h.other))
answers_keep_alike act p a b c d (Err x) (Err y) h f k g l = (
  one_cause p a b h.one h.other act x y f.0 g.0,
  record { one = f.2 p h.one; other = g.2 p h.other; heard = k.0 ∙ h.heard ∙ sym l.0; rises = k.1 ∙ h.rises ∙ sym l.1 },
)

-- two keyboards that are alike stay so after the call of a key
pub keys_keep_alike : KeysKeepAlike
keys_keep_alike place down p a b c d (Ok x) (Ok y) h f k g l =
    let cycle = same_cycle p a b h.one h.other in (
      keys_alike place down p a b c d (Ok x) (Ok y) h.one h.other f g,
      record {
        one = f.2 p h.one;
        other = subst (λ n. HasPast (pressed p (record { stamp = n - 4096; place = place; down = down })) d) (sym cycle) (g.2 p h.other);
        heard = k.0 ∙ h.heard ∙ sym l.0;
        rises = k.1 ∙ h.rises ∙ sym l.1;
      },
    )
keys_keep_alike place down p a b c d (Ok x) (Err y) h f k g l =
    let e = keys_alike place down p a b c d (Ok x) (Err y) h.one h.other f g in
    absurd cc
keys_keep_alike place down p a b c d (Err x) (Ok y) h f k g l =
    let e = keys_alike place down p a b c d (Err x) (Ok y) h.one h.other f g in
    absurd cc
keys_keep_alike place down p a b c d (Err x) (Err y) h f k g l = (
  keys_alike place down p a b c d (Err x) (Err y) h.one h.other f g,
  record {
    one = subst (λ n. HasPast p n) (sym f.1) h.one;
    other = subst (λ n. HasPast p n) (sym g.1) h.other;
    heard = k.0 ∙ h.heard ∙ sym l.0;
    rises = k.1 ∙ h.rises ∙ sym l.1;
  },
)

-- what so many steps of one past add is one list, if there is a state after them
happened_alike : (p : Past) (from n last : ℕ) (w : World Beside) (x y : List Happened) → state_at (story_of p) last ≡ Some w
    → from + n ≤ last → HasHappened p from n x → HasHappened p from n y → x ≡ y
happened_alike p from zero last w x y at within h g = h ∙ sym g
happened_alike p from (suc n) last w x y at within h g =
    let up : last - (from + n) + (from + n) ≡ last = omega (arith, within) in
    let down : last - suc (from + n) + suc (from + n) ≡ last = omega (arith, within) in
    let now = earlier p (from + n) (last - (from + n)) w (ap (state_at (story_of p)) up ∙ at) in
    let next = earlier p (suc (from + n)) (last - suc (from + n)) w (ap (state_at (story_of p)) down ∙ at) in
    let before : h.0 ≡ g.0 = happened_alike p from n last w h.0 g.0 at (omega (arith, within)) h.2 g.2 in
    let items : h.1 ≡ g.1 =
    same_rest (log_of now.0.board) h.1 g.1 (log_of next.0.board) (h.3 now.0 next.0 now.1 next.1) (g.3 now.0 next.0 now.1 next.1) in
    let passed : List Happened = passed_at p (from + n) in
    let both : h.0 ++ (passed ++ map said_so h.1) ≡ g.0 ++ (passed ++ map said_so g.1) =
    λ i. before i ++ (passed ++ map said_so (items i)) in
    h.4 ∙ both ∙ sym g.4

all_alike : (p : Past) (a b c d : Keyboard) → HasPast p a → HasPast p b → HasPast (gone_on p c.joint.steps) c
    → c.joint.steps ≡ d.joint.steps → a.heard ≡ b.heard → HasKeptAll p a c → HasKeptAll p b d
    → (c.heard ≡ d.heard) × (c.rises ≡ d.rises)
all_alike p a b c d s t e end same h g =
    let from : a.joint.steps ≡ b.joint.steps = s.steps ∙ sym t.steps in
    let one = h.made in
    let two = g.made in
    let n : h.steps ≡ g.steps = omega (arith, one, two, from, end) in
    let there : HasHappened p a.joint.steps h.steps g.all =
    subst (λ v. HasHappened p v h.steps g.all) (sym from)
    (subst (λ v. HasHappened p b.joint.steps v g.all) (sym n) g.happened) in
    let all : h.all ≡ g.all =
    happened_alike p a.joint.steps h.steps c.joint.steps e.world h.all g.all (here (gone_on p c.joint.steps) c e) (omega (arith, one))
    h.happened there in
    let heard : heard_all a.heard h.all ≡ heard_all b.heard g.all = λ i. heard_all (same i) (all i) in
    let rises : rises_in p a.joint.steps h.steps ≡ rises_in p b.joint.steps g.steps = λ i. rises_in p (from i) (n i) in
    (h.kept ∙ heard ∙ sym g.kept, h.risen ∙ rises ∙ sym g.risen)

-- two keyboards that are alike stay so after a run
pub runs_keep_alike : RunsKeepAlike
runs_keep_alike stops p a b c d cycles steps x y h f k g l near far =
    let ends = runs_end_alike stops p a b c d cycles steps x y h.one h.other f g near far in
    let same = all_alike p a b c d h.one h.other f.has_past ends.1 h.heard k l in (
      ends.0,
      record {
        one = f.has_past;
        other = subst (λ n. HasPast (gone_on p n) d) (sym ends.1) g.has_past;
        heard = same.0;
        rises = same.1;
      },
    )

-- a past says nothing of what is kept
with_heard : (p : Past) (k : Keyboard) (h : Heard) → HasPast p k → HasPast p (record k { heard = h })
with_heard p k h s = record {
  made = s.made;
  made_within = s.made_within;
  world = s.world;
  image = s.image;
  steps = s.steps;
  in_run = s.in_run;
  edges_wait = s.edges_wait;
  none_waits = s.none_waits;
  all_done = s.all_done;
  order = s.order;
  reached = s.reached;
  parted = s.parted;
}

-- two keyboards that are alike hand out the same of what they heard, and stay alike
pub hands_keep_alike : HandsKeepAlike
hands_keep_alike p a b h = (
  ap next_of h.heard,
  record {
    one = with_heard p a (after_next a.heard) h.one;
    other = with_heard p b (after_next b.heard) h.other;
    heard = ap after_next h.heard;
    rises = h.rises;
  },
)
