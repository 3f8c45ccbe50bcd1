-- The keyboard with a debounce under contacts that settle late is the one without under keys that come a little later.
use Rattle.std.proofs.Common.{◌≡◌, ◌≤◌, ◌<◌, ℕ, suc, zero, ◌+◌, ◌-◌, ◌/◌, Bool, true, false, List, [], ◌∷◌, refl, ap, sym, ◌∙◌, subst, arith}
use Rattle.std.specs.Prelude.{if◌then◌else◌, nat_le, nat_lt, unwrap_or}
use Rattle.std.specs.List.{filter}
use Rattle.std.proofs.lemmas.Bool.Decides.{nat_tests}
use Rattle.std.proofs.lemmas.List.{get_or-replicate}
use Rattle.board_terms.specs.Cadence.{KeepsCadence}
use Rattle.board_terms.specs.Edges.{of_place, last_of}
use Rattle.board_terms.specs.declared.event.Edge.{Edge}
use Rattle.board_terms.specs.declared.event.HostEvent.{HostEvent}
use Rattle.model_controller.specs.declared.UnderWay.{UnderWay}
use Rattle.model_controller.specs.declared.meeting.Meeting.{Meeting}
use Rattle.host_turn.specs.Run.{Side}
use Rattle.model_keyboard.specs.Codes.{code_in, keys_of}
use Rattle.model_keyboard.specs.Keyboard.{Keyboard}
use Rattle.model_keyboard.specs.Layers.{Layers, all_layers_after, layered, no_layers}
use Rattle.model_keyboard.specs.Tick.{ticked}
use Rattle.key_file.specs.Accepted.{Alternates, Dwells}
use Rattle.layout_reader.specs.Layouts.{KeyLayout, code_at, fn_code_at, fn_place, is_fn_place, is_make_only, is_place}
use Rattle.model_link.proofs.Edges.{AreAt, are_at, same_by_place}
use Rattle.model_link.proofs.Few.{shown_same}
use Rattle.model_link.proofs.Seen.{last_change}
use Rattle.model_link.proofs.Taken.{AreWide, switched_wide, turned_is, turned_shown}
use Rattle.model_link.specs.Debounce.{Switches, all_open, is_down_at, settles, switched, taken, turned_all}
use Rattle.model_link.specs.Expected.{Whole, begins_from, from_meeting, meeting_from, to_look, to_meeting, whole_at, whole_tick}
use Rattle.model_link.specs.Machine.{LayeredKeyboard, keyboard, met_as}
use Rattle.model_link.specs.TickEdges.{by_place, change_at, downs_before, downs_in, read_at, shown, shown_at, tick_edges}
use Rattle.law_keys_settle.proofs.OneKey.{Reaches, Taken, settled, walk, was}
use Rattle.law_keys_settle.proofs.Placed.{later_at, of_each}
use Rattle.law_keys_settle.proofs.Readings.{readings}
use Rattle.law_keys_settle.specs.Settling.{AreLater, AreSwitches, IsLike, SwitchesTypeOnce, TypesOnce, undebounced}

-- a layout's keys don't depend on its debounce
code_same : (layout : KeyLayout) (on_fn : Bool) (place : ℕ)
    → code_in layout on_fn place ≡ code_in (undebounced layout) on_fn place
unfolding code_at fn_code_at
code_same layout false place = refl
code_same layout true place = refl

make_only_same : (layout : KeyLayout) (place : ℕ) → is_make_only place layout ≡ is_make_only place (undebounced layout)
unfolding is_make_only
make_only_same layout place = refl

fn_same : (layout : KeyLayout) → fn_place layout ≡ fn_place (undebounced layout)
unfolding fn_place
fn_same layout = refl

is_fn_same : (layout : KeyLayout) → is_fn_place layout ≡ is_fn_place (undebounced layout)
is_fn_same layout = λ i place. is_place (fn_same layout i) place

keys_same : (layout : KeyLayout) → keys_of layout ≡ keys_of (undebounced layout)
keys_same layout = λ i. record {
  code = λ on_fn place. unwrap_or (code_same layout on_fn place i) 0;
  make_only = λ place. make_only_same layout place i;
  is_fn = is_fn_same layout i;
  rate = layout.rate;
}

-- a tick of two keyboards that are alike, if one takes of its edges those that the other sees
module _ (layout : KeyLayout) (host : List HostEvent) (start rest : ℕ) where
  abbrev beside : Keyboard → Side UnderWay → ℕ → Whole LayeredKeyboard
  beside k side shown =
      record { keys = record { keyboard = k; layers = no_layers; switches = all_open }; side = side; shown = shown }

  abbrev meets : Keyboard → Side UnderWay → ℕ → Meeting
  meets k side shown = meeting_from (keyboard layout) host start (beside k side shown)

  abbrev goes : Keyboard → Side UnderWay → ℕ → Side UnderWay
  goes k side shown =
      from_meeting host start rest (begins_from (keyboard layout) host start (beside k side shown))
      (to_meeting host start (to_look host shown k.lights start side))

  three : {X : Type 0} (f : Keyboard → Side UnderWay → ℕ → X) (k l : Keyboard) (s t : Side UnderWay) (a b : ℕ) → k ≡ l → s ≡ t
      → a ≡ b → f k s a ≡ f l t b
  three f k l s t a b e g h = ap (λ v. f v s a) e ∙ ap (λ v. f l v a) g ∙ ap (λ v. f l t v) h

  abbrev becomes : Meeting → List (ℕ × Bool) → Layers → Keyboard → Keyboard
  becomes m edges l k = ticked (keys_of layout) (met_as m) (layered (is_fn_place layout) edges l) k

  next_like : (es fs : List (ℕ × Bool)) (w v : Whole LayeredKeyboard) → taken layout.debounce es w.keys.switches ≡ fs
      → IsLike w v
      → IsLike (whole_tick (keyboard layout) host es start rest w)
      (whole_tick (keyboard (undebounced layout)) host fs start rest v)
  next_like es fs w v same h =
      let kw : Keyboard = w.keys.keyboard in
      let kv : Keyboard = v.keys.keyboard in
      let m = three meets kw kv w.side v.side w.shown v.shown h.keyboard h.side h.lights in
      let mw : Meeting = meets kw w.side w.shown in
      let mv : Meeting = meets kv v.side v.shown in
      let edges : List (ℕ × Bool) = taken layout.debounce es w.keys.switches in
      record {
        keyboard = ap (λ m. becomes m edges w.keys.layers kw) m ∙ ap (λ e. becomes mv e w.keys.layers kw) same
            ∙ ap (λ l. becomes mv fs l kw) h.layers ∙ ap (λ k. becomes mv fs v.keys.layers k) h.keyboard
            ∙ ap (λ ks. ticked ks (met_as mv) (layered (is_fn_place layout) fs v.keys.layers) kv) (keys_same layout)
            ∙ ap (λ f. ticked (keys_of (undebounced layout)) (met_as mv) (layered f fs v.keys.layers) kv) (is_fn_same layout);
        layers = ap (λ e. all_layers_after (is_fn_place layout) e w.keys.layers) same
            ∙ ap (λ l. all_layers_after (is_fn_place layout) fs l) h.layers
            ∙ ap (λ f. all_layers_after f fs v.keys.layers) (is_fn_same layout);
        side = three goes kw kv w.side v.side w.shown v.shown h.keyboard h.side h.lights;
        lights = ap (λ (k : Keyboard). k.lights) h.keyboard;
      }

-- what such keyboards go through is what the one without a debounce does under keys that are clean, each edge a little later
pub record TypesAs (layout : KeyLayout) (keys : List Edge) (host : List HostEvent) (starts : ℕ → ℕ)
    (V : ℕ → Whole LayeredKeyboard) : Type 0 where
  pub seen : List Edge
  pub later : (place : ℕ) → place < 96 → AreLater (of_place place keys) (of_place place seen)
  pub like : (n : ℕ) → IsLike (V n) (whole_at (keyboard (undebounced layout)) seen host starts n)

module _ (layout : KeyLayout) (keys contacts : List Edge) (host : List HostEvent) (starts : ℕ → ℕ)
    (on : layout.debounce ≡ true) (cadence : KeepsCadence starts) (sw : AreSwitches keys contacts) where
  abbrev r : ℕ → ℕ → ℕ
  r p n = read_at starts p n

  near : (p n : ℕ) → (r p n + 2043 ≤ r p (suc n)) × (r p (suc n) ≤ r p n + 2053)
  near p n =
      let a = (cadence n).least in
      let b = (cadence n).most in
      let c = (cadence (suc n)).least in
      let e = (cadence (suc n)).most in
      (omega (arith, a, b, c, e), omega (arith, a, b, c, e))

  abbrev d : ℕ → ℕ → Bool
  d p n = downs_in starts contacts n p

  abbrev settled_at : ℕ → ℕ → Bool
  settled_at p n = settled (r p) (near p) (d p) n

  first_reach : (p : ℕ) → p < 96 → (es : List Edge) → Reaches (r p) (near p) (d p) 0 es
  first_reach p l [] = tt
  first_reach p l (e ∷ es) =
      let b = (cadence 0).most in
      let at : p / 8 ≤ 11 = omega (arith, l) in
      omega (arith, b, at)

  key : (p : ℕ) → p < 96 → Taken (r p) (near p) (d p) false (of_place p keys) 0
  key p l =
      walk (r p) (near p) (d p) false (of_place p keys) 0 (sw.alternate p) (sw.apart p) (λ n low none. sw.shows p (r p n) l none)
      (first_reach p l (of_place p keys)) refl refl

  -- the edges of each key as they are taken
  record Facts (p : ℕ) (fs : List Edge) : Type 0 where
    later : AreLater (of_place p keys) fs
    alternate : Alternates false fs
    dwell : Dwells fs
    shows : (n : ℕ) → last_of false (filter (λ (e : Edge). nat_le e.stamp (r p n)) fs) ≡ settled_at p (suc n)

  record One (p : ℕ) : Type 0 where
    seen : List Edge
    at : AreAt p seen
    facts : p < 96 → Facts p seen

  one : (p : ℕ) → One p
  one p = by (nat_lt p 96) refl
    where
      by : (b : Bool) → nat_lt p 96 ≡ b → One p
      by true e =
          let l : p < 96 = grind (arith, nat_tests, e) in
          let k = key p l in
          record {
            seen = k.seen;
            at = later_at p (of_place p keys) k.seen k.later (are_at p keys);
            facts = λ l. record {
              later = k.later;
              alternate = k.alternate;
              dwell = k.dwell;
              shows = λ n. k.shows n (omega arith);
            };
          }
      by false e = record {
        seen = [];
        at = tt;
        facts = λ l. let u : 96 ≤ p = grind (arith, nat_tests, e) in absurd (omega (arith, l, u));
      }

  abbrev seen : List Edge
  seen = by_place (λ p. (one p).seen) 96

  of_seen : (p : ℕ) → p < 96 → of_place p seen ≡ (one p).seen
  of_seen p l =
      let less : nat_lt p 96 ≡ true = grind (arith, nat_tests, l) in
      of_each (λ p. (one p).seen) (λ p. (one p).at) p 96 ∙ ap (λ c. if c then (one p).seen else []) less

  facts_of : (p : ℕ) → p < 96 → Facts p (of_place p seen)
  facts_of p l = subst (Facts p) (sym (of_seen p l)) ((one p).facts l)

  seen_in : (n p : ℕ) → p < 96 → downs_in starts seen n p ≡ settled_at p (suc n)
  seen_in n p l = (facts_of p l).shows n

  seen_before : (n p : ℕ) → p < 96 → downs_before starts seen n p ≡ settled_at p n
  seen_before zero p l = refl
  seen_before (suc n) p l = seen_in n p l

  was_is : (n p : ℕ) → downs_before starts contacts n p ≡ was (r p) (near p) (d p) n
  was_is zero p = refl
  was_is (suc n) p = refl

  -- a run of the keyboard whose tick n gets these edges, if they turn what was read last into what the contacts show then
  module _ (V : ℕ → Whole LayeredKeyboard) (es : ℕ → List (ℕ × Bool))
      (first : V 0 ≡ whole_at (keyboard layout) contacts host starts 0)
      (next : (n : ℕ)
      → V (suc n)
      ≡ whole_tick (keyboard layout) host (es n) (4096 + starts n) (starts (suc n) - starts n - 609) (V n))
      (reading : (n p : ℕ) → AreWide (V n).keys.switches
      → ((q : ℕ) → q < 96 → is_down_at (V n).keys.switches.read q ≡ downs_before starts contacts n q) → p < 96
      → is_down_at (turned_all (es n) (V n).keys.switches.read) p ≡ d p n) where
    abbrev switches_at : ℕ → Switches
    switches_at n = (V n).keys.switches

    -- what was read last, and what has settled
    record Reads (n : ℕ) (s : Switches) : Type 0 where
      wide : AreWide s
      read : (p : ℕ) → p < 96 → is_down_at s.read p ≡ downs_before starts contacts n p
      agreed : (p : ℕ) → p < 96 → is_down_at s.settled p ≡ settled_at p n

    abbrev next_of : ℕ → ℕ → Bool
    next_of n p =
        settles (is_down_at (switches_at n).settled p) (is_down_at (switches_at n).read p)
        (is_down_at (turned_all (es n) (switches_at n).read) p)

    taken_is : (n : ℕ)
        → taken layout.debounce (es n) (switches_at n) ≡ shown (is_down_at (switches_at n).settled) (next_of n)
    taken_is n = ap (λ b. taken b (es n) (switches_at n)) on

    next_is : (n : ℕ) → Reads n (switches_at n) → (p : ℕ) → p < 96 → next_of n p ≡ settled_at p (suc n)
    next_is n h p l =
        let s : Switches = switches_at n in
        let now : Bool = is_down_at (turned_all (es n) s.read) p in
        ap (λ b. settles b (is_down_at s.read p) now) (h.agreed p l)
        ∙ ap (λ b. settles (settled_at p n) b now) (h.read p l ∙ was_is n p)
        ∙ ap (λ b. settles (settled_at p n) (was (r p) (near p) (d p) n) b) (reading n p h.wide h.read l)

    reads_next : (n : ℕ) → Reads n (switches_at n) → Reads (suc n) (switched layout.debounce (es n) (switches_at n))
    reads_next n h =
        let s : Switches = switches_at n in
        record {
          wide = switched_wide layout.debounce (es n) s h.wide;
          read = λ p l. reading n p h.wide h.read l;
          agreed = λ p l.
              ap (λ v. is_down_at (turned_all v s.settled) p) (taken_is n)
              ∙ turned_shown s.settled (next_of n) p h.wide.settled l ∙ next_is n h p l;
        }

    reads : (n : ℕ) → Reads n (switches_at n)
    reads zero =
        subst (λ (w : Whole LayeredKeyboard). Reads 0 w.keys.switches) (sym first) (record {
          wide = record { read = refl; settled = refl };
          read = λ p l. get_or-replicate 96 p false false l;
          agreed = λ p l. get_or-replicate 96 p false false l;
        })
    reads (suc n) =
        subst (λ (w : Whole LayeredKeyboard). Reads (suc n) w.keys.switches) (sym (next n)) (reads_next n (reads n))

    change_same : (p : ℕ) (a b c e : Bool) → a ≡ b → c ≡ e → change_at p a c ≡ change_at p b e
    change_same p a b c e g h = ap (λ v. change_at p v c) g ∙ ap (λ v. change_at p b v) h

    same_edges : (n : ℕ) → taken layout.debounce (es n) (switches_at n) ≡ tick_edges starts seen n
    same_edges n =
        let s : Switches = switches_at n in
        let h = reads n in
        taken_is n
        ∙ same_by_place (shown_at (is_down_at s.settled) (next_of n))
        (shown_at (downs_before starts seen n) (downs_in starts seen n))
        (λ p l. change_same p (is_down_at s.settled p) (downs_before starts seen n p) (next_of n p) (downs_in starts seen n p)
        (h.agreed p l ∙ sym (seen_before n p l)) (next_is n h p l ∙ sym (seen_in n p l))) 96 (omega arith)
        ∙ sym (shown_same starts n (λ m l. cadence m) seen n (omega arith) (λ p l. (facts_of p l).alternate)
        (λ p l. (facts_of p l).dwell))

    like : (n : ℕ) → IsLike (V n) (whole_at (keyboard (undebounced layout)) seen host starts n)
    like zero =
        subst (λ w. IsLike w (whole_at (keyboard (undebounced layout)) seen host starts 0)) (sym first)
        (record { keyboard = refl; layers = refl; side = refl; lights = refl })
    like (suc n) =
        subst (λ w. IsLike w (whole_at (keyboard (undebounced layout)) seen host starts (suc n))) (sym (next n))
        (next_like layout host (4096 + starts n) (starts (suc n) - starts n - 609) (es n) (tick_edges starts seen n) (V n)
        (whole_at (keyboard (undebounced layout)) seen host starts n) (same_edges n) (like n))

    -- what keyboards with a debounce go through is what one without does under clean keys, each edge a little later
    pub typed : TypesAs layout keys host starts V
    typed = record { seen = seen; later = λ p l. (facts_of p l).later; like = like }

  abbrev W : ℕ → Whole LayeredKeyboard
  W n = whole_at (keyboard layout) contacts host starts n

  -- the edges of a tick turn what was read last into what the contacts show
  reading_of : (n p : ℕ) → AreWide (W n).keys.switches
      → ((q : ℕ) → q < 96 → is_down_at (W n).keys.switches.read q ≡ downs_before starts contacts n q) → p < 96
      → is_down_at (turned_all (tick_edges starts contacts n) (W n).keys.switches.read) p ≡ d p n
  reading_of n p wide read l =
      turned_is (tick_edges starts contacts n) (W n).keys.switches.read p wide.read l
      ∙ ap (λ b. last_change (tick_edges starts contacts n) p b) (read p l)
      ∙ readings starts cadence contacts sw.in_order n p l

  -- the keyboard under the contacts does what one without a debounce does under clean keys
  pub once : TypesOnce layout keys contacts host starts
  once =
      let t = typed W (tick_edges starts contacts) refl (λ n. refl) reading_of in
      record { seen = t.seen; later = t.later; like = t.like }

-- with a debounce a keyboard whose switches settle late types as one without under clean keys, a little later
pub types_once : SwitchesTypeOnce
types_once layout keys contacts host starts on cadence sw = once layout keys contacts host starts on cadence sw
