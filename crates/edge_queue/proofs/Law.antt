-- The laws of a queue, from their parts.
use Rattle.std.proofs.Common.{◌≡◌, ℕ, zero, suc, false, get_or, refl, arith}
use Rattle.std.specs.Prelude.{replicate}
use Rattle.std.proofs.lemmas.List.Elements.{All-nil}
use Rattle.board_terms.specs.Edges.{of_place}
use Rattle.board_terms.specs.Matrix.{all_up}
use Rattle.edge_queue.specs.Calls.{after, handed}
use Rattle.edge_queue.specs.Laws.{AreInCallersOrder, AreLawful, ReleasesFit}
use Rattle.edge_queue.specs.Queue.{empty}
use Rattle.edge_queue.proofs.Spaced.{dwells, handed_spaced, in_order, spaced_of, thin}
use Rattle.edge_queue.proofs.Turning.{Sound, handed_turns}
use Rattle.edge_queue.proofs.Placed.{handed_in, kept}
use Rattle.edge_queue.proofs.Room.{Fits, after_fits, all_up_then, downs, release_fits}

none_down : (n place : ℕ) → get_or (replicate n false) place false ≡ false
none_down zero place = refl
none_down (suc n) zero = refl
none_down (suc n) (suc place) = none_down n place

empty_sound : Sound (λ p. false) empty
empty_sound = record { turns = λ p. tt; shows = λ p l. none_down 96 p; long = refl }

empty_fits : Fits empty
empty_fits =
    let none : downs all_up ≡ 0 = refl in
    record { room = omega (arith, none); long = refl }

-- the edges that a queue hands over each have their time, and are a lawful history
pub are_lawful : AreLawful
are_lawful debounce calls stop placed =
    let edges = handed debounce calls empty in
    let spaced = handed_spaced debounce calls empty in (
      spaced,
      record {
        in_matrix = handed_in debounce calls empty placed tt;
        edges_in_order = in_order debounce 0 edges spaced;
        host_in_order = tt;
        written = All-nil _;
        flips = All-nil _;
        alternate = λ p. handed_turns debounce calls placed empty (λ n. false) empty_sound p;
        dwell = λ p. dwells debounce 0 (of_place p edges) (spaced_of debounce p 0 edges spaced);
        thin = thin debounce 0 edges spaced;
      },
    )

-- what a queue handed over, and then what waits, is what it let in, in that order
pub are_in_order : AreInCallersOrder
are_in_order debounce calls = kept debounce calls empty

-- a key that is down finds room for its release, and no key is down after all were released
pub releases_fit : ReleasesFit
releases_fit debounce calls placed stamp place l =
    let fits = after_fits debounce calls empty empty_fits in
    let left = after debounce calls empty in
    (λ h. release_fits stamp place left fits h, all_up_then stamp place left l fits)
