-- What is kept of samples is enough to know each transfer.
use Rattle.std.proofs.Common.{cond, ◌≡◌, ℕ, ◌+◌, ◌-◌, Bool, true, false, List, [], ◌∷◌, ◌++◌, length, drop}
use Rattle.std.proofs.Common.{Some, None, refl, ap, sym, ◌∙◌, arith, length-append, length-drop}
use Rattle.std.specs.Prelude.{if◌then◌else◌}
use Rattle.std.specs.declared.option.Option.{Option}
use Rattle.std.proofs.lemmas.List.{append-nil, append_assoc, drop-append-le}
use Rattle.std.proofs.Common.{drop-drop}
use Rattle.run_probes.specs.declared.heard.Fall.{Fall}
use Rattle.run_probes.specs.declared.heard.Sample.{Sample}
use Rattle.run_probes.specs.Samples.{CompletesByFalls, KeepsElevenFalls, falls_among, falls_after, heard_all, last_eleven, last_of}
use Rattle.run_probes.specs.Transfers.{Ear, completed, fall_at, is_fall, transfer_by, wires_at, with_fall}

abbrev ear_with : Option Sample → List Fall → Ear
ear_with last falls = record { last = last; falls = falls }

-- one fall more
one_more : (fs : List Fall) (f : Fall) → with_fall f (last_eleven fs) ≡ last_eleven (fs ++ f ∷ [])
one_more fs f =
    let n = length fs in
    let kept : length (drop (n - 11) fs) ≡ n - (n - 11) = length-drop (n - 11) fs in
    let more : length (fs ++ f ∷ []) ≡ n + 1 = length-append fs (f ∷ []) in
    let first : length (drop (n - 11) fs) - 10 ≡ (n - 10) - (n - 11) = omega (arith, kept) in
    let both : (n - 11) + ((n - 10) - (n - 11)) ≡ n - 10 = omega arith in
    let last : n - 10 ≡ length (fs ++ f ∷ []) - 11 = omega (arith, more) in
    ap (λ (k : ℕ). drop k (drop (n - 11) fs) ++ f ∷ []) first
    ∙ ap (λ (v : List Fall). v ++ f ∷ []) (drop-drop ((n - 10) - (n - 11)) (n - 11) fs ∙ ap (λ (k : ℕ). drop k fs) both)
    ∙ sym (drop-append-le (n - 10) fs (f ∷ []) (omega arith)) ∙ ap (λ (k : ℕ). drop k (fs ++ f ∷ [])) last

one_sample : (o : Option Sample) (fs : List Fall) (s : Sample) (b : Bool)
    → cond b (with_fall (fall_at s) (last_eleven fs)) (last_eleven fs) ≡ last_eleven (fs ++ cond b (fall_at s ∷ []) [])
one_sample o fs s true = one_more fs (fall_at s)
one_sample o fs s false = ap last_eleven (sym (append-nil fs))

all_heard : (samples : List Sample) (o : Option Sample) (fs : List Fall)
    → heard_all samples (ear_with o (last_eleven fs)) ≡ ear_with (last_of o samples) (last_eleven (fs ++ falls_after (wires_at o) samples))
all_heard [] o fs = ap (λ (v : List Fall). ear_with o (last_eleven v)) (sym (append-nil fs))
all_heard (s ∷ more) o fs =
    let here : List Fall = if is_fall (wires_at o) s.lines then fall_at s ∷ [] else [] in
    ap (λ (v : List Fall). heard_all more (ear_with (Some s) v)) (one_sample o fs s (is_fall (wires_at o) s.lines))
    ∙ all_heard more (Some s) (fs ++ here)
    ∙ ap (λ (v : List Fall). ear_with (last_of (Some s) more) (last_eleven v)) (append_assoc fs here (falls_after s.lines more))

-- of all samples the last one and the last eleven falls of the clock are kept
pub keeps_eleven_falls : KeepsElevenFalls
keeps_eleven_falls samples = all_heard samples None []

falls_both : (xs ys : List Sample) (o : Option Sample)
    → falls_after (wires_at o) (xs ++ ys) ≡ falls_after (wires_at o) xs ++ falls_after (wires_at (last_of o xs)) ys
falls_both [] ys o = refl
falls_both (s ∷ xs) ys o =
    let here : List Fall = if is_fall (wires_at o) s.lines then fall_at s ∷ [] else [] in
    ap (λ (v : List Fall). here ++ v) (falls_both xs ys (Some s))
    ∙ sym (append_assoc here (falls_after s.lines xs) (falls_after (wires_at (last_of (Some s) xs)) ys))

by_fall : (b : Bool) (fs all : List Fall) (s : Sample) → all ≡ fs ++ (cond b (fall_at s ∷ []) [] ++ [])
    → cond b (transfer_by (with_fall (fall_at s) (last_eleven fs))) None ≡ cond b (transfer_by (last_eleven all)) None
by_fall true fs all s e = ap transfer_by (one_more fs (fall_at s) ∙ ap last_eleven (sym e))
by_fall false fs all s e = refl

-- a sample completes a transfer exactly if it is a fall, and the last eleven falls are a transfer
pub completes_by_falls : CompletesByFalls
completes_by_falls samples s =
    ap (completed s) (keeps_eleven_falls samples)
    ∙ by_fall (is_fall (wires_at (last_of None samples)) s.lines) (falls_among samples)
    (falls_among (samples ++ s ∷ [])) s (falls_both samples (s ∷ []) None)
