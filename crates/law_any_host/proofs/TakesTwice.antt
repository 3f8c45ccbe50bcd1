-- If the look finds it, a host that counts ten falls has taken the byte, though its frame is cut.
use Rattle.std.proofs.Common.{◌≡◌, ◌≤◌, ◌<◌, ℕ, zero, suc, ◌+◌, ◌-◌, ◌*◌, Bool, true, false, nat_le, nat_lt, not}
use Rattle.std.proofs.Common.{◌&&◌, List, ◌++◌, length, refl, ap, sym, ◌∙◌, subst, arith, inl, inr}
use Rattle.std.proofs.lemmas.Bool.Decides.{nat_tests}
use Rattle.std.proofs.lemmas.List.{length-append}
use Rattle.std.specs.declared.option.Option.{Option}
use Rattle.board_terms.specs.declared.lines.Lines.{Lines}
use Rattle.model_keyboard.specs.declared.meeting.Meeting.TheVariants.{Cut}
use Rattle.law_any_host.proofs.Ears.{NoFall, never, no_fall}
use Rattle.law_any_host.proofs.FrameLines.{cut_as_sent, sent_clock}
use Rattle.law_any_host.proofs.TenthSent as tenth
use Rattle.law_any_host.specs.Ears.{Ear, Tenth, ear_to, fell, heard_by, no_byte, by_tenth, taken_at_tenth}
use Rattle.law_any_host.specs.Hearing.{HearsEach}
use Rattle.law_any_host.specs.Rules.{EndsBy}
use Rattle.law_any_host.specs.Ticks.{frame_lines}
use Rattle.law_any_host.proofs.LastLook.{one_or_more, goes, goes_early, goes_late, pulls, driven, in_first, starts, frames, meetings, wires, rules, cut, sent, C, S, last_look, looks, s_drives, rests, room, small}

-- the host that counts ten takes the byte, though it is cut: up to there all is the same
same_lines : (c : ℕ) → c < 596 → driven cut c ≡ driven sent c
same_lines c l =
    in_first cut c (omega (arith, l)) ∙ cut_as_sent 0 334 last_look c (omega (arith, l)) ∙ sym (in_first sent c (omega (arith, l)))

same_fell : (c : ℕ) → c < 596 → fell C c ≡ fell S c
same_fell zero l = refl
same_fell (suc b) l =
    ap (λ (v : Lines). (v.clk && goes b) && not ((driven cut (suc b)).clk && goes (suc b))) (same_lines b (omega (arith, l)))
    ∙ ap (λ (v : Lines). ((driven sent b).clk && goes b) && not (v.clk && goes (suc b))) (same_lines (suc b) l)

same_ear : (c : ℕ) → c ≤ 596 → ear_to C c ≡ ear_to S c
same_ear zero l = refl
same_ear (suc c) l =
    ap (λ f. heard_by (goes c) true f (driven cut c).dat 0 (ear_to C c)) (same_fell c (omega (arith, l)))
    ∙ ap (λ (v : Lines). heard_by (goes c) true (fell S c) v.dat 0 (ear_to C c)) (same_lines c (omega (arith, l)))
    ∙ ap (heard_by (goes c) true (fell S c) (driven sent c).dat 0) (same_ear c (omega (arith, l)))

same_taken : (c : ℕ) → c ≤ 596 → taken_at_tenth C c ≡ taken_at_tenth S c
same_taken zero l = refl
same_taken (suc c) l =
    ap (λ t. t ++ by_tenth (ear_to C c).mode (goes c && true && fell C c) (driven cut c).dat) (same_taken c (omega (arith, l)))
    ∙ ap (λ (e : Ear). taken_at_tenth S c ++ by_tenth e.mode (goes c && true && fell C c) (driven cut c).dat)
    (same_ear c (omega (arith, l)))
    ∙ ap (λ f. taken_at_tenth S c ++ by_tenth (ear_to S c).mode (goes c && true && f) (driven cut c).dat)
    (same_fell c (omega (arith, l)))
    ∙ ap (λ (v : Lines). taken_at_tenth S c ++ by_tenth (ear_to S c).mode (goes c && true && fell S c) v.dat)
    (same_lines c (omega (arith, l)))

grows : (j c : ℕ) → length (taken_at_tenth C c) ≤ length (taken_at_tenth C (c + j))
grows zero c = let z : c ≡ c + 0 = omega arith in subst (λ i. length (taken_at_tenth C c) ≤ length (taken_at_tenth C i)) z (omega arith)
grows (suc j) c =
    let z : suc (c + j) ≡ c + suc j = omega arith in
    let t : List (Option ℕ) = taken_at_tenth C (c + j) in
    let b : List (Option ℕ) =
    by_tenth (ear_to C (c + j)).mode (goes (c + j) && true && fell C (c + j)) (driven cut (c + j)).dat in
    let n : length (t ++ b) ≡ length t + length b = length-append t b in
    let m : length (taken_at_tenth C c) ≤ length t = grows j c in
    let o : length (taken_at_tenth C c) ≤ length (taken_at_tenth C (suc (c + j))) = omega (arith, n, m) in
    subst (λ i. length (taken_at_tenth C c) ≤ length (taken_at_tenth C i)) z o

took : length (taken_at_tenth C 577) ≡ 1
took =
    let z : 577 ≡ 0 + 577 = omega arith in
    ap length (same_taken 577 (omega arith) ∙ ap (taken_at_tenth S) z
    ∙ tenth.at_tenth S (wires sent true) (rules sent true) 0 3000 room 0 small s_drives looks refl refl no_byte rests)

-- a host that counts ten falls has taken the byte of a frame that its pull cuts at the last look
pub takes_twice : HearsEach Tenth C starts (frames cut) (meetings Cut) → true ≡ false
takes_twice h =
    one_or_more (length (taken_at_tenth C 577)) (length (taken_at_tenth C (577 + 2423))) took (grows 2423 577)
    (ap length (h.taken 1))

-- this host begins no pull from the tenth fall up to 17 cycles after it
pub ends_ten : EndsBy 17 Tenth C
ends_ten c i nine is all falls go soon = by (nat_lt c 577) refl (nat_le 618 c) refl
  where
    no_fall_there : 577 ≤ c → c < 594 → NoFall C (wires cut false) c
    no_fall_there l m = by (nat_le 16 (suc j)) refl
      where
        j : ℕ
        j = c - 577

        p : c ≡ 288 + 32 * 9 + suc j
        p = omega (arith, l)

        clock : (o : ℕ) → o < 596 → (driven cut o).clk ≡ (frame_lines sent o).clk
        clock o n = ap (λ (l : Lines). l.clk) (in_first cut o (omega (arith, n)) ∙ cut_as_sent 0 334 last_look o (omega (arith, n)))

        by : (b : Bool) → nat_le 16 (suc j) ≡ b → NoFall C (wires cut false) c
        by true up =
            inl (clock c (omega (arith, m)) ∙ ap (λ o. (frame_lines sent o).clk) p
            ∙ sent_clock 0 9 (suc j) (omega (arith, m)) (omega (arith, m)) ∙ up)
        by false down =
            let n : suc j < 16 = grind (arith, nat_tests, down) in
            let below : nat_le 16 j ≡ false = grind (arith, nat_tests, n) in
            let q : c ≡ suc (288 + 32 * 9 + j) = omega (arith, l) in
            inr (
              288 + 32 * 9 + j,
              q,
              clock (288 + 32 * 9 + j) (omega (arith, n)) ∙ sent_clock 0 9 j (omega (arith, n)) (omega (arith, n)) ∙ below,
            )

    by : (a : Bool) → nat_lt c 577 ≡ a → (b : Bool) → nat_le 618 c ≡ b → goes (c + i) ≡ true
    by true s b t = let m : c < 577 = grind (arith, nat_tests, s) in goes_early (c + i) (omega (arith, m, soon))
    by false s true t = let m : 618 ≤ c = grind (arith, nat_tests, t) in goes_late (c + i) (omega (arith, m))
    by false s false t =
        let m : 577 ≤ c = grind (arith, nat_tests, s) in
        let n : c < 618 = grind (arith, nat_tests, t) in
        past m n (nat_lt c 594) refl
      where
        past : 577 ≤ c → c < 618 → (d : Bool) → nat_lt c 594 ≡ d → goes (c + i) ≡ true
        past m n true u =
            never (sym falls ∙ no_fall C (wires cut false) c (no_fall_there m (grind (arith, nat_tests, u))) go)
        past m n false u = never (sym go ∙ pulls c (grind (arith, nat_tests, u)) n)
