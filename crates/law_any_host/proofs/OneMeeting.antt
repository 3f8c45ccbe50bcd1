-- What the looks of a tick find is one frame and one meeting.
use Rattle.std.proofs.Common.{◌≡◌, ◌<◌, ℕ, true, false, refl, ap, sym, ◌∙◌, inl, inr, ltb, arith, Some, None}
use Rattle.std.proofs.lemmas.Bool.Decides.{nat_tests}
use Rattle.law_fw_keys.specs.Frameless.{IsFrameless}
use Rattle.law_fw_link.specs.Latch.{Frame, NoFrame, SentFrame, CutFrame, ReceivedFrame, IsLook}
use Rattle.joint_run.specs.Run.{Board, World}
use Rattle.model_keyboard.specs.declared.meeting.Meeting.{Meeting}
use Rattle.model_keyboard.specs.declared.meeting.Meeting.TheVariants.{Got, Idle, Inhibited, Sent, Cut}
use Rattle.law_fw_logic.specs.Boards.{numbered}
use Rattle.law_agreement.specs.Firmware.{Finds, Offers, clock_in}
use Rattle.law_any_host.specs.AnyPins.{OneMeetingLaw}

some_is : (a b : ℕ) → Some a ≡ Some b → a ≡ b
some_is a b e = cc

module _ (d : Board) (w : World d.State) where
  abbrev Same : Frame → Frame → Meeting → Meeting → Type 0
  Same frame other meeting met = (frame ≡ other) × (meeting ≡ met)

  never : {A : Type 0} → true ≡ false → A
  never e = absurd cc

  offered : (a b : ℕ) → Offers d w a → Offers d w b → a ≡ b
  offered a b p q = some_is a b (sym p.2 ∙ q.2)

  -- two first looks that find the clock low
  one_look : (byte i j : ℕ) → IsLook i → IsLook j
      → ((earlier : ℕ) → IsLook earlier → earlier < i → clock_in d w byte earlier ≡ true) → clock_in d w byte i ≡ false
      → ((earlier : ℕ) → IsLook earlier → earlier < j → clock_in d w byte earlier ≡ true) → clock_in d w byte j ≡ false
      → i ≡ j
  one_look byte i j is is' before low before' low' =
      elim (ltb i j) as (λ b. ltb i j ≡ b → i ≡ j) [
        | true ↦ λ h. never (sym (before' i is (grind (arith, nat_tests, h))) ∙ low)
        | false ↦ λ h. elim (ltb j i) as (λ b. ltb j i ≡ b → i ≡ j) [
          | true ↦ λ g. never (sym (before j is' (grind (arith, nat_tests, g))) ∙ low')
          | false ↦ λ g. grind (arith, nat_tests, h, g)
        ] refl
      ] refl

  still : (meeting met : Meeting) → IsFrameless d w meeting → IsFrameless d w met → meeting ≡ met
  still Idle Idle h k = refl
  still Inhibited Inhibited h k = refl
  still Idle Inhibited (inl h) k = never (sym k.0 ∙ h)
  still Idle Inhibited (inr (inl h)) k = never (sym h.1 ∙ k.1)
  still Idle Inhibited (inr (inr h)) k = never (sym h.1 ∙ k.1)
  still Inhibited Idle k (inl h) = never (sym k.0 ∙ h)
  still Inhibited Idle k (inr (inl h)) = never (sym h.1 ∙ k.1)
  still Inhibited Idle k (inr (inr h)) = never (sym h.1 ∙ k.1)
  still Idle Sent h k = absurd k
  still Idle Cut h k = absurd k
  still Idle (Got byte good) h k = absurd k
  still Inhibited Sent h k = absurd k
  still Inhibited Cut h k = absurd k
  still Inhibited (Got byte good) h k = absurd k
  still Sent met h k = absurd h
  still Cut met h k = absurd h
  still (Got byte good) met h k = absurd h

  -- a tick that offers has a frame
  not_still : (byte : ℕ) (meeting : Meeting) {A : Type 0} → Offers d w byte → IsFrameless d w meeting → A
  not_still byte Idle o (inl h) = never (sym o.0.0 ∙ h)
  not_still byte Idle o (inr (inl h)) = absurd (let e : Some byte ≡ None = sym o.2 ∙ h.3 in cc)
  not_still byte Idle o (inr (inr h)) = never (sym o.1 ∙ h.2)
  not_still byte Inhibited o h = never (sym o.0.1 ∙ h.1)
  not_still byte Sent o h = absurd h
  not_still byte Cut o h = absurd h
  not_still byte (Got b good) o h = absurd h

  -- so has one that receives
  not_asked : (meeting m : Meeting) {A : Type 0} → Finds d w ReceivedFrame m → IsFrameless d w meeting → A
  not_asked Idle m o (inl h) = never (sym o.1.0 ∙ h)
  not_asked Idle m o (inr (inl h)) = never (sym h.2 ∙ o.2)
  not_asked Idle m o (inr (inr h)) = never (sym h.3 ∙ o.3)
  not_asked Inhibited m o h = never (sym o.1.1 ∙ h.1)
  not_asked Sent m o h = absurd h
  not_asked Cut m o h = absurd h
  not_asked (Got b good) m o h = absurd h

  -- what the looks of a tick find fits one frame and one meeting alone
  pub one : (frame other : Frame) (meeting met : Meeting) → Finds d w frame meeting → Finds d w other met
      → Same frame other meeting met
  one NoFrame NoFrame meeting met h k = (refl, still meeting met h k)
  one NoFrame (SentFrame b) meeting met h k = not_still b meeting k.1 h
  one NoFrame (CutFrame b j) meeting met h k = not_still b meeting k.1 h
  one NoFrame ReceivedFrame meeting met h k = not_asked meeting met k h
  one (SentFrame a) NoFrame meeting met h k = not_still a met h.1 k
  one (SentFrame a) (SentFrame b) meeting met h k = (ap (λ x. SentFrame x) (offered a b h.1 k.1), h.0 ∙ sym k.0)
  one (SentFrame a) (CutFrame b j) meeting met h k =
      never (sym (h.2 j k.2) ∙ ap (λ x. clock_in d w x j) (offered a b h.1 k.1) ∙ k.4)
  one (SentFrame a) ReceivedFrame meeting met h k = never (sym h.1.1 ∙ k.2)
  one (CutFrame a i) NoFrame meeting met h k = not_still a met h.1 k
  one (CutFrame a i) (SentFrame b) meeting met h k =
      never (sym (k.2 i h.2) ∙ ap (λ x. clock_in d w x i) (offered b a k.1 h.1) ∙ h.4)
  one (CutFrame a i) (CutFrame b j) meeting met h k =
      let same : a ≡ b = offered a b h.1 k.1 in
      let look : i ≡ j = one_look a i j h.2 k.2 h.3 h.4
      (λ e is l. ap (λ x. clock_in d w x e) same ∙ k.3 e is l) (ap (λ x. clock_in d w x j) same ∙ k.4) in
      (ap (λ x. CutFrame x i) same ∙ ap (λ x. CutFrame b x) look, h.0 ∙ sym k.0)
  one (CutFrame a i) ReceivedFrame meeting met h k = never (sym h.1.1 ∙ k.2)
  one ReceivedFrame NoFrame meeting met h k = not_asked met meeting h k
  one ReceivedFrame (SentFrame b) meeting met h k = never (sym k.1.1 ∙ h.2)
  one ReceivedFrame (CutFrame b j) meeting met h k = never (sym k.1.1 ∙ h.2)
  one ReceivedFrame ReceivedFrame meeting met h k = (refl, h.0 ∙ sym k.0)

-- the looks of a tick find one frame and one meeting, and no others
pub one_meeting : OneMeetingLaw
one_meeting pins tick w frame other meeting met h k = one (numbered pins tick) w frame other meeting met h k
