-- What the link comes to by itself: a byte that is asked for is requested, and passes; after it the link is free, and
-- nothing of the host's is taken before a reply.
use Rattle.std.proofs.Common.{◌≡◌, ◌≤◌, ℕ, zero, suc, ◌+◌, ◌⊎◌, inl, inr, Bool, true, false, List, refl, ap, ◌∙◌, arith}
use Rattle.std.specs.Prelude.{if◌then◌else◌, nat_le}
use Rattle.std.specs.declared.option.Option.{Option}
use Rattle.std.proofs.lemmas.Bool.Decides.{nat_tests}
use Rattle.board_terms.specs.declared.event.HostEvent.{HostEvent}
use Rattle.model_controller.specs.declared.UnderWay.{UnderWay}
use Rattle.model_controller.specs.ByteTime.{Quiet, Begins, Closes, IsWhole, is_open, closed, byte_cycle, quietly, sends}
use Rattle.ctl_link.specs.declared.link.Link.{Link}
use Rattle.ctl_link.specs.declared.link.Link.TheVariants.{Free, Ask, Request, Busy}
use Rattle.ctl_link.specs.declared.port.LinkEnd.{LinkEnd}
use Rattle.ctl_link.specs.Link.{broken_off, settled}
use Rattle.host_turn.specs.declared.desk.Desk.{Desk}
use Rattle.host_turn.specs.Host.{Turn, turn}
use Rattle.host_turn.specs.Cycle.{cycled, host_of, port_by}
use Rattle.host_turn.specs.Run.{Side}
use Rattle.law_noisy_link.proofs.Cycles.{Stays, cycle_gives, cycle_keeps, span_keeps}

-- the controller after its settling, after a turn of the host
abbrev after_turn : ℕ → Turn → LinkEnd UnderWay → LinkEnd UnderWay
after_turn now t p = (settled now (broken_off is_open now (port_by t p))).port

abbrev turn_of : ℕ → Option HostEvent → Desk UnderWay → Turn
turn_of now next d = turn now d.port.filled next (host_of d)

-- FE is requested
abbrev pub IsRequest : ℕ → LinkEnd UnderWay → Type 0
IsRequest byte p = p.link ≡ Request byte

-- a byte that is requested stays so while nothing comes over the link
pub request_stays : (byte : ℕ) → Stays (IsRequest byte)
request_stays byte now next d h = ap (λ (l : Link UnderWay). (after_turn now (turn_of now next d) (record d.port { link = l })).link) h

-- it was asked for since then, and may be requested already
abbrev pub IsAsked : ℕ → ℕ → LinkEnd UnderWay → Type 0
IsAsked byte since p = (p.link ≡ Ask byte since) ⊎ (p.link ≡ Request byte)

asked_by : (byte since now : ℕ) (late : Bool) (l : Link UnderWay)
    → l ≡ (if late then Request byte else Ask byte since) → (l ≡ Ask byte since) ⊎ (l ≡ Request byte)
asked_by byte since now true l h = inr h
asked_by byte since now false l h = inl h

-- what an ask comes to
settles_ask : (byte since now : ℕ) (next : Option HostEvent) (d : Desk UnderWay) → d.port.link ≡ Ask byte since
    → (cycled is_open now next d).desk.port.link ≡ (if nat_le (since + 64) now then Request byte else Ask byte since)
settles_ask byte since now next d h = ap (λ (l : Link UnderWay). (after_turn now (turn_of now next d) (record d.port { link = l })).link) h

-- a byte that is asked for stays so, or is requested, while nothing comes over the link
pub asked_stays : (byte since : ℕ) → Stays (IsAsked byte since)
asked_stays byte since now next d (inl h) =
    asked_by byte since now (nat_le (since + 64) now) (cycled is_open now next d).desk.port.link (settles_ask byte since now next d h)
asked_stays byte since now next d (inr h) = inr (request_stays byte now next d h)

-- after 64 cycles it is requested
late_request : (byte since now : ℕ) (next : Option HostEvent) (d : Desk UnderWay)
    → since + 64 ≤ now → IsAsked byte since d.port → IsRequest byte (cycled is_open now next d).desk.port
late_request byte since now next d late (inl h) =
    let t : nat_le (since + 64) now ≡ true = grind (arith, nat_tests, late) in
    settles_ask byte since now next d h ∙ ap (λ b. if b then Request byte else Ask byte since) t
late_request byte since now next d late (inr h) = request_stays byte now next d h

-- a byte that was asked for 64 cycles ago or earlier is requested
pub requested : (byte since : ℕ) (events : List HostEvent) (n now : ℕ) (m : Side UnderWay)
    → 1 ≤ n → since + 64 ≤ now → IsAsked byte since m.port → IsRequest byte (quietly events n now m).port
requested byte since events zero now m some late h = absurd (omega (arith, some))
requested byte since events (suc n) now m some late h =
    span_keeps (IsRequest byte) (request_stays byte) events n (suc now) (byte_cycle events now Quiet m)
    (cycle_gives (IsAsked byte since) (IsRequest byte) events now Quiet m (λ next d a. late_request byte since now next d late a) h)

-- once it has passed a reply is awaited, with a free link
pub record AwaitsReply (p : LinkEnd UnderWay) : Type 0 where
  pub link : p.link ≡ Free
  pub awaits : p.awaits ≡ true

with_both : (p : LinkEnd UnderWay) (l : Link UnderWay) → p.link ≡ l → p.awaits ≡ true → p ≡ record p { link = l; awaits = true }
with_both p l h a = ap (λ v. record p { link = v }) h ∙ ap (λ v. record p { link = l; awaits = v }) a

-- while a reply is awaited and nothing comes over the link, the link stays free
pub awaits_stays : Stays AwaitsReply
awaits_stays now next d h =
    let t : Turn = turn_of now next d in
    let e = with_both d.port Free h.link h.awaits in
    record {
      link = ap (λ (p : LinkEnd UnderWay). (after_turn now t p).link) e;
      awaits = ap (λ (p : LinkEnd UnderWay). (after_turn now t p).awaits) e;
    }

-- the byte for the keyboard, from the cycle in which it begins to the one in which it is whole
pub handed : (events : List HostEvent) (now : ℕ) (m : Side UnderWay)
    → AwaitsReply (byte_cycle events (320 + now) IsWhole (quietly events 319 (suc now) (byte_cycle events now (Begins false) m))).port
handed events now m =
    cycle_keeps AwaitsReply awaits_stays events (320 + now) IsWhole (quietly events 319 (suc now) (byte_cycle events now (Begins false) m))
    (record { link = refl; awaits = refl })

-- the keyboard's byte after it can't be broken off
record IsReply (flip : Option ℕ) (breakable : Bool) (p : LinkEnd UnderWay) : Type 0 where
  link : p.link ≡ Busy (record { from_keyboard = true; flip = flip; breakable = breakable })
  awaits : p.awaits ≡ true

reply_stays : (flip : Option ℕ) (breakable : Bool) → Stays (IsReply flip breakable)
reply_stays flip breakable now next d h =
    let t : Turn = turn_of now next d in
    let e = with_both d.port (Busy (record { from_keyboard = true; flip = flip; breakable = breakable })) h.link h.awaits in
    record {
      link = ap (λ (p : LinkEnd UnderWay). (after_turn now t p).link) e ∙ kept breakable;
      awaits = ap (λ (p : LinkEnd UnderWay). (after_turn now t p).awaits) e ∙ still breakable;
    }
  where
    kept : (breakable : Bool)
        → (after_turn now (turn_of now next d)
        (record d.port { link = Busy (record { from_keyboard = true; flip = flip; breakable = breakable }); awaits = true })).link
        ≡ Busy (record { from_keyboard = true; flip = flip; breakable = breakable })
    kept true = refl
    kept false = refl

    still : (breakable : Bool)
        → (after_turn now (turn_of now next d)
        (record d.port { link = Busy (record { from_keyboard = true; flip = flip; breakable = breakable }); awaits = true })).awaits
        ≡ true
    still true = refl
    still false = refl

closes_reply : (flip : Option ℕ) (p : LinkEnd UnderWay) → IsReply flip true p → IsReply flip false (record p { link = closed p.link })
closes_reply flip p h = record { link = ap closed h.link; awaits = h.awaits }

-- it is still under way in its last cycle
pub reply_sends : (events : List HostEvent) (now : ℕ) (m : Side UnderWay)
    → AwaitsReply m.port → (sends events now m).port.link ≡ Busy (record { from_keyboard = true; flip = m.port.flip; breakable = false })
reply_sends events now m h =
    let flip : Option ℕ = m.port.flip in
    let a : Side UnderWay = byte_cycle events now (Begins true) m in
    let b : Side UnderWay = quietly events 287 (suc now) a in
    let c : Side UnderWay = byte_cycle events (288 + now) Closes b in
    let begins =
    cycle_keeps (IsReply flip true) (reply_stays flip true) events now (Begins true) m (record { link = refl; awaits = h.awaits }) in
    let goes = span_keeps (IsReply flip true) (reply_stays flip true) events 287 (suc now) a begins in
    let closes = cycle_keeps (IsReply flip false) (reply_stays flip false) events (288 + now) Closes b (closes_reply flip b.port goes) in
    (span_keeps (IsReply flip false) (reply_stays flip false) events 31 (289 + now) c closes).link
