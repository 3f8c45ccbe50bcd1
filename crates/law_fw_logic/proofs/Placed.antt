-- The places at which the kernel executes an instruction: of the main program, and of the service. Each row there leads
-- to such a place again.
use Rattle.std.proofs.Common.{◌≡◌, ◌<◌, ℕ, zero, suc, ◌*◌, ◌/◌, ◌%◌, List, [], ◌∷◌, Bool, true, false, not, ◌&&◌, ◌||◌}
use Rattle.std.proofs.Common.{leb, ltb, ◌==◌, is_some, if◌then◌else◌, slice_index, Some, None, refl, arith}
use Rattle.std.proofs.lemmas.Bool.Decides.{nat_tests}
use Rattle.std.specs.List.{list_all}
use Rattle.std.specs.declared.option.Option.{Option}
use Rattle.mcs48_isa.specs.declared.operation.Decoded.{Decoded}
use Rattle.mcs48_isa.specs.declared.operation.Op.{Op}
use Rattle.bits.specs.Bits.{bit}
use Rattle.bits.proofs.Every.{every_below, at_each, both}
use Rattle.law_fw_logic.specs.Executed.{is_kernels, puts_at, looks_at, is_late}
use Rattle.law_fw_logic.proofs.TimerParts.{is_closed}
use Rattle.law_fw_logic.proofs.Following.{is_steady, keeps_column, nexts}
use Rattle.fw_kernel.specs.Places.{is_table}
use Rattle.law_fw_logic.proofs.Kernel.{byte_in, kernel_row}

-- by pages of 64 places, whose bits they are: power-on from `blank` on and the waiting loop; and the service
abbrev main_places : List ℕ
main_places =
    0 ∷ 0 ∷ 0 ∷ 2138083923094142976 ∷ 0 ∷ 0 ∷ 0 ∷ 0 ∷ 0 ∷ 0 ∷ 7493996056301010944 ∷ 11 ∷ 0 ∷ 0 ∷ 0 ∷ 0 ∷ 0 ∷ 0 ∷ 0 ∷ 0 ∷ 0 ∷ 0 ∷ 0 ∷ 0 ∷ 0 ∷ 0 ∷ 0 ∷ 0 ∷ 0 ∷ 0 ∷ 0 ∷ 0 ∷ []

abbrev service_places : List ℕ
service_places =
    9074467204329592448 ∷ 18446040385050074859 ∷ 15541740897679277563 ∷ 4611686018785432915 ∷ 6250246415144277845 ∷ 12311536731988251989 ∷ 12297829382518172373 ∷ 174765 ∷ 6257001186084117419 ∷ 6824601972691529045 ∷ 28818799 ∷ 7584 ∷ 0 ∷ 0 ∷ 0 ∷ 0 ∷ 18261797129730513408 ∷ 6176613700006673402 ∷ 7924883295952426453 ∷ 963487572751544255 ∷ 11806965165 ∷ 0 ∷ 0 ∷ 0 ∷ 0 ∷ 0 ∷ 0 ∷ 0 ∷ 0 ∷ 0 ∷ 0 ∷ 0 ∷ []

abbrev among : List ℕ → ℕ → Bool
among pages p = ltb p 2048 && bit (p % 64) (slice_index pages (p / 64))

abbrev pub in_main : ℕ → Bool
in_main p = among main_places p

abbrev pub in_service : ℕ → Bool
in_service p = among service_places p

below_end : (pages : List ℕ) (p : ℕ) → among pages p ≡ true → p < 2048
below_end pages p h =
    let low : ltb p 2048 ≡ true = (both (ltb p 2048) (bit (p % 64) (slice_index pages (p / 64))) h).0 in
    grind (arith, nat_tests, low)

-- after the reading of the columns
abbrev pub is_later_than : ℕ → Bool
is_later_than p = leb 36 p

-- a row that leaves port 2
abbrev puts_none : Op → Bool
puts_none op = not (is_some (puts_at op))

-- a look at the clock that follows a row that puts port 2 is late enough, where the counter reaches a place
abbrev pub late_by : Decoded → Option Decoded → Bool
late_by r None = true
late_by r (Some q) = is_late r.cycles (puts_at r.op) (looks_at q.op)

abbrev pub late_after : Decoded → ℕ → Bool
late_after r p = late_by r (kernel_row p)

-- the row of sixteen places of a place has a byte of the kernel's that isn't 0
abbrev pub has_some : ℕ → ℕ → Bool
has_some place zero = false
has_some place (suc n) = (not (is_table place) && not (byte_in place == 0)) || has_some (suc place) n

abbrev pub in_text : ℕ → Bool
in_text p = has_some (16 * (p / 16)) 16

-- a row of the main program
abbrev main_row : ℕ → Option Decoded → Bool
main_row p None = false
main_row p (Some r) =
    (is_kernels r.op && puts_none r.op) && (is_steady r.op && (keeps_column r.op && list_all in_main (nexts r.op p)))

-- a row of the service: where it isn't the service's end it leads on in it; after the reading port 1 stays
abbrev stays_after : ℕ → Decoded → Bool
stays_after p r = if is_later_than p then keeps_column r.op && list_all is_later_than (nexts r.op p) else true

abbrev goes_on : ℕ → Decoded → Bool
goes_on p r =
    if is_closed r.op
    then is_steady r.op && (list_all in_service (nexts r.op p) && (stays_after p r && list_all (late_after r) (nexts r.op p)))
    else puts_none r.op

abbrev service_row : ℕ → Option Decoded → Bool
service_row p None = false
service_row p (Some r) = is_kernels r.op && goes_on p r

every_text : every_below (λ p. if in_main p || in_service p then in_text p else true) 2048 ≡ true
every_text = refl

every_main : every_below (λ p. if in_main p then main_row p (kernel_row p) else true) 2048 ≡ true
every_main = refl

every_service : every_below (λ p. if in_service p then service_row p (kernel_row p) else true) 2048 ≡ true
every_service = refl

when : (b c : Bool) → b ≡ true → (if b then c else true) ≡ true → c ≡ true
when true c e h = h
when false c e h = absurd cc

none_is : (o : Option ℕ) → not (is_some o) ≡ true → o ≡ None
none_is None h = refl
none_is (Some n) h = absurd cc

where_true : (b c e : Bool) → b ≡ true → (if b then c else e) ≡ true → c ≡ true
where_true true c e is h = h
where_true false c e is h = absurd cc

where_false : (b c e : Bool) → b ≡ false → (if b then c else e) ≡ true → e ≡ true
where_false false c e is h = h
where_false true c e is h = absurd cc

either_way : (b c : Bool) → b ≡ true → (b || c) ≡ true
either_way true c h = refl
either_way false c h = absurd cc

-- an or with a second part that is true is true
pub or_so : (b c : Bool) → c ≡ true → (b || c) ≡ true
or_so true c h = refl
or_so false c h = h

-- each place at which the kernel executes an instruction is in a row of the HEX text
text_at : (p : ℕ) → p < 2048 → (in_main p || in_service p) ≡ true → in_text p ≡ true
text_at p low at =
    when (in_main p || in_service p) (in_text p) at
    (at_each (λ p. if in_main p || in_service p then in_text p else true) 2048 every_text p low)

-- each place of the main program is in a row of sixteen that the HEX text has
pub main_text : (p : ℕ) → in_main p ≡ true → in_text p ≡ true
main_text p at = text_at p (below_end main_places p at) (either_way (in_main p) (in_service p) at)

-- each place of the service is in a row of sixteen that the HEX text has
pub service_text : (p : ℕ) → in_service p ≡ true → in_text p ≡ true
service_text p at = text_at p (below_end service_places p at) (or_so (in_main p) (in_service p) at)

-- what is known of the row at a place of the main program
pub record MainRow (p : ℕ) : Type 0 where
  pub low : p < 2048
  pub row : Decoded
  pub is : kernel_row p ≡ Some row
  pub allowed : is_kernels row.op ≡ true
  pub none : puts_at row.op ≡ None
  pub steady : is_steady row.op ≡ true
  pub column : keeps_column row.op ≡ true
  pub leads : list_all in_main (nexts row.op p) ≡ true

main_by : (p : ℕ) → p < 2048 → (o : Option Decoded) → kernel_row p ≡ o → main_row p o ≡ true → MainRow p
main_by p low None is h = absurd cc
main_by p low (Some r) is h =
    let rest = keeps_column r.op && list_all in_main (nexts r.op p) in
    let one = both (is_kernels r.op && puts_none r.op) (is_steady r.op && rest) h in
    let kind = both (is_kernels r.op) (puts_none r.op) one.0 in
    let two = both (is_steady r.op) rest one.1 in
    let three = both (keeps_column r.op) (list_all in_main (nexts r.op p)) two.1 in
    record {
      low = low;
      row = r;
      is = is;
      allowed = kind.0;
      none = none_is (puts_at r.op) kind.1;
      steady = two.0;
      column = three.0;
      leads = three.1;
    }

-- each place of the main program has a row of the kernel's kinds that puts no port 2 and leads on in the main program
pub main_at : (p : ℕ) → in_main p ≡ true → MainRow p
main_at p at =
    let low = below_end main_places p at in
    main_by p low (kernel_row p) refl
    (when (in_main p) (main_row p (kernel_row p)) at
    (at_each (λ p. if in_main p then main_row p (kernel_row p) else true) 2048 every_main p low))

-- and of that at a place of the service
pub record ServiceRow (p : ℕ) : Type 0 where
  pub low : p < 2048
  pub row : Decoded
  pub is : kernel_row p ≡ Some row
  pub allowed : is_kernels row.op ≡ true
  pub quiet : is_closed row.op ≡ false → puts_at row.op ≡ None
  pub late : is_closed row.op ≡ true → list_all (late_after row) (nexts row.op p) ≡ true
  pub steady : is_closed row.op ≡ true → is_steady row.op ≡ true
  pub leads : is_closed row.op ≡ true → list_all in_service (nexts row.op p) ≡ true
  pub column : is_closed row.op ≡ true → is_later_than p ≡ true
      → (keeps_column row.op ≡ true) × (list_all is_later_than (nexts row.op p) ≡ true)

service_by : (p : ℕ) → p < 2048 → (o : Option Decoded) → kernel_row p ≡ o → service_row p o ≡ true → ServiceRow p
service_by p low None is h = absurd cc
service_by p low (Some r) is h =
    let leads = list_all in_service (nexts r.op p) in
    let afterwards = list_all is_later_than (nexts r.op p) in
    let late = list_all (late_after r) (nexts r.op p) in
    let stays = stays_after p r && late in
    let on = leads && stays in
    let one = both (is_kernels r.op) (goes_on p r) h in
    let all : is_closed r.op ≡ true → (is_steady r.op && on) ≡ true =
    λ closed. where_true (is_closed r.op) (is_steady r.op && on) (puts_none r.op) closed one.1 in
    let rest : is_closed r.op ≡ true → on ≡ true = λ closed. (both (is_steady r.op) on (all closed)).1 in
    record {
      low = low;
      row = r;
      is = is;
      allowed = one.0;
      quiet = λ way. none_is (puts_at r.op) (where_false (is_closed r.op) (is_steady r.op && on) (puts_none r.op) way one.1);
      late = λ closed. (both (stays_after p r) late (both leads stays (rest closed)).1).1;
      steady = λ closed. (both (is_steady r.op) on (all closed)).0;
      leads = λ closed. (both leads stays (rest closed)).0;
      column = λ closed past.
          both (keeps_column r.op) afterwards
          (when (is_later_than p) (keeps_column r.op && afterwards) past
          (both (stays_after p r) late (both leads stays (rest closed)).1).0);
    }

-- each place of the service has a row of the kernel's kinds that leads on in the service, or ends it
pub service_at : (p : ℕ) → in_service p ≡ true → ServiceRow p
service_at p at =
    let low = below_end service_places p at in
    service_by p low (kernel_row p) refl
    (when (in_service p) (service_row p (kernel_row p)) at
    (at_each (λ p. if in_service p then service_row p (kernel_row p) else true) 2048 every_service p low))
