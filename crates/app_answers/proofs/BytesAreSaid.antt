-- What is said of bytes one after another.
use Rattle.std.proofs.Common.{◌≡◌, ℕ, ◌+◌, ◌<◌, List, [], ◌∷◌, ◌++◌, length, drop, get_or, ap, sym, ◌∙◌, refl}
use Rattle.std.proofs.lemmas.List.{append_assoc, drop_more}
use Rattle.pc_tables.specs.declared.item.Item.{Item}
use Rattle.app_answers.specs.Feeding.{Desk, desk_after, said_of, items_of, line_of_item, lines_of}

lines_of-append : (a b : List Item) → lines_of (a ++ b) ≡ lines_of a ++ lines_of b
lines_of-append [] b = refl
lines_of-append (item ∷ a) b =
    ap (λ t. line_of_item item ++ t) (lines_of-append a b) ∙ sym (append_assoc (line_of_item item) (lines_of a) (lines_of b))

-- a byte that was heard, and then others
pub heard_byte : (desk : Desk) (byte : ℕ) (before after bytes : List ℕ) → after ≡ before ++ lines_of (said_of desk byte)
    → after ++ lines_of (items_of (desk_after desk byte) bytes) ≡ before ++ lines_of (items_of desk (byte ∷ bytes))
heard_byte desk byte before after bytes h =
    ap (λ t. t ++ lines_of (items_of (desk_after desk byte) bytes)) h
    ∙ (append_assoc before (lines_of (said_of desk byte)) (lines_of (items_of (desk_after desk byte) bytes))
    ∙ ap (λ t. before ++ t) (sym (lines_of-append (said_of desk byte) (items_of (desk_after desk byte) bytes))))

same_desk : (a b : Desk) → a.controller ≡ b.controller → a.bios ≡ b.bios → a ≡ b
same_desk a b first second =
    ap (λ c. let d : Desk = record { controller = c; bios = a.bios } in d) first
    ∙ ap (λ s. let d : Desk = record { controller = b.controller; bios = s } in d) second

-- the byte at this place, and then those after it
pub heard_at : (desk next : Desk) (bytes before after all : List ℕ) (i : ℕ) → i < length bytes
    → next.controller ≡ (desk_after desk (get_or bytes i 0)).controller → next.bios ≡ (desk_after desk (get_or bytes i 0)).bios
    → after ≡ before ++ lines_of (said_of desk (get_or bytes i 0))
    → before ++ lines_of (items_of desk (drop i bytes)) ≡ all → after ++ lines_of (items_of next (drop (i + 1) bytes)) ≡ all
heard_at desk next bytes before after all i below first second h whole =
    let byte = get_or bytes i 0 in
    ap (λ d. after ++ lines_of (items_of d (drop (i + 1) bytes))) (same_desk next (desk_after desk byte) first second)
    ∙ (heard_byte desk byte before after (drop (i + 1) bytes) h
    ∙ (ap (λ bs. before ++ lines_of (items_of desk bs)) (sym (drop_more bytes i 0 below)) ∙ whole))
