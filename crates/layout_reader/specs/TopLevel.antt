-- The top level of a layout document.
use Rattle.std.specs.Prelude.{ℕ, ℤ, pos, negsuc, ◌==◌, nat_lt, Bool, true, false, ◌||◌, not, if◌then◌else◌, List}
use Rattle.std.specs.Prelude.{[], ◌∷◌, codes}
use Rattle.std.specs.Prelude.{Option, Some, None, is_none, option_and_then, unwrap_or, Result}
use Rattle.toml.specs.Data.{Items, no_items, item, Members}
use Rattle.layout_reader.specs.declared.cause.Cause.{Cause}
use Rattle.layout_reader.specs.declared.cause.Cause.TheVariants.{UnknownField, MissingField, WrongKind}
use Rattle.layout_reader.specs.declared.cause.Cause.TheVariants.{WrongFormat, RateOutOfRange, NoEntries}
use Rattle.layout_reader.specs.declared.fields.Format.{Format}
use Rattle.layout_reader.specs.declared.fields.Format.TheVariants.{One, Two}
use Rattle.layout_reader.specs.declared.fields.Level.TheVariants.{Top}
use Rattle.layout_reader.specs.declared.top_level.Header.{Header}
use Rattle.layout_reader.specs.Faults.{Judgement, judge, first_of, unless}
use Rattle.layout_reader.specs.Fields.{has_other_field, has_field, is_not_text, is_not_whole, is_not_list, is_not_truth, is_set}
use Rattle.layout_reader.specs.Fields.{whole_at, byte_at, list_at}

-- the format with a number
abbrev pub format_numbered : ℤ → Option Format
format_numbered (pos n) = if n == 1 then Some One else if n == 2 then Some Two else None
format_numbered (negsuc n) = None

-- the format of the document
unfoldable pub format_in : Members → Option Format
format_in top = option_and_then format_numbered (whole_at (codes "format") top)

-- a rate is below 128
abbrev pub rate_of : ℕ → Option ℕ
rate_of rate = if nat_lt rate 128 then Some rate else None

-- the rate, which is 44 if none is there
unfoldable pub rate_in : Members → Option ℕ
rate_in top = if has_field (codes "rate") top then option_and_then rate_of (byte_at (codes "rate") top) else Some 44

-- the elements of the list of entries
unfoldable pub elements_in : Members → Items
elements_in top = unwrap_or (list_at (codes "key") top) no_items

abbrev pub is_empty : Items → Bool
is_empty no_items = true
is_empty (item element more) = false

-- the format or the rate is no whole number, the entries are no list, the name is no text, or the debounce is no truth
-- value
abbrev pub has_wrong_kind : Members → Bool
has_wrong_kind top =
    is_not_whole (codes "format") top || is_not_list (codes "key") top || is_not_text (codes "name") top
    || is_not_whole (codes "rate") top || is_not_truth (codes "debounce") top

-- the questions for the top level, in their order
abbrev pub top_judgements : Members → List Judgement
top_judgements top =
    judge UnknownField (has_other_field Top top)
    ∷ judge MissingField (not (has_field (codes "format") top) || not (has_field (codes "key") top))
    ∷ judge WrongKind (has_wrong_kind top)
    ∷ judge WrongFormat (is_none (format_in top))
    ∷ judge RateOutOfRange (is_none (rate_in top))
    ∷ judge NoEntries (is_empty (elements_in top))
    ∷ []

-- what the top level says of the document, if nothing is wrong with it
abbrev pub header_of : Members → Header
header_of top = record {
  format = unwrap_or (format_in top) One;
  rate = unwrap_or (rate_in top) 0;
  debounce = is_set (codes "debounce") top;
}

-- that, or the first fault of the top level
unfoldable pub header_from : Members → Result Header Cause
header_from top = unless (first_of (top_judgements top)) (header_of top)
