-- The words of a dump that this reader knows.
use Rattle.std.specs.Prelude.{ℕ, Bool, false, ◌==◌, ◌||◌, List, [], ◌∷◌, codes, Option, Some, None, if◌then◌else◌}
use Rattle.std.specs.Str.{bytes_eq}
use Rattle.capture_vcd.specs.declared.keyword.Keyword.{Keyword}
use Rattle.capture_vcd.specs.declared.keyword.Keyword.TheVariants.{Timescale, Var, Enddefinitions, Other}

-- a token begins with a dollar sign
abbrev pub begins_dollar : List ℕ → Bool
begins_dollar [] = false
begins_dollar (first ∷ others) = first == 36

-- a token ends a section
abbrev pub is_end : List ℕ → Bool
is_end text = bytes_eq text (codes "$end")

-- a token begins a comment
abbrev pub is_comment : List ℕ → Bool
is_comment text = bytes_eq text (codes "$comment")

-- what a token of the header begins
abbrev pub keyword_of : List ℕ → Option Keyword
keyword_of text =
    if bytes_eq text (codes "$timescale") then Some Timescale
    else (if bytes_eq text (codes "$var") then Some Var
    else (if bytes_eq text (codes "$enddefinitions") then Some Enddefinitions
    else (if is_end text then None
    else (if begins_dollar text then Some Other else None))))

-- marks round values, which are read as changes
abbrev pub is_mark : List ℕ → Bool
is_mark text =
    is_end text
    || bytes_eq text (codes "$dumpvars")
    || bytes_eq text (codes "$dumpall")
    || bytes_eq text (codes "$dumpon")
    || bytes_eq text (codes "$dumpoff")
