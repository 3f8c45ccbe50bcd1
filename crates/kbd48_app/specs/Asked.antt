-- What the words of a call ask for.
use Rattle.std.specs.Prelude.{ℕ, List, map, string_bytes}
use Rattle.std.specs.declared.alloc.Global.{Global}
use Rattle.std.specs.declared.option.Option.{Option}
use Rattle.std.specs.declared.string.String.{String}
use Rattle.app_words.specs.declared.words.Command.{Command}
use Rattle.kbd48_app.specs.Plans.{Plan, plan}
use Rattle.app_words.specs.Words.{command_of}

-- the bytes of each word
abbrev pub texts : List (String Global) → List (List ℕ)
texts words = map string_bytes words

-- the command that they give, or none
abbrev pub asked : List (String Global) → Option Command
asked words = command_of (texts words)

-- what is done with files
abbrev pub planned : List (String Global) → Plan
planned words = plan (texts words)
