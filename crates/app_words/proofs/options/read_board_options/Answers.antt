use Rattle.std.proofs.Common.{string_bytes}
use Rattle.app_words.proofs.OptionsAreFew.{four_are_none}
use Rattle.app_words.proofs.options.read_board_options.Goals as goal

pub returns-in_default : goal.returns-in_default
returns-in_default c = four_are_none string_bytes c.args.words.now c.in_default.len_at_least
