use Rattle.std.proofs.Common.{refl}
use Rattle.key_file.proofs.Briefly.{none_at}
use Rattle.key_file.proofs.brief.Brief.new.Goals as goal

pub returns : goal.returns
returns c = record {
  size = refl;
  last = λ place. none_at 96 place;
  latest = refl;
  count = refl;
  stamp = refl;
  end = refl;
  in_matrix = tt;
}
