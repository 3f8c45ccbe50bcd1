use Rattle.model_link.proofs.Layers.{layers_follow}
use Rattle.model_link.proofs.laws.layers_follow.Goals as goal

pub returns : goal.returns
returns c = record { layers = layers_follow }
