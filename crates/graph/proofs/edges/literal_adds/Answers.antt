-- `literal_adds` meets its contract. Assumes nothing.
use Rattle.std.proofs.Common.{refl}
use Rattle.graph.specs.Count.{adds}
use Rattle.graph.proofs.edges.literal_adds.Goals as goal

pub returns : goal.returns
unfolding adds
returns c = refl
