-- Assumes nothing.
use Rattle.std.proofs.Common.{arith}
use Rattle.links.proofs.Traces.{left_more}
use Rattle.links.proofs.walks.walk.Goals as goal

pub loop-places-preserved : goal.loop-places-preserved
loop-places-preserved g c = left_more _ _ _ _ _ _ _ _ _ (omega arith) c.in-Some.ensures c.loop-places.invariant
