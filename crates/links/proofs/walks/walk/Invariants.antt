-- What is left of the walk goes as the whole walk does.
-- Assumes nothing.
use Rattle.std.proofs.Common.{length}
use Rattle.links.specs.Walk.{stop, trace, last_or}
use Rattle.links.proofs.Traces.{Left}
use Rattle.links.proofs.walks.walk.Given as goal

abbrev pub invariant-loop-places : goal.invariant-loop-places
invariant-loop-places g l =
    let L = g.T.LinkTable.links l.table in
    Left L l.most l.places l.link l.last (stop l.most L l.from) (length (trace l.most L l.from)) (last_or l.from (trace l.most L l.from))
