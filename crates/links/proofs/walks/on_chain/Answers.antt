-- Assumes nothing.
use Rattle.std.proofs.Common.{arith}
use Rattle.links.proofs.Climbs.{chained_some, chained_none}
use Rattle.links.proofs.Traces.{whole}
use Rattle.links.proofs.walks.on_chain.Goals as goal

pub returns-then-rest-gt0 : goal.returns-then-rest-gt0
returns-then-rest-gt0 g c =
    chained_some (g.T.LinkTable.links c.args.table.now) c.count.ensures.few c.args.place _ _
    (whole _ _ _ _ _ c.count.ensures.told c.walk-rest.ensures.places c.walk-rest.ensures.stop) (omega arith)

pub returns-else-rest-gt0 : goal.returns-else-rest-gt0
returns-else-rest-gt0 g c =
    chained_none (g.T.LinkTable.links c.args.table.now) c.count.ensures.few c.args.place _ _
    (whole _ _ _ _ _ c.count.ensures.told c.walk-rest.ensures.places c.walk-rest.ensures.stop) (omega arith)
