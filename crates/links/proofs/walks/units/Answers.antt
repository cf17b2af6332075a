-- Assumes nothing.
use Rattle.std.proofs.Common.{rules}
use Rattle.links.proofs.Traces.{units_means}
use Rattle.links.proofs.walks.units.Goals as goal

pub returns-clause-means : goal.returns-clause-means
returns-clause-means g c = units_means (g.T.LinkTable.links c.args.table.now) c.args.place _ c.survey.ensures.few (search rules)
