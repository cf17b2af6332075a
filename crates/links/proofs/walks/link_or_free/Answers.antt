-- Assumes nothing.
use Rattle.std.proofs.Common.{ap, ◌∙◌}
use Rattle.std.specs.Option.{unwrap_or}
use Rattle.std.proofs.lemmas.Option.{unwrap_or-slice_get}
use Rattle.links.specs.Links.{FREE}
use Rattle.links.proofs.walks.link_or_free.Goals as goal

pub returns : goal.returns
returns g c = c.unwrap_or.ensures ∙ ap (λ o. unwrap_or o FREE) c.get.ensures ∙ unwrap_or-slice_get (g.T.LinkTable.links c.args.table.now) c.args.place FREE
