-- Assumes nothing.
use Rattle.std.proofs.Common.{false, eqb, ◌||◌, length, refl, ◌∙◌, rules, tests, arith}
use Rattle.std.proofs.lemmas.Iterator.{YieldsList-from_range}
use Rattle.std.proofs.lemmas.Iterator.Consumers.{fold_from_yields_List}
use Rattle.links.specs.Links.{at}
use Rattle.links.proofs.Traces.{fold_at}
use Rattle.links.proofs.walks.has_link.Goals as goal

pub returns : goal.returns
returns g c =
    let L = g.T.LinkTable.links c.args.table.now in
    let p = c.args.link in
    fold_from_yields_List _ (λ met k. met || eqb (at L k) p) false _ c.fold.ensures.ran (YieldsList-from_range 0 _ (length L) refl (omega arith)) (λ a x b q k. (search (rules, tests), search (rules, tests)))
    ∙ fold_at L p
