-- Assumes nothing.
use Rattle.std.proofs.Common.{◌+◌, length, ap, ◌∙◌, rules}
use Rattle.store.specs.Refusals.{answer}
use Rattle.drawer.specs.Drawn.{noted, drawn}
use Rattle.drawer.proofs.Told.{told_mapped, same_due}
use Rattle.drawer.proofs.DrawerChainStore.write.Goals as goal

pub returns-clause-told : goal.returns-clause-told
returns-clause-told c =
    let d = c.args.self.now in
    told_mapped _ _ _ _ c.map_err.ensures.cases (λ e f q. search (rules, q)) ∙ c.write.ensures.told (noted d) 2
    ∙ ap (λ o. answer o tt) (same_due (drawn d) c.args.head _ (c.args.at + length c.args.src.now) c.in_ok-count.ensures)
