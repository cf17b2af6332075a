-- Assumes nothing.
use Rattle.std.proofs.Common.{◌+◌, length, ap, ◌∙◌, rules}
use Rattle.store.specs.Refusals.{answer}
use Rattle.drawer.specs.Drawn.{noted, drawn}
use Rattle.drawer.proofs.Told.{told_mapped, same_due}
use Rattle.drawer.proofs.DrawerChainStore.read.Goals as goal

pub returns-clause-told : goal.returns-clause-told
returns-clause-told c =
    let d = c.args.self.now in
    told_mapped _ _ _ _ c.map_err.ensures.cases (λ e f q. search (rules, q)) ∙ c.read.ensures.told (noted d) 2
    ∙ ap (λ o. answer o tt) (same_due (drawn d) c.args.head _ (c.args.at + length c.args.out.now) c.in_ok-count.ensures)

pub returns-clause-out : goal.returns-clause-out
returns-clause-out c = c.read.ensures.out (noted c.args.self.now) 2

pub returns-clause-left : goal.returns-clause-left
returns-clause-left c = c.read.ensures.left (noted c.args.self.now)
