-- Assumes nothing.
use Rattle.std.proofs.Common.{refl, ◌∙◌, arith}
use Rattle.drawer.specs.Drawn.{drawn}
use Rattle.drawer.proofs.Told.{lawfully, extend_left}
use Rattle.drawer.proofs.DrawerChainStore.extend.Goals as goal

pub returns-clause-left : goal.returns-clause-left
returns-clause-left c =
    let d = c.args.self.now in
    c.grow.ensures ∙ extend_left (drawn d) (lawfully d) refl c.args.head _ c.in_ok-count.ensures c.args.count (omega arith)
